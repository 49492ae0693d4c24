-- What `constants::elements` owes besides what the check finds.
use Rattle.std.proofs.Common.{◌≡◌, ◌+◌, suc, sym, ◌∙◌, arith}
use Rattle.std.proofs.lemmas.Option.{slice_get-get_or}
use Rattle.ll_bodies.specs.TableViews.{number_in}
use Rattle.ll_bodies.proofs.ListLaws.{gone_none, gone_more, gone_all, gone_refused}
use Rattle.ll_bodies.proofs.constants.elements.Goals as goal

pub loop-element-init : goal.loop-element-init
loop-element-init c = rw (c.from_vec-found.ensures, c.in_ok-with_capacity.ensures.items) (gone_none (number_in c.args.numbers.now) c.args.said.now)

pub loop-element-preserved : goal.loop-element-preserved
loop-element-preserved c =
    let at = c.loop-element.element-index in
    let next : at + 1 ≡ suc at = omega arith in
    let here = slice_get-get_or c.args.said.now at _ c.loop-element-test.true in
    rw c.in_ok-push-in-Some.ensures.ok (gone_more (number_in c.args.numbers.now) c.args.said.now at (at + 1) c.loop-element.found _ c.in-Some.c here next (sym c.number.ensures ∙ c.in-Some.is) c.loop-element.invariant)

pub returns-in-None : goal.returns-in-None
returns-in-None c =
    let at = c.loop-element.element-index in
    let here = slice_get-get_or c.args.said.now at _ c.loop-element-test.true in
    sym (gone_refused (number_in c.args.numbers.now) c.args.said.now at c.loop-element.found _ here (sym c.number.ensures ∙ c.in-None.is) c.loop-element.invariant)

pub returns : goal.returns
returns c = sym (gone_all (number_in c.args.numbers.now) c.args.said.now c.loop-element.element-index c.loop-element.found c.loop-element-test.false c.loop-element.invariant)
