-- What `constants::add_held` owes besides what the check finds.
use Rattle.std.proofs.Common.{◌≡◌, true, false, Some, ap, sym, ◌∙◌}
use Rattle.support.proofs.InternedLaws.{interned_more, interned_within}
use Rattle.llvm_core.specs.Consts.{HasConstParts, one_form}
use Rattle.llvm_core.specs.Data.{ConstTree}
use Rattle.ll_bodies.proofs.AddedLaws.{adds_none}
use Rattle.ll_bodies.proofs.constants.add_held.Goals as goal

pub returns-then-not-may_hold-clause-adds : goal.returns-then-not-may_hold-clause-adds
returns-then-not-may_hold-clause-adds c = adds_none c.args.module.now

pub returns-then-not-may_hold-clause-is : goal.returns-then-not-may_hold-clause-is
returns-then-not-may_hold-clause-is c = λ meant h.
    let no : ¬ (HasConstParts c.args.module.now c.args.kind) = λ parts. (let bad : true ≡ false = sym (c.may_hold.ensures.1 parts) ∙ c.if-not-may_hold.true in cc (bad)) in
    sym (h.1 no)

pub const_get-requires : goal.const_get-requires
const_get-requires c = c.may_hold.ensures.0 c.if-not-may_hold.false

pub returns-clause-adds : goal.returns-clause-adds
returns-clause-adds c =
    let o = c.in_ok-c.ensures in
    let more = interned_more c.args.module.now.consts c.const_get.new.self.consts (one_form c.args.module.now c.args.kind) c.in_ok-c.c.0 o.interned in
    record { more = more.0; consts = more.1; rest = o.rest; same = o.data }

pub returns-clause-is : goal.returns-clause-is
returns-clause-is c = λ meant h.
    let parts = c.may_hold.ensures.0 c.if-not-may_hold.false in
    ap (λ (d : ConstTree). Some d) c.in_ok-c.ensures.form ∙ sym (h.0 parts)

pub returns-clause-there : goal.returns-clause-there
returns-clause-there c = interned_within c.args.module.now.consts c.const_get.new.self.consts (one_form c.args.module.now c.args.kind) c.in_ok-c.c.0 c.in_ok-c.ensures.interned
