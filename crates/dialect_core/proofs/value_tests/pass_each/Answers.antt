-- What `value_tests::pass_each` owes besides what the check finds.
use Rattle.std.proofs.Common.{◌<◌, ◌∙◌, Option, length, sym, subst, arith}
use Rattle.std.specs.Option.{IfSome}
use Rattle.dialect_types.specs.declared.types.TypeHandle.{TypeHandle}
use Rattle.std.proofs.lemmas.Option.{slice_get-get_or, slice_get_within}
use Rattle.dialect_core.specs.Data.{type_in}
use Rattle.dialect_core.specs.Checking.{tree_at}
use Rattle.dialect_core.proofs.TestLemmas.{always, never, fails}
use Rattle.dialect_core.proofs.FuncLemmas.{some_of_all, pass_more, pass_wanted, read_at}
use Rattle.dialect_core.proofs.value_tests.pass_each.Goals as goal

pub loop-place-preserved : goal.loop-place-preserved
loop-place-preserved c =
    pass_more (type_in c.args.ctx.now) (tree_at c.args.ctx.now) c.args.wanted.now c.args.values.now c.loop-place.place c.copied.result _ c.loop-place.invariant
    (slice_get-get_or c.args.values.now c.loop-place.place _ c.loop-place-test.true) (c.copied.ensures ∙ read_at _ c.args.wanted.now c.loop-place.place c.get.result c.get.ensures.lookup.1 c.get.ensures.lookup.3 (λ x q. q.0)) (c.passes.ensures.0 c.if-not-passes.false)

pub returns : goal.returns
returns c = always (λ place v at. c.loop-place.invariant place v (let lt = slice_get_within c.args.values.now place v at in let e = c.loop-place-test.false in omega (arith, lt, e)) at)

pub loop-place-init : goal.loop-place-init
loop-place-init c = λ k v lt at. absurd (omega (arith, lt))

pub bounds-values-place : goal.bounds-values-place
bounds-values-place c = c.loop-place-test.true

pub passes-requires-clause-value : goal.passes-requires-clause-value
passes-requires-clause-value c = c.requires.values c.loop-place.place _ c.loop-place-test.true

pub passes-requires-clause-wanted : goal.passes-requires-clause-wanted
passes-requires-clause-wanted c =
    let P = λ (t : TypeHandle). t.0 < length c.args.ctx.now.types in
    subst (λ (o : Option TypeHandle). IfSome o P) (sym (c.copied.ensures ∙ read_at _ c.args.wanted.now c.loop-place.place c.get.result c.get.ensures.lookup.1 c.get.ensures.lookup.3 (λ x q. q.0))) (some_of_all P c.args.wanted.now c.loop-place.place c.requires.wanted)

pub returns-then-not-passes : goal.returns-then-not-passes
returns-then-not-passes c =
    never (λ all. fails c.passes.result c.passes.ensures c.if-not-passes.true
    (pass_wanted (type_in c.args.ctx.now) (tree_at c.args.ctx.now) c.args.wanted.now c.args.values.now c.loop-place.place c.copied.result _ all
    (slice_get-get_or c.args.values.now c.loop-place.place _ c.loop-place-test.true) (c.copied.ensures ∙ read_at _ c.args.wanted.now c.loop-place.place c.get.result c.get.ensures.lookup.1 c.get.ensures.lookup.3 (λ x q. q.0))))
