-- One value more.
use Rattle.std.proofs.Common.{◌≡◌, ◌∙◌, true, false, sym}
use Rattle.std.proofs.lemmas.Option.{slice_get-get_or}
use Rattle.dialect_core.specs.declared.ops.Value.{Value}
use Rattle.to_llvm_ir.specs.Ordering.{is_seen}
use Rattle.to_llvm_ir.proofs.ListLaws.{all_at}
use Rattle.to_llvm_ir.proofs.OwnLaws.{take_more, all_taken}
use Rattle.to_llvm_ir.proofs.order.are_seen.Goals as goal

pub loop-value-preserved : goal.loop-value-preserved
loop-value-preserved c = take_more (λ (v : Value). is_seen c.args.seen.now v ≡ true) c.args.values.now c.loop-value.value-index _ c.loop-value-test.true c.loop-value.invariant (sym c.has.ensures ∙ c.if-not-has.false)

pub returns-then-not-has : goal.returns-then-not-has
returns-then-not-has c = λ all.
    let no : true ≡ false = sym (all_at (λ (v : Value). is_seen c.args.seen.now v ≡ true) c.args.values.now c.loop-value.value-index _ all (slice_get-get_or c.args.values.now c.loop-value.value-index _ c.loop-value-test.true)) ∙ sym c.has.ensures ∙ c.if-not-has.true in
    cc

pub returns : goal.returns
returns c = all_taken (λ (v : Value). is_seen c.args.seen.now v ≡ true) c.args.values.now c.loop-value.value-index c.loop-value-test.false c.loop-value.invariant
