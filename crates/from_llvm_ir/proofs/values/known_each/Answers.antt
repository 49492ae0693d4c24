-- What `values::known_each` owes besides what the check finds.
use Rattle.std.proofs.Common.{◌≡◌, List, [], Some, sym, subst}
use Rattle.std.proofs.lemmas.List.{take_all}
use Rattle.std.proofs.lemmas.Option.{slice_get-get_or}
use Rattle.llvm_core.specs.declared.code.LLVMValue.{LLVMValue}
use Rattle.dialect_core.specs.declared.ops.Value.{Value}
use Rattle.from_consts.specs.declared.conversion_err.ConversionErr.TheVariants as E
use Rattle.from_llvm_ir.specs.Values.{value_at, AreNoted}
use Rattle.held_types.proofs.WalkLaws.{passed_on}
use Rattle.from_llvm_ir.proofs.ForwardLaws.{forward_at}
use Rattle.from_llvm_ir.proofs.ListLaws.{matched_next}
use Rattle.from_llvm_ir.proofs.values.known_each.Goals as goal

pub loop-value-preserved : goal.loop-value-preserved
loop-value-preserved c =
    matched_next (λ (v : LLVMValue) (w : Value). value_at c.args.values.now v ≡ Some w) c.args.used.now c.loop-value.value-index _ c.loop-value.known c.push.new.self c.in_ok-known_value.field-0
    (slice_get-get_or c.args.used.now c.loop-value.value-index _ c.loop-value-test.true) c.loop-value.invariant c.in_ok-known_value.ensures.ok c.in_ok-push.ensures.ok

pub known_value-requires : goal.known_value-requires
known_value-requires c = c.requires c.loop-value.value-index _ c.loop-value-test.true

pub loop-value-init : goal.loop-value-init
loop-value-init c = subst (AreNoted c.args.values.now []) (sym c.zero-known.ensures) tt

pub returns-clause-ok : goal.returns-clause-ok
returns-clause-ok c = subst (λ (vs : List LLVMValue). AreNoted c.args.values.now vs c.loop-value.known) (take_all c.loop-value.value-index c.args.used.now c.loop-value-test.false) c.loop-value.invariant

pub returns-in_err-known_value-clause-err : goal.returns-in_err-known_value-clause-err
returns-in_err-known_value-clause-err c =
    passed_on c.from_residual.result c.in_err-known_value.field-0.0 _ c.from_residual.ensures.1
    (forward_at c.args.source.now c.args.values.now c.args.used.now c.loop-value.value-index _ c.in_err-known_value.field-0.0 (slice_get-get_or c.args.used.now c.loop-value.value-index _ c.loop-value-test.true) c.in_err-known_value.ensures.err)

pub returns-in_err-push-clause-err : goal.returns-in_err-push-clause-err
returns-in_err-push-clause-err c = passed_on c.from_residual-in_err-push.result E.NoMemory _ c.from_residual-in_err-push.ensures.1 tt
