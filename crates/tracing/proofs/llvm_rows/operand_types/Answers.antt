-- What `llvm_rows::operand_types` owes besides what the check finds.
use Rattle.std.proofs.Common.{List, map, subst}
use Rattle.std.proofs.lemmas.List.{take_all}
use Rattle.llvm_core.specs.declared.code.LLVMValue.{LLVMValue}
use Rattle.llvm_core.specs.Data.{trees_of, operand_of, operand_type}
use Rattle.tracing.specs.Types.{AllStand}
use Rattle.tracing.specs.TypePlaces.{trees_in}
use Rattle.tracing.specs.LlvmBodies.{data_in}
use Rattle.tracing.proofs.GrowLaws.{stand_more}
use Rattle.tracing.proofs.TablesLaws.{grown_then}
use Rattle.tracing.proofs.LlvmLaws.{some_value}
use Rattle.tracing.proofs.llvm_rows.operand_types.Goals as goal

pub operand_type-requires-clause-used : goal.operand_type-requires-clause-used
operand_type-requires-clause-used c = (c.requires.used.0, c.requires.used.1 c.loop-value.value-index some_value c.loop-value-test.true)

pub loop-value-preserved : goal.loop-value-preserved
loop-value-preserved c =
    let grown = c.in_ok-place.ensures.grown in
    record {
      at = λ h all.
          let m = c.args.m.now in
          let here = c.in_ok-place.ensures.stands h (all c.loop-value.value-index some_value c.loop-value-test.true) in
          rw c.in_ok-push.ensures.ok
          (stand_more (λ (v : LLVMValue). operand_type (data_in m h) (operand_of (trees_of m) v)) _ _ c.loop-value.places c.in_ok-place.place c.args.values.now c.loop-value.value-index some_value c.loop-value-test.true grown.kept.0 (c.loop-value.invariant.at h all) here);
      grown = grown_then _ _ _ _ c.loop-value.invariant.grown grown;
    }

pub returns-clause-stand : goal.returns-clause-stand
returns-clause-stand c = λ h all.
    let m = c.args.m.now in
    subst (λ (vs : List LLVMValue). AllStand (trees_in c.loop-value.tables.types) c.loop-value.places (map (λ (v : LLVMValue). operand_type (data_in m h) (operand_of (trees_of m) v)) vs)) (take_all c.loop-value.value-index c.args.values.now c.loop-value-test.false) (c.loop-value.invariant.at h all)
