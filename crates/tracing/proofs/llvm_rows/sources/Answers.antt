-- What `llvm_rows::sources` owes besides what the check finds.
use Rattle.std.proofs.Common.{List, map, take, refl, subst}
use Rattle.std.proofs.lemmas.List.{take_all}
use Rattle.llvm_core.specs.declared.code.LLVMValue.{LLVMValue}
use Rattle.tracing.specs.Tables.{contents_in}
use Rattle.tracing.specs.Bodies.{AreSources}
use Rattle.tracing.specs.LlvmBodies.{operand_in}
use Rattle.tracing.proofs.ListLaws.{listed_more}
use Rattle.tracing.proofs.GrowLaws.{no_sources, sources_push}
use Rattle.tracing.proofs.TablesLaws.{grown_same, grown_then}
use Rattle.tracing.proofs.LlvmLaws.{some_value}
use Rattle.tracing.proofs.llvm_rows.sources.Goals as goal

pub loop-value-init : goal.loop-value-init
loop-value-init c = record { at = rw c.new-sources.ensures (no_sources _); grown = grown_same _ _ c.requires.tables }

pub loop-value-preserved : goal.loop-value-preserved
loop-value-preserved c =
    let m = c.args.m.now in
    let grown = c.in_ok-source.ensures.grown in
    let before = map (operand_in m) (take c.loop-value.value-index c.args.values.now) in
    let pushed = sources_push _ (contents_in c.source.new.tables) c.loop-value.sources before _ _ grown.kept c.loop-value.invariant.at c.in_ok-source.ensures.is in
    record {
      at = rw c.in_ok-push.ensures.ok
          (subst (AreSources (contents_in c.source.new.tables) _) (listed_more (operand_in m) before c.args.values.now c.loop-value.value-index some_value c.loop-value-test.true refl) pushed);
      grown = grown_then _ _ _ _ c.loop-value.invariant.grown grown;
    }

pub returns-clause-are : goal.returns-clause-are
returns-clause-are c =
    subst (λ (vs : List LLVMValue). AreSources (contents_in c.loop-value.tables) c.loop-value.sources (map (operand_in c.args.m.now) vs)) (take_all c.loop-value.value-index c.args.values.now c.loop-value-test.false) c.loop-value.invariant.at
