-- What `llvm_body::push_all` owes besides what the check finds.
use Rattle.std.proofs.Common.{ap, sym, ◌∙◌, ◌++◌, ◌∷◌, [], List, map, take, get_or, append_assoc}
use Rattle.llvm_core.specs.declared.numbers.LLVMBasicBlock.{LLVMBasicBlock}
use Rattle.tracing.specs.declared.body.Edge.{Edge}
use Rattle.tracing.specs.LlvmBodies.{edge_to}
use Rattle.tracing.proofs.IndexLaws.{some_block}
use Rattle.tracing.proofs.RunLaws.{take_push}
use Rattle.tracing.proofs.llvm_body.push_all.Goals as goal

pub loop-target-preserved : goal.loop-target-preserved
loop-target-preserved c =
    let made = λ (b : LLVMBasicBlock). edge_to c.args.index.now c.args.from b.0 in
    let ts = c.args.targets.now in
    let i = c.loop-target.target-index in
    let before = c.args.edges.now in
    let last = made (get_or ts i some_block) ∷ [] in
    record {
      at = c.in_ok-push.ensures.ok
          ∙ ap (λ (e : Edge). c.loop-target.edges ++ e ∷ []) c.in_ok-edge.ensures
          ∙ ap (λ (es : List Edge). es ++ last) c.loop-target.invariant.at
          ∙ append_assoc before (map made (take i ts)) last
          ∙ ap (λ (es : List Edge). before ++ es) (sym (take_push made ts i some_block c.loop-target-test.true));
    }
