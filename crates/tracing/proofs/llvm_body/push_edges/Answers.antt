-- What `llvm_body::push_edges` owes besides what the check finds.
use Rattle.std.proofs.Common.{ap, sym, ◌∙◌, ◌++◌, List}
use Rattle.std.proofs.lemmas.Result.{on_ok_weaker}
use Rattle.llvm_core.specs.declared.numbers.LLVMBasicBlock.{LLVMBasicBlock}
use Rattle.tracing.specs.declared.body.Edge.{Edge}
use Rattle.tracing.specs.LlvmBodies.{edge_to}
use Rattle.tracing.proofs.ListLaws.{mapped_twice}
use Rattle.tracing.proofs.llvm_body.push_edges.Goals as goal

pub returns-in-Row : goal.returns-in-Row
returns-in-Row c =
    on_ok_weaker c.push_all.result
    (λ ok.
    let twice = mapped_twice (edge_to c.args.index.now c.args.from) (λ (b : LLVMBasicBlock). b.0) c.in-Row.row.targets in
    rw c.in-Row.is
    (rw c.as_slice.ensures at ok ∙ ap (λ (es : List Edge). c.args.edges.now ++ es) (sym twice)))
    c.push_all.ensures
