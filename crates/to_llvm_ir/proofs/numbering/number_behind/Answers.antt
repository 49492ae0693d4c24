-- One operation more.
use Rattle.std.proofs.Common.{◌∙◌, ap}
use Rattle.std.proofs.lemmas.List.{take_all}
use Rattle.dialect_core.specs.declared.numbers.OpRef.{OpRef}
use Rattle.to_llvm_ir.specs.Made.{number_behind}
use Rattle.to_llvm_ir.specs.Ordering.{ops_of}
use Rattle.to_llvm_ir.proofs.NumberingLaws.{behind_more}
use Rattle.std.proofs.Common.{List}
use Rattle.to_llvm_ir.proofs.numbering.number_behind.Goals as goal

pub loop-op-preserved : goal.loop-op-preserved
loop-op-preserved c = behind_more c.args.ctx.now c.args.ops.now c.loop-op.op-index _ c.args.first c.loop-op.next c.in_ok-next.next c.loop-op-test.true c.loop-op.invariant c.in_ok-next.ensures

pub returns : goal.returns
returns c = c.loop-op.invariant ∙ ap (λ (os : List OpRef). number_behind c.args.first (ops_of c.args.ctx.now os)) (take_all c.loop-op.op-index c.args.ops.now c.loop-op-test.false)
