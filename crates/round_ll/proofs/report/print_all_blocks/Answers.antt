-- A line of which a front was written.
use Rattle.std.proofs.Common.{subst}
use Rattle.llvm_core.specs.Data.{data_of}
use Rattle.from_llvm_ir.specs.declared.matching.FunctionBlocks.{FunctionBlocks}
use Rattle.round_ll.specs.Report.{blocks_line, HoldsFront}
use Rattle.round_ll.proofs.ReportLaws.{front_in_loop, on_err}
use Rattle.round_ll.proofs.report.print_all_blocks.Goals as goal

pub returns-in_err-print_blocks-clause-err : goal.returns-in_err-print_blocks-clause-err
returns-in_err-print_blocks-clause-err c =
    let line = blocks_line (data_of c.args.«module».now) in
    let here = subst (λ (x : FunctionBlocks). HoldsFront c.loop-x.out.items c.print_blocks.new.out.items (line x)) c.x-item.is c.in_err-print_blocks.ensures.err in
    on_err _ c.from_residual.result
    (front_in_loop line c.args.blocks.now c.loop-x.x-index c.x-item.result c.args.out.now.items _ _ c.loop-x-test.true c.loop-x.invariant here)
