-- A line of which nothing was written.
use Rattle.std.proofs.Common.{ℕ, List, ap, subst}
use Rattle.std.specs.Prelude.{String, string_bytes}
use Rattle.round_ll.specs.Report.{struct_line, HoldsFront}
use Rattle.round_ll.proofs.ReportLaws.{front_in_loop, front_none, on_err}
use Rattle.round_ll.proofs.report.print_structs.Goals as goal

pub returns-in_err-print_struct-clause-err : goal.returns-in_err-print_struct-clause-err
returns-in_err-print_struct-clause-err c =
    on_err _ c.from_residual.result
    (front_in_loop (λ p. struct_line (string_bytes p.0) p.1) c.args.structs.now c.loop-source.source-index c.loop-source-item.result c.args.out.now.items _ _ c.loop-source-test.true c.loop-source.invariant
    (front_none _ _ _ c.in_err-print_struct.ensures.err))
