-- A front of the lines of structs, or all of them and a front of those of functions.
use Rattle.round_ll.proofs.ReportLaws.{front_behind, front_of, on_err, on_err_then}
use Rattle.round_ll.proofs.report.print_report.Goals as goal

pub returns-in_err-print_structs-clause-err : goal.returns-in_err-print_structs-clause-err
returns-in_err-print_structs-clause-err c = on_err _ c.from_residual.result (front_of _ _ _ _ c.in_err-print_structs.ensures.err)

pub returns-clause-err : goal.returns-clause-err
returns-clause-err c = on_err_then _ _ c.print_all_blocks.result (λ h. front_behind _ _ _ _ _ c.in_ok-print_structs.ensures.ok h) c.print_all_blocks.ensures.err
