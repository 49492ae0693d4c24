-- A place of which a front was written.
use Rattle.std.proofs.Common.{ℕ, ◌++◌, codes}
use Rattle.std.specs.Fmt.{decimal}
use Rattle.round_ll.proofs.ReportLaws.{front_in_loop, on_err}
use Rattle.round_ll.proofs.report.print_places.Goals as goal

pub returns-in_err-print_place-clause-err : goal.returns-in_err-print_place-clause-err
returns-in_err-print_place-clause-err c =
    on_err _ c.from_residual.result
    (front_in_loop (λ (p : ℕ). codes " " ++ decimal p) c.args.places.now c.loop-place.place-index 0 c.args.out.now.items _ _ c.loop-place-test.true c.loop-place.invariant c.in_err-print_place.ensures.err)
