-- What the loop of `report::print_places` keeps.
use Rattle.std.proofs.Common.{◌≡◌, ◌++◌, take}
use Rattle.round_ll.specs.Report.{places_text}
use Rattle.round_ll.proofs.report.print_places.Given as goal

abbrev pub invariant-loop-place : goal.invariant-loop-place
invariant-loop-place l = l.out.items ≡ l.initial.out.items ++ places_text (take l.place-index l.places)
