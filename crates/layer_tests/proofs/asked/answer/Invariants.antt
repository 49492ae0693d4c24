-- The ledger under which `asked::answer` counts.
use Rattle.layer_tests.proofs.asked.answer.Given as goal

abbrev pub ghosts-make : goal.ghosts-make
ghosts-make a = record { name = a.blank.name; parts = a.blank.parts }
