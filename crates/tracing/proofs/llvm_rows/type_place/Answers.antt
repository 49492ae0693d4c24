-- What `llvm_rows::type_place` owes besides what the check finds.
use Rattle.std.proofs.Common.{refl}
use Rattle.std.proofs.lemmas.Result.{on_ok_weaker}
use Rattle.tracing.proofs.TablesLaws.{types_grown}
use Rattle.tracing.proofs.llvm_rows.type_place.Goals as goal

pub returns-clause-grown : goal.returns-clause-grown
returns-clause-grown c = on_ok_weaker c.place.result (λ grown. types_grown _ _ _ refl refl grown c.requires.tables) c.place.ensures.grown
