-- What `tables::byte_array` owes besides what the check finds.
use Rattle.std.proofs.Common.{refl}
use Rattle.std.proofs.lemmas.Result.{on_ok_weaker}
use Rattle.tracing.proofs.TablesLaws.{types_grown}
use Rattle.tracing.proofs.tables.byte_array.Goals as goal

pub returns-clause-grown : goal.returns-clause-grown
returns-clause-grown c = on_ok_weaker c.byte_array.result (λ grown source h. types_grown source _ _ refl refl (grown source.types h.types) h) c.byte_array.ensures.grown
