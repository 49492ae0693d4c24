-- What `TypeTable::len` owes besides what the check finds.
use Rattle.llvm_core.proofs.KeyLemmas.{distinct_types}
use Rattle.tracing.proofs.TypeLaws.{types_apart}
use Rattle.tracing.proofs.type_table.TypeTable.len.Goals as goal

pub returns-clause-apart : goal.returns-clause-apart
returns-clause-apart c = rw (← c.self.view_is) (types_apart _ c.self.invariant (distinct_types _ c.len.ensures.distinct))
