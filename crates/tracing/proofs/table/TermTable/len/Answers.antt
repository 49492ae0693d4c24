-- What `TermTable::len` owes besides what the check finds.
use Rattle.tracing.proofs.TableLaws.{table_apart}
use Rattle.tracing.proofs.table.TermTable.len.Goals as goal

pub returns-clause-apart : goal.returns-clause-apart
returns-clause-apart c = rw (← c.self.view_is) (table_apart _ c.self.invariant c.len.ensures.distinct)
