-- What `TypeTable::kind` owes besides what the check finds.
use Rattle.tracing.proofs.TypeLaws.{stands_kind}
use Rattle.tracing.proofs.type_table.TypeTable.kind.Goals as goal

pub returns-clause-tree : goal.returns-clause-tree
returns-clause-tree c = rw (← c.self.view_is) (stands_kind c.self.inside.kinds c.args.ty c.value.result.now c.self.invariant.over c.value.ensures)
