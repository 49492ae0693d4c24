-- What `TermTable::node` owes besides what the check finds.
use Rattle.tracing.proofs.TableLaws.{node_at}
use Rattle.tracing.proofs.table.TermTable.node.Goals as goal

pub returns-clause-term : goal.returns-clause-term
returns-clause-term c =
    rw (← c.self.view_is) (λ trees. node_at trees c.self.inside.nodes c.args.place c.value.result.now c.value.ensures (c.self.invariant c.args.place c.value.result.now c.value.ensures))
