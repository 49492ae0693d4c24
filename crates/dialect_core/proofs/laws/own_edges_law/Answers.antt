-- What `laws::own_edges_law` owes.
use Rattle.dialect_core.proofs.OwnEdgeLaws.{own_module}
use Rattle.dialect_core.proofs.laws.own_edges_law.Goals as goal

pub returns : goal.returns
returns c = λ d m regions symbols. own_module d regions symbols m
