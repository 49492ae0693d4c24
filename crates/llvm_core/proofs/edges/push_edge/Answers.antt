-- The goals of `edges::push_edge` that the tactics leave.
use Rattle.llvm_core.proofs.EdgeLemmas.{gains_pushed}
use Rattle.llvm_core.proofs.edges.push_edge.Goals as goal

pub returns : goal.returns
returns c = gains_pushed c.args.lists.now c.args.from c.args.to.0 _ c.push.new.self c.requires c.in_ok-push.ensures.ok
