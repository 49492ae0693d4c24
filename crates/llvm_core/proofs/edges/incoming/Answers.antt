-- What `edges::incoming` hands to `push_edges`, and what it has from it.
use Rattle.std.proofs.Common.{arith}
use Rattle.support.proofs.ListLaws.{written_back}
use Rattle.llvm_core.proofs.edges.incoming.Goals as goal

pub push_edges-requires-clause-none : goal.push_edges-requires-clause-none
push_edges-requires-clause-none c = rw c.as_mut_slice.ensures.value c.in_ok-lists.ensures.none

pub returns : goal.returns
returns c =
    let edges = c.in_ok-push_edges.ensures in
    rw (written_back c.in_ok-lists.lists.len c.in_ok-lists.lists.items c.push_edges.new.lists (omega (arith, edges.len, c.in_ok-lists.ensures.len, c.in_ok-lists.lists.ok.0))) edges
