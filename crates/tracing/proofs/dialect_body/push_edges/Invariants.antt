-- What holds in the loop of `dialect_body::push_edges`.
use Rattle.std.specs.Prelude.{◌≡◌, ◌++◌, map, take}
use Rattle.tracing.specs.DialectEdges.{edge_to}
use Rattle.tracing.proofs.dialect_body.push_edges.Given as goal

abbrev pub invariant-loop-successor : goal.invariant-loop-successor
invariant-loop-successor l = record { at : l.edges ≡ l.fn.edges ++ map (edge_to l.places) (take l.successor-index l.successors) }
