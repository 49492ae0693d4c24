-- What the loop of `counting::number_results` keeps.
use Rattle.std.proofs.Common.{take, []}
use Rattle.std.specs.List.{flat_map}
use Rattle.dialect_core.specs.Numbering.{op_values}
use Rattle.dialect_core.proofs.NumberLemmas.{Counts}
use Rattle.dialect_core.proofs.counting.number_results.Given as goal

abbrev pub invariant-loop-op : goal.invariant-loop-op
invariant-loop-op l = Counts l.initial.numbers l.numbers l.fn.first l.next (flat_map (op_values l.ctx) (take l.op-index l.ops)) []
