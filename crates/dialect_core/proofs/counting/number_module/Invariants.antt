-- What the loop of `counting::number_module` keeps.
use Rattle.std.proofs.Common.{take}
use Rattle.std.specs.List.{flat_map}
use Rattle.dialect_core.specs.Numbering.{Numbered, values_of_func, blocks_of_func}
use Rattle.dialect_core.proofs.counting.number_module.Given as goal

abbrev pub invariant-loop-op : goal.invariant-loop-op
invariant-loop-op l = Numbered l.initial.numbers l.numbers (flat_map (values_of_func l.ctx) (take l.op-index l.op-items)) (flat_map (blocks_of_func l.ctx) (take l.op-index l.op-items))
