-- What the loop of `counting::number_blocks` keeps.
use Rattle.std.proofs.Common.{take}
use Rattle.std.specs.List.{flat_map}
use Rattle.dialect_core.specs.Text.{numbered_from}
use Rattle.dialect_core.specs.Numbering.{values_of_block}
use Rattle.dialect_core.proofs.NumberLemmas.{Counts}
use Rattle.dialect_core.proofs.counting.number_blocks.Given as goal

abbrev pub invariant-loop-place : goal.invariant-loop-place
invariant-loop-place l = Counts l.initial.numbers l.numbers 0 l.next (flat_map (values_of_block l.ctx) (take l.place l.blocks)) (numbered_from 0 (take l.place l.blocks))
