-- What the loop of `table::table_of` keeps.
use Rattle.held_types.specs.Table.{IsTableTo}
use Rattle.held_types.proofs.table.table_of.Given as goal

abbrev pub invariant-loop-s : goal.invariant-loop-s
invariant-loop-s l = IsTableTo l.m l.s l.table
