-- How the reading of a type ends: each part has less room. What was read of a list so far.
use Rattle.std.proofs.Common.{◌+◌, ◌*◌, length}
use Rattle.dialect_types.specs.Trees.{structs_of}
use Rattle.dialect_parsing.specs.Spelling.{Grows}
use Rattle.dialect_parsing.proofs.ListLaws.{AreSoFar}
use Rattle.dialect_parsing.proofs.reading.+read_type.Given as goal

abbrev pub decreases-read_type : goal.decreases-read_type
decreases-read_type l = 4 * l.room

abbrev pub decreases-counted : goal.decreases-counted
decreases-counted l = 4 * l.room + 1

abbrev pub decreases-list : goal.decreases-list
decreases-list l = 4 * l.room + 1

abbrev pub decreases-array : goal.decreases-array
decreases-array l = 4 * l.room + 2

abbrev pub decreases-vector : goal.decreases-vector
decreases-vector l = 4 * l.room + 2

abbrev pub decreases-literal : goal.decreases-literal
decreases-literal l = 4 * l.room + 2

abbrev pub decreases-structure : goal.decreases-structure
decreases-structure l = 4 * l.room + 3

abbrev pub decreases-func : goal.decreases-func
decreases-func l = 4 * l.room + 2

abbrev pub invariant-list-loop-alloc : goal.invariant-list-loop-alloc
invariant-list-loop-alloc l = record { so : AreSoFar (structs_of l.fn.types) l.room l.fn.symbols l.types l.found l.symbols; grows : Grows l.fn.types l.types }

abbrev pub decreases-list-loop-alloc : goal.decreases-list-loop-alloc
decreases-list-loop-alloc l = length l.symbols
