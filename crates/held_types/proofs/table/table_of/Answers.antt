-- What `table::table_of` owes besides what the check finds.
use Rattle.std.proofs.Common.{arith}
use Rattle.std.proofs.lemmas.List.{length-map}
use Rattle.llvm_core.specs.Data.{trees_of, struct_of}
use Rattle.held_types.proofs.TableLaws.{whole_table}
use Rattle.held_types.proofs.table.table_of.Goals as goal

pub returns : goal.returns
returns c =
    let m = c.args.m.now in
    whole_table m c.loop-s.s c.loop-s.table (omega (arith, length-map m.structs (struct_of (trees_of m).types), c.structs-s-end.ensures.len, c.loop-s-test.false)) c.loop-s.invariant
