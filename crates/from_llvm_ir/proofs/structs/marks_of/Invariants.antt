-- What the loop of `structs::marks_of` keeps.
use Rattle.std.proofs.Common.{◌≡◌, length}
use Rattle.from_llvm_ir.proofs.NamingLaws.{AreMarks}
use Rattle.from_llvm_ir.proofs.structs.marks_of.Given as goal

abbrev pub invariant-loop-n : goal.invariant-loop-n
invariant-loop-n l = record {
  long : length l.marks.items ≡ l.count;
  marked : AreMarks l.held l.n-index l.marks.items;
}
