-- What the loop of `lacks::first_lack` keeps.
use Rattle.std.proofs.Common.{All, take}
use Rattle.llvm_core.specs.declared.numbers.LLVMConst.{LLVMConst}
use Rattle.held_types.specs.Lacks.{LacksNothing, tree_in}
use Rattle.held_types.proofs.lacks.first_lack.Given as goal

abbrev pub invariant-loop-c : goal.invariant-loop-c
invariant-loop-c l = All (λ (c : LLVMConst). LacksNothing (tree_in l.m c)) (take l.c-index l.parts)
