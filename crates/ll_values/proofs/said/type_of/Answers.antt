-- An integer type that is found has the tree of its kind.
use Rattle.llvm_core.proofs.DataLemmas.{int_tree_of}
use Rattle.ll_values.proofs.said.type_of.Goals as goal

pub returns-clause-tree : goal.returns-clause-tree
returns-clause-tree c = rw c.in-Int.is (int_tree_of c.args.m.now c.in-Some.ty c.in-Int.width c.requires.sound c.in-Some.ensures)
