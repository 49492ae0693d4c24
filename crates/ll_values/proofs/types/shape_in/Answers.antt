-- The shape of a kind is that of its tree.
use Rattle.std.proofs.Common.{ap, sym, ◌∙◌}
use Rattle.kinds.specs.Types.{shape}
use Rattle.llvm_core.specs.Data.{trees_of}
use Rattle.llvm_core.proofs.DataLemmas.{type_tree_of}
use Rattle.llvm_core.proofs.RuleLaws.{shape_kept}
use Rattle.ll_values.proofs.types.shape_in.Goals as goal

pub returns-clause-tree : goal.returns-clause-tree
returns-clause-tree c =
    c.shape_of.ensures ∙ shape_kept (trees_of c.args.m.now).types c.type_kind.result.now ∙ ap shape (sym (type_tree_of c.args.m.now c.args.ty c.type_kind.result.now c.requires.sound c.type_kind.ensures.kind))
