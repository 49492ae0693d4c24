-- The brackets of a type are those of its kind.
use Rattle.std.proofs.Common.{ap, sym, ◌∙◌}
use Rattle.kinds.specs.Types.{TypeTree}
use Rattle.llvm_core.specs.Data.{trees_of, structs_of}
use Rattle.llvm_core.proofs.DataLemmas.{type_tree_of}
use Rattle.ll_said.specs.Said.{brackets_of}
use Rattle.ll_print.proofs.constants.brackets_of.Goals as goal

pub returns : goal.returns
returns c =
    let m = c.args.m.now in
    c.kind_brackets.ensures (trees_of m).types ∙ ap (λ (τ : TypeTree). brackets_of (structs_of m) τ) (sym (type_tree_of m c.args.ty c.type_kind.result.now c.requires.sound c.type_kind.ensures.kind))
