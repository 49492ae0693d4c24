-- What `constants::stand_for` owes besides what the check finds.
use Rattle.std.proofs.Common.{ap, sym, ◌∙◌}
use Rattle.kinds.specs.Types.{TypeTree}
use Rattle.llvm_core.specs.Data.{trees_of, structs_of}
use Rattle.llvm_core.proofs.DataLemmas.{type_tree_of}
use Rattle.ll_bodies.specs.Constants.{stand_for}
use Rattle.ll_bodies.proofs.constants.stand_for.Goals as goal

pub returns : goal.returns
returns c =
    let m = c.args.module.now in
    c.are_of_kind.ensures (trees_of m).types ∙ ap (λ (τ : TypeTree). stand_for (structs_of m) c.args.brackets τ) (sym (type_tree_of m c.args.ty c.type_kind.result.now c.requires.sound c.type_kind.ensures.kind))
