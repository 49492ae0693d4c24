-- What `type_tests::is_held` owes besides what the check finds.
use Rattle.std.proofs.Common.{◌∙◌, ap, sym}
use Rattle.kinds.specs.Types.{shape}
use Rattle.kinds.specs.Fitting.{is_held}
use Rattle.dialect_types.specs.Trees.{type_at, type_trees}
use Rattle.dialect_core.proofs.TypeTestLemmas.{held_told}
use Rattle.dialect_core.proofs.type_tests.is_held.Goals as goal

pub returns : goal.returns
returns c =
    let tree = type_at (type_trees c.args.types.now) c.args.ty in
    let own = c.shape_of.ensures (type_trees c.args.types.now) ∙ ap shape (sym c.kind.ensures.tree) in
    held_told tree c.is_held.result (c.is_held.ensures ∙ ap is_held own) c.kind.ensures.held
