-- What `type_tests::is_first_class` owes besides what the check finds.
use Rattle.std.proofs.Common.{◌∙◌, ap, sym}
use Rattle.kinds.specs.Types.{shape}
use Rattle.kinds.specs.Fitting.{is_first_class}
use Rattle.dialect_types.specs.Trees.{type_at, type_trees}
use Rattle.dialect_core.proofs.TypeTestLemmas.{first_class_told}
use Rattle.dialect_core.proofs.type_tests.is_first_class.Goals as goal

pub returns : goal.returns
returns c =
    let tree = type_at (type_trees c.args.types.now) c.args.ty in
    let own = c.shape_of.ensures (type_trees c.args.types.now) ∙ ap shape (sym c.kind.ensures.tree) in
    first_class_told tree c.is_first_class.result (c.is_first_class.ensures ∙ ap is_first_class own) c.kind.ensures.first_class
