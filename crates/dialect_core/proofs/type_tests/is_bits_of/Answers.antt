-- What `type_tests::is_bits_of` owes besides what the check finds.
use Rattle.std.proofs.Common.{◌∙◌, ap}
use Rattle.kinds.specs.declared.fitting.Laned.{Laned}
use Rattle.kinds.specs.Types.{laned}
use Rattle.kinds.specs.Fitting.{is_bits_laned}
use Rattle.kinds.proofs.LaneLaws.{bits_decided}
use Rattle.dialect_types.specs.Trees.{type_at, type_trees}
use Rattle.dialect_core.proofs.type_tests.is_bits_of.Goals as goal

pub returns : goal.returns
returns c =
    let t = type_at (type_trees c.args.types.now) c.args.ty in
    let of = type_at (type_trees c.args.types.now) c.args.of in
    bits_decided t of c.is_bits_laned.result
    (c.is_bits_laned.ensures ∙ ap (λ (l : Laned). is_bits_laned l c.laned_at-2.result) c.laned_at.ensures ∙ ap (is_bits_laned (laned t)) c.laned_at-2.ensures)
