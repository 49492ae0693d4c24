-- What `few::takes_few` owes besides what the check finds.
use Rattle.std.proofs.Common.{length, ap, sym, ◌∙◌, arith}
use Rattle.dialect_types.specs.Trees.{type_at, type_trees}
use Rattle.dialect_core.proofs.TypeTestLemmas.{map_length}
use Rattle.dialect_core.proofs.few.takes_few.Goals as goal

pub returns : goal.returns
returns c =
    let count = sym (map_length (type_at (type_trees c.args.types.now)) c.params_of.result.now) ∙ ap length c.params_of.ensures.params in
    (λ yes. grind (arith, yes, count), λ few. grind (arith, few, count))
