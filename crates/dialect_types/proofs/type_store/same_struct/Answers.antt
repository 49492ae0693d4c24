-- What `type_store::same_struct` owes besides what the check finds.
use Rattle.std.proofs.Common.{refl, sym, ◌∙◌}
use Rattle.dialect_types.proofs.KeyLemmas.{this_body, other_body}
use Rattle.dialect_types.proofs.type_store.same_struct.Goals as goal

pub returns-then-eq-clause-ok : goal.returns-then-eq-clause-ok
returns-then-eq-clause-ok c =
    (refl, this_body c.args.kinds.now c.args.ty.0 c.value.result.now c.in-Named.name c.args.name c.in-Named.held c.requires.named.0 c.args.body.now c.value.ensures c.in-Named.is c.requires.named.1 (sym c.eq.ensures ∙ c.if-eq.true))

pub returns-else-eq-clause-err : goal.returns-else-eq-clause-err
returns-else-eq-clause-err c =
    (refl, other_body c.args.kinds.now c.args.ty.0 c.value.result.now c.in-Named.name c.args.name c.in-Named.held c.args.body.now c.value.ensures c.in-Named.is (sym c.eq.ensures ∙ c.if-eq.false))
