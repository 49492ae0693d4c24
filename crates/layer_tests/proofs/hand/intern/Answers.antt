-- What `hand::intern` owes besides what the check finds.
use Rattle.support.proofs.InternedLaws.{interned_within}
use Rattle.dialect_core.proofs.TypedLemmas.{more_types_typed}
use Rattle.layer_tests.proofs.HandLaws.{interned_longer}
use Rattle.layer_tests.proofs.hand.intern.Goals as goal

pub returns-clause-typed : goal.returns-clause-typed
returns-clause-typed c = more_types_typed c.args.ctx.now c.get.new.self c.requires.typed (interned_longer _ _ _ c.in_ok-ty.ty.0 _ c.types_mut.ensures.value c.in_ok-ty.ensures.interned)

pub returns-clause-within : goal.returns-clause-within
returns-clause-within c = interned_within _ _ _ c.in_ok-ty.ty.0 c.in_ok-ty.ensures.interned
