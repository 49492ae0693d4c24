-- What `type_store::add_kind` owes besides what the check finds.
use Rattle.std.proofs.Common.{◌≡◌, ◌++◌, ◌∷◌, [], ℕ, length, take, subst}
use Rattle.dialect_types.specs.Stored.{IsDepthOf}
use Rattle.dialect_types.proofs.KeyLemmas.{interned_kind}
use Rattle.dialect_types.proofs.DepthLaws.{cut_last}
use Rattle.dialect_types.proofs.type_store.add_kind.Goals as goal

pub returns-clause-interned : goal.returns-clause-interned
returns-clause-interned c = interned_kind _ _ _ _ c.in_ok-at.ensures.interned

pub returns-clause-noted : goal.returns-clause-noted
returns-clause-noted c =
    let old = c.args.depths.now.items in
    let new = c.note_depth.new.depths.items in
    let noted = subst (λ (m : ℕ). (d : ℕ) × (new ≡ take m old ++ d ∷ []) × IsDepthOf c.args.kind (take m old) d) c.len.ensures.len c.in_ok-note_depth.ensures.noted in
    (noted.0, cut_last (length c.args.kinds.now) noted.0 old new c.requires.long noted.1, noted.2)
