-- Lists that grew by a type that was asked for, or by what they may hold.
use Rattle.std.proofs.Common.{◌≡◌, ◌≤◌, ℕ, Bool, true, false, if◌then◌else◌, List, [], ◌∷◌, ◌++◌, All, length, ap, inl, inr, arith, length-append}
use Rattle.std.proofs.lemmas.List.Elements.{All-push}
use Rattle.support.specs.Interned.{Interned}

-- there are no fewer
pub interned_longer : {X : Type 0} (old new : List X) (k : X) (n : ℕ) (before : List X) → old ≡ before → Interned old new k n → length before ≤ length new
interned_longer old new k n before same h = elim h.only [
  | inl e ↦ omega (arith, ap length e, ap length same)
  | inr e ↦ omega (arith, ap length e, ap length same, length-append old (k ∷ []))
]

-- a list of one sort stays so, whether or not one more of the sort was put last
pub all_if_pushed : {X : Type 0} (P : X → Type 0) (b : Bool) (xs : List X) (x : X) → All P xs → P x → All P (if b then xs ++ x ∷ [] else xs)
all_if_pushed P true xs x h p = All-push P xs x h p
all_if_pushed P false xs x h p = h
