-- What holds of each item of a list holds of each of its parts.
use Rattle.std.proofs.Common.{inl, inr, ℕ, zero, suc, List, [], ◌∷◌, ◌++◌, All, take, drop, length, reverse, sym, subst}
use Rattle.std.proofs.lemmas.List.{reverse-append}
use Rattle.std.proofs.lemmas.List.Elements.{All-head, All-tail}
use Rattle.support.proofs.ListLaws.{all_from, slice_get-take, slice_get-push_cases}
use Rattle.llvm_core.specs.Module.{Module}
use Rattle.llvm_core.proofs.DataLemmas.{within_at}
use Rattle.ll_lines.specs.declared.lines.Part.{Part}
use Rattle.ll_lines.specs.Views.{IsPartIn}
use Rattle.ll_bodies.specs.BlockViews.{IsBehind}

pub all_drop : {X : Type 0} (P : X → Type 0) (k : ℕ) (xs : List X) → All P xs → All P (drop k xs)
all_drop P zero xs h = h
all_drop P (suc k) [] h = h
all_drop P (suc k) (x ∷ xs) h = all_drop P k xs (All-tail P x xs h)

pub all_take : {X : Type 0} (P : X → Type 0) (k : ℕ) (xs : List X) → All P xs → All P (take k xs)
all_take P k xs h = all_from P (take k xs) (λ i x e. within_at xs P h i x (slice_get-take k xs i x e).1)

pub all_push : {X : Type 0} (P : X → Type 0) (xs : List X) (y : X) → All P xs → P y → All P (xs ++ y ∷ [])
all_push P xs y h p = all_from P (xs ++ y ∷ []) (λ i x e. elim (slice_get-push_cases xs y i x e) [ inl there ↦ within_at xs P h i x there | inr last ↦ subst P (sym last.1) p ])

pub all_reverse : {X : Type 0} (P : X → Type 0) (xs : List X) → All P xs → All P (reverse xs)
all_reverse P [] h = h
all_reverse P (x ∷ xs) h = subst (All P) (sym (reverse-append (x ∷ []) xs)) (all_push P (reverse xs) x (all_reverse P xs (All-tail P x xs h)) (All-head P x xs h))

-- parts that stand in a body are parts of it
pub behind_in : (m : Module) (made : ℕ) (parts : List Part) (at : ℕ) (lines : List Part) → IsBehind parts at lines → All (IsPartIn m made) parts → All (IsPartIn m made) lines
behind_in m made parts at lines b h = subst (All (IsPartIn m made)) b.there (all_take (IsPartIn m made) (length lines) (drop at parts) (all_drop (IsPartIn m made) at parts h))
