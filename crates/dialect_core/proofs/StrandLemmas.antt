-- Links of operations to those on both sides of them: how they are cut, joined and tied anew.
use Rattle.std.proofs.Common.{◌≡◌, ℕ, List, [], ◌∷◌, ◌++◌, Option, Some, None, slice_get, ap, sym, subst, ◌∙◌, refl, inl, inr}
use Rattle.std.proofs.lemmas.Option.{same_Some}
use Rattle.dialect_core.specs.declared.numbers.OpRef.{OpRef}
use Rattle.dialect_core.specs.declared.lists.Link.{Link}
use Rattle.dialect_core.specs.Lists.{Has, AllApart}
use Rattle.dialect_core.specs.Links.{next_at, prev_at, IsChain, IsBackChain, last_of}
use Rattle.dialect_core.proofs.ChainLemmas.{last-has}

abbrev pub head_or : List OpRef → Option OpRef → Option OpRef
head_or [] n = n
head_or (x ∷ xs) n = Some x

abbrev pub last_or : Option OpRef → List OpRef → Option OpRef
last_or p [] = p
last_or p (x ∷ xs) = last_or (Some x) xs

-- each of the operations xs is linked to those beside it, where p comes before them and n behind them
abbrev pub Strand : List Link → Option OpRef → List OpRef → Option OpRef → Type 0
Strand links p [] n = Unit {0}
Strand links p (x ∷ xs) n = (prev_at links x ≡ p) × (next_at links x ≡ head_or xs n) × Strand links (Some x) xs n

pub head_is : (xs : List OpRef) → head_or xs None ≡ slice_get xs 0
head_is [] = refl
head_is (x ∷ xs) = refl

last_past : (x : OpRef) (xs : List OpRef) → last_or (Some x) xs ≡ last_of (x ∷ xs)
last_past x [] = refl
last_past x (y ∷ xs) = last_past y xs

pub last_is : (xs : List OpRef) → last_or None xs ≡ last_of xs
last_is [] = refl
last_is (x ∷ xs) = last_past x xs

head_append : (us vs : List OpRef) (n : Option OpRef) → head_or (us ++ vs) n ≡ head_or us (head_or vs n)
head_append [] vs n = refl
head_append (u ∷ us) vs n = refl

-- ---- two parts

pub strand_front : (links : List Link) (p : Option OpRef) (us vs : List OpRef) (n : Option OpRef) → Strand links p (us ++ vs) n → Strand links p us (head_or vs n)
strand_front links p [] vs n h = tt
strand_front links p (u ∷ us) vs n h = (h.0, h.1 ∙ head_append us vs n, strand_front links (Some u) us vs n h.2)

pub strand_back : (links : List Link) (p : Option OpRef) (us vs : List OpRef) (n : Option OpRef) → Strand links p (us ++ vs) n → Strand links (last_or p us) vs n
strand_back links p [] vs n h = h
strand_back links p (u ∷ us) vs n h = strand_back links (Some u) us vs n h.2

pub strand_join : (links : List Link) (p : Option OpRef) (us vs : List OpRef) (n : Option OpRef) → Strand links p us (head_or vs n) → Strand links (last_or p us) vs n → Strand links p (us ++ vs) n
strand_join links p [] vs n f b = b
strand_join links p (u ∷ us) vs n f b = (f.0, f.1 ∙ sym (head_append us vs n), strand_join links (Some u) us vs n f.2 b)

-- ---- links that agree on the operations

strand_same : (links others : List Link) (p : Option OpRef) (xs : List OpRef) (n : Option OpRef) → ((o : OpRef) → Has o.0 xs → next_at others o ≡ next_at links o) → ((o : OpRef) → Has o.0 xs → prev_at others o ≡ prev_at links o) → Strand links p xs n → Strand others p xs n
strand_same links others p [] n nexts prevs h = tt
strand_same links others p (x ∷ xs) n nexts prevs h = (
  prevs x (inl refl) ∙ h.0,
  nexts x (inl refl) ∙ h.1,
  strand_same links others (Some x) xs n (λ o k. nexts o (inr k)) (λ o k. prevs o (inr k)) h.2,
)

-- the last of the operations gets another one behind it
pub strand_after : (links others : List Link) (p : Option OpRef) (xs : List OpRef) (n new : Option OpRef) → AllApart xs → ((o : OpRef) → Has o.0 xs → prev_at others o ≡ prev_at links o) → ((o : OpRef) → Has o.0 xs → ¬ (last_of xs ≡ Some o) → next_at others o ≡ next_at links o)
    → ((l : OpRef) → last_of xs ≡ Some l → next_at others l ≡ new) → Strand links p xs n → Strand others p xs new
strand_after links others p [] n new apart prevs nexts last h = tt
strand_after links others p (x ∷ []) n new apart prevs nexts last h = (prevs x (inl refl) ∙ h.0, last x refl, tt)
strand_after links others p (x ∷ (y ∷ xs)) n new apart prevs nexts last h = (
  prevs x (inl refl) ∙ h.0,
  nexts x (inl refl) (λ e. apart.0 (last-has (y ∷ xs) x e)) ∙ h.1,
  strand_after links others (Some x) (y ∷ xs) n new apart.1 (λ o k. prevs o (inr k)) (λ o k. nexts o (inr k)) last h.2,
)

-- the first of the operations gets another one before it
pub strand_before : (links others : List Link) (p new : Option OpRef) (xs : List OpRef) (n : Option OpRef) → AllApart xs → ((o : OpRef) → Has o.0 xs → next_at others o ≡ next_at links o) → ((o : OpRef) → Has o.0 xs → ¬ (slice_get xs 0 ≡ Some o) → prev_at others o ≡ prev_at links o)
    → ((l : OpRef) → slice_get xs 0 ≡ Some l → prev_at others l ≡ new) → Strand links p xs n → Strand others new xs n
strand_before links others p new [] n apart nexts prevs first h = tt
strand_before links others p new (x ∷ xs) n apart nexts prevs first h = (
  first x refl,
  nexts x (inl refl) ∙ h.1,
  strand_same links others (Some x) xs n (λ o k. nexts o (inr k)) (λ o k. prevs o (inr k) (other o k)) h.2,
)
  where
    other : (o : OpRef) → Has o.0 xs → ¬ (Some x ≡ Some o)
    other o k e = let P : ℕ → Type 0 = λ m. Has m xs in apart.0 (subst P (sym (ap (λ (o : OpRef). o.0) (same_Some x o e))) k)

-- ---- chains

chain_head : (links : List Link) (s : Option OpRef) (xs : List OpRef) → IsChain links s xs → s ≡ head_or xs None
chain_head links s [] h = h
chain_head links s (x ∷ xs) h = h.0

pub strand_of : (links : List Link) (s p : Option OpRef) (xs : List OpRef) → IsChain links s xs → IsBackChain links p xs → Strand links p xs None
strand_of links s p [] f b = tt
strand_of links s p (x ∷ xs) f b = (b.0, chain_head links (next_at links x) xs f.1, strand_of links (next_at links x) (Some x) xs f.1 b.1)

pub chain_of : (links : List Link) (p : Option OpRef) (xs : List OpRef) → Strand links p xs None → IsChain links (head_or xs None) xs
chain_of links p [] h = refl
chain_of links p (x ∷ xs) h =
    let P : Option OpRef → Type 0 = λ s. IsChain links s xs in
    (refl, subst P (sym h.1) (chain_of links (Some x) xs h.2))

pub back_of : (links : List Link) (p : Option OpRef) (xs : List OpRef) (n : Option OpRef) → Strand links p xs n → IsBackChain links p xs
back_of links p [] n h = tt
back_of links p (x ∷ xs) n h = (h.0, back_of links (Some x) xs n h.2)

-- links that agree on the operations of a chain
pub back_same : (links others : List Link) (p : Option OpRef) (xs : List OpRef) → ((o : OpRef) → Has o.0 xs → prev_at others o ≡ prev_at links o) → IsBackChain links p xs → IsBackChain others p xs
back_same links others p [] same h = tt
back_same links others p (x ∷ xs) same h = (same x (inl refl) ∙ h.0, back_same links others (Some x) xs (λ o k. same o (inr k)) h.1)
