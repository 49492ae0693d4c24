-- Lists of operations in two parts, and around one of their operations.
use Rattle.std.proofs.Common.{◌≡◌, ◌⊎◌, ℕ, Bool, true, false, nat_eq, if◌then◌else◌, List, [], ◌∷◌, ◌++◌, Option, Some, slice_get, ap, sym, subst, ◌∙◌, refl, inl, inr, arith}
use Rattle.std.proofs.lemmas.Option.{same_Some}
use Rattle.dialect_core.specs.declared.numbers.OpRef.{OpRef}
use Rattle.dialect_core.specs.declared.lists.Link.{Link}
use Rattle.dialect_core.specs.Lists.{Has, AllApart, with_after, with_behind, without}
use Rattle.dialect_core.specs.Links.{AllOf, last_of}
use Rattle.dialect_core.proofs.ChainLemmas.{same_op, last-has}

-- ---- members

pub has_front : (n : ℕ) (us vs : List OpRef) → Has n us → Has n (us ++ vs)
has_front n [] vs k = absurd k
has_front n (x ∷ us) vs (inl here) = inl here
has_front n (x ∷ us) vs (inr there) = inr (has_front n us vs there)

pub has_back : (n : ℕ) (us vs : List OpRef) → Has n vs → Has n (us ++ vs)
has_back n [] vs k = k
has_back n (x ∷ us) vs k = inr (has_back n us vs k)

pub has_either : (n : ℕ) (us vs : List OpRef) → Has n (us ++ vs) → Has n us ⊎ Has n vs
has_either n [] vs k = inr k
has_either n (x ∷ us) vs (inl here) = inl (inl here)
has_either n (x ∷ us) vs (inr there) = elim (has_either n us vs there) [ inl k ↦ inl (inr k) | inr k ↦ inr k ]

pub has_or_not : (n : ℕ) (xs : List OpRef) → Has n xs ⊎ (¬ Has n xs)
has_or_not n [] = inr (λ k. k)
has_or_not n (x ∷ xs) = by (nat_eq x.0 n) refl (has_or_not n xs)
  where
    by : (t : Bool) → nat_eq x.0 n ≡ t → Has n xs ⊎ (¬ Has n xs) → Has n (x ∷ xs) ⊎ (¬ Has n (x ∷ xs))
    by true is later = let same : x.0 ≡ n = grind (arith, is) in inl (inl same)
    by false is (inl there) = inl (inr there)
    by false is (inr not) = inr (λ k. elim k [ inl here ↦ absurd (grind (arith, is, here)) | inr there ↦ not there ])

pub first_has : (xs : List OpRef) (o : OpRef) → slice_get xs 0 ≡ Some o → Has o.0 xs
first_has [] o h = cc
first_has (x ∷ xs) o h = inl (ap (λ (o : OpRef). o.0) (same_Some x o h))

-- ---- two parts in which no operation stands twice

pub record Apart (us vs : List OpRef) : Type 0 where
  pub front : AllApart us
  pub back : AllApart vs
  pub across : (n : ℕ) → Has n us → Has n vs → ⊥

pub apart_split : (us vs : List OpRef) → AllApart (us ++ vs) → Apart us vs
apart_split [] vs h = record { front = tt; back = h; across = λ n k there. k }
apart_split (x ∷ us) vs h = by (apart_split us vs h.1)
  where
    across : Apart us vs → (n : ℕ) → Has n (x ∷ us) → Has n vs → ⊥
    across rest n (inl here) there = h.0 (has_back x.0 us vs (let P : ℕ → Type 0 = λ m. Has m vs in subst P (sym here) there))
    across rest n (inr k) there = rest.across n k there

    by : Apart us vs → Apart (x ∷ us) vs
    by rest = record { front = (λ k. h.0 (has_front x.0 us vs k), rest.front); back = rest.back; across = across rest }

pub apart_join : (us vs : List OpRef) → Apart us vs → AllApart (us ++ vs)
apart_join [] vs p = p.back
apart_join (x ∷ us) vs p = (
  λ k. elim (has_either x.0 us vs k) [ inl a ↦ p.front.0 a | inr b ↦ p.across x.0 (inl refl) b ],
  apart_join us vs (record { front = p.front.1; back = p.back; across = λ n k there. p.across n (inr k) there }),
)

-- an operation that is in neither part comes between them, or goes
pub apart_grown : (us vs : List OpRef) (op : OpRef) → Apart us vs → (Has op.0 us → ⊥) → (Has op.0 vs → ⊥) → Apart us (op ∷ vs)
apart_grown us vs op p not_us not_vs = record {
  front = p.front;
  back = (not_vs, p.back);
  across = λ n k there. elim there [
    | inl here ↦ not_us (let P : ℕ → Type 0 = λ m. Has m us in subst P (sym here) k)
    | inr later ↦ p.across n k later
  ];
}

pub apart_shrunk : (us vs : List OpRef) (op : OpRef) → Apart us (op ∷ vs) → Apart us vs
apart_shrunk us vs op p = record { front = p.front; back = p.back.1; across = λ n k there. p.across n k (inr there) }

-- ---- operations of one block in two parts

pub ours_front : (links : List Link) (b : ℕ) (us vs : List OpRef) → AllOf links b (us ++ vs) → AllOf links b us
ours_front links b [] vs h = tt
ours_front links b (x ∷ us) vs h = (h.0, ours_front links b us vs h.1)

pub ours_back : (links : List Link) (b : ℕ) (us vs : List OpRef) → AllOf links b (us ++ vs) → AllOf links b vs
ours_back links b [] vs h = h
ours_back links b (x ∷ us) vs h = ours_back links b us vs h.1

pub ours_join : (links : List Link) (b : ℕ) (us vs : List OpRef) → AllOf links b us → AllOf links b vs → AllOf links b (us ++ vs)
ours_join links b [] vs h k = k
ours_join links b (x ∷ us) vs h k = (h.0, ours_join links b us vs h.1 k)

-- ---- the last operation

pub last_behind : (us : List OpRef) (v : OpRef) (vs : List OpRef) → last_of (us ++ v ∷ vs) ≡ last_of (v ∷ vs)
last_behind [] v vs = refl
last_behind (x ∷ []) v vs = refl
last_behind (x ∷ (y ∷ us)) v vs = last_behind (y ∷ us) v vs

pub last_some : (x : OpRef) (xs : List OpRef) → (l : OpRef) × (last_of (x ∷ xs) ≡ Some l)
last_some x [] = (x, refl)
last_some x (y ∷ xs) = last_some y xs

-- behind the last operation of a list is its end
pub after_last : (xs : List OpRef) (l op : OpRef) → AllApart xs → last_of xs ≡ Some l → with_after op l xs ≡ xs ++ op ∷ []
after_last [] l op apart h = cc
after_last (x ∷ []) l op apart h = by (nat_eq x.0 l.0) refl (ap (λ (o : OpRef). o.0) (same_Some x l h))
  where
    by : (t : Bool) → nat_eq x.0 l.0 ≡ t → x.0 ≡ l.0 → (if t then x ∷ (op ∷ []) else x ∷ []) ≡ x ∷ (op ∷ [])
    by true is same = refl
    by false is same = absurd (grind (arith, is, same))
after_last (x ∷ (y ∷ xs)) l op apart h = by (nat_eq x.0 l.0) refl (after_last (y ∷ xs) l op apart.1 h)
  where
    by : (t : Bool) → nat_eq x.0 l.0 ≡ t → with_after op l (y ∷ xs) ≡ (y ∷ xs) ++ op ∷ [] → (if t then x ∷ (op ∷ (y ∷ xs)) else x ∷ with_after op l (y ∷ xs)) ≡ x ∷ ((y ∷ xs) ++ op ∷ [])
    by true is later =
        let same : l.0 ≡ x.0 = grind (arith, is) in
        let P : ℕ → Type 0 = λ n. Has n (y ∷ xs) in
        absurd (apart.0 (subst P same (last-has (y ∷ xs) l h)))
    by false is later = ap (λ (ys : List OpRef). x ∷ ys) later

pub behind_last : (xs : List OpRef) (op : OpRef) → AllApart xs → with_behind (last_of xs) op xs ≡ xs ++ op ∷ []
behind_last [] op apart = refl
behind_last (x ∷ xs) op apart =
    let l = last_some x xs in
    ap (λ (o : Option OpRef). with_behind o op (x ∷ xs)) l.1 ∙ after_last (x ∷ xs) l.0 op apart l.1

-- ---- a list around one of its operations

pub record Around (op : OpRef) (xs : List OpRef) : Type 0 where
  pub front : List OpRef
  pub back : List OpRef
  pub are : xs ≡ front ++ op ∷ back
  pub after : (y : OpRef) → with_after y op xs ≡ front ++ op ∷ (y ∷ back)
  pub left : without op xs ≡ front ++ back

pub around : (op : OpRef) (xs : List OpRef) → Has op.0 xs → Around op xs
around op [] k = absurd k
around op (x ∷ xs) k = by (nat_eq x.0 op.0) refl k (λ there. around op xs there)
  where
    before : nat_eq x.0 op.0 ≡ false → Around op xs → Around op (x ∷ xs)
    before is r = record {
      front = x ∷ r.front;
      back = r.back;
      are = ap (λ (ys : List OpRef). x ∷ ys) r.are;
      after = λ y. ap (λ (t : Bool). if t then x ∷ (y ∷ xs) else x ∷ with_after y op xs) is ∙ ap (λ (ys : List OpRef). x ∷ ys) (r.after y);
      left = ap (λ (t : Bool). if t then xs else x ∷ without op xs) is ∙ ap (λ (ys : List OpRef). x ∷ ys) r.left;
    }

    by : (t : Bool) → nat_eq x.0 op.0 ≡ t → Has op.0 (x ∷ xs) → (Has op.0 xs → Around op xs) → Around op (x ∷ xs)
    by true is there later =
        let same : x ≡ op = same_op x op (grind (arith, is)) in
        record {
          front = [];
          back = xs;
          are = ap (λ (o : OpRef). o ∷ xs) same;
          after = λ y. ap (λ (t : Bool). if t then x ∷ (y ∷ xs) else x ∷ with_after y op xs) is ∙ ap (λ (o : OpRef). o ∷ (y ∷ xs)) same;
          left = ap (λ (t : Bool). if t then xs else x ∷ without op xs) is;
        }
    by false is (inl here) later = absurd (grind (arith, is, here))
    by false is (inr there) later = before is (later there)
