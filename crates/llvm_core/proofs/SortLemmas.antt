-- Two sorted lists with the same counts are equal.
use Rattle.std.proofs.Common.{◌≡◌, ◌<◌, ◌≤◌, ℕ, suc, nat_eq, cond, List, [], ◌∷◌, length, get_or, sym, ap, ◌∙◌, refl, arith, inl, inr}
use Rattle.std.specs.List.Sorted.{IsPermutation, IsSorted, IsNonDecreasing}
use Rattle.std.specs.Ordering.{nat_cmp}
use Rattle.std.proofs.lemmas.Bool.{cases_order}
use Rattle.std.proofs.lemmas.List.Sums.{length-filter}
use Rattle.std.proofs.lemmas.List.Sorted.{sum_by-IsPermutation, IsNonDecreasingBy-from_sort}
use Rattle.llvm_core.specs.Edges.{count_of}
use Rattle.llvm_core.proofs.EdgeLemmas.{count-cons, one_at, one_here, one_other}

pub count-permutation : (n : ℕ) (xs ys : List ℕ) → IsPermutation xs ys → count_of n xs ≡ count_of n ys
count-permutation n xs ys h = length-filter (nat_eq n) xs ∙ sym (sum_by-IsPermutation (λ (x : ℕ). cond (nat_eq n x) 1 0) xs ys h) ∙ sym (length-filter (nat_eq n) ys)

-- each is above n
abbrev AllAbove : ℕ → List ℕ → Type 0
AllAbove n xs = (i : ℕ) (d : ℕ) → i < length xs → n < get_or xs i d

none_below : (n : ℕ) (xs : List ℕ) → AllAbove n xs → count_of n xs ≡ 0
none_below n [] above = refl
none_below n (x ∷ xs) above =
    let here : n < x = above 0 0 (omega arith) in
    let rest = none_below n xs (λ i d lt. above (suc i) d (omega (arith, lt))) in
    omega (arith, rest, count-cons n x xs, one_other n x (λ e. absurd (omega (arith, e, here))))

-- what is below the first of a sorted list stands nowhere in it
below_first : (n y : ℕ) (ys : List ℕ) → IsNonDecreasing (y ∷ ys) → n < y → count_of n (y ∷ ys) ≡ 0
below_first n y ys up lt = none_below n (y ∷ ys) (λ i d within. let le : y ≤ get_or (y ∷ ys) i d = up 0 i d (omega arith) within in omega (arith, le, lt))

up_tail : (x : ℕ) (xs : List ℕ) → IsNonDecreasing (x ∷ xs) → IsNonDecreasing xs
up_tail x xs up i j d le lt = up (suc i) (suc j) d (omega (arith, le)) (omega (arith, lt))

same_up : (xs ys : List ℕ) → IsNonDecreasing xs → IsNonDecreasing ys → ((n : ℕ) → count_of n xs ≡ count_of n ys) → xs ≡ ys
same_up [] [] p q same = refl
same_up [] (y ∷ ys) p q same = absurd (omega (arith, same y, count-cons y y ys, one_here y y refl))
same_up (x ∷ xs) [] p q same = absurd (omega (arith, same x, count-cons x x xs, one_here x x refl))
same_up (x ∷ xs) (y ∷ ys) p q same = elim (cases_order x y) [
  | inl equal ↦ (
      let first : (n : ℕ) → one_at n x ≡ one_at n y = λ n. ap (one_at n) equal in
      let rest = same_up xs ys (up_tail x xs p) (up_tail y ys q) (λ n. omega (arith, same n, count-cons n x xs, count-cons n y ys, first n)) in
      ap (λ (z : ℕ). z ∷ xs) equal ∙ ap (λ zs. y ∷ zs) rest)
  | inr apart ↦ elim apart [
    | inl below ↦ absurd (omega (arith, same x, below_first x y ys q below, count-cons x x xs, one_here x x refl))
    | inr above ↦ absurd (omega (arith, same y, below_first y x xs p above, count-cons y y ys, one_here y y refl))
  ]
]

-- sorted lists are equal where the counts of what they were sorted from are
pub same_sorted : (xs ys us vs : List ℕ) → IsPermutation xs us → IsPermutation ys vs → IsSorted nat_cmp us → IsSorted nat_cmp vs → ((n : ℕ) → count_of n xs ≡ count_of n ys) → us ≡ vs
same_sorted xs ys us vs p q a b same =
    same_up us vs (IsNonDecreasingBy-from_sort (λ n. n) us a) (IsNonDecreasingBy-from_sort (λ n. n) vs b)
    (λ n. sym (count-permutation n xs us p) ∙ same n ∙ count-permutation n ys vs q)

pub same_counts : (xs ys us vs : List ℕ) → IsPermutation xs us → IsPermutation ys vs → us ≡ vs → (n : ℕ) → count_of n xs ≡ count_of n ys
same_counts xs ys us vs p q same n = count-permutation n xs us p ∙ ap (count_of n) same ∙ sym (count-permutation n ys vs q)
