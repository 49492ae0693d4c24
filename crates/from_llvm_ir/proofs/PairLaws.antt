-- Lists that stand beside one another, item by item, and a list of which one item passes a test.
use Rattle.std.proofs.Common.{ℕ, zero, suc, ◌≡◌, ◌<◌, Bool, true, false, List, [], ◌∷◌, Option, Some, None, length, map, slice_get, All, refl, ◌∙◌, ap, subst, arith}
use Rattle.std.proofs.lemmas.Option.{slice_get_past}
use Rattle.std.specs.List.{find}
use Rattle.std.proofs.lemmas.List.Elements.{All-nil, All-cons}
use Rattle.support.proofs.ListLaws.{item_there}
use Rattle.meaning.specs.Pairs.{Matched, BothOrNone}

-- lists of one length whose items go together place by place are matched
pub matched_of : {A B : Type 0} (P : A → B → Type 0) (xs : List A) (ys : List B) → length xs ≡ length ys → ((i : ℕ) (x : A) (y : B) → slice_get xs i ≡ Some x → slice_get ys i ≡ Some y → P x y) → Matched P xs ys
matched_of P [] [] same each = tt
matched_of P [] (y ∷ ys) same each = absurd (omega (arith, same))
matched_of P (x ∷ xs) [] same each = absurd (omega (arith, same))
matched_of P (x ∷ xs) (y ∷ ys) same each = (each 0 x y refl refl, matched_of P xs ys (omega (arith, same)) (λ i a b at bt. each (suc i) a b at bt))

pub matched_map : {A B C E : Type 0} (P : C → E → Type 0) (f : A → C) (g : B → E) (xs : List A) (ys : List B) → Matched (λ (x : A) (y : B). P (f x) (g y)) xs ys → Matched P (map f xs) (map g ys)
matched_map P f g [] [] h = tt
matched_map P f g (x ∷ xs) (y ∷ ys) h = (h.0, matched_map P f g xs ys h.1)
matched_map P f g [] (y ∷ ys) h = absurd h
matched_map P f g (x ∷ xs) [] h = absurd h

-- what each pair says of its second item
pub all_second : {A B : Type 0} (P : A → B → Type 0) (Q : B → Type 0) → ((x : A) (y : B) → P x y → Q y) → (xs : List A) (ys : List B) → Matched P xs ys → All Q ys
all_second P Q each [] [] h = All-nil Q
all_second P Q each (x ∷ xs) (y ∷ ys) h = All-cons Q y ys (each x y h.0) (all_second P Q each xs ys h.1)
all_second P Q each [] (y ∷ ys) h = absurd h
all_second P Q each (x ∷ xs) [] h = absurd h

-- what holds place by place holds of all
pub all_of : {X : Type 0} (xs : List X) (P : X → Type 0) → ((i : ℕ) (x : X) → slice_get xs i ≡ Some x → P x) → All P xs
all_of [] P each = All-nil P
all_of (x ∷ xs) P each = All-cons P x xs (each 0 x refl) (all_of xs P (λ i y at. each (suc i) y at))

no_partner : {A B : Type 0} (P : A → B → Type 0) (a : Option A) (b : Option B) (x : A) → a ≡ Some x → b ≡ None → ¬ BothOrNone P a b
no_partner P a b x is none h = subst (λ (o : Option _). BothOrNone P (Some x) o) none (subst (λ (o : Option _). BothOrNone P o b) is h)

no_source : {A B : Type 0} (P : A → B → Type 0) (a : Option A) (b : Option B) (y : B) → a ≡ None → b ≡ Some y → ¬ BothOrNone P a b
no_source P a b y none is h = subst (λ (o : Option _). BothOrNone P None o) is (subst (λ (o : Option _). BothOrNone P o b) none h)

-- where the items of one list stand beside those of the other under a map of its places onto those below its
-- length, which leaves the place behind the last, the lists are of one length
pub same_length : {A B : Type 0} (P : ℕ → A → B → Type 0) (xs : List A) (ys : List B) (here : ℕ → ℕ)
    → ((p : ℕ) → p < length xs → (i : ℕ) × (i < length xs) × (here i ≡ p)) → here (length xs) ≡ length xs
    → ((i : ℕ) → BothOrNone (P i) (slice_get xs i) (slice_get ys (here i))) → length ys ≡ length xs
same_length P xs ys here onto stays each =
    let not_less : ¬ (length ys < length xs) = λ less.
    let (i, small, is) = onto (length ys) less in
    let (x, at) = item_there xs i small in
    no_partner (P i) (slice_get xs i) (slice_get ys (here i)) x at (ap (slice_get ys) is ∙ slice_get_past ys (length ys) (omega arith)) (each i) in
    let not_more : ¬ (length xs < length ys) = λ less.
    let (y, at) = item_there ys (length xs) less in
    no_source (P (length xs)) (slice_get xs (length xs)) (slice_get ys (here (length xs))) y (slice_get_past xs (length xs) (omega arith)) (ap (slice_get ys) stays ∙ at) (each (length xs)) in
    omega (arith, not_less, not_more)

-- the first item, or what is found behind it
found : {X : Type 0} (p : X → Bool) (y x : X) (ys : List X) (b : Bool) → p y ≡ b → (p y ≡ true → ⊥) → find p ys ≡ Some x → find p (y ∷ ys) ≡ Some x
found p y x ys true e never later = absurd (never e)
found p y x ys false e never later = rw e later

-- the only item that passes a test is found
pub find_only : {X : Type 0} (p : X → Bool) (xs : List X) (i : ℕ) (x : X) → slice_get xs i ≡ Some x → p x ≡ true → ((j : ℕ) (y : X) → slice_get xs j ≡ Some y → p y ≡ true → j ≡ i) → find p xs ≡ Some x
find_only p [] i x at passes only = absurd (let no : ⊥ = cc in no)
find_only p (y ∷ ys) zero x at passes only = let same : y ≡ x = cc in rw (same, passes) refl
find_only p (y ∷ ys) (suc i) x at passes only =
    found p y x ys (p y) refl (λ e. let no : 0 ≡ suc i = only 0 y refl e in absurd (omega (arith, no)))
    (find_only p ys i x at passes (λ j z here h. let one : suc j ≡ suc i = only (suc j) z here h in omega (arith, one)))
