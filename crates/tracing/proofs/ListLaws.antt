-- Lists that a loop makes item by item.
use Rattle.std.proofs.Common.{◌≡◌, ◌<◌, ◌≤◌, ◌+◌, ℕ, zero, suc, Bool, true, false, List, [], ◌∷◌, ◌++◌, Option, Some, length, map, filter, take, slice_get, get_or, refl, ap, sym, subst, ◌∙◌, arith, if◌then◌else◌}
use Rattle.std.specs.List.{filter_map, flat_map, cons_option}
use Rattle.std.proofs.lemmas.List.{append-nil, map-append, take_more, take_all}
use Rattle.meaning.specs.Pairs.{Matched}
use Rattle.std.proofs.lemmas.List.Elements.{filter_map-append}
use Rattle.std.proofs.lemmas.Grind.{flat_map-append}
use Rattle.meaning.proofs.MatchedLaws.{matched_push}
use Rattle.support.proofs.ListLaws.{take_next}

-- what is made of one item more
pub mapped_more : {A B C : Type 0} (f : C → B) (g : A → B) (cs : List C) (c : C) (xs : List A) (i : ℕ) (d : A) → i < length xs → map f cs ≡ map g (take i xs) → f c ≡ g (get_or xs i d) → map f (cs ++ c ∷ []) ≡ map g (take (i + 1) xs)
mapped_more f g cs c xs i d lt before here =
    let left = map-append f cs (c ∷ []) in
    let right = ap (map g) (take_more xs i d lt) ∙ map-append g (take i xs) (get_or xs i d ∷ []) in
    left ∙ ap (λ l. l ++ f c ∷ []) before ∙ ap (λ x. map g (take i xs) ++ x ∷ []) here ∙ sym right

-- the same, where what is made is kept as it is
pub listed_more : {A B : Type 0} (g : A → B) (bs : List B) (xs : List A) (i : ℕ) (d : A) → i < length xs → bs ≡ map g (take i xs) → bs ++ g (get_or xs i d) ∷ [] ≡ map g (take (i + 1) xs)
listed_more g bs xs i d lt before = ap (λ l. l ++ g (get_or xs i d) ∷ []) before ∙ sym (ap (map g) (take_more xs i d lt) ∙ map-append g (take i xs) (get_or xs i d ∷ []))

-- what items give, of one item more
pub given_more : {A B : Type 0} (h : A → Option B) (bs : List B) (xs : List A) (i : ℕ) (d : A) → i < length xs → bs ≡ filter_map h (take i xs) → bs ++ cons_option (h (get_or xs i d)) [] ≡ filter_map h (take (i + 1) xs)
given_more h bs xs i d lt before =
    let right = ap (filter_map h) (take_more xs i d lt) ∙ filter_map-append h (take i xs) (get_or xs i d ∷ []) in
    ap (λ l. l ++ cons_option (h (get_or xs i d)) []) before ∙ sym right

pub mapped_twice : {A B C : Type 0} (f : B → C) (g : A → B) (xs : List A) → map f (map g xs) ≡ map (λ (x : A). f (g x)) xs
mapped_twice f g [] = refl
mapped_twice f g (x ∷ xs) = ap (λ l. f (g x) ∷ l) (mapped_twice f g xs)

-- ---- by what stands at a place

pub given_next : {A B : Type 0} (h : A → Option B) (bs : List B) (xs : List A) (i : ℕ) (x : A) → slice_get xs i ≡ Some x → bs ≡ filter_map h (take i xs) → bs ++ cons_option (h x) [] ≡ filter_map h (take (i + 1) xs)
given_next h bs xs i x at before =
    ap (λ l. l ++ cons_option (h x) []) before ∙ sym (ap (filter_map h) (take_next xs i x at) ∙ filter_map-append h (take i xs) (x ∷ []))

pub listed_next : {A B : Type 0} (g : A → B) (xs : List A) (i : ℕ) (x : A) → slice_get xs i ≡ Some x → map g (take i xs) ++ g x ∷ [] ≡ map g (take (i + 1) xs)
listed_next g xs i x at = sym (ap (map g) (take_next xs i x at) ∙ map-append g (take i xs) (x ∷ []))

pub filter_next : {A : Type 0} (p : A → Bool) (xs : List A) (i : ℕ) (x : A) → slice_get xs i ≡ Some x → filter p (take (i + 1) xs) ≡ filter p (take i xs) ++ filter p (x ∷ [])
filter_next p xs i x at = ap (filter p) (take_next xs i x at) ∙ joined (take i xs)
  where
    joined : (ys : List _) → filter p (ys ++ x ∷ []) ≡ filter p ys ++ filter p (x ∷ [])
    joined [] = refl
    joined (y ∷ ys) = by (p y) (joined ys)
      where
        by : (b : Bool) → filter p (ys ++ x ∷ []) ≡ filter p ys ++ filter p (x ∷ []) → (if b then y ∷ filter p (ys ++ x ∷ []) else filter p (ys ++ x ∷ [])) ≡ (if b then y ∷ filter p ys else filter p ys) ++ filter p (x ∷ [])
        by true e = ap (λ l. y ∷ l) e
        by false e = e

pub joined_next : {A B : Type 0} (h : A → List B) (bs : List B) (xs : List A) (i : ℕ) (x : A) → slice_get xs i ≡ Some x → bs ≡ flat_map h (take i xs) → bs ++ flat_map h (x ∷ []) ≡ flat_map h (take (i + 1) xs)
joined_next h bs xs i x at before = ap (λ l. l ++ flat_map h (x ∷ [])) before ∙ sym (ap (flat_map h) (take_next xs i x at) ∙ flat_map-append h (take i xs) (x ∷ []))

pub matched_next : {A B : Type 0} (P : A → B → Type 0) (bs : List A) (a : A) (xs : List B) (i : ℕ) (x : B) → slice_get xs i ≡ Some x → Matched P bs (take i xs) → P a x → Matched P (bs ++ a ∷ []) (take (i + 1) xs)
matched_next P bs a xs i x at before here = subst (Matched P (bs ++ a ∷ [])) (sym (take_next xs i x at)) (matched_push P bs (take i xs) a x before here)

pub record StandsBy {A B : Type 0} (P : A → B → Type 0) (a : A) (ys : List B) (i : ℕ) : Type 0 where
  pub item : B
  pub at : slice_get ys i ≡ Some item
  pub fits : P a item

pub matched_at : {A B : Type 0} (P : A → B → Type 0) (xs : List A) (ys : List B) (i : ℕ) (d : A) → i < length xs → Matched P xs ys → StandsBy P (get_or xs i d) ys i
matched_at P [] [] i d lt h = absurd (omega arith)
matched_at P (x ∷ xs) (y ∷ ys) zero d lt h = record { item = y; at = refl; fits = h.0 }
matched_at P (x ∷ xs) (y ∷ ys) (suc i) d lt h = let r = matched_at P xs ys i d (omega arith) h.1 in record { item = r.item; at = r.at; fits = r.fits }
matched_at P [] (y ∷ ys) i d lt h = elim h [ ]
matched_at P (x ∷ xs) [] i d lt h = elim h [ ]

pub matched_length : {A B : Type 0} (P : A → B → Type 0) (xs : List A) (ys : List B) → Matched P xs ys → length xs ≡ length ys
matched_length P [] [] h = refl
matched_length P (x ∷ xs) (y ∷ ys) h = ap suc (matched_length P xs ys h.1)
matched_length P [] (y ∷ ys) h = elim h [ ]
matched_length P (x ∷ xs) [] h = elim h [ ]

-- a loop that went over all went over all that matches
pub take_whole : {A B : Type 0} (P : A → B → Type 0) (xs : List A) (ys : List B) (i : ℕ) → length xs ≤ i → Matched P xs ys → take i ys ≡ ys
take_whole P xs ys i le h = take_all i ys (omega (arith, le, matched_length P xs ys h))

pub mapped_joined : {A B C : Type 0} (f : B → C) (h : A → List B) (cs : List C) (bs : List B) (xs : List A) (i : ℕ) (x : A) → slice_get xs i ≡ Some x → cs ≡ map f (flat_map h (take i xs)) → bs ≡ h x → cs ++ map f bs ≡ map f (flat_map h (take (i + 1) xs))
mapped_joined f h cs bs xs i x at before here =
    let all = sym (joined_next h (flat_map h (take i xs)) xs i x at refl) in
    let one = append-nil (h x) in
    ap (λ l. l ++ map f bs) before ∙ sym (map-append f (flat_map h (take i xs)) bs) ∙ ap (λ l. map f (flat_map h (take i xs) ++ l)) (here ∙ sym one) ∙ sym (ap (map f) all)

pub mapped_next : {A B C : Type 0} (f : C → B) (g : A → B) (cs : List C) (c : C) (xs : List A) (i : ℕ) (x : A) → slice_get xs i ≡ Some x → map f cs ≡ map g (take i xs) → f c ≡ g x → map f (cs ++ c ∷ []) ≡ map g (take (i + 1) xs)
mapped_next f g cs c xs i x at before here =
    map-append f cs (c ∷ []) ∙ ap (λ l. l ++ f c ∷ []) before ∙ ap (λ y. map g (take i xs) ++ y ∷ []) here ∙ sym (ap (map g) (take_next xs i x at) ∙ map-append g (take i xs) (x ∷ []))
