-- Lists of things, each of which may mean nothing, as they are made one after another.
use Rattle.std.proofs.Common.{◌≡◌, ◌≤◌, ℕ, suc, List, [], ◌∷◌, ◌++◌, Option, Some, None, map, drop, length, slice_get, refl, ap, sym, ◌∙◌}
use Rattle.std.proofs.lemmas.List.{drop_all, append-nil, append_assoc, map-append}
use Rattle.ll_literals.specs.Chain.{◌>>=◌}
use Rattle.ll_bodies.specs.Meaning.{all_of}
use Rattle.ll_bodies.proofs.BlockLaws.{drop_at}

pub then_some : {B : Type 0} (r : Option (List B)) (y : B) (done : List B) → ((r >>= λ ys. Some (y ∷ ys)) >>= λ zs. Some (done ++ zs)) ≡ (r >>= λ ys. Some ((done ++ y ∷ []) ++ ys))
then_some None y done = refl
then_some (Some ys) y done = ap (λ zs. Some zs) (sym (append_assoc done (y ∷ []) ys))

whole : {B : Type 0} (r : Option (List B)) → r ≡ (r >>= λ zs. Some ([] ++ zs))
whole None = refl
whole (Some zs) = refl

module _ {X A B Y : Type 0} (view : X → A) (f : A → Option B) (out : Y → B) where
  -- so much of the list has been made
  pub record Done (xs : List X) (at : ℕ) (ys : List Y) : Type 0 where
    pub is : all_of f (map view xs) ≡ (all_of f (map view (drop at xs)) >>= λ zs. Some (map out ys ++ zs))

  pub done_more : (xs : List X) (at next : ℕ) (ys : List Y) (x : X) (y : Y) → slice_get xs at ≡ Some x → next ≡ suc at → f (view x) ≡ Some (out y) → Done xs at ys → Done xs next (ys ++ y ∷ [])
  done_more xs at next ys x y h e is d = rw e (record {
    is =
        d.is
        ∙ ap (λ zs. all_of f (map view zs) >>= λ ws. Some (map out ys ++ ws)) (drop_at xs at x h)
        ∙ ap (λ o. (o >>= λ z. all_of f (map view (drop (suc at) xs)) >>= λ zs. Some (z ∷ zs)) >>= λ ws. Some (map out ys ++ ws)) is
        ∙ then_some (all_of f (map view (drop (suc at) xs))) (out y) (map out ys)
        ∙ ap (λ ws. all_of f (map view (drop (suc at) xs)) >>= λ zs. Some (ws ++ zs)) (sym (map-append out ys (y ∷ [])));
  })

  pub done_all : (xs : List X) (at : ℕ) (ys : List Y) → length xs ≤ at → Done xs at ys → all_of f (map view xs) ≡ Some (map out ys)
  done_all xs at ys past d = d.is ∙ ap (λ zs. all_of f (map view zs) >>= λ ws. Some (map out ys ++ ws)) (drop_all at xs past) ∙ ap (λ zs. Some zs) (append-nil (map out ys))

  pub done_refused : (xs : List X) (at : ℕ) (ys : List Y) (x : X) → slice_get xs at ≡ Some x → f (view x) ≡ None → Done xs at ys → all_of f (map view xs) ≡ None
  done_refused xs at ys x h is d =
      d.is
      ∙ ap (λ zs. all_of f (map view zs) >>= λ ws. Some (map out ys ++ ws)) (drop_at xs at x h)
      ∙ ap (λ o. (o >>= λ z. all_of f (map view (drop (suc at) xs)) >>= λ zs. Some (z ∷ zs)) >>= λ ws. Some (map out ys ++ ws)) is

  -- nothing has been made of the list yet
  pub none_made : (xs : List X) → Done xs 0 []
  none_made xs = record { is = whole (all_of f (map view xs)) }

  pub one_made : (xs : List X) (x : X) (y : Y) → length xs ≤ 1 → slice_get xs 0 ≡ Some x → f (view x) ≡ Some (out y) → all_of f (map view xs) ≡ Some (map out (y ∷ []))
  one_made xs x y few h e = done_all xs 1 (y ∷ []) few (done_more xs 0 1 [] x y h refl e (none_made xs))

  pub two_made : (xs : List X) (x w : X) (y z : Y) → length xs ≤ 2 → slice_get xs 0 ≡ Some x → slice_get xs 1 ≡ Some w → f (view x) ≡ Some (out y) → f (view w) ≡ Some (out z) → all_of f (map view xs) ≡ Some (map out (y ∷ z ∷ []))
  two_made xs x w y z few h i e g = done_all xs 2 (y ∷ z ∷ []) few (done_more xs 1 2 (y ∷ []) w z i refl g (done_more xs 0 1 [] x y h refl e (none_made xs)))

-- the same, of a list that is made of what is there
module _ {A B : Type 0} (f : A → Option B) where
  -- so much of the list has been made
  pub record Gone (xs : List A) (at : ℕ) (ys : List B) : Type 0 where
    pub is : all_of f xs ≡ (all_of f (drop at xs) >>= λ zs. Some (ys ++ zs))

  pub gone_none : (xs : List A) → Gone xs 0 []
  gone_none xs = record { is = whole (all_of f xs) }

  pub gone_more : (xs : List A) (at next : ℕ) (ys : List B) (x : A) (y : B) → slice_get xs at ≡ Some x → next ≡ suc at → f x ≡ Some y → Gone xs at ys → Gone xs next (ys ++ y ∷ [])
  gone_more xs at next ys x y h e is d = rw e (record {
    is =
        d.is
        ∙ ap (λ zs. all_of f zs >>= λ ws. Some (ys ++ ws)) (drop_at xs at x h)
        ∙ ap (λ o. (o >>= λ z. all_of f (drop (suc at) xs) >>= λ zs. Some (z ∷ zs)) >>= λ ws. Some (ys ++ ws)) is
        ∙ then_some (all_of f (drop (suc at) xs)) y ys;
  })

  pub gone_all : (xs : List A) (at : ℕ) (ys : List B) → length xs ≤ at → Gone xs at ys → all_of f xs ≡ Some ys
  gone_all xs at ys past d = d.is ∙ ap (λ zs. all_of f zs >>= λ ws. Some (ys ++ ws)) (drop_all at xs past) ∙ ap (λ zs. Some zs) (append-nil ys)

  pub gone_refused : (xs : List A) (at : ℕ) (ys : List B) (x : A) → slice_get xs at ≡ Some x → f x ≡ None → Gone xs at ys → all_of f xs ≡ None
  gone_refused xs at ys x h is d =
      d.is
      ∙ ap (λ zs. all_of f zs >>= λ ws. Some (ys ++ ws)) (drop_at xs at x h)
      ∙ ap (λ o. (o >>= λ z. all_of f (drop (suc at) xs) >>= λ zs. Some (z ∷ zs)) >>= λ ws. Some (ys ++ ws)) is
