-- Lists of which each item means something.
use Rattle.std.proofs.Common.{◌≡◌, ℕ, suc, List, [], ◌∷◌, map, slice_get, Option, Some, refl}
use Rattle.std.specs.List.{AllByRecursion}
use Rattle.ll_bodies.specs.Meaning.{all_of}

-- what holds at each place holds of each item
pub all_at : {X : Type 0} (P : X → Type 0) (xs : List X) → ((i : ℕ) (x : X) → slice_get xs i ≡ Some x → P x) → AllByRecursion P xs
all_at P [] h = tt
all_at P (x ∷ xs) h = (h 0 x refl, all_at P xs (λ i y at. h (suc i) y at))

-- what is said of each item is read as the item
pub all_of-map : {A B : Type 0} (f : A → Option B) (g : B → A) (xs : List B) → ((i : ℕ) (x : B) → slice_get xs i ≡ Some x → f (g x) ≡ Some x) → all_of f (map g xs) ≡ Some xs
all_of-map f g [] h = refl
all_of-map f g (x ∷ xs) h = rw (h 0 x refl, all_of-map f g xs (λ i y at. h (suc i) y at)) refl
