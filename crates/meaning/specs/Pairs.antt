-- Lists and options, item by item.
use Rattle.std.specs.Prelude.{List, [], ◌∷◌, Option, Some, None}

abbrev pub Matched : {A B : Type 0} → (A → B → Type 0) → List A → List B → Type 0
Matched P [] [] = Unit {0}
Matched P (x ∷ xs) (y ∷ ys) = P x y × Matched P xs ys
Matched P [] (y ∷ ys) = ⊥
Matched P (x ∷ xs) [] = ⊥

abbrev pub BothOrNone : {A B : Type 0} → (A → B → Type 0) → Option A → Option B → Type 0
BothOrNone P None None = Unit {0}
BothOrNone P (Some x) (Some y) = P x y
BothOrNone P None (Some y) = ⊥
BothOrNone P (Some x) None = ⊥
