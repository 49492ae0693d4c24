-- Lists that are printed one item after another, the first of them in its own way.
use Rattle.std.proofs.Common.{◌≡◌, ◌≢◌, ℕ, zero, suc, ◌+◌, ◌<◌, ◌≤◌, codes, List, [], ◌∷◌, ◌++◌, length, map, take, get_or, slice_get, Some, refl, ap, sym, ◌∙◌, append_assoc, arith}
use Rattle.std.specs.List.{flat_map}
use Rattle.std.specs.Option.{option_map}
use Rattle.std.proofs.lemmas.List.{append-nil, take_all, length-map}
use Rattle.std.proofs.lemmas.Option.{slice_get-get_or, slice_get-map, slice_get_within, same_Some}
use Rattle.support.proofs.ListLaws.{flat_map-take_more}
use Rattle.llvm_core.specs.Data.{Operand, Function, Struct}
use Rattle.ll_print.specs.Printing.{entry_text, entries_text, operand_text, value_text, operands_text, values_text, target_text, targets_text, comma_text}

-- ---- a first item and further ones

module _ {X : Type 0} (first next : X → List ℕ) where
  abbrev pub strung : List X → List ℕ
  strung [] = []
  strung (x ∷ xs) = first x ++ flat_map next xs

  -- what is printed of the item at a place
  abbrev pub piece : ℕ → X → List ℕ
  piece zero x = first x
  piece (suc i) x = next x

  -- the first item, and one behind it
  pub first_put : (i : ℕ) (x : X) (now new : List ℕ) → i ≡ 0 → new ≡ now ++ first x → new ≡ now ++ piece i x
  first_put zero x now new e h = h
  first_put (suc i) x now new e h = absurd cc

  pub next_put : (i : ℕ) (x : X) (now new : List ℕ) → i ≢ 0 → new ≡ now ++ next x → new ≡ now ++ piece i x
  next_put zero x now new e h = absurd (e refl)
  next_put (suc i) x now new e h = h

  further : (i : ℕ) (xs : List X) (x : X) → slice_get xs i ≡ Some x → flat_map next (take (i + 1) xs) ≡ flat_map next (take i xs) ++ next x
  further i xs x at =
      let within = slice_get_within xs i x at in
      let here : get_or xs i x ≡ x = same_Some (get_or xs i x) x (sym (slice_get-get_or xs i x within) ∙ at) in
      flat_map-take_more next xs i x within ∙ ap (λ (y : X). flat_map next (take i xs) ++ next y) here

  -- one more of them
  strung_more : (i : ℕ) (xs : List X) (x : X) → slice_get xs i ≡ Some x → strung (take (i + 1) xs) ≡ strung (take i xs) ++ piece i x
  strung_more i [] x at = absurd cc
  strung_more zero (y ∷ xs) x at = rw (same_Some y x at) (append-nil (first x))
  strung_more (suc i) (y ∷ xs) x at =
      let fronts : take (suc i + 1) (y ∷ xs) ≡ y ∷ take (i + 1) xs = let n : suc i + 1 ≡ suc (i + 1) = omega arith in rw n refl in
      ap strung fronts ∙ ap (λ (t : List ℕ). first y ++ t) (further i xs x at) ∙ sym (append_assoc (first y) (flat_map next (take i xs)) (next x))

  -- one item further, of what a list is read as
  pub strung_put : {Y : Type 0} (g : Y → X) (ys : List Y) (i : ℕ) (d : Y) (old now new : List ℕ) → i < length ys → now ≡ old ++ strung (take i (map g ys)) → new ≡ now ++ piece i (g (get_or ys i d)) → new ≡ old ++ strung (take (i + 1) (map g ys))
  strung_put g ys i d old now new within e1 e2 =
      let at : slice_get (map g ys) i ≡ Some (g (get_or ys i d)) = slice_get-map g ys i ∙ ap (option_map g) (slice_get-get_or ys i d within) in
      joined (strung (take i (map g ys))) (piece i (g (get_or ys i d))) _ (strung_more i (map g ys) (g (get_or ys i d)) at) e1 e2
    where
      joined : (a b all : List ℕ) → all ≡ a ++ b → now ≡ old ++ a → new ≡ now ++ b → new ≡ old ++ all
      joined a b all e e1 e2 = rw (e2, e1, e) (append_assoc old a b)

  -- all of them
  pub strung_all : {Y : Type 0} (g : Y → X) (ys : List Y) (i : ℕ) (old new : List ℕ) → length ys ≤ i → new ≡ old ++ strung (take i (map g ys)) → new ≡ old ++ strung (map g ys)
  strung_all g ys i old new all e =
      let count : length (map g ys) ≤ i = rw (length-map ys g) all in
      e ∙ ap (λ (xs : List X). old ++ strung xs) (take_all i (map g ys) count)

-- a comma and a blank between items
abbrev pub behind_comma : {X : Type 0} (g : X → List ℕ) → X → List ℕ
behind_comma g x = codes ", " ++ g x

comma_piece : {X : Type 0} (g : X → List ℕ) (i : ℕ) (x : X) → comma_text i ++ g x ≡ piece g (behind_comma g) i x
comma_piece g zero x = refl
comma_piece g (suc i) x = refl

-- the item at a place is printed behind its comma
pub comma_put : {X : Type 0} (g : X → List ℕ) (i : ℕ) (x : X) (now comma new : List ℕ) → comma ≡ now ++ comma_text i → new ≡ comma ++ g x → new ≡ now ++ piece g (behind_comma g) i x
comma_put g i x now comma new e1 e2 = joined (comma_text i) (g x) _ (comma_piece g i x) e1 e2
  where
    joined : (a b all : List ℕ) → a ++ b ≡ all → comma ≡ now ++ a → new ≡ comma ++ b → new ≡ now ++ all
    joined a b all e e1 e2 = rw (e2, e1, sym e) (append_assoc now a b)

-- ---- entries, targets and operands

pub entries_strung : (ss : List Struct) (f : Function) (es : List (Operand × ℕ)) → strung (entry_text ss f) (behind_comma (entry_text ss f)) es ≡ entries_text ss f es
entries_strung ss f [] = refl
entries_strung ss f (e ∷ es) = refl

pub targets_strung : (f : Function) (ns : List ℕ) → strung (target_text f) (behind_comma (target_text f)) ns ≡ targets_text f ns
targets_strung f [] = refl
targets_strung f (n ∷ ns) = refl

pub operands_strung : (ss : List Struct) (f : Function) (os : List Operand) → strung (value_text ss f) (behind_comma (operand_text ss f)) os ≡ operands_text ss f os
operands_strung ss f [] = refl
operands_strung ss f (o ∷ os) = refl

pub values_strung : (ss : List Struct) (f : Function) (os : List Operand) → strung (value_text ss f) (behind_comma (value_text ss f)) os ≡ values_text ss f os
values_strung ss f [] = refl
values_strung ss f (o ∷ os) = refl
