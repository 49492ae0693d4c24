-- What is written of a name, and the key that it says.
use Rattle.std.proofs.Common.{arith, ◌≡◌, ◌<◌, ℕ, Bool, true, false, not, ◌==◌, nat_le, [], ◌∷◌, length, Option, Some, None, refl, ap, sym, ◌∙◌}
use Rattle.std.specs.List.{list_all}
use Rattle.std.specs.Option.{option_map}
use Rattle.std.proofs.lemmas.Bool.{and_parts}
use Rattle.std.proofs.lemmas.Bool.Decides.{nat_tests}
use Rattle.llvm_core.specs.Names.{is_digit}
use Rattle.ll_literals.specs.Text.{Text}
use Rattle.ll_literals.specs.Names.{is_bare, quoted_name}
use Rattle.ll_literals.specs.Numbers.{number_of, value_after, up_to, is_digits}
use Rattle.ll_literals.proofs.SymbolLaws.{bare_no_digits}
use Rattle.ll_bodies.specs.Scopes.{Named, Numbered, key_of, key_name}
use Rattle.ll_bodies.specs.ScopeViews.{IsNotPlain}

-- ---- bare names

-- a bare name is the key of itself
pub bare_key : (t n : Text) → n ≡ t → is_bare t ≡ true → key_of t ≡ Some (Named n)
bare_key t n same h = let digits = bare_no_digits t h in cc

-- ---- what is neither a bare name nor a number

-- digits say no name
digits_unquoted : (t : Text) → is_digits t ≡ true → quoted_name t ≡ None
digits_unquoted [] h = refl
digits_unquoted (b ∷ bs) h =
    let digits : list_all is_digit (b ∷ bs) ≡ true = (and_parts (not (length (b ∷ bs) == 0)) (list_all is_digit (b ∷ bs)) h).1 in
    let digit : is_digit b ≡ true = (and_parts (is_digit b) (list_all is_digit bs) digits).0 in
    let other : (b == 34) ≡ false = grind (arith, nat_tests) in
    cc

digits_number : (t : Text) → is_digits t ≡ true → (n : ℕ) × (number_of t ≡ Some n)
digits_number [] h = absurd cc
digits_number (b ∷ bs) h =
    let digits : list_all is_digit (b ∷ bs) ≡ true = (and_parts (not (length (b ∷ bs) == 0)) (list_all is_digit (b ∷ bs)) h).1 in
    (value_after 0 (b ∷ bs), rw digits refl)

too_large : (most n : ℕ) → None ≡ up_to most (Some n) → most < n
too_large most n e = by (nat_le n most) refl
  where
    by : (v : Bool) → nat_le n most ≡ v → most < n
    by true is = absurd cc
    by false is = grind (arith, nat_tests)

pub not_plain : (t : Text) → is_bare t ≡ false → None ≡ up_to 4294967295 (number_of t) → IsNotPlain t
not_plain t bare none = by (is_digits t) refl
  where
    by : (v : Bool) → is_digits t ≡ v → IsNotPlain t
    by true is =
        let n = digits_number t is in
        let large = too_large 4294967295 n.0 (none ∙ ap (up_to 4294967295) n.1) in
        IsNotPlain.past n.0 (omega (arith, large)) (rw (is, n.1) refl) (digits_unquoted t is)
    by false is = IsNotPlain.quoted (rw (is, bare) refl)

-- ---- the name that a module keeps

pub quoted_kept : (t : Text) → is_bare t ≡ false → key_name (option_map Named (quoted_name t)) ≡ key_name (key_of t)
quoted_kept t bare = by (is_digits t) refl
  where
    by : (v : Bool) → is_digits t ≡ v → key_name (option_map Named (quoted_name t)) ≡ key_name (key_of t)
    by true is =
        let n = digits_number t is in
        let number : key_of t ≡ Some (Numbered n.0) = rw (is, n.1) refl in
        ap (λ (o : Option Text). key_name (option_map Named o)) (digits_unquoted t is) ∙ sym (ap key_name number)
    by false is = let quoted : key_of t ≡ option_map Named (quoted_name t) = rw (is, bare) refl in ap key_name (sym quoted)
