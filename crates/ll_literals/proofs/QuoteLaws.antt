-- A name or a text that is printed says itself.
use Rattle.std.proofs.Common.{arith, ◌≡◌, ℕ, zero, suc, ◌-◌, Bool, true, false, not, [], ◌∷◌, ◌++◌, length, length-append, take, slice_index_or, Some, refl, ap}
use Rattle.std.specs.Str.{is_utf8}
use Rattle.std.proofs.lemmas.Bool.{and_parts}
use Rattle.llvm_core.specs.Checked.{is_bad_name}
use Rattle.ll_literals.specs.Text.{Text}
use Rattle.ll_literals.specs.Escapes.{escaped}
use Rattle.ll_literals.specs.Names.{is_bare, is_name, inside, quoted_name, name_said, text_said, quoted, printed_text, printed_name}
use Rattle.ll_literals.proofs.EscapeLaws.{escaped_says}
use Rattle.ll_literals.proofs.TextBytes.{utf8_bytes}

last_quote : (u : Text) (n : ℕ) → n ≡ length u → slice_index_or (u ++ 34 ∷ []) n 0 ≡ 34
last_quote [] zero e = refl
last_quote [] (suc n) e = absurd (omega (arith, e))
last_quote (b ∷ u) zero e = absurd (omega (arith, e))
last_quote (b ∷ u) (suc n) e = last_quote u n (omega (arith, e))

before_quote : (u : Text) (n : ℕ) → n ≡ length u → take n (u ++ 34 ∷ []) ≡ u
before_quote [] zero e = refl
before_quote [] (suc n) e = absurd (omega (arith, e))
before_quote (b ∷ u) zero e = absurd (omega (arith, e))
before_quote (b ∷ u) (suc n) e = ap (λ (x : Text). b ∷ x) (before_quote u n (omega (arith, e)))

-- what stands between quotes
pub inside_quoted : (u : Text) → inside (quoted u) ≡ Some u
inside_quoted u =
    let n : length (u ++ 34 ∷ []) - 1 ≡ length u = omega (arith, length-append u (34 ∷ [])) in
    let last = last_quote u (length (u ++ 34 ∷ []) - 1) n in
    let front = before_quote u (length (u ++ 34 ∷ []) - 1) n in
    cc

-- a text that is printed between quotes is said by them
pub text_says : (t : Text) → is_utf8 t ≡ true → text_said (printed_text t) ≡ Some t
text_says t utf8 = let is = inside_quoted (escaped t) in let says = escaped_says t (utf8_bytes t utf8) in cc

name_utf8 : (n : Text) → is_name n ≡ true → is_utf8 n ≡ true
name_utf8 n name = (and_parts (not (is_bad_name n)) (is_utf8 n) name).1

quoted_says : (n : Text) → is_name n ≡ true → quoted_name (printed_text n) ≡ Some n
quoted_says n name = let says = text_says n (name_utf8 n name) in cc

-- no bare name begins with a quote
quote_not_bare : (u : Text) → is_bare (quoted u) ≡ false
quote_not_bare u = refl

-- a name that is printed says itself
pub name_says : (n : Text) → is_name n ≡ true → name_said (printed_name n) ≡ Some n
name_says n name = by (is_bare n) refl
  where
    by : (v : Bool) → is_bare n ≡ v → name_said (printed_name n) ≡ Some n
    by true is = cc
    by false is = let says = quoted_says n name in let not_bare = quote_not_bare (escaped n) in cc
