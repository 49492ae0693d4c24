-- What may follow every kind of token.
use Rattle.std.proofs.Common.{◌≡◌, ◌↔◌, ◌<◌, ◌≤◌, ℕ, Bool, true, false, not, ◌||◌, ◌==◌, IsTrue, List, [], ◌∷◌, ◌++◌, length, slice_index, Option, Some, refl, sym, subst, arith}
use Rattle.std.specs.List.{list_all}
use Rattle.std.proofs.lemmas.List.{append-nil}
use Rattle.std.proofs.lemmas.Bool.{and_parts}
use Rattle.std.proofs.lemmas.Bool.Decides.{nat_tests}
use Rattle.ll_tokens.specs.Bytes.{is_blank, is_digit, is_name_byte, is_word_start}
use Rattle.ll_tokens.specs.declared.kinds.Kind.{Kind}
use Rattle.ll_tokens.specs.declared.kinds.Kind.TheVariants.{Global, Local, Word, Int, Float, Comdat, Dots, Str, Group, Record, MdNum, MdName, Bang}
use Rattle.ll_spacing.specs.Following.{goes_on, may_follow, Stops}
use Rattle.ll_spacing.specs.Spacing.{AreBlanks, IsApart}

-- no byte of a name, no colon, no quote and no backslash
abbrev pub is_plain : ℕ → Bool
is_plain b = not (is_name_byte b || b == 58 || b == 34 || b == 92)

record IsPlain (b : ℕ) : Type 0 where
  pub name : is_name_byte b ≡ false
  pub digit : is_digit b ≡ false
  pub start : is_word_start b ≡ false
  pub colon : (b == 58) ≡ false
  pub quote : (b == 34) ≡ false
  pub backslash : (b == 92) ≡ false

parts : (b : ℕ) → is_plain b ≡ true → IsPlain b
parts b e = record {
  name = grind (arith, nat_tests);
  digit = grind (arith, nat_tests);
  start = grind (arith, nat_tests);
  colon = grind (arith, nat_tests);
  quote = grind (arith, nat_tests);
  backslash = grind (arith, nat_tests);
}

follows : (k : Kind) (b : ℕ) → IsPlain b → goes_on k b ≡ false
follows Global b p = p.name
follows Local b p = p.name
follows Word b p = rw (p.name, p.colon, p.quote) refl
follows Int b p = rw (p.name, p.colon) refl
follows Float b p = rw (p.name, p.colon) refl
follows Comdat b p = rw (p.name, p.colon) refl
follows Dots b p = rw (p.name, p.colon) refl
follows Str b p = p.colon
follows Group b p = p.digit
follows Record b p = p.start
follows MdNum b p = p.digit
follows MdName b p = rw (p.name, p.backslash) refl
follows Bang b p = rw (p.name, p.backslash, p.quote) refl
follows other b p = refl

pub plain_follows : (k : Kind) (b : ℕ) → is_plain b ≡ true → goes_on k b ≡ false
plain_follows k b e = follows k b (parts b e)

pub blank_follows : (k : Kind) (b : ℕ) → is_blank b ≡ true → goes_on k b ≡ false
blank_follows k b e = plain_follows k b (let plain : is_plain b ≡ true = grind (arith, nat_tests) in plain)

pub blanks_follow : (k : Kind) (bs : List ℕ) → AreBlanks bs → Stops (goes_on k) bs
blanks_follow k [] e = tt
blanks_follow k (b ∷ bs) e = blank_follows k b (and_parts (is_blank b) (list_all is_blank bs) e).0

-- ---- the first byte of a text tells whether it may follow

not_iff : (r c : Bool) → r ≡ not c → IsTrue r ↔ (c ≡ false)
not_iff true true e = absurd cc
not_iff true false e = (λ _. refl, λ _. refl)
not_iff false true e = (λ t. absurd (let g : false ≡ true = t in cc), λ f. absurd (let g : true ≡ false = f in cc))
not_iff false false e = absurd cc

pub first_tells : (last : Option Kind) (k : Kind) (r : Bool) (bytes after : List ℕ) → last ≡ Some k → r ≡ may_follow k (slice_index bytes 0) → 1 ≤ length bytes → IsTrue r ↔ IsApart last (bytes ++ after)
first_tells last k r [] after is e some = absurd (omega arith)
first_tells last k r (b ∷ bs) after is e some = subst (λ (l : Option Kind). IsTrue r ↔ IsApart l (b ∷ bs ++ after)) (sym is) (not_iff r (goes_on k b) e)

pub text_tells : (last : Option Kind) (k : Kind) (r : Bool) (before text : List ℕ) → length before < 1 → last ≡ Some k → r ≡ may_follow k (slice_index text 0) → 1 ≤ length text → IsTrue r ↔ IsApart last (before ++ text)
text_tells last k r (b ∷ bs) text none is e some = absurd (omega arith)
text_tells last k r [] text none is e some = let same : text ++ [] ≡ text = append-nil text in rw same at (first_tells last k r text [] is e some)
