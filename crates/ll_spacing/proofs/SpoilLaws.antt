-- No byte is kept from a kind of token in vain.
use Rattle.std.proofs.Common.{◌≡◌, ◌<◌, ◌⊎◌, inl, inr, ℕ, ◌+◌, Bool, true, false, ◌||◌, ◌==◌, List, [], ◌∷◌, ◌++◌, length, length-append, append_assoc, codes, refl, sym, ◌∙◌, subst, arith}
use Rattle.std.specs.List.{list_all}
use Rattle.std.proofs.lemmas.Bool.{eqb-true, and_parts}
use Rattle.ll_tokens.specs.Bytes.{is_digit, is_name_byte, is_word_start}
use Rattle.ll_tokens.specs.declared.kinds.Kind.{Kind}
use Rattle.ll_tokens.specs.declared.kinds.Kind.TheVariants.{Global, Local, Label, Word, Int, Float, Comdat, Dots, Str, CStr, Group, Record, MdNum, MdName, MdStr, Bang}
use Rattle.ll_tokens.specs.Pieces.{token, string_at, name_at, bang_at, hash_at, number_at, digits_at, point_at, dots_at, word_at, bare_at, piece_at}
use Rattle.ll_spacing.specs.Following.{goes_on}
use Rattle.ll_spacing.specs.Forms.{AreNameBytes, IsMdName}
use Rattle.ll_spacing.specs.Spacing.{IsWhole, Spoils}
use Rattle.ll_spacing.proofs.FoundLaws.{same_len}
use Rattle.ll_spacing.proofs.WholeLaws.{bare_name, bang_number, bang_name, name_piece, name_label}
use Rattle.ll_spacing.proofs.WholeFloatLaws.{all_both}
use Rattle.ll_spacing.proofs.TextLaws.{group_whole, record_whole}

either : (x y : Bool) → (x || y) ≡ true → (x ≡ true) ⊎ (y ≡ true)
either true y e = inl refl
either false y e = inr e

-- a list of one
alone : (p : ℕ → Bool) (b : ℕ) → p b ≡ true → list_all p (b ∷ []) ≡ true
alone p b e = rw e refl

-- a token that becomes longer
longer : (k : Kind) (b : ℕ) (text after : List ℕ) (j : Kind) (n : ℕ) → IsWhole k text → piece_at (text ++ b ∷ after) ≡ token j n → length text < n → Spoils k b
longer k b text after j n whole piece more = record {
  text = text;
  after = after;
  whole = whole;
  other = λ e. let len : n ≡ length text = same_len j k n (length text) (sym piece ∙ e) in omega arith;
}

-- a byte of a name and a colon, or the colon alone, make a label
name_spoils : (k : Kind) (b x : ℕ) (xs : List ℕ) → IsWhole k (x ∷ xs) → AreNameBytes (x ∷ xs) → is_name_byte b ≡ true → Spoils k b
name_spoils k b x xs whole names e =
    let all : AreNameBytes (x ∷ xs ++ b ∷ []) = all_both is_name_byte (x ∷ xs) (b ∷ []) names (alone is_name_byte b e) in
    let first = (and_parts (is_name_byte x) (list_all is_name_byte xs) names).0 in
    let same : xs ++ b ∷ [] ++ 58 ∷ [] ≡ xs ++ b ∷ 58 ∷ [] = append_assoc xs (b ∷ []) (58 ∷ []) in
    let label = name_piece x (xs ++ b ∷ [] ++ 58 ∷ []) first ∙ name_label x (xs ++ b ∷ []) all in
    longer k b (x ∷ xs) (58 ∷ []) Label (2 + length (xs ++ b ∷ [])) whole (subst (λ (l : List ℕ). piece_at (x ∷ l) ≡ token Label (2 + length (xs ++ b ∷ []))) same label)
    (omega (arith, length-append xs (b ∷ [])))

colon_spoils : (k : Kind) (b x : ℕ) (xs : List ℕ) → IsWhole k (x ∷ xs) → AreNameBytes (x ∷ xs) → (b == 58) ≡ true → Spoils k b
colon_spoils k b x xs whole names e =
    let first = (and_parts (is_name_byte x) (list_all is_name_byte xs) names).0 in
    let label = name_piece x (xs ++ 58 ∷ []) first ∙ name_label x xs names in
    subst (λ (c : ℕ). Spoils k c) (sym (eqb-true b 58 e)) (longer k 58 (x ∷ xs) [] Label (2 + length xs) whole label (omega arith))

bare_spoils : (k : Kind) (b x : ℕ) (xs : List ℕ) → IsWhole k (x ∷ xs) → AreNameBytes (x ∷ xs) → (is_name_byte b || b == 58) ≡ true → Spoils k b
bare_spoils k b x xs whole names e = elim (either (is_name_byte b) (b == 58) e) [
  | inl name ↦ name_spoils k b x xs whole names name
  | inr colon ↦ colon_spoils k b x xs whole names colon
]

-- one byte, by its number
at_byte : (k : Kind) (b c : ℕ) → (b == c) ≡ true → Spoils k c → Spoils k b
at_byte k b c e spoils = subst (λ (x : ℕ). Spoils k x) (sym (eqb-true b c e)) spoils

word_spoils : (b : ℕ) → goes_on Word b ≡ true → Spoils Word b
unfolding piece_at bare_at word_at
word_spoils b e = elim (either (is_name_byte b || b == 58) (b == 34) e) [
  | inl bare ↦ bare_spoils Word b 97 [] refl refl bare
  | inr quote ↦ at_byte Word b 34 quote (longer Word 34 (codes "c") (codes "\"") CStr 3 refl refl (omega arith))
]

md_name_spoils : (b : ℕ) → goes_on MdName b ≡ true → Spoils MdName b
unfolding piece_at bang_at
md_name_spoils b e = elim (either (is_name_byte b) (b == 92) e) [
  | inl name ↦ longer MdName b (codes "!a") [] MdName 3 refl (bang_name 97 (b ∷ []) refl (IsMdName.byte 97 (b ∷ []) refl (IsMdName.byte b [] name IsMdName.nothing))) (omega arith)
  | inr backslash ↦ at_byte MdName b 92 backslash (longer MdName 92 (codes "!a") (codes "00") MdName 5 refl refl (omega arith))
]

bang_name_spoils : (b : ℕ) (d : Bool) → is_digit b ≡ d → is_name_byte b ≡ true → Spoils Bang b
unfolding piece_at bang_at
bang_name_spoils b true digit name = longer Bang b (codes "!") [] MdNum 2 refl (bang_number b [] (alone is_digit b digit)) (omega arith)
bang_name_spoils b false digit name = longer Bang b (codes "!") [] MdName 2 refl (bang_name b [] digit (IsMdName.byte b [] name IsMdName.nothing)) (omega arith)

bang_spoils : (b : ℕ) → goes_on Bang b ≡ true → Spoils Bang b
unfolding piece_at bang_at
bang_spoils b e = elim (either (is_name_byte b || b == 92) (b == 34) e) [
  | inl other ↦ elim (either (is_name_byte b) (b == 92) other) [
    | inl name ↦ bang_name_spoils b (is_digit b) refl name
    | inr backslash ↦ at_byte Bang b 92 backslash (longer Bang 92 (codes "!") (codes "00") MdName 4 refl refl (omega arith))
  ]
  | inr quote ↦ at_byte Bang b 34 quote (longer Bang 34 (codes "!") (codes "\"") MdStr 3 refl refl (omega arith))
]

pub spoils : (k : Kind) (b : ℕ) → goes_on k b ≡ true → Spoils k b
unfolding piece_at name_at string_at hash_at bang_at bare_at number_at digits_at point_at dots_at
spoils Global b e = longer Global b (codes "@a") [] Global 3 refl (bare_name Global 97 (b ∷ []) refl (alone is_name_byte b e)) (omega arith)
spoils Local b e = longer Local b (codes "%a") [] Local 3 refl (bare_name Local 97 (b ∷ []) refl (alone is_name_byte b e)) (omega arith)
spoils Word b e = word_spoils b e
spoils Int b e = bare_spoils Int b 49 [] refl refl e
spoils Float b e = bare_spoils Float b 49 (46 ∷ []) refl refl e
spoils Comdat b e = bare_spoils Comdat b 36 [] refl refl e
spoils Dots b e = bare_spoils Dots b 46 (46 ∷ 46 ∷ []) refl refl e
spoils Str b e = at_byte Str b 58 e (longer Str 58 (codes "\"\"") [] Label 3 refl refl (omega arith))
spoils Group b e = longer Group b (codes "#1") [] Group 3 refl (group_whole 49 (b ∷ []) (alone is_digit b e)) (omega arith)
spoils Record b e = longer Record b (codes "#dbg_a") [] Record 7 refl (record_whole 97 (b ∷ []) (alone is_word_start b e)) (omega arith)
spoils MdNum b e = longer MdNum b (codes "!1") [] MdNum 3 refl (bang_number 49 (b ∷ []) (alone is_digit b e)) (omega arith)
spoils MdName b e = md_name_spoils b e
spoils Bang b e = bang_spoils b e
spoils other b e = absurd (let f : false ≡ true = e in cc)
