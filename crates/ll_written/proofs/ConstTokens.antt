-- The tokens of a constant: that they are spaced, and their text.
use Rattle.std.proofs.Common.{◌≡◌, ◌≤◌, ◌<◌, ◌^◌, ℕ, zero, suc, Bool, true, false, cond, if◌then◌else◌, ◌==◌, ◌-◌, nat_le, nat_lt, List, [], ◌∷◌, ◌++◌, Option, Some, codes, append_assoc, refl, sym, ap, subst, ◌∙◌, arith}
use Rattle.std.specs.Prelude.{decimal}
use Rattle.std.proofs.lemmas.Bool.{ltb-false, leb-true, eqb-true}
use Rattle.std.proofs.lemmas.List.{append-nil}
use Rattle.std.proofs.lemmas.Nat.{pow_pos}
use Rattle.std.proofs.Math.Nat.{pow-le-pow_right}
use Rattle.kinds.specs.declared.fill.Fill.{Fill}
use Rattle.kinds.specs.declared.fill.Fill.TheVariants as Z
use Rattle.kinds.specs.declared.types.StructLayout.TheVariants as S
use Rattle.kinds.specs.Fitting.{is_pointer}
use Rattle.kinds.specs.Types.{TypeTree, shape}
use Rattle.llvm_core.specs.Data.{ConstTree}
use Rattle.llvm_core.specs.Parts.{IsIntAt}
use Rattle.ll_lines.specs.declared.lines.Brackets.TheVariants as B
use Rattle.ll_lines.specs.Lines as L
use Rattle.ll_lines.specs.Lines.{Text, SaidConst, SaidConsts}
use Rattle.ll_spacing.specs.Forms.{IsText}
use Rattle.ll_spacing.specs.Spacing.{Spaced, AreSpacedBehind, text_of}
use Rattle.ll_spacing.proofs.FollowLaws.{plain_follows}
use Rattle.ll_spacing.proofs.SignLaws.{sign_whole}
use Rattle.ll_tokens.specs.Pieces.{sign_at}
use Rattle.ll_tokens.specs.declared.kinds.Kind.{Kind}
use Rattle.ll_tokens.specs.declared.kinds.Kind.TheVariants as T
use Rattle.ll_written.specs.Printing.{int_text, filled_text, signed_text, plain_text, type_text, said_type, said_text, elements_text, next_elements_text}
use Rattle.ll_written.specs.Written.{token, apart, close, int_kind, const_kind, before_end, written_type, written_const, written_elements, next_elements}
use Rattle.ll_written.specs.Writable.{IsSayableType, IsConstOf, an_int, a_filled, IsSaidConst, AreElements}
use Rattle.ll_written.proofs.FreeLaws.{AreFree, IsFree, none_free, then_free, one_free, both_free, spaced_then, gap_free, apart_free, word_free, sign_free, sign_close, comma_free}
use Rattle.ll_written.proofs.NumberForms.{wide_text, minus_text}
use Rattle.ll_written.proofs.TypeTokens.{type_free, type_opened, bracket_close, angle_close, text_both, type_written}

-- ---- one word or number

signed_by : (w n : ℕ) (b : Bool) → w ≤ 128 → IsIntAt w n → nat_lt n (2 ^ (w - 1)) ≡ b → IsText T.Int (cond b (decimal n) (45 ∷ decimal (2 ^ w - n)))
signed_by w n true most fits e = wide_text n fits.1
signed_by w n false most fits e =
    let high : 2 ^ (w - 1) ≤ n = ltb-false n (2 ^ (w - 1)) e in
    let pos = pow_pos (w - 1) in
    let wide : 2 ^ w ≤ 2 ^ 128 = pow-le-pow_right {n = 2} (omega arith) {i = w} {j = 128} most in
    minus_text (2 ^ w - n) (omega (arith, high, pos, wide))

bit_text : (n : ℕ) → n < 2 → IsText T.Word (int_text 1 n)
bit_text zero h = IsText.word (codes "false") refl
bit_text (suc zero) h = IsText.word (codes "true") refl
bit_text (suc (suc n)) h = absurd (omega arith)

-- up to 128 bits with its sign, past that without
many_by : (w n : ℕ) (b : Bool) → IsIntAt w n → (w == 1) ≡ false → nat_le w 128 ≡ b → IsText T.Int (int_text w n)
many_by w n true fits e g =
    let same : signed_text w n ≡ int_text w n = rw (e, g) refl in
    subst (λ (t : Text). IsText T.Int t) same (signed_by w n (nat_lt n (2 ^ (w - 1))) (leb-true w 128 g) fits refl)
many_by w n false fits e g =
    let same : decimal n ≡ int_text w n = rw (e, g) refl in
    subst (λ (t : Text). IsText T.Int t) same (wide_text n fits.1)

int_by : (w n : ℕ) (b : Bool) → IsIntAt w n → (w == 1) ≡ b → IsText (int_kind w) (int_text w n)
int_by w n true fits e =
    let one : 1 ≡ w = sym (eqb-true w 1 e) in
    let below = fits.0 in
    let small : n < 2 = rw (← one) at below in
    subst (λ (v : ℕ). IsText (int_kind v) (int_text v n)) one (bit_text n small)
int_by w n false fits e =
    let kind : T.Int ≡ int_kind w = rw e refl in
    subst (λ (k : Kind). IsText k (int_text w n)) kind (many_by w n (nat_le w 128) fits e refl)

-- a constant of any type is a word
filled_word : (fill : Fill) (τ : TypeTree) → IsText T.Word (filled_text fill τ)
filled_word Z.Zero τ = by (is_pointer (shape τ))
  where
    by : (b : Bool) → IsText T.Word (if b then codes "null" else codes "zeroinitializer")
    by true = IsText.word (codes "null") refl
    by false = IsText.word (codes "zeroinitializer") refl
filled_word Z.Undef τ = IsText.word (codes "undef") refl
filled_word Z.Poison τ = IsText.word (codes "poison") refl

plain_form : (τ : TypeTree) (c : ConstTree) → IsConstOf τ c → IsText (const_kind c) (plain_text c)
plain_form τ c (an_int w n fits) = int_by w n (w == 1) fits refl
plain_form τ c (a_filled fill υ own) = filled_word fill υ

-- ---- their spacing

-- the brace behind elements
end_free : (cs : SaidConsts) → IsFree (token (before_end cs) T.CloseBrace (codes "}"))
unfolding sign_at
end_free L.NoneSaid = gap_free 32 (codes " ") T.CloseBrace (codes "}") refl (sign_whole T.CloseBrace 125 refl)
end_free (L.ThenSaid c cs) = sign_free T.CloseBrace 125 refl

paren_close : IsFree (close T.CloseParen (codes ")"))
unfolding sign_at
paren_close = sign_close T.CloseParen 41 refl (λ j. plain_follows j 41 refl)

-- a sign, and what may stand behind it
sign_then : (k : Kind) (b : ℕ) (xs : List Spaced) → IsFree (apart k (b ∷ [])) → AreSpacedBehind (Some k) xs → AreFree (apart k (b ∷ []) ∷ xs)
sign_then k b xs sign behind = record { behind = λ last. (sign last, behind) }

-- a type may stand there
abbrev MayBegin : (last : Option Kind) (b : Text) → Type 0
MayBegin last b = (τ : TypeTree) → IsSayableType τ → AreSpacedBehind last (written_type b τ)

blank_begins : (last : Option Kind) → MayBegin last (codes " ")
blank_begins last τ h = (type_free τ h).behind last

mutual
  unfolding written_const written_elements next_elements sign_at

  -- a line for each kind
  pub const_free : (τ : TypeTree) (c : SaidConst) → IsSaidConst τ c → AreFree (written_const c)
  const_free τ (L.Plain c) h = one_free (apart_free (const_kind c) (plain_text c) (plain_form τ c h))
  const_free τ (L.Chars υ t) h = one_free (apart_free T.CStr t h.1)
  const_free τ (L.Listed υ B.Array cs) h =
      let inner = elements_spaced (Some T.OpenBracket) [] cs (type_opened T.OpenBracket (λ c. refl)) h.2 in
      sign_then T.OpenBracket 91 _ (sign_free T.OpenBracket 91 refl) (spaced_then (Some T.OpenBracket) (written_elements [] cs) (close T.CloseBracket (codes "]") ∷ []) inner (one_free bracket_close))
  const_free τ (L.Listed υ B.Vector cs) h =
      let inner = elements_spaced (Some T.Less) [] cs (type_opened T.Less (λ c. refl)) h.2 in
      sign_then T.Less 60 _ (sign_free T.Less 60 refl) (spaced_then (Some T.Less) (written_elements [] cs) (close T.Greater (codes ">") ∷ []) inner (one_free angle_close))
  const_free τ (L.Listed υ (B.Struct S.Unpacked) cs) h =
      let inner = elements_spaced (Some T.OpenBrace) (codes " ") cs (blank_begins (Some T.OpenBrace)) h.2 in
      sign_then T.OpenBrace 123 _ (sign_free T.OpenBrace 123 refl) (spaced_then (Some T.OpenBrace) (written_elements (codes " ") cs) (token (before_end cs) T.CloseBrace (codes "}") ∷ []) inner (one_free (end_free cs)))
  const_free τ (L.Listed υ (B.Struct S.Packed) cs) h =
      let end = then_free (end_free cs) (one_free angle_close) in
      let inner = elements_spaced (Some T.OpenBrace) (codes " ") cs (blank_begins (Some T.OpenBrace)) h.2 in
      let brace = sign_close T.OpenBrace 123 refl (λ j. plain_follows j 123 refl) in
      sign_then T.Less 60 _ (sign_free T.Less 60 refl) (brace (Some T.Less), spaced_then (Some T.OpenBrace) (written_elements (codes " ") cs) (token (before_end cs) T.CloseBrace (codes "}") ∷ close T.Greater (codes ">") ∷ []) inner end)
  const_free τ (L.Splat υ c) h =
      let rest = both_free (written_const c) (close T.CloseParen (codes ")") ∷ []) (const_free (said_type c) c h.2) (one_free paren_close) in
      let inner = spaced_then (Some T.OpenParen) (written_type [] (said_type c)) (written_const c ++ (close T.CloseParen (codes ")") ∷ [])) (type_opened T.OpenParen (λ c. refl) (said_type c) h.1) rest in
      then_free (word_free (codes "splat") refl) (sign_then T.OpenParen 40 _ (sign_free T.OpenParen 40 refl) inner)

  elements_spaced : (last : Option Kind) (b : Text) (cs : SaidConsts) → MayBegin last b → AreElements cs → AreSpacedBehind last (written_elements b cs)
  elements_spaced last b L.NoneSaid begins h = tt
  elements_spaced last b (L.ThenSaid c cs) begins h =
      spaced_then last (written_type b (said_type c)) (written_const c ++ next_elements cs) (begins (said_type c) h.0.0) (both_free (written_const c) (next_elements cs) (const_free (said_type c) c h.0.1) (next_free cs h.1))

  next_free : (cs : SaidConsts) → AreElements cs → AreFree (next_elements cs)
  next_free L.NoneSaid h = none_free
  next_free (L.ThenSaid c cs) h =
      let rest = both_free (written_const c) (next_elements cs) (const_free (said_type c) c h.0.1) (next_free cs h.1) in
      then_free comma_free (both_free (written_type (codes " ") (said_type c)) (written_const c ++ next_elements cs) (type_free (said_type c) h.0.0) rest)

-- ---- their text

-- a type before other tokens
pub type_then : (b : Text) (τ : TypeTree) (xs : List Spaced) → text_of (written_type b τ ++ xs) ≡ b ++ type_text τ ++ text_of xs
type_then b τ xs = text_both (written_type b τ) xs ∙ ap (λ (t : Text). t ++ text_of xs) (type_written b τ)

-- a constant behind its type, and other tokens behind it
one_written : (b : Text) (c : SaidConst) (xs : List Spaced) → text_of (written_const c) ≡ codes " " ++ said_text c → text_of (written_type b (said_type c) ++ (written_const c ++ xs)) ≡ b ++ type_text (said_type c) ++ codes " " ++ said_text c ++ text_of xs
one_written b c xs e =
    type_then b (said_type c) (written_const c ++ xs) ∙ ap (λ (t : Text). b ++ type_text (said_type c) ++ t) (text_both (written_const c) xs ∙ ap (λ (t : Text). t ++ text_of xs) e) ∙ simp append_assoc

-- the elements of a constant and what stands behind them: the blank before the first is one of those that stand around elements
abbrev begun_text : (b : Text) → SaidConsts → Text
begun_text b L.NoneSaid = []
begun_text b (L.ThenSaid c cs) = b ++ elements_text (L.ThenSaid c cs)

elements_then : (b : Text) (cs : SaidConsts) (xs : List Spaced) → text_of (written_elements b cs) ≡ begun_text b cs → text_of (written_elements b cs ++ xs) ≡ begun_text b cs ++ text_of xs
elements_then b cs xs e = text_both (written_elements b cs) xs ∙ ap (λ (t : Text). t ++ text_of xs) e

-- around the fields of a struct
braced_text : (cs : SaidConsts) (t : Text) → begun_text (codes " ") cs ++ (before_end cs ++ t) ≡ codes " " ++ elements_text cs ++ codes " " ++ t
braced_text L.NoneSaid t = refl
braced_text (L.ThenSaid c cs) t = simp append_assoc

begun_none : (cs : SaidConsts) → begun_text [] cs ≡ elements_text cs
begun_none L.NoneSaid = refl
begun_none (L.ThenSaid c cs) = refl

mutual
  unfolding written_const written_elements next_elements

  -- a line for each kind
  pub const_written : (c : SaidConst) → text_of (written_const c) ≡ codes " " ++ said_text c
  const_written (L.Plain c) = append-nil (codes " " ++ plain_text c)
  const_written (L.Chars τ t) = append-nil (codes " " ++ t)
  const_written (L.Listed τ B.Array cs) =
      ap (λ (t : Text). codes " [" ++ t) (elements_then [] cs (close T.CloseBracket (codes "]") ∷ []) (elements_written [] cs) ∙ ap (λ (t : Text). t ++ codes "]") (begun_none cs)) ∙ simp append_assoc
  const_written (L.Listed τ B.Vector cs) =
      ap (λ (t : Text). codes " <" ++ t) (elements_then [] cs (close T.Greater (codes ">") ∷ []) (elements_written [] cs) ∙ ap (λ (t : Text). t ++ codes ">") (begun_none cs)) ∙ simp append_assoc
  const_written (L.Listed τ (B.Struct S.Unpacked) cs) =
      let end = token (before_end cs) T.CloseBrace (codes "}") ∷ [] in
      let tail : text_of end ≡ before_end cs ++ codes "}" = append-nil (before_end cs ++ codes "}") in
      let inner = elements_then (codes " ") cs end (elements_written (codes " ") cs) ∙ ap (λ (t : Text). begun_text (codes " ") cs ++ t) tail ∙ braced_text cs (codes "}") in
      ap (λ (t : Text). codes " {" ++ t) inner ∙ simp append_assoc
  const_written (L.Listed τ (B.Struct S.Packed) cs) =
      let end = token (before_end cs) T.CloseBrace (codes "}") ∷ close T.Greater (codes ">") ∷ [] in
      let tail : text_of end ≡ before_end cs ++ codes "}>" = append_assoc (before_end cs) (codes "}") (codes ">") in
      let inner = elements_then (codes " ") cs end (elements_written (codes " ") cs) ∙ ap (λ (t : Text). begun_text (codes " ") cs ++ t) tail ∙ braced_text cs (codes "}>") in
      ap (λ (t : Text). codes " <{" ++ t) inner ∙ simp append_assoc
  const_written (L.Splat τ c) = ap (λ (t : Text). codes " splat (" ++ t) (one_written [] c (close T.CloseParen (codes ")") ∷ []) (const_written c)) ∙ simp append_assoc

  elements_written : (b : Text) (cs : SaidConsts) → text_of (written_elements b cs) ≡ begun_text b cs
  elements_written b L.NoneSaid = refl
  elements_written b (L.ThenSaid c cs) = one_written b c (next_elements cs) (const_written c) ∙ ap (λ (t : Text). b ++ type_text (said_type c) ++ codes " " ++ said_text c ++ t) (next_written cs) ∙ simp append_assoc

  next_written : (cs : SaidConsts) → text_of (next_elements cs) ≡ next_elements_text cs
  next_written L.NoneSaid = refl
  next_written (L.ThenSaid c cs) =
      ap (λ (t : Text). codes "," ++ t) (one_written (codes " ") c (next_elements cs) (const_written c) ∙ ap (λ (t : Text). codes " " ++ type_text (said_type c) ++ codes " " ++ said_text c ++ t) (next_written cs)) ∙ simp append_assoc
