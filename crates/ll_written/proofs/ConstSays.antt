-- What the tokens of constants say, of those of one word or number and of those that are made of others.
use Rattle.std.proofs.Common.{◌≡◌, ◌<◌, ◌^◌, ℕ, zero, suc, Bool, true, false, ◌==◌, if◌then◌else◌, List, [], ◌∷◌, ◌++◌, Option, Some, codes, append_assoc, refl, sym, ap, subst, arith}
use Rattle.std.specs.Option.{option_map}
use Rattle.std.proofs.lemmas.Bool.Decides.{nat_tests}
use Rattle.kinds.specs.declared.fill.Fill.{Fill}
use Rattle.kinds.specs.declared.fill.Fill.TheVariants as Z
use Rattle.kinds.specs.declared.types.StructLayout.TheVariants as S
use Rattle.kinds.specs.Fill.{is_own_fill}
use Rattle.kinds.specs.Fitting.{is_pointer}
use Rattle.kinds.specs.Types.{TypeTree, shape}
use Rattle.kinds.specs.Held.{IsFirstClass}
use Rattle.kinds.proofs.HeldLaws.{first_class_int}
use Rattle.llvm_core.specs.Data.{ConstTree, IntConst, FilledConst, BytesConst, ListConst, SplatConst, PlaceholderConst}
use Rattle.ll_lines.specs.declared.lines.Brackets.TheVariants as B
use Rattle.ll_lines.specs.Lines as L
use Rattle.ll_lines.specs.Lines.{Text, SaidConst, SaidConsts, Said, Typed}
use Rattle.ll_tokens.specs.declared.kinds.Kind.{Kind}
use Rattle.ll_tokens.specs.declared.kinds.Kind.TheVariants as T
use Rattle.ll_literals.specs.Chain.{◌>>=◌}
use Rattle.ll_spacing.specs.Spacing.{Spaced}
use Rattle.ll_values.specs.declared.form.Kind.TheVariants as K
use Rattle.ll_values.specs.declared.form.TypedKind.TheVariants as V
use Rattle.ll_values.specs.Values.{Value, LiteralV, TypeV, TypedV, ConstsV, BracedV, Literal, ConstL, NullL, CharsL, ListedL, SplatL, said, typed, value_by}
use Rattle.ll_written.specs.Printing.{int_text, filled_text, said_type}
use Rattle.ll_written.specs.Rules as N
use Rattle.ll_written.specs.Written.{token, apart, close, word, comma, int_kind, before_end, written_type, written_const, written_elements, next_elements}
use Rattle.ll_written.specs.Writable.{IsConstOf, an_int, a_filled, begin_with_lane, IsSaidConst, IsElement, AreElements}
use Rattle.ll_written.proofs.Productions as P
use Rattle.ll_written.proofs.Productions.{Reads}
use Rattle.ll_written.proofs.DecimalLaws.{const_value-int, no_fill}
use Rattle.ll_written.proofs.TypeTokens.{type_says, lane_says}

-- ---- literals

-- zero, undef or poison as it is written
abbrev filled_literal : Fill → TypeTree → Literal
filled_literal Z.Zero τ = if is_pointer (shape τ) then NullL else ConstL (codes "zeroinitializer")
filled_literal Z.Undef τ = ConstL (codes "undef")
filled_literal Z.Poison τ = ConstL (codes "poison")

-- a constant of one word or number as it is written; the others have none
abbrev plain_literal : ConstTree → Literal
plain_literal (IntConst w n) = ConstL (int_text w n)
plain_literal (FilledConst fill τ) = filled_literal fill τ
plain_literal (BytesConst bytes) = ConstL []
plain_literal (ListConst τ elements) = ConstL []
plain_literal (SplatConst τ element) = ConstL []
plain_literal (PlaceholderConst n τ) = ConstL []

-- a constant as it is written
abbrev pub const_literal : SaidConst → Literal
const_literal (L.Plain c) = plain_literal c
const_literal (L.Chars τ t) = CharsL t
const_literal (L.Listed τ brackets cs) = ListedL brackets cs
const_literal (L.Splat τ c) = SplatL c

-- ---- what they are read as at their type

filled_again : (fill : Fill) (τ : TypeTree) → is_own_fill fill (shape τ) ≡ true → said τ (filled_literal fill τ) ≡ Some (L.Const (L.Plain (FilledConst fill τ)))
filled_again Z.Zero τ own = by (is_pointer (shape τ)) refl
  where
    by : (b : Bool) → is_pointer (shape τ) ≡ b → said τ (if b then NullL else ConstL (codes "zeroinitializer")) ≡ Some (L.Const (L.Plain (FilledConst Z.Zero τ)))
    by true e = rw e refl
    by false e = rw own refl
filled_again Z.Undef τ own = refl
filled_again Z.Poison τ own = refl

plain_again : (τ : TypeTree) (c : ConstTree) → IsFirstClass τ → IsConstOf τ c → said τ (plain_literal c) ≡ Some (L.Const (L.Plain c))
plain_again τ c type (a_filled fill υ own) = filled_again fill υ own
plain_again τ c type (an_int v n fits) =
    let value = const_value-int v n (first_class_int v type).0 fits in
    rw (no_fill v n (int_text v n) value, value) refl

-- what a constant is written as says the constant at its type
pub const_again : (τ : TypeTree) (c : SaidConst) → IsFirstClass τ → IsSaidConst τ c → said τ (const_literal c) ≡ Some (L.Const c)
const_again τ (L.Plain c) type fits = plain_again τ c type fits
const_again τ (L.Chars υ t) type fits = ap (λ (σ : TypeTree). Some (L.Const (L.Chars σ t))) (sym fits.0)
const_again τ (L.Listed υ brackets cs) type fits = ap (λ (σ : TypeTree). Some (L.Const (L.Listed σ brackets cs))) (sym fits.0)
const_again τ (L.Splat υ c) type fits = ap (λ (σ : TypeTree). Some (L.Const (L.Splat σ c))) (sym fits.0)

-- an element with its type
abbrev typed_of : SaidConst → Typed
typed_of c = record { type = said_type c; said = L.Const c }

element_again : (c : SaidConst) → IsElement c → typed (said_type c) (const_literal c) ≡ Some (typed_of c)
element_again c h = ap (λ (o : Option Said). o >>= λ s. Some (record { type = said_type c; said = s })) (const_again (said_type c) c h.0.type h.1)

-- ---- the two rules that read constants

-- a rule that reads constants reads each of these, behind a blank
pub record ReadsConsts (r : ℕ) : Type 0 where
  pub int : (t : Text) → Reads r (LiteralV (ConstL t)) (apart T.Int t ∷ [])
  pub is_false : Reads r (LiteralV (ConstL (codes "false"))) (word (codes "false") ∷ [])
  pub is_true : Reads r (LiteralV (ConstL (codes "true"))) (word (codes "true") ∷ [])
  pub zero_of : Reads r (LiteralV (ConstL (codes "zeroinitializer"))) (word (codes "zeroinitializer") ∷ [])
  pub undef : Reads r (LiteralV (ConstL (codes "undef"))) (word (codes "undef") ∷ [])
  pub poison : Reads r (LiteralV (ConstL (codes "poison"))) (word (codes "poison") ∷ [])
  pub null : Reads r (LiteralV NullL) (word (codes "null") ∷ [])
  pub chars : (t : Text) → Reads r (LiteralV (CharsL t)) (apart T.CStr t ∷ [])
  pub array : {cs : SaidConsts} {xs : List Spaced} → Reads N.tconsts (ConstsV cs) xs → Reads r (LiteralV (ListedL B.Array cs)) (apart T.OpenBracket (codes "[") ∷ (xs ++ (close T.CloseBracket (codes "]") ∷ [])))
  pub braced : {cs : SaidConsts} {xs : List Spaced} (b : Text) → Reads N.tconsts (ConstsV cs) xs → Reads r (LiteralV (ListedL (B.Struct S.Unpacked) cs)) (apart T.OpenBrace (codes "{") ∷ (xs ++ (token b T.CloseBrace (codes "}") ∷ [])))
  pub angle : {v : Value} {xs : List Spaced} → Reads N.const_angle v xs → Reads r v (apart T.Less (codes "<") ∷ xs)
  pub splat : {c : SaidConst} {xs : List Spaced} → Reads N.tconst (TypedV (typed_of c)) xs → Reads r (LiteralV (SplatL c)) (word (codes "splat") ∷ (apart T.OpenParen (codes "(") ∷ (xs ++ (close T.CloseParen (codes ")") ∷ []))))

pub value_reads : ReadsConsts N.value
value_reads = record {
  int = λ t. P.value_literal_int (codes " ") t refl;
  is_false = P.value_literal_false (codes " ") refl;
  is_true = P.value_literal_true (codes " ") refl;
  zero_of = P.value_literal_zeroinitializer (codes " ") refl;
  undef = P.value_literal_undef (codes " ") refl;
  poison = P.value_literal_poison (codes " ") refl;
  null = P.value_null (codes " ") refl;
  chars = λ t. P.value_chars (codes " ") t refl;
  array = λ {cs} {xs} h. P.value_inarray (codes " ") [] h refl;
  braced = λ {cs} {xs} b h. P.value_instruct (codes " ") b h refl;
  angle = λ {v} {xs} h. P.value_const_angle (codes " ") h;
  splat = λ {c} {xs} h. P.value_splat (codes " ") (codes " ") [] h refl;
}

const_reads : ReadsConsts N.const
const_reads = record {
  int = λ t. P.const_literal_int (codes " ") t refl;
  is_false = P.const_literal_false (codes " ") refl;
  is_true = P.const_literal_true (codes " ") refl;
  zero_of = P.const_literal_zeroinitializer (codes " ") refl;
  undef = P.const_literal_undef (codes " ") refl;
  poison = P.const_literal_poison (codes " ") refl;
  null = P.const_null (codes " ") refl;
  chars = λ t. P.const_chars (codes " ") t refl;
  array = λ {cs} {xs} h. P.const_inarray (codes " ") [] h refl;
  braced = λ {cs} {xs} b h. P.const_instruct (codes " ") b h refl;
  angle = λ {v} {xs} h. P.const_const_angle (codes " ") h;
  splat = λ {c} {xs} h. P.const_splat (codes " ") (codes " ") [] h refl;
}

-- ---- one word or number

module _ (r : ℕ) (reads : ReadsConsts r) where
  bit_says : (n : ℕ) → n < 2 → Reads r (LiteralV (ConstL (int_text 1 n))) (word (int_text 1 n) ∷ [])
  bit_says zero h = reads.is_false
  bit_says (suc zero) h = reads.is_true
  bit_says (suc (suc n)) h = absurd (omega arith)

  int_says : (v n : ℕ) (one : Bool) → n < 2 ^ v → (v == 1) ≡ one → Reads r (LiteralV (ConstL (int_text v n))) (apart (int_kind v) (int_text v n) ∷ [])
  int_says v n true fits e =
      let same : 1 ≡ v = grind (arith, nat_tests) in
      let small : n < 2 = rw (← same) at fits in
      subst (λ (m : ℕ). Reads r (LiteralV (ConstL (int_text m n))) (apart (int_kind m) (int_text m n) ∷ [])) same (bit_says n small)
  int_says v n false fits e =
      let kind : T.Int ≡ int_kind v = rw e refl in
      subst (λ (k : Kind). Reads r (LiteralV (ConstL (int_text v n))) (apart k (int_text v n) ∷ [])) kind (reads.int (int_text v n))

  filled_says : (fill : Fill) (τ : TypeTree) → Reads r (LiteralV (filled_literal fill τ)) (word (filled_text fill τ) ∷ [])
  filled_says Z.Zero τ = by (is_pointer (shape τ))
    where
      by : (b : Bool) → Reads r (LiteralV (if b then NullL else ConstL (codes "zeroinitializer"))) (word (if b then codes "null" else codes "zeroinitializer") ∷ [])
      by true = reads.null
      by false = reads.zero_of
  filled_says Z.Undef τ = reads.undef
  filled_says Z.Poison τ = reads.poison

  plain_says : (τ : TypeTree) (c : ConstTree) → IsConstOf τ c → Reads r (LiteralV (plain_literal c)) (written_const (L.Plain c))
  unfolding written_const
  plain_says τ c (an_int v n fits) = int_says v n (v == 1) fits.0 refl
  plain_says τ c (a_filled fill υ own) = filled_says fill υ

-- ---- elements

-- one before others
abbrev first_tokens : (b : Text) → SaidConst → List Spaced → List Spaced
first_tokens b c xs = written_type b (said_type c) ++ (written_const c ++ xs)

one_more : (b : Text) (c : SaidConst) (xs : List Spaced) → (written_type b (said_type c) ++ written_const c) ++ xs ≡ first_tokens b c xs
one_more b c xs = append_assoc (written_type b (said_type c)) (written_const c) xs

in_vector : (c : SaidConst) (cs : SaidConsts) → IsElement c → value_by (K.Typed V.InVector) (TypeV (said_type c) ∷ LiteralV (const_literal c) ∷ ConstsV cs ∷ []) ≡ Some (LiteralV (ListedL B.Vector (L.ThenSaid c cs)))
in_vector c cs h = rw (const_again (said_type c) c h.0.type h.1) refl

in_packed : (c : SaidConst) (cs : SaidConsts) → IsElement c → value_by (K.Typed V.InPacked) (TypeV (said_type c) ∷ BracedV (const_literal c) cs ∷ []) ≡ Some (LiteralV (ListedL (B.Struct S.Packed) (L.ThenSaid c cs)))
in_packed c cs h = rw (const_again (said_type c) c h.0.type h.1) refl

-- an element, from what it says without its type
element_says : (b : Text) (c : SaidConst) → IsElement c → Reads N.const (LiteralV (const_literal c)) (written_const c) → Reads N.tconst (TypedV (typed_of c)) (written_type b (said_type c) ++ written_const c)
element_says b c h says = P.tconst_typed (type_says b (said_type c) h.0) says (ap (option_map TypedV) (element_again c h))

-- what stands behind < around the elements of a vector, and around the fields of a packed struct
abbrev vector_tokens : List Spaced → List Spaced
vector_tokens xs = xs ++ (close T.Greater (codes ">") ∷ [])

abbrev packed_tokens : (b : Text) → List Spaced → List Spaced
packed_tokens b xs = close T.OpenBrace (codes "{") ∷ (xs ++ (token b T.CloseBrace (codes "}") ∷ close T.Greater (codes ">") ∷ []))

mutual
  unfolding written_const written_elements next_elements

  -- a line for each kind
  pub const_says : (r : ℕ) → ReadsConsts r → (τ : TypeTree) (c : SaidConst) → IsSaidConst τ c → Reads r (LiteralV (const_literal c)) (written_const c)
  const_says r reads τ (L.Plain c) fits = plain_says r reads τ c fits
  const_says r reads τ (L.Chars υ t) fits = reads.chars t
  const_says r reads τ (L.Listed υ B.Array cs) fits = reads.array (elements_say [] cs fits.2)
  const_says r reads τ (L.Listed υ B.Vector cs) fits = reads.angle (vector_says cs fits.1 fits.2)
  const_says r reads τ (L.Listed υ (B.Struct S.Unpacked) cs) fits = reads.braced (before_end cs) (elements_say (codes " ") cs fits.2)
  const_says r reads τ (L.Listed υ (B.Struct S.Packed) cs) fits = reads.angle (packed_says cs fits.2)
  const_says r reads τ (L.Splat υ c) fits =
      let tokens = append_assoc (written_type [] (said_type c)) (written_const c) (close T.CloseParen (codes ")") ∷ []) in
      subst (λ (xs : List Spaced). Reads r (LiteralV (SplatL c)) (word (codes "splat") ∷ apart T.OpenParen (codes "(") ∷ xs)) tokens (reads.splat (element_says [] c (fits.1, fits.2) (const_says N.const const_reads (said_type c) c fits.2)))

  elements_say : (b : Text) (cs : SaidConsts) → AreElements cs → Reads N.tconsts (ConstsV cs) (written_elements b cs)
  elements_say b L.NoneSaid h = P.tconsts_end refl
  elements_say b (L.ThenSaid c cs) h =
      subst (λ (xs : List Spaced). Reads N.tconsts (ConstsV (L.ThenSaid c cs)) xs) (one_more b c (next_elements cs)) (P.tconsts_more (element_says b c h.0 (const_says N.const const_reads (said_type c) c h.0.1)) (next_say cs h.1) refl)

  next_say : (cs : SaidConsts) → AreElements cs → Reads N.more_tconsts (ConstsV cs) (next_elements cs)
  next_say L.NoneSaid h = P.more_tconsts_end refl
  next_say (L.ThenSaid c cs) h =
      subst (λ (xs : List Spaced). Reads N.more_tconsts (ConstsV (L.ThenSaid c cs)) (comma ∷ xs)) (one_more (codes " ") c (next_elements cs)) (P.more_tconsts_more [] (element_says (codes " ") c h.0 (const_says N.const const_reads (said_type c) c h.0.1)) (next_say cs h.1) refl)

  vector_says : (cs : SaidConsts) → begin_with_lane cs ≡ true → AreElements cs → Reads N.const_angle (LiteralV (ListedL B.Vector cs)) (vector_tokens (written_elements [] cs))
  vector_says L.NoneSaid lane h = absurd cc
  vector_says (L.ThenSaid c cs) lane h =
      let end = close T.Greater (codes ">") ∷ [] in
      let front = written_type [] (said_type c) in
      let tokens : front ++ (written_const c ++ (next_elements cs ++ end)) ≡ first_tokens [] c (next_elements cs) ++ end = simp append_assoc in
      let first = const_says N.const const_reads (said_type c) c h.0.1 in
      subst (λ (xs : List Spaced). Reads N.const_angle (LiteralV (ListedL B.Vector (L.ThenSaid c cs))) xs) tokens (P.const_angle_invector [] (lane_says [] (said_type c) h.0.0 lane) first (next_say cs h.1) (in_vector c cs h.0))

  packed_says : (cs : SaidConsts) → AreElements cs → Reads N.const_angle (LiteralV (ListedL (B.Struct S.Packed) cs)) (packed_tokens (before_end cs) (written_elements (codes " ") cs))
  packed_says L.NoneSaid h = P.const_angle_const_brace [] (P.const_brace_const_empty (codes "  ") (P.const_empty_nonepacked [] refl))
  packed_says (L.ThenSaid c cs) h =
      let end = apart T.CloseBrace (codes "}") ∷ close T.Greater (codes ">") ∷ [] in
      let front = written_type (codes " ") (said_type c) in
      let tokens : front ++ (written_const c ++ (next_elements cs ++ end)) ≡ first_tokens (codes " ") c (next_elements cs) ++ end = simp append_assoc in
      let first = const_says N.const const_reads (said_type c) c h.0.1 in
      let braced = P.const_braced_braced (codes " ") [] first (next_say cs h.1) refl in
      let whole = P.const_brace_inpacked (type_says (codes " ") (said_type c) h.0.0) braced (in_packed c cs h.0) in
      P.const_angle_const_brace [] (subst (λ (xs : List Spaced). Reads N.const_brace (LiteralV (ListedL (B.Struct S.Packed) (L.ThenSaid c cs))) xs) tokens whole)
