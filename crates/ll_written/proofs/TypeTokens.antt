-- The tokens of a type: what they say, that they are spaced, and their text. Only these laws look into them.
use Rattle.std.proofs.Common.{◌≡◌, ◌<◌, ◌^◌, ◌-◌, ℕ, zero, suc, Bool, true, false, nat_le, List, [], ◌∷◌, ◌++◌, Option, Some, None, All, codes, append_assoc, refl, sym, ap, subst, ◌∙◌, arith}
use Rattle.std.specs.Prelude.{decimal}
use Rattle.std.specs.Option.{option_map}
use Rattle.std.proofs.lemmas.Bool.Decides.{nat_tests}
use Rattle.std.proofs.lemmas.List.{append-nil}
use Rattle.std.proofs.lemmas.List.Elements.{All-head, All-tail}
use Rattle.kinds.specs.declared.types.VectorTypeKind.TheVariants as E
use Rattle.kinds.specs.declared.types.StructLayout.TheVariants as S
use Rattle.kinds.specs.Types.{TypeTree, VoidType, IntType, PointerType, FloatingType, RefusedType, ArrayType, VectorType, StructType, NamedType, TypeTrees, NoTypes, ThenType, shape, types_list}
use Rattle.kinds.specs.Structs.{StructBody}
use Rattle.kinds.specs.declared.types.StructLayout.{StructLayout}
use Rattle.kinds.specs.Names.{is_good_name}
use Rattle.kinds.specs.Fitting.{is_array_of, is_vector_of}
use Rattle.kinds.specs.Held.{is_void}
use Rattle.kinds.proofs.HeldLaws.{void_is, first_class_value, first_class_int, first_class_pointer, returned_own, returned_if}
use Rattle.ll_lines.specs.Lines.{Text}
use Rattle.ll_literals.specs.Names.{local, printed_name}
use Rattle.ll_literals.specs.Numbers.{number_of, up_to}
use Rattle.ll_literals.proofs.SymbolLaws.{symbol_says}
use Rattle.ll_spacing.specs.Forms.{IsText}
use Rattle.ll_spacing.specs.Following.{goes_on}
use Rattle.ll_spacing.specs.Spacing.{Spaced, Follows, AreSpacedBehind, AreBlanks, IsApart, text_of}
use Rattle.ll_spacing.proofs.FollowLaws.{blank_follows, plain_follows}
use Rattle.ll_spacing.proofs.TextLaws.{text_whole}
use Rattle.ll_tokens.specs.Pieces.{token as piece, sign_at}
use Rattle.ll_tokens.specs.declared.kinds.Kind.{Kind}
use Rattle.ll_tokens.specs.declared.kinds.Kind.TheVariants as T
use Rattle.ll_values.specs.declared.form.Kind.TheVariants as K
use Rattle.ll_values.specs.declared.form.TypedKind.TheVariants as V
use Rattle.ll_values.specs.Values.{Value, NoneV, TextV, SpaceV, TypeV, TypesV, FieldsV, value_by}
use Rattle.ll_said.proofs.DecimalLaws.{IsDecimal-decimal}
use Rattle.ll_written.specs.Printing.{space_text, type_text, before_brace, fields_text, next_fields_text}
use Rattle.ll_written.specs.Rules as N
use Rattle.ll_written.specs.Written.{token, close, written_space, written_type, written_fields, next_fields}
use Rattle.ll_written.specs.Writable.{IsSayableType, IsSayableResult, IsBody}
use Rattle.ll_written.proofs.Productions as P
use Rattle.ll_written.proofs.Productions.{Reads}
use Rattle.ll_written.proofs.FlatLaws.{floating_flat, other_flat, flat_word, flat_says, flat_solid, flat_lane}
use Rattle.ll_written.proofs.FreeLaws.{AreFree, IsFree, spaced_then, none_free, then_free, one_free, both_free, apart_free, word_free, sign_free, sign_close, comma_free}
use Rattle.ll_written.proofs.PartForms.{IsCounted, AreFields, array_parts, vector_parts, struct_parts}
use Rattle.ll_written.proofs.NameForms.{struct_form}
use Rattle.ll_written.proofs.NumberForms.{decimal_text, int_type_text}
use Rattle.ll_written.proofs.TypeLaws.{small, small_space, int_class, int_width}

-- what is returned is of a value, unless it is void
pub own_sayable : (τ : TypeTree) → IsSayableResult τ → is_void τ ≡ false → IsSayableType τ
own_sayable τ h e = record { type = returned_own τ h.type e; names = h.names }

sayable_if : (τ : TypeTree) → IsSayableType τ → IsSayableResult τ
sayable_if τ h = record { type = returned_if τ h.type; names = h.names }

-- ---- what they say

-- what an address space says, of which the first is not written
abbrev space_value : ℕ → Value
space_value zero = NoneV
space_value (suc n) = SpaceV (suc n)

space_number : (n : ℕ) → n < 2 ^ 24 → option_map SpaceV (up_to (2 ^ 24 - 1) (number_of (decimal n))) ≡ Some (SpaceV n)
space_number n h =
    let d = IsDecimal-decimal n (small_space n h) in
    let within : nat_le n (2 ^ 24 - 1) ≡ true = grind (arith, nat_tests) in
    rw (d.number, within) refl

space_says : (n : ℕ) → n < 2 ^ 24 → Reads N.space (space_value n) (written_space n)
space_says zero h = P.space_none
space_says (suc n) h = P.space (codes " ") [] [] (decimal (suc n)) [] (space_number (suc n) h)

pointer_again : (n : ℕ) → value_by (K.Typed V.Pointer) (space_value n ∷ []) ≡ Some (TypeV (PointerType n))
pointer_again zero = refl
pointer_again (suc n) = refl

-- a number of what has parts
count_again : (n : ℕ) → n < 2 ^ 64 → number_of (decimal n) ≡ Some n
count_again n h = (IsDecimal-decimal n h).number

array_again : (n : ℕ) (t : TypeTree) → IsCounted (is_array_of n (shape t)) n t → value_by (K.Typed V.Array) (TextV (decimal n) ∷ TypeV t ∷ []) ≡ Some (TypeV (ArrayType n t))
array_again n t h = rw (count_again n h.count, h.may) refl

fixed_again : (n : ℕ) (t : TypeTree) → IsCounted (is_vector_of n (shape t)) n t → value_by (K.Typed V.Vector) (TextV (decimal n) ∷ TypeV t ∷ []) ≡ Some (TypeV (VectorType E.Fixed n t))
fixed_again n t h = rw (count_again n h.count, h.may) refl

scalable_again : (n : ℕ) (t : TypeTree) → IsCounted (is_vector_of n (shape t)) n t → value_by (K.Typed V.Scalable) (TextV (decimal n) ∷ TypeV t ∷ []) ≡ Some (TypeV (VectorType E.Scalable n t))
scalable_again n t h = rw (count_again n h.count, h.may) refl

struct_again : (ts : TypeTrees) → AreFields ts → value_by (K.Typed V.Struct) (TypesV ts ∷ []) ≡ Some (TypeV (StructType S.Unpacked ts))
struct_again ts h = rw (h.may) refl

packed_again : (ts : TypeTrees) → AreFields ts → value_by (K.Typed V.Packed) (TypesV ts ∷ []) ≡ Some (TypeV (StructType S.Packed ts))
packed_again ts h = rw (h.may) refl

-- the name of a struct is read again
named_again : (n : Text) → is_good_name n ≡ true → value_by (K.Typed V.Named) (TextV (local (printed_name n)) ∷ []) ≡ Some (TypeV (NamedType n))
named_again n h = ap (λ (o : Option Text). option_map TypeV (option_map NamedType o)) (symbol_says 37 n h)

mutual
  unfolding written_type written_fields next_fields

  -- a line for each kind
  pub type_says : (b : Text) (τ : TypeTree) → IsSayableType τ → Reads N.type (TypeV τ) (written_type b τ)
  type_says b (IntType n) h = let k = first_class_int n h.type in P.type_int b (105 ∷ decimal n) (int_class n k.1) (ap (option_map TypeV) (int_width n k.0 k.1))
  type_says b (PointerType n) h = P.type_pointer b (space_says n (first_class_pointer n h.type)) (pointer_again n)
  type_says b (FloatingType f) h = flat_says b (FloatingType f) (floating_flat f)
  type_says b (RefusedType o) h = flat_says b (RefusedType o) (other_flat o)
  type_says b (ArrayType n t) h = let k = array_parts n t h in P.type_array b [] (decimal n) (codes " ") [] (type_says (codes " ") t k.part) (array_again n t k)
  type_says b (VectorType E.Fixed n t) h = let k = vector_parts E.Fixed n t h in P.type_angle_type b (P.angle_type_vector [] (decimal n) (codes " ") [] (type_says (codes " ") t k.part) (fixed_again n t k))
  type_says b (VectorType E.Scalable n t) h =
      let k = vector_parts E.Scalable n t h in P.type_angle_type b (P.angle_type_scalable [] (codes " ") (codes " ") (decimal n) (codes " ") [] (type_says (codes " ") t k.part) (scalable_again n t k))
  type_says b (StructType S.Unpacked ts) h = let k = struct_parts S.Unpacked ts h in P.type_struct b (before_brace ts) (fields_say ts k.parts) (struct_again ts k)
  type_says b (StructType S.Packed ts) h = let k = struct_parts S.Packed ts h in P.type_angle_type b (P.angle_type_packed [] (before_brace ts) [] (fields_say ts k.parts) (packed_again ts k))
  type_says b (NamedType n) h = P.type_named b (local (printed_name n)) (named_again n h.names)
  type_says b τ h = absurd (let k = first_class_value τ h.type in cc)

  fields_say : (ts : TypeTrees) → All IsSayableType (types_list ts) → Reads N.types (TypesV ts) (written_fields ts)
  fields_say NoTypes h = P.types_end refl
  fields_say (ThenType t ts) h = P.types_more (type_says (codes " ") t (All-head IsSayableType t (types_list ts) h)) (next_say ts (All-tail IsSayableType t (types_list ts) h)) refl

  next_say : (ts : TypeTrees) → All IsSayableType (types_list ts) → Reads N.more_types (TypesV ts) (next_fields ts)
  next_say NoTypes h = P.more_types_end refl
  next_say (ThenType t ts) h = P.more_types_more [] (type_says (codes " ") t (All-head IsSayableType t (types_list ts) h)) (next_say ts (All-tail IsSayableType t (types_list ts) h)) refl

void_says : (b : Text) → Reads N.type (TypeV VoidType) (written_type b VoidType)
unfolding written_type
void_says b = P.type_void b refl

pub result_says : (b : Text) (τ : TypeTree) → IsSayableResult τ → Reads N.type (TypeV τ) (written_type b τ)
result_says b τ h = by (is_void τ) refl
  where
    by : (v : Bool) → is_void τ ≡ v → Reads N.type (TypeV τ) (written_type b τ)
    by true is = subst (λ (t : TypeTree). Reads N.type (TypeV t) (written_type b t)) (sym (void_is τ is)) (void_says b)
    by false is = type_says b τ (own_sayable τ h is)

fields_again : (ts : TypeTrees) → AreFields ts → value_by (K.Typed V.Fields) (TypesV ts ∷ []) ≡ Some (FieldsV (Some (record { fields = ts; layout = S.Unpacked })))
fields_again ts h = rw (h.may) refl

packed_fields_again : (ts : TypeTrees) → AreFields ts → value_by (K.Typed V.PackedFields) (TypesV ts ∷ []) ≡ Some (FieldsV (Some (record { fields = ts; layout = S.Packed })))
packed_fields_again ts h = rw (h.may) refl

body_by : (b : Text) (l : StructLayout) (ts : TypeTrees) → AreFields ts → Reads N.type_body (FieldsV (Some (record { fields = ts; layout = l }))) (written_type b (StructType l ts))
unfolding written_type
body_by b S.Unpacked ts k = P.type_body_fields b (before_brace ts) (fields_say ts k.parts) (fields_again ts k)
body_by b S.Packed ts k = P.type_body_packedfields b [] (before_brace ts) [] (fields_say ts k.parts) (packed_fields_again ts k)

-- the fields of an identified struct are written as a literal struct
pub fields_body_says : (b : Text) (x : StructBody) → IsBody x → Reads N.type_body (FieldsV (Some x)) (written_type b (StructType x.layout x.fields))
fields_body_says b x h = body_by b x.layout x.fields (struct_parts x.layout x.fields h)

-- a line for each kind
pub solid_says : (b : Text) (τ : TypeTree) → IsSayableType τ → Reads N.solid (TypeV τ) (written_type b τ)
unfolding written_type written_fields next_fields
solid_says b (IntType n) h = let k = first_class_int n h.type in P.solid_int b (105 ∷ decimal n) (int_class n k.1) (ap (option_map TypeV) (int_width n k.0 k.1))
solid_says b (PointerType n) h = P.solid_pointer b (space_says n (first_class_pointer n h.type)) (pointer_again n)
solid_says b (FloatingType f) h = flat_solid b (FloatingType f) (floating_flat f)
solid_says b (RefusedType o) h = flat_solid b (RefusedType o) (other_flat o)
solid_says b (ArrayType n t) h = let k = array_parts n t h in P.solid_array b [] (decimal n) (codes " ") [] (type_says (codes " ") t k.part) (array_again n t k)
solid_says b (VectorType E.Fixed n t) h = let k = vector_parts E.Fixed n t h in P.solid_angle_type b (P.angle_type_vector [] (decimal n) (codes " ") [] (type_says (codes " ") t k.part) (fixed_again n t k))
solid_says b (VectorType E.Scalable n t) h =
    let k = vector_parts E.Scalable n t h in P.solid_angle_type b (P.angle_type_scalable [] (codes " ") (codes " ") (decimal n) (codes " ") [] (type_says (codes " ") t k.part) (scalable_again n t k))
solid_says b (StructType S.Unpacked ts) h = let k = struct_parts S.Unpacked ts h in P.solid_struct b (before_brace ts) (fields_say ts k.parts) (struct_again ts k)
solid_says b (StructType S.Packed ts) h = let k = struct_parts S.Packed ts h in P.solid_angle_type b (P.angle_type_packed [] (before_brace ts) [] (fields_say ts k.parts) (packed_again ts k))
solid_says b (NamedType n) h = P.solid_named b (local (printed_name n)) (named_again n h.names)
solid_says b τ h = absurd (let k = first_class_value τ h.type in cc)

-- a lane of a vector is flat: a line for each kind
pub lane_says : (b : Text) (τ : TypeTree) → IsSayableType τ → is_vector_of 1 (shape τ) ≡ true → Reads N.flat (TypeV τ) (written_type b τ)
unfolding written_type
lane_says b (IntType n) h lane = let k = first_class_int n h.type in P.flat_int b (105 ∷ decimal n) (int_class n k.1) (ap (option_map TypeV) (int_width n k.0 k.1))
lane_says b (PointerType n) h lane = P.flat_pointer b (space_says n (first_class_pointer n h.type)) (pointer_again n)
lane_says b (FloatingType f) h lane = flat_lane b (FloatingType f) (floating_flat f)
lane_says b (RefusedType o) h lane = flat_lane b (RefusedType o) (other_flat o)
lane_says b (ArrayType n t) h lane = absurd cc
lane_says b (VectorType k n t) h lane = absurd cc
lane_says b (StructType l ts) h lane = absurd cc
lane_says b (NamedType n) h lane = absurd cc
lane_says b τ h lane = absurd (let k = first_class_value τ h.type in cc)

-- ---- their spacing

-- a token may stand there, whatever its text: with that before it, and behind a token of that kind, or at the front
record Stands (last : Option Kind) (b : Text) : Type 0 where
  pub blanks : AreBlanks b
  pub apart : (t : Text) → IsApart last (b ++ t)

behind_blank : (last : Option Kind) → Stands last (codes " ")
behind_blank None = record { blanks = refl; apart = λ t. tt }
behind_blank (Some k) = record { blanks = refl; apart = λ t. blank_follows k 32 refl }

-- a sign after which any token may stand
abbrev pub IsOpen : Kind → Type 0
IsOpen k = (b : ℕ) → goes_on k b ≡ false

open_apart : (k : Kind) → IsOpen k → (t : Text) → IsApart (Some k) t
open_apart k opens [] = tt
open_apart k opens (b ∷ bs) = opens b

behind_open : (k : Kind) → IsOpen k → Stands (Some k) []
behind_open k opens = record { blanks = refl; apart = open_apart k opens }

stands : (last : Option Kind) (b : Text) (k : Kind) (t : Text) → Stands last b → IsText k t → Follows last (token b k t)
stands last b k t h is = record { blanks = h.blanks; whole = text_whole k t is; apart = h.apart t }

space_spaced : (last : Option Kind) (n : ℕ) → n < 2 ^ 24 → AreSpacedBehind last (written_space n)
unfolding sign_at
space_spaced last zero h = tt
space_spaced last (suc n) h =
    let number = stands (Some T.OpenParen) [] T.Int (decimal (suc n)) (behind_open T.OpenParen (λ c. refl)) (decimal_text (suc n) (small_space (suc n) h)) in
    (word_free (codes "addrspace") refl last, (sign_close T.OpenParen 40 refl (λ j. plain_follows j 40 refl) (Some T.Word), (number, (sign_close T.CloseParen 41 refl (λ j. plain_follows j 41 refl) (Some T.Int), tt))))

-- signs that stand directly behind any token
pub bracket_close : IsFree (close T.CloseBracket (codes "]"))
unfolding sign_at
bracket_close = sign_close T.CloseBracket 93 refl (λ j. plain_follows j 93 refl)

pub angle_close : IsFree (close T.Greater (codes ">"))
unfolding sign_at
angle_close = sign_close T.Greater 62 refl (λ j. plain_follows j 62 refl)

-- the brace behind fields
brace_close : (ts : TypeTrees) → IsFree (token (before_brace ts) T.CloseBrace (codes "}"))
unfolding sign_at
brace_close NoTypes = sign_close T.CloseBrace 125 refl (λ j. plain_follows j 125 refl)
brace_close (ThenType t ts) = sign_free T.CloseBrace 125 refl

-- a sign may stand where a token may
sign_stands : (last : Option Kind) (b : Text) (k : Kind) (c : ℕ) → Stands last b → sign_at c ≡ piece k 1 → Follows last (token b k (c ∷ []))
sign_stands last b k c s e = stands last b k (c ∷ []) s (IsText.sign k c e)

-- a number directly behind a sign that any token may follow
count_stands : (k : Kind) (n : ℕ) → IsOpen k → n < 2 ^ 64 → Follows (Some k) (close T.Int (decimal n))
count_stands k n opens h = stands (Some k) [] T.Int (decimal n) (behind_open k opens) (decimal_text n h)

-- a type behind a word, and the sign behind it
counted_spaced : (t : TypeTree) (end : Spaced) → IsFree end → AreSpacedBehind (Some T.Word) (written_type (codes " ") t) → AreSpacedBehind (Some T.Word) (written_type (codes " ") t ++ (end ∷ []))
counted_spaced t end free h = spaced_then (Some T.Word) (written_type (codes " ") t) (end ∷ []) h (one_free free)

-- a field behind a blank, before others
field_free : (t : TypeTree) (others : List Spaced) → ((last : Option Kind) → AreSpacedBehind last (written_type (codes " ") t)) → AreFree others → AreFree (written_type (codes " ") t ++ others)
field_free t others h free = both_free (written_type (codes " ") t) others (record { behind = h }) free

mutual
  unfolding written_type written_fields next_fields sign_at

  -- a line for each kind
  type_spaced : (last : Option Kind) (b : Text) (τ : TypeTree) → Stands last b → IsSayableType τ → AreSpacedBehind last (written_type b τ)
  type_spaced last b (IntType n) s h = (stands last b T.Word (105 ∷ decimal n) s (int_type_text n (small n (first_class_int n h.type).1)), tt)
  type_spaced last b (PointerType n) s h = (stands last b T.Word (codes "ptr") s (IsText.word (codes "ptr") refl), space_spaced (Some T.Word) n (first_class_pointer n h.type))
  type_spaced last b (FloatingType f) s h = (stands last b T.Word (type_text (FloatingType f)) s (flat_word (FloatingType f) (floating_flat f)), tt)
  type_spaced last b (RefusedType o) s h = (stands last b T.Word (type_text (RefusedType o)) s (flat_word (RefusedType o) (other_flat o)), tt)
  type_spaced last b (ArrayType n t) s h =
      let k = array_parts n t h in
      (sign_stands last b T.OpenBracket 91 s refl, (count_stands T.OpenBracket n (λ c. refl) k.count, (word_free (codes "x") refl (Some T.Int), counted_spaced t (close T.CloseBracket (codes "]")) bracket_close (type_spaced (Some T.Word) (codes " ") t (behind_blank (Some T.Word)) k.part))))
  type_spaced last b (VectorType E.Fixed n t) s h =
      let k = vector_parts E.Fixed n t h in
      (sign_stands last b T.Less 60 s refl, (count_stands T.Less n (λ c. refl) k.count, (word_free (codes "x") refl (Some T.Int), counted_spaced t (close T.Greater (codes ">")) angle_close (type_spaced (Some T.Word) (codes " ") t (behind_blank (Some T.Word)) k.part))))
  type_spaced last b (VectorType E.Scalable n t) s h =
      let k = vector_parts E.Scalable n t h in
      let vscale = stands (Some T.Less) [] T.Word (codes "vscale") (behind_open T.Less (λ c. refl)) (IsText.word (codes "vscale") refl) in
      let rest = counted_spaced t (close T.Greater (codes ">")) angle_close (type_spaced (Some T.Word) (codes " ") t (behind_blank (Some T.Word)) k.part) in
      (sign_stands last b T.Less 60 s refl, (vscale, (word_free (codes "x") refl (Some T.Word), (apart_free T.Int (decimal n) (decimal_text n k.count) (Some T.Word), (word_free (codes "x") refl (Some T.Int), rest)))))
  type_spaced last b (StructType S.Unpacked ts) s h =
      let k = struct_parts S.Unpacked ts h in
      (sign_stands last b T.OpenBrace 123 s refl, (both_free (written_fields ts) (token (before_brace ts) T.CloseBrace (codes "}") ∷ []) (fields_free ts k.parts) (one_free (brace_close ts))).behind (Some T.OpenBrace))
  type_spaced last b (StructType S.Packed ts) s h =
      let k = struct_parts S.Packed ts h in
      let end = then_free (brace_close ts) (one_free angle_close) in
      let opens = sign_stands (Some T.Less) [] T.OpenBrace 123 (behind_open T.Less (λ c. refl)) refl in
      (sign_stands last b T.Less 60 s refl, (opens, (both_free (written_fields ts) (token (before_brace ts) T.CloseBrace (codes "}") ∷ close T.Greater (codes ">") ∷ []) (fields_free ts k.parts) end).behind (Some T.OpenBrace)))
  type_spaced last b (NamedType n) s h = (stands last b T.Local (type_text (NamedType n)) s (struct_form n h.names), tt)
  type_spaced last b τ s h = absurd (let k = first_class_value τ h.type in cc)

  fields_free : (ts : TypeTrees) → All IsSayableType (types_list ts) → AreFree (written_fields ts)
  fields_free NoTypes h = none_free
  fields_free (ThenType t ts) h = field_free t (next_fields ts) (λ last. type_spaced last (codes " ") t (behind_blank last) (All-head IsSayableType t (types_list ts) h)) (next_free ts (All-tail IsSayableType t (types_list ts) h))

  next_free : (ts : TypeTrees) → All IsSayableType (types_list ts) → AreFree (next_fields ts)
  next_free NoTypes h = none_free
  next_free (ThenType t ts) h = then_free comma_free (field_free t (next_fields ts) (λ last. type_spaced last (codes " ") t (behind_blank last) (All-head IsSayableType t (types_list ts) h)) (next_free ts (All-tail IsSayableType t (types_list ts) h)))

void_spaced : (last : Option Kind) (b : Text) → Stands last b → AreSpacedBehind last (written_type b VoidType)
unfolding written_type
void_spaced last b s = (stands last b T.Word (codes "void") s (IsText.word (codes "void") refl), tt)

result_spaced : (last : Option Kind) (b : Text) (τ : TypeTree) → Stands last b → IsSayableResult τ → AreSpacedBehind last (written_type b τ)
result_spaced last b τ s h = by (is_void τ) refl
  where
    by : (v : Bool) → is_void τ ≡ v → AreSpacedBehind last (written_type b τ)
    by true is = subst (λ (t : TypeTree). AreSpacedBehind last (written_type b t)) (sym (void_is τ is)) (void_spaced last b s)
    by false is = type_spaced last b τ s (own_sayable τ h is)

-- behind a blank they may stand behind any token
pub result_free : (τ : TypeTree) → IsSayableResult τ → AreFree (written_type (codes " ") τ)
result_free τ h = record { behind = λ last. result_spaced last (codes " ") τ (behind_blank last) h }

pub type_free : (τ : TypeTree) → IsSayableType τ → AreFree (written_type (codes " ") τ)
type_free τ h = result_free τ (sayable_if τ h)

-- and they may stand directly behind a sign after which any token may
pub type_opened : (k : Kind) → IsOpen k → (τ : TypeTree) → IsSayableType τ → AreSpacedBehind (Some k) (written_type [] τ)
type_opened k opens τ h = result_spaced (Some k) [] τ (behind_open k opens) (sayable_if τ h)

-- ---- their text

space_written : (n : ℕ) → text_of (written_space n) ≡ space_text n
space_written zero = refl
space_written (suc n) = refl

pub text_both : (xs ys : List Spaced) → text_of (xs ++ ys) ≡ text_of xs ++ text_of ys
text_both [] ys = refl
text_both (x ∷ xs) ys = rw (text_both xs ys) (sym (append_assoc (x.before ++ x.text) (text_of xs) (text_of ys)))

-- a type before a sign, and fields before what closes them
counted_written : (t : TypeTree) (end : Spaced) → text_of (written_type (codes " ") t) ≡ codes " " ++ type_text t → text_of (written_type (codes " ") t ++ (end ∷ [])) ≡ (codes " " ++ type_text t) ++ text_of (end ∷ [])
counted_written t end e = text_both (written_type (codes " ") t) (end ∷ []) ∙ ap (λ (u : Text). u ++ text_of (end ∷ [])) e

struct_written : (ts : TypeTrees) (end : List Spaced) → text_of (written_fields ts) ≡ fields_text ts → text_of (written_fields ts ++ end) ≡ fields_text ts ++ text_of end
struct_written ts end e = text_both (written_fields ts) end ∙ ap (λ (u : Text). u ++ text_of end) e

mutual
  unfolding written_type written_fields next_fields

  -- a line for each kind of several tokens
  pub type_written : (b : Text) (τ : TypeTree) → text_of (written_type b τ) ≡ b ++ type_text τ
  type_written b (PointerType n) = ap (λ (t : Text). b ++ codes "ptr" ++ t) (space_written n) ∙ append_assoc b (codes "ptr") (space_text n)
  type_written b (ArrayType n t) = let e = counted_written t (close T.CloseBracket (codes "]")) (type_written (codes " ") t) in rw e (simp append_assoc)
  type_written b (VectorType E.Fixed n t) = let e = counted_written t (close T.Greater (codes ">")) (type_written (codes " ") t) in rw e (simp append_assoc)
  type_written b (VectorType E.Scalable n t) = let e = counted_written t (close T.Greater (codes ">")) (type_written (codes " ") t) in rw e (simp append_assoc)
  type_written b (StructType S.Unpacked ts) = let e = struct_written ts (token (before_brace ts) T.CloseBrace (codes "}") ∷ []) (fields_written ts) in rw e (simp append_assoc)
  type_written b (StructType S.Packed ts) = let e = struct_written ts (token (before_brace ts) T.CloseBrace (codes "}") ∷ close T.Greater (codes ">") ∷ []) (fields_written ts) in rw e (simp append_assoc)
  type_written b τ = append-nil (b ++ type_text τ)

  fields_written : (ts : TypeTrees) → text_of (written_fields ts) ≡ fields_text ts
  fields_written NoTypes = refl
  fields_written (ThenType t ts) = text_both (written_type (codes " ") t) (next_fields ts) ∙ rw (type_written (codes " ") t, next_written ts) refl

  next_written : (ts : TypeTrees) → text_of (next_fields ts) ≡ next_fields_text ts
  next_written NoTypes = refl
  next_written (ThenType t ts) = ap (λ (u : Text). codes "," ++ u) (text_both (written_type (codes " ") t) (next_fields ts)) ∙ rw (type_written (codes " ") t, next_written ts) refl
