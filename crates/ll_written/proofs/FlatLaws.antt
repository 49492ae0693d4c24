-- The words of types without parts: each is a word, of the class of these, and says its type. The table of them tells, so a further word is no line here.
use Rattle.std.proofs.Common.{◌≡◌, Bool, true, false, cond, ◌&&◌, nat_eq, List, [], ◌∷◌, Option, Some, refl, ap, ◌∙◌, arith}
use Rattle.std.specs.List.{list_all}
use Rattle.std.specs.Map.{lookup}
use Rattle.std.specs.Option.{option_map}
use Rattle.std.specs.Str.{bytes_eq}
use Rattle.std.proofs.lemmas.Bool.{and_parts, eqb-true}
use Rattle.std.proofs.lemmas.Slice.Eq.{bytes_eq-Decides}
use Rattle.kinds.specs.declared.types.Floating.{Floating}
use Rattle.kinds.specs.declared.types.OtherType.{OtherType}
use Rattle.kinds.specs.Types.{TypeTree, FloatingType, RefusedType}
use Rattle.ll_classes.specs.Llvm.{llvm_class}
use Rattle.ll_lines.specs.Lines.{Text}
use Rattle.ll_spacing.specs.Forms.{IsText, is_word}
use Rattle.ll_tokens.specs.declared.kinds.Kind.TheVariants.{Word}
use Rattle.ll_values.specs.declared.form.Kind.TheVariants as K
use Rattle.ll_values.specs.declared.form.TypedKind.TheVariants.{Flat}
use Rattle.ll_values.specs.Values.{TextV, TypeV, value_by}
use Rattle.ll_values.specs.Words.{flat_rows, flat_type}
use Rattle.ll_written.specs.Printing.{type_text}
use Rattle.ll_written.specs.Rules as N
use Rattle.ll_written.specs.Written.{token}
use Rattle.ll_written.proofs.Productions as P
use Rattle.ll_written.proofs.Productions.{Reads}
use Rattle.ll_written.proofs.WordClasses.{flat}

-- ---- what holds of each text of a table holds of a text that stands in it

passes_by : {A : Type 0} (p : Text → Bool) (t u : Text) (b : Bool) (a x : A) (o : Option A) → bytes_eq t u ≡ b → p u ≡ true → (o ≡ Some x → p t ≡ true) → cond b (Some a) o ≡ Some x → p t ≡ true
passes_by p t u true a x o e passes others found = ap p ((bytes_eq-Decides t u).0 e) ∙ passes
passes_by p t u false a x o e passes others found = others found

found_passes : {A : Type 0} (p : Text → Bool) (t : Text) (rows : List (Text × A)) (x : A) → list_all (λ (r : Text × A). p r.0) rows ≡ true → lookup (bytes_eq t) rows ≡ Some x → p t ≡ true
found_passes p t [] x all found = cc
found_passes {A} p t (r ∷ rs) x all found =
    let k = and_parts (p r.0) (list_all (λ (r : Text × A). p r.0) rs) all in
    passes_by p t r.0 (bytes_eq t r.0) r.1 x (lookup (bytes_eq t) rs) refl k.0 (λ e. found_passes p t rs x k.1 e) found

-- ---- the table

abbrev is_flat : Text → Bool
is_flat t = is_word t && nat_eq (llvm_class Word t) flat

rows_flat : list_all (λ (r : Text × TypeTree). is_flat r.0) flat_rows ≡ true
unfolding llvm_class
rows_flat = refl

-- the type has its word in it
abbrev pub IsFlat : TypeTree → Type 0
IsFlat τ = flat_type (type_text τ) ≡ Some τ

pub floating_flat : (f : Floating) → IsFlat (FloatingType f)
floating_flat f = grind arith

pub other_flat : (o : OtherType) → IsFlat (RefusedType o)
other_flat o = grind arith

text_flat : (τ : TypeTree) → IsFlat τ → (is_word (type_text τ) ≡ true) × (nat_eq (llvm_class Word (type_text τ)) flat ≡ true)
text_flat τ h = and_parts (is_word (type_text τ)) (nat_eq (llvm_class Word (type_text τ)) flat) (found_passes is_flat (type_text τ) flat_rows τ rows_flat h)

-- ---- a type's word

pub flat_word : (τ : TypeTree) → IsFlat τ → IsText Word (type_text τ)
flat_word τ h = IsText.word (type_text τ) (text_flat τ h).0

flat_class : (τ : TypeTree) → IsFlat τ → llvm_class Word (type_text τ) ≡ flat
flat_class τ h = eqb-true (llvm_class Word (type_text τ)) flat (text_flat τ h).1

flat_again : (τ : TypeTree) → IsFlat τ → value_by (K.Typed Flat) (TextV (type_text τ) ∷ []) ≡ Some (TypeV τ)
flat_again τ h = ap (option_map TypeV) h

-- and it says the type
pub flat_says : (b : Text) (τ : TypeTree) → IsFlat τ → Reads N.type (TypeV τ) (token b Word (type_text τ) ∷ [])
flat_says b τ h = P.type_flat b (type_text τ) (flat_class τ h) (flat_again τ h)

pub flat_solid : (b : Text) (τ : TypeTree) → IsFlat τ → Reads N.solid (TypeV τ) (token b Word (type_text τ) ∷ [])
flat_solid b τ h = P.solid_flat b (type_text τ) (flat_class τ h) (flat_again τ h)

pub flat_lane : (b : Text) (τ : TypeTree) → IsFlat τ → Reads N.flat (TypeV τ) (token b Word (type_text τ) ∷ [])
flat_lane b τ h = P.flat b (type_text τ) (flat_class τ h) (flat_again τ h)
