-- i and digits are a type: its class, and its width.
use Rattle.std.proofs.Common.{◌≡◌, ◌≤◌, ◌^◌, ◌<◌, ℕ, Bool, true, false, cond, not, nat_le, nat_lt, length, List, [], ◌∷◌, Option, Some, None, refl, sym, ap, ◌∙◌, arith}
use Rattle.std.specs.Prelude.{decimal, unwrap_or}
use Rattle.std.specs.List.{list_all}
use Rattle.std.specs.Str.{bytes_eq}
use Rattle.std.proofs.lemmas.Slice.Eq.{bytes_eq-Decides}
use Rattle.std.proofs.lemmas.Bool.{and_parts}
use Rattle.std.proofs.lemmas.Bool.Decides.{nat_tests}
use Rattle.std.proofs.Math.Nat.{pow-le-pow_right}
use Rattle.ll_classes.specs.Classes.{is_int_type, other_word}
use Rattle.ll_classes.specs.Llvm.{llvm_class, llvm_rows}
use Rattle.ll_classes.specs.declared.numbers.TheConstants.{INTTYPE, WORD}
use Rattle.ll_classes.specs.Words.{Row, class_among}
use Rattle.kinds.specs.Types.{IntType}
use Rattle.ll_tokens.specs.declared.kinds.Kind.TheVariants.{Word}
use Rattle.ll_literals.specs.Text.{Text}
use Rattle.ll_values.specs.Values.{int_type}
use Rattle.ll_said.proofs.DecimalLaws.{IsDecimal, IsDecimal-decimal}
use Rattle.ll_written.proofs.DecimalLaws.{width_of-decimal}
use Rattle.ll_written.proofs.WordClasses.{inttype}

-- a text that passes a test that no row does has no class among them
by_row : (p : Text → Bool) (t u : Text) (b : Bool) (n : ℕ) (o : Option ℕ) → p t ≡ true → not (p u) ≡ true → bytes_eq t u ≡ b → o ≡ None → cond b (Some n) o ≡ None
by_row p t u true n o is other e none = absurd (let same : t ≡ u = (bytes_eq-Decides t u).0 e in let k : p u ≡ true = ap p (sym same) ∙ is in let f : not true ≡ true = rw k at other in cc)
by_row p t u false n o is other e none = none

no_class : (p : Text → Bool) (t : Text) (rows : List Row) → p t ≡ true → list_all (λ (r : Row). not (p r.0)) rows ≡ true → class_among rows t ≡ None
no_class p t [] is others = refl
no_class p t (r ∷ rs) is others =
    let k = and_parts (not (p r.0)) (list_all (λ (r : Row). not (p r.0)) rs) others in
    by_row p t r.0 (bytes_eq t r.0) r.1 (class_among rs t) is k.0 refl (no_class p t rs is k.1)

-- no word with a class of its own is i and digits
no_others : list_all (λ (r : Row). not (is_int_type r.0)) llvm_rows ≡ true
no_others = refl

pub small : (n : ℕ) → n ≤ 2 ^ 23 → n < 2 ^ 64
small n most = omega (arith, pow-le-pow_right {n = 2} (omega arith) {i = 23} {j = 63} (omega arith))

pub small_space : (n : ℕ) → n < 2 ^ 24 → n < 2 ^ 64
small_space n within = omega (arith, pow-le-pow_right {n = 2} (omega arith) {i = 24} {j = 64} (omega arith))

-- ---- the class

digits_type : (t : Text) (n : ℕ) → IsDecimal t n → is_int_type (105 ∷ t) ≡ true
digits_type t n d =
    let some : nat_lt 0 (length (d.first ∷ d.others)) ≡ true = grind (arith, nat_tests) in
    rw (d.text, some, d.digit, d.digits) refl

pub int_class : (n : ℕ) → n ≤ 2 ^ 23 → llvm_class Word (105 ∷ decimal n) ≡ inttype
unfolding llvm_class
int_class n most =
    let t = 105 ∷ decimal n in
    let type : is_int_type t ≡ true = digits_type (decimal n) n (IsDecimal-decimal n (small n most)) in
    let none : class_among llvm_rows t ≡ None = no_class is_int_type t llvm_rows type no_others in
    ap (λ (o : Option ℕ). unwrap_or o (other_word t)) none ∙ ap (λ (b : Bool). cond b INTTYPE WORD) type

-- ---- the width

pub int_width : (n : ℕ) → 1 ≤ n → n ≤ 2 ^ 23 → int_type (105 ∷ decimal n) ≡ Some (IntType n)
int_width n some most =
    let width = width_of-decimal (decimal n) n (IsDecimal-decimal n (small n most)) in
    let one : nat_le 1 n ≡ true = grind (arith, nat_tests) in
    let two : nat_le n (2 ^ 23) ≡ true = grind (arith, nat_tests) in
    rw (width, one, two) refl
