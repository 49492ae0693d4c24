-- What is decided of types and values, so that no rule that fails says that each holds.
use Rattle.std.proofs.Common.{◌≡◌, ◌≢◌, inl, inr, ℕ, Option, None, Some, ap, ◌∙◌}
use Rattle.std.proofs.lemmas.Bool.{cases_eq}
use Rattle.llvm_core.specs.declared.numbers.LLVMType.{LLVMType}
use Rattle.llvm_core.specs.declared.code.LLVMValue.{LLVMValue}
use Rattle.llvm_core.specs.declared.code.LLVMValue.TheVariants as V
use Rattle.llvm_core.proofs.ApartLemmas.{same_type}

-- ---- types

-- a type that is not another than t is t
pub type_decided : (o : Option LLVMType) (t : LLVMType) → ¬ (o ≢ Some t) → o ≡ Some t
type_decided None t h = absurd (h (λ e. cc))
type_decided (Some u) t h = elim (cases_eq u.0 t.0) [
  | inl same ↦ ap Some (same_type u t same)
  | inr other ↦ absurd (h (λ e. other (let same : u ≡ t = (cc) in ap (λ (s : LLVMType). s.0) same)))
]

-- ---- values

pub value_decided : (v w : LLVMValue) → ¬ (v ≢ w) → v ≡ w
value_decided (V.Const c) (V.Const d) h = elim (cases_eq c.0 d.0) [ inl same ↦ ap (λ (n : ℕ). V.Const (record { 0 = n })) same | inr other ↦ absurd (h (λ e. other (cc))) ]
value_decided (V.Const c) (V.Param g j) h = absurd (h (λ e. cc))
value_decided (V.Const c) (V.Inst j) h = absurd (h (λ e. cc))
value_decided (V.Param f i) (V.Const d) h = absurd (h (λ e. cc))
value_decided (V.Param f i) (V.Param g j) h = elim (cases_eq f.0 g.0) [
  | inl same ↦ elim (cases_eq i j) [
    | inl place ↦ ap (λ (n : ℕ). V.Param (record { 0 = n }) i) same ∙ ap (V.Param g) place
    | inr other ↦ absurd (h (λ e. other (cc)))
  ]
  | inr other ↦ absurd (h (λ e. other (cc)))
]
value_decided (V.Param f i) (V.Inst j) h = absurd (h (λ e. cc))
value_decided (V.Inst i) (V.Const d) h = absurd (h (λ e. cc))
value_decided (V.Inst i) (V.Param g j) h = absurd (h (λ e. cc))
value_decided (V.Inst i) (V.Inst j) h = elim (cases_eq i.0 j.0) [ inl same ↦ ap (λ (n : ℕ). V.Inst (record { 0 = n })) same | inr other ↦ absurd (h (λ e. other (cc))) ]
