-- Tests of names and types decide what the form asks of them.
use Rattle.std.proofs.Common.{◌≡◌, ◌<◌, ℕ, Bool, true, false, not, ◌&&◌, ◌||◌, List, [], ◌∷◌, length, refl, sym, All}
use Rattle.std.specs.Bool.{Decides}
use Rattle.std.specs.List.{list_all}
use Rattle.std.proofs.lemmas.Bool.{and_from, and_parts, not-false}
use Rattle.std.proofs.lemmas.Bool.Decides.{Decides-at, Decides-and, Decides-like}
use Rattle.std.proofs.lemmas.List.Elements.{All-nil, All-cons, All-head, All-tail}
use Rattle.kinds.specs.Types.{shape, types_list}
use Rattle.kinds.specs.Fitting.{is_nothing, is_first_class}
use Rattle.kinds.specs.Held.{deepest, IsShallow, IsFirstClass, IsReturned}
use Rattle.kinds.specs.Held.{is_void as void_tree}
use Rattle.kinds.proofs.HeldLaws.{void_is, void_if, first_class_throughout, returned_own}
use Rattle.kinds.specs.Structs.{nests}
use Rattle.kinds.proofs.NestLaws.{nested_shallow}
use Rattle.kinds.proofs.PartLaws.{throughout_shape}
use Rattle.llvm_core.specs.declared.numbers.LLVMType.{LLVMType}
use Rattle.llvm_core.specs.Module.{Module}
use Rattle.llvm_core.specs.Names.{is_good_name, IsGoodOrNone}
use Rattle.llvm_core.specs.Parts.{is_kind}
use Rattle.llvm_core.specs.Sound.{IsModule}
use Rattle.llvm_core.specs.Data.{TypeTree, VoidType, type_at, types_at, trees_of, structs_of}
use Rattle.llvm_core.specs.Checked.{is_deep}
use Rattle.llvm_core.proofs.FormTypes.{kind_kept}
use Rattle.llvm_core.proofs.WholeTypes.{first_class_at, returned_at}
use Rattle.llvm_form.specs.Narrow.{is_none, is_good_or_none, is_returned_kind, is_first_class_type}

-- ---- names

pub good_or_none : (n : List ℕ) → Decides (is_good_or_none n) (IsGoodOrNone n)
good_or_none [] = (λ e. tt, λ h. refl)
good_or_none (b ∷ bs) = (λ e. e, λ h. h)

-- a name is good, and what has no value has none
pub named_right : (n : List ℕ) (τ : TypeTree) (void : Bool) → void ≡ void_tree τ → Decides (is_none n || (is_good_name n && not void)) (IsGoodOrNone n × (τ ≡ VoidType → n ≡ []))
named_right [] τ void is = (λ e. (tt, λ same. refl), λ h. refl)
named_right (b ∷ bs) τ true is = (λ e. let p = and_parts (is_good_name (b ∷ bs)) false e in absurd (cc), λ h. let none : b ∷ bs ≡ [] = h.1 (void_is τ (sym is)) in absurd (cc))
named_right (b ∷ bs) τ false is = (λ e. ((and_parts (is_good_name (b ∷ bs)) true e).0, λ same. let void = void_if τ same in absurd (cc)), λ h. and_from (is_good_name (b ∷ bs)) true h.0 refl)

-- ---- types

returned_shape : (t : TypeTree) → IsReturned t → (is_nothing (shape t) || is_first_class (shape t)) ≡ true
returned_shape t h = by (void_tree t) refl
  where
    by : (v : Bool) → void_tree t ≡ v → (is_nothing (shape t) || is_first_class (shape t)) ≡ true
    by true is = cc
    by false is = let own = throughout_shape is_first_class refl t (first_class_throughout t (returned_own t h is)) in cc

-- what nests no deeper than is allowed through the fields of structs is shallow
pub deep_shallow : (m : Module) (t : LLVMType) → is_deep m t ≡ false → IsShallow (type_at (trees_of m).types t)
deep_shallow m t shallow =
    let τ = type_at (trees_of m).types t in
    nested_shallow (structs_of m) τ (not-false (nests (structs_of m) deepest τ) shallow)

module _ (m : Module) (sound : IsModule m) where
  pub first_class_decided : (t : LLVMType) → t.0 < length m.types → IsShallow (type_at (trees_of m).types t) → Decides (is_first_class_type m t) (IsFirstClass (type_at (trees_of m).types t))
  first_class_decided t within shallow =
      let τ = type_at (trees_of m).types t in
      Decides-at (is_first_class_type m t) (is_first_class (shape τ)) (kind_kept m is_first_class t sound within)
      (λ e. first_class_at m sound t within shallow e, λ h. throughout_shape is_first_class refl τ (first_class_throughout τ h))

  pub returned_decided : (t : LLVMType) → t.0 < length m.types → IsShallow (type_at (trees_of m).types t) → Decides (is_kind is_returned_kind m.types t) (IsReturned (type_at (trees_of m).types t))
  returned_decided t within shallow =
      let τ = type_at (trees_of m).types t in
      let s = shape τ in
      Decides-at (is_kind is_returned_kind m.types t) (is_nothing s || is_first_class s) (kind_kept m (λ s. is_nothing s || is_first_class s) t sound within)
      (λ e. returned_at m sound t within shallow (void_tree τ) refl (λ none. let either = e in cc), λ h. returned_shape τ h)

  pub first_class_types : (ts : List LLVMType) → All (λ (t : LLVMType). t.0 < length m.types) ts → All IsShallow (types_list (types_at (trees_of m).types ts))
      → Decides (list_all (is_first_class_type m) ts) (All IsFirstClass (types_list (types_at (trees_of m).types ts)))
  first_class_types [] within shallow = (λ e. All-nil IsFirstClass, λ h. refl)
  first_class_types (t ∷ ts) within shallow =
      let W : LLVMType → Type 0 = λ t. t.0 < length m.types in
      let τ = type_at (trees_of m).types t in
      let τs = types_list (types_at (trees_of m).types ts) in
      Decides-like (is_first_class_type m t && list_all (is_first_class_type m) ts) (λ h. All-cons IsFirstClass τ τs h.0 h.1) (λ all. (All-head IsFirstClass τ τs all, All-tail IsFirstClass τ τs all))
      (Decides-and (is_first_class_type m t) (list_all (is_first_class_type m) ts) (first_class_decided t (All-head W t ts within) (All-head IsShallow τ τs shallow)) (first_class_types ts (All-tail W t ts within) (All-tail IsShallow τ τs shallow)))
