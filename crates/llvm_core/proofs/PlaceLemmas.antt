-- Whether an element may stand at a place goes by the kind of the type.
use Rattle.std.proofs.Common.{◌≡◌, ◌<◌, ℕ, Bool, List, Some, length, slice_get, replicate, sym, ◌∙◌, refl, subst, arith, All}
use Rattle.std.specs.Prelude.{◌↔◌, IsTrue}
use Rattle.std.proofs.lemmas.List.{length-replicate}
use Rattle.std.proofs.lemmas.List.Elements.{All-replicate}
use Rattle.std.proofs.lemmas.Option.{same_Some, slice_get_within}
use Rattle.support.proofs.ListLaws.{item_there}
use Rattle.llvm_core.specs.declared.numbers.LLVMType.{LLVMType}
use Rattle.llvm_core.specs.declared.numbers.LLVMConst.{LLVMConst}
use Rattle.llvm_core.specs.declared.types.LLVMTypeKind.{LLVMTypeKind}
use Rattle.llvm_core.specs.declared.consts.LLVMConstKind.{LLVMConstKind}
use Rattle.llvm_core.specs.Module.{Module}
use Rattle.llvm_core.specs.Parts.{const_type}
use Rattle.llvm_core.specs.Consts.{IsElement, HasFields}
use Rattle.llvm_core.specs.Pieces.{FitsKind, FitsPlace, OneFits, FieldFits, NamedFits}
use Rattle.llvm_core.proofs.DataLemmas.{within_at}
use Rattle.llvm_core.proofs.HoldLemmas.{alike, same_fields}
use Rattle.llvm_core.proofs.PieceLemmas.{one_at}

module _ (m : Module) (place : ℕ) (c : LLVMConst) (b : Bool) where
  -- of so many elements of one type, whichever list has their types
  abbrev pub EachFits : ℕ → LLVMType → Type 0
  EachFits count t = (parts : List LLVMType) (u : LLVMType) → (length parts ≡ count) × All (λ (x : LLVMType). x ≡ t) parts → slice_get parts place ≡ Some u → IsElement m.consts u c

  at_replicate : (count : ℕ) (t : LLVMType) → place < count → slice_get (replicate count t) place ≡ Some t
  at_replicate count t lt =
      let u = item_there (replicate count t) place (omega (arith, lt, length-replicate count t)) in
      subst (λ (x : LLVMType). slice_get (replicate count t) place ≡ Some x) (one_at count t u.0 place u.1) u.1

  pub by_count : (count : ℕ) (t : LLVMType) → (IsTrue b ↔ OneFits m.consts count t place c) → (IsTrue b ↔ EachFits count t)
  by_count count t h =
      alike b (OneFits m.consts count t place c) (EachFits count t) h
      (λ one parts u (len, all) at.
      let lt = slice_get_within parts place u at in
      let is = within_at parts (λ (x : LLVMType). x ≡ t) all place u at in
      subst (λ (x : LLVMType). IsElement m.consts x c) (sym is) (one (omega (arith, lt, len))))
      (λ each lt. each (replicate count t) t (length-replicate count t, All-replicate (λ (x : LLVMType). x ≡ t) count t refl) (at_replicate count t lt))

  pub by_field : (fields : List LLVMType) (v : LLVMType) → slice_get fields place ≡ Some v → (IsTrue b ↔ IsElement m.consts v c) → (IsTrue b ↔ FieldFits m.consts fields place c)
  by_field fields v there h =
      alike b (IsElement m.consts v c) (FieldFits m.consts fields place c) h (λ one u at. subst (λ (x : LLVMType). IsElement m.consts x c) (same_Some v u (sym there ∙ at)) one) (λ each. each v there)

  -- the types of the elements are those of the fields
  abbrev pub ListFits : List LLVMType → Type 0
  ListFits fields = (parts : List LLVMType) (u : LLVMType) → parts ≡ fields → slice_get parts place ≡ Some u → IsElement m.consts u c

  pub by_fields : (fields : List LLVMType) → (IsTrue b ↔ FieldFits m.consts fields place c) → (IsTrue b ↔ ListFits fields)
  by_fields fields h =
      alike b (FieldFits m.consts fields place c) (ListFits fields) h (λ one parts u is at. one u (subst (λ (ts : List LLVMType). slice_get ts place ≡ Some u) is at)) (λ each u at. each fields u refl at)

  pub by_name : (name : List ℕ) (fields : List LLVMType) → HasFields m.structs name fields → (IsTrue b ↔ FieldFits m.consts fields place c) → (IsTrue b ↔ NamedFits m name place c)
  by_name name fields has h =
      alike b (FieldFits m.consts fields place c) (NamedFits m name place c) h
      (λ one parts u also at. one u (subst (λ (ts : List LLVMType). slice_get ts place ≡ Some u) (same_fields m.structs name fields parts has also) at)) (λ each u at. each fields u has at)

  -- in a constant, by the kind of its type
  pub by_kind : (aggregate : LLVMConst) (d : LLVMConstKind) (kind : LLVMTypeKind) → slice_get m.consts aggregate.0 ≡ Some d → slice_get m.types (const_type d).0 ≡ Some kind → (IsTrue b ↔ FitsKind m kind place c)
      → (IsTrue b ↔ ((k : LLVMConstKind) → slice_get m.consts aggregate.0 ≡ Some k → FitsPlace m (const_type k) place c))
  by_kind aggregate d kind held typed h =
      alike b (FitsKind m kind place c) ((k : LLVMConstKind) → slice_get m.consts aggregate.0 ≡ Some k → FitsPlace m (const_type k) place c) h
      (λ fits k at l is.
      let also = subst (λ (x : LLVMConstKind). slice_get m.types (const_type x).0 ≡ Some l) (same_Some k d (sym at ∙ held)) is in
      subst (λ (x : LLVMTypeKind). FitsKind m x place c) (same_Some kind l (sym typed ∙ also)) fits)
      (λ each. each d held kind typed)
