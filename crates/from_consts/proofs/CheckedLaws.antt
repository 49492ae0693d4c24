-- Types in use of a checked module nest no deeper than is allowed, and what is within a type nests no deeper than it does.
use Rattle.std.proofs.Common.{ℕ, zero, suc, ◌≡◌, ◌∙◌, refl, sym, ap, subst, Bool, true, false, not, ◌||◌, List, [], ◌∷◌, Option, Some, None, map, slice_get}
use Rattle.std.specs.List.{list_any}
use Rattle.std.specs.Option.{option_map, option_map_or}
use Rattle.std.proofs.lemmas.Option.{same_Some, slice_get-map}
use Rattle.kinds.specs.Held.{deepest}
use Rattle.kinds.specs.Types.{TypeTree, NamedType, types_list, parts_of}
use Rattle.kinds.specs.Structs.{nests}
use Rattle.kinds.proofs.NestLaws.{each_listed, nests_more, parts_nest}
use Rattle.llvm_core.specs.declared.check_err.CheckErr.TheVariants as E
use Rattle.llvm_core.specs.declared.check_err.Place.TheVariants as P
use Rattle.llvm_core.specs.declared.code.FunctionData.{FunctionData}
use Rattle.llvm_core.specs.declared.code.InstData.{InstData}
use Rattle.llvm_core.specs.declared.code.LLVMValue.{LLVMValue}
use Rattle.llvm_core.specs.declared.numbers.LLVMType.{LLVMType}
use Rattle.llvm_core.specs.declared.structs.StructData.{StructData}
use Rattle.llvm_core.specs.declared.structs.StructFields.{StructFields}
use Rattle.llvm_core.specs.declared.types.LLVMTypeKind.{LLVMTypeKind}
use Rattle.llvm_core.specs.declared.types.LLVMTypeKind.TheVariants as T
use Rattle.llvm_core.specs.Checked.{IsChecked, is_deep, is_deep_value}
use Rattle.llvm_core.specs.Data.{structs_of, trees_of, type_at, type_tree, types_at}
use Rattle.llvm_core.specs.Depths.{nests_at}
use Rattle.llvm_core.specs.Module.{Module}
use Rattle.llvm_core.specs.Parts.{operands, value_type}
use Rattle.llvm_core.specs.Sound.{IsModule}
use Rattle.llvm_core.proofs.DataLemmas.{type_tree_of, within_at}
use Rattle.held_types.proofs.InsideLaws.{body_nests, fields_nest, listed, listed_at}
use Rattle.from_consts.specs.Parts.{parts_in, IsFieldOf, IsNamed, IsPart, InKind, InStruct, IsWithin, Itself, Inside}

-- what a part was read of
read_of : {X Y : Type 0} (f : X → Y) (o : Option X) (y : Y) → option_map f o ≡ Some y → (x : X) × (o ≡ Some x) × (f x ≡ y)
read_of f None y e = cc
read_of f (Some x) y e = (x, refl, same_Some (f x) y e)

-- one that does not nest so deep would be refused
not_deep : (m : Module) (t : LLVMType) → ¬ (is_deep m t ≡ true) → nests_at m t deepest ≡ true
not_deep m t h = by (nests_at m t deepest) refl
  where
    by : (b : Bool) → nests_at m t deepest ≡ b → nests_at m t deepest ≡ true
    by true is = is
    by false is = absurd (h (ap not is))

pub function_nests : (m : Module) (f : ℕ) (t : LLVMType) → IsChecked m → option_map (λ (x : FunctionData). x.ty) (slice_get m.functions f) ≡ Some t → nests_at m t deepest ≡ true
function_nests m f t checked at =
    let x = read_of (λ (x : FunctionData). x.ty) (slice_get m.functions f) t at in
    subst (λ (u : LLVMType). nests_at m u deepest ≡ true) x.2 (not_deep m x.0.ty (λ deep. checked (E.TooDeep (P.Function f)) (x.0, x.1, deep)))

pub result_nests : (m : Module) (i : ℕ) (t : LLVMType) → IsChecked m → option_map (λ (x : InstData). x.ty) (slice_get m.insts i) ≡ Some t → nests_at m t deepest ≡ true
result_nests m i t checked at =
    let x = read_of (λ (x : InstData). x.ty) (slice_get m.insts i) t at in
    subst (λ (u : LLVMType). nests_at m u deepest ≡ true) x.2
    (not_deep m x.0.ty (λ deep. checked (E.TooDeep (P.Inst i)) (x.0, x.1, ap (λ (b : Bool). b || list_any (is_deep_value m) (operands x.0.inst)) deep)))

pub struct_nests : (m : Module) (s : ℕ) (x : StructData) (t : LLVMType) → IsChecked m → IsModule m → slice_get m.structs s ≡ Some x → IsNamed m t x.name → nests_at m t deepest ≡ true
struct_nests m s x t checked sound at named =
    let tree = type_tree_of m t (T.Named x.name) sound named in
    not_deep m t (λ deep. checked (E.TooDeep (P.Struct s)) (x, at, ap (λ (u : TypeTree). not (nests (structs_of m) deepest u)) (sym tree) ∙ deep))

any_at : {X : Type 0} (p : X → Bool) (xs : List X) (i : ℕ) (x : X) → slice_get xs i ≡ Some x → p x ≡ true → list_any p xs ≡ true
any_at p [] i x at h = cc
any_at p (y ∷ xs) zero x at h = ap (λ (b : Bool). b || list_any p xs) (ap p (same_Some y x at) ∙ h)
any_at p (y ∷ xs) (suc i) x at h = by (p y) (any_at p xs i x at h)
  where
    by : (b : Bool) → list_any p xs ≡ true → (b || list_any p xs) ≡ true
    by true later = refl
    by false later = later

pub operand_nests : (m : Module) (i j : ℕ) (x : InstData) (v : LLVMValue) (t : LLVMType) → IsChecked m → slice_get m.insts i ≡ Some x → slice_get (operands x.inst) j ≡ Some v → value_type m v ≡ Some t → nests_at m t deepest ≡ true
operand_nests m i j x v t checked at here typed =
    not_deep m t (λ deep. checked (E.TooDeep (P.Inst i)) (x, at, deep_inst (is_deep m x.ty) (any_at (is_deep_value m) (operands x.inst) j v here (ap (λ (o : Option LLVMType). option_map_or (is_deep m) o false) typed ∙ deep))))
  where
    deep_inst : (b : Bool) → list_any (is_deep_value m) (operands x.inst) ≡ true → (b || list_any (is_deep_value m) (operands x.inst)) ≡ true
    deep_inst true h = refl
    deep_inst false h = h

-- ---- what is within

-- the parts of a tree are those of the kind, by their numbers: a line for each kind with parts
parts_tree : (trees : List TypeTree) (k : LLVMTypeKind) → parts_of (type_tree trees k) ≡ map (λ (t : LLVMType). type_at trees t) (parts_in k)
parts_tree trees (T.Array n t) = refl
parts_tree trees (T.Vector v n t) = refl
parts_tree trees (T.Literal ts l) = sym (listed trees ts)
parts_tree trees (T.Function r ts v) = ap (λ (us : List TypeTree). type_at trees r ∷ us) (sym (listed trees ts))
parts_tree trees k = refl

module _ (m : Module) (sound : IsModule m) where
  abbrev trees : List TypeTree
  trees = (trees_of m).types

  field_nests : (name : List ℕ) (u : LLVMType) (n : ℕ) → IsFieldOf m name u → nests (structs_of m) n (NamedType name) ≡ true → nests_at m u n ≡ true
  field_nests name u zero field h = cc
  field_nests name u (suc n) field h =
      let fields = fields_nest m name field.number field.is n h in
      let told = ap (option_map (λ (x : StructData). x.body)) field.at ∙ ap (λ (o : Option StructFields). Some o) field.told in
      let all = body_nests m field.number field.body told n fields in
      let each = each_listed (nests (structs_of m) n) (types_at trees field.body.types) all in
      nests_more (structs_of m) n (type_at trees u) (within_at (types_list (types_at trees field.body.types)) (λ (t : TypeTree). nests (structs_of m) n t ≡ true) each field.place (type_at trees u) (listed_at trees field.body.types field.place u field.here))

  part_nests : (u t : LLVMType) (n : ℕ) → IsPart m u t → nests_at m t n ≡ true → nests_at m u n ≡ true
  part_nests u t n (InKind k i at here) h =
      let inside = subst (λ (w : TypeTree). nests (structs_of m) n w ≡ true) (type_tree_of m t k sound at) h in
      let is = ap (λ (us : List TypeTree). slice_get us i) (parts_tree trees k) ∙ slice_get-map (λ (v : LLVMType). type_at trees v) (parts_in k) i ∙ ap (option_map (λ (v : LLVMType). type_at trees v)) here in
      within_at (parts_of (type_tree trees k)) (λ (w : TypeTree). nests (structs_of m) n w ≡ true) (parts_nest (structs_of m) n (type_tree trees k) inside) i (type_at trees u) is
  part_nests u t n (InStruct name named field) h = field_nests name u n field (subst (λ (w : TypeTree). nests (structs_of m) n w ≡ true) (type_tree_of m t (T.Named name) sound named) h)

  pub within_nests : (u t : LLVMType) (n : ℕ) → IsWithin m u t → nests_at m t n ≡ true → nests_at m u n ≡ true
  within_nests u _ n Itself h = h
  within_nests u _ n (Inside t v part inside) h = within_nests u v n inside (part_nests v t n part h)
