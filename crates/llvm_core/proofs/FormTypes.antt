-- Which kinds stand under the numbers of types whose trees are those of the form.
use Rattle.std.proofs.Common.{◌≡◌, ◌<◌, ℕ, zero, suc, Bool, true, false, not, List, [], ◌∷◌, Some, length, slice_get, refl, sym, ap, subst, ◌∙◌, arith, IsTrue, All}
use Rattle.std.specs.List.{list_any}
use Rattle.std.specs.Option.{option_map_or}
use Rattle.std.proofs.lemmas.Option.{slice_get_within}
use Rattle.std.proofs.lemmas.List.Elements.{All-head, All-tail, All-weaker}
use Rattle.support.proofs.ListLaws.{item_there}
use Rattle.kinds.specs.declared.fitting.Shape.{Shape}
use Rattle.kinds.specs.Types.{shape, types_list, count_types}
use Rattle.kinds.specs.Fitting.{is_nothing, is_value}
use Rattle.kinds.specs.Fitting.{is_function as function_shape}
use Rattle.kinds.specs.Held.{IsFirstClass, IsReturned}
use Rattle.kinds.specs.Held.{is_void as void_tree}
use Rattle.kinds.proofs.HeldLaws.{void_is, first_class_value, returned_own}
use Rattle.llvm_core.specs.declared.numbers.LLVMType.{LLVMType}
use Rattle.llvm_core.specs.declared.numbers.LLVMFunction.{LLVMFunction}
use Rattle.llvm_core.specs.declared.types.LLVMTypeKind.{LLVMTypeKind}
use Rattle.llvm_core.specs.declared.types.LLVMTypeKind.TheVariants as T
use Rattle.llvm_core.specs.declared.code.FunctionData.{FunctionData}
use Rattle.llvm_core.specs.Module.{Module}
use Rattle.llvm_core.specs.Parts.{shape_of, is_function, is_kind, type_params}
use Rattle.llvm_core.specs.Sound.{IsModule}
use Rattle.llvm_core.specs.Data.{TypeTree, FunctionType, TypeTrees, type_at, types_at, type_tree, trees_of, nth_type}
use Rattle.llvm_core.specs.Checked.{is_void, is_valueless, return_type, misfits_signature}
use Rattle.llvm_core.proofs.DataLemmas.{type_tree_of, function_tree_of}
use Rattle.llvm_core.proofs.RuleLaws.{shape_kept}

-- ---- the kind at a number

-- a test of what rules look at says of a type that is there what it says of its tree
pub kind_kept : (m : Module) (p : Shape → Bool) (t : LLVMType) → IsModule m → t.0 < length m.types → is_kind (λ (k : LLVMTypeKind). p (shape_of k)) m.types t ≡ p (shape (type_at (trees_of m).types t))
kind_kept m p t sound within =
    let k = item_there m.types t.0 within in
    rw k.1 (ap p (shape_kept (trees_of m).types k.0 ∙ ap shape (sym (type_tree_of m t k.0 sound k.1))))

pub void_kept : (m : Module) (t : LLVMType) → IsModule m → t.0 < length m.types → is_kind is_void m.types t ≡ void_tree (type_at (trees_of m).types t)
void_kept m = kind_kept m is_nothing

pub first_class_has_value : (m : Module) (t : LLVMType) → IsModule m → t.0 < length m.types → IsFirstClass (type_at (trees_of m).types t) → is_kind is_valueless m.types t ≡ false
first_class_has_value m t sound within h = kind_kept m (λ s. not (is_value s)) t sound within ∙ ap not (first_class_value (type_at (trees_of m).types t) h)

value_no_function : (s : Shape) → is_value s ≡ true → function_shape s ≡ false
value_no_function s h = grind arith

-- what is returned is no function
pub returned_no_function : (t : TypeTree) → IsReturned t → function_shape (shape t) ≡ false
returned_no_function t h = by (void_tree t) refl
  where
    by : (v : Bool) → void_tree t ≡ v → function_shape (shape t) ≡ false
    by true is = ap (λ (u : TypeTree). function_shape (shape u)) (void_is t is)
    by false is = value_no_function (shape t) (first_class_value t (returned_own t h is))

-- ---- lists of types

none_valueless : (m : Module) (ts : List LLVMType) → IsModule m → All (λ (t : LLVMType). t.0 < length m.types) ts → All IsFirstClass (types_list (types_at (trees_of m).types ts)) → list_any (is_kind is_valueless m.types) ts ≡ false
none_valueless m [] sound within h = refl
none_valueless m (t ∷ ts) sound within h =
    let W : LLVMType → Type 0 = λ t. t.0 < length m.types in
    let τ = type_at (trees_of m).types t in
    let τs = types_list (types_at (trees_of m).types ts) in
    rw (first_class_has_value m t sound (All-head W t ts within) (All-head IsFirstClass τ τs h), none_valueless m ts sound (All-tail W t ts within) (All-tail IsFirstClass τ τs h)) refl

pub count_is : (trees : List TypeTree) (ts : List LLVMType) → count_types (types_at trees ts) ≡ length ts
count_is trees [] = refl
count_is trees (t ∷ ts) = let e = count_is trees ts in omega (arith, e)

pub nth_is : (trees : List TypeTree) (ts : List LLVMType) (i : ℕ) (t : LLVMType) → slice_get ts i ≡ Some t → nth_type (types_at trees ts) i ≡ type_at trees t
nth_is trees [] i t h = absurd cc
nth_is trees (s ∷ ts) zero t h = let e : s ≡ t = (cc) in ap (type_at trees) e
nth_is trees (s ∷ ts) (suc i) t h = nth_is trees ts i t h

-- ---- the type of a function

-- the type of the function has these parts
pub record HasSignature (m : Module) (x : FunctionData) (result : TypeTree) (types : TypeTrees) : Type 0 where
  pub returned : LLVMType
  pub params : List LLVMType
  pub variadic : Bool
  pub kind_is : slice_get m.types x.ty.0 ≡ Some (T.Function returned params variadic)
  pub within : returned.0 < length m.types
  pub params_within : All (λ (t : LLVMType). t.0 < length m.types) params
  pub returned_is : type_at (trees_of m).types returned ≡ result
  pub params_are : types_at (trees_of m).types params ≡ types

-- the kind of a function type
function_kind : (k : LLVMTypeKind) → IsTrue (is_function k) → (result : LLVMType) × (params : List LLVMType) × (variadic : Bool) × (k ≡ T.Function result params variadic)
function_kind (T.Function r ps v) h = (r, ps, v, refl)
function_kind k h = absurd cc

-- a function has a function type
pub function_typed : (m : Module) (f : ℕ) (x : FunctionData) → IsModule m → slice_get m.functions f ≡ Some x → (result : TypeTree) × (types : TypeTrees) × (variadic : Bool) × (type_at (trees_of m).types x.ty ≡ FunctionType result types variadic)
function_typed m f x sound at =
    let typed = (sound.functions f x at).typed in
    let k = function_kind typed.0 typed.2 in
    (type_at (trees_of m).types k.0, types_at (trees_of m).types k.1, k.2, type_tree_of m x.ty typed.0 sound typed.1 ∙ ap (type_tree (trees_of m).types) k.3)

pub signature_of : (m : Module) (f : ℕ) (x : FunctionData) (result : TypeTree) (types : TypeTrees) (variadic : Bool) → IsModule m → slice_get m.functions f ≡ Some x
    → type_at (trees_of m).types x.ty ≡ FunctionType result types variadic → HasSignature m x result types
signature_of m f x result types variadic sound at is =
    let typed = (sound.functions f x at).typed in
    let k = function_kind typed.0 typed.2 in
    let kind : slice_get m.types x.ty.0 ≡ Some (T.Function k.0 k.1 k.2) = typed.1 ∙ ap Some k.3 in
    let over = sound.types x.ty.0 (T.Function k.0 k.1 k.2) kind in
    let e = sym (function_tree_of m x.ty k.0 k.1 k.2 sound kind) ∙ is in
    let within = slice_get_within m.types x.ty.0 (T.Function k.0 k.1 k.2) kind in
    record {
      returned = k.0;
      params = k.1;
      variadic = k.2;
      kind_is = kind;
      within = omega (arith, over.0, within);
      params_within = All-weaker (λ (t : LLVMType). t.0 < x.ty.0) (λ (t : LLVMType). t.0 < length m.types) (λ t lt. omega (arith, lt, within)) k.1 over.1;
      returned_is = cc;
      params_are = cc;
    }

-- the function of a number
abbrev pub numbered : ℕ → LLVMFunction
numbered n = record { 0 = n }

module _ (m : Module) (f : ℕ) (x : FunctionData) (result : TypeTree) (types : TypeTrees) (sound : IsModule m) (at : slice_get m.functions f ≡ Some x) (s : HasSignature m x result types) where
  pub signature_fits : IsReturned result → All IsFirstClass (types_list types) → option_map_or (misfits_signature m.types) (slice_get m.types x.ty.0) false ≡ false
  signature_fits returns takes =
      let returned = subst IsReturned (sym s.returned_is) returns in
      let no_function : is_kind is_function m.types s.returned ≡ false = kind_kept m function_shape s.returned sound s.within ∙ returned_no_function (type_at (trees_of m).types s.returned) returned in
      let params : All IsFirstClass (types_list (types_at (trees_of m).types s.params)) = subst (λ ts. All IsFirstClass (types_list ts)) (sym s.params_are) takes in
      rw (s.kind_is, none_valueless m s.params sound s.params_within params, no_function) refl

  pub return_type_is : return_type m (numbered f) ≡ Some s.returned
  return_type_is = rw (at, s.kind_is) refl

  pub param_types_are : type_params m.types x.ty ≡ s.params
  param_types_are = rw s.kind_is refl
