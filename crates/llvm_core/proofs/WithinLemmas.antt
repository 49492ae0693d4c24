-- The types that a module's values name are there.
use Rattle.std.proofs.Common.{◌≡◌, ◌<◌, ℕ, Bool, true, false, if◌then◌else◌, List, Option, Some, None, [], length, slice_get, sym, ap, ◌∙◌, refl, arith, get_or}
use Rattle.std.specs.Option.{option_map, option_map_or}
use Rattle.std.proofs.lemmas.Option.{slice_get_within, get_or_from_slice_get, same_Some}
use Rattle.support.proofs.ListLaws.{item_there}
use Rattle.llvm_core.specs.declared.numbers.LLVMType.{LLVMType}
use Rattle.llvm_core.specs.declared.numbers.LLVMFunction.{LLVMFunction}
use Rattle.llvm_core.specs.declared.types.LLVMTypeKind.{LLVMTypeKind}
use Rattle.llvm_core.specs.declared.types.LLVMTypeKind.TheVariants as T
use Rattle.llvm_core.specs.declared.types.ResultType.{ResultType}
use Rattle.llvm_core.specs.declared.types.ResultType.TheVariants as R
use Rattle.llvm_core.specs.declared.consts.LLVMConstKind.{LLVMConstKind}
use Rattle.llvm_core.specs.declared.consts.LLVMConstKind.TheVariants as C
use Rattle.llvm_core.specs.declared.code.LLVMValue.{LLVMValue}
use Rattle.llvm_core.specs.declared.code.LLVMValue.TheVariants as V
use Rattle.llvm_core.specs.declared.code.LLVMInst.{LLVMInst}
use Rattle.llvm_core.specs.declared.code.LLVMInst.TheVariants as I
use Rattle.llvm_core.specs.declared.code.FunctionData.{FunctionData}
use Rattle.llvm_core.specs.declared.code.InstData.{InstData}
use Rattle.llvm_core.specs.Module.{Module}
use Rattle.llvm_core.specs.Code.{param_names}
use Rattle.llvm_core.specs.Consts.{IsConstIn}
use Rattle.llvm_core.specs.Parts.{IsTypeOver, IsValue, HasValues, IsResultOver, AreLanes, shape_at, laned_of, laned_at, bits_at, const_type, type_params, kind_params, param_types, value_type, result_type, given, row_fits, type_nth}
use Rattle.kinds.specs.declared.rules.Gives.{Gives}
use Rattle.kinds.specs.declared.rules.Gives.TheVariants as G
use Rattle.kinds.specs.declared.fitting.Shape.{Shape}
use Rattle.kinds.specs.declared.fitting.Shape.TheVariants as S
use Rattle.kinds.specs.Types.{one}
use Rattle.kinds.specs.Table.{rule_of}
use Rattle.kinds.specs.Fitting.{is_vector_of}
use Rattle.std.proofs.Common.{All, subst, zero, suc, ◌∷◌}
use Rattle.std.specs.Prelude.{IfSome}
use Rattle.std.proofs.lemmas.List.Elements.{All-head, All-tail}
use Rattle.llvm_core.specs.Sound.{IsModule}

pub const_type_within : (m : Module) (k : LLVMConstKind) → IsConstIn m k → (const_type k).0 < length m.types
const_type_within m (C.Int t v) h = slice_get_within m.types t.0 _ h.1
const_type_within m (C.Filled fill t) h = h.0
const_type_within m (C.Bytes t bytes) h = slice_get_within m.types t.0 _ h.0.0.1
const_type_within m (C.List t elements) h = slice_get_within m.types t.0 _ h.0.typed
const_type_within m (C.Splat t element) h = slice_get_within m.types t.0 _ h.0.2
const_type_within m (C.Placeholder number t) h = h

-- of each constant of a module
pub const_types_within : (m : Module) → IsModule m → (i : ℕ) (k : LLVMConstKind) → slice_get m.consts i ≡ Some k → (const_type k).0 < length m.types
const_types_within m s i k at = const_type_within m k (s.consts i k at)

pub param_within : (m : Module) (f : LLVMFunction) (place : ℕ) (x : FunctionData) (k : LLVMTypeKind) (d : LLVMType) → IsModule m
    → slice_get m.functions f.0 ≡ Some x → slice_get m.types x.ty.0 ≡ Some k → place < length (param_names m.functions f) → (get_or (kind_params k) place d).0 < length m.types
param_within m f place x k d s at is there =
    let count = (s.functions f.0 x at).params in
    let named : length (param_names m.functions f) ≡ length x.params = ap (λ o. length (option_map_or (λ (y : FunctionData). y.params) o [])) at in
    let typed : length (type_params m.types x.ty) ≡ length (kind_params k) = ap (λ o. length (option_map_or kind_params o [])) is in
    by k (s.types x.ty.0 k is) (omega arith)
  where
    earlier : x.ty.0 < length m.types
    earlier = slice_get_within m.types x.ty.0 k is

    by : (k : LLVMTypeKind) → IsTypeOver x.ty.0 k → place < length (kind_params k) → (get_or (kind_params k) place d).0 < length m.types
    by (T.Function result params variadic) ok lt = omega (arith, ok.1 place d lt, earlier)
    by k ok lt = grind arith

-- the function that has a parameter at a place
pub record HasParam (m : Module) (f : LLVMFunction) (place : ℕ) : Type 0 where
  pub function : FunctionData
  pub here : slice_get m.functions f.0 ≡ Some function
  pub kind : LLVMTypeKind
  pub kind_is : slice_get m.types function.ty.0 ≡ Some kind

pub param_there : (m : Module) (f : LLVMFunction) (place : ℕ) → IsModule m → place < length (param_names m.functions f) → HasParam m f place
param_there m f place s lt = by (slice_get m.functions f.0) refl lt
  where
    by : (o : Option FunctionData) → slice_get m.functions f.0 ≡ o → place < length (option_map_or (λ (y : FunctionData). y.params) o []) → HasParam m f place
    by None e h = absurd (omega (arith, h))
    by (Some x) e h = let typed = (s.functions f.0 x e).typed in record { function = x; here = e; kind = typed.0; kind_is = typed.1 }

param_type_within : (m : Module) (f : LLVMFunction) (place : ℕ) (t : LLVMType) → IsModule m → place < length (param_names m.functions f) → value_type m (V.Param f place) ≡ Some t → t.0 < length m.types
param_type_within m f place t s lt e =
    let p = param_there m f place s lt in
    let listed : slice_get (kind_params p.kind) place ≡ Some t =
    (ap (λ o. slice_get (option_map_or kind_params o []) place) (sym p.kind_is) ∙ ap (λ o. slice_get (option_map_or (param_types m) o []) place) (sym p.here) ∙ e) in
    let same = get_or_from_slice_get (kind_params p.kind) place t t listed in
    let within = param_within m f place p.function p.kind t s p.here p.kind_is lt in
    omega (arith, within, ap (λ (u : LLVMType). u.0) same)

-- the type of a value is there
pub value_type_within : (m : Module) (v : LLVMValue) (t : LLVMType) → IsModule m → IsValue m v → value_type m v ≡ Some t → t.0 < length m.types
value_type_within m (V.Const c) t s h e =
    let k = item_there m.consts c.0 h in
    let same : const_type k.0 ≡ t = same_Some (const_type k.0) t (ap (option_map const_type) (sym k.1) ∙ e) in
    let within = const_type_within m k.0 (s.consts c.0 k.0 k.1) in
    omega (arith, within, ap (λ (u : LLVMType). u.0) same)
value_type_within m (V.Param f place) t s h e = param_type_within m f place t s h e
value_type_within m (V.Inst i) t s h e =
    let x = item_there m.insts i.0 h in
    let same : x.0.ty ≡ t = same_Some x.0.ty t (ap (option_map (λ (y : InstData). y.ty)) (sym x.1) ∙ e) in
    let within = (s.insts i.0 x.0 x.1).typed in
    omega (arith, within, ap (λ (u : LLVMType). u.0) same)

-- the type of the value at a place is there
pub type_nth_within : (m : Module) (vs : List LLVMValue) (i : ℕ) (t : LLVMType) → IsModule m → All (IsValue m) vs → type_nth m vs i ≡ Some t → t.0 < length m.types
type_nth_within m [] i t s h e = cc
type_nth_within m (v ∷ vs) zero t s h e = value_type_within m v t s (All-head (IsValue m) v vs h) e
type_nth_within m (v ∷ vs) (suc i) t s h e = type_nth_within m vs i t s (All-tail (IsValue m) v vs h) e

there_within : (m : Module) (o : Option LLVMType) (r : ResultType) → ((t : LLVMType) → o ≡ Some t → t.0 < length m.types) → option_map R.There o ≡ Some r → IsResultOver m.types r
there_within m None r h e = cc
there_within m (Some t) r h e = rw (← same_Some (R.There t) r e) (h t refl)

-- as many bits as a vector of values has lanes are a vector of values
bit_lanes : (n : ℕ) (s : Shape) → is_vector_of n s ≡ true → is_vector_of n (S.Int 1) ≡ true
bit_lanes n s h = grind arith

-- as many bits as a type has lanes make a vector, where they are more than one
pub lanes_within : (m : Module) (t : LLVMType) → IsModule m → AreLanes (laned_at m.types t).lanes
lanes_within m t s = by (slice_get m.types t.0) refl
  where
    by : (o : Option LLVMTypeKind) → slice_get m.types t.0 ≡ o → AreLanes (option_map_or (laned_of m.types) o (one S.Void)).lanes
    by None at = tt
    by (Some (T.Vector kind count e)) at = bit_lanes count (shape_at m.types e) (s.types_fit t.0 (T.Vector kind count e) at)
    by (Some k) at = tt

bits_within : (m : Module) (o : Option LLVMType) (r : ResultType) → IsModule m → option_map (bits_at m.types) o ≡ Some r → IsResultOver m.types r
bits_within m None r s e = cc
bits_within m (Some t) r s e = rw (← same_Some (bits_at m.types t) r e) (lanes_within m t s)

given_within : (m : Module) (g : Gives) (w a b : Option LLVMType) (r : ResultType) → IsModule m → ((t : LLVMType) → w ≡ Some t → t.0 < length m.types) → ((t : LLVMType) → a ≡ Some t → t.0 < length m.types) → ((t : LLVMType) → b ≡ Some t → t.0 < length m.types) → given m.types g w a b ≡ Some r → IsResultOver m.types r
given_within m G.Nothing w a b r s hw ha hb e = cc
given_within m G.First w a b r s hw ha hb e = there_within m a r ha e
given_within m G.Second w a b r s hw ha hb e = there_within m b r hb e
given_within m G.Written w a b r s hw ha hb e = there_within m w r hw e
given_within m G.Bits w a b r s hw ha hb e = bits_within m a r s e

-- the type of a result is there, where it is one of the module's
pub result_within : (m : Module) (i : LLVMInst) (r : ResultType) → IsModule m → HasValues m i → result_type m i ≡ Some r → IsResultOver m.types r
result_within m (I.Phi type entries) r s h e = rw (← same_Some (R.There type) r e) h.0
result_within m (I.Row row) r s h e = by (row_fits m row) e
  where
    by : (b : Bool) → (if b then given m.types (rule_of row.op).gives row.written (type_nth m row.operands 0) (type_nth m row.operands 1) else None) ≡ Some r → IsResultOver m.types r
    by true e =
        given_within m (rule_of row.op).gives row.written (type_nth m row.operands 0) (type_nth m row.operands 1) r s (λ t at. subst (λ (o : Option LLVMType). IfSome o (λ (x : LLVMType). x.0 < length m.types)) at h.2)
        (λ t at. type_nth_within m row.operands 0 t s h.0 at) (λ t at. type_nth_within m row.operands 1 t s h.0 at) e
    by false e = cc

-- where there is one
pub result_over : (m : Module) (i : LLVMInst) → IsModule m → HasValues m i → (o : Option ResultType) → o ≡ result_type m i → IfSome o (IsResultOver m.types)
result_over m i s h None e = tt
result_over m i s h (Some r) e = result_within m i r s h (sym e)
