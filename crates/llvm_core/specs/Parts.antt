-- What the parts of a type, a constant and an instruction have to be.
use Rattle.std.specs.Prelude.{◌≡◌, ◌<◌, ◌≤◌, ◌^◌, ◌⊎◌, ◌++◌, ◌∷◌, ℕ, Bool, true, false, if◌then◌else◌, IsTrue, List, [], map, length, slice_get, Option, Some, None, IfSome, All}
use Rattle.std.specs.Option.{option_map, option_map_or, option_and_then}
use Rattle.llvm_core.specs.declared.numbers.LLVMType.{LLVMType}
use Rattle.llvm_core.specs.declared.numbers.LLVMBasicBlock.{LLVMBasicBlock}
use Rattle.llvm_core.specs.declared.numbers.LLVMInstRef.{LLVMInstRef}
use Rattle.llvm_core.specs.declared.types.LLVMTypeKind.{LLVMTypeKind}
use Rattle.llvm_core.specs.declared.types.LLVMTypeKind.TheVariants as T
use Rattle.llvm_core.specs.declared.types.ResultType.{ResultType}
use Rattle.llvm_core.specs.declared.types.ResultType.TheVariants as R
use Rattle.llvm_core.specs.declared.consts.LLVMConstKind.{LLVMConstKind}
use Rattle.llvm_core.specs.declared.consts.LLVMConstKind.TheVariants as C
use Rattle.llvm_core.specs.declared.code.LLVMValue.{LLVMValue}
use Rattle.llvm_core.specs.declared.code.LLVMValue.TheVariants as V
use Rattle.llvm_core.specs.declared.code.LLVMInst.{LLVMInst}
use Rattle.llvm_core.specs.declared.code.LLVMInst.TheVariants as I
use Rattle.llvm_core.specs.declared.code.PhiEntry.{PhiEntry}
use Rattle.llvm_core.specs.declared.code.Row.{Row}
use Rattle.kinds.specs.declared.rules.Gives.{Gives}
use Rattle.kinds.specs.declared.rules.Gives.TheVariants as G
use Rattle.kinds.specs.declared.fitting.Shape.{Shape}
use Rattle.kinds.specs.declared.fitting.Shape.TheVariants as S
use Rattle.kinds.specs.declared.fitting.Laned.{Laned}
use Rattle.kinds.specs.declared.fitting.TypeView.{TypeView}
use Rattle.kinds.specs.declared.types.Lanes.{Lanes}
use Rattle.kinds.specs.declared.types.Lanes.TheVariants as N
use Rattle.kinds.specs.Types.{one, many}
use Rattle.kinds.specs.Table.{rule_of}
use Rattle.kinds.specs.Fitting as F
use Rattle.kinds.specs.Fitting.{fits, view_laned, view_same}
use Rattle.llvm_core.specs.declared.code.FunctionData.{FunctionData}
use Rattle.llvm_core.specs.declared.code.InstData.{InstData}
use Rattle.support.specs.Interned.{Interned}
use Rattle.llvm_core.specs.Module.{Module}
use Rattle.llvm_core.specs.Code.{param_names}

-- ---- types and constants

-- a type over n earlier ones: its parts are there, and an integer has 1 to 2^23 bits
abbrev pub IsTypeOver : ℕ → LLVMTypeKind → Type 0
IsTypeOver n T.Void = Unit {0}
IsTypeOver n (T.Int width) = (1 ≤ width) × (width ≤ 2 ^ 23)
IsTypeOver n (T.Ptr space) = Unit {0}
IsTypeOver n (T.Floating of) = Unit {0}
IsTypeOver n (T.Other of) = Unit {0}
IsTypeOver n (T.Array count t) = t.0 < n
IsTypeOver n (T.Vector kind count t) = t.0 < n
IsTypeOver n (T.Literal fields layout) = All (λ (t : LLVMType). t.0 < n) fields
IsTypeOver n (T.Named name) = Unit {0}
IsTypeOver n (T.Function result params variadic) = (result.0 < n) × All (λ (t : LLVMType). t.0 < n) params

-- what rules look at, a line for each kind
abbrev pub shape_of : LLVMTypeKind → Shape
shape_of T.Void = S.Void
shape_of (T.Int width) = S.Int width
shape_of (T.Ptr space) = S.Pointer space
shape_of (T.Floating of) = S.Other
shape_of (T.Other of) = S.Refused of
shape_of (T.Array count t) = S.Made
shape_of (T.Vector kind count t) = S.Made
shape_of (T.Literal fields layout) = S.Made
shape_of (T.Named name) = S.Named
shape_of (T.Function result params variadic) = S.Function

-- that of a type that is there
abbrev pub shape_at : List LLVMTypeKind → LLVMType → Shape
shape_at types t = option_map_or shape_of (slice_get types t.0) S.Void

-- the lanes of a type: those of a vector are its elements, any other type is one
abbrev pub laned_of : List LLVMTypeKind → LLVMTypeKind → Laned
laned_of types (T.Vector kind count t) = many kind count (shape_at types t)
laned_of types k = one (shape_of k)

abbrev pub laned_at : List LLVMTypeKind → LLVMType → Laned
laned_at types t = option_map_or (laned_of types) (slice_get types t.0) (one S.Void)

-- an integer that a module keeps at a width: below 2^width, and below 2^128 at a greater width too
abbrev pub IsIntAt : (width value : ℕ) → Type 0
IsIntAt width value = (value < 2 ^ width) × (value < 2 ^ 128)

-- a type is made of what may stand in it, a line for each kind
abbrev pub HasFitParts : List LLVMTypeKind → LLVMTypeKind → Type 0
HasFitParts types T.Void = Unit {0}
HasFitParts types (T.Int width) = Unit {0}
HasFitParts types (T.Ptr space) = Unit {0}
HasFitParts types (T.Floating of) = Unit {0}
HasFitParts types (T.Other of) = Unit {0}
HasFitParts types (T.Array count t) = F.is_array_of count (shape_at types t) ≡ true
HasFitParts types (T.Vector kind count t) = F.is_vector_of count (shape_at types t) ≡ true
HasFitParts types (T.Literal fields layout) = All (λ (t : LLVMType). F.is_field (shape_at types t) ≡ true) fields
HasFitParts types (T.Named name) = Unit {0}
HasFitParts types (T.Function result params variadic) = Unit {0}

abbrev pub is_function : LLVMTypeKind → Bool
is_function k = F.is_function (shape_of k)

-- the type is there, and the test passes on its kind
abbrev pub is_kind : (LLVMTypeKind → Bool) → List LLVMTypeKind → LLVMType → Bool
is_kind p types t = option_map_or p (slice_get types t.0) false

-- the type is there, and is a function type
abbrev pub IsFunctionType : List LLVMTypeKind → LLVMType → Type 0
IsFunctionType types t = (k : LLVMTypeKind) × (slice_get types t.0 ≡ Some k) × IsTrue (is_function k)

abbrev pub kind_params : LLVMTypeKind → List LLVMType
kind_params (T.Function result params variadic) = params
kind_params T.Void = []
kind_params (T.Int width) = []
kind_params (T.Ptr space) = []
kind_params (T.Floating of) = []
kind_params (T.Other of) = []
kind_params (T.Array count t) = []
kind_params (T.Vector kind count t) = []
kind_params (T.Literal fields layout) = []
kind_params (T.Named name) = []

-- the parameters of a function type
abbrev pub type_params : List LLVMTypeKind → LLVMType → List LLVMType
type_params types t = option_map_or kind_params (slice_get types t.0) []

-- ---- values and instructions

-- a constant, parameter or instruction that is there
abbrev pub IsValue : Module → LLVMValue → Type 0
IsValue m (V.Const c) = c.0 < length m.consts
IsValue m (V.Param f place) = place < length (param_names m.functions f)
IsValue m (V.Inst i) = i.0 < length m.insts

abbrev pub const_type : LLVMConstKind → LLVMType
const_type (C.Int t value) = t
const_type (C.Filled fill t) = t
const_type (C.Bytes t bytes) = t
const_type (C.List t elements) = t
const_type (C.Splat t element) = t
const_type (C.Placeholder number t) = t

-- the types of the parameters of a function
abbrev pub param_types : Module → FunctionData → List LLVMType
param_types m x = type_params m.types x.ty

-- the type of a value that is there
abbrev pub value_type : Module → LLVMValue → Option LLVMType
value_type m (V.Const c) = option_map const_type (slice_get m.consts c.0)
value_type m (V.Param f place) = slice_get (option_map_or (param_types m) (slice_get m.functions f.0) []) place
value_type m (V.Inst i) = option_map (λ (x : InstData). x.ty) (slice_get m.insts i.0)

abbrev pub IsBlock : Module → LLVMBasicBlock → Type 0
IsBlock m b = b.0 < length m.blocks

-- the value and the block of a phi's entry are there
abbrev pub IsEntry : Module → PhiEntry → Type 0
IsEntry m e = IsValue m e.value × IsBlock m e.block

-- what a row names is there
abbrev pub HasParts : Module → Row → Type 0
HasParts m r = All (IsValue m) r.operands × All (IsBlock m) r.targets × IfSome r.written (λ (t : LLVMType). t.0 < length m.types)

-- what an instruction names is there
abbrev pub HasValues : Module → LLVMInst → Type 0
HasValues m (I.Phi type entries) = (type.0 < length m.types) × All (IsEntry m) entries
HasValues m (I.Row r) = HasParts m r

-- ---- the type of a result

abbrev pub view : List LLVMTypeKind → LLVMType → TypeView
view types t = record { number = t.0; laned = laned_at types t }

-- the type of the value at a place
abbrev pub type_nth : Module → List LLVMValue → ℕ → Option LLVMType
type_nth m vs i = option_and_then (value_type m) (slice_get vs i)

abbrev pub view_nth : Module → List LLVMValue → ℕ → Option TypeView
view_nth m vs i = option_map (view m.types) (type_nth m vs i)

-- bits in as many lanes as a type has
abbrev pub bits_at : List LLVMTypeKind → LLVMType → ResultType
bits_at types t = R.Bits (laned_at types t).lanes

-- the type that is given, a line for each word
abbrev pub given : List LLVMTypeKind → Gives → (written first second : Option LLVMType) → Option ResultType
given types G.Nothing w a b = None
given types G.First w a b = option_map R.There a
given types G.Second w a b = option_map R.There b
given types G.Written w a b = option_map R.There w
given types G.Bits w a b = option_map (bits_at types) a

-- the operands of a row fit it, as far as that can be told without its function
abbrev pub row_fits : Module → Row → Bool
row_fits m r =
    fits view_laned view_same (rule_of r.op) (length r.operands) (option_map (view m.types) r.written) (view_nth m r.operands 0) (view_nth m r.operands 1) (view_nth m r.operands 2)

abbrev pub row_result : Module → Row → Option ResultType
row_result m r = if row_fits m r then given m.types (rule_of r.op).gives r.written (type_nth m r.operands 0) (type_nth m r.operands 1) else None

-- the type of the result, where the operands fit and it is not void
abbrev pub result_type : Module → LLVMInst → Option ResultType
result_type m (I.Phi type entries) = Some (R.There type)
result_type m (I.Row r) = row_result m r

-- as many bits may be a vector; one lane is none
abbrev pub AreLanes : Lanes → Type 0
AreLanes N.One = Unit {0}
AreLanes (N.Many kind count) = F.is_vector_of count (S.Int 1) ≡ true

-- the result's type is there, where it is one of the module's
abbrev pub IsResultOver : List LLVMTypeKind → ResultType → Type 0
IsResultOver types (R.There t) = t.0 < length types
IsResultOver types (R.Bits lanes) = AreLanes lanes

-- ty is the number of i1 in so many lanes, which may be new, and so may i1 be
abbrev pub AreBits : Lanes → (old new : List LLVMTypeKind) → LLVMType → Type 0
AreBits N.One old new ty = Interned old new (T.Int 1) ty.0
AreBits (N.Many kind count) old new ty =
    (between : List LLVMTypeKind) × (bit : LLVMType) × Interned old between (T.Int 1) bit.0 × Interned between new (T.Vector kind count bit) ty.0

-- ty is that type, or the number of bits or of void, which may be new
abbrev pub IsResultType : Option ResultType → List LLVMTypeKind → List LLVMTypeKind → LLVMType → Type 0
IsResultType (Some (R.There t)) old new ty = (ty ≡ t) × (new ≡ old)
IsResultType (Some (R.Bits lanes)) old new ty = AreBits lanes old new ty
IsResultType None old new ty = Interned old new T.Void ty.0

-- the types are the old ones, or these with that kind last
abbrev pub MayAdd : LLVMTypeKind → (old new : List LLVMTypeKind) → Type 0
MayAdd k old new = (new ≡ old) ⊎ (new ≡ old ++ k ∷ [])

-- the types are the old ones with what a result's type makes new, or with some of that
abbrev pub MayMake : Option ResultType → (old new : List LLVMTypeKind) → Type 0
MayMake (Some (R.There t)) old new = new ≡ old
MayMake (Some (R.Bits N.One)) old new = MayAdd (T.Int 1) old new
MayMake (Some (R.Bits (N.Many kind count))) old new = (between : List LLVMTypeKind) × (bit : LLVMType) × MayAdd (T.Int 1) old between × MayAdd (T.Vector kind count bit) between new
MayMake None old new = MayAdd T.Void old new

-- ---- operands by place

-- the operands of an instruction in order
abbrev pub operands : LLVMInst → List LLVMValue
operands (I.Phi type entries) = map (λ (e : PhiEntry). e.value) entries
operands (I.Row r) = r.operands

-- the instruction i has an operand at that place, of the type of v
abbrev pub TakesOperand : Module → LLVMInstRef → ℕ → LLVMValue → Type 0
TakesOperand m i place v = (x : InstData) × (w : LLVMValue) × (slice_get m.insts i.0 ≡ Some x) × (slice_get (operands x.inst) place ≡ Some w) × (value_type m w ≡ value_type m v)

abbrev pub is_phi : LLVMInst → Bool
is_phi (I.Phi type entries) = true
is_phi (I.Row r) = false

-- the instruction i is there, and is a phi
abbrev pub IsPhi : List InstData → LLVMInstRef → Type 0
IsPhi insts i = (x : InstData) × (slice_get insts i.0 ≡ Some x) × IsTrue (is_phi x.inst)
