-- What the values of a source function stand for, as far as the function was imported.
use Rattle.std.specs.Prelude.{ℕ, ◌≡◌, ◌<◌, ◌≤◌, ◌⊎◌, IsSome, IsTrue, Bool, nat_eq, if◌then◌else◌, List, [], ◌∷◌, Option, Some, None, All, length, slice_get}
use Rattle.llvm_core.specs.declared.code.LLVMValue.{LLVMValue}
use Rattle.support.specs.Interned.{IsDistinctList}
use Rattle.llvm_core.specs.Module.{Module}
use Rattle.llvm_core.specs.Parts.{IsValue}
use Rattle.llvm_core.specs.Data as L
use Rattle.llvm_core.specs.Data.{ConstTree, Placed, const_type, trees_of, operand_of}
use Rattle.llvm_core.specs.Form.{IsFormConst, IsShortConst}
use Rattle.kinds.specs.Held.{IsHeld}
use Rattle.dialect_types.specs.declared.types.TypeKind.{TypeKind}
use Rattle.dialect_types.specs.Trees.{type_trees}
use Rattle.dialect_types.specs.Legalised.{Named}
use Rattle.dialect_core.specs.declared.ops.Value.{Value}
use Rattle.dialect_core.specs.declared.ops.Value.TheVariants as V
use Rattle.dialect_core.specs.declared.ops.OpKind.{OpKind}
use Rattle.dialect_core.specs.ContextData.{is_plain}
use Rattle.dialect_core.specs.Data.{DialectOp, Kind, kind_of, HasKindTypesBelow}
use Rattle.meaning.specs.Pairs.{Matched}
use Rattle.from_llvm_ir.specs.declared.values.Values.{Values}
use Rattle.from_llvm_ir.specs.Values.{value_at}
use Rattle.from_llvm_ir.specs.Imported.{FirstUses, own_kind}
use Rattle.from_llvm_ir.specs.Order.{ordered}
use Rattle.from_llvm_ir.specs.Building.{Home, new_op}

-- what stays while a function is imported: the names of the whole import, where it goes, the source, the order of its
-- blocks, and the number of the first block
pub record Frame : Type 0 where
  pub given : List Named
  pub home : Home
  pub source : L.Function
  pub order : List ℕ
  pub base : ℕ

abbrev pub blocks_of : Frame → List L.Block
blocks_of fr = ordered fr.order fr.source.blocks

-- constants with the operations that make them, and instructions with the values that stand for their results
pub record Known : Type 0 where
  pub frame : Frame
  pub constants : List ConstTree
  pub hoisted : List DialectOp
  pub sources : List Placed
  pub done : List Value

abbrev pub knows : Frame → List ConstTree → List DialectOp → List Placed → List Value → Known
knows fr constants hoisted sources done = record { frame = fr; constants = constants; hoisted = hoisted; sources = sources; done = done }

-- what stands beside the first item that passes
abbrev pub beside : {X Y : Type 0} → (X → Bool) → List X → List Y → Option Y
beside test [] ys = None
beside test (x ∷ xs) [] = None
beside test (x ∷ xs) (y ∷ ys) = if test x then Some y else beside test xs ys

-- the value that stands for the result of the instruction of that number
abbrev pub result_in : Known → ℕ → Option Value
result_in k n = beside (λ (p : Placed). nat_eq p.number n) k.sources k.done

abbrev pub value_of : DialectOp → Value
value_of o = V.Result (record { 0 = o.number })

-- the value is made by the operation beside a constant
pub record StandsAt (constants : List ConstTree) (hoisted : List DialectOp) (c : ConstTree) (w : Value) : Type 0 where
  pub place : ℕ
  pub op : DialectOp
  pub here : slice_get constants place ≡ Some c
  pub there : slice_get hoisted place ≡ Some op
  pub is : w ≡ value_of op

-- the value stands for an operand of the source
abbrev pub Stands : Known → L.Operand → Value → Type 0
Stands k (L.Constant c) w = StandsAt k.constants k.hoisted c w
Stands k (L.Parameter f i) w = (f ≡ k.frame.source.number) × (i < length k.frame.source.params) × (w ≡ V.Argument (record { 0 = k.frame.base }) i)
Stands k (L.Result n) w = result_in k n ≡ Some w

-- what was noted is right, and lacks nothing
pub record Notes (m : Module) (values : Values) (k : Known) : Type 0 where
  pub sound : (v : LLVMValue) (w : Value) → value_at values v ≡ Some w → Stands k (operand_of (trees_of m) v) w
  pub complete : (v : LLVMValue) (w : Value) → IsValue m v → Stands k (operand_of (trees_of m) v) w → IsSome (value_at values v)

-- the operation makes the constant, and nothing else
abbrev pub IsConstantOp : ConstTree → DialectOp → Type 0
IsConstantOp c o = (k : Kind) × (own_kind c ≡ Some k) × (o ≡ new_op o.number None k [] [] (Some (const_type c)))

-- an operation of that kind makes the constant, over the types of a context, where its result has the type of the constant
pub record IsMaking (ks : List TypeKind) (c : ConstTree) (kind : OpKind) : Type 0 where
  pub plain : IsTrue (is_plain kind)
  pub types : HasKindTypesBelow (length ks) kind
  pub made : Kind
  pub is : kind_of (type_trees ks) kind ≡ Some made
  pub own : own_kind c ≡ Some made

-- a constant of the form that is translated, of a type that is
pub record IsHeldConst (c : ConstTree) : Type 0 where
  pub form : IsFormConst c
  pub held : IsHeld (const_type c)
  pub short : IsShortConst c

-- the value is of an operation from `split` up to n, or one of the first arguments of the block `at`, or one of a
-- block before
abbrev pub IsOlder : (split n at args : ℕ) → Value → Type 0
IsOlder split n at args (V.Result r) = (split ≤ r.0) × (r.0 < n)
IsOlder split n at args (V.Argument b i) = (b.0 < at) ⊎ ((b.0 ≡ at) × (i < args))

-- the constants of these uses are hoisted, once each in order of first use; what was noted is right; values differ
-- from one another and from what is hoisted
pub record IsKnown (m : Module) (values : Values) (uses : List ConstTree) (k : Known) (n at args : ℕ) : Type 0 where
  pub made : Matched IsConstantOp k.constants k.hoisted
  pub consts : (i : ℕ) (c : ConstTree) → slice_get k.constants i ≡ Some c → IsHeldConst c
  pub first_uses : FirstUses uses k.constants
  pub long : length k.done ≡ length k.sources
  pub notes : Notes m values k
  pub split : ℕ
  pub hoisted : All (λ (o : DialectOp). o.number < split) k.hoisted
  pub older : (i : ℕ) (w : Value) → slice_get k.done i ≡ Some w → IsOlder split n at args w
  pub apart : IsDistinctList k.done
