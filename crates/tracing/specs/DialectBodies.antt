-- What the body of a function of the dialect is made of.
use Rattle.std.specs.Prelude.{◌≡◌, ℕ, List, [], Option, Some, None, All, map, slice_get}
use Rattle.kinds.specs.Held.{IsFirstClass}
use Rattle.kinds.specs.declared.types.VectorTypeKind.TheVariants as N
use Rattle.dialect_types.specs.declared.types.TypeHandle.{TypeHandle}
use Rattle.dialect_types.specs.Trees.{TypeTree, VectorType, type_at, type_trees}
use Rattle.const_attrs.specs.declared.const_attr.ConstAttr.{ConstAttr}
use Rattle.const_attrs.specs.Trees.{Attr, Attrs, EachType, EachTypes, attr_tree, attr_data}
use Rattle.dialect_core.specs.declared.numbers.OpRef.{OpRef}
use Rattle.dialect_core.specs.declared.ops.Value.{Value}
use Rattle.dialect_core.specs.declared.ops.Value.TheVariants as V
use Rattle.dialect_core.specs.ContextData.{ContextData}
use Rattle.dialect_core.specs.Data.{DialectOp, Func, IsTyped, data_of, func_in, held, op_at, type_in}
use Rattle.dialect_core.specs.WellFormed.{IsPlainAt, IsWellFormedFunc, IsWellFormedOp}
use Rattle.meaning.specs.Terms.{Term, Unset}
use Rattle.meaning.specs.Machine as M
use Rattle.meaning.specs.Setting.{Setting}
use Rattle.meaning.specs.Dialect as Dialect
use Rattle.meaning.specs.Pairs.{Matched}
use Rattle.tracing.specs.declared.body.Slot.{Slot}
use Rattle.tracing.specs.declared.body.Slot.TheVariants.{Input, Result}
use Rattle.tracing.specs.Tables.{Origin}
use Rattle.tracing.specs.Renamed.{renamed_row}

abbrev pub slot_of : Value → Slot
slot_of (V.Result r) = Result r.0
slot_of (V.Argument b i) = Input b.0 i

-- how many lanes a type has, where it is a vector of a known length
abbrev pub fixed_lanes : TypeTree → Option ℕ
fixed_lanes (VectorType N.Fixed count t) = Some count
fixed_lanes _ = None

-- the term of a constant
abbrev pub term_of : Setting → ContextData → ConstAttr → Term
term_of setting c value = Dialect.attr_term setting (attr_tree (type_trees c.types) (attr_data value))

-- each type in a constant is one of values
abbrev pub HasTypesOfValues : ContextData → Attr TypeHandle → Type 0
HasTypesOfValues c d = EachType (λ (t : TypeHandle). IsFirstClass (type_at (type_trees c.types) t)) d

-- and in each of these
abbrev pub HaveTypesOfValues : ContextData → Attrs TypeHandle → Type 0
HaveTypesOfValues c ds = EachTypes (λ (t : TypeHandle). IsFirstClass (type_at (type_trees c.types) t)) ds

-- what its bodies are made from: the types of the context, which keeps no constants by number
abbrev pub origin_of : ContextData → Origin
origin_of c = record { types = type_trees c.types; term = λ (q : ℕ). Unset }

-- a function with a body, well-formed in a context
pub record InContext (c : ContextData) : Type 0 where
  pub op : OpRef
  pub function : Func
  pub typed : IsTyped c
  pub is : func_in (type_trees c.types) c op ≡ Some function
  pub form : IsWellFormedFunc (type_in c) function
  pub plain : All (IsPlainAt c) (held c op.0)
  pub body : ¬ (function.blocks ≡ [])

-- the operation is a function of the module that the operation of the number m is, and has a body
pub record HasBody (c : ContextData) (m : ℕ) (op : OpRef) : Type 0 where
  pub place : ℕ
  pub function : Func
  pub here : slice_get (data_of c m).functions place ≡ Some function
  pub number : function.number ≡ op.0
  pub body : ¬ (function.blocks ≡ [])

-- the number names the operation, which is well-formed in the function, and whose constant keeps the rules of constants
pub record IsOpIn (c : ContextData) (h : InContext c) (r : OpRef) (o : DialectOp) : Type 0 where
  pub here : op_at (type_trees c.types) c.ops r ≡ Some o
  pub form : IsWellFormedOp (type_in c) h.function o
  pub plain : IsPlainAt c r

-- the operations that numbers name, one by one
abbrev pub AreOpsIn : (c : ContextData) → InContext c → List OpRef → List DialectOp → Type 0
AreOpsIn c h refs os = Matched (IsOpIn c h) refs os

-- the value is one of the context, of a first class type, whichever function it belongs to
pub record IsUsed (c : ContextData) (v : Value) : Type 0 where
  pub type : TypeTree
  pub typed : type_in c v ≡ Some type
  pub first_class : IsFirstClass type

-- the rows of operations, in what a module tells
abbrev pub rows_of : Setting → ContextData → List DialectOp → List (M.Row Slot)
rows_of setting c os = map (λ (o : DialectOp). renamed_row slot_of (Dialect.typed_row setting (type_in c) o)) os
