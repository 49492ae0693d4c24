-- What stands for a constant of a module: an attribute, or an operation.
use Rattle.std.specs.Prelude.{◌≡◌, ◌<◌, ℕ, false, List, [], Option, Some, None, length, slice_get}
use Rattle.std.specs.Option.{option_map, option_map_or, option_and_then}
use Rattle.kinds.specs.Types.{TypeTree, IntType}
use Rattle.kinds.specs.Structs.{Struct, renamed}
use Rattle.llvm_core.specs.declared.consts.LLVMConstKind.{LLVMConstKind}
use Rattle.llvm_core.specs.declared.numbers.LLVMConst.{LLVMConst}
use Rattle.llvm_core.specs.declared.numbers.LLVMType.{LLVMType}
use Rattle.llvm_core.specs.Module.{Module}
use Rattle.llvm_core.specs.Consts.{IsAt, is_placeholder}
use Rattle.llvm_core.specs.Parts as numbers
use Rattle.llvm_core.specs.Data.{ConstTree, IntConst, FilledConst, BytesConst, ListConst, SplatConst, PlaceholderConst, ConstTrees, NoConsts, ThenConst, const_at, const_type, trees_of}
use Rattle.dialect_types.specs.declared.types.TypeHandle.{TypeHandle}
use Rattle.dialect_types.specs.declared.types.TypeKind.{TypeKind}
use Rattle.dialect_types.specs.Legalised.{Named}
use Rattle.dialect_types.specs.Trees.{structs_of, type_at, type_trees}
use Rattle.const_attrs.specs.declared.const_attr.ConstAttr.{ConstAttr}
use Rattle.const_attrs.specs.Trees.{AttrTree, AttrTrees, IntegerAttr, FilledAttr, BytesAttr, AggregateAttr, NoAttrs, ThenAttr, attr_tree, attr_data, type_of, HasTypesBelow}
use Rattle.const_attrs.specs.Verified.{broken}
use Rattle.dialect_core.specs.declared.numbers.OpRef.{OpRef}
use Rattle.dialect_core.specs.declared.ops.OpKind.{OpKind}
use Rattle.dialect_core.specs.declared.ops.OpData.{OpData}
use Rattle.dialect_core.specs.ContextData.{ContextData, with_op}
use Rattle.dialect_core.specs.Data.{DialectOp, Kind, ConstantOp, FilledOp, IsTypedOp, op_at}
use Rattle.dialect_core.specs.WellFormed.{Typing}
use Rattle.meaning.specs.Dialect.{attr_term, typed_action}
use Rattle.meaning.specs.Llvm.{const_term}
use Rattle.meaning.specs.Machine.{Holds}
use Rattle.meaning.specs.Setting.{Setting}
use Rattle.meaning.specs.Terms.{rename}
use Rattle.from_consts.specs.declared.const_context.ConstContext.{ConstContext}
use Rattle.from_consts.specs.declared.conversion_err.ConversionErr.{ConversionErr}
use Rattle.from_consts.specs.declared.conversion_err.ConversionErr.TheVariants as E
use Rattle.from_consts.specs.declared.conversion_err.Unsupported.TheVariants as U
use Rattle.from_consts.specs.Given.{Gives, StandsFor}
use Rattle.from_consts.specs.Names.{called}
use Rattle.from_consts.specs.Parts.{IsInside, IsWithin}
use Rattle.from_consts.specs.Refusals.{IsCause}

-- ---- a constant of a module, by its number

abbrev pub tree_at : Module → LLVMConst → ConstTree
tree_at m c = const_at (trees_of m).consts c

-- the number of its type
abbrev pub type_number : Module → LLVMConst → LLVMType
type_number m c = option_map_or numbers.const_type (slice_get m.consts c.0) (record { 0 = 0 })

-- the type is within that of the constant
abbrev pub IsInConst : Module → LLVMConst → LLVMType → Type 0
IsInConst m c u = IsWithin m u (type_number m c)

-- it is there, and no placeholder
abbrev pub IsConstant : Module → LLVMConst → Type 0
IsConstant m c = IsAt (λ (k : LLVMConstKind). is_placeholder k ≡ false) m.consts c

-- it is a placeholder
abbrev pub IsPlaceholder : Module → LLVMConst → Type 0
IsPlaceholder m c = (number : ℕ) × (type : TypeTree) × (tree_at m c ≡ PlaceholderConst number type)

-- ---- attributes

abbrev mutual
  -- The attribute of a constant, where structs are called so; a placeholder has none, nor has a scalable vector of equal elements, nor
  -- what is made of such. A line for each kind.
  pub attr_of : (List ℕ → List ℕ) → ConstTree → Option AttrTree
  attr_of to (IntConst width value) = Some (IntegerAttr (IntType width) value)
  attr_of to (FilledConst fill t) = Some (FilledAttr fill (renamed to t))
  attr_of to (BytesConst bytes) = Some (BytesAttr bytes)
  attr_of to (ListConst t elements) = option_map (λ (cs : AttrTrees). AggregateAttr cs (renamed to t)) (attrs_of to elements)
  attr_of to (SplatConst t element) = None
  attr_of to (PlaceholderConst number t) = None

  -- those of all, where each has one
  pub attrs_of : (List ℕ → List ℕ) → ConstTrees → Option AttrTrees
  attrs_of to NoConsts = Some NoAttrs
  attrs_of to (ThenConst c cs) = option_and_then (λ (a : AttrTree). option_map (ThenAttr a) (attrs_of to cs)) (attr_of to c)

-- it is the constant's attribute, has its term and keeps the rules of constants, and its type stands for that of the constant
pub record IsAttrFor (m : Module) (given : List Named) (ks : List TypeKind) (c : LLVMConst) (a : ConstAttr) : Type 0 where
  pub within : HasTypesBelow (length ks) (attr_data a)
  pub is : attr_of (called given) (tree_at m c) ≡ Some (attr_tree (type_trees ks) (attr_data a))
  pub term : (setting : Setting) (block : List ℕ → ℕ → ℕ) → attr_term setting (attr_tree (type_trees ks) (attr_data a)) ≡ rename (record { block = block; struct = called given }) (const_term setting (tree_at m c))
  pub keeps : broken (structs_of ks) (attr_tree (type_trees ks) (attr_data a)) ≡ None
  pub type : TypeHandle
  pub typed : type_of (attr_tree (type_trees ks) (attr_data a)) ≡ type_at (type_trees ks) type
  pub stands : StandsFor m given ks (type_number m c) type

-- ---- operations

-- What the operation of a constant holds, where structs are called so: zero, undef or poison by the type of its result, and an
-- attribute of any other. A line for each kind.
abbrev pub kind_for : (List ℕ → List ℕ) → ConstTree → Option Kind
kind_for to (IntConst width value) = Some (ConstantOp (IntegerAttr (IntType width) value))
kind_for to (FilledConst fill t) = Some (FilledOp fill)
kind_for to (BytesConst bytes) = Some (ConstantOp (BytesAttr bytes))
kind_for to (ListConst t elements) = option_map ConstantOp (attr_of to (ListConst t elements))
kind_for to (SplatConst t element) = None
kind_for to (PlaceholderConst number t) = None

-- The operation is that of the constant: it takes nothing and leads nowhere, its result has the constant's type, and in a run it
-- holds the constant's term, where structs are called so.
pub record IsOpFor (given : List Named) (c : ConstTree) (o : DialectOp) : Type 0 where
  pub kind : kind_for (called given) c ≡ Some o.kind
  pub operands : o.operands ≡ []
  pub successors : o.successors ≡ []
  pub result : o.result ≡ Some (renamed (called given) (const_type c))
  pub term : (setting : Setting) (types : Typing) (block : List ℕ → ℕ → ℕ) → typed_action setting types o o.kind ≡ Holds (rename (record { block = block; struct = called given }) (const_term setting c))

-- what a context keeps of an operation that takes nothing, with a result of that type
abbrev pub op_data : OpKind → TypeHandle → OpData
op_data kind ty = record { kind = kind; name = None; operands = []; successors = []; result = Some ty; symbol = None; blocks = [] }

-- The context has what a conversion of the constant's type gave, and behind that one operation, in no block and without a name,
-- which is that of the constant; the type of its result stands for that of the constant.
pub record AddsOp (m : Module) (c : LLVMConst) (a : ContextData) (x : ConstContext) (b : ContextData) (y : ConstContext) (op : OpRef) : Type 0 where
  pub typed : ContextData
  pub gives : Gives m (IsInConst m c) a x typed y
  pub kind : OpKind
  pub type : TypeHandle
  pub is : b ≡ with_op typed (op_data kind type)
  pub below : IsTypedOp (length b.types) (op_data kind type)
  pub stands : StandsFor m y.names b.types (type_number m c) type
  pub number : op.0 ≡ length a.ops
  pub made : DialectOp
  pub at : op_at (type_trees b.types) b.ops op ≡ Some made
  pub of : IsOpFor y.names (tree_at m c) made

-- ---- refusals

-- the constant, or a part of it, is an integer of that width, which is more than 64 bits
pub record HasWideInt (m : Module) (c : LLVMConst) (width : ℕ) : Type 0 where
  pub part : LLVMConst
  pub inside : IsInside m part c
  pub value : ℕ
  pub is : tree_at m part ≡ IntConst width value
  pub wide : 64 < width

-- the constant, or a part of it, is a scalable vector of equal elements
pub record HasSplat (m : Module) (c : LLVMConst) : Type 0 where
  pub part : LLVMConst
  pub inside : IsInside m part c
  pub type : TypeTree
  pub element : ConstTree
  pub is : tree_at m part ≡ SplatConst type element

-- Why a constant is refused whose type is converted; want of memory needs no reason.
abbrev pub IsPartCause : Module → LLVMConst → ConversionErr → Type 0
IsPartCause m c (E.UndefinedValue name v) = ⊥
IsPartCause m c (E.IntConstTooWide width) = HasWideInt m c width
IsPartCause m c (E.Unsupported (U.Ty of)) = ⊥
IsPartCause m c (E.Unsupported U.ScalableSplat) = HasSplat m c
IsPartCause m c (E.Struct e) = ⊥
IsPartCause m c E.NoMemory = Unit {0}

-- why a constant is refused: what it is, or is made of, or its type is refused
abbrev pub IsConstCause : Module → LLVMConst → (before : List Struct) → (given : List Named) → ConversionErr → Type 0
IsConstCause m c before given (E.IntConstTooWide width) = HasWideInt m c width
IsConstCause m c before given (E.Unsupported U.ScalableSplat) = HasSplat m c
IsConstCause m c before given e = IsCause m (IsInConst m c) before given e
