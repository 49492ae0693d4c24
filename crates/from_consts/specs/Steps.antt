-- What the steps of a conversion have made: the kind of a type before it has a number, the fields of a struct before it is made, and
-- an attribute or a kind of operation before the type of the constant is known to be converted.
use Rattle.std.specs.Prelude.{◌≡◌, ◌<◌, ℕ, IsTrue, true, false, List, Option, Some, None, All, IfSome, length, slice_get}
use Rattle.std.specs.Option.{option_map}
use Rattle.kinds.specs.declared.types.OtherType.{OtherType}
use Rattle.kinds.specs.Types.{shape, types_list}
use Rattle.kinds.specs.Fitting.{is_field}
use Rattle.kinds.specs.Structs.{StructBody, renamed, renamed_body}
use Rattle.llvm_core.specs.declared.numbers.LLVMConst.{LLVMConst}
use Rattle.llvm_core.specs.declared.numbers.LLVMStruct.{LLVMStruct}
use Rattle.llvm_core.specs.declared.numbers.LLVMType.{LLVMType}
use Rattle.llvm_core.specs.declared.structs.StructData.{StructData}
use Rattle.llvm_core.specs.declared.structs.StructFields.{StructFields as SourceFields}
use Rattle.llvm_core.specs.declared.types.LLVMTypeKind.TheVariants as T
use Rattle.llvm_core.specs.Module.{Module}
use Rattle.llvm_core.specs.Data as L
use Rattle.llvm_core.specs.Data.{const_type, trees_of}
use Rattle.dialect_types.specs.declared.types.StructFields.{StructFields}
use Rattle.dialect_types.specs.declared.types.TypeHandle.{TypeHandle}
use Rattle.dialect_types.specs.declared.types.TypeKind.{TypeKind}
use Rattle.dialect_types.specs.Trees.{AllBelow, HasFitParts, HasPartsBelow, fields_of, is_named, structs_of, type_at, type_tree, type_trees}
use Rattle.dialect_types.specs.Legalised.{Named}
use Rattle.const_attrs.specs.declared.const_attr.ConstAttr.{ConstAttr}
use Rattle.const_attrs.specs.Trees.{attr_tree, attr_data, HasTypesBelow}
use Rattle.const_attrs.specs.Verified.{broken}
use Rattle.dialect_core.specs.declared.numbers.OpRef.{OpRef}
use Rattle.dialect_core.specs.declared.ops.OpKind.{OpKind}
use Rattle.dialect_core.specs.ContextData.{is_plain}
use Rattle.dialect_core.specs.Data.{DialectOp, HasKindTypesBelow, op_of}
use Rattle.meaning.specs.Pairs.{Matched}
use Rattle.from_consts.specs.Constants.{IsOpFor, attr_of, op_data, tree_at}
use Rattle.from_consts.specs.Given.{given_at, IsContextFor}
use Rattle.from_consts.specs.Names.{called, IsCalled}
use Rattle.from_consts.specs.Parts.{IsPart}
use Rattle.from_consts.specs.declared.const_context.ConstContext.{ConstContext}
use Rattle.from_consts.specs.declared.conversion_err.ConversionErr.{ConversionErr}
use Rattle.from_consts.specs.declared.conversion_err.ConversionErr.TheVariants as E

-- the kind is what the type of the number is in the context, and all its parts were given types
pub record IsKindGiven (m : Module) (ks : List TypeKind) (c : ConstContext) (t : LLVMType) (k : TypeKind) : Type 0 where
  pub below : HasPartsBelow (length ks) k
  pub fit : HasFitParts (type_trees ks) k
  pub plain : is_named k ≡ false
  pub is : type_tree (type_trees ks) k ≡ renamed (called c.names) (L.type_at (trees_of m).types t)
  pub known : IsCalled c.names (L.type_at (trees_of m).types t)
  pub parts : (u : LLVMType) → IsPart m u t → ¬ (given_at c u ≡ None)
  pub own : (of : OtherType) → ¬ (slice_get m.types t.0 ≡ Some (T.Other of))

-- the fields are what those of the struct of the number are in the context, none where it is opaque, and all were given types
pub record IsBodyGiven (m : Module) (ks : List TypeKind) (c : ConstContext) (s : LLVMStruct) (made : Option StructFields) : Type 0 where
  pub below : IfSome made (λ (b : StructFields). AllBelow (length ks) b.types)
  pub fit : IfSome made (λ (b : StructFields). All (λ (t : TypeHandle). is_field (shape (type_at (type_trees ks) t)) ≡ true) b.types)
  pub is : (x : StructData) → slice_get m.structs s.0 ≡ Some x
      → option_map (fields_of (type_trees ks)) made ≡ option_map (renamed_body (called c.names)) (option_map (L.fields_of (trees_of m).types) x.body)
  pub known : (x : StructData) → slice_get m.structs s.0 ≡ Some x
      → IfSome (option_map (L.fields_of (trees_of m).types) x.body) (λ (b : StructBody). All (IsCalled c.names) (types_list b.fields))
  pub parts : (x : StructData) (b : SourceFields) (i : ℕ) (u : LLVMType) → slice_get m.structs s.0 ≡ Some x → x.body ≡ Some b → slice_get b.types i ≡ Some u → ¬ (given_at c u ≡ None)

-- an attribute that was made of a constant: it is the constant's in a context of these types, where structs are called so
pub record IsAttrMade (m : Module) (given : List Named) (ks : List TypeKind) (c : LLVMConst) (a : ConstAttr) : Type 0 where
  pub within : HasTypesBelow (length ks) (attr_data a)
  pub is : attr_of (called given) (tree_at m c) ≡ Some (attr_tree (type_trees ks) (attr_data a))
  pub keeps : broken (structs_of ks) (attr_tree (type_trees ks) (attr_data a)) ≡ None

-- the attributes are those of the constants, one by one
abbrev pub AreAttrsMade : Module → List Named → List TypeKind → List LLVMConst → List ConstAttr → Type 0
AreAttrsMade m given ks cs attrs = Matched (IsAttrMade m given ks) cs attrs

-- made over the types that were given: so it is in each context that these types are right in
abbrev pub IsAttrGiven : Module → ConstContext → LLVMConst → ConstAttr → Type 0
IsAttrGiven m x c a = (ks : List TypeKind) → IsContextFor m ks x → IsAttrMade m x.names ks c a

abbrev pub AreAttrsGiven : Module → ConstContext → List LLVMConst → List ConstAttr → Type 0
AreAttrsGiven m x cs attrs = (ks : List TypeKind) → IsContextFor m ks x → AreAttrsMade m x.names ks cs attrs

-- an operation of that kind, which takes nothing, is that of the constant, where its result has the constant's type
pub record IsOpKindMade (m : Module) (given : List Named) (ks : List TypeKind) (c : LLVMConst) (kind : OpKind) : Type 0 where
  pub plain : IsTrue (is_plain kind)
  pub types : HasKindTypesBelow (length ks) kind
  pub stands : (ty : TypeHandle) (op : OpRef) → type_at (type_trees ks) ty ≡ renamed (called given) (const_type (tree_at m c))
      → (o : DialectOp) × (op_of (type_trees ks) op (op_data kind ty) ≡ Some o) × IsOpFor given (tree_at m c) o

abbrev pub IsOpKindGiven : Module → ConstContext → LLVMConst → OpKind → Type 0
IsOpKindGiven m x c kind = (ks : List TypeKind) → IsContextFor m ks x → IsOpKindMade m x.names ks c kind

-- the type is that of an integer of more than 64 bits, which is refused
abbrev pub IsWideAt : Module → LLVMType → ConversionErr → Type 0
IsWideAt m t e = (width : ℕ) × (slice_get m.types t.0 ≡ Some (T.Int width)) × (64 < width) × (e ≡ E.IntConstTooWide width)
