-- Constants that attributes become, by number: what is asked of an attribute and the number of its type, and what is made of them.
use Rattle.std.specs.Prelude.{◌≡◌, ◌<◌, ℕ, List, Some, None, length, slice_get}
use Rattle.llvm_core.specs.declared.numbers.LLVMConst.{LLVMConst}
use Rattle.llvm_core.specs.declared.numbers.LLVMType.{LLVMType}
use Rattle.llvm_core.specs.declared.types.LLVMTypeKind.{LLVMTypeKind}
use Rattle.llvm_core.specs.declared.types.LLVMTypeKind.TheVariants as T
use Rattle.llvm_core.specs.declared.consts.LLVMConstKind.{LLVMConstKind}
use Rattle.kinds.specs.declared.types.VectorTypeKind.TheVariants as V
use Rattle.llvm_core.specs.Consts.{AreElements}
use Rattle.llvm_core.specs.Module.{Module}
use Rattle.llvm_core.specs.Data.{const_at, const_tree, formed, structs_of, trees_of}
use Rattle.dialect_types.specs.declared.types.TypeHandle.{TypeHandle}
use Rattle.dialect_types.specs.Trees.{TypeTree}
use Rattle.const_attrs.specs.declared.const_attr.ConstAttr.{ConstAttr}
use Rattle.const_attrs.specs.Trees.{Attr, attr_data, attr_tree, type_of}
use Rattle.const_attrs.specs.Verified.{broken}
use Rattle.dialect_core.specs.Form.{IsShortAttr}
use Rattle.meaning.specs.Pairs.{Matched}
use Rattle.to_llvm_ir.specs.Growth.{IsTypeOf}
use Rattle.to_llvm_ir.specs.Made.{const_of}

-- ---- types

-- those of the elements of a constant of the type
abbrev pub ArePartsOf : Module → LLVMType → List LLVMType → Type 0
ArePartsOf m t parts = (k : LLVMTypeKind) × (slice_get m.types t.0 ≡ Some k) × AreElements m.structs k parts

-- the type is a vector of a known length, of such elements
abbrev pub IsVectorOf : Module → LLVMType → LLVMType → Type 0
IsVectorOf m t lane = (count : ℕ) × (slice_get m.types t.0 ≡ Some (T.Vector V.Fixed count lane))

-- ---- attributes

module _ (ts : List TypeTree) (m : Module) where
  -- the attribute is of that type, keeps the rules of constants by the structs of the module, and is translated
  pub record IsSource (a : Attr TypeHandle) (t : LLVMType) : Type 0 where
    pub typed : IsTypeOf m t (type_of (attr_tree ts a))
    pub keeps : broken (structs_of m) (attr_tree ts a) ≡ None
    pub short : IsShortAttr (attr_tree ts a)

  -- each of these is, of its own type
  pub record AreSources (values : List ConstAttr) (parts : List LLVMType) : Type 0 where
    pub count : length values ≡ length parts
    pub each : (i : ℕ) (a : ConstAttr) (t : LLVMType) → slice_get values i ≡ Some a → slice_get parts i ≡ Some t → IsSource (attr_data a) t

  -- the constant of the number is there, and is what the attribute becomes
  abbrev pub IsConstOf : Attr TypeHandle → LLVMConst → Type 0
  IsConstOf a c = (c.0 < length m.consts) × (const_at (trees_of m).consts c ≡ const_of (attr_tree ts a))

  -- so it is of these, one by one
  abbrev pub AreConstsOf : List ConstAttr → List LLVMConst → Type 0
  AreConstsOf values cs = Matched (λ (a : ConstAttr) (c : LLVMConst). IsConstOf (attr_data a) c) values cs

  -- a constant of that kind is, in its one form
  abbrev pub IsKindOf : Attr TypeHandle → LLVMConstKind → Type 0
  IsKindOf a k = formed (const_tree (trees_of m).types (trees_of m).consts k) ≡ const_of (attr_tree ts a)
