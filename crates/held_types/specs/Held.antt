-- What the values of a module hold: types that the dialect lacks, constants that no import gives an attribute, and structs with a name.
use Rattle.std.specs.Prelude.{ℕ, ◌≡◌, ◌<◌, ◌⊎◌, List, Some, slice_get}
use Rattle.kinds.specs.declared.types.OtherType.{OtherType}
use Rattle.kinds.specs.Types.{TypeTree, RefusedType, NamedType, types_list}
use Rattle.kinds.specs.Structs.{Struct, StructBody, Holds, struct_in}
use Rattle.llvm_core.specs.declared.numbers.LLVMStruct.{LLVMStruct}
use Rattle.llvm_core.specs.Data.{ConstTree, IntConst, FilledConst, BytesConst, ListConst, SplatConst, PlaceholderConst, ConstTrees, NoConsts, ThenConst, Placed, Function, ModuleData, Constant, placed_in}
use Rattle.llvm_core.specs.Form.{operands_of, value_types}
use Rattle.held_types.specs.declared.held_structs.HeldErr.{HeldErr}
use Rattle.held_types.specs.declared.held_structs.HeldErr.TheVariants as E

-- a type of what a function of the module returns or takes, of the result of one of its instructions, or of a constant that one
-- uses, is that one or holds it, through the fields of structs too
pub record HasTypeWith (d : ModuleData) (u : TypeTree) : Type 0 where
  pub place : ℕ
  pub f : Function
  pub at : slice_get d.functions place ≡ Some f
  pub index : ℕ
  pub type : TypeTree
  pub here : slice_get (value_types f) index ≡ Some type
  pub holds : Holds d.structs u type

-- ---- constants

abbrev mutual
  -- it holds of the constant, or of one that it is made of
  pub HasPart : (ConstTree → Type 0) → ConstTree → Type 0
  HasPart P (IntConst w v) = P (IntConst w v)
  HasPart P (FilledConst fill type) = P (FilledConst fill type)
  HasPart P (BytesConst bytes) = P (BytesConst bytes)
  HasPart P (ListConst type elements) = P (ListConst type elements) ⊎ HavePart P elements
  HasPart P (SplatConst type element) = P (SplatConst type element) ⊎ HasPart P element
  HasPart P (PlaceholderConst n type) = P (PlaceholderConst n type)

  pub HavePart : (ConstTree → Type 0) → ConstTrees → Type 0
  HavePart P NoConsts = ⊥
  HavePart P (ThenConst c cs) = HasPart P c ⊎ HavePart P cs

-- an integer of that width, which is more than 64
abbrev pub IsWide : (width : ℕ) → ConstTree → Type 0
IsWide width c = ((value : ℕ) × (c ≡ IntConst width value)) × (64 < width)

-- a splat of a scalable vector
abbrev pub IsSplat : ConstTree → Type 0
IsSplat c = (type : TypeTree) × (element : ConstTree) × (c ≡ SplatConst type element)

-- an instruction of a function of the module uses a constant that has such a part
pub record UsesConst (d : ModuleData) (P : ConstTree → Type 0) : Type 0 where
  pub place : ℕ
  pub f : Function
  pub at : slice_get d.functions place ≡ Some f
  pub index : ℕ
  pub p : Placed
  pub here : slice_get (placed_in f) index ≡ Some p
  pub operand : ℕ
  pub constant : ConstTree
  pub used : slice_get (operands_of p.instruction) operand ≡ Some (Constant constant)
  pub part : HasPart P constant

-- one that is, or has in it, such an integer
abbrev pub HasWideConst : ModuleData → (width : ℕ) → Type 0
HasWideConst d width = UsesConst d (IsWide width)

-- one that is, or has in it, a splat of a scalable vector
abbrev pub HasScalableSplat : ModuleData → Type 0
HasScalableSplat d = UsesConst d IsSplat

-- a module that is translated: no value's type is or holds one for which the dialect has none, and no constant that an
-- instruction uses is or has in it an integer of more than 64 bits or a splat of a scalable vector
pub record AreHeld (d : ModuleData) : Type 0 where
  pub types : (of : OtherType) → ¬ HasTypeWith d (RefusedType of)
  pub constants : (width : ℕ) → ¬ HasWideConst d width
  pub splats : ¬ HasScalableSplat d

-- why a module is not translated; want of memory needs no reason
abbrev pub IsRefusalOf : ModuleData → HeldErr → Type 0
IsRefusalOf d (E.Lacks of) = HasTypeWith d (RefusedType of)
IsRefusalOf d (E.TooWide width) = HasWideConst d width
IsRefusalOf d E.ScalableSplat = HasScalableSplat d
IsRefusalOf d E.NoMemory = Unit {0}

-- the number is that of a struct of the name, the first one where there are more
pub record IsStructOf (d : ModuleData) (name : List ℕ) (n : LLVMStruct) : Type 0 where
  pub struct : Struct
  pub at : slice_get d.structs n.0 ≡ Some struct
  pub named : struct.name ≡ name
  pub first : struct_in d.structs name ≡ Some struct

-- the numbers are those of the structs that types of values hold
pub record AreHeldStructs (d : ModuleData) (ns : List LLVMStruct) : Type 0 where
  pub each : (i : ℕ) (n : LLVMStruct) → slice_get ns i ≡ Some n → (name : List ℕ) × IsStructOf d name n × HasTypeWith d (NamedType name)
  pub all : (name : List ℕ) → HasTypeWith d (NamedType name) → (i : ℕ) × (n : LLVMStruct) × (slice_get ns i ≡ Some n) × IsStructOf d name n
  -- each stands behind those that its fields hold
  pub behind : (i : ℕ) (n : LLVMStruct) (s : Struct) (b : StructBody) (k : ℕ) (t : TypeTree) (name : List ℕ)
      → slice_get ns i ≡ Some n → slice_get d.structs n.0 ≡ Some s → s.body ≡ Some b → slice_get (types_list b.fields) k ≡ Some t → Holds d.structs (NamedType name) t
      → (j : ℕ) × (m : LLVMStruct) × (j < i) × (slice_get ns j ≡ Some m) × IsStructOf d name m
