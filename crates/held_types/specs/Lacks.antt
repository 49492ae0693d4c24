-- Constants that no import gives an attribute, by their numbers.
use Rattle.std.specs.Prelude.{ℕ, ◌≡◌, List, Option, Some, None, All, slice_get}
use Rattle.llvm_core.specs.declared.numbers.LLVMConst.{LLVMConst}
use Rattle.llvm_core.specs.declared.code.LLVMValue.{LLVMValue}
use Rattle.llvm_core.specs.declared.code.LLVMValue.TheVariants as V
use Rattle.llvm_core.specs.declared.code.InstData.{InstData}
use Rattle.llvm_core.specs.Module.{Module}
use Rattle.llvm_core.specs.Parts.{operands}
use Rattle.llvm_core.specs.Data.{ConstTree, ConstTrees, const_at, trees_of}
use Rattle.held_types.specs.declared.lacks.Lack.{Lack}
use Rattle.held_types.specs.declared.lacks.Lack.TheVariants as K
use Rattle.held_types.specs.Held.{HasPart, HavePart, IsWide, IsSplat}

-- the constants that are lacked so
abbrev pub IsLacked : Lack → ConstTree → Type 0
IsLacked (K.TooWide width) c = IsWide width c
IsLacked K.ScalableSplat c = IsSplat c

-- nothing is lacked of the constant, nor of one that it is made of
abbrev pub LacksNothing : ConstTree → Type 0
LacksNothing c = (l : Lack) → ¬ HasPart (IsLacked l) c

abbrev pub LackNothing : ConstTrees → Type 0
LackNothing cs = (l : Lack) → ¬ HavePart (IsLacked l) cs

-- the answer is right of a constant
abbrev pub Tells : Option Lack → ConstTree → Type 0
Tells None c = LacksNothing c
Tells (Some l) c = HasPart (IsLacked l) c

-- and of constants
abbrev pub TellsAny : Option Lack → ConstTrees → Type 0
TellsAny None cs = LackNothing cs
TellsAny (Some l) cs = HavePart (IsLacked l) cs

abbrev pub tree_in : Module → LLVMConst → ConstTree
tree_in m c = const_at (trees_of m).consts c

-- what is told of each of the first constants of a module
abbrev pub AreTold : Module → List (Option Lack) → Type 0
AreTold m ls = (i : ℕ) (o : Option Lack) → slice_get ls i ≡ Some o → Tells o (tree_in m (record { 0 = i }))

-- ---- what instructions use

-- nothing is lacked of the value, where it is a constant
abbrev pub LacksNone : Module → LLVMValue → Type 0
LacksNone m (V.Const c) = LacksNothing (tree_in m c)
LacksNone m (V.Param f place) = Unit {0}
LacksNone m (V.Inst i) = Unit {0}

-- the value is a constant of which that is lacked
abbrev pub LacksIt : Module → Lack → LLVMValue → Type 0
LacksIt m l v = (c : LLVMConst) × (v ≡ V.Const c) × HasPart (IsLacked l) (tree_in m c)

-- one of the values is
abbrev pub HasLack : Module → Lack → List LLVMValue → Type 0
HasLack m l vs = (i : ℕ) × (v : LLVMValue) × (slice_get vs i ≡ Some v) × LacksIt m l v

-- the instruction of that number uses none
abbrev pub UsesHeld : Module → ℕ → Type 0
UsesHeld m i = (z : InstData) → slice_get m.insts i ≡ Some z → All (LacksNone m) (operands z.inst)

-- or one of which that is lacked
abbrev pub UsesLack : Module → Lack → ℕ → Type 0
UsesLack m l i = (z : InstData) × (slice_get m.insts i ≡ Some z) × HasLack m l (operands z.inst)
