-- The first struct of each name.
use Rattle.std.specs.Prelude.{◌≡◌, ℕ, nat_eq, if◌then◌else◌, List, slice_get, Option, Some, None}
use Rattle.std.specs.Cmp.Lexicographic.{pointwise}
use Rattle.indexmap.specs.IndexMap.{IndexMap, get}
use Rattle.llvm_core.specs.declared.numbers.LLVMStruct.{LLVMStruct}
use Rattle.llvm_core.specs.declared.structs.StructData.{StructData}
use Rattle.support.specs.Options.{or_else}
use Rattle.llvm_core.specs.Consts.{struct_named}

-- the number is that of the first struct of that name, and there is none where no struct has it
abbrev pub IsFirst : List StructData → (name : List ℕ) → Option LLVMStruct → Type 0
IsFirst structs name None = struct_named structs name ≡ None
IsFirst structs name (Some s) = (x : StructData) × (slice_get structs s.0 ≡ Some x) × (struct_named structs name ≡ Some x)

module _ {S : Type 0} where
  -- what is noted of a name
  abbrev pub noted : IndexMap (List ℕ) LLVMStruct S → List ℕ → Option LLVMStruct
  noted firsts name = get (pointwise nat_eq) firsts name

  -- the first struct of each name is noted, and nothing else
  abbrev pub AreFirsts : List StructData → IndexMap (List ℕ) LLVMStruct S → Type 0
  AreFirsts structs firsts = (name : List ℕ) → IsFirst structs name (noted firsts name)

  -- s is noted under that name, unless something was
  abbrev pub IsNoted : (old new : IndexMap (List ℕ) LLVMStruct S) → (name : List ℕ) → LLVMStruct → Type 0
  IsNoted old new name s = (q : List ℕ) → noted new q ≡ or_else (noted old q) (if pointwise nat_eq name q then Some s else None)
