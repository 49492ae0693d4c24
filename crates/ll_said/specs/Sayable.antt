-- Module data that a text says whole.
use Rattle.std.specs.Prelude.{◌≡◌, ◌≤◌, ℕ, suc, true, List, [], ◌∷◌, length, map, All}
use Rattle.std.specs.List.{flat_map}
use Rattle.std.specs.Str.{is_utf8}
use Rattle.support.specs.Interned.{IsDistinctList}
use Rattle.kinds.specs.Structs.{IsFormStruct, IsNested}
use Rattle.llvm_core.specs.Data.{Placed, Block, Function, Struct, ModuleData}
use Rattle.llvm_core.specs.Data as L
use Rattle.llvm_core.specs.Form.{IsFormFunction, types_in, local_names, HasMadeOperands}
use Rattle.ll_literals.specs.Numbers.{number_limit}
use Rattle.ll_said.specs.Naming.{unnamed_in}

-- the numbers of unnamed things lie below the limit
abbrev pub HasFewUnnamed : Function → Type 0
HasFewUnnamed f = length (unnamed_in f) ≤ number_limit

-- a function of the form, in which no two named things share a name, with few unnamed ones
pub record IsSayable (f : Function) : Type 0 where
  pub form : IsFormFunction f
  pub names : IsDistinctList (local_names f)
  pub few : HasFewUnnamed f

-- ---- numbers of things

-- n, n + 1, .. , as many as the list has items
abbrev pub counting : {A : Type 0} → ℕ → List A → List ℕ
counting n [] = []
counting n (x ∷ xs) = n ∷ counting (suc n) xs

-- the function has the number f, its blocks are numbered from b and its instructions from n
pub record IsNumberedFrom (f b n : ℕ) (x : Function) : Type 0 where
  pub number : x.number ≡ f
  pub blocks : map (λ (c : Block). c.number) x.blocks ≡ counting b x.blocks
  pub instructions : map (λ (p : Placed). p.number) (L.placed_in x) ≡ counting n (L.placed_in x)

abbrev pub blocks_in : ModuleData → List Block
blocks_in d = flat_map (λ (f : Function). f.blocks) d.functions

abbrev pub placed_in : ModuleData → List Placed
placed_in d = flat_map (λ (b : Block). b.instructions) (blocks_in d)

-- functions, blocks and instructions are each numbered from 0 in order
pub record IsNumbered (d : ModuleData) : Type 0 where
  pub functions : map (λ (f : Function). f.number) d.functions ≡ counting 0 d.functions
  pub blocks : map (λ (b : Block). b.number) (blocks_in d) ≡ counting 0 (blocks_in d)
  pub instructions : map (λ (p : Placed). p.number) (placed_in d) ≡ counting 0 (placed_in d)

-- ---- modules

-- a module whose functions and structs a text says whole, however it is numbered: no two structs share a name, and each
-- that a type names is there, so the text says its name; the module's own name may be any text
pub record IsSayableModule (d : ModuleData) : Type 0 where
  pub functions : All IsSayable d.functions
  pub structs : All IsFormStruct d.structs
  pub struct_names : IsDistinctList (map (λ (s : Struct). s.name) d.structs)
  pub nested : All (IsNested d.structs) (types_in d)
  pub elements : All (HasMadeOperands d.structs) d.functions
  pub name : is_utf8 d.name ≡ true
