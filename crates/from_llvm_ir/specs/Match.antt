-- The match of blocks and of structs that an import hands out.
use Rattle.std.specs.Prelude.{ℕ, ◌≡◌, ◌<◌, List, Some, All, nat_eq, slice_get, slice_index_or, length}
use Rattle.std.specs.Str.{bytes_eq}
use Rattle.std.specs.List.{find}
use Rattle.std.specs.Option.{option_map_or}
use Rattle.support.specs.Interned.{IsDistinctList}
use Rattle.llvm_core.specs.Data.{Function, ModuleData}
use Rattle.meaning.specs.Terms.{Match}
use Rattle.renamed_source.specs.Names.{struct_name}
use Rattle.from_llvm_ir.specs.declared.matching.FunctionBlocks.{FunctionBlocks}

-- the place that the list gives a block
abbrev pub place_at : ℕ → FunctionBlocks → ℕ
place_at b x = slice_index_or x.places b b

-- the place of a block of the function of that number
abbrev pub place_in : List FunctionBlocks → ℕ → ℕ → ℕ
place_in bs f b = option_map_or (place_at b) (find (λ (x : FunctionBlocks). nat_eq x.function.0 f) bs) b

-- the match that lists of places and of names of structs say, for this module data
abbrev pub match_of : ModuleData → List FunctionBlocks → List (List ℕ × List ℕ) → Match
match_of d bs structs = record {
  block = λ n b. option_map_or (λ (f : Function). place_in bs f.number b) (find (λ (f : Function). bytes_eq f.name n) d.functions) b;
  struct = struct_name structs;
}

-- A place for each of n blocks: each place below n is that of one block, and the first block has the first.
pub record IsPlaces (n : ℕ) (places : List ℕ) : Type 0 where
  pub count : length places ≡ n
  pub within : All (λ (p : ℕ). p < n) places
  pub apart : IsDistinctList places
  pub onto : (p : ℕ) → p < n → (i : ℕ) × (slice_get places i ≡ Some p)
  pub first : 0 < n → slice_get places 0 ≡ Some 0
