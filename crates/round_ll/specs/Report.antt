-- The lines of the report: those that show the match of structs, and those that show the match of blocks.
use Rattle.std.specs.Prelude.{ℕ, ◌≡◌, ◌<◌, List, [], ◌∷◌, ◌++◌, slice_get, codes, All, String, string_bytes}
use Rattle.std.specs.List.{flat_map}
use Rattle.std.specs.Option.{option_map_or}
use Rattle.std.specs.Fmt.{decimal}
use Rattle.llvm_core.specs.Data.{Function, ModuleData}
use Rattle.ll_literals.specs.Names.{printed_name, printed_text}
use Rattle.from_llvm_ir.specs.declared.matching.FunctionBlocks.{FunctionBlocks}

-- the name of the function of that number
abbrev pub name_of : ModuleData → ℕ → List ℕ
name_of d k = option_map_or (λ (f : Function). f.name) (slice_get d.functions k) []

-- each place behind a blank
abbrev pub places_text : List ℕ → List ℕ
places_text ps = flat_map (λ (p : ℕ). codes " " ++ decimal p) ps

-- blocks @f, the name as a text has it, and the dialect place of each source block
abbrev pub blocks_line : ModuleData → FunctionBlocks → List ℕ
blocks_line d x = codes "blocks @" ++ printed_name (name_of d x.function.0) ++ places_text x.places ++ 10 ∷ []

-- each entry names one of n functions
abbrev pub AllNamed : ℕ → List FunctionBlocks → Type 0
AllNamed n bs = All (λ (x : FunctionBlocks). x.function.0 < n) bs

-- struct "S" identifier: the name of the source between quotes, as a text has it, and what the dialect calls it
abbrev pub struct_line : (name identifier : List ℕ) → List ℕ
struct_line name identifier = codes "struct " ++ printed_text name ++ codes " " ++ identifier ++ 10 ∷ []

-- a line for each pair of a match of structs
abbrev pub structs_text : {Z : Type 0} → List (String Z × List ℕ) → List ℕ
structs_text {Z} structs = flat_map (λ (p : String Z × List ℕ). struct_line (string_bytes p.0) p.1) structs

-- a line for each function with a body
abbrev pub blocks_text : ModuleData → List FunctionBlocks → List ℕ
blocks_text d bs = flat_map (blocks_line d) bs

-- the report of a match of structs and of blocks
abbrev pub report_text : {Z : Type 0} → ModuleData → (structs : List (String Z × List ℕ)) → List FunctionBlocks → List ℕ
report_text d structs bs = structs_text structs ++ blocks_text d bs

-- a front of the text stands behind what was there before
pub record HoldsFront (before after text : List ℕ) : Type 0 where
  pub front : List ℕ
  pub rest : List ℕ
  pub is : text ≡ front ++ rest
  pub held : after ≡ before ++ front
