-- What clauses see of blocks that are cut from a body.
use Rattle.std.specs.Prelude.{◌≡◌, ℕ, List, [], ◌∷◌, map, reverse, take, drop, length}
use Rattle.std.specs.Option.{option_map}
use Rattle.llvm_core.specs.Data.{Trees}
use Rattle.ll_lines.specs.declared.lines.Part.{Part}
use Rattle.ll_lines.specs.declared.lines.Part.TheVariants.{Label, Does}
use Rattle.ll_lines.specs.declared.lines.Line as code_line
use Rattle.ll_lines.specs.Lines.{Line, SaidConst}
use Rattle.ll_lines.specs.Views.{text_of, line_view}
use Rattle.ll_bodies.specs.declared.blocks.SaidBlock as code
use Rattle.ll_bodies.specs.declared.blocks.Behind.{Behind}
use Rattle.ll_bodies.specs.Meaning.{SaidBlock}

-- the lines among parts
abbrev pub lines_of : List Part → List code_line.Line
lines_of [] = []
lines_of (Label n ∷ ps) = lines_of ps
lines_of (Does l ∷ ps) = l ∷ lines_of ps

-- the first of the parts, if any, is a line
abbrev pub BeginsWithLine : List Part → Type 0
BeginsWithLine [] = Unit {0}
BeginsWithLine (Label n ∷ ps) = ⊥
BeginsWithLine (Does l ∷ ps) = Unit {0}

-- these parts stand from a place of the body on, and begin with a line
pub record IsBehind (parts : List Part) (at : ℕ) (lines : List Part) : Type 0 where
  pub there : take (length lines) (drop at parts) ≡ lines
  pub begins : BeginsWithLine lines

module _ (bytes : List ℕ) (t : Trees) (table : List SaidConst) where
  abbrev pub lines_view : List Part → List Line
  lines_view ps = map (line_view bytes t table) (lines_of ps)

  abbrev pub block_view : code.SaidBlock → SaidBlock
  block_view b = record { label = option_map (text_of bytes) b.label; lines = lines_view b.lines.now }

  -- blocks that are kept with the last first
  abbrev pub blocks_view : List code.SaidBlock → List SaidBlock
  blocks_view bs = map block_view (reverse bs)

  abbrev pub behind_view : Behind → List Line × List SaidBlock
  behind_view b = (lines_view b.lines.now, blocks_view b.blocks.items)
