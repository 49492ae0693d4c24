-- What clauses see of bodies: what their instructions and blocks are as data, and what lines they are made of.
use Rattle.std.specs.Prelude.{◌≡◌, ◌+◌, ℕ, List, [], ◌∷◌, ◌++◌, length, map, Some}
use Rattle.llvm_core.specs.Data.{Trees, Placed, type_at, instruction_of}
use Rattle.ll_lines.specs.declared.lines.Line.{Line}
use Rattle.ll_bodies.specs.declared.blocks.SaidBlock.{SaidBlock}
use Rattle.llvm_core.specs.declared.code.InstData.{InstData}
use Rattle.llvm_core.specs.declared.bodies.BodyBlock.{BodyBlock}
use Rattle.llvm_core.specs.Bodies.{placed_from, blocks_from}
use Rattle.ll_bodies.specs.declared.results.Source.{Source}
use Rattle.ll_bodies.specs.declared.scope.Scope as code
use Rattle.ll_bodies.specs.Scopes.{Scope}
use Rattle.ll_bodies.specs.Meaning.{all_from, placed, blocks_data}
use Rattle.ll_bodies.specs.ScopeViews.{Knows}
use Rattle.ll_bodies.specs.SourceViews.{types_in, source_trees, structs_in, line_in, block_in, count_lines}

-- ---- as data

-- an instruction under a number
abbrev pub placed_one : Trees → (n : ℕ) → InstData → Placed
placed_one t n x = record { number = n; name = x.name; type = type_at t.types x.ty; instruction = instruction_of t x.inst }

-- how many instructions blocks have
abbrev pub count_body : List BodyBlock → ℕ
count_body [] = 0
count_body (b ∷ bs) = length b.insts + count_body bs

-- ---- what they are made of

-- the instructions that lines mean, in the scope of their function
pub record Made (source : Source) (scope : code.Scope) (lines : List Line) (made : List InstData) : Type 0 where
  pub count : length made ≡ length lines
  pub is : (s : Scope) (n : ℕ) → Knows (types_in source) scope s → all_from (placed (structs_in source) s) n (map (line_in source) lines) ≡ Some (placed_from (source_trees source) n made)

-- the instructions of lines are put behind others
pub record Extends (source : Source) (scope : code.Scope) (lines : List Line) (old new : List InstData) : Type 0 where
  pub more : List InstData
  pub is : new ≡ old ++ more
  pub made : Made source scope lines more

-- the blocks that blocks of lines mean
pub record MadeBlocks (source : Source) (scope : code.Scope) (blocks : List SaidBlock) (made : List BodyBlock) : Type 0 where
  pub count : length made ≡ length blocks
  pub insts : count_body made ≡ count_lines blocks
  pub is : (s : Scope) (b n : ℕ) → Knows (types_in source) scope s → blocks_data (structs_in source) s b n (map (block_in source) blocks) ≡ Some (blocks_from (source_trees source) b n made)
