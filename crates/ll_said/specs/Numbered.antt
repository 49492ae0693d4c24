-- Data under numbers from 0 on, in the order of their text.
use Rattle.std.specs.Prelude.{ℕ, suc, ◌+◌, nat_eq, List, [], ◌∷◌, length, map}
use Rattle.std.specs.List.{position_or_len}
use Rattle.llvm_core.specs.Data.{Operand, Constant, Parameter, Result, Instruction, Phi, Applied, Placed, Block, Function, ModuleData, placed_in}

-- the number that a function takes, and those that its blocks and instructions take for theirs
pub record Numbers : Type 0 where
  pub function : ℕ
  pub block : ℕ → ℕ
  pub instruction : ℕ → ℕ

-- ---- under other numbers

module _ (to : Numbers) where
  abbrev pub operand_to : Operand → Operand
  operand_to (Constant c) = Constant c
  operand_to (Parameter g i) = Parameter to.function i
  operand_to (Result n) = Result (to.instruction n)

  abbrev pub entry_to : Operand × ℕ → Operand × ℕ
  entry_to e = (operand_to e.0, to.block e.1)

  abbrev pub instruction_to : Instruction → Instruction
  instruction_to (Phi entries) = Phi (map entry_to entries)
  instruction_to (Applied r) = Applied (record r { operands = map operand_to r.operands; targets = map to.block r.targets })

  abbrev pub placed_to : Placed → Placed
  placed_to p = record p { number = to.instruction p.number; instruction = instruction_to p.instruction }

  abbrev pub block_to : Block → Block
  block_to b = record b { number = to.block b.number; instructions = map placed_to b.instructions }

  abbrev pub function_to : Function → Function
  function_to f = record f { number = to.function; blocks = map block_to f.blocks }

-- ---- in order

-- from f, b and n on: each block and each instruction by its place in the function
abbrev pub numbers_from : (f b n : ℕ) → Function → Numbers
numbers_from f b n x = record {
  function = f;
  block = λ (k : ℕ). b + position_or_len (nat_eq k) (map (λ (c : Block). c.number) x.blocks);
  instruction = λ (k : ℕ). n + position_or_len (nat_eq k) (map (λ (p : Placed). p.number) (placed_in x));
}

abbrev pub functions_from : (f b n : ℕ) → List Function → List Function
functions_from f b n [] = []
functions_from f b n (x ∷ xs) = function_to (numbers_from f b n x) x ∷ functions_from (suc f) (b + length x.blocks) (n + length (placed_in x)) xs

-- functions, blocks and instructions are each numbered from 0 in order
abbrev pub numbered : ModuleData → ModuleData
numbered d = record d { functions = functions_from 0 0 0 d.functions }
