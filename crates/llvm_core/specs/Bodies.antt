-- Bodies that are handed over whole: what one has to be, and what it makes of a module and of its data.
use Rattle.std.specs.Prelude.{◌≡◌, None, ◌<◌, ◌+◌, ℕ, if◌then◌else◌, nat_eq, List, [], ◌∷◌, ◌++◌, All, length, map}
use Rattle.support.specs.Changes.{with_change}
use Rattle.llvm_core.specs.declared.numbers.LLVMFunction.{LLVMFunction}
use Rattle.llvm_core.specs.declared.numbers.LLVMBasicBlock.{LLVMBasicBlock}
use Rattle.llvm_core.specs.declared.numbers.LLVMInstRef.{LLVMInstRef}
use Rattle.llvm_core.specs.declared.code.InstData.{InstData}
use Rattle.llvm_core.specs.declared.bodies.BodyBlock.{BodyBlock}
use Rattle.llvm_core.specs.declared.code.FunctionData.{FunctionData}
use Rattle.llvm_core.specs.declared.code.BlockData.{BlockData}
use Rattle.llvm_core.specs.Module.{Module}
use Rattle.llvm_core.specs.Code.{Code, code_of, with_code}
use Rattle.llvm_core.specs.Parts.{HasValues, result_type}
use Rattle.llvm_core.specs.Sound.{StandsFor}
use Rattle.llvm_core.specs.Data.{Trees, Placed, Block, Function, ModuleData, type_at, instruction_of, trees_of}

-- ---- on the lists

-- a number for each block, from n on
abbrev pub block_numbers : ℕ → List BodyBlock → List LLVMBasicBlock
block_numbers n [] = []
block_numbers n (b ∷ bs) = record { 0 = n } ∷ block_numbers (n + 1) bs

-- a number for each instruction, from n on
abbrev pub inst_numbers : ℕ → List InstData → List LLVMInstRef
inst_numbers n [] = []
inst_numbers n (x ∷ xs) = record { 0 = n } ∷ inst_numbers (n + 1) xs

-- the blocks of a body of f, whose instructions have the numbers from i on
abbrev pub body_blocks : LLVMFunction → (i : ℕ) → List BodyBlock → List BlockData
body_blocks f i [] = []
body_blocks f i (b ∷ bs) = record { name = b.name; function = f; insts = inst_numbers i b.insts } ∷ body_blocks f (i + length b.insts) bs

-- an instruction, put into the block n
abbrev pub inst_in : (n : ℕ) → InstData → InstData
inst_in n x = record x { block = record { 0 = n } }

-- the instructions of a body, whose blocks have the numbers from n on
abbrev pub body_insts : (n : ℕ) → List BodyBlock → List InstData
body_insts n [] = []
body_insts n (b ∷ bs) = map (inst_in n) b.insts ++ body_insts (n + 1) bs

-- blocks and instructions go behind all that are there, and f lists the blocks behind its own
abbrev pub with_lists : Code → LLVMFunction → List LLVMBasicBlock → List BlockData → List InstData → Code
with_lists c f numbers blocks insts = record {
  functions = with_change (λ (x : FunctionData). record x { blocks = x.blocks ++ numbers }) f.0 c.functions;
  blocks = c.blocks ++ blocks;
  insts = c.insts ++ insts;
}

-- the function f has the body behind its own blocks
abbrev pub with_body : Code → LLVMFunction → List BodyBlock → Code
with_body c f body = with_lists c f (block_numbers (length c.blocks) body) (body_blocks f (length c.insts) body) (body_insts (length c.blocks) body)

-- the module in which f has the body
abbrev pub added : Module → LLVMFunction → List BodyBlock → Module
added m f body = with_code m (with_body (code_of m) f body)

-- ---- what a body has to be

-- an instruction whose type is there and is that of its operands, and whose operands are there; it has no name where it has no result
pub record IsBodyInst (m : Module) (x : InstData) : Type 0 where
  pub typed : x.ty.0 < length m.types
  pub result : StandsFor m.types (result_type m x.inst) x.ty
  pub values : HasValues m x.inst
  pub unnamed : result_type m x.inst ≡ None → x.name ≡ []

-- each instruction is right in the module that has the body, so that it may name what stands later
abbrev pub IsBodyOf : Module → LLVMFunction → List BodyBlock → Type 0
IsBodyOf m f body = All (λ (b : BodyBlock). All (IsBodyInst (added m f body)) b.insts) body

-- ---- as data

-- the instructions, with the numbers from n on
abbrev pub placed_from : Trees → (n : ℕ) → List InstData → List Placed
placed_from t n [] = []
placed_from t n (x ∷ xs) = record { number = n; name = x.name; type = type_at t.types x.ty; instruction = instruction_of t x.inst } ∷ placed_from t (n + 1) xs

-- the blocks with the numbers from n on, and their instructions with those from i on
abbrev pub blocks_from : Trees → (n i : ℕ) → List BodyBlock → List Block
blocks_from t n i [] = []
blocks_from t n i (b ∷ bs) = record { number = n; name = b.name; instructions = placed_from t i b.insts } ∷ blocks_from t (n + 1) (i + length b.insts) bs

-- the blocks that a body gives a function of m
abbrev pub body_data : Module → List BodyBlock → List Block
body_data m body = blocks_from (trees_of m) (length m.blocks) (length m.insts) body

-- the function of that number has the blocks behind its own
abbrev pub with_blocks : ModuleData → ℕ → List Block → ModuleData
with_blocks d f bs = record d { functions = map (λ (x : Function). if nat_eq x.number f then record x { blocks = x.blocks ++ bs } else x) d.functions }
