-- The names and numbers by which a text speaks of the parameters, blocks and results of a function.
use Rattle.std.specs.Prelude.{ℕ, suc, Bool, false, List, [], ◌∷◌, ◌++◌, if◌then◌else◌, nat_eq, decimal}
use Rattle.std.specs.List.{flat_map, find, position_or_len}
use Rattle.std.specs.Option.{option_map_or}
use Rattle.llvm_core.specs.Data.{TypeTree, Placed, Block, Function, placed_in}
use Rattle.kinds.specs.Held.{is_void}
use Rattle.ll_literals.specs.Text.{Text}
use Rattle.ll_literals.specs.Names.{printed_name}

-- ---- what has no name

-- an unnamed parameter, block or result of a function
pub data Unnamed : Type 0 where
  ParamAt : (place : ℕ) → Unnamed
  BlockOf : (number : ℕ) → Unnamed
  ResultOf : (number : ℕ) → Unnamed

abbrev pub same_unnamed : Unnamed → Unnamed → Bool
same_unnamed (ParamAt i) (ParamAt j) = nat_eq i j
same_unnamed (BlockOf m) (BlockOf n) = nat_eq m n
same_unnamed (ResultOf m) (ResultOf n) = nat_eq m n
same_unnamed _ _ = false

-- the thing, where it has no name
abbrev pub if_unnamed : Text → Unnamed → List Unnamed
if_unnamed [] x = x ∷ []
if_unnamed (b ∷ bs) x = []

-- of the parameters from a place on
abbrev pub unnamed_params : (place : ℕ) → List Text → List Unnamed
unnamed_params i [] = []
unnamed_params i (n ∷ ns) = if_unnamed n (ParamAt i) ++ unnamed_params (suc i) ns

-- of an instruction: its result, where it has one
abbrev pub unnamed_result : TypeTree → Placed → List Unnamed
unnamed_result type p = if is_void type then [] else if_unnamed p.name (ResultOf p.number)

abbrev pub unnamed_block : Block → List Unnamed
unnamed_block b = if_unnamed b.name (BlockOf b.number) ++ flat_map (λ (p : Placed). unnamed_result p.type p) b.instructions

-- of a function, in the order of the text
abbrev pub unnamed_in : Function → List Unnamed
unnamed_in f = unnamed_params 0 f.params ++ flat_map unnamed_block f.blocks

-- they are numbered from 0 in that order
abbrev pub unnamed_number : Function → Unnamed → ℕ
unnamed_number f x = position_or_len (same_unnamed x) (unnamed_in f)

-- ---- how the text speaks of a thing

-- % and the name, or the number of what has none
abbrev pub local_text : Function → Text → Unnamed → Text
local_text f [] x = 37 ∷ decimal (unnamed_number f x)
local_text f (b ∷ bs) x = 37 ∷ printed_name (b ∷ bs)

-- the name of the result of the instruction of that number
abbrev pub result_name : Function → ℕ → Text
result_name f n = option_map_or (λ (p : Placed). p.name) (find (λ (p : Placed). nat_eq p.number n) (placed_in f)) []

-- the name of the block of that number
abbrev pub block_name : Function → ℕ → Text
block_name f n = option_map_or (λ (b : Block). b.name) (find (λ (b : Block). nat_eq b.number n) f.blocks) []

-- % and the name or number of a block
abbrev pub block_ref : Function → ℕ → Text
block_ref f n = local_text f (block_name f n) (BlockOf n)
