-- A function under other numbers differs in numbers alone.
use Rattle.std.proofs.Common.{◌≡◌, ℕ, suc, List, [], ◌∷◌, ◌++◌, map, slice_get, Some, All, refl, ap, sym, ◌∙◌, subst}
use Rattle.std.specs.List.{AllZip, flat_map}
use Rattle.std.specs.Option.{option_map}
use Rattle.std.proofs.lemmas.List.{map-append}
use Rattle.std.proofs.lemmas.Option.{slice_get-map}
use Rattle.support.proofs.ListLaws.{in_joined}
use Rattle.llvm_core.specs.Data.{TypeTree, Operand, Constant, Parameter, Result, RowData, Instruction, Phi, Applied, Placed, Block, Function, placed_in}
use Rattle.llvm_core.specs.Form.{IsOperandOf, IsOperand, IsTarget, IsFormInstruction, IsFormPlaced, IsFormBlock, IsFormFunction}
use Rattle.llvm_core.proofs.DataLemmas.{within_at}
use Rattle.ll_said.specs.Numbered.{Numbers, operand_to, entry_to, instruction_to, placed_to, block_to, function_to}
use Rattle.ll_said.proofs.AlikeEdges.{mapped_at}
use Rattle.ll_said.proofs.EdgeLaws.{entry_block, target_block}
use Rattle.ll_said.proofs.PairLaws.{SameBlock, SameResult, OperandsAlike, EntriesAlike, CodeAlike, PlacedAlike, BlocksAlike, FunctionsAlike}
use Rattle.ll_said.proofs.ThingLaws.{HasBlockNumber}

-- a list beside what is made of its items
zip_map : {X Y : Type 0} (R : X → Y → Type 0) (g : X → Y) (xs : List X) → ((i : ℕ) (x : X) → slice_get xs i ≡ Some x → R x (g x)) → AllZip R xs (map g xs)
zip_map R g [] h = tt
zip_map R g (x ∷ xs) h = (h 0 x refl, zip_map R g xs (λ i y at. h (suc i) y at))

-- the instructions of blocks under other numbers
pub placed_mapped : (to : Numbers) (bs : List Block) → flat_map (λ (b : Block). b.instructions) (map (block_to to) bs) ≡ map (placed_to to) (flat_map (λ (b : Block). b.instructions) bs)
placed_mapped to [] = refl
placed_mapped to (b ∷ bs) =
    ap (λ (ps : List Placed). map (placed_to to) b.instructions ++ ps) (placed_mapped to bs)
    ∙ sym (map-append (placed_to to) b.instructions (flat_map (λ (b : Block). b.instructions) bs))

module _ (to : Numbers) (f : Function) (form : IsFormFunction f) where
  abbrev new : Function
  new = function_to to f

  block_pair : (i : ℕ) (b : Block) → slice_get f.blocks i ≡ Some b → SameBlock f new b.number (to.block b.number)
  block_pair i b at = record {
    place = i;
    left = mapped_at (λ (c : Block). c.number) f.blocks i b at;
    right = mapped_at (λ (c : Block). c.number) (map (block_to to) f.blocks) i (block_to to b) (slice_get-map (block_to to) f.blocks i ∙ ap (option_map (block_to to)) at);
  }

  result_pair : (i : ℕ) (p : Placed) → slice_get (placed_in f) i ≡ Some p → SameResult f new p.number (to.instruction p.number)
  result_pair i p at =
      let there : slice_get (placed_in new) i ≡ Some (placed_to to p) = ap (λ (ps : List Placed). slice_get ps i) (placed_mapped to f.blocks) ∙ slice_get-map (placed_to to) (placed_in f) i ∙ ap (option_map (placed_to to)) at in
      record { place = i; left = mapped_at (λ (q : Placed). q.number) (placed_in f) i p at; right = mapped_at (λ (q : Placed). q.number) (placed_in new) i (placed_to to p) there }

  target_pair : (n : ℕ) → HasBlockNumber n f.blocks → SameBlock f new n (to.block n)
  target_pair n h = subst (λ (k : ℕ). SameBlock f new k (to.block k)) h.3 (block_pair h.0 h.1 h.2)

  operand_pair : (o : Operand) → IsOperandOf f o → OperandsAlike f new o (operand_to to o)
  operand_pair (Constant c) h = refl
  operand_pair (Parameter g i) h = (h.0, refl)
  operand_pair (Result n) h = (to.instruction n, refl, subst (λ (k : ℕ). SameResult f new k (to.instruction k)) h.3 (result_pair h.0 h.1 h.2))

  row_pair : (r : RowData) → All (IsOperandOf f) r.operands → All (IsTarget f) r.targets → CodeAlike f new (Applied r) (instruction_to to (Applied r))
  row_pair r operands targets = record {
    op = refl;
    written = refl;
    operands = zip_map (OperandsAlike f new) (operand_to to) r.operands (λ i o at. operand_pair o (within_at r.operands (IsOperandOf f) operands i o at));
    targets = zip_map (SameBlock f new) to.block r.targets (λ i n at. target_pair n (target_block f n (within_at r.targets (IsTarget f) targets i n at)));
  }

  code_pair : (b : ℕ) (type : TypeTree) (i : Instruction) → IsFormInstruction f b type i → CodeAlike f new i (instruction_to to i)
  code_pair b type (Phi es) h =
      zip_map (EntriesAlike f new) (entry_to to) es (λ i e at. (operand_pair e.0 (within_at es (λ (e : Operand × ℕ). IsOperand f type e.0) h.0 i e at).stands, target_pair e.1 (entry_block f b es i e h.1 at)))
  code_pair b type (Applied r) h = row_pair r h.operands h.targets

  placed_pair : (i j : ℕ) (c : Block) (p : Placed) → slice_get f.blocks i ≡ Some c → slice_get c.instructions j ≡ Some p → PlacedAlike f new p (placed_to to p)
  placed_pair i j c p at here =
      let block = within_at f.blocks (IsFormBlock f) form.blocks i c at in
      let placed = within_at c.instructions (IsFormPlaced f c.number) block.instructions j p here in
      let there = in_joined (λ (b : Block). b.instructions) f.blocks i j c p at here in
      record { number = result_pair there.0 p there.1; name = refl; type = refl; code = code_pair c.number p.type p.instruction placed.instruction }

  pub alike_to : FunctionsAlike f new
  alike_to = record {
    name = refl;
    type = refl;
    space = refl;
    params = refl;
    blocks = zip_map (BlocksAlike f new) (block_to to) f.blocks (λ i c at. record { number = block_pair i c at; name = refl; instructions = zip_map (PlacedAlike f new) (placed_to to) c.instructions (λ j p here. placed_pair i j c p at here) });
  }
