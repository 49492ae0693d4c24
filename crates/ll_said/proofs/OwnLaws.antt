-- Numbered data of the form are their own twin: each number is that of its place.
use Rattle.std.proofs.Common.{◌≡◌, ℕ, suc, ◌+◌, List, [], ◌∷◌, length, map, slice_get, Some, refl, ap, sym, ◌∙◌, subst}
use Rattle.std.specs.List.{AllByRecursion}
use Rattle.llvm_core.specs.Data.{TypeTree, Operand, Constant, Parameter, Result, Instruction, Phi, Applied, Placed, Block, Function, ModuleData, placed_in}
use Rattle.llvm_core.specs.Form.{IsOperandOf, IsOperand, IsTarget, IsFormInstruction, IsFormPlaced, IsFormBlock, IsFormFunction, IsForm}
use Rattle.llvm_core.proofs.DataLemmas.{within_at}
use Rattle.ll_said.specs.Numbered.{Numbers, operand_to, entry_to, instruction_to, placed_to, block_to, function_to, numbers_from, functions_from, numbered}
use Rattle.ll_said.specs.Sayable.{IsNumbered}
use Rattle.ll_said.proofs.AlikeEdges.{mapped_at}
use Rattle.ll_said.proofs.CountingLaws.{IsCounted, AreCounted, placed_number, block_number, count_placed, counted_at, placed_through}
use Rattle.ll_said.proofs.EdgeLaws.{entry_block, target_block}
use Rattle.ll_said.proofs.FileLaws.{counts_of}
use Rattle.ll_said.proofs.PairLaws.{block_numbers, result_numbers}
use Rattle.ll_said.proofs.ThingLaws.{HasBlockNumber}
use Rattle.ll_said.proofs.TwinLaws.{position_at, forms}
use Rattle.support.proofs.ListLaws.{in_joined}

-- what changes no item of a list leaves the list
map_same : {X : Type 0} (g : X → X) (xs : List X) → ((i : ℕ) (x : X) → slice_get xs i ≡ Some x → g x ≡ x) → map g xs ≡ xs
map_same g [] h = refl
map_same g (x ∷ xs) h =
    let here = h 0 x refl in
    let rest = map_same g xs (λ i y at. h (suc i) y at) in
    λ i. here i ∷ rest i

-- ---- one function

module _ (f b n : ℕ) (x : Function) (form : IsFormFunction x) (same : x.number ≡ f) (blocks : IsCounted block_number b x.blocks) (instructions : IsCounted placed_number n (placed_in x)) where
  abbrev to : Numbers
  to = numbers_from f b n x

  block_kept : (i : ℕ) (c : Block) → slice_get x.blocks i ≡ Some c → to.block c.number ≡ c.number
  block_kept i c at =
      let there = mapped_at block_number x.blocks i c at in
      ap (λ (k : ℕ). b + k) (position_at (block_numbers x) form.block_numbers i c.number there) ∙ sym (counted_at block_number b x.blocks blocks i c.number there)

  result_kept : (i : ℕ) (p : Placed) → slice_get (placed_in x) i ≡ Some p → to.instruction p.number ≡ p.number
  result_kept i p at =
      let there = mapped_at placed_number (placed_in x) i p at in
      ap (λ (k : ℕ). n + k) (position_at (result_numbers x) form.numbers i p.number there) ∙ sym (counted_at placed_number n (placed_in x) instructions i p.number there)

  target_kept : (k : ℕ) → HasBlockNumber k x.blocks → to.block k ≡ k
  target_kept k h = subst (λ (j : ℕ). to.block j ≡ j) h.3 (block_kept h.0 h.1 h.2)

  operand_kept : (o : Operand) → IsOperandOf x o → operand_to to o ≡ o
  operand_kept (Constant c) h = refl
  operand_kept (Parameter g i) h = ap (λ (k : ℕ). Parameter k i) (sym same ∙ sym h.0)
  operand_kept (Result k) h = ap Result (subst (λ (j : ℕ). to.instruction j ≡ j) h.3 (result_kept h.0 h.1 h.2))

  entry_kept : (e : Operand × ℕ) → IsOperandOf x e.0 → HasBlockNumber e.1 x.blocks → entry_to to e ≡ e
  entry_kept e h g = let o = operand_kept e.0 h in let k = target_kept e.1 g in λ i. (o i, k i)

  code_kept : (c : ℕ) (type : TypeTree) (y : Instruction) → IsFormInstruction x c type y → instruction_to to y ≡ y
  code_kept c type (Phi es) h =
      ap Phi (map_same (entry_to to) es (λ i e at. entry_kept e (within_at es (λ (e : Operand × ℕ). IsOperand x type e.0) h.0 i e at).stands (entry_block x c es i e h.1 at)))
  code_kept c type (Applied r) h =
      let os = map_same (operand_to to) r.operands (λ i o at. operand_kept o (within_at r.operands (IsOperandOf x) h.operands i o at)) in
      let ts = map_same to.block r.targets (λ i k at. target_kept k (target_block x k (within_at r.targets (IsTarget x) h.targets i k at))) in
      λ i. Applied (record r { operands = os i; targets = ts i })

  placed_kept : (i j : ℕ) (c : Block) (p : Placed) → slice_get x.blocks i ≡ Some c → slice_get c.instructions j ≡ Some p → placed_to to p ≡ p
  placed_kept i j c p at here =
      let block = within_at x.blocks (IsFormBlock x) form.blocks i c at in
      let placed = within_at c.instructions (IsFormPlaced x c.number) block.instructions j p here in
      let there = in_joined (λ (b : Block). b.instructions) x.blocks i j c p at here in
      let number = result_kept there.0 p there.1 in
      let code = code_kept c.number p.type p.instruction placed.instruction in
      λ k. record p { number = number k; instruction = code k }

  whole_block_kept : (i : ℕ) (c : Block) → slice_get x.blocks i ≡ Some c → block_to to c ≡ c
  whole_block_kept i c at =
      let number = block_kept i c at in
      let is = map_same (placed_to to) c.instructions (λ j p here. placed_kept i j c p at here) in
      λ k. record c { number = number k; instructions = is k }

  function_kept : function_to to x ≡ x
  function_kept =
      let number = sym same in
      let cs = map_same (block_to to) x.blocks whole_block_kept in
      λ k. record x { number = number k; blocks = cs k }

-- ---- functions one after another

functions_kept : (f b n : ℕ) (xs : List Function) → AllByRecursion IsFormFunction xs → AreCounted f b n xs → functions_from f b n xs ≡ xs
functions_kept f b n [] h g = refl
functions_kept f b n (x ∷ xs) h g =
    let parts = placed_through b n x.blocks g.1 in
    let later = subst (λ (k : ℕ). AreCounted (suc f) (b + length x.blocks) (n + k) xs) (sym (count_placed x.blocks)) g.2 in
    let one = function_kept f b n x h.0 g.0 parts.0 parts.1 in
    let more = functions_kept (suc f) (b + length x.blocks) (n + length (placed_in x)) xs h.1 later in
    λ i. one i ∷ more i

pub own_twin : (d : ModuleData) → IsForm d → IsNumbered d → numbered d ≡ d
own_twin d h g = let fs = functions_kept 0 0 0 d.functions (forms d h) (counts_of d g) in λ i. record d { functions = fs i }
