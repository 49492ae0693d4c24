-- Functions that differ in numbers alone have the same names and lists of the same lengths.
use Rattle.std.proofs.Common.{◌≡◌, ◌<◌, ◌^◌, ℕ, List, length, ap, sym, ◌∙◌, arith}
use Rattle.std.specs.List.{flat_map}
use Rattle.std.proofs.lemmas.List.{length-map}
use Rattle.llvm_core.specs.Checked.{named}
use Rattle.llvm_core.specs.Data as L
use Rattle.llvm_core.specs.Data.{Operand, Instruction, Phi, Applied, Placed, Block, placed_in}
use Rattle.llvm_core.specs.Form.{names_in, local_names, operands_of, IsFewIn}
use Rattle.ll_said.proofs.PairLaws.{OperandsAlike, EntriesAlike, CodeAlike, PlacedAlike, BlocksAlike, FunctionsAlike, placed_alike}
use Rattle.ll_said.proofs.ZipLaws.{zip_length}
use Rattle.ll_said.proofs.AlikeSaid.{flat_same}
use Rattle.ll_said.proofs.AlikeForm.{each_alike}

module _ (g h : L.Function) (alike : FunctionsAlike g h) where
  names_alike : (c d : Block) → BlocksAlike g h c d → names_in c ≡ names_in d
  names_alike c d pair =
      let label = ap named pair.name in
      let results = flat_same (PlacedAlike g h) (λ (p : Placed). named p.name) (λ (p : Placed). named p.name) (λ p q x. ap named x.name) c.instructions d.instructions pair.instructions in
      cc (label, results)

  pub locals_alike : local_names g ≡ local_names h
  locals_alike =
      let params = ap (λ (ns : List (List ℕ)). flat_map named ns) alike.params in
      let blocks = flat_same (BlocksAlike g h) names_in names_in names_alike g.blocks h.blocks alike.blocks in
      cc (params, blocks)

  operands_count : (x y : Instruction) → CodeAlike g h x y → length (operands_of x) ≡ length (operands_of y)
  operands_count (Phi es) (Phi ds) p = length-map es (λ (e : Operand × ℕ). e.0) ∙ zip_length (EntriesAlike g h) es ds p ∙ sym (length-map ds (λ (e : Operand × ℕ). e.0))
  operands_count (Applied r) (Applied s) p = zip_length (OperandsAlike g h) r.operands s.operands p.operands
  operands_count (Phi es) (Applied s) p = elim p [ ]
  operands_count (Applied r) (Phi ds) p = elim p [ ]

  few_operands : (p q : Placed) → PlacedAlike g h p q → length (operands_of p.instruction) < 2 ^ 31 → length (operands_of q.instruction) < 2 ^ 31
  few_operands p q pair few = let same = operands_count p.instruction q.instruction pair.code in omega (arith, same, few)

  few_instructions : (c d : Block) → BlocksAlike g h c d → length c.instructions < 2 ^ 31 → length d.instructions < 2 ^ 31
  few_instructions c d pair few = let same = zip_length (PlacedAlike g h) c.instructions d.instructions pair.instructions in omega (arith, same, few)

  pub few_alike : IsFewIn g → IsFewIn h
  few_alike few =
      let params = ap (λ (ns : List (List ℕ)). length ns) alike.params in
      let blocks = zip_length (BlocksAlike g h) g.blocks h.blocks alike.blocks in
      record {
        params = let before = few.params in omega (arith, before, params);
        blocks = let before = few.blocks in omega (arith, before, blocks);
        instructions = each_alike (BlocksAlike g h) (λ (b : Block). length b.instructions < 2 ^ 31) (λ (b : Block). length b.instructions < 2 ^ 31) few_instructions g.blocks h.blocks alike.blocks few.instructions;
        operands = each_alike (PlacedAlike g h) (λ (p : Placed). length (operands_of p.instruction) < 2 ^ 31) (λ (p : Placed). length (operands_of p.instruction) < 2 ^ 31) few_operands (placed_in g) (placed_in h) (placed_alike g h alike) few.operands;
      }
