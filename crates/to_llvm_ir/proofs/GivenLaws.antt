-- What is made depends only on the entries that each phi is given.
use Rattle.std.proofs.Common.{◌≡◌, ◌+◌, ℕ, zero, suc, List, [], ◌∷◌, ◌++◌, length, refl, ap, ◌∙◌}
use Rattle.llvm_core.specs.Module.{Module}
use Rattle.llvm_core.specs.Data as L
use Rattle.llvm_core.specs.Data.{Operand, Placed, Block, with_function}
use Rattle.dialect_types.specs.Trees.{TypeTree}
use Rattle.dialect_core.specs.declared.ops.Value.{Value}
use Rattle.dialect_core.specs.declared.ops.Value.TheVariants.{Argument}
use Rattle.dialect_core.specs.Data.{DialectBlock, Func}
use Rattle.to_llvm_ir.specs.declared.values.Values.{Values}
use Rattle.to_llvm_ir.specs.Exported.{value_name}
use Rattle.to_llvm_ir.specs.Made.{Numbers, number_of, phis, block_phis, block_made, blocks_made, insts, function_with, number_behind}
use Rattle.to_llvm_ir.specs.Links.{Given}
use Rattle.to_llvm_ir.specs.States.{Task, IsLinking}
use Rattle.std.specs.Prelude.{None}

module _ (g : Func) (n : Numbers) (given given' : Given) (same : (v : Value) → given v ≡ given' v) where
  phis_same : (b i k : ℕ) (ts : List TypeTree) → phis g n given b i k ts ≡ phis g n given' b i k ts
  phis_same b i k [] = refl
  phis_same b i k (t ∷ ts) =
      let v = Argument (record { 0 = b }) i in
      ap (λ (es : List (Operand × ℕ)). (let p : Placed = record { number = number_of g n v; name = value_name None k; type = t; instruction = L.Phi es } in p) ∷ phis g n given b (suc i) (k + 1) ts) (same v)
      ∙ ap (λ (ps : List Placed). (let p : Placed = record { number = number_of g n v; name = value_name None k; type = t; instruction = L.Phi (given' v) } in p) ∷ ps) (phis_same b (suc i) (k + 1) ts)

  block_phis_same : (p k : ℕ) (c : DialectBlock) → block_phis g n given p k c ≡ block_phis g n given' p k c
  block_phis_same zero k c = refl
  block_phis_same (suc p) k c = phis_same c.number 0 k c.args

  block_same : (p k : ℕ) (c : DialectBlock) → block_made g n given p k c ≡ block_made g n given' p k c
  block_same p k c = ap (λ (ps : List Placed). let b : Block = record (block_made g n given p k c) { instructions = ps ++ insts g n (k + length c.args) c.ops } in b) (block_phis_same p k c)

  pub blocks_same : (p k : ℕ) (cs : List DialectBlock) → blocks_made g n given p k cs ≡ blocks_made g n given' p k cs
  blocks_same p k [] = refl
  blocks_same p k (c ∷ cs) =
      let next = number_behind (k + length c.args) c.ops in
      ap (λ (b : Block). b ∷ blocks_made g n given (suc p) next cs) (block_same p k c) ∙ ap (λ (bs : List Block). block_made g n given' p k c ∷ bs) (blocks_same (suc p) next cs)

pub linking_same : (t : Task) (given given' : Given) → ((v : Value) → given v ≡ given' v) → (values : Values) (m : Module) → IsLinking t given values m → IsLinking t given' values m
linking_same t given given' same values m s = record {
  is = s.is ∙ ap (λ (bs : List Block). with_function t.before (function_with t.source t.numbers bs)) (blocks_same t.source t.numbers given given' same 0 0 t.source.blocks);
  sound = s.sound;
  block_count = s.block_count;
  inst_count = s.inst_count;
  next = s.next;
  known = s.known;
}
