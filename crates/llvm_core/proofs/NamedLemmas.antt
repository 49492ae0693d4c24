-- A module with another name is as sound.
use Rattle.std.proofs.Common.{ℕ, List, arith}
use Rattle.llvm_core.specs.Module.{Module}
use Rattle.llvm_core.specs.Sound.{IsModule}
use Rattle.llvm_core.proofs.ListedLemmas.{same_keeps}
use Rattle.llvm_core.proofs.SoundLemmas.{same_types}
use Rattle.llvm_core.proofs.GrowLemmas.{blocks_of, insts_of, function_type, inst_type, Grows, function_kept, block_kept, inst_kept, listed_block_kept, listed_inst_kept}

same_but_named : (m : Module) (name : List ℕ) → Grows m (record m { name = name })
same_but_named m name = record {
  types = λ i k e. e;
  consts = λ i k e. e;
  structs = λ i x e. e;
  function_types = same_types function_type m.functions;
  inst_types = same_types inst_type m.insts;
  type_count = omega arith;
  const_count = omega arith;
  function_count = omega arith;
  block_count = omega arith;
  inst_count = omega arith;
  params = λ f. omega arith;
  block_lists = same_keeps blocks_of m.functions;
  inst_lists = same_keeps insts_of m.blocks;
}

pub named : (m : Module) (name : List ℕ) → IsModule m → IsModule (record m { name = name })
named m name s =
    let g = same_but_named m name in
    record {
      types = s.types;
      types_fit = s.types_fit;
      types_once = s.types_once;
      consts = s.consts;
      consts_below = s.consts_below;
      consts_once = s.consts_once;
      structs = s.structs;
      functions = λ f x e. function_kept m _ g x (s.functions f x e);
      blocks = λ b x e. block_kept m _ g x (s.blocks b x e);
      insts = λ i x e. inst_kept m _ g s x (s.insts i x e);
      listed_blocks = λ b y e. listed_block_kept m _ g b y (s.listed_blocks b y e);
      listed_insts = λ i z e. listed_inst_kept m _ g i z (s.listed_insts i z e);
      owned_blocks = s.owned_blocks;
      owned_insts = s.owned_insts;
    }
