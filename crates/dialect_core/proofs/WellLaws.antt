-- A function of the form is well-formed and narrow.
use Rattle.std.proofs.Common.{false, List, All, length, slice_get, ap, sym, ◌∙◌, arith}
use Rattle.std.proofs.lemmas.Option.{same_Some}
use Rattle.support.proofs.ListLaws.{all_from}
use Rattle.kinds.specs.Types.{TypeTree, types_list, params_of}
use Rattle.kinds.specs.Held.{IsFirstClass, IsHeld}
use Rattle.kinds.proofs.HeldLaws.{held_first_class, held_result_returned}
use Rattle.dialect_core.specs.Data.{DialectBlock, Func, value_type}
use Rattle.dialect_core.specs.Form.{IsFormOp, IsFormBlock, IsFormFunc}
use Rattle.dialect_core.specs.WellFormed.{IsWellFormedOp, IsWellFormedBlock, IsWellFormedFunc, IsNarrowOp, IsNarrowBlock, IsNarrowFunc, suits, suits_body}
use Rattle.dialect_core.proofs.LineLemmas.{all_at}

-- ---- types

all_first_class : (ts : List TypeTree) → All IsHeld ts → All IsFirstClass ts
all_first_class ts h = all_from IsFirstClass ts (λ k t at. held_first_class t (all_at IsHeld ts h k t at))

-- ---- operations

well_block : (g : Func) (b : DialectBlock) → IsFormBlock g b → IsWellFormedBlock (value_type g) g b
well_block g b f = record {
  args = all_first_class b.args f.args;
  ops = all_from (IsWellFormedOp (value_type g) g) b.ops (λ k o at. (all_at (IsFormOp g) b.ops f.ops k o at).kind);
  ends = f.ends;
}

-- ---- functions

-- a function of the form is well-formed, its values being its own
pub form_is_well_formed : (g : Func) → IsFormFunc g → IsWellFormedFunc (value_type g) g
form_is_well_formed g f = record {
  named = f.named;
  llvm_named = f.llvm_named;
  linkage = ap (λ (bs : List DialectBlock). suits bs g.linkage) f.body ∙ ap suits_body f.linkage;
  signature = record { result = f.result; params = f.types; variadic = false; is = f.type; returns = held_result_returned f.result f.returns; takes = all_first_class (types_list f.types) f.takes; shallow = f.shallow };
  params = λ b at. ap (λ (d : DialectBlock). d.args) (sym (same_Some f.entry b (ap (λ (bs : List DialectBlock). slice_get bs 0) (sym f.body) ∙ at))) ∙ f.params ∙ ap params_of (sym f.type);
  blocks = all_from (IsWellFormedBlock (value_type g) g) g.blocks (λ k b at. well_block g b (all_at (IsFormBlock g) g.blocks f.blocks k b at));
  block_numbers = f.block_numbers;
  numbers = f.numbers;
}

-- ---- narrowness

narrow_block : (g : Func) (b : DialectBlock) → IsFormBlock g b → IsNarrowBlock b
narrow_block g b f = record {
  args = f.args;
  ops = all_from IsNarrowOp b.ops (λ k o at. let h = all_at (IsFormOp g) b.ops f.ops k o at in (h.result, h.short));
}

-- a function of the form is narrow
pub form_is_narrow : (g : Func) → IsFormFunc g → IsNarrowFunc g
form_is_narrow g f = record {
  good = f.good;
  linkage = f.linkage;
  signature = record { result = f.result; params = f.types; is = f.type; returns = f.returns; takes = f.takes; shallow = f.shallow };
  blocks = all_from IsNarrowBlock g.blocks (λ k b at. narrow_block g b (all_at (IsFormBlock g) g.blocks f.blocks k b at));
  body = λ none. let few = ap length (sym f.body ∙ none) in absurd (omega (arith, few));
}
