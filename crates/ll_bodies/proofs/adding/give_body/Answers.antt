-- What `adding::give_body` owes besides what the check finds.
use Rattle.std.proofs.Common.{◌≡◌, ◌+◌, ℕ, length, ap, sym, ◌∙◌, subst}
use Rattle.std.specs.Option.{option_map}
use Rattle.std.proofs.lemmas.Option.{slice_get_within}
use Rattle.llvm_core.specs.Data.{trees_of}
use Rattle.llvm_core.specs.Bodies.{blocks_from, body_data}
use Rattle.llvm_core.proofs.DataLemmas.{int_tree_of, void_tree_of}
use Rattle.ll_lines.specs.Views.{text_of}
use Rattle.ll_literals.specs.Names.{symbol_name}
use Rattle.ll_bodies.specs.AddingViews.{function_with, data_over}
use Rattle.llvm_core.specs.Module.{Module}
use Rattle.llvm_core.proofs.BodyTypes.{blocks_after, insts_after}
use Rattle.ll_bodies.proofs.JoinLaws.{block_total, inst_total}
use Rattle.ll_bodies.proofs.adding.give_body.Goals as goal

pub body_of-requires-clause-source : goal.body_of-requires-clause-source
body_of-requires-clause-source c =
    let m = c.args.module.now in
    let s = c.requires.sound in
    record {
      sound = s;
      made = c.requires.made;
      bit = int_tree_of m c.args.types.now.bit 1 s c.requires.needed.is_bit;
      bit_there = slice_get_within m.types c.args.types.now.bit.0 _ c.requires.needed.is_bit;
      void = void_tree_of m c.args.types.now.void s c.requires.needed.is_void;
      void_there = slice_get_within m.types c.args.types.now.void.0 _ c.requires.needed.is_void;
      vectors = c.requires.needed.vectors;
    }

pub add_body-requires-clause-function : goal.add_body-requires-clause-function
add_body-requires-clause-function c = slice_get_within c.args.module.now.functions c.args.f.0 _ c.requires.next.there

pub returns-clause-ok : goal.returns-clause-ok
returns-clause-ok c =
    let m = c.args.module.now in
    let t = trees_of m in
    let f = c.args.f.0 in
    let x = c.args.said.now in
    let bytes = c.args.shared.now.bytes.now in
    let lines = c.args.shared.now.table.now in
    let body = c.in_ok-body.body in
    record {
      blocks = body_data m body;
      is = subst (λ (k : ℕ). data_over bytes lines m f k (length m.insts) x ≡ option_map (λ name. function_with bytes t f name x (blocks_from t k (length m.insts) body)) (symbol_name (text_of bytes x.name))) c.block_count-first_block.ensures
          (subst (λ (k : ℕ). data_over bytes lines m f c.block_count-first_block.result k x ≡ option_map (λ name. function_with bytes t f name x (blocks_from t c.block_count-first_block.result k body)) (symbol_name (text_of bytes x.name))) c.inst_count-first.ensures c.in_ok-body.ensures.ok);
      given = c.in_ok-add_body.ensures.data;
      types = ap (λ (k : Module). k.types) c.in_ok-add_body.ensures.ok;
      consts = ap (λ (k : Module). k.consts) c.in_ok-add_body.ensures.ok;
      block_count = ap (λ (k : Module). length k.blocks) c.in_ok-add_body.ensures.ok ∙ blocks_after m c.args.f body ∙ ap (λ (k : ℕ). length m.blocks + k) (sym (block_total t (length m.blocks) (length m.insts) body));
      inst_count = ap (λ (k : Module). length k.insts) c.in_ok-add_body.ensures.ok ∙ insts_after m c.args.f body ∙ ap (λ (k : ℕ). length m.insts + k) (sym (inst_total t (length m.blocks) (length m.insts) body));
    }
