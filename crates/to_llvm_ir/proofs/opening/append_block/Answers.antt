-- The block is the last of the function, under its name.
use Rattle.std.proofs.Common.{◌≡◌, ◌∙◌, ℕ, List, Option, sym, ap, subst}
use Rattle.std.proofs.lemmas.Result.{on_ok_weaker}
use Rattle.kinds.specs.Names.{IsGoodOrNone}
use Rattle.to_llvm_ir.specs.Exported.{block_name}
use Rattle.to_llvm_ir.proofs.ContextLaws.{block_parts, label_is}
use Rattle.to_llvm_ir.proofs.OpeningLaws.{opening_more}
use Rattle.to_llvm_ir.proofs.opening.append_block.Goals as goal

pub returns-clause-ok : goal.returns-clause-ok
returns-clause-ok c = λ t ty b at start.
    let parts = block_parts c.args.ctx.now c.args.block b at.is in
    let label = label_is c.args.ctx.now c.args.block b _ parts c.block_label.ensures in
    let built = c.in_ok-target.ensures in
    let name : c.as_str.result.now ≡ block_name b.label c.in_ok-place.place = c.as_str.ensures ∙ c.in_ok-name.ensures.name ∙ ap (λ (l : Option (List ℕ)). block_name l c.in_ok-place.place) (sym label) in
    on_ok_weaker c.set.result
    (opening_more c.args.ctx.now t c.args.i b c.args.block c.args.f ty c.args.blocks.now c.set.new.self c.args.back.now c.append_block.new.self c.in_ok-target.target c.in_ok-place.place c.as_str.result.now at start c.in_ok-place.ensures name built.number built.ok built.data built.sound)
    c.set.ensures

pub returns-clause-labelled : goal.returns-clause-labelled
returns-clause-labelled c = λ t b at.
    let parts = block_parts c.args.ctx.now c.args.block b at.is in
    let label = label_is c.args.ctx.now c.args.block b _ parts c.block_label.ensures in
    on_ok_weaker c.set.result (λ set. subst (λ (l : Option (List ℕ)). IsGoodOrNone (block_name l c.args.i)) (sym label) (c.block_name.ensures.good c.args.i c.ranges.i.fits)) c.set.ensures
