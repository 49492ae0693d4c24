-- One block more.
use Rattle.std.proofs.Common.{◌≡◌, ◌+◌, ℕ, suc, length, sym, subst, arith, ⊎_elim}
use Rattle.std.proofs.lemmas.Bool.{cases_eq}
use Rattle.std.proofs.lemmas.Option.{same_Some, slice_get_within}
use Rattle.kinds.specs.Names.{IsGoodOrNone}
use Rattle.dialect_core.specs.Data.{DialectBlock}
use Rattle.std.proofs.Common.{slice_get, ap, ◌∙◌}
use Rattle.to_llvm_ir.specs.Exported.{block_name}
use Rattle.to_llvm_ir.specs.Opening.{IsOpening}
use Rattle.to_llvm_ir.proofs.OpeningLaws.{block_there, function_there}
use Rattle.to_llvm_ir.proofs.opening.append_blocks.Goals as goal

pub append_block-requires-clause-there : goal.append_block-requires-clause-there
append_block-requires-clause-there c =
    let h = c.requires.there in
    function_there h.0 c.loop-i.i c.args.f h.1 c.loop-i.blocks c.loop-i.back (c.loop-i.invariant.ok h.0 h.1 h.2 h.3)

pub loop-i-preserved : goal.loop-i-preserved
loop-i-preserved c = record {
  ok = λ t ty are declared.
      let one : c.loop-i.i + 1 ≡ suc c.loop-i.i = omega arith in
      let b = block_there c.args.ctx.now t c.args.list.now c.loop-i.i _ are c.loop-i-test.true in
      subst (λ (i : ℕ). IsOpening t i c.args.f ty c.append_block.new.blocks c.append_block.new.back) (sym one) (c.in_ok-append_block.ensures.ok t ty b.0 b.1 (c.loop-i.invariant.ok t ty are declared));
  labelled = λ t are j d lt at.
      ⊎_elim
      (λ same.
      let b = block_there c.args.ctx.now t c.args.list.now c.loop-i.i _ are c.loop-i-test.true in
      let e : b.0 ≡ d = same_Some b.0 d (sym b.1.here ∙ ap (slice_get t.source.blocks) (sym same) ∙ at) in
      subst (λ (x : DialectBlock). IsGoodOrNone (block_name x.label j)) e (subst (λ (i : ℕ). IsGoodOrNone (block_name b.0.label i)) (sym same) (c.in_ok-append_block.ensures.labelled t b.0 b.1)))
      (λ differs. c.loop-i.invariant.labelled t are j d (omega (arith, lt, differs)) at)
      (cases_eq j c.loop-i.i);
}

pub returns-clause-ok : goal.returns-clause-ok
returns-clause-ok c = λ t ty are declared.
    let end : c.loop-i.i ≡ length t.source.blocks = let e = c.loop-i-test.false in let f = c.loop-i.auto.i-end in let k = are.count in omega (arith, e, f, k) in
    subst (λ (i : ℕ). IsOpening t i c.args.f ty c.loop-i.blocks c.loop-i.back) end (c.loop-i.invariant.ok t ty are declared)

pub returns-clause-labelled : goal.returns-clause-labelled
returns-clause-labelled c = λ t are j d at.
    let lt = slice_get_within t.source.blocks j d at in
    let e = c.loop-i-test.false in
    let k = are.count in
    c.loop-i.invariant.labelled t are j d (omega (arith, lt, e, k)) at
