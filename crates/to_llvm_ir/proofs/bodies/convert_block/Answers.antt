-- First the arguments of the block, then its operations.
use Rattle.std.proofs.Common.{◌<◌, ◌∙◌, All, List, length, refl, sym, subst, ap, arith}
use Rattle.std.proofs.lemmas.Result.{on_ok_weaker}
use Rattle.llvm_core.specs.Module.{Module}
use Rattle.dialect_core.specs.declared.numbers.OpRef.{OpRef}
use Rattle.dialect_core.specs.Data.{DialectBlock}
use Rattle.to_llvm_ir.specs.declared.values.Values.{Values}
use Rattle.to_llvm_ir.specs.Bodies.{IsBlockBegun}
use Rattle.to_llvm_ir.specs.States.{Task, IsAtOp, IsBegun}
use Rattle.to_llvm_ir.proofs.ArgumentLaws.{args_count}
use Rattle.to_llvm_ir.proofs.BodyLaws.{listed, target_there, target_here, after_params, phis_begun, after_phis, end_block, fewer_ops}
use Rattle.to_llvm_ir.proofs.bodies.convert_block.Goals.{then-place-eq0+in_ok-set_params, else-place-eq0+in_ok-add_phis}
use Rattle.to_llvm_ir.proofs.bodies.convert_block.Goals as goal

pub target_of-target-requires : goal.target_of-target-requires
target_of-target-requires c =
    let b = c.requires.begun in
    target_there c.args.ctx.now b.0 c.args.place b.1 c.args.block c.args.blocks.now b.2.at b.2.mapped

pub add_phis-requires-clause-begun : goal.add_phis-requires-clause-begun
add_phis-requires-clause-begun c =
    let b = c.requires.begun in
    let p = phis_begun c.args.ctx.now b.0 c.args.place b.1 c.args.block c.args.first c.args.f c.args.blocks.now c.target_of-target.result c.args.values.now (record c.args.values.now { next = c.args.first }) c.args.back.now b.2 refl c.if-place-eq0.false c.target_of-target.ensures in
    (b.0, p.0, b.1, p.2, p.3, p.4)

-- the arguments are done
begun_ops : (c : goal.After-convert_ops-arg-4-1) (t : Task) (b : DialectBlock) → IsBlockBegun c.args.ctx.now t c.args.place b c.args.block c.args.first c.args.f c.args.blocks.now c.args.values.now c.args.back.now → IsBegun c.args.ctx.now t c.args.place b c.as_slice.result.now c.args.blocks.now c.target_of-target.result.block c.if-place-eq0.values c.if-place-eq0.back
begun_ops c t b begun =
    let place = target_here c.args.ctx.now t c.args.place b c.args.block c.args.blocks.now c.target_of-target.result begun.at begun.mapped c.target_of-target.ensures in
    let count = args_count c.args.ctx.now t c.args.place b c.args.block c.block_args-count.result.now begun.at c.block_args-count.ensures in
    record {
      listed = listed c.args.ctx.now t c.args.place b c.args.block c.as_slice.result.now begun.at (c.as_slice.ensures.value ∙ c.in_ok-read_ops.ensures.ops);
      mapped = begun.mapped;
      here = place.1;
      state = elim c.if-place-eq0.branch [
        | then-place-eq0+in_ok-set_params w ↦
            subst (λ (v : Values). IsAtOp t c.args.place b 0 v c.if-place-eq0.back) (sym w.values-is) (subst (λ (m : Module). IsAtOp t c.args.place b 0 w.set_params.new.values m) (sym w.back-is)
            (after_params c.args.ctx.now t c.args.place b c.args.block c.args.first c.args.f c.args.blocks.now c.args.values.now (record c.args.values.now { next = c.args.first }) w.set_params.new.values c.args.back.now begun refl w.if-place-eq0.true
            (λ at params start. w.in_ok-set_params.ensures c.args.ctx.now t b c.args.back.now at params count start)))
        | else-place-eq0+in_ok-add_phis w ↦
            let p = phis_begun c.args.ctx.now t c.args.place b c.args.block c.args.first c.args.f c.args.blocks.now c.target_of-target.result c.args.values.now (record c.args.values.now { next = c.args.first }) c.args.back.now begun refl w.if-place-eq0.false c.target_of-target.ensures in
            subst (λ (v : Values). IsAtOp t c.args.place b 0 v c.if-place-eq0.back) (sym w.values-is) (subst (λ (m : Module). IsAtOp t c.args.place b 0 w.add_phis.new.values m) (sym w.back-is)
            (after_phis t c.args.place p.0 b w.add_phis.new.values w.add_phis.new.back p.1 (w.in_ok-add_phis.ensures t p.0 b p.2 p.3 p.4)))
      ];
    }

pub convert_ops-requires-clause-within : goal.convert_ops-requires-clause-within
convert_ops-requires-clause-within c = subst (All (λ (o : OpRef). o.0 < length c.args.ctx.now.ops)) (sym c.as_slice.ensures.value) c.in_ok-read_ops.ensures.within

pub convert_ops-requires-clause-begun : goal.convert_ops-requires-clause-begun
convert_ops-requires-clause-begun c =
    let b = c.requires.begun in
    (b.0, c.args.place, b.1, begun_ops c b.0 b.1 b.2)

pub returns-clause-cause : goal.returns-clause-cause
returns-clause-cause c = λ t b begun. c.convert_ops.ensures.cause t c.args.place b (begun_ops c.before t b begun)

pub returns-clause-ok : goal.returns-clause-ok
returns-clause-ok c = λ t b begun.
    on_ok_weaker c.convert_ops.result (end_block c.args.ctx.now t begun.at.task c.args.place b begun.at.here c.convert_ops.new.values c.convert_ops.new.back) (c.convert_ops.ensures.ok t c.args.place b (begun_ops c.before t b begun))

pub returns-clause-accepted : goal.returns-clause-accepted
returns-clause-accepted c = λ t b begun.
    let count = args_count c.args.ctx.now t c.args.place b c.args.block c.block_args-count.result.now begun.at c.block_args-count.ensures in
    let list = listed c.args.ctx.now t c.args.place b c.args.block c.as_slice.result.now begun.at (c.as_slice.ensures.value ∙ c.in_ok-read_ops.ensures.ops) in
    let fewer = fewer_ops c.args.ctx.now t c.args.place b c.as_slice.result.now list in
    on_ok_weaker c.convert_ops.result
    (λ accepted. record {
      args = let few = c.in_ok-check_few.ensures in omega (arith, few, count);
      few = let few = c.in_ok-check_few-2.ensures in let same = c.len.ensures in let len = ap (λ (os : List OpRef). length os) (c.as_slice.ensures.value) in omega (arith, few, fewer, same, len);
      ops = accepted;
    })
    (c.convert_ops.ensures.accepted t c.args.place b (begun_ops c.before t b begun))
