-- One operation more.
use Rattle.std.proofs.Common.{◌<◌, length}
use Rattle.std.proofs.lemmas.List.Elements.{All-nil, All-push}
use Rattle.dialect_core.specs.declared.numbers.OpRef.{OpRef}
use Rattle.dialect_core.specs.Lists.{list_at}
use Rattle.dialect_core.proofs.WalkLemmas.{walked_none, walked_more, walked_all, walked_less}
use Rattle.to_llvm_ir.proofs.listing.read_ops.Goals as goal

pub loop-next-init : goal.loop-next-init
loop-next-init c = record {
  walked = rw c.clear.ensures.items (walked_none (list_at c.args.ctx.now.lists c.args.block) c.first_op-next.result c.first_op-next.ensures.first);
  within = c.first_op-next.ensures.within;
  each = rw c.clear.ensures.items (All-nil (λ (o : OpRef). o.0 < length c.args.ctx.now.ops));
}

pub loop-next-preserved : goal.loop-next-preserved
loop-next-preserved c =
    let walked = rw c.in-Some.is at c.loop-next.invariant.walked in
    let within = rw c.in-Some.is at c.loop-next.invariant.within in
    record {
      walked = rw c.in_ok-push.ensures.items
          (walked_more (record { parents = c.args.ctx.now.parents; lists = c.args.ctx.now.lists }) c.args.block c.loop-next.ops.items c.in-Some.op c.next_op-next.result c.first_op-next.ensures.apart c.first_op-next.ensures.standing walked c.next_op-next.ensures.next);
      within = c.next_op-next.ensures.within;
      each = rw c.in_ok-push.ensures.items (All-push (λ (o : OpRef). o.0 < length c.args.ctx.now.ops) c.loop-next.ops.items c.in-Some.op c.loop-next.invariant.each within);
    }

pub loop-next-smaller : goal.loop-next-smaller
loop-next-smaller c = walked_less (list_at c.args.ctx.now.lists c.args.block) c.loop-next.ops.items c.push.new.self.items c.in-Some.op (rw c.in-Some.is at c.loop-next.invariant.walked) c.in_ok-push.ensures.items

pub returns-clause-ops : goal.returns-clause-ops
returns-clause-ops c = walked_all (list_at c.args.ctx.now.lists c.args.block) c.loop-next.ops.items (rw c.in_default.is at c.loop-next.invariant.walked)
