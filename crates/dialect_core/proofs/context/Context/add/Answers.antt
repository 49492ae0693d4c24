-- What `context::Context::add` owes besides what the check finds.
use Rattle.dialect_core.proofs.ContextLemmas.{context, new_free, add_op_kept, op_view}
use Rattle.std.proofs.Common.{sym, subst, ap, refl, length, ◌∙◌}
use Rattle.support.proofs.ResultLaws.{on_err}
use Rattle.dialect_core.specs.Data.{data_of, IsTyped}
use Rattle.dialect_core.specs.ContextData.{ContextData, region_at, holder_at}
use Rattle.dialect_core.proofs.RegionLemmas.{same_regions, push_region}
use Rattle.dialect_core.proofs.DataLemmas.{new_op_data}
use Rattle.dialect_core.proofs.TypedLemmas.{op_typed}
use Rattle.dialect_core.proofs.context.Context.add.Goals as goal

pub invariant_of-self-2 : goal.invariant_of-self-2
invariant_of-self-2 c =
    let new = rw (← c.self.view_is) at c.requires.within in
    rw (c.in-Ok.ensures.items, c.in_ok-reserve.ensures.items, c.in_ok-op.ensures.ok)
    (record {
      numbers = add_op_kept c.self.inside.ops.items c.self.inside.blocks.items c.self.inside.lists.parents c.self.inside.lists.lists c.args.op_data c.self.invariant.numbers new;
      regions = same_regions (region_at c.self.inside.ops.items) _ (holder_at c.self.inside.blocks.items) _ (λ o. push_region c.self.inside.ops.items c.args.op_data o c.requires.no_region) (λ b. refl) c.self.invariant.regions;
    })

pub returns-clause-data : goal.returns-clause-data
returns-clause-data c =
    let viewed = op_view c.self.inside.types c.self.inside.ops.items _ c.push.new.self.items c.self.inside.blocks.items c.self.inside.lists c.add_op.new.self c.args.op_data c.in_ok-reserve.ensures.items c.in-Ok.ensures.items c.in_ok-op.ensures.ok in
    rw (← c.self.view_is) (λ m there. ap (λ (d : ContextData). data_of d m) viewed ∙ new_op_data (context c.self.inside.types c.self.inside.ops.items c.self.inside.blocks.items c.self.inside.lists.parents c.self.inside.lists.lists) c.args.op_data m c.self.invariant.numbers there)

pub returns-clause-typed : goal.returns-clause-typed
returns-clause-typed c =
    let viewed = op_view c.self.inside.types c.self.inside.ops.items _ c.push.new.self.items c.self.inside.blocks.items c.self.inside.lists c.add_op.new.self c.args.op_data c.in_ok-reserve.ensures.items c.in-Ok.ensures.items c.in_ok-op.ensures.ok in
    rw (← c.self.view_is) (λ typed new. subst IsTyped (sym viewed) (op_typed (context c.self.inside.types c.self.inside.ops.items c.self.inside.blocks.items c.self.inside.lists.parents c.self.inside.lists.lists) c.args.op_data typed new))

pub returns-clause-free : goal.returns-clause-free
returns-clause-free c =
    rw c.in_ok-op.ensures.ok (new_free c.self.inside.lists.parents (length c.self.inside.lists.parents) c.in_ok-op.op.0 refl c.in_ok-op.ensures.number)

pub invariant_of-self : goal.invariant_of-self
invariant_of-self c = rw c.reserve.ensures.items c.self.invariant

pub invariant_of-self-in_err-op : goal.invariant_of-self-in_err-op
invariant_of-self-in_err-op c = rw (c.in_ok-reserve.ensures.items, c.in_err-op.ensures.err) c.self.invariant

pub returns-clause-ok : goal.returns-clause-ok
returns-clause-ok c =
    rw (← c.self.view_is)
    (op_view c.self.inside.types c.self.inside.ops.items _ c.push.new.self.items c.self.inside.blocks.items c.self.inside.lists c.add_op.new.self c.args.op_data c.in_ok-reserve.ensures.items c.in-Ok.ensures.items c.in_ok-op.ensures.ok)

pub returns-clause-number : goal.returns-clause-number
returns-clause-number c = rw (← c.self.view_is) (c.in_ok-op.ensures.number ∙ c.self.invariant.numbers.parent_each)

pub returns-in_err-reserve-clause-err : goal.returns-in_err-reserve-clause-err
returns-in_err-reserve-clause-err c = rw (← c.self.view_is, c.reserve.ensures.items) (on_err c.from_residual.result refl)

pub returns-in_err-op-clause-err : goal.returns-in_err-op-clause-err
returns-in_err-op-clause-err c = rw (← c.self.view_is, c.in_ok-reserve.ensures.items, c.in_err-op.ensures.err) (on_err c.from_residual-in_err-op.result refl)
