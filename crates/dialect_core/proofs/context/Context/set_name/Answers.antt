-- What `context::Context::set_name` owes besides what the check finds.
use Rattle.dialect_core.proofs.ContextLemmas.{context, set_op_kept, op_within, named_view}
use Rattle.std.proofs.Common.{Some, sym, subst, ap, refl, ◌∙◌}
use Rattle.std.proofs.lemmas.Option.{slice_get-get_or}
use Rattle.dialect_core.specs.Data.{data_of, IsTyped}
use Rattle.dialect_core.specs.ContextData.{ContextData, region_at, holder_at}
use Rattle.dialect_core.proofs.RegionLemmas.{same_regions, set_region}
use Rattle.dialect_core.proofs.DataLemmas.{named_data}
use Rattle.dialect_core.proofs.TypedLemmas.{name_typed}
use Rattle.dialect_core.proofs.context.Context.set_name.Goals as goal

pub invariant_of-self : goal.invariant_of-self
invariant_of-self c =
    let there = rw (← c.self.view_is) at c.requires in
    let within = op_within c.self.inside.ops.items c.self.inside.blocks.items c.self.inside.lists.parents c.self.inside.lists.lists c.args.op.0 c.index_mut.result.now c.self.invariant.numbers there c.index_mut.ensures.value in
    let at = slice_get-get_or c.self.inside.ops.items c.args.op.0 c.index_mut.result.now there ∙ ap Some (sym c.index_mut.ensures.value) in
    record {
      numbers = set_op_kept c.self.inside.ops.items c.self.inside.blocks.items c.self.inside.lists.parents c.self.inside.lists.lists c.args.op.0 _ c.self.invariant.numbers
          (record { operands = within.operands; successors = within.successors; blocks = within.blocks; symbol = within.symbol });
      regions = same_regions (region_at c.self.inside.ops.items) _ (holder_at c.self.inside.blocks.items) _ (λ o. set_region c.self.inside.ops.items _ c.index_mut.result.now c.args.op.0 o at refl) (λ b. refl) c.self.invariant.regions;
    }

pub returns-clause-ok : goal.returns-clause-ok
returns-clause-ok c =
    let there = rw (← c.self.view_is) at c.requires in
    rw (← c.self.view_is)
    (named_view c.self.inside.types c.self.inside.ops.items c.self.inside.blocks.items c.self.inside.lists.parents c.self.inside.lists.lists c.args.op c.args.name c.index_mut.result.now there c.index_mut.ensures.value)

pub returns-clause-data : goal.returns-clause-data
returns-clause-data c =
    let there = rw (← c.self.view_is) at c.requires in
    let viewed = named_view c.self.inside.types c.self.inside.ops.items c.self.inside.blocks.items c.self.inside.lists.parents c.self.inside.lists.lists c.args.op c.args.name c.index_mut.result.now there c.index_mut.ensures.value in
    rw (← c.self.view_is) (λ free m apart. ap (λ (d : ContextData). data_of d m) viewed ∙ named_data (context c.self.inside.types c.self.inside.ops.items c.self.inside.blocks.items c.self.inside.lists.parents c.self.inside.lists.lists) c.args.op c.args.name m c.self.invariant.numbers free apart)

pub returns-clause-typed : goal.returns-clause-typed
returns-clause-typed c =
    let there = rw (← c.self.view_is) at c.requires in
    let viewed = named_view c.self.inside.types c.self.inside.ops.items c.self.inside.blocks.items c.self.inside.lists.parents c.self.inside.lists.lists c.args.op c.args.name c.index_mut.result.now there c.index_mut.ensures.value in
    rw (← c.self.view_is) (λ typed. subst IsTyped (sym viewed) (name_typed (context c.self.inside.types c.self.inside.ops.items c.self.inside.blocks.items c.self.inside.lists.parents c.self.inside.lists.lists) c.args.op c.args.name typed))
