-- What `context::Context::push_argument` owes besides what the check finds.
use Rattle.std.proofs.Common.{◌≡◌, ℕ, List, Some, get_or, set, length, sym, subst, ap, refl, ◌∙◌}
use Rattle.std.proofs.lemmas.List.{set-get_or}
use Rattle.dialect_types.specs.declared.types.TypeHandle.{TypeHandle}
use Rattle.std.proofs.lemmas.Option.{slice_get-get_or}
use Rattle.std.specs.Option.{option_map}
use Rattle.support.proofs.ResultLaws.{on_err}
use Rattle.dialect_core.specs.declared.ops.BlockData.{BlockData}
use Rattle.dialect_core.proofs.ContextLemmas.{context, set_block_kept, block_holder_within, argument_view}
use Rattle.dialect_core.specs.Data.{data_of, IsTyped}
use Rattle.dialect_core.specs.ContextData.{ContextData, region_at, holder_at}
use Rattle.dialect_core.proofs.RegionLemmas.{same_regions, set_holder}
use Rattle.dialect_core.proofs.ArgumentLemmas.{argument_data}
use Rattle.dialect_core.proofs.TypedLemmas.{argument_typed}
use Rattle.dialect_core.proofs.context.Context.push_argument.Goals as goal

-- a block whose arguments stayed as they were
unwritten : (blocks : List BlockData) (b : ℕ) (x : BlockData) (args : List TypeHandle) → x ≡ get_or blocks b x → args ≡ x.args → set blocks b (record x { args = args }) ≡ blocks
unwritten blocks b x args is same = ap (λ (ts : List TypeHandle). set blocks b (record x { args = ts })) same ∙ ap (λ (y : BlockData). set blocks b y) is ∙ set-get_or blocks b x

pub invariant_of-self-2 : goal.invariant_of-self-2
invariant_of-self-2 c =
    let there = rw (← c.self.view_is) at c.requires.block in
    let at = slice_get-get_or c.self.inside.blocks.items c.args.block.0 c.index_mut-data.result.now there ∙ ap Some (sym c.index_mut-data.ensures.value) in
    record {
      numbers = set_block_kept c.self.inside.ops.items c.self.inside.blocks.items c.self.inside.lists.parents c.self.inside.lists.lists c.args.block.0 _ c.self.invariant.numbers
          (block_holder_within c.self.inside.ops.items c.self.inside.blocks.items c.self.inside.lists.parents c.self.inside.lists.lists c.args.block.0 c.index_mut-data.result.now c.self.invariant.numbers there c.index_mut-data.ensures.value);
      regions = same_regions (region_at c.self.inside.ops.items) _ (holder_at c.self.inside.blocks.items) _ (λ o. refl) (λ b. set_holder c.self.inside.blocks.items _ c.index_mut-data.result.now c.args.block.0 b at refl) c.self.invariant.regions;
    }

pub returns-clause-ok : goal.returns-clause-ok
returns-clause-ok c =
    let there = rw (← c.self.view_is) at c.requires.block in
    rw (← c.self.view_is)
    (argument_view c.self.inside.types c.self.inside.ops.items c.self.inside.blocks.items c.self.inside.lists.parents c.self.inside.lists.lists c.args.block c.args.ty c.index_mut-data.result.now c.push_type.new.args there c.index_mut-data.ensures.value c.in_ok-place.ensures.ok)

pub returns-clause-place : goal.returns-clause-place
returns-clause-place c =
    let there = rw (← c.self.view_is) at c.requires.block in
    rw (← c.self.view_is)
    (ap (option_map (λ (x : BlockData). length x.args)) (slice_get-get_or c.self.inside.blocks.items c.args.block.0 c.index_mut-data.result.now there ∙ ap Some (sym c.index_mut-data.ensures.value))
    ∙ ap Some (sym c.in_ok-place.ensures.place))

pub returns-clause-data : goal.returns-clause-data
returns-clause-data c =
    let there = rw (← c.self.view_is) at c.requires.block in
    let viewed = argument_view c.self.inside.types c.self.inside.ops.items c.self.inside.blocks.items c.self.inside.lists.parents c.self.inside.lists.lists c.args.block c.args.ty c.index_mut-data.result.now c.push_type.new.args there c.index_mut-data.ensures.value c.in_ok-place.ensures.ok in
    rw (← c.self.view_is) (λ m. ap (λ (d : ContextData). data_of d m) viewed ∙ argument_data (context c.self.inside.types c.self.inside.ops.items c.self.inside.blocks.items c.self.inside.lists.parents c.self.inside.lists.lists) c.args.block c.args.ty m)

pub returns-clause-typed : goal.returns-clause-typed
returns-clause-typed c =
    let there = rw (← c.self.view_is) at c.requires.block in
    let ty = rw (← c.self.view_is) at c.requires.ty in
    let viewed = argument_view c.self.inside.types c.self.inside.ops.items c.self.inside.blocks.items c.self.inside.lists.parents c.self.inside.lists.lists c.args.block c.args.ty c.index_mut-data.result.now c.push_type.new.args there c.index_mut-data.ensures.value c.in_ok-place.ensures.ok in
    rw (← c.self.view_is) (λ typed. subst IsTyped (sym viewed) (argument_typed (context c.self.inside.types c.self.inside.ops.items c.self.inside.blocks.items c.self.inside.lists.parents c.self.inside.lists.lists) c.args.block c.args.ty typed ty))

pub invariant_of-self : goal.invariant_of-self
invariant_of-self c = rw (unwritten c.self.inside.blocks.items c.args.block.0 c.index_mut-data.result.now c.push_type.new.args c.index_mut-data.ensures.value c.in_err-place.ensures.err) c.self.invariant

pub returns-in_err-place-clause-err : goal.returns-in_err-place-clause-err
returns-in_err-place-clause-err c =
    rw (← c.self.view_is, unwritten c.self.inside.blocks.items c.args.block.0 c.index_mut-data.result.now c.push_type.new.args c.index_mut-data.ensures.value c.in_err-place.ensures.err) (on_err c.from_residual.result refl)
