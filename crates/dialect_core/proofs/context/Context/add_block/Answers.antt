-- What `context::Context::add_block` owes besides what the check finds.
use Rattle.std.proofs.Common.{◌≡◌, ℕ, List, get_or, set, sym, subst, ap, refl, ◌∙◌, arith}
use Rattle.std.proofs.lemmas.List.{set-get_or}
use Rattle.support.proofs.ResultLaws.{on_err}
use Rattle.dialect_core.specs.declared.numbers.BlockRef.{BlockRef}
use Rattle.dialect_core.specs.declared.ops.OpData.{OpData}
use Rattle.dialect_core.specs.Lists.{Lists, list_at}
use Rattle.dialect_core.proofs.ContextLemmas.{context, holder_there, region_kept, block_view}
use Rattle.dialect_core.specs.Data.{data_of, IsTyped}
use Rattle.dialect_core.specs.ContextData.{ContextData}
use Rattle.dialect_core.proofs.NewBlockLemmas.{last_list, new_block_data}
use Rattle.dialect_core.proofs.RegionLemmas.{new_block_regions}
use Rattle.dialect_core.proofs.TypedLemmas.{block_typed}
use Rattle.dialect_core.proofs.context.Context.add_block.Goals as goal

-- an operation whose region stayed as it was
unwritten : (ops : List OpData) (o : ℕ) (x : OpData) (region : List BlockRef) → x ≡ get_or ops o x → region ≡ x.blocks → set ops o (record x { blocks = region }) ≡ ops
unwritten ops o x region is same = ap (λ (r : List BlockRef). set ops o (record x { blocks = r })) same ∙ ap (λ (y : OpData). set ops o y) is ∙ set-get_or ops o x

pub invariant_of-self-2 : goal.invariant_of-self-2
invariant_of-self-2 c =
    let holder = rw (← c.self.view_is) at c.requires.holder in
    let there = holder_there c.self.inside.ops.items c.args.holder holder in
    rw (ap (λ (l : Lists). l.parents) c.in_ok-number.ensures.ok)
    (record {
      numbers = region_kept c.self.inside.ops.items c.self.inside.blocks.items _ c.push.new.self.items c.self.inside.lists.parents c.self.inside.lists.lists _ c.args.holder c.index_mut-op.result.now c.add_block.new.region c.in_ok-number.number
          (record { holder = c.args.holder; label = c.args.label; args = c.in_ok-args.args }) c.self.invariant.numbers there
          c.index_mut-op.ensures.value c.in_ok-number.ensures.region c.in_ok-number.ensures.number refl c.in_ok-reserve.ensures.items c.in-Ok.ensures.items (ap (λ (l : Lists). l.lists) c.in_ok-number.ensures.ok);
      regions = new_block_regions c.self.inside.ops.items c.self.inside.blocks.items _ c.push.new.self.items c.args.holder c.index_mut-op.result.now c.add_block.new.region c.in_ok-number.number
          (record { holder = c.args.holder; label = c.args.label; args = c.in_ok-args.args }) c.self.invariant.regions there c.index_mut-op.ensures.value c.in_ok-number.ensures.region
          (c.in_ok-number.ensures.number ∙ c.self.invariant.numbers.list_each) refl c.in_ok-reserve.ensures.items c.in-Ok.ensures.items;
    })

pub returns-clause-ok : goal.returns-clause-ok
returns-clause-ok c =
    let holder = rw (← c.self.view_is) at c.requires.holder in
    let there = holder_there c.self.inside.ops.items c.args.holder holder in
    rw (← c.self.view_is, ap (λ (l : Lists). l.parents) c.in_ok-number.ensures.ok)
    (block_view c.self.inside.types c.self.inside.ops.items c.self.inside.blocks.items _ c.push.new.self.items c.self.inside.lists.parents c.self.inside.lists.lists _ c.in_ok-number.number c.args.holder c.args.label c.in_ok-args.args _ c.index_mut-op.result.now c.add_block.new.region there
    c.index_mut-op.ensures.value c.in_ok-number.ensures.region c.in_ok-reserve.ensures.items c.in-Ok.ensures.items c.in_ok-args.ensures (ap (λ (l : Lists). l.lists) c.in_ok-number.ensures.ok))

pub returns-clause-bare : goal.returns-clause-bare
returns-clause-bare c = ap (λ (l : Lists). list_at l.lists c.in_ok-number.number) c.in_ok-number.ensures.ok ∙ last_list c.self.inside.lists.lists c.in_ok-number.number c.in_ok-number.ensures.number

pub returns-clause-data : goal.returns-clause-data
returns-clause-data c =
    let holder = rw (← c.self.view_is) at c.requires.holder in
    let there = holder_there c.self.inside.ops.items c.args.holder holder in
    let viewed = block_view c.self.inside.types c.self.inside.ops.items c.self.inside.blocks.items _ c.push.new.self.items c.self.inside.lists.parents c.self.inside.lists.lists c.add_block.new.self.lists c.in_ok-number.number c.args.holder c.args.label c.in_ok-args.args c.args.args.now c.index_mut-op.result.now c.add_block.new.region there
    c.index_mut-op.ensures.value c.in_ok-number.ensures.region c.in_ok-reserve.ensures.items c.in-Ok.ensures.items c.in_ok-args.ensures (ap (λ (l : Lists). l.lists) c.in_ok-number.ensures.ok) in
    rw (← c.self.view_is, ap (λ (l : Lists). l.parents) c.in_ok-number.ensures.ok)
    (λ m. ap (λ (d : ContextData). data_of d m) viewed ∙ new_block_data (context c.self.inside.types c.self.inside.ops.items c.self.inside.blocks.items c.self.inside.lists.parents c.self.inside.lists.lists) c.in_ok-number.number (record { holder = c.args.holder; label = c.args.label; args = c.args.args.now }) c.self.invariant.numbers (c.in_ok-number.ensures.number ∙ c.self.invariant.numbers.list_each) m)

pub returns-clause-typed : goal.returns-clause-typed
returns-clause-typed c =
    let args = rw (← c.self.view_is) at c.requires.args in
    let holder = rw (← c.self.view_is) at c.requires.holder in
    let there = holder_there c.self.inside.ops.items c.args.holder holder in
    let viewed = block_view c.self.inside.types c.self.inside.ops.items c.self.inside.blocks.items _ c.push.new.self.items c.self.inside.lists.parents c.self.inside.lists.lists c.add_block.new.self.lists c.in_ok-number.number c.args.holder c.args.label c.in_ok-args.args c.args.args.now c.index_mut-op.result.now c.add_block.new.region there
    c.index_mut-op.ensures.value c.in_ok-number.ensures.region c.in_ok-reserve.ensures.items c.in-Ok.ensures.items c.in_ok-args.ensures (ap (λ (l : Lists). l.lists) c.in_ok-number.ensures.ok) in
    rw (← c.self.view_is, ap (λ (l : Lists). l.parents) c.in_ok-number.ensures.ok)
    (λ typed. subst IsTyped (sym viewed) (block_typed (context c.self.inside.types c.self.inside.ops.items c.self.inside.blocks.items c.self.inside.lists.parents c.self.inside.lists.lists) c.in_ok-number.number (record { holder = c.args.holder; label = c.args.label; args = c.args.args.now }) typed args))

pub invariant_of-self : goal.invariant_of-self
invariant_of-self c = rw c.reserve.ensures.items c.self.invariant

pub invariant_of-self-in_err-number : goal.invariant_of-self-in_err-number
invariant_of-self-in_err-number c =
    rw (unwritten c.self.inside.ops.items c.args.holder.0 c.index_mut-op.result.now c.add_block.new.region c.index_mut-op.ensures.value c.in_err-number.ensures.region_err, c.in_ok-reserve.ensures.items, c.in_err-number.ensures.err)
    c.self.invariant

pub index_mut-op-requires : goal.index_mut-op-requires
index_mut-op-requires c =
    let holder = rw (← c.self.view_is) at c.requires.holder in
    omega (arith, holder_there c.self.inside.ops.items c.args.holder holder, c.self.inside.ops.ok.0)

pub returns-clause-number : goal.returns-clause-number
returns-clause-number c = rw (← c.self.view_is) (c.in_ok-number.ensures.number ∙ c.self.invariant.numbers.list_each)

pub returns-in_err-reserve-clause-err : goal.returns-in_err-reserve-clause-err
returns-in_err-reserve-clause-err c = rw (← c.self.view_is, c.reserve.ensures.items) (on_err c.from_residual-in_err-reserve.result refl)

pub returns-in_err-number-clause-err : goal.returns-in_err-number-clause-err
returns-in_err-number-clause-err c =
    rw (← c.self.view_is, unwritten c.self.inside.ops.items c.args.holder.0 c.index_mut-op.result.now c.add_block.new.region c.index_mut-op.ensures.value c.in_err-number.ensures.region_err, c.in_ok-reserve.ensures.items, c.in_err-number.ensures.err)
    (on_err c.from_residual-in_err-number.result refl)
