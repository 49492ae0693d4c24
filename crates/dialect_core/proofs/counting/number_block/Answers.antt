-- What `counting::number_block` owes besides what the check finds.
use Rattle.std.proofs.Common.{List, ◌++◌, ap, sym, ◌∙◌}
use Rattle.std.specs.List.{flat_map}
use Rattle.dialect_core.specs.declared.numbers.OpRef.{OpRef}
use Rattle.dialect_core.specs.Text.{arguments_from}
use Rattle.dialect_core.specs.Numbering.{op_values, values_of_block}
use Rattle.dialect_core.proofs.NumberLemmas.{counts_both, block_values_are}
use Rattle.dialect_core.proofs.counting.number_block.Goals as goal

pub returns-clause-numbered : goal.returns-clause-numbered
returns-clause-numbered c =
    let ops = c.as_slice.ensures.value ∙ c.in_ok-ops.ensures.ops in
    let values = block_values_are c.args.ctx.now c.args.block c.block_args.result.now c.block_args.ensures ∙ ap (λ (xs : List OpRef). arguments_from c.args.block 0 c.block_args.result.now ++ flat_map (op_values c.args.ctx.now) xs) (sym ops) in
    (counts_both _ _ _ _ _ _ (values_of_block c.args.ctx.now c.args.block) _ _ values c.in_ok-after_args.ensures.numbered c.in_ok-after_args.ensures.next c.in_ok-next.ensures.numbered c.in_ok-next.ensures.next).numbered

pub returns-clause-next : goal.returns-clause-next
returns-clause-next c =
    let ops = c.as_slice.ensures.value ∙ c.in_ok-ops.ensures.ops in
    let values = block_values_are c.args.ctx.now c.args.block c.block_args.result.now c.block_args.ensures ∙ ap (λ (xs : List OpRef). arguments_from c.args.block 0 c.block_args.result.now ++ flat_map (op_values c.args.ctx.now) xs) (sym ops) in
    (counts_both _ _ _ _ _ _ (values_of_block c.args.ctx.now c.args.block) _ _ values c.in_ok-after_args.ensures.numbered c.in_ok-after_args.ensures.next c.in_ok-next.ensures.numbered c.in_ok-next.ensures.next).after
