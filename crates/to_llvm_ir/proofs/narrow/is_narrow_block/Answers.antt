-- What `narrow::is_narrow_block` owes besides what the check finds.
use Rattle.std.proofs.Common.{sym, ◌∙◌}
use Rattle.dialect_core.proofs.TestLemmas.{never, no_true}
use Rattle.to_llvm_ir.proofs.NarrowLaws.{block_wide}
use Rattle.to_llvm_ir.proofs.narrow.is_narrow_block.Goals as goal

pub returns-then-not-all_held : goal.returns-then-not-all_held
returns-then-not-all_held c =
    let held = rw c.types.ensures at c.all_held.ensures in
    never (block_wide c.args.ctx.now c.args.block c.block_args.result.now c.block_args.ensures (λ all. no_true (sym c.if-not-all_held.true ∙ held.1 all)))
