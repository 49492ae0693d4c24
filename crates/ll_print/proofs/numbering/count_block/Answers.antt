-- A block is counted by its name, and then its results.
use Rattle.std.proofs.Common.{subst, sym}
use Rattle.std.proofs.lemmas.Result.{on_ok_weaker}
use Rattle.ll_print.specs.Numbering.{Counts}
use Rattle.ll_print.proofs.NumberLaws.{counts_then}
use Rattle.ll_print.proofs.PartLaws.{unnamed_of-block}
use Rattle.ll_print.proofs.numbering.count_block.Goals as goal

pub returns : goal.returns
returns c =
    on_ok_weaker c.count_insts.result (λ rest.
    subst (Counts c.args.numbers.now c.count_insts.new.numbers) (sym (unnamed_of-block c.args.m.now c.args.b c.block_name.result.now c.instructions.result.now c.block_name.ensures c.instructions.ensures.insts))
    (counts_then _ c.count_unnamed.new.self _ _ _ c.in_ok-count_unnamed.ensures rest)) c.count_insts.ensures
