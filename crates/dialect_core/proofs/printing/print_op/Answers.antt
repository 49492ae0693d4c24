-- What `printing::print_op` owes besides what the check finds.
use Rattle.std.proofs.lemmas.Result.{on_ok_weaker}
use Rattle.dialect_types.specs.Trees.{type_trees}
use Rattle.dialect_types.proofs.TextLemmas.{keeps_then}
use Rattle.dialect_core.specs.Numbering.{value_at, block_at}
use Rattle.dialect_core.proofs.PrintLemmas.{op_printed}
use Rattle.dialect_core.proofs.printing.print_op.Goals as goal

pub returns-in_err-print_immediates-clause-kept : goal.returns-in_err-print_immediates-clause-kept
returns-in_err-print_immediates-clause-kept c = keeps_then _ _ _ c.in_ok-print_head.ensures.kept c.print_immediates.ensures.kept

pub returns-clause-kept : goal.returns-clause-kept
returns-clause-kept c = keeps_then _ _ _ (keeps_then _ _ _ c.in_ok-print_head.ensures.kept c.in_ok-print_immediates.ensures.kept) c.print_tail.ensures.kept

pub returns-clause-ok : goal.returns-clause-ok
returns-clause-ok c =
    on_ok_weaker c.print_tail.result (λ e. op_printed (value_at c.args.numbers.now) (block_at c.args.numbers.now) (type_trees c.args.types.now) c.args.op c.args.x.now c.in-Some.word.now _ _ _ _ (c.in-Some.ensures (type_trees c.args.types.now))
    c.in_ok-print_head.ensures.ok c.in_ok-print_immediates.ensures.ok e) c.print_tail.ensures.ok
