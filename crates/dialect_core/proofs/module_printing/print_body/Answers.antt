-- What `module_printing::print_body` owes besides what the check finds.
use Rattle.std.proofs.Common.{arith}
use Rattle.std.proofs.lemmas.Result.{on_ok_weaker}
use Rattle.std.specs.Prelude.{codes}
use Rattle.dialect_core.specs.Numbering.{value_at, block_at}
use Rattle.dialect_types.proofs.TextLemmas.{keeps_then, keeps_appended}
use Rattle.dialect_core.proofs.KeepLemmas.{then_extended, on_extended}
use Rattle.dialect_core.proofs.ModulePrintLemmas.{body_printed}
use Rattle.dialect_core.proofs.module_printing.print_body.Goals as goal

pub returns-in_err-print_blocks-clause-kept : goal.returns-in_err-print_blocks-clause-kept
returns-in_err-print_blocks-clause-kept c = keeps_then _ _ _ (keeps_appended _ _ _ c.in_ok-extend_from_slice.ensures.items) c.print_blocks.ensures.kept

pub returns-clause-kept : goal.returns-clause-kept
returns-clause-kept c =
    let blocks = keeps_then _ _ _ (keeps_appended _ _ _ c.in_ok-extend_from_slice.ensures.items) c.in_ok-print_blocks.ensures.kept in
    then_extended c.extend_from_slice-3.result _ _ (codes "  }\n") _ blocks c.extend_from_slice-3.ensures.items

pub returns-clause-ok : goal.returns-clause-ok
returns-clause-ok c =
    on_ok_weaker c.extend_from_slice-3.result (λ e. body_printed (value_at c.args.numbers.now) (block_at c.args.numbers.now) c.args.ctx.now c.args.blocks.now c.args.out.now.items _ _ _ (λ empty. grind (arith, c.is_empty.ensures, c.if-is_empty.false, empty)) c.requires.within
    c.in_ok-extend_from_slice.ensures.items c.in_ok-print_blocks.ensures.ok e) (on_extended _ c.print_blocks.new.out.items (codes "  }\n") _ c.extend_from_slice-3.ensures.items)
