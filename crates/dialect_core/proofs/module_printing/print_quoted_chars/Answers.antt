-- What `module_printing::print_quoted_chars` owes besides what the check finds.
use Rattle.std.proofs.Common.{arith, sym}
use Rattle.std.proofs.lemmas.List.{append-nil}
use Rattle.dialect_types.proofs.TextLemmas.{keeps_then, keeps_appended}
use Rattle.dialect_core.specs.Text.{quoted_char}
use Rattle.dialect_core.proofs.PrintLemmas.{printed_more, printed_all}
use Rattle.dialect_core.proofs.module_printing.print_quoted_chars.Goals as goal

pub loop-char-init : goal.loop-char-init
loop-char-init c = record { printed = sym (append-nil _) }

pub returns-in_err-print_quoted_char-clause-kept : goal.returns-in_err-print_quoted_char-clause-kept
returns-in_err-print_quoted_char-clause-kept c = keeps_then _ _ _ (keeps_appended _ _ _ c.loop-char.invariant.printed) c.print_quoted_char.ensures.kept

pub loop-char-preserved : goal.loop-char-preserved
loop-char-preserved c = printed_more quoted_char c.args.chars.now c.loop-char.char-index 0 _ _ _ (omega arith) c.loop-char.invariant c.in_ok-print_quoted_char.ensures.ok

pub returns-clause-kept : goal.returns-clause-kept
returns-clause-kept c = keeps_appended _ _ _ c.loop-char.invariant.printed

pub returns-clause-ok : goal.returns-clause-ok
returns-clause-ok c = printed_all quoted_char c.args.chars.now c.loop-char.char-index _ _ (omega arith) c.loop-char.invariant
