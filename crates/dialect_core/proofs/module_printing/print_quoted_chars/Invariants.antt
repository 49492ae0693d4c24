-- What the loop of `module_printing::print_quoted_chars` keeps.
use Rattle.dialect_core.specs.Text.{quoted_char}
use Rattle.dialect_core.proofs.PrintLemmas.{Printed}
use Rattle.dialect_core.proofs.module_printing.print_quoted_chars.Given as goal

abbrev pub invariant-loop-char : goal.invariant-loop-char
invariant-loop-char l = Printed quoted_char l.chars l.char-index l.initial.out.items l.out.items
