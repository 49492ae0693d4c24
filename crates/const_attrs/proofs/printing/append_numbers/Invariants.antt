-- What the loop of `printing::append_numbers` keeps.
use Rattle.std.specs.Fmt.{decimal}
use Rattle.const_attrs.proofs.PrintedLaws.{PrintedItems}
use Rattle.const_attrs.proofs.printing.append_numbers.Given as goal

abbrev pub invariant-loop-i : goal.invariant-loop-i
invariant-loop-i l = PrintedItems decimal l.bytes l.i l.fn.out.items l.out.items
