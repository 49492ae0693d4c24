-- What `printing::append_numbers` owes besides what the check finds.
use Rattle.std.proofs.Common.{ℕ, ◌++◌, ap, ◌∙◌, arith}
use Rattle.std.specs.Fmt.{decimal}
use Rattle.dialect_types.proofs.TextLemmas.{joined_step, keeps_then}
use Rattle.const_attrs.proofs.PrintedLaws.{all_items}
use Rattle.const_attrs.proofs.printing.append_numbers.Goals as goal

pub loop-i-preserved : goal.loop-i-preserved
loop-i-preserved c = record {
  printed =
      joined_step decimal c.args.bytes.now c.loop-i.i 0 _ _ _ _
      c.loop-i-test.true c.loop-i.invariant.printed c.in_ok-print_comma_before.ensures.ok (c.in_ok-print_number.ensures.ok ∙ ap (λ (n : ℕ). c.print_comma_before.new.out.items ++ decimal n) c.from.ensures);
  kept = keeps_then _ _ _ c.loop-i.invariant.kept (keeps_then _ _ _ c.in_ok-print_comma_before.ensures.kept c.in_ok-print_number.ensures.kept);
}

pub returns-clause-ok : goal.returns-clause-ok
returns-clause-ok c = all_items decimal c.args.bytes.now c.loop-i.i _ _ (omega arith) c.loop-i.invariant.printed
