-- What `printing::append_bytes` owes besides what the check finds.
use Rattle.const_attrs.proofs.PrintedLaws.{three_extended}
use Rattle.const_attrs.proofs.printing.append_bytes.Goals as goal

pub returns-clause-ok : goal.returns-clause-ok
returns-clause-ok c =
    three_extended c.extend_from_slice-2.result _ _ _ _ _ _ _
    c.in_ok-extend_from_slice.ensures.items c.in_ok-append_numbers.ensures.ok c.extend_from_slice-2.ensures.items
