-- What `printing::append_integer` owes besides what the check finds.
use Rattle.dialect_types.specs.Trees.{type_at, type_trees}
use Rattle.const_attrs.proofs.PrintedLaws.{integer_printed}
use Rattle.const_attrs.proofs.printing.append_integer.Goals as goal

pub returns-clause-ok : goal.returns-clause-ok
returns-clause-ok c =
    integer_printed c.extend_from_slice-3.result (type_at (type_trees c.args.types.now) c.args.ty) c.args.value _ _ _ _ _ _
    c.in_ok-extend_from_slice.ensures.items c.in_ok-print_number.ensures.ok c.in_ok-extend_from_slice-2.ensures.items c.in_ok-append_inner_type.ensures.ok
    c.extend_from_slice-3.ensures.items
