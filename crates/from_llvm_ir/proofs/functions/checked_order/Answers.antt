-- What `functions::checked_order` owes besides what the check finds.
use Rattle.from_llvm_ir.proofs.OneLaws.{block_alone}
use Rattle.from_llvm_ir.proofs.functions.checked_order.Goals as goal

pub returns-then-is_plain-clause-rpo : goal.returns-then-is_plain-clause-rpo
returns-then-is_plain-clause-rpo c = λ g source.
    block_alone g source.form (c.is_plain.ensures.alone c.if-is_plain.true g source) c.in_ok-alone.alone.items (c.in_ok-alone.ensures.items_if_clones_equal (λ y e. e))
