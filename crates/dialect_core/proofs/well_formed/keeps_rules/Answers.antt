-- What `well_formed::keeps_rules` owes besides what the check finds.
use Rattle.dialect_core.proofs.OpTestLemmas.{without_fault}
use Rattle.dialect_core.proofs.well_formed.keeps_rules.Goals as goal

pub returns-in-Constant : goal.returns-in-Constant
returns-in-Constant c = rw c.in-Constant.is (without_fault c.verify.result _ c.is_ok.result c.is_ok.ensures.value (rw (c.types.ensures, c.attr.ensures) at c.verify.ensures))
