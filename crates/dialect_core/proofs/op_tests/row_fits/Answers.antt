-- What `op_tests::row_fits` owes besides what the check finds.
use Rattle.std.proofs.Common.{sym, ◌∙◌}
use Rattle.dialect_core.proofs.TestLemmas.{no_true}
use Rattle.dialect_core.proofs.op_tests.row_fits.Goals as goal
use Rattle.dialect_core.proofs.op_tests.row_fits.Goals.{then-operands_taken, else-operands_taken}

pub returns-then-types_fit : goal.returns-then-types_fit
returns-then-types_fit c = elim c.if-operands_taken.branch [
  | then-operands_taken w ↦
      let taken = rw c.rule-rule.ensures at (c.operands_taken.ensures.0 w.if-operands_taken.true) in
      let types = w.types_fit.ensures.0 (sym w.value-is ∙ c.if-types_fit.true) in
      let edges = rw (c.target_count.ensures, c.rule-rule.ensures) at c.edges_fit.ensures in
      ((λ yes. record { values = taken.0; count = taken.1; fits = types.0; returns = taken.2; result = types.1; value = types.2; leads = edges.0 yes }), (λ h. edges.1 h.leads))
  | else-operands_taken w ↦ no_true (sym w.if-operands_taken.false ∙ sym w.value-is ∙ c.if-types_fit.true)
]
