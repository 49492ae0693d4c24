-- What `module::holding::fits` owes besides what the check finds.
use Rattle.std.proofs.Common.{ℕ}
use Rattle.std.proofs.lemmas.Bool.{le-leb, eqb-true, eq-eqb}
use Rattle.llvm_core.proofs.HoldLemmas.{wide_fits, narrow_fits, none_past}
use Rattle.llvm_core.proofs.module.holding.fits.Goals as goal

pub returns-then-width-ge128 : goal.returns-then-width-ge128
returns-then-width-ge128 c = (λ e. wide_fits c.args.width c.args.value c.if-width-ge128.true c.ranges.value.fits, λ fit. le-leb 128 c.args.width c.if-width-ge128.true)

pub returns-else-width-ge128 : goal.returns-else-width-ge128
returns-else-width-ge128 c = (λ e. narrow_fits c.args.width c.args.value c.ranges.value.fits (eqb-true _ _ e), λ fit. eq-eqb _ _ (none_past c.args.width c.args.value fit.0))
