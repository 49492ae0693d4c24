-- What `type_tests::fits_width` owes besides what the check finds.
use Rattle.std.proofs.Common.{◌^◌, arith}
use Rattle.std.proofs.Math.Nat.{one-le-pow}
use Rattle.dialect_core.proofs.TestLemmas.{always}
use Rattle.dialect_core.proofs.TypeTestLemmas.{wide_fits, shifted_out}
use Rattle.dialect_core.proofs.type_tests.fits_width.Goals as goal

pub returns-then-width-ge64 : goal.returns-then-width-ge64
returns-then-width-ge64 c = always (wide_fits c.args.value c.args.width (omega arith) (omega arith))

pub returns-else-width-ge64 : goal.returns-else-width-ge64
returns-else-width-ge64 c = shifted_out c.args.value (2 ^ c.args.width) (omega (arith, one-le-pow c.args.width 2 (omega arith)))
