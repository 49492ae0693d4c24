-- What is read means nothing.
use Rattle.std.proofs.Common.{◌≡◌, Err, ap}
use Rattle.ll_text.specs.declared.read_err.ReadErr.TheVariants as errors
use Rattle.ll_text.proofs.ReadLaws.{none_meant}
use Rattle.ll_text.proofs.read.fill.Goals as goal

pub returns-in-Err-clause-not_yet : goal.returns-in-Err-clause-not_yet
returns-in-Err-clause-not_yet c = λ e d means. let same : c.in-Err.e ≡ errors.NotYet = (cc) in c.in-Err.ensures.not_yet (ap Err same) means.0 means.1

pub returns-clause-not_yet : goal.returns-clause-not_yet
returns-clause-not_yet c = λ e d. none_meant c.args.bytes.now _ c.in-Ok.ensures.says (c.in-Err-NotYet.ensures.not_yet (ap Err c.in-Err-NotYet.field-0-is)) d
