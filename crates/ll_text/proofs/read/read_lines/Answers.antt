-- What is read says no file.
use Rattle.std.proofs.Common.{Err, ap}
use Rattle.ll_text.proofs.ReadLaws.{no_other}
use Rattle.ll_text.proofs.read.read_lines.Goals as goal

pub returns-in-Err-NotYet-clause-not_yet : goal.returns-in-Err-NotYet-clause-not_yet
returns-in-Err-NotYet-clause-not_yet c = λ e. no_other c.args.bytes.now _ _ c.in-Ok.ensures.read (c.in-Err-NotYet.ensures.not_yet (ap Err c.in-Err-NotYet.field-0-is))
