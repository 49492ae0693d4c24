-- It may, part by part.
use Rattle.ll_written.proofs.FileForms.{file_form}
use Rattle.ll_written.proofs.laws.data_are_writable.Goals as goal

pub returns : goal.returns
returns c = file_form
