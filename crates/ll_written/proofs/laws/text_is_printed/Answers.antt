-- It is, line by line.
use Rattle.ll_written.proofs.FileTexts.{file_text}
use Rattle.ll_written.proofs.laws.text_is_printed.Goals as goal

pub returns : goal.returns
returns c = file_text
