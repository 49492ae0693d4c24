-- They do, part by part.
use Rattle.ll_written.proofs.FileSays.{file_says}
use Rattle.ll_written.proofs.laws.tokens_say_their_file.Goals as goal

pub returns : goal.returns
returns c = file_says
