-- It is, as the text of its tokens.
use Rattle.ll_written.proofs.PrintLaws.{printed_is_read}
use Rattle.ll_written.proofs.laws.printed_text_is_read.Goals as goal

pub returns : goal.returns
returns c d h = printed_is_read d h
