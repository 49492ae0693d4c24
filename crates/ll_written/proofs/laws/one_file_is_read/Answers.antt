-- It is, as the next token tells how to go on.
use Rattle.ll_written.proofs.OneLaws.{one_file, printed_is_one}
use Rattle.ll_written.proofs.laws.one_file_is_read.Goals as goal

pub returns : goal.returns
returns c = record { one = one_file; printed = printed_is_one }
