-- It is, by what its tokens say.
use Rattle.ll_written.proofs.ReadLaws.{written_is_read}
use Rattle.ll_written.proofs.laws.text_is_read.Goals as goal

pub returns : goal.returns
returns c f h = written_is_read f h
