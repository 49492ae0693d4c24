-- How what is meant is numbered, by the law.
use Rattle.ll_said.proofs.MeantLaws.{numbers_count}
use Rattle.ll_said.proofs.laws.numbers_count.Goals as goal

pub returns : goal.returns
returns c = numbers_count
