-- By the law of grammars.
use Rattle.ll_events.proofs.EventLaws.{read_once}
use Rattle.ll_events.proofs.laws.one_reading.Goals as goal

pub returns : goal.returns
returns c = read_once
