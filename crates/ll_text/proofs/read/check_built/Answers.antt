-- A rule that the check answers is one that fails.
use Rattle.ll_text.proofs.ReadLaws.{unchecked}
use Rattle.ll_text.proofs.read.check_built.Goals as goal

pub returns-in_default-rule : goal.returns-in_default-rule
returns-in_default-rule c = record { checked = tt; not_yet = λ e. unchecked c.args.m.now c.in-Err.rule c.in-Err.ensures.err c.in_default-rule.not-NoMemory }
