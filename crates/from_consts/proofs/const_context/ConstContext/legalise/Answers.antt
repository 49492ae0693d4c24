-- What `const_context::ConstContext::legalise` owes besides what the check finds.
use Rattle.from_consts.proofs.GivesLaws.{context_named}
use Rattle.from_consts.proofs.const_context.ConstContext.legalise.Goals as goal

pub returns-clause-context : goal.returns-clause-context
returns-clause-context c m ks context = context_named m ks c.args.self.now c.legalise.new.self c.legalise.ensures.grows c.legalise.ensures.legalised context
