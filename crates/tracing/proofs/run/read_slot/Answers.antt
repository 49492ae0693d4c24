-- What `run::read_slot` owes besides what the check finds.
use Rattle.std.proofs.Common.{◌≡◌, None, subst, sym}
use Rattle.support.proofs.ResultLaws.{both}
use Rattle.indexmap.specs.IndexMap.{get}
use Rattle.meaning.specs.Terms.{Term}
use Rattle.tracing.specs.Bodies.{same_slot}
use Rattle.tracing.specs.Runs.{Names}
use Rattle.tracing.proofs.RunLaws.{read_none}
use Rattle.tracing.proofs.run.read_slot.Goals as goal

pub returns-in-None-clause-at : goal.returns-in-None-clause-at
returns-in-None-clause-at c =
    let none : get same_slot c.args.run.now.env c.args.slot ≡ None = cc (c.get.ensures.value, c.copied-found.ensures, c.in-None.is) in
    both c.intern.result c.intern.ensures.at c.intern.ensures.named
    (λ k at named now s h. (at now s tt h, subst (λ (t : Term). Names now.types c.intern.new.run.table k t) (sym (read_none now c.args.run.now s c.args.slot h none)) (named now.types)))
