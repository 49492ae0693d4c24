-- What `instructions::entry` owes besides what the check finds.
use Rattle.ll_bodies.proofs.InstructionLaws.{entry_made, entry_unmade}
use Rattle.ll_bodies.proofs.ErrLaws.{passed_on}
use Rattle.ll_bodies.proofs.instructions.entry.Goals as goal

pub returns-clause-ok : goal.returns-clause-ok
returns-clause-ok c = λ s knows. entry_made c.args.source.now s c.args.ty c.args.said.now c.in_ok-value.value c.in_ok-found.found (c.in_ok-value.ensures.ok s knows) (c.in_ok-found.ensures.ok s knows)

pub returns-in_err-value-clause-not_yet : goal.returns-in_err-value-clause-not_yet
returns-in_err-value-clause-not_yet c = λ e s knows.
    let x = c.in_err-value in
    entry_unmade c.args.source.now s c.args.ty c.args.said.now (x.ensures.not_yet (passed_on c.from_residual.result x.field-0.0 c.from_residual.ensures.1 e) s knows)
