-- One token more, by the law.
use Rattle.ll_spacing.proofs.SpaceLaws.{more_written}
use Rattle.ll_spacing.proofs.written.Written.put.Goals as goal

pub invariant_of-self-2 : goal.invariant_of-self-2
invariant_of-self-2 c = (more_written _ _ _ _ _ (record { before = c.args.before.now; kind = c.args.kind; text = c.args.text.now }) c.self.invariant c.self.view_is c.requires c.in_ok-extend_from_slice.ensures.items c.in_default.ensures.items).1

pub returns-clause-put : goal.returns-clause-put
returns-clause-put c = (more_written _ _ _ _ _ (record { before = c.args.before.now; kind = c.args.kind; text = c.args.text.now }) c.self.invariant c.self.view_is c.requires c.in_ok-extend_from_slice.ensures.items c.in_default.ensures.items).0
