-- The lines so far are instructions, whose types are there.
use Rattle.ll_bodies.specs.TypedViews.{AreTypedInsts}
use Rattle.ll_bodies.proofs.BodyLaws.{MadeUpTo}
use Rattle.ll_bodies.proofs.bodies.body_insts.Given as goal

abbrev pub invariant-loop-part : goal.invariant-loop-part
invariant-loop-part l = MadeUpTo l.source l.scope l.lines l.part-index l.made × AreTypedInsts l.source.module.now l.made
