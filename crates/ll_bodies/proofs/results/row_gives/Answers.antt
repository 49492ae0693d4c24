-- What `results::row_gives` owes besides what the check finds.
use Rattle.ll_bodies.specs.SourceViews.{made_in}
use Rattle.ll_bodies.proofs.TypeLaws.{nth_there, typed_told}
use Rattle.ll_bodies.proofs.results.row_gives.Goals as goal

pub given-requires-clause-first : goal.given-requires-clause-first
given-requires-clause-first c =
    rw (c.type_nth-first.ensures, c.as_slice-operands.ensures) (nth_there c.args.source.now.module.now c.requires.source.sound (made_in c.args.source.now) c.args.row.now.operands 0 c.requires.row.1)

pub given-requires-clause-second : goal.given-requires-clause-second
given-requires-clause-second c =
    rw (c.type_nth-second.ensures, c.as_slice-operands.ensures) (nth_there c.args.source.now.module.now c.requires.source.sound (made_in c.args.source.now) c.args.row.now.operands 1 c.requires.row.1)

pub returns-clause-ty : goal.returns-clause-ty
returns-clause-ty c = λ fit.
    let e = rw (c.rule.ensures, c.type_nth-first.ensures, c.type_nth-second.ensures, c.as_slice-operands.ensures) at c.given.ensures.ty in
    typed_told c.args.source.now.module.now c.requires.source.sound c.args.row.now c.given.result fit e
