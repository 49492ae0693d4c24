-- What `dialect_body::placed_blocks` owes besides what the check finds.
use Rattle.std.proofs.Common.{◌∙◌}
use Rattle.std.proofs.lemmas.Result.{IfOk-weaker}
use Rattle.tracing.proofs.DialectBlockLaws.{numbers_are}
use Rattle.tracing.proofs.dialect_body.placed_blocks.Goals as goal

pub returns-clause-are : goal.returns-clause-are
returns-clause-are c = IfOk-weaker c.blocks-2.result _ _ (λ bs code setting h all. code setting h all (c.in_ok-places.ensures ∙ numbers_are c.args.ctx.now h c.args.list.now all)) c.blocks-2.ensures.are
