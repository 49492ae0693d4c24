-- What `dialect_rows::result_type` owes besides what the check finds.
use Rattle.std.proofs.Common.{Some, Option, ap, ◌∙◌}
use Rattle.std.proofs.lemmas.Result.{on_ok_weaker}
use Rattle.dialect_types.specs.declared.types.TypeHandle.{TypeHandle}
use Rattle.tracing.proofs.DialectLaws.{result_within}
use Rattle.tracing.proofs.dialect_rows.result_type.Goals as goal

pub type_place-requires-clause-within : goal.type_place-requires-clause-within
type_place-requires-clause-within c =
    result_within c.args.ctx.now c.args.op c.requires.here.0 (Some c.in-Some.ty) c.requires.typed c.requires.here.1 (c.result_type.ensures ∙ ap (λ (t : Option TypeHandle). Some t) c.in-Some.is)

pub returns-in-None-clause-grown : goal.returns-in-None-clause-grown
returns-in-None-clause-grown c = on_ok_weaker c.void_place.result (λ grown. grown _ c.requires.tables) c.void_place.ensures.grown
