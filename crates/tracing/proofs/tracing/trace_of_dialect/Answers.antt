-- What `tracing::trace_of_dialect` owes besides what the check finds.
use Rattle.std.proofs.Common.{ap, refl, ◌∙◌}
use Rattle.std.proofs.lemmas.Result.{IfOk-weaker}
use Rattle.dialect_core.specs.Data.{Func, data_of, type_in}
use Rattle.meaning.specs.Dialect.{setting_of, typed_body}
use Rattle.tracing.proofs.ModuleLaws.{in_context, same_function}
use Rattle.tracing.proofs.TraceLaws.{dialect_trace}
use Rattle.tracing.proofs.tracing.trace_of_dialect.Goals as goal

pub returns-clause-exact : goal.returns-clause-exact
returns-clause-exact c =
    let x = c.args.ctx.now in
    let m = c.args.«module».0.0 in
    let cs = c.args.choices.now in
    let setting = setting_of (data_of x m) in
    let h = in_context x m c.args.f.0 c.requires.typed c.requires.well_formed c.requires.body in
    IfOk-weaker c.trace_body.result _ _
    (λ t exact place g here number.
    dialect_trace setting x h cs _ _ _ exact (c.in_ok-body.ensures.code setting h refl) (c.in_ok-body.ensures.start h refl)
    ∙ ap (λ (g : Func). (typed_body setting (type_in x) g).trace cs) (same_function x m c.args.f.0 place g c.requires.body here number))
    c.trace_body.ensures.exact

pub dialect_body-requires : goal.dialect_body-requires
dialect_body-requires c = (in_context c.args.ctx.now c.args.«module».0.0 c.args.f.0 c.requires.typed c.requires.well_formed c.requires.body, refl)

pub trace_body-requires : goal.trace_body-requires
trace_body-requires c = record {
  known = c.in_ok-body.ensures.known (in_context c.args.ctx.now c.args.«module».0.0 c.args.f.0 c.requires.typed c.requires.well_formed c.requires.body) refl;
  typed = c.in_ok-body.ensures.typed;
}
