-- What `tracing::trace_of_llvm` owes besides what the check finds.
use Rattle.std.proofs.Common.{refl}
use Rattle.std.proofs.lemmas.Result.{IfOk-weaker}
use Rattle.tracing.proofs.TraceLaws.{in_checked, llvm_trace}
use Rattle.tracing.proofs.tracing.trace_of_llvm.Goals as goal

pub llvm_body-requires : goal.llvm_body-requires
llvm_body-requires c = (in_checked c.args.«module».now c.args.f.0 c.functions-count.ensures.sound c.requires.checked c.requires.function, refl)

pub returns-clause-exact : goal.returns-clause-exact
returns-clause-exact c =
    let m = c.args.«module».now in
    let h = in_checked m c.args.f.0 c.functions-count.ensures.sound c.requires.checked c.requires.function in
    IfOk-weaker c.trace_body.result _ _ (λ t exact x at. llvm_trace m h x c.args.choices.now _ _ _ at exact (c.in_ok-body.ensures.code h refl) (c.in_ok-body.ensures.start h refl)) c.trace_body.ensures.exact

pub trace_body-requires : goal.trace_body-requires
trace_body-requires c = record {
  known = c.in_ok-body.ensures.known (in_checked c.args.«module».now c.args.f.0 c.functions-count.ensures.sound c.requires.checked c.requires.function) refl;
  typed = c.in_ok-body.ensures.typed;
}
