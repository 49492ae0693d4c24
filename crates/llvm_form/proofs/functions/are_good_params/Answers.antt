-- The goals of `functions::are_good_params` that the tactics leave.
use Rattle.std.proofs.Common.{sym, ◌∙◌}
use Rattle.llvm_core.specs.Code.{param_names}
use Rattle.llvm_form.specs.Narrow.{is_good_or_none}
use Rattle.llvm_form.proofs.AllLaws.{one_fails, one_more}
use Rattle.llvm_form.proofs.functions.are_good_params.Goals as goal

pub returns-then-not-is_good_or_none : goal.returns-then-not-is_good_or_none
returns-then-not-is_good_or_none c = sym (one_fails is_good_or_none (param_names c.args.m.now.functions c.args.f) c.loop-place.place c.param_name.result.now c.param_name.ensures (sym c.is_good_or_none.ensures ∙ c.if-not-is_good_or_none.true))

pub loop-place-preserved : goal.loop-place-preserved
loop-place-preserved c = one_more is_good_or_none (param_names c.args.m.now.functions c.args.f) c.loop-place.place c.param_name.result.now c.param_name.ensures c.loop-place.invariant (sym c.is_good_or_none.ensures ∙ c.if-not-is_good_or_none.false)
