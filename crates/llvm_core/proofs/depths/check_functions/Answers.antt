-- What `depths::check_functions` owes besides what the check finds.
use Rattle.std.proofs.Common.{below_more, arith, ◌≡◌, false, ap, sym, ◌∙◌}
use Rattle.std.specs.Option.{option_map}
use Rattle.std.proofs.lemmas.Option.{same_Some}
use Rattle.llvm_core.specs.declared.code.FunctionData.{FunctionData}
use Rattle.llvm_core.specs.Checked.{is_deep}
use Rattle.llvm_core.proofs.depths.check_functions.Goals as goal

pub loop-f-preserved : goal.loop-f-preserved
loop-f-preserved c = record {
  passed = below_more _ _ c.loop-f.invariant.passed (λ (x, at, deep).
      let same = same_Some x.ty c.function_type.result (sym (ap (option_map (λ (y : FunctionData). y.ty)) at) ∙ c.function_type.ensures.ty) in
      let shallow : is_deep c.args.m.now x.ty ≡ false = ap (is_deep c.args.m.now) same ∙ sym c.is_deep.ensures.deep ∙ c.if-is_deep.false in
      absurd (cc));
  notes = c.is_deep.ensures.notes;
}

pub returns-clause-ok : goal.returns-clause-ok
returns-clause-ok c = λ k lt. c.loop-f.invariant.passed k (omega (arith, c.functions-f-end.ensures.len))
