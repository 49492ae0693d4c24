-- What `depths::check_insts` owes besides what the check finds.
use Rattle.std.proofs.Common.{below_more, arith, ◌≡◌, false, ap, sym, ◌∙◌}
use Rattle.std.specs.Option.{option_map}
use Rattle.std.proofs.lemmas.Option.{same_Some}
use Rattle.llvm_core.specs.Checked.{is_deep_inst}
use Rattle.llvm_core.proofs.depths.check_insts.Goals as goal

pub loop-i-preserved : goal.loop-i-preserved
loop-i-preserved c = record {
  passed = below_more _ _ c.loop-i.invariant.passed (λ (x, at, deep).
      let same = same_Some (is_deep_inst c.args.m.now x) c.is_deep_inst.result (sym (ap (option_map (is_deep_inst c.args.m.now)) at) ∙ c.is_deep_inst.ensures.deep) in
      let shallow : is_deep_inst c.args.m.now x ≡ false = same ∙ c.if-is_deep_inst.false in
      absurd (cc));
  notes = c.is_deep_inst.ensures.notes;
}

pub returns-clause-ok : goal.returns-clause-ok
returns-clause-ok c = λ k lt. c.loop-i.invariant.passed k (omega (arith, c.inst_count-i-end.ensures))
