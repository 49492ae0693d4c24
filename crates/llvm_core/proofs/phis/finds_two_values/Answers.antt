-- The goals of `phis::finds_two_values` that the tactics leave.
use Rattle.std.proofs.Common.{◌∙◌, sym, arith}
use Rattle.support.specs.NumberMaps.{value_at as number_at}
use Rattle.support.proofs.NumberMapLaws.{set_same, set_other}
use Rattle.llvm_core.proofs.PhiLemmas.{two_at, value_at, none_two}
use Rattle.llvm_core.proofs.phis.finds_two_values.Goals as goal
use Rattle.llvm_core.proofs.phis.finds_two_values.Goals.{in-Some+else-ne, in_default}

pub returns-then-ne-clause-yes : goal.returns-then-ne-clause-yes
returns-then-ne-clause-yes c = λ _.
    two_at c.args.entries.now c.loop-entry.entry-index _ (number_at c.loop-entry.values) c.in-Some.value c.loop-entry-test.true c.loop-entry.invariant (sym c.get.ensures ∙ c.in-Some.is)
    (λ same. absurd (let t = c.if-ne.true in let e = c.ne.ensures in grind arith))

pub returns-clause-no : goal.returns-clause-no
returns-clause-no c = λ _. none_two c.args.entries.now c.loop-entry.entry-index (number_at c.loop-entry.values) c.loop-entry.invariant (omega (arith, c.loop-entry-test.false))

pub loop-entry-preserved : goal.loop-entry-preserved
loop-entry-preserved c =
    value_at c.args.entries.now c.loop-entry.entry-index _ (number_at c.loop-entry.values) (number_at c.set.new.self) c.loop-entry-test.true c.loop-entry.invariant
    (λ v is. elim c.match-get.branch [
      | in-Some+else-ne w ↦ (let same = sym w.in-Some.is ∙ c.get.ensures ∙ is in
          let t = w.if-ne.false in
          let e = w.ne.ensures in
          grind arith)
      | in_default w ↦ absurd (let none = w.in_default in let old = c.get.ensures in grind arith)
    ])
    (set_same _ _ _ _ c.in_ok-set.ensures)
    (set_other _ _ _ _ c.in_ok-set.ensures)
