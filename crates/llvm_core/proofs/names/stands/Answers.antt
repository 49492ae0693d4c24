-- The goals of `names::stands` that the tactics leave.
use Rattle.std.proofs.Common.{◌∙◌, sym, below_more, arith}
use Rattle.std.proofs.lemmas.Option.{slice_get_within}
use Rattle.llvm_core.specs.Names.{texts}
use Rattle.llvm_core.proofs.NameLemmas.{stands_here, unlike_here, unlike_length, length-texts}
use Rattle.llvm_core.proofs.names.stands.Goals as goal
use Rattle.llvm_core.proofs.names.stands.Goals.{else-other-name-via-then-other-name+else-eq, else-other-name-via-else-other-name}

pub returns-then-eq-clause-yes : goal.returns-then-eq-clause-yes
returns-then-eq-clause-yes c = λ _. stands_here c.args.names.now c.loop-other.other-index _ c.args.name.now c.loop-other-test.true (sym c.eq.ensures ∙ c.if-eq.true)

pub loop-other-preserved : goal.loop-other-preserved
loop-other-preserved c = below_more _ _ c.loop-other.invariant (elim c.else-other-name.branch [
  | else-other-name-via-then-other-name+else-eq w ↦ unlike_here c.args.names.now c.loop-other.other-index _ c.args.name.now c.loop-other-test.true (sym w.eq.ensures ∙ w.if-eq.false)
  | else-other-name-via-else-other-name w ↦ unlike_length c.args.names.now c.loop-other.other-index _ c.args.name.now c.loop-other-test.true w.if-other-name.false
])

pub returns-clause-no : goal.returns-clause-no
returns-clause-no c = λ _ s.
    let names = c.args.names.now in
    c.loop-other.invariant s.0 (omega (arith, slice_get_within (texts names) s.0 c.args.name.now s.1, length-texts names, c.loop-other-test.false)) s.1
