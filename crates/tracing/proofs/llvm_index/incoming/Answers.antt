-- What `llvm_index::incoming` owes besides what the check finds.
use Rattle.std.proofs.Common.{sym, ap, subst}
use Rattle.std.proofs.lemmas.List.{take_all}
use Rattle.tracing.specs.Tables.{contents_in}
use Rattle.tracing.specs.Bodies.{IsGiven}
use Rattle.tracing.proofs.TablesLaws.{grown_then}
use Rattle.tracing.proofs.IndexLaws.{taken_of, taken_step, some_entry}
use Rattle.tracing.proofs.llvm_index.incoming.Goals as goal

pub loop-entry-preserved : goal.loop-entry-preserved
loop-entry-preserved c = record {
  at = λ from.
      subst (IsGiven (contents_in c.note_entry.new.tables) _) (sym (taken_step c.args.m.now from c.args.entries.now c.loop-entry.entry-index some_entry c.loop-entry-test.true))
      (c.in_ok-note_entry.ensures.takes from _ (c.loop-entry.invariant.at from));
  grown = grown_then _ _ _ _ c.loop-entry.invariant.grown c.in_ok-note_entry.ensures.grown;
}

pub returns-clause-takes : goal.returns-clause-takes
returns-clause-takes c = λ from.
    subst (IsGiven (contents_in c.loop-entry.tables) _) (ap (taken_of c.args.m.now from) (take_all c.loop-entry.entry-index c.args.entries.now c.loop-entry-test.false)) (c.loop-entry.invariant.at from)
