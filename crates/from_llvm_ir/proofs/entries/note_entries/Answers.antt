-- What `entries::note_entries` owes besides what the check finds.
use Rattle.std.proofs.lemmas.Option.{slice_get-get_or}
use Rattle.from_llvm_ir.proofs.EntryLaws.{noted_more}
use Rattle.from_llvm_ir.proofs.entries.note_entries.Goals as goal

pub loop-entry-preserved : goal.loop-entry-preserved
loop-entry-preserved c =
    noted_more c.args.noted.now c.loop-entry.noted c.note.new.self c.args.phi c.args.entries.now c.loop-entry.entry-index _ (slice_get-get_or c.args.entries.now c.loop-entry.entry-index _ c.loop-entry-test.true) c.loop-entry.invariant c.in_ok-note.ensures
