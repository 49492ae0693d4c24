-- What `entries::first_for` owes besides what the check finds.
use Rattle.std.proofs.Common.{eq-eqb, ne_eqb}
use Rattle.std.proofs.lemmas.Option.{slice_get-get_or}
use Rattle.from_llvm_ir.proofs.EntryLaws.{first_at, first_none}
use Rattle.from_llvm_ir.proofs.entries.first_for.Goals as goal

pub returns-then-entry-from : goal.returns-then-entry-from
returns-then-entry-from c =
    first_at c.args.from c.args.entries.now c.loop-entry.entry-index _ (slice_get-get_or c.args.entries.now c.loop-entry.entry-index _ c.loop-entry-test.true) c.loop-entry.invariant (eq-eqb _ _ c.if-entry-from.true)

pub loop-entry-preserved : goal.loop-entry-preserved
loop-entry-preserved c =
    first_none c.args.from c.args.entries.now c.loop-entry.entry-index _ (slice_get-get_or c.args.entries.now c.loop-entry.entry-index _ c.loop-entry-test.true) c.loop-entry.invariant (ne_eqb _ _ c.if-entry-from.false)
