-- What `entries::note_insts` owes besides what the check finds.
use Rattle.std.proofs.Common.{ℕ, arith}
use Rattle.std.proofs.lemmas.Option.{slice_get-get_or, slice_get_within}
use Rattle.llvm_core.specs.declared.numbers.LLVMInstRef.{LLVMInstRef}
use Rattle.from_llvm_ir.specs.Source.{IsNotedOf}
use Rattle.from_llvm_ir.proofs.UseLaws.{below_next}
use Rattle.from_llvm_ir.proofs.entries.note_insts.Goals as goal

pub note_inst-requires-clause-within : goal.note_inst-requires-clause-within
note_inst-requires-clause-within c = c.requires.within c.loop-i.i-index _ c.loop-i-test.true

pub note_inst-requires-clause-right : goal.note_inst-requires-clause-right
note_inst-requires-clause-right c = c.loop-i.invariant.right

pub loop-i-init : goal.loop-i-init
loop-i-init c = record { right = c.requires.right; noted = λ j q before at. absurd (omega (arith, before)); kept = λ q h. h }

pub loop-i-preserved : goal.loop-i-preserved
loop-i-preserved c = record {
  right = c.in_ok-note_inst.ensures.right;
  noted = below_next (λ (j : ℕ) (q : LLVMInstRef). IsNotedOf c.args.source.now c.note_inst.new.noted q) c.args.insts.now c.loop-i.i-index _
      (slice_get-get_or c.args.insts.now c.loop-i.i-index _ c.loop-i-test.true)
      (λ j q before at. c.in_ok-note_inst.ensures.kept q (c.loop-i.invariant.noted j q before at)) c.in_ok-note_inst.ensures.noted;
  kept = λ q h. c.in_ok-note_inst.ensures.kept q (c.loop-i.invariant.kept q h);
}

pub returns-clause-right : goal.returns-clause-right
returns-clause-right c = c.loop-i.invariant.right

pub returns-clause-noted : goal.returns-clause-noted
returns-clause-noted c = λ j q at. c.loop-i.invariant.noted j q (omega (arith, slice_get_within c.args.insts.now j q at, c.loop-i-test.false)) at

pub returns-clause-kept : goal.returns-clause-kept
returns-clause-kept c = c.loop-i.invariant.kept
