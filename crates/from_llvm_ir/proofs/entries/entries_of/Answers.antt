-- What `entries::entries_of` owes besides what the check finds.
use Rattle.std.proofs.lemmas.Option.{slice_get-get_or}
use Rattle.from_llvm_ir.proofs.SourceLaws.{function_within}
use Rattle.from_llvm_ir.proofs.EntryLaws.{noted_block, noted_all}
use Rattle.from_llvm_ir.proofs.entries.entries_of.Goals as goal

pub blocks-b-items-requires : goal.blocks-b-items-requires
blocks-b-items-requires c = function_within c.args.source.now c.args.f c.requires.0 c.requires.1

pub loop-b-preserved : goal.loop-b-preserved
loop-b-preserved c = record {
  right = c.in_ok-note_insts.ensures.right;
  noted = noted_block c.args.source.now c.loop-b.noted c.note_insts.new.noted c.blocks-b-items.result.now c.loop-b.b-index _ c.instructions.result.now c.loop-b.invariant.noted (slice_get-get_or c.blocks-b-items.result.now c.loop-b.b-index _ c.loop-b-test.true)
      c.instructions.ensures.insts c.in_ok-note_insts.ensures.noted c.in_ok-note_insts.ensures.kept;
}

pub returns : goal.returns
returns c = λ g h. noted_all c.args.source.now c.args.f g c.loop-b.noted c.blocks-b-items.result.now c.loop-b.b-index h c.blocks-b-items.ensures.blocks c.loop-b-test.false c.loop-b.invariant.noted
