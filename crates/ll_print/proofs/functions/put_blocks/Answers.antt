-- The function owns its first block, and those behind it.
use Rattle.std.proofs.Common.{subst}
use Rattle.std.specs.Prelude.{All}
use Rattle.std.proofs.lemmas.List.Elements.{All-head, All-rest}
use Rattle.ll_print.specs.Parts.{OwnsBlock}
use Rattle.ll_print.proofs.functions.put_blocks.Goals as goal

pub put_entry_block-requires-clause-own : goal.put_entry_block-requires-clause-own
put_entry_block-requires-clause-own c =
    let own = OwnsBlock c.args.m.now c.args.numbers.now.function in
    All-head own c.in-Some.entry.now c.in-Some.more.now (subst (All own) c.in-Some.ensures.cases.0 c.requires.own)

pub put_later_blocks-requires-clause-own : goal.put_later_blocks-requires-clause-own
put_later_blocks-requires-clause-own c =
    All-rest (OwnsBlock c.args.m.now c.args.numbers.now.function) c.in-Some.entry.now c.in-Some.more.now c.args.blocks.now c.in-Some.ensures.cases.0 c.requires.own
