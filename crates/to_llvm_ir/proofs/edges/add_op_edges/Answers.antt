-- An operation that is none of a block stands at no spot.
use Rattle.std.proofs.Common.{◌∙◌, refl, sym}
use Rattle.std.proofs.lemmas.Option.{none-some}
use Rattle.to_llvm_ir.specs.States.{Spot}
use Rattle.to_llvm_ir.proofs.OpLaws.{nowhere}
use Rattle.to_llvm_ir.proofs.edges.add_op_edges.Goals as goal

pub returns-then-not-is_block_op : goal.returns-then-not-is_block_op
returns-then-not-is_block_op c =
    let never = λ (s : Spot). nowhere c.args.ctx.now c.args.op s (c.is_block_op.ensures.no c.if-not-is_block_op.true) in
    record {
      skipped = λ _. (refl, refl);
      ok = λ s _ h. absurd (never s h.spot);
      fits = λ s _ h. absurd (never s h.spot);
      equal = λ s _ h. absurd (never s h.spot);
      cause = λ s _ h. absurd (never s h.spot);
    }

pub link_edges-requires-clause-next : goal.link_edges-requires-clause-next
link_edges-requires-clause-next c = let o = c.is_block_op.ensures.yes c.if-not-is_block_op.false in c.requires.next o.0 o.1

pub returns-clause-skipped : goal.returns-clause-skipped
returns-clause-skipped c = λ none. let o = c.is_block_op.ensures.yes c.if-not-is_block_op.false in absurd (none-some o.0 (sym none ∙ o.1))
