-- What `run::first` owes besides what the check finds.
use Rattle.std.proofs.Common.{List, All, Some, ◌≡◌, length, slice_get, subst, sym, ap, ◌∙◌}
use Rattle.support.proofs.ResultLaws.{handed_on}
use Rattle.llvm_core.specs.Data.{TypeTree}
use Rattle.llvm_core.proofs.DataLemmas.{within_at}
use Rattle.tracing.specs.Table.{AreTyped}
use Rattle.tracing.specs.Contents.{Contents, over}
use Rattle.tracing.specs.declared.body.Block.{Block}
use Rattle.tracing.specs.declared.body.Row.{Row}
use Rattle.meaning.specs.Machine as M
use Rattle.tracing.specs.declared.body.Slot.{Slot}
use Rattle.tracing.specs.Bodies.{same_slot, start_of, code_of, IsKnownRow, IsKnownBlock}
use Rattle.tracing.specs.Runs.{IsAt}
use Rattle.tracing.proofs.MoveLaws.{first_is, first_none}
use Rattle.tracing.proofs.run.first.Goals as goal

-- the rows of the first block are known where all blocks are
first_known : (now : Contents) (bs : List Block) (b : Block) (rows : List Row) → slice_get bs 0 ≡ Some b → rows ≡ b.rows → All (IsKnownBlock now) bs → All (IsKnownRow now) rows
first_known now bs b rows here is known = subst (All (IsKnownRow now)) (sym is) (within_at bs (IsKnownBlock now) known 0 b here).0

pub arrive-requires : goal.arrive-requires
arrive-requires c =
    let r = c.requires in
    let now = over r.0 c.args.terms in
    let here = ap (λ (bs : List Block). slice_get bs 0) (sym c.as_slice.ensures) ∙ sym c.in-Some.ensures.value in
    (now, _, first_known now _ c.in-Some.block.now _ here c.as_slice-in-Some.ensures r.2, c.in_ok-run.ensures r.0 r.1)

pub returns-in-Some : goal.returns-in-Some
returns-in-Some c =
    let start = start_of c.args.holder c.args.inputs in
    let code = c.args.code.now in
    let here = ap (λ (bs : List Block). slice_get bs 0) (sym c.as_slice.ensures) ∙ sym c.in-Some.ensures.value in
    let arrived = rw c.as_slice-in-Some.ensures at c.arrive.ensures in
    rw c.and.ensures
    (handed_on c.arrive.result c.arrive.new.run (λ r. (trees : List TypeTree) → AreTyped (length trees) c.args.terms → All (IsKnownBlock (over trees c.args.terms)) code.blocks → IsAt (over trees c.args.terms) r (M.first Slot same_slot start (code_of (over trees c.args.terms) code.params code.blocks))) _
    (λ f trees typed known.
    let now = over trees c.args.terms in
    subst (IsAt now c.arrive.new.run) (sym (first_is now start _ _ c.in-Some.block.now here)) (f now _ (within_at code.blocks (IsKnownBlock now) known 0 c.in-Some.block.now here).0 (c.in_ok-run.ensures trees typed)))
    arrived)

pub returns-in-None : goal.returns-in-None
returns-in-None c = λ trees typed known.
    let now = over trees c.args.terms in
    let here = ap (λ (bs : List Block). slice_get bs 0) (sym c.as_slice.ensures) ∙ sym c.in-None.ensures.value in
    subst (IsAt now c.in_ok-run.run') (sym (first_none now _ _ _ here)) (c.in_ok-run.ensures trees typed)
