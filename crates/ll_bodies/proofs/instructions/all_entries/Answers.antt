-- What `instructions::all_entries` owes besides what the check finds.
use Rattle.std.proofs.Common.{◌≡◌, ◌+◌, suc, arith}
use Rattle.std.proofs.lemmas.Option.{slice_get-get_or}
use Rattle.llvm_core.specs.Data.{type_at, entry_of}
use Rattle.ll_bodies.specs.Meaning.{entry}
use Rattle.ll_bodies.specs.SourceViews.{structs_in, types_in, entry_in, source_trees}
use Rattle.ll_bodies.proofs.ErrLaws.{passed_on}
use Rattle.ll_bodies.proofs.ListLaws.{done_more, done_all, done_refused}
use Rattle.ll_bodies.proofs.instructions.all_entries.Goals as goal

pub loop-x-preserved : goal.loop-x-preserved
loop-x-preserved c = λ s knows.
    let source = c.args.source.now in
    let at = c.loop-x.x-index in
    let next : at + 1 ≡ suc at = omega arith in
    let here = slice_get-get_or c.args.said.now at _ c.loop-x-test.true in
    rw c.in_ok-push.ensures.ok (done_more (entry_in source) (entry (structs_in source) s (type_at (types_in source) c.args.ty)) (entry_of (source_trees source)) c.args.said.now at (at + 1) c.loop-x.made _ c.in_ok-found.found here next (c.in_ok-found.ensures.ok s knows) (c.loop-x.invariant s knows))

pub returns-in_err-found-clause-not_yet : goal.returns-in_err-found-clause-not_yet
returns-in_err-found-clause-not_yet c = λ e s knows.
    let source = c.args.source.now in
    let at = c.loop-x.x-index in
    let x = c.in_err-found in
    let here = slice_get-get_or c.args.said.now at _ c.loop-x-test.true in
    let none = x.ensures.not_yet (passed_on c.from_residual.result x.field-0.0 c.from_residual.ensures.1 e) s knows in
    done_refused (entry_in source) (entry (structs_in source) s (type_at (types_in source) c.args.ty)) (entry_of (source_trees source)) c.args.said.now at c.loop-x.made _ here none (c.loop-x.invariant s knows)

pub returns-clause-ok : goal.returns-clause-ok
returns-clause-ok c = λ s knows.
    let source = c.args.source.now in
    done_all (entry_in source) (entry (structs_in source) s (type_at (types_in source) c.args.ty)) (entry_of (source_trees source)) c.args.said.now c.loop-x.x-index c.loop-x.made c.loop-x-test.false (c.loop-x.invariant s knows)
