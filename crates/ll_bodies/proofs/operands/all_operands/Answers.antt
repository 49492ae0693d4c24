-- What `operands::all_operands` owes besides what the check finds.
use Rattle.std.proofs.Common.{◌≡◌, ◌+◌, suc, arith}
use Rattle.std.proofs.lemmas.Option.{slice_get-get_or}
use Rattle.llvm_core.specs.Data.{operand_of}
use Rattle.ll_lines.specs.Lines.{Typed}
use Rattle.ll_bodies.specs.Meaning.{operand}
use Rattle.ll_bodies.specs.SourceViews.{structs_in, typed_in, source_trees}
use Rattle.ll_bodies.proofs.ErrLaws.{passed_on}
use Rattle.ll_bodies.proofs.ListLaws.{done_more, done_all, done_refused}
use Rattle.ll_bodies.proofs.operands.all_operands.Goals as goal

pub loop-x-preserved : goal.loop-x-preserved
loop-x-preserved c = λ s knows.
    let source = c.args.source.now in
    let at = c.loop-x.x-index in
    let next : at + 1 ≡ suc at = omega arith in
    let here = slice_get-get_or c.args.typed.now at _ c.loop-x-test.true in
    rw c.in_ok-push.ensures.ok (done_more (typed_in source) (λ (x : Typed). operand (structs_in source) s x.type x.said) (operand_of (source_trees source)) c.args.typed.now at (at + 1) c.loop-x.values _ c.in_ok-value.value here next (c.in_ok-value.ensures.ok s knows) (c.loop-x.invariant s knows))

pub returns-in_err-value-clause-not_yet : goal.returns-in_err-value-clause-not_yet
returns-in_err-value-clause-not_yet c = λ e s knows.
    let source = c.args.source.now in
    let at = c.loop-x.x-index in
    let x = c.in_err-value in
    let here = slice_get-get_or c.args.typed.now at _ c.loop-x-test.true in
    let none = x.ensures.not_yet (passed_on c.from_residual.result x.field-0.0 c.from_residual.ensures.1 e) s knows in
    done_refused (typed_in source) (λ (x : Typed). operand (structs_in source) s x.type x.said) (operand_of (source_trees source)) c.args.typed.now at c.loop-x.values _ here none (c.loop-x.invariant s knows)

pub returns-clause-ok : goal.returns-clause-ok
returns-clause-ok c = λ s knows.
    let source = c.args.source.now in
    done_all (typed_in source) (λ (x : Typed). operand (structs_in source) s x.type x.said) (operand_of (source_trees source)) c.args.typed.now c.loop-x.x-index c.loop-x.values c.loop-x-test.false (c.loop-x.invariant s knows)
