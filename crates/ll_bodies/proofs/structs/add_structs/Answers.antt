-- What `structs::add_structs` owes besides what the check finds.
use Rattle.std.proofs.Common.{◌≡◌, ◌+◌, Some, slice_get, refl, sym, subst, arith}
use Rattle.std.proofs.lemmas.Option.{slice_get_read}
use Rattle.llvm_core.specs.Module.{Module}
use Rattle.llvm_core.proofs.DataLemmas.{within_at}
use Rattle.ll_lines.specs.Views.{IsStructIn}
use Rattle.ll_bodies.proofs.ErrLaws.{passed_on}
use Rattle.ll_bodies.proofs.StructLaws.{added_none, added_more, added_refused, added_all}
use Rattle.ll_bodies.proofs.structs.add_structs.Goals as goal

pub loop-said-init : goal.loop-said-init
loop-said-init c = added_none c.args.bytes.now c.args.module.now c.args.structs.now c.requires.sound

pub add_struct-requires : goal.add_struct-requires
add_struct-requires c =
    let xs = c.args.structs.now in
    let at = c.loop-said.said-index in
    let here : slice_get xs at ≡ Some c.said-item.result = slice_get_read xs _ at _ refl c.loop-said-test.true c.said-item.is in
    let there = within_at xs (IsStructIn c.args.module.now) c.requires.said at c.said-item.result here in
    subst (λ (k : Module). IsStructIn k c.said-item.result) (sym c.loop-said.invariant.rest) there

pub loop-said-preserved : goal.loop-said-preserved
loop-said-preserved c =
    let xs = c.args.structs.now in
    let at = c.loop-said.said-index in
    let here : slice_get xs at ≡ Some c.said-item.result = slice_get_read xs _ at _ refl c.loop-said-test.true c.said-item.is in
    added_more c.args.bytes.now c.args.module.now xs at c.loop-said.module c.said-item.result here c.loop-said.invariant c.add_struct.new.module (at + 1) (omega arith) c.in_ok-add_struct.ensures.ok

pub returns-clause-ok : goal.returns-clause-ok
returns-clause-ok c = added_all c.args.bytes.now c.args.module.now c.args.structs.now c.loop-said.said-index c.loop-said.module c.loop-said-test.false c.loop-said.invariant

pub returns-in_err-add_struct-clause-not_yet : goal.returns-in_err-add_struct-clause-not_yet
returns-in_err-add_struct-clause-not_yet c = λ e.
    let xs = c.args.structs.now in
    let at = c.loop-said.said-index in
    let x = c.in_err-add_struct in
    let here : slice_get xs at ≡ Some c.said-item.result = slice_get_read xs _ at _ refl c.loop-said-test.true c.said-item.is in
    added_refused c.args.bytes.now c.args.module.now xs at c.loop-said.module c.said-item.result here c.loop-said.invariant
    (x.ensures.not_yet (passed_on c.from_residual.result x.field-0.0 c.from_residual.ensures.1 e))
