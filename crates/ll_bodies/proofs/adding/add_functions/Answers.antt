-- What `adding::add_functions` owes besides what the check finds.
use Rattle.std.proofs.Common.{◌≡◌, ◌+◌, Some, length, slice_get, refl, arith}
use Rattle.std.proofs.lemmas.Option.{slice_get_read}
use Rattle.llvm_core.proofs.DataLemmas.{within_at}
use Rattle.ll_lines.specs.Views.{IsFunctionIn}
use Rattle.ll_bodies.proofs.ErrLaws.{passed_on}
use Rattle.ll_bodies.proofs.ViewLaws.{table_kept, function_kept, meant_kept}
use Rattle.ll_bodies.proofs.FoldLaws.{added_none, added_more, added_refused}
use Rattle.ll_bodies.proofs.BitsLaws.{needed_kept}
use Rattle.ll_bodies.proofs.adding.add_functions.Goals as goal

pub loop-function-preserved : goal.loop-function-preserved
loop-function-preserved c =
    let m = c.args.module.now in
    let xs = c.args.functions.now in
    let at = c.loop-function.function-index in
    let here : slice_get xs at ≡ Some c.function-item.result = slice_get_read xs _ at _ refl c.loop-function-test.true c.function-item.is in
    let there = within_at xs (IsFunctionIn m (length c.args.shared.now.table.now)) c.requires.said at c.function-item.result here in
    let added = c.in_ok-add_function.ensures.ok in (
      added_more c.args.shared.now.bytes.now c.args.shared.now.table.now m xs c.requires.sound at c.loop-function.module c.function-item.result here c.requires.table there c.loop-function.invariant.0 c.add_function.new.module (at + 1) (omega arith) added,
      needed_kept c.loop-function.module c.add_function.new.module _ _ _ added.keeps.more added.keeps.types added.vectors c.loop-function.invariant.1,
    )

pub loop-function-init : goal.loop-function-init
loop-function-init c =
    let o = c.in_ok-types.ensures in
    (added_none c.args.shared.now.bytes.now c.args.shared.now.table.now c.args.module.now c.args.functions.now c.needed_types.new.module o.grows o.sound, o.needed)

pub returns-in_err-add_function-clause-not_yet : goal.returns-in_err-add_function-clause-not_yet
returns-in_err-add_function-clause-not_yet c = λ e.
    let m = c.args.module.now in
    let xs = c.args.functions.now in
    let at = c.loop-function.function-index in
    let x = c.in_err-add_function in
    let here : slice_get xs at ≡ Some c.function-item.result = slice_get_read xs _ at _ refl c.loop-function-test.true c.function-item.is in
    let there = within_at xs (IsFunctionIn m (length c.args.shared.now.table.now)) c.requires.said at c.function-item.result here in
    added_refused c.args.shared.now.bytes.now c.args.shared.now.table.now m xs c.requires.sound at c.loop-function.module c.function-item.result here c.requires.table there c.loop-function.invariant.0
    (x.ensures.not_yet (passed_on c.from_residual-in_err-add_function.result x.field-0.0 c.from_residual-in_err-add_function.ensures.1 e))

pub add_function-requires-clause-table : goal.add_function-requires-clause-table
add_function-requires-clause-table c = table_kept c.args.module.now c.loop-function.module c.loop-function.invariant.0.keeps c.args.shared.now.table.now c.requires.table

pub add_function-requires-clause-made : goal.add_function-requires-clause-made
add_function-requires-clause-made c =
    let s = c.args.shared.now in
    meant_kept s.bytes.now c.args.module.now c.loop-function.module c.loop-function.invariant.0.keeps c.requires.sound s.table.now c.requires.table (length s.table.now) s.consts.now c.requires.made

pub add_function-requires-clause-said : goal.add_function-requires-clause-said
add_function-requires-clause-said c =
    let m = c.args.module.now in
    let xs = c.args.functions.now in
    let at = c.loop-function.function-index in
    let made = length c.args.shared.now.table.now in
    let here : slice_get xs at ≡ Some c.function-item.result = slice_get_read xs _ at _ refl c.loop-function-test.true c.function-item.is in
    function_kept m c.loop-function.module c.loop-function.invariant.0.keeps made c.function-item.result (within_at xs (IsFunctionIn m made) c.requires.said at c.function-item.result here)
