-- What `constants::walk_entries` owes besides what the check finds.
use Rattle.std.proofs.Common.{◌+◌, List, get_or, take, subst}
use Rattle.std.proofs.lemmas.List.{take_all}
use Rattle.llvm_core.specs.declared.code.LLVMValue.TheVariants as V
use Rattle.llvm_core.specs.declared.code.PhiEntry.{PhiEntry}
use Rattle.held_types.specs.Values.{IsInEntry}
use Rattle.held_types.specs.Walk.{IsOfOne, Walked}
use Rattle.held_types.proofs.WalkLaws.{passed_on, cause_as, walked_both}
use Rattle.held_types.proofs.InsideLaws.{one_here, one_split, one_more, one_last}
use Rattle.held_types.proofs.constants.walk_entries.Goals as goal

pub returns-in_err-walk_constant-clause-cause : goal.returns-in_err-walk_constant-clause-cause
returns-in_err-walk_constant-clause-cause c =
    let P = IsInEntry c.args.m.now in
    let xs = c.args.entries.now in
    let i = c.loop-entry.entry-index in
    let d : PhiEntry = record { value = V.Const (record { 0 = 0 }); block = record { 0 = 0 } } in
    let e = c.in_err-walk_constant.field-0.0 in
    passed_on c.from_residual.result e _ c.from_residual.ensures.1
    (cause_as (P (get_or xs i d)) (IsOfOne P xs) (one_here P xs i d c.loop-entry-test.true) e c.in_err-walk_constant.ensures.cause)

pub loop-entry-preserved : goal.loop-entry-preserved
loop-entry-preserved c =
    let m = c.args.m.now in
    let P = IsInEntry m in
    let xs = c.args.entries.now in
    let i = c.loop-entry.entry-index in
    let d : PhiEntry = record { value = V.Const (record { 0 = 0 }); block = record { 0 = 0 } } in
    let lt = c.loop-entry-test.true in
    walked_both m (IsOfOne P (take i xs)) (P (get_or xs i d)) (IsOfOne P (take (i + 1) xs)) c.args.walk.now c.loop-entry.walk c.walk_constant.new.walk c.loop-entry.invariant c.in_ok-walk_constant.ensures.walk
    (one_split P xs i d lt) (one_more P xs i d lt) (one_last P xs i d lt)

pub returns-clause-walk : goal.returns-clause-walk
returns-clause-walk c =
    let m = c.args.m.now in
    let xs = c.args.entries.now in
    let whole = take_all c.loop-entry.entry-index xs c.loop-entry-test.false in
    subst (λ (ys : List PhiEntry). Walked m (IsOfOne (IsInEntry m) ys) c.args.walk.now c.loop-entry.walk) whole c.loop-entry.invariant
