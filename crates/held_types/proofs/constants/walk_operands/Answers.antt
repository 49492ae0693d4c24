-- What `constants::walk_operands` owes besides what the check finds.
use Rattle.std.proofs.Common.{◌+◌, List, take, subst}
use Rattle.std.proofs.lemmas.List.{take_all}
use Rattle.llvm_core.specs.declared.code.LLVMValue.{LLVMValue}
use Rattle.llvm_core.specs.declared.code.LLVMValue.TheVariants as V
use Rattle.held_types.specs.Values.{IsInConstant}
use Rattle.held_types.specs.Walk.{IsOfOne, Walked}
use Rattle.held_types.proofs.WalkLaws.{passed_on, cause_as, walked_both}
use Rattle.held_types.proofs.InsideLaws.{one_here, one_split, one_more, one_last}
use Rattle.held_types.proofs.constants.walk_operands.Goals as goal

pub returns-in_err-walk_constant-clause-cause : goal.returns-in_err-walk_constant-clause-cause
returns-in_err-walk_constant-clause-cause c =
    let P = IsInConstant c.args.m.now in
    let xs = c.args.values.now in
    let e = c.in_err-walk_constant.field-0.0 in
    passed_on c.from_residual.result e _ c.from_residual.ensures.1
    (cause_as (P _) (IsOfOne P xs) (one_here P xs c.loop-value.value-index (V.Const (record { 0 = 0 })) c.loop-value-test.true) e c.in_err-walk_constant.ensures.cause)

pub loop-value-preserved : goal.loop-value-preserved
loop-value-preserved c =
    let m = c.args.m.now in
    let P = IsInConstant m in
    let xs = c.args.values.now in
    let i = c.loop-value.value-index in
    let d = V.Const (record { 0 = 0 }) in
    let lt = c.loop-value-test.true in
    walked_both m (IsOfOne P (take i xs)) (P _) (IsOfOne P (take (i + 1) xs)) c.args.walk.now c.loop-value.walk c.walk_constant.new.walk c.loop-value.invariant c.in_ok-walk_constant.ensures.walk
    (one_split P xs i d lt) (one_more P xs i d lt) (one_last P xs i d lt)

pub returns-clause-walk : goal.returns-clause-walk
returns-clause-walk c =
    let m = c.args.m.now in
    let xs = c.args.values.now in
    let whole = take_all c.loop-value.value-index xs c.loop-value-test.false in
    subst (λ (ys : List LLVMValue). Walked m (IsOfOne (IsInConstant m) ys) c.args.walk.now c.loop-value.walk) whole c.loop-value.invariant
