-- One or two values are found at their places.
use Rattle.std.proofs.Common.{◌≡◌, ◌<◌, Some, length, arith}
use Rattle.std.proofs.lemmas.Option.{slice_get-get_or}
use Rattle.llvm_core.specs.declared.code.LLVMValue.{LLVMValue}
use Rattle.dialect_core.specs.declared.ops.Value.{Value}
use Rattle.from_llvm_ir.specs.Values.{value_at}
use Rattle.held_types.proofs.WalkLaws.{passed_on}
use Rattle.from_llvm_ir.proofs.ForwardLaws.{forward_at}
use Rattle.from_llvm_ir.proofs.ListLaws.{matched_one, matched_two}
use Rattle.from_llvm_ir.proofs.values.known_values.Goals as goal

pub returns-in_err-known_value-in-len1-clause-err : goal.returns-in_err-known_value-in-len1-clause-err
returns-in_err-known_value-in-len1-clause-err c =
    let used = c.args.used.now in
    let some = c.in-len1.len_at_least in
    let lt : 0 < length used = omega (arith, some) in
    passed_on c.from_residual.result c.in_err-known_value-in-len1.field-0.0 _ c.from_residual.ensures.1
    (forward_at c.args.source.now c.args.values.now used 0 _ c.in_err-known_value-in-len1.field-0.0 (slice_get-get_or used 0 _ lt) c.in_err-known_value-in-len1.ensures.err)

pub returns-in_err-first-in-len2-clause-err : goal.returns-in_err-first-in-len2-clause-err
returns-in_err-first-in-len2-clause-err c =
    let used = c.args.used.now in
    let some = c.in-len2.len_at_least in
    let lt : 0 < length used = omega (arith, some) in
    passed_on c.from_residual-in_err-first-in-len2.result c.in_err-first-in-len2.field-0.0 _ c.from_residual-in_err-first-in-len2.ensures.1
    (forward_at c.args.source.now c.args.values.now used 0 _ c.in_err-first-in-len2.field-0.0 (slice_get-get_or used 0 _ lt) c.in_err-first-in-len2.ensures.err)

pub returns-in_err-second-in-len2-clause-err : goal.returns-in_err-second-in-len2-clause-err
returns-in_err-second-in-len2-clause-err c =
    let used = c.args.used.now in
    let some = c.in-len2.len_at_least in
    let lt : 1 < length used = omega (arith, some) in
    passed_on c.from_residual-in_err-second-in-len2.result c.in_err-second-in-len2.field-0.0 _ c.from_residual-in_err-second-in-len2.ensures.1
    (forward_at c.args.source.now c.args.values.now used 1 _ c.in_err-second-in-len2.field-0.0 (slice_get-get_or used 1 _ lt) c.in_err-second-in-len2.ensures.err)

pub returns-in_ok-known_value-in-len1-clause-ok : goal.returns-in_ok-known_value-in-len1-clause-ok
returns-in_ok-known_value-in-len1-clause-ok c =
    let used = c.args.used.now in
    let some = c.in-len1.len_at_least in
    let few = c.in-len1.len_below in
    let one : length used ≡ 1 = omega (arith, some, few) in
    matched_one (λ (v : LLVMValue) (w : Value). value_at c.args.values.now v ≡ Some w) used _ c.one.result c.in_ok-known_value-in-len1.field-0 one c.one.ensures c.in_ok-known_value-in-len1.ensures.ok

pub returns-in_ok-second-in-len2-clause-ok : goal.returns-in_ok-second-in-len2-clause-ok
returns-in_ok-second-in-len2-clause-ok c =
    let used = c.args.used.now in
    let some = c.in-len2.len_at_least in
    let few = c.in-len2.len_below in
    let two : length used ≡ 2 = omega (arith, some, few) in
    matched_two (λ (v : LLVMValue) (w : Value). value_at c.args.values.now v ≡ Some w) used _ _ c.two.result c.in_ok-first-in-len2.first c.in_ok-second-in-len2.second two c.two.ensures c.in_ok-first-in-len2.ensures.ok c.in_ok-second-in-len2.ensures.ok
