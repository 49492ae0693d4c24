-- The goals of `checking::check_function_name` that the tactics leave.
use Rattle.std.proofs.Common.{◌∙◌, sym}
use Rattle.llvm_core.specs.declared.code.FunctionData.{FunctionData}
use Rattle.llvm_core.proofs.CheckLemmas.{name_taken, name_added, name_fresh}
use Rattle.llvm_core.proofs.checking.check_function_name.Goals as goal

pub returns-then-not-branch-clause-err : goal.returns-then-not-branch-clause-err
returns-then-not-branch-clause-err c =
    let there = rw (c.if-not-branch.true, c.requires.seen) at c.in_ok-insert.ensures in
    name_taken c.args.m.now c.args.f.0 _ c.function_name-name.ensures there

pub returns-clause-seen : goal.returns-clause-seen
returns-clause-seen c =
    let new = rw (c.if-not-branch.false, c.requires.seen) at c.in_ok-insert.ensures in
    new.0 ∙ name_added (λ (x : FunctionData). x.name) c.args.m.now.functions c.args.f.0 _ c.function_name-name.ensures

pub returns-clause-ok : goal.returns-clause-ok
returns-clause-ok c =
    let new = rw (c.if-not-branch.false, c.requires.seen) at c.in_ok-insert.ensures in
    name_fresh c.args.m.now c.args.f.0 _ c.function_name-name.ensures (sym c.if-is_bad_name.ensures) new.1
