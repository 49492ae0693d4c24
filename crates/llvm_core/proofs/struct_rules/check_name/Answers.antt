-- The goals of `struct_rules::check_name` that the tactics leave.
use Rattle.std.proofs.Common.{◌∙◌, sym}
use Rattle.llvm_core.specs.declared.structs.StructData.{StructData}
use Rattle.llvm_core.proofs.CheckLemmas.{name_added, struct_taken, struct_fresh}
use Rattle.llvm_core.proofs.struct_rules.check_name.Goals as goal

pub returns-then-not-branch-clause-err : goal.returns-then-not-branch-clause-err
returns-then-not-branch-clause-err c =
    let there = rw (c.if-not-branch.true, c.requires.seen) at c.in_ok-insert.ensures in
    struct_taken c.args.m.now c.args.s.0 _ c.struct_name-name.ensures there

pub returns-clause-seen : goal.returns-clause-seen
returns-clause-seen c =
    let new = rw (c.if-not-branch.false, c.requires.seen) at c.in_ok-insert.ensures in
    new.0 ∙ name_added (λ (x : StructData). x.name) c.args.m.now.structs c.args.s.0 _ c.struct_name-name.ensures

pub returns-clause-ok : goal.returns-clause-ok
returns-clause-ok c =
    let new = rw (c.if-not-branch.false, c.requires.seen) at c.in_ok-insert.ensures in
    struct_fresh c.args.m.now c.args.s.0 _ c.struct_name-name.ensures (sym c.if-is_bad_name.ensures) new.1
