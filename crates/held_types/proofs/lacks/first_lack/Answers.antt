-- What `lacks::first_lack` owes besides what the check finds.
use Rattle.std.proofs.Common.{ℕ, All, Option, get_or, subst}
use Rattle.std.proofs.lemmas.List.{take_all}
use Rattle.llvm_core.specs.declared.numbers.LLVMConst.{LLVMConst}
use Rattle.llvm_core.proofs.DataLemmas.{within_at}
use Rattle.held_types.specs.declared.lacks.Lack.{Lack}
use Rattle.held_types.specs.Lacks.{IsLacked, LacksNothing, Tells, tree_in}
use Rattle.held_types.proofs.LackLaws.{all_more, have_part, none_lacked, item_at}
use Rattle.held_types.proofs.lacks.first_lack.Goals as goal

pub returns-in-Some : goal.returns-in-Some
returns-in-Some c =
    let d : LLVMConst = record { 0 = 0 } in
    have_part c.args.m.now (IsLacked c.in-Some.lack) c.args.parts.now c.loop-c.c-index _ (item_at c.args.parts.now c.loop-c.c-index d c.loop-c-test.true) (subst (λ (o : Option Lack). Tells o (tree_in c.args.m.now (get_or c.args.parts.now c.loop-c.c-index d))) c.in-Some.is c.told_of.ensures)

pub loop-c-preserved : goal.loop-c-preserved
loop-c-preserved c = all_more (λ (x : LLVMConst). LacksNothing (tree_in c.args.m.now x)) c.args.parts.now c.loop-c.c-index (record { 0 = 0 }) c.loop-c-test.true c.loop-c.invariant (subst (λ (o : Option Lack). Tells o (tree_in c.args.m.now (get_or c.args.parts.now c.loop-c.c-index (record { 0 = 0 })))) c.in_default.is c.told_of.ensures)

pub returns : goal.returns
returns c =
    let P : LLVMConst → Type 0 = λ (x : LLVMConst). LacksNothing (tree_in c.args.m.now x) in
    let whole : All P c.args.parts.now = subst (All P) (take_all c.loop-c.c-index c.args.parts.now c.loop-c-test.false) c.loop-c.invariant in
    none_lacked c.args.m.now c.args.parts.now (λ (i : ℕ) (x : LLVMConst) at. within_at c.args.parts.now P whole i x at)
