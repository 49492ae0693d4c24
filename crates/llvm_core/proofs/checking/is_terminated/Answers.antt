-- What the calls of `checking::is_terminated` take, and what it answers, by the last instruction and the others.
use Rattle.std.proofs.Common.{◌<◌, ◌-◌, length, sym, refl, arith}
use Rattle.llvm_core.proofs.CheckLemmas.{ends, last_ends}
use Rattle.llvm_core.proofs.FirstLemmas.{some_at}
use Rattle.llvm_core.proofs.checking.is_terminated.Goals as goal

pub returns-then-is_terminator : goal.returns-then-is_terminator
returns-then-is_terminator c =
    let m = c.args.m.now in
    let insts = c.instructions-insts.result.now in
    let some = some_at insts (sym c.if-is_empty.ensures) in
    let lt : length insts - 1 < length insts = omega (arith, some) in
    ends m c.args.b.0 insts c.instructions-insts.ensures.insts _ _ (last_ends m insts _ c.inst.result.now _ lt c.inst.ensures.inst c.if-is_terminator.ensures) (sym c.has_terminator.ensures)

pub returns-else-is_terminator : goal.returns-else-is_terminator
returns-else-is_terminator c =
    let m = c.args.m.now in
    let insts = c.instructions-insts.result.now in
    let some = some_at insts (sym c.if-is_empty.ensures) in
    let lt : length insts - 1 < length insts = omega (arith, some) in
    rw c.if-is_terminator.false
    (ends m c.args.b.0 insts c.instructions-insts.ensures.insts _ _ (last_ends m insts _ c.inst.result.now _ lt c.inst.ensures.inst c.if-is_terminator.ensures) refl)
