-- One parameter more.
use Rattle.std.proofs.Common.{◌≡◌, ◌<◌, ◌+◌, ℕ, suc, length, sym, subst, arith}
use Rattle.llvm_core.specs.declared.code.LLVMValue.TheVariants as V
use Rattle.dialect_core.specs.declared.ops.Value.TheVariants.{Argument}
use Rattle.to_llvm_ir.specs.States.{found, IsAtArgument}
use Rattle.to_llvm_ir.proofs.ValueLaws.{IsSet}
use Rattle.to_llvm_ir.proofs.ArgumentLaws.{param_more}
use Rattle.to_llvm_ir.proofs.arguments.set_params.Goals as goal

pub loop-i-preserved : goal.loop-i-preserved
loop-i-preserved c = λ x t b m at params count start.
    let done = c.in_ok-set.ensures in
    let is_set = subst (λ (p : ℕ). IsSet (found c.loop-i.values) (found c.set.new.self) (Argument c.args.block p) (V.Param c.args.f p)) c.in_ok-place.ensures done.found in
    let lt : c.loop-i.i < length b.args = let e = c.loop-i-test.true in omega (arith, e, count) in
    let one : c.loop-i.i + 1 ≡ suc c.loop-i.i = omega arith in
    subst (λ (i : ℕ). IsAtArgument t 0 b i c.set.new.self m) (sym one) (param_more x t b c.args.block c.args.f m c.loop-i.i c.loop-i.values c.set.new.self at params lt (c.loop-i.invariant x t b m at params count start) done.next is_set)

pub returns : goal.returns
returns c = λ x t b m at params count start.
    let end : c.loop-i.i ≡ length b.args = let e = c.loop-i-test.false in let f = c.loop-i.auto.i-end in omega (arith, e, f, count) in
    subst (λ (i : ℕ). IsAtArgument t 0 b i c.loop-i.values m) end (c.loop-i.invariant x t b m at params count start)
