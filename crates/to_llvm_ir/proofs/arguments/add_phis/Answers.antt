-- One phi more.
use Rattle.std.proofs.Common.{◌≡◌, ◌<◌, ◌+◌, ℕ, suc, length, sym, subst, arith}
use Rattle.std.proofs.lemmas.Option.{slice_get_within}
use Rattle.to_llvm_ir.specs.States.{IsAtArgument}
use Rattle.to_llvm_ir.proofs.ArgumentLaws.{arg_at, arg_held, args_count}
use Rattle.to_llvm_ir.proofs.arguments.add_phis.Goals as goal

pub add_phi-requires-clause-held : goal.add_phi-requires-clause-held
add_phi-requires-clause-held c =
    let b = c.requires.begun in
    arg_held c.args.ctx.now b.0 (suc b.1) b.2 c.args.block c.block_args-ty-items.result.now c.loop-i.i _ b.3 c.block_args-ty-items.ensures c.loop-i-test.true

pub add_phi-requires-clause-target : goal.add_phi-requires-clause-target
add_phi-requires-clause-target c =
    let b = c.requires.begun in
    let s = c.loop-i.invariant b.0 b.1 b.2 b.3 b.4 b.5 in
    let lt = slice_get_within b.0.source.blocks (suc b.1) b.2 b.3.here in
    let here = b.4 in
    let count = s.block_count in
    let there : c.args.target.0 < length c.loop-i.back.blocks = omega (arith, lt, here, count) in
    there

pub loop-i-preserved : goal.loop-i-preserved
loop-i-preserved c = λ t p b at here start.
    let one : c.loop-i.i + 1 ≡ suc c.loop-i.i = omega arith in
    subst (λ (i : ℕ). IsAtArgument t (suc p) b i c.add_phi.new.values c.add_phi.new.back) (sym one)
    (c.in_ok-add_phi.ensures t p b at here (arg_at c.args.ctx.now t (suc p) b c.args.block c.block_args-ty-items.result.now c.loop-i.i _ at c.block_args-ty-items.ensures c.loop-i-test.true) (c.loop-i.invariant t p b at here start))

pub returns : goal.returns
returns c = λ t p b at here start.
    let count = args_count c.args.ctx.now t (suc p) b c.args.block c.block_args-ty-items.result.now at c.block_args-ty-items.ensures in
    let end : c.loop-i.i ≡ length b.args = let e = c.loop-i-test.false in let f = c.loop-i.auto.i-end in omega (arith, e, f, count) in
    subst (λ (i : ℕ). IsAtArgument t (suc p) b i c.loop-i.values c.loop-i.back) end (c.loop-i.invariant t p b at here start)
