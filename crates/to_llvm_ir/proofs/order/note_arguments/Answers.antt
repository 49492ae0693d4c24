-- One argument more.
use Rattle.std.proofs.Common.{◌≡◌, ◌∙◌, ◌+◌, ◌++◌, ◌∷◌, [], ℕ, suc, List, length, sym, subst, ap, arith, append_assoc}
use Rattle.std.proofs.lemmas.List.{append-nil}
use Rattle.support.proofs.ListLaws.{item_there}
use Rattle.dialect_core.specs.declared.ops.Value.{Value}
use Rattle.dialect_core.specs.declared.ops.Value.TheVariants.{Argument}
use Rattle.dialect_core.specs.Data.{DialectBlock}
use Rattle.to_llvm_ir.specs.Exported.{arguments_of}
use Rattle.to_llvm_ir.specs.States.{upto}
use Rattle.to_llvm_ir.specs.Ordering.{AreSeen}
use Rattle.to_llvm_ir.proofs.ContextLaws.{block_parts, args_count}
use Rattle.to_llvm_ir.proofs.ArgumentLaws.{arguments_more, whole}
use Rattle.to_llvm_ir.proofs.OrderingLaws.{seen_more}
use Rattle.to_llvm_ir.proofs.order.note_arguments.Goals as goal

pub loop-i-init : goal.loop-i-init
loop-i-init c = λ b vs is seen. subst (AreSeen c.args.seen.now) (sym (append-nil vs)) seen

pub loop-i-preserved : goal.loop-i-preserved
loop-i-preserved c = λ b vs is seen.
    let x = c.args.ctx.now in
    let i = c.loop-i.i in
    let parts = block_parts x c.args.block b is in
    let count = args_count x c.args.block b c.block_args-i-end.result.now parts c.block_args-i-end.ensures in
    let lt = c.loop-i-test.true in
    let type = item_there b.args i (omega (arith, lt, count)) in
    let key : Argument c.args.block c.in_ok-place_of.field-0 ≡ Argument (record { 0 = b.number }) i =
    ap (Argument c.args.block) c.in_ok-place_of.ensures ∙ ap (λ (k : ℕ). Argument (record { 0 = k }) i) (sym parts.number) in
    let one : i + 1 ≡ suc i = omega arith in
    let more = subst (λ (v : Value). AreSeen c.note.new.self ((vs ++ arguments_of (upto i b)) ++ v ∷ [])) key
    (seen_more c.loop-i.seen c.note.new.self (Argument c.args.block c.in_ok-place_of.field-0) (vs ++ arguments_of (upto i b)) c.in_ok-note.ensures (c.loop-i.invariant b vs is seen)) in
    subst (AreSeen c.note.new.self) (append_assoc vs (arguments_of (upto i b)) (Argument (record { 0 = b.number }) i ∷ []) ∙ ap (λ (ws : List Value). vs ++ ws) (sym (arguments_more b i type.0 type.1)) ∙ ap (λ (k : ℕ). vs ++ arguments_of (upto k b)) (sym one)) more

pub returns : goal.returns
returns c = λ b vs is seen.
    let parts = block_parts c.args.ctx.now c.args.block b is in
    let count = args_count c.args.ctx.now c.args.block b c.block_args-i-end.result.now parts c.block_args-i-end.ensures in
    let end : c.loop-i.i ≡ length b.args = let e = c.loop-i-test.false in let f = c.loop-i.auto.i-end in omega (arith, e, f, count) in
    subst (λ (d : DialectBlock). AreSeen c.loop-i.seen (vs ++ arguments_of d)) (ap (λ (k : ℕ). upto k b) end ∙ whole b) (c.loop-i.invariant b vs is seen)
