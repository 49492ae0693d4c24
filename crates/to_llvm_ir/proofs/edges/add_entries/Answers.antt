-- One argument more.
use Rattle.std.proofs.Common.{◌≡◌, ◌<◌, ◌∙◌, ℕ, List, Some, length, take, slice_get, get_or, sym, ap, subst, arith}
use Rattle.std.proofs.lemmas.Option.{slice_get-get_or}
use Rattle.dialect_core.specs.declared.ops.Value.{Value}
use Rattle.dialect_core.specs.declared.ops.Value.TheVariants.{Argument, Result}
use Rattle.to_llvm_ir.specs.Made.{operand_for}
use Rattle.to_llvm_ir.specs.States.{IsLinking}
use Rattle.to_llvm_ir.specs.Links.{IsEntryNext}
use Rattle.to_llvm_ir.proofs.EntryLaws.{giving}
use Rattle.to_llvm_ir.proofs.PassLaws.{upto_value, entry_next, entries_begun, entries_more, entries_done}
use Rattle.to_llvm_ir.proofs.edges.add_entries.Goals as goal

value_at : (xs vs : List Value) (i : ℕ) (d : Value) → xs ≡ vs → i < length xs → slice_get vs i ≡ Some (get_or xs i d)
value_at xs vs i d same lt = ap (λ (ys : List Value). slice_get ys i) (sym same) ∙ slice_get-get_or xs i d lt

pub loop-i-init : goal.loop-i-init
loop-i-init c = λ t given h. entries_begun t c.args.edge.now c.args.from given c.args.values.now c.args.back.now h.state

pub add_entry-requires : goal.add_entry-requires
add_entry-requires c =
    let r = c.requires in
    let e = c.args.edge.now in
    let now = upto_value r.0.source r.0.numbers e.block c.args.from.0 r.1 (take c.loop-i.i e.args) in
    let none : Value = Result (record { 0 = 0 }) in
    let x = get_or c.as_slice-value-items.result.now c.loop-i.i none in
    let at = value_at c.as_slice-value-items.result.now e.args c.loop-i.i none c.as_slice-value-items.ensures c.loop-i-test.true in (
      r.0,
      now,
      subst (λ (q : ℕ). IsEntryNext r.0 (Argument c.args.edge.now.block q) x c.args.from now c.args.values.now c.loop-i.back) (sym c.in_ok-place.ensures)
          (entry_next r.0 e c.args.from r.1 now c.args.values.now c.args.back.now c.loop-i.back c.loop-i.i x r.2 at (c.loop-i.invariant r.0 r.1 r.2)),
    )

pub loop-i-preserved : goal.loop-i-preserved
loop-i-preserved c = λ t given h.
    let e = c.args.edge.now in
    let now = upto_value t.source t.numbers e.block c.args.from.0 given (take c.loop-i.i e.args) in
    let none : Value = Result (record { 0 = 0 }) in
    let x = get_or c.as_slice-value-items.result.now c.loop-i.i none in
    let at = value_at c.as_slice-value-items.result.now e.args c.loop-i.i none c.as_slice-value-items.ensures c.loop-i-test.true in
    let next = subst (λ (q : ℕ). IsEntryNext t (Argument c.args.edge.now.block q) x c.args.from now c.args.values.now c.loop-i.back) (sym c.in_ok-place.ensures)
    (entry_next t e c.args.from given now c.args.values.now c.args.back.now c.loop-i.back c.loop-i.i x h at (c.loop-i.invariant t given h)) in
    entries_more t e c.args.from given c.args.values.now c.add_entry.new.back c.loop-i.i x at
    (subst (λ (q : ℕ). IsLinking t (giving now (Argument c.args.edge.now.block q) (operand_for t.source t.numbers x, c.args.from.0)) c.args.values.now c.add_entry.new.back) c.in_ok-place.ensures
    (c.in_ok-add_entry.ensures t now next))

pub returns : goal.returns
returns c = λ t given h.
    let count = ap (λ (vs : List Value). length vs) c.as_slice-value-items.ensures in
    entries_done t c.args.edge.now c.args.from given c.args.values.now c.loop-i.back c.loop-i.i (let e = c.loop-i-test.false in let f = c.loop-i.auto.i-end in omega (arith, e, f, count)) (c.loop-i.invariant t given h)
