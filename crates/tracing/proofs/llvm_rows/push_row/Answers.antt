-- What `llvm_rows::push_row` owes besides what the check finds.
use Rattle.std.proofs.Common.{Some, sym, ap, subst, ◌∙◌, ◌++◌, [], Option}
use Rattle.std.specs.List.{cons_option}
use Rattle.std.proofs.lemmas.List.{append-nil}
use Rattle.std.proofs.lemmas.Result.{on_ok_weaker}
use Rattle.meaning.specs.Machine as M
use Rattle.tracing.specs.declared.body.Slot.{Slot}
use Rattle.tracing.specs.Tables.{contents_in}
use Rattle.tracing.specs.Bodies.{AreRows}
use Rattle.tracing.proofs.GrowLaws.{rows_push}
use Rattle.tracing.proofs.LlvmLaws.{row_is, no_row}
use Rattle.tracing.proofs.llvm_rows.push_row.Goals as goal

pub returns-in-Phi-clause-rows : goal.returns-in-Phi-clause-rows
returns-in-Phi-clause-rows c = λ h b p at xs before.
    let none = no_row c.args.m.now h b c.args.i p c.in-Phi.field-0 c.in-Phi.field-1 at (c.inst.ensures.inst ∙ ap Some c.in-Phi.is) in
    subst (λ (o : Option (M.Row Slot)). AreRows (contents_in c.args.tables.now) c.args.rows.now (xs ++ cons_option o [])) (sym none) (subst (AreRows (contents_in c.args.tables.now) c.args.rows.now) (sym (append-nil xs)) before)

pub action-requires-clause-here : goal.action-requires-clause-here
action-requires-clause-here c = let r = c.requires.here in (r.0, r.1, r.2, record { placed = r.3; is = c.inst.ensures.inst ∙ ap Some c.in-Row.is })

pub returns-in_ok-action-in-Row-clause-rows : goal.returns-in_ok-action-in-Row-clause-rows
returns-in_ok-action-in-Row-clause-rows c =
    on_ok_weaker c.push.result
    (λ ok h b p at xs before.
    let is = c.inst.ensures.inst ∙ ap Some c.in-Row.is in
    let here = c.in_ok-action-in-Row.ensures.is h b p (record { placed = at; is = is }) in
    let row = row_is c.args.m.now h b c.args.i p c.in-Row.row (record { placed = at; is = is }) in
    let rows = rows_push _ (contents_in c.action.new.tables) c.args.rows.now xs c.in_ok-action-in-Row.action _ _ c.in_ok-action-in-Row.ensures.grown.kept before here in
    subst (λ (o : Option (M.Row Slot)). AreRows (contents_in c.action.new.tables) c.push.new.self (xs ++ cons_option o [])) (sym row) (rw ok rows))
    c.push.ensures.ok
