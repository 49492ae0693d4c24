-- Each round does the event before.
use Rattle.std.proofs.Common.{◌≡◌, ◌<◌, ◌-◌, ◌+◌, [], List, ℕ, length, take, drop, Result, Err, Some, None, sym, ◌∙◌, subst, arith}
use Rattle.std.proofs.lemmas.List.{drop_all, take-append-drop}
use Rattle.std.proofs.lemmas.List.Elements.{All-nil}
use Rattle.grammars.specs.declared.symbols.Event.{Event}
use Rattle.ll_values.specs.declared.value_err.ValueErr.{ValueErr}
use Rattle.ll_values.specs.declared.value_err.ValueErr.TheVariants.{NotYet}
use Rattle.ll_values.specs.Stack.{over, step_of, fold_of}
use Rattle.ll_values.proofs.GrowLaws.{none_interned, interned_twice}
use Rattle.ll_values.proofs.StackLaws.{no_events, none_behind, before}
use Rattle.ll_values.proofs.fold.fold.Goals as goal

abbrev fails : ValueErr → Result Unit ValueErr
fails e = Err e

pub loop-done-init : goal.loop-done-init
loop-done-init c =
    let none : c.new-stack.result ≡ [] = c.new-stack.ensures in
    let first : length c.args.events.now - 0 ≡ length c.args.events.now = omega arith in (
      omega arith,
      rw none (record { store = c.requires.store; values = All-nil _ }),
      none_interned c.args.m.now c.requires.store.sound,
      rw (first, drop_all (length c.args.events.now) c.args.events.now (omega arith), none) (no_events c.args.source.now),
    )

pub loop-done-preserved : goal.loop-done-preserved
loop-done-preserved c =
    let here : length c.args.events.now - c.loop-done.done - 1 ≡ length c.args.events.now - (c.loop-done.done + 1) = omega arith in
    let i = length c.args.events.now - c.loop-done.done - 1 in
    let inside : i < length c.args.events.now = omega arith in
    let next : i + 1 ≡ length c.args.events.now - c.loop-done.done = omega arith in
    let behind = subst (λ (n : ℕ). fold_of c.args.source.now (drop n c.args.events.now) ≡ Some (over c.args.source.now c.loop-done.m c.loop-done.store c.loop-done.stack)) (sym next) c.loop-done.invariant.3 in (
      omega arith,
      c.in-Ok.ensures.standing,
      interned_twice c.args.m.now c.loop-done.m c.step.new.m c.loop-done.invariant.2 c.in-Ok.ensures.interns,
      subst (λ (n : ℕ). fold_of c.args.source.now (drop n c.args.events.now) ≡ Some (over c.args.source.now c.step.new.m c.step.new.store c.step.new.stack)) here (before c.args.source.now c.args.events.now i c.index-events-left.result _ inside behind ∙ subst (λ (e : Event). step_of c.args.source.now e (over c.args.source.now c.loop-done.m c.loop-done.store c.loop-done.stack) ≡ Some (over c.args.source.now c.step.new.m c.step.new.store c.step.new.stack)) (c.event.ensures ∙ c.index-events-left.is) c.in-Ok.ensures.done),
    )

pub returns-in-Err-clause-not_yet : goal.returns-in-Err-clause-not_yet
returns-in-Err-clause-not_yet c = λ e.
    let i = length c.args.events.now - c.loop-done.done - 1 in
    let inside : i < length c.args.events.now = omega arith in
    let next : i + 1 ≡ length c.args.events.now - c.loop-done.done = omega arith in
    let behind = subst (λ (n : ℕ). fold_of c.args.source.now (drop n c.args.events.now) ≡ Some (over c.args.source.now c.loop-done.m c.loop-done.store c.loop-done.stack)) (sym next) c.loop-done.invariant.3 in
    let is : fails c.in-Err.e ≡ fails NotYet = cc in
    let here = before c.args.source.now c.args.events.now i c.index-events-left.result _ inside behind ∙ subst (λ (e : Event). step_of c.args.source.now e (over c.args.source.now c.loop-done.m c.loop-done.store c.loop-done.stack) ≡ None) (c.event.ensures ∙ c.index-events-left.is) (c.in-Err.ensures.not_yet is) in
    subst (λ (es : List Event). fold_of c.args.source.now es ≡ None) (take-append-drop i c.args.events.now) (none_behind c.args.source.now (take i c.args.events.now) (drop i c.args.events.now) here)
