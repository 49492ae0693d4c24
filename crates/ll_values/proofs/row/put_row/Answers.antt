-- An instruction stands in place of its parts.
use Rattle.std.proofs.Common.{◌≡◌, ◌∷◌, take, drop, Result, Err, ap, ◌∙◌}
use Rattle.ll_values.specs.declared.value_err.ValueErr.{ValueErr}
use Rattle.ll_values.specs.declared.value_err.ValueErr.TheVariants.{NotYet}
use Rattle.ll_values.specs.declared.form.Kind.TheVariants as K
use Rattle.ll_values.specs.declared.value.Value.TheVariants as V
use Rattle.ll_values.specs.Parts.{row_count}
use Rattle.ll_values.proofs.StackLaws.{puts, puts_none}
use Rattle.ll_values.proofs.row.put_row.Goals as goal

abbrev fails : ValueErr → Result Unit ValueErr
fails e = Err e

pub returns-in_ok-replace-in-Ok-clause-puts : goal.returns-in_ok-replace-in-Ok-clause-puts
returns-in_ok-replace-in-Ok-clause-puts c =
    let vs = c.args.stack.now in
    let parts : c.first.result.now ≡ take (row_count c.args.kind) vs = c.first.ensures ∙ ap (λ n. take n vs) c.part_count-count.ensures in
    let new : c.replace.new.self ≡ V.Inst c.in-Ok.n ∷ drop (row_count c.args.kind) vs = c.in_ok-replace-in-Ok.ensures ∙ ap (λ n. V.Inst c.in-Ok.n ∷ drop n vs) c.part_count-count.ensures in
    puts c.args.bytes.now (K.Row c.args.kind) c.args.m.now c.args.store.now vs _ _ c.first.result.now _ (V.Inst c.in-Ok.n) c.requires.standing parts c.in-Ok.ensures.made new

pub returns-in-Err-clause-not_yet : goal.returns-in-Err-clause-not_yet
returns-in-Err-clause-not_yet c = λ e.
    let vs = c.args.stack.now in
    let is : fails c.in-Err.e ≡ fails NotYet = e in
    let parts : c.first.result.now ≡ take (row_count c.args.kind) vs = c.first.ensures ∙ ap (λ n. take n vs) c.part_count-count.ensures in
    puts_none c.args.bytes.now (K.Row c.args.kind) c.args.m.now c.args.store.now vs c.first.result.now parts (c.in-Err.ensures.not_yet cc)
