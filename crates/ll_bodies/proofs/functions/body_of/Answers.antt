-- What `functions::body_of` owes besides what the check finds.
use Rattle.std.proofs.Common.{List, All, sym, subst, ◌∙◌}
use Rattle.std.proofs.lemmas.Result.{IfOk-weaker}
use Rattle.ll_lines.specs.declared.lines.Part.{Part}
use Rattle.ll_lines.specs.Views.{IsPartIn}
use Rattle.ll_bodies.specs.declared.blocks.SaidBlock.{SaidBlock}
use Rattle.ll_bodies.specs.SourceViews.{table_in, made_in, HasLinesIn, HasSettled, source_trees}
use Rattle.ll_bodies.proofs.FunctionLaws.{uncut, unscoped, body_made, body_unmade, data_made, data_unmade}
use Rattle.ll_bodies.proofs.SettledLaws.{settled}
use Rattle.ll_bodies.proofs.RightLaws.{made_right}
use Rattle.ll_bodies.proofs.ErrLaws.{passed_on, ok_by_both}
use Rattle.ll_bodies.proofs.functions.body_of.Goals as goal

pub returns-in_err-blocks-clause-not_yet : goal.returns-in_err-blocks-clause-not_yet
returns-in_err-blocks-clause-not_yet c = λ e.
    let s = c.args.source.now in
    let x = c.in_err-blocks in
    data_unmade s c.args.f.0 c.args.first_block c.args.first c.args.said.now (uncut s c.args.f.0 c.args.first_block c.args.first c.args.said.now c.as_slice.result.now c.as_slice.ensures.value
    (x.ensures.not_yet (passed_on c.from_residual.result x.field-0.0 c.from_residual.ensures.1 e) s.bytes.now (source_trees s) (table_in s)))

pub scope_of-requires-clause-lines : goal.scope_of-requires-clause-lines
scope_of-requires-clause-lines c =
    let m = c.args.source.now.module.now in
    let made = made_in c.args.source.now in
    let parts = subst (λ (ps : List Part). All (IsPartIn m made) ps) (sym c.as_slice.ensures.value) c.requires.said.body in
    subst (λ (bs : List SaidBlock). All (HasLinesIn m made) bs) (sym c.as_slice-3.ensures.value) (c.in_ok-blocks.ensures.lines m made parts)

pub body_blocks-requires-clause-lines : goal.body_blocks-requires-clause-lines
body_blocks-requires-clause-lines c =
    let m = c.args.source.now.module.now in
    let made = made_in c.args.source.now in
    let parts = subst (λ (ps : List Part). All (IsPartIn m made) ps) (sym c.as_slice.ensures.value) c.requires.said.body in
    subst (λ (bs : List SaidBlock). All (HasLinesIn m made) bs) (sym c.as_slice-4.ensures.value) (c.in_ok-blocks.ensures.lines m made parts)

pub returns-in_err-scope-clause-not_yet : goal.returns-in_err-scope-clause-not_yet
returns-in_err-scope-clause-not_yet c = λ e.
    let s = c.args.source.now in
    let x = c.in_err-scope in
    let f = c.from_residual-in_err-scope in
    data_unmade s c.args.f.0 c.args.first_block c.args.first c.args.said.now (unscoped s c.args.f.0 c.args.first_block c.args.first c.args.said.now c.as_slice.result.now c.as_slice-2.result.now c.in_ok-blocks.blocks.items c.as_slice-3.result.now
    c.as_slice.ensures.value c.as_slice-2.ensures.value c.as_slice-3.ensures.value (c.in_ok-blocks.ensures.ok s.bytes.now (source_trees s) (table_in s))
    (x.ensures.not_yet (passed_on f.result x.field-0.0 f.ensures.1 e)))

pub returns-clause-ok : goal.returns-clause-ok
returns-clause-ok c =
    let s = c.args.source.now in
    IfOk-weaker c.body_blocks.result _ _ (λ body h.
    data_made s c.args.f.0 c.args.first_block c.args.first c.args.said.now _ (body_made s c.args.f.0 c.args.first_block c.args.first c.args.said.now c.as_slice.result.now c.as_slice-2.result.now c.in_ok-blocks.blocks.items c.as_slice-3.result.now
    c.as_slice.ensures.value c.as_slice-2.ensures.value c.as_slice-3.ensures.value (c.in_ok-blocks.ensures.ok s.bytes.now (source_trees s) (table_in s))
    c.in_ok-scope.scope c.as_slice-4.result.now c.as_slice-4.ensures.value c.in_ok-scope.ensures.knows body h)) c.body_blocks.ensures.ok

pub returns-clause-not_yet : goal.returns-clause-not_yet
returns-clause-not_yet c = λ e.
    let s = c.args.source.now in
    data_unmade s c.args.f.0 c.args.first_block c.args.first c.args.said.now (body_unmade s c.args.f.0 c.args.first_block c.args.first c.args.said.now c.as_slice.result.now c.as_slice-2.result.now c.in_ok-blocks.blocks.items c.as_slice-3.result.now
    c.as_slice.ensures.value c.as_slice-2.ensures.value c.as_slice-3.ensures.value (c.in_ok-blocks.ensures.ok s.bytes.now (source_trees s) (table_in s))
    c.in_ok-scope.scope c.as_slice-4.result.now c.as_slice-4.ensures.value c.in_ok-scope.ensures.knows (c.body_blocks.ensures.not_yet e))

pub returns-clause-right : goal.returns-clause-right
returns-clause-right c =
    let s = c.args.source.now in
    let m = s.module.now in
    let made = made_in s in
    let parts = subst (λ (ps : List Part). All (IsPartIn m made) ps) (sym c.as_slice.ensures.value) c.requires.said.body in
    let lines = subst (λ (bs : List SaidBlock). All (HasLinesIn m made) bs) (sym c.as_slice-4.ensures.value) (c.in_ok-blocks.ensures.lines m made parts) in
    ok_by_both _ _ _ c.body_blocks.result (λ body made typed next.
    made_right s c.args.f c.args.first_block c.args.first c.args.said.now c.as_slice-2.result.now c.as_slice-3.result.now c.as_slice-4.result.now c.in_ok-scope.scope body
    c.as_slice-2.ensures.value (c.as_slice-4.ensures.value ∙ sym c.as_slice-3.ensures.value) c.requires.source lines typed made c.in_ok-scope.ensures.knows c.in_ok-scope.ensures.named next) c.body_blocks.ensures.ok c.body_blocks.ensures.typed

pub body_blocks-requires-clause-fits : goal.body_blocks-requires-clause-fits
body_blocks-requires-clause-fits c =
    let s = c.args.source.now in
    let knows = c.in_ok-scope.ensures.knows in
    let all = settled s c.args.f.0 c.args.first_block c.args.first c.as_slice-2.result.now c.as_slice-3.result.now knows.0 knows.1 in
    subst (λ (bs : List SaidBlock). All (HasSettled (source_trees s)) bs) (c.as_slice-3.ensures.value ∙ sym c.as_slice-4.ensures.value) all
