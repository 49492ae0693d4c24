-- What is made stands in place of its parts, and names what is there.
use Rattle.std.proofs.Common.{rules, arith, ◌≡◌, ◌∷◌, [], ◌∙◌, refl, sym}
use Rattle.llvm_core.specs.Data.{trees_of}
use Rattle.ll_values.specs.declared.form.Kind.TheVariants as K
use Rattle.ll_values.specs.declared.form.ListKind.TheVariants as L
use Rattle.ll_values.specs.declared.value.Value.TheVariants as V
use Rattle.ll_values.specs.Views.{entries_from, body_from, types_from, params_from, IsValueIn}
use Rattle.ll_values.proofs.StackLaws.{parts_there, puts_kept, puts_none}
use Rattle.ll_values.proofs.listed.put_list.Goals as goal

pub keep_entries-requires-clause-rest : goal.keep_entries-requires-clause-rest
keep_entries-requires-clause-rest c =
    let parts : c.first.result.now ≡ V.Entry c.in-Entry.first ∷ V.Entries c.in-Entry.rest ∷ [] = search rules in
    let all = parts_there (IsValueIn c.args.m.now c.args.store.now) 2 c.args.stack.now _ c.requires.standing.values (sym parts ∙ c.first.ensures) in
    all 1 V.Nothing (omega arith)

pub returns-in_ok-replace-in-Entry-clause-puts : goal.returns-in_ok-replace-in-Entry-clause-puts
returns-in_ok-replace-in-Entry-clause-puts c =
    let parts : c.first.result.now ≡ V.Entry c.in-Entry.first ∷ V.Entries c.in-Entry.rest ∷ [] = search rules in
    rw c.in-EntriesMore.is (puts_kept c.args.bytes.now (K.List L.EntriesMore) c.args.m.now c.args.store.now c.args.stack.now _ _ _ (entries_from c.args.bytes.now (trees_of c.args.m.now) c.args.store.now c.in-Entry.first c.in-Entry.rest) _ c.requires.standing (sym parts ∙ c.first.ensures) refl c.in_ok-number-in-Entry.ensures.kept c.in_ok-replace-in-Entry.ensures)

pub keep_body-requires-clause-rest : goal.keep_body-requires-clause-rest
keep_body-requires-clause-rest c =
    let parts : c.first-in-BodyMore.result.now ≡ V.Part c.in-Part.first ∷ V.Body c.in-Part.rest ∷ [] = search rules in
    let all = parts_there (IsValueIn c.args.m.now c.args.store.now) 2 c.args.stack.now _ c.requires.standing.values (sym parts ∙ c.first-in-BodyMore.ensures) in
    all 1 V.Nothing (omega arith)

pub returns-in_ok-replace-in-Part-clause-puts : goal.returns-in_ok-replace-in-Part-clause-puts
returns-in_ok-replace-in-Part-clause-puts c =
    let parts : c.first-in-BodyMore.result.now ≡ V.Part c.in-Part.first ∷ V.Body c.in-Part.rest ∷ [] = search rules in
    rw c.in-BodyMore.is (puts_kept c.args.bytes.now (K.List L.BodyMore) c.args.m.now c.args.store.now c.args.stack.now _ _ _ (body_from c.args.bytes.now (trees_of c.args.m.now) c.args.store.now c.in-Part.first c.in-Part.rest) _ c.requires.standing (sym parts ∙ c.first-in-BodyMore.ensures) refl c.in_ok-number-in-Part.ensures.kept c.in_ok-replace-in-Part.ensures)

pub keep_types-requires-clause-rest : goal.keep_types-requires-clause-rest
keep_types-requires-clause-rest c =
    let parts : c.first-in-TypesMore.result.now ≡ V.Type c.in-Type.first ∷ V.Types c.in-Type.rest ∷ [] = search rules in
    let all = parts_there (IsValueIn c.args.m.now c.args.store.now) 2 c.args.stack.now _ c.requires.standing.values (sym parts ∙ c.first-in-TypesMore.ensures) in
    all 1 V.Nothing (omega arith)

pub returns-in_ok-replace-in-Type-clause-puts : goal.returns-in_ok-replace-in-Type-clause-puts
returns-in_ok-replace-in-Type-clause-puts c =
    let parts : c.first-in-TypesMore.result.now ≡ V.Type c.in-Type.first ∷ V.Types c.in-Type.rest ∷ [] = search rules in
    rw c.in-TypesMore.is (puts_kept c.args.bytes.now (K.List L.TypesMore) c.args.m.now c.args.store.now c.args.stack.now _ _ _ (types_from c.args.bytes.now (trees_of c.args.m.now) c.args.store.now c.in-Type.first c.in-Type.rest) _ c.requires.standing (sym parts ∙ c.first-in-TypesMore.ensures) refl c.in_ok-number-in-Type.ensures.kept c.in_ok-replace-in-Type.ensures)

pub keep_params-requires-clause-rest : goal.keep_params-requires-clause-rest
keep_params-requires-clause-rest c =
    let parts : c.first-in-ParamsMore.result.now ≡ V.Param c.in-Param.first ∷ V.Params c.in-Param.rest ∷ [] = search rules in
    let all = parts_there (IsValueIn c.args.m.now c.args.store.now) 2 c.args.stack.now _ c.requires.standing.values (sym parts ∙ c.first-in-ParamsMore.ensures) in
    all 1 V.Nothing (omega arith)

pub returns-in_ok-replace-in-Param-clause-puts : goal.returns-in_ok-replace-in-Param-clause-puts
returns-in_ok-replace-in-Param-clause-puts c =
    let parts : c.first-in-ParamsMore.result.now ≡ V.Param c.in-Param.first ∷ V.Params c.in-Param.rest ∷ [] = search rules in
    rw c.in-ParamsMore.is (puts_kept c.args.bytes.now (K.List L.ParamsMore) c.args.m.now c.args.store.now c.args.stack.now _ _ _ (params_from c.args.bytes.now (trees_of c.args.m.now) c.args.store.now c.in-Param.first c.in-Param.rest) _ c.requires.standing (sym parts ∙ c.first-in-ParamsMore.ensures) refl c.in_ok-number-in-Param.ensures.kept c.in_ok-replace-in-Param.ensures)

pub put-requires-in-Text-clause-there : goal.put-requires-in-Text-clause-there
put-requires-in-Text-clause-there c =
    let parts : c.first-in-Structure.result.now ≡ V.Text c.in-Text.name ∷ V.Fields c.in-Text.body ∷ [] = search rules in
    let all = parts_there (IsValueIn c.args.m.now c.args.store.now) 2 c.args.stack.now _ c.requires.standing.values (sym parts ∙ c.first-in-Structure.ensures) in
    all 1 V.Nothing (omega arith)

pub put-requires-in-Some-clause-there : goal.put-requires-in-Some-clause-there
put-requires-in-Some-clause-there c =
    let all = parts_there (IsValueIn c.args.m.now c.args.store.now) 5 c.args.stack.now _ c.requires.standing.values (sym c.in-Some.ensures.parts ∙ c.first-in-Head.ensures) in
    (all 2 V.Nothing (omega arith), all 4 V.Nothing (omega arith))

pub returns-in-None-clause-not_yet : goal.returns-in-None-clause-not_yet
returns-in-None-clause-not_yet c = λ e. rw c.in-Head.is (puts_none c.args.bytes.now (K.List L.Head) c.args.m.now c.args.store.now c.args.stack.now _ c.first-in-Head.ensures (c.in-None.ensures.none refl c.args.bytes.now (trees_of c.args.m.now) c.args.store.now))

pub put-requires-in-Some-definition_of-clause-there : goal.put-requires-in-Some-definition_of-clause-there
put-requires-in-Some-definition_of-clause-there c =
    let all = parts_there (IsValueIn c.args.m.now c.args.store.now) 5 c.args.stack.now _ c.requires.standing.values (sym c.in-Some-definition_of.ensures.parts ∙ c.first-in-Define.ensures) in
    (all 1 V.Nothing (omega arith), all 4 V.Nothing (omega arith))

pub returns-in-None-definition_of-clause-not_yet : goal.returns-in-None-definition_of-clause-not_yet
returns-in-None-definition_of-clause-not_yet c = λ e. rw c.in-Define.is (puts_none c.args.bytes.now (K.List L.Define) c.args.m.now c.args.store.now c.args.stack.now _ c.first-in-Define.ensures (c.in-None-definition_of.ensures.none refl c.args.bytes.now (trees_of c.args.m.now) c.args.store.now))
