-- What is made stands in place of its parts.
use Rattle.std.proofs.Common.{rules, arith, ◌≡◌, ◌∷◌, [], take, drop, ap, ◌∙◌, sym}
use Rattle.ll_values.specs.declared.form.Kind.TheVariants as K
use Rattle.ll_values.specs.declared.form.TypedKind.TheVariants as T
use Rattle.ll_values.specs.declared.value.Value.TheVariants as V
use Rattle.ll_values.specs.Parts.{typed_count}
use Rattle.ll_values.specs.Views.{IsValueIn}
use Rattle.ll_values.proofs.StackLaws.{puts, parts_there}
use Rattle.ll_values.proofs.typed.put_typed.Goals as goal

pub make_type-requires-clause-parts : goal.make_type-requires-clause-parts
make_type-requires-clause-parts c = parts_there (IsValueIn c.args.m.now c.args.store.now) _ c.args.stack.now _ c.requires.standing.values c.first.ensures

pub returns-in_ok-replace-in-Void-clause-puts : goal.returns-in_ok-replace-in-Void-clause-puts
returns-in_ok-replace-in-Void-clause-puts c =
    let vs = c.args.stack.now in
    let ty = c.in_ok-ty-in-Void.ty in
    let parts : c.first.result.now ≡ take (typed_count c.args.kind) vs = c.first.ensures ∙ ap (λ n. take n vs) c.part_count-count.ensures in
    let new : c.replace.new.self ≡ V.Type ty ∷ drop (typed_count c.args.kind) vs = c.in_ok-replace-in-Void.ensures ∙ ap (λ n. V.Type ty ∷ drop n vs) c.part_count-count.ensures in
    puts c.args.bytes.now (K.Typed c.args.kind) c.args.m.now c.args.store.now vs _ _ _ _ _ c.requires.standing parts c.in_ok-ty-in-Void.ensures.made new

pub returns-in_ok-replace-in-Type-clause-puts : goal.returns-in_ok-replace-in-Type-clause-puts
returns-in_ok-replace-in-Type-clause-puts c =
    let parts : c.first-in-Typed.result.now ≡ V.Type c.in-Type.ty ∷ V.Literal c.in-Type.a ∷ [] = search rules in
    rw c.in-Typed.is (puts c.args.bytes.now (K.Typed T.Typed) c.args.m.now c.args.store.now c.args.stack.now _ _ _ _ _ c.requires.standing (sym parts ∙ c.first-in-Typed.ensures) c.in_ok-said-in-Type.ensures.made c.in_ok-replace-in-Type.ensures)

pub returns-in_ok-replace-in-Type-first-clause-puts : goal.returns-in_ok-replace-in-Type-first-clause-puts
returns-in_ok-replace-in-Type-first-clause-puts c =
    let parts : c.first-in-Pair.result.now ≡ V.Type c.in-Type-first.ty ∷ V.Literal c.in-Type-first.a ∷ V.Literal c.in-Type-first.b ∷ [] = search rules in
    rw c.in-Pair.is (puts c.args.bytes.now (K.Typed T.Pair) c.args.m.now c.args.store.now c.args.stack.now _ _ _ _ _ c.requires.standing (sym parts ∙ c.first-in-Pair.ensures) c.in_ok-x-in-Type-first.ensures.made c.in_ok-replace-in-Type-first.ensures)

pub make_phi-requires-clause-rest : goal.make_phi-requires-clause-rest
make_phi-requires-clause-rest c =
    let parts : c.first-in-Phi.result.now ≡ V.Type c.in-Type-first-2.ty ∷ V.Entry c.in-Type-first-2.entry ∷ V.Entries c.in-Type-first-2.rest ∷ [] = search rules in
    (parts_there (IsValueIn c.args.m.now c.args.store.now) 3 c.args.stack.now _ c.requires.standing.values (sym parts ∙ c.first-in-Phi.ensures)) 2 V.Nothing (omega arith)

pub returns-in_ok-replace-in-Type-first-2-clause-puts : goal.returns-in_ok-replace-in-Type-first-2-clause-puts
returns-in_ok-replace-in-Type-first-2-clause-puts c =
    let parts : c.first-in-Phi.result.now ≡ V.Type c.in-Type-first-2.ty ∷ V.Entry c.in-Type-first-2.entry ∷ V.Entries c.in-Type-first-2.rest ∷ [] = search rules in
    rw c.in-Phi.is (puts c.args.bytes.now (K.Typed T.Phi) c.args.m.now c.args.store.now c.args.stack.now _ _ _ _ _ c.requires.standing (sym parts ∙ c.first-in-Phi.ensures) c.in_ok-n-in-Type-first-2.ensures.made c.in_ok-replace-in-Type-first-2.ensures)

pub make_one-requires-clause-literal : goal.make_one-requires-clause-literal
make_one-requires-clause-literal c =
    let parts : c.first-in-Typed.result.now ≡ V.Type c.in-Type.ty ∷ V.Literal c.in-Type.a ∷ [] = search rules in
    (parts_there (IsValueIn c.args.m.now c.args.store.now) 2 c.args.stack.now _ c.requires.standing.values (sym parts ∙ c.first-in-Typed.ensures)) 1 V.Nothing (omega arith)

pub make_pair-requires-clause-a : goal.make_pair-requires-clause-a
make_pair-requires-clause-a c =
    let parts : c.first-in-Pair.result.now ≡ V.Type c.in-Type-first.ty ∷ V.Literal c.in-Type-first.a ∷ V.Literal c.in-Type-first.b ∷ [] = search rules in
    (parts_there (IsValueIn c.args.m.now c.args.store.now) 3 c.args.stack.now _ c.requires.standing.values (sym parts ∙ c.first-in-Pair.ensures)) 1 V.Nothing (omega arith)

pub make_pair-requires-clause-b : goal.make_pair-requires-clause-b
make_pair-requires-clause-b c =
    let parts : c.first-in-Pair.result.now ≡ V.Type c.in-Type-first.ty ∷ V.Literal c.in-Type-first.a ∷ V.Literal c.in-Type-first.b ∷ [] = search rules in
    (parts_there (IsValueIn c.args.m.now c.args.store.now) 3 c.args.stack.now _ c.requires.standing.values (sym parts ∙ c.first-in-Pair.ensures)) 2 V.Nothing (omega arith)

pub make_phi-requires-clause-entry : goal.make_phi-requires-clause-entry
make_phi-requires-clause-entry c =
    let parts : c.first-in-Phi.result.now ≡ V.Type c.in-Type-first-2.ty ∷ V.Entry c.in-Type-first-2.entry ∷ V.Entries c.in-Type-first-2.rest ∷ [] = search rules in
    (parts_there (IsValueIn c.args.m.now c.args.store.now) 3 c.args.stack.now _ c.requires.standing.values (sym parts ∙ c.first-in-Phi.ensures)) 1 V.Nothing (omega arith)
