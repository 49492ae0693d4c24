-- The elements stand in place of their parts.
use Rattle.std.proofs.Common.{rules, arith, ◌≡◌, ◌∷◌, [], ◌∙◌, sym}
use Rattle.ll_values.specs.declared.form.Kind.TheVariants as K
use Rattle.ll_values.specs.declared.form.TypedKind.TheVariants as T
use Rattle.ll_values.specs.declared.value.Value.TheVariants as V
use Rattle.ll_values.specs.Views.{IsValueIn}
use Rattle.ll_values.proofs.StackLaws.{parts_there, puts}
use Rattle.ll_values.proofs.ElementLaws.{makes_vector}
use Rattle.ll_values.proofs.elements.put_vector.Goals as goal

pub make_list-requires-clause-first : goal.make_list-requires-clause-first
make_list-requires-clause-first c =
    let parts : c.first.result.now ≡ V.Type c.in-Type.ty ∷ V.Literal c.in-Type.first ∷ V.Consts c.in-Type.rest ∷ [] = search rules in
    let all = parts_there (IsValueIn c.args.m.now c.args.store.now) 3 c.args.stack.now _ c.requires.standing.values (sym parts ∙ c.first.ensures) in
    all 1 V.Nothing (omega arith)

pub make_list-requires-clause-rest : goal.make_list-requires-clause-rest
make_list-requires-clause-rest c =
    let parts : c.first.result.now ≡ V.Type c.in-Type.ty ∷ V.Literal c.in-Type.first ∷ V.Consts c.in-Type.rest ∷ [] = search rules in
    let all = parts_there (IsValueIn c.args.m.now c.args.store.now) 3 c.args.stack.now _ c.requires.standing.values (sym parts ∙ c.first.ensures) in
    all 2 V.Nothing (omega arith)

pub returns-in_ok-replace-in-Type-clause-puts : goal.returns-in_ok-replace-in-Type-clause-puts
returns-in_ok-replace-in-Type-clause-puts c =
    let parts : c.first.result.now ≡ V.Type c.in-Type.ty ∷ V.Literal c.in-Type.first ∷ V.Consts c.in-Type.rest ∷ [] = search rules in
    let made = makes_vector c.args.bytes.now c.args.m.now c.make_list.new.m c.args.store.now c.make_list.new.store c.in-Type.ty c.in-Type.first c.in-Type.rest c.in_ok-list-in-Type.list c.in_ok-list-in-Type.ensures.says in
    puts c.args.bytes.now (K.Typed T.InVector) c.args.m.now c.args.store.now c.args.stack.now _ _ _ _ _ c.requires.standing (sym parts ∙ c.first.ensures) made c.in_ok-replace-in-Type.ensures
