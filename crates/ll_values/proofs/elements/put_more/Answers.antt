-- A constant stands before those that are there.
use Rattle.std.proofs.Common.{rules, arith, ◌≡◌, ◌∷◌, [], ◌∙◌, sym}
use Rattle.llvm_core.specs.Data.{trees_of}
use Rattle.ll_values.specs.declared.form.Kind.TheVariants as K
use Rattle.ll_values.specs.declared.form.ListKind.TheVariants as E
use Rattle.ll_values.specs.declared.value.Value.TheVariants as V
use Rattle.ll_values.specs.Views.{consts_from, IsValueIn}
use Rattle.ll_values.proofs.StackLaws.{parts_there, puts_kept, puts_none}
use Rattle.ll_values.proofs.ElementLaws.{more_says, more_none}
use Rattle.ll_values.proofs.elements.put_more.Goals as goal

pub keep_consts-requires-clause-rest : goal.keep_consts-requires-clause-rest
keep_consts-requires-clause-rest c =
    let parts : c.first.result.now ≡ V.Typed c.in-Typed.x ∷ V.Consts c.in-Typed.rest ∷ [] = search rules in
    (parts_there (IsValueIn c.args.m.now c.args.store.now) 2 c.args.stack.now _ c.requires.standing.values (sym parts ∙ c.first.ensures)) 1 V.Nothing (omega arith)

pub returns-in_ok-replace-in-Const-clause-puts : goal.returns-in_ok-replace-in-Const-clause-puts
returns-in_ok-replace-in-Const-clause-puts c =
    let parts : c.first.result.now ≡ V.Typed c.in-Typed.x ∷ V.Consts c.in-Typed.rest ∷ [] = search rules in
    let says = more_says c.args.bytes.now c.args.m.now c.args.store.now c.in-Typed.x c.in-Typed.rest c.in-Const.first c.in-Const.is in
    puts_kept c.args.bytes.now (K.List E.ConstsMore) c.args.m.now c.args.store.now c.args.stack.now _ _ _ (consts_from c.args.bytes.now (trees_of c.args.m.now) c.args.store.now c.in-Const.first c.in-Typed.rest) _ c.requires.standing (sym parts ∙ c.first.ensures) says c.in_ok-number-in-Const.ensures.kept c.in_ok-replace-in-Const.ensures

pub returns-in-Local-clause-not_yet : goal.returns-in-Local-clause-not_yet
returns-in-Local-clause-not_yet c = λ e.
    let parts : c.first.result.now ≡ V.Typed c.in-Typed.x ∷ V.Consts c.in-Typed.rest ∷ [] = search rules in
    puts_none c.args.bytes.now (K.List E.ConstsMore) c.args.m.now c.args.store.now c.args.stack.now _ (sym parts ∙ c.first.ensures) (more_none c.args.bytes.now c.args.m.now c.args.store.now c.in-Typed.x c.in-Typed.rest _ c.in-Local.is)
