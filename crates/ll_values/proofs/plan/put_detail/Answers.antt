-- The instruction of a line with a name is one of the store.
use Rattle.std.proofs.Common.{rules, arith, ◌≡◌, ◌∷◌, [], ◌∙◌, sym}
use Rattle.ll_values.specs.declared.value.Value.TheVariants as V
use Rattle.ll_values.specs.Views.{IsValueIn}
use Rattle.ll_values.proofs.StackLaws.{parts_there}
use Rattle.ll_values.proofs.plan.put_detail.Goals as goal

pub put-requires-in-Text-first-4-clause-there : goal.put-requires-in-Text-first-4-clause-there
put-requires-in-Text-first-4-clause-there c =
    let parts : c.first-in-Named.result.now ≡ V.Text c.in-Text-first-4.name ∷ V.Inst c.in-Text-first-4.n ∷ [] = search rules in
    (parts_there (IsValueIn c.args.m.now c.args.store.now) 2 c.args.stack.now _ c.requires.standing.values (sym parts ∙ c.first-in-Named.ensures)) 1 V.Nothing (omega arith)
