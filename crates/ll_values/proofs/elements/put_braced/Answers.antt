-- The literal and the constants behind it are there.
use Rattle.std.proofs.Common.{rules, arith, ◌≡◌, ◌∷◌, [], ◌∙◌, sym}
use Rattle.ll_values.specs.declared.value.Value.TheVariants as V
use Rattle.ll_values.specs.Views.{IsValueIn}
use Rattle.ll_values.proofs.StackLaws.{parts_there}
use Rattle.ll_values.proofs.elements.put_braced.Goals as goal

pub put-requires-clause-there : goal.put-requires-clause-there
put-requires-clause-there c =
    let parts : c.first.result.now ≡ V.Literal c.in-Literal.first ∷ V.Consts c.in-Literal.rest ∷ [] = search rules in
    let all = parts_there (IsValueIn c.args.m.now c.args.store.now) 2 c.args.stack.now _ c.requires.standing.values (sym parts ∙ c.first.ensures) in
    (all 0 V.Nothing (omega arith), all 1 V.Nothing (omega arith))
