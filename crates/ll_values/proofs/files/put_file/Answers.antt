-- What stands first is a name, a struct or a function, and the rest has no name.
use Rattle.std.proofs.Common.{rules, arith, ◌≡◌, ◌∷◌, [], ◌∙◌, None, sym}
use Rattle.ll_values.specs.declared.value.Value.TheVariants as V
use Rattle.ll_values.specs.Views.{IsValueIn}
use Rattle.ll_values.proofs.StackLaws.{parts_there}
use Rattle.ll_values.proofs.files.put_file.Goals as goal

pub put-requires-clause-there : goal.put-requires-clause-there
put-requires-clause-there c =
    let parts : c.first.result.now ≡ V.Source c.in-Source.name ∷ V.File None c.in-Source.structs c.in-Source.functions ∷ [] = search rules in
    (parts_there (IsValueIn c.args.m.now c.args.store.now) 2 c.args.stack.now _ c.requires.standing.values (sym parts ∙ c.first.ensures)) 1 V.Nothing (omega arith)

pub put_struct-requires-clause-parts : goal.put_struct-requires-clause-parts
put_struct-requires-clause-parts c =
    let parts : c.first.result.now ≡ V.Struct c.in-Struct.first ∷ V.File None c.in-Struct.rest c.in-Struct.functions ∷ [] = search rules in
    sym c.first.ensures ∙ parts

pub put_function-requires-clause-parts : goal.put_function-requires-clause-parts
put_function-requires-clause-parts c =
    let parts : c.first.result.now ≡ V.Function c.in-Function.first ∷ V.File None c.in-Function.structs c.in-Function.rest ∷ [] = search rules in
    sym c.first.ensures ∙ parts
