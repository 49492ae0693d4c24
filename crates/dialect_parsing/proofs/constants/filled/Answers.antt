-- What stands there is no end.
use Rattle.std.proofs.Common.{◌≡◌, Err, ap, rules}
use Rattle.dialect_types.specs.Trees.{structs_of}
use Rattle.dialect_parsing.specs.declared.parse_err.Refused.TheVariants.{Syntax}
use Rattle.dialect_parsing.proofs.ConstantPartLaws.{filled_opens, filled_ends}
use Rattle.dialect_parsing.proofs.constants.filled.Goals as goal

pub returns-in_err-expect-clause-err : goal.returns-in_err-expect-clause-err
returns-in_err-expect-clause-err c = λ _. filled_opens (structs_of c.args.types.now) _ _ c.in_err-expect.ensures.err

pub returns-in_err-ty-clause-err : goal.returns-in_err-ty-clause-err
returns-in_err-ty-clause-err c h =
    let is : c.in_err-ty.field-0.0 ≡ Syntax = search rules in
    filled_ends (structs_of c.args.types.now) _ _ _ c.in_ok-expect.ensures.ok (c.in_err-ty.ensures.err (ap Err is))
