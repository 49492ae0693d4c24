-- Behind the type stands no sign that closes the constant.
use Rattle.dialect_types.specs.Trees.{structs_of}
use Rattle.dialect_parsing.proofs.ConstantPartLaws.{end_open}
use Rattle.dialect_parsing.proofs.constants.end.Goals as goal

pub returns-in_err-expect-clause-err : goal.returns-in_err-expect-clause-err
returns-in_err-expect-clause-err c = λ _. end_open (structs_of c.args.types.now) _ _ _ c.in_ok-ty.ensures.ok c.in_err-expect.ensures.err
