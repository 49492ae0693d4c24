-- What stands there is no integer.
use Rattle.dialect_types.specs.Trees.{structs_of}
use Rattle.dialect_parsing.proofs.ConstantPartLaws.{integer_opens, integer_values, integer_colons, integer_widths, integer_ends}
use Rattle.dialect_parsing.proofs.constants.integer.Goals as goal

pub returns-in_err-expect-clause-err : goal.returns-in_err-expect-clause-err
returns-in_err-expect-clause-err c = λ _. integer_opens (structs_of c.args.types.now) _ c.in_err-expect.ensures.err

pub returns-in_err-value-clause-err : goal.returns-in_err-value-clause-err
returns-in_err-value-clause-err c = λ _. integer_values (structs_of c.args.types.now) _ _ c.in_ok-expect.ensures.ok c.in_err-value.ensures.err

pub returns-in_err-expect-2-clause-err : goal.returns-in_err-expect-2-clause-err
returns-in_err-expect-2-clause-err c = λ _. integer_colons (structs_of c.args.types.now) _ _ _ _ c.in_ok-expect.ensures.ok c.in_ok-value.ensures.ok c.in_err-expect-2.ensures.err

pub returns-in_err-width-clause-err : goal.returns-in_err-width-clause-err
returns-in_err-width-clause-err c = λ _.
    integer_widths (structs_of c.args.types.now) _ _ _ _ _ c.in_ok-expect.ensures.ok c.in_ok-value.ensures.ok c.in_ok-expect-2.ensures.ok c.in_err-width.ensures.err

pub returns-in_err-expect-3-clause-err : goal.returns-in_err-expect-3-clause-err
returns-in_err-expect-3-clause-err c = λ _.
    integer_ends (structs_of c.args.types.now) _ _ _ _ _ _ _ c.in_ok-expect.ensures.ok c.in_ok-value.ensures.ok c.in_ok-expect-2.ensures.ok c.in_ok-width.ensures.ok.0 c.in_err-expect-3.ensures.err
