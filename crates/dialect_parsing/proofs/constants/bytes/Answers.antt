-- What stands there is no array of bytes.
use Rattle.std.proofs.Common.{◌≡◌, Err, ap, rules}
use Rattle.dialect_parsing.specs.declared.parse_err.Refused.TheVariants.{Syntax}
use Rattle.dialect_parsing.proofs.ConstantPartLaws.{bytes_open, bytes_bracket, bytes_none, bytes_end}
use Rattle.dialect_parsing.proofs.constants.bytes.Goals as goal

pub returns-in_err-expect-clause-err : goal.returns-in_err-expect-clause-err
returns-in_err-expect-clause-err c = λ _ structs. bytes_open structs _ c.in_err-expect.ensures.err

pub returns-in_err-expect-2-clause-err : goal.returns-in_err-expect-2-clause-err
returns-in_err-expect-2-clause-err c = λ _ structs. bytes_bracket structs _ _ c.in_ok-expect.ensures.ok c.in_err-expect-2.ensures.err

pub returns-in_err-bytes-clause-err : goal.returns-in_err-bytes-clause-err
returns-in_err-bytes-clause-err c h structs =
    let is : c.in_err-bytes.field-0.0 ≡ Syntax = search rules in
    bytes_none structs _ _ _ c.in_ok-expect.ensures.ok c.in_ok-expect-2.ensures.ok (c.in_err-bytes.ensures.err (ap Err is))

pub returns-in_err-expect-3-clause-err : goal.returns-in_err-expect-3-clause-err
returns-in_err-expect-3-clause-err c = λ _ structs. bytes_end structs _ _ _ _ _ c.in_ok-expect.ensures.ok c.in_ok-expect-2.ensures.ok c.in_ok-bytes.ensures.ok c.in_err-expect-3.ensures.err
