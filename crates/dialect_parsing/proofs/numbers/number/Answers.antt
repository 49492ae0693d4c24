-- The number of a text that is all digits.
use Rattle.std.proofs.Common.{◌<◌, ◌∙◌, sym, length, rules}
use Rattle.dialect_parsing.proofs.NumberLaws.{number_of_digits}
use Rattle.dialect_parsing.proofs.numbers.number.Goals as goal

pub returns : goal.returns
returns c =
    let some : 0 < length c.args.text.now = search rules in
    let e = number_of_digits c.args.text.now some in
    let all = sym c.are_digits.ensures ∙ c.if-not-are_digits.false in
    rw (e, all) c.value.ensures
