-- The lines of two small functions, whose numbers have one digit, and what they say.
use Rattle.std.proofs.Common.{◌≡◌, Some, codes, refl, arith}
use Rattle.std.proofs.lemmas.Fmt.{decimal_digit}
use Rattle.std.proofs.lemmas.Str.{is_utf8-from_IsUtf8}
use Rattle.ll_literals.specs.Names.{text_said}
use Rattle.ll_literals.proofs.NameLaws.{IsUtf8-bare}
use Rattle.ll_literals.proofs.QuoteLaws.{text_says}
use Rattle.ll_said.proofs.laws.small_functions.Goals as goal

pub returns-clause-said : goal.returns-clause-said
returns-clause-said c = rw (decimal_digit 0 (omega arith), decimal_digit 1 (omega arith), decimal_digit 2 (omega arith)) refl

source : text_said (codes "\"m\"") ≡ Some (codes "m")
source = text_says (codes "m") (is_utf8-from_IsUtf8 (codes "m") (IsUtf8-bare (codes "m") refl))

pub returns-clause-meant : goal.returns-clause-meant
returns-clause-meant c = rw source refl
