-- What `quotes::if_name` owes besides what the check finds.
use Rattle.std.proofs.Common.{ap, sym, ◌∙◌, subst, IsUtf8}
use Rattle.std.specs.Cow.{cow_str_bytes}
use Rattle.llvm_core.specs.Checked.{is_bad_name}
use Rattle.ll_literals.proofs.TextBytes.{name_if}
use Rattle.ll_literals.proofs.quotes.if_name.Goals as goal

pub returns-in-Some : goal.returns-in-Some
returns-in-Some c =
    let name = cow_str_bytes c.in-Some.name in
    let bad = ap is_bad_name (sym c.as_str.ensures.value) ∙ sym c.is_bad_name.ensures ∙ c.if-is_bad_name.false in
    rw c.in-Some.is (name_if name bad (subst IsUtf8 c.as_str.ensures.value c.as_str.utf8))
