-- What was read is spelled, and what is refused spells no constant.
use Rattle.std.proofs.Common.{◌≡◌, Some, Err, length, sym, ap, ◌∙◌}
use Rattle.dialect_types.specs.Trees.{structs_of}
use Rattle.dialect_parsing.proofs.StoreLaws.{grown_trees}
use Rattle.dialect_parsing.proofs.ConstantSpellLaws.{spells_attr, spells_no_attr}
use Rattle.dialect_parsing.proofs.parsing.parse_attr.Goals as goal

pub returns-in-Ok-clause-ok : goal.returns-in-Ok-clause-ok
returns-in-Ok-clause-ok c =
    let e = c.in-Ok.ensures in
    (e.within, spells_attr (structs_of c.args.types.now) c.args.bytes.now _ _ (c.in_ok-found.ensures.found ∙ ap Some (sym (c.new-reader.ensures ∙ c.as_slice.ensures.value))) e.ok)

pub returns-in-Ok-clause-kept : goal.returns-in-Ok-clause-kept
returns-in-Ok-clause-kept c = grown_trees _ _ c.in-Ok.ensures.grows

pub returns-in-Err-NoMemory-clause-kept : goal.returns-in-Err-NoMemory-clause-kept
returns-in-Err-NoMemory-clause-kept c = grown_trees _ _ c.in-Err-NoMemory.ensures.grows

pub returns-clause-err : goal.returns-clause-err
returns-clause-err c at h =
    let none = c.in-Err-Syntax.ensures.err (ap Err c.in-Err-Syntax.field-0-is) in
    let is : c.place_of.result ≡ at = cc in
    let within = c.place_of.ensures (length c.args.bytes.now) (rw c.deref.ensures.value c.in_ok-found.ensures.places) in
    (rw (← is) within, spells_no_attr (structs_of c.args.types.now) c.args.bytes.now _ (c.in_ok-found.ensures.found ∙ ap Some (sym (c.new-reader.ensures ∙ c.as_slice.ensures.value))) none)

pub returns-clause-kept : goal.returns-clause-kept
returns-clause-kept c = grown_trees _ _ c.in-Err-Syntax.ensures.grows
