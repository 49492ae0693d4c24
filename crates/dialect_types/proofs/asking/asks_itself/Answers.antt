-- What `asking::asks_itself` owes besides what the check finds.
use Rattle.std.proofs.Common.{ap, sym, ◌∙◌}
use Rattle.std.specs.List.{list_all}
use Rattle.dialect_types.specs.Names.{is_name_byte}
use Rattle.dialect_types.specs.Legalised.{is_headless}
use Rattle.dialect_types.proofs.LegalLaws.{asks_itself}
use Rattle.dialect_types.proofs.asking.asks_itself.Goals as goal

pub returns-then-not-is_headless : goal.returns-then-not-is_headless
returns-then-not-is_headless c whole =
    let bytes = c.as_bytes-bytes.ensures.value in
    asks_itself c.args.name.now (ap is_headless (sym bytes) ∙ sym c.is_headless.ensures ∙ c.if-not-is_headless.true) (ap (list_all is_name_byte) (sym bytes) ∙ sym c.are_name_bytes.ensures ∙ whole)
