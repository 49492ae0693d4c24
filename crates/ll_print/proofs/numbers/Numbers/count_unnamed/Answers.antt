-- A thing without a name is counted.
use Rattle.std.proofs.Common.{sym, ◌∙◌}
use Rattle.ll_print.specs.Numbering.{thing_of}
use Rattle.ll_print.proofs.NumberLaws.{counts_one, counts_unnamed}
use Rattle.ll_print.proofs.numbers.Numbers.count_unnamed.Goals as goal

pub returns-in_ok-give_next : goal.returns-in_ok-give_next
returns-in_ok-give_next c =
    counts_unnamed _ _ c.args.name.now (thing_of c.args.place) (sym c.is_empty.ensures ∙ c.if-is_empty.true)
    (counts_one _ c.give_next.new.self c.args.place c.in_ok-give_next.ensures.function c.in_ok-give_next.ensures.count c.in_ok-give_next.ensures.places)
