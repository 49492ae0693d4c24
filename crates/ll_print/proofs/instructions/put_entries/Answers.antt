-- Each entry prints behind the others.
use Rattle.std.proofs.Common.{ap, ◌∙◌, ◌++◌, ℕ, List}
use Rattle.llvm_core.specs.Data.{trees_of, structs_of, entry_of}
use Rattle.ll_print.specs.Printing.{entry_text}
use Rattle.ll_print.specs.Parts.{function_in}
use Rattle.ll_print.proofs.StrungLaws.{behind_comma, strung_put, strung_all, comma_put, entries_strung}
use Rattle.ll_print.proofs.instructions.put_entries.Goals as goal

pub put_entry-requires-clause-own : goal.put_entry-requires-clause-own
put_entry-requires-clause-own c = c.requires.own c.loop-place.place _ c.loop-place-test.true

pub loop-place-preserved : goal.loop-place-preserved
loop-place-preserved c =
    let entry = entry_text (structs_of c.args.m.now) (function_in c.args.m.now c.args.numbers.now.function) in
    strung_put entry (behind_comma entry) (entry_of (trees_of c.args.m.now)) c.args.entries.now c.loop-place.place _ c.args.out.now.items _ _ c.loop-place-test.true c.loop-place.invariant
    (comma_put entry c.loop-place.place _ _ _ _ c.in_ok-put_comma.ensures.text c.in_ok-put_entry.ensures.text)

pub returns-clause-text : goal.returns-clause-text
returns-clause-text c =
    let ss = structs_of c.args.m.now in
    let f = function_in c.args.m.now c.args.numbers.now.function in
    strung_all (entry_text ss f) (behind_comma (entry_text ss f)) (entry_of (trees_of c.args.m.now)) c.args.entries.now c.loop-place.place c.args.out.now.items _ c.loop-place-test.false c.loop-place.invariant
    ∙ ap (λ (t : List ℕ). c.args.out.now.items ++ t) (entries_strung ss f _)
