-- The goal of `source::listed_names` that the tactics leave.
use Rattle.std.proofs.Common.{ap, sym, subst, ◌∙◌, Some, List, ℕ}
use Rattle.std.proofs.lemmas.Option.{slice_get-get_or}
use Rattle.llvm_core.specs.Names.{IsInserted}
use Rattle.renamed_source.specs.Source.{pairs_of, listed}
use Rattle.renamed_source.proofs.SourceLaws.{inserted_next, name_at}
use Rattle.renamed_source.proofs.source.listed_names.Goals as goal

pub loop-pair-preserved : goal.loop-pair-preserved
loop-pair-preserved c =
    let p = c.pair-item.result in
    let here = slice_get-get_or c.args.pairs.now c.loop-pair.pair-index p c.loop-pair-test.true ∙ ap Some (sym c.pair-item.is) in
    let added = subst (λ (n : List ℕ). IsInserted c.loop-pair.names c.insert.new.self n c.in_ok-insert.field-0) c.as_str.ensures.value c.in_ok-insert.ensures in
    inserted_next (listed (pairs_of c.args.pairs.now)) c.loop-pair.pair-index _ c.loop-pair.names c.insert.new.self c.in_ok-insert.field-0
    c.requires (name_at c.args.pairs.now c.loop-pair.pair-index p here) c.loop-pair.invariant added
