-- The goal of `source::places_of` that the tactics leave.
use Rattle.std.proofs.Common.{ℕ, Option, ◌∙◌, ap, ◌∷◌, [], ◌++◌}
use Rattle.renamed_source.specs.Source.{place_in}
use Rattle.renamed_source.proofs.SourceLaws.{placed_next}
use Rattle.renamed_source.proofs.source.places_of.Goals as goal

pub loop-t-preserved : goal.loop-t-preserved
loop-t-preserved c =
    placed_next (place_in c.args.names.now) c.args.«module».now.types c.loop-t.t c.type_kind.result.now c.loop-t.places.items c.push.new.self.items c.type_kind.ensures.kind c.loop-t.invariant
    (c.in_ok-push.ensures.items ∙ ap (λ (o : Option ℕ). c.loop-t.places.items ++ o ∷ []) c.place_of.ensures)
