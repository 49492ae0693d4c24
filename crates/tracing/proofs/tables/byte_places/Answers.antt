-- What `tables::byte_places` owes besides what the check finds.
use Rattle.std.proofs.Common.{refl, ap, ◌∙◌, ℕ, Some}
use Rattle.meaning.specs.Terms.{Int}
use Rattle.tracing.proofs.TablesLaws.{grown_same, grown_then, terms_more}
use Rattle.tracing.proofs.tables.byte_places.Goals as goal

pub loop-byte-preserved : goal.loop-byte-preserved
loop-byte-preserved c = record {
  are = rw c.in_ok-push.ensures.items
      (terms_more (Int 8) _ _ c.loop-byte.places.items c.in_ok-place.place c.args.bytes.now c.loop-byte.byte-index 0 c.loop-byte-test.true c.in_ok-place.ensures.kept c.loop-byte.invariant.are (c.in_ok-place.ensures.is ∙ ap (λ (n : ℕ). Some (Int 8 n)) c.from.ensures));
  types = c.in_ok-place.ensures.types ∙ c.loop-byte.invariant.types;
  grown = λ source h. let before = c.loop-byte.invariant.grown source h in grown_then source _ _ _ before (c.in_ok-place.ensures.grown source before.tables);
}

pub loop-byte-init : goal.loop-byte-init
loop-byte-init c = record { are = rw c.new-places.ensures.items tt; types = refl; grown = λ source h. grown_same source _ h }
