-- What `type_store::deepest_of` owes besides what the check finds.
use Rattle.std.proofs.Common.{◌≡◌, ◌<◌, get_or, length, arith}
use Rattle.std.specs.Prelude.{max}
use Rattle.std.proofs.lemmas.Option.{slice_get_within}
use Rattle.dialect_types.proofs.DepthLaws.{covered_more}
use Rattle.dialect_types.proofs.TextLemmas.{AllBelow-at}
use Rattle.dialect_types.proofs.type_store.deepest_of.Goals as goal

pub bounds-depths-ty : goal.bounds-depths-ty
bounds-depths-ty c = AllBelow-at (length c.args.depths.now) c.args.types.now c.loop-ty.ty-index (record { 0 = 0 }) c.requires.below c.loop-ty-test.true

pub loop-ty-preserved : goal.loop-ty-preserved
loop-ty-preserved c =
    let h = c.loop-ty.invariant in
    let t = get_or c.args.types.now c.loop-ty.ty-index (record { 0 = 0 }) in
    let here : t.0 < length c.args.depths.now = AllBelow-at (length c.args.depths.now) c.args.types.now c.loop-ty.ty-index (record { 0 = 0 }) c.requires.below c.loop-ty-test.true in
    let entry = get_or c.args.depths.now t.0 0 in
    let greater : c.greater-deepest.result ≡ max c.loop-ty.deepest entry = c.greater-deepest.ensures in
    record {
      few = omega (arith, h.few, greater, c.requires.few t.0 0 here);
      covered = covered_more c.args.types.now c.args.depths.now c.loop-ty.ty-index c.loop-ty.deepest c.greater-deepest.result h.covered greater;
    }

pub returns-clause-each : goal.returns-clause-each
returns-clause-each c t i at d there = c.loop-ty.invariant.covered i (omega (arith, slice_get_within c.args.types.now i t at)) t at d there
