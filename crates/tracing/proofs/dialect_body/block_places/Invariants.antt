-- What holds in the loop of `dialect_body::block_places`.
use Rattle.std.specs.Prelude.{◌≡◌, map, take}
use Rattle.dialect_core.specs.declared.numbers.BlockRef.{BlockRef}
use Rattle.tracing.proofs.dialect_body.block_places.Given as goal

abbrev pub invariant-loop-b : goal.invariant-loop-b
invariant-loop-b l = record { at : l.numbers.items ≡ map (λ (b : BlockRef). b.0) (take l.b-index l.list) }
