-- Each is in the store.
use Rattle.std.proofs.Common.{length}
use Rattle.dialect_types.proofs.TextLemmas.{AllBelow-at}
use Rattle.dialect_parsing.proofs.making.are_fields.Goals as goal

pub shape_at-requires : goal.shape_at-requires
shape_at-requires c = AllBelow-at (length c.args.types.now) c.args.tys.now c.loop-ty.ty-index (record { 0 = 0 }) c.requires c.loop-ty-test.true
