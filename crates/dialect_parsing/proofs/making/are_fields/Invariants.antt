-- Each so far may be a field.
use Rattle.std.proofs.Common.{ℕ, ◌<◌, ◌≡◌, true, get_or}
use Rattle.kinds.specs.Types.{shape}
use Rattle.kinds.specs.Fitting.{is_field}
use Rattle.dialect_types.specs.Trees.{type_at, type_trees}
use Rattle.dialect_types.specs.declared.types.TypeHandle.{TypeHandle}
use Rattle.dialect_parsing.proofs.making.are_fields.Given as goal

abbrev pub invariant-loop-ty : goal.invariant-loop-ty
invariant-loop-ty l = (k : ℕ) (d : TypeHandle) → k < l.ty-index → is_field (shape (type_at (type_trees l.types) (get_or l.tys k d))) ≡ true
