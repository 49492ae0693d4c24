-- How `types::value_type` and what it calls end, and the types of a list so far.
use Rattle.std.proofs.Common.{◌≡◌, ◌+◌, ◌*◌, map, take}
use Rattle.llvm_core.specs.Data as L
use Rattle.dialect_types.specs.Trees.{type_at, type_trees}
use Rattle.dialect_types.proofs.PrintedTypes.{reach}
use Rattle.to_llvm_ir.specs.Growth.{Grows, AreTypesOf}
use Rattle.to_llvm_ir.proofs.types.+value_type.Given as goal

-- the parts of a type are earlier ones
abbrev pub decreases-value_type : goal.decreases-value_type
decreases-value_type l = 3 * l.ty.0 + 3

abbrev pub decreases-value_kind : goal.decreases-value_kind
decreases-value_kind l = 3 * l.ty.0 + 2

abbrev pub decreases-value_types : goal.decreases-value_types
decreases-value_types l = 3 * reach l.types.now + 1

abbrev pub invariant-value_types-loop-ty : goal.invariant-value_types-loop-ty
invariant-value_types-loop-ty l = record {
  grows : Grows l.fn.back l.back;
  rest : l.back ≡ record l.fn.back { types = l.back.types };
  same : L.data_of l.back ≡ L.data_of l.fn.back;
  types : AreTypesOf l.back l.stand (map (type_at (type_trees l.ctx.types)) (take l.ty-index l.types));
}
