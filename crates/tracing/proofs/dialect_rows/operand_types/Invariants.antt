-- What holds in the loop of `dialect_rows::operand_types`.
use Rattle.std.specs.Prelude.{map, take}
use Rattle.dialect_core.specs.declared.ops.Value.{Value}
use Rattle.dialect_core.specs.Data.{type_in}
use Rattle.meaning.specs.Dialect.{option_type}
use Rattle.tracing.specs.Types.{AllStand}
use Rattle.tracing.specs.TypePlaces.{trees_in}
use Rattle.tracing.specs.Tables.{AreGrown}
use Rattle.tracing.specs.DialectBodies.{origin_of}
use Rattle.tracing.proofs.dialect_rows.operand_types.Given as goal

abbrev pub invariant-loop-value : goal.invariant-loop-value
invariant-loop-value l = record {
  at : AllStand (trees_in l.tables.types) l.places (map (λ (v : Value). option_type (type_in l.ctx v)) (take l.value-index l.values));
  grown : AreGrown (origin_of l.ctx) l.fn.tables l.tables;
}
