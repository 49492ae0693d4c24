-- What `dialect_rows::operand_types` owes besides what the check finds.
use Rattle.std.proofs.Common.{List, map, subst}
use Rattle.std.proofs.lemmas.List.{take_all}
use Rattle.dialect_core.specs.declared.ops.Value.{Value}
use Rattle.dialect_core.specs.Data.{type_in}
use Rattle.meaning.specs.Dialect.{option_type}
use Rattle.tracing.specs.Types.{AllStand}
use Rattle.tracing.specs.TypePlaces.{trees_in}
use Rattle.tracing.proofs.GrowLaws.{stand_more}
use Rattle.tracing.proofs.TablesLaws.{grown_then}
use Rattle.tracing.proofs.DialectLaws.{some_value}
use Rattle.tracing.proofs.dialect_rows.operand_types.Goals as goal

pub operand_type-requires-clause-used : goal.operand_type-requires-clause-used
operand_type-requires-clause-used c = c.requires.used c.loop-value.value-index some_value c.loop-value-test.true

pub loop-value-preserved : goal.loop-value-preserved
loop-value-preserved c =
    let grown = c.in_ok-place.ensures.grown in
    record {
      at = rw c.in_ok-push.ensures.ok
          (stand_more (λ (v : Value). option_type (type_in c.args.ctx.now v)) _ _ c.loop-value.places c.in_ok-place.place c.args.values.now c.loop-value.value-index some_value c.loop-value-test.true grown.kept.0 c.loop-value.invariant.at c.in_ok-place.ensures.stands);
      grown = grown_then _ _ _ _ c.loop-value.invariant.grown grown;
    }

pub returns-clause-stand : goal.returns-clause-stand
returns-clause-stand c =
    subst (λ (vs : List Value). AllStand (trees_in c.loop-value.tables.types) c.loop-value.places (map (λ (v : Value). option_type (type_in c.args.ctx.now v)) vs)) (take_all c.loop-value.value-index c.args.values.now c.loop-value-test.false) c.loop-value.invariant.at
