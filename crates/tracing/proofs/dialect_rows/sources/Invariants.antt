-- What holds in the loop of `dialect_rows::sources`.
use Rattle.std.specs.Prelude.{map, take}
use Rattle.dialect_core.specs.declared.ops.Value.{Value}
use Rattle.meaning.specs.Machine.{At}
use Rattle.tracing.specs.Contents.{Contents}
use Rattle.tracing.specs.Bodies.{AreSources}
use Rattle.tracing.specs.DialectBodies.{slot_of}
use Rattle.tracing.proofs.dialect_rows.sources.Given as goal

abbrev pub invariant-loop-value : goal.invariant-loop-value
invariant-loop-value l = record { at : (now : Contents) → AreSources now l.sources (map (λ (v : Value). At (slot_of v)) (take l.value-index l.values)) }
