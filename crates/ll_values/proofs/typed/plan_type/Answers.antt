-- What is no token names no struct.
use Rattle.std.proofs.Common.{arith}
use Rattle.std.proofs.lemmas.Grind.{common_steps}
use Rattle.llvm_core.specs.Data.{trees_of}
use Rattle.ll_values.proofs.MakeLaws.{no_name}
use Rattle.ll_values.proofs.typed.plan_type.Goals as goal
use Rattle.ll_values.proofs.typed.plan_type.Goals.{in_default-parts-9-via-then-parts-lt1-7, in_default-parts-9-via-else-parts-lt1-7+then-parts-lt2-9+in-Nothing-1, in_default-parts-9-via-else-parts-lt1-7+else-parts-lt2-9}

pub returns-in_default-parts-9-clause-not_yet : goal.returns-in_default-parts-9-clause-not_yet
returns-in_default-parts-9-clause-not_yet c = λ e t. rw c.in-Named.is (no_name c.args.bytes.now (trees_of c.args.m.now) c.args.store.now c.args.parts.now (elim c.in_default-parts-9.branch [ in_default-parts-9-via-then-parts-lt1-7 w ↦ λ n is. grind (arith, common_steps) | in_default-parts-9-via-else-parts-lt1-7+then-parts-lt2-9+in-Nothing-1 w ↦ λ n is. grind (arith, common_steps) | in_default-parts-9-via-else-parts-lt1-7+else-parts-lt2-9 w ↦ λ n is. grind (arith, common_steps) ]))
