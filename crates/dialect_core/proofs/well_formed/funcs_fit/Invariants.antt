-- What the loop of `well_formed::funcs_fit` keeps, and how it ends.
use Rattle.std.proofs.Common.{◌<◌, List, length}
use Rattle.std.specs.Prelude.{IfSome}
use Rattle.dialect_core.specs.declared.numbers.OpRef.{OpRef}
use Rattle.dialect_core.specs.Lists.{list_at, from_op}
use Rattle.dialect_core.specs.Checking.{IsFuncAt, AreApartFrom}
use Rattle.dialect_core.specs.Data.{name_at, symbol_name_at}
use Rattle.dialect_core.proofs.FromLemmas.{Going}
use Rattle.dialect_core.proofs.well_formed.funcs_fit.Given as goal

abbrev pub invariant-loop-next : goal.invariant-loop-next
invariant-loop-next l = IfSome l.next (λ (o : OpRef). o.0 < length l.ctx.ops) × Going (λ (o : OpRef) (rest : List OpRef). IsFuncAt l.ctx o × AreApartFrom l.ctx (name_at l.ctx.ops o.0) (symbol_name_at l.ctx.ops o) rest) (list_at l.ctx.lists l.fn.block) (list_at l.ctx.lists l.fn.block) l.next

abbrev pub decreases-loop-next : goal.decreases-loop-next
decreases-loop-next l = length (from_op l.next (list_at l.ctx.lists l.fn.block))
