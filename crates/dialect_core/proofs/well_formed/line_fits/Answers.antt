-- What `well_formed::line_fits` owes besides what the check finds.
use Rattle.std.proofs.Common.{◌≡◌, arith}
use Rattle.std.specs.Prelude.{is_none}
use Rattle.dialect_core.specs.Checking.{ends_kind, func_at}
use Rattle.dialect_core.proofs.LineLemmas.{line_is}
use Rattle.dialect_core.proofs.well_formed.line_fits.Goals as goal

pub returns-then-is_ending-is_none : goal.returns-then-is_ending-is_none
returns-then-is_ending-is_none c =
    let ends : ends_kind c.op_kind.result.now ≡ is_none c.args.next = grind arith in
    line_is c.args.ctx.now (func_at c.args.ctx.now c.args.func) c.args.op c.args.next c.op_kind.result.now c.op_fits.result c.op_kind.ensures.kind ends (c.is_plain.ensures.0 c.if-not-is_plain.false) (c.is_past_firsts.ensures.0 c.if-not-is_past_firsts.false) c.op_fits.ensures
