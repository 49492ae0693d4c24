-- What `well_formed::well_formed` owes besides what the check finds.
use Rattle.std.proofs.Common.{Some, ap, sym, ◌∙◌, arith}
use Rattle.dialect_core.specs.declared.numbers.BlockRef.{BlockRef}
use Rattle.dialect_core.proofs.FuncTestLemmas.{module_is, module_fails, one_item}
use Rattle.dialect_core.proofs.well_formed.well_formed.Goals as goal

pub returns-then-args_fit : goal.returns-then-args_fit
returns-then-args_fit c =
    let zero : BlockRef = record { 0 = 0 } in
    module_is c.args.ctx.now c.region.ensures.symbols c.args.root.0.0 _ (sym c.region.ensures.blocks ∙ one_item c.region.result.now zero (omega arith)) c.body_fits.result (c.op_kind.ensures.kind ∙ ap Some c.in-Module.is) (c.args_fit.ensures.0 c.if-args_fit.true) c.body_fits.ensures

pub returns-else-args_fit : goal.returns-else-args_fit
returns-else-args_fit c =
    let zero : BlockRef = record { 0 = 0 } in
    module_fails c.args.ctx.now c.region.ensures.symbols c.args.root.0.0 _ (sym c.region.ensures.blocks ∙ one_item c.region.result.now zero (omega arith)) c.args_fit.result c.if-args_fit.false c.args_fit.ensures
