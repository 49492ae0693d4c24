-- What `op_tests::returned` owes besides what the check finds.
use Rattle.dialect_core.proofs.ModulePrintLemmas.{symbol_typed}
use Rattle.dialect_core.proofs.OpTestLemmas.{returned_below, func_returns, func_void}
use Rattle.dialect_core.proofs.op_tests.returned.Goals as goal

pub kind-requires : goal.kind-requires
kind-requires c = rw c.types.ensures (symbol_typed c.args.ctx.now c.args.func c.symbol_type.result c.requires.typed c.symbol_type.ensures)

pub returns-in-Func-clause-ty : goal.returns-in-Func-clause-ty
returns-in-Func-clause-ty c = func_returns c.args.ctx.now c.args.func c.symbol_type.result c.kind.result.now c.in-Func.returned c.in-Func.params c.in-Func.variadic c.symbol_type.ensures c.in-Func.is (rw c.types.ensures at c.kind.ensures.tree)

pub returns-in-Func-clause-within : goal.returns-in-Func-clause-within
returns-in-Func-clause-within c = returned_below c.symbol_type.result.0 _ c.kind.result.now c.in-Func.returned c.in-Func.params c.in-Func.variadic c.in-Func.is c.kind.ensures.parts (symbol_typed c.args.ctx.now c.args.func c.symbol_type.result c.requires.typed c.symbol_type.ensures)

pub returns-in_default : goal.returns-in_default
returns-in_default c = record { ty = func_void c.args.ctx.now c.args.func c.symbol_type.result c.kind.result.now c.symbol_type.ensures c.in_default.not-Func (rw c.types.ensures at c.kind.ensures.tree); within = tt }
