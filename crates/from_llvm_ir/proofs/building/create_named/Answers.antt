-- What `building::create_named` owes besides what the check finds.
use Rattle.std.proofs.Common.{ap}
use Rattle.dialect_core.specs.ContextData.{ContextData}
use Rattle.from_llvm_ir.proofs.KeepLaws.{keeps_same, keeps_new}
use Rattle.from_llvm_ir.proofs.building.create_named.Goals as goal

pub returns-in_err-op-clause-types : goal.returns-in_err-op-clause-types
returns-in_err-op-clause-types c = ap (λ (x : ContextData). x.types) c.in_err-op.ensures.err

pub returns-in_err-op-clause-kept : goal.returns-in_err-op-clause-kept
returns-in_err-op-clause-kept c = λ n b. keeps_same n b c.args.ctx.now c.keep_op.new.self c.in_err-op.ensures.err

pub returns-clause-types : goal.returns-clause-types
returns-clause-types c = ap (λ (x : ContextData). x.types) c.in_ok-op.ensures.ok

pub returns-clause-kept : goal.returns-clause-kept
returns-clause-kept c = λ n b. keeps_new n b c.args.ctx.now c.keep_op.new.self _ c.in_ok-op.ensures.ok c.in_ok-op.ensures.data c.in_ok-op.ensures.typed
