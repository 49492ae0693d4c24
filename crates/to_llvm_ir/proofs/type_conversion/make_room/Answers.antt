-- At a place more nothing was given.
use Rattle.std.proofs.Common.{◌∙◌, ap}
use Rattle.to_llvm_ir.proofs.ConversionLaws.{given_in, place_more}
use Rattle.to_llvm_ir.proofs.type_conversion.make_room.Goals as goal

pub loop-tcctx-preserved : goal.loop-tcctx-preserved
loop-tcctx-preserved c = λ t. ap (given_in t) c.in_ok-push.ensures.items ∙ place_more c.loop-tcctx.tcctx.given.items t ∙ c.loop-tcctx.invariant t

pub returns-in_err-push-clause-same : goal.returns-in_err-push-clause-same
returns-in_err-push-clause-same c = λ t. ap (given_in t) c.in_err-push.ensures.items ∙ c.loop-tcctx.invariant t
