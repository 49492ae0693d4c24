-- What `building::add_bare_block` owes besides what the check finds.
use Rattle.from_llvm_ir.proofs.KeepLaws.{keeps_same, keeps_block}
use Rattle.from_llvm_ir.proofs.building.add_bare_block.Goals as goal

pub returns-in_err-block-clause-kept : goal.returns-in_err-block-clause-kept
returns-in_err-block-clause-kept c = λ n b later. keeps_same n b c.args.ctx.now c.add_block.new.self c.in_err-block.ensures.err

pub returns-clause-kept : goal.returns-clause-kept
returns-clause-kept c = λ n b later. keeps_block n b c.args.ctx.now c.add_block.new.self c.in_ok-block.block _ _ c.in_ok-block.ensures.ok c.in_ok-block.ensures.data c.in_ok-block.ensures.typed later
