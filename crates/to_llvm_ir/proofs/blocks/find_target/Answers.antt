-- A block that is not among those of the function is none of it.
use Rattle.to_llvm_ir.proofs.UseLaws.{leads_outside}
use Rattle.std.proofs.Common.{◌∙◌, sym}
use Rattle.to_llvm_ir.proofs.blocks.find_target.Goals as goal

pub returns-in_ok-copy-in-None-clause-cause : goal.returns-in_ok-copy-in-None-clause-cause
returns-in_ok-copy-in-None-clause-cause c = λ s op l spot mapped at.
    leads_outside c.args.ctx.now s op c.args.blocks.now l c.args.edge.now c.in_ok-copy-in-None.field-0 spot mapped at (sym c.in-None.ensures) (c.in_ok-copy-in-None.ensures ∙ c.label_of.ensures)
