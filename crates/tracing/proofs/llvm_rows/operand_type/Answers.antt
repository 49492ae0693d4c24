-- What `llvm_rows::operand_type` owes besides what the check finds.
use Rattle.std.proofs.Common.{Some, ap, ◌∙◌}
use Rattle.std.proofs.lemmas.Result.{IfOk-weaker}
use Rattle.tracing.proofs.LlvmLaws.{used_tree}
use Rattle.tracing.proofs.llvm_rows.operand_type.Goals as goal

pub returns-clause-stands : goal.returns-clause-stands
returns-clause-stands c =
    IfOk-weaker c.type_place.result _ _ (λ t stands h used. stands ∙ ap Some (used_tree c.args.m.now h c.args.v c.type_of.result used c.type_of.ensures.ty)) c.type_place.ensures.stands
