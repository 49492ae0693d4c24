-- What `values::known_operands` owes besides what the check finds.
use Rattle.std.proofs.Common.{sym, subst, List, All, map}
use Rattle.std.specs.Prelude.{IfErr, IfOk}
use Rattle.llvm_core.specs.declared.code.LLVMValue.{LLVMValue}
use Rattle.llvm_core.specs.Data.{trees_of, operand_of}
use Rattle.from_llvm_ir.specs.Values.{AreNoted, IsForward, IsSettled}
use Rattle.from_llvm_ir.proofs.values.known_operands.Goals as goal

pub known_values-requires : goal.known_values-requires
known_values-requires c = subst (All (IsSettled c.args.source.now c.args.values.now)) (sym c.operands_of.ensures) c.requires.settled

pub returns-clause-ok : goal.returns-clause-ok
returns-clause-ok c = subst (λ (vs : List LLVMValue). IfOk c.known_values.result (λ ws. AreNoted c.args.values.now vs ws)) c.operands_of.ensures c.known_values.ensures.ok

pub returns-clause-err : goal.returns-clause-err
returns-clause-err c =
    subst (λ (vs : List LLVMValue). IfErr c.known_values.result (IsForward c.args.source.now c.args.values.now (map (operand_of (trees_of c.args.source.now)) vs)))
    c.operands_of.ensures c.known_values.ensures.err
