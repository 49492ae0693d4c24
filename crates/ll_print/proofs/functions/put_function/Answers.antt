-- What holds of a function holds of the function that the numbers are of.
use Rattle.std.proofs.Common.{subst, sym, ◌≡◌, ◌++◌}
use Rattle.std.specs.Prelude.{OnOk}
use Rattle.llvm_core.specs.declared.numbers.LLVMFunction.{LLVMFunction}
use Rattle.llvm_core.specs.Data.{structs_of}
use Rattle.llvm_core.specs.Form.{IsFormFunction}
use Rattle.ll_print.specs.Parts.{function_in, IsSignature}
use Rattle.ll_print.specs.Printing.{function_text}
use Rattle.ll_print.proofs.functions.put_function.Goals as goal

pub put_numbered-requires-clause-form : goal.put_numbered-requires-clause-form
put_numbered-requires-clause-form c = subst (λ (f : LLVMFunction). IsFormFunction (function_in c.args.m.now f)) (sym c.in_ok-numbers.ensures.function) c.requires.form

pub put_numbered-requires-clause-signature : goal.put_numbered-requires-clause-signature
put_numbered-requires-clause-signature c =
    subst (λ (f : LLVMFunction). IsSignature c.args.m.now f c.signature.result.0 c.signature.result.1.now) (sym c.in_ok-numbers.ensures.function) c.signature.ensures

pub returns-clause-text : goal.returns-clause-text
returns-clause-text c = subst (λ (f : LLVMFunction). OnOk c.put_numbered.result (c.put_numbered.new.out.items ≡ c.args.out.now.items ++ function_text (structs_of c.args.m.now) (function_in c.args.m.now f))) c.in_ok-numbers.ensures.function c.put_numbered.ensures.text
