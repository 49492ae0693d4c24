-- The parameters are counted, and then the blocks.
use Rattle.std.proofs.Common.{ℕ, ◌≤◌, ◌∙◌, subst}
use Rattle.llvm_core.specs.declared.numbers.LLVMFunction.{LLVMFunction}
use Rattle.ll_literals.specs.Numbers.{number_limit}
use Rattle.ll_print.specs.Printing.{unnamed_params}
use Rattle.ll_print.specs.Numbering.{Counts}
use Rattle.ll_print.specs.Parts.{function_in}
use Rattle.ll_print.proofs.CountLaws.{numbered_function}
use Rattle.ll_print.proofs.numbering.numbers_of.Goals as goal

pub returns : goal.returns
returns c =
    let numbered = numbered_function c.args.m.now c.args.f c.new-numbers.result c.count_params.new.numbers c.count_blocks.new.numbers c.blocks-2.result.now c.blocks-2.ensures.blocks c.new-numbers.ensures.none
    (subst (λ (f : LLVMFunction). Counts c.new-numbers.result c.count_params.new.numbers (unnamed_params 0 (function_in c.args.m.now f).params)) c.new-numbers.ensures.function c.in_ok-count_params.ensures)
    c.in_ok-count_blocks.ensures in
    record {
      function = c.in_ok-count_blocks.ensures.function ∙ c.in_ok-count_params.ensures.function ∙ c.new-numbers.ensures.function;
      numbered = numbered;
      few = subst (λ (k : ℕ). k ≤ number_limit) numbered.count c.counted-counted.ensures;
    }
