-- What `bodies::numbers_of` owes: a number more for each instruction, and in the end one for all of them.
use Rattle.std.proofs.Common.{◌≡◌, ◌<◌, ◌+◌, ◌++◌, ◌∷◌, [], ℕ, List, ap, ◌∙◌, sym, length, take, arith}
use Rattle.std.proofs.lemmas.List.{take_all}
use Rattle.llvm_core.specs.declared.numbers.LLVMInstRef.{LLVMInstRef}
use Rattle.llvm_core.specs.Bodies.{inst_numbers}
use Rattle.llvm_core.proofs.BodyLists.{numbers_more}
use Rattle.llvm_core.proofs.bodies.numbers_of.Goals as goal

pub loop-inst-preserved : goal.loop-inst-preserved
loop-inst-preserved c =
    let old = c.loop-inst.invariant in
    let taken = c.in_ok-take_number.ensures in
    let number = c.in_ok-take_number.field-0 in
    let is : number ≡ c.args.first + c.loop-inst._inst-index = taken.number ∙ old.1 in
    let lt : c.loop-inst._inst-index < length c.args.insts.now = omega (arith, c.loop-inst-test.true) in (
      taken.few,
      omega (arith, taken.next, old.1),
      c.in_ok-push.ensures.ok
          ∙ ap (λ (ns : List LLVMInstRef). ns ++ record { 0 = number } ∷ []) old.2
          ∙ ap (λ (j : ℕ). let i : LLVMInstRef = record { 0 = j } in inst_numbers c.args.first (take c.loop-inst._inst-index c.args.insts.now) ++ i ∷ []) is
          ∙ sym (numbers_more c.args.first c.loop-inst._inst-index c.args.insts.now lt),
    )

pub returns-clause-numbers : goal.returns-clause-numbers
returns-clause-numbers c =
    c.loop-inst.invariant.2 ∙ ap (inst_numbers c.args.first) (take_all c.loop-inst._inst-index c.args.insts.now (omega (arith, c.loop-inst-test.false)))
