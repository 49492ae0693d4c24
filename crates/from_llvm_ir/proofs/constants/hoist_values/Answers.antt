-- What `constants::hoist_values` owes besides what the check finds.
use Rattle.std.proofs.Common.{◌∙◌, ◌+◌, ◌++◌, List, ap, map, sym, subst, take}
use Rattle.std.specs.List.{filter_map}
use Rattle.std.proofs.lemmas.List.{append-nil, map_push, take_all}
use Rattle.llvm_core.specs.declared.code.LLVMValue.{LLVMValue}
use Rattle.std.proofs.lemmas.Option.{slice_get-get_or}
use Rattle.support.proofs.ListLaws.{take_next}
use Rattle.llvm_core.specs.Data.{trees_of, operand_of}
use Rattle.from_llvm_ir.specs.Imported.{constant_in}
use Rattle.from_llvm_ir.specs.Body.{IsHoisting}
use Rattle.from_llvm_ir.proofs.HoistLaws.{hoisting_ready, uses_more}
use Rattle.from_llvm_ir.proofs.KeepLaws.{keeps_none, keeps_then}
use Rattle.from_llvm_ir.proofs.constants.hoist_values.Goals as goal

pub hoist-requires-clause-hoisting : goal.hoist-requires-clause-hoisting
hoist-requires-clause-hoisting g c = let r = c.requires.hoisting in (r.0, _, c.loop-operand.invariant.hoisting r.0 r.1 r.2 r.3, r.3)

pub loop-operand-preserved : goal.loop-operand-preserved
loop-operand-preserved g c = record {
  hoisting = λ fr uses h number.
      let m = c.args.source.now in
      let i = c.loop-operand.operand-index in
      let at = slice_get-get_or c.args.operands.now i _ c.loop-operand-test.true in
      let next = ap (map (operand_of (trees_of m))) (take_next c.args.operands.now i _ at) ∙ map_push (operand_of (trees_of m)) (take i c.args.operands.now) _ in
      uses_more fr m c.hoist.new.ctx c.hoist.new.values uses (map (operand_of (trees_of m)) (take i c.args.operands.now)) (map (operand_of (trees_of m)) (take (i + 1) c.args.operands.now)) _ next
      (c.in_ok-hoist.ensures.hoisting fr _ (c.loop-operand.invariant.hoisting fr uses h number) number);
  kept = λ n b behind. keeps_then n b c.args.ctx.now c.loop-operand.ctx c.hoist.new.ctx (c.loop-operand.invariant.kept n b behind) (c.hoist.ensures.kept n b behind);
}

pub returns-in_err-hoist-clause-kept : goal.returns-in_err-hoist-clause-kept
returns-in_err-hoist-clause-kept g c = λ n b behind. keeps_then n b c.args.ctx.now c.loop-operand.ctx c.hoist.new.ctx (c.loop-operand.invariant.kept n b behind) (c.hoist.ensures.kept n b behind)

pub hoist-requires-clause-used : goal.hoist-requires-clause-used
hoist-requires-clause-used g c =
    let u = c.requires.used in
    let r = c.requires.hoisting in
    let ready = hoisting_ready r.0 c.args.source.now u.1 c.args.ctx.now c.loop-operand.ctx c.args.values.now c.loop-operand.values r.1 _ r.2 (c.loop-operand.invariant.hoisting r.0 r.1 r.2 r.3) u.3 in
    (u.0, u.1, u.2, ready, u.4 c.loop-operand.operand-index _ c.loop-operand-test.true)

pub loop-operand-init : goal.loop-operand-init
loop-operand-init g c = record {
  hoisting = λ fr uses h number. subst (IsHoisting fr c.args.source.now c.args.ctx.now c.args.values.now) (sym (append-nil uses)) h;
  kept = λ n b behind. keeps_none n b c.args.ctx.now;
}

pub returns-clause-hoisting : goal.returns-clause-hoisting
returns-clause-hoisting g c = λ fr uses h number.
    subst (λ (vs : List LLVMValue). IsHoisting fr c.args.source.now c.loop-operand.ctx c.loop-operand.values (uses ++ filter_map constant_in (map (operand_of (trees_of c.args.source.now)) vs)))
    (take_all c.loop-operand.operand-index c.args.operands.now c.loop-operand-test.false) (c.loop-operand.invariant.hoisting fr uses h number)

pub returns-clause-kept : goal.returns-clause-kept
returns-clause-kept g c = c.loop-operand.invariant.kept
