-- What `targets::known_edge` owes besides what the check finds.
use Rattle.std.proofs.Common.{◌≡◌, ◌∙◌, sym, ap, subst, Some, List, map, slice_get}
use Rattle.std.proofs.lemmas.Option.{slice_get-map}
use Rattle.std.specs.Option.{option_map}
use Rattle.support.proofs.ListLaws.{all_from}
use Rattle.llvm_core.specs.declared.code.LLVMValue.{LLVMValue}
use Rattle.llvm_core.specs.Data as L
use Rattle.llvm_core.specs.Data.{trees_of, operand_of}
use Rattle.llvm_core.proofs.DataLemmas.{within_at}
use Rattle.from_llvm_ir.specs.Source.{IsUsed}
use Rattle.from_llvm_ir.specs.Values.{AreNoted, IsForward, IsSettled}
use Rattle.held_types.proofs.WalkLaws.{passed_on}
use Rattle.from_llvm_ir.proofs.targets.known_edge.Goals as goal

pub known_values-requires : goal.known_values-requires
known_values-requires c =
    let m = c.args.source.now in
    let h = c.requires.2 in
    let vs = c.as_slice.result.now in
    all_from (IsSettled m c.args.values.now) vs (λ i v at.
    let here : slice_get c.in_ok-taken.taken i ≡ Some v = ap (λ (xs : List LLVMValue). slice_get xs i) (sym c.as_slice.ensures) ∙ at in
    h.settled v (within_at c.in_ok-taken.taken (IsUsed m c.requires.1) (c.in_ok-taken.ensures.used c.requires.0 c.requires.1 h.leads) i v here)
    (i, ap (λ (os : List L.Operand). slice_get os i) (sym (c.in_ok-taken.ensures.passed c.requires.0 c.requires.1 h.leads)) ∙ slice_get-map (operand_of (trees_of m)) c.in_ok-taken.taken i ∙ ap (option_map (operand_of (trees_of m))) here))

pub returns-in_err-args-clause-err : goal.returns-in_err-args-clause-err
returns-in_err-args-clause-err c =
    let m = c.args.source.now in
    passed_on c.from_residual-in_err-args.result c.in_err-args.field-0.0 _ c.from_residual-in_err-args.ensures.1
    (λ f g h. subst (λ (os : List L.Operand). IsForward m c.args.values.now os c.in_err-args.field-0.0) (ap (map (operand_of (trees_of m))) c.as_slice.ensures ∙ c.in_ok-taken.ensures.passed f g h.leads) c.in_err-args.ensures.err)

pub returns-clause-ok : goal.returns-clause-ok
returns-clause-ok c = λ f g h. record {
  leads = c.target_of-block.ensures;
  taken = c.in_ok-taken.taken;
  passes = c.in_ok-taken.ensures.passed f g h.leads;
  args = subst (λ (vs : List LLVMValue). AreNoted c.args.values.now vs c.in_ok-args.args) c.as_slice.ensures c.in_ok-args.ensures.ok;
}
