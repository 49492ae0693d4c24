-- Two edges to one block are told apart by what they pass.
use Rattle.std.proofs.Common.{◌≡◌, nat_lt, ltb-true, lt-ltb, List, length, slice_get, true, false, sym, ap, subst, ◌∙◌, arith, Some, eqb-true, eq-eqb}
use Rattle.std.proofs.lemmas.Option.{slice_get-get_or}
use Rattle.dialect_core.proofs.TestLemmas.{same_block}
use Rattle.dialect_core.specs.declared.ops.Successor.{Successor}
use Rattle.dialect_core.specs.ContextData.{IsSuccessorWithin}
use Rattle.to_llvm_ir.specs.Causes.{IsFuncCause}
use Rattle.to_llvm_ir.proofs.ResultLaws.{passed}
use Rattle.to_llvm_ir.proofs.SuccessorLaws.{other_edge, equal_one, equal_two, values_differ, values_same}
use Rattle.to_llvm_ir.proofs.edges.check_equal.Goals.{then-edges-lt2, in-len2+else-eq, else-eq-via-then-eq+else-ne, else-eq-via-else-eq, else-edges-lt2+else-edges-lt3}
use Rattle.to_llvm_ir.proofs.edges.check_equal.Goals as goal

pub returns-then-ne-clause-cause : goal.returns-then-ne-clause-cause
returns-then-ne-clause-cause c = λ s op spot are mapped from.
    let len = c.in-len2.len_at_least in
    other_edge c.args.ctx.now op s c.args.blocks.now c.args.edges.now c.first-item.result c.second-item.result c.args.from.place c.in_ok-target.target spot are mapped from
    (slice_get-get_or c.args.edges.now 0 c.first-item.result (omega (arith, len)) ∙ ap Some (sym c.first-item.is)) (slice_get-get_or c.args.edges.now 1 c.second-item.result (omega (arith, len)) ∙ ap Some (sym c.second-item.is))
    (same_block c.first-item.result.block c.second-item.result.block (eqb-true c.first-item.result.block.0 c.second-item.result.block.0 (sym c.if-eq.ensures)))
    (λ e. values_differ c.as_slice.result.now c.as_slice-then-eq.result.now c.if-ne.ensures (c.as_slice.ensures ∙ e ∙ sym c.as_slice-then-eq.ensures))
    c.in_ok-target.ensures.ok

pub returns-clause-ok : goal.returns-clause-ok
returns-clause-ok c = λ lt. elim c.if-edges-lt2.branch [
  | then-edges-lt2 w ↦ equal_one c.args.edges.now (ltb-true (length c.args.edges.now) 2 (let short : nat_lt (length c.args.edges.now) 2 ≡ true = search in short))
  | in-len2+else-eq w ↦
      let len = w.in-len2.len_at_least in
      equal_two c.args.edges.now w.first-item.result w.second-item.result lt
      (slice_get-get_or c.args.edges.now 0 w.first-item.result (omega (arith, len)) ∙ ap Some (sym w.first-item.is)) (slice_get-get_or c.args.edges.now 1 w.second-item.result (omega (arith, len)) ∙ ap Some (sym w.second-item.is))
      (elim w.else-eq.branch [
        | else-eq-via-then-eq+else-ne x ↦ λ e. sym x.as_slice.ensures ∙ values_same x.as_slice.result.now x.as_slice-then-eq.result.now x.ne.result x.if-ne.false x.ne.ensures ∙ x.as_slice-then-eq.ensures
        | else-eq-via-else-eq x ↦ λ e. absurd (let k : true ≡ false = sym (eq-eqb w.first-item.result.block.0 w.second-item.result.block.0 (ap (λ b. b.0) e)) ∙ sym w.eq.ensures ∙ x.if-eq.false in cc)
      ])
  | else-edges-lt2+else-edges-lt3 w ↦ absurd (let more : nat_lt (length c.args.edges.now) 3 ≡ false = search in let fewer : nat_lt (length c.args.edges.now) 3 ≡ true = lt-ltb (length c.args.edges.now) 3 lt in let never : true ≡ false = sym fewer ∙ more in cc)
]

pub find_target-requires : goal.find_target-requires
find_target-requires c =
    let len = c.in-len2.len_at_least in
    record { within = subst (IsSuccessorWithin (length c.args.ctx.now.ops) (length c.args.ctx.now.blocks)) (sym c.first-item.is) (c.requires.within 0 c.first-item.result (omega (arith, len))) }

pub returns-in_err-target-clause-cause : goal.returns-in_err-target-clause-cause
returns-in_err-target-clause-cause c = λ s op spot are mapped place.
    let len = c.in-len2.len_at_least in
    passed c.from_residual.result c.in_err-target.field-0.0 (IsFuncCause c.args.ctx.now s.task.source) c.from_residual.ensures.1
    (c.in_err-target.ensures.cause s op 0 spot mapped (ap (λ (es : List Successor). slice_get es 0) are ∙ slice_get-get_or c.args.edges.now 0 c.first-item.result (omega (arith, len)) ∙ ap Some (sym c.first-item.is)))
