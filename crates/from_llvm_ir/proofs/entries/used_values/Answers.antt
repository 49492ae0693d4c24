-- What `entries::used_values` owes besides what the check finds.
use Rattle.std.proofs.Common.{◌≡◌, ◌∙◌, ◌+◌, sym, ap, subst, List, All, map}
use Rattle.std.specs.List.{slice_get}
use Rattle.std.proofs.lemmas.Option.{slice_get-get_or}
use Rattle.llvm_core.specs.declared.numbers.LLVMBasicBlock.{LLVMBasicBlock}
use Rattle.llvm_core.specs.declared.code.LLVMValue.{LLVMValue}
use Rattle.llvm_core.specs.Parts.{operands}
use Rattle.llvm_core.specs.Data.{trees_of, operand_of}
use Rattle.from_llvm_ir.specs.Source.{IsUsed}
use Rattle.from_llvm_ir.proofs.SourceLaws.{block_number, inst_within, phi_read}
use Rattle.from_llvm_ir.proofs.UsedLaws.{UsedTo, targets_are, leads, operands_are, operands_used, used_none, used_more, used_all}
use Rattle.from_llvm_ir.proofs.entries.used_values.Goals as goal

pub loop-to-init : goal.loop-to-init
loop-to-init c = λ f g b p h other.
    let m = c.args.source.now in
    let vs = c.in_ok-values.values in
    let same : vs ≡ operands c.inst-inst.result.now = c.in_ok-values.ensures ∙ c.operands_of.ensures in
    used_none m g b p c.targets_of-to-items.result.now vs
    (ap (map (operand_of (trees_of m))) same ∙ operands_are m f g c.args.entries.now c.args.from c.args.i b p h c.inst-inst.result.now c.inst-inst.ensures.inst other)
    (subst (All (IsUsed m g)) (sym same) (operands_used m f g c.args.entries.now c.args.from c.args.i b p h c.inst-inst.result.now c.inst-inst.ensures.inst other c.inst-inst.ensures.values))

pub edge_values-requires : goal.edge_values-requires
edge_values-requires c =
    let r = c.requires in
    let m = c.args.source.now in
    let items = c.targets_of-to-items.ensures in
    let at = slice_get-get_or c.targets_of-to-items.result.now c.loop-to.to-index (record { 0 = 0 }) c.loop-to-test.true in
    (r.0, r.1, leads m r.0 r.1 c.args.entries.now c.args.from c.args.i r.2 r.3 r.4 c.inst-inst.result.now c.inst-inst.ensures.inst c.loop-to.to-index _ (ap (λ (ts : List LLVMBasicBlock). slice_get ts c.loop-to.to-index) (sym items) ∙ at))

pub loop-to-preserved : goal.loop-to-preserved
loop-to-preserved c = λ f g b p h other.
    let m = c.args.source.now in
    let items = c.targets_of-to-items.ensures in
    let at = slice_get-get_or c.targets_of-to-items.result.now c.loop-to.to-index (record { 0 = 0 }) c.loop-to-test.true in
    let to = leads m f g c.args.entries.now c.args.from c.args.i b p h c.inst-inst.result.now c.inst-inst.ensures.inst c.loop-to.to-index _ (ap (λ (ts : List LLVMBasicBlock). slice_get ts c.loop-to.to-index) (sym items) ∙ at) in
    subst (λ (vs : List LLVMValue). UsedTo m g b p c.targets_of-to-items.result.now vs (c.loop-to.to-index + 1)) (sym c.in_ok-extend_from_slice.ensures)
    (used_more m g b p c.targets_of-to-items.result.now c.loop-to.values c.as_slice.result.now c.loop-to.to-index _ c.args.from (c.loop-to.invariant f g b p h other) at (block_number m g c.args.from h.place b h.of_block)
    (ap (map (operand_of (trees_of m))) c.as_slice.ensures ∙ c.in_ok-passed.ensures.passed f g to)
    (subst (All (IsUsed m g)) (sym c.as_slice.ensures) (c.in_ok-passed.ensures.used f g to)))

pub returns-clause-are : goal.returns-clause-are
returns-clause-are c = λ f g b p h other.
    let m = c.args.source.now in
    let items = c.targets_of-to-items.ensures in
    used_all m g b p c.targets_of-to-items.result.now c.loop-to.values c.loop-to.to-index c.loop-to-test.false
    (ap (map (λ (x : LLVMBasicBlock). x.0)) items ∙ targets_are m f g c.args.entries.now c.args.from c.args.i b p h c.inst-inst.result.now c.inst-inst.ensures.inst) (c.loop-to.invariant f g b p h other)

pub returns-clause-used : goal.returns-clause-used
returns-clause-used c = λ f g b p h other. (c.loop-to.invariant f g b p h other).used

pub inst-inst-requires : goal.inst-inst-requires
inst-inst-requires c = let r = c.requires in inst_within c.args.source.now r.2 c.args.i r.4.at r.3 r.4.inst

pub operands_of-requires : goal.operands_of-requires
operands_of-requires c = let r = c.requires in sym (phi_read c.args.source.now r.2 c.args.i r.4.at r.3 c.inst-inst.result.now r.4.inst c.inst-inst.ensures.inst) ∙ r.5
