-- A constant prints the text of its kind, and what it is made of before it ends.
use Rattle.std.proofs.Common.{◌<◌, ◌++◌, ℕ, List, All, length, sym, ap, subst, ◌∙◌, arith}
use Rattle.std.proofs.lemmas.List.{append-nil}
use Rattle.llvm_core.specs.declared.numbers.LLVMConst.{LLVMConst}
use Rattle.llvm_core.specs.Consts.{IsConstIn, IsMadeBelow}
use Rattle.llvm_core.specs.Data.{trees_of, structs_of, const_at, consts_at, type_at}
use Rattle.support.proofs.KeepLaws.{keeps_then, keeps_appended}
use Rattle.ll_said.specs.Said.{chars_text}
use Rattle.ll_print.specs.Parts.{element_text, list_text}
use Rattle.ll_print.proofs.ConstLaws.{list_typed, consts_strung, element_put, text-int, text-filled, text-bytes, text-list, text-splat, text-placeholder}
use Rattle.ll_print.proofs.ReachLaws.{reach_at, reach_most, parts_there}
use Rattle.ll_print.proofs.StrungLaws.{behind_comma, strung_put, strung_all, comma_put}
use Rattle.ll_print.proofs.TextLaws.{put_is, ok_is, ok_extended}
use Rattle.ll_print.proofs.constants.+put_const.Goals as goal

-- ---- a line for each kind

pub put_const-returns-in-Int-clause-text : goal.put_const-returns-in-Int-clause-text
put_const-returns-in-Int-clause-text t c = ok_is _ _ _ _ _ c.put_typed.ensures.text (text-int c.args.m.now c.args.c c.in-Int.ty c.in-Int.value (rw c.in-Int.is at c.const_kind.ensures.kind))

pub put_const-returns-in-Filled-clause-text : goal.put_const-returns-in-Filled-clause-text
put_const-returns-in-Filled-clause-text t c =
    ok_is _ _ _ _ _ (ok_extended c.extend_from_slice.result _ _ c.filled_word.result.now c.extend_from_slice.ensures.items)
    (text-filled c.args.m.now c.args.c c.in-Filled.fill c.in-Filled.ty (rw c.in-Filled.is at c.const_kind.ensures.kind) ∙ sym c.filled_word.ensures)

pub put_const-returns-in-Bytes-clause-text : goal.put_const-returns-in-Bytes-clause-text
put_const-returns-in-Bytes-clause-text t c =
    ok_is _ _ _ _ _ c.put_bytes.ensures.text
    (text-bytes c.args.m.now c.args.c c.in-Bytes.field-0 c.in-Bytes.bytes (rw c.in-Bytes.is at c.const_kind.ensures.kind) ∙ ap chars_text (sym c.as_slice.ensures))

pub put_const-returns-in-List-clause-text : goal.put_const-returns-in-List-clause-text
put_const-returns-in-List-clause-text t c =
    let m = c.args.m.now in
    ok_is _ _ _ _ _ c.put_list.ensures.text
    (text-list m c.args.c c.in-List.ty c.in-List.elements (rw c.in-List.is at c.const_kind.ensures.kind) (rw c.in-List.is at c.const_kind.ensures.below)
    ∙ ap (λ (cs : List LLVMConst). list_text (structs_of m) (type_at (trees_of m).types c.in-List.ty) (consts_at (trees_of m).consts cs)) (sym c.as_slice-in-List.ensures))

pub put_const-returns-in-Splat-clause-text : goal.put_const-returns-in-Splat-clause-text
put_const-returns-in-Splat-clause-text t c =
    ok_is _ _ _ _ _ c.put_splat.ensures.text
    (text-splat c.args.m.now c.args.c c.in-Splat.field-0 c.in-Splat.element (rw c.in-Splat.is at c.const_kind.ensures.kind) (rw c.in-Splat.is at c.const_kind.ensures.below))

pub put_const-returns-in-Placeholder-clause-text : goal.put_const-returns-in-Placeholder-clause-text
put_const-returns-in-Placeholder-clause-text t c =
    put_is _ _ _ _ (sym (append-nil c.args.out.now.items)) (text-placeholder c.args.m.now c.args.c c.in-Placeholder.field-0 c.in-Placeholder.field-1 (rw c.in-Placeholder.is at c.const_kind.ensures.kind))

pub put_const-put_list-requires : goal.put_const-put_list-requires
put_const-put_list-requires t c =
    let m = c.args.m.now in
    let below : All (λ (d : LLVMConst). d.0 < c.args.c.0) c.in-List.elements = subst (IsMadeBelow c.args.c.0) c.in-List.is c.const_kind.ensures.below in
    let parts = subst (All (λ (d : LLVMConst). d.0 < c.args.c.0)) (sym c.as_slice-in-List.ensures) below in
    let typed = list_typed m c.in-List.ty c.in-List.elements (subst (IsConstIn m) c.in-List.is c.const_kind.ensures.parts) in
    let there = parts_there (λ (d : LLVMConst). d.0) c.args.c.0 (length m.consts) c.as_slice-in-List.result.now c.requires.within parts in
    (omega (arith, reach_most (λ (d : LLVMConst). d.0) c.args.c.0 c.as_slice-in-List.result.now parts), (c.requires.sound, (typed, there)))

-- ---- elements

pub put_element-returns-clause-text : goal.put_element-returns-clause-text
put_element-returns-clause-text t c =
    element_put c.args.m.now c.args.c c.type_of.result c.put_const.result c.args.out.now.items _ _ c.put_const.new.out.items c.requires.sound c.type_of.ensures.ty
    c.in_ok-put_type.ensures.text c.in_ok-push.ensures.items c.put_const.ensures.text

pub put_elements-loop-place-preserved : goal.put_elements-loop-place-preserved
put_elements-loop-place-preserved t c =
    let m = c.args.m.now in
    let element = element_text (structs_of m) in
    strung_put element (behind_comma element) (const_at (trees_of m).consts) c.args.elements.now c.loop-place.place _ c.args.out.now.items _ _ c.loop-place-test.true c.loop-place.invariant
    (comma_put element c.loop-place.place _ _ _ _ c.in_ok-put_comma.ensures.text c.in_ok-put_element.ensures.text)

pub put_elements-returns-clause-text : goal.put_elements-returns-clause-text
put_elements-returns-clause-text t c =
    let m = c.args.m.now in
    let element = element_text (structs_of m) in
    strung_all element (behind_comma element) (const_at (trees_of m).consts) c.args.elements.now c.loop-place.place c.args.out.now.items _ c.loop-place-test.false c.loop-place.invariant
    ∙ ap (λ (u : List ℕ). c.args.out.now.items ++ u) (consts_strung (structs_of m) (trees_of m).consts c.args.elements.now)

pub put_elements-put_element-requires : goal.put_elements-put_element-requires
put_elements-put_element-requires t c = (
  omega (arith, reach_at (λ (d : LLVMConst). d.0) c.args.elements.now c.loop-place.place (record { 0 = 0 }) c.loop-place-test.true),
  (c.requires.sound, c.requires.within c.loop-place.place (record { 0 = 0 }) c.loop-place-test.true),
)

pub put_elements-returns-in_err-put_element-clause-kept : goal.put_elements-returns-in_err-put_element-clause-kept
put_elements-returns-in_err-put_element-clause-kept t c = keeps_then _ _ _ (keeps_appended _ _ _ c.loop-place.invariant) (keeps_then _ _ _ c.put_comma.ensures.kept c.put_element.ensures.kept)
