-- A type prints the text of its kind, and what it is made of before it ends.
use Rattle.std.proofs.Common.{◌++◌, ◌<◌, List, ℕ, All, codes, length, refl, sym, ap, subst, ◌∙◌, arith}
use Rattle.std.proofs.lemmas.List.{append-nil}
use Rattle.kinds.specs.Types.{StructType}
use Rattle.llvm_core.specs.declared.numbers.LLVMType.{LLVMType}
use Rattle.llvm_core.specs.Parts.{IsTypeOver}
use Rattle.llvm_core.specs.Data.{trees_of, type_at, types_at}
use Rattle.support.proofs.KeepLaws.{keeps_then, keeps_appended}
use Rattle.ll_literals.specs.Names.{local, printed_name}
use Rattle.ll_print.specs.Printing.{vector_open, counted_text, type_text}
use Rattle.ll_print.proofs.FieldLaws.{first_field, gap_put, fields_strung, struct_put}
use Rattle.ll_print.proofs.ReachLaws.{reach_at, reach_most, parts_there}
use Rattle.ll_print.proofs.StrungLaws.{behind_comma, strung_put, strung_all}
use Rattle.ll_print.proofs.TextLaws.{put_is, ok_is, ok_extended, type_text-kind}
use Rattle.ll_print.proofs.types.+put_type.Goals as goal

-- ---- a line for each kind

pub put_type-returns-in-Void-clause-text : goal.put_type-returns-in-Void-clause-text
put_type-returns-in-Void-clause-text t c =
    ok_is _ _ _ _ _ (ok_extended c.extend_from_slice.result _ _ (codes "void") c.extend_from_slice.ensures.items) (type_text-kind c.args.m.now c.args.ty _ c.requires.sound (rw c.in-Void.is at c.type_kind.ensures.kind))

pub put_type-returns-in-Int-clause-text : goal.put_type-returns-in-Int-clause-text
put_type-returns-in-Int-clause-text t c =
    ok_is _ _ _ _ _ c.put_width.ensures.text
    (type_text-kind c.args.m.now c.args.ty _ c.requires.sound (rw c.in-Int.is at c.type_kind.ensures.kind))

pub put_type-returns-in-Ptr-clause-text : goal.put_type-returns-in-Ptr-clause-text
put_type-returns-in-Ptr-clause-text t c =
    ok_is _ _ _ _ _ c.put_pointer.ensures.text
    (type_text-kind c.args.m.now c.args.ty _ c.requires.sound (rw c.in-Ptr.is at c.type_kind.ensures.kind))

pub put_type-returns-in-Floating-clause-text : goal.put_type-returns-in-Floating-clause-text
put_type-returns-in-Floating-clause-text t c =
    ok_is _ _ _ _ _ c.put_floating.ensures.text
    (type_text-kind c.args.m.now c.args.ty _ c.requires.sound (rw c.in-Floating.is at c.type_kind.ensures.kind))

pub put_type-returns-in-Other-clause-text : goal.put_type-returns-in-Other-clause-text
put_type-returns-in-Other-clause-text t c =
    ok_is _ _ _ _ _ c.put_other.ensures.text
    (type_text-kind c.args.m.now c.args.ty _ c.requires.sound (rw c.in-Other.is at c.type_kind.ensures.kind))

pub put_type-returns-in-Array-clause-text : goal.put_type-returns-in-Array-clause-text
put_type-returns-in-Array-clause-text t c =
    ok_is _ _ _ _ _ c.put_counted.ensures.text
    (type_text-kind c.args.m.now c.args.ty _ c.requires.sound (rw c.in-Array.is at c.type_kind.ensures.kind))

pub put_type-returns-in-Vector-clause-text : goal.put_type-returns-in-Vector-clause-text
put_type-returns-in-Vector-clause-text t c =
    let element = type_text (type_at (trees_of c.args.m.now).types c.in-Vector.element) in
    ok_is _ _ _ _ _ c.put_counted-in-Vector.ensures.text
    (type_text-kind c.args.m.now c.args.ty _ c.requires.sound (rw c.in-Vector.is at c.type_kind.ensures.kind)
    ∙ ap (λ (n : ℕ). counted_text (vector_open c.in-Vector.kind) n element (codes ">")) (sym c.from.ensures)
    ∙ ap (λ (before : List ℕ). counted_text before c.from.result element (codes ">")) (sym c.vector_open.ensures))

pub put_type-returns-in-Literal-clause-text : goal.put_type-returns-in-Literal-clause-text
put_type-returns-in-Literal-clause-text t c =
    ok_is _ _ _ _ _ c.put_struct.ensures.text
    (type_text-kind c.args.m.now c.args.ty _ c.requires.sound (rw c.in-Literal.is at c.type_kind.ensures.kind)
    ∙ ap (λ (ts : List LLVMType). type_text (StructType c.in-Literal.layout (types_at (trees_of c.args.m.now).types ts))) (sym c.as_slice.ensures))

pub put_type-returns-in-Named-clause-text : goal.put_type-returns-in-Named-clause-text
put_type-returns-in-Named-clause-text t c =
    ok_is _ _ _ _ _ c.put_named.ensures.text
    (type_text-kind c.args.m.now c.args.ty _ c.requires.sound (rw c.in-Named.is at c.type_kind.ensures.kind)
    ∙ ap (λ (n : List ℕ). local (printed_name n)) (sym c.as_str.ensures))

pub put_type-returns-in-Function-clause-text : goal.put_type-returns-in-Function-clause-text
put_type-returns-in-Function-clause-text t c =
    put_is _ _ _ _ (sym (append-nil c.args.out.now.items)) (type_text-kind c.args.m.now c.args.ty _ c.requires.sound (rw c.in-Function.is at c.type_kind.ensures.kind))

-- ---- fields

pub put_fields-loop-place-preserved : goal.put_fields-loop-place-preserved
put_fields-loop-place-preserved t c =
    strung_put first_field (behind_comma type_text) (type_at (trees_of c.args.m.now).types) c.args.fields.now c.loop-place.place _ c.args.out.now.items _ _ c.loop-place-test.true c.loop-place.invariant
    (gap_put c.loop-place.place _ _ _ _ c.in_ok-put_gap.ensures.text c.in_ok-put_type.ensures.text)

pub put_fields-returns-clause-text : goal.put_fields-returns-clause-text
put_fields-returns-clause-text t c =
    let trees = (trees_of c.args.m.now).types in
    strung_all first_field (behind_comma type_text) (type_at trees) c.args.fields.now c.loop-place.place c.args.out.now.items _ c.loop-place-test.false c.loop-place.invariant
    ∙ ap (λ (u : List ℕ). c.args.out.now.items ++ u) (fields_strung trees c.args.fields.now)

pub put_fields-put_type-requires : goal.put_fields-put_type-requires
put_fields-put_type-requires t c = (
  omega (arith, reach_at (λ (t : LLVMType). t.0) c.args.fields.now c.loop-place.place (record { 0 = 0 }) c.loop-place-test.true),
  (c.requires.sound, c.requires.within c.loop-place.place (record { 0 = 0 }) c.loop-place-test.true),
)

pub put_fields-returns-in_err-put_type-clause-kept : goal.put_fields-returns-in_err-put_type-clause-kept
put_fields-returns-in_err-put_type-clause-kept t c = keeps_then _ _ _ (keeps_appended _ _ _ c.loop-place.invariant) (keeps_then _ _ _ c.put_gap.ensures.kept c.put_type.ensures.kept)

-- ---- structs

pub put_type-put_struct-requires : goal.put_type-put_struct-requires
put_type-put_struct-requires t c =
    let below : All (λ (u : LLVMType). u.0 < c.args.ty.0) c.in-Literal.fields = subst (IsTypeOver c.args.ty.0) c.in-Literal.is c.type_kind.ensures.parts in
    let parts = subst (All (λ (u : LLVMType). u.0 < c.args.ty.0)) (sym c.as_slice.ensures) below in
    (omega (arith, reach_most (λ (t : LLVMType). t.0) c.args.ty.0 c.as_slice.result.now parts), (c.requires.sound, parts_there (λ (t : LLVMType). t.0) c.args.ty.0 (length c.args.m.now.types) c.as_slice.result.now c.requires.within parts))

pub put_struct-returns-clause-text : goal.put_struct-returns-clause-text
put_struct-returns-clause-text t c =
    struct_put (trees_of c.args.m.now).types c.args.layout c.args.fields.now _ c.args.out.now.items _ _ _ _ c.struct_open.ensures c.in_ok-extend_from_slice.ensures.items c.in_ok-put_fields.ensures.text refl c.in_ok-put_close.ensures.text
