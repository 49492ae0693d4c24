-- What `attrs::attr` and what it calls owe besides what the check finds.
use Rattle.std.proofs.Common.{◌∙◌, ◌++◌, ◌∷◌, [], sym, ap, subst, List, Some, take, get_or, arith}
use Rattle.std.proofs.lemmas.List.{take_all}
use Rattle.std.proofs.lemmas.Option.{slice_get-get_or}
use Rattle.support.proofs.ListLaws.{take_next}
use Rattle.llvm_core.specs.declared.consts.LLVMConstKind.TheVariants as C
use Rattle.llvm_core.specs.declared.numbers.LLVMConst.{LLVMConst}
use Rattle.llvm_core.specs.Consts.{IsConstIn}
use Rattle.const_attrs.specs.declared.const_attr.ConstAttr.{ConstAttr}
use Rattle.const_attrs.specs.Trees.{BytesAttr}
use Rattle.held_types.proofs.WalkLaws.{passed_on}
use Rattle.from_consts.specs.Steps.{AreAttrsGiven, AreAttrsMade, IsAttrMade}
use Rattle.from_consts.proofs.ElementLaws.{matched_push}
use Rattle.from_consts.proofs.ConstantLaws.{bytes_made, element_below, element_cause, element_there, element_within, filled_made, int_made, list_made, own_type, splat_cause, wide_cause}
use Rattle.from_consts.proofs.attrs.+attr.Goals as goal

-- ---- one constant

pub attr-returns-in_err-short_width-in-Int-clause-cause : goal.attr-returns-in_err-short_width-in-Int-clause-cause
attr-returns-in_err-short_width-in-Int-clause-cause t c =
    let e = c.in_err-short_width-in-Int.field-0.0 in
    passed_on c.from_residual.result e _ c.from_residual.ensures.1
    (wide_cause c.args.«module».now c.args.c c.in-Int.ty c.in-Int.value e c.requires.sound (c.const_kind.ensures.kind ∙ ap Some c.in-Int.is) c.in_err-short_width-in-Int.ensures.err)

pub attr-given_type-requires : goal.attr-given_type-requires
attr-given_type-requires t c = c.requires.known c.in-Int.ty (own_type c.args.«module».now c.args.c (C.Int c.in-Int.ty c.in-Int.value) (c.const_kind.ensures.kind ∙ ap Some c.in-Int.is))

pub attr-given_type-requires-in-Filled : goal.attr-given_type-requires-in-Filled
attr-given_type-requires-in-Filled t c = c.requires.known c.in-Filled.ty (own_type c.args.«module».now c.args.c (C.Filled c.in-Filled.fill c.in-Filled.ty) (c.const_kind.ensures.kind ∙ ap Some c.in-Filled.is))

pub attr-given_type-requires-in-List : goal.attr-given_type-requires-in-List
attr-given_type-requires-in-List t c = c.requires.known c.in-List.ty (own_type c.args.«module».now c.args.c (C.List c.in-List.ty c.in-List.elements) (c.const_kind.ensures.kind ∙ ap Some c.in-List.is))

pub attr-returns-in_ok-short_width-in-Int-clause-made : goal.attr-returns-in_ok-short_width-in-Int-clause-made
attr-returns-in_ok-short_width-in-Int-clause-made t c =
    let m = c.args.«module».now in
    int_made m c.args.cctx.now c.args.c c.requires.sound c.in-Int.ty c.in-Int.value c.given_type.result (c.const_kind.ensures.kind ∙ ap Some c.in-Int.is) (subst (IsConstIn m) c.in-Int.is c.const_kind.ensures.parts) c.in_ok-short_width-in-Int.ensures.ok c.given_type.ensures

pub attr-returns-in-Filled-clause-made : goal.attr-returns-in-Filled-clause-made
attr-returns-in-Filled-clause-made t c =
    filled_made c.args.«module».now c.args.cctx.now c.args.c c.requires.sound c.in-Filled.fill c.in-Filled.ty c.given_type-in-Filled.result c.filled.result (c.const_kind.ensures.kind ∙ ap Some c.in-Filled.is) c.given_type-in-Filled.ensures c.filled.ensures

pub attr-returns-in_ok-bytes_attr-in-Bytes-clause-made : goal.attr-returns-in_ok-bytes_attr-in-Bytes-clause-made
attr-returns-in_ok-bytes_attr-in-Bytes-clause-made t c =
    bytes_made c.args.«module».now c.args.cctx.now c.args.c c.requires.sound c.in-Bytes.field-0 c.in-Bytes.bytes c.in_ok-bytes_attr-in-Bytes.field-0 (c.const_kind.ensures.kind ∙ ap Some c.in-Bytes.is)
    (c.in_ok-bytes_attr-in-Bytes.ensures ∙ ap BytesAttr c.as_slice.ensures)

pub attr-returns-in_ok-elements-in-List-clause-made : goal.attr-returns-in_ok-elements-in-List-clause-made
attr-returns-in_ok-elements-in-List-clause-made t c =
    let m = c.args.«module».now in
    list_made m c.args.cctx.now c.args.c c.requires.sound c.in-List.ty c.in-List.elements c.given_type-in-List.result c.in_ok-elements-in-List.elements (c.const_kind.ensures.kind ∙ ap Some c.in-List.is) (subst (IsConstIn m) c.in-List.is c.const_kind.ensures.parts) c.given_type-in-List.ensures
    (subst (λ (xs : List LLVMConst). AreAttrsGiven m c.args.cctx.now xs c.in_ok-elements-in-List.elements.items) c.as_slice-in-List.ensures c.in_ok-elements-in-List.ensures.made)

pub attr-returns-in-Splat-clause-cause : goal.attr-returns-in-Splat-clause-cause
attr-returns-in-Splat-clause-cause t c = splat_cause c.args.«module».now c.args.c c.in-Splat.field-0 c.in-Splat.field-1 c.requires.sound (c.const_kind.ensures.kind ∙ ap Some c.in-Splat.is)

-- ---- the elements of a list

pub attrs-attr-requires : goal.attrs-attr-requires
attrs-attr-requires t c =
    let m = c.args.«module».now in
    let es = c.args.elements.now in
    let i = c.loop-element.element-index in
    let list = c.requires.list in
    let e = get_or es i (record { 0 = 0 }) in
    let here = slice_get-get_or es i (record { 0 = 0 }) c.loop-element-test.true in
    let below = element_below m c.args.c list.0 es c.requires.sound list.1 i e here in
    (omega (arith, below), (c.requires.sound, (element_there m c.args.c list.0 es c.requires.sound list.1 i e here, λ u inside. c.requires.known u (element_within m c.args.c list.0 es c.requires.sound list.1 i e here u inside))))

pub attrs-returns-in_err-attr-clause-cause : goal.attrs-returns-in_err-attr-clause-cause
attrs-returns-in_err-attr-clause-cause t c =
    let m = c.args.«module».now in
    let es = c.args.elements.now in
    let i = c.loop-element.element-index in
    let list = c.requires.list in
    let e = c.in_err-attr.field-0.0 in
    passed_on c.from_residual-in_err-attr.result e _ c.from_residual-in_err-attr.ensures.1
    (element_cause m c.args.c (get_or es i (record { 0 = 0 })) (C.List list.0 es) i e list.1 (slice_get-get_or es i (record { 0 = 0 }) c.loop-element-test.true) c.in_err-attr.ensures.cause)

pub attrs-loop-element-preserved : goal.attrs-loop-element-preserved
attrs-loop-element-preserved t c = λ ks context.
    let m = c.args.«module».now in
    let es = c.args.elements.now in
    let i = c.loop-element.element-index in
    let e = get_or es i (record { 0 = 0 }) in
    let names = c.args.cctx.now.names in
    let here = slice_get-get_or es i (record { 0 = 0 }) c.loop-element-test.true in
    let more = matched_push (IsAttrMade m names ks) (take i es) c.loop-element.made.items e c.in_ok-attr.field-0 (c.loop-element.invariant ks context) (c.in_ok-attr.ensures.made ks context) in
    subst (λ (xs : List LLVMConst). AreAttrsMade m names ks xs c.push.new.self.items) (sym (take_next es i e here))
    (subst (λ (ds : List ConstAttr). AreAttrsMade m names ks (take i es ++ e ∷ []) ds) (sym c.in_ok-push.ensures.items) more)

pub attrs-returns-clause-made : goal.attrs-returns-clause-made
attrs-returns-clause-made t c =
    subst (λ (xs : List LLVMConst). AreAttrsGiven c.args.«module».now c.args.cctx.now xs c.loop-element.made.items) (take_all c.loop-element.element-index c.args.elements.now c.loop-element-test.false) c.loop-element.invariant
