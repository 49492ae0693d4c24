-- What `attrs::attr` and what it calls owe besides what the check finds.
use Rattle.std.proofs.Common.{◌≡◌, ◌∙◌, ◌<◌, ◌++◌, ◌∷◌, [], All, List, true, sym, ap, subst, take, get_or, arith}
use Rattle.std.proofs.lemmas.List.{take_all}
use Rattle.std.proofs.lemmas.Option.{none-some, same_Some, slice_get-get_or}
use Rattle.std.proofs.lemmas.Result.{IfOk-weaker}
use Rattle.support.proofs.ListLaws.{take_next}
use Rattle.meaning.proofs.MatchedLaws.{matched_push}
use Rattle.llvm_core.specs.declared.numbers.LLVMConst.{LLVMConst}
use Rattle.llvm_core.specs.Consts.{IsMadeBelow}
use Rattle.llvm_core.specs.Data.{const_at, consts_at, trees_of}
use Rattle.llvm_core.specs.Elements.{are_elements}
use Rattle.llvm_core.proofs.DataLemmas.{within_at}
use Rattle.dialect_types.specs.Trees.{structs_of, type_at, type_trees}
use Rattle.const_attrs.specs.declared.const_attr.ConstAttr.{ConstAttr}
use Rattle.const_attrs.specs.Trees.{BytesAttr}
use Rattle.from_llvm_ir.specs.Attrs.{AreAttrsOf, AreTaken, IsAttrOf}
use Rattle.from_llvm_ir.proofs.MadeLaws.{bytes_made, element_taken, element_typed, filled_made, int_fits, int_made, list_made, list_taken, list_typed, no_placeholder, no_splat}
use Rattle.from_llvm_ir.proofs.attrs.+attr.Goals as goal

-- ---- one constant

pub attr-overflow_cast-result : goal.attr-overflow_cast-result
attr-overflow_cast-result t c = record {
  fits = int_fits c.args.source.now c.args.c c.const_kind.result.now c.const_kind.ensures.kind c.const_kind.ensures.below (structs_of c.args.types.now) c.in-Int.field-0 c.in-Int.value c.in-Int.is c.requires.taken;
}

pub attr-returns-in-Int : goal.attr-returns-in-Int
attr-returns-in-Int t c =
    int_made c.args.source.now c.args.c c.const_kind.result.now c.const_kind.ensures.kind c.const_kind.ensures.below c.args.types.now c.requires.taken c.args.ty c.requires.below c.requires.ty c.in-Int.field-0 c.in-Int.value c.in-Int.is

pub attr-returns-in-Filled : goal.attr-returns-in-Filled
attr-returns-in-Filled t c =
    filled_made c.args.source.now c.args.c c.const_kind.result.now c.const_kind.ensures.kind c.const_kind.ensures.below c.args.types.now c.requires.taken c.args.ty c.requires.below c.requires.ty c.in-Filled.fill c.in-Filled.field-1 c.filled.result c.in-Filled.is
    c.filled.ensures

pub attr-returns-in-Bytes : goal.attr-returns-in-Bytes
attr-returns-in-Bytes t c =
    IfOk-weaker c.bytes_attr.result _ _
    (λ a is. bytes_made c.args.source.now c.args.c c.const_kind.result.now c.const_kind.ensures.kind c.const_kind.ensures.below c.args.types.now c.requires.taken c.in-Bytes.field-0 c.in-Bytes.bytes a c.in-Bytes.is (is ∙ ap BytesAttr c.as_slice.ensures))
    c.bytes_attr.ensures

pub attr-attrs-requires : goal.attr-attrs-requires
attr-attrs-requires t c =
    let m = c.args.source.now in
    let ks = c.args.types.now in
    let es = c.in-List.elements in
    let back = sym c.as_slice-in-List.ensures in
    let below = c.const_kind.ensures.below in
    let earlier = subst (IsMadeBelow c.args.c.0) c.in-List.is below in (
      omega arith,
      (
        c.requires.within,
        (
          subst (All (λ (x : LLVMConst). x.0 < c.args.c.0)) back earlier,
          (
            subst (λ (xs : List LLVMConst). AreTaken (structs_of ks) (consts_at (trees_of m).consts xs)) back (list_taken m c.args.c c.const_kind.result.now c.const_kind.ensures.kind below ks c.requires.taken c.in-List.field-0 es c.in-List.is),
            (
              c.requires.below,
              subst (λ (xs : List LLVMConst). are_elements (structs_of ks) (type_at (type_trees ks) c.args.ty) (consts_at (trees_of m).consts xs) ≡ true) back
                  (list_typed m c.args.c c.const_kind.result.now c.const_kind.ensures.kind below ks c.requires.taken c.args.ty c.requires.below c.requires.ty c.in-List.field-0 es c.in-List.is),
            ),
          ),
        ),
      ),
    )

pub attr-returns-in_ok-elements-in-List : goal.attr-returns-in_ok-elements-in-List
attr-returns-in_ok-elements-in-List t c =
    let m = c.args.source.now in
    let ks = c.args.types.now in
    list_made m c.args.c c.const_kind.result.now c.const_kind.ensures.kind c.const_kind.ensures.below ks c.requires.taken c.args.ty c.requires.below c.requires.ty c.in-List.field-0 c.in-List.elements c.in_ok-elements-in-List.elements c.in-List.is
    (subst (λ (xs : List LLVMConst). AreAttrsOf ks m xs c.in_ok-elements-in-List.elements.items) c.as_slice-in-List.ensures c.in_ok-elements-in-List.ensures)

pub attr-unreachable-requires : goal.attr-unreachable-requires
attr-unreachable-requires t c = no_splat c.args.source.now c.args.c c.const_kind.result.now c.const_kind.ensures.kind c.const_kind.ensures.below c.args.types.now c.requires.taken c.in-Splat.field-0 c.in-Splat.field-1 c.in-Splat.is

pub attr-unreachable-requires-in-Placeholder : goal.attr-unreachable-requires-in-Placeholder
attr-unreachable-requires-in-Placeholder t c =
    no_placeholder c.args.source.now c.args.c c.const_kind.result.now c.const_kind.ensures.kind c.const_kind.ensures.below c.args.types.now c.requires.taken c.in-Placeholder.field-0 c.in-Placeholder.field-1 c.in-Placeholder.is

-- ---- the elements of a list

pub attrs-element_type-of-requires-clause-there : goal.attrs-element_type-of-requires-clause-there
attrs-element_type-of-requires-clause-there t c = λ none.
    let e : LLVMConst = get_or c.args.elements.now c.loop-place.place (record { 0 = 0 }) in
    let at = slice_get-get_or c.args.elements.now c.loop-place.place (record { 0 = 0 }) c.loop-place-test.true in
    none-some _ (sym none ∙ element_typed (trees_of c.args.source.now).consts c.args.elements.now c.loop-place.place e at (structs_of c.args.types.now) (type_at (type_trees c.args.types.now) c.args.ty) c.requires.fit)

pub attrs-attr-requires : goal.attrs-attr-requires
attrs-attr-requires t c =
    let m = c.args.source.now in
    let es = c.args.elements.now in
    let i = c.loop-place.place in
    let e : LLVMConst = get_or es i (record { 0 = 0 }) in
    let at = slice_get-get_or es i (record { 0 = 0 }) c.loop-place-test.true in
    let earlier = within_at es (λ (x : LLVMConst). x.0 < c.args.list.0) c.requires.earlier i e at in
    let typed = element_typed (trees_of m).consts es i e at (structs_of c.args.types.now) (type_at (type_trees c.args.types.now) c.args.ty) c.requires.fit in
    let within = c.requires.within in
    let same = sym c.element_type-of.ensures.ty ∙ typed in (
      omega (arith, earlier),
      (omega (arith, earlier, within), (element_taken (trees_of m).consts (structs_of c.args.types.now) es i e c.requires.taken at, (c.element_type-of.ensures.below, same_Some _ _ same))),
    )

pub attrs-loop-place-preserved : goal.attrs-loop-place-preserved
attrs-loop-place-preserved t c =
    let m = c.args.source.now in
    let ks = c.args.types.now in
    let es = c.args.elements.now in
    let i = c.loop-place.place in
    let e : LLVMConst = get_or es i (record { 0 = 0 }) in
    let at = slice_get-get_or es i (record { 0 = 0 }) c.loop-place-test.true in
    let more = matched_push (λ (x : LLVMConst) (a : ConstAttr). IsAttrOf ks (const_at (trees_of m).consts x) a) (take i es) c.loop-place.made.items e c.in_ok-attr.field-0 c.loop-place.invariant c.in_ok-attr.ensures in
    subst (λ (xs : List LLVMConst). AreAttrsOf ks m xs c.push.new.self.items) (sym (take_next es i e at))
    (subst (λ (ds : List ConstAttr). AreAttrsOf ks m (take i es ++ e ∷ []) ds) (sym c.in_ok-push.ensures.items) more)

pub attrs-returns : goal.attrs-returns
attrs-returns t c =
    subst (λ (xs : List LLVMConst). AreAttrsOf c.args.types.now c.args.source.now xs c.loop-place.made.items) (take_all c.loop-place.place c.args.elements.now c.loop-place-test.false) c.loop-place.invariant
