-- What was read is written so, and what is refused is no constant.
use Rattle.std.proofs.Common.{◌≡◌, ◌≤◌, ℕ, List, ◌∷◌, Err, length, sym, subst, ap, ◌∙◌, arith, rules}
use Rattle.std.proofs.lemmas.Result.{IfOk-weaker}
use Rattle.dialect_types.specs.Trees.{NamedStruct, TypeTree, type_trees, structs_of}
use Rattle.const_attrs.specs.Trees.{AttrTree, AttrTrees, SplatAttr, attr_tree, attr_data, HasTypesBelow}
use Rattle.const_attrs.specs.declared.const_attr.ConstAttr.{ConstAttr}
use Rattle.const_attrs.specs.declared.const_attr.ConstAttr.TheVariants as A
use Rattle.const_attrs.proofs.DataLaws.{aggregate_data, splat_data}
use Rattle.dialect_parsing.specs.ConstantReading.{IsAttrRead, AreAttrsRead}
use Rattle.dialect_parsing.specs.declared.parse_err.Refused.TheVariants.{Syntax}
use Rattle.dialect_parsing.specs.declared.symbol.Symbol.{Symbol}
use Rattle.dialect_parsing.specs.declared.symbol.Symbol.TheVariants as S
use Rattle.dialect_parsing.proofs.StoreLaws.{grows_then}
use Rattle.dialect_parsing.proofs.ConstantLaws.{attr_shorter, attr_at, no_attr_at, attr_still, no_attr_still, end_still, no_end_still, no_attr_room, no_attr_symbol}
use Rattle.dialect_parsing.proofs.ConstantPartLaws.{aggregate_by, aggregate_opens, aggregate_brackets, aggregate_lists, aggregate_colons, aggregate_ends, splat_by, splat_opens, splat_elements, splat_colons, splat_ends, no_attr_head}
use Rattle.dialect_parsing.proofs.ConstantListLaws.{AreAttrsSoFar, next_attr, no_first_attr, no_attr_comma, no_next_attr}
use Rattle.dialect_parsing.proofs.ConstantStoreLaws.{attr_below, attrs_below, grown_attr, grown_attrs, pushed_trees, pushed_below}
use Rattle.dialect_parsing.proofs.constants.+read_constant.Goals as goal

-- ---- aggregates

pub aggregate-returns-in_err-expect-clause-err : goal.aggregate-returns-in_err-expect-clause-err
aggregate-returns-in_err-expect-clause-err t c = λ _. aggregate_opens (structs_of c.args.types.now) c.args.room _ c.in_err-expect.ensures.err

pub aggregate-returns-in_err-expect-2-clause-err : goal.aggregate-returns-in_err-expect-2-clause-err
aggregate-returns-in_err-expect-2-clause-err t c = λ _. aggregate_brackets (structs_of c.args.types.now) c.args.room _ _ c.in_ok-expect.ensures.ok c.in_err-expect-2.ensures.err

pub aggregate-returns-in_err-elements-clause-err : goal.aggregate-returns-in_err-elements-clause-err
aggregate-returns-in_err-elements-clause-err t c h =
    let is : c.in_err-elements.field-0.0 ≡ Syntax = search rules in
    aggregate_lists (structs_of c.args.types.now) c.args.room _ _ _ c.in_ok-expect.ensures.ok c.in_ok-expect-2.ensures.ok (c.in_err-elements.ensures.err (ap Err is))

pub aggregate-returns-in_err-expect-3-clause-err : goal.aggregate-returns-in_err-expect-3-clause-err
aggregate-returns-in_err-expect-3-clause-err t c = λ _.
    aggregate_colons (structs_of c.args.types.now) c.args.room _ _ _ _ _ c.in_ok-expect.ensures.ok c.in_ok-expect-2.ensures.ok c.in_ok-elements.ensures.ok c.in_err-expect-3.ensures.err

pub aggregate-returns-in_err-ty-clause-err : goal.aggregate-returns-in_err-ty-clause-err
aggregate-returns-in_err-ty-clause-err t c h =
    let is : c.in_err-ty.field-0.0 ≡ Syntax = search rules in
    let none = no_end_still _ _ _ c.in_ok-elements.ensures.grows.structs (c.in_err-ty.ensures.err (ap Err is)) in
    aggregate_ends (structs_of c.args.types.now) c.args.room _ _ _ _ _ _ c.in_ok-expect.ensures.ok c.in_ok-expect-2.ensures.ok c.in_ok-elements.ensures.ok c.in_ok-expect-3.ensures.ok none

pub aggregate-returns-clause-within : goal.aggregate-returns-clause-within
aggregate-returns-clause-within t c =
    let n = length c.end.new.types in
    let below = attrs_below _ _ c.in_ok-ty.ensures.grows _ c.in_ok-elements.ensures.within in
    subst (HasTypesBelow n) (sym (aggregate_data c.in_ok-elements.elements c.in_ok-ty.ty)) (below, c.in_ok-ty.ensures.within)

pub aggregate-returns-clause-ok : goal.aggregate-returns-clause-ok
aggregate-returns-clause-ok t c =
    let structs = structs_of c.args.types.now in
    let new = type_trees c.end.new.types in
    let same = grown_attrs _ _ c.in_ok-ty.ensures.grows _ c.in_ok-elements.ensures.within in
    let read = subst (λ (cs : AttrTrees). AreAttrsRead structs c.args.room c.expect-2.new.symbols cs c.elements.new.symbols) (sym same) c.in_ok-elements.ensures.ok in
    let end = end_still _ _ _ _ _ c.in_ok-elements.ensures.grows.structs c.in_ok-ty.ensures.ok in
    aggregate_by structs c.args.room _ _ _ _ _ _ _ _ _ c.in_ok-expect.ensures.ok c.in_ok-expect-2.ensures.ok read c.in_ok-expect-3.ensures.ok end (ap (attr_tree new) (aggregate_data c.in_ok-elements.elements c.in_ok-ty.ty))

-- ---- splats

pub splat-returns-in_err-expect-clause-err : goal.splat-returns-in_err-expect-clause-err
splat-returns-in_err-expect-clause-err t c = λ _. splat_opens (structs_of c.args.types.now) c.args.room _ c.in_err-expect.ensures.err

pub splat-returns-in_err-element-clause-err : goal.splat-returns-in_err-element-clause-err
splat-returns-in_err-element-clause-err t c h =
    let is : c.in_err-element.field-0.0 ≡ Syntax = search rules in
    splat_elements (structs_of c.args.types.now) c.args.room _ _ c.in_ok-expect.ensures.ok (c.in_err-element.ensures.err (ap Err is))

pub splat-returns-in_err-expect-2-clause-err : goal.splat-returns-in_err-expect-2-clause-err
splat-returns-in_err-expect-2-clause-err t c = λ _.
    splat_colons (structs_of c.args.types.now) c.args.room _ _ _ _ c.in_ok-expect.ensures.ok c.in_ok-element.ensures.ok c.in_err-expect-2.ensures.err

pub splat-returns-in_err-ty-clause-err : goal.splat-returns-in_err-ty-clause-err
splat-returns-in_err-ty-clause-err t c h =
    let is : c.in_err-ty.field-0.0 ≡ Syntax = search rules in
    let none = no_end_still _ _ _ c.in_ok-element.ensures.grows.structs (c.in_err-ty.ensures.err (ap Err is)) in
    splat_ends (structs_of c.args.types.now) c.args.room _ _ _ _ _ c.in_ok-expect.ensures.ok c.in_ok-element.ensures.ok c.in_ok-expect-2.ensures.ok none

splat_is : (t : ℕ) (c : goal.splat-In_ok-new t) → attr_data (A.Splat c.in_ok-new.field-0 c.in_ok-ty.ty) ≡ SplatAttr (attr_data c.in_ok-element.element) c.in_ok-ty.ty
splat_is t c = splat_data c.in_ok-new.field-0 c.in_ok-ty.ty ∙ ap (λ (x : ConstAttr). SplatAttr (attr_data x) c.in_ok-ty.ty) c.in_ok-new.ensures.ok

pub splat-returns-clause-within : goal.splat-returns-clause-within
splat-returns-clause-within t c =
    let below = attr_below _ _ c.in_ok-ty.ensures.grows _ c.in_ok-element.ensures.within in
    subst (HasTypesBelow (length c.end.new.types)) (sym (splat_is t c)) (below, c.in_ok-ty.ensures.within)

pub splat-returns-clause-ok : goal.splat-returns-clause-ok
splat-returns-clause-ok t c =
    let structs = structs_of c.args.types.now in
    let same = grown_attr _ _ c.in_ok-ty.ensures.grows _ c.in_ok-element.ensures.within in
    let read = subst (λ (x : AttrTree). IsAttrRead structs c.args.room c.expect.new.symbols x c.read_constant.new.symbols) (sym same) c.in_ok-element.ensures.ok in
    let end = end_still _ _ _ _ _ c.in_ok-element.ensures.grows.structs c.in_ok-ty.ensures.ok in
    splat_by structs c.args.room _ _ _ _ _ _ _ _ c.in_ok-expect.ensures.ok read c.in_ok-expect-2.ensures.ok end (ap (attr_tree (type_trees c.end.new.types)) (splat_is t c))

-- ---- constants

pub read_constant-returns-in_default-clause-err : goal.read_constant-returns-in_default-clause-err
read_constant-returns-in_default-clause-err t c = λ _. no_attr_at _ _ _ _ c.in_default.ensures.0 (no_attr_symbol (structs_of c.args.types.now) c.args.room)

pub read_constant-returns-then-room-eq0-clause-err : goal.read_constant-returns-then-room-eq0-clause-err
read_constant-returns-then-room-eq0-clause-err t c = λ _. no_attr_room (structs_of c.args.types.now) c.args.room _ c.if-room-eq0.true

pub read_constant-returns-in-Integer-clause-err : goal.read_constant-returns-in-Integer-clause-err
read_constant-returns-in-Integer-clause-err t c h = no_attr_at _ _ _ _ (c.in-Some.ensures ∙ ap (λ (s : Symbol). s ∷ c.next.new.self) c.in-Integer.is) (c.integer.ensures.err h c.args.room)

pub read_constant-returns-in-Filled-clause-err : goal.read_constant-returns-in-Filled-clause-err
read_constant-returns-in-Filled-clause-err t c h = no_attr_at _ _ _ _ (c.in-Some.ensures ∙ ap (λ (s : Symbol). s ∷ c.next.new.self) c.in-Filled.is) (c.filled.ensures.err h c.args.room)

pub read_constant-returns-in-Bytes-clause-within : goal.read_constant-returns-in-Bytes-clause-within
read_constant-returns-in-Bytes-clause-within t c =
    IfOk-weaker c.bytes.result (λ (x : ConstAttr). (n : ℕ) → HasTypesBelow n (attr_data x)) (λ (x : ConstAttr). HasTypesBelow (length c.args.types.now) (attr_data x)) (λ x h. h (length c.args.types.now)) c.bytes.ensures.within

pub read_constant-returns-in-Bytes-clause-ok : goal.read_constant-returns-in-Bytes-clause-ok
read_constant-returns-in-Bytes-clause-ok t c =
    let structs = structs_of c.args.types.now in
    let ts = type_trees c.args.types.now in
    let next = c.next.new.self in
    let some : 1 ≤ c.args.room = omega arith in
    IfOk-weaker c.bytes.result (λ (x : ConstAttr). (structs : List NamedStruct) (ts : List TypeTree) → IsAttrRead structs 1 (S.Bytes ∷ next) (attr_tree ts (attr_data x)) c.bytes.new.symbols)
    (λ (x : ConstAttr). IsAttrRead structs c.args.room c.args.symbols.now (attr_tree ts (attr_data x)) c.bytes.new.symbols)
    (λ x h. attr_at structs 1 c.args.room _ _ _ _ (c.in-Some.ensures ∙ ap (λ (s : Symbol). s ∷ next) c.in-Bytes.is) some (h structs ts)) c.bytes.ensures.ok

pub read_constant-returns-in-Bytes-clause-err : goal.read_constant-returns-in-Bytes-clause-err
read_constant-returns-in-Bytes-clause-err t c h =
    no_attr_at _ _ _ _ (c.in-Some.ensures ∙ ap (λ (s : Symbol). s ∷ c.next.new.self) c.in-Bytes.is) (c.bytes.ensures.err h (structs_of c.args.types.now) c.args.room)

pub read_constant-returns-in_default-first-clause-err : goal.read_constant-returns-in_default-first-clause-err
read_constant-returns-in_default-first-clause-err t c = λ _.
    let other = c.in_default-first in
    no_attr_at _ _ _ _ c.in-Some.ensures (no_attr_head (structs_of c.args.types.now) _ other.not-Integer other.not-Filled other.not-Bytes other.not-Aggregate other.not-Splat c.args.room _)

-- ---- lists

pub elements-returns-in_err-first-clause-err : goal.elements-returns-in_err-first-clause-err
elements-returns-in_err-first-clause-err t c h =
    let is : c.in_err-first.field-0.0 ≡ Syntax = search rules in
    let no = c.skip.ensures.no c.if-skip.false in
    no_first_attr (structs_of c.args.types.now) c.args.room _ _ no.0 no.1 (c.in_err-first.ensures.err (ap Err is))

pub elements-returns-in_err-expect-clause-err : goal.elements-returns-in_err-expect-clause-err
elements-returns-in_err-expect-clause-err t c = λ _.
    let no = c.skip-in-loop-alloc.ensures.no c.loop-alloc-test.true in
    no_attr_comma (structs_of c.args.types.now) c.args.room _ _ _ _ c.loop-alloc.invariant.so no.0 no.1 c.in_err-expect.ensures.err

pub elements-returns-in_err-next-clause-err : goal.elements-returns-in_err-next-clause-err
elements-returns-in_err-next-clause-err t c h =
    let is : c.in_err-next.field-0.0 ≡ Syntax = search rules in
    let no = c.skip-in-loop-alloc.ensures.no c.loop-alloc-test.true in
    let none = no_attr_still _ _ c.args.room _ c.loop-alloc.invariant.grows.structs (c.in_err-next.ensures.err (ap Err is)) in
    no_next_attr (structs_of c.args.types.now) c.args.room _ _ _ _ _ c.loop-alloc.invariant.so no.0 c.in_ok-expect.ensures.ok none

pub elements-loop-alloc-smaller : goal.elements-loop-alloc-smaller
elements-loop-alloc-smaller t c =
    let no = c.skip-in-loop-alloc.ensures.no c.loop-alloc-test.true in
    let less = attr_shorter _ _ _ _ _ c.in_ok-next.ensures.ok in
    let same = ap length no.0 in
    let comma = ap length c.in_ok-expect.ensures.ok in
    omega arith

pub elements-loop-alloc-preserved : goal.elements-loop-alloc-preserved
elements-loop-alloc-preserved t c =
    let no = c.skip-in-loop-alloc.ensures.no c.loop-alloc-test.true in
    let e = c.in_ok-next.ensures in
    let structs = structs_of c.args.types.now in
    let so = c.loop-alloc.invariant.so in
    let below = c.loop-alloc.invariant.below in
    let read = attr_still _ _ c.args.room _ _ _ c.loop-alloc.invariant.grows.structs e.ok in
    let is = c.in_ok-push-2.ensures.items in
    record {
      so =
          subst (λ (cs : AttrTrees). AreAttrsSoFar structs c.args.room c.args.symbols.now cs c.read_constant-in-loop-alloc.new.symbols) (sym (pushed_trees _ _ e.grows _ _ _ is below))
          (next_attr structs c.args.room _ _ _ _ _ _ so (sym no.0 ∙ c.in_ok-expect.ensures.ok) read);
      below = pushed_below _ _ e.grows _ _ _ is below e.within;
      grows = grows_then _ _ _ c.loop-alloc.invariant.grows e.grows;
    }
