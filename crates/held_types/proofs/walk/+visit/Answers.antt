-- What `walk::visit` and what it calls owe besides what the check finds.
use Rattle.std.proofs.Common.{◌≡◌, ◌<◌, ◌+◌, sym, subst, refl, List, All, length, true, take, arith}
use Rattle.std.specs.Prelude.{OnOk}
use Rattle.std.specs.Result.{IfErr}
use Rattle.std.proofs.lemmas.List.Elements.{All-get_or}
use Rattle.kinds.specs.Structs.{Holds, Itself}
use Rattle.kinds.specs.Types.{RefusedType, NamedType}
use Rattle.llvm_core.specs.declared.numbers.LLVMType.{LLVMType}
use Rattle.llvm_core.specs.declared.types.LLVMTypeKind.{LLVMTypeKind}
use Rattle.llvm_core.specs.declared.types.LLVMTypeKind.TheVariants as T
use Rattle.llvm_core.specs.Data.{structs_of}
use Rattle.llvm_core.specs.Depths.{all_nest_at}
use Rattle.llvm_core.proofs.NoteLemmas.{over_more}
use Rattle.held_types.specs.Walk.{IsAmong, IsCause, IsIn, IsInFields, IsInKind, Walked}
use Rattle.held_types.proofs.WalkLaws.{passed_on, on_ok_as, cause_as, walked_as, walked_both, walked_marked, walked_listed}
use Rattle.held_types.proofs.InsideLaws.{one_here, one_split, one_more, one_last, nests_here, kind_within, within_kind, parts_nest, kind_walked, kind_cause, in_array, array_in, in_vector, vector_in, in_literal, literal_in, in_function, result_in, params_in, in_named, named_in, named_struct, body_nests, among_fields, fields_among}
use Rattle.held_types.proofs.walk.+visit.Goals as goal

-- ---- the type

pub visit-visit_kind-requires : goal.visit-visit_kind-requires
visit-visit_kind-requires t c =
    let m = c.args.m.now in
    let k = c.type_kind.result.now in
    let p = parts_nest m c.args.ty k c.type_kind.ensures.kind c.type_kind.ensures.parts c.args.left c.requires.nested in
    (omega (arith, p.0), (over_more c.args.ty.0 (length m.types) k (omega (arith, c.requires.within)) c.type_kind.ensures.parts, (c.requires.table, (p.1, c.requires.walk))))

pub visit-returns-in_err-visit_kind-clause-cause : goal.visit-returns-in_err-visit_kind-clause-cause
visit-returns-in_err-visit_kind-clause-cause t c =
    let m = c.args.m.now in
    let k = c.type_kind.result.now in
    passed_on c.from_residual.result c.in_err-visit_kind.field-0.0 _ c.from_residual.ensures.1
    (cause_as (IsInKind m k) (IsIn m c.args.ty) (kind_within m c.args.ty k c.type_kind.ensures.kind c.type_kind.ensures.parts) c.in_err-visit_kind.field-0.0 c.in_err-visit_kind.ensures.cause)

pub visit-returns-clause-walk : goal.visit-returns-clause-walk
visit-returns-clause-walk t c =
    let m = c.args.m.now in
    let k = c.type_kind.result.now in
    let a = c.args.walk.now in
    let b = c.visit_kind.new.walk in
    let at = c.type_kind.ensures.kind in
    let over = c.type_kind.ensures.parts in
    walked_marked m c.args.ty a b _ (walked_as m (IsInKind m k) (IsIn m c.args.ty) a b (kind_within m c.args.ty k at over) (within_kind m c.args.ty k at over) c.in_ok-visit_kind.ensures.walk) refl refl

-- ---- lists of types

pub visit_all-visit-requires : goal.visit_all-visit-requires
visit_all-visit-requires t c =
    let m = c.args.m.now in
    let ts = c.args.types.now in
    let i = c.loop-ty.ty-index in
    let lt = c.loop-ty-test.true in (
      omega arith,
      (
        All-get_or (λ (t : LLVMType). t.0 < length m.types) ts i (record { 0 = 0 }) lt c.requires.within,
        (c.requires.table, (nests_here m ts i (record { 0 = 0 }) lt c.args.left c.requires.nested, c.loop-ty.invariant.walk)),
      ),
    )

pub visit_all-returns-in_err-visit-clause-cause : goal.visit_all-returns-in_err-visit-clause-cause
visit_all-returns-in_err-visit-clause-cause t c =
    let m = c.args.m.now in
    let ts = c.args.types.now in
    let e = c.in_err-visit.field-0.0 in
    passed_on c.from_residual.result e _ c.from_residual.ensures.1
    (cause_as (IsIn m _) (IsAmong m ts) (one_here (IsIn m) ts c.loop-ty.ty-index (record { 0 = 0 }) c.loop-ty-test.true) e c.in_err-visit.ensures.cause)

pub visit_all-loop-ty-preserved : goal.visit_all-loop-ty-preserved
visit_all-loop-ty-preserved t c =
    let m = c.args.m.now in
    let ts = c.args.types.now in
    let i = c.loop-ty.ty-index in
    let lt = c.loop-ty-test.true in
    walked_both m (IsAmong m (take i ts)) (IsIn m _) (IsAmong m (take (i + 1) ts)) c.args.walk.now c.loop-ty.walk c.visit.new.walk c.loop-ty.invariant c.in_ok-visit.ensures.walk
    (one_split (IsIn m) ts i (record { 0 = 0 }) lt) (one_more (IsIn m) ts i (record { 0 = 0 }) lt) (one_last (IsIn m) ts i (record { 0 = 0 }) lt)

-- ---- the fields of a struct

pub visit_fields-visit_all-requires : goal.visit_fields-visit_all-requires
visit_fields-visit_all-requires t c =
    let m = c.args.m.now in
    let b = c.in-Some.body.now in
    let nested = body_nests m c.args.s b c.in-Some.ensures.body c.args.left c.requires.nested in (
      omega arith,
      (
        subst (All (λ (t : LLVMType). t.0 < length m.types)) (sym c.as_slice.ensures) c.in-Some.ensures.within.within,
        (c.requires.table, (subst (λ (ts : List LLVMType). all_nest_at m ts c.args.left ≡ true) (sym c.as_slice.ensures) nested, c.requires.walk)),
      ),
    )

pub visit_fields-returns-in-Some-clause-walk : goal.visit_fields-returns-in-Some-clause-walk
visit_fields-returns-in-Some-clause-walk t c =
    let m = c.args.m.now in
    let s = c.args.s in
    let b = c.in-Some.body.now in
    let r = c.visit_all.result in
    let old = c.args.walk.now in
    let new = c.visit_all.new.walk in
    on_ok_as r (walked_as m (IsAmong m b.types) (IsInFields m s) old new (among_fields m s b c.in-Some.ensures.body) (fields_among m s b c.in-Some.ensures.body))
    (subst (λ (ts : List LLVMType). OnOk r (Walked m (IsAmong m ts) old new)) c.as_slice.ensures c.visit_all.ensures.walk)

-- ---- the struct of a name

pub visit_named-returns-in_err-visit_fields-clause-cause : goal.visit_named-returns-in_err-visit_fields-clause-cause
visit_named-returns-in_err-visit_fields-clause-cause t c =
    let m = c.args.m.now in
    let name = c.args.name.now in
    let s = c.first-s.result in
    let e = c.in_err-visit_fields.field-0.0 in
    let is = named_struct m c.args.table.now name c.args.left s c.requires.1.1.0 c.requires.1.1.1.0 c.first-s.ensures in
    passed_on c.from_residual.result e _ c.from_residual.ensures.1 (cause_as (IsInFields m s) (λ u. Holds (structs_of m) u (NamedType name)) (named_in m name s is) e c.in_err-visit_fields.ensures.cause)

pub visit_named-returns-clause-walk : goal.visit_named-returns-clause-walk
visit_named-returns-clause-walk t c =
    let m = c.args.m.now in
    let name = c.args.name.now in
    let s = c.first-s.result in
    let is = named_struct m c.args.table.now name c.args.left s c.requires.1.1.0 c.requires.1.1.1.0 c.first-s.ensures in
    walked_listed m (λ u. Holds (structs_of m) u (NamedType name)) name s c.args.walk.now c.visit_fields.new.walk _ c.in_ok-visit_fields.ensures.walk is refl c.in_ok-push.ensures.items
    (in_named m name s is) Itself (named_in m name s is)

-- ---- the kind of a type: a line for each kind with parts

pub visit_kind-returns-in-Other-clause-cause : goal.visit_kind-returns-in-Other-clause-cause
visit_kind-returns-in-Other-clause-cause t c = subst (λ (k : LLVMTypeKind). IsInKind c.args.m.now k (RefusedType c.in-Other.of)) (sym c.in-Other.is) Itself

pub visit_kind-returns-in-Array-clause-walk : goal.visit_kind-returns-in-Array-clause-walk
visit_kind-returns-in-Array-clause-walk t c =
    let m = c.args.m.now in
    let k = c.in-Array in
    kind_walked m (IsIn m k.element) c.args.kind.now (T.Array k.field-0 k.element) k.is (array_in m k.field-0 k.element) c.visit.result c.args.walk.now c.visit.new.walk (in_array m k.field-0 k.element) c.visit.ensures.walk

pub visit_kind-returns-in-Array-clause-cause : goal.visit_kind-returns-in-Array-clause-cause
visit_kind-returns-in-Array-clause-cause t c =
    let m = c.args.m.now in
    let k = c.in-Array in
    kind_cause m (IsIn m k.element) c.args.kind.now (T.Array k.field-0 k.element) k.is (array_in m k.field-0 k.element) c.visit.result c.visit.ensures.cause

pub visit_kind-returns-in-Vector-clause-walk : goal.visit_kind-returns-in-Vector-clause-walk
visit_kind-returns-in-Vector-clause-walk t c =
    let m = c.args.m.now in
    let k = c.in-Vector in
    let v = c.visit-in-Vector in
    kind_walked m (IsIn m k.element) c.args.kind.now (T.Vector k.field-0 k.field-1 k.element) k.is (vector_in m k.field-0 k.field-1 k.element) v.result c.args.walk.now v.new.walk (in_vector m k.field-0 k.field-1 k.element) v.ensures.walk

pub visit_kind-returns-in-Vector-clause-cause : goal.visit_kind-returns-in-Vector-clause-cause
visit_kind-returns-in-Vector-clause-cause t c =
    let m = c.args.m.now in
    let k = c.in-Vector in
    kind_cause m (IsIn m k.element) c.args.kind.now (T.Vector k.field-0 k.field-1 k.element) k.is (vector_in m k.field-0 k.field-1 k.element) c.visit-in-Vector.result c.visit-in-Vector.ensures.cause

pub visit_kind-returns-in-Literal-clause-walk : goal.visit_kind-returns-in-Literal-clause-walk
visit_kind-returns-in-Literal-clause-walk t c =
    let m = c.args.m.now in
    let k = c.in-Literal in
    let r = c.visit_all.result in
    let a = c.args.walk.now in
    let b = c.visit_all.new.walk in
    kind_walked m (IsAmong m k.fields) c.args.kind.now (T.Literal k.fields k.layout) k.is (literal_in m k.fields k.layout) r a b (in_literal m k.fields k.layout)
    (subst (λ (ts : List LLVMType). OnOk r (Walked m (IsAmong m ts) a b)) c.as_slice.ensures c.visit_all.ensures.walk)

pub visit_kind-returns-in-Literal-clause-cause : goal.visit_kind-returns-in-Literal-clause-cause
visit_kind-returns-in-Literal-clause-cause t c =
    let m = c.args.m.now in
    let k = c.in-Literal in
    let r = c.visit_all.result in
    kind_cause m (IsAmong m k.fields) c.args.kind.now (T.Literal k.fields k.layout) k.is (literal_in m k.fields k.layout) r
    (subst (λ (ts : List LLVMType). IfErr r (IsCause (IsAmong m ts))) c.as_slice.ensures c.visit_all.ensures.cause)

pub visit_kind-returns-in_err-visit-in-Function-clause-cause : goal.visit_kind-returns-in_err-visit-in-Function-clause-cause
visit_kind-returns-in_err-visit-in-Function-clause-cause t c =
    let m = c.args.m.now in
    let k = c.in-Function in
    let e = c.in_err-visit-in-Function.field-0.0 in
    let cause = cause_as (IsIn m k.result) (IsInKind m (T.Function k.result k.params k.variadic)) (result_in m k.result k.params k.variadic) e c.in_err-visit-in-Function.ensures.cause in
    passed_on c.from_residual.result e _ c.from_residual.ensures.1 (subst (λ (x : LLVMTypeKind). IsCause (IsInKind m x) e) (sym k.is) cause)

pub visit_kind-returns-in_ok-visit-in-Function-clause-walk : goal.visit_kind-returns-in_ok-visit-in-Function-clause-walk
visit_kind-returns-in_ok-visit-in-Function-clause-walk t c =
    let m = c.args.m.now in
    let k = c.in-Function in
    let f = T.Function k.result k.params k.variadic in
    let r = c.visit_all-in-Function.result in
    let old = c.args.walk.now in
    let mid = c.visit-in-Function.new.walk in
    let new = c.visit_all-in-Function.new.walk in
    let both : Walked m (IsAmong m k.params) mid new → Walked m (IsInKind m c.args.kind.now) old new =
    λ w. subst (λ (x : LLVMTypeKind). Walked m (IsInKind m x) old new) (sym k.is)
    (walked_both m (IsIn m k.result) (IsAmong m k.params) (IsInKind m f) old mid new c.in_ok-visit-in-Function.ensures.walk w (in_function m k.result k.params k.variadic) (result_in m k.result k.params k.variadic) (params_in m k.result k.params k.variadic)) in
    on_ok_as r both (subst (λ (ts : List LLVMType). OnOk r (Walked m (IsAmong m ts) mid new)) c.as_slice-in-Function.ensures c.visit_all-in-Function.ensures.walk)

pub visit_kind-returns-in_ok-visit-in-Function-clause-cause : goal.visit_kind-returns-in_ok-visit-in-Function-clause-cause
visit_kind-returns-in_ok-visit-in-Function-clause-cause t c =
    let m = c.args.m.now in
    let k = c.in-Function in
    let r = c.visit_all-in-Function.result in
    kind_cause m (IsAmong m k.params) c.args.kind.now (T.Function k.result k.params k.variadic) k.is (params_in m k.result k.params k.variadic) r
    (subst (λ (ts : List LLVMType). IfErr r (IsCause (IsAmong m ts))) c.as_slice-in-Function.ensures c.visit_all-in-Function.ensures.cause)
