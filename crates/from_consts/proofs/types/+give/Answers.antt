-- What `types::give` and what it calls owe besides what the check finds.
use Rattle.std.proofs.Common.{ℕ, suc, ◌≡◌, ◌<◌, ◌+◌, ◌∙◌, refl, sym, ap, subst, true, List, All, Some, length, map, get_or, slice_get, arith}
use Rattle.std.specs.Option.{option_map}
use Rattle.std.specs.Result.{IfErr}
use Rattle.std.proofs.lemmas.List.{take_all}
use Rattle.std.proofs.lemmas.Option.{same_Some, slice_get-get_or, slice_get_within}
use Rattle.support.proofs.ListLaws.{length-slice_set}
use Rattle.kinds.specs.Held.{IsShallow}
use Rattle.kinds.proofs.TypeLaws.{and_left, and_right}
use Rattle.llvm_core.specs.declared.numbers.LLVMType.{LLVMType}
use Rattle.llvm_core.specs.declared.types.LLVMTypeKind.{LLVMTypeKind}
use Rattle.llvm_core.specs.declared.types.LLVMTypeKind.TheVariants as T
use Rattle.llvm_core.specs.Parts.{HasFitParts, IsTypeOver}
use Rattle.llvm_core.specs.Data as L
use Rattle.llvm_core.specs.Data.{trees_of}
use Rattle.llvm_core.specs.Depths.{all_nest_at, fields_nest_at, nests_at}
use Rattle.llvm_core.proofs.NoteLemmas.{over_more}
use Rattle.dialect_types.specs.declared.types.TypeHandle.{TypeHandle}
use Rattle.dialect_types.specs.declared.types.TypeKind.TheVariants as K
use Rattle.dialect_types.specs.declared.types.TypeKind.{TypeKind}
use Rattle.dialect_types.specs.Legalised.{Named}
use Rattle.dialect_types.specs.Trees.{fields_of, structs_of, type_tree, type_trees, HasOtherBody, IsStructPut}
use Rattle.dialect_types.specs.declared.struct_err.StructErr.TheVariants as S
use Rattle.dialect_types.proofs.LegalLaws.{gave_kept}
use Rattle.from_consts.specs.Forward.{of_struct}
use Rattle.from_consts.specs.Names.{called}
use Rattle.held_types.proofs.InsideLaws.{body_at, body_nests, fields_nest, named_struct, nests_here, struct_here}
use Rattle.held_types.proofs.WalkLaws.{passed_on}
use Rattle.from_consts.specs.Parts.{IsAmong, IsInStruct, IsNamed, IsWithin, Itself}
use Rattle.from_consts.specs.Given.{Gives}
use Rattle.from_consts.proofs.GrowthLaws.{set_here, unknown_at}
use Rattle.from_consts.proofs.GivesLaws.{added_none, adds_interned, gives_none, gives_as, gives_then, gives_both, gives_marked, gives_type, goes_none}
use Rattle.from_consts.proofs.RefusalLaws.{cause_as, cause_before, other_before, other_struct}
use Rattle.from_consts.proofs.KindLaws.{array_given, vector_given, literal_given, function_given, flat_given}
use Rattle.from_consts.proofs.StepLaws.{AreGiven, all_more, body_given, in_struct, kind_nests, kind_stands, list_within, names_given, nests_enough, part_within, renamed_shallow, some_left, struct_added, struct_given, is_converted, to_make, struct_cause}
use Rattle.from_consts.proofs.types.+give.Goals as goal

-- ---- the type of a number

pub give-give_new-requires : goal.give-give_new-requires
give-give_new-requires t c =
    let m = c.args.«module».now in
    let e = some_left m c.args.ty c.args.left c.requires.nested in (
      omega (arith, e),
      (
        c.requires.within,
        (
          subst (λ (n : ℕ). nests_at m c.args.ty n ≡ true) (sym e) c.requires.nested,
          (omega (arith, e, c.requires.few), (c.requires.sound, (c.requires.ready, c.requires.context))),
        ),
      ),
    )

pub give-returns-clause-gives : goal.give-returns-clause-gives
give-returns-clause-gives t c =
    let m = c.args.«module».now in
    let ty = c.args.ty in
    let made = c.in_ok-given.ensures in
    let unknown = unknown_at c.args.cctx.now ty c.index.result.now (omega (arith, c.requires.within, c.requires.ready.count)) c.index.ensures c.in_default.is in
    let within : ty.0 < length c.give_new.new.cctx.given.items = omega (arith, c.requires.within, made.ready.count) in
    gives_marked m (λ u. IsWithin m u ty) c.args.ctx.now c.give_new.new.ctx c.args.cctx.now c.give_new.new.cctx _ ty c.in_ok-given.given unknown refl refl refl within
    (record { count = length-slice_set c.give_new.new.cctx.given.items ty.0 (Some c.in_ok-given.given) ∙ made.ready.count; table = made.ready.table }) Itself made.given made.gives

pub give-returns-clause-given : goal.give-returns-clause-given
give-returns-clause-given t c =
    let made = c.in_ok-given.ensures in
    set_here c.give_new.new.cctx (record c.give_new.new.cctx { given = Rattle.std.specs.Vec.with_item c.give_new.new.cctx.given c.args.ty.0 (Some c.in_ok-given.given) }) c.args.ty c.in_ok-given.given refl (omega (arith, c.requires.within, made.ready.count))

-- ---- lists of types

pub give_all-loop-ty-init : goal.give_all-loop-ty-init
give_all-loop-ty-init t c = record {
  gives = gives_none c.args.«module».now (IsAmong c.args.«module».now c.args.types.now) c.args.ctx.now c.args.cctx.now c.requires.context;
  are = ap (map (λ (h : TypeHandle). Some h)) (sym c.new-given.ensures.items);
  ready = c.requires.ready;
}

pub give_all-give-requires : goal.give_all-give-requires
give_all-give-requires t c =
    let m = c.args.«module».now in
    let ts = c.args.types.now in
    let i = c.loop-ty.ty-index in
    let lt = c.loop-ty-test.true in
    let inv = c.loop-ty.invariant in
    (omega arith, (c.requires.within i _ lt, (nests_here m ts i (record { 0 = 0 }) lt c.args.left c.requires.nested, (c.requires.few, (c.requires.sound, (inv.ready, inv.gives.context))))))

pub give_all-returns-in_err-give-clause-gives : goal.give_all-returns-in_err-give-clause-gives
give_all-returns-in_err-give-clause-gives t c =
    let m = c.args.«module».now in
    let ts = c.args.types.now in
    let i = c.loop-ty.ty-index in
    let lt = c.loop-ty-test.true in
    let W = IsAmong m ts in
    gives_then m W c.args.ctx.now c.loop-ty.ctx c.give.new.ctx c.args.cctx.now c.loop-ty.cctx c.give.new.cctx c.loop-ty.invariant.gives
    (gives_as m (λ v. IsWithin m v (get_or ts i (record { 0 = 0 }))) W c.loop-ty.ctx c.give.new.ctx c.loop-ty.cctx c.give.new.cctx (λ v inside. (i, get_or ts i (record { 0 = 0 }), slice_get-get_or ts i (record { 0 = 0 }) lt, inside)) c.in_err-give.ensures.gives)

pub give_all-returns-in_err-give-clause-cause : goal.give_all-returns-in_err-give-clause-cause
give_all-returns-in_err-give-clause-cause t c =
    let m = c.args.«module».now in
    let ts = c.args.types.now in
    let i = c.loop-ty.ty-index in
    let lt = c.loop-ty-test.true in
    let W = IsAmong m ts in
    let e = c.in_err-give.field-0.0 in
    let done = c.in_err-give.ensures in
    passed_on c.from_residual.result e _ c.from_residual.ensures.1
    (cause_before m W W c.loop-ty.cctx.names c.give.new.cctx.names (structs_of c.args.ctx.now.types) (structs_of c.loop-ty.ctx.types) e done.gives.context.legal done.gives.names c.loop-ty.invariant.gives.structs
    (cause_as m (λ v. IsWithin m v (get_or ts i (record { 0 = 0 }))) W (structs_of c.loop-ty.ctx.types) c.give.new.cctx.names e (λ v inside. (i, get_or ts i (record { 0 = 0 }), slice_get-get_or ts i (record { 0 = 0 }) lt, inside)) done.cause))

pub give_all-returns-in_err-push-clause-gives : goal.give_all-returns-in_err-push-clause-gives
give_all-returns-in_err-push-clause-gives t c =
    let m = c.args.«module».now in
    let ts = c.args.types.now in
    let i = c.loop-ty.ty-index in
    let lt = c.loop-ty-test.true in
    let W = IsAmong m ts in
    gives_then m W c.args.ctx.now c.loop-ty.ctx c.give.new.ctx c.args.cctx.now c.loop-ty.cctx c.give.new.cctx c.loop-ty.invariant.gives
    (gives_as m (λ v. IsWithin m v (get_or ts i (record { 0 = 0 }))) W c.loop-ty.ctx c.give.new.ctx c.loop-ty.cctx c.give.new.cctx (λ v inside. (i, get_or ts i (record { 0 = 0 }), slice_get-get_or ts i (record { 0 = 0 }) lt, inside)) c.in_ok-give.ensures.gives)

pub give_all-loop-ty-preserved : goal.give_all-loop-ty-preserved
give_all-loop-ty-preserved t c =
    let m = c.args.«module».now in
    let ts = c.args.types.now in
    let i = c.loop-ty.ty-index in
    let lt = c.loop-ty-test.true in
    let W = IsAmong m ts in
    let done = c.in_ok-give.ensures in
    record {
      gives = gives_then m W c.args.ctx.now c.loop-ty.ctx c.give.new.ctx c.args.cctx.now c.loop-ty.cctx c.give.new.cctx c.loop-ty.invariant.gives
          (gives_as m (λ v. IsWithin m v (get_or ts i (record { 0 = 0 }))) W c.loop-ty.ctx c.give.new.ctx c.loop-ty.cctx c.give.new.cctx (λ v inside. (i, get_or ts i (record { 0 = 0 }), slice_get-get_or ts i (record { 0 = 0 }) lt, inside)) done.gives);
      are = all_more c.loop-ty.cctx c.give.new.cctx done.gives.kept ts i (record { 0 = 0 }) c.loop-ty.given.items c.in_ok-give.field-0 lt c.loop-ty.invariant.are done.given
          ∙ ap (map (λ (h : TypeHandle). Some h)) (sym c.in_ok-push.ensures.items);
      ready = done.ready;
    }

pub give_all-returns-clause-given : goal.give_all-returns-clause-given
give_all-returns-clause-given t c =
    subst (λ (us : List LLVMType). AreGiven c.loop-ty.cctx us c.loop-ty.given.items) (take_all c.loop-ty.ty-index c.args.types.now c.loop-ty-test.false) c.loop-ty.invariant.are

pub give_all-returns-clause-gives : goal.give_all-returns-clause-gives
give_all-returns-clause-gives t c = c.loop-ty.invariant.gives

pub give_all-returns-clause-ready : goal.give_all-returns-clause-ready
give_all-returns-clause-ready t c = c.loop-ty.invariant.ready

-- ---- the kind of a type: a part each for those with parts

pub give_kind-give-requires : goal.give_kind-give-requires
give_kind-give-requires t c =
    let k = T.Array c.in-Array.count c.in-Array.element in
    let over = subst (IsTypeOver c.args.ty.0) c.in-Array.is c.type_kind.ensures.parts in
    let nested = kind_nests c.args.«module».now c.requires.sound c.args.ty k c.args.left (c.type_kind.ensures.kind ∙ ap (λ (l : LLVMTypeKind). Some l) c.in-Array.is) c.requires.nested in
    (omega arith, (omega (arith, over, c.requires.within), (nested, (omega (arith, c.requires.few), (c.requires.sound, (c.requires.ready, c.requires.context))))))

pub give_kind-returns-in_err-element-in-Array-clause-gives :
    goal.give_kind-returns-in_err-element-in-Array-clause-gives
give_kind-returns-in_err-element-in-Array-clause-gives t c =
    let m = c.args.«module».now in
    let u = c.in-Array.element in
    gives_as m (λ v. IsWithin m v u) (λ v. IsWithin m v c.args.ty) c.args.ctx.now c.give.new.ctx c.args.cctx.now c.give.new.cctx
    (part_within m c.args.ty (T.Array c.in-Array.count u) (c.type_kind.ensures.kind ∙ ap (λ (l : LLVMTypeKind). Some l) c.in-Array.is) 0 u refl) c.in_err-element-in-Array.ensures.gives

pub give_kind-returns-in_err-element-in-Array-clause-cause :
    goal.give_kind-returns-in_err-element-in-Array-clause-cause
give_kind-returns-in_err-element-in-Array-clause-cause t c =
    let m = c.args.«module».now in
    let u = c.in-Array.element in
    let e = c.in_err-element-in-Array.field-0.0 in
    passed_on c.from_residual.result e _ c.from_residual.ensures.1
    (cause_as m (λ v. IsWithin m v u) (λ v. IsWithin m v c.args.ty) (structs_of c.args.ctx.now.types) c.give.new.cctx.names e
    (part_within m c.args.ty (T.Array c.in-Array.count u) (c.type_kind.ensures.kind ∙ ap (λ (l : LLVMTypeKind). Some l) c.in-Array.is) 0 u refl) c.in_err-element-in-Array.ensures.cause)

pub give_kind-returns-in_ok-element-in-Array-clause-given :
    goal.give_kind-returns-in_ok-element-in-Array-clause-given
give_kind-returns-in_ok-element-in-Array-clause-given t c =
    let m = c.args.«module».now in
    let u = c.in-Array.element in
    let k = T.Array c.in-Array.count u in
    let done = c.in_ok-element-in-Array.ensures in
    let over = subst (IsTypeOver c.args.ty.0) c.in-Array.is c.type_kind.ensures.parts in
    let fit = subst (HasFitParts m.types) c.in-Array.is c.type_kind.ensures.fit in
    array_given m c.give.new.ctx.types c.give.new.cctx c.requires.sound done.gives.context c.args.ty c.in-Array.count u c.in_ok-element-in-Array.element
    (c.type_kind.ensures.kind ∙ ap (λ (l : LLVMTypeKind). Some l) c.in-Array.is) (omega (arith, over, c.requires.within)) fit done.given

pub give_kind-returns-in_ok-element-in-Array-clause-gives :
    goal.give_kind-returns-in_ok-element-in-Array-clause-gives
give_kind-returns-in_ok-element-in-Array-clause-gives t c =
    let m = c.args.«module».now in
    let u = c.in-Array.element in
    gives_as m (λ v. IsWithin m v u) (λ v. IsWithin m v c.args.ty) c.args.ctx.now c.give.new.ctx c.args.cctx.now c.give.new.cctx
    (part_within m c.args.ty (T.Array c.in-Array.count u) (c.type_kind.ensures.kind ∙ ap (λ (l : LLVMTypeKind). Some l) c.in-Array.is) 0 u refl) c.in_ok-element-in-Array.ensures.gives

pub give_kind-give-requires-in-Vector : goal.give_kind-give-requires-in-Vector
give_kind-give-requires-in-Vector t c =
    let k = T.Vector c.in-Vector.kind c.in-Vector.count c.in-Vector.element in
    let over = subst (IsTypeOver c.args.ty.0) c.in-Vector.is c.type_kind.ensures.parts in
    let nested = kind_nests c.args.«module».now c.requires.sound c.args.ty k c.args.left (c.type_kind.ensures.kind ∙ ap (λ (l : LLVMTypeKind). Some l) c.in-Vector.is) c.requires.nested in
    (omega arith, (omega (arith, over, c.requires.within), (nested, (omega (arith, c.requires.few), (c.requires.sound, (c.requires.ready, c.requires.context))))))

pub give_kind-returns-in_err-element-in-Vector-clause-gives :
    goal.give_kind-returns-in_err-element-in-Vector-clause-gives
give_kind-returns-in_err-element-in-Vector-clause-gives t c =
    let m = c.args.«module».now in
    let u = c.in-Vector.element in
    gives_as m (λ v. IsWithin m v u) (λ v. IsWithin m v c.args.ty) c.args.ctx.now c.give-in-Vector.new.ctx c.args.cctx.now c.give-in-Vector.new.cctx
    (part_within m c.args.ty (T.Vector c.in-Vector.kind c.in-Vector.count u) (c.type_kind.ensures.kind ∙ ap (λ (l : LLVMTypeKind). Some l) c.in-Vector.is) 0 u refl) c.in_err-element-in-Vector.ensures.gives

pub give_kind-returns-in_err-element-in-Vector-clause-cause :
    goal.give_kind-returns-in_err-element-in-Vector-clause-cause
give_kind-returns-in_err-element-in-Vector-clause-cause t c =
    let m = c.args.«module».now in
    let u = c.in-Vector.element in
    let e = c.in_err-element-in-Vector.field-0.0 in
    passed_on c.from_residual-in_err-element-in-Vector.result e _ c.from_residual-in_err-element-in-Vector.ensures.1
    (cause_as m (λ v. IsWithin m v u) (λ v. IsWithin m v c.args.ty) (structs_of c.args.ctx.now.types) c.give-in-Vector.new.cctx.names e
    (part_within m c.args.ty (T.Vector c.in-Vector.kind c.in-Vector.count u) (c.type_kind.ensures.kind ∙ ap (λ (l : LLVMTypeKind). Some l) c.in-Vector.is) 0 u refl) c.in_err-element-in-Vector.ensures.cause)

pub give_kind-returns-in_ok-element-in-Vector-clause-given :
    goal.give_kind-returns-in_ok-element-in-Vector-clause-given
give_kind-returns-in_ok-element-in-Vector-clause-given t c =
    let m = c.args.«module».now in
    let u = c.in-Vector.element in
    let done = c.in_ok-element-in-Vector.ensures in
    let over = subst (IsTypeOver c.args.ty.0) c.in-Vector.is c.type_kind.ensures.parts in
    let fit = subst (HasFitParts m.types) c.in-Vector.is c.type_kind.ensures.fit in
    vector_given m c.give-in-Vector.new.ctx.types c.give-in-Vector.new.cctx c.requires.sound done.gives.context c.args.ty c.in-Vector.kind c.in-Vector.count u c.in_ok-element-in-Vector.element
    (c.type_kind.ensures.kind ∙ ap (λ (l : LLVMTypeKind). Some l) c.in-Vector.is) (omega (arith, over, c.requires.within)) fit done.given

pub give_kind-returns-in_ok-element-in-Vector-clause-gives :
    goal.give_kind-returns-in_ok-element-in-Vector-clause-gives
give_kind-returns-in_ok-element-in-Vector-clause-gives t c =
    let m = c.args.«module».now in
    let u = c.in-Vector.element in
    gives_as m (λ v. IsWithin m v u) (λ v. IsWithin m v c.args.ty) c.args.ctx.now c.give-in-Vector.new.ctx c.args.cctx.now c.give-in-Vector.new.cctx
    (part_within m c.args.ty (T.Vector c.in-Vector.kind c.in-Vector.count u) (c.type_kind.ensures.kind ∙ ap (λ (l : LLVMTypeKind). Some l) c.in-Vector.is) 0 u refl) c.in_ok-element-in-Vector.ensures.gives

pub give_kind-give_all-requires : goal.give_kind-give_all-requires
give_kind-give_all-requires t c =
    let m = c.args.«module».now in
    let k = T.Literal c.in-Literal.fields c.in-Literal.layout in
    let over = subst (IsTypeOver (length m.types)) c.in-Literal.is (over_more c.args.ty.0 (length m.types) c.type_kind.result.now (omega (arith, c.requires.within)) c.type_kind.ensures.parts) in
    let nested : all_nest_at m c.in-Literal.fields c.args.left ≡ true = kind_nests m c.requires.sound c.args.ty k c.args.left (c.type_kind.ensures.kind ∙ ap (λ (l : LLVMTypeKind). Some l) c.in-Literal.is) c.requires.nested in (
      omega arith,
      (
        subst (All (λ (u : LLVMType). u.0 < length m.types)) (sym c.as_slice.ensures) over,
        (subst (λ (us : List LLVMType). all_nest_at m us c.args.left ≡ true) (sym c.as_slice.ensures) nested, (omega (arith, c.requires.few), (c.requires.sound, (c.requires.ready, c.requires.context)))),
      ),
    )

pub give_kind-returns-in_err-fields-in-Literal-clause-gives :
    goal.give_kind-returns-in_err-fields-in-Literal-clause-gives
give_kind-returns-in_err-fields-in-Literal-clause-gives t c =
    let m = c.args.«module».now in
    let k = T.Literal c.in-Literal.fields c.in-Literal.layout in
    let us = c.as_slice.result.now in
    gives_as m (IsAmong m us) (λ v. IsWithin m v c.args.ty) c.args.ctx.now c.give_all.new.ctx c.args.cctx.now c.give_all.new.cctx
    (list_within m c.args.ty k (c.type_kind.ensures.kind ∙ ap (λ (l : LLVMTypeKind). Some l) c.in-Literal.is) us (λ i u here. (i, subst (λ (xs : List LLVMType). slice_get xs i ≡ Some u) c.as_slice.ensures here))) c.in_err-fields-in-Literal.ensures.gives

pub give_kind-returns-in_err-fields-in-Literal-clause-cause :
    goal.give_kind-returns-in_err-fields-in-Literal-clause-cause
give_kind-returns-in_err-fields-in-Literal-clause-cause t c =
    let m = c.args.«module».now in
    let k = T.Literal c.in-Literal.fields c.in-Literal.layout in
    let us = c.as_slice.result.now in
    let e = c.in_err-fields-in-Literal.field-0.0 in
    passed_on c.from_residual-in_err-fields-in-Literal.result e _ c.from_residual-in_err-fields-in-Literal.ensures.1
    (cause_as m (IsAmong m us) (λ v. IsWithin m v c.args.ty) (structs_of c.args.ctx.now.types) c.give_all.new.cctx.names e
    (list_within m c.args.ty k (c.type_kind.ensures.kind ∙ ap (λ (l : LLVMTypeKind). Some l) c.in-Literal.is) us (λ i u here. (i, subst (λ (xs : List LLVMType). slice_get xs i ≡ Some u) c.as_slice.ensures here))) c.in_err-fields-in-Literal.ensures.cause)

pub give_kind-returns-in_ok-fields-in-Literal-clause-given :
    goal.give_kind-returns-in_ok-fields-in-Literal-clause-given
give_kind-returns-in_ok-fields-in-Literal-clause-given t c =
    let m = c.args.«module».now in
    let done = c.in_ok-fields-in-Literal.ensures in
    let hs = c.in_ok-fields-in-Literal.fields.items in
    let over = subst (IsTypeOver (length m.types)) c.in-Literal.is (over_more c.args.ty.0 (length m.types) c.type_kind.result.now (omega (arith, c.requires.within)) c.type_kind.ensures.parts) in
    let fit = subst (HasFitParts m.types) c.in-Literal.is c.type_kind.ensures.fit in
    literal_given m c.give_all.new.ctx.types c.give_all.new.cctx c.requires.sound done.gives.context c.args.ty c.in-Literal.fields c.in-Literal.layout hs c.from_vec.result c.from_vec.ensures
    (c.type_kind.ensures.kind ∙ ap (λ (l : LLVMTypeKind). Some l) c.in-Literal.is) over fit (subst (λ (us : List LLVMType). AreGiven c.give_all.new.cctx us hs) c.as_slice.ensures done.given)

pub give_kind-returns-in_ok-fields-in-Literal-clause-gives :
    goal.give_kind-returns-in_ok-fields-in-Literal-clause-gives
give_kind-returns-in_ok-fields-in-Literal-clause-gives t c =
    let m = c.args.«module».now in
    let k = T.Literal c.in-Literal.fields c.in-Literal.layout in
    let us = c.as_slice.result.now in
    gives_as m (IsAmong m us) (λ v. IsWithin m v c.args.ty) c.args.ctx.now c.give_all.new.ctx c.args.cctx.now c.give_all.new.cctx
    (list_within m c.args.ty k (c.type_kind.ensures.kind ∙ ap (λ (l : LLVMTypeKind). Some l) c.in-Literal.is) us (λ i u here. (i, subst (λ (xs : List LLVMType). slice_get xs i ≡ Some u) c.as_slice.ensures here))) c.in_ok-fields-in-Literal.ensures.gives

pub give_kind-give-requires-in-Function : goal.give_kind-give-requires-in-Function
give_kind-give-requires-in-Function t c =
    let m = c.args.«module».now in
    let k = T.Function c.in-Function.result c.in-Function.params c.in-Function.variadic in
    let over = subst (IsTypeOver c.args.ty.0) c.in-Function.is c.type_kind.ensures.parts in
    let nested = kind_nests m c.requires.sound c.args.ty k c.args.left (c.type_kind.ensures.kind ∙ ap (λ (l : LLVMTypeKind). Some l) c.in-Function.is) c.requires.nested in
    (omega arith, (omega (arith, over.0, c.requires.within), (and_left (nests_at m c.in-Function.result c.args.left) (all_nest_at m c.in-Function.params c.args.left) nested, (omega (arith, c.requires.few), (c.requires.sound, (c.requires.ready, c.requires.context))))))

pub give_kind-returns-in_err-result-in-Function-clause-gives :
    goal.give_kind-returns-in_err-result-in-Function-clause-gives
give_kind-returns-in_err-result-in-Function-clause-gives t c =
    let m = c.args.«module».now in
    let k = T.Function c.in-Function.result c.in-Function.params c.in-Function.variadic in
    let r = c.in-Function.result in
    gives_as m (λ v. IsWithin m v r) (λ v. IsWithin m v c.args.ty) c.args.ctx.now c.give-in-Function.new.ctx c.args.cctx.now c.give-in-Function.new.cctx
    (part_within m c.args.ty k (c.type_kind.ensures.kind ∙ ap (λ (l : LLVMTypeKind). Some l) c.in-Function.is) 0 r refl) c.in_err-result-in-Function.ensures.gives

pub give_kind-returns-in_err-result-in-Function-clause-cause :
    goal.give_kind-returns-in_err-result-in-Function-clause-cause
give_kind-returns-in_err-result-in-Function-clause-cause t c =
    let m = c.args.«module».now in
    let k = T.Function c.in-Function.result c.in-Function.params c.in-Function.variadic in
    let r = c.in-Function.result in
    let e = c.in_err-result-in-Function.field-0.0 in
    passed_on c.from_residual-in_err-result-in-Function.result e _ c.from_residual-in_err-result-in-Function.ensures.1
    (cause_as m (λ v. IsWithin m v r) (λ v. IsWithin m v c.args.ty) (structs_of c.args.ctx.now.types) c.give-in-Function.new.cctx.names e
    (part_within m c.args.ty k (c.type_kind.ensures.kind ∙ ap (λ (l : LLVMTypeKind). Some l) c.in-Function.is) 0 r refl) c.in_err-result-in-Function.ensures.cause)

pub give_kind-give_all-requires-in-Function : goal.give_kind-give_all-requires-in-Function
give_kind-give_all-requires-in-Function t c =
    let m = c.args.«module».now in
    let k = T.Function c.in-Function.result c.in-Function.params c.in-Function.variadic in
    let done = c.in_ok-result-in-Function.ensures in
    let same = c.as_slice-in-Function.ensures in
    let over = subst (IsTypeOver (length m.types)) c.in-Function.is (over_more c.args.ty.0 (length m.types) c.type_kind.result.now (omega (arith, c.requires.within)) c.type_kind.ensures.parts) in
    let nested = kind_nests m c.requires.sound c.args.ty k c.args.left (c.type_kind.ensures.kind ∙ ap (λ (l : LLVMTypeKind). Some l) c.in-Function.is) c.requires.nested in
    let params = and_right (nests_at m c.in-Function.result c.args.left) (all_nest_at m c.in-Function.params c.args.left) nested in (
      omega arith,
      (
        subst (All (λ (u : LLVMType). u.0 < length m.types)) (sym same) over.1,
        (subst (λ (us : List LLVMType). all_nest_at m us c.args.left ≡ true) (sym same) params, (omega (arith, c.requires.few), (c.requires.sound, (done.ready, done.gives.context)))),
      ),
    )

-- what is given for the parameters, behind the result
pub give_kind-returns-in_err-params-in-Function-clause-gives :
    goal.give_kind-returns-in_err-params-in-Function-clause-gives
give_kind-returns-in_err-params-in-Function-clause-gives t c =
    let m = c.args.«module».now in
    let k = T.Function c.in-Function.result c.in-Function.params c.in-Function.variadic in
    let at = c.type_kind.ensures.kind ∙ ap (λ (l : LLVMTypeKind). Some l) c.in-Function.is in
    let r = c.in-Function.result in
    let us = c.as_slice-in-Function.result.now in
    gives_both m (λ v. IsWithin m v r) (IsAmong m us) (λ v. IsWithin m v c.args.ty) c.args.ctx.now c.give-in-Function.new.ctx c.give_all-in-Function.new.ctx c.args.cctx.now c.give-in-Function.new.cctx c.give_all-in-Function.new.cctx
    (part_within m c.args.ty k at 0 r refl) (list_within m c.args.ty k at us (λ i u here. (suc i, subst (λ (xs : List LLVMType). slice_get xs i ≡ Some u) c.as_slice-in-Function.ensures here)))
    c.in_ok-result-in-Function.ensures.gives c.in_err-params-in-Function.ensures.gives

pub give_kind-returns-in_err-params-in-Function-clause-cause :
    goal.give_kind-returns-in_err-params-in-Function-clause-cause
give_kind-returns-in_err-params-in-Function-clause-cause t c =
    let m = c.args.«module».now in
    let k = T.Function c.in-Function.result c.in-Function.params c.in-Function.variadic in
    let at = c.type_kind.ensures.kind ∙ ap (λ (l : LLVMTypeKind). Some l) c.in-Function.is in
    let r = c.in-Function.result in
    let us = c.as_slice-in-Function.result.now in
    let W = λ (v : LLVMType). IsWithin m v c.args.ty in
    let e = c.in_err-params-in-Function.field-0.0 in
    let done = c.in_err-params-in-Function.ensures in
    passed_on c.from_residual-in_err-params-in-Function.result e _ c.from_residual-in_err-params-in-Function.ensures.1
    (cause_before m (λ v. IsWithin m v r) W c.give-in-Function.new.cctx.names c.give_all-in-Function.new.cctx.names (structs_of c.args.ctx.now.types) (structs_of c.give-in-Function.new.ctx.types) e done.gives.context.legal done.gives.names c.in_ok-result-in-Function.ensures.gives.structs
    (cause_as m (IsAmong m us) W (structs_of c.give-in-Function.new.ctx.types) c.give_all-in-Function.new.cctx.names e (list_within m c.args.ty k at us (λ i u here. (suc i, subst (λ (xs : List LLVMType). slice_get xs i ≡ Some u) c.as_slice-in-Function.ensures here))) done.cause))

pub give_kind-returns-in_ok-params-in-Function-clause-given :
    goal.give_kind-returns-in_ok-params-in-Function-clause-given
give_kind-returns-in_ok-params-in-Function-clause-given t c =
    let m = c.args.«module».now in
    let done = c.in_ok-params-in-Function.ensures in
    let hs = c.in_ok-params-in-Function.params.items in
    let r = c.in-Function.result in
    let here = done.gives.kept r c.in_ok-result-in-Function.result c.in_ok-result-in-Function.ensures.given in
    function_given m c.give_all-in-Function.new.ctx.types c.give_all-in-Function.new.cctx c.requires.sound done.gives.context c.args.ty r c.in-Function.params c.in-Function.variadic c.in_ok-result-in-Function.result hs c.from_vec-in-Function.result c.from_vec-in-Function.ensures
    (c.type_kind.ensures.kind ∙ ap (λ (l : LLVMTypeKind). Some l) c.in-Function.is) here (subst (λ (us : List LLVMType). AreGiven c.give_all-in-Function.new.cctx us hs) c.as_slice-in-Function.ensures done.given)

pub give_kind-returns-in_ok-params-in-Function-clause-gives :
    goal.give_kind-returns-in_ok-params-in-Function-clause-gives
give_kind-returns-in_ok-params-in-Function-clause-gives t c =
    let m = c.args.«module».now in
    let k = T.Function c.in-Function.result c.in-Function.params c.in-Function.variadic in
    let at = c.type_kind.ensures.kind ∙ ap (λ (l : LLVMTypeKind). Some l) c.in-Function.is in
    let r = c.in-Function.result in
    let us = c.as_slice-in-Function.result.now in
    gives_both m (λ v. IsWithin m v r) (IsAmong m us) (λ v. IsWithin m v c.args.ty) c.args.ctx.now c.give-in-Function.new.ctx c.give_all-in-Function.new.ctx c.args.cctx.now c.give-in-Function.new.cctx c.give_all-in-Function.new.cctx
    (part_within m c.args.ty k at 0 r refl) (list_within m c.args.ty k at us (λ i u here. (suc i, subst (λ (xs : List LLVMType). slice_get xs i ≡ Some u) c.as_slice-in-Function.ensures here)))
    c.in_ok-result-in-Function.ensures.gives c.in_ok-params-in-Function.ensures.gives

-- ---- the kinds without parts

pub give_kind-returns-in-Void-clause-given : goal.give_kind-returns-in-Void-clause-given
give_kind-returns-in-Void-clause-given t c =
    flat_given c.args.«module».now c.args.ctx.now.types c.args.cctx.now c.requires.sound c.requires.context c.args.ty T.Void K.Void (c.type_kind.ensures.kind ∙ ap (λ (l : LLVMTypeKind). Some l) c.in-Void.is) (λ n e. cc) (λ of e. cc) refl refl tt tt refl refl (λ n e. cc)

pub give_kind-returns-in-Int-clause-given : goal.give_kind-returns-in-Int-clause-given
give_kind-returns-in-Int-clause-given t c =
    let w = c.in-Int.width in
    flat_given c.args.«module».now c.args.ctx.now.types c.args.cctx.now c.requires.sound c.requires.context c.args.ty (T.Int w) (K.Integer w) (c.type_kind.ensures.kind ∙ ap (λ (l : LLVMTypeKind). Some l) c.in-Int.is) (λ n e. cc) (λ of e. cc) refl refl tt tt refl refl (λ n e. cc)

pub give_kind-returns-in-Ptr-clause-given : goal.give_kind-returns-in-Ptr-clause-given
give_kind-returns-in-Ptr-clause-given t c =
    let s = c.in-Ptr.space in
    flat_given c.args.«module».now c.args.ctx.now.types c.args.cctx.now c.requires.sound c.requires.context c.args.ty (T.Ptr s) (K.Pointer s) (c.type_kind.ensures.kind ∙ ap (λ (l : LLVMTypeKind). Some l) c.in-Ptr.is) (λ n e. cc) (λ of e. cc) refl refl tt tt refl refl (λ n e. cc)

pub give_kind-returns-in-Floating-clause-given : goal.give_kind-returns-in-Floating-clause-given
give_kind-returns-in-Floating-clause-given t c =
    let of = c.in-Floating.of in
    flat_given c.args.«module».now c.args.ctx.now.types c.args.cctx.now c.requires.sound c.requires.context c.args.ty (T.Floating of) (K.Floating of) (c.type_kind.ensures.kind ∙ ap (λ (l : LLVMTypeKind). Some l) c.in-Floating.is) (λ n e. cc) (λ a e. cc) refl refl tt tt refl refl (λ n e. cc)

pub give_kind-returns-in-Other-clause-cause : goal.give_kind-returns-in-Other-clause-cause
give_kind-returns-in-Other-clause-cause t c = (c.args.ty, Itself, c.type_kind.ensures.kind ∙ ap (λ (l : LLVMTypeKind). Some l) c.in-Other.is)

-- ---- a type that has none yet

pub give_new-give_struct-requires-text-name : goal.give_new-give_struct-requires-text-name
give_new-give_struct-requires-text-name t c κs = c.as_str.utf8

pub give_new-give_struct-requires : goal.give_new-give_struct-requires
give_new-give_struct-requires t c =
    let m = c.args.«module».now in
    let name = c.in-Named.name in
    let at = c.type_kind.ensures.kind ∙ ap (λ (l : LLVMTypeKind). Some l) c.in-Named.is in
    let nested : fields_nest_at m name c.args.left ≡ true = kind_nests m c.requires.sound c.args.ty (T.Named name) c.args.left at c.requires.nested in
    let same = sym c.as_str.ensures in (
      omega arith,
      (
        subst (IsNamed m c.args.ty) same at,
        (subst (λ (n : List ℕ). fields_nest_at m n c.args.left ≡ true) same nested, (c.requires.few, (c.requires.sound, (c.requires.ready, c.requires.context)))),
      ),
    )

pub give_new-give_kind-requires : goal.give_new-give_kind-requires
give_new-give_kind-requires t c =
    let unnamed = λ (n : List ℕ) (named : IsNamed c.args.«module».now c.args.ty n). c.in_default.not-Named n (same_Some c.type_kind.result.now (T.Named n) (sym c.type_kind.ensures.kind ∙ named)) in
    (omega arith, (c.requires.within, (unnamed, (c.requires.nested, (c.requires.few, (c.requires.sound, (c.requires.ready, c.requires.context)))))))

pub give_new-get-requires-clause-nesting : goal.give_new-get-requires-clause-nesting
give_new-get-requires-clause-nesting t c =
    let m = c.args.«module».now in
    let kind = c.in_ok-kind.ensures.given in
    let tree = L.type_at (trees_of m).types c.args.ty in
    let shallow = renamed_shallow (called c.give_kind.new.cctx.names) tree (nests_enough m c.args.ty (c.args.left + 1) (omega (arith, c.requires.few)) c.requires.nested) in
    subst IsShallow (sym (ap (λ (ks : List TypeKind). type_tree (type_trees ks) c.in_ok-kind.kind) c.types_mut.ensures.value ∙ kind.is)) shallow

pub give_new-returns-clause-given : goal.give_new-returns-clause-given
give_new-returns-clause-given t c =
    let m = c.args.«module».now in
    let got = c.in_ok-get.ensures in
    let unnamed = λ (n : List ℕ) (named : IsNamed m c.args.ty n). c.in_default.not-Named n (same_Some c.type_kind.result.now (T.Named n) (sym c.type_kind.ensures.kind ∙ named)) in
    kind_stands m c.give_kind.new.ctx.types c.get.new.self c.give_kind.new.cctx c.args.ty c.in_ok-kind.kind c.in_ok-get.field-0 c.in_ok-kind.ensures.given
    (slice_get_within c.get.new.self c.in_ok-get.field-0.0 c.in_ok-kind.kind got.interned.here) (got.tree ∙ ap (λ (ks : List TypeKind). type_tree (type_trees ks) c.in_ok-kind.kind) c.types_mut.ensures.value) unnamed

pub give_new-returns-clause-gives : goal.give_new-returns-clause-gives
give_new-returns-clause-gives t c =
    let m = c.args.«module».now in
    let W = λ (v : LLVMType). IsWithin m v c.args.ty in
    let b = c.give_kind.new.ctx in
    let y = c.give_kind.new.cctx in
    let done = c.in_ok-kind.ensures in
    let got = c.in_ok-get.ensures in
    let same = c.types_mut.ensures.value in
    gives_then m W c.args.ctx.now b _ c.args.cctx.now y y done.gives
    (gives_type m W b _ y (adds_interned b _ c.types_mut.result.now c.in_ok-kind.kind c.in_ok-get.field-0.0 refl same got.interned got.kept) (added_none m W y.names (structs_of b.types) (structs_of c.get.new.self) (got.structs ∙ ap structs_of same)) done.gives.context)

-- ---- the fields of a struct

pub give_body-give_all-requires : goal.give_body-give_all-requires
give_body-give_all-requires t c =
    let m = c.args.«module».now in
    let b = c.in-Some.body.now in
    let nested = body_nests m c.args.s b c.in-Some.ensures.body c.args.left c.requires.nested in (
      omega arith,
      (
        subst (All (λ (u : LLVMType). u.0 < length m.types)) (sym c.as_slice.ensures) c.in-Some.ensures.within.within,
        (subst (λ (us : List LLVMType). all_nest_at m us c.args.left ≡ true) (sym c.as_slice.ensures) nested, (c.requires.few, (c.requires.sound, (c.requires.ready, c.requires.context)))),
      ),
    )

pub give_body-returns-in_err-types-in-Some-clause-gives :
    goal.give_body-returns-in_err-types-in-Some-clause-gives
give_body-returns-in_err-types-in-Some-clause-gives t c =
    let m = c.args.«module».now in
    let b = c.in-Some.body.now in
    let x = body_at m c.args.s b c.in-Some.ensures.body in
    gives_as m (IsAmong m c.as_slice.result.now) (IsInStruct m c.args.s) c.args.ctx.now c.give_all.new.ctx c.args.cctx.now c.give_all.new.cctx
    (λ v among. (x.0, b, x.1, x.2, subst (λ (us : List LLVMType). IsAmong m us v) c.as_slice.ensures among)) c.in_err-types-in-Some.ensures.gives

pub give_body-returns-in_err-types-in-Some-clause-cause :
    goal.give_body-returns-in_err-types-in-Some-clause-cause
give_body-returns-in_err-types-in-Some-clause-cause t c =
    let m = c.args.«module».now in
    let b = c.in-Some.body.now in
    let x = body_at m c.args.s b c.in-Some.ensures.body in
    let e = c.in_err-types-in-Some.field-0.0 in
    passed_on c.from_residual.result e _ c.from_residual.ensures.1
    (cause_as m (IsAmong m c.as_slice.result.now) (IsInStruct m c.args.s) (structs_of c.args.ctx.now.types) c.give_all.new.cctx.names e
    (λ v among. (x.0, b, x.1, x.2, subst (λ (us : List LLVMType). IsAmong m us v) c.as_slice.ensures among)) c.in_err-types-in-Some.ensures.cause)

pub give_body-returns-in_ok-types-in-Some-clause-given :
    goal.give_body-returns-in_ok-types-in-Some-clause-given
give_body-returns-in_ok-types-in-Some-clause-given t c =
    let m = c.args.«module».now in
    let done = c.in_ok-types-in-Some.ensures in
    let hs = c.in_ok-types-in-Some.types.items in
    body_given m c.give_all.new.ctx.types c.give_all.new.cctx c.args.s c.in-Some.body.now hs c.from_vec.result c.requires.sound done.gives.context c.in-Some.ensures.body c.in-Some.ensures.within
    (subst (λ (us : List LLVMType). AreGiven c.give_all.new.cctx us hs) c.as_slice.ensures done.given) c.from_vec.ensures

pub give_body-returns-in_ok-types-in-Some-clause-gives :
    goal.give_body-returns-in_ok-types-in-Some-clause-gives
give_body-returns-in_ok-types-in-Some-clause-gives t c =
    let m = c.args.«module».now in
    let b = c.in-Some.body.now in
    let x = body_at m c.args.s b c.in-Some.ensures.body in
    gives_as m (IsAmong m c.as_slice.result.now) (IsInStruct m c.args.s) c.args.ctx.now c.give_all.new.ctx c.args.cctx.now c.give_all.new.cctx
    (λ v among. (x.0, b, x.1, x.2, subst (λ (us : List LLVMType). IsAmong m us v) c.as_slice.ensures among)) c.in_ok-types-in-Some.ensures.gives

-- ---- a struct

pub give_struct-returns-in_err-identifier-clause-gives :
    goal.give_struct-returns-in_err-identifier-clause-gives
give_struct-returns-in_err-identifier-clause-gives t c =
    let m = c.args.«module».now in
    let W = λ (v : LLVMType). IsWithin m v c.args.ty in
    let x = c.args.cctx.now in
    subst (λ (ns : List Named). Gives m W c.args.ctx.now x c.args.ctx.now (record x { names = ns })) (sym c.in_err-identifier.ensures.err) (gives_none m W c.args.ctx.now x c.requires.1.1.1.1.1.1.1)

pub give_struct-give_body-requires : goal.give_struct-give_body-requires
give_struct-give_body-requires t c =
    let m = c.args.«module».now in
    let name = c.args.name.now in
    let W = λ (v : LLVMType). IsWithin m v c.args.ty in
    let s = c.first-s.result in
    let is = named_struct m c.args.cctx.now.table name c.args.left s c.requires.1.1.1.1.1.1.0.table c.requires.1.1.1.0 c.first-s.ensures in
    let row = struct_here m name s is in
    let named = c.in_ok-identifier.ensures in
    let step = names_given m W c.args.ctx.now c.args.cctx.now _ c.args.ty name c.in_ok-identifier.identifier c.requires.1.1.1.1.1.1.1 named.given named.grows named.legalised Itself c.requires.1.1.0 refl refl in (
      omega arith,
      (
        slice_get_within m.structs s.0 row.0 row.1,
        (fields_nest m name s is c.args.left c.requires.1.1.1.0, (omega (arith, c.requires.1.1.1.1.0), (c.requires.1.1.1.1.1.0, (record { count = c.requires.1.1.1.1.1.1.0.count; table = c.requires.1.1.1.1.1.1.0.table }, step.context)))),
      ),
    )

-- the name and then the fields
pub give_struct-returns-in_err-body-clause-gives :
    goal.give_struct-returns-in_err-body-clause-gives
give_struct-returns-in_err-body-clause-gives t c =
    let m = c.args.«module».now in
    let name = c.args.name.now in
    let W = λ (v : LLVMType). IsWithin m v c.args.ty in
    let s = c.first-s.result in
    let a = c.args.ctx.now in
    let is = named_struct m c.args.cctx.now.table name c.args.left s c.requires.1.1.1.1.1.1.0.table c.requires.1.1.1.0 c.first-s.ensures in
    let named = c.in_ok-identifier.ensures in
    let step = names_given m W a c.args.cctx.now _ c.args.ty name c.in_ok-identifier.identifier c.requires.1.1.1.1.1.1.1 named.given named.grows named.legalised Itself c.requires.1.1.0 refl refl in
    gives_both m W (IsInStruct m s) W a a c.give_body.new.ctx c.args.cctx.now _ c.give_body.new.cctx (λ v h. h) (in_struct m c.requires.1.1.1.1.1.0 c.args.ty name c.requires.1.1.0 s is) step c.in_err-body.ensures.gives

pub give_struct-returns-in_err-body-clause-cause :
    goal.give_struct-returns-in_err-body-clause-cause
give_struct-returns-in_err-body-clause-cause t c =
    let m = c.args.«module».now in
    let name = c.args.name.now in
    let s = c.first-s.result in
    let e = c.in_err-body.field-0.0 in
    let is = named_struct m c.args.cctx.now.table name c.args.left s c.requires.1.1.1.1.1.1.0.table c.requires.1.1.1.0 c.first-s.ensures in
    passed_on c.from_residual-in_err-body.result e _ c.from_residual-in_err-body.ensures.1
    (cause_as m (IsInStruct m s) (λ v. IsWithin m v c.args.ty) (structs_of c.args.ctx.now.types) c.give_body.new.cctx.names e (in_struct m c.requires.1.1.1.1.1.0 c.args.ty name c.requires.1.1.0 s is) c.in_err-body.ensures.cause)

-- where it is refused nothing is new but what was given for the fields
pub give_struct-returns-in_err-get_named-clause-gives :
    goal.give_struct-returns-in_err-get_named-clause-gives
give_struct-returns-in_err-get_named-clause-gives t c =
    let m = c.args.«module».now in
    let name = c.args.name.now in
    let W = λ (v : LLVMType). IsWithin m v c.args.ty in
    let s = c.first-s.result in
    let a = c.args.ctx.now in
    let b = c.give_body.new.ctx in
    let y = c.give_body.new.cctx in
    let is = named_struct m c.args.cctx.now.table name c.args.left s c.requires.1.1.1.1.1.1.0.table c.requires.1.1.1.0 c.first-s.ensures in
    let named = c.in_ok-identifier.ensures in
    let step = names_given m W a c.args.cctx.now _ c.args.ty name c.in_ok-identifier.identifier c.requires.1.1.1.1.1.1.1 named.given named.grows named.legalised Itself c.requires.1.1.0 refl refl in
    let both = gives_both m W (IsInStruct m s) W a a b c.args.cctx.now _ y (λ v h. h) (in_struct m c.requires.1.1.1.1.1.0 c.args.ty name c.requires.1.1.0 s is) step c.in_ok-body.ensures.gives in
    subst (λ (ks : List TypeKind). Gives m W a c.args.cctx.now (record b { types = ks }) y) (sym (c.in_err-get_named.ensures.err ∙ c.types_mut.ensures.value)) both

pub give_struct-returns-in_err-get_named-clause-cause :
    goal.give_struct-returns-in_err-get_named-clause-cause
give_struct-returns-in_err-get_named-clause-cause t c =
    let m = c.args.«module».now in
    let name = c.args.name.now in
    let W = λ (v : LLVMType). IsWithin m v c.args.ty in
    let s = c.first-s.result in
    let a = c.args.ctx.now in
    let b = c.give_body.new.ctx in
    let y = c.give_body.new.cctx in
    let e = c.in_err-get_named.field-0.0 in
    let done = c.in_ok-body.ensures in
    let is = named_struct m c.args.cctx.now.table name c.args.left s c.requires.1.1.1.1.1.1.0.table c.requires.1.1.1.0 c.first-s.ensures in
    let gave = gave_kept _ y.names name c.in_ok-identifier.identifier done.gives.names c.in_ok-identifier.ensures.given.here in
    let made = is_converted m c.requires.1.1.1.1.1.0 c.args.ty name c.requires.1.1.0 s is b.types y done.gives.context.legal c.in_ok-identifier.identifier gave c.in_ok-body.body done.given in
    let other = λ (i : List ℕ) (same : e ≡ S.DifferentBody i). other_struct m W (structs_of b.types) y.names name c.args.ty c.in_ok-identifier.identifier i (to_make m c.requires.1.1.1.1.1.0 c.args.ty name c.requires.1.1.0 s is b.types y done.gives.context.legal c.in_ok-identifier.identifier gave c.in_ok-body.body done.given)
    Itself c.requires.1.1.0 made (c.in_err-get_named.ensures.other i same).0 refl (subst (λ (ks : List TypeKind). HasOtherBody (structs_of ks) (record { name = c.in_ok-identifier.identifier; body = option_map (fields_of (type_trees ks)) c.in_ok-body.body })) c.types_mut.ensures.value (c.in_err-get_named.ensures.other i same).1) in
    let cause = struct_cause m W (structs_of a.types) y.names e (λ i same. other_before m (IsInStruct m s) W y.names y.names (structs_of a.types) (structs_of b.types) i done.gives.context.legal (goes_none y.names) done.gives.structs (other i same)) in
    passed_on c.from_residual-in_err-get_named.result (of_struct e) _ c.from_residual-in_err-get_named.ensures.1 cause

-- and where it is made
pub give_struct-returns-clause-given : goal.give_struct-returns-clause-given
give_struct-returns-clause-given t c =
    let m = c.args.«module».now in
    let name = c.args.name.now in
    let s = c.first-s.result in
    let b = c.give_body.new.ctx in
    let y = c.give_body.new.cctx in
    let i = c.in_ok-identifier.identifier in
    let done = c.in_ok-body.ensures in
    let got = c.in_ok-get_named.ensures in
    let is = named_struct m c.args.cctx.now.table name c.args.left s c.requires.1.1.1.1.1.1.0.table c.requires.1.1.1.0 c.first-s.ensures in
    let gave = gave_kept _ y.names name i done.gives.names c.in_ok-identifier.ensures.given.here in
    let put = subst (λ (ks : List TypeKind). IsStructPut (structs_of ks) (structs_of c.get_named.new.self) (record { name = i; body = option_map (fields_of (type_trees ks)) c.in_ok-body.body })) c.types_mut.ensures.value got.structs in
    struct_given m c.requires.1.1.1.1.1.0 c.args.ty name c.requires.1.1.0 s is b.types y done.gives.context.legal i gave c.in_ok-body.body done.given c.get_named.new.self put c.in_ok-get_named.field-0
    (slice_get_within c.get_named.new.self c.in_ok-get_named.field-0.0 (K.Named i c.in_ok-body.body) got.interned.here) got.tree

pub give_struct-returns-clause-gives : goal.give_struct-returns-clause-gives
give_struct-returns-clause-gives t c =
    let m = c.args.«module».now in
    let name = c.args.name.now in
    let W = λ (v : LLVMType). IsWithin m v c.args.ty in
    let s = c.first-s.result in
    let a = c.args.ctx.now in
    let b = c.give_body.new.ctx in
    let y = c.give_body.new.cctx in
    let i = c.in_ok-identifier.identifier in
    let done = c.in_ok-body.ensures in
    let got = c.in_ok-get_named.ensures in
    let same = c.types_mut.ensures.value in
    let is = named_struct m c.args.cctx.now.table name c.args.left s c.requires.1.1.1.1.1.1.0.table c.requires.1.1.1.0 c.first-s.ensures in
    let named = c.in_ok-identifier.ensures in
    let gave = gave_kept _ y.names name i done.gives.names named.given.here in
    let put = subst (λ (ks : List TypeKind). IsStructPut (structs_of ks) (structs_of c.get_named.new.self) (record { name = i; body = option_map (fields_of (type_trees ks)) c.in_ok-body.body })) same got.structs in
    let step = names_given m W a c.args.cctx.now _ c.args.ty name i c.requires.1.1.1.1.1.1.1 named.given named.grows named.legalised Itself c.requires.1.1.0 refl refl in
    let both = gives_both m W (IsInStruct m s) W a a b c.args.cctx.now _ y (λ v h. h) (in_struct m c.requires.1.1.1.1.1.0 c.args.ty name c.requires.1.1.0 s is) step done.gives in
    let added = struct_added m c.requires.1.1.1.1.1.0 c.args.ty name c.requires.1.1.0 s is b.types y done.gives.context.legal i gave c.in_ok-body.body done.given c.get_named.new.self put W Itself in
    gives_then m W a b _ c.args.cctx.now y y both (gives_type m W b _ y (adds_interned b _ c.types_mut.result.now (K.Named i c.in_ok-body.body) c.in_ok-get_named.field-0.0 refl same got.interned got.kept) added done.gives.context)
