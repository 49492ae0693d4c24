-- What `type_conversion::give` and what it calls owe besides what the check finds.
use Rattle.std.proofs.Common.{◌≡◌, ◌<◌, ◌∙◌, List, [], ◌∷◌, Option, None, Some, ap, arith, get_or, length, map, refl, subst, sym}
use Rattle.std.specs.Option.{option_and_then, option_map}
use Rattle.std.specs.Vec.{with_item}
use Rattle.std.proofs.lemmas.List.{take_all}
use Rattle.std.proofs.lemmas.Option.{slice_get-get_or}
use Rattle.kinds.specs.Types.{TypeTree, TypeTrees, FunctionType}
use Rattle.llvm_core.specs.declared.numbers.LLVMType.{LLVMType}
use Rattle.llvm_core.specs.Module.{Module}
use Rattle.llvm_core.specs.Data as L
use Rattle.llvm_core.specs.Data.{trees_of}
use Rattle.dialect_types.specs.declared.types.TypeHandle.{TypeHandle}
use Rattle.dialect_types.specs.Trees.{HasFitParts, fields_of, type_at, type_tree, type_trees}
use Rattle.dialect_types.proofs.PrintedTypes.{reach}
use Rattle.dialect_types.proofs.TextLemmas.{reach-at}
use Rattle.to_llvm_ir.specs.Conversion.{Gives, IsWithin, Itself, given_at, numbers_in, types_in}
use Rattle.to_llvm_ir.specs.Giving.{AreGiven, IsWithinSome}
use Rattle.to_llvm_ir.specs.declared.type_conversion.TypeConversionContext.{TypeConversionContext}
use Rattle.to_llvm_ir.proofs.ConversionLaws.{gives_marked, gives_then, gives_types, gives_wider, inside_within, is_given, marked_here}
use Rattle.to_llvm_ir.proofs.GivingLaws.{all_stand, are_given, body_fit, fields_kept, given_first, given_more, given_none, gives_type, kind_fit, makes_named, makes_plain, may_part, may_then, no_name, on_error, reach_first, reach_parts, some_at, some_first, some_in, some_later}
use Rattle.to_llvm_ir.proofs.GrowthLaws.{grows_refl, grows_type}
use Rattle.to_llvm_ir.proofs.ListLaws.{by_option}
use Rattle.to_llvm_ir.proofs.StructLaws.{fields_stand}
use Rattle.to_llvm_ir.proofs.TypeLaws.{same_trees}
use Rattle.to_llvm_ir.proofs.type_conversion.+give.Goals as goal

-- ---- one type

pub give-index-requires : goal.give-index-requires
give-index-requires t c =
    let lt = c.requires.there c.args.ty Itself in
    let room = c.requires.room in
    omega (arith, lt, room)

-- what stands at the place of the number
at_place : (c : TypeConversionContext) (ty : TypeHandle) (o : Option LLVMType) → ty.0 < length c.given.items → o ≡ get_or c.given.items ty.0 o → given_at c ty ≡ o
at_place c ty o lt is = ap (option_and_then (λ (p : Option LLVMType). p)) (slice_get-get_or c.given.items ty.0 o lt) ∙ sym is

pub give-returns-in-Some-clause-given : goal.give-returns-in-Some-clause-given
give-returns-in-Some-clause-given t c =
    let lt = c.requires.there c.args.ty Itself in
    let room = c.requires.room in
    at_place c.args.tcctx.now c.args.ty c.index.result.now (omega (arith, lt, room)) c.index.ensures ∙ c.in-Some.is

pub give-returns-in-Some-clause-gives : goal.give-returns-in-Some-clause-gives
give-returns-in-Some-clause-gives t c = gives_types c.args.ctx.now.types _ c.args.back.now c.args.back.now c.args.tcctx.now c.args.tcctx.now c.requires.context (λ t. refl) (grows_refl c.args.back.now) refl refl

pub give-kind-kind-requires : goal.give-kind-kind-requires
give-kind-kind-requires t c =
    let types = c.types.ensures in
    rw types (c.requires.there c.args.ty Itself)

pub give-make-requires : goal.give-make-requires
give-make-requires t c =
    let ks = c.args.ctx.now.types in
    let types = c.types.ensures in
    let kind = c.kind-kind.result.now in
    let at = rw types at c.kind-kind.ensures.kind in (
      omega (arith, reach_parts c.args.ty.0 kind c.kind-kind.ensures.parts),
      (
        may_part ks (IsWithinSome ks (numbers_in kind)) (λ u. IsWithin ks u c.args.ty) c.args.back.now c.args.tcctx.now (λ u inside. inside_within ks c.args.ty kind u at inside) c.requires,
        (rw types at c.kind-kind.ensures.fit, λ w is. c.requires.widths c.args.ty w Itself (at ∙ ap Some is)),
      ),
    )

pub give-returns-in_err-given-clause-gives : goal.give-returns-in_err-given-clause-gives
give-returns-in_err-given-clause-gives t c =
    let ks = c.args.ctx.now.types in
    let types = c.types.ensures in
    let kind = c.kind-kind.result.now in
    let at = rw types at c.kind-kind.ensures.kind in
    gives_wider ks (IsWithinSome ks (numbers_in kind)) (λ u. IsWithin ks u c.args.ty) c.args.back.now c.make.new.back c.args.tcctx.now c.make.new.tcctx (λ u inside. inside_within ks c.args.ty kind u at inside) c.in_err-given.ensures.gives

pub give-index_mut-requires : goal.give-index_mut-requires
give-index_mut-requires t c =
    let lt = c.requires.there c.args.ty Itself in
    let room = c.in_ok-given.ensures.room in
    omega (arith, lt, room)

pub give-returns-clause-given : goal.give-returns-clause-given
give-returns-clause-given t c =
    let lt = c.requires.there c.args.ty Itself in
    let room = c.in_ok-given.ensures.room in
    let l = c.in_ok-given.given in
    let y = c.make.new.tcctx in
    let z : TypeConversionContext = record { alloc = y.alloc; given = with_item y.given c.args.ty.0 (Some l) } in
    marked_here y z c.args.ty l (omega (arith, lt, room), refl)

pub give-returns-clause-gives : goal.give-returns-clause-gives
give-returns-clause-gives t c =
    let ks = c.args.ctx.now.types in
    let types = c.types.ensures in
    let lt = c.requires.there c.args.ty Itself in
    let room = c.requires.room in
    let longer = c.in_ok-given.ensures.room in
    let l = c.in_ok-given.given in
    let x = c.args.tcctx.now in
    let y = c.make.new.tcctx in
    let z : TypeConversionContext = record { alloc = y.alloc; given = with_item y.given c.args.ty.0 (Some l) } in
    let place = at_place x c.args.ty c.index.result.now (omega (arith, lt, room)) c.index.ensures in
    let none : given_at x c.args.ty ≡ None = by_option (given_at x c.args.ty ≡ None) (given_at x c.args.ty) (λ e. e) (λ m is. absurd (c.in_default.not-Some m (sym place ∙ is))) in
    gives_marked ks c.requires.stored c.args.ty c.kind-kind.result.now (rw types at c.kind-kind.ensures.kind) l c.args.back.now c.make.new.back x y z none c.in_ok-given.ensures.makes (omega (arith, lt, longer), refl)

-- ---- the types of a list, one more for each

pub give_all-loop-ty-init : goal.give_all-loop-ty-init
give_all-loop-ty-init t c = record {
  gives = gives_types c.args.ctx.now.types _ c.args.back.now c.args.back.now c.args.tcctx.now c.args.tcctx.now c.requires.context (λ t. refl) (grows_refl c.args.back.now) refl refl;
  room = c.requires.room;
  given = ap (map Some) (sym c.new-given.ensures);
}

pub give_all-give-requires : goal.give_all-give-requires
give_all-give-requires t c =
    let ks = c.args.ctx.now.types in
    let us = c.args.types.now in
    let i = c.loop-ty.ty-index in
    let d : TypeHandle = record { 0 = 0 } in
    let lt = c.loop-ty-test.true in
    let W = IsWithinSome ks us in
    let so_far = c.loop-ty.invariant in (
      omega (arith, reach-at us i d lt),
      may_part ks (λ u. IsWithin ks u (get_or us i d)) W c.loop-ty.back c.loop-ty.tcctx (λ u h. some_at ks us i d u lt h) (may_then ks W W c.args.back.now c.loop-ty.back c.args.tcctx.now c.loop-ty.tcctx c.requires so_far.gives so_far.room),
    )

pub give_all-returns-in_err-one-clause-gives : goal.give_all-returns-in_err-one-clause-gives
give_all-returns-in_err-one-clause-gives t c =
    let ks = c.args.ctx.now.types in
    let us = c.args.types.now in
    let i = c.loop-ty.ty-index in
    let d : TypeHandle = record { 0 = 0 } in
    let W = IsWithinSome ks us in
    gives_then ks c.requires.stored.once W (λ u. IsWithin ks u (get_or us i d)) W (λ u h. h) (λ u h. some_at ks us i d u c.loop-ty-test.true h) c.args.back.now c.loop-ty.back c.give.new.back c.args.tcctx.now c.loop-ty.tcctx c.give.new.tcctx
    c.loop-ty.invariant.gives c.in_err-one.ensures.gives

pub give_all-returns-in_err-push-clause-gives : goal.give_all-returns-in_err-push-clause-gives
give_all-returns-in_err-push-clause-gives t c =
    let ks = c.args.ctx.now.types in
    let us = c.args.types.now in
    let i = c.loop-ty.ty-index in
    let d : TypeHandle = record { 0 = 0 } in
    let W = IsWithinSome ks us in
    gives_then ks c.requires.stored.once W (λ u. IsWithin ks u (get_or us i d)) W (λ u h. h) (λ u h. some_at ks us i d u c.loop-ty-test.true h) c.args.back.now c.loop-ty.back c.give.new.back c.args.tcctx.now c.loop-ty.tcctx c.give.new.tcctx
    c.loop-ty.invariant.gives c.in_ok-one.ensures.gives

pub give_all-loop-ty-preserved : goal.give_all-loop-ty-preserved
give_all-loop-ty-preserved t c =
    let ks = c.args.ctx.now.types in
    let us = c.args.types.now in
    let i = c.loop-ty.ty-index in
    let d : TypeHandle = record { 0 = 0 } in
    let lt = c.loop-ty-test.true in
    let W = IsWithinSome ks us in
    let one = c.in_ok-one.ensures in
    record {
      gives = gives_then ks c.requires.stored.once W (λ u. IsWithin ks u (get_or us i d)) W (λ u h. h) (λ u h. some_at ks us i d u lt h) c.args.back.now c.loop-ty.back c.give.new.back c.args.tcctx.now c.loop-ty.tcctx c.give.new.tcctx c.loop-ty.invariant.gives one.gives;
      room = one.room;
      given = given_more c.loop-ty.tcctx c.give.new.tcctx one.gives.kept us i d c.loop-ty.given c.push.new.self c.in_ok-one.one lt c.loop-ty.invariant.given one.given c.in_ok-push.ensures.ok;
    }

pub give_all-returns-clause-given : goal.give_all-returns-clause-given
give_all-returns-clause-given t c = subst (λ (us : List TypeHandle). map (given_at c.loop-ty.tcctx) us ≡ map Some c.loop-ty.given) (take_all c.loop-ty.ty-index c.args.types.now c.loop-ty-test.false) c.loop-ty.invariant.given

pub give_all-returns-clause-gives : goal.give_all-returns-clause-gives
give_all-returns-clause-gives t c = c.loop-ty.invariant.gives

pub give_all-returns-clause-room : goal.give_all-returns-clause-room
give_all-returns-clause-room t c = c.loop-ty.invariant.room

-- ---- the fields of a struct

pub give_body-give_all-requires : goal.give_body-give_all-requires
give_body-give_all-requires t c =
    let ks = c.args.ctx.now.types in
    let us = c.as_slice.result.now in
    let vs = types_in c.args.body.now in
    let same : us ≡ vs = c.as_slice.ensures ∙ sym (ap types_in c.in-Some.is) in
    let far = ap reach same in (omega (arith, far), may_part ks (IsWithinSome ks us) (IsWithinSome ks vs) c.args.back.now c.args.tcctx.now (some_in ks us vs same) c.requires)

pub give_body-returns-in_ok-types-in-Some-clause-over : goal.give_body-returns-in_ok-types-in-Some-clause-over
give_body-returns-in_ok-types-in-Some-clause-over t c =
    let done = c.in_ok-types-in-Some.ensures in
    (all_stand c.args.ctx.now.types c.give_all.new.back c.give_all.new.tcctx done.gives.context c.as_slice.result.now c.in_ok-types-in-Some.types done.given).0

pub give_body-returns-in_ok-types-in-Some-clause-fields : goal.give_body-returns-in_ok-types-in-Some-clause-fields
give_body-returns-in_ok-types-in-Some-clause-fields t c =
    let ts = type_trees c.args.ctx.now.types in
    let trees = (trees_of c.give_all.new.back).types in
    let done = c.in_ok-types-in-Some.ensures in
    let are = all_stand c.args.ctx.now.types c.give_all.new.back c.give_all.new.tcctx done.gives.context c.as_slice.result.now c.in_ok-types-in-Some.types done.given in
    ap Some (fields_stand trees ts c.in_ok-types-in-Some.types c.in-Some.fields (are.1 ∙ ap (map (type_at ts)) c.as_slice.ensures)) ∙ ap (option_map (fields_of ts)) (sym c.in-Some.is)

pub give_body-returns-in_ok-types-in-Some-clause-parts : goal.give_body-returns-in_ok-types-in-Some-clause-parts
give_body-returns-in_ok-types-in-Some-clause-parts t c =
    let same : c.as_slice.result.now ≡ types_in c.args.body.now = c.as_slice.ensures ∙ sym (ap types_in c.in-Some.is) in
    subst (AreGiven c.give_all.new.tcctx) same (are_given c.give_all.new.tcctx c.as_slice.result.now c.in_ok-types-in-Some.types c.in_ok-types-in-Some.ensures.given)

pub give_body-returns-in-None-clause-gives : goal.give_body-returns-in-None-clause-gives
give_body-returns-in-None-clause-gives t c = gives_types c.args.ctx.now.types _ c.args.back.now c.args.back.now c.args.tcctx.now c.args.tcctx.now c.requires.context (λ t. refl) (grows_refl c.args.back.now) refl refl

-- ---- kinds with one part

pub give_kind-give-requires : goal.give_kind-give-requires
give_kind-give-requires t c =
    let ks = c.args.ctx.now.types in
    let vs = numbers_in c.args.kind.now in
    let same : c.in-Array.element ∷ [] ≡ vs = sym (ap numbers_in c.in-Array.is) in
    let far = (reach_first c.in-Array.element [] vs same).0 in (omega (arith, far), may_part ks (λ u. IsWithin ks u c.in-Array.element) (IsWithinSome ks vs) c.args.back.now c.args.tcctx.now (some_first ks c.in-Array.element [] vs same) c.requires.may)

pub give_kind-returns-in_err-element-in-Array-clause-gives : goal.give_kind-returns-in_err-element-in-Array-clause-gives
give_kind-returns-in_err-element-in-Array-clause-gives t c =
    let ks = c.args.ctx.now.types in
    let vs = numbers_in c.args.kind.now in
    gives_wider ks (λ u. IsWithin ks u c.in-Array.element) (IsWithinSome ks vs) c.args.back.now c.give.new.back c.args.tcctx.now c.give.new.tcctx (some_first ks c.in-Array.element [] vs (sym (ap numbers_in c.in-Array.is))) c.in_err-element-in-Array.ensures.gives

pub give_kind-returns-in_ok-element-in-Array : goal.give_kind-returns-in_ok-element-in-Array
give_kind-returns-in_ok-element-in-Array t c =
    let ks = c.args.ctx.now.types in
    let vs = numbers_in c.args.kind.now in
    let done = c.in_ok-element-in-Array.ensures in
    let given = done.gives.context c.in-Array.element c.in_ok-element-in-Array.element done.given in
    let same : c.in-Array.element ∷ [] ≡ vs = sym (ap numbers_in c.in-Array.is) in
    record {
      over = given.within;
      tree = ap (L.ArrayType c.in-Array.count) given.is ∙ ap (type_tree (type_trees ks)) (sym c.in-Array.is);
      parts = subst (AreGiven c.give.new.tcctx) same (given_first c.give.new.tcctx c.in-Array.element [] (is_given c.give.new.tcctx c.in-Array.element c.in_ok-element-in-Array.element done.given) (given_none c.give.new.tcctx));
      gives = gives_wider ks (λ u. IsWithin ks u c.in-Array.element) (IsWithinSome ks vs) c.args.back.now c.give.new.back c.args.tcctx.now c.give.new.tcctx (some_first ks c.in-Array.element [] vs same) done.gives;
      room = done.room;
    }

pub give_kind-give-requires-in-Vector : goal.give_kind-give-requires-in-Vector
give_kind-give-requires-in-Vector t c =
    let ks = c.args.ctx.now.types in
    let vs = numbers_in c.args.kind.now in
    let same : c.in-Vector.element ∷ [] ≡ vs = sym (ap numbers_in c.in-Vector.is) in
    let far = (reach_first c.in-Vector.element [] vs same).0 in (omega (arith, far), may_part ks (λ u. IsWithin ks u c.in-Vector.element) (IsWithinSome ks vs) c.args.back.now c.args.tcctx.now (some_first ks c.in-Vector.element [] vs same) c.requires.may)

pub give_kind-returns-in_err-element-in-Vector-clause-gives : goal.give_kind-returns-in_err-element-in-Vector-clause-gives
give_kind-returns-in_err-element-in-Vector-clause-gives t c =
    let ks = c.args.ctx.now.types in
    let vs = numbers_in c.args.kind.now in
    gives_wider ks (λ u. IsWithin ks u c.in-Vector.element) (IsWithinSome ks vs) c.args.back.now c.give-in-Vector.new.back c.args.tcctx.now c.give-in-Vector.new.tcctx (some_first ks c.in-Vector.element [] vs (sym (ap numbers_in c.in-Vector.is))) c.in_err-element-in-Vector.ensures.gives

pub give_kind-returns-in_ok-element-in-Vector : goal.give_kind-returns-in_ok-element-in-Vector
give_kind-returns-in_ok-element-in-Vector t c =
    let ks = c.args.ctx.now.types in
    let vs = numbers_in c.args.kind.now in
    let done = c.in_ok-element-in-Vector.ensures in
    let given = done.gives.context c.in-Vector.element c.in_ok-element-in-Vector.element done.given in
    let same : c.in-Vector.element ∷ [] ≡ vs = sym (ap numbers_in c.in-Vector.is) in
    let y = c.give-in-Vector.new.tcctx in
    record {
      over = given.within;
      tree = ap (L.VectorType c.in-Vector.kind c.in-Vector.count) given.is ∙ ap (type_tree (type_trees ks)) (sym c.in-Vector.is);
      parts = subst (AreGiven y) same (given_first y c.in-Vector.element [] (is_given y c.in-Vector.element c.in_ok-element-in-Vector.element done.given) (given_none y));
      gives = gives_wider ks (λ u. IsWithin ks u c.in-Vector.element) (IsWithinSome ks vs) c.args.back.now c.give-in-Vector.new.back c.args.tcctx.now y (some_first ks c.in-Vector.element [] vs same) done.gives;
      room = done.room;
    }

-- ---- a struct without a name

pub give_kind-give_all-requires : goal.give_kind-give_all-requires
give_kind-give_all-requires t c =
    let ks = c.args.ctx.now.types in
    let us = c.as_slice.result.now in
    let vs = numbers_in c.args.kind.now in
    let same : us ≡ vs = c.as_slice.ensures ∙ sym (ap numbers_in c.in-Struct.is) in
    let far = ap reach same in (omega (arith, far), may_part ks (IsWithinSome ks us) (IsWithinSome ks vs) c.args.back.now c.args.tcctx.now (some_in ks us vs same) c.requires.may)

pub give_kind-returns-in_ok-fields-in-Struct-clause-over : goal.give_kind-returns-in_ok-fields-in-Struct-clause-over
give_kind-returns-in_ok-fields-in-Struct-clause-over t c =
    let done = c.in_ok-fields-in-Struct.ensures in
    (all_stand c.args.ctx.now.types c.give_all.new.back c.give_all.new.tcctx done.gives.context c.as_slice.result.now c.in_ok-fields-in-Struct.fields done.given).0

pub give_kind-returns-in_ok-fields-in-Struct-clause-tree : goal.give_kind-returns-in_ok-fields-in-Struct-clause-tree
give_kind-returns-in_ok-fields-in-Struct-clause-tree t c =
    let ts = type_trees c.args.ctx.now.types in
    let trees = (trees_of c.give_all.new.back).types in
    let done = c.in_ok-fields-in-Struct.ensures in
    let are = all_stand c.args.ctx.now.types c.give_all.new.back c.give_all.new.tcctx done.gives.context c.as_slice.result.now c.in_ok-fields-in-Struct.fields done.given in
    ap (L.StructType c.in-Struct.layout) (same_trees trees ts c.in_ok-fields-in-Struct.fields c.in-Struct.fields (are.1 ∙ ap (map (type_at ts)) c.as_slice.ensures)) ∙ ap (type_tree ts) (sym c.in-Struct.is)

pub give_kind-returns-in_ok-fields-in-Struct-clause-parts : goal.give_kind-returns-in_ok-fields-in-Struct-clause-parts
give_kind-returns-in_ok-fields-in-Struct-clause-parts t c =
    let same : c.as_slice.result.now ≡ numbers_in c.args.kind.now = c.as_slice.ensures ∙ sym (ap numbers_in c.in-Struct.is) in
    subst (AreGiven c.give_all.new.tcctx) same (are_given c.give_all.new.tcctx c.as_slice.result.now c.in_ok-fields-in-Struct.fields c.in_ok-fields-in-Struct.ensures.given)

-- ---- a function

pub give_kind-give-requires-in-Func : goal.give_kind-give-requires-in-Func
give_kind-give-requires-in-Func t c =
    let ks = c.args.ctx.now.types in
    let vs = numbers_in c.args.kind.now in
    let same : c.in-Func.result ∷ c.in-Func.params ≡ vs = sym (ap numbers_in c.in-Func.is) in
    let far = (reach_first c.in-Func.result c.in-Func.params vs same).0 in (
      omega (arith, far),
      may_part ks (λ u. IsWithin ks u c.in-Func.result) (IsWithinSome ks vs) c.args.back.now c.args.tcctx.now (some_first ks c.in-Func.result c.in-Func.params vs same) c.requires.may,
    )

pub give_kind-returns-in_err-result-in-Func-clause-gives : goal.give_kind-returns-in_err-result-in-Func-clause-gives
give_kind-returns-in_err-result-in-Func-clause-gives t c =
    let ks = c.args.ctx.now.types in
    let vs = numbers_in c.args.kind.now in
    gives_wider ks (λ u. IsWithin ks u c.in-Func.result) (IsWithinSome ks vs) c.args.back.now c.give-in-Func.new.back c.args.tcctx.now c.give-in-Func.new.tcctx (some_first ks c.in-Func.result c.in-Func.params vs (sym (ap numbers_in c.in-Func.is)))
    c.in_err-result-in-Func.ensures.gives

pub give_kind-give_all-requires-in-Func : goal.give_kind-give_all-requires-in-Func
give_kind-give_all-requires-in-Func t c =
    let ks = c.args.ctx.now.types in
    let us = c.as_slice-in-Func.result.now in
    let vs = numbers_in c.args.kind.now in
    let r = c.in-Func.result in
    let same : r ∷ us ≡ vs = ap (λ (ps : List TypeHandle). r ∷ ps) c.as_slice-in-Func.ensures ∙ sym (ap numbers_in c.in-Func.is) in
    let far = (reach_first r us vs same).1 in
    let first = c.in_ok-result-in-Func.ensures in (
      omega (arith, far),
      may_part ks (IsWithinSome ks us) (IsWithinSome ks vs) c.give-in-Func.new.back c.give-in-Func.new.tcctx (some_later ks r us vs same)
          (may_then ks (IsWithinSome ks vs) (λ u. IsWithin ks u r) c.args.back.now c.give-in-Func.new.back c.args.tcctx.now c.give-in-Func.new.tcctx c.requires.may first.gives first.room),
    )

pub give_kind-returns-in_err-params-in-Func-clause-gives : goal.give_kind-returns-in_err-params-in-Func-clause-gives
give_kind-returns-in_err-params-in-Func-clause-gives t c =
    let ks = c.args.ctx.now.types in
    let us = c.as_slice-in-Func.result.now in
    let vs = numbers_in c.args.kind.now in
    let r = c.in-Func.result in
    let same : r ∷ us ≡ vs = ap (λ (ps : List TypeHandle). r ∷ ps) c.as_slice-in-Func.ensures ∙ sym (ap numbers_in c.in-Func.is) in
    gives_then ks c.requires.may.stored.once (λ u. IsWithin ks u r) (IsWithinSome ks us) (IsWithinSome ks vs) (some_first ks r us vs same) (some_later ks r us vs same) c.args.back.now c.give-in-Func.new.back c.give_all-in-Func.new.back c.args.tcctx.now c.give-in-Func.new.tcctx
    c.give_all-in-Func.new.tcctx c.in_ok-result-in-Func.ensures.gives c.in_err-params-in-Func.ensures.gives

pub give_kind-returns-in_ok-params-in-Func : goal.give_kind-returns-in_ok-params-in-Func
give_kind-returns-in_ok-params-in-Func t c =
    let ks = c.args.ctx.now.types in
    let ts = type_trees ks in
    let us = c.as_slice-in-Func.result.now in
    let vs = numbers_in c.args.kind.now in
    let r = c.in-Func.result in
    let same : r ∷ us ≡ vs = ap (λ (ps : List TypeHandle). r ∷ ps) c.as_slice-in-Func.ensures ∙ sym (ap numbers_in c.in-Func.is) in
    let one = c.in_ok-result-in-Func.ensures in
    let two = c.in_ok-params-in-Func.ensures in
    let m = c.give_all-in-Func.new.back in
    let y = c.give_all-in-Func.new.tcctx in
    let l = c.in_ok-result-in-Func.result in
    let given = two.gives.kept r l one.given in
    let own = two.gives.context r l given in
    let are = all_stand ks m y two.gives.context us c.in_ok-params-in-Func.params two.given in
    let params = same_trees (trees_of m).types ts c.in_ok-params-in-Func.params c.in-Func.params (are.1 ∙ ap (map (type_at ts)) c.as_slice-in-Func.ensures) in
    record {
      over = (own.within, are.0);
      tree = ap (λ (x : TypeTree). FunctionType x (L.types_at (trees_of m).types c.in_ok-params-in-Func.params) c.in-Func.variadic) own.is ∙ ap (λ (xs : TypeTrees). FunctionType (type_at ts r) xs c.in-Func.variadic) params ∙ ap (type_tree ts) (sym c.in-Func.is);
      parts = subst (AreGiven y) same (given_first y r us (is_given y r l given) (are_given y us c.in_ok-params-in-Func.params two.given));
      gives = gives_then ks c.requires.may.stored.once (λ u. IsWithin ks u r) (IsWithinSome ks us) (IsWithinSome ks vs) (some_first ks r us vs same) (some_later ks r us vs same) c.args.back.now c.give-in-Func.new.back m c.args.tcctx.now c.give-in-Func.new.tcctx y one.gives two.gives;
      room = two.room;
    }

-- ---- kinds without parts

pub give_kind-returns-in-Void-clause-gives : goal.give_kind-returns-in-Void-clause-gives
give_kind-returns-in-Void-clause-gives t c = gives_types c.args.ctx.now.types _ c.args.back.now c.args.back.now c.args.tcctx.now c.args.tcctx.now c.requires.may.context (λ t. refl) (grows_refl c.args.back.now) refl refl

pub give_kind-returns-in-Integer-clause-gives : goal.give_kind-returns-in-Integer-clause-gives
give_kind-returns-in-Integer-clause-gives t c = gives_types c.args.ctx.now.types _ c.args.back.now c.args.back.now c.args.tcctx.now c.args.tcctx.now c.requires.may.context (λ t. refl) (grows_refl c.args.back.now) refl refl

pub give_kind-returns-in-Pointer-clause-gives : goal.give_kind-returns-in-Pointer-clause-gives
give_kind-returns-in-Pointer-clause-gives t c = gives_types c.args.ctx.now.types _ c.args.back.now c.args.back.now c.args.tcctx.now c.args.tcctx.now c.requires.may.context (λ t. refl) (grows_refl c.args.back.now) refl refl

pub give_kind-returns-in-Floating-clause-gives : goal.give_kind-returns-in-Floating-clause-gives
give_kind-returns-in-Floating-clause-gives t c = gives_types c.args.ctx.now.types _ c.args.back.now c.args.back.now c.args.tcctx.now c.args.tcctx.now c.requires.may.context (λ t. refl) (grows_refl c.args.back.now) refl refl

-- ---- a struct with a name

pub give_struct-give_body-requires : goal.give_struct-give_body-requires
give_struct-give_body-requires t c = (omega arith, c.requires.may)

pub give_struct-add_struct-requires : goal.give_struct-add_struct-requires
give_struct-add_struct-requires t c =
    let ts = type_trees c.args.ctx.now.types in
    let body = c.in_ok-body.ensures in
    let typed = c.in_ok-given.ensures in
    let kept = fields_kept c.give_body.new.back c.type_get.new.self (grows_type c.give_body.new.back c.type_get.new.self _ _ typed.interned typed.rest) c.in_ok-body.body body.over in
    body_fit c.type_get.new.self typed.sound ts c.in_ok-body.body c.args.body.now kept.0 (kept.1 ∙ body.fields) c.requires.fit

pub give_struct-returns-in_err-add_struct-clause-gives : goal.give_struct-returns-in_err-add_struct-clause-gives
give_struct-returns-in_err-add_struct-clause-gives t c =
    let ks = c.args.ctx.now.types in
    let W = IsWithinSome ks (types_in c.args.body.now) in
    let typed = c.in_ok-given.ensures in
    let grows = grows_type c.give_body.new.back c.type_get.new.self _ _ typed.interned typed.rest in
    on_error c.from_residual-in_err-add_struct.result _
    (subst (λ (m : Module). Gives ks W c.args.back.now c.args.tcctx.now m c.give_body.new.tcctx) (sym c.in_err-add_struct.ensures.err)
    (gives_type ks c.requires.may.stored W c.args.back.now c.give_body.new.back c.type_get.new.self c.args.tcctx.now c.give_body.new.tcctx c.in_ok-body.ensures.gives grows typed.rest typed.data))

pub give_struct-returns-clause-makes : goal.give_struct-returns-clause-makes
give_struct-returns-clause-makes t c =
    let body = c.in_ok-body.ensures in
    let typed = c.in_ok-given.ensures in
    let added = c.in_ok-add_struct.ensures in
    makes_named c.args.ctx.now.types c.requires.may.stored c.args.name.now c.in_ok-text.text c.as_str-2.result.now c.args.body.now c.in_ok-body.body c.in_ok-given.given c.args.back.now c.give_body.new.back c.type_get.new.self c.add_struct.new.self c.args.tcctx.now
    c.give_body.new.tcctx (c.in_ok-text.ensures ∙ c.as_str.ensures.text) c.as_str-2.ensures.text body.gives body.parts body.over body.fields typed.sound typed.interned typed.rest typed.data added.ok added.data

-- ---- the type of a kind

pub make-give_struct-requires : goal.make-give_struct-requires
make-give_struct-requires t c =
    let ks = c.args.ctx.now.types in
    let us = types_in c.in-Named.body in
    let vs = numbers_in c.args.kind.now in
    let same : us ≡ vs = sym (ap numbers_in c.in-Named.is) in
    let far = ap reach same in (
      omega (arith, far),
      (may_part ks (IsWithinSome ks us) (IsWithinSome ks vs) c.args.back.now c.args.tcctx.now (some_in ks us vs same) c.requires.may, subst (HasFitParts (type_trees ks)) c.in-Named.is c.requires.fit),
    )

pub make-give_kind-requires : goal.make-give_kind-requires
make-give_kind-requires t c = (omega arith, (c.requires.may, (c.requires.width, no_name c.args.kind.now c.in_default.not-Named)))

pub make-type_get-requires : goal.make-type_get-requires
make-type_get-requires t c =
    let kind = c.in_ok-kind-in_default.ensures in
    record {
      parts = kind.over;
      fit = kind_fit c.give_kind.new.back c.types.ensures.sound (type_trees c.args.ctx.now.types) c.in_ok-kind-in_default.kind c.args.kind.now kind.over kind.tree c.requires.fit;
    }

pub make-returns-in_ok-given-in_default : goal.make-returns-in_ok-given-in_default
make-returns-in_ok-given-in_default t c =
    let kind = c.in_ok-kind-in_default.ensures in
    let typed = c.in_ok-given-in_default.ensures in
    record {
      makes = makes_plain c.args.ctx.now.types c.requires.may.stored c.args.kind.now c.in_ok-kind-in_default.kind c.in_ok-given-in_default.given c.args.back.now c.give_kind.new.back c.type_get.new.self c.args.tcctx.now c.give_kind.new.tcctx (no_name c.args.kind.now c.in_default.not-Named)
          kind.gives kind.parts kind.over kind.tree typed.sound typed.interned typed.rest typed.data;
      gives = tt;
      room = kind.room;
    }
