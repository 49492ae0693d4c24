-- The types in a constant that keeps the rules of constants, and is of a type of values, are types of values.
use Rattle.std.proofs.Common.{◌≡◌, ◌<◌, ℕ, suc, Bool, true, false, not, List, [], ◌∷◌, Option, Some, None, All, length, slice_get, refl, sym, ap, subst, ◌∙◌, if◌then◌else◌, arith}
use Rattle.std.specs.List.{find, filter_map, cons_option}
use Rattle.std.specs.Option.{option_map, option_or}
use Rattle.std.specs.Str.{bytes_eq}
use Rattle.std.proofs.lemmas.Bool.{and_parts}
use Rattle.std.proofs.lemmas.Option.{none-some, same_Some, slice_get_within, get_or_from_slice_get}
use Rattle.std.proofs.lemmas.List.Elements.{All-nil, All-cons, All-head, All-tail}
use Rattle.kinds.specs.declared.types.VectorTypeKind.TheVariants as V
use Rattle.kinds.specs.Types.{shape, types_list}
use Rattle.kinds.specs.Fitting.{is_field, is_first_class, is_token}
use Rattle.kinds.specs.Structs.{struct_in}
use Rattle.kinds.specs.Held.{IsFirstClass}
use Rattle.kinds.proofs.HeldLaws.{parts_first_class}
use Rattle.kinds.proofs.TypeLaws.{tree_told}
use Rattle.dialect_types.specs.declared.types.TypeHandle.{TypeHandle}
use Rattle.dialect_types.specs.declared.types.TypeKind.{TypeKind}
use Rattle.dialect_types.specs.declared.types.TypeKind.TheVariants as K
use Rattle.dialect_types.specs.Trees.{TypeTree, VoidType, IntType, PointerType, FloatingType, RefusedType, ArrayType, VectorType, StructType, NamedType, FunctionType, TypeTrees, NoTypes, ThenType, NamedStruct, StructBody, AllBelow, HasFitParts, IsStored, fields_of, struct_of, structs_of, type_at, types_at, type_trees}
use Rattle.dialect_types.proofs.StoredLaws.{stored_first_class}
use Rattle.const_attrs.specs.declared.attr_err.AttrErr.{AttrErr}
use Rattle.const_attrs.specs.declared.const_attr.ConstAttr.{ConstAttr}
use Rattle.const_attrs.specs.Trees.{Attr, Attrs, AttrTree, AttrTrees, IntegerAttr, FilledAttr, BytesAttr, AggregateAttr, SplatAttr, NoAttrs, ThenAttr, EachType, EachTypes, attr_data, attr_tree, attr_trees, type_of}
use Rattle.const_attrs.specs.Verified.{Elements, OfOne, OneOfEach, all_have, broken, broken_in, each_has, elements_of, fields_in, has_type, have_types, lane_of, are_as_many, misfit, splat_misfit, unless}
use Rattle.dialect_core.specs.declared.numbers.OpRef.{OpRef}
use Rattle.dialect_core.specs.declared.ops.OpKind.TheVariants as O
use Rattle.dialect_core.specs.ContextData.{ContextData, kind_at}
use Rattle.dialect_core.specs.Data.{ConstantOp, DialectOp, type_in}
use Rattle.dialect_core.specs.Rules.{IsOfKind}
use Rattle.dialect_core.specs.WellFormed.{KeepsRules}
use Rattle.tracing.specs.DialectBodies.{HasTypesOfValues, InContext, IsOpIn}
use Rattle.tracing.proofs.DialectLaws.{kind_kept}
use Rattle.tracing.proofs.DialectTypes.{element_first_class, item_first_class}

-- ---- what a rule that is kept says

both_none : {X : Type 0} (a b : Option X) → option_or a b ≡ None → (a ≡ None) × (b ≡ None)
both_none None b h = (refl, h)
both_none (Some x) b h = absurd (none-some x (sym h))

kept : (b : Bool) (e : AttrErr) → unless b e ≡ None → b ≡ true
kept true e h = refl
kept false e h = absurd (none-some e (sym h))

-- ---- the fields of structs with names

found : {X : Type 0} (P : X → Type 0) (test : X → Bool) (xs : List X) (x : X) → find test xs ≡ Some x → All P xs → P x
found P test [] x h all = absurd (none-some x h)
found {X} P test (y ∷ xs) x h all = by (test y) h (λ k. found P test xs x k (All-tail P y xs all))
  where
    by : (b : Bool) → (if b then Some y else find test xs) ≡ Some x → (find test xs ≡ Some x → P x) → P x
    by true k rest = subst P (same_Some y x k) (All-head P y xs all)
    by false k rest = rest k

all_made : {X Y : Type 0} (P : Y → Type 0) (f : X → Option Y) (xs : List X) → ((i : ℕ) (x : X) (y : Y) → slice_get xs i ≡ Some x → f x ≡ Some y → P y) → All P (filter_map f xs)
all_made P f [] h = All-nil P
all_made {X} {Y} P f (x ∷ xs) h = by (f x) refl (all_made P f xs (λ i. h (suc i)))
  where
    by : (o : Option Y) → f x ≡ o → All P (filter_map f xs) → All P (cons_option o (filter_map f xs))
    by None e rest = rest
    by (Some y) e rest = All-cons P y (filter_map f xs) (h 0 x y refl e) rest

-- the elements of a type are of types of values
abbrev AreFirstClass : Elements → Type 0
AreFirstClass (OfOne count t) = IsFirstClass t
AreFirstClass (OneOfEach ts) = All IsFirstClass (types_list ts)

-- so are the fields of a struct, where it has any
abbrev HasFirstClassFields : NamedStruct → Type 0
HasFirstClassFields s = (b : StructBody) → s.body ≡ Some b → All IsFirstClass (types_list b.fields)

module _ (ks : List TypeKind) (ok : IsStored ks) where
  abbrev trees : List TypeTree
  trees = type_trees ks

  listed : (n : ℕ) → n < length ks → (ts : List TypeHandle) → AllBelow n ts → All (λ (t : TypeHandle). is_field (shape (type_at trees t)) ≡ true) ts → All IsFirstClass (types_list (types_at trees ts))
  listed n lt [] below fit = All-nil IsFirstClass
  listed n lt (t ∷ ts) below fit =
      let F : TypeHandle → Type 0 = λ t. is_field (shape (type_at trees t)) ≡ true in
      let field = All-head F t ts fit in
      let first = stored_first_class ks ok t (omega (arith, lt, below.0)) (and_parts (is_first_class (shape (type_at trees t))) (not (is_token (shape (type_at trees t)))) field).0 in
      All-cons IsFirstClass (type_at trees t) (types_list (types_at trees ts)) first (listed n lt ts below.1 (All-tail F t ts fit))

  -- a line for each kind
  struct_fields : (i : ℕ) (k : TypeKind) (s : NamedStruct) → slice_get ks i ≡ Some k → struct_of trees k ≡ Some s → HasFirstClassFields s
  struct_fields i (K.Named name None) s at is b body = let e = ap (λ (s : NamedStruct). s.body) (same_Some _ s is) in absurd (none-some b (e ∙ body))
  struct_fields i (K.Named name (Some fields)) s at is b body =
      let e = ap (λ (s : NamedStruct). s.body) (same_Some _ s is) in
      let same : fields_of trees fields ≡ b = same_Some (fields_of trees fields) b (e ∙ body) in
      let lt = slice_get_within ks i (K.Named name (Some fields)) at in
      let fit = subst (HasFitParts trees) (get_or_from_slice_get ks i (K.Named name (Some fields)) K.Void at) (ok.fit i K.Void lt) in
      subst (λ (b : StructBody). All IsFirstClass (types_list b.fields)) same (listed i lt fields.types (ok.grounded i (K.Named name (Some fields)) at) fit)
  struct_fields i (K.Integer w) s at is b body = cc
  struct_fields i (K.Pointer space) s at is b body = cc
  struct_fields i (K.Floating f) s at is b body = cc
  struct_fields i (K.Array t count) s at is b body = cc
  struct_fields i (K.Vector t count kind) s at is b body = cc
  struct_fields i (K.Struct fields layout) s at is b body = cc
  struct_fields i (K.Func result params variadic) s at is b body = cc
  struct_fields i K.Void s at is b body = cc

  named_fields : (s : Option NamedStruct) (es : Elements) → ((x : NamedStruct) → s ≡ Some x → HasFirstClassFields x) → fields_in s ≡ Some es → AreFirstClass es
  named_fields None es h is = absurd (none-some es is)
  named_fields (Some x) es h is = by x.body refl is
    where
      by : (o : Option StructBody) → x.body ≡ o → option_map (λ (b : StructBody). OneOfEach b.fields) o ≡ Some es → AreFirstClass es
      by None body e = absurd (none-some es e)
      by (Some b) body e = subst AreFirstClass (same_Some (OneOfEach b.fields) es e) (h x refl b body)

  -- the elements of a type of values: a line for each kind
  elements_first : (t : TypeTree) (es : Elements) → IsFirstClass t → elements_of (structs_of ks) t ≡ Some es → AreFirstClass es
  elements_first (ArrayType count t) es h is = subst AreFirstClass (same_Some (OfOne count t) es is) (element_first_class count t h)
  elements_first (VectorType V.Fixed count t) es h is = subst AreFirstClass (same_Some (OfOne count t) es is) (item_first_class V.Fixed count t h)
  elements_first (VectorType V.Scalable count t) es h is = absurd (none-some es is)
  elements_first (StructType layout ts) es h is = subst AreFirstClass (same_Some (OneOfEach ts) es is) (parts_first_class (StructType layout ts) h)
  elements_first (NamedType name) es h is =
      named_fields (struct_in (structs_of ks) name) es (λ x at. found HasFirstClassFields (λ (s : NamedStruct). bytes_eq s.name name) (structs_of ks) x at (all_made HasFirstClassFields (struct_of trees) ks struct_fields)) is
  elements_first VoidType es h is = absurd (none-some es is)
  elements_first (IntType w) es h is = absurd (none-some es is)
  elements_first (PointerType space) es h is = absurd (none-some es is)
  elements_first (FloatingType of) es h is = absurd (none-some es is)
  elements_first (RefusedType of) es h is = absurd (none-some es is)
  elements_first (FunctionType result params variadic) es h is = absurd (none-some es is)

  lane_first : (t u : TypeTree) → IsFirstClass t → lane_of t ≡ Some u → IsFirstClass u
  lane_first (VectorType kind count t) u h is = subst IsFirstClass (same_Some t u is) (item_first_class kind count t h)
  lane_first (ArrayType count t) u h is = absurd (none-some u is)
  lane_first (StructType layout ts) u h is = absurd (none-some u is)
  lane_first (NamedType name) u h is = absurd (none-some u is)
  lane_first VoidType u h is = absurd (none-some u is)
  lane_first (IntType w) u h is = absurd (none-some u is)
  lane_first (PointerType space) u h is = absurd (none-some u is)
  lane_first (FloatingType of) u h is = absurd (none-some u is)
  lane_first (RefusedType of) u h is = absurd (none-some u is)
  lane_first (FunctionType result params variadic) u h is = absurd (none-some u is)

  -- ---- the elements of a constant

  -- constants of types of values
  abbrev AreOfValues : AttrTrees → Type 0
  AreOfValues NoAttrs = Unit {0}
  AreOfValues (ThenAttr c cs) = IsFirstClass (type_of c) × AreOfValues cs

  typed : (c : AttrTree) (t : TypeTree) → has_type c t ≡ true → IsFirstClass t → IsFirstClass (type_of c)
  typed c t is h = subst IsFirstClass (sym (tree_told (type_of c) t is)) h

  of_one : (cs : AttrTrees) (t : TypeTree) → all_have cs t ≡ true → IsFirstClass t → AreOfValues cs
  of_one NoAttrs t all h = tt
  of_one (ThenAttr c cs) t all h = let both = and_parts (has_type c t) (all_have cs t) all in (typed c t both.0 h, of_one cs t both.1 h)

  of_each : (cs : AttrTrees) (ts : TypeTrees) → each_has cs ts ≡ true → All IsFirstClass (types_list ts) → AreOfValues cs
  of_each NoAttrs ts all h = tt
  of_each (ThenAttr c cs) NoTypes all h = cc
  of_each (ThenAttr c cs) (ThenType t ts) all h =
      let both = and_parts (has_type c t) (each_has cs ts) all in
      (typed c t both.0 (All-head IsFirstClass t (types_list ts) h), of_each cs ts both.1 (All-tail IsFirstClass t (types_list ts) h))

  of_elements : (cs : AttrTrees) (es : Elements) → have_types cs es ≡ true → AreFirstClass es → AreOfValues cs
  of_elements cs (OfOne count t) all h = of_one cs t all h
  of_elements cs (OneOfEach ts) all h = of_each cs ts all h

  of_aggregate : (cs : AttrTrees) (t : TypeTree) → IsFirstClass t → misfit cs (elements_of (structs_of ks) t) ≡ None → AreOfValues cs
  of_aggregate cs t h fit = by (elements_of (structs_of ks) t) refl fit
    where
      by : (o : Option Elements) → elements_of (structs_of ks) t ≡ o → misfit cs o ≡ None → AreOfValues cs
      by None is e = absurd (none-some _ (sym e))
      by (Some es) is e = of_elements cs es (kept (have_types cs es) _ (both_none (unless (are_as_many cs es) _) _ e).1) (elements_first t es h is)

  of_splat : (c : AttrTree) (t : TypeTree) → IsFirstClass t → splat_misfit c (lane_of t) ≡ None → IsFirstClass (type_of c)
  of_splat c t h fit = by (lane_of t) refl fit
    where
      by : (o : Option TypeTree) → lane_of t ≡ o → splat_misfit c o ≡ None → IsFirstClass (type_of c)
      by None is e = absurd (none-some _ (sym e))
      by (Some u) is e = typed c u (kept (has_type c u) _ e) (lane_first t u h is)

  -- ---- all types of a constant

  abbrev OfValues : TypeHandle → Type 0
  OfValues t = IsFirstClass (type_at trees t)

  mutual
    pub types_of_values : (d : Attr TypeHandle) → IsFirstClass (type_of (attr_tree trees d)) → broken (structs_of ks) (attr_tree trees d) ≡ None → EachType OfValues d
    types_of_values (IntegerAttr t value) h keeps = h
    types_of_values (FilledAttr fill t) h keeps = h
    types_of_values (BytesAttr bytes) h keeps = tt
    types_of_values (AggregateAttr ds t) h keeps =
        let both = both_none (misfit (attr_trees trees ds) (elements_of (structs_of ks) (type_at trees t))) (broken_in (structs_of ks) (attr_trees trees ds)) keeps in
        (all_types_of_values ds (of_aggregate (attr_trees trees ds) (type_at trees t) h both.0) both.1, h)
    types_of_values (SplatAttr d t) h keeps =
        let both = both_none (splat_misfit (attr_tree trees d) (lane_of (type_at trees t))) (broken (structs_of ks) (attr_tree trees d)) keeps in
        (types_of_values d (of_splat (attr_tree trees d) (type_at trees t) h both.0) both.1, h)

    all_types_of_values : (ds : Attrs TypeHandle) → AreOfValues (attr_trees trees ds) → broken_in (structs_of ks) (attr_trees trees ds) ≡ None → EachTypes OfValues ds
    all_types_of_values NoAttrs h keep = tt
    all_types_of_values (ThenAttr d ds) h keep =
        let both = both_none (broken (structs_of ks) (attr_tree trees d)) (broken_in (structs_of ks) (attr_trees trees ds)) keep in
        (types_of_values d h.0 both.0, all_types_of_values ds h.1 both.1)

-- the constant of an operation of a well-formed function
pub constant_of_values : (c : ContextData) (h : InContext c) (r : OpRef) (o : DialectOp) (value : ConstAttr) → IsStored c.types → IsOpIn c h r o → kind_at c.ops r ≡ Some (O.Constant value) → HasTypesOfValues c (attr_data value)
constant_of_values c h r o value stored at is =
    let a = attr_tree (type_trees c.types) (attr_data value) in
    let kind : o.kind ≡ ConstantOp a = sym (same_Some (ConstantOp a) o.kind (kind_kept c r o (O.Constant value) at.here is)) in
    let form = subst (IsOfKind (type_in c) h.function o.operands o.result o.successors) kind at.form in
    let keeps = subst (KeepsRules c) (same_Some at.plain.0 (O.Constant value) (sym at.plain.1 ∙ is)) at.plain.3 in
    types_of_values c.types stored (attr_data value) form.value keeps
