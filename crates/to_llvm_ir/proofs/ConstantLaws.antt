-- Constants that attributes become, by number: the types of elements, what is asked of these, and what is made of them.
use Rattle.std.proofs.Common.{◌≡◌, ◌<◌, ℕ, zero, suc, Bool, true, false, if◌then◌else◌, List, [], ◌∷◌, Option, Some, None, All, length, length-append, map, slice_get, nat_eq, unwrap_or, refl, sym, ap, subst, ◌∙◌, arith}
use Rattle.std.specs.Prelude.{IfSome}
use Rattle.std.specs.List.{find}
use Rattle.std.specs.Option.{option_map}
use Rattle.std.specs.Str.{bytes_eq}
use Rattle.std.proofs.lemmas.Bool.{and_parts, eqb-true}
use Rattle.std.proofs.lemmas.List.Elements.{All-head, All-tail, All-nil, All-cons, All-weaker}
use Rattle.std.proofs.lemmas.Option.{none-some, same_Some, slice_get_within}
use Rattle.support.specs.Interned.{Interned}
use Rattle.support.proofs.ListLaws.{item_there}
use Rattle.kinds.specs.declared.fill.Fill.{Fill}
use Rattle.kinds.specs.declared.types.VectorTypeKind.TheVariants as V
use Rattle.kinds.specs.Held.{width_in}
use Rattle.kinds.specs.Structs.{struct_in}
use Rattle.kinds.specs.Types.{count_types}
use Rattle.kinds.proofs.TypeLaws.{tree_told}
use Rattle.llvm_core.specs.declared.numbers.LLVMConst.{LLVMConst}
use Rattle.llvm_core.specs.declared.numbers.LLVMType.{LLVMType}
use Rattle.llvm_core.specs.declared.types.LLVMTypeKind.{LLVMTypeKind}
use Rattle.llvm_core.specs.declared.types.LLVMTypeKind.TheVariants as T
use Rattle.llvm_core.specs.declared.consts.LLVMConstKind.{LLVMConstKind}
use Rattle.llvm_core.specs.declared.consts.LLVMConstKind.TheVariants as C
use Rattle.llvm_core.specs.declared.code.LLVMValue.TheVariants as W
use Rattle.llvm_core.specs.declared.structs.StructData.{StructData}
use Rattle.llvm_core.specs.declared.structs.StructFields.{StructFields}
use Rattle.llvm_core.specs.Consts.{AreElements, HasConstParts, IsElement, struct_named}
use Rattle.llvm_core.specs.Holding.{IsSplatOf}
use Rattle.llvm_core.specs.Module.{Module}
use Rattle.llvm_core.specs.Parts.{const_type}
use Rattle.llvm_core.specs.Sound.{AreFieldsIn, IsModule, IsStructIn}
use Rattle.llvm_core.specs.Data as L
use Rattle.llvm_core.specs.Data.{IntConst, PlaceholderConst, const_at, consts_at, const_tree, filled_const, formed, listed, structs_of, trees_of}
use Rattle.llvm_core.specs.Elements.{is_placeholder, splat_const}
use Rattle.llvm_core.proofs.ApartLemmas.{apart}
use Rattle.llvm_core.proofs.DataLemmas.{const_type_of, type_tree_of}
use Rattle.llvm_core.proofs.ElementLemmas.{holder_at}
use Rattle.llvm_core.proofs.WithinLemmas.{const_type_within}
use Rattle.dialect_types.specs.declared.types.TypeHandle.{TypeHandle}
use Rattle.dialect_types.specs.Trees.{NamedStruct, TypeTree, VoidType, IntType, ArrayType, VectorType, type_at}
use Rattle.const_attrs.specs.declared.attr_err.AttrErr.TheVariants as E
use Rattle.const_attrs.specs.declared.const_attr.ConstAttr.{ConstAttr}
use Rattle.const_attrs.specs.Trees.{Attr, AttrTrees, IntegerAttr, FilledAttr, BytesAttr, AggregateAttr, SplatAttr, attr_data, attrs_data, attr_tree, attr_trees, type_of}
use Rattle.const_attrs.specs.Verified.{OfOne, OneOfEach, elements_of, fields_in, lane_of, count_attrs, has_type, all_have, each_has, unless, misfit, splat_misfit, broken, broken_in}
use Rattle.dialect_core.specs.Form.{IsShortAttr, AreShortAttrs}
use Rattle.to_llvm_ir.specs.Constants.{ArePartsOf, IsVectorOf, IsSource, AreSources, IsConstOf, AreConstsOf, IsKindOf}
use Rattle.to_llvm_ir.specs.Growth.{Grows, IsTypeOf}
use Rattle.to_llvm_ir.specs.Made.{const_of, consts_of}
use Rattle.to_llvm_ir.proofs.AttrLaws.{good_const, has_lanes, kept_int, or_none, unless_none}
use Rattle.to_llvm_ir.proofs.GrowthLaws.{int_at, operand_kept}
use Rattle.to_llvm_ir.proofs.PlacedLaws.{matched_back}

-- ---- kinds by the trees of types

-- the kind of a type that is there has its tree
pub kind_there : (m : Module) (t : LLVMType) (tree : TypeTree) → IsModule m → IsTypeOf m t tree → (k : LLVMTypeKind) × (slice_get m.types t.0 ≡ Some k) × (L.type_tree (trees_of m).types k ≡ tree)
kind_there m t tree s h = let k = item_there m.types t.0 h.0 in (k.0, k.1, sym (type_tree_of m t k.0 s k.1) ∙ h.1)

-- that of an array
pub record IsArray (us : List TypeTree) (k : LLVMTypeKind) (n : ℕ) (tree : TypeTree) : Type 0 where
  pub element : LLVMType
  pub is : k ≡ T.Array n element
  pub typed : L.type_at us element ≡ tree

array_kind : (us : List TypeTree) (k : LLVMTypeKind) (n : ℕ) (tree : TypeTree) → L.type_tree us k ≡ ArrayType n tree → IsArray us k n tree
array_kind us (T.Array count e) n tree h = let same : count ≡ n = cc in record { element = e; is = ap (λ (i : ℕ). T.Array i e) same; typed = cc }
array_kind us T.Void n tree h = absurd cc
array_kind us (T.Int width) n tree h = absurd cc
array_kind us (T.Ptr space) n tree h = absurd cc
array_kind us (T.Floating of) n tree h = absurd cc
array_kind us (T.Other of) n tree h = absurd cc
array_kind us (T.Vector kind count e) n tree h = absurd cc
array_kind us (T.Literal fields layout) n tree h = absurd cc
array_kind us (T.Named name) n tree h = absurd cc
array_kind us (T.Function result params variadic) n tree h = absurd cc

-- that of a vector of a known length
pub record IsVector (us : List TypeTree) (k : LLVMTypeKind) (n : ℕ) (tree : TypeTree) : Type 0 where
  pub element : LLVMType
  pub is : k ≡ T.Vector V.Fixed n element
  pub typed : L.type_at us element ≡ tree

vector_kind : (us : List TypeTree) (k : LLVMTypeKind) (n : ℕ) (tree : TypeTree) → L.type_tree us k ≡ VectorType V.Fixed n tree → IsVector us k n tree
vector_kind us (T.Vector V.Fixed count e) n tree h = let same : count ≡ n = cc in record { element = e; is = ap (λ (i : ℕ). T.Vector V.Fixed i e) same; typed = cc }
vector_kind us (T.Vector V.Scalable count e) n tree h = absurd cc
vector_kind us T.Void n tree h = absurd cc
vector_kind us (T.Int width) n tree h = absurd cc
vector_kind us (T.Ptr space) n tree h = absurd cc
vector_kind us (T.Floating of) n tree h = absurd cc
vector_kind us (T.Other of) n tree h = absurd cc
vector_kind us (T.Array count e) n tree h = absurd cc
vector_kind us (T.Literal fields layout) n tree h = absurd cc
vector_kind us (T.Named name) n tree h = absurd cc
vector_kind us (T.Function result params variadic) n tree h = absurd cc

-- ---- structs by name

-- the struct that is found by trees is found by numbers
looked_up : (ts : List TypeTree) (name : List ℕ) (xs : List StructData) → struct_in (map (L.struct_of ts) xs) name ≡ option_map (L.struct_of ts) (struct_named xs name)
looked_up ts name [] = refl
looked_up ts name (x ∷ xs) = by (bytes_eq x.name name) (looked_up ts name xs)
  where
    by : (b : Bool) → struct_in (map (L.struct_of ts) xs) name ≡ option_map (L.struct_of ts) (struct_named xs name)
        → (if b then Some (L.struct_of ts x) else struct_in (map (L.struct_of ts) xs) name) ≡ option_map (L.struct_of ts) (if b then Some x else struct_named xs name)
    by true e = refl
    by false e = e

found_has : {X : Type 0} (P : X → Type 0) (p : X → Bool) (xs : List X) (x : X) → All P xs → find p xs ≡ Some x → P x
found_has P p [] x all e = absurd (none-some x e)
found_has P p (y ∷ ys) x all e = by (p y) (found_has P p ys x (All-tail P y ys all)) e
  where
    by : (b : Bool) → (find p ys ≡ Some x → P x) → (if b then Some y else find p ys) ≡ Some x → P x
    by true later e = subst P (same_Some y x e) (All-head P y ys all)
    by false later e = later e

-- ---- what is asked of elements

module _ (ts : List TypeTree) (m : Module) (s : IsModule m) where
  abbrev tree : LLVMType → TypeTree
  tree t = L.type_at (trees_of m).types t

  abbrev trees : List ConstAttr → AttrTrees
  trees cs = attr_trees ts (attrs_data cs)

  one_source : (a : ConstAttr) (u : LLVMType) → u.0 < length m.types → has_type (attr_tree ts (attr_data a)) (tree u) ≡ true → broken (structs_of m) (attr_tree ts (attr_data a)) ≡ None → IsShortAttr (attr_tree ts (attr_data a)) → IsSource ts m (attr_data a) u
  one_source a u there typed keeps short = record { typed = (there, sym (tree_told (type_of (attr_tree ts (attr_data a))) (tree u) typed)); keeps = keeps; short = short }

  count_is : (cs : List ConstAttr) → count_attrs (trees cs) ≡ length cs
  count_is [] = refl
  count_is (c ∷ cs) = let rest = count_is cs in omega (arith, rest)

  -- so many of one type
  abbrev each_of : LLVMType → List ConstAttr → List LLVMType
  each_of u cs = map (λ (c : ConstAttr). u) cs

  each_count : (u : LLVMType) (cs : List ConstAttr) → length cs ≡ length (each_of u cs)
  each_count u [] = refl
  each_count u (c ∷ cs) = ap suc (each_count u cs)

  each_same : (u : LLVMType) (cs : List ConstAttr) → All (λ (v : LLVMType). v ≡ u) (each_of u cs)
  each_same u [] = All-nil (λ (v : LLVMType). v ≡ u)
  each_same u (c ∷ cs) = All-cons (λ (v : LLVMType). v ≡ u) u (each_of u cs) refl (each_same u cs)

  one_sources : (u : LLVMType) (cs : List ConstAttr) → u.0 < length m.types → all_have (trees cs) (tree u) ≡ true → broken_in (structs_of m) (trees cs) ≡ None → AreShortAttrs (trees cs)
      → (i : ℕ) (a : ConstAttr) (v : LLVMType) → slice_get cs i ≡ Some a → slice_get (each_of u cs) i ≡ Some v → IsSource ts m (attr_data a) v
  one_sources u [] there typed keeps short i a v at here = absurd (none-some a at)
  one_sources u (c ∷ cs) there typed keeps short zero a v at here =
      let t = and_parts (has_type (attr_tree ts (attr_data c)) (tree u)) (all_have (trees cs) (tree u)) typed in
      let k = or_none (broken (structs_of m) (attr_tree ts (attr_data c))) (broken_in (structs_of m) (trees cs)) keeps in
      subst (λ (w : LLVMType). IsSource ts m (attr_data a) w) (same_Some u v here) (subst (λ (b : ConstAttr). IsSource ts m (attr_data b) u) (same_Some c a at) (one_source c u there t.0 k.0 short.0))
  one_sources u (c ∷ cs) there typed keeps short (suc i) a v at here =
      let t = and_parts (has_type (attr_tree ts (attr_data c)) (tree u)) (all_have (trees cs) (tree u)) typed in
      let k = or_none (broken (structs_of m) (attr_tree ts (attr_data c))) (broken_in (structs_of m) (trees cs)) keeps in
      one_sources u cs there t.1 k.1 short.1 i a v at here

  -- one of each type
  field_sources : (us : List LLVMType) (cs : List ConstAttr) → All (λ (u : LLVMType). u.0 < length m.types) us → each_has (trees cs) (L.types_at (trees_of m).types us) ≡ true → broken_in (structs_of m) (trees cs) ≡ None → AreShortAttrs (trees cs)
      → AreSources ts m cs us
  field_sources [] [] there typed keeps short = record { count = refl; each = λ i a v at here. absurd (none-some a at) }
  field_sources [] (c ∷ cs) there typed keeps short = absurd cc
  field_sources (u ∷ us) [] there typed keeps short = absurd cc
  field_sources (u ∷ us) (c ∷ cs) there typed keeps short =
      let t = and_parts (has_type (attr_tree ts (attr_data c)) (tree u)) (each_has (trees cs) (L.types_at (trees_of m).types us)) typed in
      let k = or_none (broken (structs_of m) (attr_tree ts (attr_data c))) (broken_in (structs_of m) (trees cs)) keeps in
      let first = one_source c u (All-head (λ (u : LLVMType). u.0 < length m.types) u us there) t.0 k.0 short.0 in
      let rest = field_sources us cs (All-tail (λ (u : LLVMType). u.0 < length m.types) u us there) t.1 k.1 short.1 in
      record { count = ap suc rest.count; each = by first rest }
    where
      by : IsSource ts m (attr_data c) u → AreSources ts m cs us → (i : ℕ) (a : ConstAttr) (v : LLVMType) → slice_get (c ∷ cs) i ≡ Some a → slice_get (u ∷ us) i ≡ Some v → IsSource ts m (attr_data a) v
      by first rest zero a v at here = subst (λ (w : LLVMType). IsSource ts m (attr_data a) w) (same_Some u v here) (subst (λ (b : ConstAttr). IsSource ts m (attr_data b) u) (same_Some c a at) first)
      by first rest (suc i) a v at here = rest.each i a v at here

  -- ---- the elements of an aggregate

  -- the types of its elements, and that each is what is asked of its own
  pub record HasSources (cs : List ConstAttr) (t : LLVMType) : Type 0 where
    pub parts : List LLVMType
    pub are : ArePartsOf m t parts
    pub sources : AreSources ts m cs parts

  module _ (cs : List ConstAttr) (t : LLVMType) (keeps : broken_in (structs_of m) (trees cs) ≡ None) (short : AreShortAttrs (trees cs)) where
    many_sources : (k : LLVMTypeKind) (n : ℕ) (u : LLVMType) → slice_get m.types t.0 ≡ Some k → u.0 < t.0 → t.0 < length m.types → ((parts : List LLVMType) → length parts ≡ n → All (λ (v : LLVMType). v ≡ u) parts → AreElements m.structs k parts)
        → misfit (trees cs) (Some (OfOne n (tree u))) ≡ None → HasSources cs t
    many_sources k n u at below within fit e =
        let parts = or_none (unless (nat_eq (count_attrs (trees cs)) n) E.ElementCount) (unless (all_have (trees cs) (tree u)) E.ElementType) e in
        let count = eqb-true (count_attrs (trees cs)) n (unless_none (nat_eq (count_attrs (trees cs)) n) E.ElementCount parts.0) in
        let typed = unless_none (all_have (trees cs) (tree u)) E.ElementType parts.1 in
        record {
          parts = each_of u cs;
          are = (k, at, fit (each_of u cs) (sym (each_count u cs) ∙ sym (count_is cs) ∙ count) (each_same u cs));
          sources = record { count = each_count u cs; each = one_sources u cs (omega (arith, below, within)) typed keeps short };
        }

    of_fields : (k : LLVMTypeKind) (us : List LLVMType) → slice_get m.types t.0 ≡ Some k → All (λ (u : LLVMType). u.0 < length m.types) us → AreElements m.structs k us → misfit (trees cs) (Some (OneOfEach (L.types_at (trees_of m).types us))) ≡ None → HasSources cs t
    of_fields k us at there fit e =
        let fields = L.types_at (trees_of m).types us in
        let parts = or_none (unless (nat_eq (count_attrs (trees cs)) (count_types fields)) E.ElementCount) (unless (each_has (trees cs) fields) E.ElementType) e in
        record { parts = us; are = (k, at, fit); sources = field_sources us cs there (unless_none (each_has (trees cs) fields) E.ElementType parts.1) keeps short }

    of_named : (name : List ℕ) → slice_get m.types t.0 ≡ Some (T.Named name) → misfit (trees cs) (fields_in (struct_in (structs_of m) name)) ≡ None → HasSources cs t
    of_named name at e = by (struct_named m.structs name) refl (ap (λ (o : Option NamedStruct). misfit (trees cs) (fields_in o)) (sym (looked_up (trees_of m).types name m.structs)) ∙ e)
      where
        of_body : (x : StructData) → struct_named m.structs name ≡ Some x → (b : Option StructFields) → x.body ≡ b → misfit (trees cs) (fields_in (Some (record { name = x.name; body = option_map (L.fields_of (trees_of m).types) b }))) ≡ None → HasSources cs t
        of_body x found None told e = absurd (none-some E.ElementCount (sym e))
        of_body x found (Some b) told e =
            let fields = subst (λ (o : Option StructFields). IfSome o (AreFieldsIn m.types)) told (found_has (IsStructIn m.types) (λ (y : StructData). bytes_eq y.name name) m.structs x s.structs found) in
            of_fields (T.Named name) b.types at fields.within (x, b, found, told, refl) e

        by : (o : Option StructData) → struct_named m.structs name ≡ o → misfit (trees cs) (fields_in (option_map (L.struct_of (trees_of m).types) o)) ≡ None → HasSources cs t
        by None found e = absurd (none-some E.ElementCount (sym e))
        by (Some x) found e = of_body x found x.body refl e

    by_kind : (k : LLVMTypeKind) → slice_get m.types t.0 ≡ Some k → t.0 < length m.types → misfit (trees cs) (elements_of (structs_of m) (L.type_tree (trees_of m).types k)) ≡ None → HasSources cs t
    by_kind (T.Array n u) at within e = many_sources (T.Array n u) n u at (s.types t.0 (T.Array n u) at) within (λ parts count all. (count, all)) e
    by_kind (T.Vector V.Fixed n u) at within e = many_sources (T.Vector V.Fixed n u) n u at (s.types t.0 (T.Vector V.Fixed n u) at) within (λ parts count all. (count, all)) e
    by_kind (T.Vector V.Scalable n u) at within e = absurd (none-some E.ElementCount (sym e))
    by_kind (T.Literal fields layout) at within e =
        of_fields (T.Literal fields layout) fields at (All-weaker (λ (u : LLVMType). u.0 < t.0) (λ (u : LLVMType). u.0 < length m.types) (λ u lt. omega (arith, lt, within)) fields (s.types t.0 (T.Literal fields layout) at)) refl e
    by_kind (T.Named name) at within e = of_named name at e
    by_kind T.Void at within e = absurd (none-some E.ElementCount (sym e))
    by_kind (T.Int width) at within e = absurd (none-some E.ElementCount (sym e))
    by_kind (T.Ptr space) at within e = absurd (none-some E.ElementCount (sym e))
    by_kind (T.Floating of) at within e = absurd (none-some E.ElementCount (sym e))
    by_kind (T.Other of) at within e = absurd (none-some E.ElementCount (sym e))
    by_kind (T.Function result params variadic) at within e = absurd (none-some E.ElementCount (sym e))

  pub elements_sources : (cs : List ConstAttr) (u : TypeHandle) (t : LLVMType) → IsSource ts m (AggregateAttr (attrs_data cs) u) t → HasSources cs t
  elements_sources cs u t h =
      let parts = or_none (misfit (trees cs) (elements_of (structs_of m) (type_at ts u))) (broken_in (structs_of m) (trees cs)) h.keeps in
      let k = kind_there m t (type_at ts u) s h.typed in
      by_kind cs t parts.1 h.short k.0 k.1 h.typed.0 (ap (λ (τ : TypeTree). misfit (trees cs) (elements_of (structs_of m) τ)) k.2 ∙ parts.0)

  -- ---- the lanes of a splat

  pub record HasLane (c : Attr TypeHandle) (t : LLVMType) : Type 0 where
    pub lane : LLVMType
    pub vector : IsVectorOf m t lane
    pub source : IsSource ts m c lane

  pub splat_lane : (c : Attr TypeHandle) (u : TypeHandle) (t : LLVMType) → IsSource ts m (SplatAttr c u) t → HasLane c t
  splat_lane c u t h =
      let parts = or_none (splat_misfit (attr_tree ts c) (lane_of (type_at ts u))) (broken (structs_of m) (attr_tree ts c)) h.keeps in
      let l = has_lanes (attr_tree ts c) (type_at ts u) h.short.0 parts.0 in
      let k = kind_there m t (type_at ts u) s h.typed in
      let v = vector_kind (trees_of m).types k.0 l.count l.lane (k.2 ∙ l.is) in
      let at : slice_get m.types t.0 ≡ Some (T.Vector V.Fixed l.count v.element) = k.1 ∙ ap Some v.is in
      let below : v.element.0 < t.0 = s.types t.0 (T.Vector V.Fixed l.count v.element) at in
      let within = h.typed.0 in
      record {
        lane = v.element;
        vector = (l.count, at);
        source = record { typed = (omega (arith, below, within), v.typed ∙ sym (tree_told (type_of (attr_tree ts c)) l.lane l.typed)); keeps = parts.1; short = h.short.1 };
      }

  -- ---- what is made of a constant

  -- a constant that stands for an attribute may be put where its type is asked
  pub element_is : (a : Attr TypeHandle) (t : LLVMType) (c : LLVMConst) → IsSource ts m a t → IsConstOf ts m a c → IsElement m.consts t c
  element_is a t c h is =
      let k = item_there m.consts c.0 is.0 in
      let good = good_const (structs_of m) (attr_tree ts a) h.keeps h.short in
      let typed : tree (const_type k.0) ≡ tree t = sym (const_type_of m c k.0 s k.1) ∙ ap L.const_type is.1 ∙ good.typed ∙ sym h.typed.1 in
      let same = (apart m s).types (const_type k.0) t (const_type_within m k.0 (s.consts c.0 k.0 k.1)) h.typed.0 typed in
      (k.0, k.1, (same, sym (holder_at m s c k.0 k.1) ∙ ap is_placeholder is.1 ∙ good.plain))

  -- the constants of a list
  consts_are : (cs : List ConstAttr) (xs : List LLVMConst) → AreConstsOf ts m cs xs → consts_at (trees_of m).consts xs ≡ consts_of (trees cs)
  consts_are [] [] h = refl
  consts_are [] (x ∷ xs) h = absurd h
  consts_are (c ∷ cs) [] h = absurd h
  consts_are (c ∷ cs) (x ∷ xs) h = ap (λ (y : L.ConstTree). L.ThenConst y (consts_at (trees_of m).consts xs)) h.0.1 ∙ ap (L.ThenConst (const_of (attr_tree ts (attr_data c)))) (consts_are cs xs h.1)

  matched_count : (cs : List ConstAttr) (xs : List LLVMConst) → AreConstsOf ts m cs xs → length xs ≡ length cs
  matched_count [] [] h = refl
  matched_count [] (x ∷ xs) h = absurd h
  matched_count (c ∷ cs) [] h = absurd h
  matched_count (c ∷ cs) (x ∷ xs) h = ap suc (matched_count cs xs h.1)

  pub list_parts : (cs : List ConstAttr) (t : LLVMType) (xs : List LLVMConst) → HasSources cs t → AreConstsOf ts m cs xs → HasConstParts m (C.List t xs)
  list_parts cs t xs h are = record {
    kind = h.are.0;
    parts = h.parts;
    typed = h.are.1;
    fit = h.are.2;
    count = matched_count cs xs are ∙ h.sources.count;
    each = λ i x u at here.
        let a = matched_back (λ (a : ConstAttr) (c : LLVMConst). IsConstOf ts m (attr_data a) c) cs xs i x are at in
        element_is (attr_data a.0) u x (h.sources.each i a.0 u a.1 here) a.2;
  }

  pub list_form : (cs : List ConstAttr) (u : TypeHandle) (t : LLVMType) (xs : List LLVMConst) → IsTypeOf m t (type_at ts u) → AreConstsOf ts m cs xs → IsKindOf ts m (AggregateAttr (attrs_data cs) u) (C.List t xs)
  list_form cs u t xs typed are = ap (λ (τ : TypeTree). listed τ (consts_at (trees_of m).consts xs)) typed.1 ∙ ap (listed (type_at ts u)) (consts_are cs xs are)

  pub splat_parts : (c : Attr TypeHandle) (t lane : LLVMType) (x : LLVMConst) → IsVectorOf m t lane → IsSource ts m c lane → IsConstOf ts m c x → IsSplatOf m t x
  splat_parts c t lane x vector h is = (V.Fixed, vector.0, lane, vector.1, element_is c lane x h is)

  pub splat_form : (c : Attr TypeHandle) (u : TypeHandle) (t : LLVMType) (x : LLVMConst) (k : LLVMConstKind) → IsTypeOf m t (type_at ts u) → IsConstOf ts m c x
      → splat_const (L.type_at (trees_of m).types t) (const_at (trees_of m).consts x) ≡ Some (formed (const_tree (trees_of m).types (trees_of m).consts k)) → IsKindOf ts m (SplatAttr c u) k
  splat_form c u t x k typed is form =
      let none = PlaceholderConst 0 VoidType in
      sym (ap (λ (τ : TypeTree). unwrap_or (splat_const τ (const_of (attr_tree ts c))) none) (sym typed.1) ∙ ap (λ (y : L.ConstTree). unwrap_or (splat_const (tree t) y) none) (sym is.1) ∙ ap (λ (o : Option L.ConstTree). unwrap_or o none) form)

  -- ---- constants without elements

  pub int_parts : (u : TypeHandle) (n : ℕ) (t : LLVMType) → IsSource ts m (IntegerAttr u n) t → HasConstParts m (C.Int t n)
  int_parts u n t h =
      let i = h.short in
      (i.0, int_at m t i.0 s (subst (IsTypeOf m t) i.1 h.typed), kept_int i.0 n i.2.1 i.3)

  pub int_form : (u : TypeHandle) (n : ℕ) (t : LLVMType) → IsSource ts m (IntegerAttr u n) t → IsKindOf ts m (IntegerAttr u n) (C.Int t n)
  int_form u n t h = ap (λ (τ : TypeTree). IntConst (width_in τ) n) h.typed.1

  pub bytes_parts : (bytes : List ℕ) (t : LLVMType) → IsSource ts m (BytesAttr bytes) t → HasConstParts m (C.Bytes t bytes)
  bytes_parts bytes t h =
      let k = kind_there m t (ArrayType (length bytes) (IntType 8)) s h.typed in
      let a = array_kind (trees_of m).types k.0 (length bytes) (IntType 8) k.2 in
      let at : slice_get m.types t.0 ≡ Some (T.Array (length bytes) a.element) = k.1 ∙ ap Some a.is in
      let below : a.element.0 < t.0 = s.types t.0 (T.Array (length bytes) a.element) at in
      let within = h.typed.0 in
      ((a.element, at, int_at m a.element 8 s (omega (arith, below, within), a.typed)), h.short)

-- ---- where constants are added alone

pub source_kept : (ts : List TypeTree) (old new : Module) (a : Attr TypeHandle) (t : LLVMType) → new ≡ record old { consts = new.consts } → IsSource ts old a t → IsSource ts new a t
source_kept ts old new a t rest h = subst (λ (m : Module). IsSource ts m a t) (sym rest) (record { typed = h.typed; keeps = h.keeps; short = h.short })

const_named : (x y : L.ConstTree) → L.Constant x ≡ L.Constant y → x ≡ y
const_named x y e = cc

-- what the kind that was made is, is the constant that is got of it
pub const_got : (ts : List TypeTree) (m n : Module) (a : Attr TypeHandle) (k l : LLVMConstKind) (c : LLVMConst) → IsKindOf ts m a k → Interned m.consts n.consts l c.0 → const_at (trees_of n).consts c ≡ formed (const_tree (trees_of m).types (trees_of m).consts k) → IsConstOf ts n a c
const_got ts m n a k l c is interned form = (slice_get_within n.consts c.0 l interned.here, form ∙ is)

-- constants that stand for attributes stay
pub const_stays : (ts : List TypeTree) (old new : Module) (a : Attr TypeHandle) (c : LLVMConst) → IsModule old → Grows old new → IsConstOf ts old a c → IsConstOf ts new a c
const_stays ts old new a c s g h =
    let k = item_there old.consts c.0 h.0 in
    let there = g.consts in
    let count = ap length there ∙ length-append old.consts g.more_consts in
    let lt = h.0 in
    let same : L.Constant (const_at (trees_of new).consts c) ≡ L.Constant (const_at (trees_of old).consts c) = operand_kept old new (W.Const c) (const_type k.0) s g (ap (option_map const_type) k.1) in
    (omega (arith, lt, count), const_named _ _ same ∙ h.1)

pub consts_stay : (ts : List TypeTree) (old new : Module) (cs : List ConstAttr) (xs : List LLVMConst) → IsModule old → Grows old new → AreConstsOf ts old cs xs → AreConstsOf ts new cs xs
consts_stay ts old new [] [] s g h = tt
consts_stay ts old new [] (x ∷ xs) s g h = absurd h
consts_stay ts old new (c ∷ cs) [] s g h = absurd h
consts_stay ts old new (c ∷ cs) (x ∷ xs) s g h = (const_stays ts old new (attr_data c) x s g h.0, consts_stay ts old new cs xs s g h.1)

-- ---- what a walk over an attribute makes of each kind

-- the types of elements stay, and what is asked of these
parts_kept : (old new : Module) (t : LLVMType) (parts : List LLVMType) → new ≡ record old { consts = new.consts } → ArePartsOf old t parts → ArePartsOf new t parts
parts_kept old new t parts rest h = subst (λ (m : Module). ArePartsOf m t parts) (sym rest) h

vector_kept : (old new : Module) (t lane : LLVMType) → new ≡ record old { consts = new.consts } → IsVectorOf old t lane → IsVectorOf new t lane
vector_kept old new t lane rest h = subst (λ (m : Module). IsVectorOf m t lane) (sym rest) h

-- constants alone are new where they are at each of two steps
pub rest_then : (a b c : Module) → b ≡ record a { consts = b.consts } → c ≡ record b { consts = c.consts } → c ≡ record a { consts = c.consts }
rest_then a b c first second = second ∙ ap (λ (m : Module). let n : Module = record m { consts = c.consts } in n) first

module _ (ts : List TypeTree) (m : Module) (s : IsModule m) (a : Attr TypeHandle) (t : LLVMType) (source : IsSource ts m a t) where
  pub int_made : (u : TypeHandle) (n from : ℕ) → a ≡ IntegerAttr u n → from ≡ n → HasConstParts m (C.Int t from) × IsKindOf ts m a (C.Int t from)
  int_made u n from is same =
      let h = subst (λ (b : Attr TypeHandle). IsSource ts m b t) is source in
      subst (λ (i : ℕ). HasConstParts m (C.Int t i) × IsKindOf ts m a (C.Int t i)) (sym same)
      (subst (λ (b : Attr TypeHandle). HasConstParts m (C.Int t n) × IsKindOf ts m b (C.Int t n)) (sym is) (int_parts ts m s u n t h, int_form ts m s u n t h))

  pub filled_made : (fill : Fill) (u : TypeHandle) → a ≡ FilledAttr fill u → HasConstParts m (C.Filled fill t) × IsKindOf ts m a (C.Filled fill t)
  filled_made fill u is =
      let h = subst (λ (b : Attr TypeHandle). IsSource ts m b t) is source in
      subst (λ (b : Attr TypeHandle). HasConstParts m (C.Filled fill t) × IsKindOf ts m b (C.Filled fill t)) (sym is) (h.typed.0, ap (filled_const fill) h.typed.1)

  pub bytes_made : (bytes copy : List ℕ) → a ≡ BytesAttr bytes → copy ≡ bytes → HasConstParts m (C.Bytes t copy) × IsKindOf ts m a (C.Bytes t copy)
  bytes_made bytes copy is same =
      let h = subst (λ (b : Attr TypeHandle). IsSource ts m b t) is source in
      subst (λ (xs : List ℕ). HasConstParts m (C.Bytes t xs) × IsKindOf ts m a (C.Bytes t xs)) (sym same)
      (subst (λ (b : Attr TypeHandle). HasConstParts m (C.Bytes t bytes) × IsKindOf ts m b (C.Bytes t bytes)) (sym is) (bytes_parts ts m s bytes t h, refl))

  -- the elements of an aggregate, before
  pub list_ready : (cs : List ConstAttr) (u : TypeHandle) → a ≡ AggregateAttr (attrs_data cs) u → HasSources ts m s cs t
  list_ready cs u is = elements_sources ts m s cs u t (subst (λ (b : Attr TypeHandle). IsSource ts m b t) is source)

  -- and the list, once they are there
  pub list_made : (new : Module) → IsModule new → new ≡ record m { consts = new.consts } → (cs : List ConstAttr) (u : TypeHandle) (xs : List LLVMConst) → a ≡ AggregateAttr (attrs_data cs) u
      → ((parts : List LLVMType) → ArePartsOf m t parts → AreSources ts m cs parts → AreConstsOf ts new cs xs) → HasConstParts new (C.List t xs) × IsKindOf ts new a (C.List t xs)
  list_made new sound rest cs u xs is made =
      let h = list_ready cs u is in
      let are = made h.parts h.are h.sources in
      let now : HasSources ts new sound cs t = record {
        parts = h.parts;
        are = parts_kept m new t h.parts rest h.are;
        sources = record { count = h.sources.count; each = λ i b v at here. source_kept ts m new (attr_data b) v rest (h.sources.each i b v at here) };
      } in
      let typed = (source_kept ts m new (AggregateAttr (attrs_data cs) u) t rest (subst (λ (b : Attr TypeHandle). IsSource ts m b t) is source)).typed in
      (list_parts ts new sound cs t xs now are, subst (λ (b : Attr TypeHandle). IsKindOf ts new b (C.List t xs)) (sym is) (list_form ts new sound cs u t xs typed are))

  -- the lane of a splat, before
  pub lane_ready : (c : Attr TypeHandle) (u : TypeHandle) → a ≡ SplatAttr c u → HasLane ts m s c t
  lane_ready c u is = splat_lane ts m s c u t (subst (λ (b : Attr TypeHandle). IsSource ts m b t) is source)

  pub splat_ready : (c : Attr TypeHandle) (u : TypeHandle) (lane : LLVMType) → a ≡ SplatAttr c u → ((l : LLVMType) → IsVectorOf m t l → lane ≡ l) → IsVectorOf m t lane × IsSource ts m c lane
  splat_ready c u lane is same =
      let h = lane_ready c u is in
      let e = sym (same h.lane h.vector) in
      (subst (IsVectorOf m t) e h.vector, subst (IsSource ts m c) e h.source)

  -- and the vector, once it is there
  pub splat_made : (new : Module) → new ≡ record m { consts = new.consts } → (c : Attr TypeHandle) (u : TypeHandle) (x : LLVMConst) (k : LLVMConstKind) → IsModule new → a ≡ SplatAttr c u → IsConstOf ts new c x
      → splat_const (L.type_at (trees_of new).types t) (const_at (trees_of new).consts x) ≡ Some (formed (const_tree (trees_of new).types (trees_of new).consts k)) → IsKindOf ts new a k
  splat_made new rest c u x k sound is made form =
      let typed = (source_kept ts m new (SplatAttr c u) t rest (subst (λ (b : Attr TypeHandle). IsSource ts m b t) is source)).typed in
      subst (λ (b : Attr TypeHandle). IsKindOf ts new b k) (sym is) (splat_form ts new sound c u t x k typed made form)

-- a lane that is there may stand in the vector
pub splat_there : (ts : List TypeTree) (old new : Module) (c : Attr TypeHandle) (t lane : LLVMType) (x : LLVMConst) → IsModule new → new ≡ record old { consts = new.consts } → IsVectorOf old t lane → IsSource ts old c lane → IsConstOf ts new c x → IsSplatOf new t x
splat_there ts old new c t lane x sound rest vector source made = splat_parts ts new sound c t lane x (vector_kept old new t lane rest vector) (source_kept ts old new c lane rest source) made

-- ---- the elements, one after another

module _ (ts : List TypeTree) (old now : Module) (rest : now ≡ record old { consts = now.consts }) (cs : List ConstAttr) (t : LLVMType) (parts : List LLVMType) (are : ArePartsOf old t parts) (sources : AreSources ts old cs parts) where
  pub part_ready : (i : ℕ) → i < length cs → ArePartsOf now t parts × (i < length parts)
  part_ready i lt = let count = sources.count in (parts_kept old now t parts rest are, omega (arith, lt, count))

  pub part_source : (i : ℕ) (a : ConstAttr) (u : LLVMType) → slice_get cs i ≡ Some a → slice_get parts i ≡ Some u → IsSource ts now (attr_data a) u
  part_source i a u at here = source_kept ts old now (attr_data a) u rest (sources.each i a u at here)
