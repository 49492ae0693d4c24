-- Attributes that are made over the types of a context, and the types of elements that are walked along with them.
use Rattle.std.proofs.Common.{ℕ, zero, suc, ◌≡◌, ◌<◌, ◌≤◌, ◌^◌, ◌∙◌, refl, sym, ap, subst, true, false, List, [], ◌∷◌, Option, Some, None, Vec, Global, length, slice_get, arith}
use Rattle.std.specs.Option.{option_map, option_map_or, option_and_then}
use Rattle.std.proofs.Math.Nat.{pow-le-pow_right}
use Rattle.std.proofs.lemmas.Option.{same_Some, slice_get_within}
use Rattle.kinds.specs.declared.fill.Fill.{Fill}
use Rattle.kinds.specs.declared.types.StructLayout.{StructLayout}
use Rattle.kinds.specs.declared.types.VectorTypeKind.{VectorTypeKind}
use Rattle.kinds.specs.declared.types.VectorTypeKind.TheVariants as N
use Rattle.kinds.specs.Types.{TypeTree, VoidType, IntType, PointerType, FloatingType, RefusedType, ArrayType, VectorType, StructType, NamedType, FunctionType, TypeTrees, NoTypes, ThenType, same_tree, types_list}
use Rattle.kinds.specs.Structs.{Struct, StructBody, struct_in, renamed}
use Rattle.kinds.specs.Held.{width_in}
use Rattle.kinds.proofs.TypeLaws.{and_left, and_right, tree_told}
use Rattle.llvm_core.specs.declared.numbers.LLVMConst.{LLVMConst}
use Rattle.llvm_core.specs.declared.numbers.LLVMType.{LLVMType}
use Rattle.llvm_core.specs.declared.consts.LLVMConstKind.{LLVMConstKind}
use Rattle.llvm_core.specs.declared.consts.LLVMConstKind.TheVariants as C
use Rattle.llvm_core.specs.Module.{Module}
use Rattle.llvm_core.specs.Consts.{IsMadeBelow}
use Rattle.llvm_core.specs.Data as L
use Rattle.llvm_core.specs.Data.{ConstTree, IntConst, FilledConst, BytesConst, ListConst, ConstTrees, const_at, consts_at, const_tree, const_type, trees_of}
use Rattle.llvm_core.specs.Elements.{are_all, are_each, are_elements}
use Rattle.llvm_core.proofs.DataLemmas.{const_tree_of}
use Rattle.dialect_types.specs.declared.types.TypeHandle.{TypeHandle}
use Rattle.dialect_types.specs.declared.types.TypeKind.{TypeKind}
use Rattle.dialect_types.specs.declared.types.TypeKind.TheVariants as D
use Rattle.dialect_types.specs.declared.types.StructFields.{StructFields}
use Rattle.dialect_types.specs.Trees.{AllBelow, IsOnceNamed, structs_of, type_at, type_tree, type_trees, types_at}
use Rattle.const_attrs.specs.declared.const_attr.ConstAttr.{ConstAttr}
use Rattle.const_attrs.specs.declared.const_attr.ConstAttr.TheVariants as A
use Rattle.const_attrs.specs.Trees.{Attr, AttrTree, AttrTrees, IntegerAttr, FilledAttr, BytesAttr, AggregateAttr, attr_tree, attr_trees, attr_data, attrs_data, HasTypesBelow, HaveTypesBelow}
use Rattle.const_attrs.specs.Verified.{Elements, OneOfEach, fields_in}
use Rattle.const_attrs.proofs.DataLaws.{aggregate_data, integer_data}
use Rattle.const_attrs.proofs.TypeLaws.{named_elements}
use Rattle.dialect_core.specs.declared.ops.OpKind.TheVariants as K
use Rattle.dialect_core.specs.Data.{ConstantOp, FilledOp}
use Rattle.from_llvm_ir.specs.Attrs.{AreAttrsOf, AreTaken, IsAttrOf, IsTaken, element_at, element_in, own_attr, own_attrs}
use Rattle.from_llvm_ir.specs.Imported.{own_kind}
use Rattle.from_llvm_ir.specs.Known.{IsMaking}
use Rattle.from_llvm_ir.proofs.AttrLaws.{attr_keeps, type_own}

-- ---- one constant

module _ (ks : List TypeKind) where
  abbrev ts : List TypeTree
  ts = type_trees ks

  attr_made : (c : ConstTree) (a : ConstAttr) → IsTaken (structs_of ks) c → HasTypesBelow (length ks) (attr_data a) → own_attr c ≡ Some (attr_tree ts (attr_data a)) → IsAttrOf ks c a
  attr_made c a taken below is = record { within = below; is = is; keeps = attr_keeps (structs_of ks) c (attr_tree ts (attr_data a)) taken.0 taken.1 taken.2 is }

  int_attr : (w v : ℕ) (ty : TypeHandle) → IsTaken (structs_of ks) (IntConst w v) → ty.0 < length ks → type_at ts ty ≡ IntType w → IsAttrOf ks (IntConst w v) (A.Integer ty v)
  int_attr w v ty taken below typed =
      attr_made (IntConst w v) (A.Integer ty v) taken (subst (HasTypesBelow (length ks)) (sym (integer_data ty v)) below)
      (ap (λ (u : TypeTree). let o : Option AttrTree = Some (IntegerAttr u v) in o) (sym typed) ∙ ap (λ (d : Attr TypeHandle). Some (attr_tree ts d)) (sym (integer_data ty v)))

  filled_attr : (fill : Fill) (t : TypeTree) (ty : TypeHandle) (a : ConstAttr) → IsTaken (structs_of ks) (FilledConst fill t) → ty.0 < length ks → type_at ts ty ≡ t → attr_data a ≡ FilledAttr fill ty → IsAttrOf ks (FilledConst fill t) a
  filled_attr fill t ty a taken below typed data_is =
      attr_made (FilledConst fill t) a taken (subst (HasTypesBelow (length ks)) (sym data_is) below)
      (ap (λ (u : TypeTree). let o : Option AttrTree = Some (FilledAttr fill u) in o) (type_own t ∙ sym typed) ∙ ap (λ (d : Attr TypeHandle). Some (attr_tree ts d)) (sym data_is))

  bytes_attr : (bytes : List ℕ) (a : ConstAttr) → IsTaken (structs_of ks) (BytesConst bytes) → attr_data a ≡ BytesAttr bytes → IsAttrOf ks (BytesConst bytes) a
  bytes_attr bytes a taken data_is =
      attr_made (BytesConst bytes) a taken (subst (HasTypesBelow (length ks)) (sym data_is) tt) (ap (λ (d : Attr TypeHandle). Some (attr_tree ts d)) (sym data_is))

  list_attr : (t : TypeTree) (cs : ConstTrees) (made : Vec ConstAttr Global) (ty : TypeHandle) → IsTaken (structs_of ks) (ListConst t cs) → ty.0 < length ks → type_at ts ty ≡ t → HaveTypesBelow (length ks) (attrs_data made.items)
      → own_attrs cs ≡ Some (attr_trees ts (attrs_data made.items)) → IsAttrOf ks (ListConst t cs) (A.Aggregate made ty)
  list_attr t cs made ty taken below typed all_below all =
      let ds = attr_trees ts (attrs_data made.items) in
      attr_made (ListConst t cs) (A.Aggregate made ty) taken (subst (HasTypesBelow (length ks)) (sym (aggregate_data made ty)) (all_below, below))
      (ap (option_map (λ (xs : AttrTrees). AggregateAttr xs (renamed (λ (n : List ℕ). n) t))) all
      ∙ ap (λ (u : TypeTree). let o : Option AttrTree = Some (AggregateAttr ds u) in o) (type_own t ∙ sym typed) ∙ ap (λ (d : Attr TypeHandle). Some (attr_tree ts d)) (sym (aggregate_data made ty)))

-- ---- by numbers

-- the attributes of the elements of a list, all together
module _ (ks : List TypeKind) (m : Module) where
  all_below : (cs : List LLVMConst) (ds : List ConstAttr) → AreAttrsOf ks m cs ds → HaveTypesBelow (length ks) (attrs_data ds)
  all_below [] [] h = tt
  all_below [] (d ∷ ds) h = absurd h
  all_below (c ∷ cs) [] h = absurd h
  all_below (c ∷ cs) (d ∷ ds) h = (h.0.within, all_below cs ds h.1)

  all_are : (cs : List LLVMConst) (ds : List ConstAttr) → AreAttrsOf ks m cs ds → own_attrs (consts_at (trees_of m).consts cs) ≡ Some (attr_trees (type_trees ks) (attrs_data ds))
  all_are [] [] h = refl
  all_are [] (d ∷ ds) h = absurd h
  all_are (c ∷ cs) [] h = absurd h
  all_are (c ∷ cs) (d ∷ ds) h = let one = h.0.is in let rest = all_are cs ds h.1 in rw (one, rest) refl

-- the kind k stands at the number c
module _ (m : Module) (c : LLVMConst) (k : LLVMConstKind) (at : slice_get m.consts c.0 ≡ Some k) (below : IsMadeBelow c.0 k) where
  abbrev tree : LLVMConstKind → ConstTree
  tree = const_tree (trees_of m).types (trees_of m).consts

  abbrev whole : ConstTree
  whole = const_at (trees_of m).consts c

  kind_is : (l : LLVMConstKind) → k ≡ l → whole ≡ tree l
  kind_is l is = const_tree_of m c k at below ∙ ap tree is

  -- what holds of the constant holds of its kind
  pub kind_has : (P : ConstTree → Type 0) (l : LLVMConstKind) → k ≡ l → P whole → P (tree l)
  kind_has P l is h = subst P (kind_is l is) h

  -- an integer fits a word
  pub int_fits : (structs : List Struct) (t : LLVMType) (v : ℕ) → k ≡ C.Int t v → IsTaken structs whole → v < 2 ^ 64
  int_fits structs t v is taken =
      let w = width_in (L.type_at (trees_of m).types t) in
      let here = kind_has (IsTaken structs) (C.Int t v) is taken in
      let bound : 2 ^ w ≤ 2 ^ 64 = pow-le-pow_right {n = 2} (omega arith) {i = w} {j = 64} here.1 in
      let small = here.0.1.0 in
      omega (arith, small, bound)

  module _ (ks : List TypeKind) (taken : IsTaken (structs_of ks) whole) where
    attr_back : (l : LLVMConstKind) (a : ConstAttr) → k ≡ l → IsAttrOf ks (tree l) a → IsAttrOf ks whole a
    attr_back l a is h = subst (λ (x : ConstTree). IsAttrOf ks x a) (sym (kind_is l is)) h

    there : (l : LLVMConstKind) → k ≡ l → IsTaken (structs_of ks) (tree l)
    there l is = kind_has (IsTaken (structs_of ks)) l is taken

    module _ (ty : TypeHandle) (within : ty.0 < length ks) (typed : type_at (type_trees ks) ty ≡ const_type whole) where
      its : (l : LLVMConstKind) → k ≡ l → type_at (type_trees ks) ty ≡ const_type (tree l)
      its l is = typed ∙ ap const_type (kind_is l is)

      -- a line for each kind that is translated
      pub int_made : (t : LLVMType) (v : ℕ) → k ≡ C.Int t v → IsAttrOf ks whole (A.Integer ty v)
      int_made t v is = attr_back (C.Int t v) (A.Integer ty v) is (int_attr ks (width_in (L.type_at (trees_of m).types t)) v ty (there (C.Int t v) is) within (its (C.Int t v) is))

      pub filled_made : (fill : Fill) (t : LLVMType) (a : ConstAttr) → k ≡ C.Filled fill t → attr_data a ≡ FilledAttr fill ty → IsAttrOf ks whole a
      filled_made fill t a is data_is = attr_back (C.Filled fill t) a is (filled_attr ks fill (L.type_at (trees_of m).types t) ty a (there (C.Filled fill t) is) within (its (C.Filled fill t) is) data_is)

      pub list_made : (t : LLVMType) (es : List LLVMConst) (made : Vec ConstAttr Global) → k ≡ C.List t es → AreAttrsOf ks m es made.items → IsAttrOf ks whole (A.Aggregate made ty)
      list_made t es made is each =
          attr_back (C.List t es) (A.Aggregate made ty) is
          (list_attr ks (L.type_at (trees_of m).types t) (consts_at (trees_of m).consts es) made ty (there (C.List t es) is) within (its (C.List t es) is) (all_below ks m es made.items each) (all_are ks m es made.items each))

      -- the type has these elements
      pub list_typed : (t : LLVMType) (es : List LLVMConst) → k ≡ C.List t es → are_elements (structs_of ks) (type_at (type_trees ks) ty) (consts_at (trees_of m).consts es) ≡ true
      list_typed t es is = ap (λ (u : TypeTree). are_elements (structs_of ks) u (consts_at (trees_of m).consts es)) (its (C.List t es) is) ∙ (there (C.List t es) is).2.0

    pub bytes_made : (t : LLVMType) (bytes : List ℕ) (a : ConstAttr) → k ≡ C.Bytes t bytes → attr_data a ≡ BytesAttr bytes → IsAttrOf ks whole a
    bytes_made t bytes a is data_is = attr_back (C.Bytes t bytes) a is (bytes_attr ks bytes a (there (C.Bytes t bytes) is) data_is)

    pub list_taken : (t : LLVMType) (es : List LLVMConst) → k ≡ C.List t es → AreTaken (structs_of ks) (consts_at (trees_of m).consts es)
    list_taken t es is = let h = there (C.List t es) is in (h.0.1, h.1, h.2.1)

    -- neither is translated
    pub no_splat : (t : LLVMType) (e : LLVMConst) → k ≡ C.Splat t e → ⊥
    no_splat t e is = (there (C.Splat t e) is).1

    pub no_placeholder : (n : ℕ) (t : LLVMType) → k ≡ C.Placeholder n t → ⊥
    no_placeholder n t is = (there (C.Placeholder n t) is).0

    -- ---- the kind of an operation

    pub filled_making : (fill : Fill) (t : LLVMType) → k ≡ C.Filled fill t → IsMaking ks whole (K.Filled fill)
    filled_making fill t is = record { plain = refl; types = tt; made = FilledOp fill; is = refl; own = ap own_kind (kind_is (C.Filled fill t) is) }

  -- what is not zero, undef or poison holds its attribute
  attr_own : (c : ConstTree) (a : AttrTree) → ((fill : Fill) (t : TypeTree) → c ≡ FilledConst fill t → ⊥) → own_attr c ≡ Some a → own_kind c ≡ Some (ConstantOp a)
  attr_own (IntConst w v) a other is = ap (option_map ConstantOp) is
  attr_own (FilledConst fill t) a other is = absurd (other fill t refl)
  attr_own (BytesConst bytes) a other is = ap (option_map ConstantOp) is
  attr_own (ListConst t cs) a other is = ap (option_map ConstantOp) is
  attr_own (L.SplatConst t c) a other is = cc
  attr_own (L.PlaceholderConst n t) a other is = cc

  pub attr_making : (ks : List TypeKind) (a : ConstAttr) → ((fill : Fill) (t : TypeTree) → whole ≡ FilledConst fill t → ⊥) → IsAttrOf ks whole a → IsMaking ks whole (K.Constant a)
  attr_making ks a other h = record { plain = refl; types = h.within; made = ConstantOp (attr_tree (type_trees ks) (attr_data a)); is = refl; own = attr_own whole (attr_tree (type_trees ks) (attr_data a)) other h.is }

  -- the kinds that are none
  pub no_fill : ((fill : Fill) (t : LLVMType) → k ≡ C.Filled fill t → ⊥) → (fill : Fill) (t : TypeTree) → whole ≡ FilledConst fill t → ⊥
  no_fill other fill t is = by k refl (sym (const_tree_of m c k at below) ∙ is)
    where
      by : (l : LLVMConstKind) → k ≡ l → tree l ≡ FilledConst fill t → ⊥
      by (C.Int u v) same e = cc
      by (C.Filled f u) same e = other f u same
      by (C.Bytes u bytes) same e = cc
      by (C.List u es) same e = cc
      by (C.Splat u x) same e = cc
      by (C.Placeholder n u) same e = cc

-- ---- elements

module _ (cs : List ConstTree) where
  -- a part of a list is taken where the list is
  pub element_taken : (structs : List Struct) (es : List LLVMConst) (i : ℕ) (e : LLVMConst) → AreTaken structs (consts_at cs es) → slice_get es i ≡ Some e → IsTaken structs (const_at cs e)
  element_taken structs [] i e h at = cc
  element_taken structs (x ∷ es) zero e h at = subst (λ (y : LLVMConst). IsTaken structs (const_at cs y)) (same_Some x e at) (h.0.0, h.1.0, h.2.0)
  element_taken structs (x ∷ es) (suc i) e h at = element_taken structs es i e (h.0.1, h.1.1, h.2.1) at

  typed_first : (τ : TypeTree) (x e : LLVMConst) → same_tree (const_type (const_at cs x)) τ ≡ true → x ≡ e → τ ≡ const_type (const_at cs e)
  typed_first τ x e h same = sym (tree_told (const_type (const_at cs x)) τ h) ∙ ap (λ (y : LLVMConst). const_type (const_at cs y)) same

  typed_one : (n : ℕ) (τ : TypeTree) (es : List LLVMConst) (i : ℕ) (e : LLVMConst) → are_all n τ (consts_at cs es) ≡ true → slice_get es i ≡ Some e → τ ≡ const_type (const_at cs e)
  typed_one n τ [] i e h at = cc
  typed_one zero τ (x ∷ es) i e h at = cc
  typed_one (suc n) τ (x ∷ es) zero e h at = typed_first τ x e (and_left (same_tree (const_type (const_at cs x)) τ) _ (and_left _ (are_all n τ (consts_at cs es)) h)) (same_Some x e at)
  typed_one (suc n) τ (x ∷ es) (suc i) e h at = typed_one n τ es i e (and_right _ (are_all n τ (consts_at cs es)) h) at

  typed_each : (τs : TypeTrees) (es : List LLVMConst) (i : ℕ) (e : LLVMConst) → are_each τs (consts_at cs es) ≡ true → slice_get es i ≡ Some e → slice_get (types_list τs) i ≡ Some (const_type (const_at cs e))
  typed_each τs [] i e h at = cc
  typed_each NoTypes (x ∷ es) i e h at = cc
  typed_each (ThenType τ τs) (x ∷ es) zero e h at = ap Some (typed_first τ x e (and_left (same_tree (const_type (const_at cs x)) τ) _ (and_left _ (are_each τs (consts_at cs es)) h)) (same_Some x e at))
  typed_each (ThenType τ τs) (x ∷ es) (suc i) e h at = typed_each τs es i e (and_right _ (are_each τs (consts_at cs es)) h) at

  module _ (es : List LLVMConst) (i : ℕ) (e : LLVMConst) (at : slice_get es i ≡ Some e) where
    abbrev typed : Option TypeTree
    typed = Some (const_type (const_at cs e))

    typed_named : (s : Option Struct) → option_map_or (λ (b : StructBody). are_each b.fields (consts_at cs es)) (option_and_then (λ (x : Struct). x.body) s) false ≡ true → option_and_then (λ (x : Elements). element_in x i) (fields_in s) ≡ typed
    typed_named None h = cc
    typed_named (Some s) h = by s.body h
      where
        by : (b : Option StructBody) → option_map_or (λ (x : StructBody). are_each x.fields (consts_at cs es)) b false ≡ true → option_and_then (λ (x : Elements). element_in x i) (option_map (λ (x : StructBody). OneOfEach x.fields) b) ≡ typed
        by None h = cc
        by (Some b) h = typed_each b.fields es i e h at

    -- the type that is read at the place of an element is that of the element: a line for each kind that has elements
    pub element_typed : (structs : List Struct) (t : TypeTree) → are_elements structs t (consts_at cs es) ≡ true → element_at structs t i ≡ typed
    element_typed structs (ArrayType n τ) h = ap Some (typed_one n τ es i e h at)
    element_typed structs (VectorType N.Fixed n τ) h = ap Some (typed_one n τ es i e h at)
    element_typed structs (StructType layout τs) h = typed_each τs es i e h at
    element_typed structs (NamedType name) h = typed_named (struct_in structs name) h
    element_typed structs (VectorType N.Scalable n τ) h = cc
    element_typed structs VoidType h = cc
    element_typed structs (IntType w) h = cc
    element_typed structs (PointerType space) h = cc
    element_typed structs (FloatingType of) h = cc
    element_typed structs (RefusedType of) h = cc
    element_typed structs (FunctionType r ps v) h = cc

-- ---- the type of an element by the kind of the list's type

fields_at : (trees : List TypeTree) (fs : List TypeHandle) (i : ℕ) → slice_get (types_list (types_at trees fs)) i ≡ option_map (type_at trees) (slice_get fs i)
fields_at trees [] i = refl
fields_at trees (f ∷ fs) zero = refl
fields_at trees (f ∷ fs) (suc i) = fields_at trees fs i

module _ (ks : List TypeKind) (ty : TypeHandle) (k : TypeKind) (tree_is : type_at (type_trees ks) ty ≡ type_tree (type_trees ks) k) (place : ℕ) where
  abbrev element : Option TypeTree
  element = element_at (structs_of ks) (type_at (type_trees ks) ty) place

  element_by : (l : TypeKind) → k ≡ l → element ≡ element_at (structs_of ks) (type_tree (type_trees ks) l) place
  element_by l is = ap (λ (t : TypeTree). element_at (structs_of ks) t place) (tree_is ∙ ap (type_tree (type_trees ks)) is)

  pub array_element : (e : TypeHandle) (n : ℕ) → k ≡ D.Array e n → element ≡ Some (type_at (type_trees ks) e)
  array_element e n is = element_by (D.Array e n) is

  pub vector_element : (e : TypeHandle) (n : ℕ) (v : VectorTypeKind) → k ≡ D.Vector e n v → ¬ (element ≡ None) → element ≡ Some (type_at (type_trees ks) e)
  vector_element e n N.Fixed is there = element_by (D.Vector e n N.Fixed) is
  vector_element e n N.Scalable is there = absurd (there (element_by (D.Vector e n N.Scalable) is))

  -- a field stands at the place
  field_within : (fs : List TypeHandle) → element ≡ slice_get (types_list (types_at (type_trees ks) fs)) place → ¬ (element ≡ None) → place < length fs
  field_within fs is there = by (slice_get fs place) refl
    where
      by : (o : Option TypeHandle) → slice_get fs place ≡ o → place < length fs
      by None e = absurd (there (is ∙ fields_at (type_trees ks) fs place ∙ ap (option_map (type_at (type_trees ks))) e))
      by (Some f) e = slice_get_within fs place f e

  field_typed : (fs : List TypeHandle) (f : TypeHandle) → element ≡ slice_get (types_list (types_at (type_trees ks) fs)) place → slice_get fs place ≡ Some f → element ≡ Some (type_at (type_trees ks) f)
  field_typed fs f is at = is ∙ fields_at (type_trees ks) fs place ∙ ap (option_map (type_at (type_trees ks))) at

  pub struct_within : (fs : List TypeHandle) (layout : StructLayout) → k ≡ D.Struct fs layout → ¬ (element ≡ None) → place < length fs
  struct_within fs layout is there = field_within fs (element_by (D.Struct fs layout) is) there

  pub struct_element : (fs : List TypeHandle) (layout : StructLayout) (f : TypeHandle) → k ≡ D.Struct fs layout → slice_get fs place ≡ Some f → element ≡ Some (type_at (type_trees ks) f)
  struct_element fs layout f is at = field_typed fs f (element_by (D.Struct fs layout) is) at

  module _ (once : IsOnceNamed ks) (at : slice_get ks ty.0 ≡ Some k) (name : List ℕ) (body : Option StructFields) (is : k ≡ D.Named name body) where
    body_element : element ≡ option_and_then (λ (es : Elements). element_in es place) (option_map (λ (b : StructFields). OneOfEach (types_at (type_trees ks) b.types)) body)
    body_element = ap (option_and_then (λ (es : Elements). element_in es place)) (sym (named_elements ks once ty.0 k name body (type_at (type_trees ks) ty) at is (tree_is ∙ ap (type_tree (type_trees ks)) is)))

    fields_element : (b : StructFields) → body ≡ Some b → element ≡ slice_get (types_list (types_at (type_trees ks) b.types)) place
    fields_element b has = body_element ∙ ap (λ (o : Option StructFields). option_and_then (λ (es : Elements). element_in es place) (option_map (λ (x : StructFields). OneOfEach (types_at (type_trees ks) x.types)) o)) has

    pub named_within : (b : StructFields) → body ≡ Some b → ¬ (element ≡ None) → place < length b.types
    named_within b has there = field_within b.types (fields_element b has) there

    pub named_element : (b : StructFields) (f : TypeHandle) → body ≡ Some b → slice_get b.types place ≡ Some f → element ≡ Some (type_at (type_trees ks) f)
    named_element b f has at = field_typed b.types f (fields_element b has) at

    pub no_body : body ≡ None → ¬ (element ≡ None) → ⊥
    no_body none there = there (body_element ∙ ap (λ (o : Option StructFields). option_and_then (λ (es : Elements). element_in es place) (option_map (λ (x : StructFields). OneOfEach (types_at (type_trees ks) x.types)) o)) none)

-- a number at a place is below what all are
pub below_at : (n : ℕ) (xs : List TypeHandle) (i : ℕ) (x : TypeHandle) → AllBelow n xs → slice_get xs i ≡ Some x → x.0 < n
below_at n [] i x h at = cc
below_at n (y ∷ xs) zero x h at = subst (λ (t : TypeHandle). t.0 < n) (same_Some y x at) h.0
below_at n (y ∷ xs) (suc i) x h at = below_at n xs i x h.1 at
