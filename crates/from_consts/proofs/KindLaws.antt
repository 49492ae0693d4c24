-- The kind that stands for one that names no struct, by the types that were given for its parts.
use Rattle.std.proofs.Common.{ℕ, zero, suc, ◌≡◌, ◌<◌, inl, inr, ◌∙◌, refl, sym, ap, subst, Bool, true, false, List, [], ◌∷◌, All, Option, Some, None, length, map, slice_get}
use Rattle.std.proofs.lemmas.List.Elements.{All-nil, All-cons, All-head, All-tail}
use Rattle.std.proofs.lemmas.Option.{same_Some}
use Rattle.kinds.specs.declared.types.OtherType.{OtherType}
use Rattle.kinds.specs.declared.types.StructLayout.{StructLayout}
use Rattle.kinds.specs.declared.types.VectorTypeKind.{VectorTypeKind}
use Rattle.kinds.specs.Types.{TypeTree, ArrayType, VectorType, StructType, NamedType, FunctionType, TypeTrees, shape, types_list, parts_of}
use Rattle.kinds.specs.Fitting.{is_array_of, is_vector_of, is_field}
use Rattle.kinds.specs.Structs.{renamed, renamed_all}
use Rattle.kinds.proofs.RenamedLaws.{renamed_shape}
use Rattle.llvm_core.specs.declared.numbers.LLVMType.{LLVMType}
use Rattle.llvm_core.specs.declared.types.LLVMTypeKind.{LLVMTypeKind}
use Rattle.llvm_core.specs.declared.types.LLVMTypeKind.TheVariants as T
use Rattle.llvm_core.specs.Module.{Module}
use Rattle.llvm_core.specs.Parts.{shape_at}
use Rattle.llvm_core.specs.Sound.{IsModule}
use Rattle.llvm_core.specs.Data as L
use Rattle.llvm_core.specs.Data.{trees_of}
use Rattle.llvm_core.proofs.DataLemmas.{type_tree_of}
use Rattle.llvm_core.proofs.WholeTypes.{shape_there}
use Rattle.dialect_types.specs.declared.types.TypeHandle.{TypeHandle}
use Rattle.dialect_types.specs.declared.types.TypeKind.{TypeKind}
use Rattle.dialect_types.specs.declared.types.TypeKind.TheVariants as K
use Rattle.dialect_types.specs.Trees as D
use Rattle.dialect_types.specs.Trees.{AllBelow, HasPartsBelow, is_named, type_at, types_at, type_tree, type_trees}
use Rattle.dialect_types.specs.Legalised.{Named}
use Rattle.held_types.proofs.InsideLaws.{holds_by, listed_from}
use Rattle.from_consts.specs.declared.const_context.ConstContext.{ConstContext}
use Rattle.from_consts.specs.Parts.{parts_in, IsNamed, IsPart, InKind, InStruct}
use Rattle.from_consts.specs.Names.{called, IsCalled}
use Rattle.from_consts.specs.Given.{given_at, IsContextFor}
use Rattle.from_consts.specs.Steps.{IsKindGiven}
use Rattle.from_consts.proofs.GrowthLaws.{not_none}

-- ---- the structs that a type names

-- those of its parts, where it is none itself
pub called_parts : (given : List Named) (t : TypeTree) → ((n : List ℕ) → ¬ (t ≡ NamedType n)) → ((i : ℕ) (v : TypeTree) → slice_get (parts_of t) i ≡ Some v → IsCalled given v) → IsCalled given t
called_parts given t unnamed parts n h = elim (holds_by [] (NamedType n) t h) [
  | inl same ↦ absurd (unnamed n (sym same))
  | inr inside ↦ (
      elim inside [
        | inl part ↦ parts part.1 part.0 part.2 n part.3
        | inr field ↦ absurd (let no : None ≡ Some field.1 = field.6 in cc)
      ]
      )
]

module _ (m : Module) (ks : List TypeKind) (c : ConstContext) (sound : IsModule m) (context : IsContextFor m ks c) where
  abbrev trees : List TypeTree
  trees = (trees_of m).types

  -- the type as the dialect calls its structs
  abbrev under : TypeTree → TypeTree
  under t = renamed (called c.names) t

  -- ---- lists of numbers

  first_of : (a b : Option TypeHandle) (xs ys : List (Option TypeHandle)) → a ∷ xs ≡ b ∷ ys → a ≡ b
  first_of a b xs ys e = cc

  rest_of : (a b : Option TypeHandle) (xs ys : List (Option TypeHandle)) → a ∷ xs ≡ b ∷ ys → xs ≡ ys
  rest_of a b xs ys e = cc

  -- each has been given the type at its place
  abbrev AreGiven : List LLVMType → List TypeHandle → Type 0
  AreGiven us hs = map (given_at c) us ≡ map (λ (h : TypeHandle). Some h) hs

  pub all_is : (us : List LLVMType) (hs : List TypeHandle) → AreGiven us hs → types_at (type_trees ks) hs ≡ renamed_all (called c.names) (L.types_at trees us)
  all_is [] [] e = refl
  all_is [] (h ∷ hs) e = cc
  all_is (u ∷ us) [] e = cc
  all_is (u ∷ us) (h ∷ hs) e =
      let here = (context.each u h (first_of (given_at c u) (Some h) (map (given_at c) us) (map (λ (h : TypeHandle). Some h) hs) e)).is in
      let later = all_is us hs (rest_of (given_at c u) (Some h) (map (given_at c) us) (map (λ (h : TypeHandle). Some h) hs) e) in
      cc

  pub all_below : (us : List LLVMType) (hs : List TypeHandle) → AreGiven us hs → AllBelow (length ks) hs
  all_below us [] e = tt
  all_below [] (h ∷ hs) e = cc
  all_below (u ∷ us) (h ∷ hs) e = (
    (context.each u h (first_of (given_at c u) (Some h) (map (given_at c) us) (map (λ (h : TypeHandle). Some h) hs) e)).within,
    all_below us hs (rest_of (given_at c u) (Some h) (map (given_at c) us) (map (λ (h : TypeHandle). Some h) hs) e),
  )

  -- the shape of a type stays
  pub given_shape : (u : LLVMType) (h : TypeHandle) → given_at c u ≡ Some h → u.0 < length m.types → shape (type_at (type_trees ks) h) ≡ shape_at m.types u
  given_shape u h at lt = ap shape (context.each u h at).is ∙ renamed_shape (called c.names) (L.type_at trees u) ∙ sym (shape_there m sound u lt)

  pub all_fit : (us : List LLVMType) (hs : List TypeHandle) → AreGiven us hs → All (λ (u : LLVMType). u.0 < length m.types) us → All (λ (u : LLVMType). is_field (shape_at m.types u) ≡ true) us
      → All (λ (h : TypeHandle). is_field (shape (type_at (type_trees ks) h)) ≡ true) hs
  all_fit us [] e lt fit = All-nil (λ (h : TypeHandle). is_field (shape (type_at (type_trees ks) h)) ≡ true)
  all_fit [] (h ∷ hs) e lt fit = cc
  all_fit (u ∷ us) (h ∷ hs) e lt fit =
      let at = first_of (given_at c u) (Some h) (map (given_at c) us) (map (λ (h : TypeHandle). Some h) hs) e in
      let later = rest_of (given_at c u) (Some h) (map (given_at c) us) (map (λ (h : TypeHandle). Some h) hs) e in
      let within = All-head (λ (u : LLVMType). u.0 < length m.types) u us lt in
      let here = All-head (λ (u : LLVMType). is_field (shape_at m.types u) ≡ true) u us fit in
      All-cons (λ (h : TypeHandle). is_field (shape (type_at (type_trees ks) h)) ≡ true) h hs (ap is_field (given_shape u h at within) ∙ here)
      (all_fit us hs later (All-tail (λ (u : LLVMType). u.0 < length m.types) u us lt) (All-tail (λ (u : LLVMType). is_field (shape_at m.types u) ≡ true) u us fit))

  pub all_there : (us : List LLVMType) (hs : List TypeHandle) → AreGiven us hs → (i : ℕ) (u : LLVMType) → slice_get us i ≡ Some u → (h : TypeHandle) × (given_at c u ≡ Some h)
  all_there [] hs e i u at = cc
  all_there (v ∷ us) [] e i u at = cc
  all_there (v ∷ us) (h ∷ hs) e zero u at = (h, ap (given_at c) (sym (same_Some v u at)) ∙ first_of (given_at c v) (Some h) (map (given_at c) us) (map (λ (h : TypeHandle). Some h) hs) e)
  all_there (v ∷ us) (h ∷ hs) e (suc i) u at = all_there us hs (rest_of (given_at c v) (Some h) (map (given_at c) us) (map (λ (h : TypeHandle). Some h) hs) e) i u at

  -- the structs that they name were given identifiers
  pub all_called : (us : List LLVMType) (hs : List TypeHandle) → AreGiven us hs → (i : ℕ) (v : TypeTree) → slice_get (types_list (L.types_at trees us)) i ≡ Some v → IsCalled c.names v
  all_called us hs e i v at =
      let u = listed_from trees us i v at in
      let h = all_there us hs e i u.0 u.1 in
      subst (IsCalled c.names) u.2 (context.each u.0 h.0 h.1).known

  -- ---- the kind

  module _ (t : LLVMType) (k : LLVMTypeKind) (at : slice_get m.types t.0 ≡ Some k) (unnamed : (n : List ℕ) → ¬ IsNamed m t n) where
    tree_is : L.type_at trees t ≡ L.type_tree trees k
    tree_is = type_tree_of m t k sound at

    -- its parts are those of the kind
    part_in : (u : LLVMType) → IsPart m u t → (i : ℕ) × (slice_get (parts_in k) i ≡ Some u)
    part_in u (InKind l i here is) = (i, subst (λ (x : LLVMTypeKind). slice_get (parts_in x) i ≡ Some u) (same_Some l k (sym here ∙ at)) is)
    part_in u (InStruct n named field) = absurd (unnamed n named)

    own_is : ((of : OtherType) → ¬ (k ≡ T.Other of)) → (of : OtherType) → ¬ (slice_get m.types t.0 ≡ Some (T.Other of))
    own_is other of is = other of (same_Some k (T.Other of) (sym at ∙ is))

    -- what is asked of the kind that stands for it
    pub kind_given : (l : TypeKind) → HasPartsBelow (length ks) l → D.HasFitParts (type_trees ks) l → is_named l ≡ false → type_tree (type_trees ks) l ≡ under (L.type_tree trees k)
        → ((n : List ℕ) → ¬ (L.type_tree trees k ≡ NamedType n)) → ((i : ℕ) (v : TypeTree) → slice_get (parts_of (L.type_tree trees k)) i ≡ Some v → IsCalled c.names v)
        → ((i : ℕ) (u : LLVMType) → slice_get (parts_in k) i ≡ Some u → (h : TypeHandle) × (given_at c u ≡ Some h)) → ((of : OtherType) → ¬ (k ≡ T.Other of))
        → IsKindGiven m ks c t l
    kind_given l below fit plain is apart known there own = record {
      below = below;
      fit = fit;
      plain = plain;
      is = is ∙ ap under (sym tree_is);
      known = subst (IsCalled c.names) (sym tree_is) (called_parts c.names (L.type_tree trees k) apart known);
      parts = λ u part. let p = part_in u part in let h = there p.0 u p.1 in not_none (given_at c u) h.0 h.1;
      own = own_is own;
    }

    -- ---- kinds with parts: a lemma for each

    one_called : (u : LLVMType) (h : TypeHandle) → given_at c u ≡ Some h → (i : ℕ) (v : TypeTree) → slice_get (L.type_at trees u ∷ []) i ≡ Some v → IsCalled c.names v
    one_called u h here zero v is = subst (IsCalled c.names) (same_Some (L.type_at trees u) v is) (context.each u h here).known
    one_called u h here (suc i) v is = absurd (let no : None ≡ Some v = is in cc)

    one_there : (u : LLVMType) (h : TypeHandle) → given_at c u ≡ Some h → (i : ℕ) (v : LLVMType) → slice_get (u ∷ []) i ≡ Some v → (g : TypeHandle) × (given_at c v ≡ Some g)
    one_there u h here zero v is = (h, ap (given_at c) (sym (same_Some u v is)) ∙ here)
    one_there u h here (suc i) v is = absurd (let no : None ≡ Some v = is in cc)

  pub array_given : (t : LLVMType) (n : ℕ) (u : LLVMType) (h : TypeHandle) → slice_get m.types t.0 ≡ Some (T.Array n u) → u.0 < length m.types → is_array_of n (shape_at m.types u) ≡ true → given_at c u ≡ Some h → IsKindGiven m ks c t (K.Array h n)
  array_given t n u h at lt fit here =
      let g = context.each u h here in
      kind_given t (T.Array n u) at (λ name named. let no : Some (T.Array n u) ≡ Some (T.Named name) = sym at ∙ named in cc) (K.Array h n) g.within (ap (is_array_of n) (given_shape u h here lt) ∙ fit) refl (ap (ArrayType n) g.is) (λ name e. cc)
      (one_called t (T.Array n u) at (λ name named. let no : Some (T.Array n u) ≡ Some (T.Named name) = sym at ∙ named in cc) u h here)
      (one_there t (T.Array n u) at (λ name named. let no : Some (T.Array n u) ≡ Some (T.Named name) = sym at ∙ named in cc) u h here) (λ of e. cc)

  pub vector_given : (t : LLVMType) (w : VectorTypeKind) (n : ℕ) (u : LLVMType) (h : TypeHandle) → slice_get m.types t.0 ≡ Some (T.Vector w n u) → u.0 < length m.types → is_vector_of n (shape_at m.types u) ≡ true → given_at c u ≡ Some h → IsKindGiven m ks c t (K.Vector h n w)
  vector_given t w n u h at lt fit here =
      let g = context.each u h here in
      let unnamed = λ (name : List ℕ) (named : IsNamed m t name). let no : Some (T.Vector w n u) ≡ Some (T.Named name) = sym at ∙ named in absurd cc in
      kind_given t (T.Vector w n u) at unnamed (K.Vector h n w) g.within (ap (is_vector_of n) (given_shape u h here lt) ∙ fit) refl (ap (VectorType w n) g.is) (λ name e. cc)
      (one_called t (T.Vector w n u) at unnamed u h here) (one_there t (T.Vector w n u) at unnamed u h here) (λ of e. cc)

  pub literal_given : (t : LLVMType) (us : List LLVMType) (l : StructLayout) (hs all : List TypeHandle) → all ≡ hs → slice_get m.types t.0 ≡ Some (T.Literal us l) → All (λ (u : LLVMType). u.0 < length m.types) us
      → All (λ (u : LLVMType). is_field (shape_at m.types u) ≡ true) us → AreGiven us hs → IsKindGiven m ks c t (K.Struct all l)
  literal_given t us l hs all same at lt fit are =
      let unnamed = λ (name : List ℕ) (named : IsNamed m t name). let no : Some (T.Literal us l) ≡ Some (T.Named name) = sym at ∙ named in absurd cc in
      subst (λ (xs : List TypeHandle). IsKindGiven m ks c t (K.Struct xs l)) (sym same)
      (kind_given t (T.Literal us l) at unnamed (K.Struct hs l) (all_below us hs are) (all_fit us hs are lt fit) refl (ap (StructType l) (all_is us hs are)) (λ name e. cc) (all_called us hs are) (all_there us hs are) (λ of e. cc))

  function_called : (r : LLVMType) (g : TypeHandle) (us : List LLVMType) (hs : List TypeHandle) → given_at c r ≡ Some g → AreGiven us hs → (i : ℕ) (v : TypeTree) → slice_get (L.type_at trees r ∷ types_list (L.types_at trees us)) i ≡ Some v → IsCalled c.names v
  function_called r g us hs here are zero v is = subst (IsCalled c.names) (same_Some (L.type_at trees r) v is) (context.each r g here).known
  function_called r g us hs here are (suc i) v is = all_called us hs are i v is

  function_there : (r : LLVMType) (g : TypeHandle) (us : List LLVMType) (hs : List TypeHandle) → given_at c r ≡ Some g → AreGiven us hs → (i : ℕ) (v : LLVMType) → slice_get (r ∷ us) i ≡ Some v → (h : TypeHandle) × (given_at c v ≡ Some h)
  function_there r g us hs here are zero v is = (g, ap (given_at c) (sym (same_Some r v is)) ∙ here)
  function_there r g us hs here are (suc i) v is = all_there us hs are i v is

  pub function_given : (t r : LLVMType) (us : List LLVMType) (v : Bool) (g : TypeHandle) (hs all : List TypeHandle) → all ≡ hs → slice_get m.types t.0 ≡ Some (T.Function r us v) → given_at c r ≡ Some g → AreGiven us hs → IsKindGiven m ks c t (K.Func g all v)
  function_given t r us v g hs all same at here are =
      let unnamed = λ (name : List ℕ) (named : IsNamed m t name). let no : Some (T.Function r us v) ≡ Some (T.Named name) = sym at ∙ named in absurd cc in
      let is : FunctionType (type_at (type_trees ks) g) (types_at (type_trees ks) hs) v ≡ FunctionType (under (L.type_at trees r)) (renamed_all (called c.names) (L.types_at trees us)) v = both (context.each r g here).is (all_is us hs are) in
      subst (λ (xs : List TypeHandle). IsKindGiven m ks c t (K.Func g xs v)) (sym same)
      (kind_given t (T.Function r us v) at unnamed (K.Func g hs v) ((context.each r g here).within, all_below us hs are) tt refl is (λ name e. cc) (function_called r g us hs here are) (function_there r g us hs here are) (λ of e. cc))
    where
      both : {a b : TypeTree} {xs ys : TypeTrees} → a ≡ b → xs ≡ ys → FunctionType a xs v ≡ FunctionType b ys v
      both e f = cc

  -- a kind without parts
  pub flat_given : (t : LLVMType) (k : LLVMTypeKind) (l : TypeKind) → slice_get m.types t.0 ≡ Some k → ((n : List ℕ) → ¬ (k ≡ T.Named n)) → ((of : OtherType) → ¬ (k ≡ T.Other of)) → parts_in k ≡ [] → parts_of (L.type_tree trees k) ≡ []
      → HasPartsBelow (length ks) l → D.HasFitParts (type_trees ks) l → is_named l ≡ false → type_tree (type_trees ks) l ≡ under (L.type_tree trees k) → ((n : List ℕ) → ¬ (L.type_tree trees k ≡ NamedType n)) → IsKindGiven m ks c t l
  flat_given t k l at unnamed other none flat below fit plain is apart =
      kind_given t k at (λ name named. unnamed name (same_Some k (T.Named name) (sym at ∙ named))) l below fit plain is apart
      (λ i v here. let no : None ≡ Some v = sym (ap (λ (ts : List TypeTree). slice_get ts i) flat) ∙ here in absurd cc)
      (λ i u here. let no : None ≡ Some u = sym (ap (λ (us : List LLVMType). slice_get us i) none) ∙ here in absurd cc) other
