-- What a module keeps as a constant is in its one form as a tree, and has the elements that its type asks for, all the way in.
use Rattle.std.proofs.Common.{◌≡◌, ◌<◌, ◌≤◌, ℕ, zero, suc, Bool, true, false, ◌&&◌, not, if◌then◌else◌, List, [], ◌∷◌, Option, Some, None, All, map, length, slice_get, refl, sym, ap, ◌∙◌, subst, arith}
use Rattle.std.specs.Str.{bytes_eq}
use Rattle.std.specs.List.{find}
use Rattle.std.specs.Option.{option_map, option_map_or, option_and_then}
use Rattle.std.proofs.lemmas.Bool.{and_parts}
use Rattle.std.proofs.lemmas.Option.{slice_get_within}
use Rattle.std.proofs.lemmas.List.Elements.{All-head, All-tail}
use Rattle.support.proofs.ListLaws.{item_there}
use Rattle.kinds.specs.Types.{TypeTree, VectorType, same_tree}
use Rattle.kinds.specs.Structs.{StructBody, Struct, struct_in}
use Rattle.kinds.specs.declared.types.VectorTypeKind.TheVariants as N
use Rattle.kinds.specs.Fill.{is_own_fill}
use Rattle.kinds.specs.Held.{width_in}
use Rattle.kinds.proofs.TypeLaws.{tree_self, tree_told}
use Rattle.llvm_core.specs.declared.numbers.LLVMType.{LLVMType}
use Rattle.llvm_core.specs.declared.numbers.LLVMConst.{LLVMConst}
use Rattle.llvm_core.specs.declared.types.LLVMTypeKind.{LLVMTypeKind}
use Rattle.llvm_core.specs.declared.types.LLVMTypeKind.TheVariants as T
use Rattle.llvm_core.specs.declared.consts.LLVMConstKind.{LLVMConstKind}
use Rattle.llvm_core.specs.declared.consts.LLVMConstKind.TheVariants as C
use Rattle.llvm_core.specs.declared.structs.StructFields.{StructFields}
use Rattle.llvm_core.specs.declared.structs.StructData.{StructData}
use Rattle.llvm_core.specs.Module.{Module}
use Rattle.llvm_core.specs.Parts as P
use Rattle.llvm_core.specs.Parts.{IsIntAt}
use Rattle.llvm_core.specs.Sound.{IsModule}
use Rattle.llvm_core.specs.Consts as K
use Rattle.llvm_core.specs.Consts.{IsElement, IsListOf, IsLaneOf, AreElements, IsConstIn, IsMadeBelow, struct_named, form_over}
use Rattle.llvm_core.specs.Data.{ConstTree, ConstTrees, IntConst, SplatConst, type_at, types_at, const_at, consts_at, const_tree, const_type, type_tree, fields_of, struct_of, structs_of, trees_of, formed}
use Rattle.llvm_core.specs.Elements.{is_placeholder, is_element, are_all, are_each, body_named, are_elements, splat_const, HasElements, HaveElements}
use Rattle.llvm_core.specs.Form.{IsFormConst, AreFormConsts}
use Rattle.llvm_core.proofs.ApartLemmas.{apart}
use Rattle.llvm_core.proofs.WithinLemmas.{const_types_within}
use Rattle.llvm_core.proofs.DataLemmas.{type_tree_of, int_tree_of, const_tree_of, const_type_of, within_at}
use Rattle.llvm_core.proofs.FormTrees.{form_tree}
use Rattle.llvm_core.proofs.WholeTypes.{shape_there}

pub passes_both : (a b : Bool) → a ≡ true → b ≡ true → (a && b) ≡ true
passes_both a b h k = rw (h, k) refl

not_so : (a : Bool) → not a ≡ true → a ≡ false
not_so false h = refl
not_so true h = absurd cc

holder_told : (ts : List TypeTree) (cs : List ConstTree) (k : LLVMConstKind) → is_placeholder (const_tree ts cs k) ≡ K.is_placeholder k
holder_told ts cs (C.Int t v) = refl
holder_told ts cs (C.Filled fill t) = refl
holder_told ts cs (C.Bytes t bytes) = refl
holder_told ts cs (C.List t elements) = refl
holder_told ts cs (C.Splat t element) = refl
holder_told ts cs (C.Placeholder number t) = refl

-- ---- structs by name

struct_looked_up : (ts : List TypeTree) (name : List ℕ) (xs : List StructData) → struct_in (map (struct_of ts) xs) name ≡ option_map (struct_of ts) (struct_named xs name)
struct_looked_up ts name [] = refl
struct_looked_up ts name (x ∷ xs) = by (bytes_eq x.name name) (struct_looked_up ts name xs)
  where
    by : (b : Bool) → struct_in (map (struct_of ts) xs) name ≡ option_map (struct_of ts) (struct_named xs name)
        → (if b then Some (struct_of ts x) else struct_in (map (struct_of ts) xs) name) ≡ option_map (struct_of ts) (if b then Some x else struct_named xs name)
    by true e = refl
    by false e = e

-- what is told of the struct of a name
body_told : (m : Module) (name : List ℕ) (x : StructData) (b : StructFields) → struct_named m.structs name ≡ Some x → x.body ≡ Some b → body_named (structs_of m) name ≡ Some (fields_of (trees_of m).types b)
body_told m name x b named body =
    ap (option_and_then (λ (y : Struct). y.body)) (struct_looked_up (trees_of m).types name m.structs ∙ ap (option_map (struct_of (trees_of m).types)) named)
    ∙ ap (option_map (fields_of (trees_of m).types)) body

-- ---- elements

module _ (m : Module) (s : IsModule m) where
  abbrev tree : LLVMType → TypeTree
  tree t = type_at (trees_of m).types t

  abbrev const : LLVMConst → ConstTree
  const c = const_at (trees_of m).consts c

  pub holder_at : (c : LLVMConst) (k : LLVMConstKind) → slice_get m.consts c.0 ≡ Some k → is_placeholder (const c) ≡ K.is_placeholder k
  holder_at c k at = ap is_placeholder (const_tree_of m c k at (s.consts_below c.0 k at)) ∙ holder_told (trees_of m).types (trees_of m).consts k

  -- the tree of an element is one of the type's
  pub element_told : (c : LLVMConst) (t : LLVMType) → IsElement m.consts t c → is_element (tree t) (const c) ≡ true
  element_told c t (k, at, (is, own)) =
      let types : const_type (const c) ≡ tree t = const_type_of m c k s at ∙ ap tree is in
      let same : same_tree (const_type (const c)) (tree t) ≡ true = ap (λ (τ : TypeTree). same_tree τ (tree t)) types ∙ tree_self (tree t) in
      passes_both (same_tree (const_type (const c)) (tree t)) (not (is_placeholder (const c))) same (ap not (holder_at c k at ∙ own))

  -- and it is no placeholder
  element_own : (c : LLVMConst) (t : LLVMType) → IsElement m.consts t c → is_placeholder (const c) ≡ false
  element_own c t (k, at, (is, own)) = holder_at c k at ∙ own

  elements_own : (t : LLVMType) (cs : List LLVMConst) → IsListOf m.types m.consts m.structs t cs → (i : ℕ) (c : LLVMConst) → slice_get cs i ≡ Some c → is_placeholder (const c) ≡ false
  elements_own t cs l i c at =
      let lt = slice_get_within cs i c at in
      let count = l.count in
      let (u, is) = item_there l.parts i (omega (arith, lt, count)) in
      element_own c u (l.each i c u at is)

  -- a constant that is there is an element of a type where its tree is one of the type's
  pub element_is : (c : LLVMConst) (t : LLVMType) → c.0 < length m.consts → t.0 < length m.types → is_element (tree t) (const c) ≡ true → IsElement m.consts t c
  element_is c t there within h =
      let (k, at) = item_there m.consts c.0 there in
      let p = and_parts (same_tree (const_type (const c)) (tree t)) (not (is_placeholder (const c))) h in
      let same : tree (P.const_type k) ≡ tree t = sym (const_type_of m c k s at) ∙ tree_told (const_type (const c)) (tree t) p.0 in
      (k, at, ((apart m s).types (P.const_type k) t (const_types_within m s c.0 k at) within same, sym (holder_at c k at) ∙ not_so (is_placeholder (const c)) p.1))

  each_told : (us : List LLVMType) (cs : List LLVMConst) → length cs ≡ length us → ((i : ℕ) (c : LLVMConst) (u : LLVMType) → slice_get cs i ≡ Some c → slice_get us i ≡ Some u → IsElement m.consts u c)
      → are_each (types_at (trees_of m).types us) (consts_at (trees_of m).consts cs) ≡ true
  each_told [] [] count each = refl
  each_told [] (c ∷ cs) count each = absurd (omega (arith, count))
  each_told (u ∷ us) [] count each = absurd (omega (arith, count))
  each_told (u ∷ us) (c ∷ cs) count each =
      passes_both (is_element (tree u) (const c)) (are_each (types_at (trees_of m).types us) (consts_at (trees_of m).consts cs)) (element_told c u (each 0 c u refl refl))
      (each_told us cs (omega (arith, count)) (λ i d v h k. each (suc i) d v h k))

  -- so many of one type
  all_told : (n : ℕ) (u : LLVMType) (cs : List LLVMConst) → length cs ≡ n → ((i : ℕ) (c : LLVMConst) → slice_get cs i ≡ Some c → IsElement m.consts u c) → are_all n (tree u) (consts_at (trees_of m).consts cs) ≡ true
  all_told zero u [] count each = refl
  all_told zero u (c ∷ cs) count each = absurd (omega (arith, count))
  all_told (suc n) u [] count each = absurd (omega (arith, count))
  all_told (suc n) u (c ∷ cs) count each =
      passes_both (is_element (tree u) (const c)) (are_all n (tree u) (consts_at (trees_of m).consts cs)) (element_told c u (each 0 c refl)) (all_told n u cs (omega (arith, count)) (λ i d h. each (suc i) d h))

  abbrev trees : List LLVMConst → ConstTrees
  trees cs = consts_at (trees_of m).consts cs

  -- the elements of a list are those that its type asks
  pub elements_told : (t : LLVMType) (cs : List LLVMConst) → IsListOf m.types m.consts m.structs t cs → are_elements (structs_of m) (tree t) (consts_at (trees_of m).consts cs) ≡ true
  elements_told t cs h = ap (λ (τ : TypeTree). are_elements (structs_of m) τ (trees cs)) (type_tree_of m t h.kind s h.typed) ∙ by h.kind h.fit
    where
      many : (n : ℕ) (u : LLVMType) → (length h.parts ≡ n) × All (λ (v : LLVMType). v ≡ u) h.parts → are_all n (tree u) (trees cs) ≡ true
      many n u (count, all) = all_told n u cs (h.count ∙ count) (λ i c at.
          let v = item_there h.parts i (let lt = slice_get_within cs i c at in let same = h.count in omega (arith, lt, same)) in
          subst (λ (w : LLVMType). IsElement m.consts w c) (within_at h.parts (λ (w : LLVMType). w ≡ u) all i v.0 v.1) (h.each i c v.0 at v.1))

      fields : (us : List LLVMType) → h.parts ≡ us → are_each (types_at (trees_of m).types us) (trees cs) ≡ true
      fields us is = subst (λ (vs : List LLVMType). are_each (types_at (trees_of m).types vs) (trees cs) ≡ true) is (each_told h.parts cs h.count h.each)

      by : (k : LLVMTypeKind) → AreElements m.structs k h.parts → are_elements (structs_of m) (type_tree (trees_of m).types k) (trees cs) ≡ true
      by T.Void fit = absurd fit
      by (T.Int width) fit = absurd fit
      by (T.Ptr space) fit = absurd fit
      by (T.Floating of) fit = absurd fit
      by (T.Other of) fit = absurd fit
      by (T.Array n u) fit = many n u fit
      by (T.Vector N.Fixed n u) fit = many n u fit
      by (T.Vector N.Scalable n u) fit = absurd fit
      by (T.Literal parts layout) fit = fields parts fit
      by (T.Named name) (x, b, named, body, types) =
          ap (λ (o : Option StructBody). option_map_or (λ (b : StructBody). are_each b.fields (trees cs)) o false) (body_told m name x b named body) ∙ fields b.types (sym types)
      by (T.Function result params variadic) fit = absurd fit

  -- ---- the one form

  -- a constant that is kept in its one form is the form of its own tree
  formed_told : (k : LLVMConstKind) → K.HasConstParts m k → form_over m.types m.consts k ≡ k → formed (const_tree (trees_of m).types (trees_of m).consts k) ≡ const_tree (trees_of m).types (trees_of m).consts k
  formed_told k parts form = sym (form_tree m s k parts) ∙ ap (const_tree (trees_of m).types (trees_of m).consts) form

  splat_told : (t : LLVMType) (c : LLVMConst) → IsLaneOf m.types m.consts m.structs t c → form_over m.types m.consts (C.Splat t c) ≡ C.Splat t c → splat_const (tree t) (const c) ≡ Some (SplatConst (tree t) (const c))
  splat_told t c (n, u, at, one) form =
      let typed : tree t ≡ VectorType N.Scalable n (tree u) = type_tree_of m t (T.Vector N.Scalable n u) s at in
      let form = formed_told (C.Splat t c) (n, u, at, one) form in
      ap (λ (τ : TypeTree). splat_const τ (const c)) typed
      ∙ ap (λ (b : Bool). if b then Some (formed (SplatConst (VectorType N.Scalable n (tree u)) (const c))) else None) (element_told c u one)
      ∙ ap (λ (τ : TypeTree). Some (formed (SplatConst τ (const c)))) (sym typed)
      ∙ ap Some form

  -- ---- all the way in

  module _ (n : ℕ) (known : (c : LLVMConst) → c.0 < n → HasElements (structs_of m) (const c)) where
    each_made : (cs : List LLVMConst) → All (λ (c : LLVMConst). c.0 < n) cs → HaveElements (structs_of m) (consts_at (trees_of m).consts cs)
    each_made [] below = tt
    each_made (c ∷ cs) below = (known c (All-head (λ (d : LLVMConst). d.0 < n) c cs below), each_made cs (All-tail (λ (d : LLVMConst). d.0 < n) c cs below))

    kind_made : (k : LLVMConstKind) → IsConstIn m k → IsMadeBelow n k → HasElements (structs_of m) (const_tree (trees_of m).types (trees_of m).consts k)
    kind_made (C.Int t v) over below = tt
    kind_made (C.Filled fill t) over below = tt
    kind_made (C.Bytes t bytes) over below = tt
    kind_made (C.List t cs) over below = (elements_told t cs over.0, each_made cs below)
    kind_made (C.Splat t c) over below = (splat_told t c over.0 over.1, known c below)
    kind_made (C.Placeholder number t) over below = tt

  made_below : (size : ℕ) (c : LLVMConst) → c.0 < size → c.0 < length m.consts → HasElements (structs_of m) (const c)
  made_below zero c below within = absurd (omega (arith, below))
  made_below (suc size) c below within =
      let (k, at) = item_there m.consts c.0 within in
      subst (HasElements (structs_of m)) (sym (const_tree_of m c k at (s.consts_below c.0 k at)))
      (kind_made c.0 (λ d lt. made_below size d (omega (arith, lt, below)) (omega (arith, lt, within))) k (s.consts c.0 k at) (s.consts_below c.0 k at))

  -- each list in a constant that is there has the elements that its type asks for, and each splat such lanes
  pub made_there : (c : LLVMConst) → c.0 < length m.consts → HasElements (structs_of m) (const c)
  made_there c within = made_below (suc c.0) c (omega arith) within

  module _ (n : ℕ) (known : (c : LLVMConst) → c.0 < n → is_placeholder (const c) ≡ false → IsFormConst (const c)) where
    each_form : (cs : List LLVMConst) → All (λ (c : LLVMConst). c.0 < n) cs → ((i : ℕ) (c : LLVMConst) → slice_get cs i ≡ Some c → is_placeholder (const c) ≡ false) → AreFormConsts (consts_at (trees_of m).consts cs)
    each_form [] below own = tt
    each_form (c ∷ cs) below own = (known c (All-head (λ (d : LLVMConst). d.0 < n) c cs below) (own 0 c refl), each_form cs (All-tail (λ (d : LLVMConst). d.0 < n) c cs below) (λ i d at. own (suc i) d at))

    kind_form : (k : LLVMConstKind) → IsConstIn m k → IsMadeBelow n k → K.is_placeholder k ≡ false → IsFormConst (const_tree (trees_of m).types (trees_of m).consts k)
    kind_form (C.Int t v) (w, at, fits) below own =
        subst (λ (τ : TypeTree). (1 ≤ width_in τ) × IsIntAt (width_in τ) v) (sym (int_tree_of m t w s at)) ((s.types t.0 (T.Int w) at).0, fits)
    kind_form (C.Filled fill t) (within, form) below own = ap (is_own_fill fill) (sym (shape_there m s t within)) ∙ form
    kind_form (C.Bytes t bytes) over below own = (over.0.1, formed_told (C.Bytes t bytes) over.0 over.1)
    kind_form (C.List t cs) over below own = (
      formed_told (C.List t cs) over.0 over.1,
      each_form cs below (elements_own t cs over.0),
    )
    kind_form (C.Splat t c) ((size, u, at, one), form) below own = (formed_told (C.Splat t c) (size, u, at, one) form, known c below (element_own c u one))
    kind_form (C.Placeholder number t) over below own = absurd cc

  form_below : (size : ℕ) (c : LLVMConst) → c.0 < size → c.0 < length m.consts → is_placeholder (const c) ≡ false → IsFormConst (const c)
  form_below zero c below within own = absurd (omega (arith, below))
  form_below (suc size) c below within own =
      let (k, at) = item_there m.consts c.0 within in
      subst IsFormConst (sym (const_tree_of m c k at (s.consts_below c.0 k at)))
      (kind_form c.0 (λ d lt. form_below size d (omega (arith, lt, below)) (omega (arith, lt, within))) k (s.consts c.0 k at) (s.consts_below c.0 k at) (sym (holder_at c k at) ∙ own))

  -- a constant that is there, and no placeholder, is in the one form, all the way in
  pub form_there : (c : LLVMConst) (k : LLVMConstKind) → slice_get m.consts c.0 ≡ Some k → K.is_placeholder k ≡ false → IsFormConst (const c)
  form_there c k at own = form_below (suc c.0) c (omega arith) (slice_get_within m.consts c.0 k at) (holder_at c k at ∙ own)
