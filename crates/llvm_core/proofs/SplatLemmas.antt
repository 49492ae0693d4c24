-- The kind of a vector of which each lane is one constant has its parts, and is in one form the tree that is asked for.
use Rattle.std.proofs.Common.{◌≡◌, ◌<◌, ◌≤◌, ℕ, zero, suc, Bool, true, false, ◌&&◌, if◌then◌else◌, List, [], ◌∷◌, Option, Some, None, All, length, slice_get, replicate, refl, sym, ap, ◌∙◌, subst, arith}
use Rattle.std.specs.List.{list_all}
use Rattle.std.specs.Option.{option_map_or, option_and_then}
use Rattle.std.proofs.lemmas.List.{length-replicate}
use Rattle.std.proofs.lemmas.List.Elements.{All-replicate}
use Rattle.std.proofs.lemmas.Option.{same_Some, slice_get_within}
use Rattle.support.proofs.ListLaws.{item_there}
use Rattle.kinds.specs.declared.fill.Fill.{Fill}
use Rattle.kinds.specs.declared.fill.Fill.TheVariants as F
use Rattle.kinds.specs.declared.fitting.Shape.{Shape}
use Rattle.kinds.specs.declared.types.VectorTypeKind.{VectorTypeKind}
use Rattle.kinds.specs.declared.types.VectorTypeKind.TheVariants as N
use Rattle.kinds.specs.Fitting.{is_vector_of}
use Rattle.kinds.specs.Types.{TypeTree, VectorType, shape}
use Rattle.llvm_core.specs.declared.numbers.LLVMType.{LLVMType}
use Rattle.llvm_core.specs.declared.numbers.LLVMConst.{LLVMConst}
use Rattle.llvm_core.specs.declared.types.LLVMTypeKind.{LLVMTypeKind}
use Rattle.llvm_core.specs.declared.types.LLVMTypeKind.TheVariants as T
use Rattle.llvm_core.specs.declared.consts.LLVMConstKind.{LLVMConstKind}
use Rattle.llvm_core.specs.declared.consts.LLVMConstKind.TheVariants as C
use Rattle.llvm_core.specs.Module.{Module}
use Rattle.llvm_core.specs.Parts.{const_type, shape_at}
use Rattle.llvm_core.specs.Sound.{IsModule}
use Rattle.llvm_core.specs.Consts.{HasConstParts, IsElement, fill_of, is_fill, common_fill}
use Rattle.llvm_core.specs.Holding.{IsSplatOf, lanes_of}
use Rattle.llvm_core.specs.Data.{ConstTree, FilledConst, ListConst, SplatConst, ConstTrees, ThenConst, type_at, type_tree, const_at, consts_at, const_tree, trees_of, fill_in, told_of, filled_const, listed, formed}
use Rattle.llvm_core.specs.Elements.{is_element, copies, splat_const}
use Rattle.llvm_core.proofs.DataLemmas.{type_tree_of}
use Rattle.llvm_core.proofs.ElementLemmas.{element_told, element_is}
use Rattle.llvm_core.proofs.FormTrees.{fill_there}
use Rattle.llvm_core.proofs.PieceLemmas.{one_at}

-- ---- lists of one thing

passes_one : {X : Type 0} (p : X → Bool) (n : ℕ) (x : X) → list_all p (replicate (suc n) x) ≡ p x
passes_one p zero x = by (p x)
  where
    by : (b : Bool) → (b && true) ≡ b
    by true = refl
    by false = refl
passes_one p (suc n) x = by (p x) (passes_one p n x)
  where
    by : (b : Bool) → list_all p (replicate (suc n) x) ≡ b → (b && list_all p (replicate (suc n) x)) ≡ b
    by true rest = rest
    by false rest = refl

-- so many of one fill have that in common
common_one : (n : ℕ) (o : Option Fill) → common_fill (replicate (suc n) o) ≡ o
common_one n o =
    let zeros = passes_one (is_fill F.Zero) n o in
    let undefs = passes_one (is_fill F.Undef) n o in
    let poisons = passes_one (is_fill F.Poison) n o in
    ap (λ (b : Bool). if b then Some F.Zero else if list_all (is_fill F.Undef) (replicate (suc n) o) then Some F.Undef else if list_all (is_fill F.Poison) (replicate (suc n) o) then Some F.Poison else None) zeros
    ∙ ap (λ (b : Bool). if is_fill F.Zero o then Some F.Zero else if b then Some F.Undef else if list_all (is_fill F.Poison) (replicate (suc n) o) then Some F.Poison else None) undefs
    ∙ ap (λ (b : Bool). if is_fill F.Zero o then Some F.Zero else if is_fill F.Undef o then Some F.Undef else if b then Some F.Poison else None) poisons
    ∙ by o
  where
    by : (o : Option Fill) → (if is_fill F.Zero o then Some F.Zero else if is_fill F.Undef o then Some F.Undef else if is_fill F.Poison o then Some F.Poison else None) ≡ o
    by None = refl
    by (Some F.Zero) = refl
    by (Some F.Undef) = refl
    by (Some F.Poison) = refl

told_copies : {X : Type 0} (f : ConstTree → Option X) (n : ℕ) (d : ConstTree) → told_of f (copies n d) ≡ replicate n (f d)
told_copies f zero d = refl
told_copies f (suc n) d = ap (λ os. f d ∷ os) (told_copies f n d)

made_own : (fill : Fill) (kind : VectorTypeKind) (n : ℕ) (τ : TypeTree) → filled_const fill (VectorType kind n τ) ≡ FilledConst fill (VectorType kind n τ)
made_own F.Zero kind n τ = refl
made_own F.Undef kind n τ = refl
made_own F.Poison kind n τ = refl

-- ---- trees

-- the list of lanes that are all zero, undef or poison is that
listed_fill : (n : ℕ) (τ : TypeTree) (d : ConstTree) (fill : Fill) → 1 ≤ n → fill_in d ≡ Some fill → listed (VectorType N.Fixed n τ) (copies n d) ≡ FilledConst fill (VectorType N.Fixed n τ)
listed_fill zero τ d fill some h = absurd (omega (arith, some))
listed_fill (suc n) τ d fill some h =
    ap (λ (o : Option Fill). option_map_or (λ fill. FilledConst fill (VectorType N.Fixed (suc n) τ)) o (ListConst (VectorType N.Fixed (suc n) τ) (copies (suc n) d)))
    (ap common_fill (told_copies fill_in (suc n) d) ∙ common_one n (fill_in d) ∙ h)

-- a vector each lane of which is zero, undef or poison is that
splat_fill : (kind : VectorTypeKind) (n : ℕ) (τ : TypeTree) (d : ConstTree) (fill : Fill) → 1 ≤ n → is_element τ d ≡ true → fill_in d ≡ Some fill
    → splat_const (VectorType kind n τ) d ≡ Some (filled_const fill (VectorType kind n τ))
splat_fill N.Fixed n τ d fill some one h =
    ap (λ (b : Bool). if b then Some (listed (VectorType N.Fixed n τ) (copies n d)) else None) one
    ∙ ap Some (listed_fill n τ d fill some h ∙ sym (made_own fill N.Fixed n τ))
splat_fill N.Scalable n τ d fill some one h =
    ap (λ (b : Bool). if b then Some (formed (SplatConst (VectorType N.Scalable n τ) d)) else None) one
    ∙ ap Some (ap (λ (o : Option Fill). option_map_or (λ fill. FilledConst fill (VectorType N.Scalable n τ)) o (SplatConst (VectorType N.Scalable n τ) d)) h ∙ sym (made_own fill N.Scalable n τ))

-- ---- kinds

-- a vector has lanes
some_lanes : (n : ℕ) (of : Shape) → is_vector_of n of ≡ true → 1 ≤ n
some_lanes zero of e = cc
some_lanes (suc n) of e = omega arith

module _ (m : Module) (s : IsModule m) (t : LLVMType) (c : LLVMConst) where
  abbrev tree : LLVMType → TypeTree
  tree t = type_at (trees_of m).types t

  abbrev const : ConstTree
  const = const_at (trees_of m).consts c

  pub splat_within : IsSplatOf m t c → t.0 < length m.types
  splat_within (kind, n, e, at, one) = slice_get_within m.types t.0 (T.Vector kind n e) at

  -- where the constant is zero, undef or poison
  pub filled_splat : (fill : Fill) → IsSplatOf m t c → option_and_then fill_of (slice_get m.consts c.0) ≡ Some fill → splat_const (tree t) const ≡ Some (filled_const fill (tree t))
  filled_splat fill (kind, n, e, at, one) h =
      let typed : tree t ≡ VectorType kind n (tree e) = type_tree_of m t (T.Vector kind n e) s at in
      let some = some_lanes n (shape_at m.types e) (s.types_fit t.0 (T.Vector kind n e) at) in
      let own = fill_there m s c one.0 one.1 ∙ h in
      ap (λ (τ : TypeTree). splat_const τ const) typed ∙ splat_fill kind n (tree e) const fill some (element_told m s c e one) own ∙ ap (λ (τ : TypeTree). Some (filled_const fill τ)) (sym typed)

  copied : (n : ℕ) → consts_at (trees_of m).consts (replicate n c) ≡ copies n const
  copied zero = refl
  copied (suc n) = ap (ThenConst const) (copied n)

  -- any other
  lanes_by : (kind : VectorTypeKind) (n : ℕ) (e : LLVMType) → slice_get m.types t.0 ≡ Some (T.Vector kind n e) → IsElement m.consts e c
      → splat_const (VectorType kind n (tree e)) const ≡ Some (formed (const_tree (trees_of m).types (trees_of m).consts (lanes_of (T.Vector kind n e) t c)))
  lanes_by N.Fixed n e at one =
      let typed : tree t ≡ VectorType N.Fixed n (tree e) = type_tree_of m t (T.Vector N.Fixed n e) s at in
      ap (λ (b : Bool). if b then Some (listed (VectorType N.Fixed n (tree e)) (copies n const)) else None) (element_told m s c e one)
      ∙ ap (λ (ds : ConstTrees). Some (listed (VectorType N.Fixed n (tree e)) ds)) (sym (copied n)) ∙ ap (λ (τ : TypeTree). Some (listed τ (consts_at (trees_of m).consts (replicate n c)))) (sym typed)
  lanes_by N.Scalable n e at one =
      let typed : tree t ≡ VectorType N.Scalable n (tree e) = type_tree_of m t (T.Vector N.Scalable n e) s at in
      ap (λ (b : Bool). if b then Some (formed (SplatConst (VectorType N.Scalable n (tree e)) const)) else None) (element_told m s c e one) ∙ ap (λ (τ : TypeTree). Some (formed (SplatConst τ const))) (sym typed)

  parts_by : (kind : VectorTypeKind) (n : ℕ) (e : LLVMType) → slice_get m.types t.0 ≡ Some (T.Vector kind n e) → IsElement m.consts e c → HasConstParts m (lanes_of (T.Vector kind n e) t c)
  parts_by N.Fixed n e at one = record {
    kind = T.Vector N.Fixed n e;
    parts = replicate n e;
    typed = at;
    fit = (length-replicate n e, All-replicate (λ (u : LLVMType). u ≡ e) n e refl);
    count = length-replicate n c ∙ sym (length-replicate n e);
    each = λ i d u here is. subst (λ (v : LLVMType). IsElement m.consts v d) (sym (one_at n e u i is)) (subst (IsElement m.consts e) (sym (one_at n c d i here)) one);
  }
  parts_by N.Scalable n e at one = (n, e, at, one)

  pub lanes_splat : (k : LLVMTypeKind) → slice_get m.types t.0 ≡ Some k → IsSplatOf m t c → splat_const (tree t) const ≡ Some (formed (const_tree (trees_of m).types (trees_of m).consts (lanes_of k t c)))
  lanes_splat k here (kind, n, e, at, one) =
      let same : T.Vector kind n e ≡ k = same_Some (T.Vector kind n e) k (sym at ∙ here) in
      let typed : tree t ≡ VectorType kind n (tree e) = type_tree_of m t (T.Vector kind n e) s at in
      ap (λ (τ : TypeTree). splat_const τ const) typed ∙ lanes_by kind n e at one ∙ ap (λ (x : LLVMTypeKind). Some (formed (const_tree (trees_of m).types (trees_of m).consts (lanes_of x t c)))) same

  pub lanes_parts : (k : LLVMTypeKind) → slice_get m.types t.0 ≡ Some k → IsSplatOf m t c → HasConstParts m (lanes_of k t c)
  lanes_parts k here (kind, n, e, at, one) = subst (λ (x : LLVMTypeKind). HasConstParts m (lanes_of x t c)) (same_Some (T.Vector kind n e) k (sym at ∙ here)) (parts_by kind n e at one)

  -- ---- from the trees

  module _ (within : t.0 < length m.types) (there : c.0 < length m.consts) where
    vector_asked : (kind : VectorTypeKind) (n : ℕ) (e : LLVMType) → slice_get m.types t.0 ≡ Some (T.Vector kind n e) → is_element (tree e) const ≡ true → IsSplatOf m t c
    vector_asked kind n e at one =
        let below : e.0 < t.0 = s.types t.0 (T.Vector kind n e) at in
        (kind, n, e, at, element_is m s c e there (omega (arith, below, within)) one)

    asked_by : (kind : VectorTypeKind) (n : ℕ) (e : LLVMType) → slice_get m.types t.0 ≡ Some (T.Vector kind n e) → (d : ConstTree) → splat_const (VectorType kind n (tree e)) const ≡ Some d → IsSplatOf m t c
    asked_by N.Fixed n e at d h = by (is_element (tree e) const) refl h
      where
        by : (b : Bool) → is_element (tree e) const ≡ b → (if b then Some (listed (VectorType N.Fixed n (tree e)) (copies n const)) else None) ≡ Some d → IsSplatOf m t c
        by true one h = vector_asked N.Fixed n e at one
        by false one h = absurd cc
    asked_by N.Scalable n e at d h = by (is_element (tree e) const) refl h
      where
        by : (b : Bool) → is_element (tree e) const ≡ b → (if b then Some (formed (SplatConst (VectorType N.Scalable n (tree e)) const)) else None) ≡ Some d → IsSplatOf m t c
        by true one h = vector_asked N.Scalable n e at one
        by false one h = absurd cc

    -- a type and a constant whose trees make a splat are those of one
    pub splat_asked : (d : ConstTree) → splat_const (tree t) const ≡ Some d → IsSplatOf m t c
    splat_asked d h =
        let (k, at) = item_there m.types t.0 within in
        by k at (sym (ap (λ (τ : TypeTree). splat_const τ const) (type_tree_of m t k s at)) ∙ h)
      where
        by : (k : LLVMTypeKind) → slice_get m.types t.0 ≡ Some k → splat_const (type_tree (trees_of m).types k) const ≡ Some d → IsSplatOf m t c
        by (T.Vector kind n e) at h = asked_by kind n e at d h
        by T.Void at h = absurd cc
        by (T.Int w) at h = absurd cc
        by (T.Ptr space) at h = absurd cc
        by (T.Floating of) at h = absurd cc
        by (T.Other of) at h = absurd cc
        by (T.Array n e) at h = absurd cc
        by (T.Literal fields layout) at h = absurd cc
        by (T.Named name) at h = absurd cc
        by (T.Function result params variadic) at h = absurd cc

    -- others make none
    pub splat_denied : (¬ IsSplatOf m t c) → splat_const (tree t) const ≡ None
    splat_denied deny = by (splat_const (tree t) const) refl
      where
        by : (o : Option ConstTree) → splat_const (tree t) const ≡ o → splat_const (tree t) const ≡ None
        by None h = h
        by (Some d) h = absurd (deny (splat_asked d h))

-- the type of the lanes of a vector
pub lanes_typed : (k : LLVMTypeKind) (t : LLVMType) (c : LLVMConst) → const_type (lanes_of k t c) ≡ t
lanes_typed (T.Vector N.Fixed n e) t c = refl
lanes_typed (T.Vector N.Scalable n e) t c = refl
lanes_typed T.Void t c = refl
lanes_typed (T.Int w) t c = refl
lanes_typed (T.Ptr space) t c = refl
lanes_typed (T.Floating of) t c = refl
lanes_typed (T.Other of) t c = refl
lanes_typed (T.Array n e) t c = refl
lanes_typed (T.Literal fields layout) t c = refl
lanes_typed (T.Named name) t c = refl
lanes_typed (T.Function result params variadic) t c = refl
