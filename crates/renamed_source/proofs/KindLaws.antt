-- What stays of kinds of types where structs get other names: shapes, parameters, and how many there are.
use Rattle.std.proofs.Common.{◌≡◌, ℕ, List, [], Option, Some, None, map, slice_get, refl, sym, ap, ◌∙◌, subst, All, true, arith}
use Rattle.std.proofs.Math.Path.{fun_ext}
use Rattle.std.specs.Option.{option_map, option_map_or}
use Rattle.std.proofs.lemmas.Option.{slice_get-map}
use Rattle.support.specs.Interned.{IsDistinctList}
use Rattle.support.proofs.OptionLaws.{part_of}
use Rattle.kinds.specs.declared.fitting.Shape.{Shape}
use Rattle.kinds.specs.declared.fitting.Shape.TheVariants as S
use Rattle.kinds.specs.declared.fitting.Laned.{Laned}
use Rattle.kinds.specs.declared.fitting.TypeView.{TypeView}
use Rattle.kinds.specs.Types.{one, many}
use Rattle.kinds.specs.Fitting as F
use Rattle.llvm_core.specs.declared.numbers.LLVMType.{LLVMType}
use Rattle.llvm_core.specs.declared.types.LLVMTypeKind.{LLVMTypeKind}
use Rattle.llvm_core.specs.declared.types.LLVMTypeKind.TheVariants as T
use Rattle.llvm_core.specs.Parts.{IsTypeOver, HasFitParts, kind_params, shape_of, shape_at, laned_of, laned_at, type_params, view}
use Rattle.renamed_source.specs.Names.{renamed_kind}

-- ---- lists of which each item is changed

pub mapped_at : {X Y : Type 0} (f : X → Y) (xs : List X) (i : ℕ) (x : X) → slice_get xs i ≡ Some x → slice_get (map f xs) i ≡ Some (f x)
mapped_at f xs i x at = slice_get-map f xs i ∙ ap (option_map f) at

pub mapped_from : {X Y : Type 0} (f : X → Y) (xs : List X) (i : ℕ) (y : Y) → slice_get (map f xs) i ≡ Some y → (x : X) × (slice_get xs i ≡ Some x) × (f x ≡ y)
mapped_from f xs i y at = let r = part_of f (slice_get xs i) y (sym (slice_get-map f xs i) ∙ at) in (r.0, r.1.0, r.1.1)

pub mapped_or : {X Y Z : Type 0} (f : X → Y) (g : Y → Z) (h : X → Z) → ((x : X) → g (f x) ≡ h x) → (o : Option X) (d : Z) → option_map_or g (option_map f o) d ≡ option_map_or h o d
mapped_or f g h same None d = refl
mapped_or f g h same (Some x) d = same x

pub mapped_once : {X Y : Type 0} (f : X → Y) → ((x y : X) → f x ≡ f y → x ≡ y) → (xs : List X) → IsDistinctList xs → IsDistinctList (map f xs)
mapped_once f apart xs once i j y at also =
    let a = mapped_from f xs i y at in
    let b = mapped_from f xs j y also in
    once i j a.0 a.1 (b.1 ∙ ap Some (apart b.0 a.0 (b.2 ∙ sym a.2)))

-- ---- kinds

module _ (to : List ℕ → List ℕ) where
  kind_shape : (k : LLVMTypeKind) → shape_of (renamed_kind to k) ≡ shape_of k
  kind_shape T.Void = refl
  kind_shape (T.Int width) = refl
  kind_shape (T.Ptr space) = refl
  kind_shape (T.Floating of) = refl
  kind_shape (T.Other of) = refl
  kind_shape (T.Array count t) = refl
  kind_shape (T.Vector kind count t) = refl
  kind_shape (T.Literal fields layout) = refl
  kind_shape (T.Named name) = refl
  kind_shape (T.Function result params variadic) = refl

  same_params : (k : LLVMTypeKind) → kind_params (renamed_kind to k) ≡ kind_params k
  same_params T.Void = refl
  same_params (T.Int width) = refl
  same_params (T.Ptr space) = refl
  same_params (T.Floating of) = refl
  same_params (T.Other of) = refl
  same_params (T.Array count t) = refl
  same_params (T.Vector kind count t) = refl
  same_params (T.Literal fields layout) = refl
  same_params (T.Named name) = refl
  same_params (T.Function result params variadic) = refl

  -- a kind has its shape
  pub renamed_shape_of : (k : LLVMTypeKind) → shape_of (renamed_kind to k) ≡ shape_of k
  renamed_shape_of k = kind_shape k

  pub renamed_shapes : (types : List LLVMTypeKind) → shape_at (map (renamed_kind to) types) ≡ shape_at types
  renamed_shapes types = fun_ext (λ (t : LLVMType).
      ap (λ (o : Option LLVMTypeKind). option_map_or shape_of o S.Void) (slice_get-map (renamed_kind to) types t.0) ∙ mapped_or (renamed_kind to) shape_of shape_of kind_shape (slice_get types t.0) S.Void)

  kind_laned : (types : List LLVMTypeKind) (k : LLVMTypeKind) → laned_of (map (renamed_kind to) types) (renamed_kind to k) ≡ laned_of types k
  kind_laned types (T.Vector kind count t) = ap (λ (shapes : LLVMType → Shape). many kind count (shapes t)) (renamed_shapes types)
  kind_laned types k = ap one (kind_shape k)

  pub renamed_laneds : (types : List LLVMTypeKind) → laned_at (map (renamed_kind to) types) ≡ laned_at types
  renamed_laneds types = fun_ext (λ (t : LLVMType).
      ap (λ (o : Option LLVMTypeKind). option_map_or (laned_of (map (renamed_kind to) types)) o (one S.Void)) (slice_get-map (renamed_kind to) types t.0)
      ∙ mapped_or (renamed_kind to) (laned_of (map (renamed_kind to) types)) (laned_of types) (kind_laned types) (slice_get types t.0) (one S.Void))

  pub renamed_views : (types : List LLVMTypeKind) → view (map (renamed_kind to) types) ≡ view types
  renamed_views types = ap (λ (laneds : LLVMType → Laned). let f : LLVMType → TypeView = (λ t. record { number = t.0; laned = laneds t }) in f) (renamed_laneds types)

  pub renamed_type_params : (types : List LLVMTypeKind) → type_params (map (renamed_kind to) types) ≡ type_params types
  renamed_type_params types = fun_ext (λ (t : LLVMType).
      ap (λ (o : Option LLVMTypeKind). option_map_or kind_params o []) (slice_get-map (renamed_kind to) types t.0) ∙ mapped_or (renamed_kind to) kind_params kind_params same_params (slice_get types t.0) [])

  pub kind_over : (n : ℕ) (k : LLVMTypeKind) → IsTypeOver n k → IsTypeOver n (renamed_kind to k)
  kind_over n T.Void h = h
  kind_over n (T.Int width) h = h
  kind_over n (T.Ptr space) h = h
  kind_over n (T.Floating of) h = h
  kind_over n (T.Other of) h = h
  kind_over n (T.Array count t) h = h
  kind_over n (T.Vector kind count t) h = h
  kind_over n (T.Literal fields layout) h = h
  kind_over n (T.Named name) h = h
  kind_over n (T.Function result params variadic) h = h

  pub kind_fits : (types : List LLVMTypeKind) (k : LLVMTypeKind) → HasFitParts types k → HasFitParts (map (renamed_kind to) types) (renamed_kind to k)
  kind_fits types (T.Array count t) h = subst (λ (s : LLVMType → Shape). F.is_array_of count (s t) ≡ true) (sym (renamed_shapes types)) h
  kind_fits types (T.Vector kind count t) h = subst (λ (s : LLVMType → Shape). F.is_vector_of count (s t) ≡ true) (sym (renamed_shapes types)) h
  kind_fits types (T.Literal fields layout) h = subst (λ (s : LLVMType → Shape). All (λ (t : LLVMType). F.is_field (s t) ≡ true) fields) (sym (renamed_shapes types)) h
  kind_fits types T.Void h = h
  kind_fits types (T.Int width) h = h
  kind_fits types (T.Ptr space) h = h
  kind_fits types (T.Floating of) h = h
  kind_fits types (T.Other of) h = h
  kind_fits types (T.Named name) h = h
  kind_fits types (T.Function result params variadic) h = h

  -- names that differ differ still
  pub kind_injective : ((a b : List ℕ) → to a ≡ to b → a ≡ b) → (k l : LLVMTypeKind) → renamed_kind to k ≡ renamed_kind to l → k ≡ l
  kind_injective apart (T.Named a) (T.Named b) h = ap T.Named (apart a b (cc))
  kind_injective apart k l h = grind arith
