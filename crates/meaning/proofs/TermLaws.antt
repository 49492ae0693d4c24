-- Terms under a match: those of constants go with their types' structs under other names, and a match that renames no struct leaves
-- each term.
use Rattle.std.proofs.Common.{◌≡◌, ℕ, zero, suc, Bool, true, false, refl, ap, sym, ◌∙◌, List, [], ◌∷◌, map, length, Option, Some, None, if◌then◌else◌}
use Rattle.std.specs.Option.{option_map_or}
use Rattle.kinds.specs.declared.fill.Fill.{Fill}
use Rattle.kinds.specs.declared.fitting.Shape.{Shape}
use Rattle.kinds.specs.declared.types.VectorTypeKind.TheVariants as V
use Rattle.kinds.specs.Fill.{is_own_fill}
use Rattle.kinds.specs.Fitting.{width_of}
use Rattle.kinds.specs.Held.{width_in}
use Rattle.kinds.specs.Types.{TypeTree, VoidType, IntType, PointerType, FloatingType, RefusedType, ArrayType, VectorType, StructType, NamedType, FunctionType, shape}
use Rattle.kinds.proofs.RenamedLaws.{renamed_self, renamed_shape}
use Rattle.llvm_core.specs.Consts.{common_fill}
use Rattle.llvm_core.specs.Data.{ConstTree, IntConst, FilledConst, BytesConst, ListConst, SplatConst, PlaceholderConst, ConstTrees, NoConsts, ThenConst}
use Rattle.meaning.specs.Terms.{Term, Param, Answer, Unset, Int, Filled, ListOf, SplatOf, Expr, Insert, Terms, NoTerms, ThenTerm, Path, Places, PlaceOf, Match, terms_of, filled_term, rename, rename_all, rename_path, rename_type}
use Rattle.meaning.specs.Constants.{fill_of, fills_of, list_term, bytes_term, splat_term, copies, lanes_term}
use Rattle.meaning.specs.Setting.{Setting}
use Rattle.meaning.specs.Llvm.{const_term, const_terms}
use Rattle.meaning.specs.Renamed.{renamed_const, renamed_consts}

-- ---- a match that renames no struct

module _ (match : Match) (stays : (n : List ℕ) → match.struct n ≡ n) where
  -- it leaves each type
  type_stays : (t : TypeTree) → rename_type match t ≡ t
  type_stays t = renamed_self match.struct stays t

  -- and each term
  mutual
    pub term_stays : (t : Term) → rename match t ≡ t
    term_stays (Param i) = refl
    term_stays (Answer n) = refl
    term_stays Unset = refl
    term_stays (Int w v) = refl
    term_stays (Filled fill ty) = ap (Filled fill) (type_stays ty)
    term_stays (ListOf ty ts) = cc (type_stays ty, terms_stay ts)
    term_stays (SplatOf ty t) = cc (type_stays ty, term_stays t)
    term_stays (Expr o ty ts) = cc (type_stays ty, terms_stay ts)
    term_stays (Insert ty a p e) = cc (type_stays ty, term_stays a, path_stays p, term_stays e)

    pub terms_stay : (ts : Terms) → rename_all match ts ≡ ts
    terms_stay NoTerms = refl
    terms_stay (ThenTerm t ts) = cc (term_stays t, terms_stay ts)

    path_stays : (p : Path) → rename_path match p ≡ p
    path_stays (Places ns) = refl
    path_stays (PlaceOf t) = ap PlaceOf (term_stays t)

-- ---- the terms of constants

-- the term of zero, undef or poison, whose type names structs otherwise
pub filled_under : (match : Match) (fill : Fill) (t : TypeTree) → rename match (filled_term fill t) ≡ filled_term fill (rename_type match t)
filled_under match fill t =
    by (is_own_fill fill (shape t))
    ∙ ap (λ (s : Shape). if is_own_fill fill s then Filled fill (rename_type match t) else Int (width_of s) 0) (sym (renamed_shape match.struct t))
  where
    by : (b : Bool) → rename match (if b then Filled fill t else Int (width_in t) 0) ≡ (if b then Filled fill (rename_type match t) else Int (width_in t) 0)
    by true = refl
    by false = refl

module _ (match : Match) where
  -- what is zero, undef or poison stays that
  pub fill_under : (t : Term) → fill_of (rename match t) ≡ fill_of t
  fill_under (Param i) = refl
  fill_under (Answer n) = refl
  fill_under Unset = refl
  fill_under (Int w v) = refl
  fill_under (Filled fill ty) = refl
  fill_under (ListOf ty ts) = refl
  fill_under (SplatOf ty t) = refl
  fill_under (Expr o ty ts) = refl
  fill_under (Insert ty a p e) = refl

  pub fills_under : (ts : Terms) → fills_of (rename_all match ts) ≡ fills_of ts
  fills_under NoTerms = refl
  fills_under (ThenTerm t ts) = ap (λ (o : Option Fill). o ∷ fills_of (rename_all match ts)) (fill_under t) ∙ ap (λ (os : List (Option Fill)). fill_of t ∷ os) (fills_under ts)

  -- the term that is folded up, or stands as it is
  folded_under : (ty : TypeTree) (t : Term) (o : Option Fill)
      → rename match (option_map_or (λ (fill : Fill). Filled fill ty) o t) ≡ option_map_or (λ (fill : Fill). Filled fill (rename_type match ty)) o (rename match t)
  folded_under ty t None = refl
  folded_under ty t (Some fill) = refl

  pub list_under : (ty : TypeTree) (ts : Terms) → rename match (list_term ty ts) ≡ list_term (rename_type match ty) (rename_all match ts)
  list_under ty ts =
      folded_under ty (ListOf ty ts) (common_fill (fills_of ts))
      ∙ ap (λ (os : List (Option Fill)). option_map_or (λ (fill : Fill). Filled fill (rename_type match ty)) (common_fill os) (ListOf (rename_type match ty) (rename_all match ts))) (sym (fills_under ts))

  -- integers have no types
  ints_under : (w : ℕ) (values : List ℕ) → rename_all match (terms_of (map (Int w) values)) ≡ terms_of (map (Int w) values)
  ints_under w [] = refl
  ints_under w (v ∷ vs) = ap (ThenTerm (Int w v)) (ints_under w vs)

  pub bytes_under : (bytes : List ℕ) → rename match (bytes_term bytes) ≡ bytes_term bytes
  bytes_under bytes =
      list_under (ArrayType (length bytes) (IntType 8)) (terms_of (map (Int 8) bytes))
      ∙ ap (list_term (ArrayType (length bytes) (IntType 8))) (ints_under 8 bytes)

  pub splat_under : (ty : TypeTree) (t : Term) → rename match (splat_term ty t) ≡ splat_term (rename_type match ty) (rename match t)
  splat_under ty t =
      folded_under ty (SplatOf ty t) (fill_of t)
      ∙ ap (λ (o : Option Fill). option_map_or (λ (fill : Fill). Filled fill (rename_type match ty)) o (SplatOf (rename_type match ty) (rename match t))) (sym (fill_under t))

  copies_under : (n : ℕ) (t : Term) → rename_all match (copies n t) ≡ copies n (rename match t)
  copies_under zero t = refl
  copies_under (suc n) t = ap (ThenTerm (rename match t)) (copies_under n t)

  pub lanes_under : (ty : TypeTree) (t : Term) → rename match (lanes_term ty t) ≡ lanes_term (rename_type match ty) (rename match t)
  lanes_under VoidType t = splat_under VoidType t
  lanes_under (IntType w) t = splat_under (IntType w) t
  lanes_under (PointerType space) t = splat_under (PointerType space) t
  lanes_under (FloatingType of) t = splat_under (FloatingType of) t
  lanes_under (RefusedType of) t = splat_under (RefusedType of) t
  lanes_under (ArrayType count u) t = splat_under (ArrayType count u) t
  lanes_under (VectorType V.Fixed count u) t = list_under (VectorType V.Fixed count u) (copies count t) ∙ ap (list_term (VectorType V.Fixed count (rename_type match u))) (copies_under count t)
  lanes_under (VectorType V.Scalable count u) t = splat_under (VectorType V.Scalable count u) t
  lanes_under (StructType layout us) t = splat_under (StructType layout us) t
  lanes_under (NamedType name) t = splat_under (NamedType name) t
  lanes_under (FunctionType result params variadic) t = splat_under (FunctionType result params variadic) t

  -- the term of a constant whose types name structs otherwise, a line for each kind
  mutual
    pub const_under : (setting : Setting) (c : ConstTree) → rename match (const_term setting c) ≡ const_term setting (renamed_const match.struct c)
    const_under setting (IntConst w v) = refl
    const_under setting (FilledConst fill t) = filled_under match fill t
    const_under setting (BytesConst bytes) = bytes_under bytes
    const_under setting (ListConst t cs) = list_under t (const_terms setting cs) ∙ ap (list_term (rename_type match t)) (consts_under setting cs)
    const_under setting (SplatConst t c) = splat_under t (const_term setting c) ∙ ap (splat_term (rename_type match t)) (const_under setting c)
    const_under setting (PlaceholderConst n t) = refl

    pub consts_under : (setting : Setting) (cs : ConstTrees) → rename_all match (const_terms setting cs) ≡ const_terms setting (renamed_consts match.struct cs)
    consts_under setting NoConsts = refl
    consts_under setting (ThenConst c cs) = ap (λ (t : Term). ThenTerm t (rename_all match (const_terms setting cs))) (const_under setting c) ∙ ap (ThenTerm (const_term setting (renamed_const match.struct c))) (consts_under setting cs)
