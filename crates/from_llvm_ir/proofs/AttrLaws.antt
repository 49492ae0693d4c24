-- The attribute of a constant whose structs have the identifiers of the dialect already: its term, and the rules that it keeps.
use Rattle.std.proofs.Common.{ℕ, zero, suc, ◌≡◌, ◌<◌, ◌≤◌, ◌^◌, ◌∙◌, ◌⊎◌, inl, inr, refl, sym, ap, subst, Bool, true, false, nat_le, nat_lt, List, Option, Some, None, arith}
use Rattle.std.specs.Option.{option_map, option_map_or, option_and_then, option_or}
use Rattle.std.proofs.lemmas.Bool.{and_from, eq-eqb, le-leb, lt-ltb}
use Rattle.std.proofs.lemmas.Option.{same_Some}
use Rattle.kinds.specs.declared.fill.Fill.{Fill}
use Rattle.kinds.specs.declared.types.VectorTypeKind.TheVariants as N
use Rattle.kinds.specs.Fill.{is_own_fill}
use Rattle.kinds.specs.Types.{TypeTree, VoidType, IntType, PointerType, FloatingType, RefusedType, ArrayType, VectorType, StructType, NamedType, FunctionType, TypeTrees, NoTypes, ThenType, same_tree, count_types, shape}
use Rattle.kinds.specs.Structs.{Struct, StructBody, struct_in, renamed}
use Rattle.kinds.proofs.RenamedLaws.{renamed_self}
use Rattle.kinds.proofs.TypeLaws.{and_left, and_right}
use Rattle.llvm_core.specs.Data.{ConstTree, IntConst, FilledConst, BytesConst, ListConst, SplatConst, PlaceholderConst, ConstTrees, NoConsts, ThenConst, const_type}
use Rattle.llvm_core.specs.Elements.{HasElements, HaveElements, are_all, are_each, are_elements}
use Rattle.llvm_core.specs.Form.{IsFormConst, AreFormConsts, IsShortConst, AreShort}
use Rattle.const_attrs.specs.declared.attr_err.AttrErr.{AttrErr}
use Rattle.const_attrs.specs.declared.attr_err.AttrErr.TheVariants as E
use Rattle.const_attrs.specs.Trees.{AttrTree, AttrTrees, IntegerAttr, FilledAttr, BytesAttr, AggregateAttr, NoAttrs, ThenAttr}
use Rattle.const_attrs.specs.Verified.{OfOne, OneOfEach, elements_of, fields_in, count_attrs, has_type, all_have, each_has, misfit, unless, is_in_range, broken, broken_in}
use Rattle.const_attrs.proofs.ListLaws.{none_wrong}
use Rattle.dialect_core.specs.Form.{IsShortAttr, AreShortAttrs, IsRuledKind}
use Rattle.dialect_core.specs.Data.{Kind, ConstantOp, FilledOp}
use Rattle.meaning.specs.Constants.{list_term}
use Rattle.meaning.specs.Dialect.{attr_term, attr_terms}
use Rattle.meaning.specs.Llvm.{const_term, const_terms}
use Rattle.meaning.specs.Setting.{Setting}
use Rattle.meaning.specs.Terms.{Term, ThenTerm, filled_term}
use Rattle.from_consts.proofs.AttrLaws.{attr_type_same}
use Rattle.from_llvm_ir.specs.Attrs.{own_attr, own_attrs}
use Rattle.from_llvm_ir.specs.Imported.{own_kind}

-- ---- types

-- a type whose structs keep their names stays
pub type_own : (t : TypeTree) → renamed (λ (n : List ℕ). n) t ≡ t
type_own t = renamed_self (λ (n : List ℕ). n) (λ n. refl) t

-- ---- the attributes of elements

-- those of a list
pub list_parts : (t : TypeTree) (o : Option AttrTrees) (a : AttrTree) → option_map (λ (cs : AttrTrees). AggregateAttr cs t) o ≡ Some a → (ds : AttrTrees) × (o ≡ Some ds) × (a ≡ AggregateAttr ds t)
list_parts t None a is = cc
list_parts t (Some ds) a is = (ds, refl, sym (same_Some (AggregateAttr ds t) a is))

-- of more than one the first and the others
then_parts : (o : Option AttrTree) (u : Option AttrTrees) (cs : AttrTrees) → option_and_then (λ (a : AttrTree). option_map (ThenAttr a) u) o ≡ Some cs → (a : AttrTree) × (ds : AttrTrees) × (o ≡ Some a) × (u ≡ Some ds) × (cs ≡ ThenAttr a ds)
then_parts None u cs is = cc
then_parts (Some a) None cs is = cc
then_parts (Some a) (Some ds) cs is = (a, ds, refl, refl, sym (same_Some (ThenAttr a ds) cs is))

-- an element has the type that was asked for
element_typed : (τ : TypeTree) (c : ConstTree) (a : AttrTree) → same_tree (const_type c) τ ≡ true → own_attr c ≡ Some a → has_type a τ ≡ true
element_typed τ c a is one = ap (λ (t : TypeTree). same_tree t τ) (attr_type_same c a one) ∙ is

all_fit : (n : ℕ) (τ : TypeTree) (cs : ConstTrees) (ds : AttrTrees) → are_all n τ cs ≡ true → own_attrs cs ≡ Some ds → (count_attrs ds ≡ n) × (all_have ds τ ≡ true)
all_fit zero τ NoConsts ds h is = subst (λ (xs : AttrTrees). (count_attrs xs ≡ 0) × (all_have xs τ ≡ true)) (same_Some NoAttrs ds is) (refl, refl)
all_fit zero τ (ThenConst c cs) ds h is = cc
all_fit (suc n) τ NoConsts ds h is = cc
all_fit (suc n) τ (ThenConst c cs) ds h is =
    let (b, bs, one, more, whole) = then_parts (own_attr c) (own_attrs cs) ds is in
    let first = and_left (same_tree (const_type c) τ) _ (and_left _ (are_all n τ cs) h) in
    let rest = all_fit n τ cs bs (and_right _ (are_all n τ cs) h) more in
    let many = rest.0 in
    subst (λ (xs : AttrTrees). (count_attrs xs ≡ suc n) × (all_have xs τ ≡ true)) (sym whole) (omega (arith, many), and_from (has_type b τ) (all_have bs τ) (element_typed τ c b first one) rest.1)

each_fit : (τs : TypeTrees) (cs : ConstTrees) (ds : AttrTrees) → are_each τs cs ≡ true → own_attrs cs ≡ Some ds → (count_attrs ds ≡ count_types τs) × (each_has ds τs ≡ true)
each_fit NoTypes NoConsts ds h is = subst (λ (xs : AttrTrees). (count_attrs xs ≡ 0) × (each_has xs NoTypes ≡ true)) (same_Some NoAttrs ds is) (refl, refl)
each_fit NoTypes (ThenConst c cs) ds h is = cc
each_fit (ThenType τ τs) NoConsts ds h is = cc
each_fit (ThenType τ τs) (ThenConst c cs) ds h is =
    let (b, bs, one, more, whole) = then_parts (own_attr c) (own_attrs cs) ds is in
    let first = and_left (same_tree (const_type c) τ) _ (and_left _ (are_each τs cs) h) in
    let rest = each_fit τs cs bs (and_right _ (are_each τs cs) h) more in
    let many = rest.0 in
    subst (λ (xs : AttrTrees). (count_attrs xs ≡ count_types (ThenType τ τs)) × (each_has xs (ThenType τ τs) ≡ true)) (sym whole) (omega (arith, many), and_from (has_type b τ) (each_has bs τs) (element_typed τ c b first one) rest.1)

one_fits : (n : ℕ) (τ : TypeTree) (cs : ConstTrees) (ds : AttrTrees) → are_all n τ cs ≡ true → own_attrs cs ≡ Some ds → misfit ds (Some (OfOne n τ)) ≡ None
one_fits n τ cs ds h is = let fit = all_fit n τ cs ds h is in sym (none_wrong ds (OfOne n τ) (eq-eqb (count_attrs ds) n fit.0) (sym fit.1))

fields_fit : (τs : TypeTrees) (cs : ConstTrees) (ds : AttrTrees) → are_each τs cs ≡ true → own_attrs cs ≡ Some ds → misfit ds (Some (OneOfEach τs)) ≡ None
fields_fit τs cs ds h is = let fit = each_fit τs cs ds h is in sym (none_wrong ds (OneOfEach τs) (eq-eqb (count_attrs ds) (count_types τs) fit.0) (sym fit.1))

named_fits : (s : Option Struct) (cs : ConstTrees) (ds : AttrTrees) → option_map_or (λ (b : StructBody). are_each b.fields cs) (option_and_then (λ (s : Struct). s.body) s) false ≡ true → own_attrs cs ≡ Some ds → misfit ds (fields_in s) ≡ None
named_fits None cs ds h is = cc
named_fits (Some s) cs ds h is = by s.body h
  where
    by : (b : Option StructBody) → option_map_or (λ (b : StructBody). are_each b.fields cs) b false ≡ true → misfit ds (option_map (λ (b : StructBody). OneOfEach b.fields) b) ≡ None
    by None h = cc
    by (Some b) h = fields_fit b.fields cs ds h is

module _ (structs : List Struct) where
  -- the attributes of the elements of a list fit its type: a line for each kind that has elements
  elements_fit : (t : TypeTree) (cs : ConstTrees) (ds : AttrTrees) → are_elements structs t cs ≡ true → own_attrs cs ≡ Some ds → misfit ds (elements_of structs t) ≡ None
  elements_fit (ArrayType n τ) cs ds h is = one_fits n τ cs ds h is
  elements_fit (VectorType N.Fixed n τ) cs ds h is = one_fits n τ cs ds h is
  elements_fit (StructType layout τs) cs ds h is = fields_fit τs cs ds h is
  elements_fit (NamedType name) cs ds h is = named_fits (struct_in structs name) cs ds h is
  elements_fit (VectorType N.Scalable n τ) cs ds h is = cc
  elements_fit VoidType cs ds h is = cc
  elements_fit (IntType w) cs ds h is = cc
  elements_fit (PointerType space) cs ds h is = cc
  elements_fit (FloatingType of) cs ds h is = cc
  elements_fit (RefusedType of) cs ds h is = cc
  elements_fit (FunctionType r ps v) cs ds h is = cc

  in_range : (w v : ℕ) → w ≤ 64 → v < 2 ^ w → unless (is_in_range (IntType w) v) E.IntRange ≡ None
  in_range w v few below = ap (λ (x : Bool). unless x E.IntRange) (and_from (nat_le w 64) (nat_lt v (2 ^ w)) (le-leb w 64 few) (lt-ltb v (2 ^ w) below))

  -- ---- the rules of constants

  mutual
    -- the attribute keeps them
    pub attr_keeps : (c : ConstTree) (a : AttrTree) → IsFormConst c → IsShortConst c → HasElements structs c → own_attr c ≡ Some a → broken structs a ≡ None
    attr_keeps (IntConst w v) a f s e is = ap (broken structs) (sym (same_Some (IntegerAttr (IntType w) v) a is)) ∙ in_range w v s f.1.0
    attr_keeps (FilledConst fill t) a f s e is = ap (broken structs) (sym (same_Some (FilledAttr fill (renamed (λ (n : List ℕ). n) t)) a is))
    attr_keeps (BytesConst bytes) a f s e is = ap (broken structs) (sym (same_Some (BytesAttr bytes) a is))
    attr_keeps (ListConst t cs) a f s e is =
        let (ds, all, whole) = list_parts (renamed (λ (n : List ℕ). n) t) (own_attrs cs) a is in
        ap (broken structs) whole ∙ ap (λ (u : TypeTree). broken structs (AggregateAttr ds u)) (type_own t)
        ∙ ap (λ (o : Option AttrErr). option_or o (broken_in structs ds)) (elements_fit t cs ds e.0 all) ∙ attrs_keep cs ds f.1 s e.1 all
    attr_keeps (SplatConst t c) a f s e is = absurd s
    attr_keeps (PlaceholderConst n t) a f s e is = absurd f

    pub attrs_keep : (cs : ConstTrees) (ds : AttrTrees) → AreFormConsts cs → AreShort cs → HaveElements structs cs → own_attrs cs ≡ Some ds → broken_in structs ds ≡ None
    attrs_keep NoConsts ds f s e is = ap (broken_in structs) (sym (same_Some NoAttrs ds is))
    attrs_keep (ThenConst c cs) ds f s e is =
        let (b, bs, one, more, whole) = then_parts (own_attr c) (own_attrs cs) ds is in
        ap (broken_in structs) whole ∙ ap (λ (o : Option AttrErr). option_or o (broken_in structs bs)) (attr_keeps c b f.0 s.0 e.0 one) ∙ attrs_keep cs bs f.1 s.1 e.1 more

-- ---- what is translated

-- zero, undef or poison of what is no integer type
pub own_fill : (fill : Fill) (t : TypeTree) → is_own_fill fill (shape t) ≡ true → is_own_fill fill (shape t) ≡ false → ⊥
own_fill fill t own other = cc (own, other)

mutual
  -- the attribute is one that is translated back
  pub attr_short : (c : ConstTree) (a : AttrTree) → IsFormConst c → IsShortConst c → own_attr c ≡ Some a → IsShortAttr a
  attr_short (IntConst w v) a f s is = subst IsShortAttr (same_Some (IntegerAttr (IntType w) v) a is) (w, refl, (f.0, s), f.1.0)
  attr_short (FilledConst fill t) a f s is =
      subst IsShortAttr (same_Some (FilledAttr fill (renamed (λ (n : List ℕ). n) t)) a is)
      (λ other. absurd (own_fill fill t f (ap (λ (u : TypeTree). is_own_fill fill (shape u)) (sym (type_own t)) ∙ other)))
  attr_short (BytesConst bytes) a f s is = subst IsShortAttr (same_Some (BytesAttr bytes) a is) f.0
  attr_short (ListConst t cs) a f s is =
      let (ds, all, whole) = list_parts (renamed (λ (n : List ℕ). n) t) (own_attrs cs) a is in
      subst IsShortAttr (sym whole) (attrs_short cs ds f.1 s all)
  attr_short (SplatConst t c) a f s is = absurd s
  attr_short (PlaceholderConst n t) a f s is = absurd f

  pub attrs_short : (cs : ConstTrees) (ds : AttrTrees) → AreFormConsts cs → AreShort cs → own_attrs cs ≡ Some ds → AreShortAttrs ds
  attrs_short NoConsts ds f s is = subst AreShortAttrs (same_Some NoAttrs ds is) tt
  attrs_short (ThenConst c cs) ds f s is =
      let (b, bs, one, more, whole) = then_parts (own_attr c) (own_attrs cs) ds is in
      subst AreShortAttrs (sym whole) (attr_short c b f.0 s.0 one, attrs_short cs bs f.1 s.1 more)

-- ---- terms

module _ (source made : Setting) where
  mutual
    -- the attribute has the constant's term
    pub attr_means : (c : ConstTree) (a : AttrTree) → own_attr c ≡ Some a → attr_term made a ≡ const_term source c
    attr_means (IntConst w v) a is = ap (attr_term made) (sym (same_Some (IntegerAttr (IntType w) v) a is))
    attr_means (FilledConst fill t) a is = ap (attr_term made) (sym (same_Some (FilledAttr fill (renamed (λ (n : List ℕ). n) t)) a is)) ∙ ap (filled_term fill) (type_own t)
    attr_means (BytesConst bytes) a is = ap (attr_term made) (sym (same_Some (BytesAttr bytes) a is))
    attr_means (ListConst t cs) a is =
        let (ds, all, whole) = list_parts (renamed (λ (n : List ℕ). n) t) (own_attrs cs) a is in
        ap (attr_term made) whole ∙ ap (λ (u : TypeTree). list_term u (attr_terms made ds)) (type_own t) ∙ ap (list_term t) (attrs_mean cs ds all)
    attr_means (SplatConst t c) a is = cc
    attr_means (PlaceholderConst n t) a is = cc

    pub attrs_mean : (cs : ConstTrees) (ds : AttrTrees) → own_attrs cs ≡ Some ds → attr_terms made ds ≡ const_terms source cs
    attrs_mean NoConsts ds is = ap (attr_terms made) (sym (same_Some NoAttrs ds is))
    attrs_mean (ThenConst c cs) ds is =
        let (b, bs, one, more, whole) = then_parts (own_attr c) (own_attrs cs) ds is in
        ap (attr_terms made) whole ∙ ap (λ (t : Term). ThenTerm t (attr_terms made bs)) (attr_means c b one) ∙ ap (ThenTerm (const_term source c)) (attrs_mean cs bs more)

-- ---- the kinds of operations

-- zero, undef or poison of a type
pub record IsFilledKind (c : ConstTree) (k : Kind) : Type 0 where
  pub fill : Fill
  pub type : TypeTree
  pub tree : c ≡ FilledConst fill type
  pub is : k ≡ FilledOp fill

-- or an attribute
pub record IsAttrKind (c : ConstTree) (k : Kind) : Type 0 where
  pub attr : AttrTree
  pub of : own_attr c ≡ Some attr
  pub is : k ≡ ConstantOp attr

-- the operation of a constant holds one of them
pub kind_cases : (c : ConstTree) (k : Kind) → own_kind c ≡ Some k → IsFilledKind c k ⊎ IsAttrKind c k
kind_cases (IntConst w v) k is = inr (record { attr = IntegerAttr (IntType w) v; of = refl; is = sym (same_Some (ConstantOp (IntegerAttr (IntType w) v)) k is) })
kind_cases (FilledConst fill t) k is = inl (record { fill = fill; type = t; tree = refl; is = sym (same_Some (FilledOp fill) k is) })
kind_cases (BytesConst bytes) k is = inr (record { attr = BytesAttr bytes; of = refl; is = sym (same_Some (ConstantOp (BytesAttr bytes)) k is) })
kind_cases (ListConst t cs) k is = by (own_attr (ListConst t cs)) refl is
  where
    by : (o : Option AttrTree) → own_attr (ListConst t cs) ≡ o → option_map ConstantOp o ≡ Some k → IsFilledKind (ListConst t cs) k ⊎ IsAttrKind (ListConst t cs) k
    by None e is = cc
    by (Some a) e is = inr (record { attr = a; of = e; is = sym (same_Some (ConstantOp a) k is) })
kind_cases (SplatConst t c) k is = cc
kind_cases (PlaceholderConst n t) k is = cc

-- it keeps the rules of constants
pub kind_ruled : (structs : List Struct) (c : ConstTree) (k : Kind) → IsFormConst c → IsShortConst c → HasElements structs c → own_kind c ≡ Some k → IsRuledKind structs k
kind_ruled structs c k f s e is = elim (kind_cases c k is) [
  | inl h ↦ subst (IsRuledKind structs) (sym h.is) tt
  | inr h ↦ subst (IsRuledKind structs) (sym h.is) (attr_keeps structs c h.attr f s e h.of)
]
