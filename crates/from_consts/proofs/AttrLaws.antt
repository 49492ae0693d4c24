-- The attribute of a constant has its type and its term.
use Rattle.std.proofs.Common.{ℕ, ◌≡◌, ◌∙◌, refl, sym, ap, List, Option, Some, None}
use Rattle.std.specs.Option.{option_map, option_and_then}
use Rattle.std.proofs.lemmas.Option.{same_Some}
use Rattle.kinds.specs.Types.{TypeTree, IntType}
use Rattle.kinds.specs.Structs.{renamed}
use Rattle.kinds.proofs.RenamedLaws.{renamed_self}
use Rattle.llvm_core.specs.Data.{ConstTree, IntConst, FilledConst, BytesConst, ListConst, SplatConst, PlaceholderConst, ConstTrees, NoConsts, ThenConst, const_type}
use Rattle.const_attrs.specs.Trees.{AttrTree, AttrTrees, IntegerAttr, FilledAttr, BytesAttr, AggregateAttr, NoAttrs, ThenAttr, type_of}
use Rattle.meaning.specs.Constants.{list_term}
use Rattle.meaning.specs.Dialect.{attr_term, attr_terms}
use Rattle.meaning.specs.Llvm.{const_term, const_terms}
use Rattle.meaning.specs.Setting.{Setting}
use Rattle.meaning.specs.Terms.{Match, Term, ThenTerm, rename, rename_all, rename_type}
use Rattle.meaning.proofs.TermLaws.{filled_under, bytes_under, list_under, term_stays, terms_stay}
use Rattle.from_consts.specs.Constants.{attr_of, attrs_of}

-- ---- types

module _ (to : List ℕ → List ℕ) where
  list_type : (t : TypeTree) (o : Option AttrTrees) (a : AttrTree) → option_map (λ (cs : AttrTrees). AggregateAttr cs (renamed to t)) o ≡ Some a → type_of a ≡ renamed to t
  list_type t None a is = cc
  list_type t (Some cs) a is = ap type_of (sym (same_Some (AggregateAttr cs (renamed to t)) a is))

  -- the attribute has the constant's type, ds structs are called
  pub attr_type : (c : ConstTree) (a : AttrTree) → attr_of to c ≡ Some a → type_of a ≡ renamed to (const_type c)
  attr_type (IntConst width value) a is = ap type_of (sym (same_Some (IntegerAttr (IntType width) value) a is))
  attr_type (FilledConst fill t) a is = ap type_of (sym (same_Some (FilledAttr fill (renamed to t)) a is))
  attr_type (BytesConst bytes) a is = ap type_of (sym (same_Some (BytesAttr bytes) a is))
  attr_type (ListConst t cs) a is = list_type t (attrs_of to cs) a is
  attr_type (SplatConst t c) a is = cc
  attr_type (PlaceholderConst number t) a is = cc

-- ---- terms

-- the parts of attributes of more than one
then_attrs : (o : Option AttrTree) (u : Option AttrTrees) (cs : AttrTrees) → option_and_then (λ (a : AttrTree). option_map (ThenAttr a) u) o ≡ Some cs
    → (a : AttrTree) × (ds : AttrTrees) × (o ≡ Some a) × (u ≡ Some ds) × (ThenAttr a ds ≡ cs)
then_attrs None u cs is = cc
then_attrs (Some a) None cs is = cc
then_attrs (Some a) (Some ds) cs is = (a, ds, refl, refl, same_Some (ThenAttr a ds) cs is)

list_attr : (t : TypeTree) (o : Option AttrTrees) (a : AttrTree) → option_map (λ (cs : AttrTrees). AggregateAttr cs t) o ≡ Some a → (ds : AttrTrees) × (o ≡ Some ds) × (AggregateAttr ds t ≡ a)
list_attr t None a is = cc
list_attr t (Some ds) a is = (ds, refl, same_Some (AggregateAttr ds t) a is)

module _ (match : Match) (setting : Setting) where
  -- the attribute has the constant's term, ds structs are called
  mutual
    pub attr_holds : (c : ConstTree) (a : AttrTree) → attr_of match.struct c ≡ Some a → attr_term setting a ≡ rename match (const_term setting c)
    attr_holds (IntConst width value) a is = ap (attr_term setting) (sym (same_Some (IntegerAttr (IntType width) value) a is))
    attr_holds (FilledConst fill t) a is = ap (attr_term setting) (sym (same_Some (FilledAttr fill (rename_type match t)) a is)) ∙ sym (filled_under match fill t)
    attr_holds (BytesConst bytes) a is = ap (attr_term setting) (sym (same_Some (BytesAttr bytes) a is)) ∙ sym (bytes_under match bytes)
    attr_holds (ListConst t cs) a is =
        let (ds, all, whole) = list_attr (rename_type match t) (attrs_of match.struct cs) a is in
        ap (attr_term setting) (sym whole) ∙ ap (list_term (rename_type match t)) (attrs_hold cs ds all) ∙ sym (list_under match t (const_terms setting cs))
    attr_holds (SplatConst t c) a is = cc
    attr_holds (PlaceholderConst number t) a is = cc

    pub attrs_hold : (cs : ConstTrees) (ds : AttrTrees) → attrs_of match.struct cs ≡ Some ds → attr_terms setting ds ≡ rename_all match (const_terms setting cs)
    attrs_hold NoConsts ds is = ap (attr_terms setting) (sym (same_Some NoAttrs ds is))
    attrs_hold (ThenConst c cs) ds is =
        let (b, bs, one, rest, whole) = then_attrs (attr_of match.struct c) (attrs_of match.struct cs) ds is in
        ap (attr_terms setting) (sym whole) ∙ ap (λ (t : Term). ThenTerm t (attr_terms setting bs)) (attr_holds c b one) ∙ ap (ThenTerm (rename match (const_term setting c))) (attrs_hold cs bs rest)

-- ---- where structs keep their names

-- the attribute has the constant's type
pub attr_type_same : (c : ConstTree) (a : AttrTree) → attr_of (λ (name : List ℕ). name) c ≡ Some a → type_of a ≡ const_type c
attr_type_same c a is = attr_type (λ (name : List ℕ). name) c a is ∙ renamed_self (λ (name : List ℕ). name) (λ n. refl) (const_type c)

abbrev same_names : Match
same_names = record { block = λ f b. b; struct = λ name. name }

-- and its term
pub attr_same : (setting : Setting) (c : ConstTree) (a : AttrTree) → attr_of (λ (name : List ℕ). name) c ≡ Some a → attr_term setting a ≡ const_term setting c
attr_same setting c a is = attr_holds same_names setting c a is ∙ term_stays same_names (λ n. refl) (const_term setting c)

pub attrs_same : (setting : Setting) (cs : ConstTrees) (ds : AttrTrees) → attrs_of (λ (name : List ℕ). name) cs ≡ Some ds → attr_terms setting ds ≡ const_terms setting cs
attrs_same setting cs ds is = attrs_hold same_names setting cs ds is ∙ terms_stay same_names (λ n. refl) (const_terms setting cs)
