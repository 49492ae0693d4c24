-- Constants of each kind, from their symbols: what makes each, and what leaves none.
use Rattle.std.proofs.Common.{◌≡◌, ◌<◌, ◌≤◌, ◌+◌, ℕ, true, false, All, List, ◌∷◌, sym, subst, ap, ◌∙◌, arith}
use Rattle.kinds.specs.declared.fill.Fill.{Fill}
use Rattle.dialect_types.specs.Trees.{NamedStruct, TypeTree}
use Rattle.const_attrs.specs.Trees.{AttrTree, AttrTrees, IntegerAttr, FilledAttr, BytesAttr, AggregateAttr, SplatAttr, attr_depth, attrs_depth}
use Rattle.dialect_parsing.specs.declared.symbol.Symbol.{Symbol}
use Rattle.dialect_parsing.specs.declared.symbol.Symbol.TheVariants as S
use Rattle.dialect_parsing.specs.ConstantReading.{AreBytesRead, AreNoBytes, IsEndRead, IsNoEnd, IsAttrRead, IsNoAttr, AreAttrsRead, AreNoAttrs}
use Rattle.dialect_parsing.specs.Constants.{listed_numbers, attr_written, listed_attrs, IsAttrOfDialect, AreAttrsOfDialect, IsSpelledType}
use Rattle.dialect_parsing.specs.Reading.{is_width, IsRead}
use Rattle.dialect_parsing.specs.Spelling.{written, IsOfDialect}
use Rattle.dialect_parsing.proofs.ReadingLaws.{one}
use Rattle.dialect_parsing.proofs.PlainLaws.{width_is, not_both, same_first}
use Rattle.dialect_parsing.proofs.ConstantLaws.{inner, one_numbers, one_attr, one_attrs}

module _ (structs : List NamedStruct) where
  -- ---- a type at the end

  -- no sign closes the constant behind a type that was read
  pub end_open : (ss mid : List Symbol) (t : TypeTree) → IsRead structs 1000 ss t mid → ((us : List Symbol) → mid ≡ S.Greater ∷ us → ⊥) → IsNoEnd structs ss
  end_open ss mid t a h u left k = h left (one structs t u mid (S.Greater ∷ left) a.fine k.spelled.0 (sym a.is ∙ k.is)).1

  -- ---- integers

  record IsInteger (ss left : List Symbol) : Type 0 where
    value : ℕ
    width : ℕ
    is : ss ≡ S.Less ∷ S.Number value ∷ S.Colon ∷ S.Bits width ∷ S.Greater ∷ left
    fine : is_width width ≡ true

  integer_back : (room : ℕ) (ss left : List Symbol) (c : AttrTree) → IsAttrRead structs room (S.Integer ∷ ss) c left → IsInteger ss left
  integer_back room ss left c k = by c k.fine k.is
    where
      by : (d : AttrTree) → IsAttrOfDialect structs d → S.Integer ∷ ss ≡ attr_written d left → IsInteger ss left
      by (IntegerAttr t n) fine e =
          let x = inner t (S.Greater ∷ left) fine.0 in
          let same = x.is in
          let type = x.type in
          record { value = n; width = x.width; is = cc; fine = width_is x.width (subst (IsOfDialect structs) type fine.1.0) }
      by d fine e = cc

  pub integer_opens : (ss : List Symbol) → ((us : List Symbol) → ss ≡ S.Less ∷ us → ⊥) → (room : ℕ) → IsNoAttr structs room (S.Integer ∷ ss)
  integer_opens ss h room c left k = let x = integer_back room ss left c k in h _ x.is

  pub integer_values : (ss mid : List Symbol) → ss ≡ S.Less ∷ mid → ((n : ℕ) (us : List Symbol) → mid ≡ S.Number n ∷ us → ⊥) → (room : ℕ) → IsNoAttr structs room (S.Integer ∷ ss)
  integer_values ss mid a h room c left k =
      let x = integer_back room ss left c k in
      let e = x.is in
      h x.value (S.Colon ∷ S.Bits x.width ∷ S.Greater ∷ left) (cc)

  pub integer_colons : (ss mid next : List Symbol) (n : ℕ) → ss ≡ S.Less ∷ mid → mid ≡ S.Number n ∷ next → ((us : List Symbol) → next ≡ S.Colon ∷ us → ⊥) → (room : ℕ) → IsNoAttr structs room (S.Integer ∷ ss)
  integer_colons ss mid next n a b h room c left k =
      let x = integer_back room ss left c k in
      let e = x.is in
      h (S.Bits x.width ∷ S.Greater ∷ left) (cc)

  pub integer_widths : (ss mid next of : List Symbol) (n : ℕ) → ss ≡ S.Less ∷ mid → mid ≡ S.Number n ∷ next → next ≡ S.Colon ∷ of → ((w : ℕ) (us : List Symbol) → of ≡ S.Bits w ∷ us → is_width w ≡ false) → (room : ℕ) → IsNoAttr structs room (S.Integer ∷ ss)
  integer_widths ss mid next of n a b d h room c left k =
      let x = integer_back room ss left c k in
      let e = x.is in
      not_both (is_width x.width) x.fine (h x.width (S.Greater ∷ left) (cc))

  pub integer_ends : (ss mid next of end : List Symbol) (n w : ℕ) → ss ≡ S.Less ∷ mid → mid ≡ S.Number n ∷ next → next ≡ S.Colon ∷ of → of ≡ S.Bits w ∷ end → ((us : List Symbol) → end ≡ S.Greater ∷ us → ⊥) → (room : ℕ) → IsNoAttr structs room (S.Integer ∷ ss)
  integer_ends ss mid next of end n w a b d f h room c left k =
      let x = integer_back room ss left c k in
      let e = x.is in
      h left (cc)

  -- ---- zero, undef and poison

  record IsFilled (ss left : List Symbol) : Type 0 where
    type : TypeTree
    is : ss ≡ S.Less ∷ written type (S.Greater ∷ left)
    spelled : IsSpelledType structs type

  filled_back : (room : ℕ) (fill : Fill) (ss left : List Symbol) (c : AttrTree) → IsAttrRead structs room (S.Filled fill ∷ ss) c left → IsFilled ss left
  filled_back room fill ss left c k = by c k.fine k.is
    where
      by : (d : AttrTree) → IsAttrOfDialect structs d → S.Filled fill ∷ ss ≡ attr_written d left → IsFilled ss left
      by (FilledAttr f t) fine e = record { type = t; is = cc; spelled = fine }
      by d fine e = cc

  pub filled_opens : (fill : Fill) (ss : List Symbol) → ((us : List Symbol) → ss ≡ S.Less ∷ us → ⊥) → (room : ℕ) → IsNoAttr structs room (S.Filled fill ∷ ss)
  filled_opens fill ss h room c left k = let x = filled_back room fill ss left c k in h _ x.is

  pub filled_ends : (fill : Fill) (ss mid : List Symbol) → ss ≡ S.Less ∷ mid → IsNoEnd structs mid → (room : ℕ) → IsNoAttr structs room (S.Filled fill ∷ ss)
  filled_ends fill ss mid a h room c left k =
      let x = filled_back room fill ss left c k in
      let e = x.is in
      h x.type left (record { is = cc; spelled = x.spelled })

  -- ---- bytes

  record IsBytes (ss left : List Symbol) : Type 0 where
    bytes : List ℕ
    is : ss ≡ S.Less ∷ S.OpenBracket ∷ listed_numbers bytes (S.CloseBracket ∷ S.Greater ∷ left)
    small : All (λ (b : ℕ). b < 256) bytes

  bytes_back : (room : ℕ) (ss left : List Symbol) (c : AttrTree) → IsAttrRead structs room (S.Bytes ∷ ss) c left → IsBytes ss left
  bytes_back room ss left c k = by c k.fine k.is
    where
      by : (d : AttrTree) → IsAttrOfDialect structs d → S.Bytes ∷ ss ≡ attr_written d left → IsBytes ss left
      by (BytesAttr bytes) fine e = record { bytes = bytes; is = cc; small = fine }
      by d fine e = cc

  bytes_list : (ss mid list left : List Symbol) → ss ≡ S.Less ∷ mid → mid ≡ S.OpenBracket ∷ list → (x : IsBytes ss left) → AreBytesRead list x.bytes (S.Greater ∷ left)
  bytes_list ss mid list left a b x = let e = x.is in record { is = cc; small = x.small }

  pub bytes_open : (ss : List Symbol) → ((us : List Symbol) → ss ≡ S.Less ∷ us → ⊥) → (room : ℕ) → IsNoAttr structs room (S.Bytes ∷ ss)
  bytes_open ss h room c left k = let x = bytes_back room ss left c k in h _ x.is

  pub bytes_bracket : (ss mid : List Symbol) → ss ≡ S.Less ∷ mid → ((us : List Symbol) → mid ≡ S.OpenBracket ∷ us → ⊥) → (room : ℕ) → IsNoAttr structs room (S.Bytes ∷ ss)
  bytes_bracket ss mid a h room c left k =
      let x = bytes_back room ss left c k in
      let e = x.is in
      h (listed_numbers x.bytes (S.CloseBracket ∷ S.Greater ∷ left)) (cc)

  pub bytes_none : (ss mid list : List Symbol) → ss ≡ S.Less ∷ mid → mid ≡ S.OpenBracket ∷ list → AreNoBytes list → (room : ℕ) → IsNoAttr structs room (S.Bytes ∷ ss)
  bytes_none ss mid list a b h room c left k = let x = bytes_back room ss left c k in h x.bytes (S.Greater ∷ left) (bytes_list ss mid list left a b x)

  pub bytes_end : (ss mid list end : List Symbol) (bytes : List ℕ) → ss ≡ S.Less ∷ mid → mid ≡ S.OpenBracket ∷ list → AreBytesRead list bytes end → ((us : List Symbol) → end ≡ S.Greater ∷ us → ⊥) → (room : ℕ) → IsNoAttr structs room (S.Bytes ∷ ss)
  bytes_end ss mid list end bytes a b d h room c left k =
      let x = bytes_back room ss left c k in
      let y = bytes_list ss mid list left a b x in
      h left (one_numbers bytes x.bytes end (S.Greater ∷ left) (sym d.is ∙ y.is)).1

  -- ---- aggregates

  pub aggregate_by : (room : ℕ) (ss mid list next of left : List Symbol) (cs : AttrTrees) (t : TypeTree) (c : AttrTree) → ss ≡ S.Less ∷ mid → mid ≡ S.OpenBracket ∷ list → AreAttrsRead structs room list cs next → next ≡ S.Colon ∷ of → IsEndRead structs of t left → c ≡ AggregateAttr cs t
      → IsAttrRead structs (1 + room) (S.Aggregate ∷ ss) c left
  aggregate_by room ss mid list next of left cs t c a b d e f is =
      let deep = d.fits in
      rw is (record {
        is =
            ap (λ (x : List Symbol). S.Aggregate ∷ x)
            (a ∙ ap (λ (x : List Symbol). S.Less ∷ x) (b ∙ ap (λ (x : List Symbol). S.OpenBracket ∷ x) (d.is ∙ ap (λ (x : List Symbol). listed_attrs cs (S.CloseBracket ∷ x)) (e ∙ ap (λ (x : List Symbol). S.Colon ∷ x) f.is))));
        fine = (d.fine, f.spelled);
        fits = omega arith;
      })

  record IsAggregate (room : ℕ) (ss left : List Symbol) : Type 0 where
    elements : AttrTrees
    type : TypeTree
    is : ss ≡ S.Less ∷ S.OpenBracket ∷ listed_attrs elements (S.CloseBracket ∷ S.Colon ∷ written type (S.Greater ∷ left))
    fine : AreAttrsOfDialect structs elements
    fits : attrs_depth elements ≤ room
    spelled : IsSpelledType structs type

  aggregate_back : (room : ℕ) (ss left : List Symbol) (c : AttrTree) → IsAttrRead structs (1 + room) (S.Aggregate ∷ ss) c left → IsAggregate room ss left
  aggregate_back room ss left c k = by c k.fine k.fits k.is
    where
      by : (d : AttrTree) → IsAttrOfDialect structs d → attr_depth d ≤ 1 + room → S.Aggregate ∷ ss ≡ attr_written d left → IsAggregate room ss left
      by (AggregateAttr cs t) fine fits e = record { elements = cs; type = t; is = cc; fine = fine.0; fits = omega arith; spelled = fine.1 }
      by d fine fits e = cc

  aggregate_list : (room : ℕ) (ss mid list left : List Symbol) → ss ≡ S.Less ∷ mid → mid ≡ S.OpenBracket ∷ list → (x : IsAggregate room ss left) → AreAttrsRead structs room list x.elements (S.Colon ∷ written x.type (S.Greater ∷ left))
  aggregate_list room ss mid list left a b x = let e = x.is in record { is = cc; fine = x.fine; fits = x.fits }

  -- behind its elements
  aggregate_next : (room : ℕ) (ss mid list next left : List Symbol) (cs : AttrTrees) → ss ≡ S.Less ∷ mid → mid ≡ S.OpenBracket ∷ list → AreAttrsRead structs room list cs next → (x : IsAggregate room ss left) → next ≡ S.Colon ∷ written x.type (S.Greater ∷ left)
  aggregate_next room ss mid list next left cs a b d x =
      let k = aggregate_list room ss mid list left a b x in
      (one_attrs structs cs x.elements next (S.Colon ∷ written x.type (S.Greater ∷ left)) d.fine k.fine (sym d.is ∙ k.is)).1

  pub aggregate_opens : (room : ℕ) (ss : List Symbol) → ((us : List Symbol) → ss ≡ S.Less ∷ us → ⊥) → IsNoAttr structs (1 + room) (S.Aggregate ∷ ss)
  aggregate_opens room ss h c left k = let x = aggregate_back room ss left c k in h _ x.is

  pub aggregate_brackets : (room : ℕ) (ss mid : List Symbol) → ss ≡ S.Less ∷ mid → ((us : List Symbol) → mid ≡ S.OpenBracket ∷ us → ⊥) → IsNoAttr structs (1 + room) (S.Aggregate ∷ ss)
  aggregate_brackets room ss mid a h c left k =
      let x = aggregate_back room ss left c k in
      let e = x.is in
      h (listed_attrs x.elements (S.CloseBracket ∷ S.Colon ∷ written x.type (S.Greater ∷ left))) (cc)

  pub aggregate_lists : (room : ℕ) (ss mid list : List Symbol) → ss ≡ S.Less ∷ mid → mid ≡ S.OpenBracket ∷ list → AreNoAttrs structs room list → IsNoAttr structs (1 + room) (S.Aggregate ∷ ss)
  aggregate_lists room ss mid list a b h c left k =
      let x = aggregate_back room ss left c k in
      h x.elements (S.Colon ∷ written x.type (S.Greater ∷ left)) (aggregate_list room ss mid list left a b x)

  pub aggregate_colons : (room : ℕ) (ss mid list next : List Symbol) (cs : AttrTrees) → ss ≡ S.Less ∷ mid → mid ≡ S.OpenBracket ∷ list → AreAttrsRead structs room list cs next → ((us : List Symbol) → next ≡ S.Colon ∷ us → ⊥) → IsNoAttr structs (1 + room) (S.Aggregate ∷ ss)
  aggregate_colons room ss mid list next cs a b d h c left k = let x = aggregate_back room ss left c k in h _ (aggregate_next room ss mid list next left cs a b d x)

  pub aggregate_ends : (room : ℕ) (ss mid list next of : List Symbol) (cs : AttrTrees) → ss ≡ S.Less ∷ mid → mid ≡ S.OpenBracket ∷ list → AreAttrsRead structs room list cs next → next ≡ S.Colon ∷ of → IsNoEnd structs of → IsNoAttr structs (1 + room) (S.Aggregate ∷ ss)
  aggregate_ends room ss mid list next of cs a b d e h c left k =
      let x = aggregate_back room ss left c k in
      let f = aggregate_next room ss mid list next left cs a b d x in
      h x.type left (record { is = cc; spelled = x.spelled })

  -- ---- splats

  pub splat_by : (room : ℕ) (ss mid next of left : List Symbol) (element : AttrTree) (t : TypeTree) (c : AttrTree) → ss ≡ S.Less ∷ mid → IsAttrRead structs room mid element next → next ≡ S.Colon ∷ of → IsEndRead structs of t left → c ≡ SplatAttr element t → IsAttrRead structs (1 + room) (S.Splat ∷ ss) c left
  splat_by room ss mid next of left element t c a b d e is =
      let deep = b.fits in
      rw is (record {
        is = ap (λ (x : List Symbol). S.Splat ∷ x) (a ∙ ap (λ (x : List Symbol). S.Less ∷ x) (b.is ∙ ap (attr_written element) (d ∙ ap (λ (x : List Symbol). S.Colon ∷ x) e.is)));
        fine = (b.fine, e.spelled);
        fits = omega arith;
      })

  record IsSplat (room : ℕ) (ss left : List Symbol) : Type 0 where
    element : AttrTree
    type : TypeTree
    is : ss ≡ S.Less ∷ attr_written element (S.Colon ∷ written type (S.Greater ∷ left))
    fine : IsAttrOfDialect structs element
    fits : attr_depth element ≤ room
    spelled : IsSpelledType structs type

  splat_back : (room : ℕ) (ss left : List Symbol) (c : AttrTree) → IsAttrRead structs (1 + room) (S.Splat ∷ ss) c left → IsSplat room ss left
  splat_back room ss left c k = by c k.fine k.fits k.is
    where
      by : (d : AttrTree) → IsAttrOfDialect structs d → attr_depth d ≤ 1 + room → S.Splat ∷ ss ≡ attr_written d left → IsSplat room ss left
      by (SplatAttr element t) fine fits e = record { element = element; type = t; is = cc; fine = fine.0; fits = omega arith; spelled = fine.1 }
      by d fine fits e = cc

  splat_element : (room : ℕ) (ss mid left : List Symbol) → ss ≡ S.Less ∷ mid → (x : IsSplat room ss left) → IsAttrRead structs room mid x.element (S.Colon ∷ written x.type (S.Greater ∷ left))
  splat_element room ss mid left a x = let e = x.is in record { is = cc; fine = x.fine; fits = x.fits }

  -- behind its element
  splat_next : (room : ℕ) (ss mid next left : List Symbol) (element : AttrTree) → ss ≡ S.Less ∷ mid → IsAttrRead structs room mid element next → (x : IsSplat room ss left) → next ≡ S.Colon ∷ written x.type (S.Greater ∷ left)
  splat_next room ss mid next left element a b x =
      let k = splat_element room ss mid left a x in
      (one_attr structs element x.element next (S.Colon ∷ written x.type (S.Greater ∷ left)) b.fine k.fine (sym b.is ∙ k.is)).1

  pub splat_opens : (room : ℕ) (ss : List Symbol) → ((us : List Symbol) → ss ≡ S.Less ∷ us → ⊥) → IsNoAttr structs (1 + room) (S.Splat ∷ ss)
  splat_opens room ss h c left k = let x = splat_back room ss left c k in h _ x.is

  pub splat_elements : (room : ℕ) (ss mid : List Symbol) → ss ≡ S.Less ∷ mid → IsNoAttr structs room mid → IsNoAttr structs (1 + room) (S.Splat ∷ ss)
  splat_elements room ss mid a h c left k =
      let x = splat_back room ss left c k in
      h x.element (S.Colon ∷ written x.type (S.Greater ∷ left)) (splat_element room ss mid left a x)

  pub splat_colons : (room : ℕ) (ss mid next : List Symbol) (element : AttrTree) → ss ≡ S.Less ∷ mid → IsAttrRead structs room mid element next → ((us : List Symbol) → next ≡ S.Colon ∷ us → ⊥) → IsNoAttr structs (1 + room) (S.Splat ∷ ss)
  splat_colons room ss mid next element a b h c left k = let x = splat_back room ss left c k in h _ (splat_next room ss mid next left element a b x)

  pub splat_ends : (room : ℕ) (ss mid next of : List Symbol) (element : AttrTree) → ss ≡ S.Less ∷ mid → IsAttrRead structs room mid element next → next ≡ S.Colon ∷ of → IsNoEnd structs of → IsNoAttr structs (1 + room) (S.Splat ∷ ss)
  splat_ends room ss mid next of element a b d h c left k =
      let x = splat_back room ss left c k in
      let f = splat_next room ss mid next left element a b x in
      h x.type left (record { is = cc; spelled = x.spelled })

  -- ---- no constant begins with another symbol

  pub no_attr_head : (s : Symbol) → (s ≡ S.Integer → ⊥) → ((fill : Fill) → s ≡ S.Filled fill → ⊥) → (s ≡ S.Bytes → ⊥) → (s ≡ S.Aggregate → ⊥) → (s ≡ S.Splat → ⊥) → (room : ℕ) (ss : List Symbol) → IsNoAttr structs room (s ∷ ss)
  no_attr_head s a b d f g room ss (IntegerAttr t n) left k = a (same_first _ _ _ _ k.is)
  no_attr_head s a b d f g room ss (FilledAttr fill t) left k = b fill (same_first _ _ _ _ k.is)
  no_attr_head s a b d f g room ss (BytesAttr bytes) left k = d (same_first _ _ _ _ k.is)
  no_attr_head s a b d f g room ss (AggregateAttr cs t) left k = f (same_first _ _ _ _ k.is)
  no_attr_head s a b d f g room ss (SplatAttr c t) left k = g (same_first _ _ _ _ k.is)
