-- The constant that an attribute becomes: it is in the one form, of the attribute's type, with the elements that this type asks for,
-- short, and with the attribute's term.
use Rattle.std.proofs.Common.{◌≡◌, ◌<◌, ◌≤◌, ◌^◌, ℕ, zero, suc, nat_eq, Bool, true, false, if◌then◌else◌, List, Option, Some, None, All, length, unwrap_or, refl, sym, ap, subst, ◌∙◌, arith}
use Rattle.std.specs.List.{list_all}
use Rattle.std.specs.Option.{option_map, option_map_or, option_and_then, option_or}
use Rattle.std.proofs.lemmas.Bool.{and_parts, and_from, cond-false, eqb-true, not-false}
use Rattle.std.proofs.lemmas.Nat.{pow_pos}
use Rattle.std.proofs.Math.Nat.{pow-le-pow_right}
use Rattle.std.proofs.lemmas.Option.{none-some}
use Rattle.kinds.specs.declared.fill.Fill.{Fill}
use Rattle.kinds.specs.declared.fill.Fill.TheVariants as Fills
use Rattle.kinds.specs.declared.fitting.Shape.{Shape}
use Rattle.kinds.specs.declared.types.VectorTypeKind.TheVariants as V
use Rattle.kinds.specs.Fill.{is_own_fill}
use Rattle.kinds.specs.Fitting.{is_number}
use Rattle.kinds.specs.Types.{shape, count_types}
use Rattle.kinds.specs.Structs.{struct_in}
use Rattle.kinds.specs.Held.{width_in}
use Rattle.kinds.proofs.TypeLaws.{tree_told}
use Rattle.llvm_core.specs.Consts.{is_zero}
use Rattle.llvm_core.specs.Data as L
use Rattle.llvm_core.specs.Data.{ConstTree, IntConst, FilledConst, BytesConst, PlaceholderConst, filled_const, formed, listed}
use Rattle.llvm_core.specs.Elements.{is_placeholder, is_element, are_all, are_each, are_elements, copies, splat_const, HasElements, HaveElements}
use Rattle.llvm_core.specs.Form as F
use Rattle.llvm_core.specs.Parts.{IsIntAt}
use Rattle.dialect_types.specs.Trees.{NamedStruct, StructBody, TypeTree, VoidType, IntType, PointerType, FloatingType, RefusedType, ArrayType, VectorType, StructType, NamedType, FunctionType, TypeTrees, NoTypes, ThenType}
use Rattle.const_attrs.specs.declared.attr_err.AttrErr.{AttrErr}
use Rattle.const_attrs.specs.declared.attr_err.AttrErr.TheVariants as E
use Rattle.const_attrs.specs.Trees.{AttrTree, IntegerAttr, FilledAttr, BytesAttr, AggregateAttr, SplatAttr, AttrTrees, NoAttrs, ThenAttr, type_of}
use Rattle.const_attrs.specs.Verified.{OfOne, OneOfEach, fields_in, elements_of, lane_of, count_attrs, has_type, all_have, each_has, unless, misfit, splat_misfit, broken, broken_in}
use Rattle.dialect_core.specs.Form.{IsShortFill, IsShortAttr, AreShortAttrs, is_fixed}
use Rattle.meaning.specs.Terms.{Term, Filled, Int, ThenTerm, filled_term}
use Rattle.meaning.specs.Constants as terms
use Rattle.meaning.specs.Setting.{Setting}
use Rattle.meaning.specs.Llvm as llvm
use Rattle.meaning.specs.Dialect as dialect
use Rattle.meaning.proofs.FormedLaws.{formed_term, listed_term}
use Rattle.to_llvm_ir.specs.Made.{const_of, consts_of}
use Rattle.to_llvm_ir.proofs.ElementLaws.{IsGood, asks, good_list, good_element, lanes_fit, good_lanes}

-- ---- zero, undef and poison

-- only the zero of an integer type is no constant of its own
not_own : (fill : Fill) (s : Shape) → is_own_fill fill s ≡ false → is_number s ≡ true
not_own Fills.Zero s e = not-false (is_number s) e
not_own Fills.Undef s e = absurd (let never : true ≡ false = e in cc)
not_own Fills.Poison s e = absurd (let never : true ≡ false = e in cc)

-- a type that rules take for an integer type is one
number_type : (t : TypeTree) → is_number (shape t) ≡ true → t ≡ IntType (width_in t)
number_type VoidType e = absurd (let never : false ≡ true = e in cc)
number_type (IntType w) e = refl
number_type (PointerType space) e = absurd (let never : false ≡ true = e in cc)
number_type (FloatingType of) e = absurd (let never : false ≡ true = e in cc)
number_type (RefusedType of) e = absurd (let never : false ≡ true = e in cc)
number_type (ArrayType count t) e = absurd (let never : false ≡ true = e in cc)
number_type (VectorType kind count t) e = absurd (let never : false ≡ true = e in cc)
number_type (StructType layout ts) e = absurd (let never : false ≡ true = e in cc)
number_type (NamedType name) e = absurd (let never : false ≡ true = e in cc)
number_type (FunctionType result params variadic) e = absurd (let never : false ≡ true = e in cc)

-- its type is the one that it was made of
pub filled_type : (fill : Fill) (t : TypeTree) → L.const_type (filled_const fill t) ≡ t
filled_type fill t = by (is_own_fill fill (shape t)) refl
  where
    by : (b : Bool) → is_own_fill fill (shape t) ≡ b → L.const_type (if b then FilledConst fill t else IntConst (width_in t) 0) ≡ t
    by true e = refl
    by false e = sym (number_type t (not_own fill (shape t) e))

-- it is in the one form and short, where the zero of an integer type has 1 to 64 bits
pub filled_good : (structs : List NamedStruct) (fill : Fill) (t : TypeTree) → IsShortFill fill t → IsGood structs t (filled_const fill t)
filled_good structs fill t short = record {
  typed = filled_type fill t;
  plain = plain (is_own_fill fill (shape t));
  form = form (is_own_fill fill (shape t)) refl;
  short = few (is_own_fill fill (shape t)) refl;
  made = made (is_own_fill fill (shape t));
}
  where
    plain : (b : Bool) → is_placeholder (if b then FilledConst fill t else IntConst (width_in t) 0) ≡ false
    plain true = refl
    plain false = refl

    form : (b : Bool) → is_own_fill fill (shape t) ≡ b → F.IsFormConst (if b then FilledConst fill t else IntConst (width_in t) 0)
    form true e = e
    form false e = ((short e).0, (pow_pos (width_in t), pow_pos 128))

    few : (b : Bool) → is_own_fill fill (shape t) ≡ b → F.IsShortConst (if b then FilledConst fill t else IntConst (width_in t) 0)
    few true e = tt
    few false e = (short e).1

    made : (b : Bool) → HasElements structs (if b then FilledConst fill t else IntConst (width_in t) 0)
    made true = tt
    made false = tt

-- LLVM's term of it is that of the dialect
pub filled_same : (back : Setting) (fill : Fill) (t : TypeTree) → llvm.const_term back (filled_const fill t) ≡ filled_term fill t
filled_same back fill t = by (is_own_fill fill (shape t)) refl
  where
    by : (b : Bool) → is_own_fill fill (shape t) ≡ b → llvm.const_term back (if b then FilledConst fill t else IntConst (width_in t) 0) ≡ filled_term fill t
    by true e = refl
    by false e = sym (cond-false (is_own_fill fill (shape t)) (Filled fill t) (Int (width_in t) 0) e)

-- ---- attributes

-- an integer of an attribute is one that a module of LLVM keeps
pub kept_int : (w m : ℕ) → w ≤ 64 → m < 2 ^ w → IsIntAt w m
kept_int w m most below =
    let wide : 2 ^ w ≤ 2 ^ 128 = pow-le-pow_right {n = 2} (omega arith) {i = w} {j = 128} (omega (arith, most)) in
    (below, omega (arith, below, wide))

pub or_none : {X : Type 0} (a b : Option X) → option_or a b ≡ None → (a ≡ None) × (b ≡ None)
or_none None b e = (refl, e)
or_none (Some x) b e = absurd (none-some x (sym e))

pub unless_none : (b : Bool) (e : AttrErr) → unless b e ≡ None → b ≡ true
unless_none true e h = refl
unless_none false e h = absurd (none-some e (sym h))

-- ---- vectors of a known length

-- a vector of a known length, of such lanes
pub record HasLanes (c : AttrTree) (t : TypeTree) : Type 0 where
  pub count : ℕ
  pub lane : TypeTree
  pub is : t ≡ VectorType V.Fixed count lane
  pub typed : has_type c lane ≡ true

pub has_lanes : (c : AttrTree) (t : TypeTree) → is_fixed t ≡ true → splat_misfit c (lane_of t) ≡ None → HasLanes c t
has_lanes c (VectorType V.Fixed count t) fixed e = record { count = count; lane = t; is = refl; typed = unless_none (has_type c t) E.ElementType e }
has_lanes c (VectorType V.Scalable count t) fixed e = absurd cc
has_lanes c VoidType fixed e = absurd cc
has_lanes c (IntType w) fixed e = absurd cc
has_lanes c (PointerType space) fixed e = absurd cc
has_lanes c (FloatingType of) fixed e = absurd cc
has_lanes c (RefusedType of) fixed e = absurd cc
has_lanes c (ArrayType count t) fixed e = absurd cc
has_lanes c (StructType layout ts) fixed e = absurd cc
has_lanes c (NamedType name) fixed e = absurd cc
has_lanes c (FunctionType result params variadic) fixed e = absurd cc

bytes_good : (structs : List NamedStruct) (bytes : List ℕ) → All (λ (b : ℕ). b < 2 ^ 8) bytes → IsGood structs (ArrayType (length bytes) (IntType 8)) (formed (BytesConst bytes))
bytes_good structs bytes small = by (list_all is_zero bytes) refl
  where
    by : (z : Bool) → list_all is_zero bytes ≡ z → IsGood structs (ArrayType (length bytes) (IntType 8)) (if z then FilledConst Fills.Zero (ArrayType (length bytes) (IntType 8)) else BytesConst bytes)
    by true e = record { typed = refl; plain = refl; form = refl; short = tt; made = tt }
    by false e = record { typed = refl; plain = refl; form = (small, ap (λ (z : Bool). if z then FilledConst Fills.Zero (ArrayType (length bytes) (IntType 8)) else BytesConst bytes) e); short = tt; made = tt }

module _ (structs : List NamedStruct) where
  -- each becomes a constant of its type
  abbrev pub AreGood : AttrTrees → Type 0
  AreGood NoAttrs = Unit {0}
  AreGood (ThenAttr c cs) = IsGood structs (type_of c) (const_of c) × AreGood cs

  all_form : (cs : AttrTrees) → AreGood cs → F.AreFormConsts (consts_of cs)
  all_form NoAttrs h = tt
  all_form (ThenAttr c cs) h = (h.0.form, all_form cs h.1)

  all_short : (cs : AttrTrees) → AreGood cs → F.AreShort (consts_of cs)
  all_short NoAttrs h = tt
  all_short (ThenAttr c cs) h = (h.0.short, all_short cs h.1)

  all_made : (cs : AttrTrees) → AreGood cs → HaveElements structs (consts_of cs)
  all_made NoAttrs h = tt
  all_made (ThenAttr c cs) h = (h.0.made, all_made cs h.1)

  -- one of the type
  typed_good : (c : AttrTree) (t : TypeTree) → IsGood structs (type_of c) (const_of c) → has_type c t ≡ true → IsGood structs t (const_of c)
  typed_good c t h e = subst (λ (u : TypeTree). IsGood structs u (const_of c)) (tree_told (type_of c) t e) h

  one_fits : (c : AttrTree) (t : TypeTree) → IsGood structs (type_of c) (const_of c) → has_type c t ≡ true → is_element t (const_of c) ≡ true
  one_fits c t h e = good_element structs t (const_of c) (typed_good c t h e)

  -- ---- elements are those of the type where the rules are kept

  all_fit : (n : ℕ) (t : TypeTree) (cs : AttrTrees) → AreGood cs → count_attrs cs ≡ n → all_have cs t ≡ true → are_all n t (consts_of cs) ≡ true
  all_fit zero t NoAttrs h count e = refl
  all_fit (suc n) t NoAttrs h count e = absurd (omega (arith, count))
  all_fit zero t (ThenAttr c cs) h count e = absurd (omega (arith, count))
  all_fit (suc n) t (ThenAttr c cs) h count e =
      let parts = and_parts (has_type c t) (all_have cs t) e in
      and_from (is_element t (const_of c)) (are_all n t (consts_of cs)) (one_fits c t h.0 parts.0) (all_fit n t cs h.1 (omega (arith, count)) parts.1)

  each_fits : (ts : TypeTrees) (cs : AttrTrees) → AreGood cs → each_has cs ts ≡ true → are_each ts (consts_of cs) ≡ true
  each_fits NoTypes NoAttrs h e = refl
  each_fits (ThenType t ts) NoAttrs h e = absurd cc
  each_fits NoTypes (ThenAttr c cs) h e = absurd cc
  each_fits (ThenType t ts) (ThenAttr c cs) h e =
      let parts = and_parts (has_type c t) (each_has cs ts) e in
      and_from (is_element t (const_of c)) (are_each ts (consts_of cs)) (one_fits c t h.0 parts.0) (each_fits ts cs h.1 parts.1)

  many_fit : (n : ℕ) (t : TypeTree) (cs : AttrTrees) → AreGood cs → misfit cs (Some (OfOne n t)) ≡ None → are_all n t (consts_of cs) ≡ true
  many_fit n t cs h e =
      let parts = or_none (unless (nat_eq (count_attrs cs) n) E.ElementCount) (unless (all_have cs t) E.ElementType) e in
      all_fit n t cs h (eqb-true (count_attrs cs) n (unless_none (nat_eq (count_attrs cs) n) E.ElementCount parts.0)) (unless_none (all_have cs t) E.ElementType parts.1)

  fields_fit : (ts : TypeTrees) (cs : AttrTrees) → AreGood cs → misfit cs (Some (OneOfEach ts)) ≡ None → are_each ts (consts_of cs) ≡ true
  fields_fit ts cs h e =
      let parts = or_none (unless (nat_eq (count_attrs cs) (count_types ts)) E.ElementCount) (unless (each_has cs ts) E.ElementType) e in
      each_fits ts cs h (unless_none (each_has cs ts) E.ElementType parts.1)

  named_fit : (cs : AttrTrees) → AreGood cs → (s : Option NamedStruct) → misfit cs (fields_in s) ≡ None → option_map_or (λ (b : StructBody). are_each b.fields (consts_of cs)) (option_and_then (λ (x : NamedStruct). x.body) s) false ≡ true
  named_fit cs h None e = absurd (none-some E.ElementCount (sym e))
  named_fit cs h (Some s) e = by s.body e
    where
      by : (b : Option StructBody) → misfit cs (option_map (λ (b : StructBody). OneOfEach b.fields) b) ≡ None → option_map_or (λ (b : StructBody). are_each b.fields (consts_of cs)) b false ≡ true
      by None e = absurd (none-some E.ElementCount (sym e))
      by (Some b) e = fields_fit b.fields cs h e

  elements_fit : (t : TypeTree) (cs : AttrTrees) → AreGood cs → misfit cs (elements_of structs t) ≡ None → are_elements structs t (consts_of cs) ≡ true
  elements_fit (ArrayType count t) cs h e = many_fit count t cs h e
  elements_fit (VectorType V.Fixed count t) cs h e = many_fit count t cs h e
  elements_fit (VectorType V.Scalable count t) cs h e = absurd (none-some E.ElementCount (sym e))
  elements_fit (StructType layout ts) cs h e = fields_fit ts cs h e
  elements_fit (NamedType name) cs h e = named_fit cs h (struct_in structs name) e
  elements_fit VoidType cs h e = absurd (none-some E.ElementCount (sym e))
  elements_fit (IntType w) cs h e = absurd (none-some E.ElementCount (sym e))
  elements_fit (PointerType space) cs h e = absurd (none-some E.ElementCount (sym e))
  elements_fit (FloatingType of) cs h e = absurd (none-some E.ElementCount (sym e))
  elements_fit (RefusedType of) cs h e = absurd (none-some E.ElementCount (sym e))
  elements_fit (FunctionType result params variadic) cs h e = absurd (none-some E.ElementCount (sym e))

  -- ---- vectors of equal elements

  -- it becomes the list of its lanes
  splat_is : (c : AttrTree) (t : TypeTree) (l : HasLanes c t) → IsGood structs (type_of c) (const_of c) → unwrap_or (splat_const t (const_of c)) (PlaceholderConst 0 VoidType) ≡ listed t (copies l.count (const_of c))
  splat_is c t l good =
      ap (λ (u : TypeTree). unwrap_or (splat_const u (const_of c)) (PlaceholderConst 0 VoidType)) l.is
      ∙ ap (λ (b : Bool). unwrap_or (if b then Some (listed (VectorType V.Fixed l.count l.lane) (copies l.count (const_of c))) else None) (PlaceholderConst 0 VoidType)) (one_fits c l.lane good l.typed)
      ∙ ap (λ (u : TypeTree). listed u (copies l.count (const_of c))) (sym l.is)

  mutual
    -- what keeps the rules and is translated becomes a constant of its type
    pub good_const : (a : AttrTree) → broken structs a ≡ None → IsShortAttr a → IsGood structs (type_of a) (const_of a)
    good_const (IntegerAttr t v) keeps short =
        let width = ap width_in short.1 in
        record {
          typed = ap IntType width ∙ sym short.1;
          plain = refl;
          form = subst (λ (w : ℕ). (1 ≤ w) × IsIntAt w v) (sym width) (short.2.0, kept_int short.0 v short.2.1 short.3);
          short = subst (λ (w : ℕ). w ≤ 64) (sym width) short.2.1;
          made = tt;
        }
    good_const (FilledAttr fill t) keeps short = filled_good structs fill t short
    good_const (BytesAttr bytes) keeps short = bytes_good structs bytes short
    good_const (AggregateAttr cs t) keeps short =
        let parts = or_none (misfit cs (elements_of structs t)) (broken_in structs cs) keeps in
        let all = good_all cs parts.1 short in
        good_list structs t (consts_of cs) (elements_fit t cs all parts.0) (all_form cs all) (all_short cs all) (all_made cs all)
    good_const (SplatAttr c t) keeps short =
        let parts = or_none (splat_misfit c (lane_of t)) (broken structs c) keeps in
        let good = good_const c parts.1 short.1 in
        let l = has_lanes c t short.0 parts.0 in
        subst (IsGood structs t) (sym (splat_is c t l good))
        (subst (λ (u : TypeTree). IsGood structs u (listed u (copies l.count (const_of c)))) (sym l.is) (good_lanes structs l.lane (const_of c) (typed_good c l.lane good l.typed) l.count))

    pub good_all : (cs : AttrTrees) → broken_in structs cs ≡ None → AreShortAttrs cs → AreGood cs
    good_all NoAttrs keeps short = tt
    good_all (ThenAttr c cs) keeps short =
        let parts = or_none (broken structs c) (broken_in structs cs) keeps in
        (good_const c parts.0 short.0, good_all cs parts.1 short.1)

  -- ---- terms

  module _ (setting back : Setting) where
    copies_same : (n : ℕ) (c : ConstTree) → llvm.const_terms back (copies n c) ≡ terms.copies n (llvm.const_term back c)
    copies_same zero c = refl
    copies_same (suc n) c = ap (ThenTerm (llvm.const_term back c)) (copies_same n c)

    mutual
      -- the constant has the term of the attribute
      pub same_const : (a : AttrTree) → broken structs a ≡ None → IsShortAttr a → llvm.const_term back (const_of a) ≡ dialect.attr_term setting a
      same_const (IntegerAttr t v) keeps short = refl
      same_const (FilledAttr fill t) keeps short = filled_same back fill t
      same_const (BytesAttr bytes) keeps short = formed_term back (BytesConst bytes) tt
      same_const (AggregateAttr cs t) keeps short =
          let parts = or_none (misfit cs (elements_of structs t)) (broken_in structs cs) keeps in
          let all = good_all cs parts.1 short in
          listed_term back t (consts_of cs) (asks structs t (consts_of cs) (elements_fit t cs all parts.0)) ∙ ap (terms.list_term t) (same_consts cs parts.1 short)
      same_const (SplatAttr c t) keeps short =
          let parts = or_none (splat_misfit c (lane_of t)) (broken structs c) keeps in
          let good = good_const c parts.1 short.1 in
          let l = has_lanes c t short.0 parts.0 in
          let u = VectorType V.Fixed l.count l.lane in
          let lanes = copies l.count (const_of c) in
          ap (llvm.const_term back) (splat_is c t l good ∙ ap (λ (v : TypeTree). listed v lanes) l.is)
          ∙ listed_term back u lanes (asks structs u lanes (lanes_fit structs l.lane (const_of c) (typed_good c l.lane good l.typed) l.count))
          ∙ ap (terms.list_term u) (copies_same l.count (const_of c) ∙ ap (terms.copies l.count) (same_const c parts.1 short.1))
          ∙ ap (λ (v : TypeTree). terms.lanes_term v (dialect.attr_term setting c)) (sym l.is)

      pub same_consts : (cs : AttrTrees) → broken_in structs cs ≡ None → AreShortAttrs cs → llvm.const_terms back (consts_of cs) ≡ dialect.attr_terms setting cs
      same_consts NoAttrs keeps short = refl
      same_consts (ThenAttr c cs) keeps short =
          let parts = or_none (broken structs c) (broken_in structs cs) keeps in
          ap (λ (t : Term). ThenTerm t (llvm.const_terms back (consts_of cs))) (same_const c parts.0 short.0) ∙ ap (ThenTerm (dialect.attr_term setting c)) (same_consts cs parts.1 short.1)
