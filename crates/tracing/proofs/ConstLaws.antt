-- The terms of constants, by their kinds and their parts.
use Rattle.std.proofs.Common.{◌≡◌, ℕ, zero, suc, Bool, true, false, if◌then◌else◌, List, [], ◌∷◌, Option, Some, None, map, replicate, slice_get, get_or, length, ◌<◌, All, refl, sym, ap, subst, ◌∙◌, arith}
use Rattle.std.specs.List.{list_all}
use Rattle.std.proofs.lemmas.List.Elements.{All-nil, All-cons}
use Rattle.std.specs.Option.{option_map_or}
use Rattle.kinds.specs.declared.fill.Fill.{Fill}
use Rattle.kinds.specs.declared.fill.Fill.TheVariants as F
use Rattle.kinds.specs.Fill.{is_own_fill}
use Rattle.kinds.specs.declared.types.VectorTypeKind.TheVariants as N
use Rattle.kinds.specs.Types.{TypeTree, VoidType, IntType, PointerType, FloatingType, RefusedType, ArrayType, VectorType, StructType, NamedType, FunctionType, shape}
use Rattle.kinds.specs.Held.{width_in}
use Rattle.llvm_core.specs.declared.numbers.LLVMType.{LLVMType}
use Rattle.llvm_core.specs.declared.numbers.LLVMConst.{LLVMConst}
use Rattle.llvm_core.specs.declared.consts.LLVMConstKind.{LLVMConstKind}
use Rattle.llvm_core.specs.declared.consts.LLVMConstKind.TheVariants as C
use Rattle.llvm_core.specs.Module.{Module}
use Rattle.llvm_core.specs.Consts.{IsConstIn, common_fill, is_fill}
use Rattle.llvm_core.specs.Sound.{IsModule}
use Rattle.llvm_core.specs.Data.{const_tree, consts_at, trees_of, type_at}
use Rattle.llvm_core.proofs.DataLemmas.{int_const_of, filled_const_of, const_tree_of}
use Rattle.llvm_core.proofs.WholeTypes.{shape_there}
use Rattle.dialect_types.specs.declared.types.TypeHandle.{TypeHandle}
use Rattle.dialect_types.specs.Trees.{type_trees}
use Rattle.const_attrs.specs.declared.const_attr.ConstAttr.{ConstAttr}
use Rattle.const_attrs.specs.Trees.{Attr, EachType, EachTypes, attr_data, attr_tree, attr_trees, attrs_data}
use Rattle.dialect_core.specs.ContextData.{ContextData}
use Rattle.meaning.specs.Terms.{Term, Terms, ThenTerm, Int, Filled, ListOf, SplatOf, terms_of, filled_term}
use Rattle.meaning.specs.Constants.{copies, fill_of, fills_of, lanes_term, list_term, splat_term}
use Rattle.meaning.specs.Setting.{Setting}
use Rattle.meaning.specs.Llvm.{const_term, const_terms}
use Rattle.meaning.specs.Dialect.{attr_term, attr_terms}
use Rattle.tracing.specs.Table.{term_at, fills_at}
use Rattle.tracing.specs.LlvmBodies.{setting_in, term_in}
use Rattle.tracing.specs.DialectBodies.{fixed_lanes, term_of}

-- ---- of what is made of others

-- whether the terms at places are zero, undef or poison is what the terms say
pub fills_are : (ts : List Term) (ks : List ℕ) → fills_at ts ks ≡ fills_of (terms_of (map (term_at ts) ks))
fills_are ts [] = refl
fills_are ts (k ∷ ks) = ap (λ (l : List (Option Fill)). fill_of (term_at ts k) ∷ l) (fills_are ts ks)

-- what is common to them, by the tests of all
module _ (os : List (Option Fill)) where
  abbrev all : Fill → Bool
  all fill = list_all (is_fill fill) os

  pub zero_common : all F.Zero ≡ true → Some F.Zero ≡ common_fill os
  zero_common z = rw z refl

  pub undef_common : all F.Zero ≡ false → all F.Undef ≡ true → Some F.Undef ≡ common_fill os
  undef_common z u = rw (z, u) refl

  pub poison_common : all F.Zero ≡ false → all F.Undef ≡ false → all F.Poison ≡ true → Some F.Poison ≡ common_fill os
  poison_common z u p = rw (z, u, p) refl

  pub none_common : all F.Zero ≡ false → all F.Undef ≡ false → all F.Poison ≡ false → None ≡ common_fill os
  none_common z u p = rw (z, u, p) refl

pub list_by : (type : TypeTree) (us : Terms) (o : Option Fill) → common_fill (fills_of us) ≡ o → list_term type us ≡ option_map_or (λ (fill : Fill). Filled fill type) o (ListOf type us)
list_by type us o is = ap (λ (p : Option Fill). option_map_or (λ (fill : Fill). Filled fill type) p (ListOf type us)) is

pub splat_by : (type : TypeTree) (t : Term) (o : Option Fill) → fill_of t ≡ o → splat_term type t ≡ option_map_or (λ (fill : Fill). Filled fill type) o (SplatOf type t)
splat_by type t o is = ap (λ (p : Option Fill). option_map_or (λ (fill : Fill). Filled fill type) p (SplatOf type t)) is

-- a place so many times names so many copies of its term
pub copies_terms : (ts : List Term) (k n : ℕ) → terms_of (map (term_at ts) (replicate n k)) ≡ copies n (term_at ts k)
copies_terms ts k zero = refl
copies_terms ts k (suc n) = ap (ThenTerm (term_at ts k)) (copies_terms ts k n)

all_under : (n k : ℕ) → k < n → (m : ℕ) → All (λ (j : ℕ). j < n) (replicate m k)
all_under n k lt zero = All-nil (λ (j : ℕ). j < n)
all_under n k lt (suc m) = All-cons (λ (j : ℕ). j < n) k (replicate m k) lt (all_under n k lt m)

pub all_copies : (n k m : ℕ) (ks : List ℕ) → ks ≡ replicate m k → k < n → All (λ (j : ℕ). j < n) ks
all_copies n k m ks is lt = subst (All (λ (j : ℕ). j < n)) (sym is) (all_under n k lt m)

-- the lanes of a vector: a line for each kind of type
lanes_lines : (type : TypeTree) (t : Term) → lanes_term type t ≡ option_map_or (λ (n : ℕ). list_term type (copies n t)) (fixed_lanes type) (splat_term type t)
lanes_lines (VectorType N.Fixed count u) t = refl
lanes_lines (VectorType N.Scalable count u) t = refl
lanes_lines VoidType t = refl
lanes_lines (IntType w) t = refl
lanes_lines (PointerType space) t = refl
lanes_lines (FloatingType of) t = refl
lanes_lines (RefusedType of) t = refl
lanes_lines (ArrayType count u) t = refl
lanes_lines (StructType layout us) t = refl
lanes_lines (NamedType name) t = refl
lanes_lines (FunctionType r ps v) t = refl

pub lanes_by : (type : TypeTree) (t : Term) (o : Option ℕ) → fixed_lanes type ≡ o → lanes_term type t ≡ option_map_or (λ (n : ℕ). list_term type (copies n t)) o (splat_term type t)
lanes_by type t o is = lanes_lines type t ∙ ap (λ (p : Option ℕ). option_map_or (λ (n : ℕ). list_term type (copies n t)) p (splat_term type t)) is

-- ---- of a module

module _ (m : Module) (sound : IsModule m) (c : LLVMConst) where
  pub kind_term : (k : LLVMConstKind) → slice_get m.consts c.0 ≡ Some k → term_in m c ≡ const_term (setting_in m) (const_tree (trees_of m).types (trees_of m).consts k)
  kind_term k at = ap (const_term (setting_in m)) (const_tree_of m c k at (sound.consts_below c.0 k at))

  pub int_term : (t : LLVMType) (width value : ℕ) → slice_get m.consts c.0 ≡ Some (C.Int t value) → type_at (trees_of m).types t ≡ IntType width → term_in m c ≡ Int width value
  int_term t width value at int = ap (const_term (setting_in m)) (int_const_of m c t value at) ∙ ap (λ (u : TypeTree). Int (width_in u) value) int

  -- a module keeps no zero of an integer type beside the integer 0
  pub own_term : (fill : Fill) (t : LLVMType) → slice_get m.consts c.0 ≡ Some (C.Filled fill t) → IsConstIn m (C.Filled fill t) → term_in m c ≡ Filled fill (type_at (trees_of m).types t)
  own_term fill t at over =
      let u = type_at (trees_of m).types t in
      let own : is_own_fill fill (shape u) ≡ true = ap (is_own_fill fill) (sym (shape_there m sound t over.0)) ∙ over.1 in
      ap (const_term (setting_in m)) (filled_const_of m c fill t at) ∙ ap (λ (b : Bool). if b then Filled fill u else Int (width_in u) 0) own

pub parts_terms : (m : Module) (cs : List LLVMConst) → terms_of (map (term_in m) cs) ≡ const_terms (setting_in m) (consts_at (trees_of m).consts cs)
parts_terms m [] = refl
parts_terms m (c ∷ cs) = ap (ThenTerm (term_in m c)) (parts_terms m cs)

-- ---- of a context

-- the zero of an integer type is the integer 0, and any other is of its type
pub filled_by : (fill : Fill) (t : TypeTree) (b : Bool) → is_own_fill fill (shape t) ≡ b → filled_term fill t ≡ (if b then Filled fill t else Int (width_in t) 0)
filled_by fill t b own = ap (λ (b : Bool). if b then Filled fill t else Int (width_in t) 0) own

pub attrs_terms : (setting : Setting) (c : ContextData) (cs : List ConstAttr) → terms_of (map (term_of setting c) cs) ≡ attr_terms setting (attr_trees (type_trees c.types) (attrs_data cs))
attrs_terms setting c [] = refl
attrs_terms setting c (x ∷ cs) = ap (ThenTerm (term_of setting c x)) (attrs_terms setting c cs)

-- the term of a constant is that of its data
pub term_by_data : (setting : Setting) (c : ContextData) (value : ConstAttr) (form : Attr TypeHandle) → attr_data value ≡ form → term_of setting c value ≡ attr_term setting (attr_tree (type_trees c.types) form)
term_by_data setting c value form is = ap (λ (d : Attr TypeHandle). attr_term setting (attr_tree (type_trees c.types) d)) is

-- what holds of each type in a constant holds of those in its data
pub each_by_data : (P : TypeHandle → Type 0) (value : ConstAttr) (form : Attr TypeHandle) → attr_data value ≡ form → EachType P (attr_data value) → EachType P form
each_by_data P value form is h = subst (EachType P) is h

each_at_place : (P : TypeHandle → Type 0) (cs : List ConstAttr) (i : ℕ) (d : ConstAttr) → EachTypes P (attrs_data cs) → i < length cs → EachType P (attr_data (get_or cs i d))
each_at_place P [] i d h l = absurd (omega arith)
each_at_place P (c ∷ cs) zero d h l = h.0
each_at_place P (c ∷ cs) (suc i) d h l = each_at_place P cs i d h.1 (omega arith)

-- and in each of a list
pub each_at_index : (P : TypeHandle → Type 0) (cs : List ConstAttr) (i : ℕ) (c : ConstAttr) → EachTypes P (attrs_data cs) → i < length cs → c ≡ get_or cs i c → EachType P (attr_data c)
each_at_index P cs i c h l is = subst (λ (x : ConstAttr). EachType P (attr_data x)) (sym is) (each_at_place P cs i c h l)
