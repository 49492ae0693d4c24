-- Constants of a module by their numbers, and what stands for them.
use Rattle.std.proofs.Common.{ℕ, ◌≡◌, ◌<◌, ◌≤◌, ◌^◌, ◌∙◌, refl, sym, ap, subst, Bool, nat_le, nat_lt, List, [], Option, Some, None, Vec, Global, length, slice_get, arith}
use Rattle.std.specs.Option.{option_map, option_map_or, option_or}
use Rattle.std.proofs.Math.Nat.{pow-le-pow_right}
use Rattle.std.proofs.lemmas.Bool.{and_from, le-leb, lt-ltb}
use Rattle.std.proofs.lemmas.Option.{same_Some, slice_get_within}
use Rattle.support.proofs.ListLaws.{item_there}
use Rattle.kinds.specs.declared.fill.Fill.{Fill}
use Rattle.kinds.specs.Types.{TypeTree, IntType}
use Rattle.kinds.specs.Held.{width_in}
use Rattle.kinds.specs.Structs.{Struct, renamed}
use Rattle.llvm_core.specs.declared.numbers.LLVMConst.{LLVMConst}
use Rattle.llvm_core.specs.declared.numbers.LLVMType.{LLVMType}
use Rattle.llvm_core.specs.declared.types.LLVMTypeKind.TheVariants as T
use Rattle.llvm_core.specs.declared.consts.LLVMConstKind.{LLVMConstKind}
use Rattle.llvm_core.specs.declared.consts.LLVMConstKind.TheVariants as C
use Rattle.llvm_core.specs.declared.code.LLVMValue.TheVariants as V
use Rattle.llvm_core.specs.Module.{Module}
use Rattle.llvm_core.specs.Consts.{IsConstIn, IsListOf}
use Rattle.llvm_core.specs.Parts.{value_type}
use Rattle.llvm_core.specs.Parts as numbers
use Rattle.llvm_core.specs.Sound.{IsModule}
use Rattle.llvm_core.specs.Data.{ConstTree, IntConst, FilledConst, BytesConst, ListConst, SplatConst, PlaceholderConst, const_at, const_tree, const_type, type_at, trees_of}
use Rattle.llvm_core.proofs.DataLemmas.{int_tree_of, int_const_of, filled_const_of, const_tree_of, const_type_of, within_at}
use Rattle.dialect_types.specs.declared.types.TypeHandle.{TypeHandle}
use Rattle.dialect_types.specs.declared.types.TypeKind.{TypeKind}
use Rattle.dialect_types.specs.Legalised.{Named}
use Rattle.dialect_types.specs.Trees as D
use Rattle.dialect_types.specs.Trees.{structs_of, type_trees}
use Rattle.const_attrs.specs.declared.attr_err.AttrErr.{AttrErr}
use Rattle.const_attrs.specs.declared.attr_err.AttrErr.TheVariants as E
use Rattle.const_attrs.specs.declared.const_attr.ConstAttr.{ConstAttr}
use Rattle.const_attrs.specs.declared.const_attr.ConstAttr.TheVariants as A
use Rattle.const_attrs.specs.Trees.{Attr, AttrTree, AttrTrees, IntegerAttr, FilledAttr, BytesAttr, AggregateAttr, attr_tree, attr_trees, attr_data, attrs_data, HasTypesBelow}
use Rattle.const_attrs.specs.Verified.{broken, broken_in, elements_of, is_in_range, misfit, unless}
use Rattle.const_attrs.proofs.DataLaws.{aggregate_data, integer_data}
use Rattle.dialect_core.specs.declared.numbers.OpRef.{OpRef}
use Rattle.dialect_core.specs.declared.ops.OpKind.{OpKind}
use Rattle.dialect_core.specs.declared.ops.OpKind.TheVariants as K
use Rattle.dialect_core.specs.ContextData.{ContextData, with_op}
use Rattle.dialect_core.proofs.CallerLemmas.{new_op_at}
use Rattle.dialect_core.specs.declared.ops.Value.{Value}
use Rattle.dialect_core.specs.Data.{DialectOp, IsTypedOp, ConstantOp, FilledOp, op_at, op_of}
use Rattle.meaning.specs.Machine.{Action, Holds}
use Rattle.meaning.specs.Terms.{Term, filled_term}
use Rattle.meaning.proofs.TermLaws.{filled_under}
use Rattle.from_consts.specs.Constants.{attr_of, kind_for, op_data, tree_at, type_number, AddsOp, IsAttrFor, IsConstant, IsConstCause, IsInConst, IsOpFor, IsPartCause}
use Rattle.from_consts.specs.Steps.{AreAttrsGiven, IsAttrGiven, IsOpKindGiven, IsWideAt}
use Rattle.from_consts.specs.Given.{given_at, Gives, IsContextFor, StandsFor}
use Rattle.from_consts.specs.Parts.{elements_in, TheWhole, InElement, IsWithin, Itself, Inside}
use Rattle.from_consts.specs.Refusals.{IsCause}
use Rattle.from_consts.specs.declared.const_context.ConstContext.{ConstContext}
use Rattle.from_consts.specs.declared.conversion_err.ConversionErr.{ConversionErr}
use Rattle.from_consts.specs.declared.conversion_err.ConversionErr.TheVariants as R
use Rattle.from_consts.specs.declared.conversion_err.Unsupported.TheVariants as U
use Rattle.from_consts.specs.Names.{called}
use Rattle.from_consts.proofs.AttrLaws.{attr_holds, attr_type}
use Rattle.from_consts.proofs.ElementLaws.{all_are, all_below, all_keep, all_typed, element_part, list_fits}

module _ (m : Module) (c : LLVMConst) where
  -- the number of its type is the one that the module answers
  number_of : (o : Option LLVMConstKind) (t : LLVMType) → option_map numbers.const_type o ≡ Some t → option_map_or numbers.const_type o (record { 0 = 0 }) ≡ t
  number_of (Some k) t e = same_Some _ _ e
  number_of None t e = cc

  pub type_is : (t : LLVMType) → value_type m (V.Const c) ≡ Some t → type_number m c ≡ t
  type_is t e = number_of (slice_get m.consts c.0) t e

  -- an integer has the width of its type
  pub int_at : (t : LLVMType) (value width : ℕ) → IsModule m → slice_get m.consts c.0 ≡ Some (C.Int t value) → slice_get m.types t.0 ≡ Some (T.Int width) → tree_at m c ≡ IntConst width value
  int_at t value width sound at typed = int_const_of m c t value at ∙ ap (λ (τ : TypeTree). IntConst (width_in τ) value) (int_tree_of m t width sound typed)

  -- and fits a word, where that is at most 64 bits
  pub int_fits : (t : LLVMType) (value : ℕ) → IsConstIn m (C.Int t value) → ((width : ℕ) → slice_get m.types t.0 ≡ Some (T.Int width) → width ≤ 64) → value < 2 ^ 64
  int_fits t value (width, typed, fits) short =
      let few = short width typed in
      let below = fits.0 in
      let bound : 2 ^ width ≤ 2 ^ 64 = pow-le-pow_right {n = 2} (omega arith) {i = width} {j = 64} few in
      omega (arith, below, bound)

  -- the tree of the kind that stands there
  pub tree_of : (k : LLVMConstKind) → IsModule m → slice_get m.consts c.0 ≡ Some k → tree_at m c ≡ const_tree (trees_of m).types (trees_of m).consts k
  tree_of k sound at = const_tree_of m c k at (sound.consts_below c.0 k at)

  pub number_at : (k : LLVMConstKind) → slice_get m.consts c.0 ≡ Some k → type_number m c ≡ numbers.const_type k
  number_at k at = ap (λ (o : Option LLVMConstKind). option_map_or numbers.const_type o (record { 0 = 0 })) at

  -- what is within the type of its kind is within its own
  pub own_type : (k : LLVMConstKind) → slice_get m.consts c.0 ≡ Some k → IsInConst m c (numbers.const_type k)
  own_type k at = subst (IsInConst m c) (number_at k at) Itself

-- a type that stands for that of the constant is that of its tree
made_type : (m : Module) (given : List Named) (ks : List TypeKind) (c : LLVMConst) (k : LLVMConstKind) (ty : TypeHandle) → IsModule m → slice_get m.consts c.0 ≡ Some k → StandsFor m given ks (type_number m c) ty → D.type_at (type_trees ks) ty ≡ renamed (called given) (const_type (tree_at m c))
made_type m given ks c k ty sound at stands =
    let number : type_number m c ≡ numbers.const_type k = ap (λ (o : Option LLVMConstKind). option_map_or numbers.const_type o (record { 0 = 0 })) at in
    stands.is ∙ ap (λ (t : LLVMType). renamed (called given) (type_at (trees_of m).types t)) number ∙ ap (renamed (called given)) (sym (const_type_of m c k sound at))

-- ---- attributes

in_range : (width value : ℕ) → width ≤ 64 → value < 2 ^ width → unless (is_in_range (IntType width) value) E.IntRange ≡ None
in_range width value few below = ap (λ (x : Bool). unless x E.IntRange) (and_from (nat_le width 64) (nat_lt value (2 ^ width)) (le-leb width 64 few) (lt-ltb value (2 ^ width) below))

module _ (m : Module) (x : ConstContext) (c : LLVMConst) (sound : IsModule m) where
  -- a line for each kind that has an attribute
  pub int_made : (t : LLVMType) (value : ℕ) (ty : TypeHandle) → slice_get m.consts c.0 ≡ Some (C.Int t value) → IsConstIn m (C.Int t value) → ((width : ℕ) → slice_get m.types t.0 ≡ Some (T.Int width) → width ≤ 64)
      → given_at x t ≡ Some ty → IsAttrGiven m x c (A.Integer ty value)
  int_made t value ty at (width, typed, fits) short known = λ ks context.
      let g = context.each t ty known in
      let ts = type_trees ks in
      let whole : D.type_at ts ty ≡ IntType width = g.is ∙ ap (renamed (called x.names)) (int_tree_of m t width sound typed) in
      record {
        within = subst (HasTypesBelow (length ks)) (sym (integer_data ty value)) g.within;
        is = ap (attr_of (called x.names)) (int_at m c t value width sound at typed) ∙ ap (λ (u : TypeTree). let o : Option AttrTree = Some (IntegerAttr u value) in o) (sym whole)
            ∙ ap (λ (d : Attr TypeHandle). Some (attr_tree ts d)) (sym (integer_data ty value));
        keeps = ap (λ (d : Attr TypeHandle). broken (structs_of ks) (attr_tree ts d)) (integer_data ty value) ∙ ap (λ (u : TypeTree). unless (is_in_range u value) E.IntRange) whole ∙ in_range width value (short width typed) fits.0;
      }

  pub filled_made : (fill : Fill) (t : LLVMType) (ty : TypeHandle) (a : ConstAttr) → slice_get m.consts c.0 ≡ Some (C.Filled fill t) → given_at x t ≡ Some ty → attr_data a ≡ FilledAttr fill ty → IsAttrGiven m x c a
  filled_made fill t ty a at known data_is = λ ks context.
      let g = context.each t ty known in
      let ts = type_trees ks in
      record {
        within = subst (HasTypesBelow (length ks)) (sym data_is) g.within;
        is = ap (attr_of (called x.names)) (filled_const_of m c fill t at) ∙ ap (λ (u : TypeTree). let o : Option AttrTree = Some (FilledAttr fill u) in o) (sym g.is) ∙ ap (λ (d : Attr TypeHandle). Some (attr_tree ts d)) (sym data_is);
        keeps = ap (λ (d : Attr TypeHandle). broken (structs_of ks) (attr_tree ts d)) data_is;
      }

  pub bytes_made : (t : LLVMType) (bytes : List ℕ) (a : ConstAttr) → slice_get m.consts c.0 ≡ Some (C.Bytes t bytes) → attr_data a ≡ BytesAttr bytes → IsAttrGiven m x c a
  bytes_made t bytes a at data_is = λ ks context.
      let ts = type_trees ks in
      record {
        within = subst (HasTypesBelow (length ks)) (sym data_is) tt;
        is = ap (attr_of (called x.names)) (tree_of m c (C.Bytes t bytes) sound at) ∙ ap (λ (d : Attr TypeHandle). Some (attr_tree ts d)) (sym data_is);
        keeps = ap (λ (d : Attr TypeHandle). broken (structs_of ks) (attr_tree ts d)) data_is;
      }

  pub list_made : (t : LLVMType) (elements : List LLVMConst) (ty : TypeHandle) (made : Vec ConstAttr Global) → slice_get m.consts c.0 ≡ Some (C.List t elements) → IsConstIn m (C.List t elements) → given_at x t ≡ Some ty
      → AreAttrsGiven m x elements made.items → IsAttrGiven m x c (A.Aggregate made ty)
  list_made t elements ty made at over known each = λ ks context.
      let g = context.each t ty known in
      let ts = type_trees ks in
      let list = over.0 in
      let all = each ks context in
      let typed = all_typed m x.names ks sound elements made.items list.parts all list.count list.each in
      let fits = list_fits m x.names ks sound t list.kind list.parts made.items list.typed list.fit g.struct typed in
      let keep = all_keep m x.names ks elements made.items all in
      record {
        within = subst (HasTypesBelow (length ks)) (sym (aggregate_data made ty)) (all_below m x.names ks elements made.items all, g.within);
        is = ap (attr_of (called x.names)) (tree_of m c (C.List t elements) sound at)
            ∙ ap (option_map (λ (ds : AttrTrees). let d : AttrTree = AggregateAttr ds (renamed (called x.names) (type_at (trees_of m).types t)) in d)) (all_are m x.names ks elements made.items all)
            ∙ ap (λ (u : TypeTree). let o : Option AttrTree = Some (AggregateAttr (attr_trees ts (attrs_data made.items)) u) in o) (sym g.is)
            ∙ ap (λ (d : Attr TypeHandle). Some (attr_tree ts d)) (sym (aggregate_data made ty));
        keeps = ap (λ (d : Attr TypeHandle). broken (structs_of ks) (attr_tree ts d)) (aggregate_data made ty)
            ∙ ap (λ (u : TypeTree). option_or (misfit (attr_trees ts (attrs_data made.items)) (elements_of (structs_of ks) u)) (broken_in (structs_of ks) (attr_trees ts (attrs_data made.items)))) g.is
            ∙ ap (λ (o : Option AttrErr). option_or o (broken_in (structs_of ks) (attr_trees ts (attrs_data made.items)))) fits ∙ keep;
      }

-- ---- the elements of a list

module _ (m : Module) (c : LLVMConst) (t : LLVMType) (elements : List LLVMConst) (sound : IsModule m) (at : slice_get m.consts c.0 ≡ Some (C.List t elements)) where
  listed : IsListOf m.types m.consts m.structs t elements
  listed = (sound.consts c.0 (C.List t elements) at).0

  -- the type that the list asks of the element at a place
  asked : (i : ℕ) (e : LLVMConst) → slice_get elements i ≡ Some e → (u : LLVMType) × (slice_get listed.parts i ≡ Some u)
  asked i e here = let within = slice_get_within elements i e here in let count = listed.count in item_there listed.parts i (omega (arith, within, count))

  pub element_there : (i : ℕ) (e : LLVMConst) → slice_get elements i ≡ Some e → IsConstant m e
  element_there i e here = let u = asked i e here in let is = listed.each i e u.0 here u.1 in (is.0, is.1, is.2.1)

  pub element_below : (i : ℕ) (e : LLVMConst) → slice_get elements i ≡ Some e → e.0 < c.0
  element_below i e here = within_at elements (λ (d : LLVMConst). d.0 < c.0) (sound.consts_below c.0 (C.List t elements) at) i e here

  -- what is within its type is within that of the list
  pub element_within : (i : ℕ) (e : LLVMConst) → slice_get elements i ≡ Some e → (u : LLVMType) → IsInConst m e u → IsInConst m c u
  element_within i e here u inside =
      let v = asked i e here in
      let is = listed.each i e v.0 here v.1 in
      let part = element_part m t listed.kind listed.parts listed.typed listed.fit i v.0 v.1 in
      let own : type_number m e ≡ v.0 = number_at m e is.0 is.1 ∙ is.2.0 in
      subst (IsWithin m u) (sym (number_at m c (C.List t elements) at)) (Inside t v.0 part (subst (IsWithin m u) own inside))

-- ---- what stands for a constant

-- what was made is the constant's attribute, and its type stands for the constant's
pub made_for : (m : Module) (x : ConstContext) (ks : List TypeKind) (c : LLVMConst) (ty : TypeHandle) (a : ConstAttr) → IsConstant m c → IsModule m → IsContextFor m ks x → StandsFor m x.names ks (type_number m c) ty → IsAttrGiven m x c a → IsAttrFor m x.names ks c a
made_for m x ks c ty a (k, at, single) sound context stands given =
    let made = given ks context in
    let type = made_type m x.names ks c k ty sound at stands in
    record {
      within = made.within;
      is = made.is;
      term = λ setting block. attr_holds (record { block = block; struct = called x.names }) setting (tree_at m c) (attr_tree (type_trees ks) (attr_data a)) made.is;
      keeps = made.keeps;
      type = ty;
      typed = attr_type (called x.names) (tree_at m c) (attr_tree (type_trees ks) (attr_data a)) made.is ∙ sym type;
      stands = stands;
    }

-- ---- operations

-- what has an attribute, and is not zero, undef or poison, has an operation that holds it
kind_of : (to : List ℕ → List ℕ) (c : ConstTree) (a : AttrTree) → ((fill : Fill) (t : TypeTree) → ¬ (c ≡ FilledConst fill t)) → attr_of to c ≡ Some a → kind_for to c ≡ Some (ConstantOp a)
kind_of to (IntConst width value) a other is = ap (option_map ConstantOp) is
kind_of to (FilledConst fill t) a other is = absurd (other fill t refl)
kind_of to (BytesConst bytes) a other is = ap (option_map ConstantOp) is
kind_of to (ListConst t cs) a other is = ap (option_map ConstantOp) is
kind_of to (SplatConst t c) a other is = cc
kind_of to (PlaceholderConst number t) a other is = cc

-- zero, undef or poison goes by the type of the result
filled_stands : (given : List Named) (ks : List TypeKind) (fill : Fill) (t : TypeTree) (ty : TypeHandle) (op : OpRef) → D.type_at (type_trees ks) ty ≡ renamed (called given) t
    → (o : DialectOp) × (op_of (type_trees ks) op (op_data (K.Filled fill) ty) ≡ Some o) × IsOpFor given (FilledConst fill t) o
filled_stands given ks fill t ty op is = (
  record { number = op.0; name = None; kind = FilledOp fill; operands = []; successors = []; result = Some (D.type_at (type_trees ks) ty) },
  refl,
  record {
    kind = refl;
    operands = refl;
    successors = refl;
    result = ap (λ (u : TypeTree). Some u) is;
    term = λ setting types block. ap (λ (u : TypeTree). let a : Action Value = Holds (filled_term fill u) in a) is ∙ ap (λ (u : Term). let a : Action Value = Holds u in a) (sym (filled_under (record { block = block; struct = called given }) fill t));
  },
)

module _ (m : Module) (x : ConstContext) (c : LLVMConst) where
  pub attr_op : (a : ConstAttr) → ((fill : Fill) (t : TypeTree) → ¬ (tree_at m c ≡ FilledConst fill t)) → IsAttrGiven m x c a → IsOpKindGiven m x c (K.Constant a)
  attr_op a other given = λ ks context.
      let made = given ks context in
      let ts = type_trees ks in
      record {
        plain = refl;
        types = made.within;
        stands = λ ty op is. (
          record { number = op.0; name = None; kind = ConstantOp (attr_tree ts (attr_data a)); operands = []; successors = []; result = Some (D.type_at ts ty) },
          refl,
          record {
            kind = kind_of (called x.names) (tree_at m c) (attr_tree ts (attr_data a)) other made.is;
            operands = refl;
            successors = refl;
            result = ap (λ (t : TypeTree). Some t) is;
            term = λ setting types block. ap (λ (t : Term). let h : Action Value = Holds t in h) (attr_holds (record { block = block; struct = called x.names }) setting (tree_at m c) (attr_tree ts (attr_data a)) made.is);
          },
        );
      }

  pub filled_op : (fill : Fill) (t : LLVMType) → slice_get m.consts c.0 ≡ Some (C.Filled fill t) → IsOpKindGiven m x c (K.Filled fill)
  filled_op fill t at = λ ks context.
      let tree = filled_const_of m c fill t at in
      record {
        plain = refl;
        types = tt;
        stands = λ ty op is.
            let o = filled_stands x.names ks fill (type_at (trees_of m).types t) ty op (is ∙ ap (λ (d : ConstTree). renamed (called x.names) (const_type d)) tree) in
            (o.0, o.1, subst (λ (d : ConstTree). IsOpFor x.names d o.0) (sym tree) o.2);
      }

  -- what is no zero, undef or poison by its kind is none as a tree
  pub other_tree : (k : LLVMConstKind) → IsModule m → slice_get m.consts c.0 ≡ Some k → ((fill : Fill) (t : LLVMType) → ¬ (k ≡ C.Filled fill t)) → (fill : Fill) (t : TypeTree) → ¬ (tree_at m c ≡ FilledConst fill t)
  other_tree (C.Int t value) sound at other fill u is = let e = tree_of m c (C.Int t value) sound at in cc
  other_tree (C.Filled f t) sound at other fill u is = other f t refl
  other_tree (C.Bytes t bytes) sound at other fill u is = let e = tree_of m c (C.Bytes t bytes) sound at in cc
  other_tree (C.List t cs) sound at other fill u is = let e = tree_of m c (C.List t cs) sound at in cc
  other_tree (C.Splat t d) sound at other fill u is = let e = tree_of m c (C.Splat t d) sound at in cc
  other_tree (C.Placeholder n t) sound at other fill u is = let e = tree_of m c (C.Placeholder n t) sound at in cc

-- the operation that was made behind a conversion of the type
pub adds_op : (m : Module) (c : LLVMConst) (a typed b : ContextData) (x y : ConstContext) (kind : OpKind) (ty : TypeHandle) (op : OpRef) → IsConstant m c → IsModule m → Gives m (IsInConst m c) a x typed y → StandsFor m y.names typed.types (type_number m c) ty → IsOpKindGiven m y c kind
    → b ≡ with_op typed (op_data kind ty) → op.0 ≡ length typed.ops → AddsOp m c a x b y op
adds_op m c a typed b x y kind ty op (k, at, single) sound gives stands given is number =
    let type = made_type m y.names typed.types c k ty sound at stands in
    let ts = type_trees typed.types in
    let for = given typed.types gives.context in
    let made = for.stands ty op type in
    record {
      typed = typed;
      gives = gives;
      kind = kind;
      type = ty;
      is = is;
      below = subst (λ (d : ContextData). IsTypedOp (length d.types) (op_data kind ty)) (sym is) (record { kind = for.types; result = stands.within; symbol = tt });
      stands = subst (λ (d : ContextData). StandsFor m y.names d.types (type_number m c) ty) (sym is) stands;
      number = number ∙ ap (λ (d : ContextData). length d.ops) gives.types.rest;
      made = made.0;
      at = ap (λ (d : ContextData). op_at (type_trees d.types) d.ops op) is ∙ new_op_at ts typed.ops (op_data kind ty) op number ∙ made.1;
      of = made.2;
    }

-- ---- refusals

module _ (m : Module) (c : LLVMConst) where
  -- what refuses an element refuses the whole
  pub element_cause : (e : LLVMConst) (k : LLVMConstKind) (place : ℕ) (err : ConversionErr) → slice_get m.consts c.0 ≡ Some k → slice_get (elements_in k) place ≡ Some e → IsPartCause m e err → IsPartCause m c err
  element_cause e k place (R.UndefinedValue name v) at here h = h
  element_cause e k place (R.IntConstTooWide width) at here h = record { part = h.part; inside = InElement c e k place at here h.inside; value = h.value; is = h.is; wide = h.wide }
  element_cause e k place (R.Unsupported (U.Ty of)) at here h = h
  element_cause e k place (R.Unsupported U.ScalableSplat) at here h = record { part = h.part; inside = InElement c e k place at here h.inside; type = h.type; element = h.element; is = h.is }
  element_cause e k place (R.Struct s) at here h = h
  element_cause e k place R.NoMemory at here h = tt

  pub part_cause : (before : List Struct) (given : List Named) (err : ConversionErr) → IsPartCause m c err → IsConstCause m c before given err
  part_cause before given (R.UndefinedValue name v) h = h
  part_cause before given (R.IntConstTooWide width) h = h
  part_cause before given (R.Unsupported (U.Ty of)) h = absurd h
  part_cause before given (R.Unsupported U.ScalableSplat) h = h
  part_cause before given (R.Struct s) h = absurd h
  part_cause before given R.NoMemory h = tt

  pub type_cause : (before : List Struct) (given : List Named) (err : ConversionErr) → IsCause m (IsInConst m c) before given err → IsConstCause m c before given err
  type_cause before given (R.UndefinedValue name v) h = h
  type_cause before given (R.IntConstTooWide width) h = absurd h
  type_cause before given (R.Unsupported (U.Ty of)) h = h
  type_cause before given (R.Unsupported U.ScalableSplat) h = absurd h
  type_cause before given (R.Struct s) h = h
  type_cause before given R.NoMemory h = tt

  -- an integer of more than 64 bits
  pub wide_cause : (t : LLVMType) (value : ℕ) (err : ConversionErr) → IsModule m → slice_get m.consts c.0 ≡ Some (C.Int t value) → IsWideAt m t err → IsPartCause m c err
  wide_cause t value err sound at (width, typed, wide, is) =
      subst (IsPartCause m c) (sym is) (record { part = c; inside = TheWhole; value = value; is = int_at m c t value width sound at typed; wide = wide })

  -- a scalable vector of equal elements
  pub splat_cause : (t : LLVMType) (element : LLVMConst) → IsModule m → slice_get m.consts c.0 ≡ Some (C.Splat t element) → IsPartCause m c (R.Unsupported U.ScalableSplat)
  splat_cause t element sound at = record { part = c; inside = TheWhole; type = type_at (trees_of m).types t; element = const_at (trees_of m).consts element; is = tree_of m c (C.Splat t element) sound at }
