-- Each operation of a function whose constants keep the rules of constants, being neither a module nor a function, is plain; and
-- the constants of a function whose operations are plain keep the rules.
use Rattle.std.proofs.Common.{◌≡◌, ℕ, List, [], Option, Some, None, All, slice_get, unwrap_or, ap, sym, subst, ◌∙◌}
use Rattle.std.specs.List.{filter_map}
use Rattle.std.specs.Option.{option_map, option_and_then, option_map_or}
use Rattle.std.proofs.lemmas.Option.{none-some, same_Some}
use Rattle.support.proofs.ListLaws.{all_from}
use Rattle.dialect_types.specs.Trees.{type_at, type_trees, structs_of}
use Rattle.const_attrs.specs.Trees.{attr_tree, attr_data}
use Rattle.dialect_core.specs.declared.numbers.OpRef.{OpRef}
use Rattle.dialect_core.specs.declared.ops.OpKind.{OpKind}
use Rattle.dialect_core.specs.declared.ops.OpKind.TheVariants as K
use Rattle.dialect_core.specs.declared.ops.OpData.{OpData}
use Rattle.dialect_core.specs.declared.ops.Symbol.{Symbol}
use Rattle.dialect_core.specs.Lists.{list_at}
use Rattle.dialect_core.specs.ContextData.{ContextData, AreRegions, IsPlainKindAt, IsSymbol, holder_at, kind_at, region_at}
use Rattle.dialect_core.specs.Data.{Kind, ConstantOp, FilledOp, RowOp, DialectOp, DialectBlock, Func, kind_of, op_of, op_at, block_in, func_of, func_in, held, data_of, ops_in}
use Rattle.dialect_core.specs.Form.{IsRuled, IsRuledKind}
use Rattle.dialect_core.specs.WellFormed.{IsOpenForm, IsPlainAt, KeepsRules}
use Rattle.dialect_core.specs.Checking.{func_at}
use Rattle.dialect_core.proofs.HoldLemmas.{flat_stands, stands_flat}
use Rattle.dialect_core.proofs.FuncLemmas.{made_of, ops_are}
use Rattle.dialect_core.proofs.FuncTestLemmas.{func_there}
use Rattle.dialect_core.proofs.LineLemmas.{all_at, kind_op, same_place}
use Rattle.dialect_core.proofs.OwnEdgeLaws.{region_within}
use Rattle.dialect_core.proofs.TypingLaws.{block_ops}

-- ---- operations

module _ (c : ContextData) where
  kind_keeps : (k : OpKind) (d : Kind) → kind_of (type_trees c.types) k ≡ Some d → IsRuledKind (structs_of c.types) d → KeepsRules c k
  kind_keeps K.Module d is h = tt
  kind_keeps K.Func d is h = tt
  kind_keeps (K.Constant value) d is h = subst (IsRuledKind (structs_of c.types)) (sym (same_Some (ConstantOp (attr_tree (type_trees c.types) (attr_data value))) d is)) h
  kind_keeps (K.Filled fill) d is h = tt
  kind_keeps (K.Row op) d is h = tt

  -- and the other way round
  keeps_kind : (k : OpKind) (d : Kind) → kind_of (type_trees c.types) k ≡ Some d → KeepsRules c k → IsRuledKind (structs_of c.types) d
  keeps_kind K.Module d is h = absurd (none-some d is)
  keeps_kind K.Func d is h = absurd (none-some d is)
  keeps_kind (K.Constant value) d is h = subst (IsRuledKind (structs_of c.types)) (same_Some (ConstantOp (attr_tree (type_trees c.types) (attr_data value))) d is) h
  keeps_kind (K.Filled fill) d is h = subst (IsRuledKind (structs_of c.types)) (same_Some (FilledOp fill) d is) tt
  keeps_kind (K.Row op) d is h = subst (IsRuledKind (structs_of c.types)) (same_Some (RowOp op) d is) tt

  abbrev made : OpRef → OpData → Kind → DialectOp
  made o x k = record { number = o.0; name = x.name; kind = k; operands = x.operands; successors = x.successors; result = option_map (type_at (type_trees c.types)) x.result }

  -- the kind of an operation by that of its data
  kind_is : (o : OpRef) (k : OpKind) (d : DialectOp) → kind_at c.ops o ≡ Some k → op_at (type_trees c.types) c.ops o ≡ Some d → kind_of (type_trees c.types) k ≡ Some d.kind
  kind_is o k d at is = by (slice_get c.ops o.0) at is
    where
      of_kind : (x : OpData) (j : Option Kind) → option_map (made o x) j ≡ Some d → j ≡ Some d.kind
      of_kind x None e = absurd (none-some d e)
      of_kind x (Some j) e = ap (λ (d : DialectOp). Some d.kind) (same_Some (made o x j) d e)

      by : (x : Option OpData) → option_map (λ (x : OpData). x.kind) x ≡ Some k → option_and_then (op_of (type_trees c.types) o) x ≡ Some d → kind_of (type_trees c.types) k ≡ Some d.kind
      by None at is = absurd (none-some k at)
      by (Some x) at is = ap (kind_of (type_trees c.types)) (sym (same_Some x.kind k at)) ∙ of_kind x (kind_of (type_trees c.types) x.kind) is

  -- an operation whose constant keeps the rules
  pub ruled_plain : (o : OpRef) (d : DialectOp) → IsPlainKindAt c.ops o → op_at (type_trees c.types) c.ops o ≡ Some d → IsRuledKind (structs_of c.types) d.kind → IsPlainAt c o
  ruled_plain o d plain is h = (plain.0, plain.1, plain.2, kind_keeps plain.0 d.kind (kind_is o plain.0 d plain.1 is) h)

  plain_ruled : (o : OpRef) (d : DialectOp) → IsPlainAt c o → op_at (type_trees c.types) c.ops o ≡ Some d → IsRuledKind (structs_of c.types) d.kind
  plain_ruled o d plain is = keeps_kind plain.0 d.kind (kind_is o plain.0 d plain.1 is) plain.3

-- ---- functions

module _ (c : ContextData) (regions : AreRegions (region_at c.ops) (holder_at c.blocks)) where
  module _ (f : OpRef) (plain : All (IsPlainKindAt c.ops) (held c f.0)) (form : IsOpenForm c (func_at c f)) where
    abbrev g : Func
    g = func_at c f

    func_plain : All (IsPlainAt c) (held c f.0)
    func_plain = all_from (IsPlainAt c) (held c f.0) (λ k o at. one k o at)
      where
        one : (k : ℕ) (o : OpRef) → slice_get (held c f.0) k ≡ Some o → IsPlainAt c o
        one k o at =
            let q = all_at (IsPlainKindAt c.ops) (held c f.0) plain k o at in
            let p = kind_op c o q in
            let place = same_place (op_at (type_trees c.types) c.ops) (held c f.0) (λ k o at. let q = kind_op c o (all_at (IsPlainKindAt c.ops) (held c f.0) plain k o at) in (q.0, q.1)) k in
            let stands : slice_get (ops_in g) k ≡ Some p.0 = ap (λ (xs : List DialectOp). slice_get xs k) (ops_are c f (region_within c regions f.0)) ∙ place ∙ ap (option_and_then (op_at (type_trees c.types) c.ops)) at ∙ p.1 in
            ruled_plain c o p.0 q p.1 (all_at (λ (o : DialectOp). IsRuledKind (structs_of c.types) o.kind) (ops_in g) form.2 k p.0 stands)

  -- a module by its functions
  pub open_plain : ((o : OpRef) → kind_at c.ops o ≡ Some K.Func → IsSymbol c.ops o) → (m : ℕ) → All (λ (o : OpRef). kind_at c.ops o ≡ Some K.Func) (held c m) → All (λ (o : OpRef). All (IsPlainKindAt c.ops) (held c o.0)) (held c m) → All (IsOpenForm c) (data_of c m).functions
      → All (λ (o : OpRef). All (IsPlainAt c) (held c o.0)) (held c m)
  open_plain symbols m alone plain forms = all_from (λ (o : OpRef). All (IsPlainAt c) (held c o.0)) (held c m) (λ k o at.
      let here = func_there c symbols m (λ k o at. all_at (λ (o : OpRef). kind_at c.ops o ≡ Some K.Func) (held c m) alone k o at) k o at in
      func_plain o (all_at (λ (o : OpRef). All (IsPlainKindAt c.ops) (held c o.0)) (held c m) plain k o at) (all_at (IsOpenForm c) (data_of c m).functions forms k (func_at c o) here))

-- ---- the rules of constants

-- the blocks of a function are those of its region
region_blocks : (c : ContextData) (f : OpRef) (g : Func) → func_in (type_trees c.types) c f ≡ Some g → g.blocks ≡ filter_map (block_in (type_trees c.types) c) (region_at c.ops f.0)
region_blocks c f g h = by (slice_get c.ops f.0) h
  where
    with_symbol : (x : OpData) (s : Option Symbol) → option_map {U = Func} (λ (s : Symbol). record { number = f.0; name = unwrap_or x.name []; llvm_name = s.llvm_name; type = type_at (type_trees c.types) s.ty; linkage = s.linkage; blocks = filter_map (block_in (type_trees c.types) c) x.blocks }) s ≡ Some g → g.blocks ≡ filter_map (block_in (type_trees c.types) c) x.blocks
    with_symbol x None e = absurd (none-some g e)
    with_symbol x (Some s) e = ap (λ (g : Func). g.blocks) (sym (same_Some _ g e))

    by : (x : Option OpData) → option_and_then (func_of (type_trees c.types) c f) x ≡ Some g → g.blocks ≡ filter_map (block_in (type_trees c.types) c) (option_map_or (λ (x : OpData). x.blocks) x [])
    by None e = absurd (none-some g e)
    by (Some x) e = with_symbol x x.symbol e

-- where each operation that a function of the context holds is plain, its constants keep the rules
module _ (c : ContextData) (f : OpRef) (g : Func) (is : func_in (type_trees c.types) c f ≡ Some g) (plain : All (IsPlainAt c) (held c f.0)) where
  pub func_ruled : IsRuled (structs_of c.types) g
  func_ruled = all_from (λ (o : DialectOp). IsRuledKind (structs_of c.types) o.kind) (ops_in g) (λ k d at. one k d at)
    where
      one : (k : ℕ) (d : DialectOp) → slice_get (ops_in g) k ≡ Some d → IsRuledKind (structs_of c.types) d.kind
      one k d at =
          let b = flat_stands (λ (b : DialectBlock). b.ops) g.blocks d k at in
          let r = made_of (block_in (type_trees c.types) c) (region_at c.ops f.0) b.1.0 b.0 (ap (λ (xs : List DialectBlock). slice_get xs b.1.0) (sym (region_blocks c f g is)) ∙ b.1.1) in
          let o = made_of (op_at (type_trees c.types) c.ops) (list_at c.lists r.0) b.2.0 d (ap (λ (os : List DialectOp). slice_get os b.2.0) (sym (block_ops c r.0 b.0 r.2)) ∙ b.2.1) in
          let s = stands_flat (list_at c.lists) (region_at c.ops f.0) r.0 o.0 r.1.0 r.1.1 o.1 in
          plain_ruled c o.0 d (all_at (IsPlainAt c) (held c f.0) plain s.0 o.0 s.1) o.2

-- the functions of a module
pub functions_ruled : (c : ContextData) (m : ℕ) → All (λ (o : OpRef). All (IsPlainAt c) (held c o.0)) (held c m) → All (IsRuled (structs_of c.types)) (data_of c m).functions
functions_ruled c m plain = all_from (IsRuled (structs_of c.types)) (data_of c m).functions (λ k g at.
    let w = made_of (func_in (type_trees c.types) c) (held c m) k g at in
    func_ruled c w.0 g w.2 (all_at (λ (o : OpRef). All (IsPlainAt c) (held c o.0)) (held c m) plain w.1.0 w.0 w.1.1))
