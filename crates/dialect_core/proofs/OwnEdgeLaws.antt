-- A module of well-formed functions, whose edges lead to blocks of their own functions, is well-formed.
use Rattle.std.proofs.Common.{◌≡◌, ◌<◌, ◌≤◌, ℕ, List, Option, Some, None, All, length, slice_get, ap, sym, ◌∙◌, refl}
use Rattle.std.specs.List.{filter_map}
use Rattle.std.specs.Option.{option_map, option_and_then}
use Rattle.std.proofs.lemmas.Option.{none-some, same_Some, slice_get_within}
use Rattle.support.proofs.ListLaws.{all_from}
use Rattle.dialect_types.specs.Trees.{TypeTree, type_at, type_trees}
use Rattle.dialect_core.specs.declared.numbers.OpRef.{OpRef}
use Rattle.dialect_core.specs.declared.numbers.BlockRef.{BlockRef}
use Rattle.dialect_core.specs.declared.ops.Successor.{Successor}
use Rattle.dialect_core.specs.declared.ops.OpKind.TheVariants as K
use Rattle.dialect_core.specs.declared.ops.OpData.{OpData}
use Rattle.dialect_core.specs.declared.ops.BlockData.{BlockData}
use Rattle.dialect_core.specs.ContextData.{ContextData, AreRegions, IsSymbol, holder_at, kind_at, region_at}
use Rattle.dialect_core.specs.Data.{Kind, DialectOp, DialectBlock, Func, llvm_name_of, kind_of, op_of, op_at, block_in, held, data_of, ops_in, type_in}
use Rattle.dialect_core.specs.Form.{FitsTarget, LeadsToOwn, edges_of}
use Rattle.dialect_core.specs.WellFormed.{HasFirstClassArgs, IsEdge, IsFew, IsFewFunc, IsFirst, IsPastFirsts, IsPlainAt, IsWellFormed, IsWellFormedBlock, IsWellFormedFunc, IsWellFormedOp, HasNamesApart}
use Rattle.dialect_core.specs.Checking.{block_at, func_at}
use Rattle.dialect_core.proofs.HoldLemmas.{flat_stands, stands_flat}
use Rattle.dialect_core.proofs.TestLemmas.{same_block}
use Rattle.dialect_core.proofs.FuncLemmas.{blocks_are, block_number, ops_are}
use Rattle.dialect_core.proofs.FuncTestLemmas.{block_data, func_there}
use Rattle.dialect_core.proofs.LineLemmas.{all_at, plain_op, same_place, then_some}
use Rattle.dialect_core.proofs.RuleLemmas.{kind_edges}

-- the edges of an operation are those of its data
op_edges : (ts : List TypeTree) (o : OpRef) (x : OpData) (d : DialectOp) → op_of ts o x ≡ Some d → d.successors ≡ x.successors
op_edges ts o x d h = by (kind_of ts x.kind) h
  where
    by : (k : Option Kind) → option_map (λ (k : Kind). record { number = o.0; name = x.name; kind = k; operands = x.operands; successors = x.successors; result = option_map (type_at ts) x.result }) k ≡ Some d → d.successors ≡ x.successors
    by None e = absurd (none-some d e)
    by (Some k) e = ap (λ (d : DialectOp). d.successors) (sym (same_Some _ d e))

module _ (c : ContextData) (regions : AreRegions (region_at c.ops) (holder_at c.blocks)) where
  -- a block of a region is there
  pub region_within : (o k : ℕ) (b : BlockRef) → slice_get (region_at c.ops o) k ≡ Some b → b.0 < length c.blocks
  region_within o k b at = by (slice_get c.blocks b.0) refl (regions.ours o k b at)
    where
      by : (x : Option BlockData) → slice_get c.blocks b.0 ≡ x → option_map (λ (x : BlockData). x.holder.0) x ≡ Some o → b.0 < length c.blocks
      by None is e = absurd (none-some o e)
      by (Some x) is e = slice_get_within c.blocks b.0 x is

  module _ (f : OpRef) (plain : All (IsPlainAt c) (held c f.0)) (well : IsWellFormedFunc (type_in c) (func_at c f)) (own : LeadsToOwn (func_at c f)) where
    abbrev g : Func
    g = func_at c f

    abbrev region : List BlockRef
    region = region_at c.ops f.0

    there : (k : ℕ) (b : BlockRef) → slice_get region k ≡ Some b → b.0 < length c.blocks
    there k b at = region_within f.0 k b at

    -- the block that an edge leads to stands at its place in the region
    target : (s : Successor) → FitsTarget g s → (i : ℕ) × (b : DialectBlock) × (slice_get g.blocks i ≡ Some b) × (b.number ≡ s.block.0) × (slice_get region i ≡ Some s.block)
    target s t =
        let at : slice_get (filter_map (block_in (type_trees c.types) c) region) t.0 ≡ Some t.1 = ap (λ (xs : List DialectBlock). slice_get xs t.0) (sym (blocks_are c f there)) ∙ t.2 in
        let place = same_place (block_in (type_trees c.types) c) region (λ k b at. (block_at c b, block_data c g b (there k b at))) t.0 in
        let r = then_some (block_in (type_trees c.types) c) (slice_get region t.0) t.1 (sym place ∙ at) in
        let same : r.0 ≡ s.block = same_block r.0 s.block (sym (block_number (type_trees c.types) c r.0 t.1 r.2) ∙ t.3) in
        (t.0, t.1, t.2, t.3, r.1 ∙ ap Some same)

    -- so it is no first block: it would be that of the function
    past_edge : (s : Successor) → IsEdge (type_in c) g s → FitsTarget g s → IsFirst c s.block → ⊥
    past_edge s e t w =
        let p = target s t in
        let same : w.0 ≡ f.0 = same_Some w.0 f.0 (sym (regions.ours w.0 0 s.block w.1) ∙ regions.ours f.0 p.0 s.block p.4) in
        let first : slice_get region 0 ≡ Some s.block = ap (λ (n : ℕ). slice_get (region_at c.ops n) 0) (sym same) ∙ w.1 in
        let zero : 0 ≡ p.0 = regions.once f.0 0 p.0 s.block first p.4 in
        e.no_entry p.1 (ap (slice_get g.blocks) zero ∙ p.2) (sym p.3)

    pub own_past : All (IsPastFirsts c) (held c f.0)
    own_past = all_from (IsPastFirsts c) (held c f.0) (λ k o at. past k o at)
      where
        past : (k : ℕ) (o : OpRef) → slice_get (held c f.0) k ≡ Some o → IsPastFirsts c o
        past k o at x is =
            let p = plain_op c o (all_at (IsPlainAt c) (held c f.0) plain k o at) in
            let place = same_place (op_at (type_trees c.types) c.ops) (held c f.0) (λ k o at. let q = plain_op c o (all_at (IsPlainAt c) (held c f.0) plain k o at) in (q.0, q.1)) k in
            let stands : slice_get (ops_in g) k ≡ Some p.0 = ap (λ (xs : List DialectOp). slice_get xs k) (ops_are c f there) ∙ place ∙ ap (option_and_then (op_at (type_trees c.types) c.ops)) at ∙ p.1 in
            let b = flat_stands (λ (b : DialectBlock). b.ops) g.blocks p.0 k stands in
            let block = all_at (IsWellFormedBlock (type_in c) g) g.blocks well.blocks b.1.0 b.0 b.1.1 in
            let edges = kind_edges (type_in c) g p.0.operands p.0.result p.0.successors p.0.kind (all_at (IsWellFormedOp (type_in c) g) b.0.ops block.ops b.2.0 p.0 b.2.1) in
            let same : p.0.successors ≡ x.successors = op_edges (type_trees c.types) o x p.0 (sym (ap (option_and_then (op_of (type_trees c.types) o)) is) ∙ p.1) in
            all_from (λ (s : Successor). ¬ IsFirst c s.block) x.successors (λ j s here w.
            let mine : slice_get p.0.successors j ≡ Some s = ap (λ (ss : List Successor). slice_get ss j) same ∙ here in
            let e = stands_flat (λ (o : DialectOp). o.successors) b.0.ops p.0 s b.2.0 b.2.1 (j, mine) in
            past_edge s (all_at (IsEdge (type_in c) g) p.0.successors edges j s mine) (all_at (FitsTarget g) (edges_of b.0) (all_at (λ (b : DialectBlock). All (FitsTarget g) (edges_of b)) g.blocks own b.1.0 b.0 b.1.1) e.0 s e.1) w)

  -- a module by its functions
  module _ (symbols : (o : OpRef) → kind_at c.ops o ≡ Some K.Func → IsSymbol c.ops o) (m : ℕ) where
    pub own_module : kind_at c.ops (record { 0 = m }) ≡ Some K.Module → length (region_at c.ops m) ≤ 1 → All (HasFirstClassArgs c) (region_at c.ops m) → All (λ (o : OpRef). kind_at c.ops o ≡ Some K.Func) (held c m) → All (λ (o : OpRef). All (IsPlainAt c) (held c o.0)) (held c m)
        → All (IsWellFormedFunc (type_in c)) (data_of c m).functions → All LeadsToOwn (data_of c m).functions → HasNamesApart (λ (g : Func). g.name) (data_of c m).functions → HasNamesApart llvm_name_of (data_of c m).functions → IsFew (held c m) → All (IsFewFunc c) (held c m) → IsWellFormed c m
    own_module kind one args alone plain functions own names llvm_names few few_each = record {
      kind = kind;
      region = one;
      args = args;
      funcs_alone = alone;
      plain = plain;
      past_firsts = all_from (λ (o : OpRef). All (IsPastFirsts c) (held c o.0)) (held c m) (λ k o at.
          let here = func_there c symbols m (λ k o at. all_at (λ (o : OpRef). kind_at c.ops o ≡ Some K.Func) (held c m) alone k o at) k o at in
          own_past o (all_at (λ (o : OpRef). All (IsPlainAt c) (held c o.0)) (held c m) plain k o at)
          (all_at (IsWellFormedFunc (type_in c)) (data_of c m).functions functions k (func_at c o) here)
          (all_at LeadsToOwn (data_of c m).functions own k (func_at c o) here));
      functions = functions;
      names = names;
      llvm_names = llvm_names;
      few = few;
      few_each = few_each;
    }
