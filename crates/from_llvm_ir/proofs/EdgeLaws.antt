-- The edges and operations of a whole function, and what they stand for.
use Rattle.std.proofs.Common.{ℕ, zero, suc, ◌≡◌, ◌<◌, ◌+◌, ◌⊎◌, inl, inr, refl, sym, ap, subst, ◌∙◌, not, false, List, [], ◌++◌, Some, map, length, take, slice_get}
use Rattle.std.specs.Option.{option_map}
use Rattle.std.proofs.lemmas.List.{length-map}
use Rattle.std.proofs.lemmas.Bool.{not-true}
use Rattle.std.proofs.lemmas.Option.{slice_get-map}
use Rattle.meaning.proofs.MatchedLaws.{matched_length, matched_at}
use Rattle.support.proofs.ListLaws.{slice_get-behind_cases, filter_from}
use Rattle.llvm_core.specs.Form as LF
use Rattle.llvm_core.specs.Data as L
use Rattle.llvm_core.specs.Data.{ConstTree, Placed, targets}
use Rattle.dialect_types.specs.Trees.{TypeTree}
use Rattle.dialect_core.specs.declared.ops.Value.{Value}
use Rattle.dialect_core.specs.declared.ops.Successor.{Successor}
use Rattle.dialect_core.specs.Data.{DialectOp, DialectBlock}
use Rattle.meaning.specs.Pairs.{Matched}
use Rattle.from_llvm_ir.specs.Imported.{passed, phis_of, rest_of, front_for}
use Rattle.from_llvm_ir.specs.Known.{Known, Stands, IsConstantOp, blocks_of}
use Rattle.from_llvm_ir.specs.Converted.{IsEdge, IsRow, IsConverted}
use Rattle.from_llvm_ir.proofs.ListLaws.{other_there}
use Rattle.from_llvm_ir.proofs.OrderLaws.{ordered_at, not_first}
use Rattle.from_llvm_ir.proofs.PassLaws.{takes, at_passed, passed_length, edge_there, target_there}
use Rattle.from_llvm_ir.proofs.Whole.{IsWhole, Head, target_at, source_at, source_block_apart}

module _ (k : Known) (cs : List DialectBlock) (h : IsWhole k cs) where
  abbrev g : L.Function
  g = k.frame.source

  abbrev bs : List L.Block
  bs = blocks_of k.frame

  -- edges are those of a function of any number and name
  abbrev any : Head
  any = record { number = 0; name = [] }

  -- ---- edges

  pub record EdgeAt (m t : ℕ) (s : Successor) : Type 0 where
    pub place : ℕ
    pub target : L.Block
    pub here : slice_get bs (suc place) ≡ Some target
    pub number : target.number ≡ t
    pub source : ℕ
    pub at : slice_get g.blocks source ≡ Some target
    pub block : DialectBlock
    pub there : slice_get cs (suc place) ≡ Some block
    pub leads : s.block.0 ≡ block.number
    pub converted : IsConverted k (take (suc place) cs) (suc place) target block
    pub edge : 0 < LF.edges_between g m target.number
    pub args : Matched (Stands k) (passed g m target.number) s.args

  pub edge_at : (i x j : ℕ) (b : L.Block) (p : Placed) (t : ℕ) (s : Successor) → slice_get g.blocks i ≡ Some b → slice_get b.instructions x ≡ Some p → slice_get (targets p.instruction) j ≡ Some t → IsEdge k b.number t s → EdgeAt b.number t s
  edge_at i x j b p t s at here leads e =
      let o = ordered_at k.frame.order g.blocks h.order e.place e.target e.here in
      let behind = target_there g h.form i x j b p t at here leads in
      let same : o.place ≡ suc behind.0 = source_block_apart any k cs h o.place (suc behind.0) e.target behind.1 o.at behind.2 (e.number ∙ sym behind.3) in
      let q = not_first k.frame.order g.blocks h.order e.place behind.0 (o.here ∙ ap Some same) in
      let here' : slice_get bs (suc q.0) ≡ Some e.target = ap (slice_get bs) (sym q.1) ∙ e.here in
      let c = target_at any k cs h (suc q.0) e.target here' in
      record {
        place = q.0;
        target = e.target;
        here = here';
        number = e.number;
        source = o.place;
        at = o.at;
        block = c.0;
        there = c.1;
        leads = e.leads ∙ ap (λ (y : ℕ). k.frame.base + y) q.1 ∙ sym c.2.head.number;
        converted = c.2;
        edge = subst (λ (y : ℕ). 0 < LF.edges_between g b.number y) (sym e.number) (edge_there g h.form i x j b p t at here leads);
        args = subst (λ (y : ℕ). Matched (Stands k) (passed g b.number y) s.args) (sym e.number) e.args;
      }

  -- the argument of the target at a place, and what the edge passes for it
  pub record ArgAt (m : ℕ) (target : L.Block) (block : DialectBlock) (y : ℕ) (v : Value) : Type 0 where
    pub phi : Placed
    pub here : slice_get (phis_of target) y ≡ Some phi
    pub operand : L.Operand
    pub is : takes m phi ≡ Some operand
    pub usable : LF.IsOperand g phi.type operand
    pub stands : Stands k operand v
    pub type : slice_get block.args y ≡ Some phi.type

  module _ (m t : ℕ) (s : Successor) (e : EdgeAt m t s) where
    phi_types : e.block.args ≡ map (λ (p : Placed). p.type) (phis_of e.target)
    phi_types = e.converted.head.args

    pub args_length : length s.args ≡ length e.block.args
    args_length =
        matched_length (Stands k) (passed g m e.target.number) s.args e.args ∙ passed_length g h.form m e.source e.target e.at e.edge
        ∙ sym (length-map (phis_of e.target) (λ (p : Placed). p.type)) ∙ sym (ap (λ (ts : List TypeTree). length ts) phi_types)

    pub arg_at : (y : ℕ) (v : Value) → slice_get s.args y ≡ Some v → ArgAt m e.target e.block y v
    arg_at y v at =
        let o = other_there s.args (passed g m e.target.number) y v (sym (matched_length (Stands k) (passed g m e.target.number) s.args e.args)) at in
        let p = at_passed g h.form m e.source e.target e.at e.edge y o.0 o.1 in
        record {
          phi = p.phi;
          here = p.here;
          operand = o.0;
          is = p.is;
          usable = p.usable;
          stands = matched_at (Stands k) (passed g m e.target.number) s.args e.args y o.0 v o.1 at;
          type = ap (λ (ts : List TypeTree). slice_get ts y) phi_types ∙ slice_get-map (λ (q : Placed). q.type) (phis_of e.target) y ∙ ap (option_map (λ (q : Placed). q.type)) p.here;
        }

  -- ---- operations

  -- an operation for a constant, at the start of the first block
  pub record ConstantAt (j y : ℕ) (o : DialectOp) : Type 0 where
    pub first : j ≡ 0
    pub constant : ConstTree
    pub here : slice_get k.constants y ≡ Some constant
    pub there : slice_get k.hoisted y ≡ Some o
    pub makes : IsConstantOp constant o

  -- an operation for an instruction
  pub record RowAt (j : ℕ) (c : DialectBlock) (o : DialectOp) : Type 0 where
    pub block : L.Block
    pub here : slice_get bs j ≡ Some block
    pub source : ℕ
    pub at : slice_get g.blocks source ≡ Some block
    pub place : ℕ
    pub inst : Placed
    pub there : slice_get block.instructions place ≡ Some inst
    pub other : LF.is_phi inst ≡ false
    pub row : IsRow k block inst o

  row_at : (j z : ℕ) (b : L.Block) (c : DialectBlock) (o : DialectOp) (v : IsConverted k (take j cs) j b c) → slice_get bs j ≡ Some b → slice_get v.rest z ≡ Some o → RowAt j c o
  row_at j z b c o v here at =
      let p = other_there v.rest (rest_of b) z o (sym (matched_length (IsRow k b) (rest_of b) v.rest v.rows)) at in
      let r = filter_from (λ (q : Placed). not (LF.is_phi q)) b.instructions z p.0 p.1 in
      let s = ordered_at k.frame.order g.blocks h.order j b here in
      record { block = b; here = here; source = s.place; at = s.at; place = r.0; inst = p.0; there = r.1; other = not-true (LF.is_phi p.0) r.2; row = matched_at (IsRow k b) (rest_of b) v.rest v.rows z p.0 o p.1 at }

  pub op_cases : (j y : ℕ) (c : DialectBlock) (o : DialectOp) → slice_get cs j ≡ Some c → slice_get c.ops y ≡ Some o → ConstantAt j y o ⊎ RowAt j c o
  op_cases j y c o at here = let b = source_at any k cs h j c at in by j b.0 b.2 b.1 (ap (λ (os : List DialectOp). slice_get os y) (sym b.2.ops) ∙ here)
    where
      by : (j : ℕ) (b : L.Block) (v : IsConverted k (take j cs) j b c) → slice_get bs j ≡ Some b → slice_get (front_for j k.hoisted ++ v.rest) y ≡ Some o → ConstantAt j y o ⊎ RowAt j c o
      by zero b v at e = elim (slice_get-behind_cases k.hoisted v.rest y o e) [
        | inl a ↦
            let x = other_there k.hoisted k.constants y o (sym (matched_length IsConstantOp k.constants k.hoisted h.made)) a in
            inl (record { first = refl; constant = x.0; here = x.1; there = a; makes = matched_at IsConstantOp k.constants k.hoisted h.made y x.0 o x.1 a })
        | inr z ↦ inr (row_at 0 z.0 b c o v at z.2)
      ]
      by (suc i) b v at e = inr (row_at (suc i) y b c o v at e)

  -- the edges of an operation
  pub op_edge : (j y : ℕ) (c : DialectBlock) (o : DialectOp) (r : RowAt j c o) (s : Successor) → slice_get o.successors y ≡ Some s → (t : ℕ) × (slice_get (targets r.inst.instruction) y ≡ Some t) × EdgeAt r.block.number t s
  op_edge j y c o r s at =
      let m = r.row.converted.successors in
      let t = other_there o.successors (targets r.inst.instruction) y s (sym (matched_length (IsEdge k r.block.number) (targets r.inst.instruction) o.successors m)) at in
      (t.0, t.1, edge_at r.source r.place y r.block r.inst t.0 s r.at r.there t.1 (matched_at (IsEdge k r.block.number) (targets r.inst.instruction) o.successors m y t.0 s t.1 at))
