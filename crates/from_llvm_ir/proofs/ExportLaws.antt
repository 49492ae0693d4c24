-- Nothing of a whole function is refused by an export.
use Rattle.std.proofs.Common.{ℕ, zero, suc, ◌≡◌, ◌<◌, ◌+◌, inl, inr, refl, sym, ap, subst, ◌∙◌, true, not, List, [], ◌∷◌, ◌++◌, Option, Some, None, All, map, length, take, slice_get, arith}
use Rattle.std.specs.Prelude.{is_some}
use Rattle.std.specs.Option.{option_map_or}
use Rattle.std.proofs.lemmas.List.{length-take-le}
use Rattle.std.proofs.lemmas.List.Elements.{All-weaker}
use Rattle.std.proofs.lemmas.Option.{slice_get_within, same_Some, none-some}
use Rattle.meaning.proofs.MatchedLaws.{matched_length, matched_at}
use Rattle.support.proofs.ListLaws.{all_from, slice_get-behind, slice_get-behind_cases, filter_from, filter_at}
use Rattle.llvm_core.specs.Form as LF
use Rattle.llvm_core.specs.Data as L
use Rattle.llvm_core.specs.Data.{ConstTree, Placed, targets, phi_entries}
use Rattle.dialect_core.specs.declared.numbers.BlockRef.{BlockRef}
use Rattle.dialect_core.specs.declared.ops.Value.{Value}
use Rattle.dialect_core.specs.declared.ops.Value.TheVariants as V
use Rattle.dialect_core.specs.declared.ops.Successor.{Successor}
use Rattle.dialect_core.specs.Form as DF
use Rattle.dialect_core.specs.Data.{DialectOp, DialectBlock, Func}
use Rattle.meaning.specs.Pairs.{Matched}
use Rattle.from_llvm_ir.specs.Imported.{passed, rest_of, phis_of, front_for}
use Rattle.from_llvm_ir.specs.Building.{ops_of}
use Rattle.from_llvm_ir.specs.Known.{Known, Stands, blocks_of}
use Rattle.from_llvm_ir.specs.Converted.{IsEdge, IsRow, StandsIn}
use Rattle.from_llvm_ir.proofs.ListLaws.{other_there}
use Rattle.from_llvm_ir.proofs.PlaceLaws.{untake, flat_at, flat_from}
use Rattle.from_llvm_ir.proofs.OrderLaws.{ordered_at, placed}
use Rattle.from_llvm_ir.proofs.PassLaws.{count_there, there_edge, phi_is, phi_form}
use Rattle.from_llvm_ir.proofs.Whole.{IsWhole, Head, the_func, target_apart, block_apart, source_at, target_at}
use Rattle.from_llvm_ir.proofs.EdgeLaws.{EdgeAt, edge_at, args_length, op_cases, op_edge}
use Rattle.from_llvm_ir.proofs.FormLaws.{constant_tests}

-- what leads somewhere is no phi
leads_on : (i : L.Instruction) (w t : ℕ) → slice_get (targets i) w ≡ Some t → not (is_some (phi_entries i)) ≡ true
leads_on (L.Phi es) w t h = absurd (none-some t h)
leads_on (L.Applied r) w t h = refl

pub first_item : {X : Type 0} (xs : List X) → ¬ (xs ≡ []) → (x : X) × (slice_get xs 0 ≡ Some x)
first_item [] not_none = absurd (not_none refl)
first_item (x ∷ xs) not_none = (x, refl)

module _ (n : Head) (k : Known) (cs : List DialectBlock) (h : IsWhole k cs) where
  abbrev g : L.Function
  g = k.frame.source

  abbrev bs : List L.Block
  bs = blocks_of k.frame

  abbrev G : Func
  G = the_func n k cs

  -- ---- values stand before their uses

  before_use : (j y : ℕ) (c : DialectBlock) → slice_get cs j ≡ Some c → (v : Value) → StandsIn (take j cs) c y v → DF.StandsBefore G j y v
  before_use j y c at (V.Result r) s = (s.0, s.1, ap (λ (o : Option DialectBlock). slice_get (ops_of (take j cs) ++ option_map_or (λ (b : DialectBlock). take y b.ops) o []) s.0) at ∙ s.2, s.3)
  before_use j y c at (V.Argument b i) s = elim (slice_get-behind_cases (take j cs) (c ∷ []) s.0 s.1 s.2) [
    | inl a ↦ let u = untake cs j s.0 s.1 a in (s.0, s.1, (let e = u.0 in omega (arith, e)), u.1, s.3, s.4)
    | inr z ↦
        let last = only z.0 z.2 in
        let len : length (take j cs) ≡ j = length-take-le j cs (let e = slice_get_within cs j c at in omega (arith, e)) in
        let place : s.0 ≡ j = (let e = z.1 in omega (arith, e, last.0, len)) in
        (s.0, s.1, (omega (arith, place)), ap (slice_get cs) place ∙ at ∙ ap Some last.1, s.3, s.4)
  ]
    where
      only : (q : ℕ) → {d : DialectBlock} → slice_get (c ∷ []) q ≡ Some d → (q ≡ 0) × (c ≡ d)
      only zero e = (refl, same_Some _ _ e)
      only (suc q) {d} e = absurd (none-some d e)

  in_order : DF.IsInOrder G
  in_order j y c o at here =
      let b = source_at n k cs h j c at in
      All-weaker (StandsIn (take j cs) c y) (DF.StandsBefore G j y) (λ v s. before_use j y c at v s) (DF.uses_of o) (b.2.in_order y o here)

  -- ---- edges

  pub record BlockEdge (j : ℕ) (s : Successor) : Type 0 where
    pub block : L.Block
    pub here : slice_get bs j ≡ Some block
    pub to : ℕ
    pub edge : EdgeAt k cs h block.number to s

  pub block_edge : (j y : ℕ) (c : DialectBlock) (s : Successor) → slice_get cs j ≡ Some c → slice_get (DF.edges_of c) y ≡ Some s → BlockEdge j s
  block_edge j y c s at here =
      let f = flat_from (λ (o : DialectOp). o.successors) c.ops y s here in
      elim (op_cases k cs h j f.place c f.item at f.here) [
        | inl a ↦ absurd (let none : None ≡ Some s = ap (λ (ss : List Successor). slice_get ss f.inner) (sym (constant_tests a.constant f.item a.makes).2) ∙ f.at in none-some s none)
        | inr r ↦ let e = op_edge k cs h j f.inner c f.item r s f.at in record { block = r.block; here = r.here; to = e.0; edge = e.2 }
      ]

  targets_fit : All (λ (b : DialectBlock). All (DF.FitsTarget G) (DF.edges_of b)) cs
  targets_fit = all_from (λ (b : DialectBlock). All (DF.FitsTarget G) (DF.edges_of b)) cs (λ j c at. all_from (DF.FitsTarget G) (DF.edges_of c) (λ y s here. fit j y c s at here))
    where
      fit : (j y : ℕ) (c : DialectBlock) (s : Successor) → slice_get cs j ≡ Some c → slice_get (DF.edges_of c) y ≡ Some s → DF.FitsTarget G s
      fit j y c s at here =
          let e = block_edge j y c s at here in
          (suc e.edge.place, e.edge.block, e.edge.there, sym e.edge.leads, args_length k cs h e.block.number e.to s e.edge)

  -- an operand stands for one value
  pub stands_one : (o : L.Operand) (v w : Value) → Stands k o v → Stands k o w → v ≡ w
  stands_one (L.Constant c) v w a b =
      let place : a.place ≡ b.place = h.once a.place b.place c a.here b.here in
      let op : a.op ≡ b.op = same_Some a.op b.op (sym a.there ∙ ap (slice_get k.hoisted) place ∙ b.there) in
      a.is ∙ ap (λ (o : DialectOp). V.Result (record { 0 = o.number })) op ∙ sym b.is
  stands_one (L.Parameter f i) v w a b = a.2 ∙ sym b.2
  stands_one (L.Result m) v w a b = same_Some v w (sym a ∙ b)

  all_one : (os : List L.Operand) (vs ws : List Value) → Matched (Stands k) os vs → Matched (Stands k) os ws → vs ≡ ws
  all_one [] [] [] a b = refl
  all_one [] [] (w ∷ ws) a b = elim b [ ]
  all_one [] (v ∷ vs) ws a b = elim a [ ]
  all_one (o ∷ os) [] ws a b = elim a [ ]
  all_one (o ∷ os) (v ∷ vs) [] a b = elim b [ ]
  all_one (o ∷ os) (v ∷ vs) (w ∷ ws) a b = let x = stands_one o v w a.0 b.0 in let xs = all_one os vs ws a.1 b.1 in cc (x, xs)

  edges_equal : All DF.HasEqualEdges cs
  edges_equal = all_from DF.HasEqualEdges cs (λ j c at i y s t at_s at_t same. equal j i y c s t at at_s at_t same)
    where
      equal : (j i y : ℕ) (c : DialectBlock) (s t : Successor) → slice_get cs j ≡ Some c → slice_get (DF.edges_of c) i ≡ Some s → slice_get (DF.edges_of c) y ≡ Some t → s.block ≡ t.block → s.args ≡ t.args
      equal j i y c s t at at_s at_t same =
          let a = block_edge j i c s at at_s in
          let b = block_edge j y c t at at_t in
          let from : a.block ≡ b.block = same_Some a.block b.block (sym a.here ∙ b.here) in
          let place = target_apart n k cs h (suc a.edge.place) (suc b.edge.place) a.edge.block b.edge.block a.edge.there b.edge.there (sym a.edge.leads ∙ ap (λ (x : BlockRef). x.0) same ∙ b.edge.leads) in
          let to : a.edge.target ≡ b.edge.target = same_Some a.edge.target b.edge.target (sym a.edge.here ∙ ap (slice_get bs) place ∙ b.edge.here) in
          let taken : passed g b.block.number b.edge.target.number ≡ passed g a.block.number a.edge.target.number = sym (both from to) in
          all_one (passed g a.block.number a.edge.target.number) s.args t.args a.edge.args (subst (λ (os : List L.Operand). Matched (Stands k) os t.args) taken b.edge.args)
        where
          both : {x y u v : L.Block} → x ≡ y → u ≡ v → passed g x.number u.number ≡ passed g y.number v.number
          both e f = cc (e, f)

  pub exportable : DF.IsExportable G
  exportable = record { in_order = in_order; targets = targets_fit; equal = edges_equal }

  -- ---- each block with arguments is an edge's target

  -- the operation for an instruction that is no phi
  pub record OpFor (j : ℕ) (b : L.Block) (p : Placed) : Type 0 where
    pub block : DialectBlock
    pub there : slice_get cs j ≡ Some block
    pub place : ℕ
    pub op : DialectOp
    pub here : slice_get block.ops place ≡ Some op
    pub row : IsRow k b p op

  pub op_for : (j x : ℕ) (b : L.Block) (p : Placed) → slice_get bs j ≡ Some b → slice_get b.instructions x ≡ Some p → not (LF.is_phi p) ≡ true → OpFor j b p
  op_for j x b p at here other =
      let c = target_at n k cs h j b at in
      let z = filter_at (λ (q : Placed). not (LF.is_phi q)) b.instructions x p here other in
      let o = other_there (rest_of b) c.2.rest z.0 p (matched_length (IsRow k b) (rest_of b) c.2.rest c.2.rows) z.1 in
      record {
        block = c.0;
        there = c.1;
        place = length (front_for j k.hoisted) + z.0;
        op = o.0;
        here = ap (λ (os : List DialectOp). slice_get os (length (front_for j k.hoisted) + z.0)) c.2.ops ∙ slice_get-behind (front_for j k.hoisted) c.2.rest z.0 ∙ o.1;
        row = matched_at (IsRow k b) (rest_of b) c.2.rest c.2.rows z.0 p o.0 z.1 o.1;
      }

  at_map : (xs : List (L.Operand × ℕ)) (i : ℕ) (x : L.Operand × ℕ) → slice_get xs i ≡ Some x → slice_get (map (λ (e : L.Operand × ℕ). e.1) xs) i ≡ Some x.1
  at_map [] i x e = absurd (none-some x e)
  at_map (z ∷ xs) zero x e = ap (λ (y : L.Operand × ℕ). Some y.1) (same_Some z x e)
  at_map (z ∷ xs) (suc i) x e = at_map xs i x e

  -- an edge leads to a block with a phi
  some_edge : (i : ℕ) (b : L.Block) (p : Placed) → slice_get g.blocks i ≡ Some b → slice_get (phis_of b) 0 ≡ Some p → (q : ℕ) × (0 < LF.edges_between g q b.number)
  some_edge i b p at here =
      let r = filter_from LF.is_phi b.instructions 0 p here in
      let es = phi_is p r.2 in
      let form = phi_form g h.form i r.0 b p es.0 at r.1 es.1 in
      let e = first_item es.0 form.1.some in
      (e.0.1, subst (λ (x : ℕ). 0 < x) (form.1.counts e.0.1) (count_there e.0.1 (map (λ (x : L.Operand × ℕ). x.1) es.0) 0 (at_map es.0 0 e.0 e.1)))

  -- the edge in the dialect
  pub record EdgeOp (from t : ℕ) : Type 0 where
    pub block : DialectBlock
    pub place : ℕ
    pub there : slice_get cs place ≡ Some block
    pub inner : ℕ
    pub op : DialectOp
    pub here : slice_get block.ops inner ≡ Some op
    pub which : ℕ
    pub successor : Successor
    pub at : slice_get op.successors which ≡ Some successor
    pub edge : EdgeAt k cs h from t successor

  edge_op : (t j i x w : ℕ) (b : L.Block) (p : Placed) → slice_get bs j ≡ Some b → slice_get g.blocks i ≡ Some b → slice_get b.instructions x ≡ Some p → slice_get (targets p.instruction) w ≡ Some t → EdgeOp b.number t
  edge_op t j i x w b p at source here leads =
      let op = op_for j x b p at here (leads_on p.instruction w t leads) in
      let m = op.row.converted.successors in
      let s = other_there (targets p.instruction) op.op.successors w t (matched_length (IsEdge k b.number) (targets p.instruction) op.op.successors m) leads in
      record {
        block = op.block;
        place = j;
        there = op.there;
        inner = op.place;
        op = op.op;
        here = op.here;
        which = w;
        successor = s.0;
        at = s.1;
        edge = edge_at k cs h i x w b p t s.0 source here leads (matched_at (IsEdge k b.number) (targets p.instruction) op.op.successors m w t s.0 leads s.1);
      }

  pub edge_between : (q t : ℕ) → 0 < LF.edges_between g q t → (from : ℕ) × EdgeOp from t
  edge_between q t lt =
      let f = there_edge g h.form q t lt in
      let o = placed k.frame.order g.blocks h.order f.place f.block f.at in
      (f.block.number, edge_op t o.0 f.place f.inner f.which f.block f.inst o.2 f.at f.here f.leads)

  reached_by : (from i : ℕ) (b : L.Block) (c : DialectBlock) → slice_get bs (suc i) ≡ Some b → slice_get cs (suc i) ≡ Some c → EdgeOp from b.number → DF.IsReached G c.number
  reached_by from i b c here at e =
      let place = block_apart n k cs h (suc e.edge.place) (suc i) e.edge.target b e.edge.here here e.edge.number in
      let block : e.edge.block ≡ c = same_Some e.edge.block c (sym e.edge.there ∙ ap (slice_get cs) place ∙ at) in
      let y = flat_at (λ (x : DialectOp). x.successors) e.block.ops e.inner e.op e.which e.successor e.here e.at in
      (e.place, y.0, e.block, e.successor, e.there, y.1, e.edge.leads ∙ ap (λ (x : DialectBlock). x.number) block)

  pub has_targets : DF.HasTargets G
  has_targets i c at some =
      let b = source_at n k cs h (suc i) c at in
      let o = ordered_at k.frame.order g.blocks h.order (suc i) b.0 b.1 in
      let p = first_item (phis_of b.0) (λ none. some (b.2.head.args ∙ ap (map (λ (q : Placed). q.type)) none)) in
      let q = some_edge o.place b.0 p.0 o.at p.1 in
      let e = edge_between q.0 b.0.number q.1 in
      reached_by e.0 i b.0 c b.1 at e.1
