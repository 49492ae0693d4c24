-- The entries of phis and the edges of the function that is made: one for each edge, in order, and where each comes from.
use Rattle.std.proofs.Common.{◌≡◌, ◌<◌, ◌⊎◌, inl, inr, ◌+◌, ℕ, zero, suc, Bool, true, false, nat_eq, if◌then◌else◌, List, [], ◌∷◌, ◌++◌, Option, Some, None, length, map, filter, take, slice_get, refl, sym, ap, ◌∙◌, arith, ⊎_elim, eq-eqb, ne_eqb, eqb-true}
use Rattle.std.specs.List.{flat_map, filter_map, cons_option}
use Rattle.std.specs.Option.{option_map_or}
use Rattle.std.proofs.lemmas.Option.{same_Some, none-some}
use Rattle.std.proofs.lemmas.Bool.{cond-true, cond-false, cases_eq}
use Rattle.std.proofs.lemmas.List.{map-append, append-nil}
use Rattle.std.proofs.lemmas.List.Elements.{filter-append}
use Rattle.llvm_core.proofs.EdgeLemmas.{count-append}
use Rattle.support.proofs.ListLaws.{item_there, slice_get-behind_cases, from_joined}
use Rattle.llvm_core.specs.Edges.{count_of}
use Rattle.llvm_core.specs.Data.{Operand, Block}
use Rattle.llvm_core.specs.Form as F
use Rattle.dialect_core.specs.declared.numbers.BlockRef.{BlockRef}
use Rattle.dialect_core.specs.declared.ops.Value.{Value}
use Rattle.dialect_core.specs.declared.ops.Value.TheVariants.{Argument}
use Rattle.dialect_core.specs.declared.ops.Successor.{Successor}
use Rattle.dialect_core.specs.Data.{DialectBlock, Func}
use Rattle.dialect_core.specs.Form.{IsFormFunc, edges_of}
use Rattle.to_llvm_ir.specs.Exported.{edge_sources}
use Rattle.to_llvm_ir.specs.Made.{Numbers, operand_for, block_made, blocks_made, passed_to, passed, entry_with, block_passes, entries_from, number_past}
use Rattle.to_llvm_ir.proofs.EdgeLaws.{target_for, block_leads, made_at}

both_parts : {X : Type 0} (xs ys us vs : List X) → xs ≡ us → ys ≡ vs → xs ++ ys ≡ us ++ vs
both_parts xs ys us vs e f = cc

-- ---- edges by where they come from

-- one number for each of a list
abbrev each_from : ℕ → List ℕ → List ℕ
each_from q ts = map (λ (t : ℕ). q) ts

each_count : (p q : ℕ) (ts : List ℕ) → count_of p (each_from q ts) ≡ (if nat_eq q p then length ts else 0)
each_count p q ts = ⊎_elim
    (λ same. all_there p q ts (sym same) ∙ sym (cond-true (nat_eq q p) (length ts) 0 (eq-eqb q p same)))
    (λ differs. none_there p q ts (λ e. differs (sym e)) ∙ sym (cond-false (nat_eq q p) (length ts) 0 (ne_eqb q p differs)))
    (cases_eq q p)
  where
    all_there : (p q : ℕ) (ts : List ℕ) → p ≡ q → count_of p (each_from q ts) ≡ length ts
    all_there p q [] e = refl
    all_there p q (t ∷ ts) e = ap (λ (xs : List ℕ). length xs) (cond-true (nat_eq p q) (q ∷ filter (nat_eq p) (each_from q ts)) (filter (nat_eq p) (each_from q ts)) (eq-eqb p q e)) ∙ ap suc (all_there p q ts e)

    none_there : (p q : ℕ) (ts : List ℕ) → (p ≡ q → ⊥) → count_of p (each_from q ts) ≡ 0
    none_there p q [] ne = refl
    none_there p q (t ∷ ts) ne = ap (λ (xs : List ℕ). length xs) (cond-false (nat_eq p q) (q ∷ filter (nat_eq p) (each_from q ts)) (filter (nat_eq p) (each_from q ts)) (ne_eqb p q ne)) ∙ none_there p q ts ne

-- so often does a block stand among them as it leads there
pub sources_count : (p T : ℕ) (bs : List Block) → count_of p (edge_sources T bs) ≡ count_of T (flat_map F.targets_of (filter (λ (x : Block). nat_eq x.number p) bs))
sources_count p T [] = refl
sources_count p T (x ∷ bs) =
    count-append p (each_from x.number (filter (nat_eq T) (F.targets_of x))) (edge_sources T bs)
    ∙ by (nat_eq x.number p) _ _ (each_count p x.number (filter (nat_eq T) (F.targets_of x))) (sources_count p T bs)
  where
    by : (t : Bool) (u v : ℕ) → u ≡ (if t then count_of T (F.targets_of x) else 0) → v ≡ count_of T (flat_map F.targets_of (filter (λ (x : Block). nat_eq x.number p) bs))
        → u + v ≡ count_of T (flat_map F.targets_of (if t then x ∷ filter (λ (x : Block). nat_eq x.number p) bs else filter (λ (x : Block). nat_eq x.number p) bs))
    by true u v e f = let s = count-append T (F.targets_of x) (flat_map F.targets_of (filter (λ (x : Block). nat_eq x.number p) bs)) in omega (arith, e, f, s)
    by false u v e f = omega (arith, e, f)

-- edges to another block than that of the number T are of no matter to it
abbrev pub LeadsTo : Func → Numbers → BlockRef → ℕ → (i : ℕ) → Successor → Type 0
LeadsTo g n b T i s = ((s.block.0 ≡ b.0) × (i < length s.args) × (target_for g n s ≡ T)) ⊎ ((s.block.0 ≡ b.0 → ⊥) × (target_for g n s ≡ T → ⊥))

module _ (g : Func) (n : Numbers) where
  abbrev pub sources : List (Operand × ℕ) → List ℕ
  sources es = map (λ (e : Operand × ℕ). e.1) es

  -- ---- an entry for each edge

  one_edge : (b : BlockRef) (T i q : ℕ) (s : Successor) → LeadsTo g n b T i s → sources (passed_to g n s.block s.args q (Argument b i)) ≡ each_from q (filter (nat_eq T) (target_for g n s ∷ []))
  one_edge b T i q s (inl h) =
      let v = item_there s.args i h.1 in
      let here : passed_to g n s.block s.args q (Argument b i) ≡ (operand_for g n v.0, q) ∷ [] =
      cond-true (nat_eq b.0 s.block.0) (entry_with g n q (slice_get s.args i)) [] (eq-eqb b.0 s.block.0 (sym h.0)) ∙ ap (entry_with g n q) v.1 in
      ap sources here ∙ ap (each_from q) (sym (cond-true (nat_eq T (target_for g n s)) (target_for g n s ∷ []) [] (eq-eqb T (target_for g n s) (sym h.2))))
  one_edge b T i q s (inr h) =
      let none : passed_to g n s.block s.args q (Argument b i) ≡ [] = cond-false (nat_eq b.0 s.block.0) (entry_with g n q (slice_get s.args i)) [] (ne_eqb b.0 s.block.0 (λ e. h.0 (sym e))) in
      ap sources none ∙ ap (each_from q) (sym (cond-false (nat_eq T (target_for g n s)) (target_for g n s ∷ []) [] (ne_eqb T (target_for g n s) (λ e. h.1 (sym e)))))

  edges_sources : (b : BlockRef) (T i q : ℕ) (ss : List Successor) → ((k : ℕ) (s : Successor) → slice_get ss k ≡ Some s → LeadsTo g n b T i s) → sources (passed g n q ss (Argument b i)) ≡ each_from q (filter (nat_eq T) (map (target_for g n) ss))
  edges_sources b T i q [] h = refl
  edges_sources b T i q (s ∷ ss) h =
      map-append (λ (e : Operand × ℕ). e.1) (passed_to g n s.block s.args q (Argument b i)) (passed g n q ss (Argument b i))
      ∙ both_parts (sources (passed_to g n s.block s.args q (Argument b i))) (sources (passed g n q ss (Argument b i))) (each_from q (filter (nat_eq T) (target_for g n s ∷ []))) (each_from q (filter (nat_eq T) (map (target_for g n) ss)))
      (one_edge b T i q s (h 0 s refl)) (edges_sources b T i q ss (λ k t at. h (suc k) t at))
      ∙ sym (ap (each_from q) (filter-append (nat_eq T) (target_for g n s ∷ []) (map (target_for g n) ss)) ∙ map-append (λ (t : ℕ). q) (filter (nat_eq T) (target_for g n s ∷ [])) (filter (nat_eq T) (map (target_for g n) ss)))

  pub entries_sources : (form : IsFormFunc g) (given : Value → List (Operand × ℕ)) (b : BlockRef) (T i : ℕ) (ps : List ℕ) → ((j p : ℕ) → slice_get ps j ≡ Some p → p < length g.blocks)
      → ((j l : ℕ) (c : DialectBlock) (s : Successor) → slice_get g.blocks j ≡ Some c → slice_get (edges_of c) l ≡ Some s → LeadsTo g n b T i s)
      → sources (entries_from g n ps (Argument b i)) ≡ edge_sources T (filter_map (slice_get (blocks_made g n given 0 0 g.blocks)) ps)
  entries_sources form given b T i [] there h = refl
  entries_sources form given b T i (p ∷ ps) there h =
      let made = blocks_made g n given 0 0 g.blocks in
      let c = item_there g.blocks p (there 0 p refl) in
      let q = n.block + p in
      let k = number_past 0 (take p g.blocks) in
      let block = block_made g n given (0 + p) k c.0 in
      let z : n.block + (0 + p) ≡ q = omega arith in
      let here : sources (block_passes g n (Argument b i) p) ≡ edge_sources T (block ∷ []) =
      ap (λ (o : Option DialectBlock). sources (option_map_or (λ (x : DialectBlock). passed g n q (edges_of x) (Argument b i)) o [])) c.1
      ∙ edges_sources b T i q (edges_of c.0) (λ m s at. h p m c.0 s c.1 at)
      ∙ ap (λ (ts : List ℕ). each_from q (filter (nat_eq T) ts)) (sym (block_leads g n form given (0 + p) k p c.0 c.1))
      ∙ ap (λ (r : ℕ). each_from r (filter (nat_eq T) (F.targets_of block))) (sym z) ∙ sym (append-nil (each_from (n.block + (0 + p)) (filter (nat_eq T) (F.targets_of block)))) in
      map-append (λ (e : Operand × ℕ). e.1) (block_passes g n (Argument b i) p) (entries_from g n ps (Argument b i))
      ∙ both_parts (sources (block_passes g n (Argument b i) p)) (sources (entries_from g n ps (Argument b i))) (edge_sources T (block ∷ [])) (edge_sources T (filter_map (slice_get made) ps))
      here (entries_sources form given b T i ps (λ j r at. there (suc j) r at) h)
      ∙ sym (ap (λ (o : Option Block). edge_sources T (cons_option o (filter_map (slice_get made) ps))) (made_at g n given 0 0 g.blocks p c.0 c.1)
      ∙ ap (λ (xs : List ℕ). xs ++ edge_sources T (filter_map (slice_get made) ps)) (sym (append-nil (each_from (n.block + (0 + p)) (filter (nat_eq T) (F.targets_of block))))))

  -- ---- where an entry comes from

  pub record ComesBy (b : BlockRef) (i : ℕ) (x : Operand × ℕ) : Type 0 where
    pub at : ℕ
    pub block : DialectBlock
    pub here : slice_get g.blocks at ≡ Some block
    pub edge_at : ℕ
    pub edge : Successor
    pub there : slice_get (edges_of block) edge_at ≡ Some edge
    pub to : edge.block.0 ≡ b.0
    pub value : Value
    pub passes : slice_get edge.args i ≡ Some value
    pub is : x.0 ≡ operand_for g n value
    pub source : x.1 ≡ n.block + at

  -- an edge among some
  pub record PassedBy (q : ℕ) (ss : List Successor) (b : BlockRef) (i : ℕ) (x : Operand × ℕ) : Type 0 where
    pub at : ℕ
    pub edge : Successor
    pub here : slice_get ss at ≡ Some edge
    pub to : edge.block.0 ≡ b.0
    pub value : Value
    pub passes : slice_get edge.args i ≡ Some value
    pub is : x.0 ≡ operand_for g n value
    pub source : x.1 ≡ q

  one_passed : (q : ℕ) (s : Successor) (ss : List Successor) (b : BlockRef) (i l : ℕ) (x : Operand × ℕ) → slice_get (passed_to g n s.block s.args q (Argument b i)) l ≡ Some x → PassedBy q (s ∷ ss) b i x
  one_passed q s ss b i l x at = by (nat_eq b.0 s.block.0) refl (slice_get s.args i) refl at
    where
      by : (t : Bool) → nat_eq b.0 s.block.0 ≡ t → (o : Option Value) → slice_get s.args i ≡ o → slice_get (if t then entry_with g n q o else []) l ≡ Some x → PassedBy q (s ∷ ss) b i x
      by false e o f at = absurd (none-some x at)
      by true e None f at = absurd (none-some x at)
      by true e (Some v) f at = let is = only l at in record { at = 0; edge = s; here = refl; to = sym (eqb-true b.0 s.block.0 e); value = v; passes = f; is = ap (λ (y : Operand × ℕ). y.0) is; source = ap (λ (y : Operand × ℕ). y.1) is }
        where
          only : (l : ℕ) → slice_get ((operand_for g n v, q) ∷ []) l ≡ Some x → x ≡ (operand_for g n v, q)
          only zero at = sym (same_Some _ x at)
          only (suc l) at = absurd (none-some x at)

  pub passed_by : (q : ℕ) (ss : List Successor) (b : BlockRef) (i l : ℕ) (x : Operand × ℕ) → slice_get (passed g n q ss (Argument b i)) l ≡ Some x → PassedBy q ss b i x
  passed_by q [] b i l x at = absurd (none-some x at)
  passed_by q (s ∷ ss) b i l x at = ⊎_elim
      (λ here. one_passed q s ss b i l x here)
      (λ later. let r = passed_by q ss b i later.0 x later.2 in record { at = suc r.at; edge = r.edge; here = r.here; to = r.to; value = r.value; passes = r.passes; is = r.is; source = r.source })
      (slice_get-behind_cases (passed_to g n s.block s.args q (Argument b i)) (passed g n q ss (Argument b i)) l x at)

  pub comes_by : (ps : List ℕ) (b : BlockRef) (i l : ℕ) (x : Operand × ℕ) → slice_get (entries_from g n ps (Argument b i)) l ≡ Some x → ComesBy b i x
  comes_by ps b i l x at =
      let r = from_joined (block_passes g n (Argument b i)) ps l x at in
      by r.2 (slice_get g.blocks r.2) refl r.1 r.4
    where
      by : (p : ℕ) (o : Option DialectBlock) → slice_get g.blocks p ≡ o → (m : ℕ) → slice_get (option_map_or (λ (c : DialectBlock). passed g n (n.block + p) (edges_of c) (Argument b i)) o []) m ≡ Some x → ComesBy b i x
      by p None e m at = absurd (none-some x at)
      by p (Some c) e m at =
          let r = passed_by (n.block + p) (edges_of c) b i m x at in
          record { at = p; block = c; here = e; edge_at = r.at; edge = r.edge; there = r.here; to = r.to; value = r.value; passes = r.passes; is = r.is; source = r.source }
