-- Blocks of the function that is made, by their places and numbers, and the edges between them.
use Rattle.std.proofs.Common.{◌≡◌, ◌+◌, ℕ, zero, suc, Bool, true, false, nat_eq, if◌then◌else◌, List, [], ◌∷◌, ◌++◌, Option, Some, None, All, length, map, take, slice_get, refl, sym, ap, subst, ◌∙◌, arith, ⊎_elim, eq-eqb, ne_eqb, eqb-true}
use Rattle.std.specs.List.{flat_map, find}
use Rattle.std.specs.Option.{option_map_or, option_or}
use Rattle.std.proofs.lemmas.Option.{same_Some, none-some}
use Rattle.std.proofs.lemmas.Bool.{cond-true, cond-false, cases_eq}
use Rattle.std.proofs.lemmas.List.{map-append}
use Rattle.std.proofs.lemmas.List.Concat.{flat_map-append}
use Rattle.std.proofs.lemmas.List.Folds.{find-append}
use Rattle.support.proofs.ListLaws.{slice_get-kept, all_from, slice_get-behind, slice_get-behind_cases}
use Rattle.llvm_core.specs.Data.{Operand, Placed, Block, targets}
use Rattle.dialect_types.specs.Trees.{TypeTree}
use Rattle.dialect_core.specs.declared.numbers.BlockRef.{BlockRef}
use Rattle.dialect_core.specs.declared.ops.Value.{Value}
use Rattle.dialect_core.specs.declared.ops.Value.TheVariants.{Result, Argument}
use Rattle.dialect_core.specs.declared.ops.Successor.{Successor}
use Rattle.dialect_core.specs.Data.{DialectOp, DialectBlock, Func, Kind, ConstantOp, FilledOp, RowOp, value_type}
use Rattle.dialect_core.specs.Rules.{IsEdge, IsOfKind}
use Rattle.dialect_core.specs.Form.{IsFormFunc, IsHeldValue, FitsTarget, edges_of, is_constant, is_constant_kind}
use Rattle.to_llvm_ir.specs.Made.{Numbers, block_for, operand_for, instruction_for, inst, insts, phis, block_phis, block_made, blocks_made, passed_to, passed, entry_with, block_passes, entries_from, number_past, number_after, number_behind}
use Rattle.to_llvm_ir.specs.Links.{HasTarget}
use Rattle.to_llvm_ir.proofs.ConstLaws.{constant_takes}
use Rattle.to_llvm_ir.proofs.ListLaws.{AreNumbered, all_at}
use Rattle.to_llvm_ir.proofs.LookupLaws.{op_form}

-- ---- blocks by their places

pub made_at : (g : Func) (n : Numbers) (given : Value → List (Operand × ℕ)) (p k : ℕ) (cs : List DialectBlock) (j : ℕ) (c : DialectBlock) → slice_get cs j ≡ Some c
    → slice_get (blocks_made g n given p k cs) j ≡ Some (block_made g n given (p + j) (number_past k (take j cs)) c)
made_at g n given p k [] j c at = absurd (none-some c at)
made_at g n given p k (d ∷ cs) zero c at = ap (λ (x : DialectBlock). Some (block_made g n given p k x)) (same_Some d c at) ∙ ap (λ (q : ℕ). Some (block_made g n given q k c)) (let e : p ≡ p + 0 = omega arith in e)
made_at g n given p k (d ∷ cs) (suc j) c at =
    made_at g n given (suc p) (number_behind (k + length d.args) d.ops) cs j c at ∙ ap (λ (q : ℕ). Some (block_made g n given q (number_past (number_behind (k + length d.args) d.ops) (take j cs)) c)) (let e : suc p + j ≡ p + suc j = omega arith in e)

pub made_none : (g : Func) (n : Numbers) (given : Value → List (Operand × ℕ)) (p k : ℕ) (cs : List DialectBlock) (j : ℕ) → slice_get cs j ≡ None → slice_get (blocks_made g n given p k cs) j ≡ None
made_none g n given p k [] j e = refl
made_none g n given p k (d ∷ cs) zero e = cc
made_none g n given p k (d ∷ cs) (suc j) e = made_none g n given (suc p) (number_behind (k + length d.args) d.ops) cs j e

pub made_from : (g : Func) (n : Numbers) (given : Value → List (Operand × ℕ)) (p k : ℕ) (cs : List DialectBlock) (j : ℕ) (b : Block) → slice_get (blocks_made g n given p k cs) j ≡ Some b
    → (c : DialectBlock) × (slice_get cs j ≡ Some c) × (b ≡ block_made g n given (p + j) (number_past k (take j cs)) c)
made_from g n given p k cs j b at = by (slice_get cs j) refl
  where
    by : (o : Option DialectBlock) → slice_get cs j ≡ o → (c : DialectBlock) × (slice_get cs j ≡ Some c) × (b ≡ block_made g n given (p + j) (number_past k (take j cs)) c)
    by None e = absurd (none-some b (sym (made_none g n given p k cs j e) ∙ at))
    by (Some c) e = (c, e, same_Some b _ (sym at ∙ made_at g n given p k cs j c e))

pub blocks_count : (g : Func) (n : Numbers) (given : Value → List (Operand × ℕ)) (p k : ℕ) (cs : List DialectBlock) → length (blocks_made g n given p k cs) ≡ length cs
blocks_count g n given p k [] = refl
blocks_count g n given p k (c ∷ cs) = ap suc (blocks_count g n given (suc p) (number_behind (k + length c.args) c.ops) cs)

-- numbers of blocks count on
pub made_numbered : (g : Func) (n : Numbers) (given : Value → List (Operand × ℕ)) (p k : ℕ) (cs : List DialectBlock) → AreNumbered (λ (b : Block). b.number) (blocks_made g n given p k cs)
made_numbered g n given p k cs i j a b at at' e =
    let x = made_from g n given p k cs i a at in
    let y = made_from g n given p k cs j b at' in
    let e1 : a.number ≡ n.block + (p + i) = ap (λ (z : Block). z.number) x.2 in
    let e2 : b.number ≡ n.block + (p + j) = ap (λ (z : Block). z.number) y.2 in
    omega (arith, e, e1, e2)

-- ---- targets

module _ (g : Func) (n : Numbers) where
  abbrev pub target_for : Successor → ℕ
  target_for s = block_for g n s.block.0

  -- an instruction leads where the operation does
  pub op_targets : (k : Kind) (vs : List Value) (own : Option TypeTree) (ss : List Successor) → IsOfKind (value_type g) g vs own ss k → targets (instruction_for g n k own vs ss) ≡ map target_for ss
  op_targets (ConstantOp constant) vs own ss h = sym (ap (map target_for) h.ends_here)
  op_targets (FilledOp fill) vs own ss h = sym (ap (map target_for) h.ends_here)
  op_targets (RowOp op) vs own ss h = refl

  pub constant_ends : (k : Kind) (vs : List Value) (own : Option TypeTree) (ss : List Successor) → is_constant_kind k ≡ true → IsOfKind (value_type g) g vs own ss k → ss ≡ []
  constant_ends k vs own ss e h = (constant_takes (value_type g) g vs own ss k e h).1

  no_edges : (ss : List Successor) → ss ≡ [] → All (IsEdge (value_type g) g) ss
  no_edges ss none = subst (All (IsEdge (value_type g) g)) (sym none) (all_from (IsEdge (value_type g) g) [] (λ i s at. absurd (none-some s at)))

  pub op_edges : (k : Kind) (vs : List Value) (own : Option TypeTree) (ss : List Successor) → IsOfKind (value_type g) g vs own ss k → All (IsEdge (value_type g) g) ss
  op_edges (ConstantOp constant) vs own ss h = no_edges ss h.ends_here
  op_edges (FilledOp fill) vs own ss h = no_edges ss h.ends_here
  op_edges (RowOp op) vs own ss h = h.leads.1

  abbrev pub leads : Placed → List ℕ
  leads p = targets p.instruction

  pub insts_lead : (k : ℕ) (os : List DialectOp) → ((i : ℕ) (o : DialectOp) → slice_get os i ≡ Some o → IsOfKind (value_type g) g o.operands o.result o.successors o.kind) → flat_map leads (insts g n k os) ≡ map target_for (flat_map (λ (o : DialectOp). o.successors) os)
  insts_lead k [] h = refl
  insts_lead k (o ∷ os) h = by (is_constant o) refl (insts_lead (number_after o.result k) os (λ i x at. h (suc i) x at)) ∙ sym (map-append target_for o.successors (flat_map (λ (o : DialectOp). o.successors) os))
    where
      by : (t : Bool) → is_constant o ≡ t → flat_map leads (insts g n (number_after o.result k) os) ≡ map target_for (flat_map (λ (o : DialectOp). o.successors) os)
          → flat_map leads (if t then insts g n (number_after o.result k) os else inst g n k o ∷ insts g n (number_after o.result k) os) ≡ map target_for o.successors ++ map target_for (flat_map (λ (o : DialectOp). o.successors) os)
      by true e r = r ∙ ap (λ (ss : List Successor). map target_for ss ++ map target_for (flat_map (λ (o : DialectOp). o.successors) os)) (sym (constant_ends o.kind o.operands o.result o.successors e (h 0 o refl)))
      by false e r = ap (λ (ts : List ℕ). targets (instruction_for g n o.kind o.result o.operands o.successors) ++ ts) r ∙ ap (λ (ts : List ℕ). ts ++ map target_for (flat_map (λ (o : DialectOp). o.successors) os)) (op_targets o.kind o.operands o.result o.successors (h 0 o refl))

  phis_lead : (given : Value → List (Operand × ℕ)) (b i k : ℕ) (ts : List TypeTree) → flat_map leads (phis g n given b i k ts) ≡ []
  phis_lead given b i k [] = refl
  phis_lead given b i k (t ∷ ts) = phis_lead given b (suc i) (k + 1) ts

  block_phis_lead : (given : Value → List (Operand × ℕ)) (p k : ℕ) (c : DialectBlock) → flat_map leads (block_phis g n given p k c) ≡ []
  block_phis_lead given zero k c = refl
  block_phis_lead given (suc p) k c = phis_lead given c.number 0 k c.args

  pub block_leads : (form : IsFormFunc g) (given : Value → List (Operand × ℕ)) (p k j : ℕ) (c : DialectBlock) → slice_get g.blocks j ≡ Some c → flat_map leads (block_made g n given p k c).instructions ≡ map target_for (edges_of c)
  block_leads form given p k j c at =
      flat_map-append leads (block_phis g n given p k c) (insts g n (k + length c.args) c.ops)
      ∙ ap (λ (ts : List ℕ). ts ++ flat_map leads (insts g n (k + length c.args) c.ops)) (block_phis_lead given p k c)
      ∙ insts_lead (k + length c.args) c.ops (λ i o at'. (op_form g form j i c o at at').kind)

-- an edge of a block is one of an operation's
pub edge_from : (os : List DialectOp) (i : ℕ) (s : Successor) → slice_get (flat_map (λ (o : DialectOp). o.successors) os) i ≡ Some s → (j : ℕ) × (o : DialectOp) × (k : ℕ) × (slice_get os j ≡ Some o) × (slice_get o.successors k ≡ Some s)
edge_from [] i s at = absurd (none-some s at)
edge_from (o ∷ os) i s at = ⊎_elim
    (λ here. (0, o, i, refl, here))
    (λ later. let r = edge_from os later.0 s later.2 in (suc r.0, r.1, r.2, r.3, r.4))
    (slice_get-behind_cases o.successors (flat_map (λ (o : DialectOp). o.successors) os) i s at)

-- and one of an operation's is one of the block
pub edge_among : (os : List DialectOp) (i l : ℕ) (o : DialectOp) (s : Successor) → slice_get os i ≡ Some o → slice_get o.successors l ≡ Some s → (m : ℕ) × (slice_get (flat_map (λ (o : DialectOp). o.successors) os) m ≡ Some s)
edge_among [] i l o s at at' = absurd (none-some o at)
edge_among (x ∷ os) zero l o s at at' = (l, slice_get-kept x.successors (flat_map (λ (o : DialectOp). o.successors) os) l s (ap (λ (y : DialectOp). slice_get y.successors l) (same_Some x o at) ∙ at'))
edge_among (x ∷ os) (suc i) l o s at at' = let r = edge_among os i l o s at at' in (length x.successors + r.0, slice_get-behind x.successors (flat_map (λ (o : DialectOp). o.successors) os) r.0 ∙ r.1)

pub edge_form : (g : Func) (form : IsFormFunc g) (n : Numbers) (j i : ℕ) (c : DialectBlock) (s : Successor) → slice_get g.blocks j ≡ Some c → slice_get (edges_of c) i ≡ Some s → IsEdge (value_type g) g s
edge_form g form n j i c s at at' = let r = edge_from c.ops i s at' in all_at (IsEdge (value_type g) g) r.1.successors r.2 s (op_edges g n r.1.kind r.1.operands r.1.result r.1.successors (op_form g form j r.0 c r.1 at r.3).kind) r.4

-- the types of the values that an edge of an operation passes are translated
pub edge_held : (g : Func) (form : IsFormFunc g) (j i : ℕ) (c : DialectBlock) (s : Successor) → slice_get g.blocks j ≡ Some c → slice_get (edges_of c) i ≡ Some s → All (IsHeldValue g) s.args
edge_held g form j i c s at at' = let r = edge_from c.ops i s at' in all_at (λ (s : Successor). All (IsHeldValue g) s.args) r.1.successors r.2 s (op_form g form j r.0 c r.1 at r.3).passed r.4

pub edge_target : (g : Func) (s : Successor) → IsEdge (value_type g) g s → FitsTarget g s → HasTarget g s
edge_target g s form fits = by fits.0 fits.2
  where
    by : (i : ℕ) → slice_get g.blocks i ≡ Some fits.1 → HasTarget g s
    by zero at = absurd (form.no_entry fits.1 at (sym fits.3))
    by (suc i) at = record { place = i; block = fits.1; here = at; number = fits.3; count = fits.4 }

-- ---- what a phi takes on an edge

module _ (g : Func) (n : Numbers) where
  abbrev pub is_from : ℕ → Operand × ℕ → Bool
  is_from from e = nat_eq e.1 from

  other_entry : (p from : ℕ) (v : Option Value) → (p ≡ from → ⊥) → find (is_from from) (entry_with g n p v) ≡ None
  other_entry p from None ne = refl
  other_entry p from (Some v) ne = cond-false (nat_eq p from) (Some (operand_for g n v, p)) None (ne_eqb p from ne)

  other_passed : (b : BlockRef) (vs : List Value) (p from : ℕ) (v : Value) → (p ≡ from → ⊥) → find (is_from from) (passed_to g n b vs p v) ≡ None
  other_passed b vs p from (Result r) ne = refl
  other_passed b vs p from (Argument c i) ne = by (nat_eq c.0 b.0)
    where
      by : (t : Bool) → find (is_from from) (if t then entry_with g n p (slice_get vs i) else []) ≡ None
      by true = other_entry p from (slice_get vs i) ne
      by false = refl

  pub other_edges : (ss : List Successor) (p from : ℕ) (v : Value) → (p ≡ from → ⊥) → find (is_from from) (passed g n p ss v) ≡ None
  other_edges [] p from v ne = refl
  other_edges (s ∷ ss) p from v ne =
      find-append (is_from from) (passed_to g n s.block s.args p v) (passed g n p ss v)
      ∙ ap (λ (o : Option (Operand × ℕ)). option_or o (find (is_from from) (passed g n p ss v))) (other_passed s.block s.args p from v ne)
      ∙ other_edges ss p from v ne

  -- the first edge to the block passes what each of them does
  pub first_edge : (ss : List Successor) (from i : ℕ) (b : BlockRef) (v : Value) (vs : List Value) (j : ℕ) (s : Successor) → slice_get ss j ≡ Some s → s.block.0 ≡ b.0
      → ((k : ℕ) (t : Successor) → slice_get ss k ≡ Some t → t.block.0 ≡ b.0 → t.args ≡ vs) → slice_get vs i ≡ Some v → find (is_from from) (passed g n from ss (Argument b i)) ≡ Some (operand_for g n v, from)
  first_edge [] from i b v vs j s at to same passes = absurd (none-some s at)
  first_edge (t ∷ ss) from i b v vs j s at to same passes = by (nat_eq b.0 t.block.0) refl (λ k at'. first_edge ss from i b v vs k s at' to (λ l u at''. same (suc l) u at'') passes)
    where
      behind : (j : ℕ) → slice_get (t ∷ ss) j ≡ Some s → (t.block.0 ≡ b.0 → ⊥) → (k : ℕ) × (slice_get ss k ≡ Some s)
      behind zero e ne = absurd (ne (ap (λ (x : Successor). x.block.0) (same_Some t s e) ∙ to))
      behind (suc k) e ne = (k, e)

      by : (q : Bool) → nat_eq b.0 t.block.0 ≡ q → ((k : ℕ) → slice_get ss k ≡ Some s → find (is_from from) (passed g n from ss (Argument b i)) ≡ Some (operand_for g n v, from))
          → find (is_from from) ((if q then entry_with g n from (slice_get t.args i) else []) ++ passed g n from ss (Argument b i)) ≡ Some (operand_for g n v, from)
      by true e later =
          let args : t.args ≡ vs = same 0 t refl (sym (eqb-true b.0 t.block.0 e)) in
          ap (λ (ws : List Value). find (is_from from) (entry_with g n from (slice_get ws i) ++ passed g n from ss (Argument b i))) args
          ∙ ap (λ (o : Option Value). find (is_from from) (entry_with g n from o ++ passed g n from ss (Argument b i))) passes
          ∙ cond-true (nat_eq from from) (Some (operand_for g n v, from)) (find (is_from from) (passed g n from ss (Argument b i))) (eq-eqb from from refl)
      by false e later =
          let ne : t.block.0 ≡ b.0 → ⊥ = λ f. let k = eq-eqb b.0 t.block.0 (sym f) in let never : true ≡ false = sym k ∙ e in cc in
          let r = behind j at ne in
          later r.0 r.1

  -- of all entries of a phi, the first that is for the block
  pub first_entry : (ps : List ℕ) (m j : ℕ) (c : DialectBlock) (from i : ℕ) (b : BlockRef) (v : Value) (vs : List Value) (k : ℕ) (s : Successor) → slice_get ps m ≡ Some j → slice_get g.blocks j ≡ Some c → from ≡ n.block + j
      → slice_get (edges_of c) k ≡ Some s → s.block.0 ≡ b.0 → ((l : ℕ) (t : Successor) → slice_get (edges_of c) l ≡ Some t → t.block.0 ≡ b.0 → t.args ≡ vs) → slice_get vs i ≡ Some v
      → find (is_from from) (entries_from g n ps (Argument b i)) ≡ Some (operand_for g n v, from)
  first_entry [] m j c from i b v vs k s named at is at' to same passes = absurd (none-some j named)
  first_entry (p ∷ ps) m j c from i b v vs k s named at is at' to same passes =
      find-append (is_from from) (block_passes g n (Argument b i) p) (entries_from g n ps (Argument b i))
      ∙ ⊎_elim here (λ ne. later (λ l named'. first_entry ps l j c from i b v vs k s named' at is at' to same passes) ne) (cases_eq p j)
    where
      here : p ≡ j → option_or (find (is_from from) (block_passes g n (Argument b i) p)) (find (is_from from) (entries_from g n ps (Argument b i))) ≡ Some (operand_for g n v, from)
      here e =
          let one : find (is_from from) (block_passes g n (Argument b i) p) ≡ Some (operand_for g n v, from) =
          ap (λ (q : ℕ). find (is_from from) (block_passes g n (Argument b i) q)) e
          ∙ ap (λ (o : Option DialectBlock). find (is_from from) (option_map_or (λ (x : DialectBlock). passed g n (n.block + j) (edges_of x) (Argument b i)) o [])) at
          ∙ ap (λ (q : ℕ). find (is_from from) (passed g n q (edges_of c) (Argument b i))) (sym is) ∙ first_edge (edges_of c) from i b v vs k s at' to same passes in
          ap (λ (o : Option (Operand × ℕ)). option_or o (find (is_from from) (entries_from g n ps (Argument b i)))) one

      other : (o : Option DialectBlock) → (n.block + p ≡ from → ⊥) → find (is_from from) (option_map_or (λ (x : DialectBlock). passed g n (n.block + p) (edges_of x) (Argument b i)) o []) ≡ None
      other None ne = refl
      other (Some x) ne = other_edges (edges_of x) (n.block + p) from (Argument b i) ne

      behind : (m : ℕ) → slice_get (p ∷ ps) m ≡ Some j → (p ≡ j → ⊥) → (l : ℕ) × (slice_get ps l ≡ Some j)
      behind zero e ne = absurd (ne (same_Some p j e))
      behind (suc l) e ne = (l, e)

      later : ((l : ℕ) → slice_get ps l ≡ Some j → find (is_from from) (entries_from g n ps (Argument b i)) ≡ Some (operand_for g n v, from)) → (p ≡ j → ⊥) → option_or (find (is_from from) (block_passes g n (Argument b i) p)) (find (is_from from) (entries_from g n ps (Argument b i))) ≡ Some (operand_for g n v, from)
      later rest ne =
          let l = behind m named ne in
          ap (λ (o : Option (Operand × ℕ)). option_or o (find (is_from from) (entries_from g n ps (Argument b i)))) (other (slice_get g.blocks p) (λ e. ne (omega (arith, e, is))))
          ∙ rest l.0 l.1
