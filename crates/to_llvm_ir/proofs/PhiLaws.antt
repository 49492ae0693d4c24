-- The phis of the function that is made: one for each argument, first in their blocks, with an entry for each edge.
use Rattle.std.proofs.Common.{◌≡◌, ◌<◌, inl, inr, ◌+◌, ℕ, zero, suc, Bool, true, false, if◌then◌else◌, List, [], ◌∷◌, ◌++◌, Option, Some, None, All, length, map, filter, take, slice_get, refl, sym, ap, subst, ◌∙◌, arith, ⊎_elim}
use Rattle.std.specs.Prelude.{is_some, IfSome}
use Rattle.std.proofs.lemmas.Option.{same_Some, slice_get_within}
use Rattle.std.proofs.lemmas.Bool.{cases_eq}
use Rattle.std.proofs.lemmas.List.{append-nil}
use Rattle.std.proofs.lemmas.List.Elements.{All-nil, All-cons, All-append, filter-append}
use Rattle.llvm_core.specs.Data as L
use Rattle.llvm_core.specs.Data.{Operand, Placed, Block, Function, phi_entries}
use Rattle.llvm_core.specs.Form as F
use Rattle.llvm_core.specs.Form.{is_phi}
use Rattle.support.proofs.ListLaws.{slice_get-kept, item_there, slice_get-behind_cases}
use Rattle.dialect_types.specs.Trees.{TypeTree}
use Rattle.block_order.specs.Order.{IsOrder}
use Rattle.dialect_core.specs.declared.numbers.BlockRef.{BlockRef}
use Rattle.dialect_core.specs.declared.ops.Value.{Value}
use Rattle.dialect_core.specs.declared.ops.Value.TheVariants.{Argument}
use Rattle.dialect_core.specs.declared.ops.Successor.{Successor}
use Rattle.dialect_core.specs.Data.{DialectOp, DialectBlock, Func, Kind, ConstantOp, FilledOp, RowOp}
use Rattle.dialect_core.specs.Form.{IsFormFunc, FitsTarget, edges_of, is_constant, is_constant_kind}
use Rattle.meaning.specs.Pairs.{BothOrNone}
use Rattle.to_llvm_ir.specs.Exported.{phi_types, edge_sources, blocks_by, HasEdges, HasPhis}
use Rattle.to_llvm_ir.specs.Made.{Numbers, operand_for, instruction_for, inst, insts, phis, block_phis, block_made, function_made, entries, number_past, number_after}
use Rattle.to_llvm_ir.specs.Accepted.{IsAccepted}
use Rattle.to_llvm_ir.specs.Links.{HasTarget}
use Rattle.to_llvm_ir.proofs.ListLaws.{all_at, filter_all, filter_none}
use Rattle.to_llvm_ir.proofs.TurnLaws.{named_within}
use Rattle.to_llvm_ir.proofs.LookupLaws.{place_is}
use Rattle.to_llvm_ir.proofs.EdgeLaws.{made_at, made_none, target_for, edge_form, edge_target}
use Rattle.to_llvm_ir.proofs.CountLaws.{LeadsTo, entries_sources, comes_by}

-- ---- phis first

pub phis_first : (xs ys : List Placed) → All (λ (p : Placed). is_phi p ≡ true) xs → All (λ (p : Placed). is_phi p ≡ false) ys → F.HasPhisFirst (xs ++ ys)
phis_first xs ys h k i j x y lt at at' none = ⊎_elim
    (λ early.
    let in_front : i < length xs = let l = slice_get_within xs j y early in omega (arith, lt, l) in
    let first = item_there xs i in_front in
    let same : first.0 ≡ x = same_Some first.0 x (sym (slice_get-kept xs ys i first.0 first.1) ∙ at) in
    let yep = all_at (λ (p : Placed). is_phi p ≡ true) xs i first.0 h first.1 in
    absurd (let e : true ≡ false = sym yep ∙ ap is_phi same ∙ none in cc))
    (λ late. all_at (λ (p : Placed). is_phi p ≡ false) ys late.0 y k late.2)
    (slice_get-behind_cases xs ys j y at')

-- and no others
pub phis_only : (xs ys : List Placed) → All (λ (p : Placed). is_phi p ≡ true) xs → All (λ (p : Placed). is_phi p ≡ false) ys → filter is_phi (xs ++ ys) ≡ xs
phis_only xs ys h k =
    filter-append is_phi xs ys ∙ ap (λ (ps : List Placed). ps ++ filter is_phi ys) (filter_all is_phi xs h)
    ∙ ap (λ (ps : List Placed). xs ++ ps) (filter_none is_phi ys k) ∙ append-nil xs

module _ (g : Func) (n : Numbers) where
  pub no_phi : (k : Kind) (own : Option TypeTree) (vs : List Value) (ss : List Successor) → is_constant_kind k ≡ false → phi_entries (instruction_for g n k own vs ss) ≡ None
  no_phi (ConstantOp value) own vs ss e = cc
  no_phi (FilledOp fill) own vs ss e = cc
  no_phi (RowOp op) own vs ss e = refl

  -- what holds of all that has no entries
  insts_other : (P : Option (List (Operand × ℕ)) → Type 0) → P None → (k : ℕ) (os : List DialectOp) → All (λ (p : Placed). P (phi_entries p.instruction)) (insts g n k os)
  insts_other P none k [] = All-nil (λ (p : Placed). P (phi_entries p.instruction))
  insts_other P none k (o ∷ os) = by (is_constant o) refl (insts_other P none (number_after o.result k) os)
    where
      by : (t : Bool) → is_constant o ≡ t → All (λ (p : Placed). P (phi_entries p.instruction)) (insts g n (number_after o.result k) os)
          → All (λ (p : Placed). P (phi_entries p.instruction)) (if t then insts g n (number_after o.result k) os else inst g n k o ∷ insts g n (number_after o.result k) os)
      by true e r = r
      by false e r = All-cons (λ (p : Placed). P (phi_entries p.instruction)) (inst g n k o) (insts g n (number_after o.result k) os) (subst P (sym (no_phi o.kind o.result o.operands o.successors e)) none) r

  pub insts_no_phi : (k : ℕ) (os : List DialectOp) → All (λ (p : Placed). is_phi p ≡ false) (insts g n k os)
  insts_no_phi k os = insts_other (λ (o : Option (List (Operand × ℕ))). is_some o ≡ false) refl k os

  module _ (given : Value → List (Operand × ℕ)) where
    phis_phi : (b i k : ℕ) (ts : List TypeTree) → All (λ (p : Placed). is_phi p ≡ true) (phis g n given b i k ts)
    phis_phi b i k [] = All-nil (λ (p : Placed). is_phi p ≡ true)
    phis_phi b i k (t ∷ ts) = All-cons (λ (p : Placed). is_phi p ≡ true) _ (phis g n given b (suc i) (k + 1) ts) refl (phis_phi b (suc i) (k + 1) ts)

    pub block_phis_phi : (p k : ℕ) (c : DialectBlock) → All (λ (p : Placed). is_phi p ≡ true) (block_phis g n given p k c)
    block_phis_phi zero k c = All-nil (λ (p : Placed). is_phi p ≡ true)
    block_phis_phi (suc p) k c = phis_phi c.number 0 k c.args

    phis_types : (b i k : ℕ) (ts : List TypeTree) → map (λ (p : Placed). p.type) (phis g n given b i k ts) ≡ ts
    phis_types b i k [] = refl
    phis_types b i k (t ∷ ts) = ap (λ (us : List L.TypeTree). t ∷ us) (phis_types b (suc i) (k + 1) ts)

    block_phis_types : (p k : ℕ) (c : DialectBlock) → map (λ (p : Placed). p.type) (block_phis g n given p k c) ≡ phi_types p c.args
    block_phis_types zero k c = refl
    block_phis_types (suc p) k c = phis_types c.number 0 k c.args

-- ---- their entries

module _ (g : Func) (form : IsFormFunc g) (n : Numbers) (order : IsOrder (length g.blocks) n.order) (accepted : IsAccepted n.order g) where
  abbrev made : Function
  made = function_made g n (entries g n)

  pub has_target : (j l : ℕ) (c : DialectBlock) (s : Successor) → slice_get g.blocks j ≡ Some c → slice_get (edges_of c) l ≡ Some s → HasTarget g s
  has_target j l c s at at' = edge_target g s (edge_form g form n j l c s at at') (all_at (FitsTarget g) (edges_of c) l s (accepted.edges j c at).targets at')

  -- an edge leads to a block, or to another
  leads_to : (t : ℕ) (c : DialectBlock) (T i : ℕ) (ty : TypeTree) → slice_get g.blocks (suc t) ≡ Some c → slice_get c.args i ≡ Some ty → T ≡ n.block + suc t → (s : Successor) → HasTarget g s → LeadsTo g n (record { 0 = c.number }) T i s
  leads_to t c T i ty at type is_T s h = ⊎_elim
      (λ same.
      let place : suc h.place ≡ suc t = form.block_numbers (suc h.place) (suc t) h.block c h.here at (h.number ∙ same) in
      let is : h.block ≡ c = same_Some h.block c (sym h.here ∙ ap (slice_get g.blocks) place ∙ at) in
      let count : length s.args ≡ length c.args = h.count ∙ ap (λ (x : DialectBlock). length x.args) is in
      inl (same, (let l = slice_get_within c.args i ty type in omega (arith, count, l)), to ∙ ap (λ (m : ℕ). n.block + m) place ∙ sym is_T))
      (λ other. inr (other, λ e. other (sym h.number ∙ ap (λ (x : DialectBlock). x.number) (same_Some h.block c (sym h.here ∙ ap (slice_get g.blocks) (let k = sym to ∙ e ∙ is_T in let l : suc h.place ≡ suc t = omega (arith, k) in l) ∙ at)))))
      (cases_eq s.block.0 c.number)
    where
      to : target_for g n s ≡ n.block + suc h.place
      to = ap (λ (m : ℕ). n.block + m) (place_is g form (suc h.place) s.block.0 h.block h.here h.number)

  pub phi_sources : (t : ℕ) (c : DialectBlock) (T i : ℕ) (ty : TypeTree) → slice_get g.blocks (suc t) ≡ Some c → slice_get c.args i ≡ Some ty → T ≡ n.block + suc t
      → map (λ (e : Operand × ℕ). e.1) (entries g n (Argument (record { 0 = c.number }) i)) ≡ edge_sources T (blocks_by n.order made)
  phi_sources t c T i ty at type is_T =
      entries_sources g n form (entries g n) (record { 0 = c.number }) T i n.order (named_within (length g.blocks) n.order order) (λ j l d s at' at''. leads_to t c T i ty at type is_T s (has_target j l d s at' at''))

  pub phi_alike : (b : BlockRef) (i : ℕ) (k l : ℕ) (x y : Operand × ℕ) → slice_get (entries g n (Argument b i)) k ≡ Some x → slice_get (entries g n (Argument b i)) l ≡ Some y → x.1 ≡ y.1 → x.0 ≡ y.0
  phi_alike b i k l x y at at' e =
      let p = comes_by g n n.order b i k x at in
      let q = comes_by g n n.order b i l y at' in
      let place : p.at ≡ q.at = let u = p.source in let v = q.source in omega (arith, u, v, e) in
      let block : p.block ≡ q.block = same_Some p.block q.block (sym p.here ∙ ap (slice_get g.blocks) place ∙ q.here) in
      let there : slice_get (edges_of p.block) q.edge_at ≡ Some q.edge = ap (λ (c : DialectBlock). slice_get (edges_of c) q.edge_at) block ∙ q.there in
      let to : p.edge.block ≡ q.edge.block = ap (λ (m : ℕ). let b : BlockRef = record { 0 = m } in b) (p.to ∙ sym q.to) in
      let args = (accepted.edges p.at p.block p.here).equal p.edge_at q.edge_at p.edge q.edge p.there there to in
      let value : p.value ≡ q.value = same_Some p.value q.value (sym p.passes ∙ ap (λ (vs : List Value). slice_get vs i) args ∙ q.passes) in
      p.is ∙ ap (operand_for g n) value ∙ sym q.is

  -- ---- block by block

  phis_entries : (t : ℕ) (c : DialectBlock) → slice_get g.blocks (suc t) ≡ Some c → (i k : ℕ) (ts : List TypeTree) → ((m : ℕ) (ty : TypeTree) → slice_get ts m ≡ Some ty → slice_get c.args (i + m) ≡ Some ty)
      → All (λ (p : Placed). IfSome (phi_entries p.instruction) (HasEdges n.order made (n.block + suc t))) (phis g n (entries g n) c.number i k ts)
  phis_entries t c at i k [] are = All-nil (λ (p : Placed). IfSome (phi_entries p.instruction) (HasEdges n.order made (n.block + suc t)))
  phis_entries t c at i k (ty ∷ ts) are =
      let type : slice_get c.args i ≡ Some ty = ap (slice_get c.args) (let e : i ≡ i + 0 = omega arith in e) ∙ are 0 ty refl in
      All-cons (λ (p : Placed). IfSome (phi_entries p.instruction) (HasEdges n.order made (n.block + suc t))) _ (phis g n (entries g n) c.number (suc i) (k + 1) ts)
      (record { sources = phi_sources t c (n.block + suc t) i ty at type refl; alike = phi_alike (record { 0 = c.number }) i })
      (phis_entries t c at (suc i) (k + 1) ts (λ m u at'. ap (slice_get c.args) (let e : suc i + m ≡ i + suc m = omega arith in e) ∙ are (suc m) u at'))

  block_entries : (j k : ℕ) (c : DialectBlock) → slice_get g.blocks j ≡ Some c → All (λ (p : Placed). IfSome (phi_entries p.instruction) (HasEdges n.order made (n.block + j))) (block_phis g n (entries g n) j k c)
  block_entries zero k c at = All-nil (λ (p : Placed). IfSome (phi_entries p.instruction) (HasEdges n.order made (n.block + zero)))
  block_entries (suc t) k c at = phis_entries t c at 0 k c.args (λ m ty at'. ap (slice_get c.args) (let e : 0 + m ≡ m = omega arith in e) ∙ at')

  block_has_phis : (j k : ℕ) (c : DialectBlock) → slice_get g.blocks j ≡ Some c → HasPhis n.order made j c (block_made g n (entries g n) j k c)
  block_has_phis j k c at =
      let xs = block_phis g n (entries g n) j k c in
      let ys = insts g n (k + length c.args) c.ops in
      let yes = block_phis_phi g n (entries g n) j k c in
      let no = insts_no_phi g n (k + length c.args) c.ops in
      record {
        types = ap (map (λ (p : Placed). p.type)) (phis_only xs ys yes no) ∙ block_phis_types g n (entries g n) j k c;
        first = phis_first xs ys yes no;
        entries = All-append (λ (p : Placed). IfSome (phi_entries p.instruction) (HasEdges n.order made (n.block + j))) xs ys (block_entries j k c at)
            (insts_other g n (λ (o : Option (List (Operand × ℕ))). IfSome o (HasEdges n.order made (n.block + j))) tt (k + length c.args) c.ops);
      }

  pub made_phis : (place : ℕ) → BothOrNone (HasPhis n.order made place) (slice_get g.blocks place) (slice_get made.blocks place)
  made_phis j = by (slice_get g.blocks j) refl
    where
      by : (o : Option DialectBlock) → slice_get g.blocks j ≡ o → BothOrNone (HasPhis n.order made j) o (slice_get made.blocks j)
      by None e = subst (λ (b : Option Block). BothOrNone (HasPhis n.order made j) None b) (sym (made_none g n (entries g n) 0 0 g.blocks j e)) tt
      by (Some c) e =
          let k = number_past 0 (take j g.blocks) in
          subst (λ (b : Option Block). BothOrNone (HasPhis n.order made j) (Some c) b) (sym (made_at g n (entries g n) 0 0 g.blocks j c e))
          (subst (λ (q : ℕ). HasPhis n.order made j c (block_made g n (entries g n) q k c)) (let z : j ≡ 0 + j = omega arith in z) (block_has_phis j k c e))
