-- The phis of a block, and the entries of a phi.
use Rattle.std.proofs.Common.{◌≡◌, ◌≢◌, ◌<◌, ◌≤◌, ◌+◌, ℕ, suc, Bool, true, false, nat_eq, List, [], ◌∷◌, Option, None, Some, length, slice_get, sym, ap, ◌∙◌, refl, arith, subst, get_or, inl, inr, ◌⊎◌}
use Rattle.std.proofs.lemmas.Bool.{cases_eq, cases_order, eqb-true}
use Rattle.std.proofs.lemmas.Option.{slice_get_within, get_or_from_slice_get, same_Some}
use Rattle.std.specs.Option.{option_map, option_map_or}
use Rattle.support.proofs.ListLaws.{item_there}
use Rattle.llvm_core.specs.declared.numbers.LLVMBasicBlock.{LLVMBasicBlock}
use Rattle.llvm_core.specs.declared.numbers.LLVMInstRef.{LLVMInstRef}
use Rattle.llvm_core.specs.declared.code.LLVMValue.{LLVMValue}
use Rattle.llvm_core.specs.declared.code.PhiEntry.{PhiEntry}
use Rattle.llvm_core.specs.declared.code.LLVMInst.{LLVMInst}
use Rattle.llvm_core.specs.declared.code.LLVMInst.TheVariants as I
use Rattle.llvm_core.specs.declared.code.InstData.{InstData}
use Rattle.llvm_core.specs.declared.check_err.Place.TheVariants as P
use Rattle.llvm_core.specs.declared.check_err.CheckErr.TheVariants.{PhiEntries}
use Rattle.llvm_core.specs.Module.{Module}
use Rattle.llvm_core.specs.Edges.{count_of, edge_count, HasIncoming}
use Rattle.llvm_core.specs.Checked.{HasLatePhi, HasTwoValues, HasNoPreds, MisfitsEdges, Fails, is_phi_at, sources}
use Rattle.llvm_core.proofs.EdgeLemmas.{count-cons, one_here}

-- ---- the place of phis

-- what is known of the first n instructions: whether one is no phi, and that no phi stands behind such a one
pub record PhisSoFar (m : Module) (xs : List LLVMInstRef) (n : ℕ) (behind : Bool) : Type 0 where
  pub none : behind ≡ false → (j : ℕ) (x : LLVMInstRef) → j < n → slice_get xs j ≡ Some x → is_phi_at m x ≡ true
  pub some : behind ≡ true → (j : ℕ) × (x : LLVMInstRef) × (j < n) × (slice_get xs j ≡ Some x) × (is_phi_at m x ≡ false)
  pub early : (j k : ℕ) (x y : LLVMInstRef) → j < k → k < n → slice_get xs j ≡ Some x → slice_get xs k ≡ Some y → is_phi_at m x ≡ false → is_phi_at m y ≡ false

pub no_phis : (m : Module) (xs : List LLVMInstRef) → PhisSoFar m xs 0 false
no_phis m xs = record {
  none = λ e j x lt at. absurd (omega (arith, lt));
  some = λ e. cc;
  early = λ j k x y below lt at is other. absurd (omega (arith, lt));
}

-- one more instruction is an earlier one or the last
below_or_last : (j n : ℕ) → j < n + 1 → (j < n) ⊎ (j ≡ n)
below_or_last j n lt = elim (cases_order j n) [ inl same ↦ inr same | inr apart ↦ elim apart [ inl below ↦ inl below | inr above ↦ absurd (omega (arith, lt, above)) ] ]

pub other_more : (m : Module) (xs : List LLVMInstRef) (n : ℕ) (behind : Bool) (z : LLVMInstRef) → PhisSoFar m xs n behind → slice_get xs n ≡ Some z → is_phi_at m z ≡ false → PhisSoFar m xs (n + 1) true
other_more m xs n behind z h here plain = record {
  none = λ e j x lt at. cc;
  some = λ e. (n, z, (let lt : n < n + 1 = omega arith in lt), here, plain);
  early = λ j k x y below lt at is other. elim (below_or_last k n lt) [
    | inl old ↦ h.early j k x y below old at is other
    | inr last ↦ (let same : y ≡ z = same_Some y z (sym is ∙ ap (slice_get xs) last ∙ here) in ap (is_phi_at m) same ∙ plain)
  ];
}

pub phi_more : (m : Module) (xs : List LLVMInstRef) (n : ℕ) (z : LLVMInstRef) → PhisSoFar m xs n false → slice_get xs n ≡ Some z → is_phi_at m z ≡ true → PhisSoFar m xs (n + 1) false
phi_more m xs n z h here phi = record {
  none = λ e j x lt at. elim (below_or_last j n lt) [
    | inl old ↦ h.none refl j x old at
    | inr last ↦ (let same : x ≡ z = same_Some x z (sym at ∙ ap (slice_get xs) last ∙ here) in ap (is_phi_at m) same ∙ phi)
  ];
  some = λ e. cc;
  early = λ j k x y below lt at is other. absurd (let known = h.none refl j x (omega (arith, below, lt)) at in cc);
}

pub late_here : (m : Module) (xs : List LLVMInstRef) (n : ℕ) (z : LLVMInstRef) → PhisSoFar m xs n true → slice_get xs n ≡ Some z → is_phi_at m z ≡ true → HasLatePhi m xs
late_here m xs n z h here phi = let first = h.some refl in (first.0, n, first.1, z, first.2, first.3, here, first.4, phi)

pub none_late : (m : Module) (xs : List LLVMInstRef) (n : ℕ) (behind : Bool) → PhisSoFar m xs n behind → length xs ≤ n → ¬ HasLatePhi m xs
none_late m xs n behind h all (j, k, x, y, below, at, is, plain, phi) =
    absurd (let known = h.early j k x y below (omega (arith, slice_get_within xs k y is, all)) at is plain in cc)

-- ---- values by block

-- what a map holds after n entries: for each block the value of its entries
pub record ValuesSoFar (entries : List PhiEntry) (n : ℕ) (get : ℕ → Option LLVMValue) : Type 0 where
  pub kept : (j : ℕ) (e : PhiEntry) → j < n → slice_get entries j ≡ Some e → get e.block.0 ≡ Some e.value
  pub first : (b : ℕ) (v : LLVMValue) → get b ≡ Some v → (j : ℕ) × (e : PhiEntry) × (j < n) × (slice_get entries j ≡ Some e) × (e.block.0 ≡ b) × (e.value ≡ v)

pub no_values : (entries : List PhiEntry) (get : ℕ → Option LLVMValue) → ((b : ℕ) → get b ≡ None) → ValuesSoFar entries 0 get
no_values entries get none = record {
  kept = λ j e lt at. absurd (omega (arith, lt));
  first = λ b v is. absurd (let e = none b in cc);
}

pub value_more : (entries : List PhiEntry) (n : ℕ) (get new : ℕ → Option LLVMValue) (e : PhiEntry) → ValuesSoFar entries n get → slice_get entries n ≡ Some e
    → ((v : LLVMValue) → get e.block.0 ≡ Some v → v ≡ e.value) → new e.block.0 ≡ Some e.value → ((b : ℕ) → b ≢ e.block.0 → new b ≡ get b) → ValuesSoFar entries (n + 1) new
value_more entries n get new e h here agrees put others = record {
  kept = λ j x lt at. elim (below_or_last j n lt) [
    | inl old ↦ elim (cases_eq x.block.0 e.block.0) [
      | inl same ↦ (let v = agrees x.value (ap get (sym same) ∙ h.kept j x old at) in ap new same ∙ put ∙ ap Some (sym v))
      | inr apart ↦ others x.block.0 apart ∙ h.kept j x old at
    ]
    | inr last ↦ (let same : x ≡ e = same_Some x e (sym at ∙ ap (slice_get entries) last ∙ here) in
        ap (λ (y : PhiEntry). new y.block.0) same ∙ put ∙ ap (λ (y : PhiEntry). Some y.value) (sym same))
  ];
  first = λ b v is. elim (cases_eq b e.block.0) [
    | inl same ↦ (n, e, (let lt : n < n + 1 = omega arith in lt), here, sym same, same_Some e.value v (sym put ∙ ap new (sym same) ∙ is))
    | inr apart ↦ (let old = h.first b v (sym (others b apart) ∙ is) in (old.0, old.1, (let lt : old.0 < n + 1 = omega (arith, old.2) in lt), old.3, old.4, old.5))
  ];
}

pub same_block : (a b : LLVMBasicBlock) → a.0 ≡ b.0 → a ≡ b
same_block a b e = ap (λ (n : ℕ). let c : LLVMBasicBlock = record { 0 = n } in c) e

pub two_here : (entries : List PhiEntry) (n : ℕ) (get : ℕ → Option LLVMValue) (e : PhiEntry) (v : LLVMValue) → ValuesSoFar entries n get → slice_get entries n ≡ Some e → get e.block.0 ≡ Some v → v ≢ e.value → HasTwoValues entries
two_here entries n get e v h here is apart =
    let old = h.first e.block.0 v is in
    (old.0, n, old.1, e, old.3, here, same_block old.1.block e.block old.4, λ same. apart (sym old.5 ∙ same))

-- the same where the entry was read by its place
pub two_at : (entries : List PhiEntry) (n : ℕ) (d : PhiEntry) (get : ℕ → Option LLVMValue) (v : LLVMValue) → n < length entries → ValuesSoFar entries n get → get (get_or entries n d).block.0 ≡ Some v → v ≢ (get_or entries n d).value → HasTwoValues entries
two_at entries n d get v lt h is apart =
    let e = item_there entries n lt in
    let same : get_or entries n d ≡ e.0 = get_or_from_slice_get entries n e.0 d e.1 in
    two_here entries n get e.0 v h e.1 (ap (λ (x : PhiEntry). get x.block.0) (sym same) ∙ is) (λ equal. apart (equal ∙ ap (λ (x : PhiEntry). x.value) (sym same)))

pub value_at : (entries : List PhiEntry) (n : ℕ) (d : PhiEntry) (get new : ℕ → Option LLVMValue) → n < length entries → ValuesSoFar entries n get
    → ((v : LLVMValue) → get (get_or entries n d).block.0 ≡ Some v → v ≡ (get_or entries n d).value) → new (get_or entries n d).block.0 ≡ Some (get_or entries n d).value
    → ((b : ℕ) → b ≢ (get_or entries n d).block.0 → new b ≡ get b) → ValuesSoFar entries (n + 1) new
value_at entries n d get new lt h agrees put others =
    let e = item_there entries n lt in
    let same : get_or entries n d ≡ e.0 = get_or_from_slice_get entries n e.0 d e.1 in
    value_more entries n get new e.0 h e.1 (subst (λ (x : PhiEntry). (v : LLVMValue) → get x.block.0 ≡ Some v → v ≡ x.value) same agrees) (subst (λ (x : PhiEntry). new x.block.0 ≡ Some x.value) same put)
    (subst (λ (x : PhiEntry). (b : ℕ) → b ≢ x.block.0 → new b ≡ get b) same others)

pub none_two : (entries : List PhiEntry) (n : ℕ) (get : ℕ → Option LLVMValue) → ValuesSoFar entries n get → length entries ≤ n → ¬ HasTwoValues entries
none_two entries n get h all (i, j, x, y, at, is, same, apart) =
    let p = h.kept i x (omega (arith, slice_get_within entries i x at, all)) at in
    let q = h.kept j y (omega (arith, slice_get_within entries j y is, all)) is in
    apart (same_Some x.value y.value (sym p ∙ ap (λ (b : LLVMBasicBlock). get b.0) same ∙ q))

-- ---- edges

-- the counts in the list of a block
pub from_counts : (m : Module) (lists : List (List ℕ)) (b : ℕ) (from : List ℕ) → HasIncoming m lists → slice_get lists b ≡ Some from → (p : ℕ) → count_of p from ≡ edge_count m p b
from_counts m lists b from h at p = sym (ap (λ o. count_of p (option_map_or (λ (l : List ℕ). l) o [])) at) ∙ h.counts p b

pub no_preds : (m : Module) (b : ℕ) (from : List ℕ) → ((p : ℕ) → count_of p from ≡ edge_count m p b) → from ≡ [] → HasNoPreds m b
no_preds m b from counts none p = sym (counts p) ∙ ap (count_of p) none

pub some_preds : (m : Module) (b : ℕ) (from : List ℕ) → ((p : ℕ) → count_of p from ≡ edge_count m p b) → from ≢ [] → ¬ HasNoPreds m b
some_preds m b [] counts some none = some refl
some_preds m b (x ∷ xs) counts some none = absurd (omega (arith, counts x, none x, count-cons x x xs, one_here x x refl))

pub phi_fits : (m : Module) (b : ℕ) (type : _) (entries : List PhiEntry) (from : List ℕ) → ((p : ℕ) → count_of p from ≡ edge_count m p b) → from ≢ [] → ¬ HasTwoValues entries
    → ((p : ℕ) → count_of p (sources entries) ≡ count_of p from) → ¬ MisfitsEdges m b (I.Phi type entries)
phi_fits m b type entries from counts some once fits misfits = elim misfits [
  | inl wrong ↦ wrong (λ p. fits p ∙ counts p)
  | inr more ↦ elim more [ inl two ↦ once two | inr none ↦ some_preds m b from counts some none ]
]

pub phi_misfits : (m : Module) (b : ℕ) (type : _) (entries : List PhiEntry) (from : List ℕ) → ((p : ℕ) → count_of p from ≡ edge_count m p b) → ¬ ((p : ℕ) → count_of p (sources entries) ≡ count_of p from) → MisfitsEdges m b (I.Phi type entries)
phi_misfits m b type entries from counts wrong = inl (λ fits. wrong (λ p. fits p ∙ sym (counts p)))

-- entries that are each for the block at their place
pub sources_are : (es : List PhiEntry) (from : List ℕ) → length es ≡ length from → ((k : ℕ) (e : PhiEntry) → slice_get es k ≡ Some e → slice_get from k ≡ Some e.block.0) → sources es ≡ from
sources_are [] [] n at = refl
sources_are [] (p ∷ from) n at = absurd (omega (arith, n))
sources_are (e ∷ es) [] n at = absurd (omega (arith, n))
sources_are (e ∷ es) (p ∷ from) n at =
    let here : p ≡ e.block.0 = same_Some p e.block.0 (at 0 e refl) in
    let rest = sources_are es from (omega (arith, n)) (λ k x is. at (suc k) x is) in
    ap (λ (q : ℕ). q ∷ sources es) (sym here) ∙ ap (λ (qs : List ℕ). p ∷ qs) rest

-- the same, of the list that was read for the block
pub counts_read : (m : Module) (lists : List (List ℕ)) (b : ℕ) (d from : List ℕ) → HasIncoming m lists → b < length m.blocks → from ≡ get_or lists b d → (p : ℕ) → count_of p from ≡ edge_count m p b
counts_read m lists b d from h within read p =
    let listed = item_there lists b (omega (arith, within, h.len)) in
    let same : from ≡ listed.0 = read ∙ get_or_from_slice_get lists b listed.0 d listed.1 in
    ap (count_of p) same ∙ from_counts m lists b listed.0 h listed.1 p

-- a list of no length
pub no_length : (xs : List ℕ) → nat_eq (length xs) 0 ≡ true → xs ≡ []
no_length [] e = refl
no_length (x ∷ xs) e = absurd (let h = eqb-true (length (x ∷ xs)) 0 e in omega (arith, h))

pub some_length : (xs : List ℕ) → nat_eq (length xs) 0 ≡ false → xs ≢ []
some_length xs e none = absurd (let h : nat_eq (length xs) 0 ≡ true = ap (λ (ys : List ℕ). nat_eq (length ys) 0) none in cc)

pub unlike_is : (a b : ℕ) → b ≢ a → nat_eq a b ≡ false
unlike_is a b apart = by (nat_eq a b) refl
  where
    by : (c : Bool) → nat_eq a b ≡ c → c ≡ false
    by false e = refl
    by true e = absurd (apart (sym (eqb-true a b e)))

module _ (m : Module) (i : ℕ) (inst : LLVMInst) (b : LLVMBasicBlock) (inst_is : option_map (λ (x : InstData). x.inst) (slice_get m.insts i) ≡ Some inst) (block_is : option_map (λ (x : InstData). x.block) (slice_get m.insts i) ≡ Some b) where
  found : (x : InstData) × (slice_get m.insts i ≡ Some x) × (x.inst ≡ inst) × (x.block ≡ b)
  found = by (slice_get m.insts i) refl inst_is block_is
    where
      by : (o : Option InstData) → slice_get m.insts i ≡ o → option_map (λ (x : InstData). x.inst) o ≡ Some inst → option_map (λ (x : InstData). x.block) o ≡ Some b
          → (x : InstData) × (slice_get m.insts i ≡ Some x) × (x.inst ≡ inst) × (x.block ≡ b)
      by None e p q = cc
      by (Some x) e p q = (x, e, same_Some x.inst inst p, same_Some x.block b q)

  pub fails_there : MisfitsEdges m b.0 inst → Fails m (PhiEntries (P.Inst i))
  fails_there h = (found.0, found.1, rw (found.2, found.3) h)

  pub fits_there : ¬ MisfitsEdges m b.0 inst → ¬ Fails m (PhiEntries (P.Inst i))
  fits_there fits (x, at, misfits) =
      let same : found.0 ≡ x = same_Some found.0 x (sym found.1 ∙ at) in
      let inst_x : x.inst ≡ inst = ap (λ (y : InstData). y.inst) (sym same) ∙ found.2 in
      let block_x : x.block ≡ b = ap (λ (y : InstData). y.block) (sym same) ∙ found.3 in
      fits (rw (← inst_x, ← block_x) misfits)
