-- The edges between blocks in the data of a function are those of the module.
use Rattle.std.proofs.Common.{◌≡◌, ◌≢◌, inl, inr, ℕ, zero, suc, List, [], ◌∷◌, Option, None, Some, slice_get, map, refl, sym, ap, ◌∙◌, arith}
use Rattle.std.specs.List.{flat_map}
use Rattle.std.specs.Option.{option_map, option_map_or}
use Rattle.std.proofs.lemmas.Bool.{cases_eq}
use Rattle.std.proofs.lemmas.List.{append-nil}
use Rattle.std.proofs.lemmas.Option.{slice_get-map, same_Some}
use Rattle.llvm_core.specs.declared.numbers.LLVMInstRef.{LLVMInstRef}
use Rattle.llvm_core.specs.declared.code.LLVMInst.{LLVMInst}
use Rattle.llvm_core.specs.declared.code.LLVMInst.TheVariants as I
use Rattle.llvm_core.specs.declared.code.PhiEntry.{PhiEntry}
use Rattle.llvm_core.specs.declared.code.FunctionData.{FunctionData}
use Rattle.llvm_core.specs.declared.code.BlockData.{BlockData}
use Rattle.llvm_core.specs.declared.code.InstData.{InstData}
use Rattle.llvm_core.specs.Module.{Module}
use Rattle.support.specs.Interned.{IsDistinctList}
use Rattle.llvm_core.specs.Sound.{IsModule}
use Rattle.llvm_core.specs.Edges.{count_of, targets_at, targets_from, edge_count}
use Rattle.llvm_core.specs.Edges.{targets as leads_to}
use Rattle.llvm_core.specs.Data.{Operand, Placed, Block, Function, trees_of, entry_of, instruction_of, placed_of, placed_at, targets}
use Rattle.llvm_core.specs.Checked.{sources}
use Rattle.llvm_core.specs.Form.{targets_of, edges_between}
use Rattle.llvm_core.proofs.EdgeLemmas.{count-cons, one_here, one_other}
use Rattle.llvm_core.proofs.GivenLemmas.{flat_map-filter_map, picked_none, picked_one, picked_cases}
use Rattle.llvm_core.proofs.FormPlaces.{shown, shown_block, block_place, block_from}

-- ---- counts

-- a number that stands nowhere is counted 0 times
pub count_absent : (n : ℕ) (xs : List ℕ) → ((i x : ℕ) → slice_get xs i ≡ Some x → x ≢ n) → count_of n xs ≡ 0
count_absent n [] none = refl
count_absent n (x ∷ xs) none = omega (arith, count-cons n x xs, one_other n x (λ e. none 0 x refl (sym e)), count_absent n xs (λ i y at. none (suc i) y at))

pub count_present : (n : ℕ) (xs : List ℕ) (i : ℕ) → slice_get xs i ≡ Some n → count_of n xs ≢ 0
count_present n [] i at e = cc
count_present n (x ∷ xs) zero at e = absurd (omega (arith, e, count-cons n x xs, one_here n x (let same : n ≡ x = sym (same_Some x n at) in same)))
count_present n (x ∷ xs) (suc i) at e = count_present n xs i at (let h = count-cons n x xs in omega (arith, e, h))

-- ---- targets

pub same_targets : (m : Module) (i : LLVMInst) → leads_to i ≡ targets (instruction_of (trees_of m) i)
same_targets m (I.Phi type entries) = refl
same_targets m (I.Row r) = refl

same_targets_at : (m : Module) (i : LLVMInstRef) → targets_at m i ≡ option_map_or (λ (p : Placed). targets p.instruction) (placed_at (trees_of m) m.insts i) []
same_targets_at m i = by (slice_get m.insts i.0)
  where
    by : (o : Option InstData) → option_map_or (λ (x : InstData). leads_to x.inst) o [] ≡ option_map_or (λ (p : Placed). targets p.instruction) (option_map (placed_of (trees_of m) i) o) []
    by None = refl
    by (Some z) = same_targets m z.inst

-- the blocks that a block leads to are those of its data
pub same_targets_from : (m : Module) (p : ℕ) (y : BlockData) → slice_get m.blocks p ≡ Some y → targets_from m p ≡ targets_of (shown_block m p y)
same_targets_from m p y at =
    ap (λ o. option_map_or (λ (x : BlockData). flat_map (targets_at m) x.insts) o []) at
    ∙ flat_map-filter_map (targets_at m) (λ (q : Placed). targets q.instruction) (placed_at (trees_of m) m.insts) (same_targets_at m) y.insts

-- the blocks that a phi's entries are for are those of its data
pub same_sources : (m : Module) (entries : List PhiEntry) → map (λ (e : Operand × ℕ). e.1) (map (entry_of (trees_of m)) entries) ≡ sources entries
same_sources m [] = refl
same_sources m (e ∷ es) = ap (λ ns. e.block.0 ∷ ns) (same_sources m es)

-- ---- edges

-- each edge stays in the function that it leaves
abbrev pub StaysInside : Module → Type 0
StaysInside m = (p : ℕ) (y : BlockData) (k t : ℕ) → slice_get m.blocks p ≡ Some y → slice_get (targets_from m p) k ≡ Some t → (z : BlockData) × (slice_get m.blocks t ≡ Some z) × (z.function.0 ≡ y.function.0)

-- an edge leaves a block of the function
pub edge_source : (g : Function) (p b : ℕ) → edges_between g p b ≢ 0 → (i : ℕ) × (c : Block) × (slice_get g.blocks i ≡ Some c) × (c.number ≡ p)
edge_source g p b some = elim (picked_cases (λ (c : Block). c.number) p g.blocks) [
  | inl here ↦ here
  | inr none ↦ absurd (some (ap (λ cs. count_of b (flat_map targets_of cs)) none))
]

-- where block numbers are distinct, a number stands at one place
pub one_place : (g : Function) → IsDistinctList (map (λ (c : Block). c.number) g.blocks) → (i j : ℕ) (c d : Block) → slice_get g.blocks i ≡ Some c → slice_get g.blocks j ≡ Some d → c.number ≡ d.number → i ≡ j
one_place g distinct i j c d at_i at_j same =
    distinct i j d.number (slice_get-map (λ (c : Block). c.number) g.blocks i ∙ ap (option_map (λ (c : Block). c.number)) at_i ∙ ap Some same)
    (slice_get-map (λ (c : Block). c.number) g.blocks j ∙ ap (option_map (λ (c : Block). c.number)) at_j)

module _ (m : Module) (f : ℕ) (x : FunctionData) (sound : IsModule m) (at : slice_get m.functions f ≡ Some x) (distinct : IsDistinctList (map (λ (c : Block). c.number) (shown m f x).blocks)) (inside : StaysInside m) where
  none_between : (p b : ℕ) → ((y : BlockData) → slice_get m.blocks p ≡ Some y → y.function.0 ≢ f) → edges_between (shown m f x) p b ≡ 0
  none_between p b other =
      let none = picked_none (λ (c : Block). c.number) p (shown m f x).blocks (λ i c is same.
      let l = block_from m f x i c sound at is in
      let number : l.number ≡ p = ap (λ (d : Block). d.number) (sym l.shown_as) ∙ same in
      other l.block (ap (slice_get m.blocks) (sym number) ∙ l.here) l.owned) in
      ap (λ cs. count_of b (flat_map targets_of cs)) none

  between_own : (p b : ℕ) (y : BlockData) → slice_get m.blocks p ≡ Some y → y.function.0 ≡ f → edges_between (shown m f x) p b ≡ edge_count m p b
  between_own p b y is own =
      let place = block_place m f x p y sound at is own in
      let one = picked_one (λ (c : Block). c.number) p (shown m f x).blocks place.place (shown_block m p y) (one_place (shown m f x) distinct) place.here refl in
      ap (λ cs. count_of b (flat_map targets_of cs)) one
      ∙ ap (count_of b) (append-nil (targets_of (shown_block m p y)))
      ∙ ap (count_of b) (sym (same_targets_from m p y is))

  none_from_other : (p b : ℕ) (y z : BlockData) → slice_get m.blocks p ≡ Some y → y.function.0 ≢ f → slice_get m.blocks b ≡ Some z → z.function.0 ≡ f → edge_count m p b ≡ 0
  none_from_other p b y z is other is_b own = count_absent b (targets_from m p) (λ k t there same.
      let w = inside p y k t is there in
      let twin : w.0 ≡ z = same_Some w.0 z (sym w.1 ∙ ap (slice_get m.blocks) same ∙ is_b) in
      other (sym w.2 ∙ ap (λ (c : BlockData). c.function.0) twin ∙ own))

  -- as many edges lead to a block of the function in its data as in the module
  pub same_edges : (p b : ℕ) (z : BlockData) → slice_get m.blocks b ≡ Some z → z.function.0 ≡ f → edges_between (shown m f x) p b ≡ edge_count m p b
  same_edges p b z is_b own = by (slice_get m.blocks p) refl
    where
      by : (o : Option BlockData) → slice_get m.blocks p ≡ o → edges_between (shown m f x) p b ≡ edge_count m p b
      by None e = none_between p b (λ y is own_y. cc) ∙ sym (ap (λ o. count_of b (option_map_or (λ (x : BlockData). flat_map (targets_at m) x.insts) o [])) e)
      by (Some y) e = elim (cases_eq y.function.0 f) [
        | inl here ↦ between_own p b y e here
        | inr other ↦ none_between p b (λ w is own_w. other (ap (λ (c : BlockData). c.function.0) (same_Some y w (sym e ∙ is)) ∙ own_w)) ∙ sym (none_from_other p b y z e other is_b own)
      ]
