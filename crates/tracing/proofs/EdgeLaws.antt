-- The edges of a function of LLVM, by its index.
use Rattle.std.proofs.Common.{◌≡◌, ℕ, zero, suc, Bool, true, false, cond, not, List, [], ◌∷◌, ◌++◌, Option, Some, None, length, map, filter, slice_get, nat_eq, All, refl, sym, ap, subst, ◌∙◌, arith, length-append, append_assoc}
use Rattle.std.specs.Prelude.{nat_lt}
use Rattle.std.specs.List.{filter_map, flat_map, position_from, position_or_len, cons_option}
use Rattle.std.specs.Option.{is_some, option_map, option_map_or}
use Rattle.std.proofs.lemmas.Iterator.Adapters.{position_from-zero}
use Rattle.std.proofs.lemmas.List.Folds.{find_at}
use Rattle.std.proofs.lemmas.List.Elements.{All-nil, All-cons}
use Rattle.std.proofs.lemmas.List.Sums.{prefix_len-le-length}
use Rattle.std.proofs.lemmas.Bool.{ltb-false}
use Rattle.std.proofs.lemmas.Option.{slice_get-map, none-some, same_Some}
use Rattle.meaning.proofs.MatchedLaws.{matched_get}
use Rattle.indexmap.specs.IndexMap.{get}
use Rattle.llvm_core.specs.Module.{Module}
use Rattle.llvm_core.specs.Data as D
use Rattle.llvm_core.specs.Data.{Placed, Block, trees_of, targets, phi_entries}
use Rattle.llvm_core.specs.Form.{is_phi}
use Rattle.meaning.specs.Machine as M
use Rattle.meaning.specs.Pairs.{Matched, BothOrNone}
use Rattle.meaning.specs.Llvm.{phi_move, row, edge, block, entry_for, Key, ResultKey}
use Rattle.tracing.specs.declared.body.Slot.{Slot}
use Rattle.tracing.specs.declared.body.Slot.TheVariants.{Result}
use Rattle.tracing.specs.declared.body.Source.{Source}
use Rattle.tracing.specs.declared.body.Edge.{Edge}
use Rattle.tracing.specs.declared.body.Block as B
use Rattle.llvm_core.specs.declared.numbers.LLVMBasicBlock.{LLVMBasicBlock}
use Rattle.llvm_core.specs.declared.code.BlockData.{BlockData}
use Rattle.tracing.specs.declared.llvm_index.Phi.{Phi}
use Rattle.tracing.specs.declared.llvm_index.Index.{Index}
use Rattle.tracing.specs.Bodies.{source_of, moves_from, params_at, row_of, edge_of, block_of, IsKnownGiven, IsKnownEdge}
use Rattle.tracing.specs.Contents.{Contents}
use Rattle.tracing.specs.Renamed.{renamed, renamed_row, renamed_move, renamed_edge, renamed_block}
use Rattle.tracing.specs.LlvmBodies.{setting_in, slot_of, InChecked, data_in, IsPhiOf, ArePhisOf, slots_of, taken_from, IsIndexOf, IsBlockIn, rows_in, params_in, phis_at, edge_to}
use Rattle.tracing.proofs.PlaceLaws.{place_by_number}

-- the place of what passes the test, past the end where nothing does
pub place_is : {X : Type 0} (p : X → Bool) (xs : List X) → option_map_or (λ (i : ℕ). i) (position_from p 0 xs) (length xs) ≡ position_or_len p xs
place_is p xs = ap (λ (o : Option ℕ). option_map_or (λ (i : ℕ). i) o (length xs)) (sym (position_from-zero p xs)) ∙ by (nat_lt (position_or_len p xs) (length xs)) refl
  where
    by : (b : Bool) → nat_lt (position_or_len p xs) (length xs) ≡ b → option_map_or (λ (i : ℕ). i) (cond b (Some (position_or_len p xs)) None) (length xs) ≡ position_or_len p xs
    by true e = refl
    by false e = omega (arith, ltb-false (position_or_len p xs) (length xs) e, prefix_len-le-length (λ x. not (p x)) xs)

-- ---- what an edge hands over, slot by slot

at_seam : {A : Type 0} (xs : List A) (y : A) (ys : List A) (n : ℕ) → n ≡ length xs → slice_get (xs ++ y ∷ ys) n ≡ Some y
at_seam [] y ys zero e = refl
at_seam [] y ys (suc n) e = absurd (omega arith)
at_seam (x ∷ xs) y ys zero e = absurd (omega arith)
at_seam (x ∷ xs) y ys (suc n) e = at_seam xs y ys n (omega arith)

module _ {X : Type 0} (now : Contents) (slot : X → Slot) (source : X → Option Source) where
  zipped_from : (done : List (Option Source)) (n : ℕ) (xs : List X) → n ≡ length done → moves_from now.terms n (map slot xs) (done ++ map source xs) ≡ map (λ (x : X). (slot x, option_map (source_of now.terms) (source x))) xs
  zipped_from done n [] e = refl
  zipped_from done n (x ∷ xs) e =
      let here = ap (λ (o : Option (Option Source)). option_map_or (option_map (source_of now.terms)) o None) (at_seam done (source x) (map source xs) n e) in
      let rest = zipped_from (done ++ source x ∷ []) (suc n) xs (omega (arith, e, length-append done (source x ∷ []))) in
      let after = sym (ap (moves_from now.terms (suc n) (map slot xs)) (append_assoc done (source x ∷ []) (map source xs))) ∙ rest in
      ap (λ (o : Option (M.Operand Slot)). (slot x, o) ∷ moves_from now.terms (suc n) (map slot xs) (done ++ source x ∷ map source xs)) here
      ∙ ap (λ (l : List (Slot × Option (M.Operand Slot))). (slot x, option_map (source_of now.terms) (source x)) ∷ l) after

  pub zipped : (xs : List X) → moves_from now.terms 0 (map slot xs) (map source xs) ≡ map (λ (x : X). (slot x, option_map (source_of now.terms) (source x))) xs
  zipped xs = zipped_from [] 0 xs refl

module _ (m : Module) (now : Contents) (from : ℕ) where
  abbrev taken : Phi → Slot × Option (M.Operand Slot)
  taken x = (x.slot, option_map (source_of now.terms) (get nat_eq x.incoming from))

  abbrev moves_in : List Placed → List (Slot × Option (M.Operand Slot))
  moves_in ps = map (renamed_move slot_of) (filter_map (phi_move (setting_in m) from) ps)

  -- what a phi takes is its move
  phi_taken : (x : Phi) (p : Placed) (es : List (D.Operand × ℕ)) → phi_entries p.instruction ≡ Some es → IsPhiOf m now x p → taken x ≡ renamed_move slot_of (ResultKey p.number, entry_for (setting_in m) from es)
  phi_taken x p es e is =
      let same : is.entries ≡ es = same_Some is.entries es (sym is.are ∙ e) in
      let slot = is.slot in
      let source = (is.incoming from).0 ∙ ap (λ (l : List (D.Operand × ℕ)). option_map (renamed slot_of) (entry_for (setting_in m) from l)) same in
      ap (λ (v : Slot). (v, option_map (source_of now.terms) (get nat_eq x.incoming from))) slot ∙ ap (λ (o : Option (M.Operand Slot)). let r : Slot × Option (M.Operand Slot) = (Result p.number, o) in r) source

  moves_each : (ps : List Placed) (xs : List Phi) → ArePhisOf m now xs ps → map taken xs ≡ moves_in ps
  moves_each [] [] h = refl
  moves_each [] (x ∷ xs) h = elim h [ ]
  moves_each (p ∷ ps) xs h = by (phi_entries p.instruction) refl (moves_each ps) h
    where
      one : (es : List (D.Operand × ℕ)) → phi_entries p.instruction ≡ Some es → ((ys : List Phi) → ArePhisOf m now ys ps → map taken ys ≡ moves_in ps) → (ys : List Phi) → Matched (IsPhiOf m now) ys (p ∷ filter is_phi ps)
          → map taken ys ≡ renamed_move slot_of (ResultKey p.number, entry_for (setting_in m) from es) ∷ moves_in ps
      one es e rest [] k = elim k [ ]
      one es e rest (y ∷ ys) k = let here = phi_taken y p es e k.0 in let more = rest ys k.1 in cc

      by : (o : Option (List (D.Operand × ℕ))) → phi_entries p.instruction ≡ o → ((ys : List Phi) → ArePhisOf m now ys ps → map taken ys ≡ moves_in ps) → Matched (IsPhiOf m now) xs (cond (is_some o) (p ∷ filter is_phi ps) (filter is_phi ps))
          → map taken xs ≡ map (renamed_move slot_of) (cons_option (option_map (λ (es : List (D.Operand × ℕ)). (ResultKey p.number, entry_for (setting_in m) from es)) o) (filter_map (phi_move (setting_in m) from) ps))
      by None e rest k = rest xs k
      by (Some es) e rest k = one es e rest xs k

  pub moves_are : (xs : List Phi) (ps : List Placed) → ArePhisOf m now xs ps → moves_from now.terms 0 (slots_of xs) (taken_from from xs) ≡ moves_in ps
  moves_are xs ps h = zipped now (λ (x : Phi). x.slot) (λ (x : Phi). get nat_eq x.incoming from) xs ∙ moves_each ps xs h

  -- and its constant is there
  pub taken_known : (xs : List Phi) (ps : List Placed) → Matched (IsPhiOf m now) xs ps → All (IsKnownGiven now) (taken_from from xs)
  taken_known [] [] h = All-nil (IsKnownGiven now)
  taken_known (x ∷ xs) (p ∷ ps) h = All-cons (IsKnownGiven now) (get nat_eq x.incoming from) (taken_from from xs) (h.0.incoming from).1 (taken_known xs ps h.1)
  taken_known [] (p ∷ ps) h = elim h [ ]
  taken_known (x ∷ xs) [] h = elim h [ ]

module _ (m : Module) (h : InChecked m) (now : Contents) (x : Index) (index : IsIndexOf m h now x) (from to : ℕ) where
  abbrev there : Block → Bool
  there y = nat_eq y.number to

  abbrev place : ℕ
  place = position_or_len there (data_in m h).blocks

  to_is : position_or_len (nat_eq to) x.places ≡ place
  to_is = ap (position_or_len (nat_eq to)) index.places ∙ place_by_number (λ (y : Block). y.number) to (data_in m h).blocks

  abbrev Both : List Phi → Block → Type 0
  Both xs y = ArePhisOf m now xs y.instructions

  moves_by : (o : Option (List Phi)) (y : Option Block) → BothOrNone Both o y → moves_from now.terms 0 (option_map_or (λ (ps : List Slot). ps) (option_map slots_of o) []) (taken_from from (option_map_or (λ (xs : List Phi). xs) o []))
      ≡ map (renamed_move slot_of) (option_map_or (λ (b : Block). filter_map (phi_move (setting_in m) from) b.instructions) y [])
  moves_by None None k = refl
  moves_by (Some xs) (Some y) k = moves_are m now from xs y.instructions k
  moves_by None (Some y) k = elim k [ ]
  moves_by (Some xs) None k = elim k [ ]

  edge_at : (n : ℕ) → n ≡ place → edge_of now.terms (params_in x) (record { to = n; sources = taken_from from (phis_at x n) }) ≡ renamed_edge slot_of (edge (setting_in m) (data_in m h) from to)
  edge_at n e =
      let bs = (data_in m h).blocks in
      let moves : moves_from now.terms 0 (params_at (params_in x) n) (taken_from from (phis_at x n)) ≡ map (renamed_move slot_of) (edge (setting_in m) (data_in m h) from to).moves =
      ap (λ (o : Option (List Slot)). moves_from now.terms 0 (option_map_or (λ (ps : List Slot). ps) o []) (taken_from from (phis_at x n))) (slice_get-map slots_of x.phis n)
      ∙ moves_by (slice_get x.phis n) (slice_get bs n) (matched_get Both x.phis bs n index.phis)
      ∙ ap (λ (o : Option Block). map (renamed_move slot_of) (option_map_or (λ (b : Block). filter_map (phi_move (setting_in m) from) b.instructions) o [])) (ap (slice_get bs) e ∙ sym (find_at there bs)) in
      let leads : n ≡ (edge (setting_in m) (data_in m h) from to).to = e ∙ sym (place_is there bs) in
      λ i. record { to = leads i; moves = moves i }

  pub edge_is : edge_of now.terms (params_in x) (edge_to x from to) ≡ renamed_edge slot_of (edge (setting_in m) (data_in m h) from to)
  edge_is = edge_at (position_or_len (nat_eq to) x.places) to_is

  known_by : (o : Option (List Phi)) (y : Option Block) → BothOrNone Both o y → All (IsKnownGiven now) (taken_from from (option_map_or (λ (xs : List Phi). xs) o []))
  known_by None y k = All-nil (IsKnownGiven now)
  known_by (Some xs) (Some y) k = taken_known m now from xs (filter is_phi y.instructions) k
  known_by (Some xs) None k = elim k [ ]

  -- and the constants that it hands over are there
  pub edge_known : IsKnownEdge now (edge_to x from to)
  edge_known =
      let n = position_or_len (nat_eq to) x.places in
      let bs = (data_in m h).blocks in
      known_by (slice_get x.phis n) (slice_get bs n) (matched_get Both x.phis bs n index.phis)

pub edges_are : (m : Module) (h : InChecked m) (now : Contents) (x : Index) → IsIndexOf m h now x → (from : ℕ) (ns : List ℕ) → map (edge_of now.terms (params_in x)) (map (edge_to x from) ns) ≡ map (renamed_edge slot_of) (map (edge (setting_in m) (data_in m h) from) ns)
edges_are m h now x index from [] = refl
edges_are m h now x index from (n ∷ ns) = let e = edge_is m h now x index from n in let rest = edges_are m h now x index from ns in cc

edges_known : (m : Module) (h : InChecked m) (now : Contents) (x : Index) → IsIndexOf m h now x → (from : ℕ) (ns : List ℕ) → All (IsKnownEdge now) (map (edge_to x from) ns)
edges_known m h now x index from [] = All-nil (IsKnownEdge now)
edges_known m h now x index from (n ∷ ns) = All-cons (IsKnownEdge now) (edge_to x from n) (map (edge_to x from) ns) (edge_known m h now x index from n) (edges_known m h now x index from ns)

-- ---- a block

module _ (m : Module) (h : InChecked m) (now : Contents) (x : Index) (index : IsIndexOf m h now x) where
  rows_are : (ps : List Placed) → rows_in m h ps ≡ map (renamed_row slot_of) (filter_map (λ (p : Placed). row (setting_in m) (data_in m h) p p.instruction) ps)
  rows_are [] = refl
  rows_are (p ∷ ps) = by (row (setting_in m) (data_in m h) p p.instruction) (rows_are ps)
    where
      by : (o : Option (M.Row Key)) → rows_in m h ps ≡ map (renamed_row slot_of) (filter_map (λ (p : Placed). row (setting_in m) (data_in m h) p p.instruction) ps)
          → cons_option (option_map (renamed_row slot_of) o) (rows_in m h ps) ≡ map (renamed_row slot_of) (cons_option o (filter_map (λ (p : Placed). row (setting_in m) (data_in m h) p p.instruction) ps))
      by None e = e
      by (Some r) e = ap (λ l. renamed_row slot_of r ∷ l) e

  pub block_is : (r : B.Block) (y : Block) (from : ℕ) → from ≡ y.number → map (row_of now) r.rows ≡ rows_in m h y.instructions → r.edges ≡ map (edge_to x from) (flat_map (λ (p : Placed). targets p.instruction) y.instructions)
      → block_of now (params_in x) r ≡ renamed_block slot_of (block (setting_in m) (data_in m h) y)
  block_is r y from number rows edges =
      let all_rows = rows ∙ rows_are y.instructions in
      let ns = flat_map (λ (p : Placed). targets p.instruction) y.instructions in
      let all_edges = ap (map (edge_of now.terms (params_in x))) edges ∙ edges_are m h now x index from ns ∙ ap (λ (n : ℕ). map (renamed_edge slot_of) (map (edge (setting_in m) (data_in m h) n) ns)) number in
      λ i. record { rows = all_rows i; edges = all_edges i }

  pub block_known : (es : List Edge) (from : ℕ) (ns : List ℕ) → es ≡ map (edge_to x from) ns → All (IsKnownEdge now) es
  block_known es from ns edges = subst (All (IsKnownEdge now)) (sym edges) (edges_known m h now x index from ns)

-- the number of a block is that of its data
pub block_number : (m : Module) (h : InChecked m) (b : LLVMBasicBlock) (y : Block) → IsBlockIn m h b y → b.0 ≡ y.number
block_number m h b y at = by (slice_get m.blocks b.0) at.here
  where
    by : (o : Option BlockData) → option_map (D.block_of (trees_of m) m.insts b) o ≡ Some y → b.0 ≡ y.number
    by None e = absurd (none-some y e)
    by (Some z) e = ap (λ (w : Block). w.number) (same_Some (D.block_of (trees_of m) m.insts b z) y e)
