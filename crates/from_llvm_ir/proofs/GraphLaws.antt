-- The graph of a function: where its blocks stand, and that each leads to blocks.
use Rattle.std.proofs.Common.{ℕ, zero, suc, ◌≡◌, ◌<◌, ◌≤◌, ◌+◌, ◌++◌, inl, inr, refl, sym, ap, subst, ◌∙◌, Bool, true, false, cond, if◌then◌else◌, not, nat_eq, List, [], ◌∷◌, Some, All, length, map, take, slice_get, get_or, arith, eq-eqb, eqb-true, ne_eqb}
use Rattle.std.specs.List.{flat_map, position_or_len}
use Rattle.std.specs.Option.{option_map}
use Rattle.std.proofs.lemmas.Bool.{cases_lt, both_ways}
use Rattle.std.proofs.lemmas.List.{append_assoc, length-map, map-append, map_push, take_all}
use Rattle.std.proofs.lemmas.Option.{same_Some, slice_get_within, slice_get-map}
use Rattle.support.proofs.ListLaws.{all_from, item_there, take_next}
use Rattle.llvm_core.specs.declared.numbers.LLVMFunction.{LLVMFunction}
use Rattle.llvm_core.specs.declared.numbers.LLVMBasicBlock.{LLVMBasicBlock}
use Rattle.llvm_core.specs.declared.numbers.LLVMInstRef.{LLVMInstRef}
use Rattle.llvm_core.specs.declared.code.LLVMInst.{LLVMInst}
use Rattle.llvm_core.specs.declared.code.BlockData.{BlockData}
use Rattle.llvm_core.specs.declared.code.FunctionData.{FunctionData}
use Rattle.llvm_core.specs.declared.code.InstData.{InstData}
use Rattle.llvm_core.specs.Module.{Module}
use Rattle.llvm_core.specs.Form as LF
use Rattle.llvm_core.specs.Data as L
use Rattle.llvm_core.specs.Data.{Placed, trees_of}
use Rattle.block_order.specs.Graph.{IsGraph}
use Rattle.from_llvm_ir.specs.Parts.{target_blocks}
use Rattle.from_llvm_ir.specs.Graph.{Places, ArePlacesOf, IsBlockIn, IsInstIn, noted_place}
use Rattle.from_llvm_ir.specs.Source.{IsSource}
use Rattle.from_llvm_ir.specs.Walks.{graph_of, place_of_block}
use Rattle.from_llvm_ir.proofs.PlaceLaws.{flat_from, flat_next, number_apart}
use Rattle.from_llvm_ir.proofs.SourceLaws.{block_listed_at, block_number, blocks_listed, insts_listed, instruction_is, listed_at}
use Rattle.from_llvm_ir.proofs.UsedLaws.{targets_same}
use Rattle.from_llvm_ir.proofs.PassLaws.{target_there}

-- ---- the place of a number among distinct ones

first_place : {X : Type 0} (number : X → ℕ) (n : ℕ) (xs : List X) (i : ℕ) (x : X) → slice_get xs i ≡ Some x → number x ≡ n → ((j : ℕ) (y : X) → slice_get xs j ≡ Some y → number y ≡ n → j ≡ i) → position_or_len (nat_eq n) (map number xs) ≡ i
first_place number n [] i x at is one = cc
first_place number n (y ∷ xs) zero x at is one =
    let same : n ≡ number y = sym is ∙ ap number (sym (same_Some y x at)) in
    ap (λ (b : Bool). cond (not b) (1 + position_or_len (nat_eq n) (map number xs)) 0) (eq-eqb n (number y) same)
first_place number n (y ∷ xs) (suc i) x at is one =
    let other : ¬ (n ≡ number y) = λ same. let no : 0 ≡ suc i = one 0 y refl (sym same) in absurd (omega (arith, no)) in
    ap (λ (b : Bool). cond (not b) (1 + position_or_len (nat_eq n) (map number xs)) 0) (ne_eqb n (number y) other)
    ∙ ap (λ (k : ℕ). 1 + k) (first_place number n xs i x at is (λ j z here same. let s = one (suc j) z here same in omega (arith, s)))
    ∙ (let e : 1 + i ≡ suc i = omega arith in e)

module _ (g : L.Function) (form : LF.IsFormFunction g) where
  pub block_place : (i : ℕ) (b : L.Block) → slice_get g.blocks i ≡ Some b → place_of_block g b.number ≡ i
  block_place i b at = first_place (λ (x : L.Block). x.number) b.number g.blocks i b at refl (λ j y here same. number_apart (λ (x : L.Block). x.number) g.blocks form.block_numbers j i y b here at same)

  target_within : (i : ℕ) (b : L.Block) (j t : ℕ) → slice_get g.blocks i ≡ Some b → slice_get (LF.targets_of b) j ≡ Some t → place_of_block g t < length g.blocks
  target_within i b j t at leads =
      let r = flat_from (λ (p : Placed). L.targets p.instruction) b.instructions j t leads in
      let to = target_there g form i r.place r.inner b r.item t at r.here r.at in
      let is = block_place (suc to.0) to.1 to.2 in
      let same : place_of_block g t ≡ suc to.0 = ap (place_of_block g) (sym to.3) ∙ is in
      let within = slice_get_within g.blocks (suc to.0) to.1 to.2 in
      omega (arith, same, within)

  pub length-graph : length (graph_of g) ≡ length g.blocks
  length-graph = length-map g.blocks (λ (b : L.Block). map (place_of_block g) (LF.targets_of b))

  row_within : (i : ℕ) (b : L.Block) → slice_get g.blocks i ≡ Some b → All (λ (t : ℕ). t < length (graph_of g)) (map (place_of_block g) (LF.targets_of b))
  row_within i b at = all_from (λ (t : ℕ). t < length (graph_of g)) (map (place_of_block g) (LF.targets_of b)) (λ j x here.
      let t = mapped (place_of_block g) (LF.targets_of b) j x here in
      let within = target_within i b j t.0 at t.1 in
      omega (arith, within, t.2, length-graph))
    where
      mapped : (h : ℕ → ℕ) (xs : List ℕ) (j y : ℕ) → slice_get (map h xs) j ≡ Some y → (x : ℕ) × (slice_get xs j ≡ Some x) × (h x ≡ y)
      mapped h [] j y here = cc
      mapped h (x ∷ xs) zero y here = (x, refl, same_Some (h x) y here)
      mapped h (x ∷ xs) (suc j) y here = mapped h xs j y here

  -- each block leads to blocks of the function
  pub is_graph : IsGraph (graph_of g)
  is_graph = all_from (All (λ (t : ℕ). t < length (graph_of g))) (graph_of g) (λ i row here.
      let b = mapped g.blocks i row here in
      subst (All (λ (t : ℕ). t < length (graph_of g))) b.2 (row_within i b.0 b.1))
    where
      mapped : (xs : List L.Block) (j : ℕ) (y : List ℕ) → slice_get (map (λ (b : L.Block). map (place_of_block g) (LF.targets_of b)) xs) j ≡ Some y → (x : L.Block) × (slice_get xs j ≡ Some x) × (map (place_of_block g) (LF.targets_of x) ≡ y)
      mapped [] j y here = cc
      mapped (x ∷ xs) zero y here = (x, refl, same_Some (map (place_of_block g) (LF.targets_of x)) y here)
      mapped (x ∷ xs) (suc j) y here = mapped xs j y here

-- ---- places that are noted

-- the first blocks of a list have their places
abbrev pub ArePlacesTo : List LLVMBasicBlock → ℕ → Places → Type 0
ArePlacesTo ns k places = (j : ℕ) (n : LLVMBasicBlock) → j < k → slice_get ns j ≡ Some n → noted_place places n ≡ Some j

-- one place more
pub places_more : (ns : List LLVMBasicBlock) (k place : ℕ) (n : LLVMBasicBlock) (old new : Places) → slice_get ns k ≡ Some n → ((i j : ℕ) (x y : LLVMBasicBlock) → slice_get ns i ≡ Some x → slice_get ns j ≡ Some y → x.0 ≡ y.0 → i ≡ j)
    → place ≡ k → ((q : LLVMBasicBlock) → noted_place new q ≡ (if nat_eq n.0 q.0 then Some place else noted_place old q)) → ArePlacesTo ns k old → ArePlacesTo ns (k + 1) new
places_more ns k place n old new at apart same is h j q lt here = is q ∙ by (nat_eq n.0 q.0) refl
  where
    by : (t : Bool) → nat_eq n.0 q.0 ≡ t → (if t then Some place else noted_place old q) ≡ Some j
    by true one = ap Some (same ∙ apart k j n q at here (eqb-true n.0 q.0 one))
    by false differs =
        let other : ¬ (j ≡ k) = λ e. let s : q ≡ n = same_Some q n (sym here ∙ ap (slice_get ns) e ∙ at) in both_ways (nat_eq n.0 q.0) differs (eq-eqb n.0 q.0 (ap (λ (x : LLVMBasicBlock). x.0) (sym s))) in
        h j q (elim (cases_lt j k) [ inl less ↦ less | inr le ↦ absurd (other (omega (arith, lt, le))) ]) here

-- blocks of a function have distinct numbers
pub blocks_apart : (m : Module) (f : LLVMFunction) (g : L.Function) (ns : List LLVMBasicBlock) → IsSource m f g → option_map (λ (x : FunctionData). x.blocks) (slice_get m.functions f.0) ≡ Some ns → (i j : ℕ) (x y : LLVMBasicBlock) → slice_get ns i ≡ Some x → slice_get ns j ≡ Some y → x.0 ≡ y.0 → i ≡ j
blocks_apart m f g ns h has i j x y at_i at_j same =
    let listed = blocks_listed m f g h ns has in
    let a = listed.each i x at_i in
    let b = listed.each j y at_j in
    number_apart (λ (z : L.Block). z.number) g.blocks h.form.block_numbers i j a.0 b.0 a.1.at b.1.at (block_number m g x i a.0 a.1 ∙ same ∙ sym (block_number m g y j b.0 b.1))

-- so all blocks of the function have theirs
pub places_all : (m : Module) (f : LLVMFunction) (g : L.Function) (ns : List LLVMBasicBlock) (k : ℕ) (places : Places) → IsSource m f g → option_map (λ (x : FunctionData). x.blocks) (slice_get m.functions f.0) ≡ Some ns → length ns ≤ k → ArePlacesTo ns k places → ArePlacesOf g places
places_all m f g ns k places h has le to place b at =
    let listed = blocks_listed m f g h ns has in
    let n = item_there ns place (let lt = slice_get_within g.blocks place b at in omega (arith, lt, listed.long)) in
    let x = listed.each place n.0 n.1 in
    let number : n.0.0 ≡ b.number = sym (block_number m g n.0 place x.0 x.1) ∙ ap (λ (y : L.Block). y.number) (same_Some x.0 b (sym x.1.at ∙ at)) in
    ap (λ (y : ℕ). noted_place places (record { 0 = y })) (sym number) ∙ to place n.0 (let lt = slice_get_within ns place n.0 n.1 in omega (arith, lt, le)) n.1

-- ---- rows of the graph

-- the place of a target
pub record TargetAt (m : Module) (g : L.Function) (p : Placed) (places : Places) (j : ℕ) (n : LLVMBasicBlock) : Type 0 where
  pub place : ℕ
  pub noted : noted_place places n ≡ Some place
  pub is : place_of_block g n.0 ≡ place
  pub here : slice_get (L.targets p.instruction) j ≡ Some n.0

module _ (m : Module) (f : LLVMFunction) (g : L.Function) (from : LLVMBasicBlock) (b : L.Block) (i : LLVMInstRef) (p : Placed) (h : IsInstIn m f g from b i p) (places : Places) (are : ArePlacesOf g places) (inst : LLVMInst) (has : option_map (λ (x : InstData). x.inst) (slice_get m.insts i.0) ≡ Some inst) where
  pub targets_read : map (λ (x : LLVMBasicBlock). x.0) (target_blocks inst) ≡ L.targets p.instruction
  targets_read = targets_same (trees_of m) inst ∙ sym (ap L.targets (instruction_is m b i h.at p inst h.inst has))

  pub target_at : (ns : List LLVMBasicBlock) (j : ℕ) (n : LLVMBasicBlock) → ns ≡ target_blocks inst → slice_get ns j ≡ Some n → TargetAt m g p places j n
  target_at ns j n items at =
      let read : slice_get (target_blocks inst) j ≡ Some n = ap (λ (ts : List LLVMBasicBlock). slice_get ts j) (sym items) ∙ at in
      let leads : slice_get (L.targets p.instruction) j ≡ Some n.0 = ap (λ (ts : List ℕ). slice_get ts j) (sym targets_read) ∙ slice_get-map (λ (x : LLVMBasicBlock). x.0) (target_blocks inst) j ∙ ap (option_map (λ (x : LLVMBasicBlock). x.0)) read in
      let to = target_there g h.source.form h.place h.at j b p n.0 h.of_block.at h.inst.at leads in
      record {
        place = suc to.0;
        noted = ap (λ (y : ℕ). noted_place places (record { 0 = y })) (sym to.3) ∙ are (suc to.0) to.1 to.2;
        is = ap (place_of_block g) (sym to.3) ∙ block_place g h.source.form (suc to.0) to.1 to.2;
        here = leads;
      }

  -- one target more
  pub row_more : (ns : List LLVMBasicBlock) (j : ℕ) (n : LLVMBasicBlock) (place : ℕ) (before old new : List ℕ) → ns ≡ target_blocks inst → slice_get ns j ≡ Some n → noted_place places n ≡ Some place
      → old ≡ before ++ map (place_of_block g) (take j (L.targets p.instruction)) → new ≡ old ++ place ∷ [] → new ≡ before ++ map (place_of_block g) (take (j + 1) (L.targets p.instruction))
  row_more ns j n place before old new items at noted so is =
      let t = target_at ns j n items at in
      let same : place_of_block g n.0 ≡ place = t.is ∙ same_Some t.place place (sym t.noted ∙ noted) in
      let longer : map (place_of_block g) (take (j + 1) (L.targets p.instruction)) ≡ map (place_of_block g) (take j (L.targets p.instruction)) ++ place ∷ [] =
      ap (map (place_of_block g)) (take_next (L.targets p.instruction) j n.0 t.here) ∙ map_push (place_of_block g) (take j (L.targets p.instruction)) n.0 ∙ ap (λ (x : ℕ). map (place_of_block g) (take j (L.targets p.instruction)) ++ x ∷ []) same in
      is ∙ ap (λ (xs : List ℕ). xs ++ place ∷ []) so ∙ append_assoc before (map (place_of_block g) (take j (L.targets p.instruction))) (place ∷ []) ∙ ap (λ (xs : List ℕ). before ++ xs) (sym longer)

  pub row_all : (ns : List LLVMBasicBlock) (j : ℕ) (before new : List ℕ) → ns ≡ target_blocks inst → length ns ≤ j → new ≡ before ++ map (place_of_block g) (take j (L.targets p.instruction)) → new ≡ before ++ map (place_of_block g) (L.targets p.instruction)
  row_all ns j before new items le is =
      let long : length ns ≡ length (L.targets p.instruction) = ap (λ (ts : List LLVMBasicBlock). length ts) items ∙ sym (length-map (target_blocks inst) (λ (x : LLVMBasicBlock). x.0)) ∙ ap (λ (ts : List ℕ). length ts) targets_read in
      is ∙ ap (λ (ts : List ℕ). before ++ map (place_of_block g) ts) (take_all j (L.targets p.instruction) (omega (arith, long, le)))

-- one instruction more
pub insts_more : (g : L.Function) (b : L.Block) (k : ℕ) (p : Placed) (old new : List ℕ) → slice_get b.instructions k ≡ Some p → old ≡ map (place_of_block g) (flat_map (λ (q : Placed). L.targets q.instruction) (take k b.instructions)) → new ≡ old ++ map (place_of_block g) (L.targets p.instruction)
    → new ≡ map (place_of_block g) (flat_map (λ (q : Placed). L.targets q.instruction) (take (k + 1) b.instructions))
insts_more g b k p old new at so is =
    is ∙ ap (λ (xs : List ℕ). xs ++ map (place_of_block g) (L.targets p.instruction)) so
    ∙ sym (map-append (place_of_block g) (flat_map (λ (q : Placed). L.targets q.instruction) (take k b.instructions)) (L.targets p.instruction))
    ∙ sym (ap (map (place_of_block g)) (flat_next (λ (q : Placed). L.targets q.instruction) b.instructions k p at))

-- the block of an index of the list of a function
pub block_in : (m : Module) (f : LLVMFunction) (g : L.Function) (ns : List LLVMBasicBlock) (k : ℕ) (d : LLVMBasicBlock) → IsSource m f g → option_map (λ (x : FunctionData). x.blocks) (slice_get m.functions f.0) ≡ Some ns → k < length ns → (b : L.Block) × IsBlockIn m f g (get_or ns k d) b × (slice_get g.blocks k ≡ Some b)
block_in m f g ns k d h has lt = let b = block_listed_at m f g h ns k d has lt in (b.0, record { source = h; place = k; of_block = b.1 }, b.1.at)

-- the instruction of an index of the list of a block
pub inst_in : (m : Module) (f : LLVMFunction) (g : L.Function) (n : LLVMBasicBlock) (b : L.Block) (is : List LLVMInstRef) (k : ℕ) (d : LLVMInstRef) → IsBlockIn m f g n b → option_map (λ (x : BlockData). x.insts) (slice_get m.blocks n.0) ≡ Some is → k < length is → (p : Placed) × IsInstIn m f g n b (get_or is k d) p × (slice_get b.instructions k ≡ Some p)
inst_in m f g n b is k d h has lt = let p = listed_at m g n h.place b is k d h.source.sound h.of_block has lt in (p.0, record { source = h.source; place = h.place; of_block = h.of_block; at = k; inst = p.1 }, p.1.at)

pub insts_all : (m : Module) (f : LLVMFunction) (g : L.Function) (n : LLVMBasicBlock) (b : L.Block) (is : List LLVMInstRef) (k : ℕ) (row : List ℕ) → IsBlockIn m f g n b → option_map (λ (x : BlockData). x.insts) (slice_get m.blocks n.0) ≡ Some is → length is ≤ k
    → row ≡ map (place_of_block g) (flat_map (λ (q : Placed). L.targets q.instruction) (take k b.instructions)) → row ≡ map (place_of_block g) (LF.targets_of b)
insts_all m f g n b is k row h has le so =
    let listed = insts_listed m g n h.place b is h.source.sound h.of_block has in
    so ∙ ap (λ (ps : List Placed). map (place_of_block g) (flat_map (λ (q : Placed). L.targets q.instruction) ps)) (take_all k b.instructions (omega (arith, le, listed.long)))

-- one row more
pub rows_more : (g : L.Function) (k : ℕ) (b : L.Block) (row : List ℕ) (old new : List (List ℕ)) → slice_get g.blocks k ≡ Some b → row ≡ map (place_of_block g) (LF.targets_of b) → old ≡ take k (graph_of g) → new ≡ old ++ row ∷ [] → new ≡ take (k + 1) (graph_of g)
rows_more g k b row old new at row_is so is =
    is ∙ ap (λ (rows : List (List ℕ)). rows ++ row ∷ []) so ∙ ap (λ (r : List ℕ). take k (graph_of g) ++ r ∷ []) row_is
    ∙ sym (take_next (graph_of g) k (map (place_of_block g) (LF.targets_of b)) (slice_get-map (λ (c : L.Block). map (place_of_block g) (LF.targets_of c)) g.blocks k ∙ ap (option_map (λ (c : L.Block). map (place_of_block g) (LF.targets_of c))) at))

pub rows_all : (m : Module) (f : LLVMFunction) (g : L.Function) (ns : List LLVMBasicBlock) (k : ℕ) (rows : List (List ℕ)) → IsSource m f g → option_map (λ (x : FunctionData). x.blocks) (slice_get m.functions f.0) ≡ Some ns → length ns ≤ k → rows ≡ take k (graph_of g) → rows ≡ graph_of g
rows_all m f g ns k rows h has le so = let listed = blocks_listed m f g h ns has in so ∙ take_all k (graph_of g) (omega (arith, le, listed.long, length-graph g h.form))
