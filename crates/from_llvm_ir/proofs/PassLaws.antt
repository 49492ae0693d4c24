-- What phis take on an edge: of each phi of the target its first entry for the block that the edge comes from.
use Rattle.std.proofs.Common.{ℕ, ◌≡◌, ◌<◌, refl, sym, ap, subst, ◌∙◌, Bool, true, false, cond, nat_eq, List, [], ◌∷◌, Option, Some, None, filter, map, length, slice_get, arith, eq-eqb, eqb-true}
use Rattle.std.specs.Prelude.{is_some}
use Rattle.std.specs.List.{find, flat_map, filter_map, cons_option}
use Rattle.std.specs.Option.{option_map, option_and_then}
use Rattle.std.proofs.lemmas.List.{append-nil}
use Rattle.std.proofs.lemmas.Option.{slice_get_within, same_Some, none-some, slice_get-map}
use Rattle.support.proofs.ListLaws.{item_there, filter_from, filter_at}
use Rattle.llvm_core.specs.Edges.{count_of}
use Rattle.kinds.specs.Held.{IsFirstClass}
use Rattle.llvm_core.specs.Form as LF
use Rattle.llvm_core.specs.Data as L
use Rattle.llvm_core.specs.Data.{Placed, phi_entries, targets}
use Rattle.llvm_core.proofs.DataLemmas.{within_at, length-filter_map_all, slice_get-filter_map_all}
use Rattle.from_llvm_ir.specs.Imported.{first_entry, passed, phis_of}
use Rattle.from_llvm_ir.specs.Source.{IsListed, IsUsable}
use Rattle.from_llvm_ir.proofs.PlaceLaws.{flat_at, flat_from, filter_one, number_apart}

-- what a phi takes for a block
abbrev pub takes : ℕ → Placed → Option L.Operand
takes p x = option_and_then (first_entry p) (phi_entries x.instruction)

-- ---- counts

pub count_there : (n : ℕ) (xs : List ℕ) (i : ℕ) → slice_get xs i ≡ Some n → 0 < count_of n xs
count_there n xs i at = let r = filter_at (nat_eq n) xs i n at (eq-eqb n n refl) in omega (arith, slice_get_within (filter (nat_eq n) xs) r.0 n r.1)

counted : (xs : List ℕ) → 0 < length xs → (x : ℕ) × (slice_get xs 0 ≡ Some x)
counted [] lt = absurd (omega arith)
counted (x ∷ xs) lt = (x, refl)

pub there_counted : (n : ℕ) (xs : List ℕ) → 0 < count_of n xs → (i : ℕ) × (slice_get xs i ≡ Some n)
there_counted n xs lt =
    let x = counted (filter (nat_eq n) xs) lt in
    let r = filter_from (nat_eq n) xs 0 x.0 x.1 in
    (r.0, r.1 ∙ ap Some (sym (eqb-true n x.0 r.2)))

-- the first entry for a block
pub record FirstEntry (p : ℕ) (entries : List (L.Operand × ℕ)) : Type 0 where
  pub operand : L.Operand
  pub is : first_entry p entries ≡ Some operand
  pub place : ℕ
  pub item : L.Operand × ℕ
  pub at : slice_get entries place ≡ Some item
  pub same : item.0 ≡ operand

first_from : (p : ℕ) (entries : List (L.Operand × ℕ)) (i : ℕ) (e : L.Operand × ℕ) → slice_get entries i ≡ Some e → e.1 ≡ p → FirstEntry p entries
first_from p [] i e at is = cc
first_from p (x ∷ entries) i e at is = by (nat_eq x.1 p) refl i at (λ j at_j. first_from p entries j e at_j is)
  where
    by : (t : Bool) → nat_eq x.1 p ≡ t → (i : ℕ) → slice_get (x ∷ entries) i ≡ Some e → ((j : ℕ) → slice_get entries j ≡ Some e → FirstEntry p entries) → FirstEntry p (x ∷ entries)
    by true passes i at rest = record { operand = x.0; is = ap (λ (t : Bool). option_map (λ (y : L.Operand × ℕ). y.0) (cond t (Some x) (find (λ (y : L.Operand × ℕ). nat_eq y.1 p) entries))) passes; place = 0; item = x; at = refl; same = refl }
    by false differs ℕ.zero at rest = let s = ap (λ (y : L.Operand × ℕ). y.1) (same_Some x e at) in let no = sym differs ∙ eq-eqb x.1 p (s ∙ is) in absurd (let f : ⊥ = cc in f)
    by false differs (ℕ.suc i) at rest =
        let r = rest i at in
        record { operand = r.operand; is = ap (λ (t : Bool). option_map (λ (y : L.Operand × ℕ). y.0) (cond t (Some x) (find (λ (y : L.Operand × ℕ). nat_eq y.1 p) entries))) differs ∙ r.is; place = ℕ.suc r.place; item = r.item; at = r.at; same = r.same }

pub first_counted : (p : ℕ) (entries : List (L.Operand × ℕ)) → 0 < count_of p (map (λ (e : L.Operand × ℕ). e.1) entries) → FirstEntry p entries
first_counted p entries lt =
    let c = there_counted p (map (λ (e : L.Operand × ℕ). e.1) entries) lt in
    by (slice_get entries c.0) c.0 refl (sym (slice_get-map (λ (e : L.Operand × ℕ). e.1) entries c.0) ∙ c.1)
  where
    by : (v : Option (L.Operand × ℕ)) (i : ℕ) → slice_get entries i ≡ v → option_map (λ (e : L.Operand × ℕ). e.1) v ≡ Some p → FirstEntry p entries
    by None i at h = absurd (none-some p h)
    by (Some e) i at h = first_from p entries i e at (same_Some e.1 p h)

-- ---- phis and what is no phi

pub phi_is : (x : Placed) → LF.is_phi x ≡ true → (es : List (L.Operand × ℕ)) × (phi_entries x.instruction ≡ Some es)
phi_is x h = by (phi_entries x.instruction) refl h
  where
    by : (v : Option (List (L.Operand × ℕ))) → phi_entries x.instruction ≡ v → is_some v ≡ true → (es : List (L.Operand × ℕ)) × (phi_entries x.instruction ≡ Some es)
    by None e h = absurd (let no : ⊥ = cc in no)
    by (Some es) e h = (es, e)

pub no_phi_is : (x : Placed) → LF.is_phi x ≡ false → phi_entries x.instruction ≡ None
no_phi_is x h = by (phi_entries x.instruction) h
  where
    by : (v : Option (List (L.Operand × ℕ))) → is_some v ≡ false → v ≡ None
    by None h = refl
    by (Some es) h = cc

-- a phi's instruction
pub phi_instruction : (i : L.Instruction) (es : List (L.Operand × ℕ)) → phi_entries i ≡ Some es → i ≡ L.Phi es
phi_instruction (L.Phi xs) es h = ap L.Phi (same_Some xs es h)
phi_instruction (L.Applied r) es h = cc

-- what is no phi takes nothing
takes_phis : (p : ℕ) (ps : List Placed) → filter_map (takes p) ps ≡ filter_map (takes p) (filter LF.is_phi ps)
takes_phis p [] = refl
takes_phis p (x ∷ ps) = by (phi_entries x.instruction) refl (takes_phis p ps)
  where
    by : (v : Option (List (L.Operand × ℕ))) → phi_entries x.instruction ≡ v → filter_map (takes p) ps ≡ filter_map (takes p) (filter LF.is_phi ps) → cons_option (option_and_then (first_entry p) v) (filter_map (takes p) ps) ≡ filter_map (takes p) (cond (is_some v) (x ∷ filter LF.is_phi ps) (filter LF.is_phi ps))
    by None is e = e
    by (Some es) is e = cc (e, ap (option_and_then (first_entry p)) is)

module _ (g : L.Function) (form : LF.IsFormFunction g) where
  pub block_form : (i : ℕ) (b : L.Block) → slice_get g.blocks i ≡ Some b → LF.IsFormBlock g b
  block_form i b at = within_at g.blocks (LF.IsFormBlock g) form.blocks i b at

  pub inst_form : (i x : ℕ) (b : L.Block) (p : Placed) → slice_get g.blocks i ≡ Some b → slice_get b.instructions x ≡ Some p → LF.IsFormPlaced g b.number p
  inst_form i x b p at here = within_at b.instructions (LF.IsFormPlaced g b.number) (block_form i b at).instructions x p here

  one_block : (i j : ℕ) (x y : L.Block) → slice_get g.blocks i ≡ Some x → slice_get g.blocks j ≡ Some y → x.number ≡ y.number → i ≡ j
  one_block i j x y at_x at_y same = number_apart (λ (b : L.Block). b.number) g.blocks form.block_numbers i j x y at_x at_y same

  alone : (i : ℕ) (b : L.Block) (m : ℕ) → slice_get g.blocks i ≡ Some b → b.number ≡ m → filter (λ (x : L.Block). nat_eq x.number m) g.blocks ≡ b ∷ []
  alone i b m at is = filter_one (λ (x : L.Block). x.number) g.blocks i b m is at (λ j y here same. one_block j i y b here at (same ∙ sym is))

  -- what is passed to a block
  pub passed_is : (p i : ℕ) (b : L.Block) (m : ℕ) → slice_get g.blocks i ≡ Some b → b.number ≡ m → passed g p m ≡ filter_map (takes p) b.instructions
  passed_is p i b m at is = ap (flat_map (λ (x : L.Block). filter_map (takes p) x.instructions)) (alone i b m at is) ∙ append-nil (filter_map (takes p) b.instructions)

  -- an instruction's targets are edges
  pub edge_there : (i x j : ℕ) (b : L.Block) (p : Placed) (t : ℕ) → slice_get g.blocks i ≡ Some b → slice_get b.instructions x ≡ Some p → slice_get (targets p.instruction) j ≡ Some t → 0 < LF.edges_between g b.number t
  edge_there i x j b p t at here leads =
      let r = flat_at (λ (q : Placed). targets q.instruction) b.instructions x p j t here leads in
      subst (λ (ts : List ℕ). 0 < count_of t ts) (sym (ap (flat_map LF.targets_of) (alone i b b.number at refl) ∙ append-nil (LF.targets_of b))) (count_there t (LF.targets_of b) r.0 r.1)

  -- and where there is an edge, there is an instruction with that target
  pub record EdgeFrom (p t : ℕ) : Type 0 where
    pub place : ℕ
    pub block : L.Block
    pub at : slice_get g.blocks place ≡ Some block
    pub number : block.number ≡ p
    pub inner : ℕ
    pub inst : Placed
    pub here : slice_get block.instructions inner ≡ Some inst
    pub which : ℕ
    pub leads : slice_get (targets inst.instruction) which ≡ Some t

  pub there_edge : (p t : ℕ) → 0 < LF.edges_between g p t → EdgeFrom p t
  there_edge p t lt =
      let c = there_counted t (flat_map LF.targets_of (filter (λ (x : L.Block). nat_eq x.number p) g.blocks)) lt in
      let f = flat_from LF.targets_of (filter (λ (x : L.Block). nat_eq x.number p) g.blocks) c.0 t c.1 in
      let b = filter_from (λ (x : L.Block). nat_eq x.number p) g.blocks f.place f.item f.here in
      let r = flat_from (λ (q : Placed). targets q.instruction) f.item.instructions f.inner t f.at in
      record { place = b.0; block = f.item; at = b.1; number = eqb-true f.item.number p b.2; inner = r.place; inst = r.item; here = r.here; which = r.inner; leads = r.at }

  -- a target is a block behind the first
  target_form : (m : ℕ) (type : L.TypeTree) (i : L.Instruction) (j t : ℕ) → LF.IsFormInstruction g m type i → slice_get (targets i) j ≡ Some t → LF.IsTarget g t
  target_form m type (L.Phi es) j t h at = cc
  target_form m type (L.Applied r) j t h at = within_at r.targets (LF.IsTarget g) h.targets j t at

  pub target_there : (i x j : ℕ) (b : L.Block) (p : Placed) (t : ℕ) → slice_get g.blocks i ≡ Some b → slice_get b.instructions x ≡ Some p → slice_get (targets p.instruction) j ≡ Some t → LF.IsTarget g t
  target_there i x j b p t at here leads = target_form b.number p.type p.instruction j t (inst_form i x b p at here).instruction leads

  -- each operand of what is no phi has a type
  pub row_usable : (type : L.TypeTree) (r : L.RowData) → LF.IsFormRow g type r → (j : ℕ) (o : L.Operand) → slice_get r.operands j ≡ Some o → IsUsable g o
  row_usable type r h j o at =
      let first_class = within_at (LF.types_of g r.operands) IsFirstClass h.first_class j (L.operand_type g o) (slice_get-map (L.operand_type g) r.operands j ∙ ap (option_map (L.operand_type g)) at) in
      (L.operand_type g o, record { stands = within_at r.operands (LF.IsOperandOf g) h.operands j o at; typed = refl; first_class = first_class })

  pub operands_usable : (m : ℕ) (p : Placed) → LF.IsFormPlaced g m p → LF.is_phi p ≡ false → (j : ℕ) (o : L.Operand) → slice_get (LF.operands_of p.instruction) j ≡ Some o → IsUsable g o
  operands_usable m p h other j o at = by p.instruction h.instruction (no_phi_is p other) at
    where
      by : (i : L.Instruction) → LF.IsFormInstruction g m p.type i → phi_entries i ≡ None → slice_get (LF.operands_of i) j ≡ Some o → IsUsable g o
      by (L.Phi es) f e at = absurd (let no : ⊥ = cc in no)
      by (L.Applied r) f e at = row_usable p.type r f j o at

  -- ---- what a phi takes on an edge

  -- the form of a phi
  pub phi_form : (i x : ℕ) (b : L.Block) (p : Placed) (es : List (L.Operand × ℕ)) → slice_get g.blocks i ≡ Some b → slice_get b.instructions x ≡ Some p → phi_entries p.instruction ≡ Some es → LF.IsFormInstruction g b.number p.type (L.Phi es)
  phi_form i x b p es at here is = subst (LF.IsFormInstruction g b.number p.type) (phi_instruction p.instruction es is) (inst_form i x b p at here).instruction

  -- a phi takes an operand of its type on an edge
  pub record TakenFor (m : ℕ) (p : Placed) : Type 0 where
    pub operand : L.Operand
    pub is : takes m p ≡ Some operand
    pub usable : LF.IsOperand g p.type operand
    pub listed : IsListed g operand

  pub taken_for : (m i x : ℕ) (b : L.Block) (p : Placed) → slice_get g.blocks i ≡ Some b → slice_get b.instructions x ≡ Some p → LF.is_phi p ≡ true → 0 < LF.edges_between g m b.number → TakenFor m p
  taken_for m i x b p at here phi edge =
      let es = phi_is p phi in
      let form = phi_form i x b p es.0 at here es.1 in
      let first = first_counted m es.0 (subst (λ (c : ℕ). 0 < c) (sym (form.1.counts m)) edge) in
      let k = flat_at (λ (c : L.Block). c.instructions) g.blocks i b x p at here in
      record {
        operand = first.operand;
        is = ap (option_and_then (first_entry m)) es.1 ∙ first.is;
        usable = subst (LF.IsOperand g p.type) first.same (within_at es.0 (λ (e : L.Operand × ℕ). LF.IsOperand g p.type e.0) form.0 first.place first.item first.at);
        listed = record {
          index = k.0;
          user = p;
          there = k.1;
          place = first.place;
          here = ap (λ (a : L.Instruction). slice_get (LF.operands_of a) first.place) (phi_instruction p.instruction es.0 es.1) ∙ slice_get-map (λ (e : L.Operand × ℕ). e.0) es.0 first.place ∙ ap (option_map (λ (e : L.Operand × ℕ). e.0)) first.at ∙ ap Some first.same;
        };
      }

  module _ (m i : ℕ) (b : L.Block) (at : slice_get g.blocks i ≡ Some b) (edge : 0 < LF.edges_between g m b.number) where
    each_taken : (y : ℕ) (p : Placed) → slice_get (phis_of b) y ≡ Some p → TakenFor m p
    each_taken y p here = let r = filter_from LF.is_phi b.instructions y p here in taken_for m i r.0 b p at r.1 r.2 edge

    all_taken : (y : ℕ) (p : Placed) → slice_get (phis_of b) y ≡ Some p → (o : L.Operand) × (takes m p ≡ Some o)
    all_taken y p here = let r = each_taken y p here in (r.operand, r.is)

    as_phis : passed g m b.number ≡ filter_map (takes m) (phis_of b)
    as_phis = passed_is m i b b.number at refl ∙ takes_phis m b.instructions

    pub passed_length : length (passed g m b.number) ≡ length (phis_of b)
    passed_length = ap (λ (os : List L.Operand). length os) as_phis ∙ length-filter_map_all (takes m) (phis_of b) all_taken

    -- the operand at a place is what the phi there takes
    pub record PassedAt (y : ℕ) (o : L.Operand) : Type 0 where
      pub phi : Placed
      pub here : slice_get (phis_of b) y ≡ Some phi
      pub is : takes m phi ≡ Some o
      pub usable : LF.IsOperand g phi.type o

    pub passed_at : (y : ℕ) (p : Placed) (o : L.Operand) → slice_get (phis_of b) y ≡ Some p → takes m p ≡ Some o → slice_get (passed g m b.number) y ≡ Some o
    passed_at y p o here is = ap (λ (os : List L.Operand). slice_get os y) as_phis ∙ slice_get-filter_map_all (takes m) (phis_of b) all_taken y p o here is

    pub at_passed : (y : ℕ) (o : L.Operand) → slice_get (passed g m b.number) y ≡ Some o → PassedAt y o
    at_passed y o h =
        let p = item_there (phis_of b) y (omega (arith, slice_get_within (passed g m b.number) y o h, passed_length)) in
        let t = each_taken y p.0 p.1 in
        let same : t.operand ≡ o = same_Some t.operand o (sym (passed_at y p.0 t.operand p.1 t.is) ∙ h) in
        record { phi = p.0; here = p.1; is = t.is ∙ ap Some same; usable = subst (LF.IsOperand g p.0.type) same t.usable }
