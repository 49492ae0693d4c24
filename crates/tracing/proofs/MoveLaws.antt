-- The moves of an edge, and a jump, by what stands where.
use Rattle.std.proofs.Common.{◌≡◌, ◌<◌, ◌≤◌, ◌+◌, ℕ, zero, suc, Bool, true, false, List, [], ◌∷◌, ◌++◌, Option, Some, None, length, map, slice_get, get_or, refl, sym, ap, subst, ◌∙◌, arith}
use Rattle.std.specs.Prelude.{take, drop, nat_eq, nat_lt, ◌&&◌, if◌then◌else◌, ◌⊎◌}
use Rattle.std.proofs.Common.{inl, inr, eq-eqb}
use Rattle.std.proofs.lemmas.Bool.{eqb-true, eqb-false, lt-ltb, le-ltb, ne_eqb, cases_order}
use Rattle.std.proofs.Math.Seq.{drop-cons}
use Rattle.std.specs.Option.{option_map}
use Rattle.std.proofs.lemmas.List.{map-append, take_more, take_all, length-take-le, drop_all}
use Rattle.std.proofs.lemmas.Option.{slice_get-map, slice_get-get_or}
use Rattle.meaning.specs.Terms.{Term, Unset, Param}
use Rattle.meaning.specs.Machine as M
use Rattle.meaning.specs.Machine.{State, Operand}
use Rattle.tracing.specs.declared.table.TermNode.{TermNode}
use Rattle.tracing.specs.declared.body.Slot.{Slot}
use Rattle.tracing.specs.declared.body.Slot.TheVariants.{Input, Result}
use Rattle.tracing.specs.declared.body.Source.{Source}
use Rattle.tracing.specs.declared.body.Edge.{Edge}
use Rattle.tracing.specs.declared.body.Block.{Block}
use Rattle.tracing.specs.declared.run.Run.{Run}
use Rattle.llvm_core.specs.Data.{TypeTree}
use Rattle.indexmap.specs.IndexMap.{IsEmpty}
use Rattle.tracing.specs.Bodies.{same_slot, given, moves_from, params_at, edge_of, block_of, code_of, row_of, start_of}
use Rattle.tracing.specs.Contents.{Contents, over}
use Rattle.tracing.specs.Table.{AreTyped}
use Rattle.tracing.specs.Runs.{Names, AllNamed, Keeps, IsAt, IsJumped, set_each, with_each}
use Rattle.tracing.proofs.RunLaws.{named_push, at_alike}

-- ---- what an edge hands over

abbrev Move : Type 0
Move = Slot × Option (Operand Slot)

module _ (us : List Term) where
  moves_push : (n : ℕ) (ps : List Slot) (p : Slot) (os : List (Option Source)) → moves_from us n (ps ++ p ∷ []) os ≡ moves_from us n ps os ++ (p, given us os (n + length ps)) ∷ []
  moves_push n [] p os = let e : n + 0 ≡ n = omega arith in ap (λ (k : ℕ). let m : List Move = (p, given us os k) ∷ [] in m) (sym e)
  moves_push n (q ∷ ps) p os =
      let e : suc n + length ps ≡ n + suc (length ps) = omega arith in
      ap (λ (ms : List Move). (q, given us os n) ∷ ms) (moves_push (suc n) ps p os ∙ ap (λ (k : ℕ). moves_from us (suc n) ps os ++ (p, given us os k) ∷ []) e)

  pub moves_step : (ps : List Slot) (os : List (Option Source)) (i : ℕ) (d : Slot) → i < length ps → moves_from us 0 (take (i + 1) ps) os ≡ moves_from us 0 (take i ps) os ++ (get_or ps i d, given us os i) ∷ []
  moves_step ps os i d lt =
      let e : 0 + length (take i ps) ≡ i = omega (arith, length-take-le i ps (omega arith)) in
      ap (λ qs. moves_from us 0 qs os) (take_more ps i d lt) ∙ moves_push 0 (take i ps) (get_or ps i d) os ∙ ap (λ (k : ℕ). moves_from us 0 (take i ps) os ++ (get_or ps i d, given us os k) ∷ []) e

abbrev pub taken : (Slot → Term) → List Move → List Term
taken env ms = map (λ (m : Move). M.read_move env m.1) ms

-- one phi or argument more is read
pub moves_read : (now : Contents) (old new : List TermNode) (env : Slot → Term) (ps : List Slot) (os : List (Option Source)) (i : ℕ) (d : Slot) (ks : List ℕ) (k : ℕ) → i < length ps → Keeps now.types old new → AllNamed now.types old ks (taken env (moves_from now.terms 0 (take i ps) os)) → Names now.types new k (M.read_move env (given now.terms os i))
    → AllNamed now.types new (ks ++ k ∷ []) (taken env (moves_from now.terms 0 (take (i + 1) ps) os))
moves_read now old new env ps os i d ks k lt keeps h named =
    let e = ap (taken env) (moves_step now.terms ps os i d lt) ∙ map-append (λ (m : Move). M.read_move env m.1) (moves_from now.terms 0 (take i ps) os) ((get_or ps i d, given now.terms os i) ∷ []) in
    subst (AllNamed now.types new (ks ++ k ∷ [])) (sym e) (named_push now.types old new ks (taken env (moves_from now.terms 0 (take i ps) os)) k (M.read_move env (given now.terms os i)) keeps h named)

-- ---- values are set

pub set_push : (env : Slot → Term) (vs : List Slot) (ts : List Term) (v : Slot) (t : Term) → length vs ≡ length ts → set_each env (vs ++ v ∷ []) (ts ++ t ∷ []) ≡ M.set Slot same_slot (set_each env vs ts) v t
set_push env [] [] v t e = refl
set_push env (w ∷ vs) (u ∷ ts) v t e = set_push (M.set Slot same_slot env w u) vs ts v t (omega arith)
set_push env [] (u ∷ ts) v t e = absurd (omega arith)
set_push env (w ∷ vs) [] v t e = absurd (omega arith)

pub set_step : (env : Slot → Term) (vs : List Slot) (ts : List Term) (i : ℕ) (d : Slot) (u : Term) → i < length vs → i < length ts → set_each env (take (i + 1) vs) (take (i + 1) ts) ≡ M.set Slot same_slot (set_each env (take i vs) (take i ts)) (get_or vs i d) (get_or ts i u)
set_step env vs ts i d u lt lt' =
    let e : length (take i vs) ≡ length (take i ts) = omega (arith, length-take-le i vs (omega arith), length-take-le i ts (omega arith)) in
    ap (λ ws. set_each env ws (take (i + 1) ts)) (take_more vs i d lt) ∙ ap (set_each env (take i vs ++ get_or vs i d ∷ [])) (take_more ts i u lt') ∙ set_push env (take i vs) (take i ts) (get_or vs i d) (get_or ts i u) e

pub named_at : (trees : List TypeTree) (ns : List TermNode) (ks : List ℕ) (ts : List Term) (i d : ℕ) (u : Term) → i < length ks → AllNamed trees ns ks ts → Names trees ns (get_or ks i d) (get_or ts i u)
named_at trees ns [] [] i d u lt h = absurd (omega arith)
named_at trees ns (k ∷ ks) (t ∷ ts) zero d u lt h = h.0
named_at trees ns (k ∷ ks) (t ∷ ts) (suc i) d u lt h = named_at trees ns ks ts i d u (omega arith) h.1
named_at trees ns [] (t ∷ ts) i d u lt h = elim h [ ]
named_at trees ns (k ∷ ks) [] i d u lt h = elim h [ ]

pub named_length : (trees : List TypeTree) (ns : List TermNode) (ks : List ℕ) (ts : List Term) → AllNamed trees ns ks ts → length ks ≡ length ts
named_length trees ns [] [] h = refl
named_length trees ns (k ∷ ks) (t ∷ ts) h = ap suc (named_length trees ns ks ts h.1)
named_length trees ns [] (t ∷ ts) h = elim h [ ]
named_length trees ns (k ∷ ks) [] h = elim h [ ]

pub with_all : (now : Contents) (r : Run) (s : State Slot) (vs : List Slot) (ts : List Term) (i : ℕ) → length vs ≤ i → length ts ≤ i → IsAt now r (with_each s (take i vs) (take i ts)) → IsAt now r (with_each s vs ts)
with_all now r s vs ts i le le' h =
    at_alike now r (with_each s (take i vs) (take i ts)) (with_each s vs ts) refl (λ w. ap (λ us. set_each s.env us ts w) (sym (take_all i vs le)) ∙ ap (λ us. set_each s.env (take i vs) us w) (sym (take_all i ts le'))) refl refl h

-- all moves of an edge are read in the environment before it
moved_each : (before env : Slot → Term) (ms : List Move) → M.moved Slot same_slot before env ms ≡ set_each env (map (λ (m : Move). m.0) ms) (taken before ms)
moved_each before env [] = refl
moved_each before env (m ∷ ms) = moved_each before (M.set Slot same_slot env m.0 (M.read_move before m.1)) ms

moves_params : (us : List Term) (n : ℕ) (ps : List Slot) (os : List (Option Source)) → map (λ (m : Move). m.0) (moves_from us n ps os) ≡ ps
moves_params us n [] os = refl
moves_params us n (p ∷ ps) os = ap (λ (qs : List Slot). p ∷ qs) (moves_params us (suc n) ps os)

pub moved_at : (now : Contents) (r : Run) (s : State Slot) (ps : List Slot) (os : List (Option Source)) → IsAt now r (with_each s ps (taken s.env (moves_from now.terms 0 ps os))) → IsAt now r (M.move Slot same_slot s (moves_from now.terms 0 ps os))
moved_at now r s ps os h =
    let e = moved_each s.env s.env (moves_from now.terms 0 ps os) ∙ ap (λ qs. set_each s.env qs (taken s.env (moves_from now.terms 0 ps os))) (moves_params now.terms 0 ps os) in
    at_alike now r (with_each s ps (taken s.env (moves_from now.terms 0 ps os))) (M.move Slot same_slot s (moves_from now.terms 0 ps os)) refl (λ v. ap (λ (f : Slot → Term). f v) e) refl refl h

-- ---- jumps

block_there : (now : Contents) (params : List (List Slot)) (bs : List Block) (i : ℕ) → slice_get (code_of now params bs) i ≡ option_map (block_of now params) (slice_get bs i)
block_there now params bs i = slice_get-map (block_of now params) bs i

module _ (now : Contents) (params : List (List Slot)) (bs : List Block) (s : State Slot) (choice : ℕ) where
  abbrev pub jumped : Option (State Slot)
  jumped = M.jump Slot same_slot (code_of now params bs) s choice

  pub no_block : slice_get bs s.block ≡ None → jumped ≡ None
  no_block h = ap (λ (b : Option (M.Block Slot)). M.take_edge Slot same_slot (code_of now params bs) s (M.edge_of Slot same_slot b choice)) (block_there now params bs s.block ∙ ap (option_map (block_of now params)) h)

  taken_edge : (b : Block) (e : Option Edge) → slice_get bs s.block ≡ Some b → slice_get b.edges choice ≡ e → jumped ≡ M.take_edge Slot same_slot (code_of now params bs) s (option_map (edge_of now.terms params) e)
  taken_edge b e h k =
      ap (λ (b : Option (M.Block Slot)). M.take_edge Slot same_slot (code_of now params bs) s (M.edge_of Slot same_slot b choice)) (block_there now params bs s.block ∙ ap (option_map (block_of now params)) h)
      ∙ ap (M.take_edge Slot same_slot (code_of now params bs) s) (slice_get-map (edge_of now.terms params) b.edges choice ∙ ap (option_map (edge_of now.terms params)) k)

  pub no_edge : (b : Block) → slice_get bs s.block ≡ Some b → slice_get b.edges choice ≡ None → jumped ≡ None
  no_edge b h k = taken_edge b None h k

  pub no_target : (b : Block) (e : Edge) → slice_get bs s.block ≡ Some b → slice_get b.edges choice ≡ Some e → slice_get bs e.to ≡ None → jumped ≡ None
  no_target b e h k l = taken_edge b (Some e) h k ∙ ap (M.follow Slot same_slot s (edge_of now.terms params e)) (block_there now params bs e.to ∙ ap (option_map (block_of now params)) l)

  pub goes : (b : Block) (e : Edge) (t : Block) → slice_get bs s.block ≡ Some b → slice_get b.edges choice ≡ Some e → slice_get bs e.to ≡ Some t
      → jumped ≡ Some (M.arrive Slot same_slot (M.move Slot same_slot s (moves_from now.terms 0 (params_at params e.to) e.sources)) e.to (map (row_of now) t.rows))
  goes b e t h k l =
      taken_edge b (Some e) h k ∙ ap (M.follow Slot same_slot s (edge_of now.terms params e)) (block_there now params bs e.to ∙ ap (option_map (block_of now params)) l)

pub found : {A : Type 0} (xs : List A) (i : ℕ) (x : A) → i < length xs → x ≡ get_or xs i x → slice_get xs i ≡ Some x
found xs i x lt e = slice_get-get_or xs i x lt ∙ ap Some (sym e)

pub stays : (now : Contents) (r : Run) (s : State Slot) (o : Option (State Slot)) → o ≡ None → IsAt now r s → IsJumped now r false s o
stays now r s o none h = subst (IsJumped now r false s) (sym none) h

pub leads : (now : Contents) (r : Run) (s s' : State Slot) (o : Option (State Slot)) → o ≡ Some s' → IsAt now r s' → IsJumped now r true s o
leads now r s s' o some h = subst (IsJumped now r true s) (sym some) h

-- ---- choices

pub stopped : (now : Contents) (r : Run) (s : State Slot) (o : Option (State Slot)) → IsJumped now r false s o → (o ≡ None) × IsAt now r s
stopped now r s None h = (refl, h)
stopped now r s (Some s') h = absurd h

pub went : (now : Contents) (r : Run) (s : State Slot) (o : Option (State Slot)) → IsJumped now r true s o → (s' : State Slot) × (o ≡ Some s') × IsAt now r s'
went now r s None h = absurd h
went now r s (Some s') h = (s', refl, h)

module _ (code : List (M.Block Slot)) (cs : List ℕ) (i d : ℕ) (lt : i < length cs) (s : State Slot) where
  one_choice : M.run Slot same_slot code (drop i cs) s ≡ M.go_on Slot same_slot s (M.run Slot same_slot code (drop (suc i) cs)) (M.jump Slot same_slot code s (get_or cs i d))
  one_choice = ap (λ xs. M.run Slot same_slot code xs s) (drop-cons cs i d lt)

  pub run_stops : M.jump Slot same_slot code s (get_or cs i d) ≡ None → M.run Slot same_slot code (drop i cs) s ≡ s
  run_stops h = one_choice ∙ ap (M.go_on Slot same_slot s (M.run Slot same_slot code (drop (suc i) cs))) h

  pub run_goes : (s' : State Slot) → M.jump Slot same_slot code s (get_or cs i d) ≡ Some s' → M.run Slot same_slot code (drop (i + 1) cs) s' ≡ M.run Slot same_slot code (drop i cs) s
  run_goes s' h =
      let n : i + 1 ≡ suc i = omega arith in
      ap (λ (k : ℕ). M.run Slot same_slot code (drop k cs) s') n ∙ sym (one_choice ∙ ap (M.go_on Slot same_slot s (M.run Slot same_slot code (drop (suc i) cs))) h)

pub run_ends : (code : List (M.Block Slot)) (cs : List ℕ) (i : ℕ) (s : State Slot) → length cs ≤ i → M.run Slot same_slot code (drop i cs) s ≡ s
run_ends code cs i s le = ap (λ xs. M.run Slot same_slot code xs s) (drop_all i cs le)

-- ---- the start

-- one parameter more is set
start_more : (h p g i : ℕ) (same here : Bool) → nat_eq g h ≡ same → nat_eq p i ≡ here → (if same && nat_lt i (p + 1) then Param i else Unset) ≡ (if nat_eq h g && here then Param p else (if same && nat_lt i p then Param i else Unset))
start_more h p g i true true s e =
    let is : p ≡ i = eqb-true p i e in
    rw (eq-eqb h g (sym (eqb-true g h s)), lt-ltb i (p + 1) (omega arith)) (ap Param (sym is))
start_more h p g i true false s e =
    let apart = eqb-false p i e in
    rw (eq-eqb h g (sym (eqb-true g h s))) (by (cases_order i p))
  where
    by : (i ≡ p) ⊎ ((i < p) ⊎ (p < i)) → (if nat_lt i (p + 1) then Param i else Unset) ≡ (if nat_lt i p then Param i else Unset)
    by (inl same) = absurd (eqb-false p i e (sym same))
    by (inr (inl below)) = rw (lt-ltb i (p + 1) (omega arith), lt-ltb i p below) refl
    by (inr (inr above)) = rw (le-ltb i (p + 1) (omega arith), le-ltb i p (omega arith)) refl
start_more h p g i false here s e = rw (ne_eqb h g (λ same. eqb-false g h s (sym same))) refl

pub start_step : (h p : ℕ) (v : Slot) → start_of h (p + 1) v ≡ M.set Slot same_slot (start_of h p) (Input h p) (Param p) v
start_step h p (Input g i) = start_more h p g i (nat_eq g h) (nat_eq p i) refl refl
start_step h p (Result n) = refl

-- no parameter is set where there is none
start_none : (h : ℕ) (v : Slot) → start_of h 0 v ≡ Unset
start_none h (Input g i) = rw (le-ltb i 0 (omega arith)) (by (nat_eq g h))
  where
    by : (b : Bool) → (if b && false then Param i else Unset) ≡ Unset
    by true = refl
    by false = refl
start_none h (Result n) = refl

-- a run that has the terms of constants, and no value yet
pub begun : (trees : List TypeTree) (nodes : List TermNode) (r : Run) (h : ℕ) → r.table ≡ nodes → r.block ≡ 0 → r.count ≡ 0 → IsEmpty r.env → r.items.items ≡ [] → AreTyped (length trees) nodes → IsAt (over trees nodes) r (M.begin Slot same_slot (start_of h 0))
begun trees nodes r h table block count none items typed = record {
  block = block;
  count = count;
  typed = rw table typed;
  constants = rw table (λ k t at. at);
  env = λ v. rw none (start_none h v);
  shown = rw items tt;
}

pub first_none : (now : Contents) (start : Slot → Term) (params : List (List Slot)) (bs : List Block) → slice_get bs 0 ≡ None → M.first Slot same_slot start (code_of now params bs) ≡ M.begin Slot same_slot start
first_none now start params bs h = ap (M.enter_first Slot same_slot start) (block_there now params bs 0 ∙ ap (option_map (block_of now params)) h)

pub first_is : (now : Contents) (start : Slot → Term) (params : List (List Slot)) (bs : List Block) (b : Block) → slice_get bs 0 ≡ Some b → M.first Slot same_slot start (code_of now params bs) ≡ M.arrive Slot same_slot (M.begin Slot same_slot start) 0 (map (row_of now) b.rows)
first_is now start params bs b h = ap (M.enter_first Slot same_slot start) (block_there now params bs 0 ∙ ap (option_map (block_of now params)) h)
