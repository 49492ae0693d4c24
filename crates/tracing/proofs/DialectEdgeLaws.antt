-- The edges of a function of the dialect, by the places of its blocks.
use Rattle.std.proofs.Common.{◌≡◌, ◌+◌, ℕ, zero, suc, Bool, List, [], ◌∷◌, Option, Some, None, map, slice_get, nat_eq, length, All, refl, sym, ap, subst, ◌∙◌, arith}
use Rattle.std.specs.List.{find, flat_map, position_or_len}
use Rattle.std.specs.Option.{option_map, option_map_or}
use Rattle.std.proofs.lemmas.List.Folds.{find_at}
use Rattle.std.proofs.lemmas.List.Elements.{All-nil, All-cons}
use Rattle.std.proofs.lemmas.Option.{slice_get-map}
use Rattle.dialect_core.specs.declared.numbers.BlockRef.{BlockRef}
use Rattle.dialect_core.specs.declared.ops.Value.{Value}
use Rattle.dialect_core.specs.declared.ops.Successor.{Successor}
use Rattle.dialect_core.specs.ContextData.{ContextData}
use Rattle.dialect_core.specs.Data.{DialectBlock, DialectOp, Func, type_in}
use Rattle.meaning.specs.Terms.{Term}
use Rattle.meaning.specs.Machine as M
use Rattle.meaning.specs.Setting.{Setting}
use Rattle.meaning.specs.Dialect.{argument_moves, typed_row, edge, typed_block}
use Rattle.tracing.specs.declared.body.Slot.{Slot}
use Rattle.tracing.specs.declared.body.Slot.TheVariants.{Input}
use Rattle.tracing.specs.declared.body.Source.{Source}
use Rattle.tracing.specs.declared.body.Edge.{Edge}
use Rattle.tracing.specs.declared.body.Block as B
use Rattle.tracing.specs.Bodies.{given, moves_from, params_at, row_of, edge_of, block_of, IsKnownGiven, IsKnownEdge}
use Rattle.tracing.specs.Contents.{Contents}
use Rattle.tracing.specs.Renamed.{renamed_row, renamed_move, renamed_edge, renamed_block}
use Rattle.tracing.specs.DialectBodies.{slot_of, InContext, rows_of}
use Rattle.tracing.specs.DialectEdges.{inputs_from, inputs_of, params_of, numbers_of, handed, edge_to}
use Rattle.tracing.proofs.ListLaws.{mapped_twice}
use Rattle.tracing.proofs.PlaceLaws.{place_by_number}
use Rattle.tracing.proofs.EdgeLaws.{place_is}
use Rattle.tracing.proofs.DialectLaws.{found}

-- ---- what an edge hands over, argument by argument

abbrev Move : Type 0
Move = Slot × Option (M.Operand Slot)

nothing : (us : List Term) (k : ℕ) → given us [] k ≡ None
nothing us k = refl

-- the arguments from a place on, where what stands from that place on is what is handed over for values
pub moves_by : (us : List Term) (b : BlockRef) (n i : ℕ) (vs : List Value) (sources : List (Option Source)) → ((k : ℕ) → given us sources (i + k) ≡ given us (map handed vs) k) → moves_from us i (inputs_from b.0 i n) sources ≡ map (renamed_move slot_of) (argument_moves b i n vs)
moves_by us b zero i vs sources h = refl
moves_by us b (suc n) i [] sources h =
    let first : i + 0 ≡ i = omega arith in
    let here : given us sources i ≡ None = subst (λ (j : ℕ). given us sources j ≡ None) first (h 0 ∙ nothing us 0) in
    let rest = moves_by us b n (suc i) [] sources (λ k. let next : i + suc k ≡ suc i + k = omega arith in subst (λ (j : ℕ). given us sources j ≡ given us [] k) next (h (suc k) ∙ nothing us (suc k) ∙ sym (nothing us k))) in
    ap (λ (o : Option (M.Operand Slot)). let m : Move = (Input b.0 i, o) in m ∷ moves_from us (suc i) (inputs_from b.0 (suc i) n) sources) here
    ∙ ap (λ (l : List Move). let m : Move = (Input b.0 i, None) in m ∷ l) rest
moves_by us b (suc n) i (v ∷ vs) sources h =
    let first : i + 0 ≡ i = omega arith in
    let o : Option (M.Operand Slot) = Some (M.At (slot_of v)) in
    let here : given us sources i ≡ o = subst (λ (j : ℕ). given us sources j ≡ o) first (h 0) in
    let rest = moves_by us b n (suc i) vs sources (λ k. let next : i + suc k ≡ suc i + k = omega arith in subst (λ (j : ℕ). given us sources j ≡ given us (map handed vs) k) next (h (suc k))) in
    ap (λ (p : Option (M.Operand Slot)). let m : Move = (Input b.0 i, p) in m ∷ moves_from us (suc i) (inputs_from b.0 (suc i) n) sources) here
    ∙ ap (λ (l : List Move). let m : Move = (Input b.0 i, o) in m ∷ l) rest

-- ---- an edge

-- the block that is found by its number has it
found_number : (ys : List DialectBlock) (n : ℕ) (y : DialectBlock) → find (λ (z : DialectBlock). nat_eq z.number n) ys ≡ Some y → y.number ≡ n
found_number ys n y e = (found (λ (z : DialectBlock). Unit {0}) (λ (z : DialectBlock). z.number) ys n y e (λ k d lt. tt)).is

module _ (us : List Term) (g : Func) (s : Successor) where
  abbrev there : DialectBlock → Bool
  there y = nat_eq y.number s.block.0

  abbrev place : ℕ
  place = position_or_len there g.blocks

  moves_to : (o : Option DialectBlock) → find there g.blocks ≡ o
      → moves_from us 0 (option_map_or (λ (ps : List Slot). ps) (option_map inputs_of o) []) (map handed s.args) ≡ map (renamed_move slot_of) (option_map_or (λ (y : DialectBlock). argument_moves s.block 0 (length y.args) s.args) o [])
  moves_to None e = refl
  moves_to (Some y) e =
      ap (λ (n : ℕ). moves_from us 0 (inputs_from n 0 (length y.args)) (map handed s.args)) (found_number g.blocks s.block.0 y e)
      ∙ moves_by us s.block (length y.args) 0 s.args (map handed s.args) (λ k. let e : 0 + k ≡ k = omega arith in ap (given us (map handed s.args)) e)

  edge_at : (n : ℕ) → n ≡ place → edge_of us (params_of g) (record { to = n; sources = map handed s.args }) ≡ renamed_edge slot_of (edge g s)
  edge_at n e =
      let bs = g.blocks in
      let moves : moves_from us 0 (params_at (params_of g) n) (map handed s.args) ≡ map (renamed_move slot_of) (edge g s).moves =
      ap (λ (o : Option (List Slot)). moves_from us 0 (option_map_or (λ (ps : List Slot). ps) o []) (map handed s.args)) (slice_get-map inputs_of bs n)
      ∙ ap (λ (o : Option DialectBlock). moves_from us 0 (option_map_or (λ (ps : List Slot). ps) (option_map inputs_of o) []) (map handed s.args)) (ap (slice_get bs) e ∙ sym (find_at there bs))
      ∙ moves_to (find there bs) refl in
      let leads : n ≡ (edge g s).to = e ∙ sym (place_is there bs) in
      λ i. record { to = leads i; moves = moves i }

  edge_is : (numbers : List ℕ) → numbers ≡ numbers_of g → edge_of us (params_of g) (edge_to numbers s) ≡ renamed_edge slot_of (edge g s)
  edge_is numbers are = edge_at (position_or_len (nat_eq s.block.0) numbers) (ap (position_or_len (nat_eq s.block.0)) are ∙ place_by_number (λ (y : DialectBlock). y.number) s.block.0 g.blocks)

edges_are : (us : List Term) (g : Func) (numbers : List ℕ) → numbers ≡ numbers_of g → (ss : List Successor) → map (edge_of us (params_of g)) (map (edge_to numbers) ss) ≡ map (renamed_edge slot_of) (map (edge g) ss)
edges_are us g numbers are [] = refl
edges_are us g numbers are (s ∷ ss) = let e = edge_is us g s numbers are in let rest = edges_are us g numbers are ss in cc

-- what an edge hands over is no constant
handed_known : (now : Contents) (vs : List Value) → All (IsKnownGiven now) (map handed vs)
handed_known now [] = All-nil (IsKnownGiven now)
handed_known now (v ∷ vs) = All-cons (IsKnownGiven now) (handed v) (map handed vs) tt (handed_known now vs)

pub edges_known : (now : Contents) (numbers : List ℕ) (ss : List Successor) (es : List Edge) → es ≡ map (edge_to numbers) ss → All (IsKnownEdge now) es
edges_known now numbers ss es are = subst (All (IsKnownEdge now)) (sym are) (each ss)
  where
    each : (ss : List Successor) → All (IsKnownEdge now) (map (edge_to numbers) ss)
    each [] = All-nil (IsKnownEdge now)
    each (s ∷ ss) = All-cons (IsKnownEdge now) (edge_to numbers s) (map (edge_to numbers) ss) (handed_known now s.args) (each ss)

-- ---- a block

pub block_is : (now : Contents) (setting : Setting) (c : ContextData) (h : InContext c) (r : B.Block) (y : DialectBlock) (numbers : List ℕ) → numbers ≡ numbers_of h.function → map (row_of now) r.rows ≡ rows_of setting c y.ops
    → r.edges ≡ map (edge_to numbers) (flat_map (λ (o : DialectOp). o.successors) y.ops) → block_of now (params_of h.function) r ≡ renamed_block slot_of (typed_block setting (type_in c) h.function y)
block_is now setting c h r y numbers are rows edges =
    let g = h.function in
    let ss = flat_map (λ (o : DialectOp). o.successors) y.ops in
    let all_rows = rows ∙ sym (mapped_twice (renamed_row slot_of) (typed_row setting (type_in c)) y.ops) in
    let all_edges = ap (map (edge_of now.terms (params_of g))) edges ∙ edges_are now.terms g numbers are ss in
    λ i. record { rows = all_rows i; edges = all_edges i }
