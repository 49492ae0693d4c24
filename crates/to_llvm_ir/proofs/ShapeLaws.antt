-- The function that is made has the shape of the dialect's, with constants at any places.
use Rattle.std.proofs.Common.{◌≡◌, ◌+◌, ℕ, zero, suc, Bool, true, false, not, nat_eq, if◌then◌else◌, List, [], ◌∷◌, ◌++◌, Option, Some, None, All, length, map, take, slice_get, refl, sym, ap, subst, ◌∙◌, arith}
use Rattle.std.specs.List.{filter_map, cons_option, find}
use Rattle.std.specs.Option.{option_map, option_map_or}
use Rattle.std.proofs.lemmas.List.{append-nil}
use Rattle.std.proofs.lemmas.List.Elements.{All-head, All-tail, filter_map-append}
use Rattle.std.proofs.lemmas.Option.{slice_get-map, slice_get_within}
use Rattle.llvm_core.specs.Data.{Placed, Operand, Function, Block, operand_type}
use Rattle.dialect_types.specs.Trees.{TypeTree}
use Rattle.block_order.specs.Order.{IsOrder}
use Rattle.dialect_core.specs.declared.numbers.BlockRef.{BlockRef}
use Rattle.dialect_core.specs.declared.ops.Value.{Value}
use Rattle.dialect_core.specs.declared.ops.Value.TheVariants.{Argument}
use Rattle.dialect_core.specs.declared.ops.Successor.{Successor}
use Rattle.dialect_core.specs.Data.{DialectOp, DialectBlock, Func, Kind, ConstantOp, FilledOp, RowOp, value_type}
use Rattle.dialect_core.specs.Form.{IsFormFunc, IsHeldValue, FitsTarget, is_constant, is_constant_kind, others_of, edges_of}
use Rattle.meaning.specs.Terms.{rename_type}
use Rattle.meaning.specs.Machine.{Row, Action, At, Operand as MachineOperand, Block as MachineBlock}
use Rattle.meaning.specs.Pairs.{Matched, BothOrNone}
use Rattle.meaning.specs.Setting.{Setting}
use Rattle.meaning.specs.Examples.{same_places}
use Rattle.meaning.specs.Llvm as llvm
use Rattle.meaning.specs.Llvm.{Key, ResultKey}
use Rattle.meaning.specs.Dialect as dialect
use Rattle.meaning.specs.Dialect.{option_type, argument_moves}
use Rattle.meaning.specs.Shape as S
use Rattle.meaning.specs.Shape.{SameAction, SameRow, SameEdge, SameMove}
use Rattle.meaning.specs.Woven.{WovenBlock, WovenShape}
use Rattle.meaning.proofs.EntryLaws.{type_stays}
use Rattle.meaning.proofs.ConstantRows.{kept_rows, paired_rows}
use Rattle.to_llvm_ir.specs.Order.{turn_of}
use Rattle.to_llvm_ir.specs.Accepted.{IsAccepted}
use Rattle.to_llvm_ir.specs.Exported.{result}
use Rattle.to_llvm_ir.specs.Made.{Numbers, number_of, operand_for, instruction_for, inst, insts, phis, block_phis, block_made, function_made, entries, number_past, number_after}
use Rattle.to_llvm_ir.specs.Links.{HasTarget}
use Rattle.to_llvm_ir.specs.Functions.{HasRules}
use Rattle.to_llvm_ir.proofs.ListLaws.{all_at, find_numbered, position_numbered}
use Rattle.to_llvm_ir.proofs.TurnLaws.{argument_among, result_among, turn_at}
use Rattle.to_llvm_ir.proofs.LookupLaws.{op_form, place_is, block_found}
use Rattle.to_llvm_ir.proofs.PlacedLaws.{operand_typed}
use Rattle.to_llvm_ir.proofs.PlanLaws.{plan, is_plan, starts, unset, has_constant, value_at, stands}
use Rattle.to_llvm_ir.proofs.EdgeLaws.{made_at, made_none, made_numbered, target_for, block_leads, edge_form, edge_held, edge_target, first_entry}
use Rattle.to_llvm_ir.proofs.PhiLaws.{no_phi}

-- edges that are made one by one
edges_match : {A B X : Type 0} (P : A → B → Type 0) (f : ℕ → A) (t : X → ℕ) (h : X → B) (xs : List X) → ((i : ℕ) (x : X) → slice_get xs i ≡ Some x → P (f (t x)) (h x)) → Matched P (map f (map t xs)) (map h xs)
edges_match P f t h [] same = tt
edges_match P f t h (x ∷ xs) same = (same 0 x refl, edges_match P f t h xs (λ i y at. same (suc i) y at))

module _ (back setting : Setting) (g : Func) (form : IsFormFunc g) (ruled : HasRules g) (n : Numbers) (order : IsOrder (length g.blocks) n.order) where
  abbrev made : Function
  made = function_made g n (entries g n)

  abbrev plan_value : ℕ → Option Value
  plan_value m = (plan setting g form n order).value (ResultKey m)

  abbrev Alike : MachineOperand Key → MachineOperand Value → Type 0
  Alike = S.StandsFor same_places (plan setting g form n order)

  typed_alike : (v : Value) (t : TypeTree) → value_type g v ≡ Some t → rename_type same_places (operand_type made (operand_for g n v)) ≡ option_type (value_type g v)
  typed_alike v t e = type_stays (operand_type made (operand_for g n v)) ∙ operand_typed g form n order (entries g n) ruled v t e ∙ ap option_type (sym e)

  -- ---- rows

  types_alike : (vs : List Value) → All (IsHeldValue g) vs → map (rename_type same_places) (map (operand_type made) (map (operand_for g n) vs)) ≡ map (λ (v : Value). option_type (value_type g v)) vs
  types_alike [] h = refl
  types_alike (v ∷ vs) h =
      let one = All-head (IsHeldValue g) v vs h in
      let e = typed_alike v one.0 one.1.typed in
      let f = types_alike vs (All-tail (IsHeldValue g) v vs h) in
      cc

  values_stand : (vs : List Value) → All (IsHeldValue g) vs → Matched Alike (map (llvm.operand back) (map (operand_for g n) vs)) (map At vs)
  values_stand [] h = tt
  values_stand (v ∷ vs) h = let one = All-head (IsHeldValue g) v vs h in (stands setting g form n order ruled back v one.0 one.1.typed, values_stand vs (All-tail (IsHeldValue g) v vs h))

  -- the row of what an operation becomes, where the next value has the number k
  pub record IsPaired (k : ℕ) (o : DialectOp) : Type 0 where
    pub row : Row Key
    pub made_row : llvm.row back made (inst g n k o) (inst g n k o).instruction ≡ Some row
    pub same : SameRow same_places (plan setting g form n order) row (dialect.row setting g o)

  actions : (k : ℕ) (o : DialectOp) (kind : Kind) → is_constant_kind kind ≡ false → All (IsHeldValue g) o.operands
      → (a : Action Key) × (llvm.row back made (inst g n k o) (instruction_for g n kind o.result o.operands o.successors) ≡ Some (record { action = a; result = ResultKey (inst g n k o).number })) × SameAction same_places (plan setting g form n order) a (dialect.action setting g o kind)
  actions k o (ConstantOp value) other h = absurd (let e : true ≡ false = other in cc)
  actions k o (FilledOp fill) other h = absurd (let e : true ≡ false = other in cc)
  actions k o (RowOp op) other h = (_, refl, (refl, type_stays (option_type o.result), types_alike o.operands h, values_stand o.operands h))

  row_pair : (j i k : ℕ) (c : DialectBlock) (o : DialectOp) → slice_get g.blocks j ≡ Some c → slice_get c.ops i ≡ Some o → is_constant o ≡ false → IsPaired k o
  row_pair j i k c o at at' other =
      let r = result_among g form n.order order j i c o at at' other in
      let a = actions k o o.kind other (op_form g form j i c o at at').operands in
      record { row = record { action = a.0; result = ResultKey (inst g n k o).number }; made_row = a.1; same = record { action = a.2; result = value_at setting g form n order r.0 (result o) r.1 } }

  abbrev row_for : Placed → Option (Row Key)
  row_for p = llvm.row back made p p.instruction

  insts_rows : (k : ℕ) (os : List DialectOp) → ((i : ℕ) (o : DialectOp) → slice_get os i ≡ Some o → (k : ℕ) → is_constant o ≡ false → IsPaired k o)
      → Matched (SameRow same_places (plan setting g form n order)) (filter_map row_for (insts g n k os)) (map (dialect.row setting g) (others_of os))
  insts_rows k [] h = tt
  insts_rows k (o ∷ os) h = by (is_constant o) refl (insts_rows (number_after o.result k) os (λ i x at. h (suc i) x at))
    where
      by : (t : Bool) → is_constant o ≡ t → Matched (SameRow same_places (plan setting g form n order)) (filter_map row_for (insts g n (number_after o.result k) os)) (map (dialect.row setting g) (others_of os))
          → Matched (SameRow same_places (plan setting g form n order)) (filter_map row_for (if t then insts g n (number_after o.result k) os else inst g n k o ∷ insts g n (number_after o.result k) os)) (map (dialect.row setting g) (if not t then o ∷ others_of os else others_of os))
      by true e m = m
      by false e m =
          let p = h 0 o refl k e in
          subst (λ (x : Option (Row Key)). Matched (SameRow same_places (plan setting g form n order)) (cons_option x (filter_map row_for (insts g n (number_after o.result k) os))) (dialect.row setting g o ∷ map (dialect.row setting g) (others_of os))) (sym p.made_row) (p.same, m)

  phis_rows : (b i k : ℕ) (ts : List TypeTree) → filter_map row_for (phis g n (entries g n) b i k ts) ≡ []
  phis_rows b i k [] = refl
  phis_rows b i k (t ∷ ts) = phis_rows b (suc i) (k + 1) ts

  block_phis_rows : (p k : ℕ) (c : DialectBlock) → filter_map row_for (block_phis g n (entries g n) p k c) ≡ []
  block_phis_rows zero k c = refl
  block_phis_rows (suc p) k c = phis_rows c.number 0 k c.args

  block_rows : (p k j : ℕ) (c : DialectBlock) → slice_get g.blocks j ≡ Some c → Matched (SameRow same_places (plan setting g form n order)) (filter_map row_for (block_made g n (entries g n) p k c).instructions) (map (dialect.row setting g) (others_of c.ops))
  block_rows p k j c at =
      subst (λ (rs : List (Row Key)). Matched (SameRow same_places (plan setting g form n order)) rs (map (dialect.row setting g) (others_of c.ops)))
      (sym (filter_map-append row_for (block_phis g n (entries g n) p k c) (insts g n (k + length c.args) c.ops) ∙ ap (λ (rs : List (Row Key)). rs ++ filter_map row_for (insts g n (k + length c.args) c.ops)) (block_phis_rows p k c)))
      (insts_rows (k + length c.args) c.ops (λ i o at' l other. row_pair j i l c o at at' other))

  -- ---- edges

  no_move : (from : ℕ) (k : ℕ) (os : List DialectOp) → filter_map (llvm.phi_move back from) (insts g n k os) ≡ []
  no_move from k [] = refl
  no_move from k (o ∷ os) = by (is_constant o) refl (no_move from (number_after o.result k) os)
    where
      by : (t : Bool) → is_constant o ≡ t → filter_map (llvm.phi_move back from) (insts g n (number_after o.result k) os) ≡ [] → filter_map (llvm.phi_move back from) (if t then insts g n (number_after o.result k) os else inst g n k o ∷ insts g n (number_after o.result k) os) ≡ []
      by true c e = e
      by false c e =
          ap (λ (x : Option (List (Operand × ℕ))). cons_option (option_map (λ (es : List (Operand × ℕ)). (ResultKey (number_of g n (result o)), llvm.entry_for back from es)) x) (filter_map (llvm.phi_move back from) (insts g n (number_after o.result k) os))) (no_phi g n o.kind o.result o.operands o.successors c)
          ∙ e

  moves_match : (from b i k : ℕ) (ts : List TypeTree) (vs : List Value) → length vs ≡ length ts
      → ((j : ℕ) (t : TypeTree) → slice_get ts j ≡ Some t → plan_value (number_of g n (Argument (record { 0 = b }) (i + j))) ≡ Some (Argument (record { 0 = b }) (i + j)))
      → ((j : ℕ) (v : Value) → slice_get vs j ≡ Some v → BothOrNone Alike (llvm.entry_for back from (entries g n (Argument (record { 0 = b }) (i + j)))) (Some (At v)))
      → Matched (SameMove same_places (plan setting g form n order)) (filter_map (llvm.phi_move back from) (phis g n (entries g n) b i k ts)) (argument_moves (record { 0 = b }) i (length ts) vs)
  moves_match from b i k [] [] e h q = tt
  moves_match from b i k [] (v ∷ vs) e h q = absurd (omega (arith, e))
  moves_match from b i k (t ∷ ts) [] e h q = absurd (omega (arith, e))
  moves_match from b i k (t ∷ ts) (v ∷ vs) e h q =
      let z : i + 0 ≡ i = omega arith in (
        record {
          target = subst (λ (m : ℕ). plan_value (number_of g n (Argument (record { 0 = b }) m)) ≡ Some (Argument (record { 0 = b }) m)) z (h 0 t refl);
          source = subst (λ (m : ℕ). BothOrNone Alike (llvm.entry_for back from (entries g n (Argument (record { 0 = b }) m))) (Some (At v))) z (q 0 v refl);
        },
        moves_match from b (suc i) (k + 1) ts vs (omega (arith, e))
            (λ j u at. subst (λ (m : ℕ). plan_value (number_of g n (Argument (record { 0 = b }) m)) ≡ Some (Argument (record { 0 = b }) m)) (let x : i + suc j ≡ suc i + j = omega arith in x) (h (suc j) u at))
            (λ j u at. subst (λ (m : ℕ). BothOrNone Alike (llvm.entry_for back from (entries g n (Argument (record { 0 = b }) m))) (Some (At u))) (let x : i + suc j ≡ suc i + j = omega arith in x) (q (suc j) u at)),
      )

  module _ (accepted : IsAccepted n.order g) where
    -- what a phi takes on an edge stands for what the edge passes
    entry_alike : (j l i : ℕ) (c : DialectBlock) (s : Successor) (v : Value) (t : TypeTree) → slice_get g.blocks j ≡ Some c → slice_get (edges_of c) l ≡ Some s → slice_get s.args i ≡ Some v → value_type g v ≡ Some t
        → BothOrNone Alike (llvm.entry_for back (n.block + (0 + j)) (entries g n (Argument s.block i))) (Some (At v))
    entry_alike j l i c s v t at at' passes typed =
        let equal = (accepted.edges j c at).equal in
        let found = first_entry g n n.order (turn_of n.order j) j c (n.block + (0 + j)) i s.block v s.args l s (turn_at (length g.blocks) n.order order j (slice_get_within g.blocks j c at)) at (let e : n.block + (0 + j) ≡ n.block + j = omega arith in e) at' refl (λ k u there to. equal k l u s there at' (same_block u s to)) passes in
        subst (λ (o : Option (Operand × ℕ)). BothOrNone Alike (option_map (λ (e : Operand × ℕ). llvm.operand back e.0) o) (Some (At v))) (sym found) (stands setting g form n order ruled back v t typed)
      where
        same_block : (u s : Successor) → u.block.0 ≡ s.block.0 → u.block ≡ s.block
        same_block u s e = ap (λ (m : ℕ). let b : BlockRef = record { 0 = m } in b) e

    -- the block that an edge leads to
    target_place : (s : Successor) (h : HasTarget g s) → target_for g n s ≡ n.block + (0 + suc h.place)
    target_place s h = ap (λ (m : ℕ). n.block + m) (place_is g form (suc h.place) s.block.0 h.block h.here h.number) ∙ (let e : n.block + suc h.place ≡ n.block + (0 + suc h.place) = omega arith in e)

    passed_alike : (j l i : ℕ) (c : DialectBlock) (s : Successor) (v : Value) → slice_get g.blocks j ≡ Some c → slice_get (edges_of c) l ≡ Some s → slice_get s.args i ≡ Some v
        → BothOrNone Alike (llvm.entry_for back (n.block + (0 + j)) (entries g n (Argument s.block i))) (Some (At v))
    passed_alike j l i c s v at at' at'' =
        let typed = all_at (IsHeldValue g) s.args i v (edge_held g form j l c s at at') at'' in
        entry_alike j l i c s v typed.0 at at' at'' typed.1.typed

    target_moves : (j l : ℕ) (c : DialectBlock) (s : Successor) → slice_get g.blocks j ≡ Some c → slice_get (edges_of c) l ≡ Some s → (h : HasTarget g s)
        → Matched (SameMove same_places (plan setting g form n order)) (filter_map (llvm.phi_move back (n.block + (0 + j))) (block_made g n (entries g n) (0 + suc h.place) (number_past 0 (take (suc h.place) g.blocks)) h.block).instructions) (argument_moves (record { 0 = h.block.number }) 0 (length h.block.args) s.args)
    target_moves j l c s at at' h =
        let from = n.block + (0 + j) in
        let b = h.block in
        let k = number_past 0 (take (suc h.place) g.blocks) in
        let z : 0 + suc h.place ≡ suc h.place = omega arith in
        let same : (let r : BlockRef = record { 0 = b.number } in r) ≡ s.block = ap (λ (m : ℕ). let r : BlockRef = record { 0 = m } in r) h.number in
        let moves = moves_match from b.number 0 k b.args s.args h.count
        (λ i t at''. let r = argument_among g form n.order order h.place i b t h.here at'' in subst (λ (m : ℕ). plan_value (number_of g n (Argument (record { 0 = b.number }) m)) ≡ Some (Argument (record { 0 = b.number }) m)) (let e : i ≡ 0 + i = omega arith in e) (value_at setting g form n order r.0 (Argument (record { 0 = b.number }) i) r.1))
        (λ i v at''. subst (λ (m : ℕ). BothOrNone Alike (llvm.entry_for back from (entries g n (Argument (record { 0 = b.number }) m))) (Some (At v))) (let e : i ≡ 0 + i = omega arith in e)
        (subst (λ (r : BlockRef). BothOrNone Alike (llvm.entry_for back from (entries g n (Argument r i))) (Some (At v))) (sym same) (passed_alike j l i c s v at at' at''))) in
        subst (λ (p : ℕ). Matched (SameMove same_places (plan setting g form n order)) (filter_map (llvm.phi_move back from) (block_made g n (entries g n) p k b).instructions) (argument_moves (record { 0 = b.number }) 0 (length b.args) s.args)) (sym z)
        (subst (λ (ms : List (Key × Option (MachineOperand Key))). Matched (SameMove same_places (plan setting g form n order)) ms (argument_moves (record { 0 = b.number }) 0 (length b.args) s.args))
        (sym (filter_map-append (llvm.phi_move back from) (phis g n (entries g n) b.number 0 k b.args) (insts g n (k + length b.args) b.ops)
        ∙ ap (λ (ms : List (Key × Option (MachineOperand Key))). filter_map (llvm.phi_move back from) (phis g n (entries g n) b.number 0 k b.args) ++ ms) (no_move from (k + length b.args) b.ops)
        ∙ append-nil (filter_map (llvm.phi_move back from) (phis g n (entries g n) b.number 0 k b.args)))) moves)

    edge_pair : (j l : ℕ) (c : DialectBlock) (s : Successor) → slice_get g.blocks j ≡ Some c → slice_get (edges_of c) l ≡ Some s → SameEdge same_places (plan setting g form n order) (λ m. m) (llvm.edge back made (n.block + (0 + j)) (target_for g n s)) (dialect.edge g s)
    edge_pair j l c s at at' =
        let good = edge_form g form n j l c s at at' in
        let h = edge_target g s good (all_at (FitsTarget g) (edges_of c) l s (accepted.edges j c at).targets at') in
        let b = h.block in
        let k = number_past 0 (take (suc h.place) g.blocks) in
        let made_b = block_made g n (entries g n) (0 + suc h.place) k b in
        let there = made_at g n (entries g n) 0 0 g.blocks (suc h.place) b h.here in
        let numbers = made_numbered g n (entries g n) 0 0 g.blocks in
        let to = target_place s h in
        let place : llvm.place_of made.blocks (target_for g n s) ≡ dialect.place_of g.blocks s.block.0 =
        ap (λ (o : Option ℕ). option_map_or (λ i. i) o (length made.blocks)) (position_numbered (λ (x : Block). x.number) made.blocks (suc h.place) (target_for g n s) 0 made_b numbers there (sym to))
        ∙ (let e : 0 + suc h.place ≡ suc h.place = omega arith in e) ∙ sym (place_is g form (suc h.place) s.block.0 b h.here h.number) in
        let llvm_block : find (λ (x : Block). nat_eq x.number (target_for g n s)) made.blocks ≡ Some made_b = find_numbered (λ (x : Block). x.number) made.blocks (suc h.place) (target_for g n s) made_b numbers there (sym to) in
        let dialect_block = block_found g form (suc h.place) s.block.0 b h.here h.number in
        let same_block : s.block ≡ (let r : BlockRef = record { 0 = b.number } in r) = ap (λ (m : ℕ). let r : BlockRef = record { 0 = m } in r) (sym h.number) in
        record {
          to = place;
          moves = subst (λ (o : Option Block). Matched (SameMove same_places (plan setting g form n order)) (option_map_or (λ (x : Block). filter_map (llvm.phi_move back (n.block + (0 + j))) x.instructions) o []) (dialect.edge g s).moves) (sym llvm_block)
              (subst (λ (o : Option DialectBlock). Matched (SameMove same_places (plan setting g form n order)) (filter_map (llvm.phi_move back (n.block + (0 + j))) made_b.instructions) (option_map_or (λ (x : DialectBlock). argument_moves s.block 0 (length x.args) s.args) o [])) (sym dialect_block)
              (subst (λ (r : BlockRef). Matched (SameMove same_places (plan setting g form n order)) (filter_map (llvm.phi_move back (n.block + (0 + j))) made_b.instructions) (argument_moves r 0 (length b.args) s.args)) (sym same_block)
              (target_moves j l c s at at' h)));
        }

    -- ---- blocks

    block_pair : (j : ℕ) (c : DialectBlock) → slice_get g.blocks j ≡ Some c → WovenBlock same_places (plan setting g form n order) (λ m. m) (llvm.block back made (block_made g n (entries g n) (0 + j) (number_past 0 (take j g.blocks)) c)) (dialect.block setting g c)
    block_pair j c at =
        let k = number_past 0 (take j g.blocks) in
        record {
          constants = kept_rows setting g (plan setting g form n order) c.ops (λ i o at'. has_constant setting g form n order j i c o at at');
          pairs = subst (λ (rs : List (Row Value)). Matched (SameRow same_places (plan setting g form n order)) (filter_map row_for (block_made g n (entries g n) (0 + j) k c).instructions) rs) (sym (paired_rows setting g c.ops)) (block_rows (0 + j) k j c at);
          edges = subst (λ (ts : List ℕ). Matched (SameEdge same_places (plan setting g form n order) (λ m. m)) (map (llvm.edge back made (n.block + (0 + j))) ts) (map (dialect.edge g) (edges_of c))) (sym (block_leads g n form (entries g n) (0 + j) k j c at))
              (edges_match (SameEdge same_places (plan setting g form n order) (λ m. m)) (llvm.edge back made (n.block + (0 + j))) (target_for g n) (dialect.edge g) (edges_of c) (λ l s at'. edge_pair j l c s at at'));
        }

    pub blocks_pair : (j : ℕ) (o : Option DialectBlock) → slice_get g.blocks j ≡ o
        → BothOrNone (WovenBlock same_places (plan setting g form n order) (λ m. m)) (slice_get (map (llvm.block back made) made.blocks) j) (slice_get (map (dialect.block setting g) g.blocks) j)
    blocks_pair j None e =
        let x : slice_get (map (llvm.block back made) made.blocks) j ≡ None = slice_get-map (llvm.block back made) made.blocks j ∙ ap (option_map (llvm.block back made)) (made_none g n (entries g n) 0 0 g.blocks j e) in
        let y : slice_get (map (dialect.block setting g) g.blocks) j ≡ None = slice_get-map (dialect.block setting g) g.blocks j ∙ ap (option_map (dialect.block setting g)) e in
        rw (x, y) tt
    blocks_pair j (Some c) e =
        let x = slice_get-map (llvm.block back made) made.blocks j ∙ ap (option_map (llvm.block back made)) (made_at g n (entries g n) 0 0 g.blocks j c e) in
        let y = slice_get-map (dialect.block setting g) g.blocks j ∙ ap (option_map (dialect.block setting g)) e in
        subst (λ (o : Option (MachineBlock Key)). BothOrNone (WovenBlock same_places (plan setting g form n order) (λ m. m)) o (slice_get (map (dialect.block setting g) g.blocks) j)) (sym x)
        (subst (λ (o : Option (MachineBlock Value)). BothOrNone (WovenBlock same_places (plan setting g form n order) (λ m. m)) (Some (llvm.block back made (block_made g n (entries g n) (0 + j) (number_past 0 (take j g.blocks)) c))) o) (sym y) (block_pair j c e))

    -- its plan is that of `PlanLaws`
    abbrev pub shape : WovenShape same_places back made setting g
    shape = record {
      plan = plan setting g form n order;
      is_plan = is_plan setting g form n order;
      starts = starts setting g form n order (entries g n);
      unset = unset setting g form n order;
      same = record { first = refl; blocks = λ j. blocks_pair j (slice_get g.blocks j) refl };
    }
