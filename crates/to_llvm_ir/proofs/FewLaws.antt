-- The lists of the function that is made are short.
use Rattle.std.proofs.Common.{◌≡◌, ◌<◌, ◌≤◌, ◌^◌, ◌+◌, ◌*◌, ℕ, zero, suc, Bool, true, false, nat_eq, if◌then◌else◌, List, [], ◌∷◌, ◌++◌, Option, Some, None, All, length, take, slice_get, refl, ap, ◌∙◌, arith, length-append}
use Rattle.std.specs.List.{flat_map}
use Rattle.std.specs.Option.{option_map_or}
use Rattle.std.proofs.lemmas.List.{length-map, append-nil}
use Rattle.std.proofs.lemmas.List.Concat.{flat_map-append}
use Rattle.std.proofs.lemmas.List.Elements.{All-nil, All-cons, All-append}
use Rattle.support.proofs.ListLaws.{slice_get-kept, slice_get-push, all_from}
use Rattle.llvm_core.specs.Data.{Operand, Placed, Block}
use Rattle.llvm_core.specs.Form.{IsFewIn, operands_of}
use Rattle.dialect_types.specs.Trees.{TypeTree}
use Rattle.block_order.specs.Order.{IsOrder}
use Rattle.dialect_core.specs.declared.numbers.BlockRef.{BlockRef}
use Rattle.dialect_core.specs.declared.ops.Value.{Value}
use Rattle.dialect_core.specs.declared.ops.Value.TheVariants.{Result, Argument}
use Rattle.dialect_core.specs.declared.ops.Successor.{Successor}
use Rattle.dialect_core.specs.Data.{DialectOp, DialectBlock, Func, Kind, ConstantOp, FilledOp, RowOp, value_type}
use Rattle.kinds.specs.Table.{rule_of}
use Rattle.dialect_core.specs.Rules.{IsOfKind, returns_void}
use Rattle.dialect_core.specs.Form.{IsFormFunc, is_constant, edges_of}
use Rattle.to_llvm_ir.specs.Made.{Numbers, operand_for, instruction_for, inst, insts, phis, block_phis, block_made, blocks_made, function_made, passed_to, passed, entry_with, block_passes, entries_from, entries, number_past, number_after, number_behind}
use Rattle.to_llvm_ir.specs.Accepted.{IsAccepted}
use Rattle.to_llvm_ir.proofs.LookupLaws.{block_form, op_form, entry_at}
use Rattle.to_llvm_ir.proofs.PlacedLaws.{params_count}
use Rattle.to_llvm_ir.proofs.EdgeLaws.{made_from, blocks_count}
use Rattle.to_llvm_ir.proofs.SuccessorLaws.{all_edges, few, silent_ops}
use Rattle.kinds.proofs.TableLaws.{takes_few}

-- ---- edges

-- the edges of a block are those of its last operation
pub edges_are : (g : Func) (form : IsFormFunc g) (j : ℕ) (c : DialectBlock) → (at : slice_get g.blocks j ≡ Some c) → edges_of c ≡ (block_form g form j c at).ends.last.successors
edges_are g form j c at =
    let e = (block_form g form j c at).ends in
    ap all_edges e.are ∙ flat_map-append (λ (o : DialectOp). o.successors) e.front (e.last ∷ [])
    ∙ ap (λ (ss : List Successor). ss ++ flat_map (λ (o : DialectOp). o.successors) (e.last ∷ []))
    (silent_ops g e.front e.before (λ i o at'. (op_form g form j i c o at (ap (λ (os : List DialectOp). slice_get os i) e.are ∙ slice_get-kept e.front (e.last ∷ []) i o at')).kind))
    ∙ append-nil e.last.successors

few_edges : (g : Func) (form : IsFormFunc g) (j : ℕ) (c : DialectBlock) → slice_get g.blocks j ≡ Some c → length (edges_of c) ≤ 2
few_edges g form j c at =
    let e = (block_form g form j c at).ends in
    let l = few g e.last.operands e.last.result e.last.successors e.last.kind (op_form g form j (length e.front) c e.last at (ap (λ (os : List DialectOp). slice_get os (length e.front)) e.are ∙ slice_get-push e.front e.last (length e.front) refl)).kind in
    let same = ap (λ (ss : List Successor). length ss) (edges_are g form j c at) in
    omega (arith, l, same)

module _ (g : Func) (n : Numbers) where
  one_entry : (p : ℕ) (o : Option Value) → length (entry_with g n p o) ≤ 1
  one_entry p None = omega arith
  one_entry p (Some v) = omega arith

  one_passed : (b : BlockRef) (vs : List Value) (p : ℕ) (v : Value) → length (passed_to g n b vs p v) ≤ 1
  one_passed b vs p (Result r) = omega arith
  one_passed b vs p (Argument c i) = by (nat_eq c.0 b.0) (one_entry p (slice_get vs i))
    where
      by : (t : Bool) → length (entry_with g n p (slice_get vs i)) ≤ 1 → length (if t then entry_with g n p (slice_get vs i) else []) ≤ 1
      by true h = h
      by false h = omega arith

  few_passed : (p : ℕ) (ss : List Successor) (v : Value) → length (passed g n p ss v) ≤ length ss
  few_passed p [] v = omega arith
  few_passed p (s ∷ ss) v =
      let e = length-append (passed_to g n s.block s.args p v) (passed g n p ss v) in
      let one = one_passed s.block s.args p v in
      let rest = few_passed p ss v in
      omega (arith, e, one, rest)

  few_entries : (ps : List ℕ) (v : Value) → ((j : ℕ) (c : DialectBlock) → slice_get g.blocks j ≡ Some c → length (edges_of c) ≤ 2) → length (entries_from g n ps v) ≤ 2 * length ps
  few_entries [] v h = omega arith
  few_entries (p ∷ ps) v h =
      let e = length-append (block_passes g n v p) (entries_from g n ps v) in
      let one = by (slice_get g.blocks p) refl in
      let rest = few_entries ps v h in
      omega (arith, e, one, rest)
    where
      by : (o : Option DialectBlock) → slice_get g.blocks p ≡ o → length (option_map_or (λ (c : DialectBlock). passed g n (n.block + p) (edges_of c) v) o []) ≤ 2
      by None e = omega arith
      by (Some c) e = let one = few_passed (n.block + p) (edges_of c) v in let two = h p c e in omega (arith, one, two)

  -- ---- instructions

  phis_count : (given : Value → List (Operand × ℕ)) (b i k : ℕ) (ts : List TypeTree) → length (phis g n given b i k ts) ≡ length ts
  phis_count given b i k [] = refl
  phis_count given b i k (t ∷ ts) = ap suc (phis_count given b (suc i) (k + 1) ts)

  block_phis_count : (given : Value → List (Operand × ℕ)) (p k : ℕ) (c : DialectBlock) → length (block_phis g n given p k c) ≤ length c.args
  block_phis_count given zero k c = omega arith
  block_phis_count given (suc p) k c = let e = phis_count given c.number 0 k c.args in omega (arith, e)

  insts_count : (k : ℕ) (os : List DialectOp) → length (insts g n k os) ≤ length os
  insts_count k [] = omega arith
  insts_count k (o ∷ os) = by (is_constant o) (insts_count (number_after o.result k) os)
    where
      by : (t : Bool) → length (insts g n (number_after o.result k) os) ≤ length os → length (if t then insts g n (number_after o.result k) os else inst g n k o ∷ insts g n (number_after o.result k) os) ≤ suc (length os)
      by true h = omega (arith, h)
      by false h = omega (arith, h)

  -- ---- operands

  few_operands : (k : Kind) (vs : List Value) (own : Option TypeTree) (ss : List Successor) → IsOfKind (value_type g) g vs own ss k → length (operands_of (instruction_for g n k own vs ss)) < 2 ^ 31
  few_operands (ConstantOp value) vs own ss h = omega arith
  few_operands (FilledOp fill) vs own ss h = omega arith
  few_operands (RowOp op) vs own ss h = let e = length-map vs (operand_for g n) in let c = h.count in let f = takes_few (rule_of op).takes (returns_void g) in omega (arith, e, c, f)

  abbrev IsFewOf : Placed → Type 0
  IsFewOf p = length (operands_of p.instruction) < 2 ^ 31

  insts_few : (k : ℕ) (os : List DialectOp) → ((i : ℕ) (o : DialectOp) → slice_get os i ≡ Some o → IsOfKind (value_type g) g o.operands o.result o.successors o.kind) → All IsFewOf (insts g n k os)
  insts_few k [] h = All-nil IsFewOf
  insts_few k (o ∷ os) h = by (is_constant o) (insts_few (number_after o.result k) os (λ i x at. h (suc i) x at))
    where
      by : (t : Bool) → All IsFewOf (insts g n (number_after o.result k) os) → All IsFewOf (if t then insts g n (number_after o.result k) os else inst g n k o ∷ insts g n (number_after o.result k) os)
      by true r = r
      by false r = All-cons IsFewOf (inst g n k o) (insts g n (number_after o.result k) os) (few_operands o.kind o.operands o.result o.successors (h 0 o refl)) r

  phis_few : (given : Value → List (Operand × ℕ)) → ((v : Value) → length (given v) < 2 ^ 31) → (b i k : ℕ) (ts : List TypeTree) → All IsFewOf (phis g n given b i k ts)
  phis_few given h b i k [] = All-nil IsFewOf
  phis_few given h b i k (t ∷ ts) =
      let v = Argument (record { 0 = b }) i in
      let few = h v in
      let e = length-map (given v) (λ (e : Operand × ℕ). e.0) in
      All-cons IsFewOf _ (phis g n given b (suc i) (k + 1) ts) (omega (arith, few, e)) (phis_few given h b (suc i) (k + 1) ts)

  block_few : (given : Value → List (Operand × ℕ)) → ((v : Value) → length (given v) < 2 ^ 31) → (p k : ℕ) (c : DialectBlock) → ((i : ℕ) (o : DialectOp) → slice_get c.ops i ≡ Some o → IsOfKind (value_type g) g o.operands o.result o.successors o.kind) → All IsFewOf (block_made g n given p k c).instructions
  block_few given h p k c kinds = All-append IsFewOf (block_phis g n given p k c) (insts g n (k + length c.args) c.ops) (front p) (insts_few (k + length c.args) c.ops kinds)
    where
      front : (p : ℕ) → All IsFewOf (block_phis g n given p k c)
      front zero = All-nil IsFewOf
      front (suc p) = phis_few given h c.number 0 k c.args

  blocks_few : (given : Value → List (Operand × ℕ)) → ((v : Value) → length (given v) < 2 ^ 31) → (p k : ℕ) (cs : List DialectBlock) → ((j i : ℕ) (c : DialectBlock) (o : DialectOp) → slice_get cs j ≡ Some c → slice_get c.ops i ≡ Some o → IsOfKind (value_type g) g o.operands o.result o.successors o.kind)
      → All IsFewOf (flat_map (λ (b : Block). b.instructions) (blocks_made g n given p k cs))
  blocks_few given h p k [] kinds = All-nil IsFewOf
  blocks_few given h p k (c ∷ cs) kinds =
      All-append IsFewOf (block_made g n given p k c).instructions (flat_map (λ (b : Block). b.instructions) (blocks_made g n given (suc p) (number_behind (k + length c.args) c.ops) cs))
      (block_few given h p k c (λ i o at. kinds 0 i c o refl at)) (blocks_few given h (suc p) (number_behind (k + length c.args) c.ops) cs (λ j i d o at at'. kinds (suc j) i d o at at'))

  pub made_few : (form : IsFormFunc g) → IsOrder (length g.blocks) n.order → IsAccepted n.order g → IsFewIn (function_made g n (entries g n))
  made_few form order accepted = record {
    params = let e = params_count g form n order (entries g n) in let few = (accepted.blocks 0 form.entry (entry_at g form)).args in omega (arith, e, few);
    blocks = let e = blocks_count g n (entries g n) 0 0 g.blocks in let few = accepted.few in omega (arith, e, few);
    instructions = all_from (λ (b : Block). length b.instructions < 2 ^ 31) (function_made g n (entries g n)).blocks (λ j b at.
        let r = made_from g n (entries g n) 0 0 g.blocks j b at in
        let a = accepted.blocks j r.0 r.1 in
        let k = number_past 0 (take j g.blocks) in
        let len : length b.instructions ≡ length (block_phis g n (entries g n) (0 + j) k r.0 ++ insts g n (k + length r.0.args) r.0.ops) = ap (λ (x : Block). length x.instructions) r.2 in
        let both = length-append (block_phis g n (entries g n) (0 + j) k r.0) (insts g n (k + length r.0.args) r.0.ops) in
        let front = block_phis_count (entries g n) (0 + j) k r.0 in
        let rest = insts_count (k + length r.0.args) r.0.ops in
        let few = a.args in
        let few' = a.few in
        omega (arith, len, both, front, rest, few, few'));
    operands = blocks_few (entries g n) (λ v. let e = few_entries n.order v (λ j c at. few_edges g form j c at) in let few = accepted.few in let count = order.count in omega (arith, e, few, count)) 0 0 g.blocks (λ j i c o at at'. (op_form g form j i c o at at').kind);
  }
