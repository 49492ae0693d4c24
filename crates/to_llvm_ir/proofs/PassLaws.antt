-- What an edge passes to the arguments of its target, entry by entry.
use Rattle.std.proofs.Common.{◌≡◌, ◌+◌, ℕ, zero, suc, Bool, true, false, nat_eq, if◌then◌else◌, List, [], ◌∷◌, ◌++◌, Some, None, length, take, slice_get, refl, sym, ap, subst, ◌∙◌, arith, eq-eqb, eqb-true, append_assoc}
use Rattle.std.specs.Option.{option_map}
use Rattle.std.proofs.lemmas.Bool.{cond-true}
use Rattle.std.proofs.lemmas.Option.{slice_get_within}
use Rattle.std.proofs.lemmas.List.{append-nil, take_all}
use Rattle.support.proofs.ListLaws.{item_there}
use Rattle.llvm_core.specs.declared.numbers.LLVMBasicBlock.{LLVMBasicBlock}
use Rattle.llvm_core.specs.Module.{Module}
use Rattle.llvm_core.specs.Data.{Operand}
use Rattle.dialect_types.specs.Trees.{type_trees}
use Rattle.dialect_types.specs.declared.types.TypeHandle.{TypeHandle}
use Rattle.dialect_core.specs.declared.numbers.BlockRef.{BlockRef}
use Rattle.dialect_core.specs.declared.numbers.OpRef.{OpRef}
use Rattle.dialect_core.specs.declared.ops.Value.{Value}
use Rattle.dialect_core.specs.declared.ops.Value.TheVariants.{Result, Argument}
use Rattle.dialect_core.specs.declared.ops.Successor.{Successor}
use Rattle.dialect_core.specs.declared.ops.BlockData.{BlockData}
use Rattle.dialect_core.specs.ContextData.{ContextData}
use Rattle.dialect_core.specs.Data.{DialectBlock, Func, block_in}
use Rattle.dialect_core.specs.Form.{FitsTarget}
use Rattle.meaning.specs.Dialect.{same_value}
use Rattle.meaning.proofs.SameValues.{same_value-Decides}
use Rattle.to_llvm_ir.specs.declared.to_llvm_err.ToLLVMErr.TheVariants as E
use Rattle.to_llvm_ir.specs.declared.values.Values.{Values}
use Rattle.to_llvm_ir.specs.declared.blocks.Blocks.{Blocks}
use Rattle.to_llvm_ir.specs.declared.blocks.Target.{Target}
use Rattle.to_llvm_ir.specs.Causes.{IsFuncCause}
use Rattle.to_llvm_ir.specs.Made.{Numbers, operand_for, entry_with, passed_to}
use Rattle.to_llvm_ir.specs.States.{Task, IsTask, Spot, IsSpot, IsBlockAt, IsLinking, AreAllMapped, found_block}
use Rattle.to_llvm_ir.specs.Links.{Given, IsTypedValue, IsEntryNext, IsEdgeNext, IsLinkedTo}
use Rattle.to_llvm_ir.proofs.ListLaws.{all_at}
use Rattle.to_llvm_ir.proofs.ContextLaws.{func_parts, block_parts}
use Rattle.to_llvm_ir.proofs.LookupLaws.{argument_type}
use Rattle.to_llvm_ir.proofs.TurnLaws.{argument_among}
use Rattle.to_llvm_ir.proofs.UseLaws.{from_item}
use Rattle.to_llvm_ir.proofs.LeadLaws.{spot_edge}
use Rattle.to_llvm_ir.proofs.ArgumentLaws.{args_count}
use Rattle.to_llvm_ir.proofs.EdgeLaws.{edge_among, edge_target}
use Rattle.to_llvm_ir.proofs.EntryLaws.{giving}
use Rattle.to_llvm_ir.proofs.GivenLaws.{linking_same}

-- ---- the first items of a list

take_past : {X : Type 0} (i : ℕ) (xs : List X) → slice_get (take i xs) i ≡ None
take_past zero [] = refl
take_past zero (x ∷ xs) = refl
take_past (suc i) [] = refl
take_past (suc i) (x ∷ xs) = take_past i xs

take_here : {X : Type 0} (i : ℕ) (xs : List X) → slice_get (take (suc i) xs) i ≡ slice_get xs i
take_here zero [] = refl
take_here zero (x ∷ xs) = refl
take_here (suc i) [] = refl
take_here (suc i) (x ∷ xs) = take_here i xs

take_other : {X : Type 0} (i k : ℕ) (xs : List X) → (i ≡ k → ⊥) → slice_get (take i xs) k ≡ slice_get (take (suc i) xs) k
take_other zero zero xs ne = absurd (ne refl)
take_other zero (suc k) [] ne = refl
take_other zero (suc k) (x ∷ xs) ne = refl
take_other (suc i) k [] ne = refl
take_other (suc i) zero (x ∷ xs) ne = refl
take_other (suc i) (suc k) (x ∷ xs) ne = take_other i k xs (λ e. ne (ap suc e))

-- ---- one value more of those that an edge passes

module _ (g : Func) (n : Numbers) (b : BlockRef) (p : ℕ) (given : Given) where
  abbrev pub upto_value : List Value → Given
  upto_value vs = λ (v : Value). given v ++ passed_to g n b vs p v

  pub none_passed : (v : Value) → given v ≡ upto_value [] v
  none_passed (Result r) = sym (append-nil (given (Result r)))
  none_passed (Argument c k) = by (nat_eq c.0 b.0)
    where
      by : (t : Bool) → given (Argument c k) ≡ given (Argument c k) ++ (if t then entry_with g n p None else [])
      by true = sym (append-nil (given (Argument c k)))
      by false = sym (append-nil (given (Argument c k)))

  passed_here : (i : ℕ) (vs : List Value) → passed_to g n b vs p (Argument b i) ≡ entry_with g n p (slice_get vs i)
  passed_here i vs = cond-true (nat_eq b.0 b.0) (entry_with g n p (slice_get vs i)) [] (eq-eqb b.0 b.0 refl)

  passed_there : (i : ℕ) (x : Value) (vs : List Value) → slice_get vs i ≡ Some x → passed_to g n b (take i vs) p (Argument b i) ++ (operand_for g n x, p) ∷ [] ≡ passed_to g n b (take (suc i) vs) p (Argument b i)
  passed_there i x vs at =
      ap (λ (es : List (Operand × ℕ)). es ++ (operand_for g n x, p) ∷ []) (passed_here i (take i vs) ∙ ap (entry_with g n p) (take_past i vs))
      ∙ sym (passed_here i (take (suc i) vs) ∙ ap (entry_with g n p) (take_here i vs ∙ at))

  passed_elsewhere : (i : ℕ) (vs : List Value) (v : Value) → same_value (Argument b i) v ≡ false → passed_to g n b (take i vs) p v ≡ passed_to g n b (take (suc i) vs) p v
  passed_elsewhere i vs (Result r) differs = refl
  passed_elsewhere i vs (Argument c k) differs = by (nat_eq c.0 b.0) refl
    where
      by : (t : Bool) → nat_eq c.0 b.0 ≡ t → (if t then entry_with g n p (slice_get (take i vs) k) else []) ≡ (if t then entry_with g n p (slice_get (take (suc i) vs) k) else [])
      by false e = refl
      by true e =
          let here : c.0 ≡ b.0 = eqb-true c.0 b.0 e in
          ap (entry_with g n p) (take_other i k vs (λ same.
          let is : Argument b i ≡ Argument c k = ap (λ (q : ℕ). Argument (record { 0 = q }) i) (sym here) ∙ ap (Argument c) same in
          let yes = (same_value-Decides (Argument b i) (Argument c k)).1 is in
          let no : true ≡ false = sym yes ∙ differs in
          cc))

  pub one_passed : (i : ℕ) (x : Value) (vs : List Value) → slice_get vs i ≡ Some x → (v : Value) → giving (upto_value (take i vs)) (Argument b i) (operand_for g n x, p) v ≡ upto_value (take (suc i) vs) v
  one_passed i x vs at v = by (same_value (Argument b i) v) refl
    where
      by : (t : Bool) → same_value (Argument b i) v ≡ t → (if t then upto_value (take i vs) v ++ (operand_for g n x, p) ∷ [] else upto_value (take i vs) v) ≡ upto_value (take (suc i) vs) v
      by false e = ap (λ (es : List (Operand × ℕ)). given v ++ es) (passed_elsewhere i vs v e)
      by true e =
          let same = (same_value-Decides (Argument b i) v).0 e in
          append_assoc (given v) (passed_to g n b (take i vs) p v) ((operand_for g n x, p) ∷ [])
          ∙ ap (λ (es : List (Operand × ℕ)). given v ++ es) (subst (λ (w : Value). passed_to g n b (take i vs) p w ++ (operand_for g n x, p) ∷ [] ≡ passed_to g n b (take (suc i) vs) p w) same (passed_there i x vs at))

-- ---- the entries of an edge, one by one

pub entry_next : (t : Task) (e : Successor) (from : LLVMBasicBlock) (given now : Given) (known : Values) (start m : Module) (i : ℕ) (x : Value) → IsEdgeNext t e from given known start → slice_get e.args i ≡ Some x → IsLinking t now known m
    → IsEntryNext t (Argument e.block i) x from now known m
entry_next t e from given now known start m i x h at s =
    let target = h.target in
    let lt = slice_get_within e.args i x at in
    let count = target.count in
    let type = item_there target.block.args i (omega (arith, lt, count)) in
    let there = argument_among t.source h.form t.numbers.order h.order.once target.place i target.block type.0 target.here type.1 in
    record {
      form = h.form;
      order = h.order;
      insts = h.insts;
      place = there.0;
      at = there.1 ∙ ap (λ (q : ℕ). Some (Argument (record { 0 = q }) i)) target.number;
      is_argument = tt;
      typed = (type.0, argument_type t.source h.form (suc target.place) i e.block target.block target.here target.number ∙ type.1);
      passes = all_at (IsTypedValue t.source) e.args i x h.args at;
      there = let a = h.there in let b = h.state.block_count in let c = s.block_count in omega (arith, a, b, c);
      state = s;
    }

pub entries_begun : (t : Task) (e : Successor) (from : LLVMBasicBlock) (given : Given) (known : Values) (m : Module) → IsLinking t given known m → IsLinking t (upto_value t.source t.numbers e.block from.0 given (take 0 e.args)) known m
entries_begun t e from given known m s = linking_same t given (upto_value t.source t.numbers e.block from.0 given []) (none_passed t.source t.numbers e.block from.0 given) known m s

pub entries_more : (t : Task) (e : Successor) (from : LLVMBasicBlock) (given : Given) (known : Values) (m : Module) (i : ℕ) (x : Value) → slice_get e.args i ≡ Some x
    → IsLinking t (giving (upto_value t.source t.numbers e.block from.0 given (take i e.args)) (Argument e.block i) (operand_for t.source t.numbers x, from.0)) known m
    → IsLinking t (upto_value t.source t.numbers e.block from.0 given (take (i + 1) e.args)) known m
entries_more t e from given known m i x at s =
    let one : i + 1 ≡ suc i = omega arith in
    subst (λ (k : ℕ). IsLinking t (upto_value t.source t.numbers e.block from.0 given (take k e.args)) known m) (sym one)
    (linking_same t (giving (upto_value t.source t.numbers e.block from.0 given (take i e.args)) (Argument e.block i) (operand_for t.source t.numbers x, from.0)) (upto_value t.source t.numbers e.block from.0 given (take (suc i) e.args))
    (one_passed t.source t.numbers e.block from.0 given i x e.args at) known m s)

pub entries_done : (t : Task) (e : Successor) (from : LLVMBasicBlock) (given : Given) (known : Values) (m : Module) (i : ℕ) → i ≡ length e.args → IsLinking t (upto_value t.source t.numbers e.block from.0 given (take i e.args)) known m
    → IsLinking t (upto_value t.source t.numbers e.block from.0 given e.args) known m
entries_done t e from given known m i end s =
    subst (λ (vs : List Value). IsLinking t (upto_value t.source t.numbers e.block from.0 given vs) known m) (take_all i e.args (omega (arith, end))) s

-- ---- the target of an edge, at a spot

-- a block of the function is one of the context, under its number
pub block_held : (c : ContextData) (t : Task) (j : ℕ) (b : DialectBlock) (r : BlockRef) → IsTask c t → slice_get t.source.blocks j ≡ Some b → b.number ≡ r.0 → IsBlockAt c t j b r
block_held c t j b r task here number =
    let parts = func_parts c task.op t.source task.held in
    let from = from_item (block_in (type_trees c.types) c) _ j b (ap (λ (bs : List DialectBlock). slice_get bs j) (sym parts.blocks) ∙ here) in
    let same : r.0 ≡ from.1.0 = sym number ∙ (block_parts c from.1 b from.3).number in
    record {
      task = task;
      here = here;
      is = ap (λ (k : ℕ). block_in (type_trees c.types) c (record { 0 = k })) same ∙ from.3;
    }

-- where its target is known, and has as many arguments
pub found_fits : (c : ContextData) (s : Spot) (op : OpRef) (e : Successor) (blocks : Blocks) (x : Target) (ts : List TypeHandle) → IsSpot c op s → AreAllMapped s.task blocks → found_block blocks e.block ≡ Some x
    → option_map (λ (y : BlockData). y.args) (slice_get c.blocks e.block.0) ≡ Some ts → length ts ≡ length e.args → FitsTarget s.task.source e
found_fits c s op e blocks x ts spot mapped at args count =
    let h = mapped.only e.block x at in
    let held = block_held c s.task h.place h.block e.block spot.task h.here h.number in
    (h.place, h.block, h.here, h.number, sym count ∙ args_count c s.task h.place h.block e.block ts held args)

-- where it has another number of them
pub found_differs : (c : ContextData) (s : Spot) (op : OpRef) (l : ℕ) (e : Successor) (blocks : Blocks) (x : Target) (ts : List TypeHandle) → IsSpot c op s → AreAllMapped s.task blocks → slice_get s.op.successors l ≡ Some e → found_block blocks e.block ≡ Some x
    → option_map (λ (y : BlockData). y.args) (slice_get c.blocks e.block.0) ≡ Some ts → (length ts ≡ length e.args → ⊥) → IsFuncCause c s.task.source E.NumBlockArgsNumPhisMismatch
found_differs c s op l e blocks x ts spot mapped there at args differs d place here =
    let h = mapped.only e.block x at in
    let held = block_held c s.task h.place h.block e.block spot.task h.here h.number in
    let count = args_count c s.task h.place h.block e.block ts held args in
    let edge = edge_among s.block.ops s.at l s.op e spot.there there in
    record {
      edge = record {
        block = record { place = place; function = s.task.source; here = here; block = s.place; is = s.block; there = spot.here };
        place = edge.0;
        edge = e;
        at = edge.1;
      };
      target = h.block;
      at = h.place;
      there = h.here;
      leads = h.number;
      differs = λ same. differs (count ∙ sym same);
    }

pub edge_next : (c : ContextData) (op : OpRef) (s : Spot) (l : ℕ) (e : Successor) (from : LLVMBasicBlock) (blocks : Blocks) (given : Given) (known : Values) (m : Module) → IsLinkedTo c op s l e from blocks given known m → FitsTarget s.task.source e → IsEdgeNext s.task e from given known m
edge_next c op s l e from blocks given known m h fits =
    let form = spot_edge c op s l e h.spot h.at in
    record {
      form = h.spot.task.form;
      order = h.spot.task.order;
      insts = h.spot.task.insts;
      target = edge_target s.task.source e form fits;
      args = form.args;
      there = let lt = slice_get_within s.task.source.blocks s.place s.block h.spot.here in let here = h.here in let count = h.state.block_count in omega (arith, lt, here, count);
      state = h.state;
    }
