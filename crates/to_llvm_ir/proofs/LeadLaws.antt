-- What an operation uses, at a spot: its operands, and the edges, what they pass and where they lead.
use Rattle.std.proofs.Common.{◌≡◌, ◌<◌, ◌+◌, ℕ, suc, List, [], ◌∷◌, Some, All, length, map, slice_get, get_or, refl, sym, ap, ◌∙◌, arith}
use Rattle.std.proofs.lemmas.Option.{slice_get-get_or, slice_get_within}
use Rattle.llvm_core.specs.declared.code.LLVMValue.{LLVMValue}
use Rattle.llvm_core.specs.Module.{Module}
use Rattle.dialect_types.specs.Trees.{TypeTree}
use Rattle.dialect_core.specs.declared.numbers.OpRef.{OpRef}
use Rattle.dialect_core.specs.declared.ops.Value.{Value}
use Rattle.dialect_core.specs.declared.ops.Successor.{Successor}
use Rattle.dialect_core.specs.ContextData.{ContextData}
use Rattle.dialect_core.specs.Rules.{IsEdge}
use Rattle.dialect_core.specs.Data.{value_type}
use Rattle.dialect_core.specs.Form.{IsHeldValue}
use Rattle.to_llvm_ir.specs.Order.{StandsBeforeIn}
use Rattle.to_llvm_ir.specs.declared.values.Values.{Values}
use Rattle.to_llvm_ir.specs.declared.blocks.Blocks.{Blocks}
use Rattle.to_llvm_ir.specs.declared.blocks.Target.{Target}
use Rattle.to_llvm_ir.specs.States.{Spot, IsSpot, IsNext, IsUsed, IsLead, AreUses, AreAllMapped, found, found_block}
use Rattle.to_llvm_ir.proofs.ListLaws.{all_at}
use Rattle.to_llvm_ir.proofs.LookupLaws.{place_is}
use Rattle.to_llvm_ir.proofs.EdgeLaws.{op_edges}
use Rattle.to_llvm_ir.proofs.OpLaws.{spot_form, operand_used, passed_used}
use Rattle.to_llvm_ir.proofs.UseLaws.{use_is}

pub spot_edge : (c : ContextData) (op : OpRef) (s : Spot) (l : ℕ) (e : Successor) → IsSpot c op s → slice_get s.op.successors l ≡ Some e → IsEdge (value_type s.task.source) s.task.source e
spot_edge c op s l e h at = all_at (IsEdge (value_type s.task.source) s.task.source) s.op.successors l e (op_edges s.task.source s.task.numbers s.op.kind s.op.operands s.op.result s.op.successors (spot_form c op s h).kind) at

-- an operand at a place of a list that the context answered
pub operand_as : (c : ContextData) (op : OpRef) (s : Spot) (i : ℕ) (xs : List Value) (d : Value) → IsSpot c op s → s.op.operands ≡ xs → i < length xs → (type : TypeTree) × IsUsed s (get_or xs i d) type
operand_as c op s i xs d h are lt =
    let there : slice_get s.op.operands i ≡ Some (get_or xs i d) = ap (λ (ys : List Value). slice_get ys i) are ∙ slice_get-get_or xs i d lt in
    let typed = all_at (IsHeldValue s.task.source) s.op.operands i (get_or xs i d) (spot_form c op s h).operands there in
    (typed.0, operand_used s i (get_or xs i d) typed.0 there typed.1.typed)

used_at : (c : ContextData) (op : OpRef) (s : Spot) (vs : List Value) → IsSpot c op s → s.op.operands ≡ vs → (i : ℕ) (v : Value) → slice_get vs i ≡ Some v → (type : TypeTree) × IsUsed s v type
used_at c op s vs h are i v at =
    let there : slice_get s.op.operands i ≡ Some v = ap (λ (ys : List Value). slice_get ys i) are ∙ at in
    let typed = all_at (IsHeldValue s.task.source) s.op.operands i v (spot_form c op s h).operands there in
    (typed.0, operand_used s i v typed.0 there typed.1.typed)

-- what is found for each of some values that the operation uses
uses_found : (c : ContextData) (op : OpRef) (s : Spot) (values : Values) (m : Module) (vs : List Value) (xs : List LLVMValue) → IsNext c op s values m
    → ((i : ℕ) (v : Value) → slice_get vs i ≡ Some v → (type : TypeTree) × IsUsed s v type) → map (found values) vs ≡ map Some xs → AreUses s m vs xs
uses_found c op s values m [] [] next used e = tt
uses_found c op s values m [] (x ∷ xs) next used e = cc
uses_found c op s values m (v ∷ vs) [] next used e = cc
uses_found c op s values m (v ∷ vs) (x ∷ xs) next used e =
    let here : found values v ≡ Some x = cc in
    let rest : map (found values) vs ≡ map Some xs = cc in
    let first = used 0 v refl in (
      record { type = first.0; is = first.1.typed; used = use_is c s op values m v first.0 x next first.1 here },
      uses_found c op s values m vs xs next (λ i w at. used (suc i) w at) rest,
    )

-- what is found for its operands
pub operands_found : (c : ContextData) (op : OpRef) (s : Spot) (values : Values) (m : Module) (vs : List Value) (xs : List LLVMValue) → IsNext c op s values m → s.op.operands ≡ vs → map (found values) vs ≡ map Some xs → AreUses s m vs xs
operands_found c op s values m vs xs next are e = uses_found c op s values m vs xs next (used_at c op s vs next.spot are) e

-- and an edge
pub edge_at : (s : Spot) (xs : List Successor) (i : ℕ) (e : Successor) → s.op.successors ≡ xs → i < length xs → e ≡ get_or xs i e → slice_get s.op.successors i ≡ Some e
edge_at s xs i e are lt is = ap (λ (ys : List Successor). slice_get ys i) are ∙ slice_get-get_or xs i e lt ∙ ap Some (sym is)

-- a value at a place of what an edge passes
pub passed_as : (c : ContextData) (op : OpRef) (s : Spot) (l i : ℕ) (e : Successor) (xs : List Value) (d : Value) → IsSpot c op s → slice_get s.op.successors l ≡ Some e → xs ≡ e.args → i < length xs → (type : TypeTree) × IsUsed s (get_or xs i d) type
passed_as c op s l i e xs d h at are lt =
    let there : slice_get e.args i ≡ Some (get_or xs i d) = ap (λ (ys : List Value). slice_get ys i) (sym are) ∙ slice_get-get_or xs i d lt in
    let passed = all_at (λ (e : Successor). All (IsHeldValue s.task.source) e.args) s.op.successors l e (spot_form c op s h).passed at in
    let typed = all_at (IsHeldValue s.task.source) e.args i (get_or xs i d) passed there in
    (typed.0, passed_used s l i e (get_or xs i d) typed.0 at there typed.1.typed)

pub lead_is : (c : ContextData) (op : OpRef) (s : Spot) (values : Values) (m : Module) (blocks : Blocks) (e : Successor) (x : Target) → IsNext c op s values m → AreAllMapped s.task blocks → found_block blocks e.block ≡ Some x → All (StandsBeforeIn s.task.numbers.order s.task.source s.place s.at) e.args → IsLead s m e x.block
lead_is c op s values m blocks e x next mapped at before =
    let h = mapped.only e.block x at in
    let place = place_is s.task.source next.spot.task.form h.place e.block.0 h.block h.here h.number in
    record {
      is = h.block_is ∙ ap (λ (k : ℕ). s.task.numbers.block + k) (sym place);
      there = let lt = slice_get_within s.task.source.blocks h.place h.block h.here in let e = h.block_is in let count = next.state.block_count in omega (arith, lt, e, count);
      before = before;
    }
