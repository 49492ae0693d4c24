-- What is found for a value that an operation uses, and why one is refused.
use Rattle.std.proofs.Common.{◌≡◌, ℕ, List, Option, Some, None, slice_get, sym, ap, subst, ◌∙◌}
use Rattle.std.specs.List.{filter_map}
use Rattle.std.proofs.lemmas.Option.{same_Some, none-some, slice_get_within}
use Rattle.support.proofs.ListLaws.{all_from}
use Rattle.llvm_core.specs.declared.code.LLVMValue.{LLVMValue}
use Rattle.llvm_core.specs.Module.{Module}
use Rattle.llvm_core.specs.Data.{trees_of, operand_of}
use Rattle.dialect_types.specs.Trees.{TypeTree}
use Rattle.dialect_core.specs.declared.numbers.OpRef.{OpRef}
use Rattle.dialect_core.specs.declared.ops.Value.{Value}
use Rattle.dialect_core.specs.declared.ops.Successor.{Successor}
use Rattle.dialect_core.specs.ContextData.{ContextData}
use Rattle.dialect_core.specs.Data.{DialectBlock}
use Rattle.dialect_core.proofs.FuncLemmas.{made_of}
use Rattle.to_llvm_ir.specs.declared.to_llvm_err.ToLLVMErr.TheVariants as E
use Rattle.to_llvm_ir.specs.declared.values.Values.{Values}
use Rattle.to_llvm_ir.specs.declared.blocks.Blocks.{Blocks}
use Rattle.to_llvm_ir.specs.Order.{arranged, turn_of}
use Rattle.to_llvm_ir.specs.Exported.{given_name, label_of}
use Rattle.to_llvm_ir.specs.Growth.{HasType}
use Rattle.to_llvm_ir.specs.Causes.{IsFuncCause}
use Rattle.to_llvm_ir.specs.States.{found, found_block, Spot, IsSpot, IsNext, IsUsed, IsUse, AreAllMapped}
use Rattle.to_llvm_ir.proofs.EdgeLaws.{edge_among}
use Rattle.to_llvm_ir.proofs.KnownLaws.{stands_seen, seen_stands}
use Rattle.to_llvm_ir.proofs.TurnLaws.{taken_here}

-- ---- lists

-- what a list gives comes from one of its items
pub from_item : {X Y : Type 0} (h : X → Option Y) (xs : List X) (i : ℕ) (y : Y) → slice_get (filter_map h xs) i ≡ Some y → (j : ℕ) × (x : X) × (slice_get xs j ≡ Some x) × (h x ≡ Some y)
from_item h xs i y at = let m = made_of h xs i y at in (m.1.0, m.0, m.1.1, m.2)

-- ---- at a spot

pub use_is : (c : ContextData) (s : Spot) (op : OpRef) (values : Values) (m : Module) (v : Value) (type : TypeTree) (x : LLVMValue) → IsNext c op s values m → IsUsed s v type → found values v ≡ Some x → IsUse s m v type x
use_is c s op values m v type x next used at =
    let has = next.state.known.only v x at in
    let k = next.state.known.known v type has used.typed in
    let is : k.value ≡ x = same_Some k.value x (sym k.found ∙ at) in
    record {
      typed = subst (λ (y : LLVMValue). HasType m y type) is k.typed;
      stands = ap (operand_of (trees_of m)) (sym is) ∙ k.stands;
      before = seen_stands (arranged s.task.numbers.order s.task.source) (turn_of s.task.numbers.order s.place) s.at s.block v (taken_here s.task.source.blocks s.task.numbers.order next.spot.task.order.once s.place s.block next.spot.here) has;
    }

pub early_use : (c : ContextData) (s : Spot) (op : OpRef) (values : Values) (m : Module) (v : Value) (type : TypeTree) (name : List ℕ) → IsNext c op s values m → IsUsed s v type → found values v ≡ None → name ≡ given_name c v → IsFuncCause c s.task.source (E.UndefinedValue name)
early_use c s op values m v type name next used none name_is d at here = record {
  block = record { place = at; function = s.task.source; here = here; block = s.place; is = s.block; there = next.spot.here };
  place = s.at;
  op = s.op;
  at = next.spot.there;
  value = v;
  used = used.among;
  order = s.task.numbers.order;
  is_order = next.spot.task.order.is;
  early = λ stands.
      let has = stands_seen (arranged s.task.numbers.order s.task.source) (turn_of s.task.numbers.order s.place) s.at s.block v (taken_here s.task.source.blocks s.task.numbers.order next.spot.task.order.once s.place s.block next.spot.here) stands in
      let k = next.state.known.known v type has used.typed in
      none-some k.value (sym none ∙ k.found);
  named = name_is;
}

-- ---- edges that lead nowhere

pub leads_outside : (c : ContextData) (s : Spot) (op : OpRef) (blocks : Blocks) (l : ℕ) (e : Successor) (label : List ℕ) → IsSpot c op s → AreAllMapped s.task blocks → slice_get s.op.successors l ≡ Some e → found_block blocks e.block ≡ None → label ≡ label_of c e.block
    → IsFuncCause c s.task.source (E.UndefinedBlock label)
leads_outside c s op blocks l e label spot mapped at none label_is d place here =
    let edge = edge_among s.block.ops s.at l s.op e spot.there at in
    record {
      edge = record {
        block = record { place = place; function = s.task.source; here = here; block = s.place; is = s.block; there = spot.here };
        place = edge.0;
        edge = e;
        at = edge.1;
      };
      outside = all_from (λ (b : DialectBlock). ¬ (b.number ≡ e.block.0)) s.task.source.blocks (λ i b there same.
          let f = mapped.there i b (slice_get_within s.task.source.blocks i b there) there in
          none-some f.0 (sym none ∙ ap (λ (m : ℕ). found_block blocks (record { 0 = m })) (sym same) ∙ f.1));
      labelled = label_is;
    }
