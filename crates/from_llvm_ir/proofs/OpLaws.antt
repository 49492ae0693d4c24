-- An operation more in a dialect module that the import builds.
use Rattle.std.proofs.Common.{ℕ, ◌≡◌, ◌<◌, refl, sym, ap, subst, ◌∙◌, List, [], ◌∷◌, ◌++◌, Option, Some, IsTrue, All, length, map, slice_get, nat_eq, Bool, true, false, if◌then◌else◌, arith}
use Rattle.std.specs.Option.{option_map, option_and_then}
use Rattle.std.proofs.lemmas.List.Elements.{All-map, All-weaker}
use Rattle.dialect_types.specs.declared.types.TypeHandle.{TypeHandle}
use Rattle.dialect_types.specs.Trees.{TypeTree, type_at, type_trees}
use Rattle.dialect_core.specs.declared.numbers.OpRef.{OpRef}
use Rattle.dialect_core.specs.declared.numbers.BlockRef.{BlockRef}
use Rattle.dialect_core.specs.declared.ops.Value.{Value}
use Rattle.dialect_core.specs.declared.ops.Successor.{Successor}
use Rattle.dialect_core.specs.declared.ops.OpKind.{OpKind}
use Rattle.dialect_core.specs.declared.ops.OpKind.TheVariants as K
use Rattle.dialect_core.specs.declared.ops.OpData.{OpData}
use Rattle.dialect_core.specs.declared.ops.BlockData.{BlockData}
use Rattle.dialect_core.specs.ContextData.{ContextData, with_op, with_appended, kind_at, is_plain, StandsIn}
use Rattle.dialect_core.specs.Data.{DialectModule, Func, DialectBlock, DialectOp, IsTypedOp, data_of, Kind, kind_of, op_of, op_at, with_block_op}
use Rattle.from_llvm_ir.specs.Imported.{HasFuncsApart, IsOwn, IsBuilding, IsBelow}
use Rattle.from_llvm_ir.specs.Building.{op_data, new_op}
use Rattle.from_llvm_ir.proofs.ApartLaws.{op_apart, plain_apart}
use Rattle.from_llvm_ir.proofs.OwnLaws.{own_op, own_appended}
use Rattle.from_llvm_ir.proofs.BuildLaws.{length-push, at_end, held_op, below_more}

pub kind_of_new : (c0 c1 : ContextData) (o : OpRef) (x : OpData) → c1 ≡ with_op c0 x → o.0 ≡ length c0.ops → kind_at c1.ops o ≡ Some x.kind
kind_of_new c0 c1 o x e number = ap (λ (c : ContextData). kind_at c.ops o) e ∙ ap (option_map (λ (y : OpData). y.kind)) (at_end c0.ops x o number)

-- an operation that is neither a module nor a function may stand in any block
pub stands_plain : (ops : List OpData) (blocks : List BlockData) (o : OpRef) (b : BlockRef) (k : OpKind) → IsTrue (is_plain k) → kind_at ops o ≡ Some k → StandsIn ops blocks o b
stands_plain ops blocks o b k plain h = record {
  no_module = λ e. let same : k ≡ K.Module = cc (h, e) in let no : ⊥ = cc (subst (λ (x : OpKind). IsTrue (is_plain x)) same plain) in no;
  func_in_module = λ e. absurd (let same : k ≡ K.Func = cc (h, e) in let no : ⊥ = cc (subst (λ (x : OpKind). IsTrue (is_plain x)) same plain) in no);
}

below_op : (n k b : ℕ) (o : DialectOp) (fs : List Func) → All (IsBelow n k) fs → All (IsBelow n k) (with_block_op (record { name = []; functions = fs }) b o).functions
below_op n k b o fs h = All-map (IsBelow n k) (in_func b o) fs (All-weaker (IsBelow n k) (λ (f : Func). IsBelow n k (in_func b o f)) (λ f below. (below.0, blocks_below n k b o f.blocks below.1)) fs h)
  where
    in_func : ℕ → DialectOp → Func → Func
    in_func b o x = record x { blocks = map (λ (y : DialectBlock). if nat_eq y.number b then record y { ops = y.ops ++ o ∷ [] } else y) x.blocks }

    number_if : (t : Bool) (k : ℕ) (o : DialectOp) (y : DialectBlock) → y.number < k → (if t then record y { ops = y.ops ++ o ∷ [] } else y).number < k
    number_if true k o y small = small
    number_if false k o y small = small

    blocks_below : (n k b : ℕ) (o : DialectOp) (ys : List DialectBlock) → All (λ (y : DialectBlock). y.number < k) ys → All (λ (y : DialectBlock). y.number < k) (map (λ (y : DialectBlock). if nat_eq y.number b then record y { ops = y.ops ++ o ∷ [] } else y) ys)
    blocks_below n k b o ys h =
        All-map (λ (y : DialectBlock). y.number < k) _ ys (All-weaker (λ (y : DialectBlock). y.number < k) _ (λ y small. number_if (nat_eq y.number b) k o y small) ys h)

op_here : (ts : List TypeTree) (ops : List OpData) (x : OpData) (o : OpRef) (k : Kind) → kind_of ts x.kind ≡ Some k → slice_get ops o.0 ≡ Some x → op_at ts ops o ≡ Some (record { number = o.0; name = x.name; kind = k; operands = x.operands; successors = x.successors; result = option_map (type_at ts) x.result })
op_here ts ops x o k is at = ap (option_and_then (op_of ts o)) at ∙ ap (option_map _) is

-- what an operation that is neither a module nor a function is as one of a function's block
pub plain_here : (c0 c1 : ContextData) (x : OpData) (o : OpRef) → IsTrue (is_plain x.kind) → c1 ≡ with_op c0 x → o.0 ≡ length c0.ops → (y : DialectOp) × (op_at (type_trees c1.types) c1.ops o ≡ Some y)
plain_here c0 c1 x o plain e number =
    let k = plain_kind (type_trees c0.types) x.kind plain in
    let y : DialectOp = record { number = o.0; name = x.name; kind = k.0; operands = x.operands; successors = x.successors; result = option_map (type_at (type_trees c0.types)) x.result } in
    (y, rw e (op_here (type_trees c0.types) (c0.ops ++ x ∷ []) x o k.0 k.1 (at_end c0.ops x o number)))
  where
    plain_kind : (ts : List TypeTree) (k : OpKind) → IsTrue (is_plain k) → (x : Kind) × (kind_of ts k ≡ Some x)
    plain_kind ts K.Module h = absurd (let no : ⊥ = cc h in no)
    plain_kind ts K.Func h = absurd (let no : ⊥ = cc h in no)
    plain_kind ts (K.Constant value) h = (_, refl)
    plain_kind ts (K.Filled fill) h = (_, refl)
    plain_kind ts (K.Row op) h = (_, refl)

pub added_op : (c0 c1 c2 : ContextData) (m : ℕ) (body : BlockRef) (d : DialectModule) (b : BlockRef) (o : OpRef) (kind : OpKind) (name : Option (List ℕ)) (operands : List Value) (successors : List Successor) (result : Option TypeHandle) (k : Kind)
    → IsBuilding c0 m body d
    → ¬ (body.0 ≡ b.0)
    → IsTrue (is_plain kind)
    → kind_of (type_trees c0.types) kind ≡ Some k
    → c1 ≡ with_op c0 (op_data kind name operands successors result)
    → o.0 ≡ length c0.ops
    → data_of c1 m ≡ data_of c0 m
    → IsTypedOp (length c0.types) (op_data kind name operands successors result)
    → c2 ≡ with_appended c1 o b
    → ((x : DialectOp) → op_at (type_trees c1.types) c1.ops o ≡ Some x → (m : ℕ) → data_of c2 m ≡ with_block_op (data_of c1 m) b.0 x)
    → IsBuilding c2 m body (with_block_op d b.0 (new_op o.0 name k operands successors (option_map (type_at (type_trees c0.types)) result)))
added_op c0 c1 c2 m body d b o kind name operands successors result k h away plain is e1 number data1 typed e2 data2 =
    let x = op_data kind name operands successors result in
    let ops : c2.ops ≡ c0.ops ++ x ∷ [] = ap (λ (c : ContextData). c.ops) e2 ∙ ap (λ (c : ContextData). c.ops) e1 in
    let blocks : c2.blocks ≡ c0.blocks = ap (λ (c : ContextData). c.blocks) e2 ∙ ap (λ (c : ContextData). c.blocks) e1 in
    let y = new_op o.0 name k operands successors (option_map (type_at (type_trees c0.types)) result) in
    let here : op_at (type_trees c1.types) c1.ops o ≡ Some y = rw e1 (op_here (type_trees c0.types) (c0.ops ++ x ∷ []) x o k is (at_end c0.ops x o number)) in
    let apart1 : HasFuncsApart c1 body = subst (λ (c : ContextData). HasFuncsApart c body) (sym e1) (op_apart c0 x body h.apart) in
    let own1 : IsOwn c1 m body = subst (λ (c : ContextData). IsOwn c m body) (sym e1) (own_op c0 x m body h.own typed refl) in
    record {
      held = held_op c0 c2 x m body h.held ops blocks;
      apart = subst (λ (c : ContextData). HasFuncsApart c body) (sym e2) (plain_apart c1 o b body apart1 (kind, kind_of_new c0 c1 o x e1 number, plain) away);
      is = data2 y here m ∙ ap (λ (z : DialectModule). with_block_op z b.0 y) (data1 ∙ h.is);
      there = rw ops (omega (arith, h.there, length-push c0.ops x));
      own = subst (λ (c : ContextData). IsOwn c m body) (sym e2) (own_appended c1 o b m body own1 (omega (arith, h.there, number)));
      below = rw (ops, blocks)
          (below_op (length (c0.ops ++ x ∷ [])) (length c0.blocks) b.0 y d.functions (below_more (length c0.ops) (length c0.blocks) _ _ (omega (arith, length-push c0.ops x)) (omega arith) d.functions h.below));
    }
