-- What the context tells of an operation, and what its form says then.
use Rattle.std.proofs.Common.{◌≡◌, ◌<◌, ◌^◌, ℕ, zero, suc, true, List, [], ◌∷◌, Option, Some, None, length, slice_get, refl, sym, ap, subst, ◌∙◌, arith}
use Rattle.std.specs.Prelude.{IfSome}
use Rattle.std.specs.List.{Contains, flat_map}
use Rattle.std.specs.Option.{option_map, option_and_then}
use Rattle.std.proofs.lemmas.Option.{same_Some, none-some}
use Rattle.std.proofs.lemmas.List.Elements.{Contains-append_left, Contains-append_right}
use Rattle.support.proofs.ListLaws.{contains_at}
use Rattle.llvm_core.specs.declared.code.LLVMValue.{LLVMValue}
use Rattle.llvm_core.specs.Module.{Module}
use Rattle.llvm_core.specs.Sound.{IsModule}
use Rattle.llvm_core.specs.Parts.{IsValue}
use Rattle.llvm_core.specs.Data as L
use Rattle.kinds.specs.Held.{IsHeld}
use Rattle.dialect_types.specs.declared.types.TypeHandle.{TypeHandle}
use Rattle.dialect_types.specs.Trees.{TypeTree, type_at, type_trees}
use Rattle.const_attrs.specs.Trees.{attr_tree, attr_data}
use Rattle.dialect_core.specs.declared.numbers.OpRef.{OpRef}
use Rattle.dialect_core.specs.declared.ops.Value.{Value}
use Rattle.dialect_core.specs.declared.ops.Successor.{Successor}
use Rattle.dialect_core.specs.declared.ops.OpKind.{OpKind}
use Rattle.dialect_core.specs.declared.ops.OpKind.TheVariants as K
use Rattle.dialect_core.specs.declared.ops.OpData.{OpData}
use Rattle.dialect_core.specs.ContextData.{ContextData, kind_at}
use Rattle.dialect_core.specs.Data.{IsTyped, Kind, ConstantOp, FilledOp, RowOp, DialectOp, kind_of, op_of, op_at, value_type}
use Rattle.dialect_core.specs.Rules.{IsOfKind}
use Rattle.dialect_core.specs.Form.{IsFormOp}
use Rattle.to_llvm_ir.specs.Growth.{HasType}
use Rattle.to_llvm_ir.specs.Exported.{result}
use Rattle.to_llvm_ir.specs.States.{Spot, IsSpot, IsUsed}
use Rattle.to_llvm_ir.proofs.LookupLaws.{op_form, result_type}
use Rattle.to_llvm_ir.proofs.GrowthLaws.{value_there}

-- ---- what the context has under the number of an operation

pub record OpParts (ts : List TypeTree) (ops : List OpData) (op : OpRef) (o : DialectOp) : Type 0 where
  pub kept : OpData
  pub there : slice_get ops op.0 ≡ Some kept
  pub kind : kind_of ts kept.kind ≡ Some o.kind
  pub number : o.number ≡ op.0
  pub name : o.name ≡ kept.name
  pub operands : o.operands ≡ kept.operands
  pub successors : o.successors ≡ kept.successors
  pub result : o.result ≡ option_map (type_at ts) kept.result

pub op_parts : (ts : List TypeTree) (ops : List OpData) (op : OpRef) (o : DialectOp) → op_at ts ops op ≡ Some o → OpParts ts ops op o
op_parts ts ops op o h = by (slice_get ops op.0) refl h
  where
    made : (x : OpData) (k : Option Kind) → slice_get ops op.0 ≡ Some x → kind_of ts x.kind ≡ k
        → option_map (λ (k : Kind). let o : DialectOp = record { number = op.0; name = x.name; kind = k; operands = x.operands; successors = x.successors; result = option_map (type_at ts) x.result } in o) k ≡ Some o → OpParts ts ops op o
    made x None e f g = absurd (none-some o g)
    made x (Some k) e f g =
        let is = same_Some _ o g in
        record {
          kept = x;
          there = e;
          kind = f ∙ ap (λ (y : DialectOp). Some y.kind) is;
          number = ap (λ (y : DialectOp). y.number) (sym is);
          name = ap (λ (y : DialectOp). y.name) (sym is);
          operands = ap (λ (y : DialectOp). y.operands) (sym is);
          successors = ap (λ (y : DialectOp). y.successors) (sym is);
          result = ap (λ (y : DialectOp). y.result) (sym is);
        }

    by : (x : Option OpData) → slice_get ops op.0 ≡ x → option_and_then (op_of ts op) x ≡ Some o → OpParts ts ops op o
    by None e g = absurd (none-some o g)
    by (Some x) e g = made x (kind_of ts x.kind) e refl g

pub kind_is : (ts : List TypeTree) (ops : List OpData) (op : OpRef) (o : DialectOp) (k : OpKind) → OpParts ts ops op o → kind_at ops op ≡ Some k → kind_of ts k ≡ Some o.kind
kind_is ts ops op o k h at =
    let same : h.kept.kind ≡ k = same_Some h.kept.kind k (ap (option_map (λ (x : OpData). x.kind)) (sym h.there) ∙ at) in
    ap (kind_of ts) (sym same) ∙ h.kind

pub operands_are : (ts : List TypeTree) (ops : List OpData) (op : OpRef) (o : DialectOp) (vs : List Value) → OpParts ts ops op o → option_map (λ (x : OpData). x.operands) (slice_get ops op.0) ≡ Some vs → o.operands ≡ vs
operands_are ts ops op o vs h at = h.operands ∙ same_Some h.kept.operands vs (ap (option_map (λ (x : OpData). x.operands)) (sym h.there) ∙ at)

pub successors_are : (ts : List TypeTree) (ops : List OpData) (op : OpRef) (o : DialectOp) (ss : List Successor) → OpParts ts ops op o → option_map (λ (x : OpData). x.successors) (slice_get ops op.0) ≡ Some ss → o.successors ≡ ss
successors_are ts ops op o ss h at = h.successors ∙ same_Some h.kept.successors ss (ap (option_map (λ (x : OpData). x.successors)) (sym h.there) ∙ at)

pub name_is : (ts : List TypeTree) (ops : List OpData) (op : OpRef) (o : DialectOp) (n : Option (List ℕ)) → OpParts ts ops op o → option_map (λ (x : OpData). x.name) (slice_get ops op.0) ≡ Some n → o.name ≡ n
name_is ts ops op o n h at = h.name ∙ same_Some h.kept.name n (ap (option_map (λ (x : OpData). x.name)) (sym h.there) ∙ at)

pub result_is : (ts : List TypeTree) (ops : List OpData) (op : OpRef) (o : DialectOp) (r : Option TypeHandle) → OpParts ts ops op o → option_map (λ (x : OpData). x.result) (slice_get ops op.0) ≡ Some r → o.result ≡ option_map (type_at ts) r
result_is ts ops op o r h at = h.result ∙ ap (option_map (type_at ts)) (same_Some h.kept.result r (ap (option_map (λ (x : OpData). x.result)) (sym h.there) ∙ at))

-- ---- the form at a spot

pub spot_form : (c : ContextData) (op : OpRef) (s : Spot) → IsSpot c op s → IsFormOp s.task.source s.op
spot_form c op s h = op_form s.task.source h.task.form s.place s.at s.block s.op h.here h.there

pub spot_parts : (c : ContextData) (op : OpRef) (s : Spot) → IsSpot c op s → OpParts (type_trees c.types) c.ops op s.op
spot_parts c op s h = op_parts (type_trees c.types) c.ops op s.op h.is

-- the kind of the operation, and what it asks
pub spot_kind : (c : ContextData) (op : OpRef) (s : Spot) (k : OpKind) (kind : Kind) → IsSpot c op s → kind_at c.ops op ≡ Some k → kind_of (type_trees c.types) k ≡ Some kind → (s.op.kind ≡ kind) × IsOfKind (value_type s.task.source) s.task.source s.op.operands s.op.result s.op.successors kind
spot_kind c op s k kind h at is =
    let same : s.op.kind ≡ kind = same_Some s.op.kind kind (sym (kind_is (type_trees c.types) c.ops op s.op k (spot_parts c op s h) at) ∙ is) in
    (same, subst (IsOfKind (value_type s.task.source) s.task.source s.op.operands s.op.result s.op.successors) same (spot_form c op s h).kind)

pub spot_type : (c : ContextData) (op : OpRef) (s : Spot) → IsSpot c op s → value_type s.task.source (result s.op) ≡ s.op.result
spot_type c op s h = result_type s.task.source h.task.form s.place s.at (record { 0 = s.op.number }) s.block s.op h.here h.there refl

-- ---- what it uses

-- an operand
pub operand_used : (s : Spot) (i : ℕ) (v : Value) (type : TypeTree) → slice_get s.op.operands i ≡ Some v → value_type s.task.source v ≡ Some type → IsUsed s v type
operand_used s i v type at typed = record {
  among = Contains-append_left s.op.operands (flat_map (λ (e : Successor). e.args) s.op.successors) v (contains_at s.op.operands i v at);
  typed = typed;
}

-- a value that an edge passes
pub passed_used : (s : Spot) (l i : ℕ) (e : Successor) (v : Value) (type : TypeTree) → slice_get s.op.successors l ≡ Some e → slice_get e.args i ≡ Some v → value_type s.task.source v ≡ Some type → IsUsed s v type
passed_used s l i e v type at at' typed = record {
  among = Contains-append_right s.op.operands (flat_map (λ (e : Successor). e.args) s.op.successors) v (among s.op.successors l at);
  typed = typed;
}
  where
    among : (ss : List Successor) (l : ℕ) → slice_get ss l ≡ Some e → Contains (flat_map (λ (e : Successor). e.args) ss) v
    among [] l at = absurd (none-some e at)
    among (t ∷ ss) zero at = Contains-append_left t.args (flat_map (λ (e : Successor). e.args) ss) v (contains_at t.args i v (ap (λ (x : Successor). slice_get x.args i) (same_Some t e at) ∙ at'))
    among (t ∷ ss) (suc l) at = Contains-append_right t.args (flat_map (λ (e : Successor). e.args) ss) v (among ss l at)

pub typed_there : (m : Module) (x : LLVMValue) (tree : L.TypeTree) → IsModule m → HasType m x tree → IsValue m x
typed_there m x tree s h = value_there m x h.0 s h.1

-- ---- results

-- the number of the type of a result is there
pub result_there : (c : ContextData) (op : OpRef) (r : Option TypeHandle) (t : TypeHandle) → IsTyped c → option_map (λ (x : OpData). x.result) (slice_get c.ops op.0) ≡ Some r → r ≡ Some t → t.0 < length c.types
result_there c op r t typed at is = by (slice_get c.ops op.0) refl at
  where
    by : (x : Option OpData) → slice_get c.ops op.0 ≡ x → option_map (λ (x : OpData). x.result) x ≡ Some r → t.0 < length c.types
    by None e f = absurd (none-some r f)
    by (Some x) e f = subst (λ (o : Option TypeHandle). IfSome o (λ (t : TypeHandle). t.0 < length c.types)) (same_Some x.result r f ∙ is) (typed.ops op.0 x e).result

-- and the type is translated
pub result_held : (c : ContextData) (op : OpRef) (s : Spot) (r : Option TypeHandle) (t : TypeHandle) → IsSpot c op s → option_map (λ (x : OpData). x.result) (slice_get c.ops op.0) ≡ Some r → r ≡ Some t → (s.op.result ≡ Some (type_at (type_trees c.types) t)) × IsHeld (type_at (type_trees c.types) t)
result_held c op s r t h at is =
    let e = result_is (type_trees c.types) c.ops op s.op r (spot_parts c op s h) at ∙ ap (option_map (type_at (type_trees c.types))) is in
    (e, subst (λ (o : Option TypeTree). IfSome o IsHeld) e (spot_form c op s h).result)

-- ---- which kinds are operations of a block

pub op_there : (ts : List TypeTree) (ops : List OpData) (op : OpRef) (k : OpKind) (kind : Kind) → kind_at ops op ≡ Some k → kind_of ts k ≡ Some kind → (o : DialectOp) × (op_at ts ops op ≡ Some o)
op_there ts ops op k kind at is = by (slice_get ops op.0) at
  where
    by : (x : Option OpData) → option_map (λ (x : OpData). x.kind) x ≡ Some k → (o : DialectOp) × (option_and_then (op_of ts op) x ≡ Some o)
    by None e = absurd (none-some k e)
    by (Some x) e = (_, ap (option_map _) (ap (kind_of ts) (same_Some x.kind k e) ∙ is))

pub op_missing : (ts : List TypeTree) (ops : List OpData) (op : OpRef) (k : OpKind) → kind_at ops op ≡ Some k → kind_of ts k ≡ None → op_at ts ops op ≡ None
op_missing ts ops op k at is = by (slice_get ops op.0) at
  where
    by : (x : Option OpData) → option_map (λ (x : OpData). x.kind) x ≡ Some k → option_and_then (op_of ts op) x ≡ None
    by None e = refl
    by (Some x) e = ap (option_map _) (ap (kind_of ts) (same_Some x.kind k e) ∙ is)

-- any other kind than a module's and a function's is one of a block's operation
pub kind_there : (ts : List TypeTree) (k : OpKind) → (k ≡ K.Module → ⊥) → (k ≡ K.Func → ⊥) → (kind : Kind) × (kind_of ts k ≡ Some kind)
kind_there ts K.Module h f = absurd (h refl)
kind_there ts K.Func h f = absurd (f refl)
kind_there ts (K.Constant value) h f = (ConstantOp (attr_tree ts (attr_data value)), refl)
kind_there ts (K.Filled fill) h f = (FilledOp fill, refl)
kind_there ts (K.Row op) h f = (RowOp op, refl)

-- no spot is at what is no operation of a block
pub nowhere : (c : ContextData) (op : OpRef) (s : Spot) → op_at (type_trees c.types) c.ops op ≡ None → IsSpot c op s → ⊥
nowhere c op s none h = none-some s.op (sym none ∙ h.is)

-- there is no spot where the context has a module or a function
pub no_spot : (c : ContextData) (op : OpRef) (s : Spot) (k : OpKind) → IsSpot c op s → kind_at c.ops op ≡ Some k → kind_of (type_trees c.types) k ≡ None → ⊥
no_spot c op s k h at none = nowhere c op s (op_missing (type_trees c.types) c.ops op k at none) h
