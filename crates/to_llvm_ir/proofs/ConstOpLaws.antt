-- A constant operation of a function: what it holds, and the constant of LLVM that it becomes.
use Rattle.std.proofs.Common.{◌≡◌, ◌<◌, List, [], ◌++◌, Option, Some, None, All, length, slice_get, true, false, refl, sym, ap, subst, ◌∙◌}
use Rattle.std.specs.Prelude.{IfSome}
use Rattle.std.specs.List.{flat_map}
use Rattle.std.specs.Option.{option_map}
use Rattle.std.proofs.lemmas.List.Elements.{All-nil}
use Rattle.std.proofs.lemmas.Option.{same_Some, none-some}
use Rattle.support.proofs.ListLaws.{item_there}
use Rattle.kinds.specs.declared.fill.Fill.{Fill}
use Rattle.kinds.specs.Held.{IsHeld}
use Rattle.llvm_core.specs.declared.numbers.LLVMConst.{LLVMConst}
use Rattle.llvm_core.specs.declared.numbers.LLVMType.{LLVMType}
use Rattle.llvm_core.specs.declared.code.LLVMValue.TheVariants as V
use Rattle.llvm_core.specs.Module.{Module}
use Rattle.llvm_core.specs.Sound.{IsModule}
use Rattle.llvm_core.specs.Parts.{const_type}
use Rattle.llvm_core.specs.Data as L
use Rattle.llvm_core.specs.Data.{ModuleData, const_at, filled_const, trees_of}
use Rattle.llvm_core.proofs.DataLemmas.{const_type_of}
use Rattle.dialect_types.specs.declared.types.TypeHandle.{TypeHandle}
use Rattle.const_attrs.specs.declared.const_attr.ConstAttr.{ConstAttr}
use Rattle.const_attrs.specs.Trees.{AttrTree, attr_tree, attr_data, type_of}
use Rattle.const_attrs.specs.Verified.{broken}
use Rattle.dialect_types.specs.Trees.{NamedStruct, TypeTree, structs_of, type_at, type_trees}
use Rattle.dialect_core.specs.declared.numbers.OpRef.{OpRef}
use Rattle.dialect_core.specs.declared.ops.Value.{Value}
use Rattle.dialect_core.specs.declared.ops.Successor.{Successor}
use Rattle.dialect_core.specs.declared.ops.OpKind.{OpKind}
use Rattle.dialect_core.specs.declared.ops.OpKind.TheVariants as K
use Rattle.dialect_core.specs.declared.ops.OpData.{OpData}
use Rattle.dialect_core.specs.ContextData.{ContextData, kind_at}
use Rattle.dialect_core.specs.Data.{Kind, ConstantOp, FilledOp, DialectOp, kind_of, value_type}
use Rattle.dialect_core.specs.Form.{IsShortAttr, IsShortKind, IsRuledKind, is_constant, is_constant_kind}
use Rattle.meaning.specs.Dialect.{option_type}
use Rattle.to_llvm_ir.specs.declared.values.Values.{Values}
use Rattle.to_llvm_ir.specs.Order.{StandsBeforeIn}
use Rattle.to_llvm_ir.specs.Accepted.{IsAcceptedOp}
use Rattle.to_llvm_ir.specs.Constants.{IsSource, IsConstOf}
use Rattle.to_llvm_ir.specs.Growth.{IsTypeOf, HasType}
use Rattle.to_llvm_ir.specs.States.{Spot, IsSpot, IsNext}
use Rattle.to_llvm_ir.proofs.AttrLaws.{filled_type, good_const}
use Rattle.to_llvm_ir.proofs.ConstLaws.{constant_of, constant_takes, short_attr}
use Rattle.to_llvm_ir.proofs.LookupLaws.{op_kept}
use Rattle.to_llvm_ir.proofs.OpLaws.{spot_form, spot_kind, spot_parts, result_is, result_held}

-- ---- attributes

-- what an operation of the form that holds an attribute says of it, where its result has that type
pub record ConstantParts (structs : List NamedStruct) (o : DialectOp) (a : AttrTree) (type : TypeTree) : Type 0 where
  pub kind : o.kind ≡ ConstantOp a
  pub result : o.result ≡ Some type
  pub held : IsHeld type
  pub typed : type_of a ≡ type
  pub keeps : broken structs a ≡ None
  pub short : IsShortAttr a

pub constant_parts : (c : ContextData) (op : OpRef) (s : Spot) (value : ConstAttr) (r : Option TypeHandle) (t : TypeHandle) → IsSpot c op s → kind_at c.ops op ≡ Some (K.Constant value) → option_map (λ (x : OpData). x.result) (slice_get c.ops op.0) ≡ Some r → r ≡ Some t
    → ConstantParts (structs_of c.types) s.op (attr_tree (type_trees c.types) (attr_data value)) (type_at (type_trees c.types) t)
constant_parts c op s value r t h at own is =
    let ts = type_trees c.types in
    let g = s.task.source in
    let a = attr_tree ts (attr_data value) in
    let k = spot_kind c op s (K.Constant value) (ConstantOp a) h at refl in
    let held = result_held c op s r t h own is in
    record {
      kind = k.0;
      result = held.0;
      held = held.1;
      typed = same_Some (type_of a) (type_at ts t) (sym k.1.result ∙ held.0);
      keeps = subst (IsRuledKind (structs_of c.types)) k.0 (op_kept (structs_of c.types) g h.task.ruled s.place s.at s.block s.op h.here h.there);
      short = short_attr (value_type g) g s.op.operands s.op.result s.op.successors a k.1 (subst (λ (k : Kind). IfSome s.op.result (IsShortKind k)) k.0 (spot_form c op s h).short);
    }

-- it has a result
pub constant_some : (c : ContextData) (op : OpRef) (s : Spot) (value : ConstAttr) (r : Option TypeHandle) → IsSpot c op s → kind_at c.ops op ≡ Some (K.Constant value) → option_map (λ (x : OpData). x.result) (slice_get c.ops op.0) ≡ Some r → r ≡ None → ⊥
constant_some c op s value r h at own none =
    let held = (spot_kind c op s (K.Constant value) (ConstantOp (attr_tree (type_trees c.types) (attr_data value))) h at refl).1 in
    let lacks = result_is (type_trees c.types) c.ops op s.op r (spot_parts c op s h) own ∙ ap (option_map (type_at (type_trees c.types))) none in
    none-some _ (sym lacks ∙ held.result)

-- the structs of the context are those of the module
pub spot_structs : (c : ContextData) (op : OpRef) (s : Spot) (values : Values) (m : Module) → IsNext c op s values m → L.structs_of m ≡ structs_of c.types
spot_structs c op s values m next = ap (λ (d : ModuleData). d.structs) next.state.is ∙ next.spot.task.structs

-- so the attribute may become a constant of the type
pub constant_source : (c : ContextData) (m : Module) (o : DialectOp) (value : ConstAttr) (type : TypeTree) (ty : LLVMType) → ConstantParts (structs_of c.types) o (attr_tree (type_trees c.types) (attr_data value)) type → L.structs_of m ≡ structs_of c.types → IsTypeOf m ty type
    → IsSource (type_trees c.types) m (attr_data value) ty
constant_source c m o value type ty parts structs typed = record {
  typed = subst (IsTypeOf m ty) (sym parts.typed) typed;
  keeps = subst (λ (ss : List NamedStruct). broken ss (attr_tree (type_trees c.types) (attr_data value)) ≡ None) (sym structs) parts.keeps;
  short = parts.short;
}

-- ---- zero, undef and poison

pub record FilledParts (o : DialectOp) (fill : Fill) (type : TypeTree) : Type 0 where
  pub kind : o.kind ≡ FilledOp fill
  pub result : o.result ≡ Some type
  pub held : IsHeld type

pub filled_parts : (c : ContextData) (op : OpRef) (s : Spot) (fill : Fill) (r : Option TypeHandle) (t : TypeHandle) → IsSpot c op s → kind_at c.ops op ≡ Some (K.Filled fill) → option_map (λ (x : OpData). x.result) (slice_get c.ops op.0) ≡ Some r → r ≡ Some t → FilledParts s.op fill (type_at (type_trees c.types) t)
filled_parts c op s fill r t h at own is =
    let held = result_held c op s r t h own is in
    record { kind = (spot_kind c op s (K.Filled fill) (FilledOp fill) h at refl).0; result = held.0; held = held.1 }

-- it has a result
pub filled_some : (c : ContextData) (op : OpRef) (s : Spot) (fill : Fill) (r : Option TypeHandle) → IsSpot c op s → kind_at c.ops op ≡ Some (K.Filled fill) → option_map (λ (x : OpData). x.result) (slice_get c.ops op.0) ≡ Some r → r ≡ None → ⊥
filled_some c op s fill r h at own none =
    let filled = (spot_kind c op s (K.Filled fill) (FilledOp fill) h at refl).1 in
    let lacks = result_is (type_trees c.types) c.ops op s.op r (spot_parts c op s h) own ∙ ap (option_map (type_at (type_trees c.types))) none in
    none-some filled.type (sym lacks ∙ filled.result)

-- ---- the constant of LLVM

-- what an operation with a result of that type becomes, in a module
pub record IsConstFor (o : DialectOp) (type : TypeTree) (m : Module) (k : LLVMConst) : Type 0 where
  pub constant : is_constant o ≡ true
  pub result : o.result ≡ Some type
  pub typed : HasType m (V.Const k) type
  pub tree : const_at (trees_of m).consts k ≡ constant_of o.result o.kind

-- a constant that is there has the type that its tree says
const_typed : (m : Module) (c : LLVMConst) (type : TypeTree) → IsModule m → c.0 < length m.consts → L.const_type (const_at (trees_of m).consts c) ≡ type → HasType m (V.Const c) type
const_typed m c type sound there is = let k = item_there m.consts c.0 there in (const_type k.0, ap (option_map const_type) k.1, sym (const_type_of m c k.0 sound k.1) ∙ is)

pub constant_for : (c : ContextData) (m : Module) (o : DialectOp) (value : ConstAttr) (type : TypeTree) (k : LLVMConst) → IsModule m → ConstantParts (structs_of c.types) o (attr_tree (type_trees c.types) (attr_data value)) type → IsConstOf (type_trees c.types) m (attr_data value) k
    → IsConstFor o type m k
constant_for c m o value type k sound parts made =
    let a = attr_tree (type_trees c.types) (attr_data value) in
    record {
      constant = ap is_constant_kind parts.kind;
      result = parts.result;
      typed = const_typed m k type sound made.0 (ap L.const_type made.1 ∙ (good_const (structs_of c.types) a parts.keeps parts.short).typed ∙ parts.typed);
      tree = made.1 ∙ sym (ap (constant_of o.result) parts.kind);
    }

pub filled_for : (m : Module) (o : DialectOp) (fill : Fill) (type : TypeTree) (k : LLVMConst) → IsModule m → FilledParts o fill type → k.0 < length m.consts → const_at (trees_of m).consts k ≡ filled_const fill type → IsConstFor o type m k
filled_for m o fill type k sound parts there made = record {
  constant = ap is_constant_kind parts.kind;
  result = parts.result;
  typed = const_typed m k type sound there (ap L.const_type made ∙ filled_type fill type);
  tree = made ∙ sym (ap (constant_of o.result) parts.kind ∙ ap (λ (r : Option TypeTree). filled_const fill (option_type r)) parts.result);
}

-- ---- what a constant uses

-- it has neither operands nor successors, so nothing of it is refused
pub constant_accepted : (c : ContextData) (op : OpRef) (s : Spot) (k : OpKind) (kind : Kind) → IsSpot c op s → kind_at c.ops op ≡ Some k → kind_of (type_trees c.types) k ≡ Some kind → is_constant_kind kind ≡ true → IsAcceptedOp s.task.numbers.order s.task.source s.place s.at s.op
constant_accepted c op s k kind h at is constant =
    let p = spot_kind c op s k kind h at is in
    let bare = constant_takes (value_type s.task.source) s.task.source s.op.operands s.op.result s.op.successors kind constant p.1 in
    let Before : Value → Type 0 = StandsBeforeIn s.task.numbers.order s.task.source s.place s.at in
    record {
      uses = subst (λ (vs : List Value). All Before (vs ++ flat_map (λ (e : Successor). e.args) s.op.successors)) (sym bare.0)
          (subst (λ (es : List Successor). All Before ([] ++ flat_map (λ (e : Successor). e.args) es)) (sym bare.1) (All-nil Before));
      named = λ other. absurd (let e : true ≡ false = sym (ap is_constant_kind p.0 ∙ constant) ∙ other in cc);
    }
