-- The operations and values of a function of the dialect, in the names of the program.
use Rattle.std.proofs.Common.{◌≡◌, ◌<◌, ℕ, Bool, true, false, List, [], ◌∷◌, Option, Some, None, All, length, map, slice_get, get_or, refl, sym, ap, subst, ◌∙◌}
use Rattle.std.specs.Prelude.{IfSome, nat_eq, if◌then◌else◌}
use Rattle.std.specs.List.{filter_map, find}
use Rattle.std.specs.Option.{option_map, option_and_then}
use Rattle.std.proofs.Common.{eqb-true}
use Rattle.std.proofs.lemmas.Option.{same_Some, none-some, slice_get_within}
use Rattle.std.proofs.lemmas.List.Elements.{All-nil, All-head, All-tail, All-weaker}
use Rattle.kinds.specs.declared.fill.Fill.{Fill}
use Rattle.kinds.specs.declared.op.Op.{Op}
use Rattle.kinds.specs.Held.{IsFirstClass}
use Rattle.dialect_types.specs.declared.types.TypeHandle.{TypeHandle}
use Rattle.const_attrs.specs.declared.const_attr.ConstAttr.{ConstAttr}
use Rattle.const_attrs.specs.Trees.{attr_data, HasTypesBelow}
use Rattle.dialect_types.specs.Trees.{TypeTree, type_at, type_trees}
use Rattle.dialect_core.specs.declared.numbers.OpRef.{OpRef}
use Rattle.dialect_core.specs.declared.numbers.BlockRef.{BlockRef}
use Rattle.dialect_core.specs.declared.ops.Value.{Value}
use Rattle.dialect_core.specs.declared.ops.Value.TheVariants as V
use Rattle.dialect_core.specs.declared.ops.Successor.{Successor}
use Rattle.dialect_core.specs.declared.ops.OpData.{OpData}
use Rattle.dialect_core.specs.declared.ops.OpKind.{OpKind}
use Rattle.dialect_core.specs.declared.ops.OpKind.TheVariants as O
use Rattle.dialect_core.specs.declared.ops.BlockData.{BlockData}
use Rattle.dialect_core.specs.declared.ops.Symbol.{Symbol}
use Rattle.dialect_core.specs.Lists.{list_at}
use Rattle.dialect_core.specs.ContextData.{ContextData}
use Rattle.dialect_core.specs.Data.{DialectOp, DialectBlock, Func, Kind, ConstantOp, FilledOp, RowOp, IsTyped, HasKindTypesBelow, kind_of, op_of, op_at, block_of, block_in, func_with, func_of, func_in, type_in}
use Rattle.dialect_core.specs.Rules.{Typing, IsFirstClassBy, IsOfKind}
use Rattle.meaning.specs.Machine as Machine
use Rattle.meaning.specs.Setting.{Setting}
use Rattle.meaning.specs.Dialect as Dialect
use Rattle.meaning.specs.Dialect.{same_value, option_type, typed_action}
use Rattle.tracing.specs.declared.body.Slot.{Slot}
use Rattle.tracing.specs.declared.body.Slot.TheVariants.{Result}
use Rattle.tracing.specs.declared.body.Source.{Source}
use Rattle.tracing.specs.declared.body.Action.TheVariants as A
use Rattle.tracing.specs.declared.trace.Types.{Types}
use Rattle.tracing.specs.Types.{Stands, AllStand}
use Rattle.tracing.specs.Contents.{Contents}
use Rattle.tracing.proofs.GrowLaws.{applies}
use Rattle.tracing.specs.Renamed.{renamed, renamed_action, renamed_row}
use Rattle.tracing.specs.Bodies.{same_slot, AreSources, IsAction}
use Rattle.tracing.specs.DialectBodies.{slot_of, InContext, AreOpsIn, IsOpIn, IsUsed}
use Rattle.tracing.proofs.ListLaws.{StandsBy, matched_at, mapped_twice}

-- two values are one where their slots are
pub values_apart : (a b : Value) → same_slot (slot_of a) (slot_of b) ≡ same_value a b
values_apart (V.Result m) (V.Result n) = refl
values_apart (V.Argument b i) (V.Argument c j) = refl
values_apart (V.Result m) (V.Argument c j) = refl
values_apart (V.Argument b i) (V.Result n) = refl

-- ---- operations and blocks as the context keeps them

-- an operation as it is kept
pub record KeptOp (c : ContextData) (r : OpRef) (o : DialectOp) : Type 0 where
  pub kept : OpData
  pub there : slice_get c.ops r.0 ≡ Some kept
  pub number : o.number ≡ r.0
  pub kind : kind_of (type_trees c.types) kept.kind ≡ Some o.kind
  pub operands : o.operands ≡ kept.operands
  pub successors : o.successors ≡ kept.successors
  pub result : o.result ≡ option_map (type_at (type_trees c.types)) kept.result

pub kept_op : (c : ContextData) (r : OpRef) (o : DialectOp) → op_at (type_trees c.types) c.ops r ≡ Some o → KeptOp c r o
kept_op c r o is = by (slice_get c.ops r.0) refl is
  where
    made : (x : OpData) (k : Option Kind) → slice_get c.ops r.0 ≡ Some x → kind_of (type_trees c.types) x.kind ≡ k
        → option_map (λ (k : Kind). let d : DialectOp = record { number = r.0; name = x.name; kind = k; operands = x.operands; successors = x.successors; result = option_map (type_at (type_trees c.types)) x.result } in d) k ≡ Some o → KeptOp c r o
    made x None at kind e = absurd (none-some o e)
    made x (Some k) at kind e =
        let same = sym (same_Some _ o e) in
        record {
          kept = x;
          there = at;
          number = ap (λ (d : DialectOp). d.number) same;
          kind = kind ∙ ap Some (sym (ap (λ (d : DialectOp). d.kind) same));
          operands = ap (λ (d : DialectOp). d.operands) same;
          successors = ap (λ (d : DialectOp). d.successors) same;
          result = ap (λ (d : DialectOp). d.result) same;
        }

    by : (x : Option OpData) → slice_get c.ops r.0 ≡ x → option_and_then (op_of (type_trees c.types) r) x ≡ Some o → KeptOp c r o
    by None at e = absurd (none-some o e)
    by (Some x) at e = made x (kind_of (type_trees c.types) x.kind) at refl e

-- a block as it is kept
pub record KeptBlock (c : ContextData) (b : BlockRef) (d : DialectBlock) : Type 0 where
  pub kept : BlockData
  pub there : slice_get c.blocks b.0 ≡ Some kept
  pub number : d.number ≡ b.0
  pub args : d.args ≡ map (type_at (type_trees c.types)) kept.args
  pub ops : d.ops ≡ filter_map (op_at (type_trees c.types) c.ops) (list_at c.lists b)

pub kept_block : (c : ContextData) (b : BlockRef) (d : DialectBlock) → block_in (type_trees c.types) c b ≡ Some d → KeptBlock c b d
kept_block c b d is = by (slice_get c.blocks b.0) refl is
  where
    by : (x : Option BlockData) → slice_get c.blocks b.0 ≡ x → option_map (block_of (type_trees c.types) c b) x ≡ Some d → KeptBlock c b d
    by None at e = absurd (none-some d e)
    by (Some x) at e =
        let same = sym (same_Some _ d e) in
        record {
          kept = x;
          there = at;
          number = ap (λ (y : DialectBlock). y.number) same;
          args = ap (λ (y : DialectBlock). y.args) same;
          ops = ap (λ (y : DialectBlock). y.ops) same;
        }

-- a function's operation as it is kept: the blocks of the function are those of its region
pub record KeptFunc (c : ContextData) (r : OpRef) (f : Func) : Type 0 where
  pub kept : OpData
  pub there : slice_get c.ops r.0 ≡ Some kept
  pub blocks : f.blocks ≡ filter_map (block_in (type_trees c.types) c) kept.blocks

pub kept_func : (c : ContextData) (r : OpRef) (f : Func) → func_in (type_trees c.types) c r ≡ Some f → KeptFunc c r f
kept_func c r f is = by (slice_get c.ops r.0) refl is
  where
    made : (x : OpData) (s : Option Symbol) → slice_get c.ops r.0 ≡ Some x → func_with (type_trees c.types) r (record x { symbol = s }) (filter_map (block_in (type_trees c.types) c) x.blocks) ≡ Some f → KeptFunc c r f
    made x None at e = absurd (none-some f e)
    made x (Some s) at e = record { kept = x; there = at; blocks = ap (λ (y : Func). y.blocks) (sym (same_Some _ f e)) }

    by : (x : Option OpData) → slice_get c.ops r.0 ≡ x → option_and_then (func_of (type_trees c.types) c r) x ≡ Some f → KeptFunc c r f
    by None at e = absurd (none-some f e)
    by (Some x) at e = made x x.symbol at e

-- ---- values by number

-- what is found has the number, and what all have
pub record Found {X : Type 0} (P : X → Type 0) (number : X → ℕ) (n : ℕ) (x : X) : Type 0 where
  pub holds : P x
  pub is : number x ≡ n

pub found : {X : Type 0} (P : X → Type 0) (number : X → ℕ) (xs : List X) (n : ℕ) (x : X) → find (λ (y : X). nat_eq (number y) n) xs ≡ Some x → All P xs → Found P number n x
found P number [] n x h all = absurd (none-some x h)
found {X} P number (y ∷ xs) n x h all = by (nat_eq (number y) n) refl h (λ k. found P number xs n x k (All-tail P y xs all))
  where
    by : (t : Bool) → nat_eq (number y) n ≡ t → (if t then Some y else find (λ (z : X). nat_eq (number z) n) xs) ≡ Some x → (find (λ (z : X). nat_eq (number z) n) xs ≡ Some x → Found P number n x) → Found P number n x
    by true e k rest =
        let same : y ≡ x = same_Some y x k in
        record { holds = subst P same (All-head P y xs all); is = ap number (sym same) ∙ eqb-true (number y) n e }
    by false e k rest = rest k

-- the operation whose result is a value of that type
pub record ResultRead (c : ContextData) (r : OpRef) (type : TypeTree) : Type 0 where
  pub op : DialectOp
  pub here : op_at (type_trees c.types) c.ops r ≡ Some op
  pub typed : op.result ≡ Some type

-- the block whose argument at a place is a value of that type
pub record ArgumentRead (c : ContextData) (b : BlockRef) (i : ℕ) (type : TypeTree) : Type 0 where
  pub block : DialectBlock
  pub here : block_in (type_trees c.types) c b ≡ Some block
  pub typed : slice_get block.args i ≡ Some type

pub result_read : (c : ContextData) (r : OpRef) (type : TypeTree) → type_in c (V.Result r) ≡ Some type → ResultRead c r type
result_read c r type is = by (op_at (type_trees c.types) c.ops r) refl is
  where
    by : (x : Option DialectOp) → op_at (type_trees c.types) c.ops r ≡ x → option_and_then (λ (o : DialectOp). o.result) x ≡ Some type → ResultRead c r type
    by None at e = absurd (none-some type e)
    by (Some o) at e = record { op = o; here = at; typed = e }

pub argument_read : (c : ContextData) (b : BlockRef) (i : ℕ) (type : TypeTree) → type_in c (V.Argument b i) ≡ Some type → ArgumentRead c b i type
argument_read c b i type is = by (block_in (type_trees c.types) c b) refl is
  where
    by : (x : Option DialectBlock) → block_in (type_trees c.types) c b ≡ x → option_and_then (λ (d : DialectBlock). slice_get d.args i) x ≡ Some type → ArgumentRead c b i type
    by None at e = absurd (none-some type e)
    by (Some d) at e = record { block = d; here = at; typed = e }

-- ---- types read from the context

result_same : (c : ContextData) (r : OpRef) (o : DialectOp) (t : Option TypeHandle) (k : KeptOp c r o) → option_map (λ (x : OpData). x.result) (slice_get c.ops r.0) ≡ Some t → k.kept.result ≡ t
result_same c r o t k is = same_Some k.kept.result t (sym (ap (option_map (λ (x : OpData). x.result)) k.there) ∙ is)

pub result_within : (c : ContextData) (r : OpRef) (o : DialectOp) (t : Option TypeHandle) → IsTyped c → op_at (type_trees c.types) c.ops r ≡ Some o → option_map (λ (x : OpData). x.result) (slice_get c.ops r.0) ≡ Some t → IfSome t (λ (t : TypeHandle). t.0 < length c.types)
result_within c r o t typed at is =
    let k = kept_op c r o at in
    subst (λ (v : Option TypeHandle). IfSome v (λ (t : TypeHandle). t.0 < length c.types)) (result_same c r o t k is) (typed.ops r.0 k.kept k.there).result

pub result_tree : (c : ContextData) (r : OpRef) (o : DialectOp) (t : Option TypeHandle) → op_at (type_trees c.types) c.ops r ≡ Some o → option_map (λ (x : OpData). x.result) (slice_get c.ops r.0) ≡ Some t → o.result ≡ option_map (type_at (type_trees c.types)) t
result_tree c r o t at is = let k = kept_op c r o at in k.result ∙ ap (option_map (type_at (type_trees c.types))) (result_same c r o t k is)

pub op_within : (c : ContextData) (r : OpRef) (o : DialectOp) → op_at (type_trees c.types) c.ops r ≡ Some o → r.0 < length c.ops
op_within c r o at = let k = kept_op c r o at in slice_get_within c.ops r.0 k.kept k.there

-- ---- operands

-- the operation whose result an operand is
pub record UsedResult (c : ContextData) (r : OpRef) (v : Value) : Type 0 where
  pub op : DialectOp
  pub here : op_at (type_trees c.types) c.ops r ≡ Some op
  pub typed : op.result ≡ type_in c v
  pub first_class : IfSome op.result IsFirstClass

pub used_result : (c : ContextData) (r : OpRef) (v : Value) → v ≡ V.Result r → IsUsed c v → UsedResult c r v
used_result c r v is used =
    let k = result_read c r used.type (ap (type_in c) (sym is) ∙ used.typed) in
    record { op = k.op; here = k.here; typed = k.typed ∙ sym used.typed; first_class = subst (λ (t : Option TypeTree). IfSome t IsFirstClass) (sym k.typed) used.first_class }

-- the block whose argument an operand is
pub used_argument : (c : ContextData) (b : BlockRef) (i : ℕ) (v : Value) → v ≡ V.Argument b i → (used : IsUsed c v) → ArgumentRead c b i used.type
used_argument c b i v is used = argument_read c b i used.type (ap (type_in c) (sym is) ∙ used.typed)

module _ (c : ContextData) (g : Func) where
  -- the operands of a well-formed operation are values of the context, of first class types
  pub used_all : (vs : List Value) (own : Option TypeTree) (edges : List Successor) (k : Kind) → IsOfKind (type_in c) g vs own edges k → All (IsUsed c) vs
  used_all vs own edges (ConstantOp value) is = subst (All (IsUsed c)) (sym is.bare) (All-nil (IsUsed c))
  used_all vs own edges (FilledOp fill) is = subst (All (IsUsed c)) (sym is.bare) (All-nil (IsUsed c))
  used_all vs own edges (RowOp op) is = All-weaker (IsFirstClassBy (type_in c)) (IsUsed c) (λ v h. record { type = h.0; typed = h.1; first_class = h.2 }) vs is.values

  -- and so is its result, where it has one
  pub first_class_result : (vs : List Value) (own : Option TypeTree) (edges : List Successor) (k : Kind) → IsOfKind (type_in c) g vs own edges k → IfSome own IsFirstClass
  first_class_result vs own edges (ConstantOp value) is = rw is.result is.value
  first_class_result vs own edges (FilledOp fill) is = rw is.result is.value
  first_class_result vs own edges (RowOp op) is = is.value

  -- zero, undef or poison has a result
  pub filled_type : (vs : List Value) (own : Option TypeTree) (edges : List Successor) (k : Kind) (fill : Fill) → k ≡ FilledOp fill → IsOfKind (type_in c) g vs own edges k → (type : TypeTree) × (own ≡ Some type) × IsFirstClass type
  filled_type vs own edges k fill is h = let f = subst (IsOfKind (type_in c) g vs own edges) is h in (f.type, f.result, f.value)

pub operands_kept : (c : ContextData) (r : OpRef) (o : DialectOp) (vs : List Value) → op_at (type_trees c.types) c.ops r ≡ Some o → option_map (λ (x : OpData). x.operands) (slice_get c.ops r.0) ≡ Some vs → o.operands ≡ vs
operands_kept c r o vs at is = let k = kept_op c r o at in k.operands ∙ same_Some k.kept.operands vs (sym (ap (option_map (λ (x : OpData). x.operands)) k.there) ∙ is)

pub kind_kept : (c : ContextData) (r : OpRef) (o : DialectOp) (k : OpKind) → op_at (type_trees c.types) c.ops r ≡ Some o → option_map (λ (x : OpData). x.kind) (slice_get c.ops r.0) ≡ Some k → kind_of (type_trees c.types) k ≡ Some o.kind
kind_kept c r o k at is =
    let x = kept_op c r o at in
    let same : x.kept.kind ≡ k = same_Some x.kept.kind k (sym (ap (option_map (λ (y : OpData). y.kind)) x.there) ∙ is) in
    ap (kind_of (type_trees c.types)) (sym same) ∙ x.kind

-- ---- constants

pub constant_within : (c : ContextData) (r : OpRef) (o : DialectOp) (value : ConstAttr) → IsTyped c → op_at (type_trees c.types) c.ops r ≡ Some o → option_map (λ (x : OpData). x.kind) (slice_get c.ops r.0) ≡ Some (O.Constant value) → HasTypesBelow (length c.types) (attr_data value)
constant_within c r o value typed at is =
    let x = kept_op c r o at in
    let same : x.kept.kind ≡ O.Constant value = same_Some x.kept.kind (O.Constant value) (sym (ap (option_map (λ (y : OpData). y.kind)) x.there) ∙ is) in
    subst (HasKindTypesBelow (length c.types)) same (typed.ops r.0 x.kept x.there).kind

-- ---- actions and rows

pub applied_is : (now : Contents) (setting : Setting) (types : Typing) (o : DialectOp) (op : Op) (shown : Types) (os : List Source) (vs : List Value) → o.operands ≡ vs → Stands now.types shown.result (option_type o.result)
    → AllStand now.types shown.operands (map (λ (v : Value). option_type (types v)) vs) → AreSources now os (map (λ (v : Value). let o : Machine.Operand Slot = Machine.At (slot_of v) in o) vs)
    → IsAction now (A.Applies op shown os) (renamed_action slot_of (typed_action setting types o (RowOp op)))
applied_is now setting types o op shown os vs operands type operand_types sources =
    applies now op shown os _ _ _ type (subst (λ (ws : List Value). AllStand now.types shown.operands (map (λ (v : Value). option_type (types v)) ws)) (sym operands) operand_types)
    (subst (AreSources now os) (ap (map (λ (v : Value). let o : Machine.Operand Slot = Machine.At (slot_of v) in o)) (sym operands) ∙ sym (mapped_twice (renamed slot_of) (λ (v : Value). let o : Machine.Operand Value = Machine.At v in o) o.operands)) sources)

-- what an operation of a known kind does
pub action_of_kind : (setting : Setting) (c : ContextData) (r : OpRef) (o : DialectOp) (k : OpKind) (kind : Kind) → op_at (type_trees c.types) c.ops r ≡ Some o → option_map (λ (x : OpData). x.kind) (slice_get c.ops r.0) ≡ Some k → kind_of (type_trees c.types) k ≡ Some kind
    → renamed_action slot_of (typed_action setting (type_in c) o kind) ≡ renamed_action slot_of (typed_action setting (type_in c) o o.kind)
action_of_kind setting c r o k kind at kept is = ap (λ (k : Kind). renamed_action slot_of (typed_action setting (type_in c) o k)) (same_Some kind o.kind (sym is ∙ kind_kept c r o k at kept))

row_same : (a : Machine.Action Slot) (n k : ℕ) → n ≡ k → ◌≡◌ {A = Machine.Row Slot} (record { action = a; result = Result n }) (record { action = a; result = Result k })
row_same a n k f = cc

pub row_is : (setting : Setting) (c : ContextData) (r : OpRef) (o : DialectOp) → op_at (type_trees c.types) c.ops r ≡ Some o
    → ◌≡◌ {A = Machine.Row Slot} (record { action = renamed_action slot_of (typed_action setting (type_in c) o o.kind); result = Result r.0 }) (renamed_row slot_of (Dialect.typed_row setting (type_in c) o))
row_is setting c r o at = row_same _ r.0 o.number (sym (kept_op c r o at).number)

abbrev pub some_value : Value
some_value = V.Result (record { 0 = 0 })

abbrev pub some_op : OpRef
some_op = record { 0 = 0 }

-- the operation at a place
pub op_in_at : (c : ContextData) (h : InContext c) (refs : List OpRef) (os : List DialectOp) (i : ℕ) → i < length refs → AreOpsIn c h refs os → StandsBy (IsOpIn c h) (get_or refs i some_op) os i
op_in_at c h refs os i lt all = matched_at (IsOpIn c h) refs os i some_op lt all
