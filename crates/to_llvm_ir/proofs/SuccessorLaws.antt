-- Which operations lead somewhere, and where two edges of one differ.
use Rattle.std.proofs.Common.{◌≡◌, ◌<◌, ℕ, zero, suc, Bool, true, false, not, Decides, List, [], ◌∷◌, ◌++◌, Option, Some, All, length, slice_get, refl, sym, ap, ◌∙◌, arith}
use Rattle.std.specs.List.{flat_map}
use Rattle.std.proofs.lemmas.Option.{same_Some, none-some}
use Rattle.std.proofs.lemmas.List.Elements.{All-head, All-tail}
use Rattle.std.proofs.lemmas.List.{append-nil}
use Rattle.std.proofs.lemmas.List.Concat.{flat_map-append}
use Rattle.support.proofs.ListLaws.{slice_get-kept}
use Rattle.dialect_types.specs.Trees.{TypeTree}
use Rattle.std.specs.Cmp.Lexicographic.{pointwise}
use Rattle.std.proofs.lemmas.Slice.Eq.{slice_eq-Decides}
use Rattle.dialect_core.specs.declared.numbers.OpRef.{OpRef}
use Rattle.dialect_core.specs.declared.ops.Value.{Value}
use Rattle.dialect_core.specs.declared.ops.Value.TheVariants.{Result, Argument}
use Rattle.dialect_core.specs.contracts.ops.ValuePartialEq.TheImpl as keys
use Rattle.meaning.proofs.SameValues.{same_value-Decides}
use Rattle.dialect_core.specs.declared.ops.Successor.{Successor}
use Rattle.dialect_core.specs.ContextData.{ContextData}
use Rattle.kinds.specs.Rules.{ends, target_count}
use Rattle.kinds.specs.Table.{rule_of}
use Rattle.kinds.specs.declared.rules.Leads.{Leads}
use Rattle.kinds.specs.declared.rules.Leads.TheVariants as L
use Rattle.dialect_core.specs.Data.{Kind, ConstantOp, FilledOp, RowOp, DialectOp, DialectBlock, Func, value_type}
use Rattle.dialect_core.specs.Rules.{IsOfKind}
use Rattle.dialect_core.specs.Form.{IsFormFunc, is_terminator, is_terminator_kind, edges_of}
use Rattle.to_llvm_ir.specs.declared.to_llvm_err.ToLLVMErr.TheVariants as E
use Rattle.to_llvm_ir.specs.declared.blocks.Blocks.{Blocks}
use Rattle.to_llvm_ir.specs.declared.blocks.Target.{Target}
use Rattle.to_llvm_ir.specs.Causes.{IsFuncCause}
use Rattle.to_llvm_ir.specs.Links.{AreEqualEdges}
use Rattle.to_llvm_ir.specs.States.{Spot, IsSpot, AreAllMapped, found_block}
use Rattle.to_llvm_ir.proofs.EdgeLaws.{edge_among}
use Rattle.to_llvm_ir.proofs.LookupLaws.{op_form, block_form}
use Rattle.to_llvm_ir.proofs.ListLaws.{at_middle}
use Rattle.to_llvm_ir.proofs.OpLaws.{spot_form}
use Rattle.kinds.proofs.TableLaws.{leads_few}

-- ---- how many edges an operation has

pub few : (g : Func) (vs : List Value) (own : Option TypeTree) (ss : List Successor) (k : Kind) → IsOfKind (value_type g) g vs own ss k → length ss < 3
few g vs own ss (ConstantOp constant) h = rw h.ends_here (omega arith)
few g vs own ss (FilledOp fill) h = rw h.ends_here (omega arith)
few g vs own ss (RowOp op) h = let e = h.leads.0 in let f = leads_few op in omega (arith, e, f)

-- an operation has two edges at most
pub few_edges : (c : ContextData) (op : OpRef) (s : Spot) → IsSpot c op s → length s.op.successors < 3
few_edges c op s h = few s.task.source s.op.operands s.op.result s.op.successors s.op.kind (spot_form c op s h).kind

-- ---- the edges of a block

none_of : (ss : List Successor) → length ss ≡ 0 → ss ≡ []
none_of [] e = refl
none_of (s ∷ ss) e = absurd (omega (arith, e))

-- what does not end its block leads nowhere
goes_on : (l : Leads) → ends l ≡ false → target_count l ≡ 0
goes_on L.On e = refl
goes_on (L.To n) e = cc

silent_kind : (g : Func) (vs : List Value) (own : Option TypeTree) (ss : List Successor) (k : Kind) → is_terminator_kind k ≡ false → IsOfKind (value_type g) g vs own ss k → ss ≡ []
silent_kind g vs own ss (ConstantOp constant) e h = h.ends_here
silent_kind g vs own ss (FilledOp fill) e h = h.ends_here
silent_kind g vs own ss (RowOp op) e h = none_of ss (h.leads.0 ∙ goes_on (rule_of op).leads e)

abbrev pub all_edges : List DialectOp → List Successor
all_edges os = flat_map (λ (o : DialectOp). o.successors) os

pub silent_ops : (g : Func) (os : List DialectOp) → All (λ (o : DialectOp). is_terminator o ≡ false) os → ((i : ℕ) (o : DialectOp) → slice_get os i ≡ Some o → IsOfKind (value_type g) g o.operands o.result o.successors o.kind) → all_edges os ≡ []
silent_ops g [] h form = refl
silent_ops g (o ∷ os) h form =
    ap (λ (ss : List Successor). ss ++ all_edges os) (silent_kind g o.operands o.result o.successors o.kind (All-head (λ (o : DialectOp). is_terminator o ≡ false) o os h) (form 0 o refl))
    ∙ silent_ops g os (All-tail (λ (o : DialectOp). is_terminator o ≡ false) o os h) (λ i x at. form (suc i) x at)

-- the edges of a block are those of its last operation
pub last_edges : (g : Func) (form : IsFormFunc g) (j : ℕ) (c : DialectBlock) → slice_get g.blocks j ≡ Some c → (k : ℕ) × (o : DialectOp) × (slice_get c.ops k ≡ Some o) × (edges_of c ≡ o.successors)
last_edges g form j c at =
    let ends = (block_form g form j c at).ends in
    let none = silent_ops g ends.front ends.before (λ i o here.
    (op_form g form j i c o at (ap (λ (os : List DialectOp). slice_get os i) ends.are ∙ slice_get-kept ends.front (ends.last ∷ []) i o here)).kind) in (
      length ends.front,
      ends.last,
      ap (λ (os : List DialectOp). slice_get os (length ends.front)) ends.are ∙ at_middle ends.front ends.last [],
      ap all_edges ends.are ∙ flat_map-append (λ (o : DialectOp). o.successors) ends.front (ends.last ∷ []) ∙ ap (λ (ss : List Successor). ss ++ (ends.last.successors ++ [])) none ∙ append-nil ends.last.successors,
    )

-- ---- two edges of one operation

pub other_edge : (c : ContextData) (op : OpRef) (s : Spot) (blocks : Blocks) (edges : List Successor) (first second : Successor) (place : ℕ) (x : Target) → IsSpot c op s → s.op.successors ≡ edges → AreAllMapped s.task blocks → place ≡ s.place
    → slice_get edges 0 ≡ Some first → slice_get edges 1 ≡ Some second → first.block ≡ second.block → (first.args ≡ second.args → ⊥) → found_block blocks first.block ≡ Some x → IsFuncCause c s.task.source (E.EdgeArgsDiffer place x.place)
other_edge c op s blocks edges first second place x spot are mapped here at at' same differs found d there function =
    let a = edge_among s.block.ops s.at 0 s.op first spot.there (ap (λ (ss : List Successor). slice_get ss 0) are ∙ at) in
    let b = edge_among s.block.ops s.at 1 s.op second spot.there (ap (λ (ss : List Successor). slice_get ss 1) are ∙ at') in
    let target = mapped.only first.block x found in
    record {
      edge = record {
        block = record { place = there; function = s.task.source; here = function; block = s.place; is = s.block; there = spot.here };
        place = a.0;
        edge = first;
        at = a.1;
      };
      from = sym here;
      target = target.block;
      there = ap (slice_get s.task.source.blocks) target.place_is ∙ target.here;
      leads = target.number;
      other_place = b.0;
      other = second;
      at = b.1;
      same = sym same;
      differs = λ e. differs (sym e);
    }

pub equal_one : (ss : List Successor) → length ss < 2 → AreEqualEdges ss
equal_one [] lt i j s t at at' e = absurd (none-some s at)
equal_one (x ∷ []) lt zero zero s t at at' e = ap (λ (y : Successor). y.args) (same_Some s t (sym at ∙ at'))
equal_one (x ∷ []) lt zero (suc j) s t at at' e = absurd (none-some t at')
equal_one (x ∷ []) lt (suc i) j s t at at' e = absurd (none-some s at)
equal_one (x ∷ (y ∷ ss)) lt i j s t at at' e = absurd (omega (arith, lt))

pub equal_two : (ss : List Successor) (first second : Successor) → length ss < 3 → slice_get ss 0 ≡ Some first → slice_get ss 1 ≡ Some second → (first.block ≡ second.block → first.args ≡ second.args) → AreEqualEdges ss
equal_two [] first second lt a b h = absurd (none-some first a)
equal_two (x ∷ []) first second lt a b h = absurd (none-some second b)
equal_two (x ∷ (y ∷ [])) first second lt a b h = two
  where
    one : x ≡ first
    one = same_Some x first a

    other : y ≡ second
    other = same_Some y second b

    both : x.block ≡ y.block → x.args ≡ y.args
    both e = ap (λ (z : Successor). z.args) one ∙ h (ap (λ (z : Successor). z.block) (sym one) ∙ e ∙ ap (λ (z : Successor). z.block) other) ∙ ap (λ (z : Successor). z.args) (sym other)

    two : AreEqualEdges (x ∷ (y ∷ []))
    two zero zero s t at at' e = ap (λ (z : Successor). z.args) (same_Some s t (sym at ∙ at'))
    two zero (suc zero) s t at at' e =
        let p : x ≡ s = same_Some x s at in
        let q : y ≡ t = same_Some y t at' in
        ap (λ (z : Successor). z.args) (sym p) ∙ both (ap (λ (z : Successor). z.block) p ∙ e ∙ ap (λ (z : Successor). z.block) (sym q)) ∙ ap (λ (z : Successor). z.args) q
    two zero (suc (suc j)) s t at at' e = absurd (none-some t at')
    two (suc zero) zero s t at at' e =
        let p : y ≡ s = same_Some y s at in
        let q : x ≡ t = same_Some x t at' in
        ap (λ (z : Successor). z.args) (sym p) ∙ sym (both (ap (λ (z : Successor). z.block) q ∙ sym e ∙ ap (λ (z : Successor). z.block) (sym p))) ∙ ap (λ (z : Successor). z.args) q
    two (suc zero) (suc zero) s t at at' e = ap (λ (z : Successor). z.args) (same_Some s t (sym at ∙ at'))
    two (suc zero) (suc (suc j)) s t at at' e = absurd (none-some t at')
    two (suc (suc i)) j s t at at' e = absurd (none-some s at)
equal_two (x ∷ (y ∷ (z ∷ ss))) first second lt a b h = absurd (omega (arith, lt))

-- ---- `==` at blocks and at lists of values

value_decides : (v w : Value) → Decides (keys.eq-value.it v w) (v ≡ w)
value_decides (Result m) (Result n) = same_value-Decides (Result m) (Result n)
value_decides (Argument b i) (Argument c j) = same_value-Decides (Argument b i) (Argument c j)
value_decides (Result m) (Argument c j) = same_value-Decides (Result m) (Argument c j)
value_decides (Argument b i) (Result n) = same_value-Decides (Argument b i) (Result n)

pub values_differ : (xs ys : List Value) → true ≡ not (pointwise keys.eq-value.it xs ys) → xs ≡ ys → ⊥
values_differ xs ys h e =
    let same : pointwise keys.eq-value.it xs ys ≡ true = (slice_eq-Decides value_decides xs ys (pointwise keys.eq-value.it xs ys) refl).1 e in
    let never : true ≡ false = h ∙ ap not same in
    cc

pub values_same : (xs ys : List Value) (r : Bool) → r ≡ false → r ≡ not (pointwise keys.eq-value.it xs ys) → xs ≡ ys
values_same xs ys r f h = (slice_eq-Decides value_decides xs ys (pointwise keys.eq-value.it xs ys) refl).0 (by (pointwise keys.eq-value.it xs ys) (sym h ∙ f))
  where
    by : (b : Bool) → not b ≡ false → b ≡ true
    by true e = refl
    by false e = cc
