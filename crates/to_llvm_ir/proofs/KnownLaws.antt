-- What is known of the values of a function: those that stand before an operation, and no others.
use Rattle.std.proofs.Common.{◌≡◌, ◌<◌, ◌≤◌, ◌⊎◌, inl, inr, ◌+◌, ℕ, zero, suc, true, false, List, [], ◌∷◌, ◌++◌, Option, Some, None, length, map, take, slice_get, refl, sym, ap, subst, ◌∙◌, arith, ⊎_elim}
use Rattle.std.specs.List.{flat_map}
use Rattle.std.specs.Option.{option_map, option_map_or}
use Rattle.std.proofs.lemmas.Option.{same_Some, none-some, slice_get-map}
use Rattle.std.proofs.lemmas.Bool.{cases_Bool, cases_lt, false≢true}
use Rattle.llvm_core.specs.declared.numbers.LLVMInstRef.{LLVMInstRef}
use Rattle.llvm_core.specs.declared.code.LLVMValue.{LLVMValue}
use Rattle.llvm_core.specs.declared.code.LLVMValue.TheVariants as V
use Rattle.llvm_core.specs.Module.{Module}
use Rattle.llvm_core.specs.Sound.{IsModule}
use Rattle.llvm_core.specs.Parts.{IsPhi}
use Rattle.llvm_core.specs.Data.{trees_of, operand_of, data_of}
use Rattle.support.proofs.ListLaws.{slice_get-kept, slice_get-push, slice_get-push_cases, item_there, slice_get-behind, slice_get-behind_cases, slice_get-take}
use Rattle.llvm_core.proofs.NameLemmas.{slice_get-taken}
use Rattle.dialect_types.specs.Trees.{TypeTree}
use Rattle.dialect_core.specs.declared.numbers.BlockRef.{BlockRef}
use Rattle.dialect_core.specs.declared.numbers.OpRef.{OpRef}
use Rattle.dialect_core.specs.declared.ops.Value.{Value}
use Rattle.dialect_core.specs.declared.ops.Value.TheVariants.{Result, Argument}
use Rattle.dialect_core.specs.ContextData.{ContextData}
use Rattle.dialect_core.specs.Data.{DialectOp, DialectBlock, Func, value_type}
use Rattle.dialect_core.specs.Form.{StandsBefore, ops_before}
use Rattle.meaning.specs.Dialect.{same_value}
use Rattle.meaning.proofs.SameValues.{same_value-Decides}
use Rattle.to_llvm_ir.specs.declared.values.Values.{Values}
use Rattle.to_llvm_ir.specs.Exported.{result, arguments_of}
use Rattle.to_llvm_ir.specs.Made.{Numbers, operand_for}
use Rattle.to_llvm_ir.specs.Growth.{Grows, HasType}
use Rattle.to_llvm_ir.specs.States.{found, Has, IsArgument, IsKnown, AreKnown, all_values, seen_before, Spot, IsNext}
use Rattle.to_llvm_ir.proofs.PlaceLaws.{argument_at, argument_from}
use Rattle.to_llvm_ir.proofs.LookupLaws.{op_among, op_of_block}
use Rattle.to_llvm_ir.proofs.GrowthLaws.{has_type_kept, operand_kept, phi_kept}
use Rattle.to_llvm_ir.proofs.ValueLaws.{IsSet, set_same, set_other}

-- ---- members

pub has_left : (vs ws : List Value) (v : Value) → Has vs v → Has (vs ++ ws) v
has_left vs ws v h = (h.0, slice_get-kept vs ws h.0 v h.1)

pub has_right : (vs ws : List Value) (v : Value) → Has ws v → Has (vs ++ ws) v
has_right vs ws v h = (length vs + h.0, slice_get-behind vs ws h.0 ∙ h.1)

pub has_cases : (vs ws : List Value) (v : Value) → Has (vs ++ ws) v → Has vs v ⊎ Has ws v
has_cases vs ws v h = ⊎_elim (λ a. inl (h.0, a)) (λ b. inr (b.0, b.2)) (slice_get-behind_cases vs ws h.0 v h.1)

pub has_flat : (cs : List DialectBlock) (j : ℕ) (c : DialectBlock) (v : Value) → slice_get cs j ≡ Some c → Has (all_values c) v → Has (flat_map all_values cs) v
has_flat [] j c v at h = absurd (none-some c at)
has_flat (d ∷ cs) zero c v at h = has_left (all_values d) (flat_map all_values cs) v (subst (λ (x : DialectBlock). Has (all_values x) v) (sym (same_Some d c at)) h)
has_flat (d ∷ cs) (suc j) c v at h = has_right (all_values d) (flat_map all_values cs) v (has_flat cs j c v at h)

pub flat_has : (cs : List DialectBlock) (v : Value) → Has (flat_map all_values cs) v → (j : ℕ) × (c : DialectBlock) × (slice_get cs j ≡ Some c) × Has (all_values c) v
flat_has [] v h = absurd (none-some v h.1)
flat_has (d ∷ cs) v h = ⊎_elim
    (λ here. (0, d, refl, here))
    (λ later. let r = flat_has cs v later in (suc r.0, r.1, r.2, r.3))
    (has_cases (all_values d) (flat_map all_values cs) v h)

-- an argument of the block
pub has_argument : (c : DialectBlock) (b : BlockRef) (i : ℕ) → c.number ≡ b.0 → i < length c.args → Has (arguments_of c) (Argument b i)
has_argument c b i is lt =
    let t = item_there c.args i lt in
    (i, argument_at c.number 0 c.args i t.0 t.1 ∙ ap (λ (k : ℕ). Some (Argument (record { 0 = c.number }) k)) (let e : 0 + i ≡ i = omega arith in e) ∙ ap (λ (m : ℕ). Some (Argument (record { 0 = m }) i)) is)

pub is_argument : (c : DialectBlock) (v : Value) → Has (arguments_of c) v → (i : ℕ) × (v ≡ Argument (record { 0 = c.number }) i) × (i < length c.args)
is_argument c v h = let r = argument_from c.number 0 c.args h.0 v h.1 in (h.0, r.0 ∙ ap (λ (k : ℕ). Argument (record { 0 = c.number }) k) (let e : 0 + h.0 ≡ h.0 = omega arith in e), r.1)

pub has_result : (os : List DialectOp) (i : ℕ) (o : DialectOp) → slice_get os i ≡ Some o → Has (map result os) (result o)
has_result os i o at = (i, slice_get-map result os i ∙ ap (option_map result) at)

pub is_result : (os : List DialectOp) (v : Value) → Has (map result os) v → (i : ℕ) × (o : DialectOp) × (slice_get os i ≡ Some o) × (v ≡ result o)
is_result os v h = by (slice_get os h.0) refl (sym (slice_get-map result os h.0) ∙ h.1)
  where
    by : (x : Option DialectOp) → slice_get os h.0 ≡ x → option_map result x ≡ Some v → (i : ℕ) × (o : DialectOp) × (slice_get os i ≡ Some o) × (v ≡ result o)
    by None e f = absurd (none-some v f)
    by (Some o) e f = (h.0, o, e, sym (same_Some (result o) v f))

-- ---- what stands before an operation

abbrev pub seen_at : Func → ℕ → ℕ → DialectBlock → List Value
seen_at g j k c = seen_before g j ++ (arguments_of c ++ map result (take k c.ops))

before_is : (g : Func) (j k : ℕ) (c : DialectBlock) → slice_get g.blocks j ≡ Some c → ops_before g j k ≡ flat_map (λ (b : DialectBlock). b.ops) (take j g.blocks) ++ take k c.ops
before_is g j k c at = ap (λ (o : Option DialectBlock). flat_map (λ (b : DialectBlock). b.ops) (take j g.blocks) ++ option_map_or (λ (b : DialectBlock). take k b.ops) o []) at

same_result : (o : DialectOp) (r : OpRef) → o.number ≡ r.0 → result o ≡ Result r
same_result o r e = ap (λ (m : ℕ). Result (record { 0 = m })) e

pub stands_seen : (g : Func) (j k : ℕ) (c : DialectBlock) (v : Value) → slice_get g.blocks j ≡ Some c → StandsBefore g j k v → Has (seen_at g j k c) v
stands_seen g j k c (Result r) at h =
    let ops = flat_map (λ (b : DialectBlock). b.ops) (take j g.blocks) in
    let there : slice_get (ops ++ take k c.ops) h.0 ≡ Some h.1 = ap (λ (os : List DialectOp). slice_get os h.0) (sym (before_is g j k c at)) ∙ h.2 in
    subst (Has (seen_at g j k c)) (same_result h.1 r h.3)
    (⊎_elim
    (λ early. let b = op_of_block (take j g.blocks) h.0 h.1 early in has_left (seen_before g j) (arguments_of c ++ map result (take k c.ops)) (result h.1) (has_flat (take j g.blocks) b.0 b.2 (result h.1) b.3 (has_right (arguments_of b.2) (map result b.2.ops) (result h.1) (has_result b.2.ops b.1 h.1 b.4))))
    (λ here. has_right (seen_before g j) (arguments_of c ++ map result (take k c.ops)) (result h.1) (has_right (arguments_of c) (map result (take k c.ops)) (result h.1) (has_result (take k c.ops) here.0 h.1 here.2)))
    (slice_get-behind_cases ops (take k c.ops) h.0 h.1 there))
stands_seen g j k c (Argument b i) at h = by (cases_lt h.0 j)
  where
    by : (h.0 < j) ⊎ (j ≤ h.0) → Has (seen_at g j k c) (Argument b i)
    by (inl early) = has_left (seen_before g j) (arguments_of c ++ map result (take k c.ops)) (Argument b i) (has_flat (take j g.blocks) h.0 h.1 (Argument b i) (slice_get-taken j g.blocks h.0 h.1 early h.3) (has_left (arguments_of h.1) (map result h.1.ops) (Argument b i) (has_argument h.1 b i h.4 h.5)))
    by (inr late) =
        let same : h.0 ≡ j = let le = h.2 in omega (arith, le, late) in
        let is : h.1 ≡ c = same_Some h.1 c (sym h.3 ∙ ap (slice_get g.blocks) same ∙ at) in
        has_right (seen_before g j) (arguments_of c ++ map result (take k c.ops)) (Argument b i) (has_left (arguments_of c) (map result (take k c.ops)) (Argument b i) (has_argument c b i (ap (λ (x : DialectBlock). x.number) (sym is) ∙ h.4) (subst (λ (x : DialectBlock). i < length x.args) is h.5)))

-- a value of a block before, and of the block itself
early_stands : (g : Func) (j k : ℕ) (v : Value) → (x : ℕ) (d : DialectBlock) → slice_get (take j g.blocks) x ≡ Some d → Has (all_values d) v → StandsBefore g j k v
early_stands g j k v x d at h = ⊎_elim
    (λ arg. let a = is_argument d v arg in let p = slice_get-take j g.blocks x d at in subst (StandsBefore g j k) (sym a.1) (x, d, (let lt = p.0 in omega (arith, lt)), p.1, refl, a.2))
    (λ res. let r = is_result d.ops v res in let i = op_among (take j g.blocks) x r.0 d r.1 at r.2 in subst (StandsBefore g j k) (sym r.3) (i.0, r.1, slice_get-kept (flat_map (λ (b : DialectBlock). b.ops) (take j g.blocks)) (option_map_or (λ (b : DialectBlock). take k b.ops) (slice_get g.blocks j) []) i.0 r.1 i.1, refl))
    (has_cases (arguments_of d) (map result d.ops) v h)

pub seen_stands : (g : Func) (j k : ℕ) (c : DialectBlock) (v : Value) → slice_get g.blocks j ≡ Some c → Has (seen_at g j k c) v → StandsBefore g j k v
seen_stands g j k c v at h = ⊎_elim
    (λ early. let f = flat_has (take j g.blocks) v early in early_stands g j k v f.0 f.1 f.2 f.3)
    (λ here. ⊎_elim
    (λ arg. let a = is_argument c v arg in subst (StandsBefore g j k) (sym a.1) (j, c, omega arith, at, refl, a.2))
    (λ res.
    let r = is_result (take k c.ops) v res in
    let ops = flat_map (λ (b : DialectBlock). b.ops) (take j g.blocks) in
    subst (StandsBefore g j k) (sym r.3) (length ops + r.0, r.1, ap (λ (os : List DialectOp). slice_get os (length ops + r.0)) (before_is g j k c at) ∙ slice_get-behind ops (take k c.ops) r.0 ∙ r.2, refl))
    (has_cases (arguments_of c) (map result (take k c.ops)) v here))
    (has_cases (seen_before g j) (arguments_of c ++ map result (take k c.ops)) v h)

-- ---- the module grows, and values are set

pub one_known : (g : Func) (n : Numbers) (values values' : Values) (m m' : Module) (v : Value) (type : TypeTree) → IsModule m → Grows m m' → found values' v ≡ found values v → IsKnown g n values m v type → IsKnown g n values' m' v type
one_known g n values values' m m' v type s grows same h = record {
  value = h.value;
  found = same ∙ h.found;
  typed = has_type_kept m m' h.value type s grows h.typed;
  stands = operand_kept m m' h.value h.typed.0 s grows h.typed.1 ∙ h.stands;
  phi = λ i e a. phi_kept m m' i grows (h.phi i e a);
}

pub all_known : (g : Func) (n : Numbers) (seen : List Value) (values : Values) (m m' : Module) → IsModule m → Grows m m' → AreKnown g n seen values m → AreKnown g n seen values m'
all_known g n seen values m m' s grows h = record { known = λ v type has typed. one_known g n values values m m' v type s grows refl (h.known v type has typed); only = h.only }

-- the same values in another list
pub known_other : (g : Func) (n : Numbers) (seen seen' : List Value) (values : Values) (m : Module) → ((v : Value) → Has seen' v → Has seen v) → ((v : Value) → Has seen v → Has seen' v) → AreKnown g n seen values m → AreKnown g n seen' values m
known_other g n seen seen' values m back on h = record { known = λ v type has typed. h.known v type (back v has) typed; only = λ v x at. on v (h.only v x at) }

-- another number for the next value
pub known_count : (g : Func) (n : Numbers) (seen : List Value) (values values' : Values) (m : Module) → ((v : Value) → found values' v ≡ found values v) → AreKnown g n seen values m → AreKnown g n seen values' m
known_count g n seen values values' m same h = record {
  known = λ v type has typed. let k = h.known v type has typed in record { value = k.value; found = same v ∙ k.found; typed = k.typed; stands = k.stands; phi = k.phi };
  only = λ v x at. h.only v x (sym (same v) ∙ at);
}

-- one more value, which has no type
pub known_void : (g : Func) (n : Numbers) (seen : List Value) (values : Values) (m m' : Module) (v : Value) → IsModule m → Grows m m' → value_type g v ≡ None → AreKnown g n seen values m → AreKnown g n (seen ++ v ∷ []) values m'
known_void g n seen values m m' v s grows none h = record {
  known = λ w type has typed. ⊎_elim
      (λ old. one_known g n values values m m' w type s grows refl (h.known w type (has.0, old) typed))
      (λ new. absurd (none-some type (sym none ∙ ap (value_type g) (sym new.1) ∙ typed)))
      (slice_get-push_cases seen v has.0 w has.1);
  only = λ w x at. has_left seen (v ∷ []) w (h.only w x at);
}

-- what is new of a value
pub record IsNew (g : Func) (n : Numbers) (m : Module) (v : Value) (x : LLVMValue) (type : TypeTree) : Type 0 where
  pub typed : HasType m x type
  pub stands : operand_of (trees_of m) x ≡ operand_for g n v
  pub phi : (i : LLVMInstRef) → x ≡ V.Inst i → IsArgument v → IsPhi m.insts i

-- one more value
pub known_set : (g : Func) (n : Numbers) (seen : List Value) (values values' : Values) (m m' : Module) (v : Value) (x : LLVMValue) (type : TypeTree) → IsModule m → Grows m m' → value_type g v ≡ Some type → IsSet (found values) (found values') v x → IsNew g n m' v x type
    → AreKnown g n seen values m → AreKnown g n (seen ++ v ∷ []) values' m'
known_set g n seen values values' m m' v x type s grows typed set new h = record {
  known = λ w t has is. ⊎_elim
      (λ same. this w t ((same_value-Decides v w).0 same) same is)
      (λ differs. one_known g n values values' m m' w t s grows (set_other (found values) (found values') v w x set differs) (h.known w t (old w has differs) is))
      (cases_Bool (same_value v w));
  only = λ w y at. ⊎_elim
      (λ same. (length seen, at_last ∙ ap Some ((same_value-Decides v w).0 same)))
      (λ differs. has_left seen (v ∷ []) w (h.only w y (sym (set_other (found values) (found values') v w x set differs) ∙ at)))
      (cases_Bool (same_value v w));
}
  where
    at_last : slice_get (seen ++ v ∷ []) (length seen) ≡ Some v
    at_last = slice_get-push seen v (length seen) refl

    old : (w : Value) → Has (seen ++ v ∷ []) w → same_value v w ≡ false → Has seen w
    old w has differs = ⊎_elim (λ a. (has.0, a)) (λ b. absurd (false≢true (sym differs ∙ (same_value-Decides v w).1 (sym b.1)))) (slice_get-push_cases seen v has.0 w has.1)

    this : (w : Value) (t : TypeTree) → v ≡ w → same_value v w ≡ true → value_type g w ≡ Some t → IsKnown g n values' m' w t
    this w t e same is =
        let type_is : type ≡ t = same_Some type t (sym typed ∙ ap (value_type g) e ∙ is) in
        record {
          value = x;
          found = set_same (found values) (found values') v w x set same;
          typed = subst (λ (u : TypeTree). HasType m' x u) type_is new.typed;
          stands = new.stands ∙ ap (operand_for g n) e;
          phi = λ i f a. new.phi i f (subst IsArgument (sym e) a);
        }

-- ---- types that are added

-- they leave the spot as it was
pub next_typed : (c : ContextData) (op : OpRef) (s : Spot) (values : Values) (m m' : Module) → IsNext c op s values m → Grows m m' → m' ≡ record m { types = m'.types } → data_of m' ≡ data_of m → IsModule m' → IsNext c op s values m'
next_typed c op s values m m' h grows rest same sound = record {
  spot = h.spot;
  state = record {
    is = same ∙ h.state.is;
    sound = sound;
    block_count = ap (λ (x : Module). length x.blocks) rest ∙ h.state.block_count;
    inst_count = ap (λ (x : Module). length x.insts) rest ∙ h.state.inst_count;
    next = h.state.next;
    known = all_known s.task.source s.task.numbers _ values m m' h.state.sound grows h.state.known;
  };
}
