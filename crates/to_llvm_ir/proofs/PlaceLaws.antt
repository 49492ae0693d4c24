-- The values of a function in the order in which they become instructions: no value stands twice.
use Rattle.std.proofs.Common.{◌≡◌, ◌<◌, ◌+◌, ℕ, zero, suc, Bool, true, false, not, List, [], ◌∷◌, ◌++◌, Option, Some, None, length, slice_get, refl, sym, ap, subst, ◌∙◌, arith, ⊎_elim}
use Rattle.std.specs.List.{flat_map}
use Rattle.std.specs.Option.{option_map}
use Rattle.std.proofs.lemmas.Option.{same_Some, none-some, slice_get-map}
use Rattle.std.proofs.lemmas.Bool.{cond-true, cond-false, false_from_ne_true}
use Rattle.support.specs.Interned.{IsDistinctList}
use Rattle.support.proofs.ListLaws.{distinct_nil, slice_get-kept, slice_get-behind, slice_get-behind_cases, filter_from, distinct_rest}
use Rattle.dialect_types.specs.Trees.{TypeTree}
use Rattle.dialect_core.specs.declared.ops.Value.{Value}
use Rattle.dialect_core.specs.declared.ops.Value.TheVariants.{Result, Argument}
use Rattle.dialect_core.specs.Data.{DialectOp, DialectBlock}
use Rattle.dialect_core.specs.Form.{is_constant, others_of}
use Rattle.meaning.specs.Dialect.{same_value}
use Rattle.meaning.proofs.SameValues.{same_value-Decides}
use Rattle.to_llvm_ir.specs.Exported.{result, arguments_from, phi_values, place_in}
use Rattle.to_llvm_ir.specs.Made.{result_values, values_from}
use Rattle.to_llvm_ir.proofs.ListLaws.{AreNumbered, numbered_rest, numbered_front, numbered_back, numbered_apart, filter_numbered, distinct_append}

-- ---- the place of a value

pub place_at : (v : Value) (xs : List Value) (i : ℕ) → IsDistinctList xs → slice_get xs i ≡ Some v → place_in v xs ≡ i
place_at v [] i h at = absurd (none-some v at)
place_at v (x ∷ xs) zero h at = cond-true (same_value x v) 0 (suc (place_in v xs)) ((same_value-Decides x v).1 (same_Some x v at))
place_at v (x ∷ xs) (suc i) h at =
    let ne : same_value x v ≡ false = false_from_ne_true (same_value x v) (λ e. let same = (same_value-Decides x v).0 e in let k : 0 ≡ suc i = h 0 (suc i) x refl (at ∙ ap Some (sym same)) in omega (arith, k)) in
    cond-false (same_value x v) 0 (suc (place_in v xs)) ne ∙ ap suc (place_at v xs i (distinct_rest x xs h) at)

-- ---- numbers of values

abbrev pub number_in : Value → ℕ
number_in (Result r) = r.0
number_in (Argument b i) = b.0

pub result_number : (m n : ℕ) → Result (record { 0 = m }) ≡ Result (record { 0 = n }) → m ≡ n
result_number m n e = ap number_in e

-- ---- arguments

-- an argument of the block, at a place of its own
pub argument_at : (b k : ℕ) (ts : List TypeTree) (i : ℕ) (t : TypeTree) → slice_get ts i ≡ Some t → slice_get (arguments_from b k ts) i ≡ Some (Argument (record { 0 = b }) (k + i))
argument_at b k [] i t at = absurd (none-some t at)
argument_at b k (u ∷ ts) zero t at = ap (λ (j : ℕ). Some (Argument (record { 0 = b }) j)) (let e : k ≡ k + 0 = omega arith in e)
argument_at b k (u ∷ ts) (suc i) t at = argument_at b (suc k) ts i t at ∙ ap (λ (j : ℕ). Some (Argument (record { 0 = b }) j)) (let e : suc k + i ≡ k + suc i = omega arith in e)

pub argument_from : (b k : ℕ) (ts : List TypeTree) (i : ℕ) (v : Value) → slice_get (arguments_from b k ts) i ≡ Some v → (v ≡ Argument (record { 0 = b }) (k + i)) × (i < length ts)
argument_from b k [] i v at = absurd (none-some v at)
argument_from b k (u ∷ ts) zero v at = (sym (same_Some _ v at) ∙ ap (λ (j : ℕ). Argument (record { 0 = b }) j) (let e : k ≡ k + 0 = omega arith in e), omega arith)
argument_from b k (u ∷ ts) (suc i) v at =
    let r = argument_from b (suc k) ts i v at in
    (r.0 ∙ ap (λ (j : ℕ). Argument (record { 0 = b }) j) (let e : suc k + i ≡ k + suc i = omega arith in e), (let lt = r.1 in omega (arith, lt)))

pub arguments_count : (b k : ℕ) (ts : List TypeTree) → length (arguments_from b k ts) ≡ length ts
arguments_count b k [] = refl
arguments_count b k (t ∷ ts) = ap suc (arguments_count b (suc k) ts)

pub arguments_distinct : (b k : ℕ) (ts : List TypeTree) → IsDistinctList (arguments_from b k ts)
arguments_distinct b k ts i j v at at' =
    let p = argument_from b k ts i v at in
    let q = argument_from b k ts j v at' in
    let e : Argument (record { 0 = b }) (k + i) ≡ Argument (record { 0 = b }) (k + j) = sym p.0 ∙ q.0 in
    let same : k + i ≡ k + j = cc in
    omega (arith, same)

-- ---- results

pub result_from : (os : List DialectOp) (i : ℕ) (v : Value) → slice_get (result_values os) i ≡ Some v → (j : ℕ) × (o : DialectOp) × (slice_get os j ≡ Some o) × (v ≡ result o) × (is_constant o ≡ false) × (slice_get (others_of os) i ≡ Some o)
result_from os i v at = by (slice_get (others_of os) i) refl (sym (slice_get-map result (others_of os) i) ∙ at)
  where
    no : (t : Bool) → not t ≡ true → t ≡ false
    no true e = cc
    no false e = refl

    by : (o : Option DialectOp) → slice_get (others_of os) i ≡ o → option_map result o ≡ Some v → (j : ℕ) × (o : DialectOp) × (slice_get os j ≡ Some o) × (v ≡ result o) × (is_constant o ≡ false) × (slice_get (others_of os) i ≡ Some o)
    by None e k = absurd (none-some v k)
    by (Some o) e k = let r = filter_from (λ (o : DialectOp). not (is_constant o)) os i o e in (r.0, o, r.1, sym (same_Some (result o) v k), no (is_constant o) r.2, e)

results_distinct : (os : List DialectOp) → AreNumbered (λ (o : DialectOp). o.number) os → IsDistinctList (result_values os)
results_distinct os h i j v at at' =
    let p = result_from os i v at in
    let q = result_from os j v at' in
    filter_numbered (λ (o : DialectOp). o.number) (λ (o : DialectOp). not (is_constant o)) os h i j p.1 q.1 p.5 q.5 (result_number p.1.number q.1.number (sym p.3 ∙ q.3))

-- ---- where a value comes from

-- an argument of one of the blocks behind the entry, or the result of one of the operations that is no constant
abbrev pub ComesFrom : ℕ → List DialectBlock → Value → Type 0
ComesFrom place cs (Argument b i) = (j : ℕ) × (c : DialectBlock) × (slice_get cs j ≡ Some c) × (c.number ≡ b.0) × (0 < place + j)
ComesFrom place cs (Result r) = (j : ℕ) × (o : DialectOp) × (slice_get (flat_map (λ (c : DialectBlock). c.ops) cs) j ≡ Some o) × (o.number ≡ r.0) × (is_constant o ≡ false)

phis_from : (place : ℕ) (c : DialectBlock) (i : ℕ) (v : Value) → slice_get (phi_values place c) i ≡ Some v → (v ≡ Argument (record { 0 = c.number }) i) × (i < length c.args) × (0 < place + 0)
phis_from zero c i v at = absurd (none-some v at)
phis_from (suc n) c i v at = let r = argument_from c.number 0 c.args i v at in (r.0 ∙ ap (λ (j : ℕ). Argument (record { 0 = c.number }) j) (let e : 0 + i ≡ i = omega arith in e), r.1, omega arith)

pub comes_from : (place : ℕ) (cs : List DialectBlock) (i : ℕ) (v : Value) → slice_get (values_from place cs) i ≡ Some v → ComesFrom place cs v
comes_from place [] i v at = absurd (none-some v at)
comes_from place (c ∷ cs) i v at = ⊎_elim
    (λ here. ⊎_elim
    (λ phi. let p = phis_from place c i v phi in subst (ComesFrom place (c ∷ cs)) (sym p.0) (0, c, refl, refl, p.2))
    (λ res. let r = result_from c.ops res.0 v res.2 in subst (ComesFrom place (c ∷ cs)) (sym r.3) (r.0, r.1, kept r.0 r.1 r.2, refl, r.4))
    (slice_get-behind_cases (phi_values place c) (result_values c.ops) i v here))
    (λ rest. later v (comes_from (suc place) cs rest.0 v rest.2))
    (slice_get-behind_cases (phi_values place c ++ result_values c.ops) (values_from (suc place) cs) i v at)
  where
    kept : (j : ℕ) (o : DialectOp) → slice_get c.ops j ≡ Some o → slice_get (c.ops ++ flat_map (λ (c : DialectBlock). c.ops) cs) j ≡ Some o
    kept j o at = slice_get-kept c.ops (flat_map (λ (c : DialectBlock). c.ops) cs) j o at

    later : (v : Value) → ComesFrom (suc place) cs v → ComesFrom place (c ∷ cs) v
    later (Argument b i) h = (suc h.0, h.1, h.2, h.3, omega arith)
    later (Result r) h = (length c.ops + h.0, h.1, slice_get-behind c.ops (flat_map (λ (c : DialectBlock). c.ops) cs) h.0 ∙ h.2, h.3, h.4)

-- ---- no value stands twice

here_distinct : (place : ℕ) (c : DialectBlock) → AreNumbered (λ (o : DialectOp). o.number) c.ops → IsDistinctList (phi_values place c ++ result_values c.ops)
here_distinct place c h = distinct_append (phi_values place c) (result_values c.ops) (phis place) (results_distinct c.ops h) (λ i j v at at'. let p = phis_from place c i v at in let q = result_from c.ops j v at' in let e : Argument (record { 0 = c.number }) i ≡ result q.1 = sym p.0 ∙ q.3 in cc)
  where
    phis : (place : ℕ) → IsDistinctList (phi_values place c)
    phis zero = distinct_nil
    phis (suc n) = arguments_distinct c.number 0 c.args

pub from_distinct : (place : ℕ) (cs : List DialectBlock) → AreNumbered (λ (c : DialectBlock). c.number) cs → AreNumbered (λ (o : DialectOp). o.number) (flat_map (λ (c : DialectBlock). c.ops) cs) → IsDistinctList (values_from place cs)
from_distinct place [] h k = distinct_nil
from_distinct place (c ∷ cs) h k =
    let rest = flat_map (λ (c : DialectBlock). c.ops) cs in
    distinct_append (phi_values place c ++ result_values c.ops) (values_from (suc place) cs)
    (here_distinct place c (numbered_front (λ (o : DialectOp). o.number) c.ops rest k))
    (from_distinct (suc place) cs (numbered_rest (λ (c : DialectBlock). c.number) c cs h) (numbered_back (λ (o : DialectOp). o.number) c.ops rest k))
    (λ i j v at at'. ⊎_elim
    (λ phi. let p = phis_from place c i v phi in argument i (subst (ComesFrom (suc place) cs) p.0 (comes_from (suc place) cs j v at')))
    (λ res. let r = result_from c.ops res.0 v res.2 in operation r.0 r.1 r.2 (subst (ComesFrom (suc place) cs) r.3 (comes_from (suc place) cs j v at')))
    (slice_get-behind_cases (phi_values place c) (result_values c.ops) i v at))
  where
    argument : (i : ℕ) → ComesFrom (suc place) cs (Argument (record { 0 = c.number }) i) → ⊥
    argument i f = let e : 0 ≡ suc f.0 = h 0 (suc f.0) c f.1 refl f.2 (sym f.3) in omega (arith, e)

    operation : (j : ℕ) (o : DialectOp) → slice_get c.ops j ≡ Some o → ComesFrom (suc place) cs (result o) → ⊥
    operation j o at f = numbered_apart (λ (o : DialectOp). o.number) c.ops (flat_map (λ (c : DialectBlock). c.ops) cs) k j f.0 o f.1 at f.2 (sym f.3)
