-- The names of the function that is made: each by the number of its value, which is its place among those of the function.
use Rattle.std.proofs.Common.{◌≡◌, ◌+◌, ℕ, zero, suc, Bool, true, false, not, if◌then◌else◌, List, [], ◌∷◌, ◌++◌, Option, Some, None, length, map, take, drop, slice_get, refl, sym, ap, subst, ◌∙◌, arith, ⊎_elim}
use Rattle.std.specs.List.{flat_map}
use Rattle.std.specs.Option.{option_map_or}
use Rattle.std.proofs.lemmas.Option.{same_Some, none-some}
use Rattle.std.proofs.lemmas.List.{map-append, length-append}
use Rattle.std.proofs.lemmas.List.Concat.{flat_map-append}
use Rattle.support.specs.Interned.{IsDistinctList}
use Rattle.llvm_core.specs.Data.{Operand, Placed, Block}
use Rattle.support.proofs.ListLaws.{distinct_nil, slice_get-kept, slice_get-behind, slice_get-behind_cases}
use Rattle.dialect_types.specs.Trees.{TypeTree}
use Rattle.dialect_core.specs.declared.ops.Value.{Value}
use Rattle.dialect_core.specs.declared.ops.Value.TheVariants.{Result, Argument}
use Rattle.dialect_core.specs.Data.{DialectOp, DialectBlock, Func}
use Rattle.dialect_core.specs.Form.{IsFormFunc, is_constant, others_of}
use Rattle.meaning.specs.Pairs.{BothOrNone}
use Rattle.to_llvm_ir.specs.Exported.{value_name, result_name, result, results_of, arguments_from, arguments_of, values_of, values_in, value_number, phi_values, phi_name, operation_name, HasNames}
use Rattle.to_llvm_ir.specs.Made.{Numbers, number_after, number_behind, number_past, inst, insts, phis, block_phis, block_made, function_made}
use Rattle.to_llvm_ir.proofs.ListLaws.{AreNumbered, split_at, numbered_rest, numbered_front, numbered_back, numbered_apart, distinct_append}
use Rattle.to_llvm_ir.proofs.PlaceLaws.{place_at, result_number, argument_from, arguments_count, arguments_distinct}
use Rattle.to_llvm_ir.proofs.EdgeLaws.{made_at, made_none}

-- ---- where a value comes from

one_result : (o : DialectOp) (i : ℕ) (v : Value) → slice_get (results_of o) i ≡ Some v → (i ≡ 0) × (v ≡ result o)
one_result o i v at = by o.result i at
  where
    by : (r : Option TypeTree) (i : ℕ) → slice_get (option_map_or (λ (type : TypeTree). result o ∷ []) r []) i ≡ Some v → (i ≡ 0) × (v ≡ result o)
    by None i e = absurd (none-some v e)
    by (Some t) zero e = (refl, sym (same_Some (result o) v e))
    by (Some t) (suc i) e = absurd (none-some v e)

-- a result is that of one of the operations
result_from : (os : List DialectOp) (i : ℕ) (v : Value) → slice_get (flat_map results_of os) i ≡ Some v → (j : ℕ) × (o : DialectOp) × (slice_get os j ≡ Some o) × (v ≡ result o)
result_from [] i v at = absurd (none-some v at)
result_from (o ∷ os) i v at = ⊎_elim
    (λ here. (0, o, refl, (one_result o i v here).1))
    (λ rest. let r = result_from os rest.0 v rest.2 in (suc r.0, r.1, r.2, r.3))
    (slice_get-behind_cases (results_of o) (flat_map results_of os) i v at)

-- an argument of one of the blocks, or the result of one of their operations
abbrev ComesFrom : List DialectBlock → Value → Type 0
ComesFrom cs (Argument b i) = (j : ℕ) × (c : DialectBlock) × (slice_get cs j ≡ Some c) × (c.number ≡ b.0)
ComesFrom cs (Result r) = (j : ℕ) × (o : DialectOp) × (slice_get (flat_map (λ (c : DialectBlock). c.ops) cs) j ≡ Some o) × (o.number ≡ r.0)

comes_from : (cs : List DialectBlock) (i : ℕ) (v : Value) → slice_get (flat_map values_of cs) i ≡ Some v → ComesFrom cs v
comes_from [] i v at = absurd (none-some v at)
comes_from (c ∷ cs) i v at = ⊎_elim
    (λ here. ⊎_elim
    (λ arg. subst (ComesFrom (c ∷ cs)) (sym (argument_from c.number 0 c.args i v arg).0) (0, c, refl, refl))
    (λ res. let r = result_from c.ops res.0 v res.2 in subst (ComesFrom (c ∷ cs)) (sym r.3) (r.0, r.1, slice_get-kept c.ops (flat_map (λ (c : DialectBlock). c.ops) cs) r.0 r.1 r.2, refl))
    (slice_get-behind_cases (arguments_of c) (flat_map results_of c.ops) i v here))
    (λ rest. later v (comes_from cs rest.0 v rest.2))
    (slice_get-behind_cases (values_of c) (flat_map values_of cs) i v at)
  where
    later : (v : Value) → ComesFrom cs v → ComesFrom (c ∷ cs) v
    later (Argument b i) h = (suc h.0, h.1, h.2, h.3)
    later (Result r) h = (length c.ops + h.0, h.1, slice_get-behind c.ops (flat_map (λ (c : DialectBlock). c.ops) cs) h.0 ∙ h.2, h.3)

-- ---- no value stands twice

results_distinct : (os : List DialectOp) → AreNumbered (λ (o : DialectOp). o.number) os → IsDistinctList (flat_map results_of os)
results_distinct [] h = distinct_nil
results_distinct (o ∷ os) h =
    distinct_append (results_of o) (flat_map results_of os)
    (λ i j v at at'. (one_result o i v at).0 ∙ sym (one_result o j v at').0)
    (results_distinct os (numbered_rest (λ (o : DialectOp). o.number) o os h))
    (λ i j v at at'.
    let r = result_from os j v at' in
    let same : o.number ≡ r.1.number = result_number o.number r.1.number (sym (one_result o i v at).1 ∙ r.3) in
    let k : 0 ≡ suc r.0 = h 0 (suc r.0) o r.1 refl r.2 same in
    omega (arith, k))

here_distinct : (c : DialectBlock) → AreNumbered (λ (o : DialectOp). o.number) c.ops → IsDistinctList (values_of c)
here_distinct c h =
    distinct_append (arguments_of c) (flat_map results_of c.ops) (arguments_distinct c.number 0 c.args) (results_distinct c.ops h)
    (λ i j v at at'.
    let p = argument_from c.number 0 c.args i v at in
    let r = result_from c.ops j v at' in
    let e : Argument (record { 0 = c.number }) (0 + i) ≡ result r.1 = sym p.0 ∙ r.3 in
    cc)

all_distinct : (cs : List DialectBlock) → AreNumbered (λ (c : DialectBlock). c.number) cs → AreNumbered (λ (o : DialectOp). o.number) (flat_map (λ (c : DialectBlock). c.ops) cs) → IsDistinctList (flat_map values_of cs)
all_distinct [] h k = distinct_nil
all_distinct (c ∷ cs) h k =
    let rest = flat_map (λ (c : DialectBlock). c.ops) cs in
    distinct_append (values_of c) (flat_map values_of cs)
    (here_distinct c (numbered_front (λ (o : DialectOp). o.number) c.ops rest k))
    (all_distinct cs (numbered_rest (λ (c : DialectBlock). c.number) c cs h) (numbered_back (λ (o : DialectOp). o.number) c.ops rest k))
    (λ i j v at at'. ⊎_elim
    (λ arg. argument (0 + i) (subst (ComesFrom cs) (argument_from c.number 0 c.args i v arg).0 (comes_from cs j v at')))
    (λ res. let r = result_from c.ops res.0 v res.2 in operation r.0 r.1 r.2 (subst (ComesFrom cs) r.3 (comes_from cs j v at')))
    (slice_get-behind_cases (arguments_of c) (flat_map results_of c.ops) i v at))
  where
    argument : (i : ℕ) → ComesFrom cs (Argument (record { 0 = c.number }) i) → ⊥
    argument i f = let e : 0 ≡ suc f.0 = h 0 (suc f.0) c f.1 refl f.2 (sym f.3) in omega (arith, e)

    operation : (j : ℕ) (o : DialectOp) → slice_get c.ops j ≡ Some o → ComesFrom cs (result o) → ⊥
    operation j o at f = numbered_apart (λ (o : DialectOp). o.number) c.ops (flat_map (λ (c : DialectBlock). c.ops) cs) k j f.0 o f.1 at f.2 (sym f.3)

-- ---- as many numbers as values

results_count : (k : ℕ) (os : List DialectOp) → number_behind k os ≡ k + length (flat_map results_of os)
results_count k [] = omega arith
results_count k (o ∷ os) =
    let one : number_after o.result k ≡ k + length (results_of o) = by o.result in
    let all : number_behind (number_after o.result k) os ≡ number_after o.result k + length (flat_map results_of os) = results_count (number_after o.result k) os in
    let both : length (flat_map results_of (o ∷ os)) ≡ length (results_of o) + length (flat_map results_of os) = length-append (results_of o) (flat_map results_of os) in
    let done : number_behind (number_after o.result k) os ≡ k + length (flat_map results_of (o ∷ os)) = omega (arith, one, all, both) in
    done
  where
    by : (r : Option TypeTree) → number_after r k ≡ k + length (option_map_or (λ (type : TypeTree). result o ∷ []) r [])
    by None = omega arith
    by (Some t) = omega arith

values_count : (k : ℕ) (cs : List DialectBlock) → number_past k cs ≡ k + length (flat_map values_of cs)
values_count k [] = omega arith
values_count k (c ∷ cs) =
    let end = number_behind (k + length c.args) c.ops in
    let args : length (arguments_of c) ≡ length c.args = arguments_count c.number 0 c.args in
    let ops : end ≡ k + length c.args + length (flat_map results_of c.ops) = results_count (k + length c.args) c.ops in
    let here : length (values_of c) ≡ length (arguments_of c) + length (flat_map results_of c.ops) = length-append (arguments_of c) (flat_map results_of c.ops) in
    let all : length (flat_map values_of (c ∷ cs)) ≡ length (values_of c) + length (flat_map values_of cs) = length-append (values_of c) (flat_map values_of cs) in
    let rest : number_past end cs ≡ end + length (flat_map values_of cs) = values_count end cs in
    let done : number_past end cs ≡ k + length (flat_map values_of (c ∷ cs)) = omega (arith, args, ops, here, all, rest) in
    done

-- ---- the names of a block

abbrev AreNumberedFrom : Func → ℕ → List Value → Type 0
AreNumberedFrom g k vs = (i : ℕ) (v : Value) → slice_get vs i ≡ Some v → value_number g v ≡ k + i

abbrev name_of : Placed → List ℕ
name_of p = p.name

module _ (g : Func) (n : Numbers) where
  insts_named : (k : ℕ) (os : List DialectOp) → AreNumberedFrom g k (flat_map results_of os) → map name_of (insts g n k os) ≡ map (operation_name g) (others_of os)
  insts_named k [] h = refl
  insts_named k (o ∷ os) h = by (is_constant o) (insts_named (number_after o.result k) os (rest o.result h))
    where
      rest : (r : Option TypeTree) → AreNumberedFrom g k (option_map_or (λ (type : TypeTree). result o ∷ []) r [] ++ flat_map results_of os) → AreNumberedFrom g (number_after r k) (flat_map results_of os)
      rest None h i v at = h i v at
      rest (Some t) h i v at = let e : value_number g v ≡ k + suc i = h (suc i) v at in let f : value_number g v ≡ k + 1 + i = omega (arith, e) in f

      here : (r : Option TypeTree) → AreNumberedFrom g k (option_map_or (λ (type : TypeTree). result o ∷ []) r [] ++ flat_map results_of os) → result_name o.name r k ≡ result_name o.name r (value_number g (result o))
      here None h = refl
      here (Some t) h = ap (value_name o.name) (let e : value_number g (result o) ≡ k + 0 = h 0 (result o) refl in let f : k ≡ value_number g (result o) = omega (arith, e) in f)

      by : (t : Bool) → map name_of (insts g n (number_after o.result k) os) ≡ map (operation_name g) (others_of os)
          → map name_of (if t then insts g n (number_after o.result k) os else inst g n k o ∷ insts g n (number_after o.result k) os) ≡ map (operation_name g) (if not t then o ∷ others_of os else others_of os)
      by true e = e
      by false e = ap (λ (m : List ℕ). m ∷ map name_of (insts g n (number_after o.result k) os)) (here o.result h) ∙ ap (λ (ms : List (List ℕ)). operation_name g o ∷ ms) e

  module _ (given : Value → List (Operand × ℕ)) where
    phis_named : (b i k : ℕ) (ts : List TypeTree) → AreNumberedFrom g k (arguments_from b i ts) → map name_of (phis g n given b i k ts) ≡ map (phi_name g) (arguments_from b i ts)
    phis_named b i k [] h = refl
    phis_named b i k (t ∷ ts) h =
        let v : Value = Argument (record { 0 = b }) i in
        let e : value_number g v ≡ k + 0 = h 0 v refl in
        let is : k ≡ value_number g v = omega (arith, e) in
        ap (λ (m : ℕ). value_name None m ∷ map name_of (phis g n given b (suc i) (k + 1) ts)) is
        ∙ ap (λ (ms : List (List ℕ)). phi_name g v ∷ ms) (phis_named b (suc i) (k + 1) ts (λ j w at. let f : value_number g w ≡ k + suc j = h (suc j) w at in omega (arith, f)))

    block_phis_named : (p k : ℕ) (c : DialectBlock) → AreNumberedFrom g k (arguments_of c) → map name_of (block_phis g n given p k c) ≡ map (phi_name g) (phi_values p c)
    block_phis_named zero k c h = refl
    block_phis_named (suc p) k c h = phis_named c.number 0 k c.args h

    block_named : (p k : ℕ) (c : DialectBlock) → AreNumberedFrom g k (values_of c) → HasNames g p c (block_made g n given p k c)
    block_named p k c h = record {
      label = refl;
      names = map-append name_of (block_phis g n given p k c) (insts g n (k + length c.args) c.ops)
          ∙ ap (λ (ms : List (List ℕ)). ms ++ map name_of (insts g n (k + length c.args) c.ops)) (block_phis_named p k c (λ i v at. h i v (slice_get-kept (arguments_of c) (flat_map results_of c.ops) i v at)))
          ∙ ap (λ (ms : List (List ℕ)). map (phi_name g) (phi_values p c) ++ ms) (insts_named (k + length c.args) c.ops (λ i v at.
          let e : value_number g v ≡ k + (length (arguments_of c) + i) = h (length (arguments_of c) + i) v (slice_get-behind (arguments_of c) (flat_map results_of c.ops) i ∙ at) in
          let count : length (arguments_of c) ≡ length c.args = arguments_count c.number 0 c.args in
          omega (arith, e, count)));
    }

-- ---- the names of the function

module _ (g : Func) (form : IsFormFunc g) where
  number_at : AreNumberedFrom g 0 (values_in g)
  number_at i v at = let e : value_number g v ≡ i = place_at v (values_in g) i (all_distinct g.blocks form.block_numbers form.numbers) at in omega (arith, e)

  -- the values of a block are numbered on from those of the blocks before
  block_numbered : (j : ℕ) (c : DialectBlock) → slice_get g.blocks j ≡ Some c → AreNumberedFrom g (number_past 0 (take j g.blocks)) (values_of c)
  block_numbered j c at i v at' =
      let front = flat_map values_of (take j g.blocks) in
      let back = flat_map values_of (drop (suc j) g.blocks) in
      let are : values_in g ≡ front ++ (values_of c ++ back) = ap (flat_map values_of) (split_at g.blocks j c at).0 ∙ flat_map-append values_of (take j g.blocks) (c ∷ drop (suc j) g.blocks) in
      let there : slice_get (values_in g) (length front + i) ≡ Some v = ap (λ (vs : List Value). slice_get vs (length front + i)) are ∙ slice_get-behind front (values_of c ++ back) i ∙ slice_get-kept (values_of c) back i v at' in
      let e : value_number g v ≡ 0 + (length front + i) = number_at (length front + i) v there in
      let past : number_past 0 (take j g.blocks) ≡ 0 + length front = values_count 0 (take j g.blocks) in
      omega (arith, e, past)

  pub made_named : (n : Numbers) (given : Value → List (Operand × ℕ)) (place : ℕ) → BothOrNone (HasNames g place) (slice_get g.blocks place) (slice_get (function_made g n given).blocks place)
  made_named n given j = by (slice_get g.blocks j) refl
    where
      by : (o : Option DialectBlock) → slice_get g.blocks j ≡ o → BothOrNone (HasNames g j) o (slice_get (function_made g n given).blocks j)
      by None e = subst (λ (b : Option Block). BothOrNone (HasNames g j) None b) (sym (made_none g n given 0 0 g.blocks j e)) tt
      by (Some c) e =
          let k = number_past 0 (take j g.blocks) in
          subst (λ (b : Option Block). BothOrNone (HasNames g j) (Some c) b) (sym (made_at g n given 0 0 g.blocks j c e))
          (subst (λ (q : ℕ). HasNames g j c (block_made g n given q k c)) (let z : j ≡ 0 + j = omega arith in z) (block_named g n given j k c (block_numbered j c e)))
