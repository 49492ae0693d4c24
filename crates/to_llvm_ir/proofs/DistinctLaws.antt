-- The names of the function that is made: no two named things share one.
use Rattle.std.proofs.Common.{◌≡◌, ◌<◌, ◌≤◌, ◌⊎◌, inl, inr, ◌^◌, ◌+◌, ℕ, zero, suc, Bool, true, false, if◌then◌else◌, List, [], ◌∷◌, ◌++◌, Option, Some, None, All, length, map, slice_get, refl, sym, ap, subst, ◌∙◌, arith, ⊎_elim}
use Rattle.std.specs.List.{flat_map}
use Rattle.std.proofs.lemmas.Option.{none-some}
use Rattle.std.proofs.lemmas.List.{map-append}
use Rattle.std.proofs.lemmas.List.Concat.{flat_map-append}
use Rattle.std.proofs.lemmas.List.Elements.{All-nil, All-cons, All-append, All-weaker}
use Rattle.llvm_core.specs.Checked.{named}
use Rattle.support.specs.Interned.{IsDistinctList}
use Rattle.llvm_core.specs.Data.{Operand, Placed}
use Rattle.llvm_core.specs.Form.{names_in, local_names}
use Rattle.support.proofs.ListLaws.{distinct_nil, slice_get-behind_cases}
use Rattle.dialect_types.specs.Trees.{TypeTree}
use Rattle.dialect_core.specs.declared.ops.Value.{Value}
use Rattle.dialect_core.specs.Data.{DialectOp, DialectBlock, Func}
use Rattle.dialect_core.specs.Form.{is_constant}
use Rattle.to_llvm_ir.specs.Exported.{block_name, value_name, result_name}
use Rattle.to_llvm_ir.specs.Made.{Numbers, inst, insts, phis, block_phis, block_made, blocks_made, function_made, number_past, entry_args, number_after, number_behind}
use Rattle.to_llvm_ir.proofs.ListLaws.{all_at, distinct_cons, distinct_append}
use Rattle.to_llvm_ir.proofs.NameLaws.{value_ends, block_ends, same_ends}
use Rattle.to_llvm_ir.proofs.FormLaws.{behind_le, past_le}

-- ---- the names, counted

-- the names of the instructions of a block, whose values from here on are numbered from k; a constant has a
-- number, but becomes no instruction
abbrev instruction_names : ℕ → List DialectOp → List (List ℕ)
instruction_names k [] = []
instruction_names k (o ∷ os) =
    if is_constant o then instruction_names (number_after o.result k) os
    else result_name o.name o.result k ∷ instruction_names (number_after o.result k) os

-- the names of the phis that arguments become, whose values are numbered from k
abbrev phi_names : ℕ → List TypeTree → List (List ℕ)
phi_names k [] = []
phi_names k (t ∷ ts) = value_name None k ∷ phi_names (k + 1) ts

-- the entry has no phis
abbrev argument_names : (place k : ℕ) → List TypeTree → List (List ℕ)
argument_names zero k types = []
argument_names (suc n) k types = phi_names k types

-- ---- the names that are made

module _ (g : Func) (n : Numbers) (given : Value → List (Operand × ℕ)) where
  abbrev name_of : Placed → List ℕ
  name_of p = p.name

  insts_named : (k : ℕ) (os : List DialectOp) → map name_of (insts g n k os) ≡ instruction_names k os
  insts_named k [] = refl
  insts_named k (o ∷ os) = by (is_constant o) (insts_named (number_after o.result k) os)
    where
      by : (t : Bool) → map name_of (insts g n (number_after o.result k) os) ≡ instruction_names (number_after o.result k) os
          → map name_of (if t then insts g n (number_after o.result k) os else inst g n k o ∷ insts g n (number_after o.result k) os) ≡ (if t then instruction_names (number_after o.result k) os else result_name o.name o.result k ∷ instruction_names (number_after o.result k) os)
      by true e = e
      by false e = ap (λ (ns : List (List ℕ)). result_name o.name o.result k ∷ ns) e

  phis_named : (b i k : ℕ) (ts : List TypeTree) → map name_of (phis g n given b i k ts) ≡ phi_names k ts
  phis_named b i k [] = refl
  phis_named b i k (t ∷ ts) = ap (λ (ns : List (List ℕ)). value_name None k ∷ ns) (phis_named b (suc i) (k + 1) ts)

  block_phis_named : (p k : ℕ) (c : DialectBlock) → map name_of (block_phis g n given p k c) ≡ argument_names p k c.args
  block_phis_named zero k c = refl
  block_phis_named (suc p) k c = phis_named c.number 0 k c.args

  block_named : (p k : ℕ) (c : DialectBlock) → map name_of (block_made g n given p k c).instructions ≡ argument_names p k c.args ++ instruction_names (k + length c.args) c.ops
  block_named p k c =
      map-append name_of (block_phis g n given p k c) (insts g n (k + length c.args) c.ops) ∙ (let e = block_phis_named p k c in let f = insts_named (k + length c.args) c.ops in cc)

-- ---- names by their numbers

-- the name of a value whose number is j or more, and below k
abbrev IsValueIn : (j k : ℕ) → List ℕ → Type 0
IsValueIn j k m = (given : Option (List ℕ)) × (i : ℕ) × (j ≤ i) × (i < k) × (m ≡ value_name given i)

-- the name of a block whose place is j or more, and below k
abbrev IsBlockIn : (j k : ℕ) → List ℕ → Type 0
IsBlockIn j k m = (given : Option (List ℕ)) × (i : ℕ) × (j ≤ i) × (i < k) × (m ≡ block_name given i)

named_all : (P : List ℕ → Type 0) (m : List ℕ) → P m → All P (named m)
named_all P [] p = All-nil P
named_all P (c ∷ cs) p = All-cons P (c ∷ cs) [] p (All-nil P)

wider : (a b c d : ℕ) (ns : List (List ℕ)) → c ≤ a → b ≤ d → All (IsValueIn a b) ns → All (IsValueIn c d) ns
wider a b c d ns le le' h = All-weaker (IsValueIn a b) (IsValueIn c d) (λ m v. (v.0, v.1, (let lt = v.2 in omega (arith, lt, le)), (let lt = v.3 in omega (arith, lt, le')), v.4)) ns h

values_in : (k : ℕ) (os : List DialectOp) → All (IsValueIn k (number_behind k os)) (flat_map named (instruction_names k os))
values_in k [] = All-nil (IsValueIn k k)
values_in k (o ∷ os) = by (is_constant o) o.result (values_in (number_after o.result k) os)
  where
    one : (r : Option TypeTree) → All (IsValueIn k (number_behind (number_after r k) os)) (named (result_name o.name r k))
    one None = All-nil (IsValueIn k (number_behind k os))
    one (Some t) = let le = behind_le (k + 1) os in named_all (IsValueIn k (number_behind (k + 1) os)) (value_name o.name k) (o.name, k, omega arith, omega (arith, le), refl)

    after_le : (r : Option TypeTree) → k ≤ number_after r k
    after_le None = omega arith
    after_le (Some t) = omega arith

    by : (t : Bool) (r : Option TypeTree) → All (IsValueIn (number_after r k) (number_behind (number_after r k) os)) (flat_map named (instruction_names (number_after r k) os))
        → All (IsValueIn k (number_behind (number_after r k) os)) (flat_map named (if t then instruction_names (number_after r k) os else result_name o.name r k ∷ instruction_names (number_after r k) os))
    by true r h = wider (number_after r k) (number_behind (number_after r k) os) k (number_behind (number_after r k) os) _ (after_le r) (omega arith) h
    by false r h = All-append (IsValueIn k (number_behind (number_after r k) os)) (named (result_name o.name r k)) (flat_map named (instruction_names (number_after r k) os)) (one r) (wider (number_after r k) (number_behind (number_after r k) os) k (number_behind (number_after r k) os) _ (after_le r) (omega arith) h)

phis_in : (k : ℕ) (ts : List TypeTree) → All (IsValueIn k (k + length ts)) (flat_map named (phi_names k ts))
phis_in k [] = All-nil (IsValueIn k (k + 0))
phis_in k (t ∷ ts) =
    All-append (IsValueIn k (k + suc (length ts))) (named (value_name None k)) (flat_map named (phi_names (k + 1) ts)) (named_all (IsValueIn k (k + suc (length ts))) (value_name None k) (None, k, omega arith, omega arith, refl))
    (wider (k + 1) (k + 1 + length ts) k (k + suc (length ts)) _ (omega arith) (omega arith) (phis_in (k + 1) ts))

-- ---- no name twice

values_apart : (a b c d i j : ℕ) (m : List ℕ) (xs ys : List (List ℕ)) → b ≤ c → d ≤ 2 ^ 64 → All (IsValueIn a b) xs → All (IsValueIn c d) ys → slice_get xs i ≡ Some m → slice_get ys j ≡ Some m → ⊥
values_apart a b c d i j m xs ys le small h k at at' =
    let v = all_at (IsValueIn a b) xs i m h at in
    let w = all_at (IsValueIn c d) ys j m k at' in
    let x = v.3 in
    let y = w.3 in
    let z = w.2 in
    let same = (same_ends (value_name v.0 v.1) (value_name w.0 w.1) 118 118 v.1 w.1 (omega (arith, x, z, y, small, le)) (omega (arith, y, small)) refl refl (value_ends v.0 v.1) (value_ends w.0 w.1) (sym v.4 ∙ w.4)).0 in
    omega (arith, x, z, le, same)

distinct_named : (m : List ℕ) → IsDistinctList (named m)
distinct_named [] = distinct_nil
distinct_named (c ∷ cs) = distinct_cons (c ∷ cs) [] (λ j e. absurd (none-some (c ∷ cs) e)) distinct_nil

distinct_values : (k : ℕ) (os : List DialectOp) → number_behind k os ≤ 2 ^ 64 → IsDistinctList (flat_map named (instruction_names k os))
distinct_values k [] small = distinct_nil
distinct_values k (o ∷ os) small = by (is_constant o) o.result small (λ s. distinct_values (number_after o.result k) os s)
  where
    by : (t : Bool) (r : Option TypeTree) → number_behind (number_after r k) os ≤ 2 ^ 64 → (number_behind (number_after r k) os ≤ 2 ^ 64 → IsDistinctList (flat_map named (instruction_names (number_after r k) os)))
        → IsDistinctList (flat_map named (if t then instruction_names (number_after r k) os else result_name o.name r k ∷ instruction_names (number_after r k) os))
    by true r s later = later s
    by false None s later = later s
    by false (Some t) s later =
        distinct_append (named (value_name o.name k)) (flat_map named (instruction_names (k + 1) os)) (distinct_named (value_name o.name k)) (later s)
        (λ i j m at at'. values_apart k (k + 1) (k + 1) (number_behind (k + 1) os) i j m (named (value_name o.name k)) (flat_map named (instruction_names (k + 1) os)) (omega arith) s
        (named_all (IsValueIn k (k + 1)) (value_name o.name k) (o.name, k, omega arith, omega arith, refl)) (values_in (k + 1) os) at at')

distinct_phis : (k : ℕ) (ts : List TypeTree) → k + length ts ≤ 2 ^ 64 → IsDistinctList (flat_map named (phi_names k ts))
distinct_phis k [] small = distinct_nil
distinct_phis k (t ∷ ts) small =
    distinct_append (named (value_name None k)) (flat_map named (phi_names (k + 1) ts)) (distinct_named (value_name None k)) (distinct_phis (k + 1) ts (omega (arith, small)))
    (λ i j m at at'. values_apart k (k + 1) (k + 1) (k + 1 + length ts) i j m (named (value_name None k)) (flat_map named (phi_names (k + 1) ts)) (omega arith) (omega (arith, small))
    (named_all (IsValueIn k (k + 1)) (value_name None k) (None, k, omega arith, omega arith, refl)) (phis_in (k + 1) ts) at at')

-- the values of a block
abbrev value_names : (p k : ℕ) → DialectBlock → List (List ℕ)
value_names p k c = argument_names p k c.args ++ instruction_names (k + length c.args) c.ops

arguments_in : (p k : ℕ) (ts : List TypeTree) → All (IsValueIn k (k + length ts)) (flat_map named (argument_names p k ts))
arguments_in zero k ts = All-nil (IsValueIn k (k + length ts))
arguments_in (suc p) k ts = phis_in k ts

distinct_arguments : (p k : ℕ) (ts : List TypeTree) → k + length ts ≤ 2 ^ 64 → IsDistinctList (flat_map named (argument_names p k ts))
distinct_arguments zero k ts small = distinct_nil
distinct_arguments (suc p) k ts small = distinct_phis k ts small

block_values_in : (p k : ℕ) (c : DialectBlock) → All (IsValueIn k (number_behind (k + length c.args) c.ops)) (flat_map named (value_names p k c))
block_values_in p k c =
    let end = number_behind (k + length c.args) c.ops in
    let le = behind_le (k + length c.args) c.ops in
    subst (All (IsValueIn k end)) (sym (flat_map-append named (argument_names p k c.args) (instruction_names (k + length c.args) c.ops)))
    (All-append (IsValueIn k end) (flat_map named (argument_names p k c.args)) (flat_map named (instruction_names (k + length c.args) c.ops))
    (wider k (k + length c.args) k end _ (omega arith) le (arguments_in p k c.args)) (wider (k + length c.args) end k end _ (omega arith) (omega arith) (values_in (k + length c.args) c.ops)))

distinct_block_values : (p k : ℕ) (c : DialectBlock) → number_behind (k + length c.args) c.ops ≤ 2 ^ 64 → IsDistinctList (flat_map named (value_names p k c))
distinct_block_values p k c small =
    let le = behind_le (k + length c.args) c.ops in
    subst IsDistinctList (sym (flat_map-append named (argument_names p k c.args) (instruction_names (k + length c.args) c.ops)))
    (distinct_append (flat_map named (argument_names p k c.args)) (flat_map named (instruction_names (k + length c.args) c.ops)) (distinct_arguments p k c.args (omega (arith, le, small))) (distinct_values (k + length c.args) c.ops small)
    (λ i j m at at'. values_apart k (k + length c.args) (k + length c.args) (number_behind (k + length c.args) c.ops) i j m (flat_map named (argument_names p k c.args)) (flat_map named (instruction_names (k + length c.args) c.ops)) (omega arith) small
    (arguments_in p k c.args) (values_in (k + length c.args) c.ops) at at'))

-- the names of blocks and their values
abbrev all_names : (p k : ℕ) → List DialectBlock → List (List ℕ)
all_names p k [] = []
all_names p k (c ∷ cs) = (named (block_name c.label p) ++ flat_map named (value_names p k c)) ++ all_names (suc p) (number_behind (k + length c.args) c.ops) cs

abbrev IsNameIn : (p q j k : ℕ) → List ℕ → Type 0
IsNameIn p q j k m = IsBlockIn p q m ⊎ IsValueIn j k m

names_from : (p k : ℕ) (cs : List DialectBlock) → All (IsNameIn p (p + length cs) k (number_past k cs)) (all_names p k cs)
names_from p k [] = All-nil (IsNameIn p (p + 0) k k)
names_from p k (c ∷ cs) =
    let end = number_behind (k + length c.args) c.ops in
    let P : List ℕ → Type 0 = IsNameIn p (p + suc (length cs)) k (number_past end cs) in
    let le = past_le end cs in
    let le' = behind_le (k + length c.args) c.ops in
    All-append P (named (block_name c.label p) ++ flat_map named (value_names p k c)) (all_names (suc p) end cs)
    (All-append P (named (block_name c.label p)) (flat_map named (value_names p k c)) (named_all P (block_name c.label p) (inl (c.label, p, omega arith, omega arith, refl)))
    (All-weaker (IsValueIn k end) P (λ m v. inr (v.0, v.1, v.2, (let lt = v.3 in omega (arith, lt, le)), v.4)) (flat_map named (value_names p k c)) (block_values_in p k c)))
    (All-weaker (IsNameIn (suc p) (suc p + length cs) end (number_past end cs)) P (λ m h. ⊎_elim
    (λ v. inl (v.0, v.1, (let lt = v.2 in omega (arith, lt)), (let lt = v.3 in omega (arith, lt)), v.4))
    (λ v. inr (v.0, v.1, (let lt = v.2 in omega (arith, lt, le')), v.3, v.4)) h) (all_names (suc p) end cs) (names_from (suc p) end cs))

block_value_apart : (a b : Option (List ℕ)) (i j : ℕ) → i < 2 ^ 64 → j < 2 ^ 64 → block_name a i ≡ value_name b j → ⊥
block_value_apart a b i j lt lt' e =
    let differs = (same_ends (block_name a i) (value_name b j) 107 118 i j lt lt' refl refl (block_ends a i) (value_ends b j) e).1 in
    omega (arith, differs)

blocks_apart : (a b : Option (List ℕ)) (i j : ℕ) → i < j → j < 2 ^ 64 → block_name a i ≡ block_name b j → ⊥
blocks_apart a b i j lt lt' e =
    let same = (same_ends (block_name a i) (block_name b j) 107 107 i j (omega (arith, lt, lt')) lt' refl refl (block_ends a i) (block_ends b j) e).0 in
    omega (arith, same, lt)

distinct_from : (p k : ℕ) (cs : List DialectBlock) → p + length cs ≤ 2 ^ 64 → number_past k cs ≤ 2 ^ 64 → IsDistinctList (all_names p k cs)
distinct_from p k [] few small = distinct_nil
distinct_from p k (c ∷ cs) few small =
    let end = number_behind (k + length c.args) c.ops in
    let le = past_le end cs in
    let here = flat_map named (value_names p k c) in
    distinct_append (named (block_name c.label p) ++ here) (all_names (suc p) end cs)
    (distinct_append (named (block_name c.label p)) here (distinct_named (block_name c.label p)) (distinct_block_values p k c (omega (arith, le, small)))
    (λ i j m at at'.
    let e = all_at (λ (m : List ℕ). m ≡ block_name c.label p) (named (block_name c.label p)) i m (named_all (λ (m : List ℕ). m ≡ block_name c.label p) (block_name c.label p) refl) at in
    let v = all_at (IsValueIn k end) here j m (block_values_in p k c) at' in
    let lt = v.3 in
    block_value_apart c.label v.0 p v.1 (omega (arith, few)) (omega (arith, lt, le, small)) (sym e ∙ v.4)))
    (distinct_from (suc p) end cs (omega (arith, few)) small)
    (λ i j m at at'. ⊎_elim
    (λ name.
    let e = all_at (λ (m : List ℕ). m ≡ block_name c.label p) (named (block_name c.label p)) i m (named_all (λ (m : List ℕ). m ≡ block_name c.label p) (block_name c.label p) refl) name in
    ⊎_elim
    (λ v. blocks_apart c.label v.0 p v.1 (let lt = v.2 in omega (arith, lt)) (let lt = v.3 in omega (arith, lt, few)) (sym e ∙ v.4))
    (λ v. block_value_apart c.label v.0 p v.1 (omega (arith, few)) (let lt = v.3 in omega (arith, lt, small)) (sym e ∙ v.4))
    (all_at (IsNameIn (suc p) (suc p + length cs) end (number_past end cs)) (all_names (suc p) end cs) j m (names_from (suc p) end cs) at'))
    (λ value.
    let w = all_at (IsValueIn k end) here value.0 m (block_values_in p k c) value.2 in
    ⊎_elim
    (λ v. block_value_apart v.0 w.0 v.1 w.1 (let lt = v.3 in omega (arith, lt, few)) (let lt = w.3 in omega (arith, lt, le, small)) (sym v.4 ∙ w.4))
    (λ v. values_apart k end end (number_past end cs) value.0 0 m here (m ∷ []) (omega arith) small (block_values_in p k c) (All-cons (IsValueIn end (number_past end cs)) m [] v (All-nil (IsValueIn end (number_past end cs)))) value.2 refl)
    (all_at (IsNameIn (suc p) (suc p + length cs) end (number_past end cs)) (all_names (suc p) end cs) j m (names_from (suc p) end cs) at'))
    (slice_get-behind_cases (named (block_name c.label p)) here i m at))

-- ---- the names of the function

no_names : (ts : List TypeTree) → flat_map named (map (λ (t : TypeTree). let none : List ℕ = [] in none) ts) ≡ []
no_names [] = refl
no_names (t ∷ ts) = no_names ts

names_of : (ps : List Placed) → flat_map (λ (p : Placed). named p.name) ps ≡ flat_map named (map (λ (p : Placed). p.name) ps)
names_of [] = refl
names_of (p ∷ ps) = ap (λ (ns : List (List ℕ)). named p.name ++ ns) (names_of ps)

module _ (g : Func) (n : Numbers) (given : Value → List (Operand × ℕ)) where
  blocks_names : (p k : ℕ) (cs : List DialectBlock) → flat_map names_in (blocks_made g n given p k cs) ≡ all_names p k cs
  blocks_names p k [] = refl
  blocks_names p k (c ∷ cs) =
      let e : flat_map (λ (p : Placed). named p.name) (block_made g n given p k c).instructions ≡ flat_map named (value_names p k c) = names_of (block_made g n given p k c).instructions ∙ ap (flat_map named) (block_named g n given p k c) in
      let f = blocks_names (suc p) (number_behind (k + length c.args) c.ops) cs in
      cc

  pub distinct_locals : length g.blocks ≤ 2 ^ 64 → number_past 0 g.blocks ≤ 2 ^ 64 → IsDistinctList (local_names (function_made g n given))
  distinct_locals few small =
      subst IsDistinctList (sym (ap (λ (ns : List (List ℕ)). ns ++ flat_map names_in (blocks_made g n given 0 0 g.blocks)) (no_names (entry_args g n)) ∙ blocks_names 0 0 g.blocks)) (distinct_from 0 0 g.blocks (omega (arith, few)) small)
