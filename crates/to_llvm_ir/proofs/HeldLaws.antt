-- The types of a function that an export makes are those of the dialect's function, and its constants those of operations: what
-- holds of these holds of those, and so they are held.
use Rattle.std.proofs.Common.{ℕ, zero, suc, ◌≡◌, ◌+◌, refl, sym, subst, Bool, true, false, nat_eq, if◌then◌else◌, List, [], ◌∷◌, ◌++◌, Option, Some, None, All, length, map, slice_get}
use Rattle.std.specs.Prelude.{IfSome}
use Rattle.std.specs.List.{flat_map, find}
use Rattle.std.specs.Option.{option_map_or}
use Rattle.std.proofs.lemmas.List.Elements.{All-nil, All-cons, All-head, All-tail, All-append, All-map, All-weaker}
use Rattle.kinds.specs.Types.{TypeTree, VoidType, types_list, result_of, params_of}
use Rattle.kinds.specs.Held.{IsHeld, IsHeldResult}
use Rattle.kinds.proofs.HeldLaws.{held_result_if, held_result_void}
use Rattle.llvm_core.specs.Data as L
use Rattle.llvm_core.specs.Data.{Operand, Placed, placed_in, const_type}
use Rattle.llvm_core.specs.Form.{IsHeldFunction, IsShortConst, IsShortOperand, operands_of, constant_type, constant_types}
use Rattle.dialect_core.specs.declared.ops.Value.{Value}
use Rattle.dialect_core.specs.declared.ops.Value.TheVariants.{Argument, Result}
use Rattle.dialect_core.specs.declared.ops.Successor.{Successor}
use Rattle.dialect_core.specs.Data.{DialectOp, DialectBlock, Func, Kind, ConstantOp, FilledOp, RowOp, ops_in, value_type}
use Rattle.dialect_core.specs.Form.{IsFormFunc, IsFormOp, IsFormBlock, is_constant}
use Rattle.dialect_core.specs.Nested.{BlockNames, FuncNames}
use Rattle.dialect_core.proofs.FuncLemmas.{find_there}
use Rattle.meaning.specs.Dialect.{option_type}
use Rattle.meaning.specs.Pairs.{Matched}
use Rattle.to_llvm_ir.specs.Functions.{HasRules, IsMadeOf}
use Rattle.to_llvm_ir.specs.Made.{Numbers, constant_or, is_entry, number_of, operand_for, instruction_for, number_after, number_behind, inst, insts, phis, block_phis, blocks_made, entries, function_made}
use Rattle.to_llvm_ir.proofs.ConstLaws.{HasRuledKind, constant_of, constant_is, other_is, constant_result, constant_short, constant_good}
use Rattle.to_llvm_ir.proofs.CountLaws.{comes_by}
use Rattle.to_llvm_ir.proofs.ListLaws.{all_at}
use Rattle.to_llvm_ir.proofs.LookupLaws.{block_form, op_form, op_ruled, op_of_block}

-- the types of the results of a function's instructions
abbrev pub results_of : L.Function → List TypeTree
results_of f = map (λ (p : Placed). p.type) (placed_in f)

-- the types of the constants that they use
abbrev pub constants_in : L.Function → List TypeTree
constants_in f = flat_map constant_types (placed_in f)

-- ---- what holds of each type that a function names, and of each operand

-- of types P holds; of operands Q does, which holds of parameters and results, and of the constants that operations become
module _ (P : TypeTree → Type 0) (void : P VoidType) (Q : Operand → Type 0) (of_param : (f i : ℕ) → Q (L.Parameter f i)) (of_result : (m : ℕ) → Q (L.Result m))
    (of_constant : (g : Func) (o : DialectOp) → IsFormOp g o → HasRuledKind o.kind → IfSome o.result P → is_constant o ≡ true → Q (L.Constant (constant_of o.result o.kind))) where
  -- of the type of an instruction's result, and of its operands
  abbrev HasPlaced : Placed → Type 0
  HasPlaced p = P p.type × All Q (operands_of p.instruction)

  abbrev HasResult : DialectOp → Type 0
  HasResult o = IfSome o.result P

  own_has : (own : Option TypeTree) → IfSome own P → P (option_type own)
  own_has None h = void
  own_has (Some t) h = h

  module _ (g : Func) (form : IsFormFunc g) (ruled : HasRules g) (n : Numbers) (names : (j : ℕ) (c : DialectBlock) → slice_get g.blocks j ≡ Some c → BlockNames P c) where
    -- ---- operands

    -- what a constant operation becomes, or a result
    constant_has : (m : ℕ) (o : DialectOp) → IsFormOp g o → HasRuledKind o.kind → HasResult o → Q (constant_or (L.Result m) o.result o.kind)
    constant_has m o h keeps own = by (is_constant o) refl
      where
        by : (b : Bool) → is_constant o ≡ b → Q (constant_or (L.Result m) o.result o.kind)
        by true e = subst Q (sym (constant_is (L.Result m) o.result o.kind e)) (of_constant g o h keeps own e)
        by false e = subst Q (sym (other_is (L.Result m) o.result o.kind e)) (of_result m)

    operand_has : (v : Value) → Q (operand_for g n v)
    operand_has (Argument b i) = by (is_entry g b.0)
      where
        by : (t : Bool) → Q (if t then L.Parameter n.function i else L.Result (number_of g n (Argument b i)))
        by true = of_param n.function i
        by false = of_result (number_of g n (Argument b i))
    operand_has (Result r) = by (find (λ (o : DialectOp). nat_eq o.number r.0) (ops_in g)) refl
      where
        by : (x : Option DialectOp) → find (λ (o : DialectOp). nat_eq o.number r.0) (ops_in g) ≡ x → Q (option_map_or (λ (o : DialectOp). constant_or (L.Result (number_of g n (Result r))) o.result o.kind) x (L.Result (number_of g n (Result r))))
        by None e = of_result (number_of g n (Result r))
        by (Some o) e =
            let f = find_there (λ (o : DialectOp). nat_eq o.number r.0) (ops_in g) o e in
            let b = op_of_block g.blocks f.0 o f.1 in
            constant_has (number_of g n (Result r)) o (op_form g form b.0 b.1 b.2 o b.3 b.4) (op_ruled g ruled b.0 b.1 b.2 o b.3 b.4) (all_at HasResult b.2.ops b.1 o (names b.0 b.2 b.3).results b.4)

    operands_have : (vs : List Value) → All Q (map (operand_for g n) vs)
    operands_have [] = All-nil Q
    operands_have (v ∷ vs) = All-cons Q (operand_for g n v) (map (operand_for g n) vs) (operand_has v) (operands_have vs)

    kind_has : (k : Kind) (own : Option TypeTree) (vs : List Value) (ss : List Successor) → All Q (operands_of (instruction_for g n k own vs ss))
    kind_has (ConstantOp value) own vs ss = All-nil Q
    kind_has (FilledOp fill) own vs ss = All-nil Q
    kind_has (RowOp op) own vs ss = operands_have vs

    -- what an edge passes is an operand
    entries_have : (es : List (Operand × ℕ)) → ((l : ℕ) (x : Operand × ℕ) → slice_get es l ≡ Some x → (v : Value) × (x.0 ≡ operand_for g n v)) → All Q (map (λ (e : Operand × ℕ). e.0) es)
    entries_have [] h = All-nil Q
    entries_have (e ∷ es) h =
        let v = h 0 e refl in
        All-cons Q e.0 (map (λ (e : Operand × ℕ). e.0) es) (subst Q (sym v.1) (operand_has v.0)) (entries_have es (λ l x at. h (suc l) x at))

    phi_has : (b i : ℕ) → All Q (operands_of (L.Phi (entries g n (Argument (record { 0 = b }) i))))
    phi_has b i = entries_have (entries g n (Argument (record { 0 = b }) i)) (λ l x at. let c = comes_by g n n.order (record { 0 = b }) i l x at in (c.value, c.is))

    -- ---- instructions

    insts_have : (k : ℕ) (os : List DialectOp) → All HasResult os → All HasPlaced (insts g n k os)
    insts_have k [] h = All-nil HasPlaced
    insts_have k (o ∷ os) h = by (is_constant o) (insts_have (number_after o.result k) os (All-tail HasResult o os h))
      where
        by : (t : Bool) → All HasPlaced (insts g n (number_after o.result k) os) → All HasPlaced (if t then insts g n (number_after o.result k) os else inst g n k o ∷ insts g n (number_after o.result k) os)
        by true rest = rest
        by false rest = All-cons HasPlaced (inst g n k o) (insts g n (number_after o.result k) os) (own_has o.result (All-head HasResult o os h), kind_has o.kind o.result o.operands o.successors) rest

    phis_have : (b i k : ℕ) (ts : List TypeTree) → All P ts → All HasPlaced (phis g n (entries g n) b i k ts)
    phis_have b i k [] h = All-nil HasPlaced
    phis_have b i k (t ∷ ts) h = All-cons HasPlaced _ (phis g n (entries g n) b (suc i) (k + 1) ts) (All-head P t ts h, phi_has b i) (phis_have b (suc i) (k + 1) ts (All-tail P t ts h))

    block_phis_have : (place k : ℕ) (c : DialectBlock) → All P c.args → All HasPlaced (block_phis g n (entries g n) place k c)
    block_phis_have zero k c h = All-nil HasPlaced
    block_phis_have (suc p) k c h = phis_have c.number 0 k c.args h

    blocks_have : (place k : ℕ) (cs : List DialectBlock) → ((j : ℕ) (c : DialectBlock) → slice_get cs j ≡ Some c → BlockNames P c)
        → All HasPlaced (flat_map (λ (b : L.Block). b.instructions) (blocks_made g n (entries g n) place k cs))
    blocks_have place k [] h = All-nil HasPlaced
    blocks_have place k (c ∷ cs) h =
        let here = h 0 c refl in
        let behind = number_behind (k + length c.args) c.ops in
        All-append HasPlaced (block_phis g n (entries g n) place k c ++ insts g n (k + length c.args) c.ops) (flat_map (λ (b : L.Block). b.instructions) (blocks_made g n (entries g n) (suc place) behind cs))
        (All-append HasPlaced (block_phis g n (entries g n) place k c) (insts g n (k + length c.args) c.ops) (block_phis_have place k c here.args) (insts_have (k + length c.args) c.ops here.results))
        (blocks_have (suc place) behind cs (λ j d at. h (suc j) d at))

    pub placed_have : All HasPlaced (placed_in (function_made g n (entries g n)))
    placed_have = blocks_have 0 0 g.blocks names

-- ---- what holds of each type that a function names

module _ (P : TypeTree → Type 0) (void : P VoidType) where
  -- a constant is of the type of a result
  constant_types_have : (g : Func) (o : DialectOp) → IsFormOp g o → HasRuledKind o.kind → IfSome o.result P → is_constant o ≡ true → All P (constant_type (L.Constant (constant_of o.result o.kind)))
  constant_types_have g o h keeps own e =
      let t = constant_result (value_type g) g o.operands o.result o.successors o.kind e h.kind in
      let typed = (constant_good (value_type g) g o.operands o.result o.successors t.0 o.kind e t.1 h.kind h.short keeps).typed in
      let one : P (const_type (constant_of o.result o.kind)) = subst P (sym typed) (subst (λ (r : Option TypeTree). IfSome r P) t.1 own) in
      All-cons P (const_type (constant_of o.result o.kind)) [] one (All-nil P)

  abbrev HasTypesOf : Operand → Type 0
  HasTypesOf o = All P (constant_type o)

  abbrev HasPlacedTypes : Placed → Type 0
  HasPlacedTypes p = P p.type × All HasTypesOf (operands_of p.instruction)

  module _ (g : Func) (form : IsFormFunc g) (ruled : HasRules g) (n : Numbers) (names : (j : ℕ) (c : DialectBlock) → slice_get g.blocks j ≡ Some c → BlockNames P c) where
    placed_types : All HasPlacedTypes (placed_in (function_made g n (entries g n)))
    placed_types = placed_have P void HasTypesOf (λ f i. All-nil P) (λ m. All-nil P) constant_types_have g form ruled n names

    -- holds of each result of the function that is made of it
    pub made_results : All P (results_of (function_made g n (entries g n)))
    made_results =
        let ps = placed_in (function_made g n (entries g n)) in
        All-map P (λ (p : Placed). p.type) ps (All-weaker HasPlacedTypes (λ (p : Placed). P p.type) (λ p h. h.0) ps placed_types)

    -- and of the type of each constant there
    pub made_constants : All P (constants_in (function_made g n (entries g n)))
    made_constants = joined (placed_in (function_made g n (entries g n))) placed_types
      where
        of_operands : (os : List Operand) → All HasTypesOf os → All P (flat_map constant_type os)
        of_operands [] h = All-nil P
        of_operands (o ∷ os) h = All-append P (constant_type o) (flat_map constant_type os) (All-head HasTypesOf o os h) (of_operands os (All-tail HasTypesOf o os h))

        joined : (ps : List Placed) → All HasPlacedTypes ps → All P (flat_map constant_types ps)
        joined [] h = All-nil P
        joined (p ∷ ps) h =
            All-append P (constant_types p) (flat_map constant_types ps) (of_operands (operands_of p.instruction) (All-head HasPlacedTypes p ps h).1) (joined ps (All-tail HasPlacedTypes p ps h))

  -- and of its type
  pub record HasTypes (f : L.Function) : Type 0 where
    pub type : P f.type
    pub results : All P (results_of f)
    pub constants : All P (constants_in f)

  made_types : (g : Func) (f : L.Function) → IsMadeOf g f → FuncNames P g → HasTypes f
  made_types g f h names =
      let blocks : (j : ℕ) (c : DialectBlock) → slice_get g.blocks j ≡ Some c → BlockNames P c = λ j c at. all_at (BlockNames P) g.blocks j c names.blocks at in
      subst HasTypes (sym h.is) (record { type = names.type; results = made_results g h.form h.ruled h.numbers blocks; constants = made_constants g h.form h.ruled h.numbers blocks })

  -- of functions, one by one
  pub all_types : (gs : List Func) (fs : List L.Function) → Matched IsMadeOf gs fs → All (FuncNames P) gs → All HasTypes fs
  all_types [] [] h names = All-nil HasTypes
  all_types (g ∷ gs) (f ∷ fs) h names = All-cons HasTypes f fs (made_types g f h.0 (All-head (FuncNames P) g gs names)) (all_types gs fs h.1 (All-tail (FuncNames P) g gs names))
  all_types [] (f ∷ fs) h names = absurd h
  all_types (g ∷ gs) [] h names = absurd h

-- ---- types that are held

result_held : (own : Option TypeTree) → IfSome own IsHeld → IfSome own IsHeldResult
result_held None h = tt
result_held (Some t) h = held_result_if t h

block_held : (g : Func) (c : DialectBlock) → IsFormBlock g c → BlockNames IsHeldResult c
block_held g c form = record {
  args = All-weaker IsHeld IsHeldResult held_result_if c.args form.args;
  results = All-weaker (IsFormOp g) (λ (o : DialectOp). IfSome o.result IsHeldResult) (λ o op. result_held o.result op.result) c.ops form.ops;
}

-- a constant of the form is short
short_constant : (g : Func) (o : DialectOp) → IsFormOp g o → HasRuledKind o.kind → IfSome o.result IsHeldResult → is_constant o ≡ true → IsShortConst (constant_of o.result o.kind)
short_constant g o h keeps own e = constant_short (value_type g) g o.operands o.result o.successors o.kind e h.kind h.short keeps

pub made_held : (g : Func) (n : Numbers) → IsFormFunc g → HasRules g → IsHeldFunction (function_made g n (entries g n))
made_held g n form ruled =
    let results = results_of (function_made g n (entries g n)) in
    let constants = constants_in (function_made g n (entries g n)) in
    let void = held_result_void VoidType refl in
    let names : (j : ℕ) (c : DialectBlock) → slice_get g.blocks j ≡ Some c → BlockNames IsHeldResult c = λ j c at. block_held g c (block_form g form j c at) in
    let takes : All IsHeldResult (types_list form.types) = All-weaker IsHeld IsHeldResult held_result_if (types_list form.types) form.takes in
    let ps = placed_in (function_made g n (entries g n)) in
    let used = placed_have IsHeldResult void IsShortOperand (λ f i. tt) (λ m. tt) short_constant g form ruled n names in
    record {
      types = All-cons IsHeldResult (result_of g.type) (params_of g.type ++ results ++ constants) (subst (λ (t : TypeTree). IsHeldResult (result_of t)) (sym form.type) form.returns)
          (All-append IsHeldResult (params_of g.type ++ results) constants
          (All-append IsHeldResult (params_of g.type) results (subst (λ (t : TypeTree). All IsHeldResult (params_of t)) (sym form.type) takes) (made_results IsHeldResult void g form ruled n names))
          (made_constants IsHeldResult void g form ruled n names));
      constants = All-weaker (λ (p : Placed). IsHeldResult p.type × All IsShortOperand (operands_of p.instruction)) (λ (p : Placed). All IsShortOperand (operands_of p.instruction)) (λ p h. h.1) ps used;
    }
