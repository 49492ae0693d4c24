-- What stands for what in the function that is made: its plan.
use Rattle.std.proofs.Common.{◌≡◌, ◌<◌, ◌+◌, ◌-◌, ◌&&◌, ℕ, zero, suc, Bool, true, false, nat_eq, nat_le, if◌then◌else◌, List, [], ◌∷◌, Option, Some, None, All, length, filter, slice_get, refl, sym, ap, subst, ◌∙◌, arith, eq-eqb, ne_eqb, eqb-true}
use Rattle.std.specs.Prelude.{nat_lt}
use Rattle.std.proofs.lemmas.Bool.{cond-true, cond-false, and_from, and_parts, and_left, or_from, or_left, or_right, lt-ltb, ltb-true, le-leb, leb-true, false≢true, false_from_ne_true}
use Rattle.std.proofs.lemmas.List.Elements.{All-head, All-tail}
use Rattle.std.proofs.lemmas.Option.{same_Some, none-some, slice_get_within, cond_some}
use Rattle.support.proofs.ListLaws.{all_from, filter_from, filter_at}
use Rattle.llvm_core.specs.Data as L
use Rattle.llvm_core.specs.Data.{Operand}
use Rattle.dialect_types.specs.Trees.{TypeTree}
use Rattle.block_order.specs.Order.{IsOrder}
use Rattle.llvm_core.proofs.DataLemmas.{within_at}
use Rattle.dialect_core.specs.declared.numbers.BlockRef.{BlockRef}
use Rattle.dialect_core.specs.declared.ops.Value.{Value}
use Rattle.dialect_core.specs.declared.ops.Value.TheVariants.{Result, Argument}
use Rattle.dialect_core.specs.Data.{DialectOp, DialectBlock, Func, Kind, ConstantOp, FilledOp, RowOp, ops_in, value_type}
use Rattle.dialect_core.specs.Form.{IsFormOp, IsFormBlock, IsFormFunc, is_constant, is_constant_kind}
use Rattle.meaning.specs.Terms.{Term, Param, Unset, rename}
use Rattle.meaning.specs.Machine.{Row, At, Action, Holds, begin}
use Rattle.meaning.specs.Setting.{Setting}
use Rattle.meaning.specs.Examples.{same_places}
use Rattle.meaning.specs.Llvm as llvm
use Rattle.meaning.specs.Llvm.{Key, ParamKey, ResultKey}
use Rattle.meaning.specs.Dialect as dialect
use Rattle.meaning.specs.Dialect.{same_value}
use Rattle.meaning.specs.Shape as S
use Rattle.meaning.specs.Shape.{Plan, IsPlan, IsSilent, among, AreAmong, operands_of, IsClosed, term_among}
use Rattle.meaning.proofs.SameValues.{same_value-Decides}
use Rattle.meaning.proofs.Fronts.{made, after_one, after, ran, others}
use Rattle.meaning.proofs.ConstantRows.{rows, HasConstant}
use Rattle.to_llvm_ir.specs.Exported.{result}
use Rattle.to_llvm_ir.specs.Made.{Numbers, values_by, number_of, operand_for, function_made}
use Rattle.to_llvm_ir.specs.Functions.{HasRules}
use Rattle.to_llvm_ir.proofs.ConstLaws.{constant_of, constant_holds, holds_constant}
use Rattle.to_llvm_ir.proofs.ListLaws.{AreNumbered, numbered_rest, filter_numbered}
use Rattle.to_llvm_ir.proofs.PlaceLaws.{comes_from}
use Rattle.to_llvm_ir.proofs.TurnLaws.{values_by_distinct, values_by_from}
use Rattle.to_llvm_ir.proofs.LookupLaws.{op_among, op_ruled, entry_at}
use Rattle.to_llvm_ir.proofs.PlacedLaws.{number_at, types_count, OperandIs, IsParam, IsConst, IsInst, operand_is}

abbrev pub of_number : ℕ → Value
of_number n = Result (record { 0 = n })

-- ---- constants

-- those of a function, in order
abbrev pub constants_of : Func → List DialectOp
constants_of g = filter is_constant (ops_in g)

module _ (setting : Setting) (g : Func) where
  constant_silent : (done : List (Row Value)) (o : DialectOp) (k : Kind) → is_constant_kind k ≡ true → IsSilent (dialect.action setting g o k) × AreAmong done (operands_of (dialect.action setting g o k))
  constant_silent done o (ConstantOp value) e = (tt, tt)
  constant_silent done o (FilledOp fill) e = (tt, tt)
  constant_silent done o (RowOp op) e = absurd (let never : false ≡ true = e in cc)

  closed : (done : List (Row Value)) (os : List DialectOp) → All (λ (o : DialectOp). is_constant o ≡ true) os → IsClosed done (rows setting g os)
  closed done [] h = tt
  closed done (o ∷ os) h =
      let one = constant_silent done o o.kind (All-head (λ (o : DialectOp). is_constant o ≡ true) o os h) in
      (one.0, one.1, closed (dialect.row setting g o ∷ done) os (All-tail (λ (o : DialectOp). is_constant o ≡ true) o os h))

  among_none : (os : List DialectOp) (w : Value) → ((i : ℕ) (o : DialectOp) → slice_get os i ≡ Some o → same_value (result o) w ≡ false) → among (rows setting g os) w ≡ false
  among_none [] w h = refl
  among_none (o ∷ os) w h = or_from (same_value (result o) w) (among (rows setting g os) w) (h 0 o refl) (among_none os w (λ i x at. h (suc i) x at))

  -- no operation sets an argument
  pub no_argument : (os : List DialectOp) (b : BlockRef) (i : ℕ) → ¬ (among (rows setting g os) (Argument b i) ≡ true)
  no_argument os b i m = false≢true (sym (among_none os (Argument b i) (λ k o at. refl)) ∙ m)

  pub among_at : (os : List DialectOp) (i n : ℕ) (o : DialectOp) → slice_get os i ≡ Some o → o.number ≡ n → among (rows setting g os) (of_number n) ≡ true
  among_at [] i n o at e = absurd (none-some o at)
  among_at (x ∷ os) zero n o at e = or_left (nat_eq x.number n) (among (rows setting g os) (of_number n)) (eq-eqb x.number n (ap (λ (y : DialectOp). y.number) (same_Some x o at) ∙ e))
  among_at (x ∷ os) (suc i) n o at e = or_right (nat_eq x.number n) (among (rows setting g os) (of_number n)) (among_at os i n o at e)

  -- the operation holds the term
  abbrev HoldsTerm : DialectOp → Term → Type 0
  HoldsTerm o t = dialect.action setting g o o.kind ≡ Holds t

  after_at : (e : Value → Term) (os : List DialectOp) (i n : ℕ) (o : DialectOp) (t : Term) → AreNumbered (λ (o : DialectOp). o.number) os → slice_get os i ≡ Some o → o.number ≡ n → HoldsTerm o t → after e (rows setting g os) (of_number n) ≡ t
  after_at e [] i n o t numbered at is holds = absurd (none-some o at)
  after_at e (x ∷ os) zero n o t numbered at is holds =
      let same : x ≡ o = same_Some x o at in
      let number : x.number ≡ n = ap (λ (y : DialectOp). y.number) same ∙ is in
      let none = among_none os (of_number n) (λ i y at'. ne_eqb y.number n (λ k. let z : suc i ≡ 0 = numbered (suc i) 0 y x at' refl (k ∙ sym number) in omega (arith, z))) in
      others (rows setting g os) (after_one e (dialect.row setting g x)) (of_number n) none
      ∙ cond-true (nat_eq x.number n) (made e (dialect.action setting g x x.kind)) (e (of_number n)) (eq-eqb x.number n number)
      ∙ ap (made e) (ap (λ (y : DialectOp). dialect.action setting g y y.kind) same ∙ holds)
  after_at e (x ∷ os) (suc i) n o t numbered at is holds = after_at (after_one e (dialect.row setting g x)) os i n o t (numbered_rest (λ (o : DialectOp). o.number) x os numbered) at is holds

  pub term_at : (os : List DialectOp) (i n : ℕ) (o : DialectOp) (t : Term) → All (λ (o : DialectOp). is_constant o ≡ true) os → AreNumbered (λ (o : DialectOp). o.number) os → slice_get os i ≡ Some o → o.number ≡ n → HoldsTerm o t
      → term_among (rows setting g os) (of_number n) ≡ t
  term_at os i n o t constants numbered at is holds =
      let r = ran [] (rows setting g os) (closed [] os constants) (begin Value same_value (λ (v : Value). Unset)) in
      ap (λ (env : Value → Term). env (of_number n)) r.env ∙ after_at (λ (v : Value). Unset) os i n o t numbered at is holds

-- ---- the plan

module _ (setting : Setting) (g : Func) (form : IsFormFunc g) (n : Numbers) (order : IsOrder (length g.blocks) n.order) where
  abbrev pub value_of : Key → Option Value
  value_of (ParamKey m i) = if nat_eq m n.function && nat_lt i (length form.entry.args) then Some (Argument (record { 0 = form.entry.number }) i) else None
  value_of (ResultKey m) = if nat_le n.inst m then slice_get (values_by n.order g) (m - n.inst) else None

  abbrev pub plan : Plan
  plan = record { value = value_of; hoisted = rows setting g (constants_of g) }

  -- ---- the constants

  all_constants : All (λ (o : DialectOp). is_constant o ≡ true) (constants_of g)
  all_constants = all_from (λ (o : DialectOp). is_constant o ≡ true) (constants_of g) (λ i o at. (filter_from is_constant (ops_in g) i o at).2)

  constants_numbered : AreNumbered (λ (o : DialectOp). o.number) (constants_of g)
  constants_numbered = let h : AreNumbered (λ (o : DialectOp). o.number) (ops_in g) = form.numbers in filter_numbered (λ (o : DialectOp). o.number) is_constant (ops_in g) h

  -- the plan has the constant of each operation that holds one
  pub has_constant : (j k : ℕ) (c : DialectBlock) (o : DialectOp) → slice_get g.blocks j ≡ Some c → slice_get c.ops k ≡ Some o → HasConstant setting g plan o o.kind
  has_constant j k c o at at' t holds =
      let among_all = op_among g.blocks j k c o at at' in
      let i = filter_at is_constant (ops_in g) among_all.0 o among_all.1 (holds_constant setting g o o.kind t holds) in
      (among_at setting g (constants_of g) i.0 o.number o i.1 refl, term_at setting g (constants_of g) i.0 o.number o t all_constants constants_numbered i.1 refl holds)

  -- ---- what the plan says

  param_parts : (m i : ℕ) (w : Value) → value_of (ParamKey m i) ≡ Some w → (m ≡ n.function) × (i < length form.entry.args) × (w ≡ Argument (record { 0 = form.entry.number }) i)
  param_parts m i w e =
      let c = cond_some (nat_eq m n.function && nat_lt i (length form.entry.args)) (Argument (record { 0 = form.entry.number }) i) w e in
      let p = and_parts (nat_eq m n.function) (nat_lt i (length form.entry.args)) c.0 in
      (eqb-true m n.function p.0, ltb-true i (length form.entry.args) p.1, sym c.1)

  result_parts : (m : ℕ) (w : Value) → value_of (ResultKey m) ≡ Some w → (i : ℕ) × (slice_get (values_by n.order g) i ≡ Some w) × (m ≡ n.inst + i)
  result_parts m w e = by (nat_le n.inst m) refl e
    where
      by : (t : Bool) → nat_le n.inst m ≡ t → (if t then slice_get (values_by n.order g) (m - n.inst) else None) ≡ Some w → (i : ℕ) × (slice_get (values_by n.order g) i ≡ Some w) × (m ≡ n.inst + i)
      by true le k = (m - n.inst, k, let h = leb-true n.inst m le in omega (arith, h))
      by false le k = absurd (none-some w k)

  pub value_at : (i : ℕ) (v : Value) → slice_get (values_by n.order g) i ≡ Some v → value_of (ResultKey (number_of g n v)) ≡ Some v
  value_at i v at =
      let e = number_at g form n order (λ v. []) i v at in
      ap (λ (m : ℕ). value_of (ResultKey m)) e
      ∙ cond-true (nat_le n.inst (n.inst + i)) (slice_get (values_by n.order g) (n.inst + i - n.inst)) None (le-leb n.inst (n.inst + i) (omega arith))
      ∙ ap (slice_get (values_by n.order g)) (let k : n.inst + i - n.inst ≡ i = omega arith in k) ∙ at

  -- what becomes an instruction is no argument of the entry
  argument_apart : (i m : ℕ) (j : ℕ) → slice_get (values_by n.order g) i ≡ Some (Argument (record { 0 = m }) j) → m ≡ form.entry.number → ⊥
  argument_apart i m j at e =
      let w = values_by_from g form n.order order i (Argument (record { 0 = m }) j) at in
      let f = comes_from 0 g.blocks w.0 (Argument (record { 0 = m }) j) w.1 in
      let k : 0 ≡ f.0 = form.block_numbers 0 f.0 form.entry f.1 (entry_at g form) f.2 (sym e ∙ sym f.3) in
      let lt = f.4 in
      omega (arith, k, lt)

  -- and no constant
  constant_apart : (i : ℕ) (r : ℕ) (k : ℕ) (o : DialectOp) → slice_get (values_by n.order g) i ≡ Some (of_number r) → slice_get (constants_of g) k ≡ Some o → o.number ≡ r → ⊥
  constant_apart i r k o at there e =
      let w = values_by_from g form n.order order i (of_number r) at in
      let f = comes_from 0 g.blocks w.0 (of_number r) w.1 in
      let p = filter_from is_constant (ops_in g) k o there in
      let same : p.0 ≡ f.0 = form.numbers p.0 f.0 o f.1 p.1 f.2 (e ∙ sym f.3) in
      let is : o ≡ f.1 = same_Some o f.1 (sym p.1 ∙ ap (slice_get (ops_in g)) same ∙ f.2) in
      let never : true ≡ false = sym p.2 ∙ ap is_constant is ∙ f.4 in
      cc

  one_to_one : (j k : Key) (w : Value) → value_of j ≡ Some w → value_of k ≡ Some w → j ≡ k
  one_to_one (ParamKey m i) (ParamKey l j) w e e' =
      let p = param_parts m i w e in
      let q = param_parts l j w e' in
      let same : Argument (record { 0 = form.entry.number }) i ≡ Argument (record { 0 = form.entry.number }) j = sym p.2 ∙ q.2 in
      let place : i ≡ j = cc in
      let number : m ≡ l = p.0 ∙ sym q.0 in
      cc
  one_to_one (ParamKey m i) (ResultKey l) w e e' =
      let p = param_parts m i w e in
      let q = result_parts l w e' in
      absurd (argument_apart q.0 form.entry.number i (q.1 ∙ ap Some p.2) refl)
  one_to_one (ResultKey l) (ParamKey m i) w e e' =
      let p = param_parts m i w e' in
      let q = result_parts l w e in
      absurd (argument_apart q.0 form.entry.number i (q.1 ∙ ap Some p.2) refl)
  one_to_one (ResultKey m) (ResultKey l) w e e' =
      let p = result_parts m w e in
      let q = result_parts l w e' in
      let i = values_by_distinct g form n.order order p.0 q.0 w p.1 q.1 in
      ap ResultKey (p.2 ∙ ap (λ (k : ℕ). n.inst + k) i ∙ sym q.2)

  apart_from : (w : Value) → ((k : ℕ) (o : DialectOp) → slice_get (constants_of g) k ≡ Some o → result o ≡ w → ⊥) → among (rows setting g (constants_of g)) w ≡ false
  apart_from w h = among_none setting g (constants_of g) w (λ k o at. false_from_ne_true (same_value (result o) w) (λ e. h k o at ((same_value-Decides (result o) w).0 e)))

  apart : (k : Key) (w : Value) → value_of k ≡ Some w → among (rows setting g (constants_of g)) w ≡ false
  apart (ParamKey m i) w e = let p = param_parts m i w e in apart_from w (λ k o at is. let never : result o ≡ Argument (record { 0 = form.entry.number }) i = is ∙ p.2 in cc)
  apart (ResultKey m) w e = let p = result_parts m w e in apart_from w (λ k o at is. constant_apart p.0 o.number k o (p.1 ∙ ap Some (sym is)) at refl)

  pub is_plan : IsPlan plan
  is_plan = record { closed = closed setting g [] (constants_of g) all_constants; one_to_one = one_to_one; apart = apart }

  -- ---- the start

  arity_is : (given : Value → List (Operand × ℕ)) → llvm.arity (function_made g n given).type ≡ length form.entry.args
  arity_is given = ap llvm.arity form.type ∙ types_count form.types ∙ sym (ap (λ (ts : List TypeTree). length ts) form.params)

  start_none : (w : Value) → ((i : ℕ) → w ≡ Argument (record { 0 = form.entry.number }) i → ⊥) → dialect.start (form.entry ∷ form.more) w ≡ Unset
  start_none (Result r) h = refl
  start_none (Argument b i) h =
      cond-false (nat_eq b.0 form.entry.number && nat_lt i (length form.entry.args)) (Param i) Unset
      (and_left (nat_eq b.0 form.entry.number) (nat_lt i (length form.entry.args)) (ne_eqb b.0 form.entry.number (λ e. h i (ap (λ (m : ℕ). Argument (record { 0 = m }) i) e))))

  pub starts : (given : Value → List (Operand × ℕ)) (k : Key) (w : Value) → value_of k ≡ Some w → rename same_places (llvm.start (function_made g n given) k) ≡ dialect.start g.blocks w
  starts given (ParamKey m i) w e =
      let f = function_made g n given in
      let p = param_parts m i w e in
      let lt : i < llvm.arity f.type = let a = arity_is given in let small = p.1 in omega (arith, a, small) in
      ap (rename same_places) (cond-true (nat_eq m n.function && nat_lt i (llvm.arity f.type)) (Param i) Unset (and_from (nat_eq m n.function) (nat_lt i (llvm.arity f.type)) (eq-eqb m n.function p.0) (lt-ltb i (llvm.arity f.type) lt)))
      ∙ sym (ap (λ (bs : List DialectBlock). dialect.start bs w) form.body ∙ ap (dialect.start (form.entry ∷ form.more)) p.2
      ∙ cond-true (nat_eq form.entry.number form.entry.number && nat_lt i (length form.entry.args)) (Param i) Unset (and_from (nat_eq form.entry.number form.entry.number) (nat_lt i (length form.entry.args)) (eq-eqb form.entry.number form.entry.number refl) (lt-ltb i (length form.entry.args) p.1)))
  starts given (ResultKey m) w e =
      let p = result_parts m w e in
      sym (ap (λ (bs : List DialectBlock). dialect.start bs w) form.body ∙ start_none w (λ i is. argument_apart p.0 form.entry.number i (p.1 ∙ ap Some is) refl))

  -- no constant is set there
  pub unset : (w : Value) → among (rows setting g (constants_of g)) w ≡ true → dialect.start g.blocks w ≡ Unset
  unset (Result r) m = ap (λ (bs : List DialectBlock). dialect.start bs (Result r)) form.body
  unset (Argument b i) m = absurd (no_argument setting g (constants_of g) b i m)

  -- ---- operands

  module _ (ruled : HasRules g) where
    stands_as : (back : Setting) (given : Value → List (Operand × ℕ)) (v : Value) (t : TypeTree) → OperandIs g form n order given v t → S.StandsFor same_places plan (llvm.operand back (operand_for g n v)) (At v)
    stands_as back given v t (IsParam i b is entry type operand) =
        let lt = slice_get_within form.entry.args i t type in
        subst (λ (o : Operand). S.StandsFor same_places plan (llvm.operand back o) (At v)) (sym operand)
        (cond-true (nat_eq n.function n.function && nat_lt i (length form.entry.args)) (Some (Argument (record { 0 = form.entry.number }) i)) None
        (and_from (nat_eq n.function n.function) (nat_lt i (length form.entry.args)) (eq-eqb n.function n.function refl) (lt-ltb i (length form.entry.args) lt))
        ∙ ap (λ (m : ℕ). Some (Argument (record { 0 = m }) i)) (sym entry) ∙ ap Some (sym is))
    stands_as back given v t (IsConst j k c o here at is constant type operand) =
        let op = within_at c.ops (IsFormOp g) (within_at g.blocks (IsFormBlock g) form.blocks j c here).ops k o at in
        let held = has_constant j k c o here at (rename same_places (llvm.const_term back (constant_of o.result o.kind))) (constant_holds setting back g o o.kind constant op.kind op.short (op_ruled g ruled j k c o here at)) in
        subst (λ (o : Operand). S.StandsFor same_places plan (llvm.operand back o) (At v)) (sym operand)
        (subst (λ (w : Value). S.StandsFor same_places plan (llvm.operand back (L.Constant (constant_of o.result o.kind))) (At w)) (sym is) (held.0, sym held.1))
    stands_as back given v t (IsInst i at operand) = subst (λ (o : Operand). S.StandsFor same_places plan (llvm.operand back o) (At v)) (sym operand) (value_at i v at)

    pub stands : (back : Setting) (v : Value) (t : TypeTree) → value_type g v ≡ Some t → S.StandsFor same_places plan (llvm.operand back (operand_for g n v)) (At v)
    stands back v t e = stands_as back (λ v. []) v t (operand_is g form n order (λ v. []) v t e)
