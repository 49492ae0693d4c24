-- The instructions of the function that is made: one for each value, in order.
use Rattle.std.proofs.Common.{◌≡◌, ◌<◌, ◌+◌, ℕ, zero, suc, Bool, true, false, not, nat_eq, if◌then◌else◌, List, [], ◌∷◌, ◌++◌, Option, Some, length, map, slice_get, refl, sym, ap, subst, ◌∙◌, arith, eq-eqb}
use Rattle.std.specs.List.{flat_map}
use Rattle.std.specs.Option.{option_map_or}
use Rattle.std.proofs.lemmas.Option.{same_Some, none-some, slice_get_within}
use Rattle.std.proofs.lemmas.Bool.{cond-true, cond-false}
use Rattle.std.proofs.lemmas.List.{length-map}
use Rattle.kinds.specs.Types.{types_list, count_types}
use Rattle.kinds.proofs.HeldLaws.{held_first_class}
use Rattle.meaning.proofs.MatchedLaws.{matched_append}
use Rattle.llvm_core.specs.Data as L
use Rattle.llvm_core.specs.Data.{Operand, Placed, Block, Function, placed_in, operand_type}
use Rattle.llvm_core.specs.Form as F
use Rattle.dialect_types.specs.Trees.{TypeTree, TypeTrees, NoTypes, ThenType}
use Rattle.block_order.specs.Order.{IsOrder}
use Rattle.dialect_core.specs.declared.numbers.BlockRef.{BlockRef}
use Rattle.dialect_core.specs.declared.numbers.OpRef.{OpRef}
use Rattle.dialect_core.specs.declared.ops.Value.{Value}
use Rattle.dialect_core.specs.declared.ops.Value.TheVariants.{Result, Argument}
use Rattle.dialect_core.specs.Data.{DialectOp, DialectBlock, Func, value_type}
use Rattle.dialect_core.specs.Form.{IsFormFunc, IsFormOp, IsOperand, is_constant, others_of}
use Rattle.meaning.specs.Pairs.{Matched}
use Rattle.meaning.specs.Dialect.{option_type}
use Rattle.to_llvm_ir.specs.Exported.{result, arguments_from, phi_values}
use Rattle.to_llvm_ir.specs.Made.{Numbers, result_values, values_from, values, values_by, constant_or, is_entry, number_of, operand_for, inst, insts, phis, block_phis, block_made, blocks_made, function_made, entry_args, number_after, number_behind}
use Rattle.to_llvm_ir.specs.Functions.{HasRules}
use Rattle.to_llvm_ir.proofs.ConstLaws.{constant_of, constant_is, other_is, constant_good}
use Rattle.to_llvm_ir.proofs.ListLaws.{AreNumbered, find_numbered}
use Rattle.to_llvm_ir.proofs.PlaceLaws.{place_at}
use Rattle.to_llvm_ir.proofs.TurnLaws.{values_distinct, values_by_distinct, values_by_at, values_by_from, argument_among, result_among}
use Rattle.to_llvm_ir.proofs.LookupLaws.{argument_type, result_type, argument_of, result_of, op_found, op_form, op_ruled, entry_at, entry_is, entry_is_not, first_is_entry, IsResultOf}

-- ---- matched lists

pub matched_at : {A B : Type 0} (P : A → B → Type 0) (xs : List A) (ys : List B) (i : ℕ) (x : A) → Matched P xs ys → slice_get xs i ≡ Some x → (y : B) × (slice_get ys i ≡ Some y) × P x y
matched_at P [] ys i x m at = absurd (none-some x at)
matched_at P (z ∷ xs) [] i x m at = absurd m
matched_at P (z ∷ xs) (y ∷ ys) zero x m at = (y, refl, subst (λ w. P w y) (same_Some z x at) m.0)
matched_at P (z ∷ xs) (y ∷ ys) (suc i) x m at = matched_at P xs ys i x m.1 at

pub matched_back : {A B : Type 0} (P : A → B → Type 0) (xs : List A) (ys : List B) (i : ℕ) (y : B) → Matched P xs ys → slice_get ys i ≡ Some y → (x : A) × (slice_get xs i ≡ Some x) × P x y
matched_back P xs [] i y m at = absurd (none-some y at)
matched_back P [] (z ∷ ys) i y m at = absurd m
matched_back P (x ∷ xs) (z ∷ ys) zero y m at = (x, refl, subst (λ w. P x w) (same_Some z y at) m.0)
matched_back P (x ∷ xs) (z ∷ ys) (suc i) y m at = matched_back P xs ys i y m.1 at

-- ---- types

pub types_count : (ts : TypeTrees) → count_types ts ≡ length (types_list ts)
types_count NoTypes = refl
types_count (ThenType t ts) = let e = types_count ts in omega (arith, e)

-- ---- the instruction of a value

pub record IsPlaced (g : Func) (n : Numbers) (v : Value) (p : Placed) : Type 0 where
  pub number : p.number ≡ number_of g n v
  pub type : p.type ≡ option_type (value_type g v)

module _ (g : Func) (form : IsFormFunc g) (n : Numbers) (order : IsOrder (length g.blocks) n.order) (given : Value → List (Operand × ℕ)) where
  phis_placed : (b i k : ℕ) (ts : List TypeTree) → ((j : ℕ) (t : TypeTree) → slice_get ts j ≡ Some t → value_type g (Argument (record { 0 = b }) (i + j)) ≡ Some t) → Matched (IsPlaced g n) (arguments_from b i ts) (phis g n given b i k ts)
  phis_placed b i k [] h = tt
  phis_placed b i k (t ∷ ts) h =
      let here : value_type g (Argument (record { 0 = b }) i) ≡ Some t = ap (λ (j : ℕ). value_type g (Argument (record { 0 = b }) j)) (let e : i ≡ i + 0 = omega arith in e) ∙ h 0 t refl in (
        record { number = refl; type = sym (ap option_type here) },
        phis_placed b (suc i) (k + 1) ts (λ j u at. ap (λ (j : ℕ). value_type g (Argument (record { 0 = b }) j)) (let e : suc i + j ≡ i + suc j = omega arith in e) ∙ h (suc j) u at),
      )

  insts_placed : (k : ℕ) (os : List DialectOp) → ((j : ℕ) (o : DialectOp) → slice_get os j ≡ Some o → value_type g (result o) ≡ o.result) → Matched (IsPlaced g n) (result_values os) (insts g n k os)
  insts_placed k [] h = tt
  insts_placed k (o ∷ os) h = by (is_constant o) (insts_placed (number_after o.result k) os (λ j x at. h (suc j) x at))
    where
      by : (t : Bool) → Matched (IsPlaced g n) (result_values os) (insts g n (number_after o.result k) os)
          → Matched (IsPlaced g n) (map result (if not t then o ∷ others_of os else others_of os)) (if t then insts g n (number_after o.result k) os else inst g n k o ∷ insts g n (number_after o.result k) os)
      by true m = m
      by false m = (record { number = refl; type = sym (ap option_type (h 0 o refl)) }, m)

  pub block_placed : (place k : ℕ) (c : DialectBlock) → slice_get g.blocks place ≡ Some c → Matched (IsPlaced g n) (phi_values place c ++ result_values c.ops) (block_made g n given place k c).instructions
  block_placed place k c at =
      matched_append (IsPlaced g n) (phi_values place c) (result_values c.ops) (block_phis g n given place k c) (insts g n (k + length c.args) c.ops) (front place at)
      (insts_placed (k + length c.args) c.ops (λ j o at'. result_type g form place j (record { 0 = o.number }) c o at at' refl))
    where
      front : (place : ℕ) → slice_get g.blocks place ≡ Some c → Matched (IsPlaced g n) (phi_values place c) (block_phis g n given place k c)
      front zero at = tt
      front (suc p) at = phis_placed c.number 0 k c.args (λ j t at'. argument_type g form (suc p) (0 + j) (record { 0 = c.number }) c at refl ∙ ap (slice_get c.args) (let e : 0 + j ≡ j = omega arith in e) ∙ at')

  blocks_placed : (place k : ℕ) (cs : List DialectBlock) → ((j : ℕ) (c : DialectBlock) → slice_get cs j ≡ Some c → slice_get g.blocks (place + j) ≡ Some c) → Matched (IsPlaced g n) (values_from place cs) (flat_map (λ (b : Block). b.instructions) (blocks_made g n given place k cs))
  blocks_placed place k [] h = tt
  blocks_placed place k (c ∷ cs) h =
      matched_append (IsPlaced g n) (phi_values place c ++ result_values c.ops) (values_from (suc place) cs) (block_made g n given place k c).instructions
      (flat_map (λ (b : Block). b.instructions) (blocks_made g n given (suc place) (number_behind (k + length c.args) c.ops) cs))
      (block_placed place k c (ap (slice_get g.blocks) (let e : place ≡ place + 0 = omega arith in e) ∙ h 0 c refl))
      (blocks_placed (suc place) (number_behind (k + length c.args) c.ops) cs (λ j d at. ap (slice_get g.blocks) (let e : suc place + j ≡ place + suc j = omega arith in e) ∙ h (suc j) d at))

  abbrev pub made : Function
  made = function_made g n given

  pub placed : Matched (IsPlaced g n) (values g) (placed_in made)
  placed = blocks_placed 0 0 g.blocks (λ j c at. ap (slice_get g.blocks) (let e : 0 + j ≡ j = omega arith in e) ∙ at)

  pub number_at : (i : ℕ) (v : Value) → slice_get (values_by n.order g) i ≡ Some v → number_of g n v ≡ n.inst + i
  number_at i v at = ap (λ (j : ℕ). n.inst + j) (place_at v (values_by n.order g) i (values_by_distinct g form n.order order) at)

  pub placed_numbered : AreNumbered (λ (p : Placed). p.number) (placed_in made)
  placed_numbered i j a b at at' e =
      let p = matched_back (IsPlaced g n) (values g) (placed_in made) i a placed at in
      let q = matched_back (IsPlaced g n) (values g) (placed_in made) j b placed at' in
      let r = values_by_at g form n.order order i p.0 p.1 in
      let s = values_by_at g form n.order order j q.0 q.1 in
      let h = number_at r.0 p.0 r.1 in
      let k = number_at s.0 q.0 s.1 in
      let x = p.2.number in
      let y = q.2.number in
      let same : r.0 ≡ s.0 = omega (arith, e, h, k, x, y) in
      let value : p.0 ≡ q.0 = same_Some p.0 q.0 (sym r.1 ∙ ap (slice_get (values_by n.order g)) same ∙ s.1) in
      values_distinct g form i j p.0 p.1 (q.1 ∙ ap Some (sym value))

  -- the result of the instruction of a value
  pub result_typed : (i : ℕ) (v : Value) → slice_get (values_by n.order g) i ≡ Some v → operand_type made (L.Result (number_of g n v)) ≡ option_type (value_type g v)
  result_typed i v at =
      let k = values_by_from g form n.order order i v at in
      let p = matched_at (IsPlaced g n) (values g) (placed_in made) k.0 v placed k.1 in
      ap (λ (o : Option Placed). option_map_or (λ (x : Placed). x.type) o L.VoidType) (find_numbered (λ (x : Placed). x.number) (placed_in made) k.0 (number_of g n v) p.0 placed_numbered p.1 p.2.number) ∙ p.2.type

  pub result_there : (i : ℕ) (v : Value) → slice_get (values_by n.order g) i ≡ Some v → F.HasNumber (number_of g n v) (placed_in made)
  result_there i v at =
      let k = values_by_from g form n.order order i v at in
      let p = matched_at (IsPlaced g n) (values g) (placed_in made) k.0 v placed k.1 in
      (k.0, p.0, p.1, p.2.number)

  -- ---- parameters

  pub params_count : length made.params ≡ length form.entry.args
  params_count = length-map (entry_args g n) (λ (t : TypeTree). let none : List ℕ = [] in none) ∙ ap (λ (o : Option DialectBlock). length (option_map_or (λ (c : DialectBlock). c.args) o [])) (entry_at g form)

  nth_is : (ts : TypeTrees) (i : ℕ) (t : TypeTree) → slice_get (types_list ts) i ≡ Some t → L.nth_type ts i ≡ t
  nth_is NoTypes i t at = absurd (none-some t at)
  nth_is (ThenType u ts) zero t at = same_Some u t at
  nth_is (ThenType u ts) (suc i) t at = nth_is ts i t at

  param_typed : (i : ℕ) (t : TypeTree) → slice_get form.entry.args i ≡ Some t → operand_type made (L.Parameter n.function i) ≡ t
  param_typed i t at =
      cond-true (nat_eq n.function n.function) (L.param_type made.type i) L.VoidType (eq-eqb n.function n.function refl)
      ∙ ap (λ (x : TypeTree). L.param_type x i) form.type
      ∙ nth_is form.types i t (ap (λ (ts : List TypeTree). slice_get ts i) (sym form.params) ∙ at)

  -- ---- operands by where they come from

  pub argument_operand : (i : ℕ) (b : BlockRef) → is_entry g b.0 ≡ false → operand_for g n (Argument b i) ≡ L.Result (number_of g n (Argument b i))
  argument_operand i b other = cond-false (is_entry g b.0) (L.Parameter n.function i) (L.Result (number_of g n (Argument b i))) other

  pub param_operand : (i : ℕ) (b : BlockRef) → is_entry g b.0 ≡ true → operand_for g n (Argument b i) ≡ L.Parameter n.function i
  param_operand i b entry = cond-true (is_entry g b.0) (L.Parameter n.function i) (L.Result (number_of g n (Argument b i))) entry

  op_operand : (j k : ℕ) (r : OpRef) (c : DialectBlock) (o : DialectOp) → slice_get g.blocks j ≡ Some c → slice_get c.ops k ≡ Some o → o.number ≡ r.0 → operand_for g n (Result r) ≡ constant_or (L.Result (number_of g n (Result r))) o.result o.kind
  op_operand j k r c o at at' is = ap (λ (x : Option DialectOp). option_map_or (λ (o : DialectOp). constant_or (L.Result (number_of g n (Result r))) o.result o.kind) x (L.Result (number_of g n (Result r)))) (op_found g form j k r.0 c o at at' is)

  pub constant_operand : (j k : ℕ) (r : OpRef) (c : DialectBlock) (o : DialectOp) → slice_get g.blocks j ≡ Some c → slice_get c.ops k ≡ Some o → o.number ≡ r.0 → is_constant o ≡ true → operand_for g n (Result r) ≡ L.Constant (constant_of o.result o.kind)
  constant_operand j k r c o at at' is constant = op_operand j k r c o at at' is ∙ constant_is (L.Result (number_of g n (Result r))) o.result o.kind constant

  pub result_operand : (j k : ℕ) (r : OpRef) (c : DialectBlock) (o : DialectOp) → slice_get g.blocks j ≡ Some c → slice_get c.ops k ≡ Some o → o.number ≡ r.0 → is_constant o ≡ false → operand_for g n (Result r) ≡ L.Result (number_of g n (Result r))
  result_operand j k r c o at at' is other = op_operand j k r c o at at' is ∙ other_is (L.Result (number_of g n (Result r))) o.result o.kind other

  -- ---- what an operand is: a parameter, a constant, or the result of an instruction

  pub data OperandIs (v : Value) (t : TypeTree) : Type 0 where
    IsParam : (i : ℕ) (b : BlockRef) → v ≡ Argument b i → b.0 ≡ form.entry.number → slice_get form.entry.args i ≡ Some t → operand_for g n v ≡ L.Parameter n.function i → OperandIs v t
    IsConst : (j k : ℕ) (c : DialectBlock) (o : DialectOp) → slice_get g.blocks j ≡ Some c → slice_get c.ops k ≡ Some o → v ≡ result o → is_constant o ≡ true → o.result ≡ Some t → operand_for g n v ≡ L.Constant (constant_of o.result o.kind) → OperandIs v t
    IsInst : (i : ℕ) → slice_get (values_by n.order g) i ≡ Some v → operand_for g n v ≡ L.Result (number_of g n v) → OperandIs v t

  argument_is : (b : BlockRef) (i : ℕ) (t : TypeTree) (place : ℕ) (c : DialectBlock) → slice_get g.blocks place ≡ Some c → c.number ≡ b.0 → slice_get c.args i ≡ Some t → OperandIs (Argument b i) t
  argument_is b i t zero c at is type =
      let e = first_is_entry g form c at in
      IsParam i b refl (sym is ∙ ap (λ (x : DialectBlock). x.number) e) (ap (λ (x : DialectBlock). slice_get x.args i) (sym e) ∙ type) (param_operand i b (entry_is g form b.0 c at is))
  argument_is b i t (suc p) c at is type =
      let r = argument_among g form n.order order p i c t at type in
      let same : Argument (record { 0 = c.number }) i ≡ Argument b i = ap (λ (m : ℕ). Argument (record { 0 = m }) i) is in
      IsInst r.0 (r.1 ∙ ap Some same) (argument_operand i b (entry_is_not g form p b.0 c at is))

  result_is : (r : OpRef) (t : TypeTree) (h : IsResultOf g form r t) → (b : Bool) → is_constant h.op ≡ b → OperandIs (Result r) t
  result_is r t h true e =
      IsConst h.place h.at h.block h.op h.here h.there (ap (λ (m : ℕ). Result (record { 0 = m })) (sym h.number)) e h.type (constant_operand h.place h.at r h.block h.op h.here h.there h.number e)
  result_is r t h false e =
      let i = result_among g form n.order order h.place h.at h.block h.op h.here h.there e in
      IsInst i.0 (i.1 ∙ ap (λ (m : ℕ). Some (Result (record { 0 = m }))) h.number) (result_operand h.place h.at r h.block h.op h.here h.there h.number e)

  pub operand_is : (v : Value) (t : TypeTree) → value_type g v ≡ Some t → OperandIs v t
  operand_is (Argument b i) t e = let h = argument_of g form b i t e in argument_is b i t h.place h.block h.here h.number h.type
  operand_is (Result r) t e = let h = result_of g form r t e in result_is r t h (is_constant h.op) refl

  -- ---- operands of the form

  module _ (ruled : HasRules g) where
    const_form : (j k : ℕ) (c : DialectBlock) (o : DialectOp) (t : TypeTree) → slice_get g.blocks j ≡ Some c → slice_get c.ops k ≡ Some o → is_constant o ≡ true → o.result ≡ Some t → F.IsFormConst (constant_of o.result o.kind) × (L.const_type (constant_of o.result o.kind) ≡ t)
    const_form j k c o t here at constant type =
        let h = op_form g form j k c o here at in
        let good = constant_good (value_type g) g o.operands o.result o.successors t o.kind constant type h.kind h.short (op_ruled g ruled j k c o here at) in
        (good.form, good.typed)

    operand_typed_as : (v : Value) (t : TypeTree) → value_type g v ≡ Some t → OperandIs v t → F.IsOperandOf made (operand_for g n v) × (operand_type made (operand_for g n v) ≡ t)
    operand_typed_as v t e (IsParam i b is entry type operand) = (
      subst (F.IsOperandOf made) (sym operand) (refl, (let c = params_count in let lt = slice_get_within form.entry.args i t type in omega (arith, c, lt))),
      ap (operand_type made) operand ∙ param_typed i t type,
    )
    operand_typed_as v t e (IsConst j k c o here at is constant type operand) = let const = const_form j k c o t here at constant type in (subst (F.IsOperandOf made) (sym operand) const.0, ap (operand_type made) operand ∙ const.1)
    operand_typed_as v t e (IsInst i at operand) = (subst (F.IsOperandOf made) (sym operand) (result_there i v at), ap (operand_type made) operand ∙ result_typed i v at ∙ ap option_type e)

    pub operand_typed : (v : Value) (t : TypeTree) → value_type g v ≡ Some t → operand_type made (operand_for g n v) ≡ t
    operand_typed v t e = (operand_typed_as v t e (operand_is v t e)).1

    pub operand_form : (v : Value) (t : TypeTree) → IsOperand g t v → F.IsOperand made t (operand_for g n v)
    operand_form v t h = let p = operand_typed_as v t h.typed (operand_is v t h.typed) in record { stands = p.0; typed = p.1; first_class = held_first_class t h.held }
