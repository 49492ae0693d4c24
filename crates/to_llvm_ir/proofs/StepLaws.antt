-- One operation more is done: what the state is behind it.
use Rattle.std.proofs.Common.{◌≡◌, ◌+◌, ℕ, suc, Bool, true, false, not, cond, List, [], ◌∷◌, ◌++◌, Option, Some, None, length, map, take, drop, slice_get, refl, sym, ap, subst, ◌∙◌, arith, append_assoc, length-append}
use Rattle.std.proofs.lemmas.Bool.{cond-true, cond-false}
use Rattle.std.proofs.lemmas.List.{append-nil, map_push, map-append}
use Rattle.std.proofs.lemmas.List.Elements.{filter-append}
use Rattle.llvm_core.specs.declared.numbers.LLVMConst.{LLVMConst}
use Rattle.llvm_core.specs.declared.numbers.LLVMBasicBlock.{LLVMBasicBlock}
use Rattle.llvm_core.specs.declared.numbers.LLVMInstRef.{LLVMInstRef}
use Rattle.llvm_core.specs.declared.types.ResultType.{ResultType}
use Rattle.llvm_core.specs.declared.code.LLVMValue.TheVariants as V
use Rattle.llvm_core.specs.declared.code.LLVMInst.{LLVMInst}
use Rattle.llvm_core.specs.Module.{Module}
use Rattle.llvm_core.specs.Sound.{IsModule}
use Rattle.llvm_core.specs.Parts.{result_type}
use Rattle.llvm_core.specs.Data as L
use Rattle.llvm_core.specs.Data.{Placed, ModuleData, trees_of, instruction_of, result_tree, data_of, with_function, with_instruction}
use Rattle.dialect_types.specs.Trees.{TypeTree, structs_of}
use Rattle.block_order.specs.Order.{IsOrder}
use Rattle.dialect_core.specs.declared.numbers.OpRef.{OpRef}
use Rattle.dialect_core.specs.declared.ops.Value.{Value}
use Rattle.dialect_core.specs.declared.ops.Value.TheVariants.{Result}
use Rattle.dialect_core.specs.ContextData.{ContextData}
use Rattle.dialect_core.specs.Data.{DialectOp, DialectBlock, Func}
use Rattle.dialect_core.specs.Form.{IsFormFunc, is_constant, others_of}
use Rattle.meaning.specs.Dialect.{option_type}
use Rattle.to_llvm_ir.specs.declared.values.Values.{Values}
use Rattle.to_llvm_ir.specs.Order.{turn_of}
use Rattle.to_llvm_ir.specs.Exported.{result_name, result, arguments_of, phi_values}
use Rattle.to_llvm_ir.specs.Made.{Numbers, result_values, values_by, number_of, inst, insts, block_phis, function_with, no_entries, number_after, number_behind}
use Rattle.to_llvm_ir.specs.Growth.{Grows, HasType}
use Rattle.to_llvm_ir.specs.States.{found, AreKnown, Spot, IsNext, IsMade, IsBehindSpot, blocks_within, seen_to, values_to, turn, first_at}
use Rattle.to_llvm_ir.proofs.ListLaws.{take_suc, split_at, at_middle}
use Rattle.to_llvm_ir.proofs.TurnLaws.{by_split}
use Rattle.to_llvm_ir.proofs.PlacedLaws.{number_at, constant_operand, result_operand}
use Rattle.to_llvm_ir.proofs.FormLaws.{insts_push}
use Rattle.to_llvm_ir.proofs.GrowthLaws.{grows_then}
use Rattle.to_llvm_ir.proofs.BuildLaws.{IsBuilt, grows_built, built_blocks, built_insts, built_type, data_within}
use Rattle.to_llvm_ir.proofs.ConstOpLaws.{IsConstFor}
use Rattle.to_llvm_ir.proofs.OpLaws.{spot_type, spot_parts}
use Rattle.to_llvm_ir.proofs.KnownLaws.{known_set, known_void}
use Rattle.to_llvm_ir.proofs.ValueLaws.{IsSet}

-- ---- lists of one operation more

pub number_more : (k : ℕ) (os : List DialectOp) (o : DialectOp) → number_behind k (os ++ o ∷ []) ≡ number_after o.result (number_behind k os)
number_more k [] o = refl
number_more k (x ∷ os) o = number_more (number_after x.result k) os o

results_append : (os us : List DialectOp) → result_values (os ++ us) ≡ result_values os ++ result_values us
results_append os us = ap (map result) (filter-append (λ (o : DialectOp). not (is_constant o)) os us) ∙ map-append result (others_of os) (others_of us)

results_constant : (o : DialectOp) (us : List DialectOp) → is_constant o ≡ true → result_values (o ∷ us) ≡ result_values us
results_constant o us e = ap (map result) (cond-false (not (is_constant o)) (o ∷ others_of us) (others_of us) (ap not e))

results_other : (o : DialectOp) (us : List DialectOp) → is_constant o ≡ false → result_values (o ∷ us) ≡ result o ∷ result_values us
results_other o us e = ap (map result) (cond-true (not (is_constant o)) (o ∷ others_of us) (others_of us) (ap not e))

insts_skip : (g : Func) (n : Numbers) (k : ℕ) (os : List DialectOp) (o : DialectOp) → is_constant o ≡ true → insts g n k (os ++ o ∷ []) ≡ insts g n k os
insts_skip g n k [] o e = cond-true (is_constant o) [] (inst g n k o ∷ []) e
insts_skip g n k (x ∷ os) o e = by (is_constant x) (insts_skip g n (number_after x.result k) os o e)
  where
    by : (t : Bool) → insts g n (number_after x.result k) (os ++ o ∷ []) ≡ insts g n (number_after x.result k) os
        → (cond t (insts g n (number_after x.result k) (os ++ o ∷ [])) (inst g n k x ∷ insts g n (number_after x.result k) (os ++ o ∷ [])))
        ≡ (cond t (insts g n (number_after x.result k) os) (inst g n k x ∷ insts g n (number_after x.result k) os))
    by true r = r
    by false r = ap (λ (ps : List Placed). inst g n k x ∷ ps) r

-- the operation's value stands behind those made before
pub made_here : (g : Func) (form : IsFormFunc g) (order : List ℕ) (h : IsOrder (length g.blocks) order) (j k : ℕ) (c : DialectBlock) (o : DialectOp) → slice_get g.blocks j ≡ Some c → slice_get c.ops k ≡ Some o → is_constant o ≡ false
    → slice_get (values_by order g) (length (values_by (take (turn_of order j) order) g ++ (phi_values j c ++ result_values (take k c.ops)))) ≡ Some (result o)
made_here g form order h j k c o at at' other =
    let a = values_by (take (turn_of order j) order) g in
    let b = phi_values j c in
    let d = result_values (take k c.ops) in
    let more = result_values (drop (suc k) c.ops) in
    let rest = values_by (drop (suc (turn_of order j)) order) g in
    let ops : result_values c.ops ≡ d ++ result o ∷ more = ap result_values (split_at c.ops k o at').0 ∙ results_append (take k c.ops) (o ∷ drop (suc k) c.ops) ∙ ap (λ (vs : List Value). d ++ vs) (results_other o (drop (suc k) c.ops) other) in
    let whole : values_by order g ≡ (a ++ (b ++ d)) ++ result o ∷ (more ++ rest) =
    by_split g form order h j c at ∙ ap (λ (vs : List Value). a ++ ((b ++ vs) ++ rest)) ops
    ∙ ap (λ (vs : List Value). a ++ (vs ++ rest)) (sym (append_assoc b d (result o ∷ more))) ∙ ap (λ (vs : List Value). a ++ vs) (append_assoc (b ++ d) (result o ∷ more) rest) ∙ sym (append_assoc a (b ++ d) (result o ∷ (more ++ rest))) in
    ap (λ (vs : List Value). slice_get vs (length (a ++ (b ++ d)))) whole ∙ at_middle (a ++ (b ++ d)) (result o) (more ++ rest)

-- ---- what a build makes

abbrev pub placed : LLVMInstRef → List ℕ → Module → LLVMInst → Placed
placed i name m x = record { number = i.0; name = name; type = result_tree m x; instruction = instruction_of (trees_of m) x }

abbrev placed_with : ℕ → List ℕ → L.TypeTree → L.Instruction → Placed
placed_with number name type instruction = record { number = number; name = name; type = type; instruction = instruction }

pub same_placed : (p q : Placed) → p.number ≡ q.number → p.name ≡ q.name → p.type ≡ q.type → p.instruction ≡ q.instruction → p ≡ q
same_placed p q e f h k =
    ap (λ (x : ℕ). placed_with x p.name p.type p.instruction) e ∙ ap (λ (x : List ℕ). placed_with q.number x p.type p.instruction) f
    ∙ ap (λ (x : L.TypeTree). placed_with q.number q.name x p.instruction) h ∙ ap (placed_with q.number q.name q.type) k

module _ (c : ContextData) (op : OpRef) (s : Spot) (values' : Values) (m : Module) (next : IsNext c op s values' m) where
  abbrev g : Func
  g = s.task.source

  abbrev n : Numbers
  n = s.task.numbers

  abbrev ops : List DialectOp
  ops = take s.at s.block.ops

  abbrev first : ℕ
  first = first_at g s.place + length s.block.args

  ops_more : take (suc s.at) s.block.ops ≡ ops ++ s.op ∷ []
  ops_more = take_suc s.block.ops s.at s.op next.spot.there

  seen_more : seen_to s.task (turn s.task s.place) ++ (arguments_of s.block ++ map result (take (suc s.at) s.block.ops)) ≡ (seen_to s.task (turn s.task s.place) ++ (arguments_of s.block ++ map result ops)) ++ result s.op ∷ []
  seen_more =
      ap (λ (os : List DialectOp). seen_to s.task (turn s.task s.place) ++ (arguments_of s.block ++ map result os)) ops_more
      ∙ ap (λ (vs : List Value). seen_to s.task (turn s.task s.place) ++ (arguments_of s.block ++ vs)) (map_push result ops s.op)
      ∙ ap (λ (vs : List Value). seen_to s.task (turn s.task s.place) ++ vs) (sym (append_assoc (arguments_of s.block) (map result ops) (result s.op ∷ [])))
      ∙ sym (append_assoc (seen_to s.task (turn s.task s.place)) (arguments_of s.block ++ map result ops) (result s.op ∷ []))

  next_more : number_behind first (take (suc s.at) s.block.ops) ≡ number_after s.op.result (number_behind first ops)
  next_more = ap (number_behind first) ops_more ∙ number_more first ops s.op

  -- ---- instructions

  module _ (x : LLVMInst) (made : IsMade s m x) (i : LLVMInstRef) (name : List ℕ) (b : LLVMBasicBlock) (new : Module) (built : IsBuilt m new b i name x) (last : i.0 ≡ length m.insts)
      (is : data_of new ≡ with_instruction (data_of m) b.0 (placed i name m x)) (sound : IsModule new) (here : b.0 ≡ n.block + s.place) (name_is : name ≡ result_name s.op.name s.op.result (number_behind first ops)) where
    number_is : i.0 ≡ number_of g n (result s.op)
    number_is =
        last ∙ next.state.inst_count ∙ sym (number_at g next.spot.task.form n next.spot.task.order.once no_entries _ (result s.op) (made_here g next.spot.task.form n.order next.spot.task.order.once s.place s.at s.block s.op next.spot.here next.spot.there made.other))

    placed_is : placed i name m x ≡ inst g n (number_behind first ops) s.op
    placed_is = same_placed (placed i name m x) (inst g n (number_behind first ops) s.op) number_is name_is made.type made.is

    data_is : data_of new ≡ with_function s.task.before (function_with g n (blocks_within s.task s.place (block_phis g n no_entries s.place (first_at g s.place) s.block ++ insts g n first (take (suc s.at) s.block.ops))))
    data_is =
        let ps = block_phis g n no_entries s.place (first_at g s.place) s.block ++ insts g n first ops in
        let p = inst g n (number_behind first ops) s.op in
        is ∙ ap (λ (d : ModuleData). with_instruction d b.0 (placed i name m x)) next.state.is
        ∙ data_within s.task s.place ps b.0 (placed i name m x) next.spot.task.blocks here
        ∙ ap (λ (q : Placed). with_function s.task.before (function_with g n (blocks_within s.task s.place (ps ++ q ∷ [])))) placed_is
        ∙ ap (λ (qs : List Placed). with_function s.task.before (function_with g n (blocks_within s.task s.place qs)))
        (append_assoc (block_phis g n no_entries s.place (first_at g s.place) s.block) (insts g n first ops) (p ∷ [])
        ∙ ap (λ (qs : List Placed). block_phis g n no_entries s.place (first_at g s.place) s.block ++ qs) (sym (insts_push g next.spot.task.form (structs_of c.types, next.spot.task.ruled) n next.spot.task.order.once first ops s.op made.other) ∙ ap (insts g n first) (sym ops_more)))

    count_is : length new.insts ≡ n.inst + length (values_to s.task (turn s.task s.place) ++ (phi_values s.place s.block ++ result_values (take (suc s.at) s.block.ops)))
    count_is =
        let a = values_to s.task (turn s.task s.place) in
        let d = phi_values s.place s.block in
        let e = built_insts m new b i name x built in
        let f = next.state.inst_count in
        let more : result_values (take (suc s.at) s.block.ops) ≡ result_values ops ++ result s.op ∷ [] = ap result_values ops_more ∙ results_append ops (s.op ∷ []) ∙ ap (λ (vs : List Value). result_values ops ++ vs) (results_other s.op [] made.other) in
        let k : length (a ++ (d ++ result_values (take (suc s.at) s.block.ops))) ≡ length (a ++ (d ++ result_values ops)) + 1 =
        ap (λ (vs : List Value). length (a ++ (d ++ vs))) more ∙ ap (λ (vs : List Value). length (a ++ vs)) (sym (append_assoc d (result_values ops) (result s.op ∷ []))) ∙ ap (λ (vs : List Value). length vs) (sym (append_assoc a (d ++ result_values ops) (result s.op ∷ [])))
        ∙ length-append (a ++ (d ++ result_values ops)) (result s.op ∷ []) in
        omega (arith, e, f, k)

    pub void_placed : s.op.result ≡ None → IsBehindSpot s values' new
    void_placed none = record {
      is = data_is;
      sound = sound;
      block_count = built_blocks m new b i name x built ∙ next.state.block_count;
      inst_count = count_is;
      next = next.state.next ∙ sym (next_more ∙ ap (λ (r : Option TypeTree). number_after r (number_behind first ops)) none);
      known = subst (λ (vs : List Value). AreKnown g n vs values' new) (sym seen_more)
          (known_void g n (seen_to s.task (turn s.task s.place) ++ (arguments_of s.block ++ map result ops)) values' m new (result s.op) next.state.sound (grows_built m new b i name x built) (spot_type c op s next.spot ∙ none) next.state.known);
    }

    pub typed_placed : (type : TypeTree) (r : ResultType) (values'' : Values) → s.op.result ≡ Some type → result_type m x ≡ Some r → values''.next ≡ values'.next + 1 → IsSet (found values') (found values'') (Result op) (V.Inst i) → IsBehindSpot s values'' new
    typed_placed type r values'' result_is made_type counted set =
        let key : Result op ≡ result s.op = ap (λ (k : ℕ). Result (record { 0 = k })) (sym (spot_parts c op s next.spot).number) in
        let operand = result_operand g next.spot.task.form n next.spot.task.order.once no_entries s.place s.at (record { 0 = s.op.number }) s.block s.op next.spot.here next.spot.there refl made.other in
        record {
          is = data_is;
          sound = sound;
          block_count = built_blocks m new b i name x built ∙ next.state.block_count;
          inst_count = count_is;
          next = counted ∙ ap (λ (k : ℕ). k + 1) next.state.next ∙ sym (next_more ∙ ap (λ (o : Option TypeTree). number_after o (number_behind first ops)) result_is);
          known = subst (λ (vs : List Value). AreKnown g n vs values'' new) (sym seen_more)
              (known_set g n (seen_to s.task (turn s.task s.place) ++ (arguments_of s.block ++ map result ops)) values' values'' m new (result s.op) (V.Inst i) type next.state.sound (grows_built m new b i name x built) (spot_type c op s next.spot ∙ result_is)
              (subst (λ (v : Value). IsSet (found values') (found values'') v (V.Inst i)) key set)
              (record {
                typed = subst (HasType new (V.Inst i)) (made.type ∙ ap option_type result_is) (built_type m new b i name x r built last made_type sound);
                stands = ap L.Result number_is ∙ sym operand;
                phi = λ k e a. absurd a;
              }) next.state.known);
        }

  -- ---- constants

  pub constant_done : (type : TypeTree) (k : LLVMConst) (m1 m2 : Module) (values'' : Values) → IsConstFor s.op type m2 k → Grows m m1 → m1 ≡ record m { types = m1.types } → data_of m1 ≡ data_of m
      → Grows m1 m2 → m2 ≡ record m1 { consts = m2.consts } → data_of m2 ≡ data_of m1 → IsModule m2
      → values''.next ≡ values'.next + 1 → IsSet (found values') (found values'') (Result op) (V.Const k) → IsBehindSpot s values'' m2
  constant_done type k m1 m2 values'' const g1 rest1 data1 g2 rest2 data2 sound counted set =
      let grows = grows_then m m1 m2 g1 g2 in
      let key : Result op ≡ result s.op = ap (λ (i : ℕ). Result (record { 0 = i })) (sym (spot_parts c op s next.spot).number) in
      let operand = constant_operand g next.spot.task.form n next.spot.task.order.once no_entries s.place s.at (record { 0 = s.op.number }) s.block s.op next.spot.here next.spot.there refl const.constant in
      record {
        is = data2 ∙ data1 ∙ next.state.is
            ∙ ap (λ (qs : List Placed). with_function s.task.before (function_with g n (blocks_within s.task s.place (block_phis g n no_entries s.place (first_at g s.place) s.block ++ qs)))) (sym (ap (insts g n first) ops_more ∙ insts_skip g n first ops s.op const.constant));
        sound = sound;
        block_count = ap (λ (x : Module). length x.blocks) rest2 ∙ ap (λ (x : Module). length x.blocks) rest1 ∙ next.state.block_count;
        inst_count = ap (λ (x : Module). length x.insts) rest2 ∙ ap (λ (x : Module). length x.insts) rest1 ∙ next.state.inst_count
            ∙ ap (λ (vs : List Value). n.inst + length (values_to s.task (turn s.task s.place) ++ (phi_values s.place s.block ++ vs))) (sym (ap result_values ops_more ∙ results_append ops (s.op ∷ []) ∙ ap (λ (vs : List Value). result_values ops ++ vs) (results_constant s.op [] const.constant) ∙ append-nil (result_values ops)));
        next = counted ∙ ap (λ (i : ℕ). i + 1) next.state.next ∙ sym (next_more ∙ ap (λ (o : Option TypeTree). number_after o (number_behind first ops)) const.result);
        known = subst (λ (vs : List Value). AreKnown g n vs values'' m2) (sym seen_more)
            (known_set g n (seen_to s.task (turn s.task s.place) ++ (arguments_of s.block ++ map result ops)) values' values'' m m2 (result s.op) (V.Const k) type next.state.sound grows (spot_type c op s next.spot ∙ const.result)
            (subst (λ (v : Value). IsSet (found values') (found values'') v (V.Const k)) key set)
            (record {
              typed = const.typed;
              stands = ap L.Constant const.tree ∙ sym operand;
              phi = λ i e a. absurd a;
            }) next.state.known);
      }
