-- One argument more of a block is done: a parameter of the function, or a phi.
use Rattle.std.proofs.Common.{◌≡◌, ◌<◌, ◌+◌, ℕ, suc, List, [], ◌∷◌, ◌++◌, Some, None, length, map, take, drop, slice_get, get_or, refl, sym, ap, subst, ◌∙◌, arith, append_assoc, length-append}
use Rattle.std.specs.Option.{option_map}
use Rattle.std.proofs.lemmas.Option.{same_Some, slice_get-map, slice_get-get_or}
use Rattle.std.proofs.lemmas.List.{append-nil, take_all, length-map}
use Rattle.support.proofs.ListLaws.{item_there}
use Rattle.llvm_core.specs.declared.numbers.LLVMType.{LLVMType}
use Rattle.llvm_core.specs.declared.numbers.LLVMFunction.{LLVMFunction}
use Rattle.llvm_core.specs.declared.numbers.LLVMBasicBlock.{LLVMBasicBlock}
use Rattle.llvm_core.specs.declared.numbers.LLVMInstRef.{LLVMInstRef}
use Rattle.llvm_core.specs.declared.types.ResultType.TheVariants as R
use Rattle.llvm_core.specs.declared.code.LLVMValue.TheVariants as V
use Rattle.llvm_core.specs.declared.code.LLVMInst.{LLVMInst}
use Rattle.llvm_core.specs.declared.code.LLVMInst.TheVariants as I
use Rattle.llvm_core.specs.Module.{Module}
use Rattle.llvm_core.specs.Sound.{IsModule}
use Rattle.llvm_core.specs.Parts.{IsPhi, is_phi, result_type}
use Rattle.llvm_core.specs.Data as L
use Rattle.llvm_core.specs.Data.{Placed, ModuleData, data_of, trees_of, with_function, with_instruction}
use Rattle.kinds.specs.Held.{IsHeld}
use Rattle.dialect_types.specs.Trees.{TypeTree, type_at, type_trees}
use Rattle.block_order.specs.Order.{IsOrder}
use Rattle.dialect_core.specs.declared.numbers.BlockRef.{BlockRef}
use Rattle.dialect_core.specs.declared.ops.Value.{Value}
use Rattle.dialect_core.specs.declared.ops.Value.TheVariants.{Argument}
use Rattle.dialect_types.specs.declared.types.TypeHandle.{TypeHandle}
use Rattle.dialect_core.specs.declared.ops.BlockData.{BlockData}
use Rattle.dialect_core.specs.Form.{IsFormFunc}
use Rattle.dialect_core.specs.ContextData.{ContextData}
use Rattle.dialect_core.specs.Data.{DialectBlock, Func}
use Rattle.to_llvm_ir.specs.declared.values.Values.{Values}
use Rattle.to_llvm_ir.specs.Order.{turn_of}
use Rattle.to_llvm_ir.specs.Exported.{value_name, arguments_from, arguments_of, phi_values}
use Rattle.to_llvm_ir.specs.Made.{Numbers, result_values, values_by, number_of, phis, block_phis, function_with, no_entries}
use Rattle.to_llvm_ir.specs.Growth.{Grows, IsTypeOf, HasType}
use Rattle.to_llvm_ir.specs.States.{found, AreKnown, Task, IsAtArgument, IsAtOp, IsBlockAt, blocks_within, seen_to, values_to, turn, first_at, upto}
use Rattle.to_llvm_ir.specs.Opening.{HasParams}
use Rattle.to_llvm_ir.proofs.ListLaws.{all_at, take_suc, split_at, at_middle}
use Rattle.to_llvm_ir.proofs.LookupLaws.{block_form, argument_type, entry_is, entry_is_not}
use Rattle.to_llvm_ir.proofs.TurnLaws.{by_split}
use Rattle.to_llvm_ir.proofs.PlacedLaws.{number_at, argument_operand, param_operand}
use Rattle.to_llvm_ir.proofs.ContextLaws.{block_parts}
use Rattle.to_llvm_ir.proofs.GrowthLaws.{grows_refl, grows_then}
use Rattle.to_llvm_ir.proofs.BuildLaws.{IsBuilt, grows_built, built_blocks, built_insts, built_there, built_type, data_within}
use Rattle.to_llvm_ir.proofs.StepLaws.{placed, same_placed}
use Rattle.to_llvm_ir.proofs.KnownLaws.{known_set}
use Rattle.to_llvm_ir.proofs.ValueLaws.{IsSet}

-- ---- lists of one argument more

arguments_append : (b i : ℕ) (ts us : List TypeTree) → arguments_from b i (ts ++ us) ≡ arguments_from b i ts ++ arguments_from b (i + length ts) us
arguments_append b i [] us = ap (λ (k : ℕ). arguments_from b k us) (let e : i ≡ i + 0 = omega arith in e)
arguments_append b i (t ∷ ts) us =
    ap (λ (vs : List Value). Argument (record { 0 = b }) i ∷ vs) (arguments_append b (suc i) ts us ∙ ap (λ (k : ℕ). arguments_from b (suc i) ts ++ arguments_from b k us) (let e : suc i + length ts ≡ i + suc (length ts) = omega arith in e))

phis_append : (g : Func) (n : Numbers) (b i k : ℕ) (ts us : List TypeTree) → phis g n no_entries b i k (ts ++ us) ≡ phis g n no_entries b i k ts ++ phis g n no_entries b (i + length ts) (k + length ts) us
phis_append g n b i k [] us = ap (λ (q : ℕ). phis g n no_entries b q k us) (let e : i ≡ i + 0 = omega arith in e) ∙ ap (λ (q : ℕ). phis g n no_entries b (i + 0) q us) (let e : k ≡ k + 0 = omega arith in e)
phis_append g n b i k (t ∷ ts) us =
    let rest = phis_append g n b (suc i) (k + 1) ts us in
    let e : suc i + length ts ≡ i + suc (length ts) = omega arith in
    let f : k + 1 + length ts ≡ k + suc (length ts) = omega arith in
    let head : Placed = record { number = number_of g n (Argument (record { 0 = b }) i); name = value_name None k; type = t; instruction = L.Phi [] } in
    ap (λ (ps : List Placed). head ∷ ps) (rest ∙ ap (λ (q : ℕ). phis g n no_entries b (suc i) (k + 1) ts ++ phis g n no_entries b q (k + 1 + length ts) us) e ∙ ap (λ (q : ℕ). phis g n no_entries b (suc i) (k + 1) ts ++ phis g n no_entries b (i + suc (length ts)) q us) f)

take_length : (ts : List TypeTree) (i : ℕ) (t : TypeTree) → slice_get ts i ≡ Some t → length (take i ts) ≡ i
take_length ts i t at = (split_at ts i t at).1

pub arguments_more : (c : DialectBlock) (i : ℕ) (type : TypeTree) → slice_get c.args i ≡ Some type → arguments_of (upto (suc i) c) ≡ arguments_of (upto i c) ++ Argument (record { 0 = c.number }) i ∷ []
arguments_more c i type at =
    ap (arguments_from c.number 0) (take_suc c.args i type at) ∙ arguments_append c.number 0 (take i c.args) (type ∷ [])
    ∙ ap (λ (k : ℕ). arguments_of (upto i c) ++ Argument (record { 0 = c.number }) k ∷ []) (let len = take_length c.args i type at in let e : 0 + length (take i c.args) ≡ i = omega (arith, len) in e)

arguments_split : (c : DialectBlock) (i : ℕ) (type : TypeTree) → slice_get c.args i ≡ Some type → arguments_of c ≡ arguments_of (upto i c) ++ Argument (record { 0 = c.number }) i ∷ arguments_from c.number (suc i) (drop (suc i) c.args)
arguments_split c i type at =
    let s = split_at c.args i type at in
    ap (arguments_from c.number 0) s.0 ∙ arguments_append c.number 0 (take i c.args) (type ∷ drop (suc i) c.args)
    ∙ ap (λ (k : ℕ). arguments_of (upto i c) ++ arguments_from c.number k (type ∷ drop (suc i) c.args)) (let len = s.1 in let e : 0 + length (take i c.args) ≡ i = omega (arith, len) in e)

argument_here : (g : Func) (form : IsFormFunc g) (order : List ℕ) (h : IsOrder (length g.blocks) order) (p i : ℕ) (c : DialectBlock) (type : TypeTree) → slice_get g.blocks (suc p) ≡ Some c → slice_get c.args i ≡ Some type
    → slice_get (values_by order g) (length (values_by (take (turn_of order (suc p)) order) g ++ phi_values (suc p) (upto i c))) ≡ Some (Argument (record { 0 = c.number }) i)
argument_here g form order h p i c type at at' =
    let a = values_by (take (turn_of order (suc p)) order) g in
    let b = arguments_of (upto i c) in
    let v = Argument (record { 0 = c.number }) i in
    let more = arguments_from c.number (suc i) (drop (suc i) c.args) in
    let rest = values_by (drop (suc (turn_of order (suc p))) order) g in
    let whole : values_by order g ≡ (a ++ b) ++ v ∷ ((more ++ result_values c.ops) ++ rest) =
    by_split g form order h (suc p) c at ∙ ap (λ (vs : List Value). a ++ ((vs ++ result_values c.ops) ++ rest)) (arguments_split c i type at')
    ∙ ap (λ (vs : List Value). a ++ (vs ++ rest)) (append_assoc b (v ∷ more) (result_values c.ops)) ∙ ap (λ (vs : List Value). a ++ vs) (append_assoc b (v ∷ (more ++ result_values c.ops)) rest) ∙ sym (append_assoc a b (v ∷ ((more ++ result_values c.ops) ++ rest))) in
    ap (λ (vs : List Value). slice_get vs (length (a ++ b))) whole ∙ at_middle (a ++ b) v ((more ++ result_values c.ops) ++ rest)

seen_more : (seen : List Value) (i : ℕ) (c : DialectBlock) (type : TypeTree) → slice_get c.args i ≡ Some type → seen ++ arguments_of (upto (suc i) c) ≡ (seen ++ arguments_of (upto i c)) ++ Argument (record { 0 = c.number }) i ∷ []
seen_more seen i c type at =
    ap (λ (vs : List Value). seen ++ vs) (arguments_more c i type at) ∙ sym (append_assoc seen (arguments_of (upto i c)) (Argument (record { 0 = c.number }) i ∷ []))

-- a block of the context has its number
pub block_number : (x : ContextData) (t : Task) (j : ℕ) (c : DialectBlock) (b : BlockRef) → IsBlockAt x t j c b → c.number ≡ b.0
block_number x t j c b h = (block_parts x b c h.is).number

same_argument : (c : DialectBlock) (b : BlockRef) (i : ℕ) → c.number ≡ b.0 → Argument b i ≡ Argument (record { 0 = c.number }) i
same_argument c b i e = ap (λ (k : ℕ). Argument (record { 0 = k }) i) (sym e)

-- ---- a parameter

pub param_more : (x : ContextData) (t : Task) (c : DialectBlock) (b : BlockRef) (f : LLVMFunction) (m : Module) (i : ℕ) (old new : Values) → IsBlockAt x t 0 c b → HasParams t c f m → i < length c.args → IsAtArgument t 0 c i old m
    → new.next ≡ old.next + 1 → IsSet (found old) (found new) (Argument b i) (V.Param f i) → IsAtArgument t 0 c (suc i) new m
param_more x t c b f m i old new h params lt s counted set =
    let type = item_there c.args i lt in
    let number = block_number x t 0 c b h in
    let typed = argument_type t.source h.task.form 0 i (record { 0 = c.number }) c h.here refl ∙ type.1 in
    let operand = param_operand t.source h.task.form t.numbers h.task.order.once no_entries i (record { 0 = c.number }) (entry_is t.source h.task.form c.number c h.here refl) in
    record {
      is = s.is;
      sound = s.sound;
      block_count = s.block_count;
      inst_count = s.inst_count;
      next = counted ∙ (let e = s.next in let k : old.next + 1 ≡ first_at t.source 0 + suc i = omega (arith, e) in k);
      known = subst (λ (vs : List Value). AreKnown t.source t.numbers vs new m) (sym (seen_more (seen_to t (turn t 0)) i c type.0 type.1))
          (known_set t.source t.numbers (seen_to t (turn t 0) ++ arguments_of (upto i c)) old new m m (Argument (record { 0 = c.number }) i) (V.Param f i) type.0 s.sound (grows_refl m) typed
          (subst (λ (v : Value). IsSet (found old) (found new) v (V.Param f i)) (same_argument c b i number) set)
          (record {
            typed = params.typed i type.0 type.1;
            stands = ap (λ (k : ℕ). L.Parameter k i) params.number ∙ sym operand;
            phi = λ k e a. cc;
          }) s.known);
    }

-- ---- a phi

module _ (x : ContextData) (t : Task) (p : ℕ) (c : DialectBlock) (b : BlockRef) (i : ℕ) (type : TypeTree) (h : IsBlockAt x t (suc p) c b) (at : slice_get c.args i ≡ Some type) (old new : Values) (m m1 m2 : Module) (s : IsAtArgument t (suc p) c i old m)
    (ty : LLVMType) (typed : IsTypeOf m1 ty type) (grows1 : Grows m m1) (rest1 : m1 ≡ record m { types = m1.types }) (data1 : data_of m1 ≡ data_of m)
    (inst : LLVMInst) (inst_is : inst ≡ I.Phi ty []) (phi : LLVMInstRef) (name : List ℕ) (target : LLVMBasicBlock) (built : IsBuilt m1 m2 target phi name inst) (last : phi.0 ≡ length m1.insts) (made : data_of m2 ≡ with_instruction (data_of m1) target.0 (placed phi name m1 inst)) (sound : IsModule m2)
    (here : target.0 ≡ t.numbers.block + suc p) (name_is : name ≡ value_name None old.next) (counted : new.next ≡ old.next + 1) (set : IsSet (found old) (found new) (Argument b i) (V.Inst phi)) where
  abbrev g : Func
  g = t.source

  abbrev n : Numbers
  n = t.numbers

  abbrev v : Value
  v = Argument (record { 0 = c.number }) i

  abbrev first : ℕ
  first = first_at g (suc p)

  abbrev made_phi : Placed
  made_phi = record { number = number_of g n v; name = value_name None (first + i); type = type; instruction = L.Phi [] }

  insts_same : length m1.insts ≡ length m.insts
  insts_same = ap (λ (y : Module). length y.insts) rest1

  number_is : phi.0 ≡ number_of g n v
  number_is = last ∙ insts_same ∙ s.inst_count ∙ sym (number_at g h.task.form n h.task.order.once no_entries _ v (argument_here g h.task.form n.order h.task.order.once p i c type h.here at))

  result_is : L.result_tree m1 inst ≡ type
  result_is = ap (L.result_tree m1) inst_is ∙ typed.1

  placed_is : placed phi name m1 inst ≡ made_phi
  placed_is = same_placed (placed phi name m1 inst) made_phi number_is (name_is ∙ ap (value_name None) s.next) result_is (ap (L.instruction_of (trees_of m1)) inst_is)

  phis_more : phis g n no_entries c.number 0 first (take (suc i) c.args) ≡ phis g n no_entries c.number 0 first (take i c.args) ++ made_phi ∷ []
  phis_more =
      let len = take_length c.args i type at in
      ap (phis g n no_entries c.number 0 first) (take_suc c.args i type at) ∙ phis_append g n c.number 0 first (take i c.args) (type ∷ [])
      ∙ ap (λ (k : ℕ). phis g n no_entries c.number 0 first (take i c.args) ++ phis g n no_entries c.number k (first + length (take i c.args)) (type ∷ [])) (let e : 0 + length (take i c.args) ≡ i = omega (arith, len) in e)
      ∙ ap (λ (k : ℕ). phis g n no_entries c.number 0 first (take i c.args) ++ phis g n no_entries c.number i (first + k) (type ∷ [])) len

  count_is : length m2.insts ≡ n.inst + length (values_to t (turn t (suc p)) ++ phi_values (suc p) (upto (suc i) c))
  count_is =
      let a = values_to t (turn t (suc p)) in
      let e = built_insts m1 m2 target phi name inst built in
      let f = s.inst_count in
      let k : length (a ++ arguments_of (upto (suc i) c)) ≡ length (a ++ arguments_of (upto i c)) + 1 =
      ap (λ (vs : List Value). length (a ++ vs)) (arguments_more c i type at) ∙ ap (λ (vs : List Value). length vs) (sym (append_assoc a (arguments_of (upto i c)) (v ∷ []))) ∙ length-append (a ++ arguments_of (upto i c)) (v ∷ []) in
      let same = insts_same in
      omega (arith, e, f, k, same)

  grows : Grows m m2
  grows = grows_then m m1 m2 grows1 (grows_built m1 m2 target phi name inst built)

  phi_there : (k : LLVMInstRef) → V.Inst phi ≡ V.Inst k → IsPhi m2.insts k
  phi_there k e =
      let same : phi ≡ k = cc in
      subst (IsPhi m2.insts) same (_, built_there m1 m2 target phi name inst built last, ap (λ (y : LLVMInst). is_phi y) inst_is)

  pub phi_more : IsAtArgument t (suc p) c (suc i) new m2
  phi_more =
      let type_is = argument_type g h.task.form (suc p) i (record { 0 = c.number }) c h.here refl ∙ at in
      let operand = argument_operand g h.task.form n h.task.order.once no_entries i (record { 0 = c.number }) (entry_is_not g h.task.form p c.number c h.here refl) in
      record {
        is = made ∙ ap (λ (d : ModuleData). with_instruction d target.0 (placed phi name m1 inst)) (data1 ∙ s.is)
            ∙ data_within t (suc p) (phis g n no_entries c.number 0 first (take i c.args)) target.0 (placed phi name m1 inst) h.task.blocks here
            ∙ ap (λ (q : Placed). with_function t.before (function_with g n (blocks_within t (suc p) (phis g n no_entries c.number 0 first (take i c.args) ++ q ∷ [])))) placed_is
            ∙ ap (λ (qs : List Placed). with_function t.before (function_with g n (blocks_within t (suc p) qs))) (sym phis_more);
        sound = sound;
        block_count = built_blocks m1 m2 target phi name inst built ∙ ap (λ (y : Module). length y.blocks) rest1 ∙ s.block_count;
        inst_count = count_is;
        next = counted ∙ (let e = s.next in let k : old.next + 1 ≡ first + suc i = omega (arith, e) in k);
        known = subst (λ (vs : List Value). AreKnown g n vs new m2) (sym (seen_more (seen_to t (turn t (suc p))) i c type at))
            (known_set g n (seen_to t (turn t (suc p)) ++ arguments_of (upto i c)) old new m m2 v (V.Inst phi) type s.sound grows type_is
            (subst (λ (w : Value). IsSet (found old) (found new) w (V.Inst phi)) (same_argument c b i (block_number x t (suc p) c b h)) set)
            (record {
              typed = subst (HasType m2 (V.Inst phi)) result_is (built_type m1 m2 target phi name inst (R.There ty) built last (ap (result_type m1) inst_is) sound);
              stands = ap L.Result number_is ∙ sym operand;
              phi = λ k e a. phi_there k e;
            }) s.known);
      }

-- ---- all arguments

pub whole : (c : DialectBlock) → upto (length c.args) c ≡ c
whole c = ap (λ (ts : List TypeTree). record c { args = ts }) (take_all (length c.args) c.args (omega arith))

-- with all arguments done, the operations are next
pub arguments_done : (t : Task) (j : ℕ) (c : DialectBlock) (values' : Values) (m : Module) → IsAtArgument t j c (length c.args) values' m → IsAtOp t j c 0 values' m
arguments_done t j c values' m s =
    let first = first_at t.source j in
    record {
      is = s.is ∙ ap (λ (d : DialectBlock). with_function t.before (function_with t.source t.numbers (blocks_within t j (block_phis t.source t.numbers no_entries j first d)))) (whole c)
          ∙ ap (λ (ps : List Placed). with_function t.before (function_with t.source t.numbers (blocks_within t j ps))) (sym (append-nil (block_phis t.source t.numbers no_entries j first c)));
      sound = s.sound;
      block_count = s.block_count;
      inst_count = s.inst_count ∙ ap (λ (d : DialectBlock). t.numbers.inst + length (values_to t (turn t j) ++ phi_values j d)) (whole c)
          ∙ ap (λ (vs : List Value). t.numbers.inst + length (values_to t (turn t j) ++ vs)) (sym (append-nil (phi_values j c)));
      next = s.next;
      known = subst (λ (vs : List Value). AreKnown t.source t.numbers vs values' m) (ap (λ (d : DialectBlock). seen_to t (turn t j) ++ arguments_of d) (whole c) ∙ ap (λ (vs : List Value). seen_to t (turn t j) ++ vs) (sym (append-nil (arguments_of c)))) s.known;
    }

-- ---- the types of arguments, as the context answers them

pub args_are : (x : ContextData) (t : Task) (j : ℕ) (c : DialectBlock) (b : BlockRef) (ts : List TypeHandle) → IsBlockAt x t j c b → option_map (λ (y : BlockData). y.args) (slice_get x.blocks b.0) ≡ Some ts → c.args ≡ map (type_at (type_trees x.types)) ts
args_are x t j c b ts h at =
    let parts = block_parts x b c h.is in
    parts.args ∙ ap (map (type_at (type_trees x.types))) (same_Some parts.kept.args ts (ap (option_map (λ (y : BlockData). y.args)) (sym parts.there) ∙ at))

pub arg_at : (x : ContextData) (t : Task) (j : ℕ) (c : DialectBlock) (b : BlockRef) (ts : List TypeHandle) (i : ℕ) (d : TypeHandle) → IsBlockAt x t j c b → option_map (λ (y : BlockData). y.args) (slice_get x.blocks b.0) ≡ Some ts → i < length ts
    → slice_get c.args i ≡ Some (type_at (type_trees x.types) (get_or ts i d))
arg_at x t j c b ts i d h at lt =
    ap (λ (us : List TypeTree). slice_get us i) (args_are x t j c b ts h at) ∙ slice_get-map (type_at (type_trees x.types)) ts i ∙ ap (option_map (type_at (type_trees x.types))) (slice_get-get_or ts i d lt)

pub arg_held : (x : ContextData) (t : Task) (j : ℕ) (c : DialectBlock) (b : BlockRef) (ts : List TypeHandle) (i : ℕ) (d : TypeHandle) → IsBlockAt x t j c b → option_map (λ (y : BlockData). y.args) (slice_get x.blocks b.0) ≡ Some ts → i < length ts
    → IsHeld (type_at (type_trees x.types) (get_or ts i d))
arg_held x t j c b ts i d h at lt = all_at IsHeld c.args i (type_at (type_trees x.types) (get_or ts i d)) (block_form t.source h.task.form j c h.here).args (arg_at x t j c b ts i d h at lt)

pub args_count : (x : ContextData) (t : Task) (j : ℕ) (c : DialectBlock) (b : BlockRef) (ts : List TypeHandle) → IsBlockAt x t j c b → option_map (λ (y : BlockData). y.args) (slice_get x.blocks b.0) ≡ Some ts → length ts ≡ length c.args
args_count x t j c b ts h at = sym (ap (λ (us : List TypeTree). length us) (args_are x t j c b ts h at) ∙ length-map ts (type_at (type_trees x.types)))
