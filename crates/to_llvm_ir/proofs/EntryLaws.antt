-- One entry more of a phi: the data of the module, and what is known of values.
use Rattle.std.proofs.Common.{◌≡◌, ◌<◌, ◌+◌, ℕ, zero, suc, Bool, true, false, nat_eq, if◌then◌else◌, List, [], ◌∷◌, ◌++◌, Some, None, All, length, map, slice_get, refl, sym, ap, subst, ◌∙◌, arith, eq-eqb, eqb-true, ne_eqb}
use Rattle.std.specs.List.{flat_map}
use Rattle.std.proofs.lemmas.Bool.{cond-true, cond-false, false_from_ne_true}
use Rattle.std.proofs.lemmas.Option.{same_Some, slice_get_within}
use Rattle.std.proofs.lemmas.List.{map_push, map-append}
use Rattle.std.proofs.lemmas.List.Elements.{All-head, All-tail}
use Rattle.llvm_core.specs.declared.numbers.LLVMInstRef.{LLVMInstRef}
use Rattle.llvm_core.specs.declared.numbers.LLVMBasicBlock.{LLVMBasicBlock}
use Rattle.llvm_core.specs.declared.code.LLVMValue.{LLVMValue}
use Rattle.llvm_core.specs.declared.code.LLVMValue.TheVariants as V
use Rattle.llvm_core.specs.declared.code.InstData.{InstData}
use Rattle.llvm_core.specs.Module.{Module}
use Rattle.llvm_core.specs.Sound.{IsModule}
use Rattle.llvm_core.specs.Parts.{IsPhi}
use Rattle.llvm_core.specs.Code as code
use Rattle.llvm_core.specs.Code.{code_of, with_code, with_changed_inst}
use Rattle.llvm_core.specs.Data as L
use Rattle.llvm_core.specs.Data.{Operand, Placed, Block, Function, ModuleData, data_of, trees_of, operand_of, with_function, with_entry, with_change_of, with_changed, AllPlaced}
use Rattle.support.proofs.ListLaws.{length-with_change}
use Rattle.dialect_types.specs.Trees.{TypeTree}
use Rattle.block_order.specs.Order.{IsOrder}
use Rattle.dialect_core.specs.declared.ops.Value.{Value}
use Rattle.dialect_core.specs.declared.ops.Value.TheVariants.{Result, Argument}
use Rattle.dialect_core.specs.Data.{DialectOp, DialectBlock, Func}
use Rattle.dialect_core.specs.Form.{IsFormFunc, is_constant}
use Rattle.meaning.specs.Dialect.{same_value}
use Rattle.meaning.proofs.SameValues.{same_value-Decides}
use Rattle.to_llvm_ir.specs.declared.values.Values.{Values}
use Rattle.to_llvm_ir.specs.Exported.{value_name, result, arguments_of}
use Rattle.to_llvm_ir.specs.Made.{Numbers, values_by, number_of, operand_for, inst, insts, phis, block_phis, block_made, blocks_made, function_with, no_entries, number_after, number_behind}
use Rattle.to_llvm_ir.specs.States.{Task, IsLinking, IsKnown, IsArgument, Has, all_values, found}
use Rattle.to_llvm_ir.specs.Links.{Given, IsTypedValue, IsEntryNext}
use Rattle.to_llvm_ir.proofs.GrowthLaws.{grows_entry}
use Rattle.to_llvm_ir.proofs.KnownLaws.{has_left, has_right, has_flat, has_argument, has_result, all_known}
use Rattle.to_llvm_ir.proofs.TurnLaws.{argument_among, result_among, values_by_from}
use Rattle.to_llvm_ir.proofs.LookupLaws.{argument_of, result_of, entry_is_not}
use Rattle.to_llvm_ir.proofs.PlaceLaws.{comes_from}
use Rattle.to_llvm_ir.proofs.PlacedLaws.{number_at, argument_operand}

-- ---- an entry more of one value

-- the entries of the value v with e behind
abbrev pub giving : Given → Value → Operand × ℕ → Given
giving given v e = λ w. if same_value v w then given w ++ e ∷ [] else given w

-- what an entry more does to an instruction
abbrev pub adding : ℕ → Operand → ℕ → Placed → Placed
adding m o p = with_change_of m (λ i. with_entry i o p)

abbrev pub adding_in : ℕ → Operand → ℕ → Block → Block
adding_in m o p b = record b { instructions = map (adding m o p) b.instructions }

module _ (g : Func) (form : IsFormFunc g) (n : Numbers) (order : IsOrder (length g.blocks) n.order) (given : Given) (v : Value) (place : ℕ) (at : slice_get (values_by n.order g) place ≡ Some v) (is_argument : IsArgument v) (m : ℕ) (number : m ≡ number_of g n v) (o : Operand) (p : ℕ) where
  abbrev new : Given
  new = giving given v (o, p)

  m_is : m ≡ n.inst + place
  m_is = number ∙ number_at g form n order given place v at

  -- of the values, only v has its number
  one_number : (i : ℕ) (w : Value) → slice_get (values_by n.order g) i ≡ Some w → number_of g n w ≡ m → v ≡ w
  one_number i w at' e =
      let a = number_at g form n order given i w at' in
      let b = m_is in
      let same : place ≡ i = omega (arith, a, b, e) in
      same_Some v w (sym at ∙ ap (slice_get (values_by n.order g)) same ∙ at')

  abbrev phi_of : Value → List ℕ → L.TypeTree → Placed
  phi_of w name type = record { number = number_of g n w; name = name; type = type; instruction = L.Phi (given w) }

  phi_changed : (w : Value) (name : List ℕ) (type : L.TypeTree) (i : ℕ) → slice_get (values_by n.order g) i ≡ Some w
      → adding m o p (record { number = number_of g n w; name = name; type = type; instruction = L.Phi (given w) }) ≡ record { number = number_of g n w; name = name; type = type; instruction = L.Phi (new w) }
  phi_changed w name type i at' = by (nat_eq (number_of g n w) m) refl
    where
      by : (b : Bool) → nat_eq (number_of g n w) m ≡ b → adding m o p (phi_of w name type) ≡ record (phi_of w name type) { instruction = L.Phi (new w) }
      by true e =
          let same = one_number i w at' (eqb-true (number_of g n w) m e) in
          cond-true (nat_eq (number_of g n w) m) (record (phi_of w name type) { instruction = L.Phi (given w ++ (o, p) ∷ []) }) (phi_of w name type) e
          ∙ ap (λ (es : List (Operand × ℕ)). record (phi_of w name type) { instruction = L.Phi es }) (sym (cond-true (same_value v w) (given w ++ (o, p) ∷ []) (given w) ((same_value-Decides v w).1 same)))
      by false e =
          let ne : same_value v w ≡ false = false_from_ne_true (same_value v w) (λ s.
          let same = (same_value-Decides v w).0 s in
          let is : number_of g n w ≡ m = ap (number_of g n) (sym same) ∙ sym number in
          let k : true ≡ false = sym (eq-eqb (number_of g n w) m is) ∙ e in
          cc) in
          cond-false (nat_eq (number_of g n w) m) (record (phi_of w name type) { instruction = L.Phi (given w ++ (o, p) ∷ []) }) (phi_of w name type) e
          ∙ ap (λ (es : List (Operand × ℕ)). record (phi_of w name type) { instruction = L.Phi es }) (sym (cond-false (same_value v w) (given w ++ (o, p) ∷ []) (given w) ne))

  phis_changed : (b i k : ℕ) (ts : List TypeTree) → ((j : ℕ) (t : TypeTree) → slice_get ts j ≡ Some t → (x : ℕ) × (slice_get (values_by n.order g) x ≡ Some (Argument (record { 0 = b }) (i + j)))) → map (adding m o p) (phis g n given b i k ts) ≡ phis g n new b i k ts
  phis_changed b i k [] h = refl
  phis_changed b i k (t ∷ ts) h =
      let x = h 0 t refl in
      let here : slice_get (values_by n.order g) x.0 ≡ Some (Argument (record { 0 = b }) i) = x.1 ∙ ap (λ (q : ℕ). Some (Argument (record { 0 = b }) q)) (let e : i + 0 ≡ i = omega arith in e) in
      let one = phi_changed (Argument (record { 0 = b }) i) (value_name None k) t x.0 here in
      let rest = phis_changed b (suc i) (k + 1) ts (λ j u at'. let y = h (suc j) u at' in (y.0, y.1 ∙ ap (λ (q : ℕ). Some (Argument (record { 0 = b }) q)) (let e : i + suc j ≡ suc i + j = omega arith in e))) in
      ap (λ (q : Placed). q ∷ map (adding m o p) (phis g n given b (suc i) (k + 1) ts)) one
      ∙ ap (λ (qs : List Placed). (record { number = number_of g n (Argument (record { 0 = b }) i); name = value_name None k; type = t; instruction = L.Phi (new (Argument (record { 0 = b }) i)) }) ∷ qs) rest

  no_result : (x : DialectOp) → v ≡ result x → ⊥
  no_result x e = subst IsArgument e is_argument

  insts_changed : (k : ℕ) (os : List DialectOp) → ((i : ℕ) (x : DialectOp) → slice_get os i ≡ Some x → is_constant x ≡ false → (j : ℕ) × (slice_get (values_by n.order g) j ≡ Some (result x))) → map (adding m o p) (insts g n k os) ≡ insts g n k os
  insts_changed k [] h = refl
  insts_changed k (x ∷ os) h = by (is_constant x) refl (insts_changed (number_after x.result k) os (λ i y at'. h (suc i) y at'))
    where
      by : (b : Bool) → is_constant x ≡ b → map (adding m o p) (insts g n (number_after x.result k) os) ≡ insts g n (number_after x.result k) os
          → map (adding m o p) (if b then insts g n (number_after x.result k) os else inst g n k x ∷ insts g n (number_after x.result k) os) ≡ (if b then insts g n (number_after x.result k) os else inst g n k x ∷ insts g n (number_after x.result k) os)
      by true e rest = rest
      by false e rest =
          let there = h 0 x refl e in
          let ne : number_of g n (result x) ≡ m → ⊥ = λ same. no_result x (one_number there.0 (result x) there.1 same) in
          let one : adding m o p (inst g n k x) ≡ inst g n k x = cond-false (nat_eq (number_of g n (result x)) m) (record (inst g n k x) { instruction = with_entry (inst g n k x).instruction o p }) (inst g n k x) (ne_eqb (number_of g n (result x)) m ne) in
          ap (λ (q : Placed). q ∷ map (adding m o p) (insts g n (number_after x.result k) os)) one ∙ ap (λ (qs : List Placed). inst g n k x ∷ qs) rest

  block_changed : (q k : ℕ) (c : DialectBlock) → slice_get g.blocks q ≡ Some c → adding_in m o p (block_made g n given q k c) ≡ block_made g n new q k c
  block_changed q k c here =
      ap (λ (ps : List Placed). record (block_made g n given q k c) { instructions = ps })
      (map-append (adding m o p) (block_phis g n given q k c) (insts g n (k + length c.args) c.ops)
      ∙ ap (λ (ps : List Placed). ps ++ map (adding m o p) (insts g n (k + length c.args) c.ops)) (front q here)
      ∙ ap (λ (ps : List Placed). block_phis g n new q k c ++ ps) (insts_changed (k + length c.args) c.ops (λ i x at' e. result_among g form n.order order q i c x here at' e)))
    where
      front : (q : ℕ) → slice_get g.blocks q ≡ Some c → map (adding m o p) (block_phis g n given q k c) ≡ block_phis g n new q k c
      front zero here = refl
      front (suc r) here = phis_changed c.number 0 k c.args (λ j t at'. let x = argument_among g form n.order order r j c t here at' in (x.0, x.1 ∙ ap (λ (i : ℕ). Some (Argument (record { 0 = c.number }) i)) (let e : j ≡ 0 + j = omega arith in e)))

  blocks_changed : (q k : ℕ) (cs : List DialectBlock) → ((j : ℕ) (c : DialectBlock) → slice_get cs j ≡ Some c → slice_get g.blocks (q + j) ≡ Some c) → map (adding_in m o p) (blocks_made g n given q k cs) ≡ blocks_made g n new q k cs
  blocks_changed q k [] h = refl
  blocks_changed q k (c ∷ cs) h =
      let one = block_changed q k c (ap (slice_get g.blocks) (let e : q ≡ q + 0 = omega arith in e) ∙ h 0 c refl) in
      let rest = blocks_changed (suc q) (number_behind (k + length c.args) c.ops) cs (λ j d at'. ap (slice_get g.blocks) (let e : suc q + j ≡ q + suc j = omega arith in e) ∙ h (suc j) d at') in
      ap (λ (b : Block). b ∷ map (adding_in m o p) (blocks_made g n given (suc q) (number_behind (k + length c.args) c.ops) cs)) one ∙ ap (λ (bs : List Block). block_made g n new q k c ∷ bs) rest

  -- ---- the functions before have no instruction of that number

  abbrev IsBefore : Placed → Type 0
  IsBefore x = x.number < n.inst

  placed_other : (ps : List Placed) → All IsBefore ps → map (adding m o p) ps ≡ ps
  placed_other [] h = refl
  placed_other (x ∷ ps) h =
      let lt = All-head IsBefore x ps h in
      let is = m_is in
      let one : adding m o p x ≡ x = cond-false (nat_eq x.number m) (record x { instruction = with_entry x.instruction o p }) x (ne_eqb x.number m (λ e. omega (arith, lt, is, e))) in
      ap (λ (y : Placed). y ∷ map (adding m o p) ps) one ∙ ap (λ (qs : List Placed). x ∷ qs) (placed_other ps (All-tail IsBefore x ps h))

  blocks_other : (bs : List Block) → All (λ (b : Block). All IsBefore b.instructions) bs → map (adding_in m o p) bs ≡ bs
  blocks_other [] h = refl
  blocks_other (b ∷ bs) h =
      let one : adding_in m o p b ≡ b = ap (λ (ps : List Placed). record b { instructions = ps }) (placed_other b.instructions (All-head (λ (b : Block). All IsBefore b.instructions) b bs h)) in
      ap (λ (c : Block). c ∷ map (adding_in m o p) bs) one ∙ ap (λ (cs : List Block). b ∷ cs) (blocks_other bs (All-tail (λ (b : Block). All IsBefore b.instructions) b bs h))

  abbrev change : Function → Function
  change f = record f { blocks = map (adding_in m o p) f.blocks }

  abbrev AreBefore : Function → Type 0
  AreBefore f = All (λ (b : Block). All IsBefore b.instructions) f.blocks

  functions_other : (fs : List Function) → All AreBefore fs → map change fs ≡ fs
  functions_other [] h = refl
  functions_other (f ∷ fs) h =
      let one : change f ≡ f = ap (λ (bs : List Block). record f { blocks = bs }) (blocks_other f.blocks (All-head AreBefore f fs h)) in
      ap (λ (x : Function). x ∷ map change fs) one ∙ ap (λ (xs : List Function). f ∷ xs) (functions_other fs (All-tail AreBefore f fs h))

  -- the phi of v has the entry behind
  pub entry_data : (d : ModuleData) → AllPlaced (λ (x : Placed). x.number < n.inst) d
      → with_changed (with_function d (function_with g n (blocks_made g n given 0 0 g.blocks))) m (λ i. with_entry i o p) ≡ with_function d (function_with g n (blocks_made g n new 0 0 g.blocks))
  entry_data d before =
      let last : change (function_with g n (blocks_made g n given 0 0 g.blocks)) ≡ function_with g n (blocks_made g n new 0 0 g.blocks) =
      ap (function_with g n) (blocks_changed 0 0 g.blocks (λ j c at'. ap (slice_get g.blocks) (let e : 0 + j ≡ j = omega arith in e) ∙ at')) in
      let fs = map_push change d.functions (function_with g n (blocks_made g n given 0 0 g.blocks))
      ∙ ap (λ (xs : List Function). xs ++ change (function_with g n (blocks_made g n given 0 0 g.blocks)) ∷ []) (functions_other d.functions before)
      ∙ ap (λ (x : Function). d.functions ++ x ∷ []) last in
      ap (λ (xs : List Function). record d { functions = xs }) fs

-- ---- what stands for a value that has a type

pub typed_seen : (g : Func) (form : IsFormFunc g) (v : Value) → IsTypedValue g v → Has (flat_map all_values g.blocks) v
typed_seen g form (Argument b i) h =
    let a = argument_of g form b i h.0 h.1 in
    has_flat g.blocks a.place a.block (Argument b i) a.here (has_left (arguments_of a.block) (map result a.block.ops) (Argument b i) (has_argument a.block b i a.number (slice_get_within a.block.args i h.0 a.type)))
typed_seen g form (Result r) h =
    let a = result_of g form r h.0 h.1 in
    has_flat g.blocks a.place a.block (Result r) a.here (has_right (arguments_of a.block) (map result a.block.ops) (Result r)
    (subst (Has (map result a.block.ops)) (ap (λ (k : ℕ). Result (record { 0 = k })) a.number) (has_result a.block.ops a.at a.op a.there)))

pub value_known : (t : Task) (v : Value) (given : Given) (known : Values) (m : Module) → IsFormFunc t.source → IsLinking t given known m → (h : IsTypedValue t.source v) → IsKnown t.source t.numbers known m v h.0
value_known t v given known m form s h = s.known.known v h.0 (typed_seen t.source form v h) h.1

-- a value of the function that is an argument is no parameter
pub phi_operand : (g : Func) (form : IsFormFunc g) (n : Numbers) (order : IsOrder (length g.blocks) n.order) (v : Value) (place : ℕ) → slice_get (values_by n.order g) place ≡ Some v → IsArgument v → operand_for g n v ≡ L.Result (number_of g n v)
phi_operand g form n order (Argument b i) place at is =
    let w = values_by_from g form n.order order place (Argument b i) at in
    let c = comes_from 0 g.blocks w.0 (Argument b i) w.1 in
    by c.0 c.1 c.2 c.3 c.4
  where
    by : (j : ℕ) (c : DialectBlock) → slice_get g.blocks j ≡ Some c → c.number ≡ b.0 → 0 < 0 + j → operand_for g n (Argument b i) ≡ L.Result (number_of g n (Argument b i))
    by zero c here same lt = absurd (omega (arith, lt))
    by (suc j) c here same lt = argument_operand g form n order no_entries i b (entry_is_not g form j b.0 c here same)
phi_operand g form n order (Result r) place at is = absurd is

pub record IsPhiFor (t : Task) (v : Value) (known : Values) (m : Module) : Type 0 where
  pub phi : LLVMInstRef
  pub found : found known v ≡ Some (V.Inst phi)
  pub number : phi.0 ≡ number_of t.source t.numbers v
  pub is_phi : IsPhi m.insts phi

-- a phi stands for the argument
pub argument_phi : (t : Task) (v w : Value) (from : LLVMBasicBlock) (given : Given) (known : Values) (m : Module) → IsEntryNext t v w from given known m → IsPhiFor t v known m
argument_phi t v w from given known m h =
    let k = value_known t v given known m h.form h.state h.typed in
    by k.value k.found (k.stands ∙ phi_operand t.source h.form t.numbers h.order.once v h.place h.at h.is_argument) (λ i e. k.phi i e h.is_argument)
  where
    by : (x : LLVMValue) → found known v ≡ Some x → operand_of (trees_of m) x ≡ L.Result (number_of t.source t.numbers v) → ((i : LLVMInstRef) → x ≡ V.Inst i → IsPhi m.insts i) → IsPhiFor t v known m
    by (V.Const c) f e is = absurd (let no : ⊥ = cc in no)
    by (V.Param f' i) f e is = absurd (let no : ⊥ = cc in no)
    by (V.Inst i) f e is = record { phi = i; found = f; number = (let same : i.0 ≡ number_of t.source t.numbers v = cc in same); is_phi = is i refl }

-- ---- the state behind

pub entry_done : (t : Task) (v w : Value) (from : LLVMBasicBlock) (given : Given) (known : Values) (m m2 : Module) (phi : LLVMInstRef) (x : LLVMValue) → IsEntryNext t v w from given known m → found known v ≡ Some (V.Inst phi) → found known w ≡ Some x
    → m2 ≡ with_code m (with_changed_inst (code_of m) phi (λ i. code.with_entry i (record { value = x; block = from })))
    → data_of m2 ≡ with_changed (data_of m) phi.0 (λ i. with_entry i (operand_of (trees_of m) x) from.0) → IsModule m2
    → IsLinking t (giving given v (operand_for t.source t.numbers w, from.0)) known m2
entry_done t v w from given known m m2 phi x h at at' is changed sound =
    let s = h.state in
    let p = argument_phi t v w from given known m h in
    let k = value_known t w given known m h.form s h.passes in
    let same : p.phi ≡ phi = let e : V.Inst p.phi ≡ V.Inst phi = same_Some _ _ (sym p.found ∙ at) in cc in
    let number : phi.0 ≡ number_of t.source t.numbers v = ap (λ (i : LLVMInstRef). i.0) (sym same) ∙ p.number in
    let value : k.value ≡ x = same_Some _ _ (sym k.found ∙ at') in
    let operand : operand_of (trees_of m) x ≡ operand_for t.source t.numbers w = ap (operand_of (trees_of m)) (sym value) ∙ k.stands in
    let grows = grows_entry m m2 phi (record { value = x; block = from }) is in
    record {
      is = changed ∙ ap (λ (d : ModuleData). with_changed d phi.0 (λ i. with_entry i (operand_of (trees_of m) x) from.0)) s.is
          ∙ ap (λ (o : Operand). with_changed (with_function t.before (function_with t.source t.numbers (blocks_made t.source t.numbers given 0 0 t.source.blocks))) phi.0 (λ i. with_entry i o from.0)) operand
          ∙ entry_data t.source h.form t.numbers h.order.once given v h.place h.at h.is_argument phi.0 number (operand_for t.source t.numbers w) from.0 t.before h.insts;
      sound = sound;
      block_count = ap (λ (y : Module). length y.blocks) is ∙ s.block_count;
      inst_count = ap (λ (y : Module). length y.insts) is ∙ length-with_change (λ (y : InstData). record y { inst = code.with_entry y.inst (record { value = x; block = from }) }) phi.0 m.insts ∙ s.inst_count;
      next = s.next;
      known = all_known t.source t.numbers (flat_map all_values t.source.blocks) known m m2 s.sound grows s.known;
    }
