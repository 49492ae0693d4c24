-- What stays right where an operand of an instruction changes, or a phi gets an entry.
use Rattle.std.proofs.Common.{◌≡◌, ℕ, zero, suc, List, [], ◌∷◌, Option, Some, slice_get, slice_set, length, map, sym, ap, ◌∙◌, refl, subst, inl, inr, arith, All}
use Rattle.std.proofs.lemmas.List.{map-append}
use Rattle.std.proofs.lemmas.List.Elements.{All-cons, All-head, All-tail, All-push}
use Rattle.std.proofs.lemmas.Option.{same_Some}
use Rattle.support.specs.Changes.{with_change}
use Rattle.llvm_core.specs.declared.numbers.LLVMInstRef.{LLVMInstRef}
use Rattle.llvm_core.specs.declared.types.ResultType.{ResultType}
use Rattle.llvm_core.specs.declared.code.LLVMValue.{LLVMValue}
use Rattle.llvm_core.specs.declared.code.PhiEntry.{PhiEntry}
use Rattle.llvm_core.specs.declared.code.LLVMInst.{LLVMInst}
use Rattle.llvm_core.specs.declared.code.LLVMInst.TheVariants as I
use Rattle.llvm_core.specs.declared.code.InstData.{InstData}
use Rattle.llvm_core.specs.Module.{Module}
use Rattle.llvm_core.specs.Code.{code_of, with_code, with_operand, with_entry, with_changed_inst}
use Rattle.llvm_core.specs.Parts.{IsValue, HasValues, IsEntry, TakesOperand, operands, value_type, result_type, type_nth}
use Rattle.llvm_core.specs.Sound.{StandsFor, IsModule}
use Rattle.llvm_core.specs.Data as d
use Rattle.llvm_core.specs.Data.{Trees, trees_of, operand_of, entry_of, instruction_of, data_of}
use Rattle.support.proofs.ListLaws.{change_cases, length-with_change}
use Rattle.llvm_core.proofs.ListedLemmas.{same_keeps}
use Rattle.llvm_core.proofs.ChangeLemmas.{with_change-cons}
use Rattle.llvm_core.proofs.GrowLemmas.{blocks_of, insts_of, function_type, inst_type, Grows, function_kept, block_kept, inst_kept, listed_block_kept, listed_inst_kept}
use Rattle.llvm_core.proofs.SoundLemmas.{same_types, change_types}
use Rattle.llvm_core.proofs.ChangedLemmas.{changed_data}

-- ---- an instruction that changes

-- a changed instruction whose operands are there, and whose result keeps its type
pub inst_changed : (m : Module) (i : LLVMInstRef) (change : LLVMInst → LLVMInst) → IsModule m
    → ((x : InstData) → slice_get m.insts i.0 ≡ Some x → HasValues m (change x.inst) × (result_type m (change x.inst) ≡ result_type m x.inst)) → IsModule (with_code m (with_changed_inst (code_of m) i change))
inst_changed m i change s ok =
    let changed : InstData → InstData = λ x. record x { inst = change x.inst } in
    let g : Grows m (with_code m (with_changed_inst (code_of m) i change)) = record {
      types = λ i x e. e;
      consts = λ i x e. e;
      structs = λ i x e. e;
      function_types = same_types function_type m.functions;
      inst_types = change_types inst_type changed (λ x. refl) i.0 m.insts;
      type_count = omega arith;
      const_count = omega arith;
      function_count = omega arith;
      block_count = omega arith;
      inst_count = omega (arith, length-with_change changed i.0 m.insts);
      params = λ f. omega arith;
      block_lists = same_keeps blocks_of m.functions;
      inst_lists = same_keeps insts_of m.blocks;
    } in
    record {
      types = s.types;
      types_fit = s.types_fit;
      types_once = s.types_once;
      consts = s.consts;
      consts_below = s.consts_below;
      consts_once = s.consts_once;
      structs = s.structs;
      functions = λ f x e. function_kept m _ g x (s.functions f x e);
      blocks = λ b x e. block_kept m _ g x (s.blocks b x e);
      insts = λ j x e. elim (change_cases changed i.0 m.insts j x e) [
        | inl at ↦ (let old = s.insts j at.0 at.1 in
            let now = ok at.0 (ap (slice_get m.insts) (sym at.2) ∙ at.1) in
            inst_kept m _ g s x (rw at.3 (record {
              block = old.block;
              typed = old.typed;
              result = subst (λ (r : Option ResultType). StandsFor m.types r at.0.ty) (sym now.1) old.result;
              values = now.0;
            })))
        | inr old ↦ inst_kept m _ g s x (s.insts j x old)
      ];
      listed_blocks = λ b y e. listed_block_kept m _ g b y (s.listed_blocks b y e);
      listed_insts = λ j z e. elim (change_cases changed i.0 m.insts j z e) [
        | inl at ↦ rw at.3 (listed_inst_kept m _ g j at.0 (s.listed_insts j at.0 at.1))
        | inr old ↦ listed_inst_kept m _ g j z (s.listed_insts j z old)
      ];
      owned_blocks = s.owned_blocks;
      owned_insts = λ b y e place c z at is. elim (change_cases changed i.0 m.insts c.0 z is) [
        | inl new ↦ rw new.3 (s.owned_insts b y e place c new.0 at new.1)
        | inr old ↦ s.owned_insts b y e place c z at old
      ];
    }

-- ---- an operand

All-changed : {X : Type 0} (P : X → Type 0) (f : X → X) → ((x : X) → P x → P (f x)) → (i : ℕ) (xs : List X) → All P xs → All P (with_change f i xs)
All-changed P f keeps i [] all = all
All-changed P f keeps zero (x ∷ xs) all = All-cons P (f x) xs (keeps x (All-head P x xs all)) (All-tail P x xs all)
All-changed P f keeps (suc i) (x ∷ xs) all =
    subst (All P) (sym (with_change-cons f i x xs)) (All-cons P x (with_change f i xs) (All-head P x xs all) (All-changed P f keeps i xs (All-tail P x xs all)))

All-set : {X : Type 0} (P : X → Type 0) (x : X) → P x → (i : ℕ) (xs : List X) → All P xs → All P (slice_set xs i x)
All-set P x p i [] all = all
All-set P x p zero (y ∷ xs) all = All-cons P x xs p (All-tail P y xs all)
All-set P x p (suc i) (y ∷ xs) all = All-cons P y (slice_set xs i x) (All-head P y xs all) (All-set P x p i xs (All-tail P y xs all))

values_put : (m : Module) (inst : LLVMInst) (place : ℕ) (v : LLVMValue) → HasValues m inst → IsValue m v → HasValues m (with_operand inst place v)
values_put m (I.Phi type entries) place v h here = (h.0, All-changed (IsEntry m) (λ (e : PhiEntry). record e { value = v }) (λ e is. (here, is.1)) place entries h.1)
values_put m (I.Row r) place v h here = (All-set (IsValue m) v here place r.operands h.0, h.1, h.2)

type_nth_put : (m : Module) (vs : List LLVMValue) (place : ℕ) (v w : LLVMValue) → slice_get vs place ≡ Some w → value_type m w ≡ value_type m v → (i : ℕ) → type_nth m (slice_set vs place v) i ≡ type_nth m vs i
type_nth_put m [] place v w at same i = refl
type_nth_put m (u ∷ vs) zero v w at same zero = sym (ap (value_type m) (same_Some u w at) ∙ same)
type_nth_put m (u ∷ vs) zero v w at same (suc i) = refl
type_nth_put m (u ∷ vs) (suc place) v w at same zero = refl
type_nth_put m (u ∷ vs) (suc place) v w at same (suc i) = type_nth_put m vs place v w at same i

length-set : {X : Type 0} (x : X) (i : ℕ) (xs : List X) → length (slice_set xs i x) ≡ length xs
length-set x i [] = refl
length-set x zero (y ∷ xs) = refl
length-set x (suc i) (y ∷ xs) = ap (λ n. suc n) (length-set x i xs)

result_put : (m : Module) (inst : LLVMInst) (place : ℕ) (v w : LLVMValue) → slice_get (operands inst) place ≡ Some w → value_type m w ≡ value_type m v → result_type m (with_operand inst place v) ≡ result_type m inst
result_put m (I.Phi type entries) place v w at same = refl
result_put m (I.Row r) place v w at same =
    let n = length-set v place r.operands in
    let a = type_nth_put m r.operands place v w at same 0 in
    let b = type_nth_put m r.operands place v w at same 1 in
    let c = type_nth_put m r.operands place v w at same 2 in
    cc

map-changed : {X Y : Type 0} (h : X → Y) (f : X → X) (g : Y → Y) → ((x : X) → h (f x) ≡ g (h x)) → (i : ℕ) (xs : List X) → map h (with_change f i xs) ≡ with_change g i (map h xs)
map-changed h f g same i [] = refl
map-changed h f g same zero (x ∷ xs) = ap (λ y. y ∷ map h xs) (same x)
map-changed h f g same (suc i) (x ∷ xs) =
    ap (map h) (with_change-cons f i x xs) ∙ ap (λ ys. h x ∷ ys) (map-changed h f g same i xs) ∙ sym (with_change-cons g i (h x) (map h xs))

map-set : {X Y : Type 0} (h : X → Y) (x : X) (i : ℕ) (xs : List X) → map h (slice_set xs i x) ≡ slice_set (map h xs) i (h x)
map-set h x i [] = refl
map-set h x zero (y ∷ xs) = refl
map-set h x (suc i) (y ∷ xs) = ap (λ ys. h y ∷ ys) (map-set h x i xs)

instruction_put : (t : Trees) (inst : LLVMInst) (place : ℕ) (v : LLVMValue) → instruction_of t (with_operand inst place v) ≡ d.with_operand (instruction_of t inst) place (operand_of t v)
instruction_put t (I.Phi type entries) place v =
    ap d.Phi (map-changed (entry_of t) (λ (e : PhiEntry). record e { value = v }) (λ (e : d.Operand × ℕ). (operand_of t v, e.1)) (λ e. refl) place entries)
instruction_put t (I.Row r) place v = let e = map-set (operand_of t) v place r.operands in cc

pub operand_set : (m : Module) (i : LLVMInstRef) (place : ℕ) (v : LLVMValue) → IsModule m → TakesOperand m i place v → IsValue m v
    → IsModule (with_code m (with_changed_inst (code_of m) i (λ inst. with_operand inst place v)))
operand_set m i place v s (x, w, at, operand, typed) here =
    inst_changed m i (λ inst. with_operand inst place v) s (λ y is.
    let same : x ≡ y = same_Some x y (sym at ∙ is) in
    let operand_y : slice_get (operands y.inst) place ≡ Some w = subst (λ (z : InstData). slice_get (operands z.inst) place ≡ Some w) same operand in
    (values_put m y.inst place v (s.insts i.0 y is).values here, result_put m y.inst place v w operand_y typed))

pub operand_set_data : (m : Module) (i : LLVMInstRef) (place : ℕ) (v : LLVMValue)
    → data_of (with_code m (with_changed_inst (code_of m) i (λ inst. with_operand inst place v))) ≡ d.with_changed (data_of m) i.0 (λ inst. d.with_operand inst place (operand_of (trees_of m) v))
operand_set_data m i place v =
    changed_data m i (λ inst. with_operand inst place v) (λ inst. d.with_operand inst place (operand_of (trees_of m) v)) (λ x at. instruction_put (trees_of m) x.inst place v)

-- ---- an entry of a phi

values_extended : (m : Module) (inst : LLVMInst) (e : PhiEntry) → HasValues m inst → IsEntry m e → HasValues m (with_entry inst e)
values_extended m (I.Phi type entries) e h here = (h.0, All-push (IsEntry m) entries e h.1 here)
values_extended m (I.Row r) e h here = h

result_extended : (m : Module) (inst : LLVMInst) (e : PhiEntry) → result_type m (with_entry inst e) ≡ result_type m inst
result_extended m (I.Phi type entries) e = refl
result_extended m (I.Row r) e = refl

instruction_extended : (t : Trees) (inst : LLVMInst) (e : PhiEntry) → instruction_of t (with_entry inst e) ≡ d.with_entry (instruction_of t inst) (operand_of t e.value) e.block.0
instruction_extended t (I.Phi type entries) e = ap d.Phi (map-append (entry_of t) entries (e ∷ []))
instruction_extended t (I.Row r) e = refl

pub entry_added : (m : Module) (i : LLVMInstRef) (e : PhiEntry) → IsModule m → IsEntry m e → IsModule (with_code m (with_changed_inst (code_of m) i (λ inst. with_entry inst e)))
entry_added m i e s here = inst_changed m i (λ inst. with_entry inst e) s (λ x at. (values_extended m x.inst e (s.insts i.0 x at).values here, result_extended m x.inst e))

pub entry_added_data : (m : Module) (i : LLVMInstRef) (e : PhiEntry)
    → data_of (with_code m (with_changed_inst (code_of m) i (λ inst. with_entry inst e))) ≡ d.with_changed (data_of m) i.0 (λ inst. d.with_entry inst (operand_of (trees_of m) e.value) e.block.0)
entry_added_data m i e =
    changed_data m i (λ inst. with_entry inst e) (λ inst. d.with_entry inst (operand_of (trees_of m) e.value) e.block.0) (λ x at. instruction_extended (trees_of m) x.inst e)
