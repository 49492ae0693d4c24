-- The names of a checked module are distinct, and its lists are short. No function lists a block twice.
use Rattle.std.proofs.Common.{◌≡◌, ◌<◌, ◌^◌, inl, inr, ℕ, List, Option, None, Some, length, slice_get, map, refl, sym, ap, subst, ◌∙◌, arith, All}
use Rattle.std.specs.Option.{option_map, option_map_or}
use Rattle.std.proofs.lemmas.List.{length-map}
use Rattle.std.proofs.lemmas.List.Elements.{All-map}
use Rattle.std.proofs.lemmas.Bool.{cases_order}
use Rattle.std.proofs.lemmas.Option.{slice_get_within, slice_get-map, get_or_from_slice_get, same_Some}
use Rattle.std.proofs.Math.Nat.{lt_of_not-le}
use Rattle.support.proofs.ListLaws.{all_from, item_there}
use Rattle.kinds.specs.Types.{count_types}
use Rattle.llvm_core.specs.declared.structs.StructFields.{StructFields}
use Rattle.llvm_core.specs.declared.structs.StructData.{StructData}
use Rattle.llvm_core.specs.declared.code.FunctionData.{FunctionData}
use Rattle.llvm_core.specs.declared.check_err.Place.TheVariants as P
use Rattle.llvm_core.specs.declared.check_err.CheckErr.TheVariants.{NameTwice, ListTooLong}
use Rattle.llvm_core.specs.Module.{Module}
use Rattle.support.specs.Interned.{IsDistinctList}
use Rattle.llvm_core.specs.Names.{HasTwice}
use Rattle.llvm_core.specs.Sound.{IsModule}
use Rattle.llvm_core.specs.Data.{StructBody, Struct, Placed, Block, Function, placed_in, trees_of, fields_of, struct_of, data_of}
use Rattle.llvm_core.specs.Checked.{IsChecked, IsLongBody}
use Rattle.llvm_core.specs.Form.{local_names, HasDistinctNames, IsFewIn, HasFew, operands_of}
use Rattle.llvm_core.proofs.DataLemmas.{function_at, function_count, block_count_of, inst_count_of}
use Rattle.llvm_core.proofs.FormTypes.{count_is}
use Rattle.llvm_core.proofs.FormNames.{same_local_names, distinct_of_once}
use Rattle.llvm_core.proofs.FormPlaces.{shown, block_from, own_inst}
use Rattle.llvm_core.proofs.FormInsts.{same_operand_count}

-- what holds of the data of each function holds of all
pub each_function : (m : Module) (P : Function → Type 0) → ((f : ℕ) (x : FunctionData) → slice_get m.functions f ≡ Some x → P (shown m f x)) → All P (data_of m).functions
each_function m P each k d lt =
    let count = function_count m in
    let x = item_there m.functions k (omega (arith, lt, count)) in
    subst P (sym (get_or_from_slice_get (data_of m).functions k (shown m k x.0) d (function_at m k x.0 x.1))) (each k x.0 x.1)

-- a function of the data is that of its number
pub function_from : (m : Module) (i : ℕ) (g : Function) → slice_get (data_of m).functions i ≡ Some g → (x : FunctionData) × (slice_get m.functions i ≡ Some x) × (g ≡ shown m i x)
function_from m i g at =
    let count = function_count m in
    let within = slice_get_within (data_of m).functions i g at in
    let x = item_there m.functions i (omega (arith, within, count)) in
    (x.0, x.1, same_Some g (shown m i x.0) (sym at ∙ function_at m i x.0 x.1))

-- the struct at a number
pub struct_at : (m : Module) (s : ℕ) (x : StructData) → slice_get m.structs s ≡ Some x → slice_get (data_of m).structs s ≡ Some (struct_of (trees_of m).types x)
struct_at m s x at = slice_get-map (struct_of (trees_of m).types) m.structs s ∙ ap (option_map (struct_of (trees_of m).types)) at

pub named_struct : (m : Module) (i : ℕ) (n : List ℕ) → slice_get (map (λ (s : Struct). s.name) (data_of m).structs) i ≡ Some n → (x : StructData) × (slice_get m.structs i ≡ Some x) × (x.name ≡ n)
named_struct m i n h = by (slice_get m.structs i) refl (sym (slice_get-map (λ (s : Struct). s.name) (data_of m).structs i ∙ ap (option_map (λ (s : Struct). s.name)) (slice_get-map (struct_of (trees_of m).types) m.structs i)) ∙ h)
  where
    by : (o : Option StructData) → slice_get m.structs i ≡ o → option_map (λ (s : Struct). s.name) (option_map (struct_of (trees_of m).types) o) ≡ Some n → (x : StructData) × (slice_get m.structs i ≡ Some x) × (x.name ≡ n)
    by None e h = absurd cc
    by (Some x) e h = (x, e, same_Some x.name n h)

-- a block of a function's data is listed at the place where it stands
block_listed : (m : Module) (f : ℕ) (x : FunctionData) (place n : ℕ) → IsModule m → slice_get m.functions f ≡ Some x → slice_get (map (λ (c : Block). c.number) (shown m f x).blocks) place ≡ Some n → slice_get x.blocks place ≡ Some (record { 0 = n })
block_listed m f x place n sound at h = by (slice_get (shown m f x).blocks place) refl (sym (slice_get-map (λ (c : Block). c.number) (shown m f x).blocks place) ∙ h)
  where
    by : (o : Option Block) → slice_get (shown m f x).blocks place ≡ o → option_map (λ (c : Block). c.number) o ≡ Some n → slice_get x.blocks place ≡ Some (record { 0 = n })
    by None e h = absurd cc
    by (Some c) e h =
        let l = block_from m f x place c sound at e in
        l.listed ∙ ap (λ (k : ℕ). Some (record { 0 = k })) (ap (λ (d : Block). d.number) (sym l.shown_as) ∙ same_Some c.number n h)

-- no two blocks of a function's data have one number
pub blocks_once : (m : Module) (f : ℕ) (x : FunctionData) → IsModule m → slice_get m.functions f ≡ Some x → IsDistinctList (map (λ (c : Block). c.number) (shown m f x).blocks)
blocks_once m f x sound at i j n here there =
    (sound.functions f x at).once i j (record { 0 = n }) (block_listed m f x i n sound at here) (block_listed m f x j n sound at there)

module _ (m : Module) (checked : IsChecked m) where
  -- ---- names

  named_function : (i : ℕ) (n : List ℕ) → slice_get (map (λ (f : Function). f.name) (data_of m).functions) i ≡ Some n → (x : FunctionData) × (slice_get m.functions i ≡ Some x) × (x.name ≡ n)
  named_function i n h = by (slice_get (data_of m).functions i) refl (sym (slice_get-map (λ (f : Function). f.name) (data_of m).functions i) ∙ h)
    where
      by : (o : Option Function) → slice_get (data_of m).functions i ≡ o → option_map (λ (f : Function). f.name) o ≡ Some n → (x : FunctionData) × (slice_get m.functions i ≡ Some x) × (x.name ≡ n)
      by None e h = absurd cc
      by (Some g) e h = let x = function_from m i g e in (x.0, x.1, ap (λ (f : Function). f.name) (sym x.2) ∙ same_Some g.name n h)

  no_later_struct : (i j : ℕ) (n : List ℕ) → i < j → slice_get (map (λ (s : Struct). s.name) (data_of m).structs) i ≡ Some n → slice_get (map (λ (s : Struct). s.name) (data_of m).structs) j ≡ Some n → ⊥
  no_later_struct i j n lt at_i at_j =
      let x = named_struct m i n at_i in
      let y = named_struct m j n at_j in
      checked (NameTwice (P.Struct j)) (y.0, y.1, inr (i, x.0, lt, x.1, x.2 ∙ sym y.2))

  distinct_structs : IsDistinctList (map (λ (s : Struct). s.name) (data_of m).structs)
  distinct_structs i j n at_i at_j = elim (cases_order i j) [
    | inl same ↦ same
    | inr apart ↦ elim apart [ inl lt ↦ absurd (no_later_struct i j n lt at_i at_j) | inr gt ↦ absurd (no_later_struct j i n gt at_j at_i) ]
  ]

  no_later : (i j : ℕ) (n : List ℕ) → i < j → slice_get (map (λ (f : Function). f.name) (data_of m).functions) i ≡ Some n → slice_get (map (λ (f : Function). f.name) (data_of m).functions) j ≡ Some n → ⊥
  no_later i j n lt at_i at_j =
      let x = named_function i n at_i in
      let y = named_function j n at_j in
      checked (NameTwice (P.Function j)) (y.0, y.1, inr (inl (i, x.0, lt, x.1, x.2 ∙ sym y.2)))

  distinct_functions : IsDistinctList (map (λ (f : Function). f.name) (data_of m).functions)
  distinct_functions i j n at_i at_j = elim (cases_order i j) [
    | inl same ↦ same
    | inr apart ↦ elim apart [ inl lt ↦ absurd (no_later i j n lt at_i at_j) | inr gt ↦ absurd (no_later j i n gt at_j at_i) ]
  ]

  distinct_locals : (f : ℕ) (x : FunctionData) → slice_get m.functions f ≡ Some x → IsDistinctList (local_names (shown m f x))
  distinct_locals f x at =
      let once : ¬ HasTwice (local_names (shown m f x)) = λ twice. checked (NameTwice (P.Function f)) (x, at, inr (inr (subst HasTwice (sym (same_local_names m f x)) twice))) in
      distinct_of_once (local_names (shown m f x)) once

  -- no two structs share a name, no two functions do, and no two named things of a function
  pub distinct_of_checked : HasDistinctNames (data_of m)
  distinct_of_checked = record {
    structs = distinct_structs;
    functions = distinct_functions;
    locals = each_function m (λ (f : Function). IsDistinctList (local_names f)) distinct_locals;
  }

  -- ---- lengths

  module _ (sound : IsModule m) (f : ℕ) (x : FunctionData) (at : slice_get m.functions f ≡ Some x) where
    few_instructions : (k : ℕ) (c : Block) → slice_get (shown m f x).blocks k ≡ Some c → length c.instructions < 2 ^ 31
    few_instructions k c is =
        let l = block_from m f x k c sound at is in
        let short = lt_of_not-le (λ long. checked (ListTooLong (P.Block l.number)) (l.block, l.here, long)) in
        let count = inst_count_of m (record { 0 = l.number }) l.block sound l.here in
        let same = ap (λ (d : Block). length d.instructions) l.shown_as in
        omega (arith, short, count, same)

    few_operands : (k : ℕ) (p : Placed) → slice_get (placed_in (shown m f x)) k ≡ Some p → length (operands_of p.instruction) < 2 ^ 31
    few_operands k p is =
        let l = own_inst m f x k p sound at is in
        let short = lt_of_not-le (λ long. checked (ListTooLong (P.Inst l.number)) (l.inst, l.here, long)) in
        let count = same_operand_count m l.inst.inst in
        let same = ap (λ (q : Placed). length (operands_of q.instruction)) l.shown_as in
        omega (arith, short, count, same)

    few_blocks : length (shown m f x).blocks < 2 ^ 31
    few_blocks =
        let short = lt_of_not-le (λ long. checked (ListTooLong (P.Function f)) (x, at, inr long)) in
        let count = block_count_of m f x sound at in
        omega (arith, short, count)

    few_in : IsFewIn (shown m f x)
    few_in = record {
      params = lt_of_not-le (λ long. checked (ListTooLong (P.Function f)) (x, at, inl long));
      blocks = few_blocks;
      instructions = all_from (λ (c : Block). length c.instructions < 2 ^ 31) (shown m f x).blocks few_instructions;
      operands = all_from (λ (p : Placed). length (operands_of p.instruction) < 2 ^ 31) (placed_in (shown m f x)) few_operands;
    }

  few_fields : (s : ℕ) (x : StructData) → slice_get m.structs s ≡ Some x → option_map_or (λ (b : StructBody). count_types b.fields) (struct_of (trees_of m).types x).body 0 < 2 ^ 31
  few_fields s x at = by x.body refl
    where
      by : (o : Option StructFields) → x.body ≡ o → option_map_or (λ (b : StructBody). count_types b.fields) (option_map (fields_of (trees_of m).types) o) 0 < 2 ^ 31
      by None e = omega arith
      by (Some b) e =
          let short = lt_of_not-le (λ long. checked (ListTooLong (P.Struct s)) (x, at, subst IsLongBody (sym e) long)) in
          let count = count_is (trees_of m).types b.types in
          omega (arith, short, count)

  -- lists of fewer than 2^31 entries
  pub few_of_checked : IsModule m → HasFew (data_of m)
  few_of_checked sound = record {
    structs = let short = lt_of_not-le (λ long. checked (ListTooLong P.Module) (inr long)) in let count = length-map m.structs (struct_of (trees_of m).types) in omega (arith, short, count);
    fields =
        All-map (λ (s : Struct). option_map_or (λ (b : StructBody). count_types b.fields) s.body 0 < 2 ^ 31) (struct_of (trees_of m).types) m.structs
        (all_from (λ (x : StructData). option_map_or (λ (b : StructBody). count_types b.fields) (struct_of (trees_of m).types x).body 0 < 2 ^ 31) m.structs few_fields);
    functions = let short = lt_of_not-le (λ long. checked (ListTooLong P.Module) (inl long)) in let count = function_count m in omega (arith, short, count);
    each = each_function m IsFewIn (few_in sound);
  }
