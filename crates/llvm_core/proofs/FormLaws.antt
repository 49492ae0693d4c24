-- A module of the form, with distinct names and short lists, meets every rule.
use Rattle.std.proofs.Common.{◌≡◌, ◌≢◌, ◌<◌, ◌^◌, inl, inr, ℕ, suc, true, false, not, [], Option, None, Some, length, slice_get, map, refl, sym, ap, subst, ◌∙◌, arith}
use Rattle.std.specs.List.{flat_map, list_any}
use Rattle.std.specs.Option.{option_map, option_map_or}
use Rattle.std.proofs.lemmas.Bool.{or_from}
use Rattle.std.proofs.lemmas.List.{length-map}
use Rattle.std.proofs.lemmas.Option.{slice_get-map, same_Some}
use Rattle.kinds.specs.Types.{count_types}
use Rattle.kinds.specs.Structs.{IsFormStruct}
use Rattle.support.proofs.ListLaws.{item_there, from_joined}
use Rattle.llvm_core.specs.declared.numbers.LLVMFunction.{LLVMFunction}
use Rattle.llvm_core.specs.declared.numbers.LLVMBasicBlock.{LLVMBasicBlock}
use Rattle.llvm_core.specs.declared.numbers.LLVMInstRef.{LLVMInstRef}
use Rattle.llvm_core.specs.declared.structs.StructFields.{StructFields}
use Rattle.llvm_core.specs.declared.structs.StructData.{StructData}
use Rattle.llvm_core.specs.declared.code.FunctionData.{FunctionData}
use Rattle.llvm_core.specs.declared.code.BlockData.{BlockData}
use Rattle.llvm_core.specs.declared.code.InstData.{InstData}
use Rattle.llvm_core.specs.declared.check_err.Place.TheVariants as P
use Rattle.llvm_core.specs.declared.check_err.CheckErr.TheVariants.{ListTooLong}
use Rattle.llvm_core.specs.Module.{Module}
use Rattle.support.specs.Interned.{IsDistinctList}
use Rattle.llvm_core.specs.Edges.{count_of, targets_at, targets_from, edge_count}
use Rattle.llvm_core.specs.Parts.{operands}
use Rattle.llvm_core.specs.Names.{HasTwice}
use Rattle.llvm_core.specs.Sound.{IsModule}
use Rattle.llvm_core.specs.Data.{StructBody, Struct, Placed, Block, Function, AreApart, trees_of, fields_of, struct_of, instruction_of, data_of, placed_in, targets}
use Rattle.llvm_core.specs.Checked.{Fails, IsTaken, IsTakenStruct, IsFreshName, IsCheckedStruct, IsCheckedFunction, IsCheckedBlock, IsCheckedInst, IsCheckedDepths, IsCheckedEdges, IsChecked, IsLong, IsLongBody, is_deep, is_deep_value, is_deep_inst, HasNoPreds, HasLatePhi, MisfitsEdges, home, local_names, ends_in_only, is_terminator_at}
use Rattle.llvm_core.specs.Form.{IsForm, IsFormFunction, IsFormBlock, IsFormPlaced, IsFormInstruction, IsTarget, IsFewIn, HasFew, HasDistinctNames, edges_between, operands_of}
use Rattle.llvm_core.specs.Form.{local_names as names_of}
use Rattle.llvm_core.proofs.DataLemmas.{within_at, function_at, function_count, block_count_of, inst_count_of, block_of_number, inst_of_number}
use Rattle.llvm_core.proofs.CheckLemmas.{all_checked}
use Rattle.kinds.proofs.NameLaws.{good_not_bad}
use Rattle.llvm_core.proofs.FormNames.{same_local_names, once_of_distinct}
use Rattle.llvm_core.proofs.FormTypes.{numbered, signature_of, signature_fits, count_is}
use Rattle.llvm_core.proofs.FormPlaces.{shown, shown_block, shown_inst, same_block_ends, same_phi_at, function_there, HasBlockPlace, block_place, inst_place, block_from, in_home}
use Rattle.llvm_core.proofs.FormEdges.{StaysInside, count_absent, same_targets_from, one_place, same_edges}
use Rattle.llvm_core.proofs.FormInsts.{leads_behind, type_fits, count_fits, inside, operands_shallow, fits_edges, same_operand_count}
use Rattle.llvm_core.proofs.DistinctLaws.{struct_at}
use Rattle.llvm_core.proofs.FormNested.{struct_nests, function_nests, result_nests, operand_nests}

-- the function at a number is of the form
pub form_at : (m : Module) → IsForm (data_of m) → (f : ℕ) (x : FunctionData) → slice_get m.functions f ≡ Some x → IsFormFunction (shown m f x)
form_at m form f x at = within_at (data_of m).functions IsFormFunction form.functions f (shown m f x) (function_at m f x at)

module _ (m : Module) (sound : IsModule m) (apart : AreApart m) (form : IsForm (data_of m)) (names : HasDistinctNames (data_of m)) (few : HasFew (data_of m)) where
  -- ---- functions

  name_at : (f : ℕ) (x : FunctionData) → slice_get m.functions f ≡ Some x → slice_get (map (λ (g : Function). g.name) (data_of m).functions) f ≡ Some x.name
  name_at f x at = slice_get-map (λ (g : Function). g.name) (data_of m).functions f ∙ ap (option_map (λ (g : Function). g.name)) (function_at m f x at)

  untaken : (f : ℕ) (x : FunctionData) → slice_get m.functions f ≡ Some x → ¬ IsTaken m f x.name
  untaken f x at (g, y, lt, at_g, same) =
      let e : g ≡ f = names.functions g f x.name (name_at g y at_g ∙ ap Some same) (name_at f x at) in
      absurd (omega (arith, e, lt))

  locals_once : (f : ℕ) (x : FunctionData) → slice_get m.functions f ≡ Some x → ¬ HasTwice (local_names m x)
  locals_once f x at twice =
      let distinct = within_at (data_of m).functions (λ (g : Function). IsDistinctList (names_of g)) names.locals f (shown m f x) (function_at m f x at) in
      once_of_distinct (names_of (shown m f x)) distinct (subst HasTwice (same_local_names m f x) twice)

  few_in : (f : ℕ) (x : FunctionData) → slice_get m.functions f ≡ Some x → IsFewIn (shown m f x)
  few_in f x at = within_at (data_of m).functions IsFewIn few.each f (shown m f x) (function_at m f x at)

  all_few : ¬ Fails m (ListTooLong P.Module)
  all_few h = elim h [
    | inl functions ↦ (let count = function_count m in let short = few.functions in absurd (omega (arith, functions, count, short)))
    | inr structs ↦ (let count = length-map m.structs (struct_of (trees_of m).types) in let short = few.structs in absurd (omega (arith, structs, count, short)))
  ]

  params_few : (f : ℕ) (x : FunctionData) → slice_get m.functions f ≡ Some x → ¬ IsLong x.params
  params_few f x at h = let short = (few_in f x at).params in absurd (omega (arith, h, short))

  blocks_few : (f : ℕ) (x : FunctionData) → slice_get m.functions f ≡ Some x → ¬ IsLong x.blocks
  blocks_few f x at h =
      let short = (few_in f x at).blocks in
      let count = block_count_of m f x sound at in
      absurd (omega (arith, h, short, count))

  fresh : (f : ℕ) → IsFreshName m f
  fresh f x at = (good_not_bad x.name (form_at m form f x at).name, untaken f x at)

  function_checked : (f : ℕ) → IsCheckedFunction m f
  function_checked f = record {
    locals = locals_once f;
    types = λ (x, at, misfits).
        let g = form_at m form f x at in
        let s = signature_of m f x g.result g.types false sound at g.type in
        cc (signature_fits m f x g.result g.types sound at s g.returns g.takes, misfits);
    bodies = λ (x, at, own). let no : ⊥ = cc ((form_at m form f x at).own, own.0) in no;
    spaces = λ (x, at, space). space (form_at m form f x at).space;
    lists = λ (x, at, long). elim long [ inl params ↦ params_few f x at params | inr blocks ↦ blocks_few f x at blocks ];
  }

  -- ---- structs

  struct_name_at : (s : ℕ) (x : StructData) → slice_get m.structs s ≡ Some x → slice_get (map (λ (t : Struct). t.name) (data_of m).structs) s ≡ Some x.name
  struct_name_at s x at = slice_get-map (λ (t : Struct). t.name) (data_of m).structs s ∙ ap (option_map (λ (t : Struct). t.name)) (struct_at m s x at)

  struct_untaken : (s : ℕ) (x : StructData) → slice_get m.structs s ≡ Some x → ¬ IsTakenStruct m s x.name
  struct_untaken s x at (r, y, lt, at_r, same) =
      let e : r ≡ s = names.structs r s x.name (struct_name_at r y at_r ∙ ap Some same) (struct_name_at s x at) in
      absurd (omega (arith, e, lt))

  fields_few : (s : ℕ) (x : StructData) → slice_get m.structs s ≡ Some x → ¬ IsLongBody x.body
  fields_few s x at = by x.body (within_at (data_of m).structs (λ (t : Struct). option_map_or (λ (b : StructBody). count_types b.fields) t.body 0 < 2 ^ 31) few.fields s (struct_of (trees_of m).types x) (struct_at m s x at))
    where
      by : (o : Option StructFields) → option_map_or (λ (b : StructBody). count_types b.fields) (option_map (fields_of (trees_of m).types) o) 0 < 2 ^ 31 → ¬ IsLongBody o
      by None short h = h
      by (Some b) short h = let count = count_is (trees_of m).types b.types in absurd (omega (arith, short, h, count))

  struct_checked : (s : ℕ) → IsCheckedStruct m s
  struct_checked s = record {
    names = λ (x, at, h). elim h [
      | inl bad ↦ (let good = good_not_bad x.name (within_at (data_of m).structs IsFormStruct form.structs s (struct_of (trees_of m).types x) (struct_at m s x at)).name in cc)
      | inr t ↦ struct_untaken s x at t
    ];
    lists = λ (x, at, long). fields_few s x at long;
  }

  -- ---- blocks

  -- what is known of a block that is there
  record HasBlockForm (b : ℕ) (y : BlockData) : Type 0 where
    function : FunctionData
    function_is : slice_get m.functions y.function.0 ≡ Some function
    outer : HasBlockPlace m y.function.0 function b y
    block : IsFormBlock (shown m y.function.0 function) (shown_block m b y)

  block_form : (b : ℕ) (y : BlockData) → slice_get m.blocks b ≡ Some y → HasBlockForm b y
  block_form b y is =
      let x = function_there m b y sound is in
      let outer = block_place m y.function.0 x.0 b y sound x.1 is refl in
      record {
        function = x.0;
        function_is = x.1;
        outer = outer;
        block = within_at (shown m y.function.0 x.0).blocks (IsFormBlock (shown m y.function.0 x.0)) (form_at m form y.function.0 x.0 x.1).blocks outer.place (shown_block m b y) outer.here;
      }

  terminated : (b : ℕ) (y : BlockData) → slice_get m.blocks b ≡ Some y → ends_in_only (is_terminator_at m) y.insts ≡ true
  terminated b y at = same_block_ends m (record { 0 = b }) y sound at ∙ (block_form b y at).block.ends

  none_late : (b : ℕ) (y : BlockData) → slice_get m.blocks b ≡ Some y → ¬ HasLatePhi m y.insts
  none_late b y at (j, k, i, l, lt, at_i, at_l, plain, phi) =
      let y_insts = (sound.blocks b y at).insts in
      let z = item_there m.insts i.0 (within_at y.insts (λ (i : LLVMInstRef). i.0 < length m.insts) y_insts j i at_i) in
      let w = item_there m.insts l.0 (within_at y.insts (λ (i : LLVMInstRef). i.0 < length m.insts) y_insts k l at_l) in
      let here = inst_of_number m (record { 0 = b }) y j i z.0 sound at at_i z.1 in
      let later = inst_of_number m (record { 0 = b }) y k l w.0 sound at at_l w.1 in
      let known = (block_form b y at).block.phis j k (shown_inst m i.0 z.0) (shown_inst m l.0 w.0) lt here later (sym (same_phi_at m i z.0 z.1) ∙ plain) in
      let other = same_phi_at m l w.0 w.1 in
      absurd (cc (known, other, phi))

  insts_few : (b : ℕ) (y : BlockData) → slice_get m.blocks b ≡ Some y → ¬ IsLong y.insts
  insts_few b y at h =
      let IsShort : Block → Type 0 = λ c. length c.instructions < 2 ^ 31 in
      let p = block_form b y at in
      let short = within_at (shown m y.function.0 p.function).blocks IsShort (few_in y.function.0 p.function p.function_is).instructions p.outer.place (shown_block m b y) p.outer.here in
      let count = inst_count_of m (record { 0 = b }) y sound at in
      absurd (omega (arith, h, short, count))

  block_checked : (b : ℕ) → IsCheckedBlock m b
  block_checked b = record {
    terminators = λ (y, at, unended). cc (terminated b y at, unended);
    phis = λ (y, at, late). none_late b y at late;
    lists = λ (y, at, long). insts_few b y at long;
  }

  -- ---- instructions

  -- what is known of an instruction that is there
  record HasInstForm (i : ℕ) (z : InstData) : Type 0 where
    f : ℕ
    function : FunctionData
    function_is : slice_get m.functions f ≡ Some function
    home_is : home m z ≡ numbered f
    block : BlockData
    block_is : slice_get m.blocks z.block.0 ≡ Some block
    own : block.function.0 ≡ f
    form_is : IsFormInstruction (shown m f function) z.block.0 (shown_inst m i z).type (instruction_of (trees_of m) z.inst)

  inst_form : (i : ℕ) (z : InstData) → slice_get m.insts i ≡ Some z → HasInstForm i z
  inst_form i z at =
      let p = inst_place m i z sound at in
      let b = block_form z.block.0 p.block p.block_is in
      let g = shown m p.block.function.0 b.function in
      let placed = within_at (shown_block m z.block.0 p.block).instructions (IsFormPlaced g z.block.0) b.block.instructions p.place (shown_inst m i z) p.here in
      record {
        f = p.block.function.0;
        function = b.function;
        function_is = b.function_is;
        home_is = p.home_is;
        block = p.block;
        block_is = p.block_is;
        own = refl;
        form_is = placed.instruction;
      }

  operands_few : (i : ℕ) (z : InstData) → slice_get m.insts i ≡ Some z → ¬ IsLong (operands z.inst)
  operands_few i z at h =
      let IsShort : Placed → Type 0 = λ p. length (operands_of p.instruction) < 2 ^ 31 in
      let p = inst_form i z at in
      let here = in_home m p.f p.function i z sound p.function_is at (ap (λ (g : LLVMFunction). g.0) p.home_is) in
      let short = within_at (placed_in (shown m p.f p.function)) IsShort (few_in p.f p.function p.function_is).operands here.0 (shown_inst m i z) here.1 in
      let count = same_operand_count m z.inst in
      absurd (omega (arith, h, short, count))

  inst_checked : (i : ℕ) → IsCheckedInst m i
  inst_checked i = record {
    types = λ (z, at, misfits).
        let p = inst_form i z at in
        let here = sound.insts i z at in
        type_fits m p.f p.function sound apart p.function_is z.block.0 (shown_inst m i z).type z.inst z.ty here.values here.result refl p.form_is (rw p.home_is at misfits);
    counts = λ (z, at, misfits).
        let p = inst_form i z at in
        cc (count_fits m p.f p.function sound apart p.function_is z.block.0 (shown_inst m i z).type z.inst p.form_is, p.home_is, misfits);
    outside = λ (z, at, reaches).
        let p = inst_form i z at in
        cc (inside m p.f p.function sound apart p.function_is z.block.0 (shown_inst m i z).type z.inst p.form_is, p.home_is, reaches);
    lists = λ (z, at, long). operands_few i z at long;
  }

  -- ---- depth

  inst_shallow : (i : ℕ) (z : InstData) → slice_get m.insts i ≡ Some z → is_deep_inst m z ≡ false
  inst_shallow i z at =
      let p = inst_form i z at in
      let here = in_home m p.f p.function i z sound p.function_is at (ap (λ (g : LLVMFunction). g.0) p.home_is) in
      let shown_at = function_at m p.f p.function p.function_is in
      let result = result_nests (data_of m) form.nested p.f (shown m p.f p.function) here.0 (shown_inst m i z) shown_at here.1 in
      or_from (is_deep m z.ty) (list_any (is_deep_value m) (operands z.inst)) (ap not result)
      (operands_shallow m p.f p.function sound apart p.function_is z.block.0 (shown_inst m i z).type z.inst
      (λ k o is. operand_nests (data_of m) form.nested p.f (shown m p.f p.function) shown_at here.0 (shown_inst m i z) k o here.1 is) (sound.insts i z at).values p.form_is)

  depths_checked : IsCheckedDepths m
  depths_checked = record {
    structs = λ s lt (x, at, deep). let h = ap not (struct_nests (data_of m) form.nested s (struct_of (trees_of m).types x) (struct_at m s x at)) in absurd cc;
    functions = λ f lt (x, at, deep). let h = ap not (function_nests (data_of m) form.nested f (shown m f x) (function_at m f x at)) in absurd cc;
    insts = λ i lt (z, at, deep). let h = inst_shallow i z at in absurd cc;
  }

  -- ---- edges

  -- an edge leads to a block behind the first of the function that it leaves
  target_behind : (p : ℕ) (y : BlockData) (is : slice_get m.blocks p ≡ Some y) (k t : ℕ) → slice_get (targets_from m p) k ≡ Some t → IsTarget (shown m y.function.0 (block_form p y is).function) t
  target_behind p y is k t led =
      let b = block_form p y is in
      let c = shown_block m p y in
      let g = shown m y.function.0 b.function in
      let from = from_joined (λ (q : Placed). targets q.instruction) c.instructions k t (sym (ap (λ ts. slice_get ts k) (same_targets_from m p y is)) ∙ led) in
      let placed_form = within_at c.instructions (IsFormPlaced g p) b.block.instructions from.0 from.2 from.3 in
      leads_behind g p from.2.type from.2.instruction from.1 t placed_form.instruction from.4

  stays_inside : StaysInside m
  stays_inside p y k t is led =
      let b = block_form p y is in
      let h = target_behind p y is k t led in
      let l = block_from m y.function.0 b.function (suc h.0) h.1 sound b.function_is h.2 in
      let number : l.number ≡ t = ap (λ (d : Block). d.number) (sym l.shown_as) ∙ h.3 in
      (l.block, ap (slice_get m.blocks) (sym number) ∙ l.here, l.owned)

  entries_fit : (i : ℕ) (z : InstData) → slice_get m.insts i ≡ Some z → ¬ MisfitsEdges m z.block.0 z.inst
  entries_fit i z at =
      let p = inst_form i z at in
      let whole = form_at m form p.f p.function p.function_is in
      let edges : (q : ℕ) → edges_between (shown m p.f p.function) q z.block.0 ≡ edge_count m q z.block.0 = λ q.
      same_edges m p.f p.function sound p.function_is whole.block_numbers stays_inside q z.block.0 p.block p.block_is p.own in
      fits_edges m p.f p.function sound apart p.function_is z.block.0 (shown_inst m i z).type z.inst (sound.insts i z at).values edges p.form_is

  -- the first block of a function does not stand in it again
  first_once : (f : ℕ) (x : FunctionData) (b : LLVMBasicBlock) (z : BlockData) (i : ℕ) → slice_get m.functions f ≡ Some x → slice_get x.blocks 0 ≡ Some b → slice_get m.blocks b.0 ≡ Some z → slice_get x.blocks (suc i) ≢ Some b
  first_once f x b z i at first is again =
      let here = block_of_number m f x 0 b z sound at first is in
      let later = block_of_number m f x (suc i) b z sound at again is in
      let same = one_place (shown m f x) (form_at m form f x at).block_numbers 0 (suc i) (shown_block m b.0 z) (shown_block m b.0 z) here later refl in
      absurd (omega (arith, same))

  first_unled_by : (f : ℕ) (x : FunctionData) (b : LLVMBasicBlock) (z y : BlockData) (p k t : ℕ) → slice_get m.functions f ≡ Some x → slice_get x.blocks 0 ≡ Some b → slice_get m.blocks b.0 ≡ Some z → slice_get m.blocks p ≡ Some y
      → slice_get (targets_from m p) k ≡ Some t → t ≢ b.0
  first_unled_by f x b z y p k t at first is is_p led same =
      let g = block_form p y is_p in
      let h = target_behind p y is_p k t led in
      let l = block_from m y.function.0 g.function (suc h.0) h.1 sound g.function_is h.2 in
      let number : l.number ≡ b.0 = ap (λ (d : Block). d.number) (sym l.shown_as) ∙ h.3 ∙ same in
      let block : l.block ≡ z = same_Some l.block z (sym l.here ∙ ap (slice_get m.blocks) number ∙ is) in
      let home : y.function.0 ≡ f = sym l.owned ∙ ap (λ (c : BlockData). c.function.0) block ∙ sound.owned_blocks f x at 0 b z first is in
      let function : g.function ≡ x = same_Some g.function x (sym g.function_is ∙ ap (slice_get m.functions) home ∙ at) in
      let again : slice_get x.blocks (suc h.0) ≡ Some b = ap (λ (c : FunctionData). slice_get c.blocks (suc h.0)) (sym function) ∙ l.listed ∙ ap (λ (n : ℕ). Some (record { 0 = n })) number in
      first_once f x b z h.0 at first is again

  -- no edge leads to the first block of a function
  first_unled : (f : ℕ) (x : FunctionData) (b : LLVMBasicBlock) → slice_get m.functions f ≡ Some x → slice_get x.blocks 0 ≡ Some b → HasNoPreds m b.0
  first_unled f x b at first p =
      let z = item_there m.blocks b.0 (within_at x.blocks (λ (b : LLVMBasicBlock). b.0 < length m.blocks) (sound.functions f x at).blocks 0 b first) in
      by (slice_get m.blocks p) refl z.0 z.1
    where
      by : (o : Option BlockData) → slice_get m.blocks p ≡ o → (z : BlockData) → slice_get m.blocks b.0 ≡ Some z → edge_count m p b.0 ≡ 0
      by None e z is = ap (λ o. count_of b.0 (option_map_or (λ (c : BlockData). flat_map (targets_at m) c.insts) o [])) e
      by (Some y) e z is = count_absent b.0 (targets_from m p) (λ k t led. first_unled_by f x b z y p k t at first is e led)

  edges_checked : IsCheckedEdges m
  edges_checked = record {
    entries = λ i lt (z, at, misfits). entries_fit i z at misfits;
    firsts = λ f lt (x, at, led). led.2 (first_unled f x led.0 at led.1);
  }

  -- a module of the form meets every rule
  pub checked_of_form : IsChecked m
  checked_of_form = all_checked m all_few (λ s lt. struct_checked s) (λ f lt. fresh f) (λ f lt. function_checked f) (λ b lt. block_checked b) (λ i lt. inst_checked i) depths_checked edges_checked
