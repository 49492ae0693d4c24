-- A function under other names of structs: it is of the form, and translated, where the function itself is.
use Rattle.std.proofs.Common.{arith, ◌≡◌, ◌-◌, ℕ, zero, suc, Bool, true, false, ◌||◌, refl, ap, sym, subst, ◌∙◌, List, [], ◌∷◌, ◌++◌, map, filter, length, slice_get, take, Option, Some, None, if◌then◌else◌, nat_eq, All}
use Rattle.std.specs.Prelude.{unwrap_or}
use mathlib.Core.Path.{fun_ext}
use Rattle.std.specs.List.{flat_map, list_any}
use Rattle.std.specs.Option.{option_map, option_map_or}
use Rattle.std.proofs.lemmas.List.{length-map, take-map, map-append}
use Rattle.std.proofs.lemmas.Option.{slice_get-map}
use Rattle.std.proofs.lemmas.List.Elements.{All-map, All-weaker}
use Rattle.kinds.specs.declared.rules.Takes.{Takes}
use Rattle.kinds.specs.declared.rules.Takes.TheVariants as O
use Rattle.kinds.specs.Rules.{operand_count}
use Rattle.kinds.specs.Table.{rule_of}
use Rattle.kinds.specs.Types.{TypeTree, VoidType, types_list, result_of, params_of}
use Rattle.kinds.specs.Held.{is_void, IsFirstClass, IsHeldResult}
use Rattle.kinds.specs.Typing.{fits_trees, typed}
use Rattle.kinds.specs.Structs.{renamed, renamed_all}
use Rattle.kinds.proofs.HeldLaws.{void_is, void_if}
use Rattle.kinds.proofs.RenamedLaws.{renamed_list, renamed_count, renamed_result, renamed_params, renamed_void, renamed_shallow, renamed_first_class, renamed_returned, renamed_held_result}
use Rattle.support.specs.Interned.{IsDistinctList}
use Rattle.llvm_core.specs.Data.{ConstTree, IntConst, FilledConst, BytesConst, ListConst, SplatConst, PlaceholderConst, ConstTrees, NoConsts, ThenConst, Operand, Constant, Parameter, Result, RowData, Instruction, Phi, Applied, Placed, Block, Function, operand_type, placed_in, targets}
use Rattle.llvm_core.specs.Edges.{count_of}
use Rattle.llvm_core.specs.Checked.{ends_in_only}
use Rattle.llvm_core.specs.Form.{operands_of, constant_type, constant_types, IsOperandOf, IsOperand, targets_of, edges_between, IsTarget, FitsEdges, IsReturning, returns_void, types_of, IsFormRow, IsFormInstruction, IsFormPlaced, is_last, is_phi, HasPhisFirst, IsFormBlock, IsFormFunction, value_types, IsHeldFunction, IsShortConst, AreShort, IsShortOperand}
use Rattle.meaning.specs.Renamed.{renamed_const, renamed_consts, renamed_operand, renamed_phi_entry, renamed_row, renamed_instruction, renamed_placed, renamed_block, renamed_function}
use Rattle.meaning.proofs.RenamedLaws.{map_twice, flat_map_agree, renamed_placed_in, renamed_operand_type, renamed_operand_types, renamed_targets}
use Rattle.renamed_source.proofs.ConstLaws.{const_form}
use Rattle.renamed_source.proofs.DataLaws.{map_both, joined_mapped}
use Rattle.renamed_source.proofs.FittingLaws.{fits_renamed, typed_renamed, unwrapped}

-- ---- lists of changed items

pub mapped_all : {X Y : Type 0} (P : X → Type 0) (Q : Y → Type 0) (g : X → Y) → ((x : X) → P x → Q (g x)) → (xs : List X) → All P xs → All Q (map g xs)
mapped_all P Q g h xs all = All-map Q g xs (All-weaker P (λ x. Q (g x)) h xs all)

-- what stands at a place of a changed list is made of what stands there
pub get_from : {X Y : Type 0} (g : X → Y) (xs : List X) (i : ℕ) (y : Y) → slice_get (map g xs) i ≡ Some y → (x : X) × (slice_get xs i ≡ Some x) × (g x ≡ y)
get_from g [] i y at = cc
get_from g (x ∷ xs) zero y at = (x, refl, grind (arith, at))
get_from g (x ∷ xs) (suc i) y at = get_from g xs i y at

some_mapped : {X Y : Type 0} (g : X → Y) (xs : List X) → ¬ (xs ≡ []) → ¬ (map g xs ≡ [])
some_mapped g [] h e = h refl
some_mapped g (x ∷ xs) h e = absurd (grind (arith, e))

filter_mapped : {X Y : Type 0} (p : Y → Bool) (g : X → Y) (xs : List X) → filter p (map g xs) ≡ map g (filter (λ (x : X). p (g x)) xs)
filter_mapped p g [] = refl
filter_mapped {X} {Y} p g (x ∷ xs) = by (p (g x)) (filter_mapped p g xs)
  where
    by : (b : Bool) → filter p (map g xs) ≡ map g (filter (λ (x : X). p (g x)) xs) → (if b then g x ∷ filter p (map g xs) else filter p (map g xs)) ≡ map g (if b then x ∷ filter (λ (x : X). p (g x)) xs else filter (λ (x : X). p (g x)) xs)
    by true rest = ap (λ (ys : List Y). g x ∷ ys) rest
    by false rest = rest

any_mapped : {X Y : Type 0} (p : Y → Bool) (g : X → Y) (xs : List X) → list_any p (map g xs) ≡ list_any (λ (x : X). p (g x)) xs
any_mapped p g [] = refl
any_mapped p g (x ∷ xs) = ap (λ (b : Bool). p (g x) || b) (any_mapped p g xs)

last_mapped : {X Y : Type 0} (p : Y → Bool) (g : X → Y) (o : Option X) → option_map_or p (option_map g o) false ≡ option_map_or (λ (x : X). p (g x)) o false
last_mapped p g None = refl
last_mapped p g (Some x) = refl

ends_mapped : {X Y : Type 0} (p : Y → Bool) (g : X → Y) (xs : List X) → ends_in_only p (map g xs) ≡ ends_in_only (λ (x : X). p (g x)) xs
ends_mapped p g xs =
    rw (length-map xs g, slice_get-map g xs (length xs - 1), take-map g (length xs - 1) xs, any_mapped p g (take (length xs - 1) xs), last_mapped p g (slice_get xs (length xs - 1))) refl

-- ---- types of values

module _ (to : List ℕ → List ℕ) where
  pub result_types : (ps : List Placed) → map (λ (p : Placed). p.type) (map (renamed_placed to) ps) ≡ map (renamed to) (map (λ (p : Placed). p.type) ps)
  result_types ps = map_both (λ (p : Placed). p.type) (renamed_placed to) (renamed to) (λ (p : Placed). p.type) (λ p. refl) ps

  -- ---- constants that instructions use

  constant_type_under : (o : Operand) → constant_type (renamed_operand to o) ≡ map (renamed to) (constant_type o)
  constant_type_under (Constant (IntConst w v)) = refl
  constant_type_under (Constant (FilledConst fill t)) = refl
  constant_type_under (Constant (BytesConst bytes)) = refl
  constant_type_under (Constant (ListConst t cs)) = refl
  constant_type_under (Constant (SplatConst t c)) = refl
  constant_type_under (Constant (PlaceholderConst n t)) = refl
  constant_type_under (Parameter g i) = refl
  constant_type_under (Result n) = refl

  pub operands_under : (i : Instruction) → operands_of (renamed_instruction to i) ≡ map (renamed_operand to) (operands_of i)
  operands_under (Phi es) = map_both (λ (e : Operand × ℕ). e.0) (renamed_phi_entry to) (renamed_operand to) (λ (e : Operand × ℕ). e.0) (λ e. refl) es
  operands_under (Applied r) = refl

  constant_types_under : (p : Placed) → constant_types (renamed_placed to p) ≡ map (renamed to) (constant_types p)
  constant_types_under p = ap (flat_map constant_type) (operands_under p.instruction) ∙ joined_mapped constant_type (renamed_operand to) (renamed to) constant_type constant_type_under (operands_of p.instruction)

  pub constants_under : (ps : List Placed) → flat_map constant_types (map (renamed_placed to) ps) ≡ map (renamed to) (flat_map constant_types ps)
  constants_under ps = joined_mapped constant_types (renamed_placed to) (renamed to) constant_types constant_types_under ps

  -- ---- all of them

  pub renamed_value_types : (f : Function) → value_types (renamed_function to f) ≡ map (renamed to) (value_types f)
  renamed_value_types f =
      let results = map (λ (p : Placed). p.type) (placed_in f) in
      let constants = flat_map constant_types (placed_in f) in
      let first = renamed_result to f.type in
      let front = renamed_params to f.type in
      let second = ap (map (λ (p : Placed). p.type)) (renamed_placed_in to f) ∙ result_types (placed_in f) in
      let third = ap (flat_map constant_types) (renamed_placed_in to f) ∙ constants_under (placed_in f) in
      let joined = map-append (renamed to) (params_of f.type) results in
      let whole = map-append (renamed to) (result_of f.type ∷ params_of f.type ++ results) constants in
      cc

  mutual
    const_short : (c : ConstTree) → IsShortConst c → IsShortConst (renamed_const to c)
    const_short (IntConst w v) h = h
    const_short (FilledConst fill t) h = tt
    const_short (BytesConst bytes) h = tt
    const_short (ListConst t cs) h = consts_short cs h
    const_short (SplatConst t c) h = absurd h
    const_short (PlaceholderConst n t) h = tt

    consts_short : (cs : ConstTrees) → AreShort cs → AreShort (renamed_consts to cs)
    consts_short NoConsts h = tt
    consts_short (ThenConst c cs) h = (const_short c h.0, consts_short cs h.1)

  operand_short : (o : Operand) → IsShortOperand o → IsShortOperand (renamed_operand to o)
  operand_short (Constant c) h = const_short c h
  operand_short (Parameter g i) h = tt
  operand_short (Result n) h = tt

  -- the constants that an instruction uses are translated
  abbrev HasShort : Placed → Type 0
  HasShort p = All IsShortOperand (operands_of p.instruction)

  placed_short : (p : Placed) → HasShort p → HasShort (renamed_placed to p)
  placed_short p h = subst (All IsShortOperand) (sym (operands_under p.instruction)) (mapped_all IsShortOperand IsShortOperand (renamed_operand to) operand_short (operands_of p.instruction) h)

  pub renamed_held : (f : Function) → IsHeldFunction f → IsHeldFunction (renamed_function to f)
  renamed_held f h = record {
    types = subst (All IsHeldResult) (sym (renamed_value_types f)) (mapped_all IsHeldResult IsHeldResult (renamed to) (renamed_held_result to) (value_types f) h.types);
    constants = subst (All HasShort) (sym (renamed_placed_in to f)) (mapped_all HasShort HasShort (renamed_placed to) placed_short (placed_in f) h.constants);
  }

  -- ---- operands

  operand_of : (f : Function) (o : Operand) → IsOperandOf f o → IsOperandOf (renamed_function to f) (renamed_operand to o)
  operand_of f (Constant c) h = const_form to c h
  operand_of f (Parameter g i) h = h
  operand_of f (Result n) h =
      (h.0, renamed_placed to h.1, ap (λ (ps : List Placed). slice_get ps h.0) (renamed_placed_in to f) ∙ slice_get-map (renamed_placed to) (placed_in f) h.0 ∙ ap (option_map (renamed_placed to)) h.2, h.3)

  operand_typed : (f : Function) (t : TypeTree) (o : Operand) → IsOperand f t o → IsOperand (renamed_function to f) (renamed to t) (renamed_operand to o)
  operand_typed f t o h = record {
    stands = operand_of f o h.stands;
    typed = renamed_operand_type to f o ∙ ap (renamed to) h.typed;
    first_class = renamed_first_class to t h.first_class;
  }

  -- ---- edges

  block_targets : (b : Block) → targets_of (renamed_block to b) ≡ targets_of b
  block_targets b = flat_map_agree (λ (p : Placed). targets p.instruction) (renamed_placed to) (λ (p : Placed). targets p.instruction) (λ p. renamed_targets to p.instruction) b.instructions

  edges_under : (f : Function) (p b : ℕ) → edges_between (renamed_function to f) p b ≡ edges_between f p b
  edges_under f p b =
      ap (λ (bs : List Block). count_of b (flat_map targets_of bs)) (filter_mapped (λ (x : Block). nat_eq x.number p) (renamed_block to) f.blocks)
      ∙ ap (count_of b) (flat_map_agree targets_of (renamed_block to) targets_of block_targets (filter (λ (x : Block). nat_eq x.number p) f.blocks))

  fits_edges : (f : Function) (b : ℕ) (es : List (Operand × ℕ)) → FitsEdges f b es → FitsEdges (renamed_function to f) b (map (renamed_phi_entry to) es)
  fits_edges f b es h = record {
    counts = λ p. ap (count_of p) (map_twice (λ (e : Operand × ℕ). e.1) (renamed_phi_entry to) es) ∙ h.counts p ∙ sym (edges_under f p b);
    alike = λ i j x y at there same.
        let s = get_from (renamed_phi_entry to) es i x at in
        let t = get_from (renamed_phi_entry to) es j y there in
        let one = h.alike i j s.0 t.0 s.1 t.1 (ap (λ (e : Operand × ℕ). e.1) s.2 ∙ same ∙ sym (ap (λ (e : Operand × ℕ). e.1) t.2)) in
        sym (ap (λ (e : Operand × ℕ). e.0) s.2) ∙ ap (renamed_operand to) one ∙ ap (λ (e : Operand × ℕ). e.0) t.2;
    some = some_mapped (renamed_phi_entry to) es h.some;
  }

  target_under : (f : Function) (n : ℕ) → IsTarget f n → IsTarget (renamed_function to f) n
  target_under f n h = (h.0, renamed_block to h.1, slice_get-map (renamed_block to) f.blocks (suc h.0) ∙ ap (option_map (renamed_block to)) h.2, h.3)

  -- ---- rows

  returning : (takes : Takes) (f : Function) (os : List Operand) → IsReturning takes f os → IsReturning takes (renamed_function to f) (map (renamed_operand to) os)
  returning O.Nothing f os h = tt
  returning (O.One x) f os h = tt
  returning (O.Two x y) f os h = tt
  returning (O.Three x y z) f os h = tt
  returning O.Return f os h =
      mapped_all (λ (o : Operand). operand_type f o ≡ result_of f.type) (λ (o : Operand). operand_type (renamed_function to f) o ≡ result_of (renamed to f.type)) (renamed_operand to)
      (λ o e. renamed_operand_type to f o ∙ ap (renamed to) e ∙ sym (renamed_result to f.type)) os h

  void_under : (f : Function) → returns_void (renamed_function to f) ≡ returns_void f
  void_under f = ap is_void (renamed_result to f.type) ∙ renamed_void to (result_of f.type)

  void_before : (t : TypeTree) → renamed to t ≡ VoidType → t ≡ VoidType
  void_before t e = void_is t (sym (renamed_void to t) ∙ void_if (renamed to t) e)

  is_phi_under : (i : Instruction) (p : Placed) → is_phi (record p { instruction = renamed_instruction to i }) ≡ is_phi (record p { instruction = i })
  is_phi_under (Phi entries) p = refl
  is_phi_under (Applied r) p = refl

  is_last_under : (i : Instruction) (p : Placed) → is_last (record p { instruction = renamed_instruction to i }) ≡ is_last (record p { instruction = i })
  is_last_under (Phi entries) p = refl
  is_last_under (Applied r) p = refl

  phis_first : (ps : List Placed) → HasPhisFirst ps → HasPhisFirst (map (renamed_placed to) ps)
  phis_first ps h i j x y lt at there other =
      let s = get_from (renamed_placed to) ps i x at in
      let t = get_from (renamed_placed to) ps j y there in
      ap is_phi (sym t.2) ∙ is_phi_under t.0.instruction t.0 ∙ h i j s.0 t.0 lt s.1 t.1 (sym (is_phi_under s.0.instruction s.0) ∙ ap is_phi s.2 ∙ other)

  ends_under : (ps : List Placed) → ends_in_only is_last (map (renamed_placed to) ps) ≡ ends_in_only is_last ps
  ends_under ps = ends_mapped is_last (renamed_placed to) ps ∙ ap (λ (p : Placed → Bool). ends_in_only p ps) (fun_ext (λ p. is_last_under p.instruction p))

-- ---- the form

module _ (to : List ℕ → List ℕ) (apart : (a b : List ℕ) → to a ≡ to b → a ≡ b) where
  row_form : (f : Function) (t : TypeTree) (r : RowData) → IsFormRow f t r → IsFormRow (renamed_function to f) (renamed to t) (renamed_row to r)
  row_form f t r h =
      let types = renamed_operand_types to f r.operands in
      record {
        operands = mapped_all (IsOperandOf f) (IsOperandOf (renamed_function to f)) (renamed_operand to) (operand_of to f) r.operands h.operands;
        first_class = subst (All IsFirstClass) (sym types) (mapped_all IsFirstClass IsFirstClass (renamed to) (renamed_first_class to) (types_of f r.operands) h.first_class);
        count = length-map r.operands (renamed_operand to) ∙ h.count ∙ ap (operand_count (rule_of r.op).takes) (sym (void_under to f));
        fits = ap (fits_trees r.op (option_map (renamed to) r.written)) types ∙ fits_renamed to apart r.op r.written (types_of f r.operands) ∙ h.fits;
        returns = returning to (rule_of r.op).takes f r.operands h.returns;
        result = ap (renamed to) h.result ∙ sym (unwrapped to (typed r.op r.written (types_of f r.operands)))
            ∙ ap (λ (o : Option TypeTree). unwrap_or o VoidType) (sym (typed_renamed to apart r.op r.written (types_of f r.operands)) ∙ ap (typed r.op (option_map (renamed to) r.written)) (sym types));
        targets = All-weaker (IsTarget f) (IsTarget (renamed_function to f)) (target_under to f) r.targets h.targets;
        leads = h.leads;
      }

  instruction_form : (f : Function) (b : ℕ) (t : TypeTree) (i : Instruction) → IsFormInstruction f b t i → IsFormInstruction (renamed_function to f) b (renamed to t) (renamed_instruction to i)
  instruction_form f b t (Phi es) h =
      (mapped_all (λ (e : Operand × ℕ). IsOperand f t e.0) (λ (e : Operand × ℕ). IsOperand (renamed_function to f) (renamed to t) e.0) (renamed_phi_entry to) (λ e. operand_typed to f t e.0) es h.0, fits_edges to f b es h.1, renamed_first_class to t h.2)
  instruction_form f b t (Applied r) h = row_form f t r h

  placed_form : (f : Function) (b : ℕ) (p : Placed) → IsFormPlaced f b p → IsFormPlaced (renamed_function to f) b (renamed_placed to p)
  placed_form f b p h = record {
    instruction = instruction_form f b p.type p.instruction h.instruction;
    returned = renamed_returned to p.type h.returned;
    name = h.name;
    unnamed = λ e. h.unnamed (void_before to p.type e);
  }

  block_form : (f : Function) (b : Block) → IsFormBlock f b → IsFormBlock (renamed_function to f) (renamed_block to b)
  block_form f b h = record {
    label = h.label;
    instructions = mapped_all (IsFormPlaced f b.number) (IsFormPlaced (renamed_function to f) b.number) (renamed_placed to) (placed_form f b.number) b.instructions h.instructions;
    phis = phis_first to b.instructions h.phis;
    ends = ends_under to b.instructions ∙ h.ends;
  }

  -- a function of the form is one under names that are apart
  pub renamed_form : (f : Function) → IsFormFunction f → IsFormFunction (renamed_function to f)
  renamed_form f h = record {
    name = h.name;
    own = h.own;
    result = renamed to h.result;
    types = renamed_all to h.types;
    type = ap (renamed to) h.type;
    returns = renamed_returned to h.result h.returns;
    takes = subst (All IsFirstClass) (sym (renamed_list to h.types)) (mapped_all IsFirstClass IsFirstClass (renamed to) (renamed_first_class to) (types_list h.types) h.takes);
    shallow = renamed_shallow to f.type h.shallow;
    space = h.space;
    params = h.params ∙ sym (renamed_count to h.types);
    param_names = h.param_names;
    body = some_mapped (renamed_block to) f.blocks h.body;
    blocks = mapped_all (IsFormBlock f) (IsFormBlock (renamed_function to f)) (renamed_block to) (block_form f) f.blocks h.blocks;
    block_numbers = subst IsDistinctList (sym (map_twice (λ (b : Block). b.number) (renamed_block to) f.blocks)) h.block_numbers;
    numbers = subst IsDistinctList (sym (ap (map (λ (p : Placed). p.number)) (renamed_placed_in to f) ∙ map_twice (λ (p : Placed). p.number) (renamed_placed to) (placed_in f))) h.numbers;
  }
