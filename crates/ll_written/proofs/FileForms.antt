-- What module data say is writable, where they are of the form.
use Rattle.std.proofs.Common.{◌≡◌, ◌≤◌, ◌<◌, ℕ, zero, suc, ◌+◌, true, List, [], ◌∷◌, ◌++◌, length, map, refl, sym, subst, arith}
use Rattle.std.specs.Prelude.{IfSome}
use Rattle.std.specs.List.{flat_map, AllByRecursion}
use Rattle.std.specs.Str.{is_utf8}
use Rattle.std.proofs.lemmas.List.Elements.{recursion_from_All}
use Rattle.kinds.specs.Types.{TypeTree, TypeTrees, NoTypes, ThenType, types_list, count_types, result_of}
use Rattle.kinds.specs.Held.{IsFirstClass, IsReturned}
use Rattle.kinds.specs.Structs.{Struct, IsFormStruct}
use Rattle.llvm_core.specs.Checked.{ends_in_only}
use Rattle.llvm_core.specs.Data.{Placed, Block, Function, ModuleData, nth_type, param_type}
use Rattle.llvm_core.specs.Form.{is_last, IsFormPlaced, IsFormBlock}
use Rattle.kinds.specs.Names.{IsGoodOrNone}
use Rattle.ll_lines.specs.Lines as L
use Rattle.ll_lines.specs.Lines.{Text, Part}
use Rattle.ll_said.specs.Naming.{ParamAt}
use Rattle.ll_said.specs.Said.{line_of, lines_of, entry_label, block_parts, parts_of, params_of, function_of, source_of, file_of}
use Rattle.ll_said.specs.Sayable.{IsSayable, IsSayableModule}
use Rattle.ll_spacing.specs.Forms.{IsText}
use Rattle.ll_tokens.specs.declared.kinds.Kind.TheVariants as K
use Rattle.ll_literals.specs.Names.{printed_text}
use Rattle.ll_written.specs.Writable.{IsSayableType, IsPart, IsParam, IsFunction, IsWritable}
use Rattle.ll_written.proofs.NameForms.{string_form, global_form, local_form, label_form}
use Rattle.ll_written.proofs.NamedForms.{IsGoodIn, AreGoodIn, all_front, all_back, result_good, param_good, forms, good_functions, structs_form}
use Rattle.ll_written.proofs.LineForms.{line_form}

-- ---- parameters

nth_first_class : (ts : TypeTrees) (i : ℕ) → AllByRecursion IsFirstClass (types_list ts) → i < count_types ts → IsFirstClass (nth_type ts i)
nth_first_class NoTypes i all within = absurd (omega arith)
nth_first_class (ThenType t ts) zero all within = all.0
nth_first_class (ThenType t ts) (suc i) all within = nth_first_class ts i all.1 (omega (arith, within))

all_then : {A : Type 0} (Q : A → Type 0) (xs ys : List A) → AllByRecursion Q xs → AllByRecursion Q ys → AllByRecursion Q (xs ++ ys)
all_then Q [] ys h k = k
all_then Q (x ∷ xs) ys h k = (h.0, all_then Q xs ys h.1 k)

module _ (structs : List Struct) (formed : AllByRecursion IsFormStruct structs) (f : Function) (sayable : IsSayable f) (good : AreGoodIn structs f) where
  type_form : (i : ℕ) → i < length f.params → IsSayableType (param_type f.type i)
  type_form i within =
      let form = sayable.form in
      let first_class = nth_first_class form.types i (recursion_from_All IsFirstClass (types_list form.types) form.takes) (omega (arith, within, form.params)) in
      record { type = subst (λ (τ : TypeTree). IsFirstClass (param_type τ i)) (sym form.type) first_class; names = param_good f.type i good.signature }

  params_form : (i : ℕ) (ns : List Text) → i + length ns ≤ length f.params → AllByRecursion IsGoodOrNone ns → AllByRecursion IsParam (params_of f i ns)
  params_form i [] within all = tt
  params_form i (n ∷ ns) within all = (record { type = type_form i (omega (arith, within)); name = local_form f sayable n (ParamAt i) all.0 }, params_form (suc i) ns (omega (arith, within)) all.1)

  -- ---- bodies

  lines_form : (n : ℕ) (ps : List Placed) → AllByRecursion (IsFormPlaced f n) ps → AllByRecursion (IsGoodIn structs) ps → AllByRecursion IsPart (map (λ (p : Placed). L.Does (line_of structs f p)) ps)
  lines_form n [] all named = tt
  lines_form n (p ∷ ps) all named = (line_form structs formed f sayable good n p all.0 named.0, lines_form n ps all.1 named.1)

  block_lines : (b : Block) → IsFormBlock f b → AllByRecursion (IsGoodIn structs) b.instructions → AllByRecursion IsPart (lines_of structs f b)
  block_lines b h named = lines_form b.number b.instructions (recursion_from_All (IsFormPlaced f b.number) b.instructions h.instructions) named

  -- the instructions of blocks
  abbrev inner : List Block → List Placed
  inner bs = flat_map (λ (b : Block). b.instructions) bs

  blocks_form : (bs : List Block) → AllByRecursion (IsFormBlock f) bs → AllByRecursion (IsGoodIn structs) (inner bs) → AllByRecursion IsPart (flat_map (block_parts structs f) bs)
  blocks_form [] all named = tt
  blocks_form (b ∷ bs) all named =
      let lines = block_lines b all.0 (all_front (IsGoodIn structs) b.instructions (inner bs) named) in
      (label_form f sayable b, all_then IsPart (lines_of structs f b) (flat_map (block_parts structs f) bs) lines (blocks_form bs all.1 (all_back (IsGoodIn structs) b.instructions (inner bs) named)))

  entry_form : (b : Block) (name : Text) → AllByRecursion IsPart (entry_label f b name)
  entry_form b [] = tt
  entry_form b (c ∷ cs) = (label_form f sayable b, tt)

  body_form : (bs : List Block) → AllByRecursion (IsFormBlock f) bs → AllByRecursion (IsGoodIn structs) (inner bs) → AllByRecursion IsPart (parts_of structs f bs)
  body_form [] all named = tt
  body_form (b ∷ bs) all named =
      let lines = block_lines b all.0 (all_front (IsGoodIn structs) b.instructions (inner bs) named) in
      let blocks = blocks_form bs all.1 (all_back (IsGoodIn structs) b.instructions (inner bs) named) in
      all_then IsPart (entry_label f b b.name) (lines_of structs f b ++ flat_map (block_parts structs f) bs) (entry_form b b.name) (all_then IsPart (lines_of structs f b) (flat_map (block_parts structs f) bs) lines blocks)

  some_by : (b : Block) (name : Text) (ps : List Placed) (rest : List Part) → ends_in_only is_last ps ≡ true → ¬ (entry_label f b name ++ (map (λ (p : Placed). L.Does (line_of structs f p)) ps ++ rest) ≡ [])
  some_by b (c ∷ cs) ps rest ends = λ e. absurd cc
  some_by b [] (p ∷ ps) rest ends = λ e. absurd cc
  some_by b [] [] rest ends = λ e. absurd cc

  some_form : (bs : List Block) → AllByRecursion (IsFormBlock f) bs → ¬ (bs ≡ []) → ¬ (parts_of structs f bs ≡ [])
  some_form [] all some = absurd (some refl)
  some_form (b ∷ bs) all some = some_by b b.name b.instructions (flat_map (block_parts structs f) bs) all.0.ends

  function_form : IsFunction (function_of structs f)
  function_form =
      let form = sayable.form in
      let blocks = recursion_from_All (IsFormBlock f) f.blocks form.blocks in
      record {
        result = record { type = subst (λ (τ : TypeTree). IsReturned (result_of τ)) (sym form.type) form.returns; names = result_good f.type good.signature };
        name = global_form f.name form.name;
        params = params_form 0 f.params (omega arith) (recursion_from_All IsGoodOrNone f.params form.param_names);
        body = body_form f.blocks blocks good.placed;
        some = some_form f.blocks blocks form.body;
      }

functions_form : (structs : List Struct) → AllByRecursion IsFormStruct structs → (fs : List Function) → AllByRecursion IsSayable fs → AllByRecursion (AreGoodIn structs) fs → AllByRecursion IsFunction (map (function_of structs) fs)
functions_form structs formed [] all good = tt
functions_form structs formed (f ∷ fs) all good = (function_form structs formed f all.0 good.0, functions_form structs formed fs all.1 good.1)

-- ---- files

source_form : (name : Text) → is_utf8 name ≡ true → IfSome (source_of name) (IsText K.Str)
source_form [] h = tt
source_form (b ∷ bs) h = IsText.string (printed_text (b ∷ bs)) (string_form (b ∷ bs) h)

-- what module data say may be written
pub file_form : (d : ModuleData) → IsSayableModule d → IsWritable (file_of d)
file_form d h = record {
  source = source_form d.name h.name;
  structs = structs_form d h;
  functions = functions_form d.structs (forms d h) d.functions (recursion_from_All IsSayable d.functions h.functions) (good_functions d h);
}
