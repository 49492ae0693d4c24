-- The text of the tokens of what module data say is the printed text.
use Rattle.std.proofs.Common.{◌≡◌, ◌≢◌, ℕ, suc, true, List, [], ◌∷◌, ◌++◌, map, Option, Some, None, codes, append_assoc, refl, sym, ap, ◌∙◌}
use Rattle.std.specs.List.{flat_map, AllByRecursion}
use Rattle.std.proofs.lemmas.List.{append-nil}
use Rattle.std.proofs.lemmas.List.Elements.{recursion_from_All}
use Rattle.kinds.specs.Types.{TypeTree, StructType, result_of}
use Rattle.kinds.specs.Structs.{StructBody, Struct}
use Rattle.llvm_core.specs.Data.{Placed, Block, Function, ModuleData, param_type}
use Rattle.llvm_core.specs.Checked.{ends_in_only}
use Rattle.llvm_core.specs.Form.{is_last, IsFormPlaced, IsFormBlock, IsFormFunction}
use Rattle.ll_lines.specs.Lines as L
use Rattle.ll_lines.specs.Lines.{Text, Part}
use Rattle.ll_said.specs.Naming.{ParamAt, local_text}
use Rattle.ll_said.specs.Said.{line_of, lines_of, label_of, entry_label, block_parts, parts_of, params_of, function_of, struct_of, source_of, file_of}
use Rattle.ll_said.specs.Sayable.{IsSayable, IsSayableModule}
use Rattle.ll_spacing.specs.Spacing.{Spaced, text_of}
use Rattle.ll_tokens.specs.declared.kinds.Kind.TheVariants as T
use Rattle.ll_literals.specs.Names.{global, local, printed_name, printed_text}
use Rattle.ll_written.specs.Printing as P
use Rattle.ll_written.specs.Written.{token, close, apart, written_type, next_part, written_body, written_param, next_param, written_params, written_function, next_function, written_struct_body, written_struct, next_struct, written_structs, written_source, written_file, written, end_of}
use Rattle.ll_written.proofs.RowTexts.{joined}
use Rattle.ll_written.proofs.ConstTokens.{type_then}
use Rattle.ll_written.proofs.TypeTokens.{text_both, type_written}
use Rattle.ll_written.proofs.LineTexts.{line_text}

-- ---- what ends its lines in place of beginning them

abbrev Turns : List Spaced → Text → Type 0
Turns xs t = text_of xs ++ codes "\n" ≡ codes "\n" ++ t

ends_both : (xs ys : List Spaced) (t u : Text) → text_of xs ++ codes "\n" ≡ t → Turns ys u → text_of (xs ++ ys) ++ codes "\n" ≡ t ++ u
ends_both xs ys t u e f =
    ap (λ (s : Text). s ++ codes "\n") (text_both xs ys) ∙ append_assoc (text_of xs) (text_of ys) (codes "\n") ∙ ap (λ (s : Text). text_of xs ++ s) f
    ∙ sym (append_assoc (text_of xs) (codes "\n") u) ∙ ap (λ (s : Text). s ++ u) e

turns_both : (xs ys : List Spaced) (t u : Text) → Turns xs t → Turns ys u → Turns (xs ++ ys) (t ++ u)
turns_both xs ys t u e f = ends_both xs ys (codes "\n" ++ t) u e f ∙ append_assoc (codes "\n") t u

turns_each : {A B : Type 0} (Q : B → Type 0) (f : A → List Spaced) (of : B → A) (g : B → Text) → ((x : B) → Q x → Turns (f (of x)) (g x)) → (xs : List B) → AllByRecursion Q xs → Turns (flat_map f (map of xs)) (flat_map g xs)
turns_each Q f of g turns [] all = refl
turns_each Q f of g turns (x ∷ xs) all = turns_both (f (of x)) (flat_map f (map of xs)) (g x) (flat_map g xs) (turns x all.0) (turns_each Q f of g turns xs all.1)

each_weaker : {A : Type 0} (Q R : A → Type 0) → ((x : A) → Q x → R x) → (xs : List A) → AllByRecursion Q xs → AllByRecursion R xs
each_weaker Q R h [] all = tt
each_weaker Q R h (x ∷ xs) all = (h x all.0, each_weaker Q R h xs all.1)

flat_both : {A B : Type 0} (f : A → List B) (xs ys : List A) → flat_map f (xs ++ ys) ≡ flat_map f xs ++ flat_map f ys
flat_both f [] ys = refl
flat_both {B = B} f (x ∷ xs) ys = ap (λ (zs : List B). f x ++ zs) (flat_both f xs ys) ∙ sym (append_assoc (f x) (flat_map f xs) (flat_map f ys))

module _ (structs : List Struct) (f : Function) where
  -- ---- blocks

  abbrev Lined : ℕ → Placed → Type 0
  Lined n p = IsFormPlaced f n p

  lines_turn : (n : ℕ) (ps : List Placed) → AllByRecursion (Lined n) ps → Turns (flat_map next_part (map (λ (p : Placed). L.Does (line_of structs f p)) ps)) (flat_map (P.placed_text structs f) ps)
  lines_turn n ps all = turns_each (Lined n) next_part (λ (p : Placed). L.Does (line_of structs f p)) (P.placed_text structs f) (λ p h. line_text structs f n p h.instruction) ps all

  label_turns : (b : Block) → Turns (token (codes "\n") T.Label (label_of f b) ∷ []) (P.label_text f b)
  label_turns b = simp (append_assoc, append-nil)

  next_label_turns : (b : Block) → Turns (next_part (L.Label (label_of f b))) (codes "\n" ++ P.label_text f b)
  next_label_turns b = simp (append_assoc, append-nil)

  -- a block with its lines in the form
  pub record IsLined (b : Block) : Type 0 where
    pub lines : AllByRecursion (Lined b.number) b.instructions
    pub some : b.instructions ≢ []

  block_turns : (b : Block) → IsLined b → Turns (flat_map next_part (block_parts structs f b)) (P.block_text structs f b)
  block_turns b h = turns_both (next_part (L.Label (label_of f b))) (flat_map next_part (lines_of structs f b)) (codes "\n" ++ P.label_text f b) (flat_map (P.placed_text structs f) b.instructions) (next_label_turns b) (lines_turn b.number b.instructions h.lines)

  blocks_turn : (bs : List Block) → AllByRecursion IsLined bs → Turns (flat_map next_part (flat_map (block_parts structs f) bs)) (flat_map (P.block_text structs f) bs)
  blocks_turn [] all = refl
  blocks_turn (b ∷ bs) all =
      ap (λ (xs : List Spaced). text_of xs ++ codes "\n") (flat_both next_part (block_parts structs f b) (flat_map (block_parts structs f) bs))
      ∙ turns_both (flat_map next_part (block_parts structs f b)) (flat_map next_part (flat_map (block_parts structs f) bs)) (P.block_text structs f b) (flat_map (P.block_text structs f) bs) (block_turns b all.0) (blocks_turn bs all.1)

  -- lines and the blocks behind them
  rest_turns : (b : Block) (bs : List Block) → IsLined b → AllByRecursion IsLined bs
      → Turns (flat_map next_part (lines_of structs f b ++ flat_map (block_parts structs f) bs)) (flat_map (P.placed_text structs f) b.instructions ++ flat_map (P.block_text structs f) bs)
  rest_turns b bs h all =
      ap (λ (xs : List Spaced). text_of xs ++ codes "\n") (flat_both next_part (lines_of structs f b) (flat_map (block_parts structs f) bs))
      ∙ turns_both (flat_map next_part (lines_of structs f b)) (flat_map next_part (flat_map (block_parts structs f) bs)) (flat_map (P.placed_text structs f) b.instructions) (flat_map (P.block_text structs f) bs) (lines_turn b.number b.instructions h.lines) (blocks_turn bs all)

  -- where a line stands first, it stands as it does behind others
  begins_with_line : (ps : List Placed) (qs : List Part) → ps ≢ [] → written_body (map (λ (p : Placed). L.Does (line_of structs f p)) ps ++ qs) ≡ flat_map next_part (map (λ (p : Placed). L.Does (line_of structs f p)) ps ++ qs)
  begins_with_line [] qs some = absurd (some refl)
  begins_with_line (p ∷ ps) qs some = refl

  entry_turns : (b : Block) (bs : List Block) (name : Text) → IsLined b → AllByRecursion IsLined bs
      → Turns (written_body (entry_label f b name ++ (lines_of structs f b ++ flat_map (block_parts structs f) bs))) (P.entry_label_text f b name ++ flat_map (P.placed_text structs f) b.instructions ++ flat_map (P.block_text structs f) bs)
  entry_turns b bs [] h all =
      ap (λ (xs : List Spaced). text_of xs ++ codes "\n") (begins_with_line b.instructions (flat_map (block_parts structs f) bs) h.some) ∙ rest_turns b bs h all
  entry_turns b bs (c ∷ cs) h all =
      turns_both (token (codes "\n") T.Label (label_of f b) ∷ []) (flat_map next_part (lines_of structs f b ++ flat_map (block_parts structs f) bs)) (P.label_text f b) (flat_map (P.placed_text structs f) b.instructions ++ flat_map (P.block_text structs f) bs) (label_turns b) (rest_turns b bs h all)
      ∙ simp append_assoc

  body_turns : (bs : List Block) → AllByRecursion IsLined bs → Turns (written_body (parts_of structs f bs)) (P.blocks_text structs f bs)
  body_turns [] all = refl
  body_turns (b ∷ bs) all = entry_turns b bs b.name all.0 all.1

  -- ---- functions

  param_text : (b t : Text) (τ : TypeTree) (xs : List Spaced) → text_of (written_param b (record { type = τ; name = Some t }) ++ xs) ≡ b ++ P.type_text τ ++ (codes " " ++ t ++ text_of xs)
  param_text b t τ xs = ap text_of (append_assoc (written_type b τ) (apart T.Local t ∷ []) xs) ∙ type_then b τ (apart T.Local t ∷ xs)

  next_params_text : (i : ℕ) (ns : List Text) → text_of (flat_map next_param (params_of f (suc i) ns)) ≡ P.params_text f (suc i) ns
  next_params_text i [] = refl
  next_params_text i (n ∷ ns) =
      ap (λ (t : Text). codes "," ++ t) (param_text (codes " ") (local_text f n (ParamAt (suc i))) (param_type f.type (suc i)) (flat_map next_param (params_of f (suc (suc i)) ns)))
      ∙ ap (λ (t : Text). codes ", " ++ P.type_text (param_type f.type (suc i)) ++ (codes " " ++ local_text f n (ParamAt (suc i)) ++ t)) (next_params_text (suc i) ns) ∙ simp append_assoc

  params_text : (ns : List Text) → text_of (written_params (params_of f 0 ns)) ≡ P.params_text f 0 ns
  params_text [] = refl
  params_text (n ∷ ns) =
      param_text [] (local_text f n (ParamAt 0)) (param_type f.type 0) (flat_map next_param (params_of f 1 ns))
      ∙ ap (λ (t : Text). P.type_text (param_type f.type 0) ++ (codes " " ++ local_text f n (ParamAt 0) ++ t)) (next_params_text 0 ns) ∙ simp append_assoc

  -- a function, behind the line end before it
  abbrev define_text : Text
  define_text = codes "define " ++ P.type_text (result_of f.type) ++ codes " " ++ global (printed_name f.name) ++ codes "(" ++ P.params_text f 0 f.params ++ codes ") {\n" ++ P.blocks_text structs f f.blocks ++ codes "}\n"

  body_text : (xs : List Spaced) (t : Text) → Turns xs t → text_of (xs ++ (token (codes "\n") T.CloseBrace (codes "}") ∷ [])) ++ codes "\n" ≡ codes "\n" ++ (t ++ codes "}\n")
  body_text xs t e = turns_both xs (token (codes "\n") T.CloseBrace (codes "}") ∷ []) t (codes "}\n") e refl

  function_at : (b : Text) → AllByRecursion IsLined f.blocks → text_of (written_function b (function_of structs f)) ++ codes "\n" ≡ b ++ define_text
  function_at b all =
      let body = written_body (parts_of structs f f.blocks) ++ (token (codes "\n") T.CloseBrace (codes "}") ∷ []) in
      let inner = close T.CloseParen (codes ")") ∷ apart T.OpenBrace (codes "{") ∷ body in
      let one : text_of (written_params (params_of f 0 f.params) ++ inner) ≡ P.params_text f 0 f.params ++ (codes ") {" ++ text_of body) = joined (written_params (params_of f 0 f.params)) inner (P.params_text f 0 f.params) (codes ") {" ++ text_of body) (params_text f.params) refl in
      let two : text_of body ++ codes "\n" ≡ codes "\n" ++ (P.blocks_text structs f f.blocks ++ codes "}\n") = body_text (written_body (parts_of structs f f.blocks)) (P.blocks_text structs f f.blocks) (body_turns f.blocks all) in
      let front = b ++ codes "define" ++ (codes " " ++ P.type_text (result_of f.type)) ++ (codes " " ++ global (printed_name f.name)) ++ codes "(" in
      let start : text_of (written_function b (function_of structs f)) ≡ front ++ text_of (written_params (params_of f 0 f.params) ++ inner) =
      ap (λ (t : Text). b ++ codes "define" ++ t) (type_then (codes " ") (result_of f.type) (apart T.Global (global (printed_name f.name)) ∷ close T.OpenParen (codes "(") ∷ (written_params (params_of f 0 f.params) ++ inner))) ∙ simp append_assoc in
      ap (λ (t : Text). t ++ codes "\n") start ∙ ap (λ (t : Text). front ++ t ++ codes "\n") one ∙ regroup front (P.params_text f 0 f.params) (text_of body) ∙ ap (λ (t : Text). front ++ (P.params_text f 0 f.params ++ (codes ") {" ++ t))) two ∙ simp append_assoc
    where
      regroup : (x y z : Text) → x ++ (y ++ (codes ") {" ++ z)) ++ codes "\n" ≡ x ++ (y ++ (codes ") {" ++ (z ++ codes "\n")))
      regroup x y z = simp append_assoc

  -- ---- what the form asks is enough

  lined : (b : Block) → IsFormBlock f b → IsLined b
  lined b h = record { lines = recursion_from_All (IsFormPlaced f b.number) b.instructions h.instructions; some = λ e. let k : ends_in_only is_last b.instructions ≡ true = h.ends in let n : ends_in_only is_last [] ≡ true = rw e at k in cc }

  all_lined : IsFormFunction f → AllByRecursion IsLined f.blocks
  all_lined h = each_weaker (IsFormBlock f) IsLined lined f.blocks (recursion_from_All (IsFormBlock f) f.blocks h.blocks)

function_turns : (structs : List Struct) (f : Function) → IsSayable f → Turns (next_function (function_of structs f)) (P.function_text structs f)
function_turns structs f h = function_at structs f (codes "\n\n") (all_lined structs f h.form)

functions_turn : (structs : List Struct) (fs : List Function) → AllByRecursion IsSayable fs → Turns (flat_map next_function (map (function_of structs) fs)) (flat_map (P.function_text structs) fs)
functions_turn structs fs all = turns_each IsSayable next_function (function_of structs) (P.function_text structs) (function_turns structs) fs all

-- ---- structs

struct_body_text : (b : Option StructBody) → text_of (written_struct_body b) ≡ codes " " ++ P.body_text b
struct_body_text None = refl
struct_body_text (Some b) = type_written (codes " ") (StructType b.layout b.fields)

-- a struct, behind the line end before it
struct_at : (b : Text) (s : Struct) → text_of (written_struct b (struct_of s)) ++ codes "\n" ≡ b ++ P.struct_text s
struct_at b s = ap (λ (t : Text). b ++ local (printed_name s.name) ++ (codes " = type" ++ t) ++ codes "\n") (struct_body_text s.body) ∙ simp append_assoc

next_structs_turn : (ss : List Struct) → Turns (flat_map next_struct (map struct_of ss)) (flat_map P.struct_text ss)
next_structs_turn [] = refl
next_structs_turn (s ∷ ss) = turns_both (next_struct (struct_of s)) (flat_map next_struct (map struct_of ss)) (P.struct_text s) (flat_map P.struct_text ss) (struct_at (codes "\n") s) (next_structs_turn ss)

-- behind the name of the module they stand after a blank line
structs_turn : (ss : List Struct) → Turns (written_structs (codes "\n\n") (map struct_of ss)) (P.structs_text ss)
structs_turn [] = refl
structs_turn (s ∷ ss) = turns_both (written_struct (codes "\n\n") (struct_of s)) (flat_map next_struct (map struct_of ss)) (codes "\n" ++ P.struct_text s) (flat_map P.struct_text ss) (struct_at (codes "\n\n") s) (next_structs_turn ss)

-- ---- files

source_then : (t : Text) (rest : List Spaced) → text_of (written_source t ++ rest) ++ codes "\n" ≡ codes "source_filename = " ++ (t ++ (text_of rest ++ codes "\n"))
source_then t rest = simp append_assoc

source_before : (t a b : Text) → codes "source_filename = " ++ (t ++ (codes "\n" ++ (a ++ b))) ≡ (codes "source_filename = " ++ t ++ codes "\n") ++ a ++ b
source_before t a b = simp append_assoc

module _ (structs : List Struct) where
  file_by : (name : Text) (ss : List Struct) (fs : List Function) → AllByRecursion IsSayable fs
      → text_of (written_file (source_of name) (map struct_of ss) (map (function_of structs) fs)) ++ end_of (written_file (source_of name) (map struct_of ss) (map (function_of structs) fs)) ≡ P.source_text name ++ P.structs_text ss ++ flat_map (P.function_text structs) fs
  file_by [] [] [] all = refl
  file_by [] [] (f ∷ fs) all =
      ends_both (written_function (codes "\n") (function_of structs f)) (flat_map next_function (map (function_of structs) fs)) (P.function_text structs f) (flat_map (P.function_text structs) fs) (function_at structs f (codes "\n") (all_lined structs f all.0.form)) (functions_turn structs fs all.1)
  file_by [] (s ∷ ss) fs all =
      let first = ends_both (written_struct (codes "\n") (struct_of s)) (flat_map next_struct (map struct_of ss)) (codes "\n" ++ P.struct_text s) (flat_map P.struct_text ss) (struct_at (codes "\n") s) (next_structs_turn ss) in
      ends_both (written_structs (codes "\n") (map struct_of (s ∷ ss))) (flat_map next_function (map (function_of structs) fs)) (P.structs_text (s ∷ ss)) (flat_map (P.function_text structs) fs) first (functions_turn structs fs all)
  file_by (b ∷ bs) ss fs all =
      let front = written_structs (codes "\n\n") (map struct_of ss) in
      let functions = flat_map next_function (map (function_of structs) fs) in
      let t = printed_text (b ∷ bs) in
      let rest = turns_both front functions (P.structs_text ss) (flat_map (P.function_text structs) fs) (structs_turn ss) (functions_turn structs fs all) in
      source_then t (front ++ functions) ∙ ap (λ (u : Text). codes "source_filename = " ++ (t ++ u)) rest ∙ source_before t (P.structs_text ss) (flat_map (P.function_text structs) fs)

-- the printed text is that of the tokens, and the end of the last line
pub file_text : (d : ModuleData) → IsSayableModule d → text_of (written (file_of d)) ++ end_of (written (file_of d)) ≡ P.module_text d
file_text d h = file_by d.structs d.name d.structs d.functions (recursion_from_All IsSayable d.functions h.functions)
