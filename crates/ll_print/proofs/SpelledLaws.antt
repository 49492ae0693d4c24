-- What is printed of a module of the form spells it, and its last line has an end.
use Rattle.std.proofs.Common.{◌≡◌, ◌≢◌, true, codes, List, [], ◌∷◌, ◌++◌, Result, Ok, Err, append_assoc, refl, ap, sym, ◌∙◌, subst}
use Rattle.std.specs.Prelude.{OnOk}
use Rattle.std.specs.List.{flat_map}
use Rattle.std.specs.Str.{is_utf8}
use Rattle.std.proofs.lemmas.List.{append-nil}
use Rattle.llvm_core.specs.Data.{Function, Struct, ModuleData}
use Rattle.kinds.specs.Types.{result_of}
use Rattle.llvm_core.specs.Form.{IsForm, HasDistinctNames}
use Rattle.ll_literals.specs.Text.{Text}
use Rattle.ll_literals.specs.Names.{global, local, printed_name, printed_text}
use Rattle.ll_said.specs.Said.{file_of}
use Rattle.ll_said.proofs.FileLaws.{sayable_from}
use Rattle.ll_said.proofs.TwinLaws.{text_says}
use Rattle.ll_written.proofs.PrintLaws.{printed_is_read}
use Rattle.ll_text.specs.Spelling.{Spells}
use Rattle.ll_print.specs.Printing.{type_text, params_text, blocks_text, function_text, source_text, body_text, struct_text, structs_text, module_text, EndsLine}
use Rattle.ll_print.specs.Parts.{AreNumberable}

-- what is printed is read as what the data say, which means their twin
pub module_spelled : (d : ModuleData) → IsForm d → is_utf8 d.name ≡ true → HasDistinctNames d → AreNumberable d → Spells (module_text d) d
module_spelled d form name distinct few = let h = sayable_from d form distinct few name in (file_of d, printed_is_read d h, text_says d h)

-- ---- the end of the last line

more_ends : (front text : Text) → EndsLine text → EndsLine (front ++ text)
more_ends front text h = (front ++ h.0, ap (λ (t : Text). front ++ t) h.1 ∙ sym (append_assoc front h.0 (10 ∷ [])))

brace_ends : (front : Text) → EndsLine (front ++ codes "}\n")
brace_ends front = (front ++ codes "}", sym (append_assoc front (codes "}") (codes "\n")))

functions_end : (own : List Struct) (f : Function) (fs : List Function) → EndsLine (flat_map (function_text own) (f ∷ fs))
functions_end own f [] = subst EndsLine (sym (append-nil (function_text own f)))
    (brace_ends (codes "\ndefine " ++ type_text (result_of f.type) ++ codes " " ++ global (printed_name f.name) ++ codes "(" ++ params_text f 0 f.params ++ codes ") {\n" ++ blocks_text own f f.blocks))
functions_end own f (g ∷ fs) = more_ends (function_text own f) (flat_map (function_text own) (g ∷ fs)) (functions_end own g fs)

source_ends : (n : Text) → n ≢ [] → EndsLine (source_text n)
source_ends [] h = absurd (h refl)
source_ends (b ∷ bs) h = (codes "source_filename = " ++ printed_text (b ∷ bs), refl)

struct_ends : (s : Struct) → EndsLine (struct_text s)
struct_ends s = (local (printed_name s.name) ++ codes " = type " ++ body_text s.body, refl)

structs_end : (s : Struct) (ss : List Struct) → EndsLine (flat_map struct_text (s ∷ ss))
structs_end s [] = subst EndsLine (sym (append-nil (struct_text s))) (struct_ends s)
structs_end s (t ∷ ss) = more_ends (struct_text s) (flat_map struct_text (t ∷ ss)) (structs_end t ss)

front_ends : (n : Text) (ss : List Struct) → n ≢ [] → EndsLine (source_text n ++ structs_text ss)
front_ends n [] h = subst EndsLine (sym (append-nil (source_text n))) (source_ends n h)
front_ends n (s ∷ ss) h = more_ends (source_text n) (structs_text (s ∷ ss)) (more_ends (codes "\n") (flat_map struct_text (s ∷ ss)) (structs_end s ss))

module_ends : (n : Text) (ss : List Struct) (fs : List Function) → n ≢ [] → EndsLine (source_text n ++ structs_text ss ++ flat_map (function_text ss) fs)
module_ends n ss [] h = subst EndsLine (sym (append-nil (source_text n ++ structs_text ss))) (front_ends n ss h)
module_ends n ss (f ∷ fs) h = more_ends (source_text n ++ structs_text ss) (flat_map (function_text ss) (f ∷ fs)) (functions_end ss f fs)

-- the last line of a module with a name has an end
pub module_lines : (d : ModuleData) → d.name ≢ [] → EndsLine (module_text d)
module_lines d h = module_ends d.name d.structs d.functions h

-- what holds anyway holds where a result is Ok
pub on_ok_of : {T E P : Type 0} (r : Result T E) → P → OnOk r P
on_ok_of (Ok x) p = p
on_ok_of (Err e) p = tt
