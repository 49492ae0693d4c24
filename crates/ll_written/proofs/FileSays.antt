-- What the tokens of functions, structs and files say.
use Rattle.std.proofs.Common.{◌≡◌, List, [], ◌∷◌, ◌++◌, Option, Some, None, codes, append_assoc, refl, sym, ap, subst, ◌∙◌}
use Rattle.std.specs.Prelude.{IfSome}
use Rattle.std.specs.List.{flat_map, AllByRecursion}
use Rattle.grammars.specs.declared.symbols.Symbol.TheVariants.{Rule}
use Rattle.kinds.specs.Types.{TypeTree}
use Rattle.kinds.specs.Structs.{StructBody}
use Rattle.ll_lines.specs.Lines.{Text, Param, Function, StructLine, File}
use Rattle.ll_rules.specs.Llvm.{llvm}
use Rattle.ll_spacing.specs.Spacing.{Spaced}
use Rattle.ll_tokens.specs.declared.kinds.Kind.TheVariants as T
use Rattle.ll_values.specs.declared.form.TheConstants.{KINDS}
use Rattle.ll_values.specs.Values.{ParamV, ParamsV, FunctionV, FieldsV, StructV, FileV}
use Rattle.ll_written.specs.Saying.{Says}
use Rattle.ll_written.specs.Classed.{all_classed}
use Rattle.ll_written.specs.Rules as N
use Rattle.ll_written.specs.Written.{token, apart, close, written_param, next_param, written_params, written_type, written_body, written_function, next_function, written_struct_body, written_struct, next_struct, written_structs, written_file, written}
use Rattle.ll_written.specs.Writable.{IsSayableType, IsParam, IsFunction, IsBody, IsStruct, IsWritable}
use Rattle.ll_written.proofs.TellLaws.{last}
use Rattle.ll_written.proofs.Productions as P
use Rattle.ll_written.proofs.Productions.{Reads}
use Rattle.ll_written.proofs.TypeTokens.{result_says, type_says, fields_body_says}
use Rattle.ll_written.proofs.BodySays.{body_says}

-- ---- parameters

param_by : (b : Text) (τ : TypeTree) (name : Option Text) → IsSayableType τ → Reads N.param (ParamV (record { type = τ; name = name })) (written_param b (record { type = τ; name = name }))
param_by b τ None type = P.param (type_says b τ type) (P.lost_attrs_none) (P.name_none) refl
param_by b τ (Some t) type = P.param (type_says b τ type) (P.lost_attrs_none) (P.name_local (codes " ") t) refl

param_says : (b : Text) (p : Param) → IsParam p → Reads N.param (ParamV p) (written_param b p)
param_says b p h = param_by b p.type p.name h.type

more_say : (ps : List Param) → AllByRecursion IsParam ps → Reads N.more_params (ParamsV ps) (flat_map next_param ps)
more_say [] all = P.more_params_end refl
more_say (p ∷ ps) all = P.more_params_param_or_dots [] (P.param_or_dots_more (param_says (codes " ") p all.0) (more_say ps all.1) refl)

params_say : (ps : List Param) → AllByRecursion IsParam ps → Reads N.params (ParamsV ps) (written_params ps)
params_say [] all = P.params_end refl
params_say (p ∷ ps) all = P.params_more (param_says [] p all.0) (more_say ps all.1) refl

-- ---- functions

pub function_says : (b : Text) (f : Function) → IsFunction f → Reads N.item (FunctionV f) (written_function b f)
function_says b f h =
    let params = P.parameters [] [] (params_say f.params h.params) (P.unnamed_none) (P.space_none) refl in
    let head = P.head (codes " ") f.name (P.dso_none) (P.lost_attrs_none) (result_says (codes " ") f.result h.result) params refl in
    let whole = P.item_define b (codes " ") (codes "\n") (P.define_linkage_none) head (P.function_attrs_none) (P.attachments_none) (body_says f.body h.body h.some) refl in
    let type = written_type (codes " ") f.result in
    let name = apart T.Global f.name ∷ close T.OpenParen (codes "(") ∷ [] in
    let end = close T.CloseParen (codes ")") ∷ [] in
    let rest = apart T.OpenBrace (codes "{") ∷ (written_body f.body ++ (token (codes "\n") T.CloseBrace (codes "}") ∷ [])) in
    let flat : type ++ (name ++ (written_params f.params ++ end)) ++ rest ≡ type ++ (name ++ (written_params f.params ++ (end ++ rest))) =
    append_assoc type (name ++ (written_params f.params ++ end)) rest ∙ ap (λ (xs : List Spaced). type ++ (name ++ xs)) (append_assoc (written_params f.params) end rest) in
    subst (λ (xs : List Spaced). Reads N.item (FunctionV f) (token b T.Word (codes "define") ∷ xs)) flat whole

functions_say : (fs : List Function) → AllByRecursion IsFunction fs → Reads N.file (FileV (record { source = None; structs = []; functions = fs })) (flat_map next_function fs)
functions_say [] all = P.file_end refl
functions_say (f ∷ fs) all = P.file_more (function_says (codes "\n\n") f all.0) (functions_say fs all.1) refl

-- ---- structs

struct_body_says : (b : Option StructBody) → IfSome b IsBody → Reads N.type_body (FieldsV b) (written_struct_body b)
struct_body_says None h = P.type_body_opaque (codes " ") refl
struct_body_says (Some b) h = fields_body_says (codes " ") b h

struct_says : (b : Text) (s : StructLine) → IsStruct s → Reads N.item (StructV s) (written_struct b s)
struct_says b s h = P.item_structure b s.name (codes " ") (codes " ") (struct_body_says s.body h.body) refl

-- ---- files

-- structs and the functions behind them
abbrev file_with : List StructLine → List Function → File
file_with ss fs = record { source = None; structs = ss; functions = fs }

-- one more before others
struct_then : (b : Text) (s : StructLine) (ss : List StructLine) (fs : List Function) → IsStruct s → Reads N.file (FileV (file_with ss fs)) (flat_map next_struct ss ++ flat_map next_function fs)
    → Reads N.file (FileV (file_with (s ∷ ss) fs)) ((written_struct b s ++ flat_map next_struct ss) ++ flat_map next_function fs)
struct_then b s ss fs h others =
    subst (λ (xs : List Spaced). Reads N.file (FileV (file_with (s ∷ ss) fs)) xs) (sym (append_assoc (written_struct b s) (flat_map next_struct ss) (flat_map next_function fs))) (P.file_more (struct_says b s h) others refl)

structs_say : (ss : List StructLine) (fs : List Function) → AllByRecursion IsStruct ss → AllByRecursion IsFunction fs → Reads N.file (FileV (file_with ss fs)) (flat_map next_struct ss ++ flat_map next_function fs)
structs_say [] fs all others = functions_say fs others
structs_say (s ∷ ss) fs all others = struct_then (codes "\n") s ss fs all.0 (structs_say ss fs all.1 others)

items_say : (b : Text) (ss : List StructLine) (fs : List Function) → AllByRecursion IsStruct ss → AllByRecursion IsFunction fs → Reads N.file (FileV (file_with ss fs)) (written_structs b ss ++ flat_map next_function fs)
items_say b [] fs all others = functions_say fs others
items_say b (s ∷ ss) fs all others = struct_then b s ss fs all.0 (structs_say ss fs all.1 others)

file_by : (source : Option Text) (ss : List StructLine) (fs : List Function) → AllByRecursion IsStruct ss → AllByRecursion IsFunction fs
    → Reads N.file (FileV (record { source = source; structs = ss; functions = fs })) (written_file source ss fs)
file_by (Some t) ss fs all others = P.file_more (P.item_source [] (codes " ") (codes " ") t refl) (items_say (codes "\n\n") ss fs all others) refl
file_by None [] [] all others = P.file_end refl
file_by None [] (f ∷ fs) all others = P.file_more (function_says (codes "\n") f others.0) (functions_say fs others.1) refl
file_by None (s ∷ ss) fs all others = items_say (codes "\n") (s ∷ ss) fs all others

-- the tokens of a file say it
pub file_says : (f : File) → IsWritable f → Says llvm KINDS (Rule N.file ∷ []) (FileV f ∷ []) (all_classed (written f))
file_says f h = (last llvm KINDS (file_by f.source f.structs f.functions h.structs h.functions)).says
