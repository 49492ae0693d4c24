-- What the alternatives of the form say, by what their parts say. `grammar/form.py write` makes this of the grammar.
use Rattle.std.proofs.Common.{◌≡◌, ℕ, true, false, List, [], ◌∷◌, ◌++◌, Some, codes, refl}
use Rattle.ll_classes.specs.Llvm.{llvm_class}
use Rattle.ll_rules.specs.Llvm.{llvm}
use Rattle.ll_spacing.specs.Spacing.{Spaced}
use Rattle.ll_tokens.specs.declared.kinds.Kind.TheVariants.{Word, Global, Local, Label, Int, Str, CStr, Equals, Comma, OpenParen, CloseParen, OpenBracket, CloseBracket, OpenBrace, CloseBrace, Less, Greater}
use Rattle.ll_values.specs.declared.form.Kind.TheVariants as K
use Rattle.ll_values.specs.declared.form.DetailKind.TheVariants as D
use Rattle.ll_values.specs.declared.form.ListKind.TheVariants as L
use Rattle.ll_values.specs.declared.form.RowKind.TheVariants as R
use Rattle.ll_values.specs.declared.form.TypedKind.TheVariants as T
use Rattle.ll_values.specs.declared.form.TheConstants.{KINDS}
use Rattle.ll_values.specs.Values.{Value, NoneV, FlagV, TextV, value_by}
use Rattle.ll_lines.specs.Lines.{Text}
use Rattle.ll_written.specs.Rules as N
use Rattle.ll_written.specs.Written.{token}
use Rattle.ll_written.proofs.TellLaws.{Gives, nothing, word, leaf, rule, last, made}
use Rattle.ll_written.proofs.WordClasses as C

-- by that rule of the grammar of LLVM text, tokens say a value
abbrev pub Reads : (rule : ℕ) → Value → List Spaced → Type 0
Reads r v xs = Gives llvm KINDS r v xs

-- file = item file
pub file_more : {v v0 v1 : Value} {x0 x1 : List Spaced} → Reads N.item v0 x0 → Reads N.file v1 x1 → value_by (K.List L.FileMore) (v0 ∷ v1 ∷ []) ≡ Some v → Reads N.file v (x0 ++ x1)
file_more {v0} {v1} h0 h1 made_by = made llvm KINDS 0 1 (K.List L.FileMore) {cs = v0 ∷ v1 ∷ []} refl refl refl made_by (rule llvm KINDS h0 (last llvm KINDS h1))

-- file = nothing
pub file_end : {v : Value} → value_by (K.List L.FileEnd) [] ≡ Some v → Reads N.file v []
file_end made_by = made llvm KINDS 0 2 (K.List L.FileEnd) {cs = []} refl refl refl made_by (nothing llvm KINDS)

-- item = 'source_filename' '=' STR
pub item_source : {v : Value} (b0 b1 b2 t2 : Text) → value_by (K.Detail D.Source) (TextV t2 ∷ []) ≡ Some v → Reads N.item v (token b0 Word (codes "source_filename") ∷ token b1 Equals (codes "=") ∷ token b2 Str t2 ∷ [])
item_source b0 b1 b2 t2 made_by =
    made llvm KINDS 1 3 (K.Detail D.Source) {cs = TextV t2 ∷ []} refl refl refl made_by (word llvm KINDS (token b0 Word (codes "source_filename")) C.word_source_filename (word llvm KINDS (token b1 Equals (codes "=")) C.sign_equals (leaf llvm KINDS (token b2 Str t2) (C.kind_str t2) (nothing llvm KINDS))))

-- item = LOCAL '=' 'type' type_body
pub item_structure : {v v3 : Value} {x3 : List Spaced} (b0 t0 b1 b2 : Text) → Reads N.type_body v3 x3 → value_by (K.List L.Structure) (TextV t0 ∷ v3 ∷ []) ≡ Some v → Reads N.item v (token b0 Local t0 ∷ token b1 Equals (codes "=") ∷ token b2 Word (codes "type") ∷ x3)
item_structure {v3} b0 t0 b1 b2 h3 made_by =
    made llvm KINDS 1 5 (K.List L.Structure) {cs = TextV t0 ∷ v3 ∷ []} refl refl refl made_by (leaf llvm KINDS (token b0 Local t0) (C.kind_local t0) (word llvm KINDS (token b1 Equals (codes "=")) C.sign_equals (word llvm KINDS (token b2 Word (codes "type")) C.word_type (last llvm KINDS h3))))

-- type_body = 'opaque'
pub type_body_opaque : {v : Value} (b0 : Text) → value_by (K.Detail D.Opaque) [] ≡ Some v → Reads N.type_body v (token b0 Word (codes "opaque") ∷ [])
type_body_opaque b0 made_by = made llvm KINDS 4 15 (K.Detail D.Opaque) {cs = []} refl refl refl made_by (word llvm KINDS (token b0 Word (codes "opaque")) C.word_opaque (nothing llvm KINDS))

-- type_body = '{' types '}'
pub type_body_fields : {v v1 : Value} {x1 : List Spaced} (b0 b2 : Text) → Reads N.types v1 x1 → value_by (K.Typed T.Fields) (v1 ∷ []) ≡ Some v → Reads N.type_body v (token b0 OpenBrace (codes "{") ∷ (x1 ++ (token b2 CloseBrace (codes "}") ∷ [])))
type_body_fields {v1} b0 b2 h1 made_by =
    made llvm KINDS 4 16 (K.Typed T.Fields) {cs = v1 ∷ []} refl refl refl made_by (word llvm KINDS (token b0 OpenBrace (codes "{")) C.sign_openbrace (rule llvm KINDS h1 (word llvm KINDS (token b2 CloseBrace (codes "}")) C.sign_closebrace (nothing llvm KINDS))))

-- type_body = '<' '{' types '}' '>'
pub type_body_packedfields : {v v2 : Value} {x2 : List Spaced} (b0 b1 b3 b4 : Text) → Reads N.types v2 x2 → value_by (K.Typed T.PackedFields) (v2 ∷ []) ≡ Some v → Reads N.type_body v (token b0 Less (codes "<") ∷ (token b1 OpenBrace (codes "{") ∷ (x2 ++ (token b3 CloseBrace (codes "}") ∷ token b4 Greater (codes ">") ∷ []))))
type_body_packedfields {v2} b0 b1 b3 b4 h2 made_by =
    made llvm KINDS 4 17 (K.Typed T.PackedFields) {cs = v2 ∷ []} refl refl refl made_by (word llvm KINDS (token b0 Less (codes "<")) C.sign_less (word llvm KINDS (token b1 OpenBrace (codes "{")) C.sign_openbrace (rule llvm KINDS h2 (word llvm KINDS (token b3 CloseBrace (codes "}")) C.sign_closebrace (word llvm KINDS (token b4 Greater (codes ">")) C.sign_greater (nothing llvm KINDS))))))

-- item = 'define' define_linkage head function_attrs attachments '{' body '}'
pub item_define : {v v1 v2 v3 v4 v6 : Value} {x1 x2 x3 x4 x6 : List Spaced} (b0 b5 b7 : Text) → Reads N.define_linkage v1 x1 → Reads N.head v2 x2 → Reads N.function_attrs v3 x3 → Reads N.attachments v4 x4 → Reads N.body v6 x6 → value_by (K.List L.Define) (v1 ∷ v2 ∷ v3 ∷ v4 ∷ v6 ∷ []) ≡ Some v → Reads N.item v (token b0 Word (codes "define") ∷ (x1 ++ (x2 ++ (x3 ++ (x4 ++ (token b5 OpenBrace (codes "{") ∷ (x6 ++ (token b7 CloseBrace (codes "}") ∷ []))))))))
item_define {v1} {v2} {v3} {v4} {v6} b0 b5 b7 h1 h2 h3 h4 h6 made_by =
    made llvm KINDS 1 8 (K.List L.Define) {cs = v1 ∷ v2 ∷ v3 ∷ v4 ∷ v6 ∷ []} refl refl refl made_by (word llvm KINDS (token b0 Word (codes "define")) C.word_define (rule llvm KINDS h1 (rule llvm KINDS h2 (rule llvm KINDS h3 (rule llvm KINDS h4 (word llvm KINDS (token b5 OpenBrace (codes "{")) C.sign_openbrace (rule llvm KINDS h6 (word llvm KINDS (token b7 CloseBrace (codes "}")) C.sign_closebrace (nothing llvm KINDS)))))))))

-- define_linkage = @'external'
pub define_linkage_external : {v : Value} (b0 : Text) → value_by (K.Detail D.External) (TextV (codes "external") ∷ []) ≡ Some v → Reads N.define_linkage v (token b0 Word (codes "external") ∷ [])
define_linkage_external b0 made_by =
    made llvm KINDS 8 25 (K.Detail D.External) {cs = TextV (codes "external") ∷ []} refl refl refl made_by (leaf llvm KINDS (token b0 Word (codes "external")) C.word_external (nothing llvm KINDS))

-- define_linkage = nothing
pub define_linkage_none : Reads N.define_linkage NoneV []
define_linkage_none = made llvm KINDS 8 26 K.Nothing {cs = []} refl refl refl refl (nothing llvm KINDS)

-- function_attrs = nothing
pub function_attrs_none : Reads N.function_attrs NoneV []
function_attrs_none = made llvm KINDS 35 86 K.Nothing {cs = []} refl refl refl refl (nothing llvm KINDS)

-- attachments = nothing
pub attachments_none : Reads N.attachments NoneV []
attachments_none = made llvm KINDS 148 497 K.Nothing {cs = []} refl refl refl refl (nothing llvm KINDS)

-- head = dso lost_attrs type GLOBAL parameters
pub head : {v v0 v1 v2 v4 : Value} {x0 x1 x2 x4 : List Spaced} (b3 t3 : Text) → Reads N.dso v0 x0 → Reads N.lost_attrs v1 x1 → Reads N.type v2 x2 → Reads N.parameters v4 x4 → value_by (K.List L.Head) (v0 ∷ v1 ∷ v2 ∷ TextV t3 ∷ v4 ∷ []) ≡ Some v → Reads N.head v (x0 ++ (x1 ++ (x2 ++ (token b3 Global t3 ∷ x4))))
head {v0} {v1} {v2} {v4} b3 t3 h0 h1 h2 h4 made_by =
    made llvm KINDS 21 50 (K.List L.Head) {cs = v0 ∷ v1 ∷ v2 ∷ TextV t3 ∷ v4 ∷ []} refl refl refl made_by (rule llvm KINDS h0 (rule llvm KINDS h1 (rule llvm KINDS h2 (leaf llvm KINDS (token b3 Global t3) (C.kind_global t3) (last llvm KINDS h4)))))

-- dso = nothing
pub dso_none : Reads N.dso NoneV []
dso_none = made llvm KINDS 10 30 K.Nothing {cs = []} refl refl refl refl (nothing llvm KINDS)

-- lost_attrs = nothing
pub lost_attrs_none : Reads N.lost_attrs NoneV []
lost_attrs_none = made llvm KINDS 32 73 K.Nothing {cs = []} refl refl refl refl (nothing llvm KINDS)

-- unnamed = nothing
pub unnamed_none : Reads N.unnamed NoneV []
unnamed_none = made llvm KINDS 11 32 K.Nothing {cs = []} refl refl refl refl (nothing llvm KINDS)

-- space = 'addrspace' '(' INT ')'
pub space : {v : Value} (b0 b1 b2 t2 b3 : Text) → value_by (K.Detail D.Space) (TextV t2 ∷ []) ≡ Some v → Reads N.space v (token b0 Word (codes "addrspace") ∷ token b1 OpenParen (codes "(") ∷ token b2 Int t2 ∷ token b3 CloseParen (codes ")") ∷ [])
space b0 b1 b2 t2 b3 made_by =
    made llvm KINDS 16 41 (K.Detail D.Space) {cs = TextV t2 ∷ []} refl refl refl made_by (word llvm KINDS (token b0 Word (codes "addrspace")) C.word_addrspace (word llvm KINDS (token b1 OpenParen (codes "(")) C.sign_openparen (leaf llvm KINDS (token b2 Int t2) (C.kind_int t2) (word llvm KINDS (token b3 CloseParen (codes ")")) C.sign_closeparen (nothing llvm KINDS)))))

-- space = nothing
pub space_none : Reads N.space NoneV []
space_none = made llvm KINDS 16 42 K.Nothing {cs = []} refl refl refl refl (nothing llvm KINDS)

-- parameters = '(' params ')' unnamed space
pub parameters : {v v1 v3 v4 : Value} {x1 x3 x4 : List Spaced} (b0 b2 : Text) → Reads N.params v1 x1 → Reads N.unnamed v3 x3 → Reads N.space v4 x4 → value_by (K.List L.Parameters) (v1 ∷ v3 ∷ v4 ∷ []) ≡ Some v → Reads N.parameters v (token b0 OpenParen (codes "(") ∷ (x1 ++ (token b2 CloseParen (codes ")") ∷ (x3 ++ x4))))
parameters {v1} {v3} {v4} b0 b2 h1 h3 h4 made_by =
    made llvm KINDS 22 51 (K.List L.Parameters) {cs = v1 ∷ v3 ∷ v4 ∷ []} refl refl refl made_by (word llvm KINDS (token b0 OpenParen (codes "(")) C.sign_openparen (rule llvm KINDS h1 (word llvm KINDS (token b2 CloseParen (codes ")")) C.sign_closeparen (rule llvm KINDS h3 (last llvm KINDS h4)))))

-- params = param more_params
pub params_more : {v v0 v1 : Value} {x0 x1 : List Spaced} → Reads N.param v0 x0 → Reads N.more_params v1 x1 → value_by (K.List L.ParamsMore) (v0 ∷ v1 ∷ []) ≡ Some v → Reads N.params v (x0 ++ x1)
params_more {v0} {v1} h0 h1 made_by = made llvm KINDS 23 52 (K.List L.ParamsMore) {cs = v0 ∷ v1 ∷ []} refl refl refl made_by (rule llvm KINDS h0 (last llvm KINDS h1))

-- params = nothing
pub params_end : {v : Value} → value_by (K.List L.ParamsEnd) [] ≡ Some v → Reads N.params v []
params_end made_by = made llvm KINDS 23 54 (K.List L.ParamsEnd) {cs = []} refl refl refl made_by (nothing llvm KINDS)

-- more_params = ',' param_or_dots
pub more_params_param_or_dots : {v1 : Value} {x1 : List Spaced} (b0 : Text) → Reads N.param_or_dots v1 x1 → Reads N.more_params v1 (token b0 Comma (codes ",") ∷ x1)
more_params_param_or_dots {v1} b0 h1 = made llvm KINDS 24 55 K.Same {cs = v1 ∷ []} refl refl refl refl (word llvm KINDS (token b0 Comma (codes ",")) C.sign_comma (last llvm KINDS h1))

-- more_params = nothing
pub more_params_end : {v : Value} → value_by (K.List L.ParamsEnd) [] ≡ Some v → Reads N.more_params v []
more_params_end made_by = made llvm KINDS 24 56 (K.List L.ParamsEnd) {cs = []} refl refl refl made_by (nothing llvm KINDS)

-- param_or_dots = param more_params
pub param_or_dots_more : {v v0 v1 : Value} {x0 x1 : List Spaced} → Reads N.param v0 x0 → Reads N.more_params v1 x1 → value_by (K.List L.ParamsMore) (v0 ∷ v1 ∷ []) ≡ Some v → Reads N.param_or_dots v (x0 ++ x1)
param_or_dots_more {v0} {v1} h0 h1 made_by = made llvm KINDS 25 57 (K.List L.ParamsMore) {cs = v0 ∷ v1 ∷ []} refl refl refl made_by (rule llvm KINDS h0 (last llvm KINDS h1))

-- param = type lost_attrs name
pub param : {v v0 v1 v2 : Value} {x0 x1 x2 : List Spaced} → Reads N.type v0 x0 → Reads N.lost_attrs v1 x1 → Reads N.name v2 x2 → value_by (K.Detail D.Param) (v0 ∷ v1 ∷ v2 ∷ []) ≡ Some v → Reads N.param v (x0 ++ (x1 ++ x2))
param {v0} {v1} {v2} h0 h1 h2 made_by = made llvm KINDS 26 59 (K.Detail D.Param) {cs = v0 ∷ v1 ∷ v2 ∷ []} refl refl refl made_by (rule llvm KINDS h0 (rule llvm KINDS h1 (last llvm KINDS h2)))

-- name = LOCAL
pub name_local : (b0 t0 : Text) → Reads N.name (TextV t0) (token b0 Local t0 ∷ [])
name_local b0 t0 = made llvm KINDS 27 60 K.Same {cs = TextV t0 ∷ []} refl refl refl refl (leaf llvm KINDS (token b0 Local t0) (C.kind_local t0) (nothing llvm KINDS))

-- name = nothing
pub name_none : Reads N.name NoneV []
name_none = made llvm KINDS 27 61 K.Nothing {cs = []} refl refl refl refl (nothing llvm KINDS)

-- body = body_part body_parts
pub body_more : {v v0 v1 : Value} {x0 x1 : List Spaced} → Reads N.body_part v0 x0 → Reads N.body_parts v1 x1 → value_by (K.List L.BodyMore) (v0 ∷ v1 ∷ []) ≡ Some v → Reads N.body v (x0 ++ x1)
body_more {v0} {v1} h0 h1 made_by = made llvm KINDS 28 62 (K.List L.BodyMore) {cs = v0 ∷ v1 ∷ []} refl refl refl made_by (rule llvm KINDS h0 (last llvm KINDS h1))

-- body_parts = body_part body_parts
pub body_parts_more : {v v0 v1 : Value} {x0 x1 : List Spaced} → Reads N.body_part v0 x0 → Reads N.body_parts v1 x1 → value_by (K.List L.BodyMore) (v0 ∷ v1 ∷ []) ≡ Some v → Reads N.body_parts v (x0 ++ x1)
body_parts_more {v0} {v1} h0 h1 made_by = made llvm KINDS 29 63 (K.List L.BodyMore) {cs = v0 ∷ v1 ∷ []} refl refl refl made_by (rule llvm KINDS h0 (last llvm KINDS h1))

-- body_parts = nothing
pub body_parts_end : {v : Value} → value_by (K.List L.BodyEnd) [] ≡ Some v → Reads N.body_parts v []
body_parts_end made_by = made llvm KINDS 29 64 (K.List L.BodyEnd) {cs = []} refl refl refl made_by (nothing llvm KINDS)

-- body_part = LABEL
pub body_part_label : {v : Value} (b0 t0 : Text) → value_by (K.Detail D.Label) (TextV t0 ∷ []) ≡ Some v → Reads N.body_part v (token b0 Label t0 ∷ [])
body_part_label b0 t0 made_by = made llvm KINDS 30 65 (K.Detail D.Label) {cs = TextV t0 ∷ []} refl refl refl made_by (leaf llvm KINDS (token b0 Label t0) (C.kind_label t0) (nothing llvm KINDS))

-- body_part = LOCAL '=' inst
pub body_part_named : {v v2 : Value} {x2 : List Spaced} (b0 t0 b1 : Text) → Reads N.inst v2 x2 → value_by (K.Detail D.Named) (TextV t0 ∷ v2 ∷ []) ≡ Some v → Reads N.body_part v (token b0 Local t0 ∷ token b1 Equals (codes "=") ∷ x2)
body_part_named {v2} b0 t0 b1 h2 made_by =
    made llvm KINDS 30 67 (K.Detail D.Named) {cs = TextV t0 ∷ v2 ∷ []} refl refl refl made_by (leaf llvm KINDS (token b0 Local t0) (C.kind_local t0) (word llvm KINDS (token b1 Equals (codes "=")) C.sign_equals (last llvm KINDS h2)))

-- body_part = inst
pub body_part_bare : {v v0 : Value} {x0 : List Spaced} → Reads N.inst v0 x0 → value_by (K.Detail D.Bare) (v0 ∷ []) ≡ Some v → Reads N.body_part v x0
body_part_bare {v0} h0 made_by = made llvm KINDS 30 68 (K.Detail D.Bare) {cs = v0 ∷ []} refl refl refl made_by (last llvm KINDS h0)

-- type = 'void'
pub type_void : {v : Value} (b0 : Text) → value_by (K.Typed T.Void) [] ≡ Some v → Reads N.type v (token b0 Word (codes "void") ∷ [])
type_void b0 made_by = made llvm KINDS 60 261 (K.Typed T.Void) {cs = []} refl refl refl made_by (word llvm KINDS (token b0 Word (codes "void")) C.word_void (nothing llvm KINDS))

-- type = INTTYPE
pub type_int : {v : Value} (b0 t0 : Text) → llvm_class Word t0 ≡ C.inttype → value_by (K.Typed T.Int) (TextV t0 ∷ []) ≡ Some v → Reads N.type v (token b0 Word t0 ∷ [])
type_int b0 t0 h0 made_by = made llvm KINDS 60 262 (K.Typed T.Int) {cs = TextV t0 ∷ []} refl refl refl made_by (leaf llvm KINDS (token b0 Word t0) h0 (nothing llvm KINDS))

-- type = 'ptr' space
pub type_pointer : {v v1 : Value} {x1 : List Spaced} (b0 : Text) → Reads N.space v1 x1 → value_by (K.Typed T.Pointer) (v1 ∷ []) ≡ Some v → Reads N.type v (token b0 Word (codes "ptr") ∷ x1)
type_pointer {v1} b0 h1 made_by = made llvm KINDS 60 263 (K.Typed T.Pointer) {cs = v1 ∷ []} refl refl refl made_by (word llvm KINDS (token b0 Word (codes "ptr")) C.word_ptr (last llvm KINDS h1))

-- type = FLAT
pub type_flat : {v : Value} (b0 t0 : Text) → llvm_class Word t0 ≡ C.flat → value_by (K.Typed T.Flat) (TextV t0 ∷ []) ≡ Some v → Reads N.type v (token b0 Word t0 ∷ [])
type_flat b0 t0 h0 made_by = made llvm KINDS 60 264 (K.Typed T.Flat) {cs = TextV t0 ∷ []} refl refl refl made_by (leaf llvm KINDS (token b0 Word t0) h0 (nothing llvm KINDS))

-- type = '[' INT 'x' type ']'
pub type_array : {v v3 : Value} {x3 : List Spaced} (b0 b1 t1 b2 b4 : Text) → Reads N.type v3 x3 → value_by (K.Typed T.Array) (TextV t1 ∷ v3 ∷ []) ≡ Some v → Reads N.type v (token b0 OpenBracket (codes "[") ∷ (token b1 Int t1 ∷ (token b2 Word (codes "x") ∷ (x3 ++ (token b4 CloseBracket (codes "]") ∷ [])))))
type_array {v3} b0 b1 t1 b2 b4 h3 made_by =
    made llvm KINDS 60 265 (K.Typed T.Array) {cs = TextV t1 ∷ v3 ∷ []} refl refl refl made_by (word llvm KINDS (token b0 OpenBracket (codes "[")) C.sign_openbracket (leaf llvm KINDS (token b1 Int t1) (C.kind_int t1) (word llvm KINDS (token b2 Word (codes "x")) C.word_x (rule llvm KINDS h3 (word llvm KINDS (token b4 CloseBracket (codes "]")) C.sign_closebracket (nothing llvm KINDS))))))

-- type = '<' angle_type
pub type_angle_type : {v1 : Value} {x1 : List Spaced} (b0 : Text) → Reads N.angle_type v1 x1 → Reads N.type v1 (token b0 Less (codes "<") ∷ x1)
type_angle_type {v1} b0 h1 = made llvm KINDS 60 266 K.Same {cs = v1 ∷ []} refl refl refl refl (word llvm KINDS (token b0 Less (codes "<")) C.sign_less (last llvm KINDS h1))

-- type = LOCAL
pub type_named : {v : Value} (b0 t0 : Text) → value_by (K.Typed T.Named) (TextV t0 ∷ []) ≡ Some v → Reads N.type v (token b0 Local t0 ∷ [])
type_named b0 t0 made_by = made llvm KINDS 60 267 (K.Typed T.Named) {cs = TextV t0 ∷ []} refl refl refl made_by (leaf llvm KINDS (token b0 Local t0) (C.kind_local t0) (nothing llvm KINDS))

-- type = '{' types '}'
pub type_struct : {v v1 : Value} {x1 : List Spaced} (b0 b2 : Text) → Reads N.types v1 x1 → value_by (K.Typed T.Struct) (v1 ∷ []) ≡ Some v → Reads N.type v (token b0 OpenBrace (codes "{") ∷ (x1 ++ (token b2 CloseBrace (codes "}") ∷ [])))
type_struct {v1} b0 b2 h1 made_by =
    made llvm KINDS 60 268 (K.Typed T.Struct) {cs = v1 ∷ []} refl refl refl made_by (word llvm KINDS (token b0 OpenBrace (codes "{")) C.sign_openbrace (rule llvm KINDS h1 (word llvm KINDS (token b2 CloseBrace (codes "}")) C.sign_closebrace (nothing llvm KINDS))))

-- solid = INTTYPE
pub solid_int : {v : Value} (b0 t0 : Text) → llvm_class Word t0 ≡ C.inttype → value_by (K.Typed T.Int) (TextV t0 ∷ []) ≡ Some v → Reads N.solid v (token b0 Word t0 ∷ [])
solid_int b0 t0 h0 made_by = made llvm KINDS 61 269 (K.Typed T.Int) {cs = TextV t0 ∷ []} refl refl refl made_by (leaf llvm KINDS (token b0 Word t0) h0 (nothing llvm KINDS))

-- solid = 'ptr' space
pub solid_pointer : {v v1 : Value} {x1 : List Spaced} (b0 : Text) → Reads N.space v1 x1 → value_by (K.Typed T.Pointer) (v1 ∷ []) ≡ Some v → Reads N.solid v (token b0 Word (codes "ptr") ∷ x1)
solid_pointer {v1} b0 h1 made_by = made llvm KINDS 61 270 (K.Typed T.Pointer) {cs = v1 ∷ []} refl refl refl made_by (word llvm KINDS (token b0 Word (codes "ptr")) C.word_ptr (last llvm KINDS h1))

-- solid = FLAT
pub solid_flat : {v : Value} (b0 t0 : Text) → llvm_class Word t0 ≡ C.flat → value_by (K.Typed T.Flat) (TextV t0 ∷ []) ≡ Some v → Reads N.solid v (token b0 Word t0 ∷ [])
solid_flat b0 t0 h0 made_by = made llvm KINDS 61 271 (K.Typed T.Flat) {cs = TextV t0 ∷ []} refl refl refl made_by (leaf llvm KINDS (token b0 Word t0) h0 (nothing llvm KINDS))

-- solid = '[' INT 'x' type ']'
pub solid_array : {v v3 : Value} {x3 : List Spaced} (b0 b1 t1 b2 b4 : Text) → Reads N.type v3 x3 → value_by (K.Typed T.Array) (TextV t1 ∷ v3 ∷ []) ≡ Some v → Reads N.solid v (token b0 OpenBracket (codes "[") ∷ (token b1 Int t1 ∷ (token b2 Word (codes "x") ∷ (x3 ++ (token b4 CloseBracket (codes "]") ∷ [])))))
solid_array {v3} b0 b1 t1 b2 b4 h3 made_by =
    made llvm KINDS 61 272 (K.Typed T.Array) {cs = TextV t1 ∷ v3 ∷ []} refl refl refl made_by (word llvm KINDS (token b0 OpenBracket (codes "[")) C.sign_openbracket (leaf llvm KINDS (token b1 Int t1) (C.kind_int t1) (word llvm KINDS (token b2 Word (codes "x")) C.word_x (rule llvm KINDS h3 (word llvm KINDS (token b4 CloseBracket (codes "]")) C.sign_closebracket (nothing llvm KINDS))))))

-- solid = '<' angle_type
pub solid_angle_type : {v1 : Value} {x1 : List Spaced} (b0 : Text) → Reads N.angle_type v1 x1 → Reads N.solid v1 (token b0 Less (codes "<") ∷ x1)
solid_angle_type {v1} b0 h1 = made llvm KINDS 61 273 K.Same {cs = v1 ∷ []} refl refl refl refl (word llvm KINDS (token b0 Less (codes "<")) C.sign_less (last llvm KINDS h1))

-- solid = LOCAL
pub solid_named : {v : Value} (b0 t0 : Text) → value_by (K.Typed T.Named) (TextV t0 ∷ []) ≡ Some v → Reads N.solid v (token b0 Local t0 ∷ [])
solid_named b0 t0 made_by = made llvm KINDS 61 274 (K.Typed T.Named) {cs = TextV t0 ∷ []} refl refl refl made_by (leaf llvm KINDS (token b0 Local t0) (C.kind_local t0) (nothing llvm KINDS))

-- solid = '{' types '}'
pub solid_struct : {v v1 : Value} {x1 : List Spaced} (b0 b2 : Text) → Reads N.types v1 x1 → value_by (K.Typed T.Struct) (v1 ∷ []) ≡ Some v → Reads N.solid v (token b0 OpenBrace (codes "{") ∷ (x1 ++ (token b2 CloseBrace (codes "}") ∷ [])))
solid_struct {v1} b0 b2 h1 made_by =
    made llvm KINDS 61 275 (K.Typed T.Struct) {cs = v1 ∷ []} refl refl refl made_by (word llvm KINDS (token b0 OpenBrace (codes "{")) C.sign_openbrace (rule llvm KINDS h1 (word llvm KINDS (token b2 CloseBrace (codes "}")) C.sign_closebrace (nothing llvm KINDS))))

-- angle_type = INT 'x' type '>'
pub angle_type_vector : {v v2 : Value} {x2 : List Spaced} (b0 t0 b1 b3 : Text) → Reads N.type v2 x2 → value_by (K.Typed T.Vector) (TextV t0 ∷ v2 ∷ []) ≡ Some v → Reads N.angle_type v (token b0 Int t0 ∷ (token b1 Word (codes "x") ∷ (x2 ++ (token b3 Greater (codes ">") ∷ []))))
angle_type_vector {v2} b0 t0 b1 b3 h2 made_by =
    made llvm KINDS 63 282 (K.Typed T.Vector) {cs = TextV t0 ∷ v2 ∷ []} refl refl refl made_by (leaf llvm KINDS (token b0 Int t0) (C.kind_int t0) (word llvm KINDS (token b1 Word (codes "x")) C.word_x (rule llvm KINDS h2 (word llvm KINDS (token b3 Greater (codes ">")) C.sign_greater (nothing llvm KINDS)))))

-- angle_type = 'vscale' 'x' INT 'x' type '>'
pub angle_type_scalable : {v v4 : Value} {x4 : List Spaced} (b0 b1 b2 t2 b3 b5 : Text) → Reads N.type v4 x4 → value_by (K.Typed T.Scalable) (TextV t2 ∷ v4 ∷ []) ≡ Some v → Reads N.angle_type v (token b0 Word (codes "vscale") ∷ (token b1 Word (codes "x") ∷ (token b2 Int t2 ∷ (token b3 Word (codes "x") ∷ (x4 ++ (token b5 Greater (codes ">") ∷ []))))))
angle_type_scalable {v4} b0 b1 b2 t2 b3 b5 h4 made_by =
    made llvm KINDS 63 283 (K.Typed T.Scalable) {cs = TextV t2 ∷ v4 ∷ []} refl refl refl made_by (word llvm KINDS (token b0 Word (codes "vscale")) C.word_vscale (word llvm KINDS (token b1 Word (codes "x")) C.word_x (leaf llvm KINDS (token b2 Int t2) (C.kind_int t2) (word llvm KINDS (token b3 Word (codes "x")) C.word_x (rule llvm KINDS h4 (word llvm KINDS (token b5 Greater (codes ">")) C.sign_greater (nothing llvm KINDS)))))))

-- angle_type = '{' types '}' '>'
pub angle_type_packed : {v v1 : Value} {x1 : List Spaced} (b0 b2 b3 : Text) → Reads N.types v1 x1 → value_by (K.Typed T.Packed) (v1 ∷ []) ≡ Some v → Reads N.angle_type v (token b0 OpenBrace (codes "{") ∷ (x1 ++ (token b2 CloseBrace (codes "}") ∷ token b3 Greater (codes ">") ∷ [])))
angle_type_packed {v1} b0 b2 b3 h1 made_by =
    made llvm KINDS 63 284 (K.Typed T.Packed) {cs = v1 ∷ []} refl refl refl made_by (word llvm KINDS (token b0 OpenBrace (codes "{")) C.sign_openbrace (rule llvm KINDS h1 (word llvm KINDS (token b2 CloseBrace (codes "}")) C.sign_closebrace (word llvm KINDS (token b3 Greater (codes ">")) C.sign_greater (nothing llvm KINDS)))))

-- types = type more_types
pub types_more : {v v0 v1 : Value} {x0 x1 : List Spaced} → Reads N.type v0 x0 → Reads N.more_types v1 x1 → value_by (K.List L.TypesMore) (v0 ∷ v1 ∷ []) ≡ Some v → Reads N.types v (x0 ++ x1)
types_more {v0} {v1} h0 h1 made_by = made llvm KINDS 64 285 (K.List L.TypesMore) {cs = v0 ∷ v1 ∷ []} refl refl refl made_by (rule llvm KINDS h0 (last llvm KINDS h1))

-- types = nothing
pub types_end : {v : Value} → value_by (K.List L.TypesEnd) [] ≡ Some v → Reads N.types v []
types_end made_by = made llvm KINDS 64 286 (K.List L.TypesEnd) {cs = []} refl refl refl made_by (nothing llvm KINDS)

-- more_types = ',' type more_types
pub more_types_more : {v v1 v2 : Value} {x1 x2 : List Spaced} (b0 : Text) → Reads N.type v1 x1 → Reads N.more_types v2 x2 → value_by (K.List L.TypesMore) (v1 ∷ v2 ∷ []) ≡ Some v → Reads N.more_types v (token b0 Comma (codes ",") ∷ (x1 ++ x2))
more_types_more {v1} {v2} b0 h1 h2 made_by =
    made llvm KINDS 65 287 (K.List L.TypesMore) {cs = v1 ∷ v2 ∷ []} refl refl refl made_by (word llvm KINDS (token b0 Comma (codes ",")) C.sign_comma (rule llvm KINDS h1 (last llvm KINDS h2)))

-- more_types = nothing
pub more_types_end : {v : Value} → value_by (K.List L.TypesEnd) [] ≡ Some v → Reads N.more_types v []
more_types_end made_by = made llvm KINDS 65 288 (K.List L.TypesEnd) {cs = []} refl refl refl made_by (nothing llvm KINDS)

-- value = LOCAL
pub value_local : {v : Value} (b0 t0 : Text) → value_by (K.Detail D.Local) (TextV t0 ∷ []) ≡ Some v → Reads N.value v (token b0 Local t0 ∷ [])
value_local b0 t0 made_by = made llvm KINDS 84 364 (K.Detail D.Local) {cs = TextV t0 ∷ []} refl refl refl made_by (leaf llvm KINDS (token b0 Local t0) (C.kind_local t0) (nothing llvm KINDS))

-- value = INT
pub value_literal_int : {v : Value} (b0 t0 : Text) → value_by (K.Detail D.Literal) (TextV t0 ∷ []) ≡ Some v → Reads N.value v (token b0 Int t0 ∷ [])
value_literal_int b0 t0 made_by = made llvm KINDS 84 365 (K.Detail D.Literal) {cs = TextV t0 ∷ []} refl refl refl made_by (leaf llvm KINDS (token b0 Int t0) (C.kind_int t0) (nothing llvm KINDS))

-- value = CONST
pub value_literal_false : {v : Value} (b0 : Text) → value_by (K.Detail D.Literal) (TextV (codes "false") ∷ []) ≡ Some v → Reads N.value v (token b0 Word (codes "false") ∷ [])
value_literal_false b0 made_by =
    made llvm KINDS 84 366 (K.Detail D.Literal) {cs = TextV (codes "false") ∷ []} refl refl refl made_by (leaf llvm KINDS (token b0 Word (codes "false")) C.word_false (nothing llvm KINDS))

-- value = CONST
pub value_literal_poison : {v : Value} (b0 : Text) → value_by (K.Detail D.Literal) (TextV (codes "poison") ∷ []) ≡ Some v → Reads N.value v (token b0 Word (codes "poison") ∷ [])
value_literal_poison b0 made_by =
    made llvm KINDS 84 366 (K.Detail D.Literal) {cs = TextV (codes "poison") ∷ []} refl refl refl made_by (leaf llvm KINDS (token b0 Word (codes "poison")) C.word_poison (nothing llvm KINDS))

-- value = CONST
pub value_literal_true : {v : Value} (b0 : Text) → value_by (K.Detail D.Literal) (TextV (codes "true") ∷ []) ≡ Some v → Reads N.value v (token b0 Word (codes "true") ∷ [])
value_literal_true b0 made_by =
    made llvm KINDS 84 366 (K.Detail D.Literal) {cs = TextV (codes "true") ∷ []} refl refl refl made_by (leaf llvm KINDS (token b0 Word (codes "true")) C.word_true (nothing llvm KINDS))

-- value = CONST
pub value_literal_undef : {v : Value} (b0 : Text) → value_by (K.Detail D.Literal) (TextV (codes "undef") ∷ []) ≡ Some v → Reads N.value v (token b0 Word (codes "undef") ∷ [])
value_literal_undef b0 made_by =
    made llvm KINDS 84 366 (K.Detail D.Literal) {cs = TextV (codes "undef") ∷ []} refl refl refl made_by (leaf llvm KINDS (token b0 Word (codes "undef")) C.word_undef (nothing llvm KINDS))

-- value = CONST
pub value_literal_zeroinitializer : {v : Value} (b0 : Text) → value_by (K.Detail D.Literal) (TextV (codes "zeroinitializer") ∷ []) ≡ Some v → Reads N.value v (token b0 Word (codes "zeroinitializer") ∷ [])
value_literal_zeroinitializer b0 made_by =
    made llvm KINDS 84 366 (K.Detail D.Literal) {cs = TextV (codes "zeroinitializer") ∷ []} refl refl refl made_by (leaf llvm KINDS (token b0 Word (codes "zeroinitializer")) C.word_zeroinitializer (nothing llvm KINDS))

-- value = 'null'
pub value_null : {v : Value} (b0 : Text) → value_by (K.Detail D.Null) [] ≡ Some v → Reads N.value v (token b0 Word (codes "null") ∷ [])
value_null b0 made_by = made llvm KINDS 84 367 (K.Detail D.Null) {cs = []} refl refl refl made_by (word llvm KINDS (token b0 Word (codes "null")) C.word_null (nothing llvm KINDS))

-- value = '[' tconsts ']'
pub value_inarray : {v v1 : Value} {x1 : List Spaced} (b0 b2 : Text) → Reads N.tconsts v1 x1 → value_by (K.List L.InArray) (v1 ∷ []) ≡ Some v → Reads N.value v (token b0 OpenBracket (codes "[") ∷ (x1 ++ (token b2 CloseBracket (codes "]") ∷ [])))
value_inarray {v1} b0 b2 h1 made_by =
    made llvm KINDS 84 368 (K.List L.InArray) {cs = v1 ∷ []} refl refl refl made_by (word llvm KINDS (token b0 OpenBracket (codes "[")) C.sign_openbracket (rule llvm KINDS h1 (word llvm KINDS (token b2 CloseBracket (codes "]")) C.sign_closebracket (nothing llvm KINDS))))

-- value = '{' tconsts '}'
pub value_instruct : {v v1 : Value} {x1 : List Spaced} (b0 b2 : Text) → Reads N.tconsts v1 x1 → value_by (K.List L.InStruct) (v1 ∷ []) ≡ Some v → Reads N.value v (token b0 OpenBrace (codes "{") ∷ (x1 ++ (token b2 CloseBrace (codes "}") ∷ [])))
value_instruct {v1} b0 b2 h1 made_by =
    made llvm KINDS 84 369 (K.List L.InStruct) {cs = v1 ∷ []} refl refl refl made_by (word llvm KINDS (token b0 OpenBrace (codes "{")) C.sign_openbrace (rule llvm KINDS h1 (word llvm KINDS (token b2 CloseBrace (codes "}")) C.sign_closebrace (nothing llvm KINDS))))

-- value = '<' const_angle
pub value_const_angle : {v1 : Value} {x1 : List Spaced} (b0 : Text) → Reads N.const_angle v1 x1 → Reads N.value v1 (token b0 Less (codes "<") ∷ x1)
value_const_angle {v1} b0 h1 = made llvm KINDS 84 370 K.Same {cs = v1 ∷ []} refl refl refl refl (word llvm KINDS (token b0 Less (codes "<")) C.sign_less (last llvm KINDS h1))

-- value = CSTR
pub value_chars : {v : Value} (b0 t0 : Text) → value_by (K.Detail D.Chars) (TextV t0 ∷ []) ≡ Some v → Reads N.value v (token b0 CStr t0 ∷ [])
value_chars b0 t0 made_by = made llvm KINDS 84 371 (K.Detail D.Chars) {cs = TextV t0 ∷ []} refl refl refl made_by (leaf llvm KINDS (token b0 CStr t0) (C.kind_cstr t0) (nothing llvm KINDS))

-- value = 'splat' '(' tconst ')'
pub value_splat : {v v2 : Value} {x2 : List Spaced} (b0 b1 b3 : Text) → Reads N.tconst v2 x2 → value_by (K.Detail D.Splat) (v2 ∷ []) ≡ Some v → Reads N.value v (token b0 Word (codes "splat") ∷ (token b1 OpenParen (codes "(") ∷ (x2 ++ (token b3 CloseParen (codes ")") ∷ []))))
value_splat {v2} b0 b1 b3 h2 made_by =
    made llvm KINDS 84 372 (K.Detail D.Splat) {cs = v2 ∷ []} refl refl refl made_by (word llvm KINDS (token b0 Word (codes "splat")) C.word_splat (word llvm KINDS (token b1 OpenParen (codes "(")) C.sign_openparen (rule llvm KINDS h2 (word llvm KINDS (token b3 CloseParen (codes ")")) C.sign_closeparen (nothing llvm KINDS)))))

-- typed = type value
pub typed : {v v0 v1 : Value} {x0 x1 : List Spaced} → Reads N.type v0 x0 → Reads N.value v1 x1 → value_by (K.Typed T.Typed) (v0 ∷ v1 ∷ []) ≡ Some v → Reads N.typed v (x0 ++ x1)
typed {v0} {v1} h0 h1 made_by = made llvm KINDS 85 378 (K.Typed T.Typed) {cs = v0 ∷ v1 ∷ []} refl refl refl made_by (rule llvm KINDS h0 (last llvm KINDS h1))

-- pair = type value ',' value
pub pair : {v v0 v1 v3 : Value} {x0 x1 x3 : List Spaced} (b2 : Text) → Reads N.type v0 x0 → Reads N.value v1 x1 → Reads N.value v3 x3 → value_by (K.Typed T.Pair) (v0 ∷ v1 ∷ v3 ∷ []) ≡ Some v → Reads N.pair v (x0 ++ (x1 ++ (token b2 Comma (codes ",") ∷ x3)))
pair {v0} {v1} {v3} b2 h0 h1 h3 made_by =
    made llvm KINDS 86 379 (K.Typed T.Pair) {cs = v0 ∷ v1 ∷ v3 ∷ []} refl refl refl made_by (rule llvm KINDS h0 (rule llvm KINDS h1 (word llvm KINDS (token b2 Comma (codes ",")) C.sign_comma (last llvm KINDS h3))))

-- tconst = type const
pub tconst_typed : {v v0 v1 : Value} {x0 x1 : List Spaced} → Reads N.type v0 x0 → Reads N.const v1 x1 → value_by (K.Typed T.Typed) (v0 ∷ v1 ∷ []) ≡ Some v → Reads N.tconst v (x0 ++ x1)
tconst_typed {v0} {v1} h0 h1 made_by = made llvm KINDS 71 299 (K.Typed T.Typed) {cs = v0 ∷ v1 ∷ []} refl refl refl made_by (rule llvm KINDS h0 (last llvm KINDS h1))

-- const = INT
pub const_literal_int : {v : Value} (b0 t0 : Text) → value_by (K.Detail D.Literal) (TextV t0 ∷ []) ≡ Some v → Reads N.const v (token b0 Int t0 ∷ [])
const_literal_int b0 t0 made_by = made llvm KINDS 72 300 (K.Detail D.Literal) {cs = TextV t0 ∷ []} refl refl refl made_by (leaf llvm KINDS (token b0 Int t0) (C.kind_int t0) (nothing llvm KINDS))

-- const = CONST
pub const_literal_false : {v : Value} (b0 : Text) → value_by (K.Detail D.Literal) (TextV (codes "false") ∷ []) ≡ Some v → Reads N.const v (token b0 Word (codes "false") ∷ [])
const_literal_false b0 made_by =
    made llvm KINDS 72 301 (K.Detail D.Literal) {cs = TextV (codes "false") ∷ []} refl refl refl made_by (leaf llvm KINDS (token b0 Word (codes "false")) C.word_false (nothing llvm KINDS))

-- const = CONST
pub const_literal_poison : {v : Value} (b0 : Text) → value_by (K.Detail D.Literal) (TextV (codes "poison") ∷ []) ≡ Some v → Reads N.const v (token b0 Word (codes "poison") ∷ [])
const_literal_poison b0 made_by =
    made llvm KINDS 72 301 (K.Detail D.Literal) {cs = TextV (codes "poison") ∷ []} refl refl refl made_by (leaf llvm KINDS (token b0 Word (codes "poison")) C.word_poison (nothing llvm KINDS))

-- const = CONST
pub const_literal_true : {v : Value} (b0 : Text) → value_by (K.Detail D.Literal) (TextV (codes "true") ∷ []) ≡ Some v → Reads N.const v (token b0 Word (codes "true") ∷ [])
const_literal_true b0 made_by =
    made llvm KINDS 72 301 (K.Detail D.Literal) {cs = TextV (codes "true") ∷ []} refl refl refl made_by (leaf llvm KINDS (token b0 Word (codes "true")) C.word_true (nothing llvm KINDS))

-- const = CONST
pub const_literal_undef : {v : Value} (b0 : Text) → value_by (K.Detail D.Literal) (TextV (codes "undef") ∷ []) ≡ Some v → Reads N.const v (token b0 Word (codes "undef") ∷ [])
const_literal_undef b0 made_by =
    made llvm KINDS 72 301 (K.Detail D.Literal) {cs = TextV (codes "undef") ∷ []} refl refl refl made_by (leaf llvm KINDS (token b0 Word (codes "undef")) C.word_undef (nothing llvm KINDS))

-- const = CONST
pub const_literal_zeroinitializer : {v : Value} (b0 : Text) → value_by (K.Detail D.Literal) (TextV (codes "zeroinitializer") ∷ []) ≡ Some v → Reads N.const v (token b0 Word (codes "zeroinitializer") ∷ [])
const_literal_zeroinitializer b0 made_by =
    made llvm KINDS 72 301 (K.Detail D.Literal) {cs = TextV (codes "zeroinitializer") ∷ []} refl refl refl made_by (leaf llvm KINDS (token b0 Word (codes "zeroinitializer")) C.word_zeroinitializer (nothing llvm KINDS))

-- const = 'null'
pub const_null : {v : Value} (b0 : Text) → value_by (K.Detail D.Null) [] ≡ Some v → Reads N.const v (token b0 Word (codes "null") ∷ [])
const_null b0 made_by = made llvm KINDS 72 302 (K.Detail D.Null) {cs = []} refl refl refl made_by (word llvm KINDS (token b0 Word (codes "null")) C.word_null (nothing llvm KINDS))

-- const = '[' tconsts ']'
pub const_inarray : {v v1 : Value} {x1 : List Spaced} (b0 b2 : Text) → Reads N.tconsts v1 x1 → value_by (K.List L.InArray) (v1 ∷ []) ≡ Some v → Reads N.const v (token b0 OpenBracket (codes "[") ∷ (x1 ++ (token b2 CloseBracket (codes "]") ∷ [])))
const_inarray {v1} b0 b2 h1 made_by =
    made llvm KINDS 72 303 (K.List L.InArray) {cs = v1 ∷ []} refl refl refl made_by (word llvm KINDS (token b0 OpenBracket (codes "[")) C.sign_openbracket (rule llvm KINDS h1 (word llvm KINDS (token b2 CloseBracket (codes "]")) C.sign_closebracket (nothing llvm KINDS))))

-- const = '{' tconsts '}'
pub const_instruct : {v v1 : Value} {x1 : List Spaced} (b0 b2 : Text) → Reads N.tconsts v1 x1 → value_by (K.List L.InStruct) (v1 ∷ []) ≡ Some v → Reads N.const v (token b0 OpenBrace (codes "{") ∷ (x1 ++ (token b2 CloseBrace (codes "}") ∷ [])))
const_instruct {v1} b0 b2 h1 made_by =
    made llvm KINDS 72 304 (K.List L.InStruct) {cs = v1 ∷ []} refl refl refl made_by (word llvm KINDS (token b0 OpenBrace (codes "{")) C.sign_openbrace (rule llvm KINDS h1 (word llvm KINDS (token b2 CloseBrace (codes "}")) C.sign_closebrace (nothing llvm KINDS))))

-- const = '<' const_angle
pub const_const_angle : {v1 : Value} {x1 : List Spaced} (b0 : Text) → Reads N.const_angle v1 x1 → Reads N.const v1 (token b0 Less (codes "<") ∷ x1)
const_const_angle {v1} b0 h1 = made llvm KINDS 72 305 K.Same {cs = v1 ∷ []} refl refl refl refl (word llvm KINDS (token b0 Less (codes "<")) C.sign_less (last llvm KINDS h1))

-- const = CSTR
pub const_chars : {v : Value} (b0 t0 : Text) → value_by (K.Detail D.Chars) (TextV t0 ∷ []) ≡ Some v → Reads N.const v (token b0 CStr t0 ∷ [])
const_chars b0 t0 made_by = made llvm KINDS 72 306 (K.Detail D.Chars) {cs = TextV t0 ∷ []} refl refl refl made_by (leaf llvm KINDS (token b0 CStr t0) (C.kind_cstr t0) (nothing llvm KINDS))

-- const = 'splat' '(' tconst ')'
pub const_splat : {v v2 : Value} {x2 : List Spaced} (b0 b1 b3 : Text) → Reads N.tconst v2 x2 → value_by (K.Detail D.Splat) (v2 ∷ []) ≡ Some v → Reads N.const v (token b0 Word (codes "splat") ∷ (token b1 OpenParen (codes "(") ∷ (x2 ++ (token b3 CloseParen (codes ")") ∷ []))))
const_splat {v2} b0 b1 b3 h2 made_by =
    made llvm KINDS 72 307 (K.Detail D.Splat) {cs = v2 ∷ []} refl refl refl made_by (word llvm KINDS (token b0 Word (codes "splat")) C.word_splat (word llvm KINDS (token b1 OpenParen (codes "(")) C.sign_openparen (rule llvm KINDS h2 (word llvm KINDS (token b3 CloseParen (codes ")")) C.sign_closeparen (nothing llvm KINDS)))))

-- tconsts = tconst more_tconsts
pub tconsts_more : {v v0 v1 : Value} {x0 x1 : List Spaced} → Reads N.tconst v0 x0 → Reads N.more_tconsts v1 x1 → value_by (K.List L.ConstsMore) (v0 ∷ v1 ∷ []) ≡ Some v → Reads N.tconsts v (x0 ++ x1)
tconsts_more {v0} {v1} h0 h1 made_by = made llvm KINDS 79 325 (K.List L.ConstsMore) {cs = v0 ∷ v1 ∷ []} refl refl refl made_by (rule llvm KINDS h0 (last llvm KINDS h1))

-- tconsts = nothing
pub tconsts_end : {v : Value} → value_by (K.List L.ConstsEnd) [] ≡ Some v → Reads N.tconsts v []
tconsts_end made_by = made llvm KINDS 79 326 (K.List L.ConstsEnd) {cs = []} refl refl refl made_by (nothing llvm KINDS)

-- more_tconsts = ',' tconst more_tconsts
pub more_tconsts_more : {v v1 v2 : Value} {x1 x2 : List Spaced} (b0 : Text) → Reads N.tconst v1 x1 → Reads N.more_tconsts v2 x2 → value_by (K.List L.ConstsMore) (v1 ∷ v2 ∷ []) ≡ Some v → Reads N.more_tconsts v (token b0 Comma (codes ",") ∷ (x1 ++ x2))
more_tconsts_more {v1} {v2} b0 h1 h2 made_by =
    made llvm KINDS 80 327 (K.List L.ConstsMore) {cs = v1 ∷ v2 ∷ []} refl refl refl made_by (word llvm KINDS (token b0 Comma (codes ",")) C.sign_comma (rule llvm KINDS h1 (last llvm KINDS h2)))

-- more_tconsts = nothing
pub more_tconsts_end : {v : Value} → value_by (K.List L.ConstsEnd) [] ≡ Some v → Reads N.more_tconsts v []
more_tconsts_end made_by = made llvm KINDS 80 328 (K.List L.ConstsEnd) {cs = []} refl refl refl made_by (nothing llvm KINDS)

-- const_angle = '{' const_brace
pub const_angle_const_brace : {v1 : Value} {x1 : List Spaced} (b0 : Text) → Reads N.const_brace v1 x1 → Reads N.const_angle v1 (token b0 OpenBrace (codes "{") ∷ x1)
const_angle_const_brace {v1} b0 h1 = made llvm KINDS 73 313 K.Same {cs = v1 ∷ []} refl refl refl refl (word llvm KINDS (token b0 OpenBrace (codes "{")) C.sign_openbrace (last llvm KINDS h1))

-- const_angle = flat const more_tconsts '>'
pub const_angle_invector : {v v0 v1 v2 : Value} {x0 x1 x2 : List Spaced} (b3 : Text) → Reads N.flat v0 x0 → Reads N.const v1 x1 → Reads N.more_tconsts v2 x2 → value_by (K.Typed T.InVector) (v0 ∷ v1 ∷ v2 ∷ []) ≡ Some v → Reads N.const_angle v (x0 ++ (x1 ++ (x2 ++ (token b3 Greater (codes ">") ∷ []))))
const_angle_invector {v0} {v1} {v2} b3 h0 h1 h2 made_by =
    made llvm KINDS 73 314 (K.Typed T.InVector) {cs = v0 ∷ v1 ∷ v2 ∷ []} refl refl refl made_by (rule llvm KINDS h0 (rule llvm KINDS h1 (rule llvm KINDS h2 (word llvm KINDS (token b3 Greater (codes ">")) C.sign_greater (nothing llvm KINDS)))))

-- const_brace = '}' const_empty
pub const_brace_const_empty : {v1 : Value} {x1 : List Spaced} (b0 : Text) → Reads N.const_empty v1 x1 → Reads N.const_brace v1 (token b0 CloseBrace (codes "}") ∷ x1)
const_brace_const_empty {v1} b0 h1 = made llvm KINDS 74 316 K.Same {cs = v1 ∷ []} refl refl refl refl (word llvm KINDS (token b0 CloseBrace (codes "}")) C.sign_closebrace (last llvm KINDS h1))

-- const_brace = type const_braced
pub const_brace_inpacked : {v v0 v1 : Value} {x0 x1 : List Spaced} → Reads N.type v0 x0 → Reads N.const_braced v1 x1 → value_by (K.Typed T.InPacked) (v0 ∷ v1 ∷ []) ≡ Some v → Reads N.const_brace v (x0 ++ x1)
const_brace_inpacked {v0} {v1} h0 h1 made_by = made llvm KINDS 74 317 (K.Typed T.InPacked) {cs = v0 ∷ v1 ∷ []} refl refl refl made_by (rule llvm KINDS h0 (last llvm KINDS h1))

-- const_empty = '>'
pub const_empty_nonepacked : {v : Value} (b0 : Text) → value_by (K.List L.NonePacked) [] ≡ Some v → Reads N.const_empty v (token b0 Greater (codes ">") ∷ [])
const_empty_nonepacked b0 made_by = made llvm KINDS 75 318 (K.List L.NonePacked) {cs = []} refl refl refl made_by (word llvm KINDS (token b0 Greater (codes ">")) C.sign_greater (nothing llvm KINDS))

-- const_braced = const more_tconsts '}' '>'
pub const_braced_braced : {v v0 v1 : Value} {x0 x1 : List Spaced} (b2 b3 : Text) → Reads N.const v0 x0 → Reads N.more_tconsts v1 x1 → value_by (K.List L.Braced) (v0 ∷ v1 ∷ []) ≡ Some v → Reads N.const_braced v (x0 ++ (x1 ++ (token b2 CloseBrace (codes "}") ∷ token b3 Greater (codes ">") ∷ [])))
const_braced_braced {v0} {v1} b2 b3 h0 h1 made_by =
    made llvm KINDS 76 320 (K.List L.Braced) {cs = v0 ∷ v1 ∷ []} refl refl refl made_by (rule llvm KINDS h0 (rule llvm KINDS h1 (word llvm KINDS (token b2 CloseBrace (codes "}")) C.sign_closebrace (word llvm KINDS (token b3 Greater (codes ">")) C.sign_greater (nothing llvm KINDS)))))

-- flat = INTTYPE
pub flat_int : {v : Value} (b0 t0 : Text) → llvm_class Word t0 ≡ C.inttype → value_by (K.Typed T.Int) (TextV t0 ∷ []) ≡ Some v → Reads N.flat v (token b0 Word t0 ∷ [])
flat_int b0 t0 h0 made_by = made llvm KINDS 62 276 (K.Typed T.Int) {cs = TextV t0 ∷ []} refl refl refl made_by (leaf llvm KINDS (token b0 Word t0) h0 (nothing llvm KINDS))

-- flat = 'ptr' space
pub flat_pointer : {v v1 : Value} {x1 : List Spaced} (b0 : Text) → Reads N.space v1 x1 → value_by (K.Typed T.Pointer) (v1 ∷ []) ≡ Some v → Reads N.flat v (token b0 Word (codes "ptr") ∷ x1)
flat_pointer {v1} b0 h1 made_by = made llvm KINDS 62 277 (K.Typed T.Pointer) {cs = v1 ∷ []} refl refl refl made_by (word llvm KINDS (token b0 Word (codes "ptr")) C.word_ptr (last llvm KINDS h1))

-- flat = FLAT
pub flat : {v : Value} (b0 t0 : Text) → llvm_class Word t0 ≡ C.flat → value_by (K.Typed T.Flat) (TextV t0 ∷ []) ≡ Some v → Reads N.flat v (token b0 Word t0 ∷ [])
flat b0 t0 h0 made_by = made llvm KINDS 62 278 (K.Typed T.Flat) {cs = TextV t0 ∷ []} refl refl refl made_by (leaf llvm KINDS (token b0 Word t0) h0 (nothing llvm KINDS))

-- inst = simple attached
pub inst : {v v0 v1 : Value} {x0 x1 : List Spaced} → Reads N.simple v0 x0 → Reads N.attached v1 x1 → value_by (K.Detail D.Inst) (v0 ∷ v1 ∷ []) ≡ Some v → Reads N.inst v (x0 ++ x1)
inst {v0} {v1} h0 h1 made_by = made llvm KINDS 82 331 (K.Detail D.Inst) {cs = v0 ∷ v1 ∷ []} refl refl refl made_by (rule llvm KINDS h0 (last llvm KINDS h1))

-- inst = 'phi' type entry more_entries
pub inst_phi : {v v1 v2 v3 : Value} {x1 x2 x3 : List Spaced} (b0 : Text) → Reads N.type v1 x1 → Reads N.entry v2 x2 → Reads N.more_entries v3 x3 → value_by (K.Typed T.Phi) (v1 ∷ v2 ∷ v3 ∷ []) ≡ Some v → Reads N.inst v (token b0 Word (codes "phi") ∷ (x1 ++ (x2 ++ x3)))
inst_phi {v1} {v2} {v3} b0 h1 h2 h3 made_by =
    made llvm KINDS 82 340 (K.Typed T.Phi) {cs = v1 ∷ v2 ∷ v3 ∷ []} refl refl refl made_by (word llvm KINDS (token b0 Word (codes "phi")) C.word_phi (rule llvm KINDS h1 (rule llvm KINDS h2 (last llvm KINDS h3))))

-- inst = 'load' load
pub inst_load : {v1 : Value} {x1 : List Spaced} (b0 : Text) → Reads N.load v1 x1 → Reads N.inst v1 (token b0 Word (codes "load") ∷ x1)
inst_load {v1} b0 h1 = made llvm KINDS 82 333 K.Same {cs = v1 ∷ []} refl refl refl refl (word llvm KINDS (token b0 Word (codes "load")) C.word_load (last llvm KINDS h1))

-- inst = 'store' store
pub inst_store : {v1 : Value} {x1 : List Spaced} (b0 : Text) → Reads N.store v1 x1 → Reads N.inst v1 (token b0 Word (codes "store") ∷ x1)
inst_store {v1} b0 h1 = made llvm KINDS 82 334 K.Same {cs = v1 ∷ []} refl refl refl refl (word llvm KINDS (token b0 Word (codes "store")) C.word_store (last llvm KINDS h1))

-- attached = nothing
pub attached_none : Reads N.attached NoneV []
attached_none = made llvm KINDS 147 495 K.Nothing {cs = []} refl refl refl refl (nothing llvm KINDS)

-- entry = '[' value ',' LOCAL ']'
pub entry : {v v1 : Value} {x1 : List Spaced} (b0 b2 b3 t3 b4 : Text) → Reads N.value v1 x1 → value_by (K.Detail D.Entry) (v1 ∷ TextV t3 ∷ []) ≡ Some v → Reads N.entry v (token b0 OpenBracket (codes "[") ∷ (x1 ++ (token b2 Comma (codes ",") ∷ token b3 Local t3 ∷ token b4 CloseBracket (codes "]") ∷ [])))
entry {v1} b0 b2 b3 t3 b4 h1 made_by =
    made llvm KINDS 131 466 (K.Detail D.Entry) {cs = v1 ∷ TextV t3 ∷ []} refl refl refl made_by (word llvm KINDS (token b0 OpenBracket (codes "[")) C.sign_openbracket (rule llvm KINDS h1 (word llvm KINDS (token b2 Comma (codes ",")) C.sign_comma (leaf llvm KINDS (token b3 Local t3) (C.kind_local t3) (word llvm KINDS (token b4 CloseBracket (codes "]")) C.sign_closebracket (nothing llvm KINDS))))))

-- more_entries = ',' entry_or_node
pub more_entries_entry_or_node : {v1 : Value} {x1 : List Spaced} (b0 : Text) → Reads N.entry_or_node v1 x1 → Reads N.more_entries v1 (token b0 Comma (codes ",") ∷ x1)
more_entries_entry_or_node {v1} b0 h1 = made llvm KINDS 132 467 K.Same {cs = v1 ∷ []} refl refl refl refl (word llvm KINDS (token b0 Comma (codes ",")) C.sign_comma (last llvm KINDS h1))

-- more_entries = nothing
pub more_entries_end : {v : Value} → value_by (K.List L.EntriesEnd) [] ≡ Some v → Reads N.more_entries v []
more_entries_end made_by = made llvm KINDS 132 468 (K.List L.EntriesEnd) {cs = []} refl refl refl made_by (nothing llvm KINDS)

-- entry_or_node = entry more_entries
pub entry_or_node_more : {v v0 v1 : Value} {x0 x1 : List Spaced} → Reads N.entry v0 x0 → Reads N.more_entries v1 x1 → value_by (K.List L.EntriesMore) (v0 ∷ v1 ∷ []) ≡ Some v → Reads N.entry_or_node v (x0 ++ x1)
entry_or_node_more {v0} {v1} h0 h1 made_by = made llvm KINDS 133 469 (K.List L.EntriesMore) {cs = v0 ∷ v1 ∷ []} refl refl refl made_by (rule llvm KINDS h0 (last llvm KINDS h1))

-- simple = 'ret' ret
pub simple_return : {v v1 : Value} {x1 : List Spaced} (b0 : Text) → Reads N.ret v1 x1 → value_by (K.Row R.Return) (v1 ∷ []) ≡ Some v → Reads N.simple v (token b0 Word (codes "ret") ∷ x1)
simple_return {v1} b0 h1 made_by = made llvm KINDS 83 341 (K.Row R.Return) {cs = v1 ∷ []} refl refl refl made_by (word llvm KINDS (token b0 Word (codes "ret")) C.word_ret (last llvm KINDS h1))

-- simple = 'br' br
pub simple_br : {v1 : Value} {x1 : List Spaced} (b0 : Text) → Reads N.br v1 x1 → Reads N.simple v1 (token b0 Word (codes "br") ∷ x1)
simple_br {v1} b0 h1 = made llvm KINDS 83 342 K.Same {cs = v1 ∷ []} refl refl refl refl (word llvm KINDS (token b0 Word (codes "br")) C.word_br (last llvm KINDS h1))

-- simple = 'unreachable'
pub simple_unreachable : {v : Value} (b0 : Text) → value_by (K.Row R.Unreachable) [] ≡ Some v → Reads N.simple v (token b0 Word (codes "unreachable") ∷ [])
simple_unreachable b0 made_by =
    made llvm KINDS 83 345 (K.Row R.Unreachable) {cs = []} refl refl refl made_by (word llvm KINDS (token b0 Word (codes "unreachable")) C.word_unreachable (nothing llvm KINDS))

-- simple = CONST_SUM_RMW_KIND_SUM wraps pair
pub simple_sum_add : {v v1 v2 : Value} {x1 x2 : List Spaced} (b0 : Text) → Reads N.wraps v1 x1 → Reads N.pair v2 x2 → value_by (K.Row R.Sum) (TextV (codes "add") ∷ v1 ∷ v2 ∷ []) ≡ Some v → Reads N.simple v (token b0 Word (codes "add") ∷ (x1 ++ x2))
simple_sum_add {v1} {v2} b0 h1 h2 made_by =
    made llvm KINDS 83 346 (K.Row R.Sum) {cs = TextV (codes "add") ∷ v1 ∷ v2 ∷ []} refl refl refl made_by (leaf llvm KINDS (token b0 Word (codes "add")) C.word_add (rule llvm KINDS h1 (last llvm KINDS h2)))

-- simple = CONST_SUM_RMW_KIND_SUM wraps pair
pub simple_sum_sub : {v v1 v2 : Value} {x1 x2 : List Spaced} (b0 : Text) → Reads N.wraps v1 x1 → Reads N.pair v2 x2 → value_by (K.Row R.Sum) (TextV (codes "sub") ∷ v1 ∷ v2 ∷ []) ≡ Some v → Reads N.simple v (token b0 Word (codes "sub") ∷ (x1 ++ x2))
simple_sum_sub {v1} {v2} b0 h1 h2 made_by =
    made llvm KINDS 83 346 (K.Row R.Sum) {cs = TextV (codes "sub") ∷ v1 ∷ v2 ∷ []} refl refl refl made_by (leaf llvm KINDS (token b0 Word (codes "sub")) C.word_sub (rule llvm KINDS h1 (last llvm KINDS h2)))

-- simple = SUM wraps pair
pub simple_sum_mul : {v v1 v2 : Value} {x1 x2 : List Spaced} (b0 : Text) → Reads N.wraps v1 x1 → Reads N.pair v2 x2 → value_by (K.Row R.Sum) (TextV (codes "mul") ∷ v1 ∷ v2 ∷ []) ≡ Some v → Reads N.simple v (token b0 Word (codes "mul") ∷ (x1 ++ x2))
simple_sum_mul {v1} {v2} b0 h1 h2 made_by =
    made llvm KINDS 83 347 (K.Row R.Sum) {cs = TextV (codes "mul") ∷ v1 ∷ v2 ∷ []} refl refl refl made_by (leaf llvm KINDS (token b0 Word (codes "mul")) C.word_mul (rule llvm KINDS h1 (last llvm KINDS h2)))

-- simple = SUM wraps pair
pub simple_sum_shl : {v v1 v2 : Value} {x1 x2 : List Spaced} (b0 : Text) → Reads N.wraps v1 x1 → Reads N.pair v2 x2 → value_by (K.Row R.Sum) (TextV (codes "shl") ∷ v1 ∷ v2 ∷ []) ≡ Some v → Reads N.simple v (token b0 Word (codes "shl") ∷ (x1 ++ x2))
simple_sum_shl {v1} {v2} b0 h1 h2 made_by =
    made llvm KINDS 83 347 (K.Row R.Sum) {cs = TextV (codes "shl") ∷ v1 ∷ v2 ∷ []} refl refl refl made_by (leaf llvm KINDS (token b0 Word (codes "shl")) C.word_shl (rule llvm KINDS h1 (last llvm KINDS h2)))

-- simple = QUOTIENT lost_exact pair
pub simple_quotient_ashr : {v v1 v2 : Value} {x1 x2 : List Spaced} (b0 : Text) → Reads N.lost_exact v1 x1 → Reads N.pair v2 x2 → value_by (K.Row R.Quotient) (TextV (codes "ashr") ∷ v1 ∷ v2 ∷ []) ≡ Some v → Reads N.simple v (token b0 Word (codes "ashr") ∷ (x1 ++ x2))
simple_quotient_ashr {v1} {v2} b0 h1 h2 made_by =
    made llvm KINDS 83 348 (K.Row R.Quotient) {cs = TextV (codes "ashr") ∷ v1 ∷ v2 ∷ []} refl refl refl made_by (leaf llvm KINDS (token b0 Word (codes "ashr")) C.word_ashr (rule llvm KINDS h1 (last llvm KINDS h2)))

-- simple = QUOTIENT lost_exact pair
pub simple_quotient_lshr : {v v1 v2 : Value} {x1 x2 : List Spaced} (b0 : Text) → Reads N.lost_exact v1 x1 → Reads N.pair v2 x2 → value_by (K.Row R.Quotient) (TextV (codes "lshr") ∷ v1 ∷ v2 ∷ []) ≡ Some v → Reads N.simple v (token b0 Word (codes "lshr") ∷ (x1 ++ x2))
simple_quotient_lshr {v1} {v2} b0 h1 h2 made_by =
    made llvm KINDS 83 348 (K.Row R.Quotient) {cs = TextV (codes "lshr") ∷ v1 ∷ v2 ∷ []} refl refl refl made_by (leaf llvm KINDS (token b0 Word (codes "lshr")) C.word_lshr (rule llvm KINDS h1 (last llvm KINDS h2)))

-- simple = QUOTIENT lost_exact pair
pub simple_quotient_sdiv : {v v1 v2 : Value} {x1 x2 : List Spaced} (b0 : Text) → Reads N.lost_exact v1 x1 → Reads N.pair v2 x2 → value_by (K.Row R.Quotient) (TextV (codes "sdiv") ∷ v1 ∷ v2 ∷ []) ≡ Some v → Reads N.simple v (token b0 Word (codes "sdiv") ∷ (x1 ++ x2))
simple_quotient_sdiv {v1} {v2} b0 h1 h2 made_by =
    made llvm KINDS 83 348 (K.Row R.Quotient) {cs = TextV (codes "sdiv") ∷ v1 ∷ v2 ∷ []} refl refl refl made_by (leaf llvm KINDS (token b0 Word (codes "sdiv")) C.word_sdiv (rule llvm KINDS h1 (last llvm KINDS h2)))

-- simple = QUOTIENT lost_exact pair
pub simple_quotient_udiv : {v v1 v2 : Value} {x1 x2 : List Spaced} (b0 : Text) → Reads N.lost_exact v1 x1 → Reads N.pair v2 x2 → value_by (K.Row R.Quotient) (TextV (codes "udiv") ∷ v1 ∷ v2 ∷ []) ≡ Some v → Reads N.simple v (token b0 Word (codes "udiv") ∷ (x1 ++ x2))
simple_quotient_udiv {v1} {v2} b0 h1 h2 made_by =
    made llvm KINDS 83 348 (K.Row R.Quotient) {cs = TextV (codes "udiv") ∷ v1 ∷ v2 ∷ []} refl refl refl made_by (leaf llvm KINDS (token b0 Word (codes "udiv")) C.word_udiv (rule llvm KINDS h1 (last llvm KINDS h2)))

-- simple = BITS pair
pub simple_bits_srem : {v v1 : Value} {x1 : List Spaced} (b0 : Text) → Reads N.pair v1 x1 → value_by (K.Row R.Bits) (TextV (codes "srem") ∷ v1 ∷ []) ≡ Some v → Reads N.simple v (token b0 Word (codes "srem") ∷ x1)
simple_bits_srem {v1} b0 h1 made_by =
    made llvm KINDS 83 349 (K.Row R.Bits) {cs = TextV (codes "srem") ∷ v1 ∷ []} refl refl refl made_by (leaf llvm KINDS (token b0 Word (codes "srem")) C.word_srem (last llvm KINDS h1))

-- simple = BITS pair
pub simple_bits_urem : {v v1 : Value} {x1 : List Spaced} (b0 : Text) → Reads N.pair v1 x1 → value_by (K.Row R.Bits) (TextV (codes "urem") ∷ v1 ∷ []) ≡ Some v → Reads N.simple v (token b0 Word (codes "urem") ∷ x1)
simple_bits_urem {v1} b0 h1 made_by =
    made llvm KINDS 83 349 (K.Row R.Bits) {cs = TextV (codes "urem") ∷ v1 ∷ []} refl refl refl made_by (leaf llvm KINDS (token b0 Word (codes "urem")) C.word_urem (last llvm KINDS h1))

-- simple = BITS_RMW_KIND pair
pub simple_bits_and : {v v1 : Value} {x1 : List Spaced} (b0 : Text) → Reads N.pair v1 x1 → value_by (K.Row R.Bits) (TextV (codes "and") ∷ v1 ∷ []) ≡ Some v → Reads N.simple v (token b0 Word (codes "and") ∷ x1)
simple_bits_and {v1} b0 h1 made_by =
    made llvm KINDS 83 350 (K.Row R.Bits) {cs = TextV (codes "and") ∷ v1 ∷ []} refl refl refl made_by (leaf llvm KINDS (token b0 Word (codes "and")) C.word_and (last llvm KINDS h1))

-- simple = BITS_RMW_KIND pair
pub simple_bits_xor : {v v1 : Value} {x1 : List Spaced} (b0 : Text) → Reads N.pair v1 x1 → value_by (K.Row R.Bits) (TextV (codes "xor") ∷ v1 ∷ []) ≡ Some v → Reads N.simple v (token b0 Word (codes "xor") ∷ x1)
simple_bits_xor {v1} b0 h1 made_by =
    made llvm KINDS 83 350 (K.Row R.Bits) {cs = TextV (codes "xor") ∷ v1 ∷ []} refl refl refl made_by (leaf llvm KINDS (token b0 Word (codes "xor")) C.word_xor (last llvm KINDS h1))

-- simple = 'or' lost_disjoint pair
pub simple_or : {v v1 v2 : Value} {x1 x2 : List Spaced} (b0 : Text) → Reads N.lost_disjoint v1 x1 → Reads N.pair v2 x2 → value_by (K.Row R.Or) (v1 ∷ v2 ∷ []) ≡ Some v → Reads N.simple v (token b0 Word (codes "or") ∷ (x1 ++ x2))
simple_or {v1} {v2} b0 h1 h2 made_by =
    made llvm KINDS 83 351 (K.Row R.Or) {cs = v1 ∷ v2 ∷ []} refl refl refl made_by (word llvm KINDS (token b0 Word (codes "or")) C.word_or (rule llvm KINDS h1 (last llvm KINDS h2)))

-- simple = 'icmp' lost_samesign PREDICATE pair
pub simple_icmp_eq : {v v1 v3 : Value} {x1 x3 : List Spaced} (b0 b2 : Text) → Reads N.lost_samesign v1 x1 → Reads N.pair v3 x3 → value_by (K.Row R.ICmp) (v1 ∷ TextV (codes "eq") ∷ v3 ∷ []) ≡ Some v → Reads N.simple v (token b0 Word (codes "icmp") ∷ (x1 ++ (token b2 Word (codes "eq") ∷ x3)))
simple_icmp_eq {v1} {v3} b0 b2 h1 h3 made_by =
    made llvm KINDS 83 352 (K.Row R.ICmp) {cs = v1 ∷ TextV (codes "eq") ∷ v3 ∷ []} refl refl refl made_by (word llvm KINDS (token b0 Word (codes "icmp")) C.word_icmp (rule llvm KINDS h1 (leaf llvm KINDS (token b2 Word (codes "eq")) C.word_eq (last llvm KINDS h3))))

-- simple = 'icmp' lost_samesign PREDICATE pair
pub simple_icmp_ne : {v v1 v3 : Value} {x1 x3 : List Spaced} (b0 b2 : Text) → Reads N.lost_samesign v1 x1 → Reads N.pair v3 x3 → value_by (K.Row R.ICmp) (v1 ∷ TextV (codes "ne") ∷ v3 ∷ []) ≡ Some v → Reads N.simple v (token b0 Word (codes "icmp") ∷ (x1 ++ (token b2 Word (codes "ne") ∷ x3)))
simple_icmp_ne {v1} {v3} b0 b2 h1 h3 made_by =
    made llvm KINDS 83 352 (K.Row R.ICmp) {cs = v1 ∷ TextV (codes "ne") ∷ v3 ∷ []} refl refl refl made_by (word llvm KINDS (token b0 Word (codes "icmp")) C.word_icmp (rule llvm KINDS h1 (leaf llvm KINDS (token b2 Word (codes "ne")) C.word_ne (last llvm KINDS h3))))

-- simple = 'icmp' lost_samesign PREDICATE pair
pub simple_icmp_sge : {v v1 v3 : Value} {x1 x3 : List Spaced} (b0 b2 : Text) → Reads N.lost_samesign v1 x1 → Reads N.pair v3 x3 → value_by (K.Row R.ICmp) (v1 ∷ TextV (codes "sge") ∷ v3 ∷ []) ≡ Some v → Reads N.simple v (token b0 Word (codes "icmp") ∷ (x1 ++ (token b2 Word (codes "sge") ∷ x3)))
simple_icmp_sge {v1} {v3} b0 b2 h1 h3 made_by =
    made llvm KINDS 83 352 (K.Row R.ICmp) {cs = v1 ∷ TextV (codes "sge") ∷ v3 ∷ []} refl refl refl made_by (word llvm KINDS (token b0 Word (codes "icmp")) C.word_icmp (rule llvm KINDS h1 (leaf llvm KINDS (token b2 Word (codes "sge")) C.word_sge (last llvm KINDS h3))))

-- simple = 'icmp' lost_samesign PREDICATE pair
pub simple_icmp_sgt : {v v1 v3 : Value} {x1 x3 : List Spaced} (b0 b2 : Text) → Reads N.lost_samesign v1 x1 → Reads N.pair v3 x3 → value_by (K.Row R.ICmp) (v1 ∷ TextV (codes "sgt") ∷ v3 ∷ []) ≡ Some v → Reads N.simple v (token b0 Word (codes "icmp") ∷ (x1 ++ (token b2 Word (codes "sgt") ∷ x3)))
simple_icmp_sgt {v1} {v3} b0 b2 h1 h3 made_by =
    made llvm KINDS 83 352 (K.Row R.ICmp) {cs = v1 ∷ TextV (codes "sgt") ∷ v3 ∷ []} refl refl refl made_by (word llvm KINDS (token b0 Word (codes "icmp")) C.word_icmp (rule llvm KINDS h1 (leaf llvm KINDS (token b2 Word (codes "sgt")) C.word_sgt (last llvm KINDS h3))))

-- simple = 'icmp' lost_samesign PREDICATE pair
pub simple_icmp_sle : {v v1 v3 : Value} {x1 x3 : List Spaced} (b0 b2 : Text) → Reads N.lost_samesign v1 x1 → Reads N.pair v3 x3 → value_by (K.Row R.ICmp) (v1 ∷ TextV (codes "sle") ∷ v3 ∷ []) ≡ Some v → Reads N.simple v (token b0 Word (codes "icmp") ∷ (x1 ++ (token b2 Word (codes "sle") ∷ x3)))
simple_icmp_sle {v1} {v3} b0 b2 h1 h3 made_by =
    made llvm KINDS 83 352 (K.Row R.ICmp) {cs = v1 ∷ TextV (codes "sle") ∷ v3 ∷ []} refl refl refl made_by (word llvm KINDS (token b0 Word (codes "icmp")) C.word_icmp (rule llvm KINDS h1 (leaf llvm KINDS (token b2 Word (codes "sle")) C.word_sle (last llvm KINDS h3))))

-- simple = 'icmp' lost_samesign PREDICATE pair
pub simple_icmp_slt : {v v1 v3 : Value} {x1 x3 : List Spaced} (b0 b2 : Text) → Reads N.lost_samesign v1 x1 → Reads N.pair v3 x3 → value_by (K.Row R.ICmp) (v1 ∷ TextV (codes "slt") ∷ v3 ∷ []) ≡ Some v → Reads N.simple v (token b0 Word (codes "icmp") ∷ (x1 ++ (token b2 Word (codes "slt") ∷ x3)))
simple_icmp_slt {v1} {v3} b0 b2 h1 h3 made_by =
    made llvm KINDS 83 352 (K.Row R.ICmp) {cs = v1 ∷ TextV (codes "slt") ∷ v3 ∷ []} refl refl refl made_by (word llvm KINDS (token b0 Word (codes "icmp")) C.word_icmp (rule llvm KINDS h1 (leaf llvm KINDS (token b2 Word (codes "slt")) C.word_slt (last llvm KINDS h3))))

-- simple = 'icmp' lost_samesign PREDICATE pair
pub simple_icmp_uge : {v v1 v3 : Value} {x1 x3 : List Spaced} (b0 b2 : Text) → Reads N.lost_samesign v1 x1 → Reads N.pair v3 x3 → value_by (K.Row R.ICmp) (v1 ∷ TextV (codes "uge") ∷ v3 ∷ []) ≡ Some v → Reads N.simple v (token b0 Word (codes "icmp") ∷ (x1 ++ (token b2 Word (codes "uge") ∷ x3)))
simple_icmp_uge {v1} {v3} b0 b2 h1 h3 made_by =
    made llvm KINDS 83 352 (K.Row R.ICmp) {cs = v1 ∷ TextV (codes "uge") ∷ v3 ∷ []} refl refl refl made_by (word llvm KINDS (token b0 Word (codes "icmp")) C.word_icmp (rule llvm KINDS h1 (leaf llvm KINDS (token b2 Word (codes "uge")) C.word_uge (last llvm KINDS h3))))

-- simple = 'icmp' lost_samesign PREDICATE pair
pub simple_icmp_ugt : {v v1 v3 : Value} {x1 x3 : List Spaced} (b0 b2 : Text) → Reads N.lost_samesign v1 x1 → Reads N.pair v3 x3 → value_by (K.Row R.ICmp) (v1 ∷ TextV (codes "ugt") ∷ v3 ∷ []) ≡ Some v → Reads N.simple v (token b0 Word (codes "icmp") ∷ (x1 ++ (token b2 Word (codes "ugt") ∷ x3)))
simple_icmp_ugt {v1} {v3} b0 b2 h1 h3 made_by =
    made llvm KINDS 83 352 (K.Row R.ICmp) {cs = v1 ∷ TextV (codes "ugt") ∷ v3 ∷ []} refl refl refl made_by (word llvm KINDS (token b0 Word (codes "icmp")) C.word_icmp (rule llvm KINDS h1 (leaf llvm KINDS (token b2 Word (codes "ugt")) C.word_ugt (last llvm KINDS h3))))

-- simple = 'icmp' lost_samesign PREDICATE pair
pub simple_icmp_ule : {v v1 v3 : Value} {x1 x3 : List Spaced} (b0 b2 : Text) → Reads N.lost_samesign v1 x1 → Reads N.pair v3 x3 → value_by (K.Row R.ICmp) (v1 ∷ TextV (codes "ule") ∷ v3 ∷ []) ≡ Some v → Reads N.simple v (token b0 Word (codes "icmp") ∷ (x1 ++ (token b2 Word (codes "ule") ∷ x3)))
simple_icmp_ule {v1} {v3} b0 b2 h1 h3 made_by =
    made llvm KINDS 83 352 (K.Row R.ICmp) {cs = v1 ∷ TextV (codes "ule") ∷ v3 ∷ []} refl refl refl made_by (word llvm KINDS (token b0 Word (codes "icmp")) C.word_icmp (rule llvm KINDS h1 (leaf llvm KINDS (token b2 Word (codes "ule")) C.word_ule (last llvm KINDS h3))))

-- simple = 'icmp' lost_samesign PREDICATE pair
pub simple_icmp_ult : {v v1 v3 : Value} {x1 x3 : List Spaced} (b0 b2 : Text) → Reads N.lost_samesign v1 x1 → Reads N.pair v3 x3 → value_by (K.Row R.ICmp) (v1 ∷ TextV (codes "ult") ∷ v3 ∷ []) ≡ Some v → Reads N.simple v (token b0 Word (codes "icmp") ∷ (x1 ++ (token b2 Word (codes "ult") ∷ x3)))
simple_icmp_ult {v1} {v3} b0 b2 h1 h3 made_by =
    made llvm KINDS 83 352 (K.Row R.ICmp) {cs = v1 ∷ TextV (codes "ult") ∷ v3 ∷ []} refl refl refl made_by (word llvm KINDS (token b0 Word (codes "icmp")) C.word_icmp (rule llvm KINDS h1 (leaf llvm KINDS (token b2 Word (codes "ult")) C.word_ult (last llvm KINDS h3))))

-- simple = CAST_CONST_CAST typed 'to' type
pub simple_cast_bitcast : {v v1 v3 : Value} {x1 x3 : List Spaced} (b0 b2 : Text) → Reads N.typed v1 x1 → Reads N.type v3 x3 → value_by (K.Row R.Cast) (TextV (codes "bitcast") ∷ v1 ∷ v3 ∷ []) ≡ Some v → Reads N.simple v (token b0 Word (codes "bitcast") ∷ (x1 ++ (token b2 Word (codes "to") ∷ x3)))
simple_cast_bitcast {v1} {v3} b0 b2 h1 h3 made_by =
    made llvm KINDS 83 353 (K.Row R.Cast) {cs = TextV (codes "bitcast") ∷ v1 ∷ v3 ∷ []} refl refl refl made_by (leaf llvm KINDS (token b0 Word (codes "bitcast")) C.word_bitcast (rule llvm KINDS h1 (word llvm KINDS (token b2 Word (codes "to")) C.word_to (last llvm KINDS h3))))

-- simple = CAST_CONST_CAST typed 'to' type
pub simple_cast_inttoptr : {v v1 v3 : Value} {x1 x3 : List Spaced} (b0 b2 : Text) → Reads N.typed v1 x1 → Reads N.type v3 x3 → value_by (K.Row R.Cast) (TextV (codes "inttoptr") ∷ v1 ∷ v3 ∷ []) ≡ Some v → Reads N.simple v (token b0 Word (codes "inttoptr") ∷ (x1 ++ (token b2 Word (codes "to") ∷ x3)))
simple_cast_inttoptr {v1} {v3} b0 b2 h1 h3 made_by =
    made llvm KINDS 83 353 (K.Row R.Cast) {cs = TextV (codes "inttoptr") ∷ v1 ∷ v3 ∷ []} refl refl refl made_by (leaf llvm KINDS (token b0 Word (codes "inttoptr")) C.word_inttoptr (rule llvm KINDS h1 (word llvm KINDS (token b2 Word (codes "to")) C.word_to (last llvm KINDS h3))))

-- simple = CAST_CONST_CAST typed 'to' type
pub simple_cast_ptrtoint : {v v1 v3 : Value} {x1 x3 : List Spaced} (b0 b2 : Text) → Reads N.typed v1 x1 → Reads N.type v3 x3 → value_by (K.Row R.Cast) (TextV (codes "ptrtoint") ∷ v1 ∷ v3 ∷ []) ≡ Some v → Reads N.simple v (token b0 Word (codes "ptrtoint") ∷ (x1 ++ (token b2 Word (codes "to") ∷ x3)))
simple_cast_ptrtoint {v1} {v3} b0 b2 h1 h3 made_by =
    made llvm KINDS 83 353 (K.Row R.Cast) {cs = TextV (codes "ptrtoint") ∷ v1 ∷ v3 ∷ []} refl refl refl made_by (leaf llvm KINDS (token b0 Word (codes "ptrtoint")) C.word_ptrtoint (rule llvm KINDS h1 (word llvm KINDS (token b2 Word (codes "to")) C.word_to (last llvm KINDS h3))))

-- simple = CAST typed 'to' type
pub simple_cast_addrspacecast : {v v1 v3 : Value} {x1 x3 : List Spaced} (b0 b2 : Text) → Reads N.typed v1 x1 → Reads N.type v3 x3 → value_by (K.Row R.Cast) (TextV (codes "addrspacecast") ∷ v1 ∷ v3 ∷ []) ≡ Some v → Reads N.simple v (token b0 Word (codes "addrspacecast") ∷ (x1 ++ (token b2 Word (codes "to") ∷ x3)))
simple_cast_addrspacecast {v1} {v3} b0 b2 h1 h3 made_by =
    made llvm KINDS 83 354 (K.Row R.Cast) {cs = TextV (codes "addrspacecast") ∷ v1 ∷ v3 ∷ []} refl refl refl made_by (leaf llvm KINDS (token b0 Word (codes "addrspacecast")) C.word_addrspacecast (rule llvm KINDS h1 (word llvm KINDS (token b2 Word (codes "to")) C.word_to (last llvm KINDS h3))))

-- simple = CAST typed 'to' type
pub simple_cast_sext : {v v1 v3 : Value} {x1 x3 : List Spaced} (b0 b2 : Text) → Reads N.typed v1 x1 → Reads N.type v3 x3 → value_by (K.Row R.Cast) (TextV (codes "sext") ∷ v1 ∷ v3 ∷ []) ≡ Some v → Reads N.simple v (token b0 Word (codes "sext") ∷ (x1 ++ (token b2 Word (codes "to") ∷ x3)))
simple_cast_sext {v1} {v3} b0 b2 h1 h3 made_by =
    made llvm KINDS 83 354 (K.Row R.Cast) {cs = TextV (codes "sext") ∷ v1 ∷ v3 ∷ []} refl refl refl made_by (leaf llvm KINDS (token b0 Word (codes "sext")) C.word_sext (rule llvm KINDS h1 (word llvm KINDS (token b2 Word (codes "to")) C.word_to (last llvm KINDS h3))))

-- simple = 'trunc' lost_wraps typed 'to' type
pub simple_trunc : {v v1 v2 v4 : Value} {x1 x2 x4 : List Spaced} (b0 b3 : Text) → Reads N.lost_wraps v1 x1 → Reads N.typed v2 x2 → Reads N.type v4 x4 → value_by (K.Row R.Trunc) (v1 ∷ v2 ∷ v4 ∷ []) ≡ Some v → Reads N.simple v (token b0 Word (codes "trunc") ∷ (x1 ++ (x2 ++ (token b3 Word (codes "to") ∷ x4))))
simple_trunc {v1} {v2} {v4} b0 b3 h1 h2 h4 made_by =
    made llvm KINDS 83 355 (K.Row R.Trunc) {cs = v1 ∷ v2 ∷ v4 ∷ []} refl refl refl made_by (word llvm KINDS (token b0 Word (codes "trunc")) C.word_trunc (rule llvm KINDS h1 (rule llvm KINDS h2 (word llvm KINDS (token b3 Word (codes "to")) C.word_to (last llvm KINDS h4)))))

-- simple = 'zext' nneg typed 'to' type
pub simple_zext : {v v1 v2 v4 : Value} {x1 x2 x4 : List Spaced} (b0 b3 : Text) → Reads N.nneg v1 x1 → Reads N.typed v2 x2 → Reads N.type v4 x4 → value_by (K.Row R.ZExt) (v1 ∷ v2 ∷ v4 ∷ []) ≡ Some v → Reads N.simple v (token b0 Word (codes "zext") ∷ (x1 ++ (x2 ++ (token b3 Word (codes "to") ∷ x4))))
simple_zext {v1} {v2} {v4} b0 b3 h1 h2 h4 made_by =
    made llvm KINDS 83 356 (K.Row R.ZExt) {cs = v1 ∷ v2 ∷ v4 ∷ []} refl refl refl made_by (word llvm KINDS (token b0 Word (codes "zext")) C.word_zext (rule llvm KINDS h1 (rule llvm KINDS h2 (word llvm KINDS (token b3 Word (codes "to")) C.word_to (last llvm KINDS h4)))))

-- simple = SIMPLE typed ',' typed ',' typed
pub simple_three_insertelement : {v v1 v3 v5 : Value} {x1 x3 x5 : List Spaced} (b0 b2 b4 : Text) → Reads N.typed v1 x1 → Reads N.typed v3 x3 → Reads N.typed v5 x5 → value_by (K.Row R.Three) (TextV (codes "insertelement") ∷ v1 ∷ v3 ∷ v5 ∷ []) ≡ Some v → Reads N.simple v (token b0 Word (codes "insertelement") ∷ (x1 ++ (token b2 Comma (codes ",") ∷ (x3 ++ (token b4 Comma (codes ",") ∷ x5)))))
simple_three_insertelement {v1} {v3} {v5} b0 b2 b4 h1 h3 h5 made_by =
    made llvm KINDS 83 359 (K.Row R.Three) {cs = TextV (codes "insertelement") ∷ v1 ∷ v3 ∷ v5 ∷ []} refl refl refl made_by (leaf llvm KINDS (token b0 Word (codes "insertelement")) C.word_insertelement (rule llvm KINDS h1 (word llvm KINDS (token b2 Comma (codes ",")) C.sign_comma (rule llvm KINDS h3 (word llvm KINDS (token b4 Comma (codes ",")) C.sign_comma (last llvm KINDS h5))))))

-- simple = SIMPLE typed ',' typed ',' typed
pub simple_three_select : {v v1 v3 v5 : Value} {x1 x3 x5 : List Spaced} (b0 b2 b4 : Text) → Reads N.typed v1 x1 → Reads N.typed v3 x3 → Reads N.typed v5 x5 → value_by (K.Row R.Three) (TextV (codes "select") ∷ v1 ∷ v3 ∷ v5 ∷ []) ≡ Some v → Reads N.simple v (token b0 Word (codes "select") ∷ (x1 ++ (token b2 Comma (codes ",") ∷ (x3 ++ (token b4 Comma (codes ",") ∷ x5)))))
simple_three_select {v1} {v3} {v5} b0 b2 b4 h1 h3 h5 made_by =
    made llvm KINDS 83 359 (K.Row R.Three) {cs = TextV (codes "select") ∷ v1 ∷ v3 ∷ v5 ∷ []} refl refl refl made_by (leaf llvm KINDS (token b0 Word (codes "select")) C.word_select (rule llvm KINDS h1 (word llvm KINDS (token b2 Comma (codes ",")) C.sign_comma (rule llvm KINDS h3 (word llvm KINDS (token b4 Comma (codes ",")) C.sign_comma (last llvm KINDS h5))))))

-- simple = 'freeze' typed
pub simple_freeze : {v v1 : Value} {x1 : List Spaced} (b0 : Text) → Reads N.typed v1 x1 → value_by (K.Row R.Freeze) (v1 ∷ []) ≡ Some v → Reads N.simple v (token b0 Word (codes "freeze") ∷ x1)
simple_freeze {v1} b0 h1 made_by = made llvm KINDS 83 361 (K.Row R.Freeze) {cs = v1 ∷ []} refl refl refl made_by (word llvm KINDS (token b0 Word (codes "freeze")) C.word_freeze (last llvm KINDS h1))

-- simple = 'va_arg' typed ',' type
pub simple_vaarg : {v v1 v3 : Value} {x1 x3 : List Spaced} (b0 b2 : Text) → Reads N.typed v1 x1 → Reads N.type v3 x3 → value_by (K.Row R.VAArg) (v1 ∷ v3 ∷ []) ≡ Some v → Reads N.simple v (token b0 Word (codes "va_arg") ∷ (x1 ++ (token b2 Comma (codes ",") ∷ x3)))
simple_vaarg {v1} {v3} b0 b2 h1 h3 made_by =
    made llvm KINDS 83 362 (K.Row R.VAArg) {cs = v1 ∷ v3 ∷ []} refl refl refl made_by (word llvm KINDS (token b0 Word (codes "va_arg")) C.word_va_arg (rule llvm KINDS h1 (word llvm KINDS (token b2 Comma (codes ",")) C.sign_comma (last llvm KINDS h3))))

-- load = volatile type ',' typed align_attached
pub load : {v v0 v1 v3 v4 : Value} {x0 x1 x3 x4 : List Spaced} (b2 : Text) → Reads N.volatile v0 x0 → Reads N.type v1 x1 → Reads N.typed v3 x3 → Reads N.align_attached v4 x4 → value_by (K.Row R.Load) (v0 ∷ v1 ∷ v3 ∷ v4 ∷ []) ≡ Some v → Reads N.load v (x0 ++ (x1 ++ (token b2 Comma (codes ",") ∷ (x3 ++ x4))))
load {v0} {v1} {v3} {v4} b2 h0 h1 h3 h4 made_by =
    made llvm KINDS 112 433 (K.Row R.Load) {cs = v0 ∷ v1 ∷ v3 ∷ v4 ∷ []} refl refl refl made_by (rule llvm KINDS h0 (rule llvm KINDS h1 (word llvm KINDS (token b2 Comma (codes ",")) C.sign_comma (rule llvm KINDS h3 (last llvm KINDS h4)))))

-- store = volatile typed ',' typed align_attached
pub store : {v v0 v1 v3 v4 : Value} {x0 x1 x3 x4 : List Spaced} (b2 : Text) → Reads N.volatile v0 x0 → Reads N.typed v1 x1 → Reads N.typed v3 x3 → Reads N.align_attached v4 x4 → value_by (K.Row R.Store) (v0 ∷ v1 ∷ v3 ∷ v4 ∷ []) ≡ Some v → Reads N.store v (x0 ++ (x1 ++ (token b2 Comma (codes ",") ∷ (x3 ++ x4))))
store {v0} {v1} {v3} {v4} b2 h0 h1 h3 h4 made_by =
    made llvm KINDS 114 436 (K.Row R.Store) {cs = v0 ∷ v1 ∷ v3 ∷ v4 ∷ []} refl refl refl made_by (rule llvm KINDS h0 (rule llvm KINDS h1 (word llvm KINDS (token b2 Comma (codes ",")) C.sign_comma (rule llvm KINDS h3 (last llvm KINDS h4)))))

-- volatile = 'volatile'
pub volatile_yes : (b0 : Text) → Reads N.volatile (FlagV true) (token b0 Word (codes "volatile") ∷ [])
volatile_yes b0 = made llvm KINDS 116 439 K.Yes {cs = []} refl refl refl refl (word llvm KINDS (token b0 Word (codes "volatile")) C.word_volatile (nothing llvm KINDS))

-- volatile = nothing
pub volatile_no : Reads N.volatile (FlagV false) []
volatile_no = made llvm KINDS 116 440 K.No {cs = []} refl refl refl refl (nothing llvm KINDS)

-- align_attached = ',' align_or_attached
pub align_attached_align_or_attached : {v1 : Value} {x1 : List Spaced} (b0 : Text) → Reads N.align_or_attached v1 x1 → Reads N.align_attached v1 (token b0 Comma (codes ",") ∷ x1)
align_attached_align_or_attached {v1} b0 h1 = made llvm KINDS 134 471 K.Same {cs = v1 ∷ []} refl refl refl refl (word llvm KINDS (token b0 Comma (codes ",")) C.sign_comma (last llvm KINDS h1))

-- align_attached = nothing
pub align_attached_noalign : {v : Value} → value_by (K.Detail D.NoAlign) [] ≡ Some v → Reads N.align_attached v []
align_attached_noalign made_by = made llvm KINDS 134 472 (K.Detail D.NoAlign) {cs = []} refl refl refl made_by (nothing llvm KINDS)

-- align_or_attached = 'align' INT attached
pub align_or_attached_align : {v v2 : Value} {x2 : List Spaced} (b0 b1 t1 : Text) → Reads N.attached v2 x2 → value_by (K.Detail D.Align) (TextV t1 ∷ v2 ∷ []) ≡ Some v → Reads N.align_or_attached v (token b0 Word (codes "align") ∷ token b1 Int t1 ∷ x2)
align_or_attached_align {v2} b0 b1 t1 h2 made_by =
    made llvm KINDS 135 473 (K.Detail D.Align) {cs = TextV t1 ∷ v2 ∷ []} refl refl refl made_by (word llvm KINDS (token b0 Word (codes "align")) C.word_align (leaf llvm KINDS (token b1 Int t1) (C.kind_int t1) (last llvm KINDS h2)))

-- ret = 'void'
pub ret_none : (b0 : Text) → Reads N.ret NoneV (token b0 Word (codes "void") ∷ [])
ret_none b0 = made llvm KINDS 87 380 K.Nothing {cs = []} refl refl refl refl (word llvm KINDS (token b0 Word (codes "void")) C.word_void (nothing llvm KINDS))

-- ret = solid value
pub ret_typed : {v v0 v1 : Value} {x0 x1 : List Spaced} → Reads N.solid v0 x0 → Reads N.value v1 x1 → value_by (K.Typed T.Typed) (v0 ∷ v1 ∷ []) ≡ Some v → Reads N.ret v (x0 ++ x1)
ret_typed {v0} {v1} h0 h1 made_by = made llvm KINDS 87 381 (K.Typed T.Typed) {cs = v0 ∷ v1 ∷ []} refl refl refl made_by (rule llvm KINDS h0 (last llvm KINDS h1))

-- br = 'label' LOCAL
pub br_jump : {v : Value} (b0 b1 t1 : Text) → value_by (K.Row R.Jump) (TextV t1 ∷ []) ≡ Some v → Reads N.br v (token b0 Word (codes "label") ∷ token b1 Local t1 ∷ [])
br_jump b0 b1 t1 made_by =
    made llvm KINDS 88 382 (K.Row R.Jump) {cs = TextV t1 ∷ []} refl refl refl made_by (word llvm KINDS (token b0 Word (codes "label")) C.word_label (leaf llvm KINDS (token b1 Local t1) (C.kind_local t1) (nothing llvm KINDS)))

-- br = typed ',' 'label' LOCAL ',' 'label' LOCAL
pub br_branch : {v v0 : Value} {x0 : List Spaced} (b1 b2 b3 t3 b4 b5 b6 t6 : Text) → Reads N.typed v0 x0 → value_by (K.Row R.Branch) (v0 ∷ TextV t3 ∷ TextV t6 ∷ []) ≡ Some v → Reads N.br v (x0 ++ (token b1 Comma (codes ",") ∷ token b2 Word (codes "label") ∷ token b3 Local t3 ∷ token b4 Comma (codes ",") ∷ token b5 Word (codes "label") ∷ token b6 Local t6 ∷ []))
br_branch {v0} b1 b2 b3 t3 b4 b5 b6 t6 h0 made_by =
    made llvm KINDS 88 383 (K.Row R.Branch) {cs = v0 ∷ TextV t3 ∷ TextV t6 ∷ []} refl refl refl made_by (rule llvm KINDS h0 (word llvm KINDS (token b1 Comma (codes ",")) C.sign_comma (word llvm KINDS (token b2 Word (codes "label")) C.word_label (leaf llvm KINDS (token b3 Local t3) (C.kind_local t3) (word llvm KINDS (token b4 Comma (codes ",")) C.sign_comma (word llvm KINDS (token b5 Word (codes "label")) C.word_label (leaf llvm KINDS (token b6 Local t6) (C.kind_local t6) (nothing llvm KINDS))))))))

-- wraps = 'nuw' nsw
pub wraps_nuw : {v v1 : Value} {x1 : List Spaced} (b0 : Text) → Reads N.nsw v1 x1 → value_by (K.Detail D.Nuw) (v1 ∷ []) ≡ Some v → Reads N.wraps v (token b0 Word (codes "nuw") ∷ x1)
wraps_nuw {v1} b0 h1 made_by = made llvm KINDS 93 392 (K.Detail D.Nuw) {cs = v1 ∷ []} refl refl refl made_by (word llvm KINDS (token b0 Word (codes "nuw")) C.word_nuw (last llvm KINDS h1))

-- wraps = 'nsw'
pub wraps_nsw : {v : Value} (b0 : Text) → value_by (K.Detail D.Nsw) [] ≡ Some v → Reads N.wraps v (token b0 Word (codes "nsw") ∷ [])
wraps_nsw b0 made_by = made llvm KINDS 93 393 (K.Detail D.Nsw) {cs = []} refl refl refl made_by (word llvm KINDS (token b0 Word (codes "nsw")) C.word_nsw (nothing llvm KINDS))

-- wraps = nothing
pub wraps_nowraps : {v : Value} → value_by (K.Detail D.NoWraps) [] ≡ Some v → Reads N.wraps v []
wraps_nowraps made_by = made llvm KINDS 93 394 (K.Detail D.NoWraps) {cs = []} refl refl refl made_by (nothing llvm KINDS)

-- nsw = 'nsw'
pub nsw_yes : (b0 : Text) → Reads N.nsw (FlagV true) (token b0 Word (codes "nsw") ∷ [])
nsw_yes b0 = made llvm KINDS 94 395 K.Yes {cs = []} refl refl refl refl (word llvm KINDS (token b0 Word (codes "nsw")) C.word_nsw (nothing llvm KINDS))

-- nsw = nothing
pub nsw_no : Reads N.nsw (FlagV false) []
nsw_no = made llvm KINDS 94 396 K.No {cs = []} refl refl refl refl (nothing llvm KINDS)

-- lost_wraps = nothing
pub lost_wraps_none : Reads N.lost_wraps NoneV []
lost_wraps_none = made llvm KINDS 95 399 K.Nothing {cs = []} refl refl refl refl (nothing llvm KINDS)

-- lost_exact = nothing
pub lost_exact_none : Reads N.lost_exact NoneV []
lost_exact_none = made llvm KINDS 99 406 K.Nothing {cs = []} refl refl refl refl (nothing llvm KINDS)

-- lost_disjoint = nothing
pub lost_disjoint_none : Reads N.lost_disjoint NoneV []
lost_disjoint_none = made llvm KINDS 101 410 K.Nothing {cs = []} refl refl refl refl (nothing llvm KINDS)

-- lost_samesign = nothing
pub lost_samesign_none : Reads N.lost_samesign NoneV []
lost_samesign_none = made llvm KINDS 102 412 K.Nothing {cs = []} refl refl refl refl (nothing llvm KINDS)

-- nneg = 'nneg'
pub nneg_yes : (b0 : Text) → Reads N.nneg (FlagV true) (token b0 Word (codes "nneg") ∷ [])
nneg_yes b0 = made llvm KINDS 105 416 K.Yes {cs = []} refl refl refl refl (word llvm KINDS (token b0 Word (codes "nneg")) C.word_nneg (nothing llvm KINDS))

-- nneg = nothing
pub nneg_no : Reads N.nneg (FlagV false) []
nneg_no = made llvm KINDS 105 417 K.No {cs = []} refl refl refl refl (nothing llvm KINDS)
