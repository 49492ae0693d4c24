-- The tokens of what a text says are well spaced.
use Rattle.std.proofs.Common.{ℕ, List, [], ◌∷◌, ◌++◌, Option, Some, None, codes, refl}
use Rattle.std.specs.Prelude.{IfSome}
use Rattle.std.specs.List.{flat_map, AllByRecursion}
use Rattle.kinds.specs.declared.op.Op.{Op}
use Rattle.kinds.specs.declared.op.Op.TheVariants as O
use Rattle.kinds.specs.Types.{TypeTree, StructType}
use Rattle.kinds.specs.Structs.{StructBody}
use Rattle.ll_lines.specs.Lines as L
use Rattle.ll_lines.specs.Lines.{Text, RowLine, Incoming, Inst, Part, Param, Function, StructLine, File}
use Rattle.ll_spacing.specs.Forms.{IsText}
use Rattle.ll_spacing.specs.Spacing.{Spaced, AreSpaced, AreSpacedBehind, AreBlanks, Follows}
use Rattle.ll_spacing.proofs.FollowLaws.{plain_follows}
use Rattle.ll_spacing.proofs.SignLaws.{sign_whole}
use Rattle.ll_spacing.proofs.TextLaws.{text_whole}
use Rattle.ll_tokens.specs.Pieces.{sign_at}
use Rattle.ll_tokens.specs.declared.kinds.Kind.TheVariants as T
use Rattle.ll_written.specs.Written as W
use Rattle.ll_written.specs.Written.{token, apart, close, comma}
use Rattle.ll_written.specs.Writable.{IsLocal, IsRow, IsIncoming, IsInst, IsPart, IsParam, IsFunction, IsBody, IsStruct, IsWritable}
use Rattle.ll_written.proofs.FreeLaws.{AreFree, none_free, then_free, one_free, both_free, each_free, spaced_then, gap_free, apart_free, word_whole, word_free, sign_free, sign_close, comma_free}
use Rattle.ll_written.proofs.TypeTokens.{result_free, type_free, type_opened}
use Rattle.ll_written.proofs.SpacedParts.{said_free, operands_free, values_free, returned_free, targets_free, to_free, before_free, after_free, align_free, head_free, first_free}

-- ---- instructions

most_free : (r : RowLine) → IsRow r → AreFree (W.written_operands r.operands ++ W.written_to r.written)
most_free r h = both_free (W.written_operands r.operands) (W.written_to r.written) (operands_free r.operands h.operands) (to_free r.written h.written)

names_free : (op : Op) (r : RowLine) → IsRow r → AreFree (W.written_names op r)
names_free O.Select r h = values_free r.operands h.operands
names_free (O.Load access) r h = before_free r.written (W.written_values r.operands ++ W.written_align access.align) h.written (both_free (W.written_values r.operands) (W.written_align access.align) (values_free r.operands h.operands) (align_free access.align))
names_free (O.Store access) r h = both_free (W.written_values r.operands) (W.written_align access.align) (values_free r.operands h.operands) (align_free access.align)
names_free O.VAArg r h = both_free (W.written_operands r.operands) (W.written_after r.written) (operands_free r.operands h.operands) (after_free r.written h.written)
names_free O.Br r h = targets_free r.targets h.targets
names_free O.CondBr r h = both_free (W.written_operands r.operands) (comma ∷ W.written_targets r.targets) (operands_free r.operands h.operands) (then_free comma_free (targets_free r.targets h.targets))
names_free O.Ret r h = returned_free r.operands h.operands
names_free O.Unreachable r h = none_free
names_free (O.Add flags) r h = most_free r h
names_free (O.Sub flags) r h = most_free r h
names_free (O.Mul flags) r h = most_free r h
names_free (O.Shl flags) r h = most_free r h
names_free O.UDiv r h = most_free r h
names_free O.SDiv r h = most_free r h
names_free O.URem r h = most_free r h
names_free O.SRem r h = most_free r h
names_free O.LShr r h = most_free r h
names_free O.AShr r h = most_free r h
names_free O.And r h = most_free r h
names_free O.Or r h = most_free r h
names_free O.Xor r h = most_free r h
names_free (O.ICmp p) r h = most_free r h
names_free O.Trunc r h = most_free r h
names_free O.SExt r h = most_free r h
names_free (O.ZExt nneg) r h = most_free r h
names_free O.PtrToInt r h = most_free r h
names_free O.IntToPtr r h = most_free r h
names_free O.AddrSpaceCast r h = most_free r h
names_free O.Freeze r h = most_free r h

entry_free : (τ : TypeTree) (e : Incoming) → IsIncoming τ e → AreFree (W.written_entry e)
unfolding sign_at
entry_free τ e h = then_free (sign_free T.OpenBracket 91 refl) (both_free (W.written_said e.said) (comma ∷ apart T.Local e.block ∷ apart T.CloseBracket (codes "]") ∷ []) (said_free τ e.said h.said) (then_free comma_free (then_free (apart_free T.Local e.block h.block) (one_free (sign_free T.CloseBracket 93 refl)))))

entries_free : (τ : TypeTree) (es : List Incoming) → AllByRecursion (IsIncoming τ) es → AreFree (W.written_entries es)
entries_free τ [] all = none_free
entries_free τ (e ∷ es) all = both_free (W.written_entry e) (flat_map W.next_entry es) (entry_free τ e all.0) (each_free (IsIncoming τ) W.next_entry (λ x h. then_free comma_free (entry_free τ x h)) es all.1)

inst_free : (b : ℕ) (bs : Text) → AreBlanks (b ∷ bs) → (i : Inst) → IsInst i → AreFree (W.written_inst (b ∷ bs) i)
inst_free b bs blanks (L.Phi τ es) h = then_free (first_free b bs blanks (codes "phi") refl) (both_free (W.written_type (codes " ") τ) (W.written_entries es) (type_free τ h.0) (entries_free τ es h.1))
inst_free b bs blanks (L.Row r) h = both_free (W.written_head (b ∷ bs) r.op) (W.written_names r.op r) (head_free b bs blanks r.op) (names_free r.op r h)

line_by : (result : Option Text) (i : Inst) → IfSome result IsLocal → IsInst i → AreFree (W.written_behind result i)
unfolding sign_at
line_by None i h k = inst_free 10 (codes "  ") refl i k
line_by (Some t) i h k = then_free (gap_free 10 (codes "  ") T.Local t refl (text_whole T.Local t h)) (then_free (sign_free T.Equals 61 refl) (inst_free 32 [] refl i k))

-- ---- bodies

part_free : (b : ℕ) (bs : Text) → AreBlanks (b ∷ bs) → (p : Part) → IsPart p → AreFree (W.written_part (b ∷ bs) p)
part_free b bs blanks (L.Label t) h = one_free (gap_free b bs T.Label t blanks (text_whole T.Label t h))
part_free b bs blanks (L.Does l) h = line_by l.result l.inst h.result h.inst

body_free : (ps : List Part) → AllByRecursion IsPart ps → AreFree (W.written_body ps)
body_free [] all = none_free
body_free (p ∷ ps) all = both_free (W.written_part (codes "\n") p) (flat_map W.next_part ps) (part_free 10 [] refl p all.0) (each_free IsPart W.next_part (λ q h. part_free 10 (codes "\n") refl q h) ps all.1)

-- ---- functions

name_free : (name : Option Text) → IfSome name IsLocal → AreFree (W.written_name name)
name_free None h = none_free
name_free (Some t) h = one_free (apart_free T.Local t h)

next_param_free : (p : Param) → IsParam p → AreFree (W.next_param p)
next_param_free p h = then_free comma_free (both_free (W.written_type (codes " ") p.type) (W.written_name p.name) (type_free p.type h.type) (name_free p.name h.name))

-- what stands behind the name of a function
abbrev opened : Function → List Spaced
opened f = close T.OpenParen (codes "(") ∷ (W.written_params f.params ++ (close T.CloseParen (codes ")") ∷ apart T.OpenBrace (codes "{") ∷ (W.written_body f.body ++ (token (codes "\n") T.CloseBrace (codes "}") ∷ []))))

-- the type of the first stands directly behind the sign that opens parameters
params_spaced : (ps : List Param) (rest : List Spaced) → AllByRecursion IsParam ps → AreFree rest → AreSpacedBehind (Some T.OpenParen) (W.written_params ps ++ rest)
params_spaced [] rest all free = free.behind (Some T.OpenParen)
params_spaced (p ∷ ps) rest all free =
    let paren = Some T.OpenParen in
    let first = spaced_then paren (W.written_type [] p.type) (W.written_name p.name) (type_opened T.OpenParen (λ c. refl) p.type all.0.type) (name_free p.name all.0.name) in
    spaced_then paren (W.written_params (p ∷ ps)) rest (spaced_then paren (W.written_param [] p) (flat_map W.next_param ps) first (each_free IsParam W.next_param next_param_free ps all.1)) free

-- what stands behind the name of a function
opened_free : (f : Function) → IsFunction f → AreFree (opened f)
unfolding sign_at
opened_free f h =
    let end = then_free (sign_free T.OpenBrace 123 refl) (both_free (W.written_body f.body) (token (codes "\n") T.CloseBrace (codes "}") ∷ []) (body_free f.body h.body) (one_free (gap_free 10 [] T.CloseBrace (codes "}") refl (sign_whole T.CloseBrace 125 refl)))) in
    let params = params_spaced f.params _ h.params (then_free (sign_close T.CloseParen 41 refl (λ j. plain_follows j 41 refl)) end) in
    record { behind = λ last. (sign_close T.OpenParen 40 refl (λ j. plain_follows j 40 refl) last, params) }

function_free : (b : ℕ) (bs : Text) → AreBlanks (b ∷ bs) → (f : Function) → IsFunction f → AreFree (W.written_function (b ∷ bs) f)
function_free b bs blanks f h =
    then_free (first_free b bs blanks (codes "define") refl) (both_free (W.written_type (codes " ") f.result) (apart T.Global f.name ∷ opened f) (result_free f.result h.result) (then_free (apart_free T.Global f.name h.name) (opened_free f h)))

functions_free : (fs : List Function) → AllByRecursion IsFunction fs → AreFree (flat_map W.next_function fs)
functions_free fs all = each_free IsFunction W.next_function (function_free 10 (codes "\n") refl) fs all

-- ---- structs

struct_body_free : (b : Option StructBody) → IfSome b IsBody → AreFree (W.written_struct_body b)
struct_body_free None h = one_free (word_free (codes "opaque") refl)
struct_body_free (Some b) h = type_free (StructType b.layout b.fields) h

struct_free : (b : ℕ) (bs : Text) → AreBlanks (b ∷ bs) → (s : StructLine) → IsStruct s → AreFree (W.written_struct (b ∷ bs) s)
unfolding sign_at
struct_free b bs blanks s h = then_free (gap_free b bs T.Local s.name blanks (text_whole T.Local s.name h.name)) (then_free (sign_free T.Equals 61 refl) (then_free (word_free (codes "type") refl) (struct_body_free s.body h.body)))

structs_free : (b : ℕ) (bs : Text) → AreBlanks (b ∷ bs) → (ss : List StructLine) → AllByRecursion IsStruct ss → AreFree (W.written_structs (b ∷ bs) ss)
structs_free b bs blanks [] all = none_free
structs_free b bs blanks (s ∷ ss) all = both_free (W.written_struct (b ∷ bs) s) (flat_map W.next_struct ss) (struct_free b bs blanks s all.0) (each_free IsStruct W.next_struct (struct_free 10 [] refl) ss all.1)

-- ---- files

items_free : (b : ℕ) (bs : Text) → AreBlanks (b ∷ bs) → (ss : List StructLine) (fs : List Function) → AllByRecursion IsStruct ss → AllByRecursion IsFunction fs → AreFree (W.written_structs (b ∷ bs) ss ++ flat_map W.next_function fs)
items_free b bs blanks ss fs all others = both_free (W.written_structs (b ∷ bs) ss) (flat_map W.next_function fs) (structs_free b bs blanks ss all) (functions_free fs others)

file_by : (source : Option Text) (ss : List StructLine) (fs : List Function) → IfSome source (IsText T.Str) → AllByRecursion IsStruct ss → AllByRecursion IsFunction fs → AreSpaced (W.written_file source ss fs)
unfolding sign_at
file_by (Some t) ss fs h all others =
    let first : Follows None (close T.Word (codes "source_filename")) = record { blanks = refl; whole = word_whole (codes "source_filename") refl; apart = tt } in
    (first, (sign_free T.Equals 61 refl (Some T.Word), (apart_free T.Str t h (Some T.Equals), (items_free 10 (codes "\n") refl ss fs all others).behind (Some T.Str))))
file_by None [] [] h all others = tt
file_by None [] (f ∷ fs) h all others = (both_free (W.written_function (codes "\n") f) (flat_map W.next_function fs) (function_free 10 [] refl f others.0) (functions_free fs others.1)).behind None
file_by None (s ∷ ss) fs h all others = (items_free 10 [] refl (s ∷ ss) fs all others).behind None

pub file_spaced : (f : File) → IsWritable f → AreSpaced (W.written f)
file_spaced f h = file_by f.source f.structs f.functions h.source h.structs h.functions
