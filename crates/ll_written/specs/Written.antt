-- The tokens of what a text says, with what stands before each: a definition for each part.
use Rattle.std.specs.Prelude.{ℕ, zero, suc, decimal, Bool, true, false, List, [], ◌∷◌, ◌++◌, Option, None, Some, ◌==◌, if◌then◌else◌, codes}
use Rattle.std.specs.List.{flat_map}
use Rattle.kinds.specs.declared.access.Align.{Align}
use Rattle.kinds.specs.Access.{bytes_of}
use Rattle.kinds.specs.declared.op.OverflowFlags.{OverflowFlags}
use Rattle.kinds.specs.declared.op.Op.{Op}
use Rattle.kinds.specs.declared.op.Op.TheVariants as O
use Rattle.kinds.specs.declared.types.VectorTypeKind.TheVariants as V
use Rattle.kinds.specs.declared.types.StructLayout.TheVariants as S
use Rattle.kinds.specs.Types.{TypeTree, PointerType, ArrayType, VectorType, StructType, NamedType, TypeTrees, NoTypes, ThenType}
use Rattle.kinds.specs.Structs.{StructBody}
use Rattle.llvm_core.specs.Data.{ConstTree, IntConst, FilledConst, BytesConst, ListConst, SplatConst, PlaceholderConst}
use Rattle.ll_tokens.specs.declared.kinds.Kind.{Kind}
use Rattle.ll_tokens.specs.declared.kinds.Kind.TheVariants as K
use Rattle.ll_lines.specs.declared.lines.Brackets.TheVariants as B
use Rattle.ll_lines.specs.Lines as L
use Rattle.ll_lines.specs.Lines.{Text, SaidConst, SaidConsts, Said, Typed, RowLine, Incoming, Inst, Line, Part, Param, Function, StructLine, File}
use Rattle.ll_spacing.specs.Spacing.{Spaced}
use Rattle.ll_written.specs.Printing.{type_text, before_brace, plain_text, said_type, predicate_text}

-- ---- tokens

abbrev pub token : (before : Text) → Kind → Text → Spaced
token before kind text = record { before = before; kind = kind; text = text }

-- directly behind the token before, and behind a blank
abbrev pub close : Kind → Text → Spaced
close kind text = token [] kind text

abbrev pub apart : Kind → Text → Spaced
apart kind text = token (codes " ") kind text

abbrev pub word : Text → Spaced
word text = apart K.Word text

abbrev pub comma : Spaced
comma = close K.Comma (codes ",")

-- what stands before a line of a body
abbrev pub indent : Text
indent = codes "\n  "

-- ---- types and values

-- an address space behind `ptr`, of which the first is not written
abbrev pub written_space : ℕ → List Spaced
written_space zero = []
written_space (suc n) = word (codes "addrspace") ∷ close K.OpenParen (codes "(") ∷ close K.Int (decimal (suc n)) ∷ close K.CloseParen (codes ")") ∷ []

-- The words are closed, so that what is said of the tokens of a type by laws holds of types of several tokens.
unfoldable mutual
  -- a type, whose first token stands behind that: a line for each kind of several tokens, or of another than a word
  pub written_type : (before : Text) → TypeTree → List Spaced
  written_type before (PointerType space) = token before K.Word (codes "ptr") ∷ written_space space
  written_type before (ArrayType count τ) = token before K.OpenBracket (codes "[") ∷ close K.Int (decimal count) ∷ word (codes "x") ∷ (written_type (codes " ") τ ++ (close K.CloseBracket (codes "]") ∷ []))
  written_type before (VectorType V.Fixed count τ) = token before K.Less (codes "<") ∷ close K.Int (decimal count) ∷ word (codes "x") ∷ (written_type (codes " ") τ ++ (close K.Greater (codes ">") ∷ []))
  written_type before (VectorType V.Scalable count τ) =
      token before K.Less (codes "<") ∷ close K.Word (codes "vscale") ∷ word (codes "x") ∷ apart K.Int (decimal count) ∷ word (codes "x") ∷ (written_type (codes " ") τ ++ (close K.Greater (codes ">") ∷ []))
  written_type before (StructType S.Unpacked τs) = token before K.OpenBrace (codes "{") ∷ (written_fields τs ++ (token (before_brace τs) K.CloseBrace (codes "}") ∷ []))
  written_type before (StructType S.Packed τs) =
      token before K.Less (codes "<") ∷ close K.OpenBrace (codes "{") ∷ (written_fields τs ++ (token (before_brace τs) K.CloseBrace (codes "}") ∷ close K.Greater (codes ">") ∷ []))
  written_type before (NamedType name) = token before K.Local (type_text (NamedType name)) ∷ []
  written_type before τ = token before K.Word (type_text τ) ∷ []

  pub written_fields : TypeTrees → List Spaced
  written_fields NoTypes = []
  written_fields (ThenType τ τs) = written_type (codes " ") τ ++ next_fields τs

  -- fields behind the first
  pub next_fields : TypeTrees → List Spaced
  next_fields NoTypes = []
  next_fields (ThenType τ τs) = comma ∷ (written_type (codes " ") τ ++ next_fields τs)

-- one bit is a word, other integers are numbers
abbrev pub int_kind : (width : ℕ) → Kind
int_kind w = if w == 1 then K.Word else K.Int

-- those of one word or number; what is said by its parts is none
abbrev pub const_kind : ConstTree → Kind
const_kind (IntConst w n) = int_kind w
const_kind (FilledConst fill τ) = K.Word
const_kind (BytesConst bytes) = K.Int
const_kind (ListConst τ elements) = K.Int
const_kind (SplatConst τ element) = K.Int
const_kind (PlaceholderConst n τ) = K.Int

-- what stands before the brace behind elements: behind none the blank before them too
abbrev pub before_end : SaidConsts → Text
before_end L.NoneSaid = codes "  "
before_end (L.ThenSaid c cs) = codes " "

-- The words are closed, as those of a type are.
unfoldable mutual
  -- a constant behind its type
  pub written_const : SaidConst → List Spaced
  written_const (L.Plain c) = apart (const_kind c) (plain_text c) ∷ []
  written_const (L.Chars τ t) = apart K.CStr t ∷ []
  written_const (L.Listed τ B.Array cs) = apart K.OpenBracket (codes "[") ∷ (written_elements [] cs ++ (close K.CloseBracket (codes "]") ∷ []))
  written_const (L.Listed τ B.Vector cs) = apart K.Less (codes "<") ∷ (written_elements [] cs ++ (close K.Greater (codes ">") ∷ []))
  written_const (L.Listed τ (B.Struct S.Unpacked) cs) = apart K.OpenBrace (codes "{") ∷ (written_elements (codes " ") cs ++ (token (before_end cs) K.CloseBrace (codes "}") ∷ []))
  written_const (L.Listed τ (B.Struct S.Packed) cs) =
      apart K.Less (codes "<") ∷ close K.OpenBrace (codes "{") ∷ (written_elements (codes " ") cs ++ (token (before_end cs) K.CloseBrace (codes "}") ∷ close K.Greater (codes ">") ∷ []))
  written_const (L.Splat τ c) = word (codes "splat") ∷ apart K.OpenParen (codes "(") ∷ (written_type [] (said_type c) ++ (written_const c ++ (close K.CloseParen (codes ")") ∷ [])))

  -- elements, each behind its type, the first of which stands behind that
  pub written_elements : (before : Text) → SaidConsts → List Spaced
  written_elements before L.NoneSaid = []
  written_elements before (L.ThenSaid c cs) = written_type before (said_type c) ++ (written_const c ++ next_elements cs)

  -- elements behind the first
  pub next_elements : SaidConsts → List Spaced
  next_elements L.NoneSaid = []
  next_elements (L.ThenSaid c cs) = comma ∷ (written_type (codes " ") (said_type c) ++ (written_const c ++ next_elements cs))

abbrev pub written_said : Said → List Spaced
written_said (L.Local t) = apart K.Local t ∷ []
written_said (L.Const c) = written_const c

-- a type and a value of it
abbrev pub written_typed : Typed → List Spaced
written_typed x = written_type (codes " ") x.type ++ written_said x.said

-- ---- instructions

abbrev pub next_said : Typed → List Spaced
next_said x = comma ∷ written_said x.said

-- operands, of which the first stands behind its type
abbrev pub written_operands : List Typed → List Spaced
written_operands [] = []
written_operands (x ∷ xs) = written_typed x ++ flat_map next_said xs

abbrev pub next_typed : Typed → List Spaced
next_typed x = comma ∷ written_typed x

-- operands, each behind its type
abbrev pub written_values : List Typed → List Spaced
written_values [] = []
written_values (x ∷ xs) = written_typed x ++ flat_map next_typed xs

-- what a return has
abbrev pub written_returned : List Typed → List Spaced
written_returned [] = word (codes "void") ∷ []
written_returned (x ∷ xs) = written_operands (x ∷ xs)

abbrev pub written_target : Text → List Spaced
written_target t = word (codes "label") ∷ apart K.Local t ∷ []

abbrev pub next_target : Text → List Spaced
next_target t = comma ∷ written_target t

-- the blocks that a row leads to
abbrev pub written_targets : List Text → List Spaced
written_targets [] = []
written_targets (t ∷ ts) = written_target t ++ flat_map next_target ts

-- the type that is written behind operands
abbrev pub written_to : Option TypeTree → List Spaced
written_to None = []
written_to (Some τ) = word (codes "to") ∷ written_type (codes " ") τ

-- the type that is written before other tokens
abbrev pub written_before : Option TypeTree → List Spaced → List Spaced
written_before None xs = xs
written_before (Some τ) xs = written_type (codes " ") τ ++ (comma ∷ xs)

-- the type that is written behind operands, and a comma between
abbrev pub written_after : Option TypeTree → List Spaced
written_after None = []
written_after (Some τ) = comma ∷ written_type (codes " ") τ

-- an alignment behind operands, where there is one
abbrev pub written_align : Option Align → List Spaced
written_align None = []
written_align (Some align) = comma ∷ word (codes "align") ∷ apart K.Int (decimal (bytes_of align)) ∷ []

-- a word where it is set
abbrev pub written_flag : Text → Bool → List Spaced
written_flag t false = []
written_flag t true = word t ∷ []

abbrev pub written_wraps : OverflowFlags → List Spaced
written_wraps flags = written_flag (codes "nuw") flags.nuw ++ written_flag (codes "nsw") flags.nsw

-- the word of a row and its immediates, a line for each
abbrev pub written_head : (before : Text) → Op → List Spaced
written_head before (O.Add flags) = token before K.Word (codes "add") ∷ written_wraps flags
written_head before (O.Sub flags) = token before K.Word (codes "sub") ∷ written_wraps flags
written_head before (O.Mul flags) = token before K.Word (codes "mul") ∷ written_wraps flags
written_head before (O.Shl flags) = token before K.Word (codes "shl") ∷ written_wraps flags
written_head before O.UDiv = token before K.Word (codes "udiv") ∷ []
written_head before O.SDiv = token before K.Word (codes "sdiv") ∷ []
written_head before O.URem = token before K.Word (codes "urem") ∷ []
written_head before O.SRem = token before K.Word (codes "srem") ∷ []
written_head before O.LShr = token before K.Word (codes "lshr") ∷ []
written_head before O.AShr = token before K.Word (codes "ashr") ∷ []
written_head before O.And = token before K.Word (codes "and") ∷ []
written_head before O.Or = token before K.Word (codes "or") ∷ []
written_head before O.Xor = token before K.Word (codes "xor") ∷ []
written_head before (O.ICmp predicate) = token before K.Word (codes "icmp") ∷ word (predicate_text predicate) ∷ []
written_head before O.Trunc = token before K.Word (codes "trunc") ∷ []
written_head before O.SExt = token before K.Word (codes "sext") ∷ []
written_head before (O.ZExt nneg) = token before K.Word (codes "zext") ∷ written_flag (codes "nneg") nneg
written_head before O.PtrToInt = token before K.Word (codes "ptrtoint") ∷ []
written_head before O.IntToPtr = token before K.Word (codes "inttoptr") ∷ []
written_head before O.AddrSpaceCast = token before K.Word (codes "addrspacecast") ∷ []
written_head before O.Select = token before K.Word (codes "select") ∷ []
written_head before O.Freeze = token before K.Word (codes "freeze") ∷ []
written_head before (O.Load access) = token before K.Word (codes "load") ∷ written_flag (codes "volatile") access.volatile
written_head before (O.Store access) = token before K.Word (codes "store") ∷ written_flag (codes "volatile") access.volatile
written_head before O.VAArg = token before K.Word (codes "va_arg") ∷ []
written_head before O.Br = token before K.Word (codes "br") ∷ []
written_head before O.CondBr = token before K.Word (codes "br") ∷ []
written_head before O.Ret = token before K.Word (codes "ret") ∷ []
written_head before O.Unreachable = token before K.Word (codes "unreachable") ∷ []

-- what a row names, and immediates that stand behind it, a line for each that is not as most: operands, and behind them the type where one is written
abbrev pub written_names : Op → RowLine → List Spaced
written_names O.Select r = written_values r.operands
written_names (O.Load access) r = written_before r.written (written_values r.operands ++ written_align access.align)
written_names (O.Store access) r = written_values r.operands ++ written_align access.align
written_names O.VAArg r = written_operands r.operands ++ written_after r.written
written_names O.Br r = written_targets r.targets
written_names O.CondBr r = written_operands r.operands ++ (comma ∷ written_targets r.targets)
written_names O.Ret r = written_returned r.operands
written_names O.Unreachable r = []
written_names op r = written_operands r.operands ++ written_to r.written

abbrev pub written_row : (before : Text) → RowLine → List Spaced
written_row before r = written_head before r.op ++ written_names r.op r

abbrev pub written_entry : Incoming → List Spaced
written_entry e = apart K.OpenBracket (codes "[") ∷ (written_said e.said ++ (comma ∷ apart K.Local e.block ∷ apart K.CloseBracket (codes "]") ∷ []))

abbrev pub next_entry : Incoming → List Spaced
next_entry e = comma ∷ written_entry e

abbrev pub written_entries : List Incoming → List Spaced
written_entries [] = []
written_entries (e ∷ es) = written_entry e ++ flat_map next_entry es

abbrev pub written_inst : (before : Text) → Inst → List Spaced
written_inst before (L.Phi τ es) = token before K.Word (codes "phi") ∷ (written_type (codes " ") τ ++ written_entries es)
written_inst before (L.Row r) = written_row before r

-- an instruction behind its result, where there is one
abbrev pub written_behind : (result : Option Text) → Inst → List Spaced
written_behind None i = written_inst indent i
written_behind (Some t) i = token indent K.Local t ∷ apart K.Equals (codes "=") ∷ written_inst (codes " ") i

abbrev pub written_line : Line → List Spaced
written_line l = written_behind l.result l.inst

-- ---- functions and files

abbrev pub written_part : (before : Text) → Part → List Spaced
written_part before (L.Label t) = token before K.Label t ∷ []
written_part before (L.Does l) = written_line l

-- a label behind other parts stands after a blank line
abbrev pub next_part : Part → List Spaced
next_part p = written_part (codes "\n\n") p

abbrev pub written_body : List Part → List Spaced
written_body [] = []
written_body (p ∷ ps) = written_part (codes "\n") p ++ flat_map next_part ps

abbrev pub written_name : Option Text → List Spaced
written_name None = []
written_name (Some t) = apart K.Local t ∷ []

-- a parameter, whose type stands behind that
abbrev pub written_param : (before : Text) → Param → List Spaced
written_param before p = written_type before p.type ++ written_name p.name

abbrev pub next_param : Param → List Spaced
next_param p = comma ∷ written_param (codes " ") p

abbrev pub written_params : List Param → List Spaced
written_params [] = []
written_params (p ∷ ps) = written_param [] p ++ flat_map next_param ps

abbrev pub written_function : (before : Text) → Function → List Spaced
written_function before f =
    token before K.Word (codes "define") ∷ (written_type (codes " ") f.result ++ (apart K.Global f.name ∷ close K.OpenParen (codes "(")
    ∷ (written_params f.params ++ (close K.CloseParen (codes ")") ∷ apart K.OpenBrace (codes "{") ∷ (written_body f.body ++ (token (codes "\n") K.CloseBrace (codes "}") ∷ []))))))

-- a function behind other things stands after a blank line
abbrev pub next_function : Function → List Spaced
next_function f = written_function (codes "\n\n") f

-- what is in a struct
abbrev pub written_struct_body : Option StructBody → List Spaced
written_struct_body None = word (codes "opaque") ∷ []
written_struct_body (Some b) = written_type (codes " ") (StructType b.layout b.fields)

abbrev pub written_struct : (before : Text) → StructLine → List Spaced
written_struct before s = token before K.Local s.name ∷ apart K.Equals (codes "=") ∷ word (codes "type") ∷ written_struct_body s.body

-- a struct behind another one
abbrev pub next_struct : StructLine → List Spaced
next_struct s = written_struct (codes "\n") s

-- structs, of which the first stands behind that
abbrev pub written_structs : (before : Text) → List StructLine → List Spaced
written_structs before [] = []
written_structs before (s ∷ ss) = written_struct before s ++ flat_map next_struct ss

abbrev pub written_source : Text → List Spaced
written_source t = close K.Word (codes "source_filename") ∷ apart K.Equals (codes "=") ∷ apart K.Str t ∷ []

-- the structs stand before the functions; the first line behind the name of the module stands after a blank line
abbrev pub written_file : (source : Option Text) → List StructLine → List Function → List Spaced
written_file (Some t) ss fs = written_source t ++ (written_structs (codes "\n\n") ss ++ flat_map next_function fs)
written_file None [] [] = []
written_file None [] (f ∷ fs) = written_function (codes "\n") f ++ flat_map next_function fs
written_file None (s ∷ ss) fs = written_structs (codes "\n") (s ∷ ss) ++ flat_map next_function fs

abbrev pub written : File → List Spaced
written f = written_file f.source f.structs f.functions

-- behind the last token: a line end, where there is one
abbrev pub end_of : List Spaced → Text
end_of [] = []
end_of (x ∷ xs) = codes "\n"
