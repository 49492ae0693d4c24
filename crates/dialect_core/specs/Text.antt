-- The dialect text of a module: a function of its data.
use Rattle.std.specs.Prelude.{ℕ, ◌+◌, Bool, true, false, ◌&&◌, ◌||◌, ◌==◌, if◌then◌else◌, nat_eq, List, [], ◌∷◌, ◌++◌, Option, Some, None, map, codes}
use Rattle.std.specs.List.{filter_map, flat_map}
use Rattle.std.specs.Map.{lookup}
use Rattle.std.specs.Option.{option_map}
use Rattle.std.specs.Fmt.{decimal}
use Rattle.dialect_types.specs.Trees.{TypeTree, NamedStruct}
use Rattle.dialect_types.specs.Text.{type_text, struct_text, joined}
use Rattle.const_attrs.specs.Text.{attr_text}
use Rattle.dialect_core.specs.declared.numbers.BlockRef.{BlockRef}
use Rattle.dialect_core.specs.declared.linkage.LinkageAttr.{LinkageAttr}
use Rattle.dialect_core.specs.declared.linkage.LinkageAttr.TheVariants as L
use Rattle.dialect_core.specs.declared.ops.Value.{Value}
use Rattle.dialect_core.specs.declared.ops.Value.TheVariants.{Result, Argument}
use Rattle.dialect_core.specs.declared.ops.Successor.{Successor}
use Rattle.kinds.specs.declared.access.Align.{Align}
use Rattle.kinds.specs.Access.{bytes_of}
use Rattle.kinds.specs.declared.fill.Fill.{Fill}
use Rattle.kinds.specs.declared.fill.Fill.TheVariants as F
use Rattle.kinds.specs.declared.op.Immediates.{Immediates}
use Rattle.kinds.specs.declared.op.Immediates.TheVariants as M
use Rattle.kinds.specs.declared.op.LLVMIntPredicate.{LLVMIntPredicate}
use Rattle.kinds.specs.declared.op.LLVMIntPredicate.TheVariants as P
use Rattle.kinds.specs.Table.{immediates_of, op_word}
use Rattle.dialect_core.specs.Data.{Kind, ConstantOp, FilledOp, RowOp, DialectOp, DialectBlock, Func, DialectModule}

-- ---- numbers of values and blocks

abbrev pub same_value : Value → Value → Bool
same_value (Result a) (Result b) = nat_eq a.0 b.0
same_value (Argument a i) (Argument b j) = nat_eq a.0 b.0 && nat_eq i j
same_value _ _ = false

abbrev pub same_block : BlockRef → BlockRef → Bool
same_block a b = nat_eq a.0 b.0

-- the arguments of the block b from the place i on
abbrev pub arguments_from : {X : Type 0} → BlockRef → ℕ → List X → List Value
arguments_from b i [] = []
arguments_from b i (t ∷ ts) = Argument b i ∷ arguments_from b (i + 1) ts

abbrev pub result_of : DialectOp → Option Value
result_of o = option_map (λ _. Result (record { 0 = o.number })) o.result

-- the values of a block: its arguments, then its results
abbrev pub block_values : DialectBlock → List Value
block_values b = arguments_from (record { 0 = b.number }) 0 b.args ++ filter_map result_of b.ops

abbrev pub func_values : Func → List Value
func_values f = flat_map block_values f.blocks

abbrev pub func_blocks : Func → List BlockRef
func_blocks f = map (λ (b : DialectBlock). record { 0 = b.number }) f.blocks

-- the items with numbers from n on
abbrev pub numbered_from : {X : Type 0} → ℕ → List X → List (X × ℕ)
numbered_from n [] = []
numbered_from n (x ∷ xs) = (x, n) ∷ numbered_from (n + 1) xs

-- the values of each function count from 0, and so do its blocks
abbrev pub value_numbers : DialectModule → List (Value × ℕ)
value_numbers d = flat_map (λ (f : Func). numbered_from 0 (func_values f)) d.functions

abbrev pub block_numbers : DialectModule → List (BlockRef × ℕ)
block_numbers d = flat_map (λ (f : Func). numbered_from 0 (func_blocks f)) d.functions

-- the number that a value or block of a function of the module has there
abbrev pub value_number : DialectModule → Value → Option ℕ
value_number d v = lookup (same_value v) (value_numbers d)

abbrev pub block_number : DialectModule → BlockRef → Option ℕ
block_number d b = lookup (same_block b) (block_numbers d)

-- ---- the text

-- what f makes of what there is
abbrev pub option_items : {X Y : Type 0} → (X → List Y) → Option X → List Y
option_items f None = []
option_items f (Some x) = f x

abbrev pub option_text : {X : Type 0} → (X → List ℕ) → Option X → List ℕ
option_text = option_items

-- a number, or `?` where there is none
abbrev pub number_text : Option ℕ → List ℕ
number_text None = codes "?"
number_text (Some n) = decimal n

abbrev pub linkage_text : LinkageAttr → List ℕ
linkage_text L.ExternalLinkage = codes "ExternalLinkage"
linkage_text L.AvailableExternallyLinkage = codes "AvailableExternallyLinkage"
linkage_text L.LinkOnceAnyLinkage = codes "LinkOnceAnyLinkage"
linkage_text L.LinkOnceODRLinkage = codes "LinkOnceODRLinkage"
linkage_text L.WeakAnyLinkage = codes "WeakAnyLinkage"
linkage_text L.WeakODRLinkage = codes "WeakODRLinkage"
linkage_text L.AppendingLinkage = codes "AppendingLinkage"
linkage_text L.InternalLinkage = codes "InternalLinkage"
linkage_text L.PrivateLinkage = codes "PrivateLinkage"
linkage_text L.ExternalWeakLinkage = codes "ExternalWeakLinkage"
linkage_text L.CommonLinkage = codes "CommonLinkage"
linkage_text L.LinkOnceODRAutoHideLinkage = codes "LinkOnceODRAutoHideLinkage"
linkage_text L.DLLImportLinkage = codes "DLLImportLinkage"
linkage_text L.DLLExportLinkage = codes "DLLExportLinkage"
linkage_text L.LinkerPrivateLinkage = codes "LinkerPrivateLinkage"
linkage_text L.LinkerPrivateWeakLinkage = codes "LinkerPrivateWeakLinkage"
linkage_text L.GhostLinkage = codes "GhostLinkage"

-- the name of the operation that makes zero, undef or poison, a line for each
abbrev pub fill_word : Fill → List ℕ
fill_word F.Zero = codes "llvm.zero"
fill_word F.Undef = codes "llvm.undef"
fill_word F.Poison = codes "llvm.poison"

-- the name of an operation, a line for each kind
abbrev pub kind_word : Kind → List ℕ
kind_word (ConstantOp value) = codes "llvm.constant"
kind_word (FilledOp fill) = fill_word fill
kind_word (RowOp op) = op_word op

abbrev pub predicate_text : LLVMIntPredicate → List ℕ
predicate_text P.LLVMIntEQ = codes "EQ"
predicate_text P.LLVMIntNE = codes "NE"
predicate_text P.LLVMIntUGT = codes "UGT"
predicate_text P.LLVMIntUGE = codes "UGE"
predicate_text P.LLVMIntULT = codes "ULT"
predicate_text P.LLVMIntULE = codes "ULE"
predicate_text P.LLVMIntSGT = codes "SGT"
predicate_text P.LLVMIntSGE = codes "SGE"
predicate_text P.LLVMIntSLT = codes "SLT"
predicate_text P.LLVMIntSLE = codes "SLE"

-- the key of a truth value that is set
abbrev pub flag_key : Bool → List ℕ → List (List ℕ)
flag_key true key = key ∷ []
flag_key false key = []

-- keys in braces, where there are any
abbrev pub keys_text : List (List ℕ) → List ℕ
keys_text [] = []
keys_text (k ∷ ks) = codes " {" ++ joined (k ∷ ks) ++ codes "}"

-- the key of an alignment, where there is one
abbrev pub align_key : Option Align → List (List ℕ)
align_key None = []
align_key (Some align) = (codes "align = " ++ decimal (bytes_of align)) ∷ []

-- what stands behind an alignment
abbrev pub behind_align : (volatile : Bool) → List ℕ
behind_align true = codes ", volatile}"
behind_align false = codes "}"

-- the immediates of a row, a line for each sort
abbrev pub row_immediates_text : Immediates → List ℕ
row_immediates_text M.Nothing = []
row_immediates_text (M.Overflow flags) = keys_text (flag_key flags.nsw (codes "nsw") ++ flag_key flags.nuw (codes "nuw"))
row_immediates_text (M.Predicate predicate) = codes " {predicate = " ++ predicate_text predicate ++ codes "}"
row_immediates_text (M.NonNegative nneg) = keys_text (flag_key nneg (codes "nneg"))
row_immediates_text (M.Access access) = keys_text (align_key access.align ++ flag_key access.volatile (codes "volatile"))

-- its immediates, where it has any
abbrev pub immediates_text : Kind → List ℕ
immediates_text (ConstantOp value) = codes " {value = " ++ attr_text value ++ codes "}"
immediates_text (FilledOp fill) = []
immediates_text (RowOp op) = row_immediates_text (immediates_of op)

-- `:name` and ` : t`, where there is a name or a type
abbrev pub colon_text : Option (List ℕ) → List ℕ
colon_text name = option_text (λ (n : List ℕ). codes ":" ++ n) name

abbrev pub result_type_text : Option TypeTree → List ℕ
result_type_text type = option_text (λ (t : TypeTree). codes " : " ++ type_text t) type

-- an operation after its immediates
abbrev pub tail_text : Option TypeTree → List ℕ
tail_text result = result_type_text result ++ codes "\n"

-- a character of a quoted text: a quote and a backslash have a backslash before them
abbrev pub quoted_char : ℕ → List ℕ
quoted_char c = if c == 34 || c == 92 then 92 ∷ c ∷ [] else c ∷ []

-- a text between quotes
abbrev pub quoted_text : List ℕ → List ℕ
quoted_text t = 34 ∷ flat_map quoted_char t ++ 34 ∷ []

-- the LLVM name among the immediates, where it is set
abbrev pub llvm_name_text : Option (List ℕ) → List ℕ
llvm_name_text name = option_text (λ (n : List ℕ). codes ", llvm_name = " ++ quoted_text n) name

-- the line of a function up to its body
abbrev pub func_head_text : (name : List ℕ) → TypeTree → LinkageAttr → (llvm_name : Option (List ℕ)) → List ℕ
func_head_text name type linkage llvm_name = codes "  llvm.func @" ++ name ++ codes " : " ++ type_text type ++ codes " {linkage = " ++ linkage_text linkage ++ llvm_name_text llvm_name ++ codes "}"

-- by the numbers of values and of blocks
module _ (values : Value → Option ℕ) (blocks : BlockRef → Option ℕ) where
  abbrev pub value_text : Value → List ℕ
  value_text v = codes "%" ++ number_text (values v)

  abbrev pub block_name_text : BlockRef → List ℕ
  block_name_text b = codes "^" ++ number_text (blocks b)

  abbrev pub values_text : List Value → List ℕ
  values_text vs = codes "(" ++ joined (map value_text vs) ++ codes ")"

  abbrev pub successor_text : Successor → List ℕ
  successor_text s = block_name_text s.block ++ values_text s.args

  abbrev pub successors_text : List Successor → List ℕ
  successors_text [] = []
  successors_text (s ∷ ss) = codes "[" ++ joined (map successor_text (s ∷ ss)) ++ codes "]"

  -- the result that an operation gives
  abbrev pub gives_text : {X : Type 0} → ℕ → Option (List ℕ) → Option X → List ℕ
  gives_text number name None = []
  gives_text number name (Some t) = value_text (Result (record { 0 = number })) ++ colon_text name ++ codes " = "

  -- an operation up to its immediates
  abbrev pub head_text : {X : Type 0} → ℕ → Option (List ℕ) → Option X → List ℕ → List Value → List Successor → List ℕ
  head_text number name result word operands successors = codes "    " ++ gives_text number name result ++ word ++ values_text operands ++ successors_text successors

  abbrev pub op_text : DialectOp → List ℕ
  op_text o = head_text o.number o.name o.result (kind_word o.kind) o.operands o.successors ++ immediates_text o.kind ++ tail_text o.result

  -- an argument of the block b with its type
  abbrev pub argument_text : BlockRef → ℕ → TypeTree → List ℕ
  argument_text b i t = value_text (Argument b i) ++ codes ": " ++ type_text t

  -- the arguments of the block b from the place i on
  abbrev pub argument_texts : BlockRef → ℕ → List TypeTree → List (List ℕ)
  argument_texts b i [] = []
  argument_texts b i (t ∷ ts) = argument_text b i t ∷ argument_texts b (i + 1) ts

  -- the line of a block
  abbrev pub label_text : BlockRef → Option (List ℕ) → List TypeTree → List ℕ
  label_text b label args = codes "  " ++ block_name_text b ++ colon_text label ++ codes "(" ++ joined (argument_texts b 0 args) ++ codes "):\n"

  abbrev pub block_text : DialectBlock → List ℕ
  block_text b = label_text (record { 0 = b.number }) b.label b.args ++ flat_map op_text b.ops

  -- what stands after the head of a function
  abbrev pub body_text : List DialectBlock → List ℕ
  body_text [] = codes "\n"
  body_text (b ∷ bs) = codes " {\n" ++ flat_map block_text (b ∷ bs) ++ codes "  }\n"

  abbrev pub func_text : Func → List ℕ
  func_text f = func_head_text f.name f.type f.linkage f.llvm_name ++ body_text f.blocks

  abbrev pub module_text_by : List NamedStruct → DialectModule → List ℕ
  module_text_by structs d = codes "builtin.module @" ++ d.name ++ codes " {\n" ++ flat_map struct_text structs ++ flat_map func_text d.functions ++ codes "}\n"

-- the text of a module, beside the structs with names that its types may name
abbrev pub module_text : List NamedStruct → DialectModule → List ℕ
module_text structs d = module_text_by (value_number d) (block_number d) structs d
