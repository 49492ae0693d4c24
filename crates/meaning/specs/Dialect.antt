-- What the data of a dialect module mean.
use Rattle.std.specs.Prelude.{ℕ, zero, suc, Bool, ◌&&◌, if◌then◌else◌, List, [], ◌∷◌, Option, Some, None, map, option_map, length, nat_eq, nat_lt}
use Rattle.std.specs.Option.{option_map_or}
use Rattle.std.specs.List.{flat_map, filter_map, position_from, find}
use Rattle.dialect_types.specs.Trees.{TypeTree, VoidType}
use Rattle.const_attrs.specs.Trees.{AttrTree, AttrTrees, IntegerAttr, FilledAttr, BytesAttr, AggregateAttr, SplatAttr, NoAttrs, ThenAttr}
use Rattle.dialect_core.specs.declared.numbers.BlockRef.{BlockRef}
use Rattle.dialect_core.specs.declared.ops.Value.{Value}
use Rattle.dialect_core.specs.declared.ops.Value.TheVariants.{Result, Argument}
use Rattle.dialect_core.specs.declared.ops.Successor.{Successor}
use Rattle.dialect_core.specs.declared.linkage.LinkageAttr.{LinkageAttr}
use Rattle.dialect_core.specs.declared.linkage.LinkageAttr.TheVariants as K
use Rattle.dialect_core.specs.declared.predicates.ICmpPredicateAttr.{ICmpPredicateAttr}
use Rattle.dialect_core.specs.declared.predicates.ICmpPredicateAttr.TheVariants as P
use Rattle.dialect_core.specs.Data.{DialectModule, Func, DialectBlock, DialectOp, Kind, ConstantOp, FilledOp, RowOp, llvm_name_of, value_type}
use Rattle.dialect_core.specs.WellFormed.{Typing}
use Rattle.kinds.specs.declared.op.LLVMIntPredicate.{LLVMIntPredicate}
use Rattle.kinds.specs.declared.op.LLVMIntPredicate.TheVariants as I
use Rattle.kinds.specs.Held.{width_in}
use Rattle.meaning.specs.Terms.{Term, Param, Unset, Int, Terms, NoTerms, ThenTerm, filled_term}
use Rattle.meaning.specs.Constants.{bytes_term, list_term, lanes_term}
use Rattle.meaning.specs.Machine.{Operand, At, Action, Holds, Applies, Row, Edge, Block, Item, trace}
use Rattle.meaning.specs.Setting.{Setting, TellsNothing}
use Rattle.meaning.specs.Code.{Code, Entry, Body, Symbol, FunctionSymbol, Linkage, External, AvailableExternally, LinkOnceAny, LinkOnceODR, WeakAny, WeakODR, Appending, Internal, Private, ExternalWeak, Common, Other}
pub use Rattle.dialect_core.specs.Text.{same_value}

abbrev mutual
  -- the term of a constant, a line for each kind
  pub attr_term : Setting → AttrTree → Term
  attr_term setting (IntegerAttr ty n) = Int (width_in ty) n
  attr_term setting (FilledAttr fill ty) = filled_term fill ty
  attr_term setting (BytesAttr bytes) = bytes_term bytes
  attr_term setting (AggregateAttr elements ty) = list_term ty (attr_terms setting elements)
  attr_term setting (SplatAttr element ty) = lanes_term ty (attr_term setting element)

  pub attr_terms : Setting → AttrTrees → Terms
  attr_terms setting NoAttrs = NoTerms
  attr_terms setting (ThenAttr c cs) = ThenTerm (attr_term setting c) (attr_terms setting cs)

-- ---- types of operands

-- the type of a result or operand, void where there is none
abbrev pub option_type : Option TypeTree → TypeTree
option_type None = VoidType
option_type (Some t) = t

-- ---- rows and edges

-- the predicate of LLVM that one of the dialect stands for
abbrev pub predicate_of : ICmpPredicateAttr → LLVMIntPredicate
predicate_of P.EQ = I.LLVMIntEQ
predicate_of P.NE = I.LLVMIntNE
predicate_of P.UGT = I.LLVMIntUGT
predicate_of P.UGE = I.LLVMIntUGE
predicate_of P.ULT = I.LLVMIntULT
predicate_of P.ULE = I.LLVMIntULE
predicate_of P.SGT = I.LLVMIntSGT
predicate_of P.SGE = I.LLVMIntSGE
predicate_of P.SLT = I.LLVMIntSLT
predicate_of P.SLE = I.LLVMIntSLE

-- what an action of an operation holds: all that it uses
abbrev pub shown : DialectOp → List Value
shown o = o.operands

-- The types of the operands of an operation are those of a typing: of a context, which gives each value its type, whichever
-- function it belongs to (`type_in`), or of a function, which gives its own values their types, and any other none
-- (`value_type`).
module _ (setting : Setting) (types : Typing) where
  -- a constant operation holds the term of its constant, of the type of its result where it is zero, undef or poison; any
  -- other applies its row to its operands
  abbrev pub typed_action : DialectOp → Kind → Action Value
  typed_action o (ConstantOp value) = Holds (attr_term setting value)
  typed_action o (FilledOp fill) = Holds (filled_term fill (option_type o.result))
  typed_action o (RowOp op) = Applies op (option_type o.result) (map (λ (v : Value). option_type (types v)) (shown o)) (map At (shown o))

  abbrev pub typed_row : DialectOp → Row Value
  typed_row o = record { action = typed_action o o.kind; result = Result (record { 0 = o.number }) }

abbrev pub action : Setting → Func → DialectOp → Kind → Action Value
action setting f o k = typed_action setting (value_type f) o k

abbrev pub row : Setting → Func → DialectOp → Row Value
row setting f o = typed_row setting (value_type f) o

-- an argument takes the edge's value at its place, and nothing where the edge has none
abbrev pub argument_moves : BlockRef → ℕ → ℕ → List Value → List (Value × Option (Operand Value))
argument_moves b i zero vs = []
argument_moves b i (suc n) [] = (Argument b i, None) ∷ argument_moves b (suc i) n []
argument_moves b i (suc n) (v ∷ vs) = (Argument b i, Some (At v)) ∷ argument_moves b (suc i) n vs

-- the place of a block in a body, which is past the end where the body has no such block
abbrev pub place_of : List DialectBlock → ℕ → ℕ
place_of blocks n = option_map_or (λ i. i) (position_from (λ (b : DialectBlock). nat_eq b.number n) 0 blocks) (length blocks)

abbrev pub edge : Func → Successor → Edge Value
edge f s = record {
  to = place_of f.blocks s.block.0;
  moves = option_map_or (λ (b : DialectBlock). argument_moves s.block 0 (length b.args) s.args) (find (λ (b : DialectBlock). nat_eq b.number s.block.0) f.blocks) [];
}

abbrev pub typed_block : Setting → Typing → Func → DialectBlock → Block Value
typed_block setting types f b = record {
  rows = map (typed_row setting types) b.ops;
  edges = map (edge f) (flat_map (λ (o : DialectOp). o.successors) b.ops);
}

abbrev pub block : Setting → Func → DialectBlock → Block Value
block setting f b = typed_block setting (value_type f) f b

-- ---- the code of a module

-- the first block's arguments are the parameters, and nothing else is set
abbrev pub start : List DialectBlock → Value → Term
start [] v = Unset
start (b ∷ bs) (Result r) = Unset
start (b ∷ bs) (Argument c i) = if nat_eq c.0 b.number && nat_lt i (length b.args) then Param i else Unset

abbrev pub typed_body : Setting → Typing → Func → Body
typed_body setting types f = record {
  blocks = length f.blocks;
  trace = trace Value same_value (start f.blocks) (map (typed_block setting types f) f.blocks);
}

abbrev pub body : Setting → Func → Body
body setting f = typed_body setting (value_type f) f

abbrev pub linkage : LinkageAttr → Linkage
linkage K.ExternalLinkage = External
linkage K.AvailableExternallyLinkage = AvailableExternally
linkage K.LinkOnceAnyLinkage = LinkOnceAny
linkage K.LinkOnceODRLinkage = LinkOnceODR
linkage K.WeakAnyLinkage = WeakAny
linkage K.WeakODRLinkage = WeakODR
linkage K.AppendingLinkage = Appending
linkage K.InternalLinkage = Internal
linkage K.PrivateLinkage = Private
linkage K.ExternalWeakLinkage = ExternalWeak
linkage K.CommonLinkage = Common
linkage K.LinkOnceODRAutoHideLinkage = Other
linkage K.DLLImportLinkage = Other
linkage K.DLLExportLinkage = Other
linkage K.LinkerPrivateLinkage = Other
linkage K.LinkerPrivateWeakLinkage = Other
linkage K.GhostLinkage = Other

abbrev pub has_blocks : Func → Bool
has_blocks f = nat_lt 0 (length f.blocks)

-- a function is in space 0, under its name in LLVM
abbrev pub entry : Setting → Func → Entry
entry setting f = record {
  name = llvm_name_of f;
  symbol = FunctionSymbol f.type (linkage f.linkage) 0 (has_blocks f);
  body = if has_blocks f then Some (body setting f) else None;
}

-- what a module tells its bodies
abbrev pub setting_of : DialectModule → Setting
setting_of d = TellsNothing

-- the symbols and bodies of a module
abbrev pub code_of : DialectModule → Code
code_of d = record { entries = map (entry (setting_of d)) d.functions }

-- what the entries of a module show, for reading: the symbols, and the traces for one list of choices
abbrev pub symbols_of : DialectModule → List (List ℕ × Symbol)
symbols_of d = map (λ (e : Entry). (e.name, e.symbol)) (code_of d).entries

abbrev pub traces_of : DialectModule → List ℕ → List (List Item)
traces_of d choices = filter_map (λ (e : Entry). option_map (λ (b : Body). b.trace choices) e.body) (code_of d).entries
