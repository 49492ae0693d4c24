-- What functions of lines mean: the data of a module, by the numbers of the first function, block and instruction that are free.
use Rattle.std.specs.Prelude.{ℕ, suc, ◌+◌, Bool, false, List, [], ◌∷◌, map, length, Option, Some, None, if◌then◌else◌}
use Rattle.std.specs.Option.{option_map_or}
use Rattle.kinds.specs.Rules.{ends}
use Rattle.kinds.specs.Table.{rule_of}
use Rattle.kinds.specs.Types.{TypeTree, VoidType, FunctionType, TypeTrees, NoTypes, ThenType, same_tree}
use Rattle.kinds.specs.Typing.{fits_trees, typed}
use Rattle.llvm_core.specs.Data as L
use Rattle.llvm_core.specs.Data.{Operand, Placed, Block, Struct, ModuleData, const_type}
use Rattle.ll_literals.specs.Chain.{◌>>=◌}
use Rattle.ll_literals.specs.Names.{symbol_name, text_said}
use Rattle.ll_lines.specs.Lines.{Text, Said, Local, Const, Typed, Incoming, Inst, Phi, Row, Line, Part, Label, Does, Param, Function, StructLine, File}
use Rattle.ll_bodies.specs.Constants.{const_meant}
use Rattle.ll_bodies.specs.Scopes.{Scope, ValueLocal, BlockLocal, empty_scope, local_key, label_key, define_written, written_name, local_of, value_of_type, block_of}

-- ---- a list of things, each of which may mean nothing

abbrev pub all_of : {A B : Type 0} → (A → Option B) → List A → Option (List B)
all_of f [] = Some []
all_of f (x ∷ xs) = f x >>= λ y. all_of f xs >>= λ ys. Some (y ∷ ys)

-- the same, of things under numbers from n on
abbrev pub all_from : {A B : Type 0} → (ℕ → A → Option B) → ℕ → List A → Option (List B)
all_from f n [] = Some []
all_from f n (x ∷ xs) = f n x >>= λ y. all_from f (suc n) xs >>= λ ys. Some (y ∷ ys)

-- ---- blocks

-- a block: what is written of its name, and its lines, of which the last and no other ends it
pub record SaidBlock : Type 0 where
  pub label : Option Text
  pub lines : List Line

abbrev pub ends_inst : Inst → Bool
ends_inst (Phi type entries) = false
ends_inst (Row r) = ends (rule_of r.op).leads

abbrev pub ends_block : Line → Bool
ends_block l = ends_inst l.inst

-- lines without a label before blocks: one more block, where there are any
abbrev pub unlabelled : List Line → List SaidBlock → List SaidBlock
unlabelled [] bs = bs
unlabelled (l ∷ ls) bs = record { label = None; lines = l ∷ ls } ∷ bs

-- a line before what is said behind it: one that ends no block needs a line behind it
abbrev pub put_line : Line → List Line × List SaidBlock → Option (List Line × List SaidBlock)
put_line l ([], bs) = if ends_block l then Some (l ∷ [], bs) else None
put_line l (m ∷ ms, bs) = if ends_block l then Some (l ∷ [], unlabelled (m ∷ ms) bs) else Some (l ∷ m ∷ ms, bs)

-- a label before what is said behind it: it has a line
abbrev pub put_label : Text → List Line × List SaidBlock → Option (List Line × List SaidBlock)
put_label t ([], bs) = None
put_label t (m ∷ ms, bs) = Some ([], record { label = Some t; lines = m ∷ ms } ∷ bs)

-- the lines before the next label or behind the next end of a block, and the blocks behind them
abbrev pub cut : List Part → Option (List Line × List SaidBlock)
cut [] = Some ([], [])
cut (Does l ∷ ps) = cut ps >>= put_line l
cut (Label t ∷ ps) = cut ps >>= put_label t

-- the blocks of a body; a label begins one, and so does a line behind the end of another
abbrev pub blocks_of : List Part → Option (List SaidBlock)
blocks_of ps = cut ps >>= λ x. Some (unlabelled x.0 x.1)

-- ---- what is defined: names and numbers, in the order of the text

-- the type of a line's result, none where it has none or its operands do not fit
abbrev pub result_type : Inst → Option TypeTree
result_type (Phi type entries) = Some type
result_type (Row r) = typed r.op r.written (map (λ (x : Typed). x.type) r.operands)

-- a line without a result has no name and takes no number
abbrev pub result_scope : Scope → (number : ℕ) → Option TypeTree → (written : Option Text) → Option Scope
result_scope s n (Some τ) written = define_written s (ValueLocal (L.Result n) τ) local_key written
result_scope s n None None = Some s
result_scope s n None (Some t) = None

abbrev pub lines_scope : Scope → (number : ℕ) → List Line → Option Scope
lines_scope s n [] = Some s
lines_scope s n (l ∷ ls) = result_scope s n (result_type l.inst) l.result >>= λ t. lines_scope t (suc n) ls

-- the scope after blocks from the number b on, whose instructions have the numbers from n on
abbrev pub blocks_scope : Scope → (b n : ℕ) → List SaidBlock → Option Scope
blocks_scope s b n [] = Some s
blocks_scope s b n (x ∷ xs) = do
  t ← define_written s (BlockLocal b) label_key x.label
  u ← lines_scope t n x.lines
  blocks_scope u (suc b) (n + length x.lines) xs

-- the scope after the parameters of the function f from a place on
abbrev pub params_scope : Scope → (f place : ℕ) → List Param → Option Scope
params_scope s f i [] = Some s
params_scope s f i (p ∷ ps) = define_written s (ValueLocal (L.Parameter f i) p.type) local_key p.name >>= λ t. params_scope t f (suc i) ps

-- ---- what is said, in the scope of the whole function: a use may stand before its definition

-- in a module of these structs
module _ (structs : List Struct) where
  -- an operand of that type
  abbrev pub operand : Scope → TypeTree → Said → Option Operand
  operand s τ (Const c) = const_meant structs c >>= λ d. if same_tree (const_type d) τ then Some (L.Constant d) else None
  operand s τ (Local t) = value_of_type τ (local_of s t)

  abbrev pub entry : Scope → TypeTree → Incoming → Option (Operand × ℕ)
  entry s τ e = operand s τ e.said >>= λ o. block_of s e.block >>= λ b. Some (o, b)

  -- operands that do not fit a row mean nothing; how many there have to be, and what a return gives, is for the check
  abbrev pub instruction : Scope → Inst → Option L.Instruction
  instruction s (Phi type entries) = all_of (entry s type) entries >>= λ es. Some (L.Phi es)
  instruction s (Row r) = do
    os ← all_of (λ (x : Typed). operand s x.type x.said) r.operands
    bs ← all_of (block_of s) r.targets
    if fits_trees r.op r.written (map (λ (x : Typed). x.type) r.operands) then Some (L.Applied (record { op = r.op; written = r.written; operands = os; targets = bs })) else None

  -- an instruction under its number
  abbrev pub placed : Scope → (number : ℕ) → Line → Option Placed
  placed s n l = instruction s l.inst >>= λ i. Some (record { number = n; name = written_name local_key l.result; type = option_map_or (λ (τ : TypeTree). τ) (result_type l.inst) VoidType; instruction = i })

  -- blocks from the number b on, whose instructions have the numbers from n on
  abbrev pub blocks_data : Scope → (b n : ℕ) → List SaidBlock → Option (List Block)
  blocks_data s b n [] = Some []
  blocks_data s b n (x ∷ xs) = do
    is ← all_from (placed s) n x.lines
    bs ← blocks_data s (suc b) (n + length x.lines) xs
    Some (record { number = b; name = written_name label_key x.label; instructions = is } ∷ bs)

-- ---- functions

abbrev pub types_of : List Param → TypeTrees
types_of [] = NoTypes
types_of (p ∷ ps) = ThenType p.type (types_of ps)

-- the function of the number f, with blocks from b on and instructions from n on, in a module of these structs
abbrev pub function_data : List Struct → (f b n : ℕ) → Function → Option L.Function
function_data structs f b n x = do
  name ← symbol_name x.name
  said ← blocks_of x.body
  s ← params_scope empty_scope f 0 x.params
  t ← blocks_scope s b n said
  blocks ← blocks_data structs t b n said
  Some (record {
    number = f;
    name = name;
    type = FunctionType x.result (types_of x.params) false;
    space = 0;
    params = map (λ (p : Param). written_name local_key p.name) x.params;
    blocks = blocks;
  })

-- how many instructions blocks have
abbrev pub count_insts : List Block → ℕ
count_insts [] = 0
count_insts (b ∷ bs) = length b.instructions + count_insts bs

-- functions from the number f on, with blocks from b on and instructions from n on
abbrev pub functions_data : List Struct → (f b n : ℕ) → List Function → Option (List L.Function)
functions_data structs f b n [] = Some []
functions_data structs f b n (x ∷ xs) = do
  d ← function_data structs f b n x
  ds ← functions_data structs (suc f) (b + length d.blocks) (n + count_insts d.blocks) xs
  Some (d ∷ ds)

-- ---- a file

-- the name of the module, which may be any text; empty where none is written
abbrev pub source_name : Option Text → Option Text
source_name None = Some []
source_name (Some t) = text_said t

-- a struct under its name, which may not be the only one of that name: that is for the check
abbrev pub struct_data : StructLine → Option Struct
struct_data x = symbol_name x.name >>= λ name. Some (record { name = name; body = x.body })

-- the data that a text says: its functions, blocks and instructions are each numbered from 0 in order
abbrev pub file_data : File → Option ModuleData
file_data m = do
  name ← source_name m.source
  structs ← all_of struct_data m.structs
  functions ← functions_data structs 0 0 0 m.functions
  Some (record { name = name; structs = structs; functions = functions })
