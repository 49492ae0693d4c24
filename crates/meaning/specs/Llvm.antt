-- What LLVM module data mean.
use Rattle.std.specs.Prelude.{ℕ, Bool, false, not, ◌&&◌, if◌then◌else◌, List, [], Option, Some, None, map, option_map, length, filter, nat_eq, nat_lt}
use Rattle.std.specs.Option.{option_map_or}
use Rattle.std.specs.List.{flat_map, filter_map, position_from, find}
use Rattle.kinds.specs.Types.{TypeTree, takes_of, count_types}
use Rattle.kinds.specs.Names.{is_intrinsic_name}
use Rattle.llvm_core.specs.Data as L
use Rattle.llvm_core.specs.Data.{ConstTree, IntConst, FilledConst, BytesConst, ListConst, SplatConst, PlaceholderConst, ConstTrees, NoConsts, ThenConst, RowData, Instruction, Phi, Applied as AppliedRow, Constant, Parameter, Result, Placed, ModuleData, operand_type, targets, phi_entries}
use Rattle.llvm_core.specs.Form.{operands_of}
use Rattle.meaning.specs.Terms.{Term, Param, Unset, Int, Terms, NoTerms, ThenTerm, filled_term}
use Rattle.meaning.specs.Constants.{bytes_term, list_term, splat_term}
use Rattle.meaning.specs.Machine.{Operand, At, Fixed, Action, Applies, Row, Edge, Block, Item, trace}
use Rattle.meaning.specs.Setting.{Setting, TellsNothing}
use Rattle.meaning.specs.Code.{Code, Entry, Body, Symbol, FunctionSymbol, External}

abbrev mutual
  -- the term of a constant of the module, a line for each kind
  pub const_term : Setting → ConstTree → Term
  const_term setting (IntConst w n) = Int w n
  const_term setting (FilledConst fill ty) = filled_term fill ty
  const_term setting (BytesConst bytes) = bytes_term bytes
  const_term setting (ListConst ty elements) = list_term ty (const_terms setting elements)
  const_term setting (SplatConst ty element) = splat_term ty (const_term setting element)
  const_term setting (PlaceholderConst n ty) = Unset

  pub const_terms : Setting → ConstTrees → Terms
  const_terms setting NoConsts = NoTerms
  const_terms setting (ThenConst c cs) = ThenTerm (const_term setting c) (const_terms setting cs)

-- what sets a term in a run: a parameter of a function, or the result of an instruction
pub data Key : Type 0 where
  ParamKey : (function place : ℕ) → Key
  ResultKey : (instruction : ℕ) → Key

abbrev pub same_key : Key → Key → Bool
same_key (ParamKey f i) (ParamKey g j) = nat_eq f g && nat_eq i j
same_key (ResultKey m) (ResultKey n) = nat_eq m n
same_key _ _ = false

abbrev pub operand : Setting → L.Operand → Operand Key
operand setting (Constant c) = Fixed (const_term setting c)
operand setting (Parameter f i) = At (ParamKey f i)
operand setting (Result n) = At (ResultKey n)

-- ---- what an instruction uses, and what its row shows

-- what must stand before it, and what is hoisted of it where it is a constant
abbrev pub used : Instruction → List L.Operand
used i = operands_of i

-- what an action of its row holds: all that it uses, since no operand yet is shown otherwise than it is used
abbrev pub shown : RowData → List L.Operand
shown r = r.operands

-- ---- rows and edges

-- what a row does, with a result of the type
abbrev pub action : Setting → L.Function → TypeTree → RowData → Action Key
action setting f type r = Applies r.op type (map (operand_type f) (shown r)) (map (operand setting) (shown r))

-- a phi is no row
abbrev pub row : Setting → L.Function → Placed → Instruction → Option (Row Key)
row setting f p (Phi entries) = None
row setting f p (AppliedRow r) = Some (record { action = action setting f p.type r; result = ResultKey p.number })

-- a phi takes the operand of its first entry for the block that the edge comes from
abbrev pub entry_for : Setting → ℕ → List (L.Operand × ℕ) → Option (Operand Key)
entry_for setting from entries = option_map (λ (e : L.Operand × ℕ). operand setting e.0) (find (λ (e : L.Operand × ℕ). nat_eq e.1 from) entries)

abbrev pub phi_move : Setting → ℕ → Placed → Option (Key × Option (Operand Key))
phi_move setting from p = option_map (λ (es : List (L.Operand × ℕ)). (ResultKey p.number, entry_for setting from es)) (phi_entries p.instruction)

-- the place of a block in a body, which is past the end where the body has no such block
abbrev pub place_of : List L.Block → ℕ → ℕ
place_of blocks n = option_map_or (λ i. i) (position_from (λ (b : L.Block). nat_eq b.number n) 0 blocks) (length blocks)

abbrev pub edge : Setting → L.Function → ℕ → ℕ → Edge Key
edge setting f from to = record {
  to = place_of f.blocks to;
  moves = option_map_or (λ (b : L.Block). filter_map (phi_move setting from) b.instructions) (find (λ (b : L.Block). nat_eq b.number to) f.blocks) [];
}

abbrev pub block : Setting → L.Function → L.Block → Block Key
block setting f b = record {
  rows = filter_map (λ (p : Placed). row setting f p p.instruction) b.instructions;
  edges = map (edge setting f b.number) (flat_map (λ (p : Placed). targets p.instruction) b.instructions);
}

-- ---- the code of a module

abbrev pub arity : TypeTree → ℕ
arity t = count_types (takes_of t)

-- each parameter of the function is set, and nothing else
abbrev pub start : L.Function → Key → Term
start f (ParamKey g i) = if nat_eq g f.number && nat_lt i (arity f.type) then Param i else Unset
start f (ResultKey n) = Unset

abbrev pub body : Setting → L.Function → Body
body setting f = record {
  blocks = length f.blocks;
  trace = trace Key same_key (start f) (map (block setting f) f.blocks);
}

abbrev pub has_blocks : L.Function → Bool
has_blocks f = nat_lt 0 (length f.blocks)

-- a function is external: no other linkage is held yet
abbrev pub entry : Setting → L.Function → Entry
entry setting f = record {
  name = f.name;
  symbol = FunctionSymbol f.type External f.space (has_blocks f);
  body = if has_blocks f then Some (body setting f) else None;
}

-- a function whose name begins with `llvm.`
abbrev pub is_intrinsic : L.Function → Bool
is_intrinsic f = is_intrinsic_name f.name

-- what a module tells its bodies
abbrev pub setting_of : ModuleData → Setting
setting_of d = TellsNothing

-- the symbols and bodies of a module, intrinsics aside
abbrev pub code_of : ModuleData → Code
code_of d = record { entries = map (entry (setting_of d)) (filter (λ (f : L.Function). not (is_intrinsic f)) d.functions) }

-- what the entries of a module show, for reading: the symbols, and the traces for one list of choices
abbrev pub symbols_of : ModuleData → List (List ℕ × Symbol)
symbols_of d = map (λ (e : Entry). (e.name, e.symbol)) (code_of d).entries

abbrev pub traces_of : ModuleData → List ℕ → List (List Item)
traces_of d choices = filter_map (λ (e : Entry). option_map (λ (b : Body). b.trace choices) e.body) (code_of d).entries
