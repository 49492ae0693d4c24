-- A module of LLVM with its structs under other names: each type that names one says its other name, and nothing else changes.
use Rattle.std.specs.Prelude.{ℕ, List, map}
use Rattle.std.specs.Option.{option_map}
use Rattle.kinds.specs.Structs.{renamed, renamed_struct}
use Rattle.llvm_core.specs.Data as L
use Rattle.llvm_core.specs.Data.{ConstTree, IntConst, FilledConst, BytesConst, ListConst, SplatConst, PlaceholderConst, ConstTrees, NoConsts, ThenConst, RowData, Instruction, Phi, Applied, Placed, ModuleData}

module _ (to : List ℕ → List ℕ) where
  abbrev mutual
    -- a line for each kind of constant
    pub renamed_const : ConstTree → ConstTree
    renamed_const (IntConst w v) = IntConst w v
    renamed_const (FilledConst fill type) = FilledConst fill (renamed to type)
    renamed_const (BytesConst bytes) = BytesConst bytes
    renamed_const (ListConst type elements) = ListConst (renamed to type) (renamed_consts elements)
    renamed_const (SplatConst type element) = SplatConst (renamed to type) (renamed_const element)
    renamed_const (PlaceholderConst n type) = PlaceholderConst n (renamed to type)

    pub renamed_consts : ConstTrees → ConstTrees
    renamed_consts NoConsts = NoConsts
    renamed_consts (ThenConst c cs) = ThenConst (renamed_const c) (renamed_consts cs)

  abbrev pub renamed_operand : L.Operand → L.Operand
  renamed_operand (L.Constant c) = L.Constant (renamed_const c)
  renamed_operand (L.Parameter f i) = L.Parameter f i
  renamed_operand (L.Result n) = L.Result n

  abbrev pub renamed_phi_entry : L.Operand × ℕ → L.Operand × ℕ
  renamed_phi_entry e = (renamed_operand e.0, e.1)

  abbrev pub renamed_row : RowData → RowData
  renamed_row r = record r { written = option_map (renamed to) r.written; operands = map renamed_operand r.operands }

  abbrev pub renamed_instruction : Instruction → Instruction
  renamed_instruction (Phi entries) = Phi (map renamed_phi_entry entries)
  renamed_instruction (Applied r) = Applied (renamed_row r)

  abbrev pub renamed_placed : Placed → Placed
  renamed_placed p = record p { type = renamed to p.type; instruction = renamed_instruction p.instruction }

  abbrev pub renamed_block : L.Block → L.Block
  renamed_block b = record b { instructions = map renamed_placed b.instructions }

  abbrev pub renamed_function : L.Function → L.Function
  renamed_function f = record f { type = renamed to f.type; blocks = map renamed_block f.blocks }

  abbrev pub renamed_module : ModuleData → ModuleData
  renamed_module d = record d { structs = map (renamed_struct to) d.structs; functions = map renamed_function d.functions }
