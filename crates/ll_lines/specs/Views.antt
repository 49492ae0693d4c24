-- What the program keeps of lines, as what a text says: numbers of types and constants stand for their trees, a place of the table of
-- constants for what stands there, and a place of the text for the bytes there.
use Rattle.std.specs.Prelude.{◌≡◌, ◌<◌, ◌-◌, ℕ, List, [], ◌∷◌, Some, map, take, drop, length, slice_get, slice_index_or, All, IfSome}
use Rattle.std.specs.Option.{option_map}
use Rattle.llvm_core.specs.declared.numbers.LLVMType.{LLVMType}
use Rattle.llvm_core.specs.Module.{Module}
use Rattle.llvm_core.specs.Data.{Trees, VoidType, PlaceholderConst, type_at, const_at, fields_of, trees_after}
use Rattle.llvm_core.specs.Sound.{AreFieldsIn}
use Rattle.ll_lines.specs.declared.names.Name.{Name}
use Rattle.ll_lines.specs.declared.lines.SaidConst as code_const
use Rattle.ll_lines.specs.declared.lines.ConstLine as code_const_line
use Rattle.ll_lines.specs.declared.lines.Said as code_said
use Rattle.ll_lines.specs.declared.lines.Typed as code_typed
use Rattle.ll_lines.specs.declared.lines.RowLine as code_row
use Rattle.ll_lines.specs.declared.lines.Incoming as code_incoming
use Rattle.ll_lines.specs.declared.lines.Inst as code_inst
use Rattle.ll_lines.specs.declared.lines.Line as code_line
use Rattle.ll_lines.specs.declared.lines.Part as code_part
use Rattle.ll_lines.specs.declared.lines.Param as code_param
use Rattle.ll_lines.specs.declared.lines.Function as code_function
use Rattle.ll_lines.specs.declared.lines.StructLine as code_struct
use Rattle.ll_lines.specs.declared.lines.File as code_file
use Rattle.ll_lines.specs.Lines.{Text, SaidConst, SaidConsts, Said, Typed, RowLine, Incoming, Inst, Line, Part, Param, Function, StructLine, File}
use Rattle.ll_lines.specs.Lines as L

-- the bytes of a token
abbrev pub text_of : List ℕ → Name → Text
text_of bytes n = take (n.end - n.start) (drop n.start bytes)

-- ---- constants

-- a constant that a table says nothing of
abbrev pub no_const : SaidConst
no_const = L.Plain (PlaceholderConst 0 VoidType)

abbrev pub saids_of : List SaidConst → SaidConsts
saids_of [] = L.NoneSaid
saids_of (c ∷ cs) = L.ThenSaid c (saids_of cs)

-- over the bytes of the text, the trees of the module, and what the constants of the table say that stand before
module _ (bytes : List ℕ) (t : Trees) (table : List SaidConst) where
  abbrev pub const_view : code_const.SaidConst → SaidConst
  const_view (code_const.TheVariants.Plain c) = L.Plain (const_at t.consts c)
  const_view (code_const.TheVariants.Made p) = slice_index_or table p.0 no_const

  abbrev pub const_line_view : code_const_line.ConstLine → SaidConst
  const_line_view (code_const_line.TheVariants.Chars ty n) = L.Chars (type_at t.types ty) (text_of bytes n)
  const_line_view (code_const_line.TheVariants.Listed ty brackets cs) = L.Listed (type_at t.types ty) brackets (saids_of (map const_view cs))
  const_line_view (code_const_line.TheVariants.Splat ty c) = L.Splat (type_at t.types ty) (const_view c)

-- what the constants of a table say, each over those before it
abbrev pub table_view : List ℕ → Trees → List code_const_line.ConstLine → List SaidConst
table_view bytes t lines = trees_after (const_line_view bytes t) [] lines

-- ---- what is said, over the bytes of the text, the trees of the module, and what the constants of the table say

-- a parameter and a struct say no constant
abbrev pub param_view : List ℕ → Trees → code_param.Param → Param
param_view bytes t p = record { type = type_at t.types p.ty; name = option_map (text_of bytes) p.name }

abbrev pub struct_view : List ℕ → Trees → code_struct.StructLine → StructLine
struct_view bytes t s = record { name = text_of bytes s.name; body = option_map (fields_of t.types) s.body }

module _ (bytes : List ℕ) (t : Trees) (table : List SaidConst) where
  abbrev pub said_view : code_said.Said → Said
  said_view (code_said.TheVariants.Local n) = L.Local (text_of bytes n)
  said_view (code_said.TheVariants.Const c) = L.Const (const_view bytes t table c)

  abbrev pub typed_view : code_typed.Typed → Typed
  typed_view x = record { type = type_at t.types x.ty; said = said_view x.said }

  abbrev pub row_view : code_row.RowLine → RowLine
  row_view r = record {
    op = r.op;
    written = option_map (type_at t.types) r.written;
    operands = map typed_view r.operands;
    targets = map (text_of bytes) r.targets;
  }

  abbrev pub incoming_view : code_incoming.Incoming → Incoming
  incoming_view e = record { said = said_view e.said; block = text_of bytes e.block }

  abbrev pub inst_view : code_inst.Inst → Inst
  inst_view (code_inst.TheVariants.Phi ty entries) = L.Phi (type_at t.types ty) (map incoming_view entries)
  inst_view (code_inst.TheVariants.Row r) = L.Row (row_view r)

  abbrev pub line_view : code_line.Line → Line
  line_view l = record { result = option_map (text_of bytes) l.result; inst = inst_view l.inst }

  abbrev pub part_view : code_part.Part → Part
  part_view (code_part.TheVariants.Label n) = L.Label (text_of bytes n)
  part_view (code_part.TheVariants.Does l) = L.Does (line_view l)

  abbrev pub function_view : code_function.Function → Function
  function_view f = record {
    result = type_at t.types f.result;
    name = text_of bytes f.name;
    params = map (param_view bytes t) f.params.items;
    body = map part_view f.body.items;
  }

-- a file, over the bytes of the text and the trees of the module
abbrev pub file_view : List ℕ → Trees → code_file.File → File
file_view bytes t f = record {
  source = option_map (text_of bytes) f.source;
  structs = map (struct_view bytes t) f.structs.items;
  functions = map (function_view bytes t (table_view bytes t f.consts.items)) f.functions.items;
}

-- ---- its types and constants are there

abbrev pub IsTypeIn : Module → LLVMType → Type 0
IsTypeIn m ty = ty.0 < length m.types

-- of a module, and of a table of so many
module _ (m : Module) (made : ℕ) where
  abbrev pub IsConstIn : code_const.SaidConst → Type 0
  IsConstIn (code_const.TheVariants.Plain c) = c.0 < length m.consts
  IsConstIn (code_const.TheVariants.Made p) = p.0 < made

  abbrev pub IsConstLineIn : code_const_line.ConstLine → Type 0
  IsConstLineIn (code_const_line.TheVariants.Chars ty n) = IsTypeIn m ty
  IsConstLineIn (code_const_line.TheVariants.Listed ty brackets cs) = IsTypeIn m ty × All IsConstIn cs
  IsConstLineIn (code_const_line.TheVariants.Splat ty c) = IsTypeIn m ty × IsConstIn c

-- each over those before it
abbrev pub IsTableIn : Module → List code_const_line.ConstLine → Type 0
IsTableIn m lines = (i : ℕ) (l : code_const_line.ConstLine) → slice_get lines i ≡ Some l → IsConstLineIn m i l

module _ (m : Module) (made : ℕ) where
  abbrev pub IsSaidIn : code_said.Said → Type 0
  IsSaidIn (code_said.TheVariants.Local n) = Unit {0}
  IsSaidIn (code_said.TheVariants.Const c) = IsConstIn m made c

  abbrev pub IsTypedIn : code_typed.Typed → Type 0
  IsTypedIn x = IsTypeIn m x.ty × IsSaidIn x.said

  abbrev pub IsInstIn : code_inst.Inst → Type 0
  IsInstIn (code_inst.TheVariants.Phi ty entries) = IsTypeIn m ty × All (λ (e : code_incoming.Incoming). IsSaidIn e.said) entries
  IsInstIn (code_inst.TheVariants.Row r) = IfSome r.written (IsTypeIn m) × All IsTypedIn r.operands

  abbrev pub IsPartIn : code_part.Part → Type 0
  IsPartIn (code_part.TheVariants.Label n) = Unit {0}
  IsPartIn (code_part.TheVariants.Does l) = IsInstIn l.inst

  pub record IsFunctionIn (f : code_function.Function) : Type 0 where
    pub result : IsTypeIn m f.result
    pub params : All (λ (p : code_param.Param). IsTypeIn m p.ty) f.params.items
    pub body : All IsPartIn f.body.items

-- its fields are types that a struct may have
abbrev pub IsStructIn : Module → code_struct.StructLine → Type 0
IsStructIn m s = IfSome s.body (AreFieldsIn m.types)

pub record IsFileIn (m : Module) (f : code_file.File) : Type 0 where
  pub table : IsTableIn m f.consts.items
  pub structs : All (IsStructIn m) f.structs.items
  pub functions : All (IsFunctionIn m (length f.consts.items)) f.functions.items
