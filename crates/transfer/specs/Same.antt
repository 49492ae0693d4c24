-- What a module, its dialect module and its module back have in common, and why a module is refused.
use Rattle.std.specs.Prelude.{◌≡◌, ℕ, List, All, map}
use Rattle.kinds.specs.Structs.{Struct}
use Rattle.llvm_core.specs.Module.{Module}
use Rattle.llvm_core.specs.Data as L
use Rattle.llvm_core.specs.Data.{ModuleData}
use Rattle.dialect_types.specs.Legalised.{Named, Gave, IsLegalised}
use Rattle.dialect_core.specs.ContextData.{ContextData}
use Rattle.dialect_core.specs.Data as D
use Rattle.dialect_core.specs.WellFormed.{IsWellFormed}
use Rattle.meaning.specs.Pairs.{Matched}
use Rattle.meaning.specs.Code.{SameCode}
use Rattle.meaning.specs.Llvm as Llvm
use Rattle.meaning.specs.Dialect as Dialect
use Rattle.meaning.specs.Renamed.{renamed_module}
use Rattle.renamed_source.specs.Names.{struct_name}
use Rattle.dialect_types.specs.Trees.{structs_of}
use Rattle.from_llvm_ir.specs.declared.importing.Imported.{Imported}
use Rattle.from_llvm_ir.specs.Match.{match_of}
use Rattle.from_llvm_ir.specs.Imported.{AreImported, BeginsWith, IsIn}
use Rattle.from_llvm_ir.specs.Structs.{IsStructMatch, identifiers}
use Rattle.held_types.specs.Held.{HasWideConst}
use Rattle.from_llvm_ir.specs.Refusals as Import
use Rattle.to_llvm_ir.specs.Exported.{ExportedFunction}
use Rattle.from_consts.specs.declared.conversion_err.ConversionErr.{ConversionErr}
use Rattle.from_consts.specs.declared.conversion_err.ConversionErr.TheVariants as C
use Rattle.to_llvm_ir.specs.declared.to_llvm_err.ToLLVMErr.{ToLLVMErr}
use Rattle.to_llvm_ir.specs.declared.to_llvm_err.ToLLVMErr.TheVariants as X
use Rattle.transfer.specs.declared.transferred.Transferred.{Transferred}
use Rattle.transfer.specs.declared.transfer_err.TransferErr.{TransferErr}
use Rattle.transfer.specs.declared.transfer_err.TransferErr.TheVariants as E
use Rattle.renamed_source.specs.Source.{pairs_of}

-- what is handed out: what an import made in a context, and the module back
abbrev pub transferred_of : ContextData → Imported → Module → Transferred
transferred_of c i back = record { ctx = c; dialect = i.«module»; back = back; blocks = i.blocks; structs = i.structs }

-- the data of the dialect module and of the module back
abbrev pub dialect_of : Transferred → D.DialectModule
dialect_of t = D.data_of t.ctx t.dialect.0.0

abbrev pub back_of : Transferred → ModuleData
back_of t = L.data_of t.back

-- the source as the import read it: its structs under their names in the dialect
abbrev pub seen_in : Transferred → ModuleData → ModuleData
seen_in t m = renamed_module (struct_name (pairs_of t.structs.items)) m

-- The three modules have the same code under the match, and the same names of LLVM in the same order; function by
-- function the dialect module is made by the rules of the import, of the source with its structs under their names in the
-- dialect, and the module back by those of the export. The dialect module keeps every rule of the dialect. The structs with a
-- name of its context, which are those of the module back in order, match those that values of the source hold, one by one.
pub record SameThroughout (m : ModuleData) (t : Transferred) : Type 0 where
  -- the names that were met, each with its identifier
  pub given : List Named
  pub legalised : IsLegalised given
  pub begins : BeginsWith m given
  pub dialect : SameCode (match_of m t.blocks (pairs_of t.structs.items)) (Llvm.code_of m) (Dialect.code_of (dialect_of t))
  pub back : SameCode (match_of m t.blocks (pairs_of t.structs.items)) (Llvm.code_of m) (Llvm.code_of (back_of t))
  pub name : Gave given m.name (dialect_of t).name
  pub back_name : (back_of t).name ≡ (dialect_of t).name
  pub structs : IsStructMatch m (pairs_of t.structs.items) (structs_of t.ctx.types)
  pub struct_names : All (λ (p : List ℕ × List ℕ). Gave given p.0 p.1) (pairs_of t.structs.items)
  -- there is no other struct
  pub only_structs : All (λ (s : Struct). IsIn (identifiers (pairs_of t.structs.items)) s.name) (structs_of t.ctx.types)
  pub back_structs : (back_of t).structs ≡ structs_of t.ctx.types
  pub functions : map D.llvm_name_of (dialect_of t).functions ≡ map (λ (f : L.Function). f.name) m.functions
  pub back_functions : map (λ (f : L.Function). f.name) (back_of t).functions ≡ map (λ (f : L.Function). f.name) m.functions
  pub imported : AreImported (seen_in t m) given (seen_in t m).functions t.blocks (dialect_of t).functions
  pub exported : Matched ExportedFunction (dialect_of t).functions (back_of t).functions
  pub well_formed : IsWellFormed t.ctx t.dialect.0.0

-- ---- refusals

-- a refusal of the import, whose want of memory has an answer of its own
abbrev pub of_import : ConversionErr → TransferErr
of_import (C.UndefinedValue name v) = E.Import (C.UndefinedValue name v)
of_import (C.IntConstTooWide width) = E.Import (C.IntConstTooWide width)
of_import (C.Unsupported u) = E.Import (C.Unsupported u)
of_import (C.Struct s) = E.Import (C.Struct s)
of_import C.NoMemory = E.NoMemory

abbrev pub of_export : ToLLVMErr → TransferErr
of_export (X.UndefinedValue name) = E.Export (X.UndefinedValue name)
of_export (X.UndefinedBlock label) = E.Export (X.UndefinedBlock label)
of_export X.NumBlockArgsNumPhisMismatch = E.Export X.NumBlockArgsNumPhisMismatch
of_export (X.EdgeArgsDiffer from to) = E.Export (X.EdgeArgsDiffer from to)
of_export X.NoMemory = E.NoMemory

-- why a module of these data is refused: only where the import into an empty context has a cause, so never for a struct; want
-- of memory needs none, and never stands inside
abbrev pub IsCause : ModuleData → TransferErr → Type 0
IsCause d (E.Import C.NoMemory) = ⊥
IsCause d (E.Import (C.UndefinedValue name v)) = Import.HasUndefinedUse d name v
IsCause d (E.Import (C.IntConstTooWide width)) = HasWideConst d width
IsCause d (E.Import (C.Unsupported u)) = Import.IsUnsupported d u
IsCause d (E.Import (C.Struct s)) = ⊥
IsCause d (E.Export e) = ⊥
IsCause d E.NoMemory = Unit {0}
