-- What the import has made so far, function by function.
use Rattle.std.specs.Prelude.{ℕ, ◌≡◌, List, take, All, length}
use Rattle.llvm_core.specs.Data as L
use Rattle.dialect_types.specs.Names.{IsIdentifier}
use Rattle.dialect_types.specs.Legalised.{Named}
use Rattle.dialect_core.specs.declared.numbers.BlockRef.{BlockRef}
use Rattle.dialect_core.specs.ContextData.{ContextData}
use Rattle.dialect_core.specs.Data.{DialectModule, with_func}
use Rattle.from_llvm_ir.specs.declared.matching.FunctionBlocks.{FunctionBlocks}
use Rattle.from_llvm_ir.specs.Imported.{AreImported, IsBelow, IsBuilding, kept_name}
use Rattle.from_llvm_ir.specs.Building.{bare_func}

-- the module's last function, behind those of d, has that name, an identifier, keeps that of g where it is another, has the
-- type of g, and no block yet
pub record IsDeclared (g : L.Function) (name : List ℕ) (c : ContextData) (m : ℕ) (body : BlockRef) (d : DialectModule) (n : ℕ) : Type 0 where
  pub building : IsBuilding c m body (with_func d (bare_func n name (kept_name g.name name) g.type))
  pub before : All (IsBelow n (length c.blocks)) d.functions
  pub legal : IsIdentifier name

-- the first k functions of a module are imported, and matched
pub record IsImportedTo (d : L.ModuleData) (given : List Named) (k : ℕ) (c : ContextData) (m : ℕ) (body : BlockRef) (name : List ℕ) (bs : List FunctionBlocks) : Type 0 where
  pub so_far : DialectModule
  pub building : IsBuilding c m body so_far
  pub name_is : so_far.name ≡ name
  pub functions : AreImported d given (take k d.functions) bs so_far.functions
