-- A translation that is begun.
use Rattle.std.specs.Prelude.{All}
use Rattle.kinds.specs.Structs.{Struct}
use Rattle.llvm_core.specs.Module.{Module}
use Rattle.llvm_core.specs.Data.{data_of}
use Rattle.llvm_core.specs.Form.{IsForm, HasDistinctNames}
use Rattle.held_types.specs.Held.{AreHeld}
use Rattle.dialect_types.specs.Trees.{structs_of}
use Rattle.dialect_core.specs.Data.{IsTyped}
use Rattle.from_llvm_ir.specs.Imported.{IsImported, IsIn, seen_by}
use Rattle.from_llvm_ir.specs.Structs.{IsStructMatch, identifiers}
use Rattle.transfer.specs.declared.transferring.Begun.{Begun}
use Rattle.renamed_source.specs.Source.{pairs_of}

-- what is held is the import of that module, which is of the form, with types that are held and names of its own for its functions
pub record IsBegun (m : Module) (b : Begun) : Type 0 where
  pub form : IsForm (data_of m)
  pub held : AreHeld (data_of m)
  pub distinct : HasDistinctNames (data_of m)
  pub imported : IsImported (seen_by b.imported (data_of m)) b.ctx b.imported
  pub typed : IsTyped b.ctx
  pub structs : IsStructMatch (data_of m) (pairs_of b.imported.structs.items) (structs_of b.ctx.types)
  pub only_structs : All (λ (s : Struct). IsIn (identifiers (pairs_of b.imported.structs.items)) s.name) (structs_of b.ctx.types)
