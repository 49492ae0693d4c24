-- What the loop of `importing::import_bodies` keeps.
use Rattle.std.proofs.Common.{ℕ, List, length, ◌≤◌}
use Rattle.llvm_core.specs.Data.{data_of}
use Rattle.dialect_types.specs.Legalised.{Named, GoesOn}
use Rattle.from_llvm_ir.specs.Imported.{IsBuilding}
use Rattle.from_llvm_ir.specs.Naming.{ForLater}
use Rattle.from_llvm_ir.specs.Importing.{IsImportedTo}
use Rattle.from_llvm_ir.specs.Keeping.{Keeps}
use Rattle.from_llvm_ir.specs.Building.{module_named}
use Rattle.from_llvm_ir.proofs.importing.import_bodies.Given as goal

abbrev pub invariant-loop-f : goal.invariant-loop-f
invariant-loop-f g l = record {
  within : l.f ≤ length l.source.functions;
  kept : (m : ℕ) → (name : List ℕ) → IsBuilding l.initial.ctx m l.body (module_named name) → (n b : ℕ) → n ≤ m → b ≤ l.body.0 → Keeps n b l.initial.ctx l.ctx;
  imported : (m : ℕ) → (name : List ℕ) → IsBuilding l.initial.ctx m l.body (module_named name) → ForLater l.names (λ (given : List Named). IsImportedTo (data_of l.source) given l.f l.ctx m l.body name l.blocks);
  grown : GoesOn l.initial.names l.names;
}
