-- The ledger under which `importing::convert_module` counts.
use Rattle.from_llvm_ir.proofs.importing.convert_module.Given as goal

abbrev pub ghosts-import_counted : goal.ghosts-import_counted
ghosts-import_counted a = record { name = a.blank.name; parts = a.blank.parts }
