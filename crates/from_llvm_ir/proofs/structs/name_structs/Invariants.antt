-- What the loop of `structs::name_structs` keeps.
use Rattle.std.proofs.Common.{◌≤◌}
use Rattle.llvm_core.specs.Data.{data_of}
use Rattle.dialect_types.specs.Legalised.{GoesOn}
use Rattle.renamed_source.specs.Source.{pairs_of}
use Rattle.from_llvm_ir.specs.Naming.{HasMet}
use Rattle.from_llvm_ir.specs.Structs.{source_names}
use Rattle.from_llvm_ir.proofs.NamingLaws.{Naming}
use Rattle.from_llvm_ir.proofs.structs.name_structs.Given as goal

abbrev pub invariant-loop-n : goal.invariant-loop-n
invariant-loop-n l = record {
  within : l.n ≤ l.count;
  named : Naming (data_of l.module) l.held l.n l.names l.met (pairs_of l.pairs.items);
  asked : HasMet l.fn.names l.names (source_names (pairs_of l.pairs.items));
  grown : GoesOn l.fn.names l.names;
}
