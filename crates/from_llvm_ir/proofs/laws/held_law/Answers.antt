-- A module that is held has no type for which the dialect has none, and no constant that is too wide.
use Rattle.from_llvm_ir.proofs.RefusedLaws.{held_unsupported}
use Rattle.from_llvm_ir.proofs.laws.held_law.Goals as goal

pub returns-clause-supported : goal.returns-clause-supported
returns-clause-supported c = held_unsupported

pub returns-clause-short : goal.returns-clause-short
returns-clause-short c = λ d held width. held.constants width
