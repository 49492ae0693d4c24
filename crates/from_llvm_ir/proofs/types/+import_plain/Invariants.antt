-- How `types::import_plain` and what it calls end, and what their loop keeps.
use Rattle.std.proofs.Common.{◌+◌, ◌*◌, take}
use Rattle.llvm_core.specs.Data.{trees_of}
use Rattle.from_llvm_ir.proofs.TypeLaws.{Imports}
use Rattle.from_llvm_ir.proofs.KindLaws.{reach}
use Rattle.from_llvm_ir.proofs.types.+import_plain.Given as goal

-- the parts of a type are earlier ones
abbrev pub decreases-import_plain : goal.decreases-import_plain
decreases-import_plain l = 3 * l.ty.0 + 3

abbrev pub decreases-import_kind : goal.decreases-import_kind
decreases-import_kind l = 3 * l.ty.0 + 2

abbrev pub decreases-import_all : goal.decreases-import_all
decreases-import_all l = 3 * reach l.types.now + 1

abbrev pub invariant-import_all-loop-ty : goal.invariant-import_all-loop-ty
invariant-import_all-loop-ty l = Imports l.fn.ctx l.ctx (trees_of l.source).types (take l.ty-index l.types) l.imported.items
