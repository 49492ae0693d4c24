-- What `operands::row_fits` owes where there is a result.
use Rattle.llvm_core.proofs.RowLemmas.{fits_unless_void}
use Rattle.llvm_core.proofs.operands.row_fits.Goals as goal

pub returns-then-not-is_void : goal.returns-then-not-is_void
returns-then-not-is_void c =
    fits_unless_void c.args.m.now c.args.i c.args.row.now c.type_of.result c.type_kind.result.now c.functions.ensures.sound c.type_of.ensures.ty c.type_kind.ensures.kind
    c.requires.inst c.is_void.result c.is_void.ensures c.if-not-is_void.true
