-- The tables of LLVM text pass the check, by computing.
use Rattle.std.proofs.Common.{refl}
use Rattle.grammars.specs.Flat.{rows_of}
use Rattle.grammars.specs.Right.{IsRight}
use Rattle.grammars.proofs.RowLaws.{rows_are_right}
use Rattle.ll_rules.specs.declared.tables.TheConstants.{SYMBOLS, ALTERNATIVES, ROWS, FIRSTS, MORES}
use Rattle.ll_rules.specs.Llvm.{llvm, llvm_tables}

pub llvm_right : IsRight llvm llvm_tables
llvm_right = rows_are_right (rows_of SYMBOLS ALTERNATIVES ROWS FIRSTS MORES) refl
