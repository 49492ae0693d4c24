-- The grammar of LLVM text.
use Rattle.grammars.specs.Grammar.{Grammar}
use Rattle.grammars.specs.Flat.{rows_of}
use Rattle.grammars.specs.Right.{Tables}
use Rattle.grammars.specs.RowGrammar.{grammar_of_rows, tables_of_rows}
use Rattle.ll_rules.specs.declared.tables.TheConstants.{SYMBOLS, ALTERNATIVES, ROWS, FIRSTS, MORES}

abbrev pub llvm : Grammar
llvm = grammar_of_rows (rows_of SYMBOLS ALTERNATIVES ROWS FIRSTS MORES)

-- what its tables claim
abbrev pub llvm_tables : Tables
llvm_tables = tables_of_rows (rows_of SYMBOLS ALTERNATIVES ROWS FIRSTS MORES)
