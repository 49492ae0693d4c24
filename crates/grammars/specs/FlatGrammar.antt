-- The grammar that flat tables are read as, and what they claim of it.
use Rattle.std.specs.Prelude.{List}
use Rattle.grammars.specs.declared.grammar.Grammar as code
use Rattle.grammars.specs.Grammar.{Grammar}
use Rattle.grammars.specs.Right.{Tables}
use Rattle.grammars.specs.Rows.{Row}
use Rattle.grammars.specs.RowGrammar.{grammar_of_rows, tables_of_rows}
use Rattle.grammars.specs.Flat.{rows_of}

abbrev pub rows : code.Grammar → List Row
rows g = rows_of g.symbols.now g.alternatives.now g.rows.now g.firsts.now g.mores.now

abbrev pub grammar_of : code.Grammar → Grammar
grammar_of g = grammar_of_rows (rows g)

abbrev pub tables_of : code.Grammar → Tables
tables_of g = tables_of_rows (rows g)
