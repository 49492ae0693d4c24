-- Where the types and constants of a module or a context stand in tables.
use Rattle.std.specs.Prelude.{◌≡◌, ℕ, List, Some, length}
use Rattle.support.specs.NumberMaps.{value_at}
use Rattle.llvm_core.specs.Data.{TypeTree}
use Rattle.meaning.specs.Terms.{Term}
use Rattle.tracing.specs.declared.tables.Tables.{Tables}
use Rattle.tracing.specs.Table.{AreTyped, IsTermAt}
use Rattle.tracing.specs.TypePlaces.{trees_in, ArePlacesOf}
use Rattle.tracing.specs.Contents.{Contents, KeepsContents, over}

-- what bodies are made from: its types, and the term of the constant of each number
pub record Origin : Type 0 where
  pub types : List TypeTree
  pub term : ℕ → Term

abbrev pub contents_in : Tables → Contents
contents_in t = over (trees_in t.types) t.terms

-- the types of the terms are in the table, and what has a place stands there
pub record AreTables (source : Origin) (t : Tables) : Type 0 where
  pub types : ArePlacesOf source.types t.types
  pub typed : AreTyped (length (trees_in t.types)) t.terms
  pub constants : (q k : ℕ) → value_at t.constants q ≡ Some k → IsTermAt (contents_in t).terms k (source.term q)

-- more may have come to the tables, and the others stand where they stood
pub record AreGrown (source : Origin) (old new : Tables) : Type 0 where
  pub kept : KeepsContents (contents_in old) (contents_in new)
  pub tables : AreTables source new
