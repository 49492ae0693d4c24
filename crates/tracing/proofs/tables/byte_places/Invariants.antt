-- What holds in the loop of `tables::byte_places`.
use Rattle.std.specs.Prelude.{◌≡◌, map, take}
use Rattle.meaning.specs.Terms.{Int}
use Rattle.tracing.specs.Table.{AreTermsAt}
use Rattle.tracing.specs.Tables.{Origin, AreTables, AreGrown, contents_in}
use Rattle.tracing.proofs.tables.byte_places.Given as goal

abbrev pub invariant-loop-byte : goal.invariant-loop-byte
invariant-loop-byte l = record {
  are : AreTermsAt (contents_in l.tables).terms l.places.items (map (Int 8) (take l.byte-index l.bytes));
  types : l.tables.types ≡ l.fn.tables.types;
  grown : (source : Origin) → AreTables source l.fn.tables → AreGrown source l.fn.tables l.tables;
}
