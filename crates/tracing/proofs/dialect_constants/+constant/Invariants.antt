-- What holds in the loop of `dialect_constants::parts`.
use Rattle.std.specs.Prelude.{map, take}
use Rattle.meaning.specs.Setting.{Setting}
use Rattle.tracing.specs.Table.{AreTermsAt}
use Rattle.tracing.specs.Tables.{AreGrown, contents_in}
use Rattle.tracing.specs.DialectBodies.{origin_of, term_of}
use Rattle.tracing.proofs.dialect_constants.+constant.Given as goal

abbrev pub invariant-parts-loop-part : goal.invariant-parts-loop-part
invariant-parts-loop-part l = record {
  grown : AreGrown (origin_of l.ctx) l.fn.tables l.tables;
  are : (setting : Setting) → AreTermsAt (contents_in l.tables).terms l.places.items (map (term_of setting l.ctx) (take l.part-index l.parts));
}
