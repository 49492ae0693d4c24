-- What holds in the loop of `llvm_constants::parts`, and why the walk of a constant ends: its parts are earlier ones.
use Rattle.std.specs.Prelude.{◌+◌, ◌*◌, map, take}
use Rattle.tracing.specs.Table.{AreTermsAt}
use Rattle.tracing.specs.Tables.{AreGrown, contents_in}
use Rattle.tracing.specs.LlvmBodies.{origin_in, term_in}
use Rattle.tracing.proofs.llvm_constants.+constant.Given as goal

abbrev pub decreases-constant : goal.decreases-constant
decreases-constant l = 3 * l.c.0 + 2

abbrev pub decreases-made : goal.decreases-made
decreases-made l = 3 * l.c.0 + 1

abbrev pub decreases-parts : goal.decreases-parts
decreases-parts l = 3 * l.whole.0

abbrev pub invariant-parts-loop-part : goal.invariant-parts-loop-part
invariant-parts-loop-part l = record {
  grown : AreGrown (origin_in l.m) l.fn.tables l.tables;
  stand : AreTermsAt (contents_in l.tables).terms l.places.items (map (term_in l.m) (take l.part-index l.parts));
}
