-- The lines so far are defined.
use Rattle.std.proofs.Common.{drop}
use Rattle.ll_bodies.specs.Meaning.{lines_scope}
use Rattle.ll_bodies.specs.BlockViews.{lines_of}
use Rattle.ll_bodies.specs.ScopeViews.{Adds}
use Rattle.ll_bodies.specs.SourceViews.{types_in, lines_in, IsResultAmong}
use Rattle.ll_bodies.proofs.ScopeLaws.{Steps}
use Rattle.ll_bodies.proofs.BlockLaws.{Reached}
use Rattle.ll_bodies.proofs.definitions.define_lines.Given as goal

abbrev pub invariant-loop-part : goal.invariant-loop-part
invariant-loop-part l = record {
  reached : Reached l.lines l.part-index l.first l.number;
  steps : Steps (types_in l.source) l.fn.scope l.scope (λ s. lines_scope s l.first (lines_in l.source l.lines)) (λ s. lines_scope s l.number (lines_in l.source (drop l.part-index l.lines)));
  adds : Adds (IsResultAmong l.source l.first (lines_of l.lines)) l.fn.scope l.scope;
}
