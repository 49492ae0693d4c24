-- The entries so far are made.
use Rattle.llvm_core.specs.Data.{type_at, entry_of}
use Rattle.ll_bodies.specs.Scopes.{Scope}
use Rattle.ll_bodies.specs.Meaning.{entry}
use Rattle.ll_bodies.specs.ScopeViews.{Knows}
use Rattle.ll_bodies.specs.SourceViews.{structs_in, types_in, entry_in, source_trees}
use Rattle.ll_bodies.proofs.ListLaws.{Done}
use Rattle.ll_bodies.proofs.instructions.all_entries.Given as goal

abbrev pub invariant-loop-x : goal.invariant-loop-x
invariant-loop-x l = (s : Scope) → Knows (types_in l.source) l.scope s → Done (entry_in l.source) (entry (structs_in l.source) s (type_at (types_in l.source) l.ty)) (entry_of (source_trees l.source)) l.said l.x-index l.made
