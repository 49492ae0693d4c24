-- The operands so far are named.
use Rattle.llvm_core.specs.Data.{operand_of}
use Rattle.ll_lines.specs.Lines.{Typed}
use Rattle.ll_bodies.specs.Scopes.{Scope}
use Rattle.ll_bodies.specs.Meaning.{operand}
use Rattle.ll_bodies.specs.ScopeViews.{Knows}
use Rattle.ll_bodies.specs.SourceViews.{structs_in, types_in, typed_in, source_trees}
use Rattle.ll_bodies.proofs.ListLaws.{Done}
use Rattle.ll_bodies.proofs.operands.all_operands.Given as goal

abbrev pub invariant-loop-x : goal.invariant-loop-x
invariant-loop-x l = (s : Scope) → Knows (types_in l.source) l.scope s → Done (typed_in l.source) (λ (x : Typed). operand (structs_in l.source) s x.type x.said) (operand_of (source_trees l.source)) l.typed l.x-index l.values
