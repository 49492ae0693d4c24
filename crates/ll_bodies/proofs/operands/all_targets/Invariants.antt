-- The blocks so far are named.
use Rattle.llvm_core.specs.declared.numbers.LLVMBasicBlock.{LLVMBasicBlock}
use Rattle.ll_lines.specs.Views.{text_of}
use Rattle.ll_bodies.specs.Scopes.{Scope, block_of}
use Rattle.ll_bodies.specs.ScopeViews.{Knows}
use Rattle.ll_bodies.specs.SourceViews.{types_in}
use Rattle.ll_bodies.proofs.ListLaws.{Done}
use Rattle.ll_bodies.proofs.operands.all_targets.Given as goal

abbrev pub invariant-loop-name : goal.invariant-loop-name
invariant-loop-name l = (s : Scope) → Knows (types_in l.source) l.scope s → Done (text_of l.source.bytes.now) (block_of s) (λ (b : LLVMBasicBlock). b.0) l.names l.name-index l.blocks
