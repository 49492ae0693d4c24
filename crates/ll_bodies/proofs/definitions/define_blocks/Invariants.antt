-- The blocks so far are defined.
use Rattle.std.proofs.Common.{◌≡◌, ◌+◌, map, take, drop}
use Rattle.ll_bodies.specs.Meaning.{blocks_scope}
use Rattle.ll_bodies.specs.ScopeViews.{Adds}
use Rattle.ll_bodies.specs.SourceViews.{types_in, block_in, count_lines, IsOfBlocks}
use Rattle.ll_bodies.proofs.ScopeLaws.{Steps}
use Rattle.ll_bodies.proofs.definitions.define_blocks.Given as goal

abbrev pub invariant-loop-block : goal.invariant-loop-block
invariant-loop-block l = record {
  number : l.number ≡ l.first_block + l.block-index;
  count : l.next ≡ l.first + count_lines (take l.block-index l.blocks);
  steps : Steps (types_in l.source) l.fn.scope l.scope (λ s. blocks_scope s l.first_block l.first (map (block_in l.source) l.blocks)) (λ s. blocks_scope s l.number l.next (map (block_in l.source) (drop l.block-index l.blocks)));
  adds : Adds (IsOfBlocks l.source l.first_block l.first l.blocks) l.fn.scope l.scope;
}
