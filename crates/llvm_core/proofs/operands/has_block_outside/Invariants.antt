-- What the loop of `operands::has_block_outside` keeps.
use Rattle.std.proofs.Common.{◌≡◌, take, false}
use Rattle.std.specs.List.{list_any}
use Rattle.llvm_core.specs.Checked.{is_block_outside}
use Rattle.llvm_core.proofs.operands.has_block_outside.Given as goal

abbrev pub invariant-loop-block : goal.invariant-loop-block
invariant-loop-block l = list_any (is_block_outside l.m l.f) (take l.block-index l.blocks) ≡ false
