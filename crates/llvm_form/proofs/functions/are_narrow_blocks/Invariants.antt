-- What the loop of `functions::are_narrow_blocks` keeps.
use Rattle.std.proofs.Common.{◌≡◌, take, true}
use Rattle.std.specs.List.{list_all}
use Rattle.llvm_form.specs.Narrow.{is_narrow_block}
use Rattle.llvm_form.proofs.functions.are_narrow_blocks.Given as goal

abbrev pub invariant-loop-block : goal.invariant-loop-block
invariant-loop-block l = list_all (is_narrow_block l.m) (take l.block-index l.blocks) ≡ true
