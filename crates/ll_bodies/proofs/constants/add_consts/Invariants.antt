-- The lines so far have their numbers, and only constants are added.
use Rattle.llvm_core.specs.Sound.{IsModule}
use Rattle.ll_bodies.specs.TableViews.{AreMeant, AddsConsts}
use Rattle.ll_bodies.proofs.constants.add_consts.Given as goal

abbrev pub invariant-loop-line : goal.invariant-loop-line
invariant-loop-line l = record {
  adds : AddsConsts l.fn.module l.module;
  sound : IsModule l.module;
  meant : AreMeant l.bytes l.module l.table l.line-index l.numbers.items;
}
