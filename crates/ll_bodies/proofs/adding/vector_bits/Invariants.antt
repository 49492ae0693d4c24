-- The types below a place are noted, and those that are new.
use Rattle.std.proofs.Common.{length}
use Rattle.llvm_core.specs.Sound.{IsModule}
use Rattle.ll_bodies.specs.AddingViews.{AddsTypes}
use Rattle.ll_bodies.proofs.BitsLaws.{AreNoted}
use Rattle.ll_bodies.proofs.adding.vector_bits.Given as goal

abbrev pub invariant-loop-at : goal.invariant-loop-at
invariant-loop-at l = AddsTypes l.fn.module l.module × IsModule l.module × AreNoted (length l.fn.module.types) l.module l.bits l.at
