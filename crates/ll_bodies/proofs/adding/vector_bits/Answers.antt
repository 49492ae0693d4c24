-- What `adding::vector_bits` owes besides what the check finds.
use Rattle.std.proofs.Common.{◌+◌, length, refl, arith}
use Rattle.llvm_core.specs.declared.types.LLVMTypeKind.TheVariants as kinds
use Rattle.ll_bodies.proofs.AddingLaws.{adds_kept}
use Rattle.ll_bodies.proofs.BitsLaws.{adds_same, adds_twice, adds_longer, noted_none, noted_more, noted_all}
use Rattle.ll_bodies.proofs.adding.vector_bits.Goals as goal

pub loop-at-init : goal.loop-at-init
loop-at-init c = (adds_same c.args.module.now, c.types-at-end.ensures.sound, noted_none c.args.module.now c.new-bits.result)

pub loop-at-preserved : goal.loop-at-preserved
loop-at-preserved c =
    let i = c.loop-at.invariant in
    let o = c.in_ok-note_bits.ensures in (
      adds_twice c.args.module.now c.loop-at.module c.note_bits.new.module i.0 o.grows,
      o.sound,
      noted_more (length c.args.module.now.types) c.loop-at.module c.note_bits.new.module c.loop-at.bits c.note_bits.new.bits c.loop-at.at (c.loop-at.at + 1) refl i.2 o.noted,
    )

pub note_bits-requires-clause-bit : goal.note_bits-requires-clause-bit
note_bits-requires-clause-bit c = adds_kept c.args.module.now c.loop-at.module c.loop-at.invariant.0 c.args.bit.0 (kinds.Int 1) c.requires.bit

pub note_bits-requires-clause-ty : goal.note_bits-requires-clause-ty
note_bits-requires-clause-ty c = let longer = adds_longer c.args.module.now c.loop-at.module c.loop-at.invariant.0 in omega (arith, longer, c.types-at-end.ensures.len)

pub returns-clause-bits : goal.returns-clause-bits
returns-clause-bits c = noted_all (length c.args.module.now.types) c.loop-at.module c.loop-at.bits c.loop-at.at (omega (arith, c.types-at-end.ensures.len)) c.loop-at.invariant.2
