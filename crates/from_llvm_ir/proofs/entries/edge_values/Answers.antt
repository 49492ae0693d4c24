-- What `entries::edge_values` owes besides what the check finds.
use Rattle.std.proofs.Common.{◌∙◌, ◌+◌, sym, subst, refl, List, arith}
use Rattle.std.specs.Prelude.{IsSome}
use Rattle.llvm_core.specs.declared.code.LLVMValue.{LLVMValue}
use Rattle.from_llvm_ir.proofs.SourceLaws.{listed_at, phi_read, insts_listed, block_within, inst_within}
use Rattle.from_llvm_ir.proofs.TakenLaws.{PassedTo, edge_value, passed_more, passed_front, passed_all}
use Rattle.from_llvm_ir.proofs.entries.edge_values.Goals as goal
use Rattle.from_llvm_ir.proofs.entries.edge_values.Goals.{else-loop-i-test, then-loop-i-test+else-is_phi}

pub value_for-requires-clause-within : goal.value_for-requires-clause-within
value_for-requires-clause-within c =
    let h = c.requires.2 in
    let m = c.args.source.now in
    let x = listed_at m c.requires.1 c.args.to h.place h.block c.instructions-i-items.result.now c.loop-i.i-index (record { 0 = 0 }) h.source.sound h.is c.instructions-i-items.ensures.insts c.loop-i-test.true in
    inst_within m h.block _ c.loop-i.i-index x.0 x.1

pub value_for-requires-clause-noted : goal.value_for-requires-clause-noted
value_for-requires-clause-noted c =
    let h = c.requires.2 in
    let m = c.args.source.now in
    let x = listed_at m c.requires.1 c.args.to h.place h.block c.instructions-i-items.result.now c.loop-i.i-index (record { 0 = 0 }) h.source.sound h.is c.instructions-i-items.ensures.insts c.loop-i-test.true in
    let phi = phi_read m h.block _ c.loop-i.i-index x.0 c.inst.result.now x.1 c.inst.ensures.inst ∙ sym c.is_phi.ensures ∙ c.if-is_phi.true in
    let e = edge_value m c.requires.0 c.requires.1 c.args.entries.now c.args.from c.args.to h _ c.loop-i.i-index x.0 x.1 phi in
    e.noted

pub value_for-requires-clause-some : goal.value_for-requires-clause-some
value_for-requires-clause-some c =
    let h = c.requires.2 in
    let m = c.args.source.now in
    let x = listed_at m c.requires.1 c.args.to h.place h.block c.instructions-i-items.result.now c.loop-i.i-index (record { 0 = 0 }) h.source.sound h.is c.instructions-i-items.ensures.insts c.loop-i-test.true in
    let phi = phi_read m h.block _ c.loop-i.i-index x.0 c.inst.result.now x.1 c.inst.ensures.inst ∙ sym c.is_phi.ensures ∙ c.if-is_phi.true in
    let e = edge_value m c.requires.0 c.requires.1 c.args.entries.now c.args.from c.args.to h _ c.loop-i.i-index x.0 x.1 phi in
    subst IsSome (sym e.is) refl

pub loop-i-preserved : goal.loop-i-preserved
loop-i-preserved c = λ f g h.
    let m = c.args.source.now in
    let x = listed_at m g c.args.to h.place h.block c.instructions-i-items.result.now c.loop-i.i-index (record { 0 = 0 }) h.source.sound h.is c.instructions-i-items.ensures.insts c.loop-i-test.true in
    let read = phi_read m h.block _ c.loop-i.i-index x.0 c.inst.result.now x.1 c.inst.ensures.inst ∙ sym c.is_phi.ensures in
    subst (λ (vs : List LLVMValue). PassedTo m f g c.args.entries.now c.args.from c.args.to h vs (c.loop-i.i-index + 1)) (sym {A = List LLVMValue} c.in_ok-push.ensures.ok)
    (passed_more m f g c.args.entries.now c.args.from c.args.to h c.loop-i.values _ c.loop-i.i-index x.0 c.value_for.result x.1 (read ∙ c.if-is_phi.true) c.value_for.ensures (c.loop-i.invariant f g h))

pub returns-clause-passed : goal.returns-clause-passed
returns-clause-passed c = λ f g h.
    let m = c.args.source.now in
    elim c.loop-i-test.branch [
      | else-loop-i-test w ↦
          let listed = insts_listed m g c.args.to h.place h.block c.instructions-i-items.result.now h.source.sound h.is c.instructions-i-items.ensures.insts in
          passed_all m f g c.args.entries.now c.args.from c.args.to h c.loop-i.values c.loop-i.i-index (omega (arith, listed.long, w.loop-i-test.false)) (c.loop-i.invariant f g h)
      | then-loop-i-test+else-is_phi w ↦
          let x = listed_at m g c.args.to h.place h.block c.instructions-i-items.result.now c.loop-i.i-index (record { 0 = 0 }) h.source.sound h.is c.instructions-i-items.ensures.insts w.loop-i-test.true in
          let other = phi_read m h.block _ c.loop-i.i-index x.0 w.inst.result.now x.1 w.inst.ensures.inst ∙ sym w.is_phi.ensures ∙ w.if-is_phi.false in
          passed_front m f g c.args.entries.now c.args.from c.args.to h c.loop-i.values _ c.loop-i.i-index x.0 x.1 other (c.loop-i.invariant f g h)
    ]

pub returns-clause-used : goal.returns-clause-used
returns-clause-used c = λ f g h. (c.loop-i.invariant f g h).used

pub instructions-i-items-requires : goal.instructions-i-items-requires
instructions-i-items-requires c = let h = c.requires.2 in block_within c.args.source.now c.requires.1 c.args.to h.place h.block h.is

pub inst-requires : goal.inst-requires
inst-requires c =
    let h = c.requires.2 in
    let m = c.args.source.now in
    let x = listed_at m c.requires.1 c.args.to h.place h.block c.instructions-i-items.result.now c.loop-i.i-index (record { 0 = 0 }) h.source.sound h.is c.instructions-i-items.ensures.insts c.loop-i-test.true in
    inst_within m h.block _ c.loop-i.i-index x.0 x.1
