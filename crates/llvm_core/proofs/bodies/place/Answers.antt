-- What `bodies::place` owes: an instruction that is put into the block joins those before it.
use Rattle.std.proofs.Common.{◌<◌, length, slice_index_or, arith}
use Rattle.std.proofs.lemmas.List.{get_or_default}
use Rattle.std.proofs.lemmas.List.Edits.{map_over_more}
use Rattle.llvm_core.specs.declared.code.InstData.{InstData}
use Rattle.llvm_core.specs.Bodies.{inst_in}
use Rattle.llvm_core.proofs.bodies.place.Goals as goal

pub loop-inst-preserved : goal.loop-inst-preserved
loop-inst-preserved c =
    let lt : c.loop-inst.inst-index < length c.args.insts.now = omega (arith, c.loop-inst-test.true) in
    let within : c.loop-inst.inst-index < length c.loop-inst.insts = omega (arith, c.loop-inst-test.true, c.loop-inst.auto.insts) in
    let x : InstData = slice_index_or c.loop-inst.insts c.loop-inst.inst-index c.inst-item.result in
    map_over_more (inst_in c.args.block.0) c.args.insts.now c.loop-inst.insts c.loop-inst.inst-index x lt c.loop-inst.invariant (get_or_default c.loop-inst.insts c.loop-inst.inst-index c.inst-item.result x within)
