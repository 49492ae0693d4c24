-- The goals of `names::push_block` at its loop and at its end.
use Rattle.std.proofs.Common.{◌≡◌, ◌++◌, ap, ◌∙◌, append_assoc}
use Rattle.std.specs.List.{flat_map}
use Rattle.std.proofs.lemmas.List.{take_all}
use Rattle.llvm_core.specs.Names.{texts}
use Rattle.llvm_core.specs.Checked.{named, inst_names}
use Rattle.support.proofs.ListLaws.{gathered_next}
use Rattle.llvm_core.proofs.LocalLemmas.{result_named, block_named}
use Rattle.llvm_core.proofs.names.push_block.Goals as goal

pub loop-inst-preserved : goal.loop-inst-preserved
loop-inst-preserved c =
    let m = c.args.m.now in
    let pushed = c.in_ok-push_named-2.ensures ∙ ap (λ ns. texts c.loop-inst.names ++ ns) (result_named m _ _ c.inst_name.ensures) in
    gathered_next (inst_names m) c.instructions-inst-items.result.now c.loop-inst.inst-index _ (texts c.push_named.new.names) (texts c.loop-inst.names) _ c.loop-inst-test.true c.loop-inst.invariant pushed

pub returns : goal.returns
returns c =
    let m = c.args.m.now in
    let insts = c.instructions-inst-items.result.now in
    let all : texts c.loop-inst.names ≡ texts c.push_named.new.names ++ flat_map (inst_names m) insts = c.loop-inst.invariant ∙ ap (λ is. texts c.push_named.new.names ++ flat_map (inst_names m) is) (take_all c.loop-inst.inst-index insts c.loop-inst-test.false) in
    let own = c.in_ok-push_named.ensures in
    all ∙ ap (λ ns. ns ++ flat_map (inst_names m) insts) own ∙ append_assoc (texts c.args.names.now) (named c.block_name.result.now) _
    ∙ ap (λ ns. texts c.args.names.now ++ ns) (block_named m c.args.b _ insts c.block_name.ensures c.instructions-inst-items.ensures.insts)
