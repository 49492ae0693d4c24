-- What `edges::push_block_edges` owes besides what the check finds.
use Rattle.std.proofs.Common.{◌<◌, ◌∙◌, ℕ, All, ap, arith, get_or, subst, sym, take}
use Rattle.std.proofs.Math.Seq.{take-length}
use Rattle.std.proofs.lemmas.Option.{slice_get-get_or}
use Rattle.std.specs.List.{flat_map}
use Rattle.llvm_core.specs.Edges.{targets, targets_at, Gains}
use Rattle.llvm_core.proofs.EdgeLemmas.{all_targets_read, gains_next, gains_nothing, targets_read, targets_within}
use Rattle.llvm_core.proofs.edges.push_block_edges.Goals as goal

pub loop-inst-init : goal.loop-inst-init
loop-inst-init c = gains_nothing c.args.lists.now c.args.b.0

pub push_targets-requires : goal.push_targets-requires
push_targets-requires c =
    subst (λ (n : ℕ). All (λ b. b < n) (targets c.inst.result.now)) (sym (c.loop-inst.auto.lists ∙ c.requires.lists))
    (targets_within c.args.m.now c.inst.result.now c.inst.ensures.values)

pub loop-inst-preserved : goal.loop-inst-preserved
loop-inst-preserved c =
    let xs = c.instructions-inst-items.result.now in
    let i = get_or xs c.loop-inst.inst-index (record { 0 = 0 }) in
    let read = targets_read c.args.m.now i c.inst.result.now c.inst.ensures.inst in
    gains_next c.args.lists.now c.loop-inst.lists c.push_targets.new.lists c.args.b.0 (targets_at c.args.m.now) xs c.loop-inst.inst-index i
    (slice_get-get_or xs c.loop-inst.inst-index (record { 0 = 0 }) c.loop-inst-test.true) c.loop-inst.invariant
    (subst (Gains c.loop-inst.lists c.push_targets.new.lists c.args.b.0) (sym read) c.in_ok-push_targets.ensures)

pub returns : goal.returns
returns c =
    let xs = c.instructions-inst-items.result.now in
    let whole = ap (λ (k : ℕ). take k xs) (omega arith) ∙ take-length xs in
    let read = ap (flat_map (targets_at c.args.m.now)) whole ∙ sym (all_targets_read c.args.m.now c.args.b.0 xs c.instructions-inst-items.ensures.insts) in
    subst (Gains c.args.lists.now c.loop-inst.lists c.args.b.0) read c.loop-inst.invariant
