-- What `order::push_targets` owes besides what the check finds.
use Rattle.std.proofs.Common.{refl, sym, arith}
use Rattle.std.proofs.lemmas.List.{append-nil}
use Rattle.std.proofs.lemmas.Option.{slice_get-get_or}
use Rattle.from_llvm_ir.proofs.SourceLaws.{inst_within}
use Rattle.from_llvm_ir.proofs.GraphLaws.{target_at, row_more, row_all}
use Rattle.from_llvm_ir.proofs.order.push_targets.Goals as goal

pub loop-target-init : goal.loop-target-init
loop-target-init c = λ f g n b p h are. sym (append-nil _)

pub text_place-place-requires : goal.text_place-place-requires
text_place-place-requires c =
    let r = c.requires in
    let ns = c.targets_of-target-items.result.now in
    let t = target_at c.args.source.now r.0 r.1 r.2 r.3 c.args.i r.4 r.5 c.args.places.now r.6 c.inst.result.now c.inst.ensures.inst ns c.loop-target.target-index _ c.targets_of-target-items.ensures (slice_get-get_or ns c.loop-target.target-index (record { 0 = 0 }) c.loop-target-test.true) in
    rw t.noted refl

pub loop-target-preserved : goal.loop-target-preserved
loop-target-preserved c = λ f g n b p h are.
    let ns = c.targets_of-target-items.result.now in
    row_more c.args.source.now f g n b c.args.i p h c.args.places.now are c.inst.result.now c.inst.ensures.inst ns c.loop-target.target-index _ c.text_place-place.result c.args.row.now.items c.loop-target.row.items c.push.new.self.items
    c.targets_of-target-items.ensures (slice_get-get_or ns c.loop-target.target-index (record { 0 = 0 }) c.loop-target-test.true) c.text_place-place.ensures (c.loop-target.invariant f g n b p h are) c.in_ok-push.ensures.items

pub returns : goal.returns
returns c = λ f g n b p h are.
    row_all c.args.source.now f g n b c.args.i p h c.args.places.now are c.inst.result.now c.inst.ensures.inst c.targets_of-target-items.result.now c.loop-target.target-index c.args.row.now.items c.loop-target.row.items
    c.targets_of-target-items.ensures (omega (arith, c.loop-target-test.false)) (c.loop-target.invariant f g n b p h are)

pub inst-requires : goal.inst-requires
inst-requires c = let r = c.requires in inst_within c.args.source.now r.3 c.args.i r.5.at r.4 r.5.inst
