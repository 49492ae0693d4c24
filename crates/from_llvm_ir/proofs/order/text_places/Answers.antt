-- What `order::text_places` owes besides what the check finds.
use Rattle.std.proofs.Common.{arith}
use Rattle.std.proofs.lemmas.Option.{slice_get-get_or}
use Rattle.from_llvm_ir.proofs.SourceLaws.{function_within}
use Rattle.from_llvm_ir.proofs.GraphLaws.{places_more, places_all, blocks_apart}
use Rattle.from_llvm_ir.proofs.order.text_places.Goals as goal

pub blocks-blocks-requires : goal.blocks-blocks-requires
blocks-blocks-requires c = function_within c.args.source.now c.args.f c.requires.0 c.requires.1

pub loop-i-init : goal.loop-i-init
loop-i-init c = λ j n lt at. absurd (omega (arith, lt))

pub loop-i-preserved : goal.loop-i-preserved
loop-i-preserved c =
    let ns = c.blocks-blocks.result.now in
    places_more ns c.loop-i.i c.in_ok-place_of.field-0 _ c.loop-i.places c.set.new.self (slice_get-get_or ns c.loop-i.i (record { 0 = 0 }) c.loop-i-test.true)
    (blocks_apart c.args.source.now c.args.f c.requires.0 ns c.requires.1 c.blocks-blocks.ensures.blocks)
    c.in_ok-place_of.ensures (λ q. c.in_ok-set.ensures q.0) c.loop-i.invariant

pub bounds-blocks-i : goal.bounds-blocks-i
bounds-blocks-i c = c.loop-i-test.true

pub returns : goal.returns
returns c = λ g h. places_all c.args.source.now c.args.f g c.blocks-blocks.result.now c.loop-i.i c.loop-i.places h c.blocks-blocks.ensures.blocks (omega (arith, c.loop-i-test.false)) c.loop-i.invariant
