-- What `targets::known_edges` owes besides what the check finds.
use Rattle.std.proofs.Common.{subst, List, arith}
use Rattle.std.proofs.lemmas.List.{take_all}
use Rattle.std.proofs.lemmas.Option.{slice_get-get_or}
use Rattle.llvm_core.specs.declared.numbers.LLVMBasicBlock.{LLVMBasicBlock}
use Rattle.meaning.specs.Pairs.{Matched}
use Rattle.from_llvm_ir.specs.Imported.{passed}
use Rattle.from_llvm_ir.specs.Edges.{IsKnownEdge}
use Rattle.from_llvm_ir.proofs.ListLaws.{matched_next}
use Rattle.held_types.proofs.WalkLaws.{passed_on}
use Rattle.from_llvm_ir.proofs.ForwardLaws.{forward_flat}
use Rattle.from_llvm_ir.proofs.targets.known_edges.Goals as goal

pub known_edge-requires : goal.known_edge-requires
known_edge-requires c = (c.requires.0, c.requires.1, c.requires.2 c.loop-target.target-index _ (slice_get-get_or c.args.to.now c.loop-target.target-index _ c.loop-target-test.true))

pub returns-in_err-known_edge-clause-err : goal.returns-in_err-known_edge-clause-err
returns-in_err-known_edge-clause-err c =
    let at = slice_get-get_or c.args.to.now c.loop-target.target-index (record { 0 = 0 }) c.loop-target-test.true in
    passed_on c.from_residual-in_err-known_edge.result c.in_err-known_edge.field-0.0 _ c.from_residual-in_err-known_edge.ensures.1
    (λ f g h. forward_flat c.args.source.now c.args.values.now (passed g c.args.from.0) c.args.to.now c.loop-target.target-index _ c.in_err-known_edge.field-0.0 at (c.in_err-known_edge.ensures.err f g (h c.loop-target.target-index _ at)))

pub loop-target-preserved : goal.loop-target-preserved
loop-target-preserved c = λ f g h.
    let at = slice_get-get_or c.args.to.now c.loop-target.target-index (record { 0 = 0 }) c.loop-target-test.true in
    matched_next (IsKnownEdge c.args.source.now g c.args.values.now c.args.targets.now c.args.from) c.args.to.now c.loop-target.target-index _ c.loop-target.edges.items c.push.new.self.items c.in_ok-known_edge.field-0
    at (c.loop-target.invariant f g h) (c.in_ok-known_edge.ensures.ok f g (h c.loop-target.target-index _ at)) c.in_ok-push.ensures.items

pub returns-clause-ok : goal.returns-clause-ok
returns-clause-ok c = λ f g h.
    subst (λ (ts : List LLVMBasicBlock). Matched (IsKnownEdge c.args.source.now g c.args.values.now c.args.targets.now c.args.from) ts c.loop-target.edges.items) (take_all c.loop-target.target-index c.args.to.now (omega arith)) (c.loop-target.invariant f g h)
