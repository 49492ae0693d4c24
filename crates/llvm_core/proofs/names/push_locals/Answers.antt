-- The goals of `names::push_locals` at its loops and at its end.
use Rattle.std.proofs.Common.{◌≡◌, [], ◌++◌, ap, ◌∙◌}
use Rattle.std.specs.List.{flat_map}
use Rattle.std.proofs.lemmas.List.{take_all}
use Rattle.llvm_core.specs.Names.{texts}
use Rattle.llvm_core.specs.Checked.{named, block_names}
use Rattle.support.proofs.ListLaws.{gathered_next}
use Rattle.llvm_core.proofs.LocalLemmas.{locals_named}
use Rattle.llvm_core.proofs.names.push_locals.Goals as goal

pub loop-name-preserved : goal.loop-name-preserved
loop-name-preserved c =
    gathered_next named c.params-name-items.result.now c.loop-name.name-index _ [] (texts c.loop-name.names) _ c.loop-name-test.true c.loop-name.invariant (rw (c.as_str.ensures, c.name-item.is) at c.in_ok-push_named.ensures)

pub loop-block-preserved : goal.loop-block-preserved
loop-block-preserved c =
    gathered_next (block_names c.args.m.now) c.blocks-block-items.result.now c.loop-block.block-index _ (texts c.loop-name.names) (texts c.loop-block.names) _ c.loop-block-test.true c.loop-block.invariant c.in_ok-push_block.ensures

pub returns : goal.returns
returns c =
    let m = c.args.m.now in
    let params = c.params-name-items.result.now in
    let blocks = c.blocks-block-items.result.now in
    let first : texts c.loop-name.names ≡ flat_map named params = c.loop-name.invariant ∙ ap (flat_map named) (take_all c.loop-name.name-index params c.loop-name-test.false) in
    let all : texts c.loop-block.names ≡ texts c.loop-name.names ++ flat_map (block_names m) blocks = c.loop-block.invariant ∙ ap (λ bs. texts c.loop-name.names ++ flat_map (block_names m) bs) (take_all c.loop-block.block-index blocks c.loop-block-test.false) in
    rw (all, first) (locals_named m c.args.f.0 params blocks c.params-name-items.ensures c.blocks-block-items.ensures.blocks)
