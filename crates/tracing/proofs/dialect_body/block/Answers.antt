-- What `dialect_body::block` owes besides what the check finds.
use Rattle.std.proofs.Common.{List, sym, subst, ◌∙◌}
use Rattle.dialect_core.specs.declared.numbers.OpRef.{OpRef}
use Rattle.tracing.specs.DialectBodies.{AreOpsIn}
use Rattle.tracing.proofs.DialectEdgeLaws.{block_is, edges_known}
use Rattle.tracing.proofs.DialectBlockLaws.{ops_are}
use Rattle.tracing.proofs.dialect_body.block.Goals as goal

pub rows-requires-clause-here : goal.rows-requires-clause-here
rows-requires-clause-here c =
    let h = c.requires.block.0 in
    let y = c.requires.block.1 in
    let listed = c.as_slice.ensures.value ∙ c.in_ok-ops.ensures in
    (h, y.ops, subst (λ (rs : List OpRef). AreOpsIn c.args.ctx.now h rs y.ops) (sym listed) (ops_are c.args.ctx.now h c.args.b y c.requires.block.2))

pub edges-requires : goal.edges-requires
edges-requires c =
    let h = c.requires.block.0 in
    let y = c.requires.block.1 in
    let listed = c.as_slice-2.ensures.value ∙ c.in_ok-ops.ensures in
    (h, y.ops, subst (λ (rs : List OpRef). AreOpsIn c.args.ctx.now h rs y.ops) (sym listed) (ops_are c.args.ctx.now h c.args.b y c.requires.block.2))

pub returns-clause-is : goal.returns-clause-is
returns-clause-is c = λ setting h y at numbers later more.
    let ops = ops_are c.args.ctx.now h c.args.b y at in
    let first = subst (λ (rs : List OpRef). AreOpsIn c.args.ctx.now h rs y.ops) (sym (c.as_slice.ensures.value ∙ c.in_ok-ops.ensures)) ops in
    let second = subst (λ (rs : List OpRef). AreOpsIn c.args.ctx.now h rs y.ops) (sym (c.as_slice-2.ensures.value ∙ c.in_ok-ops.ensures)) ops in
    let rows = c.in_ok-rows.ensures.rows setting h y.ops first later more in
    let edges = c.in_ok-edges.ensures h y.ops second in
    (block_is later setting c.args.ctx.now h _ y c.args.places.now numbers rows.0 edges, (rows.1, edges_known later c.args.places.now _ _ edges))
