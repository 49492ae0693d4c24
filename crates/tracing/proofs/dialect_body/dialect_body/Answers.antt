-- What `dialect_body::dialect_body` owes besides what the check finds.
use Rattle.std.proofs.Common.{subst, sym}
use Rattle.support.specs.Interned.{IsDistinctList}
use Rattle.tracing.proofs.GrowLaws.{same_kept}
use Rattle.tracing.proofs.DialectBlockLaws.{blocks_are, numbers_are, numbers_apart, start_is, some_ref}
use Rattle.dialect_core.specs.Data.{data_of}
use Rattle.meaning.specs.Dialect.{setting_of}
use Rattle.tracing.proofs.dialect_body.dialect_body.Goals as goal

pub placed_blocks-requires-clause-once : goal.placed_blocks-requires-clause-once
placed_blocks-requires-clause-once c =
    let x = c.args.ctx.now in
    let h = c.requires.0 in
    let list = c.op_blocks-list.result.now in
    let all = blocks_are x h c.args.f.0 list c.requires.1 c.op_blocks-list.ensures.blocks c.op_blocks-list.ensures.within in
    subst IsDistinctList (sym (numbers_are x h list all)) (numbers_apart x h)

pub placed_blocks-requires-clause-blocks : goal.placed_blocks-requires-clause-blocks
placed_blocks-requires-clause-blocks c =
    (c.requires.0, blocks_are c.args.ctx.now c.requires.0 c.args.f.0 c.op_blocks-list.result.now c.requires.1 c.op_blocks-list.ensures.blocks c.op_blocks-list.ensures.within)

pub placed_blocks-requires-clause-tables : goal.placed_blocks-requires-clause-tables
placed_blocks-requires-clause-tables c = c.new-tables.ensures _

pub returns-clause-code : goal.returns-clause-code
returns-clause-code c = λ setting h is.
    let x = c.args.ctx.now in
    let list = c.op_blocks-list.result.now in
    let all = blocks_are x h c.args.f.0 list is c.op_blocks-list.ensures.blocks c.op_blocks-list.ensures.within in
    rw (c.in_ok-params.ensures h all, c.into_table.ensures) (c.in_ok-blocks.ensures.are setting h all _ (same_kept _)).0

pub returns-clause-known : goal.returns-clause-known
returns-clause-known c = λ h is.
    let x = c.args.ctx.now in
    let list = c.op_blocks-list.result.now in
    let all = blocks_are x h c.args.f.0 list is c.op_blocks-list.ensures.blocks c.op_blocks-list.ensures.within in
    let setting = setting_of (data_of x 0) in
    rw c.into_table.ensures (c.in_ok-blocks.ensures.are setting h all _ (same_kept _)).1

pub returns-clause-typed : goal.returns-clause-typed
returns-clause-typed c = rw c.into_table.ensures c.in_ok-blocks.ensures.grown.tables.typed

pub returns-clause-start : goal.returns-clause-start
returns-clause-start c = λ h is.
    let x = c.args.ctx.now in
    let list = c.op_blocks-list.result.now in
    let all = blocks_are x h c.args.f.0 list is c.op_blocks-list.ensures.blocks c.op_blocks-list.ensures.within in
    start_is x h list some_ref c.in_ok-inputs.inputs all (λ y at. c.in_ok-inputs.ensures h y at)
