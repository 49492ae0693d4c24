-- What `readable::is_readable` owes besides what the check finds.
use Rattle.std.proofs.Common.{sym, ◌∙◌, arith}
use Rattle.dialect_core.specs.declared.numbers.BlockRef.{BlockRef}
use Rattle.dialect_core.proofs.FuncTestLemmas.{one_item}
use Rattle.to_llvm_ir.proofs.ReadableLaws.{body_kinds, body_plain, readable, well_narrow}
use Rattle.to_llvm_ir.proofs.readable.is_readable.Goals as goal

pub are_narrow_funcs-requires-clause-kinds : goal.are_narrow_funcs-requires-clause-kinds
are_narrow_funcs-requires-clause-kinds c =
    let zero : BlockRef = record { 0 = 0 } in
    body_kinds c.args.ctx.now c.args.root.0.0 _ (sym c.region.ensures.blocks ∙ one_item c.region.result.now zero (omega arith)) (c.well_formed-2.ensures.0 c.if-not-well_formed.false)

pub are_narrow_funcs-requires-clause-plain : goal.are_narrow_funcs-requires-clause-plain
are_narrow_funcs-requires-clause-plain c =
    let zero : BlockRef = record { 0 = 0 } in
    body_plain c.args.ctx.now c.args.root.0.0 _ (sym c.region.ensures.blocks ∙ one_item c.region.result.now zero (omega arith)) (c.well_formed-2.ensures.0 c.if-not-well_formed.false)

pub returns-in-len1-clause-exact : goal.returns-in-len1-clause-exact
returns-in-len1-clause-exact c =
    let zero : BlockRef = record { 0 = 0 } in
    well_narrow c.args.ctx.now c.args.root.0.0 _ (sym c.region.ensures.blocks ∙ one_item c.region.result.now zero (omega arith)) (c.well_formed-2.ensures.0 c.if-not-well_formed.false) c.region.ensures.symbols c.are_narrow_funcs.result c.are_narrow_funcs.ensures

pub returns-in-len1-clause-readable : goal.returns-in-len1-clause-readable
returns-in-len1-clause-readable c = λ yes.
    let zero : BlockRef = record { 0 = 0 } in
    let both = (well_narrow c.args.ctx.now c.args.root.0.0 _ (sym c.region.ensures.blocks ∙ one_item c.region.result.now zero (omega arith)) (c.well_formed-2.ensures.0 c.if-not-well_formed.false) c.region.ensures.symbols c.are_narrow_funcs.result c.are_narrow_funcs.ensures).0 yes in
    readable c.args.ctx.now c.args.root.0.0 c.requires.there c.requires.typed both.0 both.1
