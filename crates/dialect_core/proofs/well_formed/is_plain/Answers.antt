-- What `well_formed::is_plain` owes besides what the check finds.
use Rattle.dialect_core.proofs.LineLemmas.{plain_is}
use Rattle.dialect_core.proofs.OpTestLemmas.{kind_typed}
use Rattle.dialect_core.proofs.well_formed.is_plain.Goals as goal

pub keeps_rules-requires : goal.keeps_rules-requires
keeps_rules-requires c = kind_typed c.args.ctx.now c.args.op c.op_kind.result.now c.requires.typed c.op_kind.ensures.kind

pub returns : goal.returns
returns c = plain_is c.args.ctx.now c.args.op c.op_kind.result.now c.keeps_rules.result c.op_kind.ensures.kind c.keeps_rules.ensures
