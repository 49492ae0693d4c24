-- What `dialect_typing::kind_of` owes besides what the check finds.
use Rattle.std.proofs.Common.{subst, sym}
use Rattle.dialect_types.specs.Trees.{type_trees}
use Rattle.tracing.specs.Types.{IsFitTree}
use Rattle.tracing.proofs.DialectTypes.{fit_tree}
use Rattle.tracing.proofs.dialect_typing.kind_of.Goals as goal

pub returns-clause-fit : goal.returns-clause-fit
returns-clause-fit c =
    let types = c.types.ensures in
    let tree = rw types at c.kind.ensures.tree in
    let fit = rw types at c.kind.ensures.fit in
    subst IsFitTree (sym tree) (fit_tree (type_trees c.args.ctx.now.types) c.kind.result.now fit)
