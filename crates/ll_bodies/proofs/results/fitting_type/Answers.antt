-- What `results::fitting_type` owes besides what the check finds.
use Rattle.std.proofs.Common.{subst, ◌∙◌}
use Rattle.ll_bodies.proofs.TypeLaws.{viewed_types}
use Rattle.ll_bodies.specs.SourceViews.{table_in, IsFitting}
use Rattle.llvm_core.specs.Data.{trees_of}
use Rattle.ll_bodies.proofs.results.fitting_type.Goals as goal

pub returns-in-Row-clause-ty : goal.returns-in-Row-clause-ty
returns-in-Row-clause-ty c = λ fit.
    let t = trees_of c.args.source.now.module.now in
    let own = subst (IsFitting t) c.in-Row.is fit in
    rw c.in-Row.is (viewed_types c.args.source.now.bytes.now t (table_in c.args.source.now) c.in-Row.row ∙ c.row_gives.ensures.ty own)
