-- What `results::result_type` owes besides what the check finds.
use Rattle.std.proofs.Common.{◌∙◌}
use Rattle.ll_bodies.specs.SourceViews.{table_in}
use Rattle.ll_bodies.proofs.TypeLaws.{viewed_types}
use Rattle.llvm_core.specs.Data.{trees_of}
use Rattle.ll_bodies.proofs.results.result_type.Goals as goal

pub returns-in-Row-clause-ty : goal.returns-in-Row-clause-ty
returns-in-Row-clause-ty c = let s = c.args.source.now in rw c.in-Row.is (viewed_types s.bytes.now (trees_of s.module.now) (table_in s) c.in-Row.row ∙ c.row_result.ensures.ty)
