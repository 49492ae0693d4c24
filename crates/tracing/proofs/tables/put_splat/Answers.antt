-- What `tables::put_splat` owes besides what the check finds.
use Rattle.std.proofs.Common.{Some, sym, ap, ◌∙◌}
use Rattle.std.proofs.lemmas.Result.{IfOk-weaker}
use Rattle.llvm_core.specs.Data.{type_at}
use Rattle.tracing.specs.Table.{term_at, terms}
use Rattle.tracing.specs.TypePlaces.{trees_in}
use Rattle.tracing.proofs.ConstLaws.{splat_by}
use Rattle.tracing.proofs.tables.put_splat.Goals as goal

pub returns-in-Some-clause-is : goal.returns-in-Some-clause-is
returns-in-Some-clause-is c =
    let trees = trees_in c.args.tables.now.types in
    let lane = term_at (terms trees c.args.tables.now.terms) c.args.lane in
    let is = splat_by (type_at trees c.args.ty) lane _ (sym (c.fill_at.ensures trees) ∙ c.in-Some.is) in
    IfOk-weaker c.put.result _ _ (λ k at. at ∙ ap Some (sym is)) c.put.ensures.is

pub returns-in-None-clause-is : goal.returns-in-None-clause-is
returns-in-None-clause-is c =
    let trees = trees_in c.args.tables.now.types in
    let lane = term_at (terms trees c.args.tables.now.terms) c.args.lane in
    let is = splat_by (type_at trees c.args.ty) lane _ (sym (c.fill_at.ensures trees) ∙ c.in-None.is) in
    IfOk-weaker c.put-in-None.result _ _ (λ k at. at ∙ ap Some (sym is)) c.put-in-None.ensures.is
