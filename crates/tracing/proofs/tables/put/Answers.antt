-- What `tables::put` owes besides what the check finds.
use Rattle.std.proofs.Common.{refl}
use Rattle.std.proofs.lemmas.Result.{IfOk-weaker}
use Rattle.support.proofs.ResultLaws.{both}
use Rattle.tracing.specs.TypePlaces.{trees_in}
use Rattle.tracing.proofs.RunLaws.{grown_keeps}
use Rattle.tracing.proofs.TablesLaws.{terms_grown}
use Rattle.tracing.proofs.tables.put.Goals as goal

pub returns-clause-is : goal.returns-clause-is
returns-clause-is c = IfOk-weaker c.intern.result _ _ (λ k gives. (gives (trees_in c.args.tables.now.types)).here) c.intern.ensures.gives

pub returns-clause-kept : goal.returns-clause-kept
returns-clause-kept c = IfOk-weaker c.intern.result _ _ (λ k gives. let g = gives (trees_in c.args.tables.now.types) in grown_keeps (trees_in c.args.tables.now.types) _ _ g.more g.grown) c.intern.ensures.gives

pub returns-clause-grown : goal.returns-clause-grown
returns-clause-grown c =
    both c.intern.result c.intern.ensures.gives c.intern.ensures.typed
    (λ k gives typed source h. terms_grown source _ _ k _ refl refl (gives (trees_in c.args.tables.now.types)) (typed _ h.typed c.requires.typed) h)
