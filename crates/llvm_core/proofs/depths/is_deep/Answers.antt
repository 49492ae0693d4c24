-- What `depths::is_deep` owes besides what the check finds.
use Rattle.std.proofs.Common.{ℕ, subst, arith}
use Rattle.llvm_core.specs.Depths.{IsLeastWithin, nests_at}
use Rattle.llvm_core.proofs.NoteLemmas.{grown_notes, none_open}
use Rattle.llvm_core.proofs.DepthLemmas.{few_allowed, deep_unless}
use Rattle.llvm_core.proofs.depths.is_deep.Goals as goal

pub visit-requires-clause-fuel : goal.visit-requires-clause-fuel
visit-requires-clause-fuel c = let few = few_allowed in omega (arith, c.deepest.ensures, few)

pub visit-requires-clause-notes : goal.visit-requires-clause-notes
visit-requires-clause-notes c = let m = c.args.m.now in none_open m (nests_at m c.args.ty) c.args.notes.now c.requires.notes

pub returns-clause-deep : goal.returns-clause-deep
returns-clause-deep c =
    let m = c.args.m.now in
    deep_unless m c.args.ty c.visit.result c.is_none.result c.is_none.ensures (subst (λ (n : ℕ). IsLeastWithin (nests_at m c.args.ty) n c.visit.result) c.deepest.ensures c.visit.ensures.depth)

pub returns-clause-notes : goal.returns-clause-notes
returns-clause-notes c = grown_notes c.args.m.now c.args.notes.now c.visit.new.notes c.requires.notes c.visit.ensures.notes
