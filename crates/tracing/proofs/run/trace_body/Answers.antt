-- What `run::trace_body` owes besides what the check finds.
use Rattle.std.proofs.Common.{ℕ, All, length, subst}
use Rattle.llvm_core.specs.Data.{type_trees}
use Rattle.llvm_core.proofs.TreeLemmas.{length-type_trees}
use Rattle.tracing.specs.Table.{AreTyped}
use Rattle.tracing.specs.Contents.{contents_of}
use Rattle.tracing.specs.Runs.{HasPlacesBelow}
use Rattle.tracing.proofs.RunLaws.{items_are, items_below}
use Rattle.tracing.proofs.run.trace_body.Goals as goal

pub first-requires : goal.first-requires
first-requires c = (type_trees c.args.body.types, c.requires.typed, c.requires.known)

pub run_on-requires : goal.run_on-requires
run_on-requires c =
    let trees = type_trees c.args.body.types in
    (contents_of c.args.body.types c.args.body.terms, _, c.requires.known, c.in_ok-run.ensures trees c.requires.typed c.requires.known)

pub returns-clause-exact : goal.returns-clause-exact
returns-clause-exact c =
    let trees = type_trees c.args.body.types in
    let h = c.in_ok-run_on.ensures (contents_of c.args.body.types c.args.body.terms) _ c.requires.known (c.in_ok-run.ensures trees c.requires.typed c.requires.known) in
    items_are trees c.run_on.new.run.table c.run_on.new.run.items.items _ h.shown

pub returns-clause-tables : goal.returns-clause-tables
returns-clause-tables c =
    let kinds = c.args.body.types in
    let trees = type_trees kinds in
    let nodes = c.run_on.new.run.table in
    let items = c.run_on.new.run.items.items in
    let h = c.in_ok-run_on.ensures (contents_of kinds c.args.body.terms) _ c.requires.known (c.in_ok-run.ensures trees c.requires.typed c.requires.known) in
    record {
      types_shared = c.len.ensures.apart;
      types_parts = c.len.ensures.over;
      shared = c.len-2.ensures.apart trees c.len.ensures.apart h.typed;
      parts = c.len-2.ensures.grounded;
      typed = subst (λ (n : ℕ). AreTyped n nodes) (length-type_trees kinds) h.typed;
      within = subst (λ (n : ℕ). All (HasPlacesBelow n (length nodes)) items) (length-type_trees kinds) (items_below trees nodes items _ h.shown);
    }
