-- What `llvm_index::note_entry` owes besides what the check finds.
use Rattle.std.proofs.Common.{◌≡◌, ℕ, true, false, sym, subst, ◌∙◌}
use Rattle.std.specs.Prelude.{nat_eq}
use Rattle.std.specs.Option.{is_some}
use Rattle.std.proofs.lemmas.Bool.{eqb-true}
use Rattle.indexmap.specs.IndexMap.{get}
use Rattle.tracing.proofs.IndexLaws.{still_given, newly_given}
use Rattle.tracing.proofs.llvm_index.note_entry.Goals as goal

pub returns-then-contains_key-clause-takes : goal.returns-then-contains_key-clause-takes
returns-then-contains_key-clause-takes c = λ from x given.
    let there = sym c.contains_key.ensures ∙ c.if-contains_key.true in
    still_given _ _ x (nat_eq c.args.entry.block.0 from) _ given (λ e. subst (λ (n : ℕ). is_some (get nat_eq c.args.incoming.now n) ≡ true) (eqb-true c.args.entry.block.0 from e) there)

pub returns-clause-takes : goal.returns-clause-takes
returns-clause-takes c = λ from x given.
    let apart = sym c.contains_key.ensures ∙ c.if-contains_key.false in
    rw (c.in_ok-insert.ensures.updates.0 from)
    (newly_given _ _ c.in_ok-source.source _ x (nat_eq c.args.entry.block.0 from) _ c.in_ok-source.ensures.grown.kept given
    (λ e. subst (λ (n : ℕ). is_some (get nat_eq c.args.incoming.now n) ≡ false) (eqb-true c.args.entry.block.0 from e) apart) c.in_ok-source.ensures.is)
