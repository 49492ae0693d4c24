-- What `Tables::new` owes besides what the check finds.
use Rattle.std.proofs.Common.{sym, ◌∙◌}
use Rattle.std.proofs.lemmas.Option.{none-some}
use Rattle.tracing.proofs.tables.Tables.new.Goals as goal

pub returns : goal.returns
returns c = λ source. record {
  types = c.new.ensures source.types;
  typed = rw c.new-2.ensures (λ i x at. absurd (none-some x at));
  constants = λ q k at. absurd (none-some k (sym (c.new-3.ensures q) ∙ at));
}
