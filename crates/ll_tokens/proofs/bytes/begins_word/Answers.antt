-- The table says it.
use Rattle.std.proofs.Common.{ℕ, nat_eq, ap, ◌∙◌}
use Rattle.ll_tokens.proofs.ByteLaws.{start_kinds}
use Rattle.ll_tokens.proofs.bytes.begins_word.Goals as goal

pub returns : goal.returns
returns c = ap (λ (k : ℕ). nat_eq k 119) c.kind_at.ensures ∙ start_kinds c.args.b c.ranges.b.fits
