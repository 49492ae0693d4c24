-- The table says it.
use Rattle.std.proofs.Common.{ℕ, nat_eq, ap, ◌∙◌}
use Rattle.ll_tokens.proofs.ByteLaws.{blank_kinds}
use Rattle.ll_tokens.proofs.bytes.is_blank.Goals as goal

pub returns : goal.returns
returns c = ap (λ (k : ℕ). nat_eq k 45) c.kind_at.ensures ∙ blank_kinds c.args.b c.ranges.b.fits
