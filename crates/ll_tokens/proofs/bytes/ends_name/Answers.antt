-- The table says it.
use Rattle.std.proofs.Common.{ℕ, nat_le, ap, ◌∙◌}
use Rattle.ll_tokens.proofs.ByteLaws.{end_kinds}
use Rattle.ll_tokens.proofs.bytes.ends_name.Goals as goal

pub returns : goal.returns
returns c = ap (λ (k : ℕ). nat_le k 46) c.kind_at.ensures ∙ end_kinds c.args.b c.ranges.b.fits
