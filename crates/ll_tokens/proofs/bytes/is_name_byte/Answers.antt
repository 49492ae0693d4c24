-- The table says it.
use Rattle.std.proofs.Common.{ℕ, nat_le, ap, ◌∙◌}
use Rattle.ll_tokens.proofs.ByteLaws.{name_kinds}
use Rattle.ll_tokens.proofs.bytes.is_name_byte.Goals as goal

pub returns : goal.returns
returns c = ap (λ (k : ℕ). nat_le 97 k) c.kind_at.ensures ∙ name_kinds c.args.b c.ranges.b.fits
