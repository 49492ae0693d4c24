-- The table says it.
use Rattle.std.proofs.Common.{ℕ, nat_le, ap, ◌∙◌}
use Rattle.ll_tokens.proofs.ByteLaws.{word_kinds}
use Rattle.ll_tokens.proofs.bytes.is_word_byte.Goals as goal

pub returns : goal.returns
returns c = ap (λ (k : ℕ). nat_le 100 k) c.kind_at.ensures ∙ word_kinds c.args.b c.ranges.b.fits
