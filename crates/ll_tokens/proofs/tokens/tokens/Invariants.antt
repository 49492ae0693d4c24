-- The tokens found, with those of the rest, are those of the text; what is behind is whole pieces; and what is known of the run of name bytes.
use Rattle.std.proofs.Common.{◌≡◌, ◌≤◌, ◌-◌, length, drop}
use Rattle.ll_tokens.specs.Runs.{EndsRun}
use Rattle.ll_tokens.specs.Tokens.{IsCut, tokens_from, tokens_of}
use Rattle.ll_tokens.proofs.TokenLaws.{with_front}
use Rattle.ll_tokens.proofs.tokens.tokens.Given as goal

abbrev pub invariant-loop-at : goal.invariant-loop-at
invariant-loop-at l = record {
  so_far : with_front l.found.items (tokens_from 0 l.at (drop l.at l.bytes)) ≡ tokens_of l.bytes;
  cut : IsCut l.bytes l.at;
  within : l.at ≤ length l.bytes;
  run : EndsRun l.bytes l.at l.name_end;
}

abbrev pub decreases-loop-at : goal.decreases-loop-at
decreases-loop-at l = length l.bytes - l.at
