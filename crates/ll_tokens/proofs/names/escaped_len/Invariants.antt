-- What was counted and what is still to be counted.
use Rattle.std.proofs.Common.{◌≡◌, ◌+◌, length}
use Rattle.ll_tokens.specs.Pieces.{escaped_len}
use Rattle.ll_tokens.proofs.names.escaped_len.Given as goal

abbrev pub invariant-loop-rest : goal.invariant-loop-rest
invariant-loop-rest l = record {
  so_far : l.n + escaped_len 0 l.rest ≡ escaped_len 0 l.bytes;
  within : l.n + length l.rest ≡ length l.bytes;
}

abbrev pub decreases-loop-rest : goal.decreases-loop-rest
decreases-loop-rest l = length l.rest
