-- What was counted and what is still to be counted.
use Rattle.std.proofs.Common.{◌≡◌, ◌+◌, length}
use Rattle.std.specs.List.{prefix_len}
use Rattle.ll_tokens.specs.Bytes.{is_word_byte}
use Rattle.ll_tokens.proofs.runs.word_len.Given as goal

abbrev pub invariant-loop-rest : goal.invariant-loop-rest
invariant-loop-rest l = record {
  so_far : l.n + prefix_len is_word_byte l.rest ≡ prefix_len is_word_byte l.bytes;
  within : l.n + length l.rest ≡ length l.bytes;
}

abbrev pub decreases-loop-rest : goal.decreases-loop-rest
decreases-loop-rest l = length l.rest
