-- What was passed and what is still to be passed.
use Rattle.std.proofs.Common.{◌≡◌, ◌+◌, ◌-◌, ◌≤◌, drop, length}
use Rattle.std.specs.List.{prefix_len}
use Rattle.ll_tokens.specs.Bytes.{is_name_byte}
use Rattle.ll_tokens.proofs.lanes.lanes_len.Given as goal

abbrev pub invariant-loop-n : goal.invariant-loop-n
invariant-loop-n l = record {
  so_far : prefix_len is_name_byte l.text ≡ l.n + prefix_len is_name_byte (drop l.n l.text);
  within : l.n ≤ length l.text;
}

abbrev pub decreases-loop-n : goal.decreases-loop-n
decreases-loop-n l = length l.text - l.n
