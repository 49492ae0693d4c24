-- What a source in memory is seen as.
use Rattle.std.specs.Prelude.{ℕ, Bool, List, drop}
use Rattle.round_ll.specs.Outside.FaultPlan.{Plan, after_call}

-- the bytes left, the most bytes that a call gives, and which calls fail
pub record Reading : Type 0 where
  pub left : List ℕ
  pub piece : ℕ
  pub plan : Plan

-- after a call that gave so many bytes, or failed and gave none
abbrev pub after_read : Reading → ℕ → Bool → Reading
after_read source n failed = record {
  left = drop n source.left;
  piece = source.piece;
  plan = after_call source.plan failed;
}
