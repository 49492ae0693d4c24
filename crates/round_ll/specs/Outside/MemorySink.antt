-- What a sink in memory is seen as.
use Rattle.std.specs.Prelude.{ℕ, ◌-◌, List, length, ◌++◌, Bool, nat_le, nat_lt, ◌&&◌, ◌||◌}
use Rattle.round_ll.specs.Outside.FaultPlan.{Plan, fails_next, after_call}

-- the bytes taken, how many it has room for, the most that a call takes, and which calls fail
pub record Writing : Type 0 where
  pub taken : List ℕ
  pub room : ℕ
  pub piece : ℕ
  pub plan : Plan

-- how many bytes more there is room for
abbrev pub room_left : Writing → ℕ
room_left sink = sink.room - length sink.taken

-- whether the next call, with a piece of so many bytes, fails: it is listed, or the piece is not
-- empty and no room is left
abbrev pub refuses : Writing → ℕ → Bool
refuses sink n = fails_next sink.plan || (nat_lt 0 n && nat_le (room_left sink) 0)

-- after a call that took these bytes, or failed and took none
abbrev pub after_write : Writing → List ℕ → Bool → Writing
after_write sink bytes failed = record {
  taken = sink.taken ++ bytes;
  room = sink.room;
  piece = sink.piece;
  plan = after_call sink.plan failed;
}
