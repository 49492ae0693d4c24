-- Which calls of an object in memory fail.
use Rattle.std.specs.Prelude.{ℕ, Bool, ◌==◌, List, if◌then◌else◌}
use Rattle.std.specs.List.{list_any}
use Rattle.round_ll.specs.Outside.Causes.{counted}

-- the numbers of the calls that fail, how many calls there were, and how many of them failed;
-- both counts stand still at 2 ^ 64 - 1, which is above every listed number
pub record Plan : Type 0 where
  pub listed : List ℕ
  pub calls : ℕ
  pub faults : ℕ

-- whether the next call fails: its number, counted from 0, is listed
abbrev pub fails_next : Plan → Bool
fails_next plan = list_any (λ n. n == plan.calls) plan.listed

-- the plan after a call that failed or did not
abbrev pub after_call : Plan → Bool → Plan
after_call plan failed = record {
  listed = plan.listed;
  calls = counted plan.calls;
  faults = if failed then counted plan.faults else plan.faults;
}
