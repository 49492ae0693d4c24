-- Bytes that keep what stood there before.
use Rattle.std.proofs.Common.{◌≡◌, ℕ, Ok, Err, List, [], ◌++◌, sym, ◌∙◌, ap, append_assoc}
use Rattle.std.specs.Prelude.{Result, is_ok, if◌then◌else◌}
use Rattle.std.proofs.lemmas.List.{append-nil}
use Rattle.support.specs.Appended.{Keeps}

pub keeps_same : (a : List ℕ) → Keeps a a
keeps_same a = record { rest = []; is = sym (append-nil a) }

pub keeps_more : (a b c : List ℕ) → Keeps a b → Keeps a (b ++ c)
keeps_more a b c h = record { rest = h.rest ++ c; is = ap (λ (x : List ℕ). x ++ c) h.is ∙ append_assoc a h.rest c }

pub keeps_then : (a b c : List ℕ) → Keeps a b → Keeps b c → Keeps a c
keeps_then a b c h k = record { rest = h.rest ++ k.rest; is = k.is ∙ ap (λ (x : List ℕ). x ++ k.rest) h.is ∙ append_assoc a h.rest k.rest }

pub keeps_appended : (a x b : List ℕ) → b ≡ a ++ x → Keeps a b
keeps_appended a x b e = record { rest = x; is = e }

pub keeps_equal : (a b c : List ℕ) → Keeps a b → c ≡ b → Keeps a c
keeps_equal a b c h e = record { rest = h.rest; is = e ∙ h.is }

-- after a call that appends on `Ok` alone
pub keeps_extended : {E : Type 0} (r : Result (Unit {0}) E) (a x b : List ℕ) → b ≡ (if is_ok r then a ++ x else a) → Keeps a b
keeps_extended (Ok v) a x b e = keeps_appended a x b e
keeps_extended (Err v) a x b e = keeps_equal a a b (keeps_same a) e

-- the rules by which bytes keep what stood there
pub ruleset keeping = (keeps_same, keeps_more, keeps_then)
