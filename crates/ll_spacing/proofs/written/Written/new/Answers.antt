-- Nothing is written.
use Rattle.std.proofs.Common.{◌≡◌, ℕ, List, [], None, sym, subst}
use Rattle.ll_spacing.specs.Spacing.{spaced_of}
use Rattle.ll_spacing.specs.Writing.{IsWritten}
use Rattle.ll_spacing.proofs.SpaceLaws.{again, is_written}
use Rattle.ll_spacing.proofs.written.Written.new.Goals as goal

pub invariant_of-result : goal.invariant_of-result
invariant_of-result c = subst (λ (t : List ℕ). IsWritten t None) (sym c.new.ensures.items) (is_written [] tt)

pub returns : goal.returns
returns c = subst (λ (t : List ℕ). spaced_of t ≡ []) (sym c.new.ensures.items) (again [] tt)
