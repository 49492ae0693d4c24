-- It is, piece by piece.
use Rattle.std.proofs.Common.{None}
use Rattle.ll_spacing.proofs.CutLaws.{cut_behind}
use Rattle.ll_spacing.proofs.laws.spaced_is_cut.Goals as goal

pub returns : goal.returns
returns c xs end spaced blanks = cut_behind None 0 xs end spaced blanks
