-- How `types::give` and what it calls end, and what their loop keeps.
use Rattle.std.proofs.Common.{◌+◌, ◌*◌}
use Rattle.from_consts.proofs.StepLaws.{Giving}
use Rattle.from_consts.proofs.types.+give.Given as goal

-- less is left for parts
abbrev pub decreases-give : goal.decreases-give
decreases-give l = 6 * l.left

abbrev pub decreases-give_all : goal.decreases-give_all
decreases-give_all l = 6 * l.left + 1

abbrev pub decreases-give_body : goal.decreases-give_body
decreases-give_body l = 6 * l.left + 2

abbrev pub decreases-give_kind : goal.decreases-give_kind
decreases-give_kind l = 6 * l.left + 2

abbrev pub decreases-give_new : goal.decreases-give_new
decreases-give_new l = 6 * l.left + 4

abbrev pub decreases-give_struct : goal.decreases-give_struct
decreases-give_struct l = 6 * l.left + 3

abbrev pub invariant-give_all-loop-ty : goal.invariant-give_all-loop-ty
invariant-give_all-loop-ty l = Giving l.«module» l.types l.fn.ctx l.fn.cctx l.ty-index l.ctx l.cctx l.given.items
