-- How `walk::visit` and what it calls end, and what their loop keeps.
use Rattle.std.proofs.Common.{◌+◌, ◌*◌, take}
use Rattle.held_types.specs.Walk.{IsAmong, Walked}
use Rattle.held_types.proofs.walk.+visit.Given as goal

-- less is left for parts
abbrev pub decreases-visit : goal.decreases-visit
decreases-visit l = 5 * l.left

abbrev pub decreases-visit_all : goal.decreases-visit_all
decreases-visit_all l = 5 * l.left + 1

abbrev pub decreases-visit_fields : goal.decreases-visit_fields
decreases-visit_fields l = 5 * l.left + 2

abbrev pub decreases-visit_named : goal.decreases-visit_named
decreases-visit_named l = 5 * l.left + 3

abbrev pub decreases-visit_kind : goal.decreases-visit_kind
decreases-visit_kind l = 5 * l.left + 4

abbrev pub invariant-visit_all-loop-ty : goal.invariant-visit_all-loop-ty
invariant-visit_all-loop-ty l = Walked l.m (IsAmong l.m (take l.ty-index l.types)) l.fn.walk l.walk
