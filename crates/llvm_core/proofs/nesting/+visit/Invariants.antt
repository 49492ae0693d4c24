-- How `nesting::visit` and what it calls end, and what their loop keeps.
use Rattle.std.proofs.Common.{◌+◌, ◌*◌, Some, take}
use Rattle.llvm_core.specs.Depths.{IsLeastWithin, AreMoreNotes, all_nest_at}
use Rattle.llvm_core.proofs.nesting.+visit.Given as goal

-- less is left for parts
abbrev pub decreases-visit : goal.decreases-visit
decreases-visit l = 4 * l.left

abbrev pub decreases-visit_all : goal.decreases-visit_all
decreases-visit_all l = 4 * l.left + 1

abbrev pub decreases-visit_fields : goal.decreases-visit_fields
decreases-visit_fields l = 4 * l.left + 2

abbrev pub decreases-visit_parts : goal.decreases-visit_parts
decreases-visit_parts l = 4 * l.left + 3

abbrev pub invariant-visit_all-loop-ty : goal.invariant-visit_all-loop-ty
invariant-visit_all-loop-ty l = record {
  depth : IsLeastWithin (all_nest_at l.m (take l.ty-index l.types)) l.left (Some l.depth);
  notes : AreMoreNotes l.m l.fn.notes l.notes;
}
