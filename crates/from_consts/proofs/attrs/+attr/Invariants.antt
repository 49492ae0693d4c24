-- How `attrs::attr` and what it calls end, and what their loop keeps.
use Rattle.std.proofs.Common.{◌+◌, ◌*◌, take}
use Rattle.from_consts.specs.Steps.{AreAttrsGiven}
use Rattle.from_consts.proofs.attrs.+attr.Given as goal

-- elements have lower numbers
abbrev pub decreases-attr : goal.decreases-attr
decreases-attr l = 2 * l.c.0 + 1

abbrev pub decreases-attrs : goal.decreases-attrs
decreases-attrs l = 2 * l.c.0

abbrev pub invariant-attrs-loop-element : goal.invariant-attrs-loop-element
invariant-attrs-loop-element l = AreAttrsGiven l.«module» l.cctx (take l.element-index l.elements) l.made.items
