-- How `attrs::attr` and what it calls end, and what their loop keeps.
use Rattle.std.proofs.Common.{◌+◌, ◌*◌, take}
use Rattle.from_llvm_ir.specs.Attrs.{AreAttrsOf}
use Rattle.from_llvm_ir.proofs.attrs.+attr.Given as goal

-- elements have lower numbers
abbrev pub decreases-attr : goal.decreases-attr
decreases-attr l = 2 * l.c.0 + 1

abbrev pub decreases-attrs : goal.decreases-attrs
decreases-attrs l = 2 * l.list.0

abbrev pub invariant-attrs-loop-place : goal.invariant-attrs-loop-place
invariant-attrs-loop-place l = AreAttrsOf l.types l.source (take l.place l.elements) l.made.items
