-- What the loop of `ConstAttr::clone_each` keeps.
use Rattle.std.proofs.Common.{◌≡◌, take, map}
use Rattle.const_attrs.specs.Trees.{attr_data}
use Rattle.const_attrs.proofs.const_attr.ConstAttr.+clone.Given as goal

abbrev pub invariant-clone_each-loop-element : goal.invariant-clone_each-loop-element
invariant-clone_each-loop-element l = map attr_data l.copies.items ≡ map attr_data (take l.element-index l.elements)
