-- What the loop of `ConstAttr::append_each` keeps.
use Rattle.dialect_types.specs.Trees.{type_trees}
use Rattle.const_attrs.specs.declared.const_attr.ConstAttr.{ConstAttr}
use Rattle.const_attrs.specs.Text.{attr_text}
use Rattle.const_attrs.specs.Trees.{attr_tree, attr_data}
use Rattle.const_attrs.proofs.PrintedLaws.{PrintedItems}
use Rattle.const_attrs.proofs.const_attr.ConstAttr.+append.Given as goal

abbrev pub invariant-append_each-loop-i : goal.invariant-append_each-loop-i
invariant-append_each-loop-i l = PrintedItems (λ (c : ConstAttr). attr_text (attr_tree (type_trees l.types) (attr_data c))) l.fn.elements l.i l.fn.out.items l.out.items
