-- What `ConstAttr::verify` and what it calls owe besides what the check finds.
use Rattle.std.proofs.Common.{rules, length}
use Rattle.const_attrs.specs.declared.const_attr.ConstAttr.{the_lemmas}
use Rattle.const_attrs.proofs.ListLaws.{types_at_index}
use Rattle.const_attrs.proofs.const_attr.ConstAttr.+verify.Goals as goal

pub verify_each-verify-requires : goal.verify_each-verify-requires
verify_each-verify-requires t c = (search (rules, the_lemmas), types_at_index (length c.args.types.now) c.args.elements.now c.loop-element.element-index c.element-item.result c.requires c.loop-element-test.true c.element-item.is)
