-- What `type_tests::is_short` and what it calls owe besides what the check finds.
use Rattle.std.proofs.Common.{rules, length}
use Rattle.const_attrs.specs.declared.const_attr.ConstAttr.{the_lemmas}
use Rattle.const_attrs.proofs.ListLaws.{types_at_index}
use Rattle.dialect_core.proofs.type_tests.+is_short.Goals as goal

pub are_short-is_short-requires : goal.are_short-is_short-requires
are_short-is_short-requires t c = (search (rules, the_lemmas), types_at_index (length c.args.types.now) c.args.values.now c.loop-value.value-index c.value-item.result c.requires c.loop-value-test.true c.value-item.is)
