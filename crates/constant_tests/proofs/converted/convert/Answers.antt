-- What `converted::convert` owes besides what the check finds.
use Rattle.constant_tests.proofs.ConvertedLaws.{there, nested, convertible}
use Rattle.constant_tests.proofs.converted.convert.Goals as goal

pub const_to_attr-attr-requires-clause-nested : goal.const_to_attr-attr-requires-clause-nested
const_to_attr-attr-requires-clause-nested c = nested c.constant.new.module c.in_ok-c.c c.in_ok-c.ensures.integer c.in_ok-c.ensures.sound

pub const_to_attr-attr-requires-clause-within : goal.const_to_attr-attr-requires-clause-within
const_to_attr-attr-requires-clause-within c = there c.constant.new.module c.in_ok-c.c c.in_ok-c.ensures.integer

pub const_to_ops-value-requires-clause-there : goal.const_to_ops-value-requires-clause-there
const_to_ops-value-requires-clause-there c = convertible c.constant.new.module c.in_ok-c.c c.in_ok-c.ensures.integer

pub const_to_ops-value-requires-clause-nested : goal.const_to_ops-value-requires-clause-nested
const_to_ops-value-requires-clause-nested c = nested c.constant.new.module c.in_ok-c.c c.in_ok-c.ensures.integer c.in_ok-c.ensures.sound
