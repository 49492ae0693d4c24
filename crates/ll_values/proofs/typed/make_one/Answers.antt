-- A literal at a type is a value of that type.
use Rattle.ll_values.proofs.MakeLaws.{makes_said}
use Rattle.ll_values.proofs.typed.make_one.Goals as goal

pub returns-clause-made : goal.returns-clause-made
returns-clause-made c = makes_said c.args.bytes.now c.args.m.now c.args.store.now c.requires.store c.said.new.m c.said.new.store c.args.ty c.args.literal c.said.result c.requires.there c.said.ensures.says
