-- Two literals at a type are values of that type.
use Rattle.ll_values.proofs.MakeLaws.{makes_pair}
use Rattle.ll_values.proofs.typed.make_pair.Goals as goal

pub returns-in-Ok-said-clause-made : goal.returns-in-Ok-said-clause-made
returns-in-Ok-said-clause-made c =
    makes_pair c.args.bytes.now c.args.m.now c.args.store.now c.requires.store c.said.new.m c.said.new.store c.args.ty c.requires.there c.args.a c.in-Ok.x c.in-Ok.ensures.says c.said-2.new.m c.said-2.new.store c.args.b c.in-Ok-said.y c.requires.b c.in-Ok-said.ensures.says
