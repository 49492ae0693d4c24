-- The fields that are planned are of types of the store.
use Rattle.ll_values.proofs.MakeLaws.{makes_fields}
use Rattle.ll_values.proofs.typed.make_fields.Goals as goal

pub returns-clause-made : goal.returns-clause-made
returns-clause-made c = rw c.ok_or.ensures.value (makes_fields c.args.bytes.now c.args.m.now c.args.store.now c.requires.store c.args.kind c.args.parts.now c.plan_fields.result c.plan_fields.ensures.made c.plan_fields.ensures.there)
