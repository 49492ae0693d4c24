-- A link tells its list.
use Rattle.std.proofs.Common.{length, [], ap, arith}
use Rattle.ll_values.proofs.ListLaws.{told, length_after}
use Rattle.ll_values.proofs.lists.Lists.first.Goals as goal

pub index-link-requires : goal.index-link-requires
index-link-requires g c = omega (arith, c.requires, ap length c.self.view_is, length_after [] c.self.inside.links.items, c.if-n-eq0.false)

pub returns-clause-first : goal.returns-clause-first
returns-clause-first g c = (told c.args.self.now c.self.inside.links.items c.args.n c.index-link.result.now c.self.view_is c.self.invariant c.if-n-eq0.false c.requires c.index-link.ensures).0

pub returns-clause-rest : goal.returns-clause-rest
returns-clause-rest g c = (told c.args.self.now c.self.inside.links.items c.args.n c.index-link.result.now c.self.view_is c.self.invariant c.if-n-eq0.false c.requires c.index-link.ensures).1
