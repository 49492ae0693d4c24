-- The slot at a place, where there is one.
use Rattle.std.proofs.Common.{◌<◌, ◌∙◌, length, arith, ap, sym, Some}
use Rattle.std.proofs.lemmas.Option.{slice_get-get_or}
use Rattle.dialect_core.proofs.argument_map.ArgumentMap.has_slot.Goals as goal

pub returns-then-at-len-clause-yes : goal.returns-then-at-len-clause-yes
returns-then-at-len-clause-yes g c hit =
    let there : c.args.at < length c.args.self.now.slots.items = let l = c.len.ensures in let h = c.if-at-len.true in omega (arith, l, h) in
    (c.index.result.now, slice_get-get_or c.args.self.now.slots.items c.args.at c.index.result.now there ∙ ap Some (sym c.index.ensures), sym c.is_of.ensures ∙ hit)
