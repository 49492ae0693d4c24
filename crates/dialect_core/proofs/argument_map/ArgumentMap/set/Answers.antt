-- A slot more, or the slot that the argument has.
use Rattle.std.proofs.Common.{◌≡◌, ◌+◌, sym, length, arith}
use Rattle.support.specs.NumberMaps.{value_at}
use Rattle.dialect_core.proofs.ArgumentMapLaws.{pushed, replaced}
use Rattle.dialect_core.proofs.argument_map.ArgumentMap.set.Goals as goal

pub returns-then-at-len : goal.returns-then-at-len
returns-then-at-len g c b i =
    let last : c.in-Some.start + c.args.place ≡ length c.args.self.now.slots.items = let h = c.if-at-len.true in let l = c.len.ensures in omega (arith, h, l) in
    pushed (value_at c.args.self.now.starts) c.args.self.now.slots.items c.push.new.self.items c.args.self.now.far c.args.block c.args.place c.args.to c.in-Some.start (sym c.in-Some.ensures) last c.in_ok-push.ensures.items b i

pub returns-then-has_slot : goal.returns-then-has_slot
returns-then-has_slot g c b i =
    let x = c.has_slot.ensures.yes c.if-has_slot.true in
    replaced (value_at c.args.self.now.starts) c.args.self.now.slots.items c.args.self.now.far c.args.block c.args.place c.args.to c.in-Some.start x.0 (sym c.in-Some.ensures) x.1 x.2 b i
