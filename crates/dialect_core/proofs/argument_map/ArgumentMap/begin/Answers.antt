-- The first slot of a block.
use Rattle.std.proofs.Common.{◌≡◌, length, arith}
use Rattle.support.specs.NumberMaps.{value_at}
use Rattle.dialect_core.proofs.ArgumentMapLaws.{begun}
use Rattle.dialect_core.proofs.argument_map.ArgumentMap.begin.Goals as goal

pub returns : goal.returns
returns g c b i =
    let start : c.in_ok-start.start ≡ length c.args.self.now.slots.items = let s = c.in_ok-start.ensures in let l = c.len.ensures in omega (arith, s, l) in
    let front : c.args.place ≡ 0 = let h = c.if-place-ne0.false in omega (arith, h) in
    begun (value_at c.args.self.now.starts) (value_at c.set.new.self) c.args.self.now.slots.items c.push.new.self.items c.args.self.now.far c.args.block c.args.place c.args.to c.in_ok-start.start start front c.requires c.in_ok-set.ensures c.in_ok-push.ensures.items b i
