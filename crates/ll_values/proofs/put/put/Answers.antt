-- The value stands in place of its parts.
use Rattle.std.proofs.Common.{◌≡◌, ◌∷◌, take, drop, refl, ap, ◌∙◌}
use Rattle.ll_values.specs.Parts.{part_count}
use Rattle.ll_values.proofs.MakeLaws.{makes_only}
use Rattle.ll_values.proofs.StackLaws.{puts}
use Rattle.ll_values.proofs.put.put.Goals as goal

pub returns-clause-puts : goal.returns-clause-puts
returns-clause-puts c =
    let m = c.args.m.now in
    let s = c.args.store.now in
    let vs = c.args.stack.now in
    let ps = take (part_count c.args.kind) vs in
    let new : c.replace.new.self ≡ c.args.value ∷ drop (part_count c.args.kind) vs = c.in_ok-replace.ensures ∙ ap (λ n. c.args.value ∷ drop n vs) c.part_count.ensures in
    puts c.args.bytes.now c.args.kind m s vs m s ps c.replace.new.self c.args.value c.requires.standing refl (makes_only c.args.bytes.now m s c.requires.standing.store c.args.kind ps c.args.value c.requires.there c.requires.made) new
