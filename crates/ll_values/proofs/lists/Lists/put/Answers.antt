-- A link is put behind the others.
use Rattle.std.proofs.Common.{rules, ◌≡◌, length, ◌∙◌, ap, ◌+◌}
use Rattle.ll_values.proofs.ListLaws.{links_put, lists_put, number_put}
use Rattle.ll_values.proofs.lists.Lists.put.Goals as goal

pub invariant_of-self-2 : goal.invariant_of-self-2
invariant_of-self-2 g c = links_put c.args.self.now c.self.inside.links.items c.push.new.self.items _ c.self.view_is c.self.invariant c.requires c.in_ok-push.ensures.items

pub returns-clause-number : goal.returns-clause-number
returns-clause-number g c =
    let n : c.len-n.result ≡ length c.self.inside.links.items = search rules in
    ap (λ k. k + 1) n ∙ number_put c.self.inside.links.items c.push.new.self.items _ c.in_ok-push.ensures.items

pub returns-clause-lists : goal.returns-clause-lists
returns-clause-lists g c = lists_put c.args.self.now c.self.inside.links.items c.push.new.self.items _ c.self.view_is c.in_ok-push.ensures.items
