-- What `type_store::note_depth` owes besides what the check finds.
use Rattle.std.proofs.Common.{◌≤◌, ℕ, All, sym, subst, ◌∙◌}
use Rattle.std.proofs.lemmas.List.Elements.{All-push, All-take}
use Rattle.kinds.specs.Held.{deepest}
use Rattle.dialect_types.proofs.DepthLaws.{not_deep}
use Rattle.dialect_types.proofs.type_store.note_depth.Goals as goal

pub returns-clause-few : goal.returns-clause-few
returns-clause-few c =
    let n = c.args.len in
    let old = c.args.depths.now in
    let cut = c.truncate.ensures.items in
    let few = subst (All (λ (d : ℕ). d ≤ deepest)) (sym cut) (All-take (λ (d : ℕ). d ≤ deepest) n old.items c.requires.few) in
    let own = not_deep c.depth_of-depth.result (sym c.too_deep.ensures ∙ c.if-too_deep.false) in
    subst (All (λ (d : ℕ). d ≤ deepest)) (sym c.in_ok-push.ensures.items) (All-push (λ (d : ℕ). d ≤ deepest) c.truncate.new.self.items c.depth_of-depth.result few own)
