-- What `noting::note` owes besides what the check finds.
use Rattle.std.proofs.Common.{◌≡◌, Bool, true, false, cond, Option, Some, None, List, [], ◌∷◌, refl, sym, ap, ◌∙◌, if◌then◌else◌, rules, arith}
use Rattle.std.specs.Cmp.{IsEquivalence}
use Rattle.std.specs.Map.{lookup}
use Rattle.std.specs.Option.{unwrap_or}
use Rattle.support.specs.Options.{or_else}
use Rattle.support.proofs.noting.note.Goals as goal

-- what is noted of a key after a value was noted where none was
noted : {X : Type 0} (b : Bool) (o k n : Option X) (w value : X) → n ≡ cond b (Some w) o → w ≡ unwrap_or k value → (b ≡ true → o ≡ k) → n ≡ or_else o (if b then Some value else None)
noted false None k n w value new is same = new
noted false (Some x) k n w value new is same = new
noted {X} true o None n w value new is same = rw (same refl) (new ∙ ap (λ (x : X). Some x) is)
noted {X} true o (Some x) n w value new is same = rw (same refl) (new ∙ ap (λ (x : X). Some x) is)

-- equal keys have the same value
same_found : {K X : Type 0} {eq : K → K → Bool} → IsEquivalence eq → (k q : K) (es : List (K × X)) → eq k q ≡ true → lookup (eq q) es ≡ lookup (eq k) es
same_found laws k q [] same = refl
same_found {eq = eq} laws k q (e ∷ es) same =
    ap (λ (b : Bool). cond b (Some e.1) (lookup (eq q) es)) (sym (laws.congr k q e.0 same)) ∙ ap (λ (r : Option _). cond (eq k e.0) (Some e.1) r) (same_found laws k q es same)

pub returns : goal.returns
returns g c =
    let h = c.in_ok-map.ensures in
    let laws : IsEquivalence g.K.PartialEq.eq = search rules in
    λ q. grind (arith, noted (g.K.PartialEq.eq c.args.key q) _ _ _ c.or_insert.result.now c.args.value ((h.update.0 c.or_insert.result.now).0 q) (c.or_insert.ensures.value ∙ ap (λ (x : Option _). unwrap_or x c.args.value) h.value) (same_found laws c.args.key q c.args.map.now.entries))
