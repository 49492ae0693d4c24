-- The scope of the program stays the same as that of the definitions, as things are put in it.
use Rattle.std.proofs.Common.{◌≡◌, ℕ, ◌+◌, ◌<◌, ◌≤◌, ◌⊎◌, inl, inr, Bool, true, false, nat_eq, List, Option, Some, None, refl, ap, sym, ◌∙◌, if◌then◌else◌, lt-ltb, le-leb, arith}
use Rattle.std.specs.Option.{option_map}
use Rattle.std.proofs.lemmas.Bool.Decides.{nat_tests}
use Rattle.llvm_core.specs.Data.{TypeTree}
use Rattle.ll_literals.specs.Numbers.{number_limit}
use Rattle.ll_literals.specs.Chain.{◌>>=◌}
use Rattle.ll_lines.specs.Lines.{Text}
use Rattle.ll_bodies.specs.Scopes as spec
use Rattle.ll_bodies.specs.Scopes.{Key, Named, Numbered, same_key}
use Rattle.ll_bodies.specs.declared.scope.Local.{Local}
use Rattle.ll_bodies.specs.declared.scope.Scope.{Scope}
use Rattle.ll_bodies.specs.ScopeViews.{local_view, local_at, IsPut, Knows, Takes, Refuses, Adds}

mapped : (types : List TypeTree) (b : Bool) (x : Local) (o : Option Local) → option_map (local_view types) (if b then Some x else o) ≡ (if b then Some (local_view types x) else option_map (local_view types) o)
mapped types true x o = refl
mapped types false x o = refl

-- the key is no number that nothing can have
abbrev IsLimited : Key → Type 0
IsLimited k = (n : ℕ) → number_limit ≤ n → same_key k (Numbered n) ≡ false

limited_number : (n : ℕ) → n < number_limit → IsLimited (Numbered n)
limited_number n small m past = let e : nat_eq n m ≡ false = grind (arith, nat_tests) in e

-- what is put under a key is what the key stands for
put : (types : List TypeTree) (old new : Scope) (s : spec.Scope) (k : Key) (x : Local) (n : ℕ) → IsLimited k → Knows types old s → n ≡ new.next
    → IsPut old new k x
    → Knows types new (spec.with_key s k (local_view types x) n)
put types old new s k x n limited h next puts = record {
  next = next;
  known = λ q. ap (λ (o : Option spec.Local). if same_key k q then Some (local_view types x) else o) (h.known q)
      ∙ sym (mapped types (same_key k q) x (local_at old q))
      ∙ sym (ap (option_map (local_view types)) (puts q));
  limited = λ m past. puts (Numbered m) ∙ ap (λ (b : Bool). if b then Some x else local_at old (Numbered m)) (limited m past) ∙ h.limited m past;
}

pub counted_put : (types : List TypeTree) (old new : Scope) (x : Local) (n : ℕ) → n < 4294967295 → n + 1 ≡ new.next
    → IsPut old new (Numbered n) x
    → Takes types old new (λ s. spec.counted s (local_view types x) n)
counted_put types old new x n small next puts = λ s h. (spec.with_key s (Numbered n) (local_view types x) (n + 1), rw (lt-ltb n 4294967295 small) refl, put types old new s (Numbered n) x (n + 1) (limited_number n small) h next puts)

pub none_defines : (types : List TypeTree) (old new : Scope) (x : Local) → Takes types old new (λ s. spec.counted s (local_view types x) old.next) → Takes types old new (λ s. spec.define s (local_view types x) None)
none_defines types old new x h = λ s k. let c = h s k in (c.0, ap (spec.counted s (local_view types x)) k.next ∙ c.1, c.2)

pub number_defines : (types : List TypeTree) (old new : Scope) (x : Local) (n : ℕ) → old.next ≤ n → Takes types old new (λ s. spec.counted s (local_view types x) n)
    → Takes types old new (λ s. spec.define s (local_view types x) (Some (Numbered n)))
number_defines types old new x n le h = λ s k. let c = h s k in
    let above : s.next ≤ n = omega (arith, k.next) in
    (c.0, ap (λ (b : Bool). if b then spec.counted s (local_view types x) n else None) (le-leb s.next n above) ∙ c.1, c.2)

pub name_defines : (types : List TypeTree) (old new : Scope) (x : Local) (name : Text) → new.next ≡ old.next
    → IsPut old new (Named name) x → Takes types old new (λ s. spec.define s (local_view types x) (Some (Named name)))
name_defines types old new x name next puts = λ s h.
    (spec.with_key s (Named name) (local_view types x) s.next, refl, put types old new s (Named name) x s.next (λ m past. refl) h (h.next ∙ sym next) puts)

put_adds : (b : Bool) (x y : Local) (o r : Option Local) → r ≡ (if b then Some x else o) → r ≡ Some y → (y ≡ x) ⊎ (o ≡ Some y)
put_adds true x y o r e h = let same : y ≡ x = cc in inl same
put_adds false x y o r e h = let same : o ≡ Some y = cc in inr same

-- what was put is all that is new
pub adds : (old new : Scope) (k : Key) (x : Local) → IsPut old new k x → Adds (λ (y : Local). y ≡ x) old new
adds old new k x puts = record { at = λ q y h. put_adds (same_key k q) x y (local_at old q) (local_at new q) (puts q) h }

-- ---- steps one after another

-- what is left to do on the scope as it is now does what the whole does on the scope as it was
pub record Steps (types : List TypeTree) (old now : Scope) (whole rest : spec.Scope → Option spec.Scope) : Type 0 where
  pub at : (s : spec.Scope) → Knows types old s → (t : spec.Scope) × (whole s ≡ rest t) × Knows types now t

module _ (types : List TypeTree) where
  pub steps_start : (old : Scope) (whole : spec.Scope → Option spec.Scope) → Steps types old old whole whole
  steps_start old whole = record { at = λ s h. (s, refl, h) }

  pub steps_on : (old now new : Scope) (whole rest more step : spec.Scope → Option spec.Scope) → Steps types old now whole rest → Takes types now new step
      → ((t : spec.Scope) → rest t ≡ (step t >>= more)) → Steps types old new whole more
  steps_on old now new whole rest more step h k is = record {
    at = λ s in_old.
        let a = h.at s in_old in
        let b = k a.0 a.2 in
        (b.0, a.1 ∙ is a.0 ∙ ap (λ o. o >>= more) b.1, b.2);
  }

  pub steps_end : (old now : Scope) (whole rest : spec.Scope → Option spec.Scope) → Steps types old now whole rest → ((t : spec.Scope) → rest t ≡ Some t) → Takes types old now whole
  steps_end old now whole rest h is = λ s in_old. let a = h.at s in_old in (a.0, a.1 ∙ is a.0, a.2)

  pub steps_refused : (old now : Scope) (whole rest more step : spec.Scope → Option spec.Scope) → Steps types old now whole rest → Refuses types now step
      → ((t : spec.Scope) → rest t ≡ (step t >>= more)) → Refuses types old whole
  steps_refused old now whole rest more step h k is = λ s in_old.
      let a = h.at s in_old in
      a.1 ∙ is a.0 ∙ ap (λ o. o >>= more) (k a.0 a.2)

  pub takes_same : (old new : Scope) (f g : spec.Scope → Option spec.Scope) → Takes types old new f → ((s : spec.Scope) → f s ≡ g s) → Takes types old new g
  takes_same old new f g h is = λ s in_old. let a = h s in_old in (a.0, sym (is s) ∙ a.1, a.2)

  pub refuses_same : {A : Type 0} (old : Scope) (f g : spec.Scope → Option A) → Refuses types old f → ((s : spec.Scope) → f s ≡ g s) → Refuses types old g
  refuses_same old f g h is = λ s in_old. sym (is s) ∙ h s in_old

  pub takes_then : (old now new : Scope) (f g : spec.Scope → Option spec.Scope) → Takes types old now f → Takes types now new g → Takes types old new (λ s. f s >>= g)
  takes_then old now new f g h k = λ s in_old.
      let a = h s in_old in
      let b = k a.0 a.2 in
      (b.0, ap (λ o. o >>= g) a.1 ∙ b.1, b.2)

  pub then_refuses : {A : Type 0} (old now : Scope) (f : spec.Scope → Option spec.Scope) (g : spec.Scope → Option A) → Takes types old now f → Refuses types now g → Refuses types old (λ s. f s >>= g)
  then_refuses old now f g h k = λ s in_old. let a = h s in_old in ap (λ o. o >>= g) a.1 ∙ k a.0 a.2

-- ---- what is added

pub adds_none : (Q : Local → Type 0) (old : Scope) → Adds Q old old
adds_none Q old = record { at = λ k y h. inr h }

pub adds_weaker : (P Q : Local → Type 0) (old new : Scope) → ((y : Local) → P y → Q y) → Adds P old new → Adds Q old new
adds_weaker P Q old new w h = record { at = λ k y e. elim (h.at k y e) [ inl p ↦ inl (w y p) | inr o ↦ inr o ] }

pub adds_both : (Q : Local → Type 0) (old now new : Scope) → Adds Q old now → Adds Q now new → Adds Q old new
adds_both Q old now new h k = record { at = λ j y e. elim (k.at j y e) [ inl p ↦ inl p | inr o ↦ h.at j y o ] }
