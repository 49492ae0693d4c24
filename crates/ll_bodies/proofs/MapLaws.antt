-- What the maps of a scope hold is what its keys stand for.
use Rattle.std.proofs.Common.{◌≡◌, ℕ, Bool, true, false, true≢false, List, Option, Some, None, cond, if◌then◌else◌, refl, ap, sym, ◌∙◌, Bor}
use Rattle.std.specs.HashMap.{HashMap, get_by, get_by_text, Updates}
use Rattle.std.specs.Map.{KeepsOthers}
use Rattle.std.specs.Str.{bytes_eq}
use Rattle.std.proofs.lemmas.Slice.Eq.{bytes_eq-Decides}
use Rattle.support.specs.NumberMaps.{value_at}
use Rattle.support.specs.Options.{or_else}
use Rattle.ll_lines.specs.Lines.{Text}
use Rattle.ll_bodies.specs.Scopes.{Key, Named, Numbered, same_key}
use Rattle.ll_bodies.specs.ScopeViews.{local_at, IsPut}
use Rattle.ll_bodies.specs.declared.scope.Local.{Local}
use Rattle.ll_bodies.specs.declared.scope.Scope.{Scope}

-- ---- texts

same_text : (a b : Text) → bytes_eq a b ≡ true → a ≡ b
same_text a b e = (bytes_eq-Decides a b).0 e

text_itself : (a : Text) → bytes_eq a a ≡ true
text_itself a = (bytes_eq-Decides a a).1 refl

-- a text that another is equal to is equal to the same ones
text_congruent : (t a b : Text) → bytes_eq t a ≡ true → bytes_eq t b ≡ bytes_eq a b
text_congruent t a b e = ap (λ (x : Text). bytes_eq x b) (same_text t a e)

-- ---- a map by texts

module _ {K X S : Type 0} (text : K → Text) where
  abbrev by_text : HashMap K X S → Text → Option X
  by_text m t = get_by (λ (k : K). bytes_eq t (text k)) m

  -- what is put under a key is found under its text, and what stands under other texts stays
  pub text_updated : (m n : HashMap K X S) (key : K) (w : Option X) → Updates (λ (a b : K). bytes_eq (text a) (text b)) m n key w → (t : Text) → by_text n t ≡ cond (bytes_eq (text key) t) w (by_text m t)
  unfolding KeepsOthers
  text_updated m n key w h t = by (bytes_eq (text key) t) refl
    where
      by : (b : Bool) → bytes_eq (text key) t ≡ b → by_text n t ≡ cond b w (by_text m t)
      by true e = ap (by_text n) (sym (same_text (text key) t e)) ∙ h.1
      by false e = h.3 (λ (k : K). bytes_eq t (text k)) (λ x y is. text_congruent t (text x) (text y) is) apart
        where
          apart : (k : K) → bytes_eq (text key) (text k) ≡ true → bytes_eq t (text k) ≡ false
          apart k same = other (bytes_eq t (text k)) refl
            where
              other : (c : Bool) → bytes_eq t (text k) ≡ c → c ≡ false
              other false is = refl
              other true is =
                  let one : text key ≡ t = same_text (text key) (text k) same ∙ sym (same_text t (text k) is) in
                  let both : true ≡ false = sym (text_itself t) ∙ ap (λ (x : Text). bytes_eq x t) (sym one) ∙ e in
                  absurd (true≢false both)

-- ---- what is put in a scope

abbrev pub named_at : Scope → Text → Option Local
named_at s t = get_by (λ (k : Bor (List ℕ)). bytes_eq t k.now) s.named

abbrev pub escaped_at : Scope → Text → Option Local
escaped_at s t = get_by_text s.escaped t

module _ (old new : Scope) (name : Text) (x : Local) (numbered : new.numbered ≡ old.numbered) where
  before : (b : Bool) (o e : Option Local) → or_else (cond b (Some x) o) e ≡ (if b then Some x else or_else o e)
  before true o e = refl
  before false o e = refl

  behind : (b : Bool) (o e : Option Local) → (b ≡ true → o ≡ None) → or_else o (cond b (Some x) e) ≡ (if b then Some x else or_else o e)
  behind true o e none = rw (none refl) refl
  behind false o e none = refl

  -- among the names of the text
  pub named_put : ((t : Text) → named_at new t ≡ cond (bytes_eq name t) (Some x) (named_at old t)) → new.escaped ≡ old.escaped → IsPut old new (Named name) x
  named_put named escaped (Named t) =
      ap (λ (o : Option Local). or_else o (escaped_at new t)) (named t) ∙ ap (λ m. or_else (cond (bytes_eq name t) (Some x) (named_at old t)) (get_by_text m t)) escaped
      ∙ before (bytes_eq name t) (named_at old t) (escaped_at old t)
  named_put named escaped (Numbered n) = ap (λ m. value_at m n) numbered

  -- among those with escapes, where the text has no such name
  pub escaped_put : named_at old name ≡ None → new.named ≡ old.named → ((t : Text) → escaped_at new t ≡ cond (bytes_eq name t) (Some x) (escaped_at old t)) → IsPut old new (Named name) x
  escaped_put none named escaped (Named t) =
      ap (λ m. or_else (get_by (λ (k : Bor (List ℕ)). bytes_eq t k.now) m) (escaped_at new t)) named ∙ ap (or_else (named_at old t)) (escaped t)
      ∙ behind (bytes_eq name t) (named_at old t) (escaped_at old t) (λ e. ap (named_at old) (sym (same_text name t e)) ∙ none)
  escaped_put none named escaped (Numbered n) = ap (λ m. value_at m n) numbered

-- a scope that has the same keys is as good
pub put_from : (old now new : Scope) (k : Key) (x : Local) → ((q : Key) → local_at now q ≡ local_at old q) → IsPut now new k x → IsPut old new k x
put_from old now new k x same puts q = puts q ∙ ap (λ (o : Option Local). if same_key k q then Some x else o) (same q)
