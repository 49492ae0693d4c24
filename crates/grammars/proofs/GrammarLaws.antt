-- A token tells how to go on.
use Rattle.std.proofs.Common.{◌≡◌, ℕ, suc, ◌+◌, ◌≤◌, Bool, true, false, ◌||◌, ◌&&◌, if◌then◌else◌, List, [], ◌∷◌, ◌++◌, Option, Some, None, refl, sym, ap, ◌∙◌, append_assoc, subst, arith, inl, inr, ◌⊎◌}
use Rattle.grammars.specs.declared.symbols.Symbol.{Symbol}
use Rattle.grammars.specs.declared.symbols.Symbol.TheVariants.{Word, Leaf, Rule}
use Rattle.grammars.specs.declared.symbols.Event.{Event}
use Rattle.grammars.specs.declared.symbols.Event.TheVariants.{Took, Held}
use Rattle.grammars.specs.declared.symbols.Token.{Token}
use Rattle.grammars.specs.Grammar.{Grammar, next, Writes, at_end, at_word, at_leaf, at_rule}
use Rattle.grammars.specs.Right.{Tables, empties, begins, goes_on, extends, Fits, lead, IsRightAt, IsRight}
use Rattle.grammars.specs.Moving.{Moves, Refuses, Takes}

-- ---- one list of symbols behind another

pub or_left : (a b : Bool) → a ≡ true → a || b ≡ true
or_left a b h = rw h refl

pub or_right : (a b : Bool) → b ≡ true → a || b ≡ true
or_right true b h = refl
or_right false b h = h

pub either : (a b : Bool) → a || b ≡ true → (a ≡ true) ⊎ (b ≡ true)
either true b h = inl refl
either false b h = inr h

pub both : (a b : Bool) → a && b ≡ true → (a ≡ true) × (b ≡ true)
both true b h = (refl, h)
both false b h = absurd cc

pub both_true : (a b : Bool) → a ≡ true → b ≡ true → a && b ≡ true
both_true a b p q = rw (p, q) refl

-- a class that begins nothing
unless : (b : Bool) → b ≡ true → b ≡ false → ⊥
unless true p q = cc
unless false p q = cc

module _ (g : Grammar) (k : Tables) where
  empties_append : (α st : List Symbol) → empties k (α ++ st) ≡ (empties k α && empties k st)
  empties_append [] st = refl
  empties_append (Word d ∷ α) st = refl
  empties_append (Leaf d ∷ α) st = refl
  empties_append (Rule r ∷ α) st = grind (arith, empties_append α st)

  begins_append : (c : ℕ) (α st : List Symbol) → begins k c (α ++ st) ≡ (begins k c α || (empties k α && begins k c st))
  begins_append c [] st = refl
  begins_append c (Word d ∷ α) st = grind arith
  begins_append c (Leaf d ∷ α) st = grind arith
  begins_append c (Rule r ∷ α) st = grind (arith, begins_append c α st)

  -- a class that begins an alternative begins its rule
  begins_rule : (right : IsRight g k) (c r i : ℕ) (α st : List Symbol) → g.symbols r i ≡ Some α → begins k c (α ++ st) ≡ true → begins k c (Rule r ∷ st) ≡ true
  begins_rule right c r i α st e h =
      let a = right.at r i α e in
      elim (either _ _ (sym (begins_append c α st) ∙ h)) [
        | inl x ↦ or_left (k.first r c) (k.null r && begins k c st) (a.first c x)
        | inr x ↦ let p = both (empties k α) (begins k c st) x in or_right (k.first r c) (k.null r && begins k c st) (both_true (k.null r) (begins k c st) (a.null p.0) p.1)
      ]

  -- the first token of what is written begins it
  pub writes_begins : IsRight g k → {st : List Symbol} {es : List Event} {ts : List Token} → Writes g st es ts → (t : Token) (us : List Token) → ts ≡ t ∷ us → begins k t.class st ≡ true
  writes_begins right at_end t us e = absurd cc
  writes_begins right (at_word st es ts u w) t us e = let i : u ≡ t = cc in rw i (grind arith)
  writes_begins right (at_leaf st es ts u w) t us e = let i : u ≡ t = cc in rw i (grind arith)
  writes_begins right (at_rule st es ts r i α s w) t us e = begins_rule right t.class r i α st s (writes_begins right w t us e)

  pub writes_empties : IsRight g k → {st : List Symbol} {es : List Event} {ts : List Token} → Writes g st es ts → ts ≡ [] → empties k st ≡ true
  writes_empties right at_end e = refl
  writes_empties right (at_word st es ts u w) e = absurd cc
  writes_empties right (at_leaf st es ts u w) e = absurd cc
  writes_empties right (at_rule st es ts r i α s w) e =
      let p = both _ _ (sym (empties_append α st) ∙ writes_empties right w e) in
      both_true (k.null r) (empties k st) ((right.at r i α s).null p.0) p.1

  -- the next token tells the alternative
  pub predicts : (right : IsRight g k) (r i : ℕ) (α st : List Symbol) (es : List Event) (ts : List Token) → Fits k (Rule r ∷ st) → g.symbols r i ≡ Some α → Writes g (α ++ st) es ts → g.choose r (next ts) ≡ Some i
  predicts right r i α st es [] fits e w = let p = both _ _ (sym (empties_append α st) ∙ writes_empties right w refl) in (right.at r i α e).over p.0
  predicts right r i α st es (t ∷ ts) fits e w =
      let a = right.at r i α e in
      elim (either _ _ (sym (begins_append t.class α st) ∙ writes_begins right w t ts refl)) [
        | inl x ↦ a.chosen t.class x
        | inr x ↦
            let p = both (empties k α) (begins k t.class st) x in
            a.default p.0 t.class (other (k.first r t.class) refl a p)
      ]
    where
      other : (b : Bool) → k.first r t.class ≡ b → IsRightAt g k r i α → (empties k α ≡ true) × (begins k t.class st ≡ true) → k.first r t.class ≡ false
      other true h a p = absurd (unless (begins k t.class st) p.1 (fits.0 t.class (a.opens p.0 t.class h)))
      other false h a p = h

  -- ---- what stands behind a rule stands behind its alternative

  begins_none : (c : ℕ) (α st : List Symbol) → begins k c α ≡ false → (empties k α ≡ true → begins k c st ≡ false) → begins k c (α ++ st) ≡ false
  begins_none c α st h i = begins_append c α st ∙ by (begins k c α) (empties k α) (begins k c st) h i
    where
      by : (a e b : Bool) → a ≡ false → (e ≡ true → b ≡ false) → a || (e && b) ≡ false
      by a true b h i = rw (h, i refl) refl
      by a false b h i = rw h refl

  fits_append : (α st : List Symbol) → Fits k α → ((c : ℕ) → extends k c α ≡ true → begins k c st ≡ false) → Fits k st → Fits k (α ++ st)
  fits_append [] st h i f = f
  fits_append (s ∷ α) st h i f = (
    λ c m. begins_none c α st (h.0 c m) (λ e. i c (or_left (empties k α && goes_on k c s) (extends k c α) (both_true (empties k α) (goes_on k c s) e m))),
    fits_append α st h.1 (λ c m. i c (or_right (empties k α && goes_on k c s) (extends k c α) m)) f,
  )

  pub fits_rule : (right : IsRight g k) (r i : ℕ) (α st : List Symbol) → g.symbols r i ≡ Some α → Fits k (Rule r ∷ st) → Fits k (α ++ st)
  fits_rule right r i α st e fits = let a = right.at r i α e in fits_append α st a.fits (λ c m. fits.0 c (a.more c m)) fits.1

  -- ---- rules at the front

  lead_append : (α st : List Symbol) → lead k (α ++ st) ≡ lead k α + (if empties k α then lead k st else 0)
  lead_append [] st = omega arith
  lead_append (Word d ∷ α) st = refl
  lead_append (Leaf d ∷ α) st = refl
  lead_append (Rule r ∷ α) st = by (k.null r) (empties k α) (lead_append α st)
    where
      by : (n e : Bool) → lead k (α ++ st) ≡ lead k α + (if e then lead k st else 0)
          → k.height r + (if n then lead k (α ++ st) else 0) ≡ (k.height r + (if n then lead k α else 0)) + (if n && e then lead k st else 0)
      by true true h = omega (arith, h)
      by true false h = omega (arith, h)
      by false e h = omega arith

  pub lead_rule : (right : IsRight g k) (r i : ℕ) (α st : List Symbol) → g.symbols r i ≡ Some α → suc (lead k (α ++ st)) ≤ lead k (Rule r ∷ st)
  lead_rule right r i α st e = let a = right.at r i α e in rw (lead_append α st) (by (empties k α) (k.null r) a.null a.height)
    where
      by : (e n : Bool) → (e ≡ true → n ≡ true) → suc (lead k α) ≤ k.height r → suc (lead k α + (if e then lead k st else 0)) ≤ k.height r + (if n then lead k st else 0)
      by true true i h = omega (arith, h)
      by true false i h = let x = i refl in absurd cc
      by false n i h = omega (arith, h)

  -- ---- one reading

  same_alternative : (α β : List Symbol) (r i j : ℕ) → i ≡ j → g.symbols r i ≡ Some α → g.symbols r j ≡ Some β → α ≡ β
  same_alternative α β r i j e p q = let x : Some α ≡ Some β = sym p ∙ ap (g.symbols r) e ∙ q in cc

  pub from_end : {es : List Event} {ts : List Token} → Writes g [] es ts → (es ≡ []) × (ts ≡ [])
  from_end at_end = (refl, refl)

  pub from_word : {d : ℕ} {st : List Symbol} {es : List Event} {t : Token} {ts : List Token} → Writes g (Word d ∷ st) es (t ∷ ts) → (d ≡ t.class) × Writes g st es ts
  from_word (at_word st es ts t w) = (refl, w)

  pub from_leaf : {d : ℕ} {st : List Symbol} {es : List Event} {t : Token} {ts : List Token} → Writes g (Leaf d ∷ st) es (t ∷ ts) → (d ≡ t.class) × ((fs : List Event) × (es ≡ Held t.at ∷ fs) × Writes g st fs ts)
  from_leaf (at_leaf st es ts t w) = (refl, (es, refl, w))

  pub from_rule : {r : ℕ} {st : List Symbol} {es : List Event} {ts : List Token} → Writes g (Rule r ∷ st) es ts
      → (i : ℕ) × (α : List Symbol) × (fs : List Event) × (g.symbols r i ≡ Some α) × (es ≡ Took i ∷ fs) × Writes g (α ++ st) fs ts
  from_rule (at_rule st es ts r i α s w) = (i, α, es, s, refl, w)

  pub none_word : {d : ℕ} {st : List Symbol} {es : List Event} → Writes g (Word d ∷ st) es [] → ⊥
  none_word w = elim w [ ]

  pub none_leaf : {d : ℕ} {st : List Symbol} {es : List Event} → Writes g (Leaf d ∷ st) es [] → ⊥
  none_leaf w = elim w [ ]

  pub one : IsRight g k → {st : List Symbol} {es : List Event} {ts : List Token} → Writes g st es ts → (fs : List Event) → Fits k st → Writes g st fs ts → es ≡ fs
  one right at_end fs fits v = sym (from_end v).0
  one right (at_word st es ts t w) fs fits v = one right w fs fits.1 (from_word v).1
  one right (at_leaf st es ts t w) fs fits v = let x = (from_leaf v).1 in ap (λ (ys : List Event). Held t.at ∷ ys) (one right w x.0 fits.1 x.2) ∙ sym x.1
  one right (at_rule st es ts r i α s w) fs fits v =
      let x = from_rule v in
      let same : i ≡ x.0 = let y = sym (predicts right r i α st es ts fits s w) ∙ predicts right r x.0 x.1 st x.2 ts fits x.3 x.5 in cc in
      let alike = same_alternative α x.1 r i x.0 same s x.3 in
      let rest = one right w x.2 (fits_rule right r i α st s fits) (subst (λ β. Writes g (β ++ st) x.2 ts) (sym alike) x.5) in
      ap (λ (j : ℕ). Took j ∷ es) same ∙ ap (λ (ys : List Event). Took x.0 ∷ ys) rest ∙ sym x.4

  -- ---- moves

  -- a rule becomes the alternative that the next token tells
  pub moves_rule : (right : IsRight g k) (n : Option ℕ) (old : List Symbol) (read : List Event) (r i : ℕ) (α st : List Symbol)
      → Moves g k n old read (Rule r ∷ st) → g.choose r n ≡ Some i → g.symbols r i ≡ Some α → Moves g k n old (read ++ Took i ∷ []) (α ++ st)
  moves_rule right n old read r i α st m c s = record {
    sound = λ es ts e w. subst (λ ys. Writes g old ys ts) (sym (append_assoc read (Took i ∷ []) es)) (m.sound (Took i ∷ es) ts e (at_rule st es ts r i α s w));
    only = λ es ts e w.
        let x = m.only es ts e w in
        let y = from_rule x.2 in
        let told = sym (predicts right r y.0 y.1 st y.2 ts m.fits y.3 y.5) ∙ ap (g.choose r) e ∙ c in
        let same : y.0 ≡ i = cc in
        let alike = same_alternative y.1 α r y.0 i same y.3 s in
        (y.2, x.1 ∙ ap (λ (ys : List Event). read ++ ys) (y.4 ∙ ap (λ (j : ℕ). Took j ∷ y.2) same) ∙ sym (append_assoc read (Took i ∷ []) y.2), subst (λ β. Writes g (β ++ st) y.2 ts) alike y.5);
    fits = fits_rule right r i α st s m.fits;
  }

  -- the next token tells none
  pub refuses_choice : (right : IsRight g k) (n : Option ℕ) (old : List Symbol) (read : List Event) (r : ℕ) (st : List Symbol) → Moves g k n old read (Rule r ∷ st) → g.choose r n ≡ None → Refuses g n old
  refuses_choice right n old read r st m c es ts e w =
      let x = m.only es ts e w in
      let y = from_rule x.2 in
      let told = sym (predicts right r y.0 y.1 st y.2 ts m.fits y.3 y.5) ∙ ap (g.choose r) e ∙ c in
      absurd cc

  pub refuses_symbols : (right : IsRight g k) (n : Option ℕ) (old : List Symbol) (read : List Event) (r i : ℕ) (st : List Symbol) → Moves g k n old read (Rule r ∷ st) → g.choose r n ≡ Some i → g.symbols r i ≡ None → Refuses g n old
  refuses_symbols right n old read r i st m c s es ts e w =
      let x = m.only es ts e w in
      let y = from_rule x.2 in
      let told = sym (predicts right r y.0 y.1 st y.2 ts m.fits y.3 y.5) ∙ ap (g.choose r) e ∙ c in
      let same : y.0 ≡ i = cc in
      let none = sym y.3 ∙ ap (g.symbols r) same ∙ s in
      absurd cc

  pub takes_word : (t : Token) (old : List Symbol) (read : List Event) (st : List Symbol) (d : ℕ) → Moves g k (Some t.class) old read (Word d ∷ st) → d ≡ t.class → Takes g k t old read st
  takes_word t old read st d m is = record {
    sound = λ es ts w. m.sound es (t ∷ ts) refl (subst (λ c. Writes g (Word c ∷ st) es (t ∷ ts)) (sym is) (at_word st es ts t w));
    only = λ es ts w. let x = m.only es (t ∷ ts) refl w in (x.0, x.1, (from_word x.2).1);
    fits = m.fits.1;
  }

  pub takes_leaf : (t : Token) (old : List Symbol) (read : List Event) (st : List Symbol) (d : ℕ) → Moves g k (Some t.class) old read (Leaf d ∷ st) → d ≡ t.class → Takes g k t old (read ++ Held t.at ∷ []) st
  takes_leaf t old read st d m is = record {
    sound = λ es ts w. subst (λ ys. Writes g old ys (t ∷ ts)) (sym (append_assoc read (Held t.at ∷ []) es)) (m.sound (Held t.at ∷ es) (t ∷ ts) refl (subst (λ c. Writes g (Leaf c ∷ st) (Held t.at ∷ es) (t ∷ ts)) (sym is) (at_leaf st es ts t w)));
    only = λ es ts w.
        let x = m.only es (t ∷ ts) refl w in
        let y = (from_leaf x.2).1 in
        (y.0, x.1 ∙ ap (λ (ys : List Event). read ++ ys) y.1 ∙ sym (append_assoc read (Held t.at ∷ []) y.0), y.2);
    fits = m.fits.1;
  }

  -- a token that is not the one that stands next
  pub refuses_word : (t : Token) (old : List Symbol) (read : List Event) (st : List Symbol) (d : ℕ) → Moves g k (Some t.class) old read (Word d ∷ st) → (d ≡ t.class → ⊥) → (es : List Event) (ts : List Token) → Writes g old es (t ∷ ts) → ⊥
  refuses_word t old read st d m is es ts w = is (from_word (m.only es (t ∷ ts) refl w).2).0

  pub refuses_leaf : (t : Token) (old : List Symbol) (read : List Event) (st : List Symbol) (d : ℕ) → Moves g k (Some t.class) old read (Leaf d ∷ st) → (d ≡ t.class → ⊥) → (es : List Event) (ts : List Token) → Writes g old es (t ∷ ts) → ⊥
  refuses_leaf t old read st d m is es ts w = is (from_leaf (m.only es (t ∷ ts) refl w).2).0
