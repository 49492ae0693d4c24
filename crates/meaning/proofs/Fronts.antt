-- Silent rows that read only what earlier ones of them set: what they set, and what they leave.
use Rattle.std.proofs.Common.{◌≡◌, ◌∙◌, Bool, true, false, ◌||◌, if◌then◌else◌, List, [], ◌∷◌, map, refl, sym, ap, ⊎_elim}
use Rattle.std.proofs.lemmas.Bool.{or_parts, cond-false, false≢true, cases_Bool}
use Rattle.kinds.specs.declared.op.Op.{Op}
use Rattle.kinds.specs.declared.rules.Family.{Family}
use Rattle.kinds.specs.declared.rules.Family.TheVariants.{Shows, Builds}
use Rattle.kinds.specs.Types.{TypeTree}
use Rattle.dialect_core.specs.declared.ops.Value.{Value}
use Rattle.meaning.specs.Terms.{Term, Unset, Expr, family, made_by, terms_of}
use Rattle.meaning.specs.Machine.{Operand, At, Fixed, Action, Holds, Applies, Row, Item, Event, State, read, set, reads, effect, apply, straight, begin}
use Rattle.meaning.specs.Dialect.{same_value}
use Rattle.meaning.specs.Shape.{IsSilent, among, AreAmong, operands_of, IsClosed, term_among}

-- ---- silent rows change the terms of values alone

-- the term that a silent action makes
abbrev pub made : (Value → Term) → Action Value → Term
made env (Holds t) = t
made env (Applies o ty tys os) = Expr o ty (terms_of (map (read env) os))

-- the terms after a silent row, and after silent rows
abbrev pub after_one : (Value → Term) → Row Value → Value → Term
after_one env r = set Value same_value env r.result (made env r.action)

abbrev pub after : (Value → Term) → List (Row Value) → Value → Term
after env [] = env
after env (r ∷ rows) = after (after_one env r) rows

-- a state that differs from another in the terms, and in whether an unset value was read
pub record Ran (s t : State Value) (terms : Value → Term) : Type 0 where
  pub block : t.block ≡ s.block
  pub count : t.count ≡ s.count
  pub shown : t.shown ≡ s.shown
  pub env : t.env ≡ terms

builds : (s : State Value) (v : Value) (event : Item) (f : Family) (o : Op) (ty : TypeTree) (ts us : List Term) → f ≡ Builds → Ran s (effect Value same_value (reads Value same_value s us) v event (made_by f o ty ts)) (set Value same_value s.env v (Expr o ty (terms_of ts)))
builds s v event Shows o ty ts us h = absurd (cc h)
builds s v event Builds o ty ts us h = record { block = refl; count = refl; shown = refl; env = refl }

applied : (s : State Value) (v : Value) (a : Action Value) → IsSilent a → Ran s (apply Value same_value s v a) (set Value same_value s.env v (made s.env a))
applied s v (Holds t) h = record { block = refl; count = refl; shown = refl; env = refl }
applied s v (Applies o ty tys os) h = let ts : List Term = map (read s.env) os in builds s v (Event o ty tys ts) (family o) o ty ts ts h

pub ran : (done rows : List (Row Value)) → IsClosed done rows → (s : State Value) → Ran s (straight Value same_value s rows) (after s.env rows)
ran done [] c s = record { block = refl; count = refl; shown = refl; env = refl }
ran done (r ∷ rows) c s =
    let one = applied s r.result r.action c.0 in
    let rest = ran (r ∷ done) rows c.2 (apply Value same_value s r.result r.action) in
    record {
      block = rest.block ∙ one.block;
      count = rest.count ∙ one.count;
      shown = rest.shown ∙ one.shown;
      env = rest.env ∙ ap (λ (e : Value → Term). after e rows) one.env;
    }

-- ---- what they leave, and what they set

pub others : (rows : List (Row Value)) (e : Value → Term) (w : Value) → among rows w ≡ false → after e rows w ≡ e w
others [] e w h = refl
others (r ∷ rows) e w h = let p = or_parts (same_value r.result w) (among rows w) h in others rows _ w p.1 ∙ cond-false (same_value r.result w) (made e r.action) (e w) p.0

-- the same terms of what is set so far
abbrev Alike : List (Row Value) → (d e : Value → Term) → Type 0
Alike done d e = (w : Value) → among done w ≡ true → d w ≡ e w

reads_alike : (done : List (Row Value)) (d e : Value → Term) → Alike done d e → (os : List (Operand Value)) → AreAmong done os → map (read d) os ≡ map (read e) os
reads_alike done d e h [] p = refl
reads_alike done d e h (At w ∷ os) p = cc (h w p.0, reads_alike done d e h os p.1)
reads_alike done d e h (Fixed t ∷ os) p = ap (λ (ts : List Term). t ∷ ts) (reads_alike done d e h os p)

made_alike : (done : List (Row Value)) (d e : Value → Term) → Alike done d e → (a : Action Value) → AreAmong done (operands_of a) → made d a ≡ made e a
made_alike done d e h (Holds t) p = refl
made_alike done d e h (Applies o ty tys os) p = ap (λ (ts : List Term). Expr o ty (terms_of ts)) (reads_alike done d e h os p)

if_alike : (b : Bool) (x y u v : Term) → x ≡ y → (b ≡ false → u ≡ v) → (if b then x else u) ≡ (if b then y else v)
if_alike true x y u v h k = h
if_alike false x y u v h k = k refl

row_alike : (done : List (Row Value)) (d e : Value → Term) → Alike done d e → (r : Row Value) → AreAmong done (operands_of r.action) → Alike (r ∷ done) (after_one d r) (after_one e r)
row_alike done d e h r p w m = if_alike (same_value r.result w) _ _ (d w) (e w) (made_alike done d e h r.action p) (λ f. h w (rw f at m))

other_part : (x y z : Bool) → (x || y) ≡ true → y ≡ false → (x || z) ≡ true
other_part true y z h k = refl
other_part false y z h k = absurd (cc (h, k))

-- whatever the terms were before, the rows set the same
set_alike : (done rows : List (Row Value)) → IsClosed done rows → (d e : Value → Term) → Alike done d e → Alike rows (after d rows) (after e rows)
set_alike done [] c d e h w m = absurd (false≢true m)
set_alike done (r ∷ rows) c d e h w m =
    let one : Alike (r ∷ done) (after_one d r) (after_one e r) = row_alike done d e h r c.1 in
    ⊎_elim
    (λ k. set_alike (r ∷ done) rows c.2 (after_one d r) (after_one e r) one w k)
    (λ k. others rows (after_one d r) w k ∙ one w (other_part (same_value r.result w) (among rows w) (among done w) m k) ∙ sym (others rows (after_one e r) w k))
    (cases_Bool (among rows w))

pub sets_term_among : (rows : List (Row Value)) → IsClosed [] rows → (e : Value → Term) (w : Value) → among rows w ≡ true → term_among rows w ≡ after e rows w
sets_term_among rows c e w m =
    let r = ran [] rows c (begin Value same_value (λ (v : Value). Unset)) in
    ap (λ (d : Value → Term). d w) r.env ∙ set_alike [] rows c (λ (v : Value). Unset) e (λ w k. absurd (false≢true k)) w m
