-- A run of the dialect follows a run of LLVM: what actions and moves that stand for one another keep, as far as
-- the constants that they read are known to be set.
use Rattle.std.proofs.Common.{◌≡◌, ◌∙◌, ℕ, suc, Bool, true, false, true≢false, if◌then◌else◌, List, [], ◌∷◌, Option, Some, None, option_map, map, refl, sym, ap, subst}
use Rattle.std.proofs.lemmas.Bool.{cond-false, false_from_ne_true}
use Rattle.std.proofs.lemmas.Bool.Decides.{same_from_decides}
use Rattle.std.proofs.lemmas.List.{map-append}
use Rattle.dialect_core.specs.declared.ops.Value.{Value}
use Rattle.meaning.specs.Terms.{Term, Answer, Match, silent, rename}
use Rattle.meaning.specs.Machine.{Operand, At, Fixed, Action, Holds, Applies, Item, Event, State, read, read_move, set, reads, effect, apply, moved}
use Rattle.meaning.specs.Pairs.{Matched, BothOrNone}
use Rattle.meaning.specs.Code.{under}
use Rattle.meaning.specs.Llvm.{Key, same_key}
use Rattle.meaning.specs.Dialect.{same_value}
use Rattle.meaning.specs.Shape.{Plan, IsPlan, among, term_among, operands_of, StandsFor, SameAction, SameMove}
use Rattle.meaning.proofs.Naming.{rename-silent}
use Rattle.meaning.proofs.SameValues.{same_key-Decides, same_value-Decides}

-- Values have the terms of what they stand for, and constants those that the plan gives them, as far as they
-- are known to be set: `known` says so of a value that has a term.
pub record Agree (match : Match) (plan : Plan) (known : Value → Term → Bool) (e : Key → Term) (d : Value → Term) : Type 0 where
  pub values : (k : Key) (w : Value) → plan.value k ≡ Some w → rename match (e k) ≡ d w
  pub hoisted : (w : Value) → among plan.hoisted w ≡ true → known w (d w) ≡ true → term_among plan.hoisted w ≡ d w

-- a state of the dialect stands to one of LLVM, in the body of that name
pub record Follows (match : Match) (plan : Plan) (known : Value → Term → Bool) (name : List ℕ) (s : State Key) (t : State Value) : Type 0 where
  pub block : match.block name s.block ≡ t.block
  pub env : Agree match plan known s.env t.env
  pub count : s.count ≡ t.count
  pub shown : map (under match name) s.shown ≡ t.shown

renamed_if : (match : Match) (b : Bool) (t e : Term) (u d : Term) → rename match t ≡ u → rename match e ≡ d → rename match (if b then t else e) ≡ (if b then u else d)
renamed_if match true t e u d p q = p
renamed_if match false t e u d p q = q

-- ---- constants that are known to be set

abbrev pub IsKnown : Plan → (Value → Term → Bool) → (Value → Term) → Operand Value → Type 0
IsKnown plan known d (At w) = among plan.hoisted w ≡ true → known w (d w) ≡ true
IsKnown plan known d (Fixed t) = Unit {0}

abbrev pub AreKnown : Plan → (Value → Term → Bool) → (Value → Term) → List (Operand Value) → Type 0
AreKnown plan known d [] = Unit {0}
AreKnown plan known d (o ∷ os) = IsKnown plan known d o × AreKnown plan known d os

abbrev pub IsKnownMove : Plan → (Value → Term → Bool) → (Value → Term) → Option (Operand Value) → Type 0
IsKnownMove plan known d None = Unit {0}
IsKnownMove plan known d (Some o) = IsKnown plan known d o

abbrev pub AreKnownMoves : Plan → (Value → Term → Bool) → (Value → Term) → List (Value × Option (Operand Value)) → Type 0
AreKnownMoves plan known d [] = Unit {0}
AreKnownMoves plan known d (n ∷ ns) = IsKnownMove plan known d n.1 × AreKnownMoves plan known d ns

module _ (match : Match) (plan : Plan) (is_plan : IsPlan plan) where
  -- values that stand for two keys are one exactly where the keys are
  same_tests : (j k : Key) (v w : Value) → plan.value j ≡ Some v → plan.value k ≡ Some w → same_key j k ≡ same_value v w
  same_tests j k v w p q =
      let d = same_value-Decides v w in
      same_from_decides (same_key j k) (same_value v w) (same_key-Decides j k) (
        λ e. is_plan.one_to_one j k w (p ∙ ap Some (d.0 e)) q,
        λ e. d.1 (let x : Some v ≡ Some w = sym p ∙ ap plan.value e ∙ q in cc x),
      )

  pub not_hoisted : (k : Key) (v w : Value) → plan.value k ≡ Some v → among plan.hoisted w ≡ true → same_value v w ≡ false
  not_hoisted k v w p m = false_from_ne_true (same_value v w) λ e. true≢false (sym m ∙ ap (among plan.hoisted) (sym ((same_value-Decides v w).0 e)) ∙ is_plan.apart k v p)

  pub not_value : (k : Key) (v w : Value) → plan.value k ≡ Some v → among plan.hoisted w ≡ true → same_value w v ≡ false
  not_value k v w p m = false_from_ne_true (same_value w v) λ e. true≢false (sym m ∙ ap (among plan.hoisted) ((same_value-Decides w v).0 e) ∙ is_plan.apart k v p)

  -- a constant is set to its term: it is known from then on, and what was known before still is
  module _ (known known' : Value → Term → Bool) where
    constant_or : (w v : Value) (u x : Term) (b : Bool) → same_value w v ≡ b → term_among plan.hoisted w ≡ u → (b ≡ false → known' v x ≡ true → term_among plan.hoisted v ≡ x) → known' v (if b then u else x) ≡ true → term_among plan.hoisted v ≡ (if b then u else x)
    constant_or w v u x true e q h n = ap (term_among plan.hoisted) (sym ((same_value-Decides w v).0 e)) ∙ q
    constant_or w v u x false e q h n = h refl n

    pub constant_agrees : (e : Key → Term) (d : Value → Term) (w : Value) (u : Term) → ((v : Value) (x : Term) → same_value w v ≡ false → known' v x ≡ true → known v x ≡ true) → Agree match plan known e d → among plan.hoisted w ≡ true → term_among plan.hoisted w ≡ u → Agree match plan known' e (set Value same_value d w u)
    constant_agrees e d w u less a m q = record {
      values = λ k v p. a.values k v p ∙ sym (cond-false (same_value w v) u (d v) (not_value k v w p m));
      hoisted = λ v m' n. constant_or w v u (d v) (same_value w v) refl q (λ f n'. a.hoisted v m' (less v (d v) f n')) n;
    }

    -- what is known less of
    pub less_agrees : (e : Key → Term) (d : Value → Term) → ((w : Value) → among plan.hoisted w ≡ true → known' w (d w) ≡ true → known w (d w) ≡ true) → Agree match plan known e d → Agree match plan known' e d
    less_agrees e d less a = record { values = a.values; hoisted = λ w m n. a.hoisted w m (less w m n) }

  module _ (known : Value → Term → Bool) where
    abbrev Agrees : (Key → Term) → (Value → Term) → Type 0
    Agrees = Agree match plan known

    -- ---- terms set on both sides

    pub set_agrees : (e : Key → Term) (d : Value → Term) (k : Key) (w : Value) (t u : Term) → Agrees e d → plan.value k ≡ Some w → rename match t ≡ u → Agrees (set Key same_key e k t) (set Value same_value d w u)
    set_agrees e d k w t u a p q = record {
      values =
          λ j v r.
          subst (λ (b : Bool). rename match (if b then t else e j) ≡ (if same_value w v then u else d v)) (sym (same_tests k j w v p r)) (renamed_if match (same_value w v) t (e j) u (d v) q (a.values j v r));
      hoisted =
          λ v m n.
          let stays = cond-false (same_value w v) u (d v) (not_hoisted k w v p m) in
          a.hoisted v m (subst (λ (x : Term). known v x ≡ true) stays n) ∙ sym stays;
    }

    -- ---- terms read on both sides

    operand_agrees : (e : Key → Term) (d : Value → Term) → Agrees e d → (o : Operand Key) (p : Operand Value) → StandsFor match plan o p → IsKnown plan known d p → rename match (read e o) ≡ read d p
    operand_agrees e d a (At k) (At w) h n = a.values k w h
    operand_agrees e d a (At k) (Fixed u) h n = absurd h
    operand_agrees e d a (Fixed t) (At w) h n = h.1 ∙ a.hoisted w h.0 (n h.0)
    operand_agrees e d a (Fixed t) (Fixed u) h n = h

    operands_agree : (e : Key → Term) (d : Value → Term) → Agrees e d → (os : List (Operand Key)) (ps : List (Operand Value)) → Matched (StandsFor match plan) os ps → AreKnown plan known d ps → map (rename match) (map (read e) os) ≡ map (read d) ps
    operands_agree e d a [] [] h n = refl
    operands_agree e d a [] (p ∷ ps) h n = absurd h
    operands_agree e d a (o ∷ os) [] h n = absurd h
    operands_agree e d a (o ∷ os) (p ∷ ps) h n = cc (operand_agrees e d a o p h.0 n.0, operands_agree e d a os ps h.1 n.1)

    move_agrees : (e : Key → Term) (d : Value → Term) → Agrees e d → (o : Option (Operand Key)) (p : Option (Operand Value)) → BothOrNone (StandsFor match plan) o p → IsKnownMove plan known d p → rename match (read_move e o) ≡ read_move d p
    move_agrees e d a None None h n = refl
    move_agrees e d a None (Some p) h n = absurd h
    move_agrees e d a (Some o) None h n = absurd h
    move_agrees e d a (Some o) (Some p) h n = operand_agrees e d a o p h n

    -- the moves of an edge, all read in the terms before it
    pub moved_agrees : (ms : List (Key × Option (Operand Key))) (ns : List (Value × Option (Operand Value))) → Matched (SameMove match plan) ms ns → (e0 : Key → Term) (d0 : Value → Term) → Agrees e0 d0 → AreKnownMoves plan known d0 ns → (e : Key → Term) (d : Value → Term) → Agrees e d → Agrees (moved Key same_key e0 e ms) (moved Value same_value d0 d ns)
    moved_agrees [] [] h e0 d0 a0 n e d a = a
    moved_agrees [] (q ∷ qs) h e0 d0 a0 n e d a = absurd h
    moved_agrees (m ∷ ms) [] h e0 d0 a0 n e d a = absurd h
    moved_agrees (m ∷ ms) (q ∷ qs) h e0 d0 a0 n e d a = moved_agrees ms qs h.1 e0 d0 a0 n.1 _ _ (set_agrees e d m.0 q.0 _ _ a h.0.target (move_agrees e0 d0 a0 m.1 q.1 h.0.source n.0))

    -- ---- rows

    module _ (name : List ℕ) where
      -- as `Follows`, in this body
      abbrev Tracks : State Key → State Value → Type 0
      Tracks = Follows match plan known name

      effect_follows : (s : State Key) (t : State Value) (k : Key) (w : Value) (i j : Item) (x : Option Term) → Tracks s t → plan.value k ≡ Some w → under match name i ≡ j → Tracks (effect Key same_key s k i x) (effect Value same_value t w j (option_map (rename match) x))
      effect_follows s t k w i j (Some x) f p h = record { block = f.block; env = set_agrees s.env t.env k w x (rename match x) f.env p refl; count = f.count; shown = f.shown }
      effect_follows s t k w i j None f p h = record {
        block = f.block;
        env = set_agrees s.env t.env k w (Answer s.count) (Answer t.count) f.env p (ap Answer f.count);
        count = ap suc f.count;
        shown = map-append (under match name) s.shown (i ∷ []) ∙ cc (f.shown, h);
      }

      reads_follow : (s : State Key) (t : State Value) (ts us : List Term) → Tracks s t → Tracks (reads Key same_key s ts) (reads Value same_value t us)
      reads_follow s t ts us f = record { block = f.block; env = f.env; count = f.count; shown = f.shown }

      -- where the constants that it reads are known to be set
      pub action_follows : (s : State Key) (t : State Value) (k : Key) (w : Value) (a : Action Key) (b : Action Value) → Tracks s t → plan.value k ≡ Some w → SameAction match plan a b → AreKnown plan known t.env (operands_of b) → Tracks (apply Key same_key s k a) (apply Value same_value t w b)
      action_follows s t k w (Applies o ty tys os) (Applies p uy uys ps) f r h n =
          let ts : List Term = map (read s.env) os in
          let us : List Term = map (read t.env) ps in
          let same : map (rename match) ts ≡ us = operands_agree s.env t.env f.env os ps h.3 n in
          let event : under match name (Event o ty tys ts) ≡ Event p uy uys us = cc (h.0, h.1, h.2, same) in
          let made : option_map (rename match) (silent o ty ts) ≡ silent p uy us = rename-silent match o ty ts ∙ cc (h.0, h.1, same) in
          let g = reads_follow s t ts us f in
          subst
          (λ (x : Option Term). Tracks (apply Key same_key s k (Applies o ty tys os)) (effect Value same_value (reads Value same_value t us) w (Event p uy uys us) x))
          made
          (effect_follows _ _ k w (Event o ty tys ts) (Event p uy uys us) (silent o ty ts) g r event)
      action_follows s t k w (Applies o ty tys os) (Holds u) f r h n = absurd h
      action_follows s t k w (Holds t') (Applies p uy uys ps) f r h n = absurd h
      action_follows s t k w (Holds t') (Holds u) f r h n = absurd h
