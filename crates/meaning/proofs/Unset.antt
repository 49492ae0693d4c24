-- A run that has read an unset value has read one from then on.
use Rattle.std.proofs.Common.{◌≡◌, ◌∙◌, ℕ, Bool, true, List, [], ◌∷◌, Option, Some, None, map, slice_get, refl}
use Rattle.std.proofs.lemmas.Bool.{or_left}
use Rattle.meaning.specs.Terms.{Term}
use Rattle.meaning.specs.Machine.{Action, Holds, Applies, Row, Edge, Block, Item, State, read, reads, effect, apply, straight, follow, take_edge, edge_of, jump, go_on, run}

module _ (V : Type 0) (same : V → V → Bool) where
  pub effect_unset : (s : State V) (v : V) (event : Item) (x : Option Term) → (effect V same s v event x).unset ≡ s.unset
  effect_unset s v event (Some t) = refl
  effect_unset s v event None = refl

  pub apply_unset : (s : State V) (v : V) (a : Action V) → s.unset ≡ true → (apply V same s v a).unset ≡ true
  apply_unset s v (Holds t) u = u
  apply_unset s v (Applies o ty tys os) u = effect_unset (reads V same s (map (read s.env) os)) v _ _ ∙ or_left s.unset _ u

  pub straight_unset : (s : State V) (rs : List (Row V)) → s.unset ≡ true → (straight V same s rs).unset ≡ true
  straight_unset s [] u = u
  straight_unset s (r ∷ rs) u = straight_unset (apply V same s r.result r.action) rs (apply_unset s r.result r.action u)

  -- of the state behind a jump, where there is one
  abbrev Has : Option (State V) → Type 0
  Has None = Unit {0}
  Has (Some t) = t.unset ≡ true

  follow_unset : (s : State V) (e : Edge V) (b : Option (Block V)) → s.unset ≡ true → Has (follow V same s e b)
  follow_unset s e None u = tt
  follow_unset s e (Some b) u = straight_unset _ b.rows (or_left s.unset _ u)

  take_unset : (code : List (Block V)) (s : State V) (e : Option (Edge V)) → s.unset ≡ true → Has (take_edge V same code s e)
  take_unset code s None u = tt
  take_unset code s (Some e) u = follow_unset s e (slice_get code e.to) u

  on_unset : (next : State V → State V) → ((t : State V) → t.unset ≡ true → (next t).unset ≡ true) → (s : State V) (x : Option (State V)) → s.unset ≡ true → Has x → (go_on V same s next x).unset ≡ true
  on_unset next h s None u k = u
  on_unset next h s (Some t) u k = h t k

  pub run_unset : (code : List (Block V)) (choices : List ℕ) (s : State V) → s.unset ≡ true → (run V same code choices s).unset ≡ true
  run_unset code [] s u = u
  run_unset code (c ∷ cs) s u = on_unset (run V same code cs) (run_unset code cs) s (jump V same code s c) u (take_unset code s (edge_of V same (slice_get code s.block) c) u)
