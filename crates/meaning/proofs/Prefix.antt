-- The trace of the first of a list of choices is the first part of the list's trace.
use Rattle.std.proofs.Common.{◌≡◌, ℕ, Bool, List, [], ◌∷◌, ◌++◌, Option, Some, None, refl, ap, ◌∙◌, append_assoc}
use Rattle.std.specs.Prelude.{map, slice_get}
use Rattle.meaning.specs.Terms.{Term, silent}
use Rattle.meaning.specs.Machine.{Action, Holds, Applies, Row, Edge, Block, Item, Entered, Event, State, read, reads, effect, apply, shows, straight, arrive, move, follow, take_edge, jump, go_on, run, first, trace}

abbrev pub Grows : List Item → List Item → Type 0
Grows a b = (more : List Item) × (b ≡ a ++ more)

append_none : (a : List Item) → a ≡ a ++ []
append_none [] = refl
append_none (x ∷ a) = ap (λ (l : List Item). x ∷ l) (append_none a)

stays : (a : List Item) → Grows a a
stays a = ([], append_none a)

goes_on : (a b c : List Item) → Grows a b → Grows b c → Grows a c
goes_on a b c g h = (g.0 ++ h.0, h.1 ∙ ap (λ (l : List Item). l ++ h.0) g.1 ∙ append_assoc a g.0 h.0)

module _ (V : Type 0) (same : V → V → Bool) where
  effect_grows : (s : State V) (v : V) (event : Item) (x : Option Term) → Grows s.shown (effect V same s v event x).shown
  effect_grows s v event (Some t) = stays s.shown
  effect_grows s v event None = (_, refl)

  apply_grows : (s : State V) (v : V) (a : Action V) → Grows s.shown (apply V same s v a).shown
  apply_grows s v (Holds t) = stays s.shown
  apply_grows s v (Applies o ty tys os) =
      effect_grows (reads V same s (map (read s.env) os)) v (Event o ty tys (map (read s.env) os)) (silent o ty (map (read s.env) os))

  straight_grows : (s : State V) (rs : List (Row V)) → Grows s.shown (straight V same s rs).shown
  straight_grows s [] = stays s.shown
  straight_grows s (r ∷ rs) =
      goes_on s.shown (apply V same s r.result r.action).shown _ (apply_grows s r.result r.action) (straight_grows (apply V same s r.result r.action) rs)

  arrive_grows : (s : State V) (b : ℕ) (rs : List (Row V)) → Grows s.shown (arrive V same s b rs).shown
  arrive_grows s b rs =
      goes_on s.shown (s.shown ++ Entered b ∷ []) _ (_, refl) (straight_grows (shows V same (record s { block = b }) (Entered b)) rs)

  abbrev Onward : State V → Option (State V) → Type 0
  Onward s None = Unit {0}
  Onward s (Some t) = Grows s.shown t.shown

  take_onward : (code : List (Block V)) (s : State V) (e : Option (Edge V)) → Onward s (take_edge V same code s e)
  take_onward code s None = tt
  take_onward code s (Some e) = go (slice_get code e.to)
    where
      go : (b : Option (Block V)) → Onward s (follow V same s e b)
      go None = tt
      go (Some b) = arrive_grows (move V same s e.moves) e.to b.rows

  on_grows : (f : State V → State V) → ((t : State V) → Grows t.shown (f t).shown) → (s : State V) (x : Option (State V)) → Onward s x → Grows s.shown (go_on V same s f x).shown
  on_grows f h s None k = stays s.shown
  on_grows f h s (Some t) k = goes_on s.shown t.shown _ k (h t)

  run_grows : (code : List (Block V)) (cs : List ℕ) (s : State V) → Grows s.shown (run V same code cs s).shown
  run_grows code [] s = stays s.shown
  run_grows code (c ∷ cs) s = on_grows (run V same code cs) (run_grows code cs) s (jump V same code s c) (take_onward code s _)

  on_both : (f g : State V → State V) → ((t : State V) → Grows (f t).shown (g t).shown) → (s : State V) (x : Option (State V)) → Grows (go_on V same s f x).shown (go_on V same s g x).shown
  on_both f g h s None = stays s.shown
  on_both f g h s (Some t) = h t

  run_front : (code : List (Block V)) (cs ds : List ℕ) (s : State V) → Grows (run V same code cs s).shown (run V same code (cs ++ ds) s).shown
  run_front code [] ds s = run_grows code ds s
  run_front code (c ∷ cs) ds s = on_both (run V same code cs) (run V same code (cs ++ ds)) (run_front code cs ds) s (jump V same code s c)

  pub trace_front : (start : V → Term) (code : List (Block V)) (cs ds : List ℕ) → Grows (trace V same start code cs) (trace V same start code (cs ++ ds))
  trace_front start code cs ds = run_front code cs ds (first V same start code)
