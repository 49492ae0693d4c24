-- Runs of two bodies whose blocks follow one another follow one another, jump by jump. Where the simulation is lax,
-- a run of the dialect that has read an unset value is excused from then on.
use Rattle.std.proofs.Common.{◌≡◌, ◌∙◌, ℕ, Bool, true, false, not, ◌&&◌, ◌||◌, ◌⊎◌, inl, inr, List, [], ◌∷◌, ◌++◌, Option, Some, None, map, slice_get, refl, subst, ⊎_elim}
use Rattle.std.specs.List.{list_any}
use Rattle.std.proofs.lemmas.Bool.{false≢true, and_parts, and_from, or_left, or_right, not_from_false}
use Rattle.std.proofs.lemmas.List.{map-append}
use Rattle.meaning.proofs.MatchedLaws.{matched_get}
use Rattle.dialect_core.specs.declared.ops.Value.{Value}
use Rattle.meaning.specs.Terms.{Term, Match, is_unset}
use Rattle.meaning.specs.Machine.{Operand, At, Fixed, Action, Holds, Applies, Row, Edge, Block, Item, Entered, State, read, read_move, reads, apply, straight, shows, move, arrive, follow, take_edge, edge_of, jump, go_on, run, first, trace, reads_unset}
use Rattle.meaning.specs.Pairs.{Matched, BothOrNone}
use Rattle.meaning.specs.Code.{under}
use Rattle.meaning.specs.Llvm.{Key, same_key}
use Rattle.meaning.specs.Dialect.{same_value}
use Rattle.meaning.specs.Shape.{Plan, IsPlan, operands_of, SameRow, SameEdge}
use Rattle.meaning.proofs.Simulation.{Follows, IsKnown, AreKnown, IsKnownMove, AreKnownMoves, moved_agrees, action_follows}
use Rattle.meaning.proofs.Unset.{effect_unset, apply_unset, straight_unset, run_unset}

-- ---- what is read is known to be set, or excused

-- where the simulation is lax a term that is unset is not known; where it is strict all are
abbrev pub known : Bool → Value → Term → Bool
known lax w t = not (lax && is_unset t)

and_or_left : (lax a b : Bool) → (lax && a) ≡ true → (lax && (a || b)) ≡ true
and_or_left lax a b h = let p = and_parts lax a h in and_from lax (a || b) p.0 (or_left a b p.1)

and_or_right : (lax a b : Bool) → (lax && b) ≡ true → (lax && (a || b)) ≡ true
and_or_right lax a b h = let p = and_parts lax b h in and_from lax (a || b) p.0 (or_right a b p.1)

and_more : (lax a b : Bool) → (a ≡ true → b ≡ true) → (lax && a) ≡ true → (lax && b) ≡ true
and_more lax a b f h = let p = and_parts lax a h in and_from lax b p.0 (f p.1)

module _ (plan : Plan) (lax : Bool) (d : Value → Term) where
  known_read : (o : Operand Value) → ((lax && is_unset (read d o)) ≡ true) ⊎ IsKnown plan (known lax) d o
  known_read (At w) = by (lax && is_unset (d w)) refl
    where
      by : (b : Bool) → (lax && is_unset (d w)) ≡ b → ((lax && is_unset (d w)) ≡ true) ⊎ IsKnown plan (known lax) d (At w)
      by true e = inl e
      by false e = inr (λ m. not_from_false (lax && is_unset (d w)) e)
  known_read (Fixed t) = inr tt

  pub known_reads : (os : List (Operand Value)) → ((lax && list_any is_unset (map (read d) os)) ≡ true) ⊎ AreKnown plan (known lax) d os
  known_reads [] = inr tt
  known_reads (o ∷ os) = ⊎_elim
      (λ u. inl (and_or_left lax (is_unset (read d o)) (list_any is_unset (map (read d) os)) u))
      (λ k. ⊎_elim (λ us. inl (and_or_right lax (is_unset (read d o)) (list_any is_unset (map (read d) os)) us)) (λ ks. inr (k, ks)) (known_reads os))
      (known_read o)

  abbrev moved_terms : List (Value × Option (Operand Value)) → List Term
  moved_terms ns = map (λ (n : Value × Option (Operand Value)). read_move d n.1) ns

  known_move : (o : Option (Operand Value)) → ((lax && is_unset (read_move d o)) ≡ true) ⊎ IsKnownMove plan (known lax) d o
  known_move None = inr tt
  known_move (Some o) = known_read o

  pub known_moves : (ns : List (Value × Option (Operand Value))) → ((lax && list_any is_unset (moved_terms ns)) ≡ true) ⊎ AreKnownMoves plan (known lax) d ns
  known_moves [] = inr tt
  known_moves (n ∷ ns) = ⊎_elim
      (λ u. inl (and_or_left lax (is_unset (read_move d n.1)) (list_any is_unset (moved_terms ns)) u))
      (λ k. ⊎_elim (λ us. inl (and_or_right lax (is_unset (read_move d n.1)) (list_any is_unset (moved_terms ns)) us)) (λ ks. inr (k, ks)) (known_moves ns))
      (known_move n.1)

module _ (match : Match) (plan : Plan) (is_plan : IsPlan plan) (name : List ℕ) (lax : Bool) where
  -- the run of the dialect has read an unset value, and that excuses it
  abbrev pub Excused : State Value → Type 0
  Excused t = (lax && t.unset) ≡ true

  -- as `Follows`, in this body
  abbrev pub Tracks : State Key → State Value → Type 0
  Tracks = Follows match plan (known lax) name

  abbrev pub Loosely : State Key → State Value → Type 0
  Loosely s t = Excused t ⊎ Tracks s t

  -- ---- rows

  pub applied : (t : State Value) (w : Value) (b : Action Value) → Excused t → Excused (apply Value same_value t w b)
  applied t w b x = and_more lax t.unset _ (apply_unset Value same_value t w b) x

  read_excused : (t : State Value) (w : Value) (b : Action Value) → (lax && list_any is_unset (map (read t.env) (operands_of b))) ≡ true → Excused (apply Value same_value t w b)
  read_excused t w (Holds u) x = absurd (false≢true (and_parts lax false x).1)
  read_excused t w (Applies o ty tys os) x = and_more lax (list_any is_unset (map (read t.env) os)) _ (λ u. effect_unset Value same_value (reads Value same_value t (map (read t.env) os)) w _ _ ∙ or_right t.unset _ u) x

  pub row_follows : (s : State Key) (t : State Value) (r : Row Key) (q : Row Value) → Loosely s t → SameRow match plan r q → Loosely (apply Key same_key s r.result r.action) (apply Value same_value t q.result q.action)
  row_follows s t r q (inl x) h = inl (applied t q.result q.action x)
  row_follows s t r q (inr f) h = ⊎_elim
      (λ x. inl (read_excused t q.result q.action x))
      (λ k. inr (action_follows match plan is_plan (known lax) name s t r.result q.result r.action q.action f h.result h.action k))
      (known_reads plan lax t.env (operands_of q.action))

  pub straight_follows : (rs : List (Row Key)) (qs : List (Row Value)) → Matched (SameRow match plan) rs qs → (s : State Key) (t : State Value) → Loosely s t → Loosely (straight Key same_key s rs) (straight Value same_value t qs)
  straight_follows [] [] h s t f = f
  straight_follows [] (q ∷ qs) h s t f = absurd h
  straight_follows (r ∷ rs) [] h s t f = absurd h
  straight_follows (r ∷ rs) (q ∷ qs) h s t f = straight_follows rs qs h.1 _ _ (row_follows s t r q f h.0)

  -- ---- edges

  pub entered : (s : List Item) (i j : ℕ) → match.block name i ≡ j → (shown : List Item) → map (under match name) s ≡ shown → map (under match name) (s ++ Entered i ∷ []) ≡ shown ++ Entered j ∷ []
  entered s i j h shown k = map-append (under match name) s (Entered i ∷ []) ∙ cc (h, k)

  move_follows : (s : State Key) (t : State Value) (e : Edge Key) (f : Edge Value) → Tracks s t → SameEdge match plan (match.block name) e f → Loosely (move Key same_key s e.moves) (move Value same_value t f.moves)
  move_follows s t e f h k = ⊎_elim
      (λ x. inl (and_or_right lax t.unset _ x))
      (λ n. inr (record {
        block = h.block;
        env = moved_agrees match plan is_plan (known lax) e.moves f.moves k.moves s.env t.env h.env n s.env t.env h.env;
        count = h.count;
        shown = h.shown;
      }))
      (known_moves plan lax t.env f.moves)

  -- ---- jumps, where blocks that stand for one another follow one another

  module _ (BlockPair : ℕ → Block Key → Block Value → Type 0) (edges : (i : ℕ) (b : Block Key) (c : Block Value) → BlockPair i b c → Matched (SameEdge match plan (match.block name)) b.edges c.edges) (rows : (i : ℕ) (b : Block Key) (c : Block Value) → BlockPair i b c → (s : State Key) (t : State Value) → Tracks s t → Loosely (straight Key same_key s b.rows) (straight Value same_value t c.rows)) where
    pub arrive_follows : (s : State Key) (t : State Value) (i j : ℕ) (b : Block Key) (c : Block Value) → Loosely s t → match.block name i ≡ j → BlockPair i b c → Loosely (arrive Key same_key s i b.rows) (arrive Value same_value t j c.rows)
    arrive_follows s t i j b c (inl x) h k = inl (and_more lax t.unset _ (straight_unset Value same_value (shows Value same_value (record t { block = j }) (Entered j)) c.rows) x)
    arrive_follows s t i j b c (inr f) h k =
        let g : Tracks (shows Key same_key (record s { block = i }) (Entered i)) (shows Value same_value (record t { block = j }) (Entered j)) = record { block = h; env = f.env; count = f.count; shown = entered s.shown i j h t.shown f.shown } in
        rows i b c k _ _ g

    module _ (source : List (Block Key)) (target : List (Block Value)) (same : (place : ℕ) → BothOrNone (BlockPair place) (slice_get source place) (slice_get target (match.block name place))) where
      pub blocks_at : (i j : ℕ) → match.block name i ≡ j → BothOrNone (BlockPair i) (slice_get source i) (slice_get target j)
      blocks_at i j h = subst (λ (n : ℕ). BothOrNone (BlockPair i) (slice_get source i) (slice_get target n)) h (same i)

      follow_follows : (s : State Key) (t : State Value) (e : Edge Key) (f : Edge Value) (x : Option (Block Key)) (y : Option (Block Value)) → Tracks s t → SameEdge match plan (match.block name) e f → BothOrNone (BlockPair e.to) x y → BothOrNone Loosely (follow Key same_key s e x) (follow Value same_value t f y)
      follow_follows s t e f None None h k p = tt
      follow_follows s t e f None (Some c) h k p = absurd p
      follow_follows s t e f (Some b) None h k p = absurd p
      follow_follows s t e f (Some b) (Some c) h k p = arrive_follows _ _ e.to f.to b c (move_follows s t e f h k) k.to p

      take_follows : (s : State Key) (t : State Value) (e : Option (Edge Key)) (f : Option (Edge Value)) → Tracks s t → BothOrNone (SameEdge match plan (match.block name)) e f → BothOrNone Loosely (take_edge Key same_key source s e) (take_edge Value same_value target t f)
      take_follows s t None None h k = tt
      take_follows s t None (Some f) h k = absurd k
      take_follows s t (Some e) None h k = absurd k
      take_follows s t (Some e) (Some f) h k = follow_follows s t e f _ _ h k (blocks_at e.to f.to k.to)

      edges_at : (i : ℕ) (x : Option (Block Key)) (y : Option (Block Value)) (choice : ℕ) → BothOrNone (BlockPair i) x y → BothOrNone (SameEdge match plan (match.block name)) (edge_of Key same_key x choice) (edge_of Value same_value y choice)
      edges_at i None None choice h = tt
      edges_at i None (Some c) choice h = absurd h
      edges_at i (Some b) None choice h = absurd h
      edges_at i (Some b) (Some c) choice h = matched_get _ b.edges c.edges choice (edges i b c h)

      jump_follows : (s : State Key) (t : State Value) (choice : ℕ) → Tracks s t → BothOrNone Loosely (jump Key same_key source s choice) (jump Value same_value target t choice)
      jump_follows s t choice f = take_follows s t _ _ f (edges_at s.block _ _ choice (blocks_at s.block t.block f.block))

      on_follows : (f : State Key → State Key) (g : State Value → State Value) → ((s : State Key) (t : State Value) → Loosely s t → Loosely (f s) (g t)) → (s : State Key) (t : State Value) → Tracks s t → (x : Option (State Key)) (y : Option (State Value)) → BothOrNone Loosely x y → Loosely (go_on Key same_key s f x) (go_on Value same_value t g y)
      on_follows f g k s t h None None p = inr h
      on_follows f g k s t h None (Some y) p = absurd p
      on_follows f g k s t h (Some x) None p = absurd p
      on_follows f g k s t h (Some x) (Some y) p = k x y p

      run_follows : (choices : List ℕ) (s : State Key) (t : State Value) → Loosely s t → Loosely (run Key same_key source choices s) (run Value same_value target choices t)
      run_follows [] s t f = f
      run_follows (c ∷ cs) s t (inl x) = inl (and_more lax t.unset _ (run_unset Value same_value target (c ∷ cs) t) x)
      run_follows (c ∷ cs) s t (inr f) = on_follows (run Key same_key source cs) (run Value same_value target cs) (run_follows cs) s t f _ _ (jump_follows s t c f)

      -- from a first state on, unless the run is excused
      pub traces_follow : (start : Key → Term) (start' : Value → Term) → Loosely (first Key same_key start source) (first Value same_value start' target) → (choices : List ℕ) → ((lax && reads_unset Value same_value start' target choices) ≡ true → ⊥) → map (under match name) (trace Key same_key start source choices) ≡ trace Value same_value start' target choices
      traces_follow start start' f choices strict = ⊎_elim (λ x. absurd (strict x)) (λ g. g.shown) (run_follows choices _ _ f)
