-- A body under other names of its values has the same traces, where no two values come to have one name.
use Rattle.std.proofs.Common.{◌≡◌, ℕ, suc, Bool, List, [], ◌∷◌, ◌++◌, Option, Some, None, map, slice_get, refl, sym, ap, ap₂, subst, ◌∙◌, if◌then◌else◌}
use Rattle.std.specs.Option.{option_map}
use Rattle.std.proofs.lemmas.Option.{slice_get-map}
use Rattle.meaning.specs.Terms.{Term, Answer, silent}
use Rattle.meaning.specs.Machine.{Operand, At, Fixed, Action, Holds, Applies, Row, Edge, Block, Item, Entered, Event, State, read, read_move, set, set_in, reads, answered, effect, apply, straight, moved, arrive, move, follow, take_edge, edge_of, jump, go_on, run, begin, enter_first, first, trace}
use Rattle.tracing.specs.Renamed.{renamed, renamed_action, renamed_row, renamed_move, renamed_edge, renamed_block, renamed_code}

module _ (V W : Type 0) (same_v : V → V → Bool) (same_w : W → W → Bool) (f : V → W) (keeps : (a b : V) → same_w (f a) (f b) ≡ same_v a b) where
  -- both are at one point, but for whether an unset value was read
  record Alike (s : State V) (t : State W) : Type 0 where
    block : t.block ≡ s.block
    count : t.count ≡ s.count
    shown : t.shown ≡ s.shown
    env : (v : V) → t.env (f v) ≡ s.env v

  module _ (s : State V) (t : State W) (h : Alike s t) where
    read_alike : (o : Operand V) → read t.env (renamed f o) ≡ read s.env o
    read_alike (At v) = h.env v
    read_alike (Fixed u) = refl

    reads_alike : (os : List (Operand V)) → map (read t.env) (map (renamed f) os) ≡ map (read s.env) os
    reads_alike [] = refl
    reads_alike (o ∷ os) = let e = read_alike o in let rest = reads_alike os in cc

    move_alike : (o : Option (Operand V)) → read_move t.env (option_map (renamed f) o) ≡ read_move s.env o
    move_alike None = refl
    move_alike (Some o) = read_alike o

    set_alike : (v : V) (u : Term) → Alike (set_in V same_v s v u) (set_in W same_w t (f v) u)
    set_alike v u = record {
      block = h.block;
      count = h.count;
      shown = h.shown;
      env = λ w. ap₂ (λ (b : Bool) (x : Term). if b then u else x) (keeps v w) (h.env w);
    }

    answered_alike : (v : V) (i : Item) → Alike (answered V same_v s v i) (answered W same_w t (f v) i)
    answered_alike v i = record {
      block = h.block;
      count = ap suc h.count;
      shown = ap (λ (l : List Item). l ++ i ∷ []) h.shown;
      env = λ w. ap (λ (n : ℕ). set W same_w t.env (f v) (Answer n) (f w)) h.count ∙ ap₂ (λ (b : Bool) (x : Term). if b then Answer s.count else x) (keeps v w) (h.env w);
    }

    apply_alike : (v : V) (a : Action V) → Alike (apply V same_v s v a) (apply W same_w t (f v) (renamed_action f a))
    apply_alike v (Holds u) = set_alike v u
    apply_alike v (Applies o ty tys os) =
        subst (λ (us : List Term). Alike (after (map (read s.env) os)) (effect W same_w (reads W same_w t us) (f v) (Event o ty tys us) (silent o ty us))) (sym (reads_alike os)) (by (map (read s.env) os) (silent o ty (map (read s.env) os)))
      where
        after : List Term → State V
        after us = effect V same_v (reads V same_v s us) v (Event o ty tys us) (silent o ty us)

        by : (us : List Term) (x : Option Term) → Alike (effect V same_v (reads V same_v s us) v (Event o ty tys us) x) (effect W same_w (reads W same_w t us) (f v) (Event o ty tys us) x)
        by us (Some u) = let e = set_alike v u in record { block = e.block; count = e.count; shown = e.shown; env = e.env }
        by us None = let e = answered_alike v (Event o ty tys us) in record { block = e.block; count = e.count; shown = e.shown; env = e.env }

  straight_alike : (s : State V) (t : State W) → Alike s t → (rs : List (Row V)) → Alike (straight V same_v s rs) (straight W same_w t (map (renamed_row f) rs))
  straight_alike s t h [] = h
  straight_alike s t h (r ∷ rs) =
      straight_alike (apply V same_v s r.result r.action) (apply W same_w t (f r.result) (renamed_action f r.action)) (apply_alike s t h r.result r.action) rs

  moved_alike : (s : State V) (t : State W) → Alike s t → (env : V → Term) (env' : W → Term) → ((v : V) → env' (f v) ≡ env v) → (ms : List (V × Option (Operand V)))
      → (v : V) → moved W same_w t.env env' (map (renamed_move f) ms) (f v) ≡ moved V same_v s.env env ms v
  moved_alike s t h env env' same [] v = same v
  moved_alike s t h env env' same (m ∷ ms) v =
      moved_alike s t h (set V same_v env m.0 (read_move s.env m.1)) (set W same_w env' (f m.0) (read_move t.env (option_map (renamed f) m.1)))
      (λ w.
      ap (λ (u : Term). set W same_w env' (f m.0) u (f w)) (move_alike s t h m.1) ∙ ap₂ (λ (b : Bool) (x : Term). if b then read_move s.env m.1 else x) (keeps m.0 w) (same w))
      ms v

  move_all_alike : (s : State V) (t : State W) → Alike s t → (ms : List (V × Option (Operand V))) → Alike (move V same_v s ms) (move W same_w t (map (renamed_move f) ms))
  move_all_alike s t h ms = record { block = h.block; count = h.count; shown = h.shown; env = moved_alike s t h s.env t.env h.env ms }

  arrive_alike : (s : State V) (t : State W) → Alike s t → (b : ℕ) (rs : List (Row V)) → Alike (arrive V same_v s b rs) (arrive W same_w t b (map (renamed_row f) rs))
  arrive_alike s t h b rs = straight_alike _ _ (record { block = refl; count = h.count; shown = ap (λ (l : List Item). l ++ Entered b ∷ []) h.shown; env = h.env }) rs

  -- both go on alike, or neither does
  abbrev BothAlike : Option (State V) → Option (State W) → Type 0
  BothAlike None None = Unit {0}
  BothAlike (Some s) (Some t) = Alike s t
  BothAlike None (Some t) = ⊥
  BothAlike (Some s) None = ⊥

  module _ (code : List (Block V)) where
    take_alike : (s : State V) (t : State W) → Alike s t → (e : Option (Edge V)) → BothAlike (take_edge V same_v code s e) (take_edge W same_w (renamed_code f code) t (option_map (renamed_edge f) e))
    take_alike s t h None = tt
    take_alike s t h (Some e) = subst (λ (b : Option (Block W)). BothAlike (follow V same_v s e (slice_get code e.to)) (follow W same_w t (renamed_edge f e) b)) (sym (slice_get-map (renamed_block f) code e.to)) (by (slice_get code e.to))
      where
        by : (b : Option (Block V)) → BothAlike (follow V same_v s e b) (follow W same_w t (renamed_edge f e) (option_map (renamed_block f) b))
        by None = tt
        by (Some b) = arrive_alike _ _ (move_all_alike s t h e.moves) e.to b.rows

    edge_alike : (b : Option (Block V)) (choice : ℕ) → edge_of W same_w (option_map (renamed_block f) b) choice ≡ option_map (renamed_edge f) (edge_of V same_v b choice)
    edge_alike None choice = refl
    edge_alike (Some b) choice = slice_get-map (renamed_edge f) b.edges choice

    jump_alike : (s : State V) (t : State W) → Alike s t → (choice : ℕ) → BothAlike (jump V same_v code s choice) (jump W same_w (renamed_code f code) t choice)
    jump_alike s t h choice =
        let e : edge_of W same_w (slice_get (renamed_code f code) t.block) choice ≡ option_map (renamed_edge f) (edge_of V same_v (slice_get code s.block) choice) =
        ap (λ (b : Option (Block W)). edge_of W same_w b choice) (ap (slice_get (renamed_code f code)) h.block ∙ slice_get-map (renamed_block f) code s.block) ∙ edge_alike (slice_get code s.block) choice in
        subst (λ (x : Option (Edge W)). BothAlike (jump V same_v code s choice) (take_edge W same_w (renamed_code f code) t x)) (sym e) (take_alike s t h (edge_of V same_v (slice_get code s.block) choice))

    run_alike : (cs : List ℕ) (s : State V) (t : State W) → Alike s t → Alike (run V same_v code cs s) (run W same_w (renamed_code f code) cs t)
    run_alike [] s t h = h
    run_alike (c ∷ cs) s t h = by (run_alike cs) (jump V same_v code s c) (jump W same_w (renamed_code f code) t c) (jump_alike s t h c)
      where
        by : ((s : State V) (t : State W) → Alike s t → Alike (run V same_v code cs s) (run W same_w (renamed_code f code) cs t)) → (x : Option (State V)) (y : Option (State W)) → BothAlike x y
            → Alike (go_on V same_v s (run V same_v code cs) x) (go_on W same_w t (run W same_w (renamed_code f code) cs) y)
        by rest None None k = h
        by rest (Some s') (Some t') k = rest s' t' k
        by rest None (Some t') k = absurd k
        by rest (Some s') None k = absurd k

    pub renamed_trace : (start : V → Term) (start' : W → Term) → ((v : V) → start' (f v) ≡ start v) → (cs : List ℕ) → trace W same_w start' (renamed_code f code) cs ≡ trace V same_v start code cs
    renamed_trace start start' same cs = (run_alike cs (first V same_v start code) (first W same_w start' (renamed_code f code)) first_alike).shown
      where
        begun : Alike (begin V same_v start) (begin W same_w start')
        begun = record { block = refl; count = refl; shown = refl; env = same }

        by : (b : Option (Block V)) → Alike (enter_first V same_v start b) (enter_first W same_w start' (option_map (renamed_block f) b))
        by None = begun
        by (Some b) = arrive_alike _ _ begun 0 b.rows

        first_alike : Alike (first V same_v start code) (first W same_w start' (renamed_code f code))
        first_alike = subst (λ (b : Option (Block W)). Alike (first V same_v start code) (enter_first W same_w start' b)) (sym (slice_get-map (renamed_block f) code 0)) (by (slice_get code 0))
