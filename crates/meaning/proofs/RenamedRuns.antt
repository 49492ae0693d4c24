-- Runs of bodies whose types name structs otherwise: they go the same way, and show the same under those names.
use Rattle.std.proofs.Common.{◌≡◌, ℕ, suc, Bool, true, false, ◌||◌, refl, ap, sym, ◌∙◌, List, [], ◌∷◌, map, slice_get, Option, Some, None, if◌then◌else◌, option_map}
use mathlib.Core.Path.{fun_ext}
use Rattle.std.specs.List.{list_any}
use Rattle.std.proofs.lemmas.List.{map-append}
use Rattle.std.proofs.lemmas.Option.{slice_get-map}
use Rattle.kinds.specs.declared.op.Op.{Op}
use Rattle.kinds.specs.Types.{TypeTree}
use Rattle.meaning.specs.Terms.{Term, Param, Answer, Unset, Int, Filled, ListOf, SplatOf, Expr, Insert, Match, is_unset, silent, rename, rename_type}
use Rattle.meaning.specs.Machine.{Operand, At, Fixed, Action, Holds, Applies, Row, Edge, Block, Item, Entered, Event, State, read, read_move, set, set_in, reads, shows, answered, effect, apply, straight, moved, arrive, move, follow, take_edge, edge_of, jump, go_on, run, begin, enter_first, first, trace}
use Rattle.meaning.proofs.Naming.{rename-silent}

unset_under : (match : Match) (t : Term) → is_unset (rename match t) ≡ is_unset t
unset_under match (Param i) = refl
unset_under match (Answer n) = refl
unset_under match Unset = refl
unset_under match (Int w v) = refl
unset_under match (Filled fill ty) = refl
unset_under match (ListOf ty ts) = refl
unset_under match (SplatOf ty t) = refl
unset_under match (Expr o ty ts) = refl
unset_under match (Insert ty a p e) = refl

any_unset : (match : Match) (ts : List Term) → list_any is_unset (map (rename match) ts) ≡ list_any is_unset ts
any_unset match [] = refl
any_unset match (t ∷ ts) = rw (unset_under match t, any_unset match ts) refl

-- the parts of a body with their types and terms under a match; blocks stay where they are
module _ (match : Match) where
  abbrev pub item_as : Item → Item
  item_as (Entered b) = Entered b
  item_as (Event o ty tys ts) = Event o (rename_type match ty) (map (rename_type match) tys) (map (rename match) ts)

module _ (V : Type 0) (match : Match) where
  abbrev pub operand_as : Operand V → Operand V
  operand_as (At v) = At v
  operand_as (Fixed t) = Fixed (rename match t)

  abbrev pub action_as : Action V → Action V
  action_as (Holds t) = Holds (rename match t)
  action_as (Applies o ty tys os) = Applies o (rename_type match ty) (map (rename_type match) tys) (map operand_as os)

  abbrev pub row_as : Row V → Row V
  row_as r = record r { action = action_as r.action }

  abbrev pub move_as : V × Option (Operand V) → V × Option (Operand V)
  move_as m = (m.0, option_map operand_as m.1)

  abbrev pub edge_as : Edge V → Edge V
  edge_as e = record e { moves = map move_as e.moves }

  abbrev pub block_as : Block V → Block V
  block_as b = record { rows = map row_as b.rows; edges = map edge_as b.edges }

  abbrev env_as : (V → Term) → V → Term
  env_as env v = rename match (env v)

  abbrev state_as : State V → State V
  state_as s = record s { env = env_as s.env; shown = map (item_as match) s.shown }

  -- ---- what is read

  read_as : (env : V → Term) (o : Operand V) → read (env_as env) (operand_as o) ≡ rename match (read env o)
  read_as env (At v) = refl
  read_as env (Fixed t) = refl

  all_read_as : (env : V → Term) (os : List (Operand V)) → map (read (env_as env)) (map operand_as os) ≡ map (rename match) (map (read env) os)
  all_read_as env [] = refl
  all_read_as env (o ∷ os) = rw (read_as env o, all_read_as env os) refl

  read_move_as : (env : V → Term) (o : Option (Operand V)) → read_move (env_as env) (option_map operand_as o) ≡ rename match (read_move env o)
  read_move_as env None = refl
  read_move_as env (Some o) = read_as env o

  moves_read_as : (env : V → Term) (ms : List (V × Option (Operand V)))
      → map (λ (m : V × Option (Operand V)). read_move (env_as env) m.1) (map move_as ms) ≡ map (rename match) (map (λ (m : V × Option (Operand V)). read_move env m.1) ms)
  moves_read_as env [] = refl
  moves_read_as env (m ∷ ms) = rw (read_move_as env m.1, moves_read_as env ms) refl

  module _ (same : V → V → Bool) where
    -- ---- what is set

    set_as : (env : V → Term) (v : V) (t : Term) → env_as (set V same env v t) ≡ set V same (env_as env) v (rename match t)
    set_as env v t = fun_ext (λ w. by (same v w) w)
      where
        by : (b : Bool) (w : V) → rename match (if b then t else env w) ≡ (if b then rename match t else rename match (env w))
        by true w = refl
        by false w = refl

    moved_as : (before env : V → Term) (ms : List (V × Option (Operand V))) → env_as (moved V same before env ms) ≡ moved V same (env_as before) (env_as env) (map move_as ms)
    moved_as before env [] = refl
    moved_as before env (m ∷ ms) =
        moved_as before (set V same env m.0 (read_move before m.1)) ms
        ∙ ap (λ (e : V → Term). moved V same (env_as before) e (map move_as ms)) (set_as env m.0 (read_move before m.1) ∙ ap (set V same (env_as env) m.0) (sym (read_move_as before m.1)))

    set_in_as : (s : State V) (v : V) (t : Term) → state_as (set_in V same s v t) ≡ set_in V same (state_as s) v (rename match t)
    set_in_as s v t = ap (λ (e : V → Term). record (state_as s) { env = e }) (set_as s.env v t)

    reads_as : (s : State V) (ts : List Term) → state_as (reads V same s ts) ≡ reads V same (state_as s) (map (rename match) ts)
    reads_as s ts = ap (λ (b : Bool). record (state_as s) { unset = s.unset || b }) (sym (any_unset match ts))

    shows_as : (s : State V) (i : Item) → state_as (shows V same s i) ≡ shows V same (state_as s) (item_as match i)
    shows_as s i = ap (λ (is : List Item). record (state_as s) { shown = is }) (map-append (item_as match) s.shown (i ∷ []))

    -- ---- rows

    answered_as : (s : State V) (v : V) (i : Item) → state_as (answered V same s v i) ≡ answered V same (state_as s) v (item_as match i)
    answered_as s v i =
        ap (λ (x : State V). record x { count = suc s.count }) (shows_as (set_in V same s v (Answer s.count)) i)
        ∙ ap (λ (x : State V). record (shows V same x (item_as match i)) { count = suc s.count }) (set_in_as s v (Answer s.count))

    effect_as : (s : State V) (v : V) (i : Item) (t : Option Term) → state_as (effect V same s v i t) ≡ effect V same (state_as s) v (item_as match i) (option_map (rename match) t)
    effect_as s v i None = answered_as s v i
    effect_as s v i (Some t) = set_in_as s v t

    applied_as : (s : State V) (v : V) (o : Op) (ty : TypeTree) (tys : List TypeTree) (ts : List Term)
        → state_as (effect V same (reads V same s ts) v (Event o ty tys ts) (silent o ty ts))
        ≡ effect V same (reads V same (state_as s) (map (rename match) ts)) v (Event o (rename_type match ty) (map (rename_type match) tys) (map (rename match) ts)) (silent o (rename_type match ty) (map (rename match) ts))
    applied_as s v o ty tys ts =
        effect_as (reads V same s ts) v (Event o ty tys ts) (silent o ty ts)
        ∙ ap (λ (x : State V). effect V same x v (item_as match (Event o ty tys ts)) (option_map (rename match) (silent o ty ts))) (reads_as s ts)
        ∙ ap (effect V same (reads V same (state_as s) (map (rename match) ts)) v (item_as match (Event o ty tys ts))) (rename-silent match o ty ts)

    apply_as : (s : State V) (v : V) (a : Action V) → state_as (apply V same s v a) ≡ apply V same (state_as s) v (action_as a)
    apply_as s v (Holds t) = set_in_as s v t
    apply_as s v (Applies o ty tys os) =
        applied_as s v o ty tys (map (read s.env) os)
        ∙ ap (λ (ts : List Term). effect V same (reads V same (state_as s) ts) v (Event o (rename_type match ty) (map (rename_type match) tys) ts) (silent o (rename_type match ty) ts)) (sym (all_read_as s.env os))

    straight_as : (rows : List (Row V)) (s : State V) → state_as (straight V same s rows) ≡ straight V same (state_as s) (map row_as rows)
    straight_as [] s = refl
    straight_as (r ∷ rows) s = straight_as rows (apply V same s r.result r.action) ∙ ap (λ (x : State V). straight V same x (map row_as rows)) (apply_as s r.result r.action)

    -- ---- jumps

    arrive_as : (s : State V) (b : ℕ) (rows : List (Row V)) → state_as (arrive V same s b rows) ≡ arrive V same (state_as s) b (map row_as rows)
    arrive_as s b rows =
        straight_as rows (shows V same (record s { block = b }) (Entered b)) ∙ ap (λ (x : State V). straight V same x (map row_as rows)) (shows_as (record s { block = b }) (Entered b))

    move_as_state : (s : State V) (ms : List (V × Option (Operand V))) → state_as (move V same s ms) ≡ move V same (state_as s) (map move_as ms)
    move_as_state s ms =
        ap (λ (e : V → Term). record (state_as (reads V same s (map (λ (m : V × Option (Operand V)). read_move s.env m.1) ms))) { env = e }) (moved_as s.env s.env ms)
        ∙ ap (λ (x : State V). record x { env = moved V same (env_as s.env) (env_as s.env) (map move_as ms) }) (reads_as s (map (λ (m : V × Option (Operand V)). read_move s.env m.1) ms))
        ∙ ap (λ (ts : List Term). record (reads V same (state_as s) ts) { env = moved V same (env_as s.env) (env_as s.env) (map move_as ms) }) (sym (moves_read_as s.env ms))

    follow_as : (s : State V) (e : Edge V) (b : Option (Block V)) → option_map state_as (follow V same s e b) ≡ follow V same (state_as s) (edge_as e) (option_map block_as b)
    follow_as s e None = refl
    follow_as s e (Some b) = ap Some (arrive_as (move V same s e.moves) e.to b.rows ∙ ap (λ (x : State V). arrive V same x e.to (map row_as b.rows)) (move_as_state s e.moves))

    take_as : (code : List (Block V)) (s : State V) (e : Option (Edge V)) → option_map state_as (take_edge V same code s e) ≡ take_edge V same (map block_as code) (state_as s) (option_map edge_as e)
    take_as code s None = refl
    take_as code s (Some e) = follow_as s e (slice_get code e.to) ∙ ap (follow V same (state_as s) (edge_as e)) (sym (slice_get-map block_as code e.to))

    edge_of_as : (b : Option (Block V)) (choice : ℕ) → option_map edge_as (edge_of V same b choice) ≡ edge_of V same (option_map block_as b) choice
    edge_of_as None choice = refl
    edge_of_as (Some b) choice = sym (slice_get-map edge_as b.edges choice)

    jump_as : (code : List (Block V)) (s : State V) (choice : ℕ) → option_map state_as (jump V same code s choice) ≡ jump V same (map block_as code) (state_as s) choice
    jump_as code s choice =
        take_as code s (edge_of V same (slice_get code s.block) choice)
        ∙ ap (take_edge V same (map block_as code) (state_as s)) (edge_of_as (slice_get code s.block) choice ∙ ap (λ (b : Option (Block V)). edge_of V same b choice) (sym (slice_get-map block_as code s.block)))

    -- ---- runs

    run_as : (code : List (Block V)) (choices : List ℕ) (s : State V) → state_as (run V same code choices s) ≡ run V same (map block_as code) choices (state_as s)
    run_as code [] s = refl
    run_as code (c ∷ cs) s = by (λ x. run_as code cs x) (jump V same code s c) ∙ ap (go_on V same (state_as s) (run V same (map block_as code) cs)) (jump_as code s c)
      where
        by : ((x : State V) → state_as (run V same code cs x) ≡ run V same (map block_as code) cs (state_as x)) → (o : Option (State V)) → state_as (go_on V same s (run V same code cs) o) ≡ go_on V same (state_as s) (run V same (map block_as code) cs) (option_map state_as o)
        by rest None = refl
        by rest (Some x) = rest x

    enter_as : (start : V → Term) (b : Option (Block V)) → state_as (enter_first V same start b) ≡ enter_first V same (env_as start) (option_map block_as b)
    enter_as start None = refl
    enter_as start (Some b) = arrive_as (begin V same start) 0 b.rows

    first_as : (start : V → Term) (code : List (Block V)) → state_as (first V same start code) ≡ first V same (env_as start) (map block_as code)
    first_as start code = enter_as start (slice_get code 0) ∙ ap (enter_first V same (env_as start)) (sym (slice_get-map block_as code 0))

    -- what the run of such a body shows is what the body shows, under the match
    pub trace_as : (start : V → Term) (code : List (Block V)) (choices : List ℕ) → map (item_as match) (trace V same start code choices) ≡ trace V same (λ (v : V). rename match (start v)) (map block_as code) choices
    trace_as start code choices =
        ap (λ (s : State V). s.shown) (run_as code choices (first V same start code) ∙ ap (run V same (map block_as code) choices) (first_as start code))
