-- A function of the dialect that stands for one of LLVM, with its constants at any places, has its traces: where its
-- run reads no unset value, and everywhere where the first block sets the constants before they are read.
use Rattle.std.proofs.Common.{◌≡◌, ◌∙◌, ℕ, Bool, true, false, not, ◌||◌, inl, inr, List, [], ◌∷◌, Option, Some, None, All, map, slice_get, if◌then◌else◌, refl, sym, ap, subst, ⊎_elim}
use Rattle.std.proofs.lemmas.Bool.{false≢true, both_ways, or_cases}
use Rattle.std.proofs.lemmas.List.Elements.{All-head, All-tail}
use Rattle.llvm_core.specs.Data.{Function}
use Rattle.dialect_core.specs.Data.{Func}
use Rattle.dialect_core.specs.declared.ops.Value.{Value}
use Rattle.meaning.specs.Terms.{Term, Unset, Match, is_unset, rename}
use Rattle.meaning.specs.Machine.{Operand, At, Fixed, Action, Holds, Applies, Row, Block, Entered, State, apply, set_in, straight, shows, begin, enter_first, first, trace, reads_unset}
use Rattle.meaning.specs.Setting.{Setting}
use Rattle.meaning.specs.Pairs.{Matched, BothOrNone}
use Rattle.meaning.specs.Code.{under}
use Rattle.meaning.specs.Llvm as llvm
use Rattle.meaning.specs.Llvm.{Key, same_key}
use Rattle.meaning.specs.Dialect as dialect
use Rattle.meaning.specs.Dialect.{same_value}
use Rattle.meaning.specs.Shape.{Plan, IsPlan, among, operands_of, SameAction, SameRow, SameEdge}
use Rattle.meaning.specs.Woven.{sets_constant, paired, KeepsPlan, AreSet, ReadsOnlySet, SetsConstantsFirst, WovenBlock, WovenBlocks, WovenShape, SameTrace, func_reads_unset}
use Rattle.meaning.proofs.Simulation.{Follows, AreKnown, not_hoisted, constant_agrees, less_agrees, action_follows}
use Rattle.meaning.proofs.Runs.{known, Loosely, entered, row_follows, arrive_follows, blocks_at, traces_follow}

-- a value that the rows set, whatever its term
abbrev set_by : List (Row Value) → Value → Term → Bool
set_by done w t = among done w

pub swap_or : (a b c : Bool) → (a || (b || c)) ≡ true → ((b || a) || c) ≡ true
swap_or true true c h = refl
swap_or true false c h = refl
swap_or false true c h = refl
swap_or false false c h = h

other_of : (a b : Bool) → a ≡ false → (a || b) ≡ true → b ≡ true
other_of true b e h = absurd (false≢true (sym e))
other_of false b e h = h

set_known : (plan : Plan) (done : List (Row Value)) (d : Value → Term) (os : List (Operand Value)) → AreSet plan done os → AreKnown plan (set_by done) d os
set_known plan done d [] h = tt
set_known plan done d (At w ∷ os) h = (h.0, set_known plan done d os h.1)
set_known plan done d (Fixed t ∷ os) h = (tt, set_known plan done d os h)

-- the rows for constants keep to the plan
abbrev Kept : Plan → Row Value → Type 0
Kept plan q = KeepsPlan plan q.action q.result

abbrev AreKept : Plan → List (Row Value) → Type 0
AreKept plan qs = All (Kept plan) qs

-- the rows that pair off, from a row of that action on
abbrev paired_from : Row Value → Action Value → List (Row Value) → List (Row Value)
paired_from q a qs = if not (sets_constant a) then q ∷ paired qs else paired qs

module _ (match : Match) (plan : Plan) (is_plan : IsPlan plan) (name : List ℕ) where
  abbrev Pairs : List (Row Key) → List (Row Value) → Type 0
  Pairs = Matched (SameRow match plan)

  -- ---- rows for constants woven in between

  module _ (lax : Bool) where
    abbrev Loose : State Key → State Value → Type 0
    Loose = Loosely match plan is_plan name lax

    constant_follows : (s : State Key) (t : State Value) (w : Value) (u : Term) → Loose s t → KeepsPlan plan (Holds u) w → Loose s (set_in Value same_value t w u)
    constant_follows s t w u (inl x) k = inl x
    constant_follows s t w u (inr f) k = inr (record { block = f.block; env = constant_agrees match plan is_plan (known lax) (known lax) s.env t.env w u (λ v x e n. n) f.env k.0 k.1; count = f.count; shown = f.shown })

    -- what the rows of the dialect are shown to keep
    abbrev Keep : List (Row Value) → Type 0
    Keep qs = (rs : List (Row Key)) → Pairs rs (paired qs) → (s : State Key) (t : State Value) → Loose s t → Loose (straight Key same_key s rs) (straight Value same_value t qs)

    woven_row : (q : Row Value) (qs : List (Row Value)) (a : Action Value) → q.action ≡ a → KeepsPlan plan a q.result → Keep qs → (rs : List (Row Key)) → Pairs rs (paired_from q a qs) → (s : State Key) (t : State Value) → Loose s t → Loose (straight Key same_key s rs) (straight Value same_value (apply Value same_value t q.result a) qs)
    woven_row q qs (Holds u) e k rest rs h s t f = rest rs h s _ (constant_follows s t q.result u f k)
    woven_row q qs (Applies o ty tys os) e k rest [] h s t f = absurd h
    woven_row q qs (Applies o ty tys os) e k rest (r ∷ rs) h s t f =
        rest rs h.1 _ _ (subst (λ (a : Action Value). Loose (apply Key same_key s r.result r.action) (apply Value same_value t q.result a)) e (row_follows match plan is_plan name lax s t r q f h.0))

    woven_follows : (qs : List (Row Value)) → AreKept plan qs → Keep qs
    woven_follows [] k [] h s t f = f
    woven_follows [] k (r ∷ rs) h s t f = absurd h
    woven_follows (q ∷ qs) k rs h s t f = woven_row q qs q.action refl (All-head (Kept plan) q qs k) (woven_follows qs (All-tail (Kept plan) q qs k)) rs h s t f

    -- ---- blocks

    abbrev Pair : ℕ → Block Key → Block Value → Type 0
    Pair place b c = WovenBlock match plan (match.block name) b c

    edges_match : (place : ℕ) (b : Block Key) (c : Block Value) → Pair place b c → Matched (SameEdge match plan (match.block name)) b.edges c.edges
    edges_match place b c h = h.edges

    rows_follow : (place : ℕ) (b : Block Key) (c : Block Value) → Pair place b c → (s : State Key) (t : State Value) → Follows match plan (known lax) name s t → Loose (straight Key same_key s b.rows) (straight Value same_value t c.rows)
    rows_follow place b c h s t f = woven_follows c.rows h.constants b.rows h.pairs s t (inr f)

  -- ---- a first block that sets the constants before they are read

  -- as `Follows`, where what those rows set is known
  abbrev Sets : List (Row Value) → State Key → State Value → Type 0
  Sets done = Follows match plan (set_by done) name

  abbrev Strict : State Key → State Value → Type 0
  Strict = Follows match plan (known false) name

  -- the constants are set by the rows that are done, or by those that follow
  abbrev Covers : (done rows : List (Row Value)) → Type 0
  Covers done rows = (w : Value) → among plan.hoisted w ≡ true → (among done w || among rows w) ≡ true

  abbrev KeepFirst : List (Row Value) → List (Row Value) → Type 0
  KeepFirst done qs = (rs : List (Row Key)) → Pairs rs (paired qs) → (s : State Key) (t : State Value) → Sets done s t → Strict (straight Key same_key s rs) (straight Value same_value t qs)

  -- a row that is done is known of, if it is that of a constant
  more_done : (done : List (Row Value)) (q : Row Value) (k : Key) → plan.value k ≡ Some q.result → (s : State Key) (t : State Value) → Sets done s t → Sets (q ∷ done) s t
  more_done done q k p s t f = record {
    block = f.block;
    env = less_agrees match plan is_plan (set_by done) (set_by (q ∷ done)) s.env t.env (λ w m n. other_of (same_value q.result w) (among done w) (not_hoisted match plan is_plan k q.result w p m) n) f.env;
    count = f.count;
    shown = f.shown;
  }

  first_row : (done : List (Row Value)) (q : Row Value) (qs : List (Row Value)) (a : Action Value) → q.action ≡ a → KeepsPlan plan a q.result → AreSet plan done (operands_of a) → KeepFirst (q ∷ done) qs → (rs : List (Row Key)) → Pairs rs (paired_from q a qs) → (s : State Key) (t : State Value) → Sets done s t → Strict (straight Key same_key s rs) (straight Value same_value (apply Value same_value t q.result a) qs)
  first_row done q qs (Holds u) e k reads rest rs h s t f = rest rs h s _ (record {
    block = f.block;
    env = constant_agrees match plan is_plan (set_by done) (set_by (q ∷ done)) s.env t.env q.result u (λ v x. other_of (same_value q.result v) (among done v)) f.env k.0 k.1;
    count = f.count;
    shown = f.shown;
  })
  first_row done q qs (Applies o ty tys os) e k reads rest [] h s t f = absurd h
  first_row done q qs (Applies o ty tys os) e k reads rest (r ∷ rs) h s t f =
      let g = action_follows match plan is_plan (set_by done) name s t r.result q.result r.action (Applies o ty tys os) f h.0.result (subst (SameAction match plan r.action) e h.0.action) (set_known plan done t.env os reads) in
      rest rs h.1 _ _ (more_done done q r.result h.0.result _ _ g)

  first_rows_follow : (qs done : List (Row Value)) → AreKept plan qs → ReadsOnlySet plan done qs → Covers done qs → KeepFirst done qs
  first_rows_follow [] done k reads covers [] h s t f = record {
    block = f.block;
    env = less_agrees match plan is_plan (set_by done) (known false) s.env t.env (λ w m n. ⊎_elim (λ x. x) (λ x. absurd (false≢true x)) (or_cases (among done w) false (covers w m))) f.env;
    count = f.count;
    shown = f.shown;
  }
  first_rows_follow [] done k reads covers (r ∷ rs) h s t f = absurd h
  first_rows_follow (q ∷ qs) done k reads covers rs h s t f =
      let rest = first_rows_follow qs (q ∷ done) (All-tail (Kept plan) q qs k) reads.1 (λ w m. swap_or (among done w) (same_value q.result w) (among qs w) (covers w m)) in
      first_row done q qs q.action refl (All-head (Kept plan) q qs k) reads.0 rest rs h s t f

  -- ---- runs

  module _ (source : List (Block Key)) (target : List (Block Value)) (same : WovenBlocks match plan (match.block name) source target) (start : Key → Term) (start' : Value → Term) (starts : (k : Key) (w : Value) → plan.value k ≡ Some w → rename match (start k) ≡ start' w) where
    begin_pair : (lax : Bool) → BothOrNone (Pair lax 0) (slice_get source 0) (slice_get target 0)
    begin_pair lax = blocks_at match plan is_plan name lax (Pair lax) (edges_match lax) (rows_follow lax) source target same.blocks 0 0 same.first

    -- constants are not set when a run begins
    module _ (unset : (w : Value) → among plan.hoisted w ≡ true → start' w ≡ Unset) where
      begins : Follows match plan (known true) name (begin Key same_key start) (begin Value same_value start')
      begins = record {
        block = same.first;
        env = record { values = starts; hoisted = λ w m n. absurd (false≢true (ap (λ (t : Term). not (is_unset t)) (sym (unset w m)) ∙ n)) };
        count = refl;
        shown = refl;
      }

      enters : (b : Option (Block Key)) (c : Option (Block Value)) → BothOrNone (Pair true 0) b c → Loose true (enter_first Key same_key start b) (enter_first Value same_value start' c)
      enters None None h = inr begins
      enters None (Some c) h = absurd h
      enters (Some b) None h = absurd h
      enters (Some b) (Some c) h = arrive_follows match plan is_plan name true (Pair true) (edges_match true) (rows_follow true) _ _ 0 0 b c (inr begins) same.first h

      pub woven_traces : (choices : List ℕ) → reads_unset Value same_value start' target choices ≡ false → map (under match name) (trace Key same_key start source choices) ≡ trace Value same_value start' target choices
      woven_traces choices set = traces_follow match plan is_plan name true (Pair true) (edges_match true) (rows_follow true) source target same.blocks start start' (enters _ _ (begin_pair true)) choices (both_ways _ set)

    -- the first block sets the constants
    module _ (sets : SetsConstantsFirst plan target) where
      enters_first : (b : Option (Block Key)) → BothOrNone (Pair false 0) b (Some sets.entry) → Strict (enter_first Key same_key start b) (enter_first Value same_value start' (Some sets.entry))
      enters_first None h = absurd h
      enters_first (Some b) h =
          let s = shows Key same_key (begin Key same_key start) (Entered 0) in
          let t = shows Value same_value (begin Value same_value start') (Entered 0) in
          let f : Sets [] s t = record {
            block = same.first;
            env = record { values = starts; hoisted = λ w m n. absurd (false≢true n) };
            count = refl;
            shown = entered match plan is_plan name false [] 0 0 same.first [] refl;
          } in
          first_rows_follow sets.entry.rows [] h.constants sets.reads sets.sets b.rows h.pairs s t f

      first_enters : Strict (first Key same_key start source) (first Value same_value start' target)
      first_enters =
          let pair = subst (λ (c : Option (Block Value)). BothOrNone (Pair false 0) (slice_get source 0) c) sets.first (begin_pair false) in
          subst (λ (c : Option (Block Value)). Strict (first Key same_key start source) (enter_first Value same_value start' c)) (sym sets.first) (enters_first (slice_get source 0) pair)

      pub first_traces : (choices : List ℕ) → map (under match name) (trace Key same_key start source choices) ≡ trace Value same_value start' target choices
      first_traces choices = traces_follow match plan is_plan name false (Pair false) (edges_match false) (rows_follow false) source target same.blocks start start' (inr first_enters) choices false≢true

pub woven : (match : Match) (a : Setting) (f : Function) (b : Setting) (g : Func) → WovenShape match a f b g → (choices : List ℕ) → func_reads_unset b g choices ≡ false → SameTrace match a f b g choices
woven match a f b g h choices set =
    woven_traces match h.plan h.is_plan f.name (map (llvm.block a f) f.blocks) (map (dialect.block b g) g.blocks) h.same (llvm.start f) (dialect.start g.blocks) h.starts h.unset choices set

pub woven_first : (match : Match) (a : Setting) (f : Function) (b : Setting) (g : Func) (h : WovenShape match a f b g) → SetsConstantsFirst h.plan (map (dialect.block b g) g.blocks) → (choices : List ℕ) → SameTrace match a f b g choices
woven_first match a f b g h sets choices =
    first_traces match h.plan h.is_plan f.name (map (llvm.block a f) f.blocks) (map (dialect.block b g) g.blocks) h.same (llvm.start f) (dialect.start g.blocks) h.starts sets choices
