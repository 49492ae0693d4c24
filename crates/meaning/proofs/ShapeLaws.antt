-- A function of the dialect that stands for one of LLVM has its traces.
use Rattle.std.proofs.Common.{◌≡◌, ◌∙◌, ℕ, zero, suc, Bool, false, inr, List, [], ◌∷◌, ◌++◌, Option, Some, None, map, slice_get, refl, sym, ap, subst}
use Rattle.std.proofs.lemmas.Bool.{false≢true}
use Rattle.llvm_core.specs.Data.{Function}
use Rattle.dialect_core.specs.Data.{Func}
use Rattle.dialect_core.specs.declared.ops.Value.{Value}
use Rattle.meaning.specs.Terms.{Term, Match, rename}
use Rattle.meaning.specs.Machine.{Row, Block, Entered, State, straight, shows, begin, enter_first, first, trace}
use Rattle.meaning.specs.Setting.{Setting}
use Rattle.meaning.specs.Pairs.{Matched, BothOrNone}
use Rattle.meaning.specs.Code.{under}
use Rattle.meaning.specs.Llvm as llvm
use Rattle.meaning.specs.Llvm.{Key, same_key}
use Rattle.meaning.specs.Dialect as dialect
use Rattle.meaning.specs.Dialect.{same_value}
use Rattle.meaning.specs.Shape.{Plan, IsPlan, IsFront, SameEdge, SameBlock, SameBlocks, SameShape}
use Rattle.meaning.proofs.Fronts.{Ran, ran, others, sets_term_among}
use Rattle.meaning.proofs.Simulation.{Agree, Follows}
use Rattle.meaning.proofs.Runs.{known, Loosely, entered, straight_follows, blocks_at, traces_follow}

straight-append : {V : Type 0} (same : V → V → Bool) (s : State V) (rs qs : List (Row V)) → straight V same s (rs ++ qs) ≡ straight V same (straight V same s rs) qs
straight-append same s [] qs = refl
straight-append same s (r ∷ rs) qs = straight-append same _ rs qs

-- of a state before the hoisted rows: nothing is said of what they set
record Nears (match : Match) (plan : Plan) (name : List ℕ) (s : State Key) (t : State Value) : Type 0 where
  block : match.block name s.block ≡ t.block
  values : (k : Key) (w : Value) → plan.value k ≡ Some w → rename match (s.env k) ≡ t.env w
  count : s.count ≡ t.count
  shown : map (under match name) s.shown ≡ t.shown

module _ (match : Match) (plan : Plan) (is_plan : IsPlan plan) (name : List ℕ) where
  -- ---- what stands first in a block

  -- as `Follows`, in this body, where all constants are set
  abbrev Tracks : State Key → State Value → Type 0
  Tracks = Follows match plan (known false) name

  abbrev after_rows : State Value → List (Row Value) → State Value
  after_rows t rows = straight Value same_value t rows

  -- the terms agree after silent rows, if those that the rows make do
  ran_follows : (s : State Key) (t u : State Value) (d : Value → Term) → Nears match plan name s t → Ran t u d → Agree match plan (known false) s.env d → Tracks s u
  ran_follows s t u d f r a = record {
    block = f.block ∙ sym r.block;
    env = subst (Agree match plan (known false) s.env) (sym r.env) a;
    count = f.count ∙ sym r.count;
    shown = f.shown ∙ sym r.shown;
  }

  hoisted_follows : (s : State Key) (t : State Value) → Nears match plan name s t → Tracks s (after_rows t plan.hoisted)
  hoisted_follows s t f = ran_follows s t _ _ f (ran [] plan.hoisted is_plan.closed t) (record {
    values = λ k w p. f.values k w p ∙ sym (others plan.hoisted t.env w (is_plan.apart k w p));
    hoisted = λ w m n. sets_term_among plan.hoisted is_plan.closed t.env w m;
  })

  nears : (s : State Key) (t : State Value) → Tracks s t → Nears match plan name s t
  nears s t f = record { block = f.block; values = f.env.values; count = f.count; shown = f.shown }

  front_follows : (place : ℕ) (rows : List (Row Value)) → IsFront match plan place rows → (s : State Key) (t : State Value) → Tracks s t → Tracks s (after_rows t rows)
  front_follows zero rows h s t f = subst (λ (rows : List (Row Value)). Tracks s (after_rows t rows)) (sym h) (hoisted_follows s t (nears s t f))
  front_follows (suc place) rows h s t f = ran_follows s t _ _ (nears s t f) (ran [] rows h.closed t) (record {
    values = λ k w p. f.env.values k w p ∙ sym (others rows t.env w (h.values k w p));
    hoisted = λ w m n. f.env.hoisted w m refl ∙ sym (others rows t.env w (h.hoisted w m));
  })

  -- ---- blocks

  -- as `SameBlock`, in this body
  abbrev BlockPair : ℕ → Block Key → Block Value → Type 0
  BlockPair = SameBlock match plan (match.block name)

  -- as `Tracks`: a strict simulation excuses nothing
  abbrev Strictly : State Key → State Value → Type 0
  Strictly = Loosely match plan is_plan name false

  block_follows : (place : ℕ) (b : Block Key) (c : Block Value) (h : BlockPair place b c) (s : State Key) (t : State Value) → Tracks s (after_rows t h.front) → Strictly (straight Key same_key s b.rows) (after_rows t c.rows)
  block_follows place b c h s t f =
      let e : after_rows t c.rows ≡ after_rows (after_rows t h.front) h.rest = ap (after_rows t) h.rows ∙ straight-append same_value t h.front h.rest in
      subst (Strictly (straight Key same_key s b.rows)) (sym e) (straight_follows match plan is_plan name false b.rows h.rest h.pairs s (after_rows t h.front) (inr f))

  rows_follow : (place : ℕ) (b : Block Key) (c : Block Value) → BlockPair place b c → (s : State Key) (t : State Value) → Tracks s t → Strictly (straight Key same_key s b.rows) (after_rows t c.rows)
  rows_follow place b c h s t f = block_follows place b c h s t (front_follows place h.front h.leads s t f)

  -- ---- the first block

  module _ (source : List (Block Key)) (target : List (Block Value)) (same : SameBlocks match plan (match.block name) source target) (start : Key → Term) (start' : Value → Term) (starts : (k : Key) (w : Value) → plan.value k ≡ Some w → rename match (start k) ≡ start' w) where
    begins : (b : Block Key) (c : Option (Block Value)) → BothOrNone (BlockPair 0) (Some b) c → Strictly (enter_first Key same_key start (Some b)) (enter_first Value same_value start' c)
    begins b None h = absurd h
    begins b (Some c) h =
        let s = shows Key same_key (begin Key same_key start) (Entered 0) in
        let t = shows Value same_value (begin Value same_value start') (Entered 0) in
        let near : Nears match plan name s t = record { block = same.first; values = starts; count = refl; shown = entered match plan is_plan name false [] 0 0 same.first [] refl } in
        block_follows 0 b c h s t (subst (λ (rows : List (Row Value)). Tracks s (after_rows t rows)) (sym h.leads) (hoisted_follows s t near))

    edges_match : (place : ℕ) (b : Block Key) (c : Block Value) → BlockPair place b c → Matched (SameEdge match plan (match.block name)) b.edges c.edges
    edges_match place b c h = h.edges

    first_follows : Strictly (first Key same_key start source) (first Value same_value start' target)
    first_follows =
        let b = same.entry.0 in
        let e = same.entry.1 in
        let pairs = blocks_at match plan is_plan name false BlockPair edges_match rows_follow source target same.blocks 0 0 same.first in
        let pair = subst (λ (x : Option (Block Key)). BothOrNone (BlockPair 0) x (slice_get target 0)) e pairs in
        subst (λ (x : Option (Block Key)). Strictly (enter_first Key same_key start x) (first Value same_value start' target)) (sym e) (begins b (slice_get target 0) pair)

    pub same_traces : (choices : List ℕ) → map (under match name) (trace Key same_key start source choices) ≡ trace Value same_value start' target choices
    same_traces choices = traces_follow match plan is_plan name false BlockPair edges_match rows_follow source target same.blocks start start' first_follows choices false≢true

pub same_shape : (match : Match) (a : Setting) (f : Function) (b : Setting) (g : Func) → SameShape match a f b g → (choices : List ℕ) → map (under match f.name) ((llvm.body a f).trace choices) ≡ (dialect.body b g).trace choices
same_shape match a f b g h choices =
    same_traces match h.plan h.is_plan f.name (map (llvm.block a f) f.blocks) (map (dialect.block b g) g.blocks) h.same (llvm.start f) (dialect.start g.blocks) h.starts choices
