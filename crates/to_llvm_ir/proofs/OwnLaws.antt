-- What a search for values of other functions finds: the function is of its own values, or is refused.
use Rattle.std.proofs.Common.{◌≡◌, ◌<◌, ◌≤◌, ◌+◌, ℕ, zero, suc, List, [], ◌∷◌, ◌++◌, Option, Some, None, All, length, take, slice_get, get_or, refl, sym, ap, subst, ◌∙◌, arith, ⊎_elim}
use Rattle.std.specs.List.{filter_map, flat_map, cons_option}
use Rattle.std.specs.Option.{option_map_or}
use Rattle.std.proofs.lemmas.List.Elements.{All-append, All-cons, All-nil, All-weaker}
use Rattle.std.proofs.lemmas.List.{take_all}
use Rattle.std.proofs.lemmas.Option.{same_Some, none-some, slice_get-get_or}
use Rattle.support.proofs.ListLaws.{all_from, contains_at}
use Rattle.dialect_types.specs.Trees.{TypeTree, type_trees}
use Rattle.dialect_core.specs.declared.numbers.OpRef.{OpRef}
use Rattle.dialect_core.specs.declared.numbers.BlockRef.{BlockRef}
use Rattle.dialect_core.specs.declared.ops.Value.{Value}
use Rattle.dialect_core.specs.declared.ops.Value.TheVariants.{Result, Argument}
use Rattle.dialect_core.specs.declared.ops.Successor.{Successor}
use Rattle.dialect_core.specs.Lists.{Stands, list_at}
use Rattle.dialect_core.specs.ContextData.{ContextData, region_at}
use Rattle.dialect_core.specs.Data.{Kind, ConstantOp, FilledOp, RowOp, DialectOp, DialectBlock, Func, op_at, block_of, block_in, func_in, held, type_in}
use Rattle.dialect_core.specs.Form.{HasOwnValues, IsInOrder, IsValueOf, StandsBefore, uses_of}
use Rattle.dialect_core.specs.Rules.{IsFirstClassBy}
use Rattle.dialect_core.specs.WellFormed.{IsEdge, IsOfKind, IsTypedBy, IsWellFormedBlock, IsWellFormedFunc, IsWellFormedOp, Typing}
use Rattle.dialect_core.specs.Checking.{func_at}
use Rattle.dialect_core.proofs.ChainLemmas.{same_op}
use Rattle.dialect_core.proofs.HoldLemmas.{flat_stands, stands_cases, stands_flat, stands_left, stands_right}
use Rattle.dialect_core.proofs.TestLemmas.{same_block}
use Rattle.dialect_core.proofs.FuncLemmas.{argument_value, block_number, block_there, made_of, op_number, result_value}
use Rattle.dialect_core.proofs.FuncTestLemmas.{func_data}
use Rattle.dialect_core.proofs.TypingLaws.{own_block, own_op}
use Rattle.to_llvm_ir.specs.declared.to_llvm_err.ToLLVMErr.TheVariants as E
use Rattle.to_llvm_ir.specs.Order.{IsTaken, arranged, turn_of}
use Rattle.to_llvm_ir.specs.Exported.{given_name}
use Rattle.to_llvm_ir.specs.Causes.{IsFuncCause}
use Rattle.to_llvm_ir.specs.Own.{IsForeignAmong, IsHeldBy, UsesForeign, UsesHeld}
use Rattle.to_llvm_ir.proofs.ListLaws.{all_at, at_contains, take_suc}
use Rattle.to_llvm_ir.proofs.ContextLaws.{block_parts, func_parts}

-- ---- lists

-- what is made of an item is there
stands_made : {X Y : Type 0} (f : X → Option Y) (xs : List X) (k : ℕ) (x : X) (y : Y) → slice_get xs k ≡ Some x → f x ≡ Some y → Stands y (filter_map f xs)
stands_made f [] k x y at is = absurd (none-some x at)
stands_made f (z ∷ zs) zero x y at is = (0, ap (λ (o : Option _). slice_get (cons_option o (filter_map f zs)) 0) (ap f (same_Some z x at) ∙ is))
stands_made {X} {Y} f (z ∷ zs) (suc k) x y at is = by (f z) (stands_made f zs k x y at is)
  where
    by : (o : Option Y) → Stands y (filter_map f zs) → Stands y (cons_option o (filter_map f zs))
    by None rest = rest
    by (Some w) rest = (suc rest.0, rest.1)

take_there : {X : Type 0} (j : ℕ) (xs : List X) (i : ℕ) (x : X) → slice_get (take j xs) i ≡ Some x → slice_get xs i ≡ Some x
take_there zero xs i x at = absurd (none-some x at)
take_there (suc j) [] i x at = absurd (none-some x at)
take_there (suc j) (y ∷ xs) zero x at = at
take_there (suc j) (y ∷ xs) (suc i) x at = take_there j xs i x at

-- one item more
pub take_more : {X : Type 0} (P : X → Type 0) (xs : List X) (i : ℕ) (d : X) → i < length xs → All P (take i xs) → P (get_or xs i d) → All P (take (i + 1) xs)
take_more P xs i d lt all p =
    let x = get_or xs i d in
    let more : take (i + 1) xs ≡ take i xs ++ x ∷ [] = ap (λ (j : ℕ). take j xs) (let e : i + 1 ≡ suc i = omega arith in e) ∙ take_suc xs i x (slice_get-get_or xs i d lt) in
    subst (All P) (sym more) (All-append P (take i xs) (x ∷ []) all (All-cons P x [] p (All-nil P)))

pub all_taken : {X : Type 0} (P : X → Type 0) (xs : List X) (i : ℕ) → length xs ≤ i → All P (take i xs) → All P xs
all_taken P xs i le all = subst (All P) (take_all i xs le) all

pub some_of : {X : Type 0} (xs : List X) → ¬ (xs ≡ []) → 0 < length xs
some_of [] some = absurd (some refl)
some_of (x ∷ xs) some = omega arith

-- ---- the search in an operation

module _ (c : ContextData) (f : OpRef) where
  pub none_among : (vs : List Value) (r : Option Value) → r ≡ None → IsForeignAmong c f vs r → All (IsHeldBy c f) vs
  none_among vs r e h = subst (IsForeignAmong c f vs) e h

  -- a value that is found among some of a list is found in the list
  found_more : (vs ws : List Value) (r : Option Value) (v : Value) → ((i : ℕ) → slice_get vs i ≡ Some v → Stands v ws) → r ≡ Some v → IsForeignAmong c f vs r → IsForeignAmong c f ws (Some v)
  found_more vs ws r v more e h =
      let s : IsForeignAmong c f vs (Some v) = subst (IsForeignAmong c f vs) e h in
      let at = at_contains vs v s.0 in
      let w = more at.0 at.1 in
      (contains_at ws w.0 v w.1, s.1)

  pub operand_found : (o : DialectOp) (vs : List Value) (r : Option Value) (v : Value) → o.operands ≡ vs → r ≡ Some v → IsForeignAmong c f vs r → IsForeignAmong c f (uses_of o) (Some v)
  operand_found o vs r v are = found_more vs (uses_of o) r v (λ i at. stands_left v o.operands (flat_map (λ (s : Successor). s.args) o.successors) i (ap (λ (xs : List Value). slice_get xs i) are ∙ at))

  pub passed_found : (o : DialectOp) (ss : List Successor) (k : ℕ) (s : Successor) (vs : List Value) (r : Option Value) (v : Value) → o.successors ≡ ss → slice_get ss k ≡ Some s → vs ≡ s.args → r ≡ Some v → IsForeignAmong c f vs r → IsForeignAmong c f (uses_of o) (Some v)
  passed_found o ss k s vs r v are here is = found_more vs (uses_of o) r v (λ i at.
      stands_right v o.operands (flat_map (λ (s : Successor). s.args) o.successors)
      (stands_flat (λ (s : Successor). s.args) o.successors s v k (ap (λ (xs : List Successor). slice_get xs k) are ∙ here) (i, ap (λ (xs : List Value). slice_get xs i) (sym is) ∙ at)))

-- ---- what an operation uses has a type

module _ (types : Typing) where
  abbrev P : Value → Type 0
  P = IsTypedBy types

  none : (vs : List Value) → vs ≡ [] → All P vs
  none vs e = subst (All P) (sym e) (λ k d l. absurd (omega arith))

  module _ (g : Func) where
    abbrev args : List Successor → List Value
    args ss = flat_map (λ (s : Successor). s.args) ss

    no_edges : (ss : List Successor) → ss ≡ [] → All P (args ss)
    no_edges ss e = none (args ss) (ap args e)

    edges : (ss : List Successor) → All (IsEdge types g) ss → All P (args ss)
    edges ss h = all_from P (args ss) (λ k v at.
        let w = flat_stands (λ (s : Successor). s.args) ss v k at in
        all_at P w.0.args w.2.0 v (all_at (IsEdge types g) ss w.1.0 w.0 h w.1.1).args w.2.1)

    kind_typed : (vs : List Value) (own : Option TypeTree) (ss : List Successor) (k : Kind) → IsOfKind types g vs own ss k → All P vs × All P (args ss)
    kind_typed vs own ss (ConstantOp constant) h = (none vs h.bare, no_edges ss h.ends_here)
    kind_typed vs own ss (FilledOp fill) h = (none vs h.bare, no_edges ss h.ends_here)
    kind_typed vs own ss (RowOp op) h = (All-weaker (IsFirstClassBy types) P (λ v t. (t.0, t.1)) vs h.values, edges ss h.leads.1)

    uses_typed : (o : DialectOp) → IsWellFormedOp types g o → All P (uses_of o)
    uses_typed o h = let b = kind_typed o.operands o.result o.successors o.kind h in All-append P o.operands (args o.successors) b.0 b.1

-- ---- a function of the context

module _ (c : ContextData) (f : OpRef) (g : Func) (is : func_in (type_trees c.types) c f ≡ Some g) where
  -- a block of the function stands in the operation's region
  held_block : (p : ℕ) (d : DialectBlock) (b : BlockRef) → slice_get g.blocks p ≡ Some d → d.number ≡ b.0 → Stands b (region_at c.ops f.0)
  held_block p d b at same =
      let m = made_of (block_in (type_trees c.types) c) (region_at c.ops f.0) p d (ap (λ (xs : List DialectBlock). slice_get xs p) (sym (func_parts c f g is).blocks) ∙ at) in
      let e : m.0 ≡ b = same_block m.0 b (sym (block_number (type_trees c.types) c m.0 d m.2) ∙ same) in
      (m.1.0, m.1.1 ∙ ap Some e)

  -- and an operation of it
  held_op : (p q : ℕ) (d : DialectBlock) (o : DialectOp) (r : OpRef) → slice_get g.blocks p ≡ Some d → slice_get d.ops q ≡ Some o → o.number ≡ r.0 → Stands r (held c f.0)
  held_op p q d o r at here same =
      let b : BlockRef = record { 0 = d.number } in
      let region = held_block p d b at refl in
      let parts = block_parts c b d (own_block c f g is p d b at refl) in
      let m = made_of (op_at (type_trees c.types) c.ops) (list_at c.lists b) q o (ap (λ (os : List DialectOp). slice_get os q) (sym parts.ops) ∙ here) in
      let e : m.0 ≡ r = same_op m.0 r (sym (op_number (type_trees c.types) c.ops m.0 o m.2) ∙ same) in
      stands_flat (list_at c.lists) (region_at c.ops f.0) b r region.0 region.1 (m.1.0, m.1.1 ∙ ap Some e)

  -- ---- what stands before a use is held

  before_held : (j k : ℕ) (v : Value) → StandsBefore g j k v → IsHeldBy c f v
  before_held j k (Argument b i) s = held_block s.0 s.1 b s.3 s.4
  before_held j k (Result r) s =
      ⊎_elim before here (stands_cases s.1 (flat_map (λ (b : DialectBlock). b.ops) (take j g.blocks)) (option_map_or (λ (b : DialectBlock). take k b.ops) (slice_get g.blocks j) []) s.0 s.2)
    where
      before : Stands s.1 (flat_map (λ (b : DialectBlock). b.ops) (take j g.blocks)) → Stands r (held c f.0)
      before h =
          let w = flat_stands (λ (b : DialectBlock). b.ops) (take j g.blocks) s.1 h.0 h.1 in
          held_op w.1.0 w.2.0 w.0 s.1 r (take_there j g.blocks w.1.0 w.0 w.1.1) w.2.1 s.3

      here : Stands s.1 (option_map_or (λ (b : DialectBlock). take k b.ops) (slice_get g.blocks j) []) → Stands r (held c f.0)
      here h = by (slice_get g.blocks j) refl h.1
        where
          by : (d : Option DialectBlock) → slice_get g.blocks j ≡ d → slice_get (option_map_or (λ (b : DialectBlock). take k b.ops) d []) h.0 ≡ Some s.1 → Stands r (held c f.0)
          by None at e = absurd (none-some s.1 e)
          by (Some d) at e = held_op j h.0 d s.1 r at (take_there k d.ops h.0 s.1 e) s.3

  -- ---- what is not held stands before nothing

  module _ (order : List ℕ) where
    in_blocks : (x : ℕ) (d : DialectBlock) → slice_get (arranged order g).blocks x ≡ Some d → (p : ℕ) × (slice_get g.blocks p ≡ Some d)
    in_blocks x d at = let m = made_of (slice_get g.blocks) order x d at in (m.0, m.2)

    never : (j k : ℕ) (v : Value) → ¬ IsHeldBy c f v → ¬ StandsBefore (arranged order g) j k v
    never j k (Argument b i) foreign s = let p = in_blocks s.0 s.1 s.3 in foreign (held_block p.0 s.1 b p.1 s.4)
    never j k (Result r) foreign s =
        ⊎_elim before here (stands_cases s.1 (flat_map (λ (b : DialectBlock). b.ops) (take j (arranged order g).blocks)) (option_map_or (λ (b : DialectBlock). take k b.ops) (slice_get (arranged order g).blocks j) []) s.0 s.2)
      where
        before : Stands s.1 (flat_map (λ (b : DialectBlock). b.ops) (take j (arranged order g).blocks)) → ⊥
        before h =
            let w = flat_stands (λ (b : DialectBlock). b.ops) (take j (arranged order g).blocks) s.1 h.0 h.1 in
            let p = in_blocks w.1.0 w.0 (take_there j (arranged order g).blocks w.1.0 w.0 w.1.1) in
            foreign (held_op p.0 w.2.0 w.0 s.1 r p.1 w.2.1 s.3)

        here : Stands s.1 (option_map_or (λ (b : DialectBlock). take k b.ops) (slice_get (arranged order g).blocks j) []) → ⊥
        here h = by (slice_get (arranged order g).blocks j) refl h.1
          where
            by : (d : Option DialectBlock) → slice_get (arranged order g).blocks j ≡ d → slice_get (option_map_or (λ (b : DialectBlock). take k b.ops) d []) h.0 ≡ Some s.1 → ⊥
            by None at e = none-some s.1 e
            by (Some d) at e = let p = in_blocks j d at in foreign (held_op p.0 h.0 d s.1 r p.1 (take_there k d.ops h.0 s.1 e) s.3)

  -- ---- what the search finds

  module _ (there : (k : ℕ) (b : BlockRef) → slice_get (region_at c.ops f.0) k ≡ Some b → b.0 < length c.blocks) where
    -- an operation that is held stands in a block of the function
    pub record IsPlacedAt (o : DialectOp) : Type 0 where
      pub block : ℕ
      pub is_block : DialectBlock
      pub here : slice_get g.blocks block ≡ Some is_block
      pub place : ℕ
      pub at : slice_get is_block.ops place ≡ Some o

    op_there : (i : ℕ) (r : OpRef) (o : DialectOp) → slice_get (held c f.0) i ≡ Some r → op_at (type_trees c.types) c.ops r ≡ Some o → IsPlacedAt o
    op_there i r o at op =
        let w = flat_stands (list_at c.lists) (region_at c.ops f.0) r i at in
        let b = block_there (type_trees c.types) c w.0 (there w.1.0 w.0 w.1.1) in
        let d = stands_made (block_in (type_trees c.types) c) (region_at c.ops f.0) w.1.0 w.0 _ w.1.1 b.2 in
        let q = stands_made (op_at (type_trees c.types) c.ops) (list_at c.lists w.0) w.2.0 r o w.2.1 op in
        record {
          block = d.0;
          is_block = block_of (type_trees c.types) c w.0 b.0;
          here = ap (λ (xs : List DialectBlock). slice_get xs d.0) (func_parts c f g is).blocks ∙ d.1;
          place = q.0;
          at = ap (λ (os : List DialectOp). slice_get os q.0) (block_parts c w.0 _ b.2).ops ∙ q.1;
        }

    -- a value that is not held is a cause
    pub foreign_cause : (order : List ℕ) → IsTaken g order → (i : ℕ) (r : OpRef) (v : Value) (name : List ℕ) → slice_get (held c f.0) i ≡ Some r → UsesForeign c f r v → name ≡ given_name c v → IsFuncCause c g (E.UndefinedValue name)
    foreign_cause order taken i r v name at h named d place here =
        let o = op_there i r h.op at h.is in
        record {
          block = record { place = place; function = g; here = here; block = o.block; is = o.is_block; there = o.here };
          place = o.place;
          op = h.op;
          at = o.at;
          value = v;
          used = h.used;
          order = order;
          is_order = taken.is;
          early = never order (turn_of order o.block) o.place v h.foreign;
          named = named;
        }

    same : func_at c f ≡ g
    same = same_Some (func_at c f) g (sym (func_data c f ((func_parts c f g is).symbol, (func_parts c f g is).symbol_is)) ∙ is)

    -- what is held, and has a type, is a value of the function
    own_value : (v : Value) → IsHeldBy c f v → IsTypedBy (type_in c) v → IsValueOf g v
    own_value (Result r) h t = subst (λ (x : Func). IsValueOf x (Result r)) same (t.0, sym (result_value c f there r h) ∙ t.1)
    own_value (Argument b i) h t = subst (λ (x : Func). IsValueOf x (Argument b i)) same (t.0, sym (argument_value c f there b i h) ∙ t.1)

    -- where all that is used is held
    pub own_of : All (UsesHeld c f) (held c f.0) → IsWellFormedFunc (type_in c) g → HasOwnValues g
    own_of all well j k b o at here =
        let r : OpRef = record { 0 = o.number } in
        let stands = held_op j k b o r at here refl in
        let uses = all_at (UsesHeld c f) (held c f.0) stands.0 r all stands.1 o (own_op c f g is j k b o r at here refl) in
        let block = all_at (IsWellFormedBlock (type_in c) g) g.blocks j b well.blocks at in
        let typed = uses_typed (type_in c) g o (all_at (IsWellFormedOp (type_in c) g) b.ops k o block.ops here) in
        all_from (IsValueOf g) (uses_of o) (λ i v at'. own_value v (all_at (IsHeldBy c f) (uses_of o) i v uses at') (all_at (IsTypedBy (type_in c)) (uses_of o) i v typed at'))

    -- where each value stands before its uses
    pub own_in_order : IsInOrder g → IsWellFormedFunc (type_in c) g → HasOwnValues g
    own_in_order order well j k b o at here =
        let block = all_at (IsWellFormedBlock (type_in c) g) g.blocks j b well.blocks at in
        let typed = uses_typed (type_in c) g o (all_at (IsWellFormedOp (type_in c) g) b.ops k o block.ops here) in
        let uses = order j k b o at here in
        all_from (IsValueOf g) (uses_of o) (λ i v at'. own_value v (before_held j k v (all_at (StandsBefore g j k) (uses_of o) i v uses at')) (all_at (IsTypedBy (type_in c)) (uses_of o) i v typed at'))
