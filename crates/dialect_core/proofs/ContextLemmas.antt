-- What operations and blocks name stays there when the building calls add to them.
use Rattle.std.proofs.Common.{◌≡◌, ◌<◌, ◌≤◌, ◌+◌, ◌⊎◌, ℕ, zero, suc, List, [], ◌∷◌, ◌++◌, Option, Some, None, All, length, slice_get, slice_set, get_or, ap, sym, ◌∙◌, refl, inl, inr, arith, length-append}
use Rattle.std.specs.Option.{option_map, option_map_or}
use Rattle.std.proofs.lemmas.Option.{slice_get_within, slice_get-get_or, none-some}
use Rattle.std.proofs.lemmas.List.{length-set}
use Rattle.dialect_types.proofs.TreeLemmas.{push_cases}
use Rattle.support.proofs.ListLaws.{slice_get-before}
use Rattle.support.specs.Changes.{with_change}
use Rattle.dialect_types.specs.declared.types.TypeHandle.{TypeHandle}
use Rattle.dialect_types.specs.declared.types.TypeKind.{TypeKind}
use Rattle.dialect_core.specs.declared.numbers.OpRef.{OpRef}
use Rattle.dialect_core.specs.declared.numbers.BlockRef.{BlockRef}
use Rattle.dialect_core.specs.declared.ops.Value.{Value}
use Rattle.dialect_core.specs.declared.ops.Value.TheVariants.{Result, Argument}
use Rattle.dialect_core.specs.declared.ops.OpKind.{OpKind}
use Rattle.dialect_core.specs.declared.ops.OpData.{OpData}
use Rattle.dialect_core.specs.declared.ops.BlockData.{BlockData}
use Rattle.dialect_core.specs.Lists.{Lists}
use Rattle.dialect_core.specs.ContextData.{ContextData, with_op, with_name, with_argument, with_block, IsValueWithin, IsOpWithin, IsContext, kind_at, HoldsMore}
use Rattle.dialect_core.proofs.ListLemmas.{slice_get-last}

-- a change at a place that is there
pub with_change_at : {X : Type 0} (f : X → X) (i : ℕ) (xs : List X) (x : X) → i < length xs → x ≡ get_or xs i x → with_change f i xs ≡ slice_set xs i (f x)
with_change_at f i xs x h is = ap (λ (o : Option _). option_map_or (λ x. slice_set xs i (f x)) o xs) (slice_get-get_or xs i x h ∙ ap Some (sym is))

-- what stands at a place of a list with one item replaced
set_cases : {X : Type 0} (xs : List X) (i j : ℕ) (x y : X) → slice_get (slice_set xs i x) j ≡ Some y → (slice_get xs j ≡ Some y) ⊎ (y ≡ x)
set_cases [] i j x y h = inl h
set_cases (z ∷ xs) zero zero x y h = inr (cc)
set_cases (z ∷ xs) zero (suc j) x y h = inl h
set_cases (z ∷ xs) (suc i) zero x y h = inl h
set_cases (z ∷ xs) (suc i) (suc j) x y h = set_cases xs i j x y h

-- ---- more operations and blocks

value_still : (n m n' m' : ℕ) → n ≤ n' → m ≤ m' → (v : Value) → IsValueWithin n m v → IsValueWithin n' m' v
value_still n m n' m' a b (Result o) h = omega arith
value_still n m n' m' a b (Argument c i) h = omega arith

pub op_still : (n m n' m' : ℕ) → n ≤ n' → m ≤ m' → (x : OpData) → IsOpWithin n m x → IsOpWithin n' m' x
op_still n m n' m' a b x h = record {
  operands = λ k d l. value_still n m n' m' a b _ (h.operands k d l);
  successors = λ k d l. (omega (arith, (h.successors k d l).0), λ j e within. value_still n m n' m' a b _ ((h.successors k d l).1 j e within));
  blocks = λ k d l. omega (arith, h.blocks k d l);
  symbol = h.symbol;
}

pub add_op_kept : (ops : List OpData) (blocks : List BlockData) (parents : List (Option BlockRef)) (lists : List (List OpRef)) (x : OpData) → IsContext ops blocks parents lists → IsOpWithin (length ops) (length blocks) x → IsContext (ops ++ x ∷ []) blocks (parents ++ None ∷ []) lists
add_op_kept ops blocks parents lists x h new = record {
  parent_each = omega (arith, h.parent_each, length-append parents (None ∷ []), length-append ops (x ∷ []));
  list_each = h.list_each;
  within = λ o y at. elim (push_cases ops x y o at) [
    | inl old ↦ op_still (length ops) (length blocks) _ _ (omega (arith, length-append ops (x ∷ []))) (omega arith) y (h.within o y old)
    | inr last ↦ rw last.0 (op_still (length ops) (length blocks) _ _ (omega (arith, length-append ops (x ∷ []))) (omega arith) x new)
  ];
  standing = λ b xs at k d l. let was = h.standing b xs at k d l in slice_get-before parents (None ∷ []) (get_or xs k d).0 (slice_get_within parents (get_or xs k d).0 _ was) ∙ was;
  holders = λ b y at. omega (arith, h.holders b y at, length-append ops (x ∷ []));
}

pub set_op_kept : (ops : List OpData) (blocks : List BlockData) (parents : List (Option BlockRef)) (lists : List (List OpRef)) (o : ℕ) (x : OpData) → IsContext ops blocks parents lists → IsOpWithin (length ops) (length blocks) x → IsContext (slice_set ops o x) blocks parents lists
set_op_kept ops blocks parents lists o x h new = record {
  parent_each = omega (arith, h.parent_each, length-set ops o x);
  list_each = h.list_each;
  within = λ j y at. rw length-set (elim (set_cases ops o j x y at) [ inl old ↦ h.within j y old | inr is ↦ rw is new ]);
  standing = h.standing;
  holders = λ b y at. omega (arith, h.holders b y at, length-set ops o x);
}

pub set_block_kept : (ops : List OpData) (blocks : List BlockData) (parents : List (Option BlockRef)) (lists : List (List OpRef)) (b : ℕ) (x : BlockData) → IsContext ops blocks parents lists → x.holder.0 < length ops → IsContext ops (slice_set blocks b x) parents lists
set_block_kept ops blocks parents lists b x h new = record {
  parent_each = h.parent_each;
  list_each = omega (arith, h.list_each, length-set blocks b x);
  within = λ o y at. rw length-set (h.within o y at);
  standing = h.standing;
  holders = λ j y at. elim (set_cases blocks b j x y at) [ inl old ↦ h.holders j y old | inr is ↦ rw is new ];
}

pub add_block_kept : (ops : List OpData) (blocks : List BlockData) (parents : List (Option BlockRef)) (lists : List (List OpRef)) (x : BlockData) → IsContext ops blocks parents lists → x.holder.0 < length ops → IsContext ops (blocks ++ x ∷ []) parents (lists ++ [] ∷ [])
add_block_kept ops blocks parents lists x h new = record {
  parent_each = h.parent_each;
  list_each = omega (arith, h.list_each, length-append blocks (x ∷ []), length-append lists ([] ∷ []));
  within = λ o y at. op_still (length ops) (length blocks) _ _ (omega arith) (omega (arith, length-append blocks (x ∷ []))) y (h.within o y at);
  standing = λ b xs at. elim (push_cases lists [] xs b at) [ inl old ↦ h.standing b xs old | inr last ↦ rw last.0 (λ k d l. absurd (omega arith)) ];
  holders = λ b y at. elim (push_cases blocks x y b at) [ inl old ↦ h.holders b y old | inr last ↦ rw last.0 new ];
}

-- the operation that stands at a place is within
pub op_within : (ops : List OpData) (blocks : List BlockData) (parents : List (Option BlockRef)) (lists : List (List OpRef)) (o : ℕ) (x : OpData) → IsContext ops blocks parents lists → o < length ops → x ≡ get_or ops o x → IsOpWithin (length ops) (length blocks) x
op_within ops blocks parents lists o x h within is = h.within o x (slice_get-get_or ops o x within ∙ ap Some (sym is))

pub block_holder_within : (ops : List OpData) (blocks : List BlockData) (parents : List (Option BlockRef)) (lists : List (List OpRef)) (b : ℕ) (x : BlockData) → IsContext ops blocks parents lists → b < length blocks → x ≡ get_or blocks b x → x.holder.0 < length ops
block_holder_within ops blocks parents lists b x h within is = h.holders b x (slice_get-get_or blocks b x within ∙ ap Some (sym is))

-- a region with a block more
push_within : (xs : List BlockRef) (b : BlockRef) (n m : ℕ) → All (λ (x : BlockRef). x.0 < n) xs → n ≤ m → b.0 < m → (k : ℕ) (d : BlockRef) → k < length (xs ++ b ∷ []) → (get_or (xs ++ b ∷ []) k d).0 < m
push_within [] b n m h more new zero d l = new
push_within [] b n m h more new (suc k) d l = absurd (omega arith)
push_within (x ∷ xs) b n m h more new zero d l = omega (arith, h 0 d (omega arith))
push_within (x ∷ xs) b n m h more new (suc k) d l = push_within xs b n m (λ j e within. h (suc j) e (omega arith)) more new k d (omega arith)

-- an operation's region has a block more, which is new
region_within : (n m : ℕ) (x : OpData) (b : BlockRef) → IsOpWithin n m x → b.0 ≡ m → IsOpWithin n (m + 1) (record x { blocks = x.blocks ++ b ∷ [] })
region_within n m x b h is =
    let still = op_still n m n (m + 1) (omega arith) (omega arith) x h in
    record {
      operands = still.operands;
      successors = still.successors;
      blocks = λ k d l. push_within x.blocks b m (m + 1) h.blocks (omega arith) (omega arith) k d l;
      symbol = still.symbol;
    }

-- the whole addition of a block
pub region_kept : (ops : List OpData) (blocks reserved all : List BlockData) (parents : List (Option BlockRef)) (lists longer : List (List OpRef)) (o : OpRef) (x : OpData) (region : List BlockRef) (b : BlockRef) (new : BlockData) → IsContext ops blocks parents lists → o.0 < length ops → x ≡ get_or ops o.0 x → region ≡ x.blocks ++ b ∷ [] → b.0 ≡ length lists → new.holder ≡ o → reserved ≡ blocks → all ≡ reserved ++ new ∷ [] → longer ≡ lists ++ [] ∷ []
    → IsContext (slice_set ops o.0 (record x { blocks = region })) all parents longer
region_kept ops blocks reserved all parents lists longer o x region b new h within is_x grown is_b holder is_reserved is_all is_longer =
    let more = add_block_kept ops blocks parents lists new h (omega (arith, ap (λ (o : OpRef). o.0) holder)) in
    let few : length (blocks ++ new ∷ []) ≡ length blocks + 1 = omega (arith, length-append blocks (new ∷ [])) in
    rw (is_all, is_reserved, is_longer, grown)
    (set_op_kept ops (blocks ++ new ∷ []) parents (lists ++ [] ∷ []) o.0 (record x { blocks = x.blocks ++ b ∷ [] }) more
    (rw few (region_within (length ops) (length blocks) x b (op_within ops blocks parents lists o.0 x h within is_x) (omega (arith, is_b, h.list_each)))))

-- ---- what the writes of a call make of the context

abbrev pub context : List TypeKind → List OpData → List BlockData → List (Option BlockRef) → List (List OpRef) → ContextData
context types ops blocks parents lists = record { types = types; ops = ops; blocks = blocks; parents = parents; lists = lists }

abbrev pub block : OpRef → Option (List ℕ) → List TypeHandle → BlockData
block holder label args = record { holder = holder; label = label; args = args }

same_context : (types : List TypeKind) (ops ops' : List OpData) (blocks blocks' : List BlockData) (parents : List (Option BlockRef)) (lists lists' : List (List OpRef)) → ops ≡ ops' → blocks ≡ blocks' → lists ≡ lists' → context types ops blocks parents lists ≡ context types ops' blocks' parents lists'
same_context types ops ops' blocks blocks' parents lists lists' a b c = cc

pub named_view : (types : List TypeKind) (ops : List OpData) (blocks : List BlockData) (parents : List (Option BlockRef)) (lists : List (List OpRef)) (o : OpRef) (name : List ℕ) (x : OpData) → o.0 < length ops → x ≡ get_or ops o.0 x
    → context types (slice_set ops o.0 (record x { name = Some name })) blocks parents lists ≡ with_name (context types ops blocks parents lists) o name
named_view types ops blocks parents lists o name x within is =
    ap (λ (all : List OpData). context types all blocks parents lists) (sym (with_change_at (λ (x : OpData). record x { name = Some name }) o.0 ops x within is))

pub argument_view : (types : List TypeKind) (ops : List OpData) (blocks : List BlockData) (parents : List (Option BlockRef)) (lists : List (List OpRef)) (b : BlockRef) (ty : TypeHandle) (x : BlockData) (args : List TypeHandle) → b.0 < length blocks → x ≡ get_or blocks b.0 x → args ≡ x.args ++ ty ∷ []
    → context types ops (slice_set blocks b.0 (record x { args = args })) parents lists ≡ with_argument (context types ops blocks parents lists) b ty
argument_view types ops blocks parents lists b ty x args within is grown =
    ap (λ (args : List TypeHandle). context types ops (slice_set blocks b.0 (record x { args = args })) parents lists) grown
    ∙ ap (λ (all : List BlockData). context types ops all parents lists) (sym (with_change_at (λ (x : BlockData). record x { args = x.args ++ ty ∷ [] }) b.0 blocks x within is))

pub block_view : (types : List TypeKind) (ops : List OpData) (blocks reserved all : List BlockData) (parents : List (Option BlockRef)) (lists longer : List (List OpRef)) (b : BlockRef) (holder : OpRef) (label : Option (List ℕ)) (args given : List TypeHandle) (x : OpData) (region : List BlockRef) → holder.0 < length ops → x ≡ get_or ops holder.0 x → region ≡ x.blocks ++ b ∷ [] → reserved ≡ blocks → all ≡ reserved ++ block holder label args ∷ [] → args ≡ given → longer ≡ lists ++ [] ∷ []
    → context types (slice_set ops holder.0 (record x { blocks = region })) all parents longer ≡ with_block (context types ops blocks parents lists) b (block holder label given)
block_view types ops blocks reserved all parents lists longer b holder label args given x region within is grown is_reserved is_all is_args is_longer =
    let ops_are = ap (λ (region : List BlockRef). slice_set ops holder.0 (record x { blocks = region })) grown ∙ sym (with_change_at (λ (x : OpData). record x { blocks = x.blocks ++ b ∷ [] }) holder.0 ops x within is) in
    let blocks_are = is_all ∙ ap (λ (xs : List BlockData). xs ++ block holder label args ∷ []) is_reserved ∙ ap (λ (args : List TypeHandle). blocks ++ block holder label args ∷ []) is_args in
    same_context types _ _ _ _ parents longer _ ops_are blocks_are is_longer

pub op_view : (types : List TypeKind) (ops reserved all : List OpData) (blocks : List BlockData) (l m : Lists) (x : OpData) → reserved ≡ ops → all ≡ reserved ++ x ∷ [] → m ≡ record l { parents = l.parents ++ None ∷ [] }
    → context types all blocks m.parents m.lists ≡ with_op (context types ops blocks l.parents l.lists) x
op_view types ops reserved all blocks l m x is_reserved is_all is_lists =
    ap (λ (xs : List OpData). context types xs blocks m.parents m.lists) (is_all ∙ ap (λ (xs : List OpData). xs ++ x ∷ []) is_reserved)
    ∙ ap (λ (m : Lists). context types (ops ++ x ∷ []) blocks m.parents m.lists) is_lists

-- ---- what the calls need and say

pub kind_there : (ops : List OpData) (o : OpRef) (k : OpKind) → kind_at ops o ≡ Some k → o.0 < length ops
kind_there ops o k h = by (slice_get ops o.0) refl h
  where
    by : (x : Option OpData) → slice_get ops o.0 ≡ x → option_map (λ (x : OpData). x.kind) x ≡ Some k → o.0 < length ops
    by None at is = absurd (none-some k is)
    by (Some x) at is = slice_get_within ops o.0 x at

pub holder_there : (ops : List OpData) (o : OpRef) → HoldsMore ops o → o.0 < length ops
holder_there ops o (inl func) = kind_there ops o _ func
holder_there ops o (inr module_op) = kind_there ops o _ module_op.0

-- a new operation stands in no block
pub new_free : (parents : List (Option BlockRef)) (n o : ℕ) → length parents ≡ n → o ≡ n → slice_get (parents ++ None ∷ []) o ≡ Some None
new_free parents n o few is = ap (slice_get (parents ++ None ∷ [])) (let e : o ≡ length parents = omega arith in e) ∙ slice_get-last parents None
