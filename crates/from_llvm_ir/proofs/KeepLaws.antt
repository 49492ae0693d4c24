-- What the calls that build leave of all that a context held before.
use Rattle.std.proofs.Common.{ℕ, ◌≡◌, ◌<◌, ◌≤◌, refl, sym, ap, subst, ◌∙◌, List, [], ◌∷◌, ◌++◌, Option, Some, None, All, length, slice_get, arith}
use Rattle.std.specs.List.{filter_map, cons_option}
use Rattle.std.specs.Option.{option_map, option_and_then}
use Rattle.std.proofs.lemmas.List.Elements.{All-nil, All-cons, All-head, All-tail}
use Rattle.std.proofs.lemmas.Option.{none-some, slice_get_within, same_Some}
use Rattle.support.specs.Changes.{with_change}
use Rattle.support.proofs.ListLaws.{all_from, length-with_change, slice_get-kept}
use Rattle.dialect_types.specs.Trees.{type_trees, structs_of}
use Rattle.dialect_core.specs.declared.numbers.OpRef.{OpRef}
use Rattle.dialect_core.specs.declared.numbers.BlockRef.{BlockRef}
use Rattle.dialect_core.specs.declared.ops.Symbol.{Symbol}
use Rattle.dialect_core.specs.declared.ops.OpData.{OpData}
use Rattle.dialect_core.specs.declared.ops.BlockData.{BlockData}
use Rattle.dialect_core.specs.ContextData.{ContextData, AreRegions, empty_context, with_op, with_block, with_appended, holder_at, region_at}
use Rattle.dialect_core.specs.Data.{DialectModule, Func, DialectBlock, DialectOp, IsTyped, block_of, block_in, func_of, func_in, held, data_of, with_func_block, with_block_op}
use Rattle.dialect_core.proofs.FilterLemmas.{change_get_other}
use Rattle.dialect_core.proofs.NewBlockLemmas.{func}
use Rattle.dialect_core.proofs.TypeLemmas.{more_types_data}
use Rattle.dialect_core.proofs.TypedLemmas.{more_types_typed}
use Rattle.from_llvm_ir.specs.Types.{AddsTypes, GrowsTypes}
use Rattle.from_llvm_ir.specs.Imported.{IsBelow, IsBuilding}
use Rattle.from_llvm_ir.specs.Staying.{StaysBelow}
use Rattle.from_llvm_ir.specs.Keeping.{IsStill, Leaves, Keeps, AreOthersKept}
use Rattle.from_llvm_ir.proofs.BuildLaws.{length-push, region_kept, region_more}
use Rattle.from_llvm_ir.proofs.TypeLaws.{adds}
use Rattle.from_llvm_ir.proofs.UnderLaws.{funcs_kept, ops_kept}

-- ---- what stands before a change

push_stays : {X : Type 0} (n : ℕ) (xs : List X) (x : X) → StaysBelow n xs (xs ++ x ∷ [])
push_stays n xs x = λ i y small at. slice_get-kept xs (x ∷ []) i y at

change_stays : {X : Type 0} (n : ℕ) (f : X → X) (i : ℕ) (xs : List X) → n ≤ i → StaysBelow n xs (with_change f i xs)
change_stays n f i xs later = λ j y small at. change_get_other f i xs j (λ same. omega (arith, small, later, same)) ∙ at

still_none : (n b : ℕ) (c : ContextData) → n ≤ length c.ops → IsStill n b c c
still_none n b c long = record { longer = long; types = λ i x at. at; ops = λ i x small at. at; parents = λ i x small at. at; blocks = λ i x small at. at; lists = λ i x small at. at }

still_then : (n b : ℕ) (x y z : ContextData) → IsStill n b x y → IsStill n b y z → IsStill n b x z
still_then n b x y z g h = record {
  longer = h.longer;
  types = λ i t at. h.types i t (g.types i t at);
  ops = λ i t small at. h.ops i t small (g.ops i t small at);
  parents = λ i t small at. h.parents i t small (g.parents i t small at);
  blocks = λ i t small at. h.blocks i t small (g.blocks i t small at);
  lists = λ i t small at. h.lists i t small (g.lists i t small at);
}

still_op : (n b : ℕ) (c c' : ContextData) (x : OpData) → c' ≡ with_op c x → n ≤ length c.ops → IsStill n b c c'
still_op n b c c' x e long = subst (IsStill n b c) (sym e) (record {
  longer = omega (arith, long, length-push c.ops x);
  types = λ i t at. at;
  ops = push_stays n c.ops x;
  parents = push_stays n c.parents None;
  blocks = λ i t small at. at;
  lists = λ i t small at. at;
})

-- an operation and a block that came later
still_appended : (n b : ℕ) (c c' : ContextData) (op : OpRef) (block : BlockRef) → c' ≡ with_appended c op block → n ≤ op.0 → b ≤ block.0 → n ≤ length c.ops → IsStill n b c c'
still_appended n b c c' op block e later behind long = subst (IsStill n b c) (sym e) (record {
  longer = long;
  types = λ i t at. at;
  ops = λ i t small at. at;
  parents = change_stays n (λ _. Some block) op.0 c.parents later;
  blocks = λ i t small at. at;
  lists = change_stays b (λ (xs : List OpRef). xs ++ op ∷ []) block.0 c.lists behind;
})

-- ---- one call after another

leaves_none : (n b : ℕ) (c : ContextData) → Leaves n b c c
leaves_none n b c = record { still = still_none n b c; kept = λ typed long. record { typed = typed; same = λ k small below. refl } }

pub leaves_then : (n b : ℕ) (x y z : ContextData) → Leaves n b x y → Leaves n b y z → Leaves n b x z
leaves_then n b x y z g h = record {
  still = λ long. let first = g.still long in still_then n b x y z first (h.still first.longer);
  kept = λ typed long.
      let first = g.kept typed long in
      let next = h.kept first.typed (g.still long).longer in
      record {
        typed = next.typed;
        same = λ k small below. next.same k small (subst (λ (d : DialectModule). All (IsBelow n b) d.functions) (sym (first.same k small below)) below) ∙ first.same k small below;
      };
}

pub keeps_none : (n b : ℕ) (c : ContextData) → Keeps n b c c
keeps_none n b c = record { leaves = leaves_none n b c; structs = refl }

pub keeps_same : (n b : ℕ) (c c' : ContextData) → c' ≡ c → Keeps n b c c'
keeps_same n b c c' e = subst (Keeps n b c) (sym e) (keeps_none n b c)

pub keeps_then : (n b : ℕ) (x y z : ContextData) → Keeps n b x y → Keeps n b y z → Keeps n b x z
keeps_then n b x y z g h = record { leaves = leaves_then n b x y z g.leaves h.leaves; structs = h.structs ∙ g.structs }

-- all that the context held, where the second call grows what the first began as the last operation and block
pub leaves_begun : (x y z : ContextData) (m body : ℕ) → ((n b : ℕ) → n ≤ length x.ops → Keeps n b x y) → m ≡ length x.ops → body ≡ length x.blocks → ((n b : ℕ) → n ≤ m → b ≤ body → Leaves n b y z) → Leaves (length x.ops) (length x.blocks) x z
leaves_begun x y z m body began last_op last_block grew =
    leaves_then (length x.ops) (length x.blocks) x y z (began (length x.ops) (length x.blocks) (omega arith)).leaves (grew (length x.ops) (length x.blocks) (omega (arith, last_op)) (omega (arith, last_block)))

-- ---- more types

-- structs with a name among them
pub leaves_added : (n b : ℕ) (c c' : ContextData) → AddsTypes c c' → Leaves n b c c'
leaves_added n b c c' g = subst (Leaves n b c) (sym g.rest) (record {
  still = λ long. record { longer = long; types = g.more.still; ops = λ i x small at. at; parents = λ i x small at. at; blocks = λ i x small at. at; lists = λ i x small at. at };
  kept = λ typed long. record {
    typed = more_types_typed c c'.types typed g.more.longer;
    same = λ k small below. more_types_data c c'.types typed g.more.kept k;
  };
})

pub keeps_types : (n b : ℕ) (c c' : ContextData) → GrowsTypes c c' → Keeps n b c c'
keeps_types n b c c' g = record { leaves = leaves_added n b c c' (adds c c' g); structs = g.structs }

same_structs : (c c' : ContextData) → c'.types ≡ c.types → structs_of c'.types ≡ structs_of c.types
same_structs c c' e = ap structs_of e

-- ---- an operation, a function, a block more

-- a new block of an operation that came later
pub keeps_block : (n b : ℕ) (c c' : ContextData) (x : BlockRef) (y : BlockData) (d : DialectBlock) → c' ≡ with_block c x y → ((m : ℕ) → data_of c' m ≡ with_func_block (data_of c m) y.holder.0 d) → (IsTyped c → IsTyped c') → n ≤ y.holder.0 → Keeps n b c c'
keeps_block n b c c' x y d e changed typed later = record { leaves = left; structs = same_structs c c' (ap (λ (k : ContextData). k.types) e) }
  where
    numbers_below : (fs : List Func) → All (IsBelow n b) fs → All (IsBelow y.holder.0 b) fs
    numbers_below [] h = All-nil _
    numbers_below (f ∷ fs) h = let here = All-head (IsBelow n b) f fs h in All-cons (IsBelow y.holder.0 b) f fs (omega (arith, here.0, later), here.1) (numbers_below fs (All-tail (IsBelow n b) f fs h))

    left : Leaves n b c c'
    left = record {
      still = λ long. subst (IsStill n b c) (sym e) (record {
        longer = omega (arith, long, length-with_change (region_more x) y.holder.0 c.ops);
        types = λ i t at. at;
        ops = change_stays n (region_more x) y.holder.0 c.ops later;
        parents = λ i t small at. at;
        blocks = push_stays b c.blocks y;
        lists = push_stays b c.lists [];
      });
      kept = λ was long. record {
        typed = typed was;
        same = λ k small below. changed k ∙ ap (λ (fs : List Func). record (data_of c k) { functions = fs }) (funcs_kept y.holder.0 b d (data_of c k).functions (numbers_below (data_of c k).functions below));
      };
    }

-- an operation in no block
pub keeps_new : (n b : ℕ) (c c' : ContextData) (x : OpData) → c' ≡ with_op c x → ((m : ℕ) → m < length c.ops → data_of c' m ≡ data_of c m) → (IsTyped c → IsTyped c') → Keeps n b c c'
keeps_new n b c c' x e stays typed = record {
  leaves = record {
    still = still_op n b c c' x e;
    kept = λ was long. record {
      typed = typed was;
      same = λ k small below. stays k (omega (arith, small, long));
    };
  };
  structs = same_structs c c' (ap (λ (k : ContextData). k.types) e);
}

-- a new operation, which a later block takes
pub keeps_op : (n b : ℕ) (c0 c c' : ContextData) (op : OpRef) (block : BlockRef) (o : DialectOp) → Keeps n b c0 c → op.0 ≡ length c0.ops → c' ≡ with_appended c op block → ((m : ℕ) → data_of c' m ≡ with_block_op (data_of c m) block.0 o) → (IsTyped c → IsTyped c') → b ≤ block.0 → Keeps n b c0 c'
keeps_op n b c0 c c' op block o new number e changed typed behind = record {
  leaves = record {
    still = λ long. (leaves_then n b c0 c c' new.leaves (taken (omega (arith, long, number)))).still long;
    kept = λ was long. (leaves_then n b c0 c c' new.leaves (taken (omega (arith, long, number)))).kept was long;
  };
  structs = same_structs c c' (ap (λ (k : ContextData). k.types) e) ∙ new.structs;
}
  where
    blocks_below : (fs : List Func) → All (IsBelow n b) fs → All (λ (f : Func). All (λ (x : DialectBlock). x.number < b) f.blocks) fs
    blocks_below [] h = All-nil _
    blocks_below (f ∷ fs) h = All-cons (λ (f : Func). All (λ (x : DialectBlock). x.number < b) f.blocks) f fs (All-head (IsBelow n b) f fs h).1 (blocks_below fs (All-tail (IsBelow n b) f fs h))

    taken : n ≤ op.0 → Leaves n b c c'
    taken later = record {
      still = still_appended n b c c' op block e later behind;
      kept = λ was long. record {
        typed = typed was;
        same = λ k small below. changed k ∙ ap (λ (fs : List Func). record (data_of c k) { functions = fs }) (ops_kept b block.0 o (data_of c k).functions behind (blocks_below (data_of c k).functions below));
      };
    }

-- ---- what a context held

filtered : {X Y : Type 0} (f : X → Option Y) (P : Y → Type 0) (xs : List X) → ((x : X) (y : Y) → f x ≡ Some y → P y) → All P (filter_map f xs)
filtered f P [] h = All-nil P
filtered {Y = Y} f P (x ∷ xs) h = next (f x) refl (filtered f P xs h)
  where
    next : (o : Option Y) → f x ≡ o → All P (filter_map f xs) → All P (cons_option o (filter_map f xs))
    next None e rest = rest
    next (Some y) e rest = All-cons P y (filter_map f xs) (h x y e) rest

module _ (c : ContextData) where
  block_below : (b : BlockRef) (x : DialectBlock) → block_in (type_trees c.types) c b ≡ Some x → x.number < length c.blocks
  block_below b x at = by (slice_get c.blocks b.0) refl at
    where
      by : (v : Option BlockData) → slice_get c.blocks b.0 ≡ v → option_map (block_of (type_trees c.types) c b) v ≡ Some x → x.number < length c.blocks
      by None e at = absurd (none-some x at)
      by (Some y) e at = let small = slice_get_within c.blocks b.0 y e in let same = ap (λ (z : DialectBlock). z.number) (same_Some (block_of (type_trees c.types) c b y) x at) in omega (arith, small, same)

  func_below : (o : OpRef) (f : Func) → func_in (type_trees c.types) c o ≡ Some f → IsBelow (length c.ops) (length c.blocks) f
  func_below o f at = by (slice_get c.ops o.0) refl at
    where
      blocks : (x : OpData) → All (λ (y : DialectBlock). y.number < length c.blocks) (filter_map (block_in (type_trees c.types) c) x.blocks)
      blocks x = filtered (block_in (type_trees c.types) c) (λ (y : DialectBlock). y.number < length c.blocks) x.blocks block_below

      of : (x : OpData) (s : Option Symbol) → o.0 < length c.ops → All (λ (y : DialectBlock). y.number < length c.blocks) (filter_map (block_in (type_trees c.types) c) x.blocks)
          → option_map (λ (s : Symbol). func (type_trees c.types) o x s (filter_map (block_in (type_trees c.types) c) x.blocks)) s ≡ Some f → IsBelow (length c.ops) (length c.blocks) f
      of x None small bs at = absurd (none-some f at)
      of x (Some s) small bs at = subst (IsBelow (length c.ops) (length c.blocks)) (same_Some (func (type_trees c.types) o x s (filter_map (block_in (type_trees c.types) c) x.blocks)) f at) (small, bs)

      by : (v : Option OpData) → slice_get c.ops o.0 ≡ v → option_and_then (func_of (type_trees c.types) c o) v ≡ Some f → IsBelow (length c.ops) (length c.blocks) f
      by None e at = absurd (none-some f at)
      by (Some x) e at = of x x.symbol (slice_get_within c.ops o.0 x e) (blocks x) at

  -- the data of a module name functions and blocks that are there
  pub all_below : (k : ℕ) → All (IsBelow (length c.ops) (length c.blocks)) (data_of c k).functions
  all_below k = filtered (func_in (type_trees c.types) c) (IsBelow (length c.ops) (length c.blocks)) (held c k) func_below

-- so all that a context held stays what it was
pub others_kept : (c c' : ContextData) → Leaves (length c.ops) (length c.blocks) c c' → AreOthersKept c c'
others_kept c c' h = record { still = h.still (omega arith); same = λ typed n small. (h.kept typed (omega arith)).same n small (all_below c n) }

pub types_kept : (c c' : ContextData) → Leaves (length c.ops) (length c.blocks) c c' → IsTyped c → IsTyped c'
types_kept c c' h typed = (h.kept typed (omega arith)).typed

-- an empty context has no numbers of types
pub empty_typed : (c : ContextData) → c ≡ empty_context → IsTyped c
empty_typed c e = subst IsTyped (sym e) (record { ops = λ o x at. absurd (none-some x at); blocks = λ b x at. absurd (none-some x at) })

-- ---- a function that the module's block takes

-- no block of a module that came before is the block for functions
pub not_body : (c : ContextData) (m : ℕ) (body : BlockRef) (d : DialectModule) → IsBuilding c m body d → AreRegions (region_at c.ops) (holder_at c.blocks) → (k : ℕ) → k < m → All (λ (b : BlockRef). ¬ (b.0 ≡ body.0)) (region_at c.ops k)
not_body c m body d h regions k before = all_from (λ (b : BlockRef). ¬ (b.0 ≡ body.0)) (region_at c.ops k) (λ i b at same.
    let of_k = regions.ours k i b at in
    let of_m = regions.ours m 0 body (ap (λ (bs : List BlockRef). slice_get bs 0) h.held.region) in
    let one : k ≡ m = same_Some k m (sym of_k ∙ ap (holder_at c.blocks) same ∙ of_m) in
    omega (arith, one, before))

pub keeps_func : (n b : ℕ) (c0 c1 c2 : ContextData) (m : ℕ) (body : BlockRef) (d : DialectModule) (x : OpData) (o : OpRef) → IsBuilding c0 m body d → AreRegions (region_at c0.ops) (holder_at c0.blocks) → n ≤ m → b ≤ body.0
    → c1 ≡ with_op c0 x → o.0 ≡ length c0.ops → ((k : ℕ) → k < length c0.ops → data_of c1 k ≡ data_of c0 k) → c2 ≡ with_appended c1 o body
    → ((k : ℕ) → All (λ (b : BlockRef). ¬ (b.0 ≡ body.0)) (region_at c1.ops k) → data_of c2 k ≡ data_of c1 k) → (IsTyped c0 → IsTyped c2) → Keeps n b c0 c2
keeps_func n b c0 c1 c2 m body d x o h regions before behind e1 number first e2 second typed = record {
  leaves = record {
    still = λ long. let new = still_op n b c0 c1 x e1 long in still_then n b c0 c1 c2 new (still_appended n b c1 c2 o body e2 (omega (arith, long, number)) behind new.longer);
    kept = λ was long. record {
      typed = typed was;
      same = λ k small below.
          let there : k < length c0.ops = omega (arith, small, before, h.there) in
          let region : region_at c1.ops k ≡ region_at c0.ops k = ap (λ (c : ContextData). region_at c.ops k) e1 ∙ region_kept c0.ops x k there in
          let P : List BlockRef → Type 0 = All (λ (b : BlockRef). ¬ (b.0 ≡ body.0)) in
          second k (subst P (sym region) (not_body c0 m body d h regions k (omega (arith, small, before)))) ∙ first k there;
    };
  };
  structs = same_structs c1 c2 (ap (λ (k : ContextData). k.types) e2) ∙ same_structs c0 c1 (ap (λ (k : ContextData). k.types) e1);
}
