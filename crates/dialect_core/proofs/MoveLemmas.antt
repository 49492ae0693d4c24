-- What a context is after an operation came into a block or went out of it: what is named is there, the data of modules, and the types.
use Rattle.std.proofs.Common.{◌≡◌, ◌<◌, ◌⊎◌, ℕ, zero, suc, Bool, true, false, nat_eq, if◌then◌else◌, List, [], ◌∷◌, ◌++◌, Option, Some, None, All, length, slice_get, slice_set, get_or, ap, sym, subst, ◌∙◌, refl, inl, inr, arith}
use Rattle.std.specs.List.{filter_map}
use Rattle.std.specs.Option.{option_map, option_map_or}
use Rattle.std.proofs.lemmas.List.{length-set}
use Rattle.std.proofs.lemmas.Option.{slice_get_within, get_or_from_slice_get, none-some, same_Some}
use Rattle.support.proofs.ListLaws.{length-with_change}
use Rattle.support.specs.Changes.{with_change}
use Rattle.dialect_types.specs.Trees.{type_trees}
use Rattle.dialect_types.specs.declared.types.TypeKind.{TypeKind}
use Rattle.dialect_core.specs.declared.numbers.OpRef.{OpRef}
use Rattle.dialect_core.specs.declared.numbers.BlockRef.{BlockRef}
use Rattle.dialect_core.specs.declared.ops.OpData.{OpData}
use Rattle.dialect_core.specs.declared.ops.BlockData.{BlockData}
use Rattle.dialect_core.specs.Lists.{Lists, Has, AllApart, list_at, with_after, without}
use Rattle.dialect_core.specs.ContextData.{ContextData, IsContext, region_at}
use Rattle.dialect_core.specs.Data.{DialectBlock, DialectOp, Func, op_at, func_in, data_of, at_block, IsTyped}
use Rattle.dialect_core.proofs.ChainLemmas.{Has-append}
use Rattle.dialect_core.proofs.ContextLemmas.{context}
use Rattle.dialect_core.proofs.DataLemmas.{module_data, same_module}
use Rattle.dialect_core.proofs.FilterLemmas.{change_get}
use Rattle.dialect_core.proofs.InsertLemmas.{functions_after, here, elsewhere, func_no_op, op_no_func}
use Rattle.dialect_core.proofs.ListLemmas.{slice_get-set_same, slice_get-set_other}

-- ---- all operations of a list

has_at : (xs : List OpRef) (k : ℕ) (d : OpRef) → k < length xs → Has (get_or xs k d).0 xs
has_at [] k d l = absurd (omega arith)
has_at (x ∷ xs) zero d l = inl refl
has_at (x ∷ xs) (suc k) d l = inr (has_at xs k d (omega arith))

all_by : (P : ℕ → Type 0) (xs : List OpRef) → ((x : OpRef) → Has x.0 xs → P x.0) → All (λ (x : OpRef). P x.0) xs
all_by P xs h = λ k d l. h (get_or xs k d) (has_at xs k d l)

by_all : (P : ℕ → Type 0) (xs : List OpRef) → All (λ (x : OpRef). P x.0) xs → (n : ℕ) → Has n xs → P n
by_all P [] h n k = absurd k
by_all P (x ∷ xs) h n (inl here) = subst P here (h 0 x (omega arith))
by_all P (x ∷ xs) h n (inr there) = by_all P xs (λ k d l. h (suc k) d (omega arith)) n there

-- ---- the operations of a changed list

after_has : (op other : OpRef) (xs : List OpRef) (n : ℕ) → Has n (with_after op other xs) → Has n xs ⊎ (op.0 ≡ n)
after_has op other [] n k = absurd k
after_has op other (x ∷ xs) n k = by (nat_eq x.0 other.0) k (λ there. after_has op other xs n there)
  where
    by : (t : Bool) → Has n (if t then x ∷ (op ∷ xs) else x ∷ with_after op other xs) → (Has n (with_after op other xs) → Has n xs ⊎ (op.0 ≡ n)) → Has n (x ∷ xs) ⊎ (op.0 ≡ n)
    by true (inl here) later = inl (inl here)
    by true (inr (inl new)) later = inr new
    by true (inr (inr there)) later = inl (inr there)
    by false (inl here) later = inl (inl here)
    by false (inr there) later = elim (later there) [ inl old ↦ inl (inr old) | inr new ↦ inr new ]

pub without_has : (op : OpRef) (xs : List OpRef) (n : ℕ) → AllApart xs → Has n (without op xs) → Has n xs × (¬ (n ≡ op.0))
without_has op [] n apart k = absurd k
without_has op (x ∷ xs) n apart k = by (nat_eq x.0 op.0) refl k (λ there. without_has op xs n apart.1 there)
  where
    by : (t : Bool) → nat_eq x.0 op.0 ≡ t → Has n (if t then xs else x ∷ without op xs) → (Has n (without op xs) → Has n xs × (¬ (n ≡ op.0))) → Has n (x ∷ xs) × (¬ (n ≡ op.0))
    by true is there later =
        let same : op.0 ≡ x.0 = grind (arith, is) in
        let P : ℕ → Type 0 = λ m. Has m xs in
        (inr there, λ e. apart.0 (subst P (e ∙ same) there))
    by false is (inl first) later = (inl first, λ e. grind (arith, is, first, e))
    by false is (inr there) later = let w = later there in (inr w.0, w.1)

-- ---- what is named is there

module _ (ops : List OpData) (blocks : List BlockData) (parents : List (Option BlockRef)) (lists : List (List OpRef)) (o : OpRef) (v : Option BlockRef) (b : BlockRef) (g : List OpRef → List OpRef) (h : IsContext ops blocks parents lists) where
  abbrev new_parents : List (Option BlockRef)
  new_parents = slice_set parents o.0 v

  abbrev IsOf : ℕ → ℕ → Type 0
  IsOf c n = slice_get new_parents n ≡ Some (Some (record { 0 = c }))

  still_of : (c n : ℕ) → ¬ (n ≡ o.0) → slice_get parents n ≡ Some (Some (record { 0 = c })) → IsOf c n
  still_of c n apart at = slice_get-set_other parents o.0 n v apart ∙ at

  was_of : (c n : ℕ) (xs : List OpRef) → slice_get lists c ≡ Some xs → Has n xs → slice_get parents n ≡ Some (Some (record { 0 = c }))
  was_of c n xs at k = let P : ℕ → Type 0 = λ m. slice_get parents m ≡ Some (Some (record { 0 = c })) in by_all P xs (h.standing c xs at) n k

  -- the operation was in no other block, and the block's list is of operations that stand in it
  moved_kept : ((c n : ℕ) → ¬ (c ≡ b.0) → slice_get parents n ≡ Some (Some (record { 0 = c })) → ¬ (n ≡ o.0)) → ((xs : List OpRef) → slice_get lists b.0 ≡ Some xs → (n : ℕ) → Has n (g xs) → IsOf b.0 n)
      → IsContext ops blocks new_parents (with_change g b.0 lists)
  moved_kept apart within = record {
    parent_each = omega (arith, h.parent_each, length-set parents o.0 v);
    list_each = length-with_change g b.0 lists ∙ h.list_each;
    within = h.within;
    standing = standing;
    holders = h.holders;
  }
    where
      in_block : (c : ℕ) (ys xs : List OpRef) → c ≡ b.0 → slice_get lists c ≡ Some ys → g ys ≡ xs → All (λ (x : OpRef). IsOf c x.0) xs
      in_block c ys xs same at is = rw (← is, same) (all_by (IsOf b.0) (g ys) (λ x k. within ys (rw same at at) x.0 k))

      standing : (c : ℕ) (xs : List OpRef) → slice_get (with_change g b.0 lists) c ≡ Some xs → All (λ (x : OpRef). IsOf c x.0) xs
      standing c xs at = by (nat_eq c b.0) refl (slice_get lists c) refl (sym (change_get g b.0 lists c) ∙ at)
        where
          by : (t : Bool) → nat_eq c b.0 ≡ t → (ys : Option (List OpRef)) → slice_get lists c ≡ ys → (if t then option_map g (slice_get lists c) else slice_get lists c) ≡ Some xs → All (λ (x : OpRef). IsOf c x.0) xs
          by true same None gone is = absurd (none-some xs (sym (ap (option_map g) gone) ∙ is))
          by true same (Some ys) there is = in_block c ys xs (grind (arith, same)) there (same_Some _ _ (sym (ap (option_map g) there) ∙ is))
          by false differs ys there is =
              all_by (IsOf c) xs (λ x k.
              let was = was_of c x.0 xs is k in
              still_of c x.0 (apart c x.0 (λ same. grind (arith, differs, same)) was) was)

-- an operation of no block comes into one
pub came_kept : (ops : List OpData) (blocks : List BlockData) (parents : List (Option BlockRef)) (lists : List (List OpRef)) (o : OpRef) (b : BlockRef) (g : List OpRef → List OpRef) → IsContext ops blocks parents lists → slice_get parents o.0 ≡ Some None → ((xs : List OpRef) (n : ℕ) → Has n (g xs) → Has n xs ⊎ (o.0 ≡ n))
    → IsContext ops blocks (slice_set parents o.0 (Some b)) (with_change g b.0 lists)
came_kept ops blocks parents lists o b g h free items = moved_kept ops blocks parents lists o (Some b) b g h (λ c n differs at. other c n at) within
  where
    other : (c n : ℕ) → slice_get parents n ≡ Some (Some (record { 0 = c })) → ¬ (n ≡ o.0)
    other c n at same = none-some (record { 0 = c }) (same_Some _ _ (sym free ∙ ap (slice_get parents) (sym same) ∙ at))

    within : (xs : List OpRef) → slice_get lists b.0 ≡ Some xs → (n : ℕ) → Has n (g xs) → slice_get (slice_set parents o.0 (Some b)) n ≡ Some (Some b)
    within xs at n k = elim (items xs n k) [
      | inl old ↦ let was = was_of ops blocks parents lists o (Some b) b g h b.0 n xs at old in still_of ops blocks parents lists o (Some b) b g h b.0 n (other b.0 n was) was
      | inr new ↦ ap (slice_get (slice_set parents o.0 (Some b))) (sym new) ∙ slice_get-set_same parents o.0 (Some b) (slice_get_within parents o.0 None free)
    ]

-- an operation goes out of its block
pub left_kept : (ops : List OpData) (blocks : List BlockData) (parents : List (Option BlockRef)) (lists : List (List OpRef)) (o : OpRef) (b : BlockRef) → IsContext ops blocks parents lists → slice_get parents o.0 ≡ Some (Some b) → AllApart (list_at lists b)
    → IsContext ops blocks (slice_set parents o.0 None) (with_change (without o) b.0 lists)
left_kept ops blocks parents lists o b h stands apart = moved_kept ops blocks parents lists o None b (without o) h other within
  where
    other : (c n : ℕ) → ¬ (c ≡ b.0) → slice_get parents n ≡ Some (Some (record { 0 = c })) → ¬ (n ≡ o.0)
    other c n differs at same = differs (ap (λ (x : BlockRef). x.0) (same_Some _ _ (same_Some _ _ (sym at ∙ ap (slice_get parents) same ∙ stands))))

    within : (xs : List OpRef) → slice_get lists b.0 ≡ Some xs → (n : ℕ) → Has n (without o xs) → slice_get (slice_set parents o.0 None) n ≡ Some (Some b)
    within xs at n k =
        let w = without_has o xs n (subst AllApart (get_or_from_slice_get lists b.0 xs [] at) apart) k in
        still_of ops blocks parents lists o None b (without o) h b.0 n w.1 (was_of ops blocks parents lists o None b (without o) h b.0 n xs at w.0)

pub last_came : (o : OpRef) (xs : List OpRef) (n : ℕ) → Has n (xs ++ o ∷ []) → Has n xs ⊎ (o.0 ≡ n)
last_came o xs n k = Has-append n xs o k

pub first_came : (o : OpRef) (xs : List OpRef) (n : ℕ) → Has n (o ∷ xs) → Has n xs ⊎ (o.0 ≡ n)
first_came o xs n (inl new) = inr new
first_came o xs n (inr old) = inl old

pub after_came : (o other : OpRef) (xs : List OpRef) (n : ℕ) → Has n (with_after o other xs) → Has n xs ⊎ (o.0 ≡ n)
after_came o other xs n k = after_has o other xs n k

-- a block whose list is there is there
pub block_there : (ops : List OpData) (blocks : List BlockData) (parents : List (Option BlockRef)) (lists : List (List OpRef)) (b : BlockRef) → IsContext ops blocks parents lists → b.0 < length lists → b.0 < length blocks
block_there ops blocks parents lists b h within = omega (arith, h.list_each)

-- an operation that was taken out stands in no block
pub left_free : (l m : Lists) (o : OpRef) (b : BlockRef) → slice_get l.parents o.0 ≡ Some (Some b) → m ≡ record { parents = slice_set l.parents o.0 None; lists = with_change (without o) b.0 l.lists } → slice_get m.parents o.0 ≡ Some None
left_free l m o b at is = ap (λ (m : Lists). slice_get m.parents o.0) is ∙ slice_get-set_same l.parents o.0 None (slice_get_within l.parents o.0 (Some b) at)

-- ---- what the writes make of the context

-- the operation has the block v, and the list of the block b is changed by g
abbrev pub moved : ContextData → OpRef → Option BlockRef → BlockRef → (List OpRef → List OpRef) → ContextData
moved c o v b g = record c { parents = with_change (λ _. v) o.0 c.parents; lists = with_change g b.0 c.lists }

pub moved_view : (types : List TypeKind) (ops : List OpData) (blocks : List BlockData) (l m : Lists) (o : OpRef) (v p : Option BlockRef) (b : BlockRef) (g : List OpRef → List OpRef) → slice_get l.parents o.0 ≡ Some p → m ≡ record { parents = slice_set l.parents o.0 v; lists = with_change g b.0 l.lists }
    → context types ops blocks m.parents m.lists ≡ moved (context types ops blocks l.parents l.lists) o v b g
moved_view types ops blocks l m o v p b g was is =
    ap (λ (m : Lists). context types ops blocks m.parents m.lists) is
    ∙ ap (λ (p : Option (Option BlockRef)). context types ops blocks (option_map_or (λ _. slice_set l.parents o.0 v) p l.parents) (with_change g b.0 l.lists)) (sym was)

pub moved_typed : (c : ContextData) (o : OpRef) (v : Option BlockRef) (b : BlockRef) (g : List OpRef → List OpRef) → IsTyped c → IsTyped (moved c o v b g)
moved_typed c o v b g h = record { ops = h.ops; blocks = h.blocks }

-- ---- the data of modules

-- the operations of a function's block change by h where its list is changed by g, which leaves all else as it is
pub moved_op_data : (c : ContextData) (o : OpRef) (v : Option BlockRef) (b : BlockRef) (g : List OpRef → List OpRef) (h : List DialectOp → List DialectOp) (d : DialectOp) → IsContext c.ops c.blocks c.parents c.lists → b.0 < length c.blocks → op_at (type_trees c.types) c.ops o ≡ Some d
    → ((xs : List OpRef) → filter_map (op_at (type_trees c.types) c.ops) (g xs) ≡ h (filter_map (op_at (type_trees c.types) c.ops) xs)) → ((f : OpRef → Option Func) → f o ≡ None → (xs : List OpRef) → filter_map f (g xs) ≡ filter_map f xs)
    → (m : ℕ) → data_of (moved c o v b g) m ≡ at_block (λ (y : DialectBlock). record y { ops = h y.ops }) b.0 (data_of c m)
moved_op_data c o v b g h d kept within is_op says quiet m =
    same_module _ _ _ _ refl (functions_after (type_trees c.types) c (with_change (λ _. v) o.0 c.parents) b g (omega (arith, kept.list_each)) h says o (op_no_func (type_trees c.types) c o d kept is_op) quiet m)

-- the functions of a module that holds the block change by h
pub moved_func_data : (c : ContextData) (o : OpRef) (v : Option BlockRef) (b : BlockRef) (g : List OpRef → List OpRef) (h : List Func → List Func) (f : Func) → IsContext c.ops c.blocks c.parents c.lists → b.0 < length c.blocks → func_in (type_trees c.types) c o ≡ Some f
    → ((xs : List OpRef) → filter_map (func_in (type_trees c.types) c) (g xs) ≡ h (filter_map (func_in (type_trees c.types) c) xs)) → ((f : OpRef → Option DialectOp) → f o ≡ None → (xs : List OpRef) → filter_map f (g xs) ≡ filter_map f xs)
    → (m : ℕ) → region_at c.ops m ≡ b ∷ [] → data_of (moved c o v b g) m ≡ module_data (data_of c m).name (h (data_of c m).functions)
moved_func_data c o v b g h f kept within is_func says quiet m region =
    same_module _ _ _ _ refl
    (here (type_trees c.types) c (with_change (λ _. v) o.0 c.parents) b g (omega (arith, kept.list_each)) (quiet (op_at (type_trees c.types) c.ops) (func_no_op (type_trees c.types) c o f kept is_func)) h says m region)

-- other modules stay
pub moved_other_data : (c : ContextData) (o : OpRef) (v : Option BlockRef) (b : BlockRef) (g : List OpRef → List OpRef) (f : Func) → IsContext c.ops c.blocks c.parents c.lists → b.0 < length c.blocks → func_in (type_trees c.types) c o ≡ Some f
    → ((f : OpRef → Option DialectOp) → f o ≡ None → (xs : List OpRef) → filter_map f (g xs) ≡ filter_map f xs)
    → (m : ℕ) → All (λ (p : BlockRef). ¬ (p.0 ≡ b.0)) (region_at c.ops m) → data_of (moved c o v b g) m ≡ data_of c m
moved_other_data c o v b g f kept within is_func quiet m apart =
    same_module _ _ _ _ refl
    (elsewhere (type_trees c.types) c (with_change (λ _. v) o.0 c.parents) b g (omega (arith, kept.list_each)) (quiet (op_at (type_trees c.types) c.ops) (func_no_op (type_trees c.types) c o f kept is_func)) m apart)

-- ---- the calls, as their code makes them: the context had the lists l, and has m

-- the operation o was given the block v, and the list of the block b was changed by g
module _ (types : List TypeKind) (ops : List OpData) (blocks : List BlockData) (l m : Lists) (o : OpRef) (v p : Option BlockRef) (b : BlockRef) (g : List OpRef → List OpRef) (was : slice_get l.parents o.0 ≡ Some p) (is : m ≡ record { parents = slice_set l.parents o.0 v; lists = with_change g b.0 l.lists }) where
  abbrev before : ContextData
  before = context types ops blocks l.parents l.lists

  abbrev now : ContextData
  now = context types ops blocks m.parents m.lists

  view : now ≡ moved before o v b g
  view = moved_view types ops blocks l m o v p b g was is

  pub call_typed : IsTyped before → IsTyped now
  call_typed h = subst IsTyped (sym view) (moved_typed before o v b g h)

  module _ (kept : IsContext ops blocks l.parents l.lists) (within : b.0 < length blocks) where
    pub call_op_data : (h : List DialectOp → List DialectOp) (d : DialectOp) → op_at (type_trees types) ops o ≡ Some d
        → ((xs : List OpRef) → filter_map (op_at (type_trees types) ops) (g xs) ≡ h (filter_map (op_at (type_trees types) ops) xs)) → ((f : OpRef → Option Func) → f o ≡ None → (xs : List OpRef) → filter_map f (g xs) ≡ filter_map f xs)
        → (n : ℕ) → data_of now n ≡ at_block (λ (y : DialectBlock). record y { ops = h y.ops }) b.0 (data_of before n)
    call_op_data h d is_op says quiet n = ap (λ (c : ContextData). data_of c n) view ∙ moved_op_data before o v b g h d kept within is_op says quiet n

    pub call_func_data : (h : List Func → List Func) (f : Func) → func_in (type_trees types) before o ≡ Some f
        → ((xs : List OpRef) → filter_map (func_in (type_trees types) before) (g xs) ≡ h (filter_map (func_in (type_trees types) before) xs)) → ((f : OpRef → Option DialectOp) → f o ≡ None → (xs : List OpRef) → filter_map f (g xs) ≡ filter_map f xs)
        → (n : ℕ) → region_at ops n ≡ b ∷ [] → data_of now n ≡ module_data (data_of before n).name (h (data_of before n).functions)
    call_func_data h f is_func says quiet n region = ap (λ (c : ContextData). data_of c n) view ∙ moved_func_data before o v b g h f kept within is_func says quiet n region

    pub call_other_data : (f : Func) → func_in (type_trees types) before o ≡ Some f → ((f : OpRef → Option DialectOp) → f o ≡ None → (xs : List OpRef) → filter_map f (g xs) ≡ filter_map f xs)
        → (n : ℕ) → All (λ (q : BlockRef). ¬ (q.0 ≡ b.0)) (region_at ops n) → data_of now n ≡ data_of before n
    call_other_data f is_func quiet n apart = ap (λ (c : ContextData). data_of c n) view ∙ moved_other_data before o v b g f kept within is_func quiet n apart
