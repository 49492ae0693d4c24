-- What an operation holds: the blocks of its region, and the operations that stand in them, each once.
use Rattle.std.proofs.Common.{◌≡◌, ◌⊎◌, ℕ, zero, suc, Bool, true, false, nat_eq, List, [], ◌∷◌, ◌++◌, Option, Some, None, slice_get, ap, sym, ◌∙◌, refl, inl, inr, subst, arith}
use Rattle.std.specs.List.{flat_map}
use Rattle.std.specs.Option.{option_map, option_map_or, option_and_then}
use Rattle.std.specs.Prelude.{is_some, IsTrue, ◌↔◌}
use Rattle.std.proofs.lemmas.Option.{none-some, same_Some}
use Rattle.dialect_core.specs.declared.numbers.OpRef.{OpRef}
use Rattle.dialect_core.specs.declared.numbers.BlockRef.{BlockRef}
use Rattle.dialect_core.specs.declared.ops.OpKind.TheVariants as K
use Rattle.dialect_core.specs.declared.ops.Symbol.{Symbol}
use Rattle.dialect_core.specs.declared.ops.OpData.{OpData}
use Rattle.dialect_core.specs.declared.ops.BlockData.{BlockData}
use Rattle.dialect_core.specs.Lists.{Has, AllApart, Stands, Once, list_at}
use Rattle.dialect_core.specs.ContextData.{ContextData, IsKept, IsSymbol, is_func, kind_at, region_at, holder_at}
use Rattle.dialect_core.specs.Data.{held}
use Rattle.dialect_core.specs.WellFormed.{IsFirst}
use Rattle.dialect_core.proofs.ChainLemmas.{same_op}
use Rattle.dialect_core.proofs.DataLemmas.{standing_at}
use Rattle.dialect_core.proofs.TestLemmas.{never, same_block, true_same, same_true}

pub has_stands : (o : OpRef) (xs : List OpRef) → Has o.0 xs → Stands o xs
has_stands o [] h = absurd h
has_stands o (x ∷ xs) (inl e) = (0, ap Some (same_op x o e))
has_stands o (x ∷ xs) (inr h) = let t = has_stands o xs h in (suc t.0, t.1)

pub stands_has : (o : OpRef) (xs : List OpRef) (k : ℕ) → slice_get xs k ≡ Some o → Has o.0 xs
stands_has o [] k h = absurd (none-some o h)
stands_has o (x ∷ xs) zero h = inl (ap (λ (o : OpRef). o.0) (same_Some x o h))
stands_has o (x ∷ xs) (suc k) h = inr (stands_has o xs k h)

pub stands_left : {X : Type 0} (y : X) (xs ys : List X) (k : ℕ) → slice_get xs k ≡ Some y → Stands y (xs ++ ys)
stands_left y [] ys k h = absurd (none-some y h)
stands_left y (x ∷ xs) ys zero h = (0, h)
stands_left y (x ∷ xs) ys (suc k) h = let t = stands_left y xs ys k h in (suc t.0, t.1)

pub stands_right : {X : Type 0} (y : X) (xs ys : List X) → Stands y ys → Stands y (xs ++ ys)
stands_right y [] ys h = h
stands_right y (x ∷ xs) ys h = let t = stands_right y xs ys h in (suc t.0, t.1)

pub stands_cases : {X : Type 0} (y : X) (xs ys : List X) (k : ℕ) → slice_get (xs ++ ys) k ≡ Some y → Stands y xs ⊎ Stands y ys
stands_cases y [] ys k h = inr (k, h)
stands_cases y (x ∷ xs) ys zero h = inl (0, h)
stands_cases y (x ∷ xs) ys (suc k) h = elim (stands_cases y xs ys k h) [ inl t ↦ inl (suc t.0, t.1) | inr t ↦ inr t ]

pub stands_flat : {X Y : Type 0} (f : X → List Y) (xs : List X) (x : X) (y : Y) (k : ℕ) → slice_get xs k ≡ Some x → Stands y (f x) → Stands y (flat_map f xs)
stands_flat f [] x y k h t = absurd (none-some x h)
stands_flat f (z ∷ xs) x y zero h t =
    let e = same_Some z x h in
    stands_left y (f z) (flat_map f xs) t.0 (ap (λ x. slice_get (f x) t.0) e ∙ t.1)
stands_flat f (z ∷ xs) x y (suc k) h t = stands_right y (f z) (flat_map f xs) (stands_flat f xs x y k h t)

pub flat_stands : {X Y : Type 0} (f : X → List Y) (xs : List X) (y : Y) (k : ℕ) → slice_get (flat_map f xs) k ≡ Some y → (x : X) × Stands x xs × Stands y (f x)
flat_stands f [] y k h = absurd (none-some y h)
flat_stands f (x ∷ xs) y k h = elim (stands_cases y (f x) (flat_map f xs) k h) [
  | inl t ↦ (x, (0, refl), t)
  | inr t ↦ let rest = flat_stands f xs y t.0 t.1 in (rest.0, (suc rest.1.0, rest.1.1), rest.2)
]

-- ---- once

pub apart_once : (xs : List OpRef) → AllApart xs → Once xs
apart_once [] h i j o p q = absurd (none-some o p)
apart_once (x ∷ xs) h zero zero o p q = refl
apart_once (x ∷ xs) h zero (suc j) o p q =
    let e : o.0 ≡ x.0 = ap (λ (o : OpRef). o.0) (sym (same_Some x o p)) in
    absurd (h.0 (let P : ℕ → Type 0 = λ n. Has n xs in subst P e (stands_has o xs j q)))
apart_once (x ∷ xs) h (suc i) zero o p q =
    let e : o.0 ≡ x.0 = ap (λ (o : OpRef). o.0) (sym (same_Some x o q)) in
    absurd (h.0 (let P : ℕ → Type 0 = λ n. Has n xs in subst P e (stands_has o xs i p)))
apart_once (x ∷ xs) h (suc i) (suc j) o p q = ap suc (apart_once xs h.1 i j o p q)

suc_same : (a b : ℕ) → suc a ≡ suc b → a ≡ b
suc_same a b e = omega arith

once_append : {X : Type 0} (xs ys : List X) → Once xs → Once ys → ((x : X) → Stands x xs → Stands x ys → ⊥) → (i j : ℕ) (o : X) → slice_get (xs ++ ys) i ≡ Some o → slice_get (xs ++ ys) j ≡ Some o → i ≡ j
once_append [] ys ox oy apart i j o p q = oy i j o p q
once_append (x ∷ xs) ys ox oy apart zero zero o p q = refl
once_append (x ∷ xs) ys ox oy apart zero (suc j) o p q = absurd (elim (stands_cases o xs ys j q) [
  | inl t ↦ let no : 0 ≡ suc t.0 = ox 0 (suc t.0) o p t.1 in omega arith
  | inr t ↦ apart o (0, p) t
])
once_append (x ∷ xs) ys ox oy apart (suc i) zero o p q = absurd (elim (stands_cases o xs ys i p) [
  | inl t ↦ let no : 0 ≡ suc t.0 = ox 0 (suc t.0) o q t.1 in omega arith
  | inr t ↦ apart o (0, q) t
])
once_append (x ∷ xs) ys ox oy apart (suc i) (suc j) o p q =
    ap suc (once_append xs ys (λ i j o p q. suc_same i j (ox (suc i) (suc j) o p q)) oy (λ y t u. apart y (suc t.0, t.1) u) i j o p q)

-- what stands in the list of b knows b: so lists of blocks that stand once have nothing twice
pub once_flat : (f : BlockRef → List OpRef) (block : OpRef → Option (Option BlockRef)) → ((b : BlockRef) (o : OpRef) (k : ℕ) → slice_get (f b) k ≡ Some o → block o ≡ Some (Some b)) → ((b : BlockRef) → Once (f b)) → (bs : List BlockRef) → Once bs → (i j : ℕ) (o : OpRef) → slice_get (flat_map f bs) i ≡ Some o → slice_get (flat_map f bs) j ≡ Some o → i ≡ j
once_flat f block knows each [] once i j o p q = absurd (none-some o p)
once_flat f block knows each (b ∷ bs) once i j x p q =
    once_append (f b) (flat_map f bs) (each b)
    (once_flat f block knows each bs (λ i j x p q. suc_same i j (once (suc i) (suc j) x p q)))
    (λ o t u.
    let there = flat_stands f bs o u.0 u.1 in
    let one : Some (Some b) ≡ Some (Some there.0) = sym (knows b o t.0 t.1) ∙ knows there.0 o there.2.0 there.2.1 in
    let same : b ≡ there.0 = same_Some b there.0 (same_Some (Some b) (Some there.0) one) in
    let no : 0 ≡ suc there.1.0 = once 0 (suc there.1.0) there.0 (ap Some same) there.1.1 in
    omega arith)
    i j x p q

-- ---- in a context

-- the blocks of an operation are its region
pub region_read : (ops : List OpData) (o : ℕ) (bs : List BlockRef) → option_map (λ (x : OpData). x.blocks) (slice_get ops o) ≡ Some bs → bs ≡ region_at ops o
region_read ops o bs h = by (slice_get ops o) h
  where
    by : (x : Option OpData) → option_map (λ (x : OpData). x.blocks) x ≡ Some bs → bs ≡ option_map_or (λ (x : OpData). x.blocks) x []
    by None e = absurd (none-some bs e)
    by (Some x) e = sym (same_Some x.blocks bs e)

module _ (c : ContextData) (h : IsKept c.ops c.blocks c.parents c.lists) where
  pub region_once : (o : ℕ) → Once (region_at c.ops o)
  region_once o = h.regions.once o

  pub held_once : ((b : BlockRef) → AllApart (list_at c.lists b)) → (o : ℕ) → Once (held c o)
  held_once apart o =
      once_flat (list_at c.lists) (λ (o : OpRef). slice_get c.parents o.0) (λ b p k at. standing_at c h.numbers b k p at) (λ b. apart_once (list_at c.lists b) (apart b)) (region_at c.ops o) (h.regions.once o)

  holder_is : (b : BlockRef) (o : OpRef) → option_map (λ (x : BlockData). x.holder) (slice_get c.blocks b.0) ≡ Some o → holder_at c.blocks b.0 ≡ Some o.0
  holder_is b o is = by (slice_get c.blocks b.0) is
    where
      by : (x : Option BlockData) → option_map (λ (x : BlockData). x.holder) x ≡ Some o → option_map (λ (x : BlockData). x.holder.0) x ≡ Some o.0
      by None e = absurd (none-some o e)
      by (Some x) e = ap (λ (o : OpRef). Some o.0) (same_Some x.holder o e)

  -- a block stands in the region of its holder, and in no other
  pub held_block : (b : BlockRef) (o p : OpRef) → option_map (λ (x : BlockData). x.holder) (slice_get c.blocks b.0) ≡ Some o → o ≡ p → Stands b (region_at c.ops p.0)
  held_block b o p is same = h.regions.listed p.0 b.0 (holder_is b o is ∙ ap (λ (o : OpRef). Some o.0) same)

  pub block_held : (b : BlockRef) (o p : OpRef) → option_map (λ (x : BlockData). x.holder) (slice_get c.blocks b.0) ≡ Some o → Stands b (region_at c.ops p.0) → o ≡ p
  block_held b o p is t = same_op o p (same_Some o.0 p.0 (sym (holder_is b o is) ∙ h.regions.ours p.0 t.0 b t.1))

  -- a block is first where it is the first that its holder has
  first_here : (b : BlockRef) (o : OpRef) (bs : List BlockRef) → option_map (λ (x : BlockData). x.holder) (slice_get c.blocks b.0) ≡ Some o → option_map (λ (x : OpData). x.blocks) (slice_get c.ops o.0) ≡ Some bs → IsFirst c b → slice_get bs 0 ≡ Some b
  first_here b o bs is are w =
      let same : o.0 ≡ w.0 = same_Some o.0 w.0 (sym (holder_is b o is) ∙ h.regions.ours w.0 0 b w.1) in
      ap (λ (bs : List BlockRef). slice_get bs 0) (region_read c.ops o.0 bs are) ∙ ap (λ (n : ℕ). slice_get (region_at c.ops n) 0) same ∙ w.1

  pub first_is : (b : BlockRef) (o : OpRef) (bs : List BlockRef) (first : BlockRef) (t : Bool) → option_map (λ (x : BlockData). x.holder) (slice_get c.blocks b.0) ≡ Some o → option_map (λ (x : OpData). x.blocks) (slice_get c.ops o.0) ≡ Some bs → slice_get bs 0 ≡ Some first → t ≡ nat_eq first.0 b.0 → IsTrue t ↔ IsFirst c b
  first_is b o bs first t is are at test = (
    λ yes. (o.0, ap (λ (bs : List BlockRef). slice_get bs 0) (sym (region_read c.ops o.0 bs are)) ∙ at ∙ ap Some (same_block first b (true_same t first.0 b.0 test yes))),
    λ w. same_true t first.0 b.0 test (ap (λ (b : BlockRef). b.0) (same_Some first b (sym at ∙ first_here b o bs is are w))),
  )

  pub never_first : (b : BlockRef) (o : OpRef) (bs : List BlockRef) → option_map (λ (x : BlockData). x.holder) (slice_get c.blocks b.0) ≡ Some o → option_map (λ (x : OpData). x.blocks) (slice_get c.ops o.0) ≡ Some bs → slice_get bs 0 ≡ None → IsTrue false ↔ IsFirst c b
  never_first b o bs is are none = never (λ w. none-some b (sym none ∙ first_here b o bs is are w))

  -- an operation stands where its block does
  pub held_op : ((o : OpRef) (b : BlockRef) → slice_get c.parents o.0 ≡ Some (Some b) → Has o.0 (list_at c.lists b)) → (b : BlockRef) (o p : OpRef) → slice_get c.parents o.0 ≡ Some (Some b) → Stands b (region_at c.ops p.0) → Stands o (held c p.0)
  held_op listed b o p is t = stands_flat (list_at c.lists) (region_at c.ops p.0) b o t.0 t.1 (has_stands o (list_at c.lists b) (listed o b is))

  pub op_held : (b : BlockRef) (o p : OpRef) → slice_get c.parents o.0 ≡ Some (Some b) → Stands o (held c p.0) → Stands b (region_at c.ops p.0)
  op_held b o p is t =
      let there = flat_stands (list_at c.lists) (region_at c.ops p.0) o t.0 t.1 in
      let same : there.0 ≡ b = same_Some there.0 b (same_Some (Some there.0) (Some b) (sym (standing_at c h.numbers there.0 there.2.0 o there.2.1) ∙ is)) in
      (there.1.0, there.1.1 ∙ ap Some same)

  pub op_free : (o p : OpRef) → slice_get c.parents o.0 ≡ Some None → Stands o (held c p.0) → ⊥
  op_free o p is t =
      let there = flat_stands (list_at c.lists) (region_at c.ops p.0) o t.0 t.1 in
      none-some there.0 (same_Some None (Some there.0) (sym is ∙ standing_at c h.numbers there.0 there.2.0 o there.2.1))

  -- a function has a type and a linkage
  pub func_symbol : (o : OpRef) → kind_at c.ops o ≡ Some K.Func → IsSymbol c.ops o
  func_symbol o kind = by (slice_get c.ops o.0) refl kind
    where
      some_of : (s : Option Symbol) → true ≡ is_some s → (t : Symbol) × (s ≡ Some t)
      some_of None e = absurd (let no_way : true ≡ false = e in cc)
      some_of (Some s) e = (s, refl)

      by : (x : Option OpData) → slice_get c.ops o.0 ≡ x → option_map (λ (x : OpData). x.kind) x ≡ Some K.Func → (t : Symbol) × (option_and_then (λ (x : OpData). x.symbol) x ≡ Some t)
      by None at e = absurd (none-some K.Func e)
      by (Some x) at e = some_of x.symbol (ap is_func (sym (same_Some x.kind K.Func e)) ∙ (h.numbers.within o.0 x at).symbol)
