-- The last function of a dialect module, whose blocks grow.
use Rattle.std.proofs.Common.{ℕ, ◌≡◌, ◌≢◌, ◌<◌, ◌≤◌, ◌+◌, ◌⊎◌, inl, inr, refl, sym, ap, subst, ◌∙◌, List, [], ◌∷◌, ◌++◌, Option, Some, IsTrue, All, length, map, slice_get, nat_eq, if◌then◌else◌, arith, eq-eqb, ne_eqb}
use Rattle.std.specs.Option.{option_map}
use Rattle.std.proofs.lemmas.List.{map-append, append_assoc, append-nil}
use Rattle.std.proofs.lemmas.List.Concat.{flat_map-append}
use Rattle.std.proofs.lemmas.List.Elements.{All-head, All-tail, All-push, All-weaker}
use Rattle.std.proofs.lemmas.Option.{same_Some}
use Rattle.dialect_types.proofs.TreeLemmas.{push_cases}
use Rattle.support.proofs.ListLaws.{slice_get-behind, slice_get-kept, slice_get-behind_cases}
use Rattle.llvm_core.proofs.DataLemmas.{within_at}
use Rattle.dialect_types.specs.declared.types.TypeHandle.{TypeHandle}
use Rattle.dialect_types.specs.Trees.{structs_of, type_at, type_trees}
use Rattle.dialect_core.specs.declared.numbers.OpRef.{OpRef}
use Rattle.dialect_core.specs.declared.numbers.BlockRef.{BlockRef}
use Rattle.dialect_core.specs.declared.ops.Value.{Value}
use Rattle.dialect_core.specs.declared.ops.Successor.{Successor}
use Rattle.dialect_core.specs.declared.ops.OpKind.{OpKind}
use Rattle.dialect_core.specs.declared.ops.OpData.{OpData}
use Rattle.dialect_core.specs.ContextData.{ContextData, with_op, with_appended, is_plain}
use Rattle.dialect_core.specs.Data.{DialectModule, Func, DialectBlock, DialectOp, Kind, IsTypedOp, data_of, kind_of, op_at, more_block, with_func, with_func_block, with_block_op}
use Rattle.from_llvm_ir.specs.Types.{AddsTypes, GrowsTypes}
use Rattle.from_llvm_ir.specs.Imported.{IsBuilding, IsBelow}
use Rattle.from_llvm_ir.specs.Building.{Home, IsUnder, IsOpen, AreBare, AreFresh, AreNumbered, with_blocks, with_ops, ops_of, op_data, new_op}
use Rattle.from_llvm_ir.proofs.OwnLaws.{own_data, own_types}
use Rattle.from_llvm_ir.proofs.BuildLaws.{length-push}
use Rattle.from_llvm_ir.proofs.PlaceLaws.{flat_none}
use Rattle.from_llvm_ir.proofs.OpLaws.{added_op}
use Rattle.from_llvm_ir.proofs.TypeLaws.{adds}

-- ---- numbers

-- more operations leave numbers fresh
pub more_fresh : (n k : ℕ) (os : List DialectOp) → n ≤ k → AreFresh n os → AreFresh k os
more_fresh n k os le h = record { below = All-weaker (λ (o : DialectOp). o.number < n) (λ (o : DialectOp). o.number < k) (λ o small. omega (arith, small, le)) os h.below; apart = h.apart }

pub below_at : (n : ℕ) (os : List DialectOp) → All (λ (o : DialectOp). o.number < n) os → (i : ℕ) (a : DialectOp) → slice_get os i ≡ Some a → a.number < n
below_at n os h i a at = within_at os (λ (o : DialectOp). o.number < n) h i a at

-- an operation of the next number
pub push_fresh : (n : ℕ) (os : List DialectOp) (o : DialectOp) → AreFresh n os → o.number ≡ n → AreFresh (n + 1) (os ++ o ∷ [])
push_fresh n os o h number = record {
  below = All-push (λ (x : DialectOp). x.number < n + 1) os o (more_fresh n (n + 1) os (omega arith) h).below (omega (arith, number));
  apart = λ i j a b at_i at_j same. by i j a b same (push_cases os o a i at_i) (push_cases os o b j at_j);
}
  where
    by : (i j : ℕ) (a b : DialectOp) → a.number ≡ b.number → (slice_get os i ≡ Some a) ⊎ ((a ≡ o) × (i ≡ length os)) → (slice_get os j ≡ Some b) ⊎ ((b ≡ o) × (j ≡ length os)) → i ≡ j
    by i j a b same (inl p) (inl q) = h.apart i j a b p q same
    by i j a b same (inr p) (inr q) = p.1 ∙ sym q.1
    by i j a b same (inl p) (inr q) = let small = below_at n os h.below i a p in let e = ap (λ (x : DialectOp). x.number) q.0 in absurd (omega (arith, small, same, e, number))
    by i j a b same (inr p) (inl q) = let small = below_at n os h.below j b q in let e = ap (λ (x : DialectOp). x.number) p.0 in absurd (omega (arith, small, same, e, number))

-- ---- what stays of the functions before

other : {X : Type 0} (i n : ℕ) (x y : X) → i ≢ n → (if nat_eq i n then y else x) ≡ x
other i n x y ne = rw (ne_eqb i n ne) refl

abbrev op_in : ℕ → DialectOp → DialectBlock → DialectBlock
op_in k o y = if nat_eq y.number k then record y { ops = y.ops ++ o ∷ [] } else y

abbrev op_in_func : ℕ → DialectOp → Func → Func
op_in_func k o x = record x { blocks = map (op_in k o) x.blocks }

abbrev HasOther : ℕ → List DialectBlock → Type 0
HasOther k bs = (i : ℕ) (x : DialectBlock) → slice_get bs i ≡ Some x → x.number ≢ k

blocks_kept : (k : ℕ) (o : DialectOp) (ys : List DialectBlock) → HasOther k ys → map (op_in k o) ys ≡ ys
blocks_kept k o [] h = refl
blocks_kept k o (y ∷ ys) h = rw (other y.number k y (record y { ops = y.ops ++ o ∷ [] }) (h 0 y refl), blocks_kept k o ys (λ i x at. h (ℕ.suc i) x at)) refl

pub ops_kept : (base k : ℕ) (o : DialectOp) (fs : List Func) → base ≤ k → All (λ (f : Func). All (λ (x : DialectBlock). x.number < base) f.blocks) fs → map (op_in_func k o) fs ≡ fs
ops_kept base k o [] le h = refl
ops_kept base k o (f ∷ fs) le h =
    let here = All-head (λ (g : Func). All (λ (x : DialectBlock). x.number < base) g.blocks) f fs h in
    rw (blocks_kept k o f.blocks (λ i x at same. let small = within_at f.blocks (λ (y : DialectBlock). y.number < base) here i x at in omega (arith, small, le, same)), ops_kept base k o fs le (All-tail (λ (g : Func). All (λ (x : DialectBlock). x.number < base) g.blocks) f fs h)) refl

pub funcs_kept : (n k : ℕ) (b : DialectBlock) (fs : List Func) → All (IsBelow n k) fs → map (more_block n b) fs ≡ fs
funcs_kept n k b [] h = refl
funcs_kept n k b (f ∷ fs) h =
    let small = (All-head (IsBelow n k) f fs h).0 in
    let ne : f.number ≢ n = λ same. omega (arith, small, same) in
    rw (other f.number n f (record f { blocks = f.blocks ++ b ∷ [] }) ne, funcs_kept n k b fs (All-tail (IsBelow n k) f fs h)) refl

last_changed : (g : Func → Func) (fs : List Func) (f : Func) → map g fs ≡ fs → map g (fs ++ f ∷ []) ≡ fs ++ g f ∷ []
last_changed g fs f h = map-append g fs (f ∷ []) ∙ ap (λ (xs : List Func). xs ++ g f ∷ []) h

-- ---- an operation more in one block

block_changed : (k : ℕ) (o : DialectOp) (left : List DialectBlock) (now : DialectBlock) (right : List DialectBlock) → now.number ≡ k → HasOther k left → HasOther k right → map (op_in k o) (left ++ now ∷ right) ≡ left ++ with_ops now (now.ops ++ o ∷ []) ∷ right
block_changed k o left now right is l r = map-append (op_in k o) left (now ∷ right) ∙ rw (blocks_kept k o left l, blocks_kept k o right r, eq-eqb now.number k is) refl

-- the numbers of other blocks differ
numbered_left : (base : ℕ) (left : List DialectBlock) (now : DialectBlock) (right : List DialectBlock) → AreNumbered base (left ++ now ∷ right) → HasOther now.number left
numbered_left base left now right h i x at same =
    let a = h i x (slice_get-kept left (now ∷ right) i x at) in
    let b = h (length left + 0) now (slice_get-behind left (now ∷ right) 0) in
    let lt = within left i x at in
    omega (arith, a, b, lt, same)
  where
    within : (xs : List DialectBlock) (i : ℕ) (x : DialectBlock) → slice_get xs i ≡ Some x → i < length xs
    within [] i x e = cc
    within (y ∷ xs) ℕ.zero x e = omega arith
    within (y ∷ xs) (ℕ.suc i) x e = omega (arith, within xs i x e)

numbered_right : (base : ℕ) (left : List DialectBlock) (now : DialectBlock) (right : List DialectBlock) → AreNumbered base (left ++ now ∷ right) → HasOther now.number right
numbered_right base left now right h i x at same =
    let a = h (length left + ℕ.suc i) x (slice_get-behind left (now ∷ right) (ℕ.suc i) ∙ at) in
    let b = h (length left + 0) now (slice_get-behind left (now ∷ right) 0) in
    omega (arith, a, b, same)

-- the operations of blocks behind which nothing stands
pub ops_behind : (left : List DialectBlock) (now : DialectBlock) (right : List DialectBlock) → AreBare right → ops_of (left ++ now ∷ right) ≡ ops_of left ++ now.ops
ops_behind left now right bare =
    flat_map-append (λ (b : DialectBlock). b.ops) left (now ∷ right) ∙ ap (λ (os : List DialectOp). ops_of left ++ (now.ops ++ os)) (flat_none (λ (b : DialectBlock). b.ops) right bare) ∙ ap (λ (os : List DialectOp). ops_of left ++ os) (append-nil now.ops)

pub ops_pushed : (left : List DialectBlock) (now : DialectBlock) (right : List DialectBlock) (o : DialectOp) → AreBare right → ops_of (left ++ with_ops now (now.ops ++ o ∷ []) ∷ right) ≡ ops_of (left ++ now ∷ right) ++ o ∷ []
ops_pushed left now right o bare =
    ops_behind left (with_ops now (now.ops ++ o ∷ [])) right bare ∙ sym (append_assoc (ops_of left) now.ops (o ∷ [])) ∙ ap (λ (os : List DialectOp). os ++ o ∷ []) (sym (ops_behind left now right bare))

-- a block with other operations has its number
pub numbered_with : (base : ℕ) (left : List DialectBlock) (now : DialectBlock) (os : List DialectOp) (right : List DialectBlock) → AreNumbered base (left ++ now ∷ right) → AreNumbered base (left ++ with_ops now os ∷ right)
numbered_with base left now os right h i b at = elim (slice_get-behind_cases left (with_ops now os ∷ right) i b at) [
  | inl a ↦ h i b (slice_get-kept left (now ∷ right) i b a)
  | inr z ↦ by z.0 z.2 (z.1)
]
  where
    by : (q : ℕ) → slice_get (with_ops now os ∷ right) q ≡ Some b → i ≡ length left + q → b.number ≡ base + i
    by ℕ.zero e is =
        let same = ap (λ (x : DialectBlock). x.number) (same_Some (with_ops now os) b e) in
        let n = h (length left + 0) now (slice_get-behind left (now ∷ right) 0) in
        omega (arith, same, n, is)
    by (ℕ.suc q) e is =
        let n = h (length left + ℕ.suc q) b (slice_get-behind left (now ∷ right) (ℕ.suc q) ∙ e) in
        omega (arith, n, is)

-- the last function's block takes the operation
op_taken : (h : Home) (base : ℕ) (left : List DialectBlock) (now : DialectBlock) (right : List DialectBlock) (k : ℕ) (o : DialectOp) → now.number ≡ k → AreNumbered base (left ++ now ∷ right) → All (λ (f : Func). All (λ (x : DialectBlock). x.number < base) f.blocks) h.before.functions
    → with_block_op (with_func h.before (with_blocks h (left ++ now ∷ right))) k o ≡ with_func h.before (with_blocks h (left ++ with_ops now (now.ops ++ o ∷ []) ∷ right))
op_taken h base left now right k o is numbered before =
    let number = numbered (length left + 0) now (slice_get-behind left (now ∷ right) 0) in
    let l = subst (λ (x : ℕ). HasOther x left) is (numbered_left base left now right numbered) in
    let r = subst (λ (x : ℕ). HasOther x right) is (numbered_right base left now right numbered) in
    let last = last_changed (op_in_func k o) h.before.functions (with_blocks h (left ++ now ∷ right)) (ops_kept base k o h.before.functions (omega (arith, number, is)) before) in
    ap (λ (fs : List Func). record h.before { functions = fs }) (last ∙ ap (λ (bs : List DialectBlock). h.before.functions ++ with_blocks h bs ∷ []) (block_changed k o left now right is l r))

-- the last function takes the block
pub block_taken : (d : DialectModule) (f : Func) (n : ℕ) (k : ℕ) (x : DialectBlock) → f.number ≡ n → All (IsBelow n k) d.functions
    → with_func_block (with_func d f) n x ≡ with_func d (record f { blocks = f.blocks ++ x ∷ [] })
block_taken d f n k x number h =
    let last = last_changed (more_block n x) d.functions f (funcs_kept n k x d.functions h) in
    ap (λ (fs : List Func). record d { functions = fs }) (last ∙ ap (λ (y : Func). d.functions ++ y ∷ []) here)
  where
    here : more_block n x f ≡ record f { blocks = f.blocks ++ x ∷ [] }
    here = rw (eq-eqb f.number n number) refl

-- ---- an operation more

pub added_open : (h : Home) (base : ℕ) (c0 c1 c2 : ContextData) (b : BlockRef) (left : List DialectBlock) (now : DialectBlock) (right : List DialectBlock) (o : OpRef) (kind : OpKind) (name : Option (List ℕ)) (operands : List Value) (successors : List Successor) (result : Option TypeHandle) (k : Kind)
    → IsOpen h base c0 b left now right
    → IsTrue (is_plain kind)
    → kind_of (type_trees c0.types) kind ≡ Some k
    → c1 ≡ with_op c0 (op_data kind name operands successors result)
    → o.0 ≡ length c0.ops
    → data_of c1 h.m ≡ data_of c0 h.m
    → IsTypedOp (length c0.types) (op_data kind name operands successors result)
    → c2 ≡ with_appended c1 o b
    → ((x : DialectOp) → op_at (type_trees c1.types) c1.ops o ≡ Some x → (m : ℕ) → data_of c2 m ≡ with_block_op (data_of c1 m) b.0 x)
    → IsOpen h base c2 b left (with_ops now (now.ops ++ new_op o.0 name k operands successors (option_map (type_at (type_trees c0.types)) result) ∷ [])) right
added_open h base c0 c1 c2 b left now right o kind name operands successors result k u plain is e1 number data1 typed e2 data2 =
    let x = op_data kind name operands successors result in
    let y = new_op o.0 name k operands successors (option_map (type_at (type_trees c0.types)) result) in
    let place = u.under.numbered (length left + 0) now (slice_get-behind left (now ∷ right) 0) in
    let away : ¬ (h.body.0 ≡ b.0) = λ same. omega (arith, same, place, u.number, u.under.above) in
    let building = added_op c0 c1 c2 h.m h.body (with_func h.before (with_blocks h (left ++ now ∷ right))) b o kind name operands successors result k u.under.building away plain is e1 number data1 typed e2 data2 in
    let ops : c2.ops ≡ c0.ops ++ x ∷ [] = ap (λ (c : ContextData). c.ops) e2 ∙ ap (λ (c : ContextData). c.ops) e1 in
    let fresh : AreFresh (length c2.ops) (ops_of (left ++ now ∷ right) ++ y ∷ []) =
    subst (λ (n : ℕ). AreFresh n (ops_of (left ++ now ∷ right) ++ y ∷ [])) (sym (ap (λ (xs : List OpData). length xs) ops ∙ length-push c0.ops x)) (push_fresh (length c0.ops) (ops_of (left ++ now ∷ right)) y u.under.fresh number) in
    record {
      under = record {
        above = u.under.above;
        building = subst (IsBuilding c2 h.m h.body) (op_taken h base left now right b.0 y u.number u.under.numbered u.under.before) building;
        numbered = numbered_with base left now (now.ops ++ y ∷ []) right u.under.numbered;
        before = u.under.before;
        structs = ap (λ (c : ContextData). structs_of c.types) e2 ∙ ap (λ (c : ContextData). structs_of c.types) e1 ∙ u.under.structs;
        fresh = subst (AreFresh (length c2.ops)) (sym (ops_pushed left now right y u.bare)) fresh;
      };
      number = u.number;
      bare = u.bare;
    }

-- ---- more types

pub added_building : (c c' : ContextData) (m : ℕ) (body : BlockRef) (d : DialectModule) → IsBuilding c m body d → AddsTypes c c' → IsBuilding c' m body d
added_building c c' m body d h g = subst (λ (x : ContextData). IsBuilding x m body d) (sym g.rest) (record {
  held = record { kind = h.held.kind; region = h.held.region; block = h.held.block; holder = h.held.holder; bare = h.held.bare };
  apart = record { funcs = h.apart.funcs; plain = h.apart.plain };
  is = own_data c c'.types m body h.held h.own g.more.kept ∙ h.is;
  there = h.there;
  own = own_types c c'.types m body h.own g.more.longer;
  below = h.below;
})

pub typed_building : (c c' : ContextData) (m : ℕ) (body : BlockRef) (d : DialectModule) → IsBuilding c m body d → GrowsTypes c c' → IsBuilding c' m body d
typed_building c c' m body d h g = added_building c c' m body d h (adds c c' g)

pub typed_under : (h : Home) (base : ℕ) (c c' : ContextData) (bs : List DialectBlock) → IsUnder h base c bs → GrowsTypes c c' → IsUnder h base c' bs
typed_under h base c c' bs u g = record {
  above = u.above;
  building = typed_building c c' h.m h.body _ u.building g;
  numbered = u.numbered;
  before = u.before;
  structs = g.structs ∙ u.structs;
  fresh = rw g.rest u.fresh;
}

pub typed_open : (h : Home) (base : ℕ) (c c' : ContextData) (b : BlockRef) (left : List DialectBlock) (now : DialectBlock) (right : List DialectBlock) → IsOpen h base c b left now right → GrowsTypes c c' → IsOpen h base c' b left now right
typed_open h base c c' b left now right u g = record { under = typed_under h base c c' (left ++ now ∷ right) u.under g; number = u.number; bare = u.bare }

-- the block is there
pub open_within : (h : Home) (base : ℕ) (c : ContextData) (b : BlockRef) (left : List DialectBlock) (now : DialectBlock) (right : List DialectBlock) → IsOpen h base c b left now right → b.0 < length c.blocks
open_within h base c b left now right u =
    let funcs = u.under.building.below in
    let last = All-last (IsBelow (length c.ops) (length c.blocks)) h.before.functions (with_blocks h (left ++ now ∷ right)) funcs in
    let small = within_at (left ++ now ∷ right) (λ (x : DialectBlock). x.number < length c.blocks) last.1 (length left + 0) now (slice_get-behind left (now ∷ right) 0) in
    omega (arith, small, u.number)
  where
    All-last : {X : Type 0} (P : X → Type 0) (xs : List X) (x : X) → All P (xs ++ x ∷ []) → P x
    All-last P xs x all = within_at (xs ++ x ∷ []) P all (length xs + 0) x (slice_get-behind xs (x ∷ []) 0)
