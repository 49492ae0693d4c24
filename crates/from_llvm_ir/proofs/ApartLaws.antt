-- Functions stay apart from all else while a context grows.
use Rattle.std.proofs.Common.{ℕ, ◌≡◌, ◌<◌, refl, sym, ap, subst, ◌∙◌, List, [], ◌∷◌, ◌++◌, Option, Some, None, All, length, slice_get, nat_eq, Bool, true, false, if◌then◌else◌, arith, length-append}
use Rattle.std.specs.Prelude.{unwrap_or}
use Rattle.std.specs.Option.{option_map}
use Rattle.std.proofs.lemmas.Bool.{eqb-true, eqb-false}
use Rattle.std.proofs.lemmas.List.Elements.{All-nil, All-push, All-weaker}
use Rattle.std.proofs.lemmas.Option.{unwrap_or-slice_get}
use Rattle.dialect_core.proofs.ContextLemmas.{kind_there}
use Rattle.support.specs.Changes.{with_change}
use Rattle.dialect_core.specs.declared.numbers.OpRef.{OpRef}
use Rattle.dialect_core.specs.declared.numbers.BlockRef.{BlockRef}
use Rattle.dialect_core.specs.declared.ops.OpKind.{OpKind}
use Rattle.dialect_core.specs.declared.ops.OpKind.TheVariants as K
use Rattle.dialect_core.specs.declared.ops.OpData.{OpData}
use Rattle.dialect_core.specs.declared.ops.BlockData.{BlockData}
use Rattle.dialect_core.specs.Lists.{list_at}
use Rattle.dialect_core.specs.ContextData.{ContextData, with_op, with_block, with_appended, kind_at, IsPlainKindAt}
use Rattle.dialect_core.proofs.CallerLemmas.{old_kind, changed_kind}
use Rattle.dialect_core.proofs.FilterLemmas.{change_get, change_get_other}
use Rattle.from_llvm_ir.specs.Imported.{HasFuncsApart}

-- ---- lists of operations

abbrev push : OpRef → List OpRef → List OpRef
push o xs = xs ++ o ∷ []

list_is : (lists : List (List OpRef)) (b : BlockRef) → list_at lists b ≡ unwrap_or (slice_get lists b.0) []
list_is lists b = sym (unwrap_or-slice_get lists b.0 [])

-- the list of another block stays
pushed_other : (lists : List (List OpRef)) (o : OpRef) (n : ℕ) (b : BlockRef) → ¬ (b.0 ≡ n) → list_at (with_change (push o) n lists) b ≡ list_at lists b
pushed_other lists o n b apart = list_is (with_change (push o) n lists) b ∙ ap (λ (x : Option (List OpRef)). unwrap_or x []) (change_get_other (push o) n lists b.0 apart) ∙ sym (list_is lists b)

-- what holds of the operations and of the new one holds of all
pub pushed_all : (P : OpRef → Type 0) (lists : List (List OpRef)) (o : OpRef) (n : ℕ) (b : BlockRef) → P o → All P (list_at lists b) → All P (list_at (with_change (push o) n lists) b)
pushed_all P lists o n b one all =
    let Q : List OpRef → Type 0 = All P in
    subst Q (sym (list_is (with_change (push o) n lists) b ∙ ap (λ (x : Option (List OpRef)). unwrap_or x []) (change_get (push o) n lists b.0)))
    (by (nat_eq b.0 n) (slice_get lists b.0) (subst Q (list_is lists b) all))
  where
    by : (t : Bool) (x : Option (List OpRef)) → All P (unwrap_or x []) → All P (unwrap_or (if t then option_map (push o) x else x) [])
    by true None h = h
    by true (Some xs) h = All-push P xs o h one
    by false x h = h

-- a block more has no operations
pub list_more : (lists : List (List OpRef)) (b : BlockRef) → list_at (lists ++ [] ∷ []) b ≡ list_at lists b
list_more lists b = by lists b.0
  where
    by : (xs : List (List OpRef)) (n : ℕ) → list_at (xs ++ [] ∷ []) (record { 0 = n }) ≡ list_at xs (record { 0 = n })
    by [] ℕ.zero = refl
    by [] (ℕ.suc n) = refl
    by (x ∷ xs) ℕ.zero = refl
    by (x ∷ xs) (ℕ.suc n) = by xs n

-- ---- kinds

kept_kind : (ops : List OpData) (x : OpData) (o : OpRef) (k : OpKind) → kind_at ops o ≡ Some k → kind_at (ops ++ x ∷ []) o ≡ Some k
kept_kind ops x o k h = old_kind ops x o (kind_there ops o k h) ∙ h

-- ---- an operation more

-- one that stands in no block
pub op_apart : (c : ContextData) (x : OpData) (body : BlockRef) → HasFuncsApart c body → HasFuncsApart (with_op c x) body
op_apart c x body h = record {
  funcs = All-weaker (λ (o : OpRef). kind_at c.ops o ≡ Some K.Func) (λ (o : OpRef). kind_at (c.ops ++ x ∷ []) o ≡ Some K.Func) (λ o k. kept_kind c.ops x o K.Func k) (list_at c.lists body) h.funcs;
  plain = λ b behind within. All-weaker (IsPlainKindAt c.ops) (IsPlainKindAt (with_op c x).ops) (λ o p. (p.0, kept_kind c.ops x o p.0 p.1, p.2)) (list_at c.lists b) (h.plain b behind within);
}

-- a function that the block for functions takes
pub func_apart : (c : ContextData) (o : OpRef) (body : BlockRef) → HasFuncsApart c body → kind_at c.ops o ≡ Some K.Func → HasFuncsApart (with_appended c o body) body
func_apart c o body h kind = record {
  funcs = pushed_all (λ (p : OpRef). kind_at c.ops p ≡ Some K.Func) c.lists o body.0 body kind h.funcs;
  plain = λ b behind within. let Q : List OpRef → Type 0 = All (IsPlainKindAt c.ops) in subst Q (sym (pushed_other c.lists o body.0 b (λ same. omega (arith, same, behind)))) (h.plain b behind within);
}

-- any other operation, which another block takes
pub plain_apart : (c : ContextData) (o : OpRef) (b body : BlockRef) → HasFuncsApart c body → IsPlainKindAt c.ops o → ¬ (body.0 ≡ b.0) → HasFuncsApart (with_appended c o b) body
plain_apart c o b body h plain differs = record {
  funcs = let Q : List OpRef → Type 0 = All (λ (p : OpRef). kind_at c.ops p ≡ Some K.Func) in subst Q (sym (pushed_other c.lists o b.0 body differs)) h.funcs;
  plain = λ p behind within. pushed_all (IsPlainKindAt c.ops) c.lists o b.0 p plain (h.plain p behind within);
}

-- ---- a block more

-- what holds of the operations of a block that was there holds of them still, and the new block has none
pub block_lists : (c : ContextData) (b : BlockRef) (x : BlockData) (P : OpRef → Type 0) (p : BlockRef) → b.0 ≡ length c.blocks → list_at (with_block c b x).lists b ≡ [] → p.0 < length (with_block c b x).blocks
    → (p.0 < length c.blocks → All P (list_at c.lists p)) → All P (list_at (with_block c b x).lists p)
block_lists c b x P p number empty within old = by (nat_eq p.0 b.0) refl
  where
    Q : List OpRef → Type 0
    Q = All P

    by : (t : Bool) → nat_eq p.0 b.0 ≡ t → All P (list_at (c.lists ++ [] ∷ []) p)
    by true e = subst Q (sym (ap (λ (n : ℕ). list_at (c.lists ++ [] ∷ []) (record { 0 = n })) (eqb-true p.0 b.0 e) ∙ empty)) (All-nil P)
    by false e = subst Q (sym (list_more c.lists p)) (old (small (eqb-false p.0 b.0 e)))
      where
        small : ¬ (p.0 ≡ b.0) → p.0 < length c.blocks
        small ne = omega (arith, ne, number, within, length-append c.blocks (x ∷ []))

abbrev region_more : BlockRef → OpData → OpData
region_more b x = record x { blocks = x.blocks ++ b ∷ [] }

abbrev grown : List OpData → BlockRef → ℕ → List OpData
grown ops b i = with_change (region_more b) i ops

grown_kind : (ops : List OpData) (b : BlockRef) (i : ℕ) (o : OpRef) → kind_at (grown ops b i) o ≡ kind_at ops o
grown_kind ops b i o = changed_kind (region_more b) i ops o (λ x. refl)

-- a block behind all others, and nothing in it
pub block_apart : (c : ContextData) (b body : BlockRef) (x : BlockData) → HasFuncsApart c body → b.0 ≡ length c.blocks → list_at (with_block c b x).lists b ≡ [] → HasFuncsApart (with_block c b x) body
block_apart c b body x h number empty =
    let after = with_block c b x in
    record {
      funcs = listed (λ (o : OpRef). kind_at after.ops o ≡ Some K.Func) body
          (All-weaker (λ (o : OpRef). kind_at c.ops o ≡ Some K.Func) (λ (o : OpRef). kind_at after.ops o ≡ Some K.Func) (λ o k. grown_kind c.ops b x.holder.0 o ∙ k) (list_at c.lists body) h.funcs);
      plain = λ p behind within. block_lists c b x (IsPlainKindAt after.ops) p number empty within (λ small.
          All-weaker (IsPlainKindAt c.ops) (IsPlainKindAt after.ops) (λ o q. (q.0, grown_kind c.ops b x.holder.0 o ∙ q.1, q.2)) (list_at c.lists p) (h.plain p behind small));
    }
  where
    listed : (P : OpRef → Type 0) (p : BlockRef) → All P (list_at c.lists p) → All P (list_at (c.lists ++ [] ∷ []) p)
    listed P p all = let Q : List OpRef → Type 0 = All P in subst Q (sym (list_more c.lists p)) all
