-- What tests of narrow operations, blocks and functions find.
use Rattle.std.proofs.Common.{◌≡◌, ◌<◌, ℕ, suc, Bool, true, false, nat_eq, if◌then◌else◌, List, [], ◌∷◌, Option, Some, None, All, length, slice_get, sym, subst, ◌∙◌, refl}
use Rattle.std.specs.Prelude.{IsTrue, IfSome, ◌↔◌}
use Rattle.std.specs.Option.{option_map}
use Rattle.std.proofs.lemmas.Option.{none-some, same_Some}
use Rattle.kinds.specs.Held.{IsHeld, IsHeldSignature}
use Rattle.kinds.specs.Names.{is_good_name}
use Rattle.dialect_types.specs.declared.types.TypeHandle.{TypeHandle}
use Rattle.dialect_core.specs.declared.numbers.OpRef.{OpRef}
use Rattle.dialect_core.specs.declared.numbers.BlockRef.{BlockRef}
use Rattle.dialect_core.specs.declared.linkage.LinkageAttr.{LinkageAttr}
use Rattle.dialect_core.specs.declared.linkage.LinkageAttr.TheVariants.{ExternalLinkage}
use Rattle.dialect_core.specs.declared.ops.Symbol.{Symbol}
use Rattle.dialect_core.specs.declared.ops.OpData.{OpData}
use Rattle.dialect_core.specs.declared.ops.BlockData.{BlockData}
use Rattle.dialect_core.specs.Lists.{from_op}
use Rattle.dialect_core.specs.ContextData.{ContextData, symbol_at}
use Rattle.dialect_core.specs.Data.{IsTyped, llvm_name_of}
use Rattle.dialect_core.specs.Checking.{func_at, tree_at}
use Rattle.dialect_core.proofs.TestLemmas.{never}
use Rattle.dialect_core.proofs.OpTestLemmas.{func_type}
use Rattle.dialect_core.proofs.FuncTestLemmas.{func_linkage}
use Rattle.to_llvm_ir.specs.Narrow.{IsNarrowBlockAt, AreNarrowBlocks, IsNarrowHead}
use Rattle.to_llvm_ir.proofs.ContextLaws.{known}

-- the type of a result is there
pub result_typed : (c : ContextData) (o : OpRef) (r : Option TypeHandle) (t : TypeHandle) → IsTyped c → option_map (λ (x : OpData). x.result) (slice_get c.ops o.0) ≡ Some r → r ≡ Some t → t.0 < length c.types
result_typed c o r t typed h is = by (slice_get c.ops o.0) refl h
  where
    by : (x : Option OpData) → slice_get c.ops o.0 ≡ x → option_map (λ (x : OpData). x.result) x ≡ Some r → t.0 < length c.types
    by None at e = absurd (none-some r e)
    by (Some x) at e = subst (λ (r : Option TypeHandle). IfSome r (λ (t : TypeHandle). t.0 < length c.types)) (same_Some x.result r e ∙ is) (typed.ops o.0 x at).result

-- a block with an argument that is not of 1 to 64 bits
pub block_wide : (c : ContextData) (b : BlockRef) (args : List TypeHandle) → option_map (λ (x : BlockData). x.args) (slice_get c.blocks b.0) ≡ Some args → (All (λ (t : TypeHandle). IsHeld (tree_at c t)) args → ⊥) → IsNarrowBlockAt c b → ⊥
block_wide c b args are wide h =
    let P : List TypeHandle → Type 0 = All (λ (t : TypeHandle). IsHeld (tree_at c t)) in
    wide (subst P (known (λ (x : BlockData). x.args) (slice_get c.blocks b.0) args are) h.args)

-- no blocks are those of a narrow function
pub no_blocks : (c : ContextData) (bs : List BlockRef) → bs ≡ [] → IsTrue false ↔ AreNarrowBlocks c bs
no_blocks c bs none = never (λ h. subst (AreNarrowBlocks c) none h)

-- and others are where each is narrow
pub blocks_narrow : (c : ContextData) (bs : List BlockRef) (t : Bool) → ¬ (bs ≡ []) → (IsTrue t ↔ All (IsNarrowBlockAt c) bs) → IsTrue t ↔ AreNarrowBlocks c bs
blocks_narrow c [] t some h = absurd (some refl)
blocks_narrow c (entry ∷ more) t some h = h

-- a function by its LLVM name, its linkage and its type
pub head_is : (c : ContextData) (f : OpRef) (l : LinkageAttr) (ty : TypeHandle) (t : Bool) → is_good_name (llvm_name_of (func_at c f)) ≡ true → option_map (λ (s : Symbol). s.linkage) (symbol_at c.ops f) ≡ Some l → l ≡ ExternalLinkage
    → option_map (λ (s : Symbol). s.ty) (symbol_at c.ops f) ≡ Some ty → (IsTrue t ↔ IsHeldSignature (tree_at c ty)) → IsTrue t ↔ IsNarrowHead c f
head_is c f l ty t good linkage external type h = (
  λ w. record {
    good = good;
    linkage = func_linkage c f l linkage ∙ external;
    signature = subst IsHeldSignature (sym (func_type c f ty type)) (h.0 w);
  },
  λ w. h.1 (subst IsHeldSignature (func_type c f ty type) w.signature),
)

-- an operation that something begins with stands there
pub from_there : (P : OpRef → Type 0) (o : OpRef) (xs : List OpRef) → ((k : ℕ) (x : OpRef) → slice_get xs k ≡ Some x → P x) → Some o ≡ slice_get (from_op (Some o) xs) 0 → P o
from_there P o [] all h = absurd (none-some o (sym h))
from_there P o (x ∷ xs) all h = by (nat_eq x.0 o.0) refl (λ e. from_there P o xs (λ k y at. all (suc k) y at) e) h
  where
    by : (t : Bool) → nat_eq x.0 o.0 ≡ t → (Some o ≡ slice_get (from_op (Some o) xs) 0 → P o) → Some o ≡ slice_get (if t then x ∷ xs else from_op (Some o) xs) 0 → P o
    by true is later e = subst P (sym (same_Some o x e)) (all 0 x refl)
    by false is later e = later e
