-- The edges to the first block of a function.
use Rattle.std.proofs.Common.{◌≡◌, ◌<◌, ℕ, true, false, nat_eq, List, [], ◌∷◌, Option, None, Some, length, slice_get, get_or, sym, ap, ◌∙◌, refl, subst, arith, All}
use Rattle.std.specs.Option.{option_map}
use Rattle.std.proofs.lemmas.Bool.{eqb-true}
use Rattle.std.proofs.lemmas.Option.{slice_get_within, get_or_from_slice_get, same_Some}
use Rattle.support.proofs.ListLaws.{item_there}
use Rattle.llvm_core.specs.declared.numbers.LLVMBasicBlock.{LLVMBasicBlock}
use Rattle.llvm_core.specs.declared.code.FunctionData.{FunctionData}
use Rattle.llvm_core.specs.declared.check_err.Place.TheVariants as P
use Rattle.llvm_core.specs.declared.check_err.CheckErr.TheVariants.{EntryHasPreds}
use Rattle.llvm_core.specs.Module.{Module}
use Rattle.llvm_core.specs.Edges.{count_of, edge_count, HasIncoming}
use Rattle.llvm_core.specs.Checked.{HasNoPreds, Fails}
use Rattle.llvm_core.proofs.PhiLemmas.{counts_read}

-- a list of some length
pub some_at : {X : Type 0} (xs : List X) → nat_eq (length xs) 0 ≡ false → 0 < length xs
some_at [] e = absurd cc
some_at (x ∷ xs) e = omega arith

pub none_at : {X : Type 0} (xs : List X) (x : X) → nat_eq (length xs) 0 ≡ true → slice_get xs 0 ≡ Some x → ⊥
none_at xs x e at = absurd (omega (arith, eqb-true (length xs) 0 e, slice_get_within xs 0 x at))

-- the counts in the list of the first block
pub first_counts : (m : Module) (lists : List (List ℕ)) (bs : List LLVMBasicBlock) (d : LLVMBasicBlock) (e from : List ℕ) → HasIncoming m lists → All (λ (b : LLVMBasicBlock). b.0 < length m.blocks) bs → 0 < length bs
    → from ≡ get_or lists (get_or bs 0 d).0 e → (p : ℕ) → count_of p from ≡ edge_count m p (get_or bs 0 d).0
first_counts m lists bs d e from h within lt read = counts_read m lists (get_or bs 0 d).0 e from h (within 0 d lt) read

pub same_first : (m : Module) (bs : List LLVMBasicBlock) (b d : LLVMBasicBlock) → slice_get bs 0 ≡ Some b → HasNoPreds m (get_or bs 0 d).0 → HasNoPreds m b.0
same_first m bs b d at none = subst (λ (c : LLVMBasicBlock). HasNoPreds m c.0) (get_or_from_slice_get bs 0 b d at) none

module _ (m : Module) (f : ℕ) (bs : List LLVMBasicBlock) (blocks_are : option_map (λ (x : FunctionData). x.blocks) (slice_get m.functions f) ≡ Some bs) where
  found : (x : FunctionData) × (slice_get m.functions f ≡ Some x) × (x.blocks ≡ bs)
  found = by (slice_get m.functions f) refl blocks_are
    where
      by : (o : Option FunctionData) → slice_get m.functions f ≡ o → option_map (λ (x : FunctionData). x.blocks) o ≡ Some bs → (x : FunctionData) × (slice_get m.functions f ≡ Some x) × (x.blocks ≡ bs)
      by None e p = cc
      by (Some x) e p = (x, e, same_Some x.blocks bs p)

  pub first_fails : (d : LLVMBasicBlock) → 0 < length bs → ¬ HasNoPreds m (get_or bs 0 d).0 → Fails m (EntryHasPreds (P.Function f))
  first_fails d lt some =
      let b = item_there bs 0 lt in
      (found.0, found.1, (b.0, ap (λ (cs : List LLVMBasicBlock). slice_get cs 0) found.2 ∙ b.1, subst (λ (c : LLVMBasicBlock). ¬ HasNoPreds m c.0) (get_or_from_slice_get bs 0 b.0 d b.1) some))

  pub first_fits : ((b : LLVMBasicBlock) → slice_get bs 0 ≡ Some b → HasNoPreds m b.0) → ¬ Fails m (EntryHasPreds (P.Function f))
  first_fits none (x, at, led) =
      let same : found.0 ≡ x = same_Some found.0 x (sym found.1 ∙ at) in
      let blocks_x : x.blocks ≡ bs = ap (λ (y : FunctionData). y.blocks) (sym same) ∙ found.2 in
      led.2 (none led.0 (ap (λ (cs : List LLVMBasicBlock). slice_get cs 0) (sym blocks_x) ∙ led.1))
