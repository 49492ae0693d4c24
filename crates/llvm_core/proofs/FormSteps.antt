-- What the loops over the elements of a list keep.
use Rattle.std.proofs.Common.{◌≡◌, ◌<◌, ◌+◌, ◌^◌, ℕ, zero, suc, Bool, true, false, List, [], ◌∷◌, ◌++◌, Option, Some, None, ◌&&◌, slice_get, take, ap, sym, subst, ◌∙◌, refl}
use Rattle.std.specs.Prelude.{IfSome}
use Rattle.std.specs.List.{list_all}
use Rattle.std.specs.Option.{option_map, option_and_then}
use Rattle.std.proofs.lemmas.List.{map-append}
use Rattle.std.proofs.lemmas.Option.{same_Some}
use Rattle.support.proofs.ListLaws.{take_next}
use Rattle.llvm_core.specs.declared.numbers.LLVMConst.{LLVMConst}
use Rattle.llvm_core.specs.declared.consts.LLVMConstKind.{LLVMConstKind}
use Rattle.kinds.specs.declared.fill.Fill.{Fill}
use Rattle.llvm_core.specs.Consts.{IsAt, all_ints, told, int_of, fill_of, is_fill}
use Rattle.llvm_core.proofs.OneForm.{first_value}

-- one item more is told
module _ {X : Type 0} (f : LLVMConstKind → Option X) (consts : List LLVMConstKind) where
  abbrev at : LLVMConst → Option X
  at c = option_and_then f (slice_get consts c.0)

  told_next : (cs : List LLVMConst) (i : ℕ) (c : LLVMConst) → slice_get cs i ≡ Some c → told f consts (take (i + 1) cs) ≡ told f consts (take i cs) ++ at c ∷ []
  told_next cs i c here = ap (told f consts) (take_next cs i c here) ∙ map-append at (take i cs) (c ∷ [])

  told_at : (cs : List LLVMConst) (i : ℕ) (c : LLVMConst) → slice_get cs i ≡ Some c → slice_get (told f consts cs) i ≡ Some (at c)
  told_at [] i c here = cc
  told_at (d ∷ cs) zero c here = ap (λ (x : LLVMConst). Some (at x)) (same_Some d c here)
  told_at (d ∷ cs) (suc i) c here = told_at cs i c here

ints_push : (os : List (Option ℕ)) (ns : List ℕ) (n : ℕ) → all_ints os ≡ Some ns → all_ints (os ++ Some n ∷ []) ≡ Some (ns ++ n ∷ [])
ints_push [] ns n h = ap (λ (xs : List ℕ). Some (xs ++ n ∷ [])) (same_Some [] ns h)
ints_push (o ∷ os) ns n h =
    let v = first_value o os ns h in
    let next = ints_push os v.rest n v.others in
    ap (λ (x : Option ℕ). all_ints (x ∷ os ++ Some n ∷ [])) v.here ∙ ap (option_map (λ xs. v.first ∷ xs)) next ∙ ap (λ (xs : List ℕ). Some (xs ++ n ∷ [])) (sym v.is)

ints_none : (os : List (Option ℕ)) (i : ℕ) → slice_get os i ≡ Some None → all_ints os ≡ None
ints_none [] i h = cc
ints_none (o ∷ os) zero h = ap (λ (x : Option ℕ). all_ints (x ∷ os)) (same_Some o None h)
ints_none (None ∷ os) (suc i) h = refl
ints_none (Some n ∷ os) (suc i) h = ap (option_map (λ ns. n ∷ ns)) (ints_none os i h)

all_but : {X : Type 0} (p : X → Bool) (xs : List X) (i : ℕ) (x : X) → slice_get xs i ≡ Some x → p x ≡ false → list_all p xs ≡ false
all_but p [] i x at h = cc
all_but p (y ∷ xs) zero x at h = let e = same_Some y x at in cc
all_but p (y ∷ xs) (suc i) x at h = by (p y) (all_but p xs i x at h)
  where
    by : (b : Bool) → list_all p xs ≡ false → (b && list_all p xs) ≡ false
    by true e = e
    by false e = refl

-- ---- the two loops

-- an integer fits a byte where each of the constants does
pub int_few : (consts : List LLVMConstKind) (c : LLVMConst) (n : ℕ) → IsAt (λ (k : LLVMConstKind). IfSome (int_of k) (λ v. v < 2 ^ 8)) consts c → Some n ≡ option_and_then int_of (slice_get consts c.0) → n < 2 ^ 8
int_few consts c n (k, at, short) value = subst (λ (o : Option ℕ). IfSome o (λ v. v < 2 ^ 8)) (sym (value ∙ ap (option_and_then int_of) at)) short

pub ints_go_on : (consts : List LLVMConstKind) (cs : List LLVMConst) (i : ℕ) (c : LLVMConst) (ns : List ℕ) (n : ℕ) → slice_get cs i ≡ Some c → all_ints (told int_of consts (take i cs)) ≡ Some ns → Some n ≡ option_and_then int_of (slice_get consts c.0)
    → all_ints (told int_of consts (take (i + 1) cs)) ≡ Some (ns ++ n ∷ [])
ints_go_on consts cs i c ns n here before value =
    ap all_ints (told_next int_of consts cs i c here) ∙ ap (λ (o : Option ℕ). all_ints (told int_of consts (take i cs) ++ o ∷ [])) (sym value) ∙ ints_push (told int_of consts (take i cs)) ns n before

pub no_ints : (consts : List LLVMConstKind) (cs : List LLVMConst) (i : ℕ) (c : LLVMConst) → slice_get cs i ≡ Some c → None ≡ option_and_then int_of (slice_get consts c.0) → all_ints (told int_of consts cs) ≡ None
no_ints consts cs i c here value = ints_none (told int_of consts cs) i (told_at int_of consts cs i c here ∙ ap Some (sym value))

pub not_filled : (fill : Fill) (consts : List LLVMConstKind) (cs : List LLVMConst) (i : ℕ) (c : LLVMConst) → slice_get cs i ≡ Some c → is_fill fill (option_and_then fill_of (slice_get consts c.0)) ≡ false → list_all (is_fill fill) (told fill_of consts cs) ≡ false
not_filled fill consts cs i c here value = all_but (is_fill fill) (told fill_of consts cs) i (option_and_then fill_of (slice_get consts c.0)) (told_at fill_of consts cs i c here) value
