-- The lists that a body makes: its numbers, its blocks and its instructions by place.
use Rattle.std.proofs.Common.{◌≡◌, ◌<◌, ◌≤◌, ◌+◌, inl, inr, ℕ, zero, suc, List, [], ◌∷◌, ◌++◌, Some, All, map, length, take, slice_get, sym, ap, ◌∙◌, refl, arith}
use Rattle.std.proofs.lemmas.List.{append_assoc, append-nil}
use Rattle.std.proofs.lemmas.List.Elements.{All-nil, All-cons, All-head, All-tail}
use Rattle.std.proofs.lemmas.Option.{same_Some}
use Rattle.support.specs.Changes.{with_change}
use Rattle.support.proofs.ListLaws.{slice_get-append_cases}
use Rattle.llvm_core.specs.declared.numbers.LLVMBasicBlock.{LLVMBasicBlock}
use Rattle.llvm_core.specs.declared.numbers.LLVMInstRef.{LLVMInstRef}
use Rattle.llvm_core.specs.declared.code.InstData.{InstData}
use Rattle.llvm_core.specs.declared.bodies.BodyBlock.{BodyBlock}
use Rattle.llvm_core.specs.declared.code.FunctionData.{FunctionData}
use Rattle.llvm_core.specs.Bodies.{inst_numbers, inst_in, body_insts}
use Rattle.llvm_core.proofs.ChangeLemmas.{with_change-cons}

-- ---- lists

-- the item behind a first part
pub item_behind : {X : Type 0} (xs : List X) (y : X) (ys : List X) (n : ℕ) → n ≡ length xs → slice_get (xs ++ y ∷ ys) n ≡ Some y
item_behind [] y ys zero e = refl
item_behind [] y ys (suc n) e = absurd (omega arith)
item_behind (x ∷ xs) y ys zero e = absurd (omega arith)
item_behind (x ∷ xs) y ys (suc n) e = item_behind xs y ys n (omega arith)

-- what stands in a mapped list is made of what stands there
pub mapped_from : {X Y : Type 0} (f : X → Y) (xs : List X) (i : ℕ) (y : Y) → slice_get (map f xs) i ≡ Some y → (x : X) × (slice_get xs i ≡ Some x) × (y ≡ f x)
mapped_from f [] i y at = cc
mapped_from f (x ∷ xs) zero y at = (x, refl, sym (same_Some (f x) y at))
mapped_from f (x ∷ xs) (suc i) y at = mapped_from f xs i y at

-- ---- the lists of blocks of functions

-- more numbers in two steps
pub listed_twice : (ns ms : List LLVMBasicBlock) (i : ℕ) (fs : List FunctionData)
    → with_change (λ (x : FunctionData). record x { blocks = x.blocks ++ (ns ++ ms) }) i fs
    ≡ with_change (λ (x : FunctionData). record x { blocks = x.blocks ++ ms }) i (with_change (λ (x : FunctionData). record x { blocks = x.blocks ++ ns }) i fs)
listed_twice ns ms i [] = refl
listed_twice ns ms zero (x ∷ fs) = ap (λ (bs : List LLVMBasicBlock). record x { blocks = bs } ∷ fs) (sym (append_assoc x.blocks ns ms))
listed_twice ns ms (suc i) (x ∷ fs) =
    let one : FunctionData → FunctionData = λ (x : FunctionData). record x { blocks = x.blocks ++ ns } in
    let two : FunctionData → FunctionData = λ (x : FunctionData). record x { blocks = x.blocks ++ ms } in
    with_change-cons (λ (x : FunctionData). record x { blocks = x.blocks ++ (ns ++ ms) }) i x fs ∙ ap (λ ys. x ∷ ys) (listed_twice ns ms i fs)
    ∙ sym (ap (with_change two (suc i)) (with_change-cons one i x fs) ∙ with_change-cons two i x (with_change one i fs))

-- no more numbers
pub listed_none : (i : ℕ) (fs : List FunctionData) → with_change (λ (x : FunctionData). record x { blocks = x.blocks ++ [] }) i fs ≡ fs
listed_none i [] = refl
listed_none zero (x ∷ fs) = ap (λ (bs : List LLVMBasicBlock). record x { blocks = bs } ∷ fs) (append-nil x.blocks)
listed_none (suc i) (x ∷ fs) = with_change-cons (λ (x : FunctionData). record x { blocks = x.blocks ++ [] }) i x fs ∙ ap (λ ys. x ∷ ys) (listed_none i fs)

-- ---- numbers of instructions

pub numbers_within : (n k : ℕ) (xs : List InstData) → n + length xs ≤ k → All (λ (i : LLVMInstRef). i.0 < k) (inst_numbers n xs)
numbers_within n k [] le = All-nil (λ (i : LLVMInstRef). i.0 < k)
numbers_within n k (x ∷ xs) le = All-cons (λ (i : LLVMInstRef). i.0 < k) (record { 0 = n }) (inst_numbers (n + 1) xs) (omega arith) (numbers_within (n + 1) k xs (omega arith))

-- the number at a place
pub number_at : (n : ℕ) (xs : List InstData) (j : ℕ) (x : InstData) → slice_get xs j ≡ Some x → slice_get (inst_numbers n xs) j ≡ Some (record { 0 = n + j })
number_at n [] j x at = cc
number_at n (y ∷ xs) zero x at = ap (λ (k : ℕ). let i : LLVMInstRef = record { 0 = k } in Some i) (let e : n ≡ n + 0 = omega arith in e)
number_at n (y ∷ xs) (suc j) x at = number_at (n + 1) xs j x at ∙ ap (λ (k : ℕ). let i : LLVMInstRef = record { 0 = k } in Some i) (let e : n + 1 + j ≡ n + suc j = omega arith in e)

-- and what stands at a place
pub number_from : (n : ℕ) (xs : List InstData) (j : ℕ) (i : LLVMInstRef) → slice_get (inst_numbers n xs) j ≡ Some i → i.0 ≡ n + j
number_from n [] j i at = cc
number_from n (x ∷ xs) zero i at =
    let first : LLVMInstRef = record { 0 = n } in
    let e : n ≡ i.0 = ap (λ (k : LLVMInstRef). k.0) (same_Some first i at) in
    omega (arith, e)
number_from n (x ∷ xs) (suc j) i at = let e = number_from (n + 1) xs j i at in omega (arith, e)

-- one more number
pub numbers_more : (n k : ℕ) (xs : List InstData) → k < length xs → inst_numbers n (take (k + 1) xs) ≡ inst_numbers n (take k xs) ++ record { 0 = n + k } ∷ []
numbers_more n k xs lt = ap (λ (j : ℕ). inst_numbers n (take j xs)) (let e : k + 1 ≡ suc k = omega arith in e) ∙ by n k xs lt
  where
    by : (n k : ℕ) (xs : List InstData) → k < length xs → inst_numbers n (take (suc k) xs) ≡ inst_numbers n (take k xs) ++ record { 0 = n + k } ∷ []
    by n k [] lt = absurd (omega (arith, lt))
    by n zero (x ∷ xs) lt = ap (λ (j : ℕ). let i : LLVMInstRef = record { 0 = j } in i ∷ []) (let e : n ≡ n + 0 = omega arith in e)
    by n (suc k) (x ∷ xs) lt =
        let first : LLVMInstRef = record { 0 = n } in
        ap (λ (is : List LLVMInstRef). first ∷ is)
        (by (n + 1) k xs (omega (arith, lt))
        ∙ ap (λ (j : ℕ). let i : LLVMInstRef = record { 0 = j } in inst_numbers (n + 1) (take k xs) ++ i ∷ []) (let e : n + 1 + k ≡ n + suc k = omega arith in e))

-- ---- instructions

-- an instruction of the module's new ones
pub record FromBody (P : InstData → Type 0) (z : InstData) : Type 0 where
  pub block : ℕ
  pub inst : InstData
  pub holds : P inst
  pub is : z ≡ inst_in block inst

-- is one of the body, of which holds what holds of each
pub from_body : (P : InstData → Type 0) (n : ℕ) (body : List BodyBlock) (j : ℕ) (z : InstData) → All (λ (b : BodyBlock). All P b.insts) body → slice_get (body_insts n body) j ≡ Some z → FromBody P z
from_body P n [] j z all at = cc
from_body P n (b ∷ bs) j z all at =
    elim (slice_get-append_cases (map (inst_in n) b.insts) (body_insts (n + 1) bs) j z at) [
      | inl here ↦ (let x = mapped_from (inst_in n) b.insts j z here in
          record { block = n; inst = x.0; holds = holds_at b.insts j x.0 (All-head (λ (b : BodyBlock). All P b.insts) b bs all) x.1; is = x.2 })
      | inr later ↦ from_body P (n + 1) bs later.0 z (All-tail (λ (b : BodyBlock). All P b.insts) b bs all) later.1
    ]
  where
    holds_at : (xs : List InstData) (i : ℕ) (x : InstData) → All P xs → slice_get xs i ≡ Some x → P x
    holds_at [] i x all at = cc
    holds_at (y ∷ xs) zero x all at = let same : y ≡ x = same_Some y x at in rw (← same) (All-head P y xs all)
    holds_at (y ∷ xs) (suc i) x all at = holds_at xs i x (All-tail P y xs all) at
