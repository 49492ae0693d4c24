-- What stands in lists under numbers is what a store keeps under them.
use Rattle.std.proofs.Common.{◌≡◌, ℕ, zero, suc, Bool, true, false, nat_eq, cond, List, [], ◌∷◌, ◌++◌, get_or, slice_get, Option, Some, None, refl, ap, sym, ◌∙◌, eq-eqb, eqb-true}
use Rattle.std.specs.List.{flat_map, filter_map, cons_option, find}
use Rattle.std.specs.Option.{option_map}
use Rattle.std.proofs.lemmas.Option.{same_Some}
use Rattle.llvm_core.specs.declared.numbers.LLVMFunction.{LLVMFunction}
use Rattle.llvm_core.specs.declared.numbers.LLVMBasicBlock.{LLVMBasicBlock}
use Rattle.llvm_core.specs.declared.numbers.LLVMInstRef.{LLVMInstRef}
use Rattle.llvm_core.specs.declared.code.BlockData.{BlockData}
use Rattle.llvm_core.specs.declared.code.InstData.{InstData}
use Rattle.llvm_core.specs.Module.{Module}
use Rattle.llvm_core.specs.Data.{Placed, Block, trees_of, placed_of, placed_at, block_of, block_at, placed_in}
use Rattle.llvm_core.specs.Form.{HasNumber}
use Rattle.ll_print.specs.Parts.{no_function, function_in, HasBlockNumber}

-- ---- things with numbers, and a store of what each number makes

module _ {P X : Type 0} (number : P → ℕ) (store : List X) (made : ℕ → X → P) where
  abbrev pub Kept : P → Type 0
  Kept p = (x : X) × (slice_get store (number p) ≡ Some x) × (p ≡ made (number p) x)

  abbrev pub AreKept : List P → Type 0
  AreKept [] = Unit {0}
  AreKept (p ∷ ps) = Kept p × AreKept ps

  kept_both : (ps qs : List P) → AreKept ps → AreKept qs → AreKept (ps ++ qs)
  kept_both [] qs a b = b
  kept_both (p ∷ ps) qs a b = (a.0, kept_both ps qs a.1 b)

  -- the thing of a number, where one has it
  find_kept : (ps : List P) (n : ℕ) (x : X) → AreKept ps → (i : ℕ) (q : P) → slice_get ps i ≡ Some q → number q ≡ n → slice_get store n ≡ Some x → find (λ p. nat_eq (number p) n) ps ≡ Some (made n x)
  find_kept [] n x kept i q found same at = absurd cc
  find_kept (p ∷ ps) n x kept i q found same at = by (nat_eq (number p) n) refl i found (λ j further. find_kept ps n x kept.1 j q further same at)
    where
      here : (k : ℕ) → number p ≡ k → slice_get store k ≡ Some x → p ≡ made k x
      here k e there =
          let one : kept.0.0 ≡ x = same_Some kept.0.0 x (sym kept.0.1 ∙ ap (slice_get store) e ∙ there) in
          kept.0.2 ∙ ap (λ (j : ℕ). made j kept.0.0) e ∙ ap (made k) one

      by : (b : Bool) → nat_eq (number p) n ≡ b → (i : ℕ) → slice_get (p ∷ ps) i ≡ Some q → ((j : ℕ) → slice_get ps j ≡ Some q → find (λ p. nat_eq (number p) n) ps ≡ Some (made n x)) → cond b (Some p) (find (λ p. nat_eq (number p) n) ps) ≡ Some (made n x)
      by true e i found further = ap (λ (r : P). Some r) (here n (eqb-true (number p) n e) at)
      by false e zero found further =
          let one : p ≡ q = same_Some p q found in
          absurd (let g : nat_eq (number p) n ≡ true = eq-eqb (number p) n (ap number one ∙ same) in cc)
      by false e (suc i) found further = further i found

-- ---- instructions and blocks of a module

abbrev placed : Module → ℕ → InstData → Placed
placed m n x = placed_of (trees_of m) (record { 0 = n }) x

abbrev block : Module → ℕ → BlockData → Block
block m n x = block_of (trees_of m) m.insts (record { 0 = n }) x

kept_insts : (m : Module) (is : List LLVMInstRef) → AreKept (λ (p : Placed). p.number) m.insts (placed m) (filter_map (placed_at (trees_of m) m.insts) is)
kept_insts m [] = tt
kept_insts m (i ∷ is) = by (slice_get m.insts i.0) refl (kept_insts m is)
  where
    rest : List Placed
    rest = filter_map (placed_at (trees_of m) m.insts) is

    by : (o : Option InstData) → slice_get m.insts i.0 ≡ o → AreKept (λ (p : Placed). p.number) m.insts (placed m) rest → AreKept (λ (p : Placed). p.number) m.insts (placed m) (cons_option (option_map (placed_of (trees_of m) i) o) rest)
    by None e more = more
    by (Some x) e more = ((x, e, refl), more)

kept_all : (m : Module) (bs : List LLVMBasicBlock) → AreKept (λ (p : Placed). p.number) m.insts (placed m) (flat_map (λ (b : Block). b.instructions) (filter_map (block_at (trees_of m) m.blocks m.insts) bs))
kept_all m [] = tt
kept_all m (b ∷ bs) = by (slice_get m.blocks b.0) (kept_all m bs)
  where
    rest : List Block
    rest = filter_map (block_at (trees_of m) m.blocks m.insts) bs

    by : (o : Option BlockData) → AreKept (λ (p : Placed). p.number) m.insts (placed m) (flat_map (λ (b : Block). b.instructions) rest)
        → AreKept (λ (p : Placed). p.number) m.insts (placed m) (flat_map (λ (b : Block). b.instructions) (cons_option (option_map (block_of (trees_of m) m.insts b) o) rest))
    by None h = h
    by (Some x) h =
        kept_both (λ (p : Placed). p.number) m.insts (placed m) (filter_map (placed_at (trees_of m) m.insts) x.insts) (flat_map (λ (b : Block). b.instructions) rest) (kept_insts m x.insts) h

kept_blocks : (m : Module) (bs : List LLVMBasicBlock) → AreKept (λ (b : Block). b.number) m.blocks (block m) (filter_map (block_at (trees_of m) m.blocks m.insts) bs)
kept_blocks m [] = tt
kept_blocks m (b ∷ bs) = by (slice_get m.blocks b.0) refl (kept_blocks m bs)
  where
    rest : List Block
    rest = filter_map (block_at (trees_of m) m.blocks m.insts) bs

    by : (o : Option BlockData) → slice_get m.blocks b.0 ≡ o → AreKept (λ (c : Block). c.number) m.blocks (block m) rest → AreKept (λ (c : Block). c.number) m.blocks (block m) (cons_option (option_map (block_of (trees_of m) m.insts b) o) rest)
    by None e more = more
    by (Some x) e more = ((x, e, refl), more)

-- the instruction of a number is the one that the module keeps
pub inst_found : (m : Module) (f : LLVMFunction) (i : LLVMInstRef) (x : InstData) → HasNumber i.0 (placed_in (function_in m f)) → slice_get m.insts i.0 ≡ Some x
    → find (λ (p : Placed). nat_eq p.number i.0) (placed_in (function_in m f)) ≡ Some (placed_of (trees_of m) i x)
inst_found m f i x has at =
    find_kept (λ (p : Placed). p.number) m.insts (placed m) (placed_in (function_in m f)) i.0 x (kept_all m (get_or m.functions f.0 no_function).blocks) has.0 has.1 has.2 has.3 at

-- and so is the block of a number
pub block_found : (m : Module) (f : LLVMFunction) (b : LLVMBasicBlock) (x : BlockData) → HasBlockNumber b.0 (function_in m f).blocks → slice_get m.blocks b.0 ≡ Some x
    → find (λ (c : Block). nat_eq c.number b.0) (function_in m f).blocks ≡ Some (block_of (trees_of m) m.insts b x)
block_found m f b x has at =
    find_kept (λ (c : Block). c.number) m.blocks (block m) (function_in m f).blocks b.0 x (kept_blocks m (get_or m.functions f.0 no_function).blocks) has.0 has.1 has.2 has.3 at
