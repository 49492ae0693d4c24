-- The numbers of blocks and instructions in module data are below their counts.
use Rattle.std.proofs.Common.{◌≡◌, ◌<◌, ◌+◌, ℕ, suc, List, [], ◌∷◌, Option, None, Some, IfSome, length, slice_get, map, ap, ◌∙◌, refl, All}
use Rattle.std.specs.List.{filter_map, cons_option, enumerate_from}
use Rattle.std.specs.Option.{option_map}
use Rattle.std.proofs.lemmas.List.Elements.{All-nil, All-cons, All-weaker, All-head, All-tail}
use Rattle.llvm_core.specs.declared.numbers.LLVMBasicBlock.{LLVMBasicBlock}
use Rattle.llvm_core.specs.declared.numbers.LLVMInstRef.{LLVMInstRef}
use Rattle.llvm_core.specs.declared.code.BlockData.{BlockData}
use Rattle.llvm_core.specs.declared.code.InstData.{InstData}
use Rattle.llvm_core.specs.Module.{Module}
use Rattle.llvm_core.specs.Sound.{IsModule}
use Rattle.llvm_core.specs.Data.{Placed, Block, Function, trees_of, placed_of, placed_at, block_of, block_at, function_of, data_of, AllBlocks, AllPlaced}

pub All-filter_map : {X Y : Type 0} (P : Y → Type 0) (h : X → Option Y) (xs : List X) → All (λ x. IfSome (h x) P) xs → All P (filter_map h xs)
All-filter_map P h [] all = All-nil P
All-filter_map {X} {Y} P h (x ∷ xs) all = by (h x) (All-head (λ x. IfSome (h x) P) x xs all) (All-filter_map P h xs (All-tail (λ x. IfSome (h x) P) x xs all))
  where
    by : (o : Option Y) → IfSome o P → All P (filter_map h xs) → All P (cons_option o (filter_map h xs))
    by None here rest = rest
    by (Some y) here rest = All-cons P y (filter_map h xs) here rest

All-mapped : {X Y : Type 0} (P : Y → Type 0) (f : ℕ × X → Y) (n : ℕ) (xs : List X) → ((k i : ℕ) (x : X) → slice_get xs i ≡ Some x → P (f (k, x))) → All P (map f (enumerate_from n xs))
All-mapped P f n [] all = All-nil P
All-mapped P f n (x ∷ xs) all = All-cons P (f (n, x)) (map f (enumerate_from (n + 1) xs)) (all n 0 x refl) (All-mapped P f (n + 1) xs (λ k i y at. all k (suc i) y at))

pub blocks_below : (m : Module) → IsModule m → AllBlocks (λ b. b.number < length m.blocks) (data_of m)
blocks_below m s =
    All-mapped (λ (f : Function). All (λ (b : Block). b.number < length m.blocks) f.blocks) (function_of (trees_of m) m.blocks m.insts) 0 m.functions (λ k f x at.
    All-filter_map (λ (b : Block). b.number < length m.blocks) (block_at (trees_of m) m.blocks m.insts) x.blocks
    (All-weaker (λ (b : LLVMBasicBlock). b.0 < length m.blocks) (λ b. IfSome (block_at (trees_of m) m.blocks m.insts b) (λ (b : Block). b.number < length m.blocks)) (λ b lt. by b lt (slice_get m.blocks b.0)) x.blocks (s.functions f x at).blocks))
  where
    by : (b : LLVMBasicBlock) → b.0 < length m.blocks → (o : Option BlockData) → IfSome (option_map (block_of (trees_of m) m.insts b) o) (λ (b : Block). b.number < length m.blocks)
    by b lt None = tt
    by b lt (Some y) = lt

abbrev OfBlock : Module → Block → Type 0
OfBlock m b = All (λ (i : Placed). i.number < length m.insts) b.instructions

pub insts_below : (m : Module) → IsModule m → AllPlaced (λ i. i.number < length m.insts) (data_of m)
insts_below m s =
    All-mapped (λ (f : Function). All (OfBlock m) f.blocks) (function_of (trees_of m) m.blocks m.insts) 0 m.functions (λ k f x at.
    All-filter_map (OfBlock m) (block_at (trees_of m) m.blocks m.insts) x.blocks (each x.blocks))
  where
    by : (i : LLVMInstRef) → i.0 < length m.insts → (o : Option InstData) → IfSome (option_map (placed_of (trees_of m) i) o) (λ (i : Placed). i.number < length m.insts)
    by i lt None = tt
    by i lt (Some y) = lt

    of_block : (b : LLVMBasicBlock) (o : Option BlockData) → slice_get m.blocks b.0 ≡ o → IfSome (option_map (block_of (trees_of m) m.insts b) o) (OfBlock m)
    of_block b None e = tt
    of_block b (Some y) e =
        All-filter_map (λ (i : Placed). i.number < length m.insts) (placed_at (trees_of m) m.insts) y.insts
        (All-weaker (λ (i : LLVMInstRef). i.0 < length m.insts) (λ i. IfSome (placed_at (trees_of m) m.insts i) (λ (i : Placed). i.number < length m.insts)) (λ i lt. by i lt (slice_get m.insts i.0)) y.insts (s.blocks b.0 y e).insts)

    each : (bs : List LLVMBasicBlock) → All (λ b. IfSome (block_at (trees_of m) m.blocks m.insts b) (OfBlock m)) bs
    each [] = All-nil (λ b. IfSome (block_at (trees_of m) m.blocks m.insts b) (OfBlock m))
    each (b ∷ bs) = All-cons (λ b. IfSome (block_at (trees_of m) m.blocks m.insts b) (OfBlock m)) b bs (of_block b (slice_get m.blocks b.0) refl) (each bs)

-- in a module that differs in its types
pub inst_fresh : (old new : Module) (i : LLVMInstRef) → IsModule old → new ≡ record old { types = new.types } → i.0 ≡ length new.insts → AllPlaced (λ x. x.number < i.0) (data_of old)
inst_fresh old new i s same last = let e : i.0 ≡ length old.insts = last ∙ ap (λ (m : Module). length m.insts) same in rw e (insts_below old s)
