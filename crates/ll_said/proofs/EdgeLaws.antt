-- The blocks that the entries of a phi are for are blocks of the function.
use Rattle.std.proofs.Common.{◌≡◌, ℕ, zero, suc, ◌≤◌, Bool, true, false, cond, nat_eq, List, [], ◌∷◌, map, slice_get, Some, refl, ap, sym, ◌∙◌, eqb-true, arith}
use Rattle.std.specs.List.{filter, flat_map}
use Rattle.std.specs.Option.{option_map}
use Rattle.std.proofs.lemmas.Option.{slice_get-map, same_Some}
use Rattle.llvm_core.specs.Data.{Operand, Block, Function}
use Rattle.llvm_core.specs.Edges.{count_of}
use Rattle.llvm_core.specs.Form.{targets_of, FitsEdges, IsTarget}
use Rattle.llvm_core.proofs.EdgeLemmas.{count-cons, one_here}
use Rattle.ll_said.proofs.ThingLaws.{HasBlockNumber}

-- what stands in a list is counted
count_there : (xs : List ℕ) (i n : ℕ) → slice_get xs i ≡ Some n → 1 ≤ count_of n xs
count_there [] i n at = absurd cc
count_there (x ∷ xs) zero n at = omega (arith, count-cons n x xs, one_here n x (sym (same_Some x n at)))
count_there (x ∷ xs) (suc i) n at = omega (arith, count-cons n x xs, count_there xs i n at)

-- an edge leaves a block
edge_from : (b p : ℕ) (bs : List Block) → 1 ≤ count_of b (flat_map targets_of (filter (λ (x : Block). nat_eq x.number p) bs)) → HasBlockNumber p bs
edge_from b p [] some = absurd (omega arith)
edge_from b p (x ∷ bs) some = by (nat_eq x.number p) refl (edge_from b p bs) some
  where
    by : (t : Bool) → nat_eq x.number p ≡ t → (1 ≤ count_of b (flat_map targets_of (filter (λ (x : Block). nat_eq x.number p) bs)) → HasBlockNumber p bs)
        → 1 ≤ count_of b (flat_map targets_of (cond t (x ∷ filter (λ (x : Block). nat_eq x.number p) bs) (filter (λ (x : Block). nat_eq x.number p) bs))) → HasBlockNumber p (x ∷ bs)
    by true e further h = (0, x, refl, eqb-true x.number p e)
    by false e further h = let o = further h in (suc o.0, o.1, o.2, o.3)

pub entry_block : (f : Function) (b : ℕ) (es : List (Operand × ℕ)) (i : ℕ) (e : Operand × ℕ) → FitsEdges f b es → slice_get es i ≡ Some e → HasBlockNumber e.1 f.blocks
entry_block f b es i e fits at =
    let here : slice_get (map (λ (e : Operand × ℕ). e.1) es) i ≡ Some e.1 = slice_get-map (λ (e : Operand × ℕ). e.1) es i ∙ ap (option_map (λ (e : Operand × ℕ). e.1)) at in
    let some = count_there (map (λ (e : Operand × ℕ). e.1) es) i e.1 here in
    edge_from b e.1 f.blocks (omega (arith, some, fits.counts e.1))

-- a target is a block of the function
pub target_block : (f : Function) (n : ℕ) → IsTarget f n → HasBlockNumber n f.blocks
target_block f n h = (suc h.0, h.1, h.2, h.3)
