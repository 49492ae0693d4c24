-- The order of a graph of one node, which needs no walk.
use Rattle.std.proofs.Common.{ℕ, suc, ◌≡◌, ◌<◌, refl, sym, subst, ◌∙◌, true, false, List, [], ◌∷◌, All, length, get_or, arith}
use Rattle.block_order.specs.Graph.{IsGraph, Reaches, EachWalkPasses}
use Rattle.block_order.specs.Marks.{IsMet}
use Rattle.block_order.specs.DepthFirst.{Explores, ends, passes, enters, no_root, next_root, IsDepthFirst}
use Rattle.block_order.specs.Order.{IsOrder, HasReachedFirst, HasPassedBefore}
use Rattle.block_order.proofs.GraphLemmas.{holds_along, reaches_itself, target_within, walk_one}
use Rattle.llvm_core.specs.Form as LF
use Rattle.llvm_core.specs.Data as L
use Rattle.from_llvm_ir.specs.Order.{IsRpo}
use Rattle.from_llvm_ir.specs.Walks.{graph_of}
use Rattle.from_llvm_ir.proofs.GraphLaws.{is_graph, length-graph}

module _ (row : List ℕ) (graph : IsGraph (row ∷ [])) where
  -- whatever the node leads to is met
  all_met : (xs : List ℕ) → All (λ (t : ℕ). t < 1) xs → Explores (row ∷ []) (true ∷ []) xs [] (true ∷ [])
  all_met [] within = ends (true ∷ [])
  all_met (x ∷ xs) within = passes (true ∷ []) (true ∷ []) x xs [] here (all_met xs (λ k d lt. within (suc k) d (omega (arith, lt))))
    where
      here : IsMet (true ∷ []) x
      here = let lt = within 0 0 (omega arith) in let is : 0 ≡ x = omega (arith, lt) in subst (IsMet (true ∷ [])) is refl

  depth_first : IsDepthFirst (row ∷ []) (0 ∷ [])
  depth_first = next_root (false ∷ []) (true ∷ []) 0 [] (0 ∷ []) []
      (enters (false ∷ []) (true ∷ []) (true ∷ []) 0 [] [] [] (λ met. cc met) (all_met row (graph 0 [] (omega arith))) (ends (true ∷ [])))
      (no_root (true ∷ []))

  once : IsOrder 1 (0 ∷ [])
  once = record {
    count = refl;
    within = λ k d lt. grind arith;
    once = grind arith;
    each = λ x lt. grind arith;
  }

  reaches_zero : (u : ℕ) → Reaches (row ∷ []) 0 u → u < 1
  reaches_zero u h = holds_along (row ∷ []) (λ (x : ℕ). x < 1) 0 u (omega arith) (λ x y _ leads. target_within (row ∷ []) x y graph leads) h

  reached : HasReachedFirst (row ∷ []) (0 ∷ [])
  reached = (1, (λ k d lt. let is : 0 ≡ k = omega (arith, lt) in subst (λ (j : ℕ). Reaches (row ∷ []) 0 (get_or (0 ∷ []) j d)) is (reaches_itself (row ∷ []) 0)), (λ k d lt. absurd (omega (arith, lt))))

  passed : HasPassedBefore (row ∷ []) (0 ∷ [])
  passed u d h each other =
      let lt = reaches_zero u h in
      let zero_is : 0 ≡ u = omega (arith, lt) in
      let c = subst (λ (x : ℕ). EachWalkPasses (row ∷ []) 0 x d) (sym zero_is) each (0 ∷ []) (walk_one (row ∷ []) 0) in
      grind arith

  one_rpo : IsRpo (row ∷ []) (0 ∷ [])
  one_rpo = record { depth_first = depth_first; once = once; first = λ _. refl; reached = reached; passed = passed }

-- of a graph of one node
pub rpo_alone : (graph : List (List ℕ)) → IsGraph graph → length graph ≡ 1 → IsRpo graph (0 ∷ [])
rpo_alone [] is one = absurd (omega (arith, one))
rpo_alone (row ∷ []) is one = one_rpo row is
rpo_alone (row ∷ next ∷ rows) is one = absurd (omega (arith, one))

-- of a function of one block
pub block_alone : (g : L.Function) → LF.IsFormFunction g → length g.blocks ≡ 1 → (order : List ℕ) → order ≡ 0 ∷ [] → IsRpo (graph_of g) order
block_alone g form one order is = subst (IsRpo (graph_of g)) (sym is) (rpo_alone (graph_of g) (is_graph g form) (length-graph g form ∙ one))
