-- The order that is made root by root: what is left to do, and that it is depth first at the end.
use Rattle.std.proofs.Common.{◌≡◌, ◌<◌, ◌+◌, ◌-◌, ℕ, suc, Bool, false, List, [], ◌∷◌, ◌++◌, length, replicate, sym, ◌∙◌, subst, arith, append_assoc}
use Rattle.std.proofs.lemmas.List.{append-nil, length-replicate}
use Rattle.std.specs.List.{range_with_len}
use Rattle.block_order.specs.Marks.{IsMet}
use Rattle.block_order.specs.DepthFirst.{Explores, ends, passes, ExploresEach, no_root, next_root, IsDepthFirst}

-- whatever is left to do from node `next` on, behind this order it is the depth-first order
abbrev pub IsPending : List (List ℕ) → ℕ → List Bool → List ℕ → Type 0
IsPending g next met order = (rest : List ℕ) → ExploresEach g met (range_with_len next (length g - next)) rest → IsDepthFirst g (order ++ rest)

-- the nodes below `next` were looked at
pub record IsUpTo (g : List (List ℕ)) (next : ℕ) (met : List Bool) (order : List ℕ) : Type 0 where
  pub fits : length met ≡ length g
  pub pending : IsPending g next met order

sub-zero : (n : ℕ) → n - 0 ≡ n
sub-zero n = omega arith

pub begins_up_to : (g : List (List ℕ)) → IsUpTo g 0 (replicate (length g) false) []
begins_up_to g = record {
  fits = length-replicate (length g) false;
  pending = λ rest e. subst (λ n. ExploresEach g (replicate (length g) false) (range_with_len 0 n) rest) (sub-zero (length g)) e;
}

-- the visit of the next node, and what is left behind it
more_pending : (g : List (List ℕ)) (next : ℕ) (before met : List Bool) (order part : List ℕ) → next < length g → IsPending g next before order → Explores g before (next ∷ []) part met → IsPending g (next + 1) met (order ++ part)
more_pending g next before met order part within pending x = λ rest e.
    let left : length g - next ≡ suc (length g - (next + 1)) = omega arith in
    let here = next_root before met next (range_with_len (next + 1) (length g - (next + 1))) part rest x e in
    subst (IsDepthFirst g) (sym (append_assoc order part rest))
    (pending (part ++ rest) (subst (λ n. ExploresEach g before (range_with_len next n) (part ++ rest)) (sym left) here))

pub passes_met : (g : List (List ℕ)) (next : ℕ) (met : List Bool) (order : List ℕ) → next < length g → IsUpTo g next met order → IsMet met next → IsUpTo g (next + 1) met order
passes_met g next met order within u here = record {
  fits = u.fits;
  pending = subst (IsPending g (next + 1) met) (append-nil order) (more_pending g next met met order [] within u.pending (passes met met next [] [] here (ends met)));
}

pub appends_part : (g : List (List ℕ)) (next : ℕ) (before met : List Bool) (order part : List ℕ) → next < length g → length met ≡ length before → IsUpTo g next before order → Explores g before (next ∷ []) part met → IsUpTo g (next + 1) met (order ++ part)
appends_part g next before met order part within same u x = record {
  fits = same ∙ u.fits;
  pending = more_pending g next before met order part within u.pending x;
}

pub ends_depth_first : (g : List (List ℕ)) (met : List Bool) (order : List ℕ) → IsUpTo g (length g) met order → IsDepthFirst g order
ends_depth_first g met order u =
    let none : length g - length g ≡ 0 = omega arith in
    subst (IsDepthFirst g) (append-nil order) (u.pending [] (subst (λ n. ExploresEach g met (range_with_len (length g) n) []) (sym none) (no_root met)))
