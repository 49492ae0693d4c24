-- What the walk over a stack keeps, and that it ends.
use Rattle.std.proofs.Common.{◌≡◌, ◌<◌, ◌+◌, ◌*◌, ℕ, Bool, true, List, [], ◌∷◌, ◌++◌, length, slice_set, get_or, reverse, sym, ap, ◌∙◌, subst, arith, inl, inr, All, length-append, append_assoc}
use Rattle.std.proofs.lemmas.List.{length_push, length-set, nil_from_length}
use Rattle.std.proofs.lemmas.List.Elements.{All-push, All-nil}
use Rattle.block_order.specs.declared.walk.Open.{Open}
use Rattle.block_order.specs.Graph.{IsGraph}
use Rattle.block_order.specs.Marks.{IsMet}
use Rattle.block_order.specs.DepthFirst.{Explores}
use Rattle.block_order.specs.Walking.{State, state, Closes, Opens, Steps}
use Rattle.block_order.proofs.ListLemmas.{contains_at, all-left, all_last}
use Rattle.block_order.proofs.GraphLemmas.{target_within, count_met, unmet_count}
use Rattle.block_order.proofs.ExploringLemmas.{IsPending, begins_pending, closes_pending, opens_pending, ends_pending}

abbrev pub AreNodes : List (List ℕ) → List Open → Type 0
AreNodes g stack = All (λ (o : Open). o.node < length g) stack

-- a walk from `root` over the marks `before`
pub record IsAt (g : List (List ℕ)) (root : ℕ) (before : List Bool) (s : State) : Type 0 where
  pub fits : length s.met ≡ length g
  pub nodes : AreNodes g s.stack
  pub pending : IsPending g root before s

pub begins_at : (g : List (List ℕ)) (root : ℕ) (before : List Bool) → length before ≡ length g → root < length g → ¬ IsMet before root → IsAt g root before (state (slice_set before root true) (record { node = root; next = 0 } ∷ []) [])
begins_at g root before fits within unmet = record {
  fits = length-set before root true ∙ fits;
  nodes = All-push (λ (o : Open). o.node < length g) [] (record { node = root; next = 0 }) (All-nil (λ (o : Open). o.node < length g)) within;
  pending = begins_pending g root before unmet;
}

-- the node that is opened is one of the graph
opened_within : (g : List (List ℕ)) (old new : State) → IsGraph g → (o : Opens g old new) → o.node < length g
opened_within g old new graph o = target_within g o.top.node o.node graph (contains_at (get_or g o.top.node []) o.place o.node o.is_target)

closes_at : (g : List (List ℕ)) (root : ℕ) (before : List Bool) (old new : State) → IsAt g root before old → Closes g old new → IsAt g root before new
closes_at g root before old new at c = record {
  fits = ap length c.met ∙ at.fits;
  nodes = all-left (λ (o : Open). o.node < length g) new.stack (c.top ∷ []) (subst (AreNodes g) c.was at.nodes);
  pending = closes_pending g root before old new at.pending c;
}

opens_at : (g : List (List ℕ)) (root : ℕ) (before : List Bool) (old new : State) → IsGraph g → IsAt g root before old → Opens g old new → IsAt g root before new
opens_at g root before old new graph at o =
    let top : Open = record { node = o.top.node; next = o.place + 1 } in
    let fresh : Open = record { node = o.node; next = 0 } in
    let was : AreNodes g (o.below ++ o.top ∷ []) = subst (AreNodes g) o.was at.nodes in
    let below : AreNodes g o.below = all-left (λ (x : Open). x.node < length g) o.below (o.top ∷ []) was in
    let topped : AreNodes g (o.below ++ top ∷ []) = All-push (λ (x : Open). x.node < length g) o.below top below (all_last (λ (x : Open). x.node < length g) o.below o.top was) in
    let both : AreNodes g ((o.below ++ top ∷ []) ++ fresh ∷ []) = All-push (λ (x : Open). x.node < length g) (o.below ++ top ∷ []) fresh topped (opened_within g old new graph o) in
    let is : new.stack ≡ (o.below ++ top ∷ []) ++ fresh ∷ [] = o.stack ∙ sym (append_assoc o.below (top ∷ []) (fresh ∷ [])) in
    record {
      fits = ap length o.met ∙ (length-set old.met o.node true ∙ at.fits);
      nodes = subst (AreNodes g) (sym is) both;
      pending = opens_pending g root before old new at.pending o;
    }

pub step_keeps : (g : List (List ℕ)) (root : ℕ) (before : List Bool) (old new : State) → IsGraph g → IsAt g root before old → Steps g old new → IsAt g root before new
step_keeps g root before old new graph at h =
    elim h [
      | inl c ↦ closes_at g root before old new at c
      | inr o ↦ opens_at g root before old new graph at o
    ]

pub ends_at : (g : List (List ℕ)) (root : ℕ) (before : List Bool) (s : State) → length s.stack ≡ 0 → IsAt g root before s → Explores g before (root ∷ []) (reverse s.done) s.met
ends_at g root before s empty at = ends_pending g root before s (nil_from_length s.stack empty) at.pending

-- ---- what is left to do falls

abbrev pub work : State → ℕ
work s = 2 * unmet_count s.met + length s.stack

closes_fall : (g : List (List ℕ)) (old new : State) → Closes g old new → work new < work old
closes_fall g old new c =
    let was = ap length c.was ∙ length_push new.stack c.top in
    let same = ap unmet_count c.met in
    omega (arith, was, same)

opens_fall : (g : List (List ℕ)) (old new : State) → IsGraph g → length old.met ≡ length g → Opens g old new → work new < work old
opens_fall g old new graph fits o =
    let was = ap length o.was ∙ length_push o.below o.top in
    let is = ap length o.stack ∙ length-append o.below (record { node = o.top.node; next = o.place + 1 } ∷ record { node = o.node; next = 0 } ∷ []) in
    let within : o.node < length old.met = omega (arith, opened_within g old new graph o, fits) in
    let marked = ap unmet_count o.met in
    omega (arith, was, is, marked, count_met old.met o.node within o.unmet)

pub step_falls : (g : List (List ℕ)) (root : ℕ) (before : List Bool) (old new : State) → IsGraph g → IsAt g root before old → Steps g old new → work new < work old
step_falls g root before old new graph at h =
    elim h [
      | inl c ↦ closes_fall g old new c
      | inr o ↦ opens_fall g old new graph at.fits o
    ]
