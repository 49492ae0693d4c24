-- The walk over a stack explores: what is left to do from a state, and what the whole is then.
use Rattle.std.proofs.Common.{◌≡◌, ◌<◌, ◌≤◌, ◌+◌, ◌-◌, ℕ, zero, suc, Bool, true, List, [], ◌∷◌, ◌++◌, length, slice_set, get_or, drop, reverse, sym, ap, ◌∙◌, refl, subst, arith, inl, inr, append_assoc}
use Rattle.std.proofs.lemmas.List.{append-nil, drop_more, drop_all, reverse-append}
use Rattle.std.proofs.lemmas.Option.{slice_get_within, get_or_from_slice_get}
use Rattle.std.proofs.lemmas.Bool.{cases_lt}
use Rattle.block_order.specs.declared.walk.Open.{Open}
use Rattle.block_order.specs.Marks.{IsMet}
use Rattle.block_order.specs.DepthFirst.{Explores, ends, passes, enters}
use Rattle.block_order.specs.Walking.{State, Closes, Opens}

-- ---- nodes that are met are passed

explores_at : (g : List (List ℕ)) (met after : List Bool) (ts out : List ℕ) (n i j : ℕ) → i + n ≡ j → ((k : ℕ) → i ≤ k → k < j → IsMet met (get_or ts k 0)) → Explores g met (drop j ts) out after → Explores g met (drop i ts) out after
explores_at g met after ts out zero i j e all x =
    let same : j ≡ i = omega arith in
    subst (λ k. Explores g met (drop k ts) out after) same x
explores_at g met after ts out (suc n) i j e all x =
    elim (cases_lt i (length ts)) [
      | inl within ↦
          subst (λ us. Explores g met us out after) (sym (drop_more ts i 0 within))
          (passes met after (get_or ts i 0) (drop (i + 1) ts) out (all i (omega arith) (omega arith))
          (explores_at g met after ts out n (i + 1) j (omega arith) (λ k low high. all k (omega arith) high) x))
      | inr past ↦
          let here = drop_all i ts past in
          let there = drop_all j ts (omega arith) in
          subst (λ us. Explores g met us out after) (there ∙ sym here) x
    ]

-- where the rest is met, nothing is finished
explores_rest : (g : List (List ℕ)) (met : List Bool) (ts : List ℕ) (i : ℕ) → ((k : ℕ) → i ≤ k → k < length ts → IsMet met (get_or ts k 0)) → Explores g met (drop i ts) [] met
explores_rest g met ts i all =
    elim (cases_lt i (length ts)) [
      | inl within ↦
          explores_at g met met ts [] (length ts - i) i (length ts) (omega arith) all
          (subst (λ us. Explores g met us [] met) (sym (drop_all (length ts) ts (omega arith))) (ends met))
      | inr past ↦ subst (λ us. Explores g met us [] met) (sym (drop_all i ts past)) (ends met)
    ]

-- ---- what is left to do

-- from these marks on, with these open nodes, the last opened first: the targets of each from its place on are visited, and the node is finished
abbrev pub Resumes : List (List ℕ) → List Bool → List Open → List ℕ → List Bool → Type 0
Resumes g met [] out after = (out ≡ []) × (after ≡ met)
Resumes g met (top ∷ below) out after = (inner outer : List ℕ) × (inside : List Bool) × Explores g met (drop top.next (get_or g top.node [])) inner inside × Resumes g inside below outer after × (out ≡ outer ++ top.node ∷ inner)

-- whatever is left to do, with what is done it is the visit of the root
abbrev pub IsPending : List (List ℕ) → ℕ → List Bool → State → Type 0
IsPending g root before s = (out : List ℕ) (after : List Bool) → Resumes g s.met (reverse s.stack) out after → Explores g before (root ∷ []) (out ++ reverse s.done) after

-- ---- the steps of the walk

pub begins_pending : (g : List (List ℕ)) (root : ℕ) (before : List Bool) → ¬ IsMet before root → IsPending g root before (record { met = slice_set before root true; stack = record { node = root; next = 0 } ∷ []; done = [] })
begins_pending g root before unmet = λ out after r.
    -- what is left: the targets of the root, and nothing behind it
    let inner = r.0 in
    let inside = r.2 in
    let outer_none : r.1 ≡ [] = r.4.0 in
    let same : after ≡ inside = r.4.1 in
    let is : out ≡ [] ++ root ∷ inner = r.5 ∙ ap (λ xs. xs ++ root ∷ inner) outer_none in
    let whole = enters before inside inside root [] inner [] unmet r.3 (ends inside) in
    subst (λ xs. Explores g before (root ∷ []) xs after) (sym (append-nil out ∙ is))
    (subst (λ m. Explores g before (root ∷ []) ([] ++ root ∷ inner) m) (sym same) whole)

pub closes_pending : (g : List (List ℕ)) (root : ℕ) (before : List Bool) (old new : State) → IsPending g root before old → Closes g old new → IsPending g root before new
closes_pending g root before old new pending c = λ out after r.
    let stacked : reverse old.stack ≡ c.top ∷ reverse new.stack = ap reverse c.was ∙ reverse-append new.stack (c.top ∷ []) in
    let finished : reverse new.done ≡ c.top.node ∷ reverse old.done = ap reverse c.done ∙ reverse-append old.done (c.top.node ∷ []) in
    let rest : Resumes g old.met (reverse new.stack) out after = subst (λ m. Resumes g m (reverse new.stack) out after) c.met r in
    let left : Resumes g old.met (c.top ∷ reverse new.stack) (out ++ c.top.node ∷ []) after =
    ([], out, old.met, explores_rest g old.met (get_or g c.top.node []) c.top.next c.passed, rest, refl) in
    let whole = pending (out ++ c.top.node ∷ []) after (subst (λ stack. Resumes g old.met stack (out ++ c.top.node ∷ []) after) (sym stacked) left) in
    subst (λ xs. Explores g before (root ∷ []) xs after) (append_assoc out (c.top.node ∷ []) (reverse old.done) ∙ ap (λ xs. out ++ xs) (sym finished)) whole

regroup : (xs outer inner ys : List ℕ) (x : ℕ) → xs ≡ outer ++ x ∷ inner → xs ++ ys ≡ outer ++ x ∷ (inner ++ ys)
regroup xs outer inner ys x e = ap (λ zs. zs ++ ys) e ∙ append_assoc outer (x ∷ inner) ys

pub opens_pending : (g : List (List ℕ)) (root : ℕ) (before : List Bool) (old new : State) → IsPending g root before old → Opens g old new → IsPending g root before new
opens_pending g root before old new pending o = λ out after r.
    let ts = get_or g o.top.node [] in
    let top : Open = record { node = o.top.node; next = o.place + 1 } in
    let fresh : Open = record { node = o.node; next = 0 } in
    let was : reverse old.stack ≡ o.top ∷ reverse o.below = ap reverse o.was ∙ reverse-append o.below (o.top ∷ []) in
    let is : reverse new.stack ≡ fresh ∷ top ∷ reverse o.below = ap reverse o.stack ∙ reverse-append o.below (top ∷ fresh ∷ []) in
    let left : Resumes g (slice_set old.met o.node true) (fresh ∷ top ∷ reverse o.below) out after =
    subst (λ m. Resumes g m (fresh ∷ top ∷ reverse o.below) out after) o.met (subst (λ stack. Resumes g new.met stack out after) is r) in
    -- the node's own nodes, then those of the targets behind it, then what is behind the node below
    let below = left.4 in
    let here : drop o.place ts ≡ o.node ∷ drop (o.place + 1) ts =
    drop_more ts o.place 0 (slice_get_within ts o.place o.node o.is_target) ∙ ap (λ x. x ∷ drop (o.place + 1) ts) (get_or_from_slice_get ts o.place o.node 0 o.is_target) in
    let entered : Explores g old.met (drop o.place ts) (below.0 ++ o.node ∷ left.0) below.2 =
    subst (λ us. Explores g old.met us (below.0 ++ o.node ∷ left.0) below.2) (sym here)
    (enters old.met left.2 below.2 o.node (drop (o.place + 1) ts) left.0 below.0 o.unmet left.3 below.3) in
    let visited = explores_at g old.met below.2 ts (below.0 ++ o.node ∷ left.0) (o.place - o.top.next) o.top.next o.place (omega (arith, o.ahead)) o.passed entered in
    let split : left.1 ++ o.node ∷ left.0 ≡ below.1 ++ o.top.node ∷ (below.0 ++ o.node ∷ left.0) = regroup left.1 below.1 below.0 (o.node ∷ left.0) o.top.node below.5 in
    let same : out ≡ below.1 ++ o.top.node ∷ (below.0 ++ o.node ∷ left.0) = cc in
    let resumed : Resumes g old.met (o.top ∷ reverse o.below) out after = (below.0 ++ o.node ∷ left.0, below.1, below.2, visited, below.4, same) in
    subst (λ done. Explores g before (root ∷ []) (out ++ reverse done) after) (sym o.done)
    (pending out after (subst (λ stack. Resumes g old.met stack out after) (sym was) resumed))

pub ends_pending : (g : List (List ℕ)) (root : ℕ) (before : List Bool) (s : State) → s.stack ≡ [] → IsPending g root before s → Explores g before (root ∷ []) (reverse s.done) s.met
ends_pending g root before s empty pending =
    pending [] s.met (subst (λ stack. Resumes g s.met stack [] s.met) (sym (ap reverse empty)) (refl, refl))
