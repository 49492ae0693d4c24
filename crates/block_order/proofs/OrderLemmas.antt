-- What a depth-first order is: an order of the nodes, that begins with what node 0 reaches.
use Rattle.std.proofs.Common.{◌≡◌, ◌≢◌, ◌<◌, ◌≤◌, ◌+◌, ℕ, zero, suc, Bool, true, false, not, cond, List, [], ◌∷◌, ◌++◌, Some, length, slice_get, get_or, replicate, sym, ap, ◌∙◌, refl, subst, arith, inl, inr, ◌⊎◌, All, AllPairs, Contains, length-append}
use Rattle.std.specs.List.{range_with_len}
use Rattle.std.proofs.lemmas.List.{take_at, drop_at, get_or-replicate, length-replicate}
use Rattle.std.proofs.lemmas.List.Elements.{Contains-push_cases, Contains-get_or, Contains-append_left, Contains-append_right, Contains-append_cases}
use Rattle.std.proofs.lemmas.List.Sums.{sum_by-cons}
use Rattle.std.proofs.lemmas.Option.{slice_get-get_or}
use Rattle.std.proofs.lemmas.Bool.{cases_eq}
use Rattle.block_order.specs.Graph.{IsGraph, LeadsTo, IsWalk, Reaches, EachWalkPasses}
use Rattle.block_order.specs.Order.{IsBefore, IsOrder, HasReachedFirst, HasPassedBefore, LeadsOnOrBack}
use Rattle.block_order.specs.Marks.{IsMet}
use Rattle.block_order.specs.DepthFirst.{Explores, ExploresEach, no_root, next_root, IsDepthFirst}
use Rattle.block_order.proofs.ListLemmas.{contains_none, contains_at, contains_first, contains_behind, contains_cons_cases, contains_one, found_at, same_place, get-left, before-left, before_trans, all_pairs-left, once_none, once_append, once_apart}
use Rattle.block_order.proofs.GraphLemmas.{target_within, walk_one, walk_push, holds_along, met-within, unmet_count}
use Rattle.block_order.proofs.ExploredLemmas.{IsExplored, explored}

-- ---- no node is met at first

pub none_met : (n x : ℕ) → ¬ IsMet (replicate n false) x
none_met n x h =
    let within : x < n = omega (arith, met-within (replicate n false) x h, length-replicate n false) in
    cc (h, get_or-replicate n x false false within)

unmet_all : (n : ℕ) → unmet_count (replicate n false) ≡ n
unmet_all zero = refl
unmet_all (suc n) = omega (arith, sum_by-cons (λ b. cond (not b) 1 0) false (replicate n false), unmet_all n)

unmet_none : (met : List Bool) → ((x : ℕ) → x < length met → IsMet met x) → unmet_count met ≡ 0
unmet_none [] all = refl
unmet_none (b ∷ bs) all =
    let here : b ≡ true = all 0 (omega arith) in
    let one : ◌≡◌ {A = ℕ} (cond (not b) 1 0) 0 = ap (λ v. cond (not v) 1 0) here in
    omega (arith, sum_by-cons (λ v. cond (not v) 1 0) b bs, one, unmet_none bs (λ x lt. all (suc x) (omega arith)))

-- ---- the roots are all of the nodes

root_below : (n a x : ℕ) → Contains (range_with_len a n) x → x < a + n
root_below zero a x h = absurd (contains_none x h)
root_below (suc n) a x h =
    elim (contains_cons_cases a (range_with_len (a + 1) n) x h) [
      | inl e ↦ omega arith
      | inr in' ↦ omega (arith, root_below n (a + 1) x in')
    ]

each_root : (n a x : ℕ) → a ≤ x → x < a + n → Contains (range_with_len a n) x
each_root zero a x low high = absurd (omega arith)
each_root (suc n) a x low high =
    elim (cases_eq a x) [
      | inl e ↦ subst (Contains (range_with_len a (suc n))) e (contains_first a (range_with_len (a + 1) n))
      | inr ne ↦ contains_behind a (range_with_len (a + 1) n) x (each_root n (a + 1) x (omega arith) (omega arith))
    ]

-- ---- each node once

-- what was listed where these roots were visited one after another, from marks `met` to marks `after`
record IsListed (g : List (List ℕ)) (met : List Bool) (roots out : List ℕ) (after : List Bool) : Type 0 where
  fits : length after ≡ length met
  kept : (y : ℕ) → IsMet met y → IsMet after y
  known : (y : ℕ) → IsMet after y → IsMet met y ⊎ Contains out y
  fresh : (y : ℕ) → Contains out y → ¬ IsMet met y
  marked : (y : ℕ) → Contains out y → IsMet after y
  once : AllPairs (λ a b. a ≢ b) out
  count : length out + unmet_count after ≡ unmet_count met
  visited : (y : ℕ) → Contains roots y → IsMet after y

listed_none : (g : List (List ℕ)) (met : List Bool) → IsListed g met [] [] met
listed_none g met = record {
  fits = refl;
  kept = λ y h. h;
  known = λ y h. inl h;
  fresh = λ y h. absurd (contains_none y h);
  marked = λ y h. absurd (contains_none y h);
  once = once_none;
  count = omega arith;
  visited = λ y h. absurd (contains_none y h);
}

listed_more : (g : List (List ℕ)) (met inside after : List Bool) (root : ℕ) (roots part rest : List ℕ) → IsExplored g met (root ∷ []) part inside → IsListed g inside roots rest after → IsListed g met (root ∷ roots) (part ++ rest) after
listed_more g met inside after root roots part rest e l = record {
  fits = l.fits ∙ e.fits;
  kept = λ y h. l.kept y (e.kept y h);
  known = λ y h. elim (l.known y h) [
    | inl m ↦ elim (e.known y m) [
      | inl old ↦ inl old
      | inr p ↦ inr (Contains-append_left part rest y p)
    ]
    | inr r ↦ inr (Contains-append_right part rest y r)
  ];
  fresh = λ y h. λ m. elim (Contains-append_cases part rest y h) [
    | inl p ↦ e.fresh y p m
    | inr r ↦ l.fresh y r (e.kept y m)
  ];
  marked = λ y h. elim (Contains-append_cases part rest y h) [
    | inl p ↦ l.kept y (e.marked y p)
    | inr r ↦ l.marked y r
  ];
  once = once_append part rest e.once l.once (λ y p. λ r. l.fresh y r (e.marked y p));
  count = omega (arith, l.count, e.count, length-append part rest);
  visited = λ y h. elim (contains_cons_cases root roots y h) [
    | inl same ↦ l.kept y (subst (IsMet inside) same (e.visited root (contains_first root [])))
    | inr r ↦ l.visited y r
  ];
}

-- one root of the graph
pub explored_root : (g : List (List ℕ)) (met after : List Bool) (root : ℕ) (part : List ℕ) → IsGraph g → length met ≡ length g → root < length g → Explores g met (root ∷ []) part after → IsExplored g met (root ∷ []) part after
explored_root g met after root part graph fits within d = explored g met (root ∷ []) part after graph fits (λ y h. subst (λ v. v < length g) (contains_one root y h) within) d

listed : (g : List (List ℕ)) (met : List Bool) (roots out : List ℕ) → IsGraph g → length met ≡ length g → ((y : ℕ) → Contains roots y → y < length g) → ExploresEach g met roots out → (after : List Bool) × IsListed g met roots out after
listed g met roots out graph fits all (no_root m) = (m, listed_none g m)
listed g met roots out graph fits all (next_root m i root rs part rest d e) =
    let here = explored_root g m i root part graph fits (all root (contains_first root rs)) d in
    let there = listed g i rs rest graph (here.fits ∙ fits) (λ y h. all y (contains_behind root rs y h)) e in
    (there.0, listed_more g m i there.0 root rs part rest here there.1)

pub order_once : (g : List (List ℕ)) (order : List ℕ) → IsGraph g → IsDepthFirst g order → IsOrder (length g) order
order_once g order graph d =
    let n = length g in
    let whole = listed g (replicate n false) (range_with_len 0 n) order graph (length-replicate n false) (λ y h. omega (arith, root_below n 0 y h)) d in
    let l = whole.1 in
    let size : length whole.0 ≡ n = l.fits ∙ length-replicate n false in
    let met = λ (x : ℕ) (lt : x < n). l.visited x (each_root n 0 x (omega arith) (omega arith)) in
    record {
      count = omega (arith, l.count, unmet_all n, unmet_none whole.0 (λ x lt. met x (omega arith)));
      within = λ k e lt. omega (arith, size, met-within whole.0 (get_or order k e) (l.marked (get_or order k e) (Contains-get_or order k e lt)));
      once = l.once;
      each = λ x lt. elim (l.known x (met x lt)) [
        | inl m ↦ absurd (none_met n x m)
        | inr h ↦ h
      ];
    }

-- ---- the front: the component of node 0

-- what node 0 reaches, in an order
record IsFront (g : List (List ℕ)) (part : List ℕ) : Type 0 where
  begins : slice_get part 0 ≡ Some 0
  parents : (x : ℕ) → Contains part x → (x ≡ 0) ⊎ ((p : ℕ) × LeadsTo g p x × IsBefore part p x)
  closed : (x t : ℕ) → Contains part x → LeadsTo g x t → Contains part t
  onward : (x t : ℕ) → Contains part x → LeadsTo g x t → IsBefore part x t ⊎ Reaches g t x

front_parents : (g : List (List ℕ)) (met after : List Bool) (part : List ℕ) (x : ℕ) → IsExplored g met (0 ∷ []) part after → Contains part x → (x ≡ 0) ⊎ ((p : ℕ) × LeadsTo g p x × IsBefore part p x)
front_parents g met after part x e h =
    elim (e.parents x h) [
      | inl root ↦ inl (sym (contains_one 0 x root))
      | inr p ↦ inr p
    ]

-- the first node of the front has no node before it, so it is node 0
front_begins : (g : List (List ℕ)) (met after : List Bool) (part : List ℕ) → IsExplored g met (0 ∷ []) part after → 0 < length part → slice_get part 0 ≡ Some 0
front_begins g met after part e some =
    let at = slice_get-get_or part 0 0 some in
    elim (front_parents g met after part (get_or part 0 0) e (Contains-get_or part 0 0 some)) [
      | inl same ↦ at ∙ ap Some same
      | inr h ↦ absurd (omega (arith, h.2.in_order, same_place part h.2.later 0 (get_or part 0 0) e.once h.2.is_second at))
    ]

front_known : (g : List (List ℕ)) (n : ℕ) (after : List Bool) (part : List ℕ) (x : ℕ) → IsExplored g (replicate n false) (0 ∷ []) part after → IsMet after x → Contains part x
front_known g n after part x e h =
    elim (e.known x h) [
      | inl m ↦ absurd (none_met n x m)
      | inr in' ↦ in'
    ]

front_of : (g : List (List ℕ)) (n : ℕ) (after : List Bool) (part : List ℕ) → IsExplored g (replicate n false) (0 ∷ []) part after → IsFront g part
front_of g n after part e =
    let root = front_known g n after part 0 e (e.visited 0 (contains_first 0 [])) in
    record {
      begins = front_begins g (replicate n false) after part e (omega (arith, root.1));
      parents = λ x h. front_parents g (replicate n false) after part x e h;
      closed = λ x t h leads. front_known g n after part t e (e.closed x t h leads);
      onward = λ x t h leads. elim (e.onward x t h leads) [
        | inl m ↦ absurd (none_met n t m)
        | inr o ↦ o
      ];
    }

-- the order begins with the front
record HasFront (g : List (List ℕ)) (order : List ℕ) : Type 0 where
  part : List ℕ
  rest : List ℕ
  whole : order ≡ part ++ rest
  front : IsFront g part
  once : AllPairs (λ x y. x ≢ y) (part ++ rest)

front_first : (g : List (List ℕ)) (n : ℕ) (roots order : List ℕ) → IsGraph g → n ≡ length g → 0 < n → AllPairs (λ x y. x ≢ y) order → ExploresEach g (replicate n false) (0 ∷ roots) order → HasFront g order
front_first g n roots order graph same some once (next_root m i root rs part rest d e) = record {
  part = part;
  rest = rest;
  whole = refl;
  front = front_of g n i part (explored_root g (replicate n false) i 0 part graph (length-replicate n false ∙ same) (omega arith) d);
  once = once;
}

front_at : (g : List (List ℕ)) (n : ℕ) (order : List ℕ) → IsGraph g → n ≡ length g → 0 < n → AllPairs (λ x y. x ≢ y) order → ExploresEach g (replicate n false) (range_with_len 0 n) order → HasFront g order
front_at g zero order graph same some once d = absurd (omega arith)
front_at g (suc n) order graph same some once d = front_first g (suc n) (range_with_len 1 n) order graph same some once d

has_front : (g : List (List ℕ)) (order : List ℕ) → IsGraph g → 0 < length g → IsDepthFirst g order → HasFront g order
has_front g order graph some d = front_at g (length g) order graph refl some ((order_once g order graph d).once) d

pub order_first : (g : List (List ℕ)) (order : List ℕ) → IsGraph g → IsDepthFirst g order → 0 < length g → slice_get order 0 ≡ Some 0
order_first g order graph d some =
    let f = has_front g order graph some d in
    subst (λ xs. slice_get xs 0 ≡ Some 0) (sym f.whole) (get-left f.part f.rest 0 0 f.front.begins)

-- ---- the front: a walk to each of its nodes, over nodes that stand before it

-- a walk from node 0, each node of which is the last or stands before it
HasWalkInFront : List (List ℕ) → List ℕ → ℕ → Type 0
HasWalkInFront g part x = (w : List ℕ) × IsWalk g 0 x w × ((y : ℕ) → Contains w y → (y ≡ x) ⊎ IsBefore part y x)

walk_in_front : (g : List (List ℕ)) (part : List ℕ) → IsFront g part → AllPairs (λ x y. x ≢ y) part → (n k x : ℕ) → k < n → slice_get part k ≡ Some x → HasWalkInFront g part x
unfolding HasWalkInFront
walk_in_front g part f once zero k x lt at = absurd (omega arith)
walk_in_front g part f once (suc n) k x lt at =
    elim (f.parents x (contains_at part k x at)) [
      | inl e ↦ subst (HasWalkInFront g part) (sym e) (0 ∷ [], walk_one g 0, λ y h. inl (sym (contains_one 0 y h)))
      | inr h ↦
          let earlier : h.2.place < n = omega (arith, h.2.in_order, same_place part h.2.later k x once h.2.is_second at) in
          let to_parent = walk_in_front g part f once n h.2.place h.0 earlier h.2.is_first in (
            to_parent.0 ++ x ∷ [],
            walk_push g 0 h.0 x to_parent.0 to_parent.1 h.1,
            λ y in'.
                elim (Contains-push_cases to_parent.0 x y in') [
                  | inl old ↦ elim (to_parent.2 y old) [
                    | inl e ↦ inr (subst (λ v. IsBefore part v x) (sym e) h.2)
                    | inr b ↦ inr (before_trans part y h.0 x once b h.2)
                  ]
                  | inr e ↦ inl (sym e)
                ],
          )
    ]

-- the front holds what node 0 reaches
holds_reached : (g : List (List ℕ)) (part : List ℕ) (x : ℕ) → IsFront g part → Reaches g 0 x → Contains part x
holds_reached g part x f h = holds_along g (Contains part) 0 x (contains_at part 0 0 f.begins) (λ a b in' leads. f.closed a b in' leads) h

walk_to : (g : List (List ℕ)) (part : List ℕ) (x : ℕ) → IsFront g part → AllPairs (λ a b. a ≢ b) part → Contains part x → HasWalkInFront g part x
walk_to g part x f once h = walk_in_front g part f once (length part) h.0 x h.1 (found_at part x h)

reached_first : (g : List (List ℕ)) (part rest : List ℕ) → IsFront g part → AllPairs (λ a b. a ≢ b) (part ++ rest) → HasReachedFirst g (part ++ rest)
unfolding HasWalkInFront
reached_first g part rest f once = (
  length part,
  subst (All (λ x. Reaches g 0 x)) (sym (take_at part rest (length part) refl))
      (λ k d lt. let w = walk_to g part (get_or part k d) f (all_pairs-left (λ a b. a ≢ b) part rest once) (Contains-get_or part k d lt) in (w.0, w.1)),
  subst (All (λ x. ¬ Reaches g 0 x)) (sym (drop_at part rest (length part) refl))
      (λ k d lt. λ h. once_apart part rest (get_or rest k d) once (holds_reached g part (get_or rest k d) f h) (Contains-get_or rest k d lt)),
)

passed_before : (g : List (List ℕ)) (part rest : List ℕ) → IsFront g part → AllPairs (λ a b. a ≢ b) (part ++ rest) → HasPassedBefore g (part ++ rest)
unfolding HasWalkInFront
passed_before g part rest f once = λ u d reached on_each other.
    let w = walk_to g part u f (all_pairs-left (λ a b. a ≢ b) part rest once) (holds_reached g part u f reached) in
    elim (w.2 d (on_each w.0 w.1)) [
      | inl e ↦ absurd (other e)
      | inr b ↦ before-left part rest d u b
    ]

on_or_back : (g : List (List ℕ)) (part rest : List ℕ) → IsFront g part → LeadsOnOrBack g (part ++ rest)
on_or_back g part rest f = λ a b reached leads.
    elim (f.onward a b (holds_reached g part a f reached) leads) [
      | inl o ↦ inl (before-left part rest a b o)
      | inr r ↦ inr r
    ]

-- ---- the end: what node 0 reaches

nothing_leads : (g : List (List ℕ)) (a b : ℕ) → IsGraph g → length g ≡ 0 → ¬ LeadsTo g a b
nothing_leads g a b graph none leads = omega (arith, target_within g a b graph leads)

none_passed : (g : List (List ℕ)) (u d : ℕ) → IsGraph g → length g ≡ 0 → Reaches g 0 u → EachWalkPasses g 0 u d → d ≡ u
none_passed g u d graph none reached on_each =
    let zero_only : u ≡ 0 = holds_along g (λ x. x ≡ 0) 0 u refl (λ x y e leads. absurd (nothing_leads g x y graph none leads)) reached in
    sym (contains_one u d (on_each (u ∷ []) (subst (λ v. IsWalk g v u (u ∷ [])) zero_only (walk_one g u))))

pub order_reached : (g : List (List ℕ)) (order : List ℕ) → IsGraph g → IsDepthFirst g order → HasReachedFirst g order
order_reached g order graph d =
    elim (cases_eq (length g) 0) [
      | inl e ↦ (0, λ k x lt. absurd (omega arith), λ k x lt. absurd (omega (arith, (order_once g order graph d).count)))
      | inr ne ↦
          let f = has_front g order graph (omega arith) d in
          subst (HasReachedFirst g) (sym f.whole) (reached_first g f.part f.rest f.front f.once)
    ]

pub order_passed : (g : List (List ℕ)) (order : List ℕ) → IsGraph g → IsDepthFirst g order → HasPassedBefore g order
order_passed g order graph d =
    elim (cases_eq (length g) 0) [
      | inl e ↦ λ u x reached on_each other. absurd (other (none_passed g u x graph e reached on_each))
      | inr ne ↦
          let f = has_front g order graph (omega arith) d in
          subst (HasPassedBefore g) (sym f.whole) (passed_before g f.part f.rest f.front f.once)
    ]

pub order_onward : (g : List (List ℕ)) (order : List ℕ) → IsGraph g → IsDepthFirst g order → LeadsOnOrBack g order
order_onward g order graph d =
    elim (cases_eq (length g) 0) [
      | inl e ↦ λ a b reached leads. absurd (nothing_leads g a b graph e leads)
      | inr ne ↦
          let f = has_front g order graph (omega arith) d in
          subst (LeadsOnOrBack g) (sym f.whole) (on_or_back g f.part f.rest f.front)
    ]
