-- What an exploration lists, by its rules.
use Rattle.std.proofs.Common.{◌≡◌, ◌≢◌, ◌<◌, ◌+◌, ℕ, Bool, true, List, [], ◌∷◌, ◌++◌, length, slice_set, get_or, sym, ◌∙◌, refl, subst, arith, inl, inr, ◌⊎◌, AllPairs, Contains, length-append}
use Rattle.std.proofs.lemmas.List.{length-set}
use Rattle.std.proofs.lemmas.List.Elements.{Contains-append_cases, Contains-append_left, Contains-append_right}
use Rattle.block_order.specs.Graph.{IsGraph, LeadsTo, Reaches}
use Rattle.block_order.specs.Marks.{IsMet}
use Rattle.block_order.specs.DepthFirst.{Explores, ends, passes, enters}
use Rattle.block_order.specs.Order.{IsBefore}
use Rattle.block_order.proofs.ListLemmas.{contains_none, contains_first, contains_behind, contains_cons_cases, before-left, before-right, before_across, once_append, once_none, once_cons}
use Rattle.block_order.proofs.GraphLemmas.{target_within, reaches_itself, reaches_more, met_here, met_more, met_cases, count_met, unmet_count}

-- what was listed where these nodes were visited, from marks `met` to marks `after`
pub record IsExplored (g : List (List ℕ)) (met : List Bool) (xs out : List ℕ) (after : List Bool) : Type 0 where
  pub fits : length after ≡ length met
  pub kept : (y : ℕ) → IsMet met y → IsMet after y
  pub known : (y : ℕ) → IsMet after y → IsMet met y ⊎ Contains out y
  pub fresh : (y : ℕ) → Contains out y → ¬ IsMet met y
  pub marked : (y : ℕ) → Contains out y → IsMet after y
  pub once : AllPairs (λ a b. a ≢ b) out
  pub count : length out + unmet_count after ≡ unmet_count met
  pub visited : (y : ℕ) → Contains xs y → IsMet after y
  -- each node was visited, or stands behind one that leads to it
  pub parents : (y : ℕ) → Contains out y → Contains xs y ⊎ ((p : ℕ) × LeadsTo g p y × IsBefore out p y)
  pub reached : (r y : ℕ) → ((z : ℕ) → Contains xs z → Reaches g r z) → Contains out y → Reaches g r y
  -- what a node leads to is met, and was met before, stands behind the node or reaches it
  pub closed : (y t : ℕ) → Contains out y → LeadsTo g y t → IsMet after t
  pub onward : (y t : ℕ) → Contains out y → LeadsTo g y t → IsMet met t ⊎ (IsBefore out y t ⊎ Reaches g t y)

-- ---- nothing is visited, or what is met

explored_none : (g : List (List ℕ)) (met : List Bool) → IsExplored g met [] [] met
explored_none g met = record {
  fits = refl;
  kept = λ y h. h;
  known = λ y h. inl h;
  fresh = λ y h. absurd (contains_none y h);
  marked = λ y h. absurd (contains_none y h);
  once = once_none;
  count = omega arith;
  visited = λ y h. absurd (contains_none y h);
  parents = λ y h. absurd (contains_none y h);
  reached = λ r y all h. absurd (contains_none y h);
  closed = λ y t h l. absurd (contains_none y h);
  onward = λ y t h l. absurd (contains_none y h);
}

explored_passed : (g : List (List ℕ)) (met after : List Bool) (x : ℕ) (xs out : List ℕ) → IsMet met x → IsExplored g met xs out after → IsExplored g met (x ∷ xs) out after
explored_passed g met after x xs out here e = record {
  fits = e.fits;
  kept = e.kept;
  known = e.known;
  fresh = e.fresh;
  marked = e.marked;
  once = e.once;
  count = e.count;
  visited = λ y h. elim (contains_cons_cases x xs y h) [
    | inl same ↦ subst (IsMet after) same (e.kept x here)
    | inr in' ↦ e.visited y in'
  ];
  parents = λ y h. elim (e.parents y h) [
    | inl in' ↦ inl (contains_behind x xs y in')
    | inr p ↦ inr p
  ];
  reached = λ r y all h. e.reached r y (λ z in'. all z (contains_behind x xs z in')) h;
  closed = e.closed;
  onward = e.onward;
}

-- ---- a node is entered

-- the state of an entered node x: what its targets listed, and what the nodes behind it listed
record HasEntered (g : List (List ℕ)) (met inside after : List Bool) (x : ℕ) (xs inner outer : List ℕ) : Type 0 where
  within : x < length met
  new : ¬ IsMet met x
  deep : IsExplored g (slice_set met x true) (get_or g x []) inner inside
  wide : IsExplored g inside xs outer after

-- a node of the list is listed outside, is the node, or is listed inside
three : (outer inner : List ℕ) (x y : ℕ) → Contains (outer ++ x ∷ inner) y → Contains outer y ⊎ ((x ≡ y) ⊎ Contains inner y)
three outer inner x y h =
    elim (Contains-append_cases outer (x ∷ inner) y h) [
      | inl out ↦ inl out
      | inr rest ↦ inr (contains_cons_cases x inner y rest)
    ]

at_outer : (outer inner : List ℕ) (x y : ℕ) → Contains outer y → Contains (outer ++ x ∷ inner) y
at_outer outer inner x y h = Contains-append_left outer (x ∷ inner) y h

at_node : (outer inner : List ℕ) (x : ℕ) → Contains (outer ++ x ∷ inner) x
at_node outer inner x = Contains-append_right outer (x ∷ inner) x (contains_first x inner)

at_inner : (outer inner : List ℕ) (x y : ℕ) → Contains inner y → Contains (outer ++ x ∷ inner) y
at_inner outer inner x y h = Contains-append_right outer (x ∷ inner) y (contains_behind x inner y h)

before_outer : (outer inner : List ℕ) (x a b : ℕ) → IsBefore outer a b → IsBefore (outer ++ x ∷ inner) a b
before_outer outer inner x a b h = before-left outer (x ∷ inner) a b h

before_inner : (outer inner : List ℕ) (x a b : ℕ) → IsBefore inner a b → IsBefore (outer ++ x ∷ inner) a b
before_inner outer inner x a b h = before-right outer (x ∷ inner) a b (before-right (x ∷ []) inner a b h)

node_before : (outer inner : List ℕ) (x b : ℕ) → Contains inner b → IsBefore (outer ++ x ∷ inner) x b
node_before outer inner x b h = before-right outer (x ∷ inner) x b (before_across (x ∷ []) inner x b (contains_first x []) h)

entered_known : (g : List (List ℕ)) (met inside after : List Bool) (x : ℕ) (xs inner outer : List ℕ) (y : ℕ) → HasEntered g met inside after x xs inner outer → IsMet inside y → IsMet met y ⊎ ((x ≡ y) ⊎ Contains inner y)
entered_known g met inside after x xs inner outer y e h =
    elim (e.deep.known y h) [
      | inl m ↦ elim (met_cases met x y m) [
        | inl old ↦ inl old
        | inr same ↦ inr (inl (sym same))
      ]
      | inr in' ↦ inr (inr in')
    ]

-- the node is marked inside, and what was met before still is
node_inside : (g : List (List ℕ)) (met inside after : List Bool) (x : ℕ) (xs inner outer : List ℕ) → HasEntered g met inside after x xs inner outer → IsMet inside x
node_inside g met inside after x xs inner outer e = e.deep.kept x (met_here met x e.within)

kept_inside : (g : List (List ℕ)) (met inside after : List Bool) (x : ℕ) (xs inner outer : List ℕ) (y : ℕ) → HasEntered g met inside after x xs inner outer → IsMet met y → IsMet inside y
kept_inside g met inside after x xs inner outer y e h = e.deep.kept y (met_more met x y h)

entered_parents : (g : List (List ℕ)) (met inside after : List Bool) (x : ℕ) (xs inner outer : List ℕ) (y : ℕ) → HasEntered g met inside after x xs inner outer → Contains (outer ++ x ∷ inner) y → Contains (x ∷ xs) y ⊎ ((p : ℕ) × LeadsTo g p y × IsBefore (outer ++ x ∷ inner) p y)
entered_parents g met inside after x xs inner outer y e h =
    elim (three outer inner x y h) [
      | inl out ↦ elim (e.wide.parents y out) [
        | inl in' ↦ inl (contains_behind x xs y in')
        | inr p ↦ inr (p.0, p.1, before_outer outer inner x p.0 y p.2)
      ]
      | inr rest ↦ elim rest [
        | inl same ↦ inl (subst (Contains (x ∷ xs)) same (contains_first x xs))
        | inr deep ↦ elim (e.deep.parents y deep) [
          | inl leads ↦ inr (x, leads, node_before outer inner x y deep)
          | inr p ↦ inr (p.0, p.1, before_inner outer inner x p.0 y p.2)
        ]
      ]
    ]

entered_reached : (g : List (List ℕ)) (met inside after : List Bool) (x : ℕ) (xs inner outer : List ℕ) (r y : ℕ) → HasEntered g met inside after x xs inner outer → ((z : ℕ) → Contains (x ∷ xs) z → Reaches g r z) → Contains (outer ++ x ∷ inner) y → Reaches g r y
entered_reached g met inside after x xs inner outer r y e all h =
    let to_node = all x (contains_first x xs) in
    elim (three outer inner x y h) [
      | inl out ↦ e.wide.reached r y (λ z in'. all z (contains_behind x xs z in')) out
      | inr rest ↦ elim rest [
        | inl same ↦ subst (Reaches g r) same to_node
        | inr deep ↦ e.deep.reached r y (λ z leads. reaches_more g r x z to_node leads) deep
      ]
    ]

-- what the node and the nodes inside lead to is met inside
leads_inside : (g : List (List ℕ)) (met inside after : List Bool) (x : ℕ) (xs inner outer : List ℕ) (y t : ℕ) → HasEntered g met inside after x xs inner outer → (x ≡ y) ⊎ Contains inner y → LeadsTo g y t → IsMet inside t
leads_inside g met inside after x xs inner outer y t e h leads =
    elim h [
      | inl same ↦ e.deep.visited t (subst (λ v. LeadsTo g v t) (sym same) leads)
      | inr deep ↦ e.deep.closed y t deep leads
    ]

entered_closed : (g : List (List ℕ)) (met inside after : List Bool) (x : ℕ) (xs inner outer : List ℕ) (y t : ℕ) → HasEntered g met inside after x xs inner outer → Contains (outer ++ x ∷ inner) y → LeadsTo g y t → IsMet after t
entered_closed g met inside after x xs inner outer y t e h leads =
    elim (three outer inner x y h) [
      | inl out ↦ e.wide.closed y t out leads
      | inr rest ↦ e.wide.kept t (leads_inside g met inside after x xs inner outer y t e rest leads)
    ]

-- the node reaches what is listed inside
node_reaches : (g : List (List ℕ)) (met inside after : List Bool) (x : ℕ) (xs inner outer : List ℕ) (y : ℕ) → HasEntered g met inside after x xs inner outer → Contains inner y → Reaches g x y
node_reaches g met inside after x xs inner outer y e deep = e.deep.reached x y (λ z leads. reaches_more g x x z (reaches_itself g x) leads) deep

outer_onward : (g : List (List ℕ)) (met inside after : List Bool) (x : ℕ) (xs inner outer : List ℕ) (y t : ℕ) → HasEntered g met inside after x xs inner outer → Contains outer y → LeadsTo g y t → IsMet met t ⊎ (IsBefore (outer ++ x ∷ inner) y t ⊎ Reaches g t y)
outer_onward g met inside after x xs inner outer y t e out leads =
    elim (e.wide.onward y t out leads) [
      | inl m ↦ elim (entered_known g met inside after x xs inner outer t e m) [
        | inl old ↦ inl old
        | inr rest ↦ inr (inl (before_across outer (x ∷ inner) y t out (elim rest [
          | inl same ↦ subst (Contains (x ∷ inner)) same (contains_first x inner)
          | inr deep ↦ contains_behind x inner t deep
        ])))
      ]
      | inr o ↦ elim o [
        | inl b ↦ inr (inl (before_outer outer inner x y t b))
        | inr r ↦ inr (inr r)
      ]
    ]

node_onward : (g : List (List ℕ)) (met inside after : List Bool) (x : ℕ) (xs inner outer : List ℕ) (t : ℕ) → HasEntered g met inside after x xs inner outer → LeadsTo g x t → IsMet met t ⊎ (IsBefore (outer ++ x ∷ inner) x t ⊎ Reaches g t x)
node_onward g met inside after x xs inner outer t e leads =
    elim (entered_known g met inside after x xs inner outer t e (e.deep.visited t leads)) [
      | inl old ↦ inl old
      | inr rest ↦ elim rest [
        | inl same ↦ inr (inr (subst (λ v. Reaches g v x) same (reaches_itself g x)))
        | inr deep ↦ inr (inl (node_before outer inner x t deep))
      ]
    ]

inner_onward : (g : List (List ℕ)) (met inside after : List Bool) (x : ℕ) (xs inner outer : List ℕ) (y t : ℕ) → HasEntered g met inside after x xs inner outer → Contains inner y → LeadsTo g y t → IsMet met t ⊎ (IsBefore (outer ++ x ∷ inner) y t ⊎ Reaches g t y)
inner_onward g met inside after x xs inner outer y t e deep leads =
    elim (e.deep.onward y t deep leads) [
      | inl m ↦ elim (met_cases met x t m) [
        | inl old ↦ inl old
        | inr same ↦ inr (inr (subst (λ v. Reaches g v y) (sym same) (node_reaches g met inside after x xs inner outer y e deep)))
      ]
      | inr o ↦ elim o [
        | inl b ↦ inr (inl (before_inner outer inner x y t b))
        | inr r ↦ inr (inr r)
      ]
    ]

entered_onward : (g : List (List ℕ)) (met inside after : List Bool) (x : ℕ) (xs inner outer : List ℕ) (y t : ℕ) → HasEntered g met inside after x xs inner outer → Contains (outer ++ x ∷ inner) y → LeadsTo g y t → IsMet met t ⊎ (IsBefore (outer ++ x ∷ inner) y t ⊎ Reaches g t y)
entered_onward g met inside after x xs inner outer y t e h leads =
    elim (three outer inner x y h) [
      | inl out ↦ outer_onward g met inside after x xs inner outer y t e out leads
      | inr rest ↦ elim rest [
        | inl same ↦ subst (λ v. IsMet met t ⊎ (IsBefore (outer ++ x ∷ inner) v t ⊎ Reaches g t v)) same (node_onward g met inside after x xs inner outer t e (subst (λ v. LeadsTo g v t) (sym same) leads))
        | inr deep ↦ inner_onward g met inside after x xs inner outer y t e deep leads
      ]
    ]

-- what is listed outside is listed nowhere else
outer_apart : (g : List (List ℕ)) (met inside after : List Bool) (x : ℕ) (xs inner outer : List ℕ) (y : ℕ) → HasEntered g met inside after x xs inner outer → Contains outer y → ¬ Contains (x ∷ inner) y
outer_apart g met inside after x xs inner outer y e out = λ h.
    e.wide.fresh y out (elim (contains_cons_cases x inner y h) [
      | inl same ↦ subst (IsMet inside) same (node_inside g met inside after x xs inner outer e)
      | inr deep ↦ e.deep.marked y deep
    ])

entered_fresh : (g : List (List ℕ)) (met inside after : List Bool) (x : ℕ) (xs inner outer : List ℕ) (y : ℕ) → HasEntered g met inside after x xs inner outer → Contains (outer ++ x ∷ inner) y → ¬ IsMet met y
entered_fresh g met inside after x xs inner outer y e h = λ m.
    elim (three outer inner x y h) [
      | inl out ↦ e.wide.fresh y out (kept_inside g met inside after x xs inner outer y e m)
      | inr rest ↦ elim rest [
        | inl same ↦ e.new (subst (IsMet met) (sym same) m)
        | inr deep ↦ e.deep.fresh y deep (met_more met x y m)
      ]
    ]

entered_marked : (g : List (List ℕ)) (met inside after : List Bool) (x : ℕ) (xs inner outer : List ℕ) (y : ℕ) → HasEntered g met inside after x xs inner outer → Contains (outer ++ x ∷ inner) y → IsMet after y
entered_marked g met inside after x xs inner outer y e h =
    elim (three outer inner x y h) [
      | inl out ↦ e.wide.marked y out
      | inr rest ↦ e.wide.kept y (elim rest [
        | inl same ↦ subst (IsMet inside) same (node_inside g met inside after x xs inner outer e)
        | inr deep ↦ e.deep.marked y deep
      ])
    ]

explored_entered : (g : List (List ℕ)) (met inside after : List Bool) (x : ℕ) (xs inner outer : List ℕ) → HasEntered g met inside after x xs inner outer → IsExplored g met (x ∷ xs) (outer ++ x ∷ inner) after
explored_entered g met inside after x xs inner outer e = record {
  fits = e.wide.fits ∙ (e.deep.fits ∙ length-set met x true);
  kept = λ y m. e.wide.kept y (kept_inside g met inside after x xs inner outer y e m);
  known = λ y m. elim (e.wide.known y m) [
    | inl m' ↦ elim (entered_known g met inside after x xs inner outer y e m') [
      | inl old ↦ inl old
      | inr rest ↦ elim rest [
        | inl same ↦ inr (subst (Contains (outer ++ x ∷ inner)) same (at_node outer inner x))
        | inr deep ↦ inr (at_inner outer inner x y deep)
      ]
    ]
    | inr out ↦ inr (at_outer outer inner x y out)
  ];
  fresh = λ y h. entered_fresh g met inside after x xs inner outer y e h;
  marked = λ y h. entered_marked g met inside after x xs inner outer y e h;
  once = once_append outer (x ∷ inner) e.wide.once (once_cons x inner e.deep.once (λ h. e.deep.fresh x h (met_here met x e.within))) (λ y out. outer_apart g met inside after x xs inner outer y e out);
  count = omega (arith, e.wide.count, e.deep.count, count_met met x e.within e.new, length-append outer (x ∷ inner));
  visited = λ y h. elim (contains_cons_cases x xs y h) [
    | inl same ↦ e.wide.kept y (subst (IsMet inside) same (node_inside g met inside after x xs inner outer e))
    | inr in' ↦ e.wide.visited y in'
  ];
  parents = λ y h. entered_parents g met inside after x xs inner outer y e h;
  reached = λ r y all h. entered_reached g met inside after x xs inner outer r y e all h;
  closed = λ y t h leads. entered_closed g met inside after x xs inner outer y t e h leads;
  onward = λ y t h leads. entered_onward g met inside after x xs inner outer y t e h leads;
}

-- ---- each exploration

pub explored : (g : List (List ℕ)) (met : List Bool) (xs out : List ℕ) (after : List Bool) → IsGraph g → length met ≡ length g → ((y : ℕ) → Contains xs y → y < length g) → Explores g met xs out after → IsExplored g met xs out after
explored g met xs out after graph fits all (ends m) = explored_none g m
explored g met xs out after graph fits all (passes m a x ys o here d) =
    explored_passed g m a x ys o here (explored g m ys o a graph fits (λ y h. all y (contains_behind x ys y h)) d)
explored g met xs out after graph fits all (enters m i a x ys inner outer new d e) =
    let deep = explored g (slice_set m x true) (get_or g x []) inner i graph (length-set m x true ∙ fits) (λ y h. target_within g x y graph h) d in
    let inside : length i ≡ length g = deep.fits ∙ (length-set m x true ∙ fits) in
    let wide = explored g i ys outer a graph inside (λ y h. all y (contains_behind x ys y h)) e in
    explored_entered g m i a x ys inner outer (record {
      within = omega (arith, all x (contains_first x ys), fits);
      new = new;
      deep = deep;
      wide = wide;
    })
