-- Lists under numbers, as links are added.
use Rattle.std.proofs.Common.{◌≡◌, ◌≢◌, ◌<◌, ◌≤◌, ℕ, zero, suc, ◌+◌, ◌-◌, List, [], ◌∷◌, ◌++◌, length, slice_index_or, refl, sym, ap, ◌∙◌, subst, append_assoc, arith}
use Rattle.std.proofs.lemmas.List.{append-nil, length-append}
use Rattle.ll_values.specs.declared.lists.Link.{Link}
use Rattle.ll_values.specs.Lists.{list_at, lists_after, AreLinksFrom, AreLinks}

module _ {T : Type 0} where
  index_front : (xs ys : List (List T)) (n : ℕ) → n < length xs → slice_index_or (xs ++ ys) n [] ≡ slice_index_or xs n []
  index_front [] ys n h = absurd (omega arith)
  index_front (x ∷ xs) ys zero h = refl
  index_front (x ∷ xs) ys (suc n) h = index_front xs ys n (omega arith)

  index_last : (xs : List (List T)) (y : List T) (ys : List (List T)) → slice_index_or (xs ++ y ∷ ys) (length xs) [] ≡ y
  index_last [] y ys = refl
  index_last (x ∷ xs) y ys = index_last xs y ys

  -- a list that is there stays
  pub at_front : (xs ys : List (List T)) (n : ℕ) → n ≤ length xs → list_at (xs ++ ys) n ≡ list_at xs n
  at_front xs ys zero h = refl
  at_front xs ys (suc n) h = index_front xs ys n (omega arith)

  -- the last list
  pub at_last : (xs : List (List T)) (y : List T) (n : ℕ) → n ≡ length (xs ++ y ∷ []) → list_at (xs ++ y ∷ []) n ≡ y
  at_last xs y zero h = absurd (omega (arith, length-append xs (y ∷ [])))
  at_last xs y (suc n) h = let m : n ≡ length xs = omega (arith, length-append xs (y ∷ [])) in rw m (index_last xs y [])

  pub length_after : (done : List (List T)) (ls : List (Link T)) → length (lists_after done ls) ≡ length done + length ls
  length_after done [] = omega arith
  length_after done (l ∷ ls) = let new = (l.item ∷ list_at done l.rest) ∷ [] in omega (arith, length_after (done ++ new) ls, length-append done new)

  pub after_more : (done : List (List T)) (ls ms : List (Link T)) → lists_after done (ls ++ ms) ≡ lists_after (lists_after done ls) ms
  after_more done [] ms = refl
  after_more done (l ∷ ls) ms = after_more (done ++ (l.item ∷ list_at done l.rest) ∷ []) ls ms

  behind : (done : List (List T)) (ls : List (Link T)) → (more : List (List T)) × (lists_after done ls ≡ done ++ more)
  behind done [] = ([], sym (append-nil done))
  behind done (l ∷ ls) =
      let new = l.item ∷ list_at done l.rest in
      let x = behind (done ++ new ∷ []) ls in
      (new ∷ x.0, x.1 ∙ append_assoc done (new ∷ []) x.0)

  links_more : (n : ℕ) (ls : List (Link T)) (l : Link T) → AreLinksFrom n ls → l.rest ≤ n + length ls → AreLinksFrom n (ls ++ l ∷ [])
  links_more n [] l h r = (omega (arith, r), tt)
  links_more n (k ∷ ks) l h r = (h.0, links_more (suc n) ks l h.1 (omega (arith, r)))

  -- a link tells its list over all links
  abbrev Tells : List (List T) → ℕ → Link T → Type 0
  Tells ls k l = (list_at ls (suc k) ≡ l.item ∷ list_at ls l.rest) × (l.rest ≤ k)

  tells : (done : List (List T)) (ls : List (Link T)) (k : ℕ) (d : Link T) → AreLinksFrom (length done) ls → k < length ls → Tells (lists_after done ls) (length done + k) (slice_index_or ls k d)
  tells done [] k d h lt = absurd (omega arith)
  tells done (l ∷ ls) zero d h lt =
      let new = l.item ∷ list_at done l.rest in
      let here = done ++ new ∷ [] in
      let x = behind here ls in
      let n : length done + 0 ≡ length done = omega arith in
      let whole : lists_after here ls ≡ done ++ (new ∷ x.0) = x.1 ∙ append_assoc done (new ∷ []) x.0 in
      let left : list_at (lists_after here ls) (suc (length done + 0)) ≡ new = rw (n, whole) (index_last done new x.0) in
      let right : list_at (lists_after here ls) l.rest ≡ list_at done l.rest = rw whole (at_front done (new ∷ x.0) l.rest h.0) in
      (left ∙ ap (λ (r : List T). l.item ∷ r) (sym right), omega (arith, h.0))
  tells done (l ∷ ls) (suc k) d h lt =
      let new = l.item ∷ list_at done l.rest in
      let here = done ++ new ∷ [] in
      let m : length here ≡ suc (length done) = length-append done (new ∷ []) ∙ omega arith in
      let x = tells here ls k d (subst (λ (n : ℕ). AreLinksFrom n ls) (sym m) h.1) (omega arith) in
      let n : length here + k ≡ length done + suc k = omega (arith, m) in
      subst (λ (j : ℕ). Tells (lists_after here ls) j (slice_index_or ls k d)) n x

  -- the list of a number is that of its link
  pub told : (now : List (List T)) (links : List (Link T)) (n : ℕ) (l : Link T) → lists_after [] links ≡ now → AreLinks links → n ≢ 0 → n ≤ length now → l ≡ slice_index_or links (n - 1) l
      → (list_at now n ≡ l.item ∷ list_at now l.rest) × (l.rest < n)
  told now links zero l is h some within at = absurd (some refl)
  told now links (suc n) l is h some within at =
      let k : suc n - 1 ≡ n = omega arith in
      let here : l ≡ slice_index_or links n l = at ∙ ap (λ (j : ℕ). slice_index_or links j l) k in
      let lt : n < length links = omega (arith, ap length is, length_after [] links, within) in
      let z : 0 + n ≡ n = omega arith in
      let x = subst (λ (j : ℕ). Tells (lists_after [] links) j (slice_index_or links n l)) z (tells [] links n l h lt) in
      let y = subst (λ (r : Link T). Tells (lists_after [] links) n r) (sym here) x in
      let w = subst (λ (ls : List (List T)). Tells ls n l) is y in
      (w.0, omega (arith, w.1))

  pub links_put : (now : List (List T)) (old new : List (Link T)) (l : Link T) → lists_after [] old ≡ now → AreLinks old → l.rest ≤ length now → new ≡ old ++ l ∷ [] → AreLinks new
  links_put now old new l is h r put = rw put (links_more 0 old l h (omega (arith, ap length is, length_after [] old, r)))

  pub lists_put : (now : List (List T)) (old new : List (Link T)) (l : Link T) → lists_after [] old ≡ now → new ≡ old ++ l ∷ [] → lists_after [] new ≡ now ++ (l.item ∷ list_at now l.rest) ∷ []
  lists_put now old new l is put = rw put (after_more [] old (l ∷ []) ∙ ap (λ (ls : List (List T)). ls ++ (l.item ∷ list_at ls l.rest) ∷ []) is)

  pub number_put : (old new : List (Link T)) (l : Link T) → new ≡ old ++ l ∷ [] → length old + 1 ≡ length (lists_after [] new)
  number_put old new l put = omega (arith, length_after [] new, ap length put, length-append old (l ∷ []))
