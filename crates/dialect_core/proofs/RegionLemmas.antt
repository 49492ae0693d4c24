-- The regions of a context keep the blocks that their operations hold.
use Rattle.std.proofs.Common.{◌≡◌, ◌<◌, ℕ, zero, suc, Bool, true, false, nat_eq, List, [], ◌∷◌, ◌++◌, Option, Some, None, length, slice_get, slice_set, get_or, ap, sym, ◌∙◌, refl, inl, inr, arith}
use Rattle.std.specs.Option.{option_map, option_map_or}
use Rattle.std.proofs.lemmas.Option.{slice_get_within, slice_get-get_or, none-some, same_Some}
use Rattle.dialect_types.proofs.TreeLemmas.{push_cases}
use Rattle.support.proofs.ListLaws.{slice_get-before}
use Rattle.dialect_core.specs.declared.numbers.OpRef.{OpRef}
use Rattle.dialect_core.specs.declared.numbers.BlockRef.{BlockRef}
use Rattle.dialect_core.specs.declared.ops.OpData.{OpData}
use Rattle.dialect_core.specs.declared.ops.BlockData.{BlockData}
use Rattle.dialect_core.specs.ContextData.{AreRegions, region_at, holder_at}
use Rattle.dialect_core.proofs.ListLemmas.{slice_get-last, slice_get-set_same, slice_get-set_other}

-- regions and holders that agree
pub same_regions : (region region' : ℕ → List BlockRef) (holder holder' : ℕ → Option ℕ) → ((o : ℕ) → region' o ≡ region o) → ((b : ℕ) → holder' b ≡ holder b) → AreRegions region holder → AreRegions region' holder'
same_regions region region' holder holder' r h a = record {
  ours = λ o k b at. h b.0 ∙ a.ours o k b (ap (λ (xs : List BlockRef). slice_get xs k) (sym (r o)) ∙ at);
  listed = λ o b at. let was = a.listed o b (sym (h b) ∙ at) in (was.0, ap (λ (xs : List BlockRef). slice_get xs was.0) (r o) ∙ was.1);
  once = λ o i j b p q. a.once o i j b (ap (λ (xs : List BlockRef). slice_get xs i) (sym (r o)) ∙ p) (ap (λ (xs : List BlockRef). slice_get xs j) (sym (r o)) ∙ q);
}

-- a number past the end has no region
no_region : (ops : List OpData) (o : ℕ) → slice_get ops o ≡ None → region_at ops o ≡ []
no_region ops o h = ap (λ (x : Option OpData). option_map_or (λ (x : OpData). x.blocks) x []) h

region_is : (ops : List OpData) (o : ℕ) (x : OpData) → slice_get ops o ≡ Some x → region_at ops o ≡ x.blocks
region_is ops o x h = ap (λ (x : Option OpData). option_map_or (λ (x : OpData). x.blocks) x []) h

-- a new operation without blocks
pub push_region : (ops : List OpData) (x : OpData) (o : ℕ) → x.blocks ≡ [] → region_at (ops ++ x ∷ []) o ≡ region_at ops o
push_region [] x zero h = h
push_region [] x (suc o) h = refl
push_region (y ∷ ops) x zero h = refl
push_region (y ∷ ops) x (suc o) h = push_region ops x o h

-- an operation with the same blocks
pub set_region : (ops : List OpData) (x y : OpData) (i o : ℕ) → slice_get ops i ≡ Some y → x.blocks ≡ y.blocks → region_at (slice_set ops i x) o ≡ region_at ops o
set_region [] x y i o at h = refl
set_region (z ∷ ops) x y zero zero at h = h ∙ ap (λ (x : OpData). x.blocks) (sym (same_Some z y at))
set_region (z ∷ ops) x y zero (suc o) at h = refl
set_region (z ∷ ops) x y (suc i) zero at h = refl
set_region (z ∷ ops) x y (suc i) (suc o) at h = set_region ops x y i o at h

-- a block with the same holder
pub set_holder : (blocks : List BlockData) (x y : BlockData) (i b : ℕ) → slice_get blocks i ≡ Some y → x.holder ≡ y.holder → holder_at (slice_set blocks i x) b ≡ holder_at blocks b
set_holder [] x y i b at h = refl
set_holder (z ∷ blocks) x y zero zero at h = ap (λ (o : OpRef). Some o.0) (h ∙ ap (λ (x : BlockData). x.holder) (sym (same_Some z y at)))
set_holder (z ∷ blocks) x y zero (suc b) at h = refl
set_holder (z ∷ blocks) x y (suc i) zero at h = refl
set_holder (z ∷ blocks) x y (suc i) (suc b) at h = set_holder blocks x y i b at h

-- ---- a new block

none_past : (blocks : List BlockData) → holder_at blocks (length blocks) ≡ None
none_past [] = refl
none_past (x ∷ xs) = none_past xs

new_holder : (blocks : List BlockData) (x : BlockData) → holder_at (blocks ++ x ∷ []) (length blocks) ≡ Some x.holder.0
new_holder blocks x = ap (option_map (λ (x : BlockData). x.holder.0)) (slice_get-last blocks x)

old_holder : (blocks : List BlockData) (x : BlockData) (b : ℕ) → ¬ (b ≡ length blocks) → holder_at (blocks ++ x ∷ []) b ≡ holder_at blocks b
old_holder [] x zero h = absurd (h refl)
old_holder [] x (suc b) h = refl
old_holder (y ∷ xs) x zero h = refl
old_holder (y ∷ xs) x (suc b) h = old_holder xs x b (λ e. h (ap suc e))

grown_region : (ops : List OpData) (x : OpData) (o : ℕ) → o < length ops → region_at (slice_set ops o x) o ≡ x.blocks
grown_region ops x o within = region_is (slice_set ops o x) o x (slice_get-set_same ops o x within)

other_region : (ops : List OpData) (x : OpData) (o n : ℕ) → ¬ (n ≡ o) → region_at (slice_set ops o x) n ≡ region_at ops n
other_region ops x o n apart = ap (λ (x : Option OpData). option_map_or (λ (x : OpData). x.blocks) x []) (slice_get-set_other ops o n x apart)

-- the region of o grew by the block b, which nothing held
module _ (region region' : ℕ → List BlockRef) (holder holder' : ℕ → Option ℕ) (o : ℕ) (b : BlockRef) (grown : region' o ≡ region o ++ b ∷ []) (others : (n : ℕ) → ¬ (n ≡ o) → region' n ≡ region n) (held : holder' b.0 ≡ Some o) (still : (n : ℕ) → ¬ (n ≡ b.0) → holder' n ≡ holder n) (free : holder b.0 ≡ None) (a : AreRegions region holder) where
  -- what was held is not b
  apart_from : (n p : ℕ) → holder n ≡ Some p → ¬ (n ≡ b.0)
  apart_from n p at same = none-some p (sym free ∙ ap holder (sym same) ∙ at)

  ours_old : (n k : ℕ) (c : BlockRef) → slice_get (region n) k ≡ Some c → holder' c.0 ≡ Some n
  ours_old n k c at = let was = a.ours n k c at in still c.0 (apart_from c.0 n was) ∙ was

  ours_new : (n k : ℕ) (c : BlockRef) → slice_get (region' n) k ≡ Some c → (t : Bool) → nat_eq n o ≡ t → holder' c.0 ≡ Some n
  ours_new n k c at true same =
      let e : n ≡ o = grind (arith, same) in
      let there : slice_get (region o ++ b ∷ []) k ≡ Some c = ap (λ (xs : List BlockRef). slice_get xs k) (sym (ap region' e ∙ grown)) ∙ at in
      elim (push_cases (region o) b c k there) [
        | inl old ↦ ours_old o k c old ∙ ap Some (sym e)
        | inr new ↦ ap (λ (x : BlockRef). holder' x.0) new.0 ∙ held ∙ ap Some (sym e)
      ]
  ours_new n k c at false differs =
      ours_old n k c (ap (λ (xs : List BlockRef). slice_get xs k) (sym (others n (λ same. grind (arith, differs, same)))) ∙ at)

  -- what stood in a region still stands there
  stays : (n k : ℕ) (c : BlockRef) → slice_get (region n) k ≡ Some c → slice_get (region' n) k ≡ Some c
  stays n k c at = by (nat_eq n o) refl
    where
      by : (t : Bool) → nat_eq n o ≡ t → slice_get (region' n) k ≡ Some c
      by true same =
          let e : n ≡ o = grind (arith, same) in
          let here : slice_get (region o) k ≡ Some c = ap (λ (n : ℕ). slice_get (region n) k) (sym e) ∙ at in
          ap (λ (xs : List BlockRef). slice_get xs k) (ap region' e ∙ grown) ∙ slice_get-before (region o) (b ∷ []) k (slice_get_within (region o) k c here) ∙ here
      by false differs = ap (λ (xs : List BlockRef). slice_get xs k) (others n (λ same. grind (arith, differs, same))) ∙ at

  listed_new : (n c : ℕ) → holder' c ≡ Some n → (t : Bool) → nat_eq c b.0 ≡ t → (k : ℕ) × (slice_get (region' n) k ≡ Some (record { 0 = c }))
  listed_new n c at true same =
      let e : c ≡ b.0 = grind (arith, same) in
      let f : n ≡ o = same_Some n o (sym at ∙ ap holder' e ∙ held) in
      let is : b ≡ record { 0 = c } = ap (λ (n : ℕ). let x : BlockRef = record { 0 = n } in x) (sym e) in
      (length (region o), ap (λ (xs : List BlockRef). slice_get xs (length (region o))) (ap region' f ∙ grown) ∙ slice_get-last (region o) b ∙ ap Some is)
  listed_new n c at false differs =
      let was = a.listed n c (sym (still c (λ same. grind (arith, differs, same))) ∙ at) in
      (was.0, stays n was.0 (record { 0 = c }) was.1)

  -- b did not stand in the region
  fresh : (k : ℕ) (c : BlockRef) → slice_get (region o) k ≡ Some c → c ≡ b → ⊥
  fresh k c at same = apart_from c.0 o (a.ours o k c at) (ap (λ (x : BlockRef). x.0) same)

  once_grown : (i j : ℕ) (c : BlockRef) → slice_get (region o ++ b ∷ []) i ≡ Some c → slice_get (region o ++ b ∷ []) j ≡ Some c → i ≡ j
  once_grown i j c p q = elim (push_cases (region o) b c i p) [
    | inl old ↦ elim (push_cases (region o) b c j q) [ inl also ↦ a.once o i j c old also | inr new ↦ absurd (fresh i c old new.0) ]
    | inr new ↦ elim (push_cases (region o) b c j q) [ inl old ↦ absurd (fresh j c old new.0) | inr also ↦ new.1 ∙ sym also.1 ]
  ]

  once_new : (n i j : ℕ) (c : BlockRef) → slice_get (region' n) i ≡ Some c → slice_get (region' n) j ≡ Some c → (t : Bool) → nat_eq n o ≡ t → i ≡ j
  once_new n i j c p q true same =
      let e : n ≡ o = grind (arith, same) in
      let is : region' n ≡ region o ++ b ∷ [] = ap region' e ∙ grown in
      once_grown i j c (ap (λ (xs : List BlockRef). slice_get xs i) (sym is) ∙ p) (ap (λ (xs : List BlockRef). slice_get xs j) (sym is) ∙ q)
  once_new n i j c p q false differs =
      let is = others n (λ same. grind (arith, differs, same)) in
      a.once n i j c (ap (λ (xs : List BlockRef). slice_get xs i) (sym is) ∙ p) (ap (λ (xs : List BlockRef). slice_get xs j) (sym is) ∙ q)

  pub more_regions : AreRegions region' holder'
  more_regions = record {
    ours = λ n k c at. ours_new n k c at (nat_eq n o) refl;
    listed = λ n c at. listed_new n c at (nat_eq c b.0) refl;
    once = λ n i j c p q. once_new n i j c p q (nat_eq n o) refl;
  }

-- the whole addition of a block
pub new_block_regions : (ops : List OpData) (blocks reserved all : List BlockData) (o : OpRef) (x : OpData) (region : List BlockRef) (b : BlockRef) (new : BlockData) → AreRegions (region_at ops) (holder_at blocks) → o.0 < length ops → x ≡ get_or ops o.0 x → region ≡ x.blocks ++ b ∷ [] → b.0 ≡ length blocks → new.holder ≡ o → reserved ≡ blocks → all ≡ reserved ++ new ∷ []
    → AreRegions (region_at (slice_set ops o.0 (record x { blocks = region }))) (holder_at all)
new_block_regions ops blocks reserved all o x region b new a within is_x grown is_b holder is_reserved is_all =
    let are : all ≡ blocks ++ new ∷ [] = is_all ∙ ap (λ (xs : List BlockData). xs ++ new ∷ []) is_reserved in
    let was : region_at ops o.0 ≡ x.blocks = region_is ops o.0 x (slice_get-get_or ops o.0 x within ∙ ap Some (sym is_x)) in
    more_regions (region_at ops) (region_at (slice_set ops o.0 (record x { blocks = region }))) (holder_at blocks) (holder_at all) o.0 b
    (grown_region ops (record x { blocks = region }) o.0 within ∙ grown ∙ ap (λ (xs : List BlockRef). xs ++ b ∷ []) (sym was))
    (λ n apart. other_region ops (record x { blocks = region }) o.0 n apart)
    (ap (λ (xs : List BlockData). holder_at xs b.0) are ∙ ap (holder_at (blocks ++ new ∷ [])) is_b ∙ new_holder blocks new ∙ ap (λ (o : OpRef). Some o.0) holder)
    (λ n apart. ap (λ (xs : List BlockData). holder_at xs n) are ∙ old_holder blocks new n (λ same. apart (same ∙ sym is_b)))
    (ap (holder_at blocks) is_b ∙ none_past blocks)
    a
