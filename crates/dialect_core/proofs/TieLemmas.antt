-- What the three writes make of the links when an operation comes between two others, or goes from there.
use Rattle.std.proofs.Common.{◌≡◌, ◌<◌, ℕ, Bool, true, false, nat_eq, if◌then◌else◌, List, Option, Some, None, length, slice_get, slice_set, get_or, ap, sym, ◌∙◌, refl, arith}
use Rattle.std.specs.Option.{option_map, option_and_then}
use Rattle.std.proofs.lemmas.Option.{slice_get-get_or, get_or_from_slice_get}
use Rattle.std.proofs.lemmas.List.{length-set, map-set}
use Rattle.std.proofs.Math.Seq.{map-set_same}
use Rattle.support.proofs.ListLaws.{length-with_change}
use Rattle.support.specs.Changes.{with_change}
use Rattle.dialect_core.specs.declared.numbers.OpRef.{OpRef}
use Rattle.dialect_core.specs.declared.numbers.BlockRef.{BlockRef}
use Rattle.dialect_core.specs.declared.lists.Link.{Link}
use Rattle.dialect_core.specs.Links.{parents_of, block_at, next_at, prev_at, with_next, with_prev}
use Rattle.dialect_core.proofs.ChainLemmas.{same_op}
use Rattle.dialect_core.proofs.FilterLemmas.{change_get, change_get_other}
use Rattle.dialect_core.proofs.ListLemmas.{slice_get-set_same, slice_get-set_other}

-- ---- what f says of the links after a change of one

kept_by : {Y : Type 0} (f : Link → Option Y) (g : Link → Link) (i : ℕ) (links : List Link) (o : OpRef) → ((x : Link) → f (g x) ≡ f x) → option_and_then f (slice_get (with_change g i links) o.0) ≡ option_and_then f (slice_get links o.0)
kept_by {Y = Y} f g i links o keeps = ap (option_and_then f) (change_get g i links o.0) ∙ by (nat_eq o.0 i) (slice_get links o.0)
  where
    by : (t : Bool) (x : Option Link) → option_and_then f (if t then option_map g x else x) ≡ option_and_then f x
    by true None = refl
    by true (Some x) = keeps x
    by false x = refl

written_by : {Y : Type 0} (f : Link → Option Y) (g : Link → Link) (links : List Link) (o : OpRef) (y : Option Y) → o.0 < length links → ((x : Link) → f (g x) ≡ y) → option_and_then f (slice_get (with_change g o.0 links) o.0) ≡ y
written_by {Y = Y} f g links o y within says = ap (option_and_then f) (change_get g o.0 links o.0) ∙ by (nat_eq o.0 o.0) refl
  where
    d : Link
    d = record { block = None; next = None; prev = None }

    by : (t : Bool) → nat_eq o.0 o.0 ≡ t → option_and_then f (if t then option_map g (slice_get links o.0) else slice_get links o.0) ≡ y
    by true is = ap (λ (x : Option Link). option_and_then f (option_map g x)) (slice_get-get_or links o.0 d within) ∙ says (get_or links o.0 d)
    by false is = absurd (grind (arith, is))

-- ---- the next of one operation, and the previous of one

pub next_keeps : {Y : Type 0} (f : Link → Option Y) (links : List Link) (p n : Option OpRef) (o : OpRef) → ((x : Link) → f (record x { next = n }) ≡ f x) → option_and_then f (slice_get (with_next links p n) o.0) ≡ option_and_then f (slice_get links o.0)
next_keeps f links None n o keeps = refl
next_keeps f links (Some q) n o keeps = kept_by f (λ (x : Link). record x { next = n }) q.0 links o keeps

pub prev_keeps : {Y : Type 0} (f : Link → Option Y) (links : List Link) (q p : Option OpRef) (o : OpRef) → ((x : Link) → f (record x { prev = p }) ≡ f x) → option_and_then f (slice_get (with_prev links q p) o.0) ≡ option_and_then f (slice_get links o.0)
prev_keeps f links None p o keeps = refl
prev_keeps f links (Some q) p o keeps = kept_by f (λ (x : Link). record x { prev = p }) q.0 links o keeps

apart_from : (q o : OpRef) → ¬ (Some q ≡ Some o) → ¬ (o.0 ≡ q.0)
apart_from q o apart same = apart (ap Some (same_op q o (sym same)))

pub next_other : (links : List Link) (p n : Option OpRef) (o : OpRef) → ¬ (p ≡ Some o) → next_at (with_next links p n) o ≡ next_at links o
next_other links None n o apart = refl
next_other links (Some q) n o apart = ap (option_and_then (λ (x : Link). x.next)) (change_get_other (λ (x : Link). record x { next = n }) q.0 links o.0 (apart_from q o apart))

pub prev_other : (links : List Link) (q p : Option OpRef) (o : OpRef) → ¬ (q ≡ Some o) → prev_at (with_prev links q p) o ≡ prev_at links o
prev_other links None p o apart = refl
prev_other links (Some q) p o apart = ap (option_and_then (λ (x : Link). x.prev)) (change_get_other (λ (x : Link). record x { prev = p }) q.0 links o.0 (apart_from q o apart))

pub next_written : (links : List Link) (p n : Option OpRef) (l : OpRef) → p ≡ Some l → l.0 < length links → next_at (with_next links p n) l ≡ n
next_written links p n l is within =
    ap (λ (q : Option OpRef). next_at (with_next links q n) l) is
    ∙ written_by (λ (x : Link). x.next) (λ (x : Link). record x { next = n }) links l n within (λ x. refl)

pub prev_written : (links : List Link) (q p : Option OpRef) (l : OpRef) → q ≡ Some l → l.0 < length links → prev_at (with_prev links q p) l ≡ p
prev_written links q p l is within =
    ap (λ (q : Option OpRef). prev_at (with_prev links q p) l) is
    ∙ written_by (λ (x : Link). x.prev) (λ (x : Link). record x { prev = p }) links l p within (λ x. refl)

pub next_length : (links : List Link) (p n : Option OpRef) → length (with_next links p n) ≡ length links
next_length links None n = refl
next_length links (Some q) n = length-with_change (λ (x : Link). record x { next = n }) q.0 links

pub prev_length : (links : List Link) (q p : Option OpRef) → length (with_prev links q p) ≡ length links
prev_length links None p = refl
prev_length links (Some q) p = length-with_change (λ (x : Link). record x { prev = p }) q.0 links

-- ---- the blocks of operations

parents_kept : (g : Link → Link) (i : ℕ) (links : List Link) → ((x : Link) → (g x).block ≡ x.block) → parents_of (with_change g i links) ≡ parents_of links
parents_kept g i links keeps = by (slice_get links i) refl
  where
    by : (y : Option Link) → slice_get links i ≡ y → parents_of (with_change g i links) ≡ parents_of links
    by None gone = rw gone refl
    by (Some y) there = rw there (map-set_same (λ (x : Link). x.block) links i (g y) y (keeps y ∙ ap (λ (x : Link). x.block) (sym (get_or_from_slice_get links i y y there))))

next_parents : (links : List Link) (p n : Option OpRef) → parents_of (with_next links p n) ≡ parents_of links
next_parents links None n = refl
next_parents links (Some q) n = parents_kept (λ (x : Link). record x { next = n }) q.0 links (λ x. refl)

prev_parents : (links : List Link) (q p : Option OpRef) → parents_of (with_prev links q p) ≡ parents_of links
prev_parents links None p = refl
prev_parents links (Some q) p = parents_kept (λ (x : Link). record x { prev = p }) q.0 links (λ x. refl)

-- ---- all three writes

-- what the links are when n has come behind `before`, p before `after`, and the operation `op` has the link x
pub record Tied (links others : List Link) (before after n p : Option OpRef) (op : OpRef) (x : Link) : Type 0 where
  pub same_length : length others ≡ length links
  pub its_link : slice_get others op.0 ≡ Some x
  pub blocks : (o : OpRef) → ¬ (o.0 ≡ op.0) → block_at others o ≡ block_at links o
  pub nexts : (o : OpRef) → ¬ (o.0 ≡ op.0) → ¬ (before ≡ Some o) → next_at others o ≡ next_at links o
  pub prevs : (o : OpRef) → ¬ (o.0 ≡ op.0) → ¬ (after ≡ Some o) → prev_at others o ≡ prev_at links o
  pub to_next : (l : OpRef) → before ≡ Some l → next_at others l ≡ n
  pub to_prev : (l : OpRef) → after ≡ Some l → prev_at others l ≡ p

-- an operation that is there, and is not `op`
abbrev pub IsBeside : List Link → OpRef → OpRef → Type 0
IsBeside links op l = (l.0 < length links) × (¬ (l.0 ≡ op.0))

module _ (links : List Link) (before after n p : Option OpRef) (op : OpRef) (x : Link) where
  abbrev both : List Link
  both = with_prev (with_next links before n) after p

  both_length : length both ≡ length links
  both_length = prev_length (with_next links before n) after p ∙ next_length links before n

  others : (o : OpRef) → ¬ (o.0 ≡ op.0) → slice_get (slice_set both op.0 x) o.0 ≡ slice_get both o.0
  others o apart = slice_get-set_other both op.0 o.0 x apart

  pub tied : op.0 < length links → ((l : OpRef) → before ≡ Some l → IsBeside links op l) → ((l : OpRef) → after ≡ Some l → IsBeside links op l) → Tied links (slice_set both op.0 x) before after n p op x
  tied within at_before at_after = record {
    same_length = length-set both op.0 x ∙ both_length;
    its_link = slice_get-set_same both op.0 x (omega (arith, both_length, within));
    blocks = λ o apart. ap (option_and_then (λ (y : Link). y.block)) (others o apart)
        ∙ prev_keeps (λ (y : Link). y.block) (with_next links before n) after p o (λ y. refl)
        ∙ next_keeps (λ (y : Link). y.block) links before n o (λ y. refl);
    nexts = λ o apart not. ap (option_and_then (λ (y : Link). y.next)) (others o apart)
        ∙ prev_keeps (λ (y : Link). y.next) (with_next links before n) after p o (λ y. refl)
        ∙ next_other links before n o not;
    prevs = λ o apart not. ap (option_and_then (λ (y : Link). y.prev)) (others o apart)
        ∙ prev_other (with_next links before n) after p o not
        ∙ next_keeps (λ (y : Link). y.prev) links before n o (λ y. refl);
    to_next = λ l is. ap (option_and_then (λ (y : Link). y.next)) (others l (at_before l is).1)
        ∙ prev_keeps (λ (y : Link). y.next) (with_next links before n) after p l (λ y. refl)
        ∙ next_written links before n l is (at_before l is).0;
    to_prev = λ l is. ap (option_and_then (λ (y : Link). y.prev)) (others l (at_after l is).1)
        ∙ prev_written (with_next links before n) after p l is (there l is);
  }
    where
      there : (l : OpRef) → after ≡ Some l → l.0 < length (with_next links before n)
      there l is = let w = (at_after l is).0 in omega (arith, next_length links before n, w)

  pub tied_parents : parents_of (slice_set both op.0 x) ≡ slice_set (parents_of links) op.0 x.block
  tied_parents =
      map-set (λ (y : Link). y.block) both op.0 x
      ∙ ap (λ (ps : List (Option BlockRef)). slice_set ps op.0 x.block) (prev_parents (with_next links before n) after p ∙ next_parents links before n)
