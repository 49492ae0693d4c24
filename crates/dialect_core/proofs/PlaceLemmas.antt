-- The whole call that puts an operation into a block's list, and the one that takes it out, as their code makes them.
use Rattle.std.proofs.Common.{◌≡◌, ◌<◌, ℕ, List, [], ◌∷◌, ◌++◌, Option, Some, None, length, slice_get, slice_set, get_or, ap, sym, subst, ◌∙◌, refl, inl, inr, arith}
use Rattle.std.specs.Option.{option_map, option_map_or, option_and_then, IfSome}
use Rattle.std.proofs.lemmas.Option.{slice_get_within, slice_get-get_or, slice_get-map, get_or_from_slice_get, none-some, same_Some}
use Rattle.std.proofs.lemmas.List.{append_assoc, length-map}
use Rattle.support.specs.Changes.{with_change}
use Rattle.dialect_core.specs.declared.numbers.OpRef.{OpRef}
use Rattle.dialect_core.specs.declared.numbers.BlockRef.{BlockRef}
use Rattle.dialect_core.specs.declared.lists.Link.{Link}
use Rattle.dialect_core.specs.declared.lists.Ends.{Ends}
use Rattle.dialect_core.specs.Lists.{Lists, Has, with_behind, without}
use Rattle.dialect_core.specs.Links.{parents_of, block_at, next_at, prev_at, behind_at, list_from, lists_of, with_next, with_prev, first_end, last_end, ends_of, last_of, IsListOf, IsAttached, IsLinked}
use Rattle.dialect_core.proofs.ChainLemmas.{last-has, last_of-append, AllOf-has, block_within}
use Rattle.dialect_core.proofs.SplitLemmas.{has_front, has_back, first_has, Apart, apart_split, Around, around, behind_last}
use Rattle.dialect_core.proofs.StrandLemmas.{head_is, last_is, strand_back, strand_of}
use Rattle.dialect_core.proofs.TieLemmas.{Tied, IsBeside, tied, tied_parents, next_length, prev_length}
use Rattle.dialect_core.proofs.LinkLemmas.{Relisted, free_link, relisted_lists, relisted_linked}
use Rattle.dialect_core.proofs.ReadLemmas.{listed, listed_same, parent_at, block_parent}
use Rattle.dialect_core.proofs.SpliceLemmas.{its_ends, placed_list, left_list}

-- a change at a place where x stands
pub changed_at : {X : Type 0} (g : X → X) (xs : List X) (i : ℕ) (x y : X) → slice_get xs i ≡ Some x → g x ≡ y → slice_set xs i y ≡ with_change g i xs
changed_at g xs i x y at is = sym (ap (λ (o : Option _). option_map_or (λ x. slice_set xs i (g x)) o xs) at ∙ ap (slice_set xs i) is)

-- the list of a block stands at its place
list_stands : (links : List Link) (ends : List (Option Ends)) (b : ℕ) (e : Option Ends) → slice_get ends b ≡ Some e → slice_get (lists_of links ends) b ≡ Some (list_from links e)
list_stands links ends b e at = slice_get-map (list_from links) ends b ∙ ap (option_map (list_from links)) at

-- an operation of a block stands in its list
in_list : (links : List Link) (ends : List (Option Ends)) (b : BlockRef) (e : Option Ends) (o : OpRef) → IsLinked links ends → slice_get ends b.0 ≡ Some e → block_at links o ≡ Some b → Has o.0 (list_from links e)
in_list links ends b e o h at block =
    let P : Option Ends → Type 0 = λ x. Has o.0 (list_from links x) in
    subst P (get_or_from_slice_get ends b.0 e None at) (subst (IsAttached links ends o) block (h.attached o)).1

-- an operation of a block is there, and is not one of no block
beside : (links : List Link) (b : BlockRef) (op l : OpRef) → block_at links op ≡ None → block_at links l ≡ Some b → IsBeside links op l
beside links b op l free is = (
  block_within links l b is,
  λ same. none-some b (sym free ∙ ap (λ (n : ℕ). option_and_then (λ (x : Link). x.block) (slice_get links n)) (sym same) ∙ is),
)

there_by : (n : ℕ) (links : List Link) (op : OpRef) (q : Option OpRef) → n ≡ length links → ((l : OpRef) → q ≡ Some l → IsBeside links op l) → IfSome q (λ (o : OpRef). o.0 < n)
there_by n links op None same h = tt
there_by n links op (Some l) same h = let w = (h l refl).0 in omega (arith, w, same)

-- ---- an operation comes behind another, or first

-- the list of a block in the operations up to `before` and those behind it
pub record Gap (links : List Link) (e : Option Ends) (op : OpRef) (before : Option OpRef) : Type 0 where
  pub us : List OpRef
  pub vs : List OpRef
  pub are : list_from links e ≡ us ++ vs
  pub before_is : before ≡ last_of us
  pub after_is : behind_at links e before ≡ slice_get vs 0
  pub placed : with_behind before op (list_from links e) ≡ us ++ op ∷ vs

-- what comes behind an operation of a list
next_around : (links : List Link) (b : ℕ) (e : Option Ends) (us vs : List OpRef) (op : OpRef) → IsListOf links b e (us ++ op ∷ vs) → next_at links op ≡ slice_get vs 0
next_around links b e us vs op h = (strand_back links None us (op ∷ vs) None (strand_of links _ None (us ++ op ∷ vs) h.chain h.back)).1 ∙ head_is vs

prev_around : (links : List Link) (b : ℕ) (e : Option Ends) (us vs : List OpRef) (op : OpRef) → IsListOf links b e (us ++ op ∷ vs) → prev_at links op ≡ last_of us
prev_around links b e us vs op h = (strand_back links None us (op ∷ vs) None (strand_of links _ None (us ++ op ∷ vs) h.chain h.back)).0 ∙ last_is us

gap_behind : (links : List Link) (b : ℕ) (e : Option Ends) (op q : OpRef) → IsListOf links b e (list_from links e) → Has q.0 (list_from links e) → Gap links e op (Some q)
gap_behind links b e op q h k =
    let a = around q (list_from links e) k in
    let P : List OpRef → Type 0 = IsListOf links b e in
    record {
      us = a.front ++ q ∷ [];
      vs = a.back;
      are = a.are ∙ sym (append_assoc a.front (q ∷ []) a.back);
      before_is = sym (last_of-append a.front q);
      after_is = next_around links b e a.front a.back q (subst P a.are h);
      placed = a.after op ∙ sym (append_assoc a.front (q ∷ []) (op ∷ a.back));
    }

gap_first : (links : List Link) (b : ℕ) (e : Option Ends) (op : OpRef) → IsListOf links b e (list_from links e) → Gap links e op None
gap_first links b e op h = record {
  us = [];
  vs = list_from links e;
  are = refl;
  before_is = refl;
  after_is = sym (its_ends links b e (list_from links e) h).first;
  placed = refl;
}

module _ (links : List Link) (ends : List (Option Ends)) (b : BlockRef) (e : Option Ends) (op : OpRef) (before : Option OpRef) (h : IsLinked links ends) (at : slice_get ends b.0 ≡ Some e) where
  pub gap : IfSome before (λ (o : OpRef). slice_get (parents_of links) o.0 ≡ Some (Some b)) → Gap links e op before
  gap ours = by before ours
    where
      by : (q : Option OpRef) → IfSome q (λ (o : OpRef). slice_get (parents_of links) o.0 ≡ Some (Some b)) → Gap links e op q
      by None ours = gap_first links b.0 e op (h.chains b.0 e at)
      by (Some q) ours = gap_behind links b.0 e op q (h.chains b.0 e at) (in_list links ends b e q h at (parent_at links q (Some b) ours).0)

module _ (links : List Link) (ends : List (Option Ends)) (b : BlockRef) (e : Option Ends) (op : OpRef) (before after : Option OpRef) (h : IsLinked links ends) (at : slice_get ends b.0 ≡ Some e) (free : slice_get (parents_of links) op.0 ≡ Some None) (g : Gap links e op before) (after_is : after ≡ behind_at links e before) where
  list : IsListOf links b.0 e (g.us ++ g.vs)
  list = let P : List OpRef → Type 0 = IsListOf links b.0 e in subst P g.are (h.chains b.0 e at)

  free_op : block_at links op ≡ None
  free_op = (parent_at links op None free).0

  fresh : Has op.0 (g.us ++ g.vs) → ⊥
  fresh k = none-some b (sym free_op ∙ AllOf-has links b.0 (g.us ++ g.vs) op list.ours k)

  after_first : after ≡ slice_get g.vs 0
  after_first = after_is ∙ g.after_is

  at_before : (l : OpRef) → before ≡ Some l → IsBeside links op l
  at_before l is = beside links b op l free_op (AllOf-has links b.0 (g.us ++ g.vs) l list.ours (has_front l.0 g.us g.vs (last-has g.us l (sym g.before_is ∙ is))))

  at_after : (l : OpRef) → after ≡ Some l → IsBeside links op l
  at_after l is = beside links b op l free_op (AllOf-has links b.0 (g.us ++ g.vs) l list.ours (has_back l.0 g.us g.vs (first_has g.vs l (sym after_first ∙ is))))

  pub after_there : (n : ℕ) → n ≡ length links → IfSome after (λ (o : OpRef). o.0 < n)
  after_there n same = there_by n links op after same at_after

  abbrev its_link : Link
  its_link = record { block = Some b; next = after; prev = before }

  module _ (others : List Link) (f : Option Ends) (f_is : f ≡ ends_of (first_end e before (Some op)) (last_end e after (Some op))) (others_are : others ≡ slice_set (with_prev (with_next links before (Some op)) after (Some op)) op.0 its_link) where
    its : Tied links others (last_of g.us) (slice_get g.vs 0) (Some op) (Some op) op (record { block = Some b; next = slice_get g.vs 0; prev = last_of g.us })
    its =
        let O : List Link → Type 0 = λ ls. Tied links ls before after (Some op) (Some op) op its_link in
        let P : Option OpRef → Type 0 = λ o. Tied links others o after (Some op) (Some op) op (record { block = Some b; next = after; prev = o }) in
        let Q : Option OpRef → Type 0 = λ o. Tied links others (last_of g.us) o (Some op) (Some op) op (record { block = Some b; next = o; prev = last_of g.us }) in
        subst Q after_first (subst P g.before_is (subst O (sym others_are) (tied links before after (Some op) (Some op) op its_link (parent_at links op None free).1 at_before at_after)))

    f_with : ends_of (first_end e (last_of g.us) (Some op)) (last_end e (slice_get g.vs 0) (Some op)) ≡ f
    f_with =
        ap (λ (o : Option OpRef). ends_of (first_end e o (Some op)) (last_end e (slice_get g.vs 0) (Some op))) (sym g.before_is)
        ∙ ap (λ (o : Option OpRef). ends_of (first_end e before (Some op)) (last_end e o (Some op))) (sym after_first)
        ∙ sym f_is

    relisted : Relisted links others b f (list_from links e) (g.us ++ op ∷ g.vs)
    relisted =
        let P : List OpRef → Type 0 = λ xs. Relisted links others b f xs (g.us ++ op ∷ g.vs) in
        let Q : Option Ends → Type 0 = λ x. Relisted links others b x (g.us ++ g.vs) (g.us ++ op ∷ g.vs) in
        subst P (sym g.are) (subst Q f_with (placed_list links others b e g.us g.vs op list free_op fresh its))

    pub place_linked : IsLinked others (slice_set ends b.0 f)
    place_linked = relisted_linked links others ends b e f (g.us ++ op ∷ g.vs) h at relisted

    place_lists : lists_of others (slice_set ends b.0 f) ≡ with_change (with_behind before op) b.0 (lists_of links ends)
    place_lists =
        relisted_lists links others ends b e f (g.us ++ op ∷ g.vs) h at relisted
        ∙ changed_at (with_behind before op) (lists_of links ends) b.0 (list_from links e) (g.us ++ op ∷ g.vs) (list_stands links ends b.0 e at) g.placed

    place_parents : parents_of others ≡ slice_set (parents_of links) op.0 (Some b)
    place_parents = ap parents_of others_are ∙ tied_parents links before after (Some op) (Some op) op its_link

    pub place_view : listed (parents_of others) (lists_of others (slice_set ends b.0 f)) ≡ listed (slice_set (parents_of links) op.0 (Some b)) (with_change (with_behind before op) b.0 (lists_of links ends))
    place_view = listed_same _ _ _ _ place_parents place_lists

-- ---- the writes of that call, one after another

-- what calls answered one after another
pub after_by : (seen links : List Link) (e : Option Ends) (before after : Option OpRef) → after ≡ behind_at seen e before → seen ≡ links → after ≡ behind_at links e before
after_by seen links e before after is same = is ∙ ap (λ (ls : List Link). behind_at ls e before) same

pub ends_by : (f l : Option OpRef) (e : Option Ends) (g k : Option OpRef) → f ≡ g → l ≡ k → e ≡ ends_of f l → e ≡ ends_of g k
ends_by f l e g k a b is = is ∙ ap (λ (o : Option OpRef). ends_of o l) a ∙ ap (ends_of g) b

-- the ends of a block that is there
pub block_ends : (links : List Link) (ends : List (Option Ends)) (b : BlockRef) (e : Option Ends) → b.0 < length (lists_of links ends) → e ≡ get_or ends b.0 e → slice_get ends b.0 ≡ Some e
block_ends links ends b e within e_is = slice_get-get_or ends b.0 e (omega (arith, length-map ends (list_from links))) ∙ ap Some (sym e_is)

-- the link of an operation that is there
pub link_at : (links : List Link) (op : OpRef) (x : Link) → op.0 < length links → x ≡ get_or links op.0 x → slice_get links op.0 ≡ Some x
link_at links op x within is_x = slice_get-get_or links op.0 x within ∙ ap Some (sym is_x)

module _ (links mid : List Link) (ends : List (Option Ends)) (b : BlockRef) (e : Option Ends) (op : OpRef) (before after : Option OpRef) (h : IsLinked links ends) (within : b.0 < length (lists_of links ends)) (e_is : e ≡ get_or ends b.0 e) (free : slice_get (parents_of links) op.0 ≡ Some None)
    (ours : IfSome before (λ (o : OpRef). slice_get (parents_of links) o.0 ≡ Some (Some b))) (after_is : after ≡ behind_at links e before) (mid_is : mid ≡ with_next links before (Some op)) where
  its_gap : Gap links e op before
  its_gap = gap links ends b e op before h (block_ends links ends b e within e_is) ours

  pub insertion_after : IfSome after (λ (o : OpRef). o.0 < length mid)
  insertion_after = after_there links ends b e op before after h (block_ends links ends b e within e_is) free its_gap after_is (length mid) (ap length mid_is ∙ next_length links before (Some op))

  module _ (both : List Link) (both_is : both ≡ with_prev mid after (Some op)) where
    pub insertion_there : op.0 < length both
    insertion_there =
        let p = (parent_at links op None free).1 in
        let same = ap length both_is ∙ prev_length mid after (Some op) ∙ ap length mid_is ∙ next_length links before (Some op) in
        omega (arith, p, same)

    module _ (f : Option Ends) (f_is : f ≡ ends_of (first_end e before (Some op)) (last_end e after (Some op))) where
      abbrev written : List Link
      written = slice_set both op.0 (record { block = Some b; next = after; prev = before })

      written_are : written ≡ slice_set (with_prev (with_next links before (Some op)) after (Some op)) op.0 (record { block = Some b; next = after; prev = before })
      written_are = ap (λ (ls : List Link). slice_set ls op.0 (record { block = Some b; next = after; prev = before })) (both_is ∙ ap (λ (ls : List Link). with_prev ls after (Some op)) mid_is)

      pub insertion_linked : IsLinked written (slice_set ends b.0 f)
      insertion_linked = place_linked links ends b e op before after h (block_ends links ends b e within e_is) free its_gap after_is written f f_is written_are

      pub insertion_view : listed (parents_of written) (lists_of written (slice_set ends b.0 f)) ≡ listed (slice_set (parents_of links) op.0 (Some b)) (with_change (with_behind before op) b.0 (lists_of links ends))
      insertion_view = place_view links ends b e op before after h (block_ends links ends b e within e_is) free its_gap after_is written f f_is written_are

-- ---- behind the last operation

-- the last operation of a block stands in it
pub last_stands : (links : List Link) (ends : List (Option Ends)) (b : BlockRef) (e : Option Ends) → IsLinked links ends → slice_get ends b.0 ≡ Some e → IfSome (option_map (λ (e : Ends). e.last) e) (λ (o : OpRef). slice_get (parents_of links) o.0 ≡ Some (Some b))
last_stands links ends b None h at = tt
last_stands links ends b (Some e) h at =
    let l = h.chains b.0 (Some e) at in
    block_parent links e.last b (AllOf-has links b.0 (list_from links (Some e)) e.last l.ours (last-has (list_from links (Some e)) e.last l.last))

-- behind the last is the end
append_lists : (links : List Link) (ends : List (Option Ends)) (b : BlockRef) (e : Option Ends) (op : OpRef) → IsLinked links ends → slice_get ends b.0 ≡ Some e → with_change (with_behind (option_map (λ (e : Ends). e.last) e) op) b.0 (lists_of links ends) ≡ with_change (λ (xs : List OpRef). xs ++ op ∷ []) b.0 (lists_of links ends)
append_lists links ends b e op h at =
    let l = h.chains b.0 e at in
    let stands = list_stands links ends b.0 e at in
    let grown = ap (λ (o : Option OpRef). with_behind o op (list_from links e)) (sym l.last) ∙ behind_last (list_from links e) op l.apart in
    sym (changed_at (with_behind (option_map (λ (e : Ends). e.last) e) op) (lists_of links ends) b.0 (list_from links e) (list_from links e ++ op ∷ []) stands grown)
    ∙ changed_at (λ (xs : List OpRef). xs ++ op ∷ []) (lists_of links ends) b.0 (list_from links e) (list_from links e ++ op ∷ []) stands refl

pub appended_lists : (links : List Link) (ends : List (Option Ends)) (b : BlockRef) (e : Option Ends) (op : OpRef) (last : Option OpRef) (new : Lists) → IsLinked links ends → slice_get ends b.0 ≡ Some e → last ≡ option_map (λ (e : Ends). e.last) e → new ≡ listed (slice_set (parents_of links) op.0 (Some b)) (with_change (with_behind last op) b.0 (lists_of links ends))
    → new ≡ listed (slice_set (parents_of links) op.0 (Some b)) (with_change (λ (xs : List OpRef). xs ++ op ∷ []) b.0 (lists_of links ends))
appended_lists links ends b e op last new h at is_last is =
    is ∙ ap (listed (slice_set (parents_of links) op.0 (Some b))) (ap (λ (o : Option OpRef). with_change (with_behind o op) b.0 (lists_of links ends)) is_last ∙ append_lists links ends b e op h at)

-- ---- an operation goes out of its block

module _ (links : List Link) (ends : List (Option Ends)) (b : BlockRef) (e : Option Ends) (op : OpRef) (x : Link) (h : IsLinked links ends) (at : slice_get ends b.0 ≡ Some e) (is_x : slice_get links op.0 ≡ Some x) (is_b : x.block ≡ Some b) where
  its_block : block_at links op ≡ Some b
  its_block = ap (option_and_then (λ (y : Link). y.block)) is_x ∙ is_b

  place : Around op (list_from links e)
  place = around op (list_from links e) (in_list links ends b e op h at its_block)

  whole : IsListOf links b.0 e (place.front ++ op ∷ place.back)
  whole = let P : List OpRef → Type 0 = IsListOf links b.0 e in subst P place.are (h.chains b.0 e at)

  next_is : x.next ≡ slice_get place.back 0
  next_is = ap (option_and_then (λ (y : Link). y.next)) (sym is_x) ∙ next_around links b.0 e place.front place.back op whole

  prev_is : x.prev ≡ last_of place.front
  prev_is = ap (option_and_then (λ (y : Link). y.prev)) (sym is_x) ∙ prev_around links b.0 e place.front place.back op whole

  apart_parts : Apart place.front (op ∷ place.back)
  apart_parts = apart_split place.front (op ∷ place.back) whole.apart

  near : (l : OpRef) → Has l.0 (place.front ++ op ∷ place.back) → (l.0 ≡ op.0 → ⊥) → IsBeside links op l
  near l k differs = (block_within links l b (AllOf-has links b.0 (place.front ++ op ∷ place.back) l whole.ours k), differs)

  near_prev : (l : OpRef) → x.prev ≡ Some l → IsBeside links op l
  near_prev l is =
      let k = last-has place.front l (sym prev_is ∙ is) in
      let P : ℕ → Type 0 = λ n. Has n place.front in
      near l (has_front l.0 place.front (op ∷ place.back) k) (λ same. apart_parts.across op.0 (subst P same k) (inl refl))

  near_next : (l : OpRef) → x.next ≡ Some l → IsBeside links op l
  near_next l is =
      let k = first_has place.back l (sym next_is ∙ is) in
      let P : ℕ → Type 0 = λ n. Has n place.back in
      near l (has_back l.0 place.front (op ∷ place.back) (inr k)) (λ same. apart_parts.back.0 (subst P same k))

  pub prev_there : (n : ℕ) → n ≡ length links → IfSome x.prev (λ (o : OpRef). o.0 < n)
  prev_there n same = there_by n links op x.prev same near_prev

  pub next_there : (n : ℕ) → n ≡ length links → IfSome x.next (λ (o : OpRef). o.0 < n)
  next_there n same = there_by n links op x.next same near_next

  module _ (others : List Link) (f : Option Ends) (f_is : f ≡ ends_of (first_end e x.prev x.next) (last_end e x.next x.prev)) (others_are : others ≡ slice_set (with_prev (with_next links x.prev x.next) x.next x.prev) op.0 free_link) where
    untied : Tied links others (last_of place.front) (slice_get place.back 0) (slice_get place.back 0) (last_of place.front) op free_link
    untied =
        let O : List Link → Type 0 = λ ls. Tied links ls x.prev x.next x.next x.prev op free_link in
        let P : Option OpRef → Type 0 = λ o. Tied links others o x.next x.next o op free_link in
        let Q : Option OpRef → Type 0 = λ o. Tied links others (last_of place.front) o o (last_of place.front) op free_link in
        subst Q next_is (subst P prev_is (subst O (sym others_are) (tied links x.prev x.next x.next x.prev op free_link (slice_get_within links op.0 x is_x) near_prev near_next)))

    f_without : ends_of (first_end e (last_of place.front) (slice_get place.back 0)) (last_end e (slice_get place.back 0) (last_of place.front)) ≡ f
    f_without =
        ap (λ (o : Option OpRef). ends_of (first_end e o (slice_get place.back 0)) (last_end e (slice_get place.back 0) o)) (sym prev_is)
        ∙ ap (λ (o : Option OpRef). ends_of (first_end e x.prev o) (last_end e o x.prev)) (sym next_is)
        ∙ sym f_is

    shorter : Relisted links others b f (list_from links e) (place.front ++ place.back)
    shorter =
        let P : List OpRef → Type 0 = λ xs. Relisted links others b f xs (place.front ++ place.back) in
        let Q : Option Ends → Type 0 = λ y. Relisted links others b y (place.front ++ op ∷ place.back) (place.front ++ place.back) in
        subst P (sym place.are) (subst Q f_without (left_list links others b e place.front place.back op whole untied))

    pub left_linked : IsLinked others (slice_set ends b.0 f)
    left_linked = relisted_linked links others ends b e f (place.front ++ place.back) h at shorter

    left_lists : lists_of others (slice_set ends b.0 f) ≡ with_change (without op) b.0 (lists_of links ends)
    left_lists =
        relisted_lists links others ends b e f (place.front ++ place.back) h at shorter
        ∙ changed_at (without op) (lists_of links ends) b.0 (list_from links e) (place.front ++ place.back) (list_stands links ends b.0 e at) place.left

    left_parents : parents_of others ≡ slice_set (parents_of links) op.0 None
    left_parents = ap parents_of others_are ∙ tied_parents links x.prev x.next x.next x.prev op free_link

    pub left_view : listed (parents_of others) (lists_of others (slice_set ends b.0 f)) ≡ listed (slice_set (parents_of links) op.0 None) (with_change (without op) b.0 (lists_of links ends))
    left_view = listed_same _ _ _ _ left_parents left_lists

-- ---- the writes of that call, one after another

-- an operation that stands in a block has it
pub block_is : (links : List Link) (op : OpRef) (x : Link) (b : BlockRef) → x ≡ get_or links op.0 x → slice_get (parents_of links) op.0 ≡ Some (Some b) → (slice_get links op.0 ≡ Some x) × (x.block ≡ Some b)
block_is links op x b is_x stands =
    let p = parent_at links op (Some b) stands in
    let at = link_at links op x p.1 is_x in
    (at, ap (option_and_then (λ (y : Link). y.block)) (sym at) ∙ p.0)

-- an operation that stands in some block stands in the one that it has
pub stands_in : (links : List Link) (op : OpRef) (x : Link) (b : BlockRef) → x ≡ get_or links op.0 x → x.block ≡ Some b → (c : BlockRef) × (slice_get (parents_of links) op.0 ≡ Some (Some c)) → slice_get (parents_of links) op.0 ≡ Some (Some b)
stands_in links op x b is_x is stands = stands.1 ∙ ap Some (sym (block_is links op x stands.0 is_x stands.1).1 ∙ is)

pub never_none : (links : List Link) (op : OpRef) (x : Link) → x ≡ get_or links op.0 x → x.block ≡ None → (c : BlockRef) × (slice_get (parents_of links) op.0 ≡ Some (Some c)) → ⊥
never_none links op x is_x is stands = none-some stands.0 (sym is ∙ (block_is links op x stands.0 is_x stands.1).1)

-- the block of an operation is there
pub block_of_link : (links : List Link) (ends : List (Option Ends)) (op : OpRef) (b : BlockRef) → IsLinked links ends → slice_get (parents_of links) op.0 ≡ Some (Some b) → b.0 < length ends
block_of_link links ends op b h stands = (subst (IsAttached links ends op) (parent_at links op (Some b) stands).0 (h.attached op)).0

pub removal_block : (links : List Link) (ends : List (Option Ends)) (op : OpRef) (b : BlockRef) → IsLinked links ends → slice_get (parents_of links) op.0 ≡ Some (Some b) → b.0 < length ends
removal_block links ends op b h stands = block_of_link links ends op b h stands

-- an operation stands in one block
pub removed_from : (links : List Link) (ends : List (Option Ends)) (b c : BlockRef) (op : OpRef) (new : Lists) → slice_get (parents_of links) op.0 ≡ Some (Some b) → slice_get (parents_of links) op.0 ≡ Some (Some c) → new ≡ listed (slice_set (parents_of links) op.0 None) (with_change (without op) b.0 (lists_of links ends))
    → new ≡ listed (slice_set (parents_of links) op.0 None) (with_change (without op) c.0 (lists_of links ends))
removed_from links ends b c op new at also is =
    let same : b ≡ c = same_Some _ _ (same_Some _ _ (sym at ∙ also)) in
    is ∙ ap (λ (x : BlockRef). listed (slice_set (parents_of links) op.0 None) (with_change (without op) x.0 (lists_of links ends))) same

-- and so is its list
pub list_of_link : (links : List Link) (ends : List (Option Ends)) (op : OpRef) (b : BlockRef) → IsLinked links ends → slice_get (parents_of links) op.0 ≡ Some (Some b) → b.0 < length (lists_of links ends)
list_of_link links ends op b h stands = let w = block_of_link links ends op b h stands in omega (arith, w, length-map ends (list_from links))

module _ (links : List Link) (ends : List (Option Ends)) (b : BlockRef) (op : OpRef) (x : Link) (h : IsLinked links ends) (is_x : x ≡ get_or links op.0 x) (stands : slice_get (parents_of links) op.0 ≡ Some (Some b)) where
  ends_is : (e : Option Ends) → e ≡ get_or ends b.0 e → slice_get ends b.0 ≡ Some e
  ends_is e e_is = slice_get-get_or ends b.0 e (block_of_link links ends op b h stands) ∙ ap Some (sym e_is)

  link_is : slice_get links op.0 ≡ Some x
  link_is = (block_is links op x b is_x stands).0

  own_block : x.block ≡ Some b
  own_block = (block_is links op x b is_x stands).1

  module _ (e : Option Ends) (e_is : e ≡ get_or ends b.0 e) where
    pub removal_prev : IfSome x.prev (λ (o : OpRef). o.0 < length links)
    removal_prev = prev_there links ends b e op x h (ends_is e e_is) link_is own_block (length links) refl

    module _ (mid : List Link) (mid_is : mid ≡ with_next links x.prev x.next) where
      pub removal_next : IfSome x.next (λ (o : OpRef). o.0 < length mid)
      removal_next = next_there links ends b e op x h (ends_is e e_is) link_is own_block (length mid) (ap length mid_is ∙ next_length links x.prev x.next)

      module _ (both : List Link) (both_is : both ≡ with_prev mid x.next x.prev) where
        pub removal_there : op.0 < length both
        removal_there =
            let p = (parent_at links op (Some b) stands).1 in
            let same = ap length both_is ∙ prev_length mid x.next x.prev ∙ ap length mid_is ∙ next_length links x.prev x.next in
            omega (arith, p, same)

        module _ (f : Option Ends) (f_is : f ≡ ends_of (first_end e x.prev x.next) (last_end e x.next x.prev)) where
          abbrev freed : List Link
          freed = slice_set both op.0 free_link

          freed_are : freed ≡ slice_set (with_prev (with_next links x.prev x.next) x.next x.prev) op.0 free_link
          freed_are = ap (λ (ls : List Link). slice_set ls op.0 free_link) (both_is ∙ ap (λ (ls : List Link). with_prev ls x.next x.prev) mid_is)

          pub removal_linked : IsLinked freed (slice_set ends b.0 f)
          removal_linked = left_linked links ends b e op x h (ends_is e e_is) link_is own_block freed f f_is freed_are

          pub removal_view : listed (parents_of freed) (lists_of freed (slice_set ends b.0 f)) ≡ listed (slice_set (parents_of links) op.0 None) (with_change (without op) b.0 (lists_of links ends))
          removal_view = left_view links ends b e op x h (ends_is e e_is) link_is own_block freed f f_is freed_are
