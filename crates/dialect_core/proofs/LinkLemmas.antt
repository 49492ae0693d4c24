-- Links stay lists when an operation or a block is added, and when the list of one block changes.
use Rattle.std.proofs.Common.{◌≡◌, ◌<◌, ◌+◌, ◌^◌, ◌⊎◌, ℕ, Bool, true, false, nat_eq, List, [], ◌∷◌, ◌++◌, Option, Some, None, length, map, slice_get, slice_set, get_or, ap, get_or-set_same, get_or-set_other, sym, subst, ◌∙◌, refl, inl, inr, arith, length-append}
use Rattle.std.specs.Option.{option_map, option_and_then}
use Rattle.std.proofs.lemmas.Option.{slice_get_within, slice_get-get_or, get_or_from_slice_get, none-some, same_Some}
use Rattle.std.proofs.lemmas.List.{map-append, map-set, length-set}
use Rattle.std.proofs.Math.ListN.{get_or-append}
use Rattle.dialect_types.proofs.TreeLemmas.{push_cases}
use Rattle.dialect_core.specs.declared.numbers.OpRef.{OpRef}
use Rattle.dialect_core.specs.declared.numbers.BlockRef.{BlockRef}
use Rattle.dialect_core.specs.declared.lists.Link.{Link}
use Rattle.dialect_core.specs.declared.lists.Ends.{Ends}
use Rattle.dialect_core.specs.Lists.{Has}
use Rattle.dialect_core.specs.Links.{parents_of, block_at, next_at, prev_at, list_from, lists_of, IsListOf, IsAttached, IsLinked}
use Rattle.dialect_core.proofs.ChainLemmas.{walk-chain, chain-same, AllOf-has, AllOf-same, length-ours}
use Rattle.dialect_core.proofs.ListLemmas.{push_silent, slice_get-set_same, slice_get-set_other, map_same, map_set_same}
use Rattle.dialect_core.proofs.SplitLemmas.{has_or_not}
use Rattle.dialect_core.proofs.StrandLemmas.{back_same}

-- the list that the links lead through is found
pub found_list : (links : List Link) (b : ℕ) (e : Option Ends) (xs : List OpRef) → IsListOf links b e xs → list_from links e ≡ xs
found_list links b e xs h = walk-chain links (option_map (λ (e : Ends). e.first) e) xs (length links) h.chain (length-ours links b xs h.ours h.apart)

-- the link of an operation is as it was
pub record Same (links others : List Link) (o : OpRef) : Type 0 where
  pub next : next_at others o ≡ next_at links o
  pub prev : prev_at others o ≡ prev_at links o
  pub block : block_at others o ≡ block_at links o

-- links that agree on the operations of a block
pub still_list : (links others : List Link) (b : ℕ) (e : Option Ends) (xs : List OpRef) → ((o : OpRef) → Has o.0 xs → Same links others o) → IsListOf links b e xs → IsListOf others b e xs
still_list links others b e xs same h = record {
  chain = chain-same links others (option_map (λ (e : Ends). e.first) e) xs (λ o k. (same o k).next) h.chain;
  back = back_same links others None xs (λ o k. (same o k).prev) h.back;
  ours = AllOf-same links others b xs (λ o k. (same o k).block) h.ours;
  apart = h.apart;
  last = h.last;
}

-- the ends of a block that is there
ends_at : (ends : List (Option Ends)) (b : ℕ) → b < length ends → slice_get ends b ≡ Some (get_or ends b None)
ends_at ends b h = slice_get-get_or ends b None h

-- ---- an operation in no block

-- the link of such an operation
abbrev pub free_link : Link
free_link = record { block = None; next = None; prev = None }

pub push_next : (links : List Link) (o : OpRef) → next_at (links ++ free_link ∷ []) o ≡ next_at links o
push_next links o = push_silent (λ (x : Link). x.next) links free_link o.0 refl

pub push_block : (links : List Link) (o : OpRef) → block_at (links ++ free_link ∷ []) o ≡ block_at links o
push_block links o = push_silent (λ (x : Link). x.block) links free_link o.0 refl

pub push_same : (links : List Link) (o : OpRef) → Same links (links ++ free_link ∷ []) o
push_same links o = record {
  next = push_next links o;
  prev = push_silent (λ (x : Link). x.prev) links free_link o.0 refl;
  block = push_block links o;
}

pub push_list : (links : List Link) (ends : List (Option Ends)) → IsLinked links ends → (b : ℕ) (e : Option Ends) → slice_get ends b ≡ Some e → list_from (links ++ free_link ∷ []) e ≡ list_from links e
push_list links ends h b e at =
    found_list (links ++ free_link ∷ []) b e (list_from links e)
    (still_list links (links ++ free_link ∷ []) b e (list_from links e) (λ o k. push_same links o) (h.chains b e at))

still_attached : (links others : List Link) (ends : List (Option Ends)) (o : OpRef) → Same links others o → ((b : ℕ) (e : Option Ends) → slice_get ends b ≡ Some e → list_from others e ≡ list_from links e) → (b : Option BlockRef) → IsAttached links ends o b → IsAttached others ends o b
still_attached links others ends o kept same None h = (kept.next ∙ h.0, kept.prev ∙ h.1)
still_attached links others ends o kept same (Some b) h =
    let P : List OpRef → Type 0 = Has o.0 in
    (h.0, subst P (sym (same b.0 (get_or ends b.0 None) (ends_at ends b.0 h.0))) h.1)

pub add_op_linked : (links : List Link) (ends : List (Option Ends)) → IsLinked links ends → length links + 1 < 2 ^ 32 → IsLinked (links ++ free_link ∷ []) ends
add_op_linked links ends h few = record {
  few_ops = omega (arith, length-append links (free_link ∷ []));
  few_blocks = h.few_blocks;
  chains = λ b e at. rw (push_list links ends h b e at) (still_list links (links ++ free_link ∷ []) b e (list_from links e) (λ o k. push_same links o) (h.chains b e at));
  attached = λ o.
      let P : Option BlockRef → Type 0 = IsAttached (links ++ free_link ∷ []) ends o in
      subst P (sym (push_block links o)) (still_attached links (links ++ free_link ∷ []) ends o (push_same links o) (push_list links ends h) (block_at links o) (h.attached o));
}

pub add_op_parents : (links : List Link) → parents_of (links ++ free_link ∷ []) ≡ parents_of links ++ None ∷ []
add_op_parents links = map-append (λ (x : Link). x.block) links (free_link ∷ [])

pub add_op_lists : (links : List Link) (ends : List (Option Ends)) → IsLinked links ends → lists_of (links ++ free_link ∷ []) ends ≡ lists_of links ends
add_op_lists links ends h = map_same (list_from (links ++ free_link ∷ [])) (list_from links) ends (push_list links ends h)

-- ---- a block without operations

empty_list : (links : List Link) (b : ℕ) → IsListOf links b None []
empty_list links b = record { chain = refl; back = tt; ours = tt; apart = tt; last = refl }

pub no_list : (links : List Link) → list_from links None ≡ []
no_list links = found_list links 0 None [] (empty_list links 0)

pub add_block_linked : (links : List Link) (ends : List (Option Ends)) → IsLinked links ends → length ends + 1 < 2 ^ 32 → IsLinked links (ends ++ None ∷ [])
add_block_linked links ends h few = record {
  few_ops = h.few_ops;
  few_blocks = omega (arith, length-append ends (None ∷ []));
  chains = λ b e at. elim (push_cases ends None e b at) [
    | inl old ↦ h.chains b e old
    | inr new ↦ rw (new.0, no_list links) (empty_list links b)
  ];
  attached = λ o. by o (block_at links o) (h.attached o);
}
  where
    by : (o : OpRef) (b : Option BlockRef) → IsAttached links ends o b → IsAttached links (ends ++ None ∷ []) o b
    by o None at = at
    by o (Some b) at =
        let P : Option Ends → Type 0 = λ e. Has o.0 (list_from links e) in
        (omega (arith, length-append ends (None ∷ []), at.0), subst P (sym (get_or-append ends (None ∷ []) None b.0 at.0)) at.1)

pub add_block_lists : (links : List Link) (ends : List (Option Ends)) → lists_of links (ends ++ None ∷ []) ≡ lists_of links ends ++ [] ∷ []
add_block_lists links ends = map-append (list_from links) ends (None ∷ []) ∙ ap (λ (xs : List OpRef). lists_of links ends ++ xs ∷ []) (no_list links)

-- ---- the list of one block changes

-- the operations of the block b were xs, which the links say, and are ys, which the others say with the ends f
pub record Relisted (links others : List Link) (b : BlockRef) (f : Option Ends) (xs ys : List OpRef) : Type 0 where
  pub same_length : length others ≡ length links
  pub here : IsListOf others b.0 f ys
  pub kept : (o : OpRef) → (Has o.0 xs → ⊥) → (Has o.0 ys → ⊥) → Same links others o
  pub fresh : (o : OpRef) → Has o.0 ys → (Has o.0 xs → ⊥) → block_at links o ≡ None
  pub gone : (o : OpRef) → Has o.0 xs → (Has o.0 ys → ⊥) → slice_get others o.0 ≡ Some free_link

module _ (links others : List Link) (ends : List (Option Ends)) (b : BlockRef) (e f : Option Ends) (ys : List OpRef) (h : IsLinked links ends) (at : slice_get ends b.0 ≡ Some e) (r : Relisted links others b f (list_from links e) ys) where
  abbrev all_ends : List (Option Ends)
  all_ends = slice_set ends b.0 f

  within : b.0 < length ends
  within = slice_get_within ends b.0 e at

  all_ends-length : length all_ends ≡ length ends
  all_ends-length = length-set ends b.0 f

  -- an operation of another block is none of the block's, before and after
  other_kept : (o : OpRef) (c : ℕ) → ¬ (c ≡ b.0) → block_at links o ≡ Some (record { 0 = c }) → Same links others o
  other_kept o c apart is = r.kept o not_before not_after
    where
      not_before : Has o.0 (list_from links e) → ⊥
      not_before k =
          let clash = sym is ∙ AllOf-has links b.0 (list_from links e) o (h.chains b.0 e at).ours k in
          apart (ap (λ (x : BlockRef). x.0) (same_Some _ _ clash))

      not_after : Has o.0 ys → ⊥
      not_after k = none-some (record { 0 = c }) (sym (r.fresh o k not_before) ∙ is)

  other_list : (c : ℕ) (g : Option Ends) → ¬ (c ≡ b.0) → slice_get ends c ≡ Some g → IsListOf others c g (list_from links g)
  other_list c g apart there =
      let l = h.chains c g there in
      still_list links others c g (list_from links g) (λ o k. other_kept o c apart (AllOf-has links c (list_from links g) o l.ours k)) l

  other_found : (c : ℕ) (g : Option Ends) → ¬ (c ≡ b.0) → slice_get ends c ≡ Some g → list_from others g ≡ list_from links g
  other_found c g apart there = found_list others c g (list_from links g) (other_list c g apart there)

  here_found : list_from others f ≡ ys
  here_found = found_list others b.0 f ys r.here

  -- the lists of all blocks
  pub relisted_lists : lists_of others all_ends ≡ slice_set (lists_of links ends) b.0 ys
  relisted_lists =
      map-set (list_from others) ends b.0 f
      ∙ ap (slice_set (map (list_from others) ends) b.0) here_found
      ∙ map_set_same (list_from others) (list_from links) ends b.0 ys (λ c g apart there. other_found c g apart there)

  here_chain : (c : ℕ) (g : Option Ends) → c ≡ b.0 → slice_get all_ends c ≡ Some g → IsListOf others c g (list_from others g)
  here_chain c g same there =
      let is_f : Some g ≡ Some f = sym there ∙ ap (slice_get all_ends) same ∙ slice_get-set_same ends b.0 f within in
      let g_is : g ≡ f = same_Some g f is_f in
      rw (g_is, same, here_found) r.here

  other_chain : (c : ℕ) (g : Option Ends) → ¬ (c ≡ b.0) → slice_get all_ends c ≡ Some g → IsListOf others c g (list_from others g)
  other_chain c g apart there =
      let was : slice_get ends c ≡ Some g = sym (slice_get-set_other ends b.0 c f apart) ∙ there in
      rw (other_found c g apart was) (other_list c g apart was)

  chain_by : (c : ℕ) (g : Option Ends) → slice_get all_ends c ≡ Some g → (t : Bool) → nat_eq c b.0 ≡ t → IsListOf others c g (list_from others g)
  chain_by c g there true same = here_chain c g (grind (arith, same)) there
  chain_by c g there false differs = other_chain c g (λ same. grind (arith, differs, same)) there

  at_ours : (o : OpRef) → Has o.0 ys → IsAttached others all_ends o (Some b)
  at_ours o k = (
    omega (arith, all_ends-length, within),
    rw (get_or-set_same ends b.0 f None within, here_found) k,
  )

  in_other : (o : OpRef) (c : BlockRef) → ¬ (c.0 ≡ b.0) → IsAttached links ends o (Some c) → IsAttached others all_ends o (Some c)
  in_other o c apart was = (
    omega (arith, all_ends-length, was.0),
    rw (get_or-set_other ends b.0 c.0 f None apart, other_found c.0 (get_or ends c.0 None) apart (ends_at ends c.0 was.0)) was.1,
  )

  at_kept : (o : OpRef) → (Has o.0 (list_from links e) → ⊥) → Same links others o → (v : Option BlockRef) → IsAttached links ends o v → IsAttached others all_ends o v
  at_kept o not_before same None was = (same.next ∙ was.0, same.prev ∙ was.1)
  at_kept o not_before same (Some c) was = in_other o c other was
    where
      other : ¬ (c.0 ≡ b.0)
      other is =
          let P : ℕ → Type 0 = λ n. Has o.0 (list_from links (get_or ends n None)) in
          let Q : Option Ends → Type 0 = λ x. Has o.0 (list_from links x) in
          not_before (subst Q (get_or_from_slice_get ends b.0 e None at) (subst P is was.1))

  at_gone : (o : OpRef) → slice_get others o.0 ≡ Some free_link → IsAttached others all_ends o (block_at others o)
  at_gone o is =
      let P : Option BlockRef → Type 0 = IsAttached others all_ends o in
      subst P (sym (ap (option_and_then (λ (x : Link). x.block)) is)) (ap (option_and_then (λ (x : Link). x.next)) is, ap (option_and_then (λ (x : Link). x.prev)) is)

  attached_by : (o : OpRef) → Has o.0 ys ⊎ (¬ Has o.0 ys) → Has o.0 (list_from links e) ⊎ (¬ Has o.0 (list_from links e)) → IsAttached others all_ends o (block_at others o)
  attached_by o (inl k) was =
      let P : Option BlockRef → Type 0 = IsAttached others all_ends o in
      subst P (sym (AllOf-has others b.0 ys o r.here.ours k)) (at_ours o k)
  attached_by o (inr not) (inl was) = at_gone o (r.gone o was not)
  attached_by o (inr not) (inr never) =
      let same = r.kept o never not in
      let P : Option BlockRef → Type 0 = IsAttached others all_ends o in
      subst P (sym same.block) (at_kept o never same (block_at links o) (h.attached o))

  pub relisted_linked : IsLinked others all_ends
  relisted_linked = record {
    few_ops = omega (arith, r.same_length, h.few_ops);
    few_blocks = omega (arith, all_ends-length, h.few_blocks);
    chains = λ c g there. chain_by c g there (nat_eq c b.0) refl;
    attached = λ o. attached_by o (has_or_not o.0 ys) (has_or_not o.0 (list_from links e));
  }
