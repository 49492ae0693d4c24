-- The list of a block after an operation came between two others of it, or went from there.
use Rattle.std.proofs.Common.{◌≡◌, ℕ, List, [], ◌∷◌, ◌++◌, Option, Some, None, slice_get, ap, sym, subst, ◌∙◌, refl, inl, inr}
use Rattle.std.specs.Option.{option_map, option_and_then}
use Rattle.std.proofs.lemmas.List.{append_assoc, append-nil}
use Rattle.dialect_core.specs.declared.numbers.OpRef.{OpRef}
use Rattle.dialect_core.specs.declared.numbers.BlockRef.{BlockRef}
use Rattle.dialect_core.specs.declared.lists.Link.{Link}
use Rattle.dialect_core.specs.declared.lists.Ends.{Ends}
use Rattle.dialect_core.specs.Lists.{Has, AllApart}
use Rattle.dialect_core.specs.Links.{block_at, AllOf, IsChain, last_of, first_end, last_end, ends_of, IsListOf}
use Rattle.dialect_core.proofs.ChainLemmas.{last-has, last_of-append, AllOf-same}
use Rattle.dialect_core.proofs.SplitLemmas.{has_front, has_back, has_either, first_has, Apart, apart_split, apart_join, apart_grown, apart_shrunk, ours_front, ours_back, ours_join, last_behind, last_some}
use Rattle.dialect_core.proofs.StrandLemmas.{head_or, last_or, Strand, head_is, last_is, strand_front, strand_back, strand_join, strand_after, strand_before, strand_of, chain_of, back_of}
use Rattle.dialect_core.proofs.TieLemmas.{Tied}
use Rattle.dialect_core.proofs.LinkLemmas.{Same, Relisted, free_link}

-- ---- the ends of a list

-- the first and the last of the operations xs are the ends f
pub record HasEnds (f : Option Ends) (xs : List OpRef) : Type 0 where
  pub first : slice_get xs 0 ≡ option_map (λ (e : Ends). e.first) f
  pub last : last_of xs ≡ option_map (λ (e : Ends). e.last) f

ends_are : (xs : List OpRef) → HasEnds (ends_of (slice_get xs 0) (last_of xs)) xs
ends_are [] = record { first = refl; last = refl }
ends_are (x ∷ xs) =
    let l = last_some x xs in
    let P : Option OpRef → Type 0 = λ o. HasEnds (ends_of (Some x) o) (x ∷ xs) in
    subst P (sym l.1) (record { first = refl; last = l.1 })

-- the first of a list whose front us is as it was
first_new : (us vs ws : List OpRef) (e : Option Ends) → slice_get (us ++ vs) 0 ≡ option_map (λ (e : Ends). e.first) e → first_end e (last_of us) (slice_get ws 0) ≡ slice_get (us ++ ws) 0
first_new [] vs ws e h = refl
first_new (u ∷ us) vs ws e h = ap (λ (o : Option OpRef). first_end e o (slice_get ws 0)) (last_some u us).1 ∙ sym h

-- the last of a list whose back ws is as it was
last_new : (us vs ws : List OpRef) (e : Option Ends) → last_of (us ++ ws) ≡ option_map (λ (e : Ends). e.last) e → last_end e (slice_get ws 0) (last_of vs) ≡ last_of (vs ++ ws)
last_new us vs [] e h = sym (ap last_of (append-nil vs))
last_new us vs (w ∷ ws) e h = sym h ∙ last_behind us w ws ∙ sym (last_behind vs w ws)

-- ---- two parts of a block's list

-- the operations us and vs are of the block b and are linked, where n comes behind us, and p before vs
record Halves (links : List Link) (b : ℕ) (us vs : List OpRef) (n p : Option OpRef) : Type 0 where
  front : Strand links None us n
  back : Strand links p vs None
  ours_us : AllOf links b us
  ours_vs : AllOf links b vs
  apart : Apart us vs

other_than : (op o : OpRef) (xs : List OpRef) → (Has op.0 xs → ⊥) → Has o.0 xs → ¬ (o.0 ≡ op.0)
other_than op o xs fresh k same = let P : ℕ → Type 0 = λ n. Has n xs in fresh (subst P same k)

halves_tied : (links others : List Link) (b : ℕ) (us vs : List OpRef) (n p new_n new_p : Option OpRef) (op : OpRef) (x : Link) → Tied links others (last_of us) (slice_get vs 0) new_n new_p op x → (Has op.0 us → ⊥) → (Has op.0 vs → ⊥) → Halves links b us vs n p → Halves others b us vs new_n new_p
halves_tied links others b us vs n p new_n new_p op x t not_us not_vs h = record {
  front = strand_after links others None us n new_n h.apart.front (λ o k. t.prevs o (in_us o k) (λ e. h.apart.across o.0 k (first_has vs o e))) (λ o k not. t.nexts o (in_us o k) not) t.to_next h.front;
  back = strand_before links others p new_p vs None h.apart.back (λ o k. t.nexts o (in_vs o k) (λ e. h.apart.across o.0 (last-has us o e) k)) (λ o k not. t.prevs o (in_vs o k) not) t.to_prev h.back;
  ours_us = AllOf-same links others b us (λ o k. t.blocks o (in_us o k)) h.ours_us;
  ours_vs = AllOf-same links others b vs (λ o k. t.blocks o (in_vs o k)) h.ours_vs;
  apart = h.apart;
}
  where
    in_us : (o : OpRef) → Has o.0 us → ¬ (o.0 ≡ op.0)
    in_us o k = other_than op o us not_us k

    in_vs : (o : OpRef) → Has o.0 vs → ¬ (o.0 ≡ op.0)
    in_vs o k = other_than op o vs not_vs k

-- a list of a block by its strand and its ends
listed_by : (links : List Link) (b : ℕ) (f : Option Ends) (xs : List OpRef) → Strand links None xs None → AllOf links b xs → AllApart xs → HasEnds f xs → IsListOf links b f xs
listed_by links b f xs s ours apart e =
    let P : Option OpRef → Type 0 = λ o. IsChain links o xs in
    record {
      chain = subst P (head_is xs ∙ e.first) (chain_of links None xs s);
      back = back_of links None xs None s;
      ours = ours;
      apart = apart;
      last = e.last;
    }

pub its_ends : (links : List Link) (b : ℕ) (e : Option Ends) (xs : List OpRef) → IsListOf links b e xs → HasEnds e xs
its_ends links b e [] h = record { first = sym h.chain; last = h.last }
its_ends links b e (x ∷ xs) h = record { first = sym h.chain.0; last = h.last }

-- an operation that is none of those that were written has the link that it had
unwritten : (links others : List Link) (us vs : List OpRef) (n p : Option OpRef) (op : OpRef) (x : Link) → Tied links others (last_of us) (slice_get vs 0) n p op x → (o : OpRef) → ¬ (o.0 ≡ op.0) → (Has o.0 us → ⊥) → (Has o.0 vs → ⊥) → Same links others o
unwritten links others us vs n p op x t o apart not_us not_vs = record {
  next = t.nexts o apart (λ e. not_us (last-has us o e));
  prev = t.prevs o apart (λ e. not_vs (first_has vs o e));
  block = t.blocks o apart;
}

-- ---- an operation comes between us and vs

module _ (links others : List Link) (b : BlockRef) (e : Option Ends) (us vs : List OpRef) (op : OpRef) (h : IsListOf links b.0 e (us ++ vs)) (free : block_at links op ≡ None) (fresh : Has op.0 (us ++ vs) → ⊥)
    (t : Tied links others (last_of us) (slice_get vs 0) (Some op) (Some op) op (record { block = Some b; next = slice_get vs 0; prev = last_of us })) where
  strand : Strand links None (us ++ vs) None
  strand = strand_of links _ None (us ++ vs) h.chain h.back

  not_us : Has op.0 us → ⊥
  not_us k = fresh (has_front op.0 us vs k)

  not_vs : Has op.0 vs → ⊥
  not_vs k = fresh (has_back op.0 us vs k)

  halves : Halves others b.0 us vs (Some op) (Some op)
  halves = halves_tied links others b.0 us vs (head_or vs None) (last_or None us) (Some op) (Some op) op _ t not_us not_vs (record {
    front = strand_front links None us vs None strand;
    back = strand_back links None us vs None strand;
    ours_us = ours_front links b.0 us vs h.ours;
    ours_vs = ours_back links b.0 us vs h.ours;
    apart = apart_split us vs h.apart;
  })

  its_strand : Strand others (last_or None us) (op ∷ vs) None
  its_strand = (
    ap (option_and_then (λ (x : Link). x.prev)) t.its_link ∙ sym (last_is us),
    ap (option_and_then (λ (x : Link). x.next)) t.its_link ∙ sym (head_is vs),
    halves.back,
  )

  its_block : block_at others op ≡ Some b
  its_block = ap (option_and_then (λ (x : Link). x.block)) t.its_link

  abbrev ends_with : Option Ends
  ends_with = ends_of (first_end e (last_of us) (Some op)) (last_end e (slice_get vs 0) (Some op))

  were : HasEnds e (us ++ vs)
  were = its_ends links b.0 e (us ++ vs) h

  first_with : first_end e (last_of us) (Some op) ≡ slice_get (us ++ op ∷ vs) 0
  first_with = first_new us vs (op ∷ vs) e were.first

  last_with : last_end e (slice_get vs 0) (Some op) ≡ last_of (us ++ op ∷ vs)
  last_with =
      ap (last_end e (slice_get vs 0)) (sym (last_of-append us op))
      ∙ last_new us (us ++ op ∷ []) vs e were.last
      ∙ ap last_of (append_assoc us (op ∷ []) vs)

  has_ends_with : HasEnds ends_with (us ++ op ∷ vs)
  has_ends_with =
      let P : Option OpRef → Type 0 = λ o. HasEnds (ends_of o (last_end e (slice_get vs 0) (Some op))) (us ++ op ∷ vs) in
      let Q : Option OpRef → Type 0 = λ o. HasEnds (ends_of (slice_get (us ++ op ∷ vs) 0) o) (us ++ op ∷ vs) in
      subst P (sym first_with) (subst Q (sym last_with) (ends_are (us ++ op ∷ vs)))

  its_list : IsListOf others b.0 ends_with (us ++ op ∷ vs)
  its_list =
      listed_by others b.0 ends_with (us ++ op ∷ vs)
      (strand_join others None us (op ∷ vs) None halves.front its_strand)
      (ours_join others b.0 us (op ∷ vs) halves.ours_us (its_block, halves.ours_vs))
      (apart_join us (op ∷ vs) (apart_grown us vs op halves.apart not_us not_vs))
      has_ends_with

  among : (o : OpRef) → Has o.0 (us ++ vs) → Has o.0 (us ++ op ∷ vs)
  among o k = elim (has_either o.0 us vs k) [ inl a ↦ has_front o.0 us (op ∷ vs) a | inr c ↦ has_back o.0 us (op ∷ vs) (inr c) ]

  new_is : (o : OpRef) → Has o.0 (us ++ op ∷ vs) → (Has o.0 (us ++ vs) → ⊥) → op.0 ≡ o.0
  new_is o k not = elim (has_either o.0 us (op ∷ vs) k) [
    | inl a ↦ absurd (not (has_front o.0 us vs a))
    | inr c ↦ elim c [ inl here ↦ here | inr there ↦ absurd (not (has_back o.0 us vs there)) ]
  ]

  pub placed_list : Relisted links others b ends_with (us ++ vs) (us ++ op ∷ vs)
  placed_list = record {
    same_length = t.same_length;
    here = its_list;
    kept = λ o not_before not_after. unwritten links others us vs (Some op) (Some op) op _ t o (λ same. not_after (has_back o.0 us (op ∷ vs) (inl (sym same)))) (λ k. not_before (has_front o.0 us vs k)) (λ k. not_before (has_back o.0 us vs k));
    fresh = λ o k not. ap (λ (n : ℕ). option_and_then (λ (x : Link). x.block) (slice_get links n)) (sym (new_is o k not)) ∙ free;
    gone = λ o k not. absurd (not (among o k));
  }

-- ---- an operation between us and vs goes

module _ (links others : List Link) (b : BlockRef) (e : Option Ends) (us vs : List OpRef) (op : OpRef) (h : IsListOf links b.0 e (us ++ op ∷ vs))
    (t : Tied links others (last_of us) (slice_get vs 0) (slice_get vs 0) (last_of us) op free_link) where
  whole : Strand links None (us ++ op ∷ vs) None
  whole = strand_of links _ None (us ++ op ∷ vs) h.chain h.back

  parts : Apart us (op ∷ vs)
  parts = apart_split us (op ∷ vs) h.apart

  out_us : Has op.0 us → ⊥
  out_us k = parts.across op.0 k (inl refl)

  out_vs : Has op.0 vs → ⊥
  out_vs k = parts.back.0 k

  rest : Halves others b.0 us vs (slice_get vs 0) (last_of us)
  rest = halves_tied links others b.0 us vs (Some op) (Some op) (slice_get vs 0) (last_of us) op free_link t out_us out_vs (record {
    front = strand_front links None us (op ∷ vs) None whole;
    back = (strand_back links None us (op ∷ vs) None whole).2;
    ours_us = ours_front links b.0 us (op ∷ vs) h.ours;
    ours_vs = (ours_back links b.0 us (op ∷ vs) h.ours).1;
    apart = apart_shrunk us vs op parts;
  })

  abbrev ends_without : Option Ends
  ends_without = ends_of (first_end e (last_of us) (slice_get vs 0)) (last_end e (slice_get vs 0) (last_of us))

  had : HasEnds e (us ++ op ∷ vs)
  had = its_ends links b.0 e (us ++ op ∷ vs) h

  first_without : first_end e (last_of us) (slice_get vs 0) ≡ slice_get (us ++ vs) 0
  first_without = first_new us (op ∷ vs) vs e had.first

  last_without : last_end e (slice_get vs 0) (last_of us) ≡ last_of (us ++ vs)
  last_without = last_new (us ++ op ∷ []) us vs e (ap last_of (append_assoc us (op ∷ []) vs) ∙ had.last)

  has_ends_without : HasEnds ends_without (us ++ vs)
  has_ends_without =
      let P : Option OpRef → Type 0 = λ o. HasEnds (ends_of o (last_end e (slice_get vs 0) (last_of us))) (us ++ vs) in
      let Q : Option OpRef → Type 0 = λ o. HasEnds (ends_of (slice_get (us ++ vs) 0) o) (us ++ vs) in
      subst P (sym first_without) (subst Q (sym last_without) (ends_are (us ++ vs)))

  rest_strand : Strand others None (us ++ vs) None
  rest_strand =
      let P : Option OpRef → Type 0 = λ o. Strand others None us o in
      let Q : Option OpRef → Type 0 = λ o. Strand others o vs None in
      strand_join others None us vs None (subst P (sym (head_is vs)) rest.front) (subst Q (sym (last_is us)) rest.back)

  rest_list : IsListOf others b.0 ends_without (us ++ vs)
  rest_list = listed_by others b.0 ends_without (us ++ vs) rest_strand (ours_join others b.0 us vs rest.ours_us rest.ours_vs) (apart_join us vs rest.apart) has_ends_without

  still : (o : OpRef) → Has o.0 (us ++ vs) → Has o.0 (us ++ op ∷ vs)
  still o k = elim (has_either o.0 us vs k) [ inl a ↦ has_front o.0 us (op ∷ vs) a | inr c ↦ has_back o.0 us (op ∷ vs) (inr c) ]

  old_is : (o : OpRef) → Has o.0 (us ++ op ∷ vs) → (Has o.0 (us ++ vs) → ⊥) → op.0 ≡ o.0
  old_is o k not = elim (has_either o.0 us (op ∷ vs) k) [
    | inl a ↦ absurd (not (has_front o.0 us vs a))
    | inr c ↦ elim c [ inl here ↦ here | inr there ↦ absurd (not (has_back o.0 us vs there)) ]
  ]

  pub left_list : Relisted links others b ends_without (us ++ op ∷ vs) (us ++ vs)
  left_list = record {
    same_length = t.same_length;
    here = rest_list;
    kept = λ o not_before not_after. unwritten links others us vs (slice_get vs 0) (last_of us) op free_link t o (λ same. not_before (has_back o.0 us (op ∷ vs) (inl (sym same)))) (λ k. not_after (has_front o.0 us vs k)) (λ k. not_after (has_back o.0 us vs k));
    fresh = λ o k not. absurd (not (still o k));
    gone = λ o k not. ap (slice_get others) (sym (old_is o k not)) ∙ t.its_link;
  }
