-- What the links answer of a block's first operation and of the operations after and before another.
use Rattle.std.proofs.Common.{◌≡◌, ◌<◌, ℕ, Bool, true, false, nat_eq, if◌then◌else◌, List, [], ◌∷◌, Option, Some, None, length, slice_get, get_or, ap, sym, subst, ◌∙◌, refl, inl, inr, arith}
use Rattle.std.specs.Option.{option_map, option_and_then, IfSome}
use Rattle.std.specs.Prelude.{unwrap_or}
use Rattle.std.proofs.lemmas.Option.{slice_get-get_or, slice_get-map, slice_get_within, get_or_from_slice_get, unwrap_or-slice_get}
use Rattle.std.proofs.lemmas.List.{length-map}
use Rattle.dialect_core.specs.declared.numbers.OpRef.{OpRef}
use Rattle.dialect_core.specs.declared.numbers.BlockRef.{BlockRef}
use Rattle.dialect_core.specs.declared.lists.Link.{Link}
use Rattle.dialect_core.specs.declared.lists.Ends.{Ends}
use Rattle.dialect_core.specs.Lists.{Lists, list_at, next_of, next_in, prev_from, prev_of, prev_in, Has, AllApart}
use Rattle.dialect_core.specs.Links.{parents_of, lists_of, list_from, block_at, next_at, prev_at, IsChain, IsBackChain, AllOf, IsAttached, IsLinked}
use Rattle.dialect_core.proofs.ChainLemmas.{same_op, next-chain, block_within}

-- lists by their parts
abbrev pub listed : List (Option BlockRef) → List (List OpRef) → Lists
listed parents lists = record { parents = parents; lists = lists }

pub listed_same : (p q : List (Option BlockRef)) (l m : List (List OpRef)) → p ≡ q → l ≡ m → listed p l ≡ listed q m
listed_same p q l m e f = cc

-- the block of an operation, as the list of blocks says it
pub parent_at : (links : List Link) (op : OpRef) (p : Option BlockRef) → slice_get (parents_of links) op.0 ≡ Some p → (block_at links op ≡ p) × (op.0 < length links)
parent_at links op p h = by (slice_get links op.0) refl
  where
    by : (y : Option Link) → slice_get links op.0 ≡ y → (block_at links op ≡ p) × (op.0 < length links)
    by None gone = let e = sym (slice_get-map (λ (x : Link). x.block) links op.0) ∙ h in let no = sym (ap (option_map (λ (x : Link). x.block)) gone) ∙ e in absurd (let none : None ≡ Some p = no in cc)
    by (Some y) there =
        let e : Some y.block ≡ Some p = sym (ap (option_map (λ (x : Link). x.block)) there) ∙ sym (slice_get-map (λ (x : Link). x.block) links op.0) ∙ h in
        let same : y.block ≡ p = cc in
        (ap (option_and_then (λ (x : Link). x.block)) there ∙ same, slice_get_within links op.0 y there)

pub block_parent : (links : List Link) (op : OpRef) (b : BlockRef) → block_at links op ≡ Some b → slice_get (parents_of links) op.0 ≡ Some (Some b)
block_parent links op b h = slice_get-map (λ (x : Link). x.block) links op.0 ∙ by (slice_get links op.0) h
  where
    by : (y : Option Link) → option_and_then (λ (x : Link). x.block) y ≡ Some b → option_map (λ (x : Link). x.block) y ≡ Some (Some b)
    by None e = cc
    by (Some y) e = ap Some e

-- the first of a chain
first_of_chain : (links : List Link) (s : Option OpRef) (xs : List OpRef) → IsChain links s xs → slice_get xs 0 ≡ s
first_of_chain links s [] h = sym h
first_of_chain links s (x ∷ xs) h = sym h.0

-- a block of the lists has its ends
pub block_there : (links : List Link) (ends : List (Option Ends)) (b : ℕ) → b < length (lists_of links ends) → b < length ends
block_there links ends b h = omega (arith, length-map ends (list_from links))

pub first_is : (links : List Link) (ends : List (Option Ends)) (b : BlockRef) (e : Option Ends) → IsLinked links ends → b.0 < length (lists_of links ends) → e ≡ get_or ends b.0 e → option_map (λ (e : Ends). e.first) e ≡ slice_get (list_at (lists_of links ends) b) 0
first_is links ends b e h within e_is =
    let at : slice_get ends b.0 ≡ Some e = slice_get-get_or ends b.0 e (block_there links ends b.0 within) ∙ ap Some (sym e_is) in
    let list = get_or_from_slice_get (lists_of links ends) b.0 (list_from links e) [] (slice_get-map (list_from links) ends b.0 ∙ ap (option_map (list_from links)) at) in
    sym (ap (λ (xs : List OpRef). slice_get xs 0) list ∙ first_of_chain links (option_map (λ (e : Ends). e.first) e) (list_from links e) (h.chains b.0 e at).chain)

-- no operation stands twice in a block
pub apart_there : (links : List Link) (ends : List (Option Ends)) (b : BlockRef) (e : Option Ends) → IsLinked links ends → b.0 < length (lists_of links ends) → e ≡ get_or ends b.0 e → AllApart (list_at (lists_of links ends) b)
apart_there links ends b e h within e_is =
    let at : slice_get ends b.0 ≡ Some e = slice_get-get_or ends b.0 e (block_there links ends b.0 within) ∙ ap Some (sym e_is) in
    let list = get_or_from_slice_get (lists_of links ends) b.0 (list_from links e) [] (slice_get-map (list_from links) ends b.0 ∙ ap (option_map (list_from links)) at) in
    subst AllApart (sym list) (h.chains b.0 e at).apart

-- what a chain begins with is there
begin_within : (links : List Link) (b : ℕ) (s : Option OpRef) (xs : List OpRef) → IsChain links s xs → AllOf links b xs → IfSome s (λ (o : OpRef). o.0 < length links)
begin_within links b None xs h ours = tt
begin_within links b (Some o) [] h ours = absurd (let no : Some o ≡ None = h in cc)
begin_within links b (Some o) (x ∷ xs) h ours =
    let same : o ≡ x = let e = h.0 in cc in
    block_within links o _ (ap (block_at links) same ∙ ours.0)

pub first_within : (links : List Link) (ends : List (Option Ends)) (b : BlockRef) (e : Option Ends) → IsLinked links ends → b.0 < length (lists_of links ends) → e ≡ get_or ends b.0 e → IfSome (option_map (λ (e : Ends). e.first) e) (λ (o : OpRef). o.0 < length (parents_of links))
first_within links ends b e h within e_is =
    let at : slice_get ends b.0 ≡ Some e = slice_get-get_or ends b.0 e (block_there links ends b.0 within) ∙ ap Some (sym e_is) in
    rw (length-map links (λ (x : Link). x.block))
    (begin_within links b.0 (option_map (λ (e : Ends). e.first) e) (list_from links e) (h.chains b.0 e at).chain (h.chains b.0 e at).ours)

-- ---- the operation after another

-- the list of a block that is there
list_there : (links : List Link) (ends : List (Option Ends)) (b : BlockRef) → b.0 < length ends → list_at (lists_of links ends) b ≡ list_from links (get_or ends b.0 None)
list_there links ends b within =
    get_or_from_slice_get (lists_of links ends) b.0 (list_from links (get_or ends b.0 None)) []
    (slice_get-map (list_from links) ends b.0 ∙ ap (option_map (list_from links)) (slice_get-get_or ends b.0 None within))

parent_is : (links : List Link) (op : OpRef) → option_and_then (λ (p : Option BlockRef). p) (slice_get (parents_of links) op.0) ≡ block_at links op
parent_is links op = ap (option_and_then (λ (p : Option BlockRef). p)) (slice_get-map (λ (x : Link). x.block) links op.0) ∙ by (slice_get links op.0)
  where
    by : (o : Option Link) → option_and_then (λ (p : Option BlockRef). p) (option_map (λ (x : Link). x.block) o) ≡ option_and_then (λ (x : Link). x.block) o
    by None = refl
    by (Some x) = refl

pub next_is : (links : List Link) (ends : List (Option Ends)) (op : OpRef) → IsLinked links ends → next_in (listed (parents_of links) (lists_of links ends)) op ≡ next_at links op
next_is links ends op h =
    ap (option_and_then (λ (b : BlockRef). next_of op.0 (list_at (lists_of links ends) b))) (parent_is links op) ∙ by (block_at links op) (h.attached op)
  where
    by : (p : Option BlockRef) → IsAttached links ends op p → option_and_then (λ (b : BlockRef). next_of op.0 (list_at (lists_of links ends) b)) p ≡ next_at links op
    by None at = sym at.0
    by (Some b) at =
        let e = get_or ends b.0 None in
        let l = h.chains b.0 e (slice_get-get_or ends b.0 None at.0) in
        ap (next_of op.0) (list_there links ends b at.0) ∙ next-chain links (option_map (λ (e : Ends). e.first) e) (list_from links e) op l.chain at.1

-- what comes after an operation of a block is there
after_within : (links : List Link) (b : ℕ) (xs : List OpRef) (n : ℕ) → AllOf links b xs → IfSome (next_of n xs) (λ (o : OpRef). o.0 < length links)
after_within links b [] n ours = tt
after_within links b (x ∷ xs) n ours = by (nat_eq x.0 n) (after_within links b xs n ours.1)
  where
    first : (ys : List OpRef) → AllOf links b ys → IfSome (slice_get ys 0) (λ (o : OpRef). o.0 < length links)
    first [] h = tt
    first (y ∷ ys) h = block_within links y _ h.0

    by : (t : Bool) → IfSome (next_of n xs) (λ (o : OpRef). o.0 < length links) → IfSome (if t then slice_get xs 0 else next_of n xs) (λ (o : OpRef). o.0 < length links)
    by true later = first xs ours.1
    by false later = later

pub next_within : (links : List Link) (ends : List (Option Ends)) (op : OpRef) → IsLinked links ends → IfSome (next_at links op) (λ (o : OpRef). o.0 < length (parents_of links))
next_within links ends op h = rw length-map (by (block_at links op) (h.attached op))
  where
    by : (p : Option BlockRef) → IsAttached links ends op p → IfSome (next_at links op) (λ (o : OpRef). o.0 < length links)
    by None at = rw at.0 tt
    by (Some b) at =
        let e = get_or ends b.0 None in
        let l = h.chains b.0 e (slice_get-get_or ends b.0 None at.0) in
        rw (← next-chain links (option_map (λ (e : Ends). e.first) e) (list_from links e) op l.chain at.1) (after_within links b.0 (list_from links e) op.0 l.ours)

-- the link of an operation that is there
link_is : (links : List Link) (op : OpRef) (x : Link) → op.0 < length (parents_of links) → x ≡ get_or links op.0 x → next_at links op ≡ x.next
link_is links op x there is_x =
    ap (option_and_then (λ (x : Link). x.next)) (slice_get-get_or links op.0 x (omega (arith, length-map links (λ (x : Link). x.block))) ∙ ap Some (sym is_x))

pub read_next : (links : List Link) (ends : List (Option Ends)) (op : OpRef) (x : Link) → IsLinked links ends → op.0 < length (parents_of links) → x ≡ get_or links op.0 x → x.next ≡ next_in (listed (parents_of links) (lists_of links ends)) op
read_next links ends op x h there is_x = sym (next_is links ends op h ∙ link_is links op x there is_x)

pub read_within : (links : List Link) (ends : List (Option Ends)) (op : OpRef) (x : Link) → IsLinked links ends → op.0 < length (parents_of links) → x ≡ get_or links op.0 x → IfSome x.next (λ (o : OpRef). o.0 < length (parents_of links))
read_within links ends op x h there is_x = rw (← link_is links op x there is_x) (next_within links ends op h)

-- ---- the operation before another

-- the previous of an operation of a chain
prev_chain : (links : List Link) (p : Option OpRef) (xs : List OpRef) (op : OpRef) → IsBackChain links p xs → Has op.0 xs → prev_from p op.0 xs ≡ prev_at links op
prev_chain links p [] op h k = absurd k
prev_chain links p (x ∷ xs) op h k = by (nat_eq x.0 op.0) refl (λ there. prev_chain links (Some x) xs op h.1 there)
  where
    by : (t : Bool) → nat_eq x.0 op.0 ≡ t → (Has op.0 xs → prev_from (Some x) op.0 xs ≡ prev_at links op) → (if t then p else prev_from (Some x) op.0 xs) ≡ prev_at links op
    by true e later = sym h.0 ∙ ap (prev_at links) (same_op x op (grind (arith, e)))
    by false e later = later (elim k [ inl here ↦ absurd (grind (arith, e, here)) | inr there ↦ there ])

prev_is : (links : List Link) (ends : List (Option Ends)) (op : OpRef) → IsLinked links ends → prev_in (listed (parents_of links) (lists_of links ends)) op ≡ prev_at links op
prev_is links ends op h =
    ap (option_and_then (λ (b : BlockRef). prev_of op.0 (list_at (lists_of links ends) b))) (parent_is links op) ∙ by (block_at links op) (h.attached op)
  where
    by : (p : Option BlockRef) → IsAttached links ends op p → option_and_then (λ (b : BlockRef). prev_of op.0 (list_at (lists_of links ends) b)) p ≡ prev_at links op
    by None at = sym at.1
    by (Some b) at =
        let e = get_or ends b.0 None in
        let l = h.chains b.0 e (slice_get-get_or ends b.0 None at.0) in
        ap (prev_of op.0) (list_there links ends b at.0) ∙ prev_chain links None (list_from links e) op l.back at.1

-- what comes before an operation of a block is there
before_within : (links : List Link) (b : ℕ) (p : Option OpRef) (xs : List OpRef) (n : ℕ) → IfSome p (λ (o : OpRef). o.0 < length links) → AllOf links b xs → IfSome (prev_from p n xs) (λ (o : OpRef). o.0 < length links)
before_within links b p [] n there ours = tt
before_within links b p (x ∷ xs) n there ours = by (nat_eq x.0 n) (before_within links b (Some x) xs n (block_within links x _ ours.0) ours.1)
  where
    by : (t : Bool) → IfSome (prev_from (Some x) n xs) (λ (o : OpRef). o.0 < length links) → IfSome (if t then p else prev_from (Some x) n xs) (λ (o : OpRef). o.0 < length links)
    by true later = there
    by false later = later

prev_within : (links : List Link) (ends : List (Option Ends)) (op : OpRef) → IsLinked links ends → IfSome (prev_at links op) (λ (o : OpRef). o.0 < length (parents_of links))
prev_within links ends op h = rw length-map (by (block_at links op) (h.attached op))
  where
    by : (p : Option BlockRef) → IsAttached links ends op p → IfSome (prev_at links op) (λ (o : OpRef). o.0 < length links)
    by None at = rw at.1 tt
    by (Some b) at =
        let e = get_or ends b.0 None in
        let l = h.chains b.0 e (slice_get-get_or ends b.0 None at.0) in
        rw (← prev_chain links None (list_from links e) op l.back at.1) (before_within links b.0 None (list_from links e) op.0 tt l.ours)

prev_link : (links : List Link) (op : OpRef) (x : Link) → op.0 < length (parents_of links) → x ≡ get_or links op.0 x → prev_at links op ≡ x.prev
prev_link links op x there is_x =
    ap (option_and_then (λ (x : Link). x.prev)) (slice_get-get_or links op.0 x (omega (arith, length-map links (λ (x : Link). x.block))) ∙ ap Some (sym is_x))

pub read_prev : (links : List Link) (ends : List (Option Ends)) (op : OpRef) (x : Link) → IsLinked links ends → op.0 < length (parents_of links) → x ≡ get_or links op.0 x → x.prev ≡ prev_in (listed (parents_of links) (lists_of links ends)) op
read_prev links ends op x h there is_x = sym (prev_is links ends op h ∙ prev_link links op x there is_x)

pub read_prev_within : (links : List Link) (ends : List (Option Ends)) (op : OpRef) (x : Link) → IsLinked links ends → op.0 < length (parents_of links) → x ≡ get_or links op.0 x → IfSome x.prev (λ (o : OpRef). o.0 < length (parents_of links))
read_prev_within links ends op x h there is_x = rw (← prev_link links op x there is_x) (prev_within links ends op h)

-- ---- all operations and blocks

-- an operation with a block stands in its list
pub all_listed : (links : List Link) (ends : List (Option Ends)) → IsLinked links ends → (o : OpRef) (b : BlockRef) → slice_get (parents_of links) o.0 ≡ Some (Some b) → Has o.0 (list_at (lists_of links ends) b)
all_listed links ends h o b at =
    let block : block_at links o ≡ Some b = sym (parent_is links o) ∙ ap (option_and_then (λ (p : Option BlockRef). p)) at in
    let there = subst (IsAttached links ends o) block (h.attached o) in
    subst (Has o.0) (sym (list_there links ends b there.0)) there.1

-- no list has an operation twice
pub all_apart : (links : List Link) (ends : List (Option Ends)) → IsLinked links ends → (b : BlockRef) → AllApart (list_at (lists_of links ends) b)
all_apart links ends h b = by (slice_get (lists_of links ends) b.0) refl
  where
    by : (xs : Option (List OpRef)) → slice_get (lists_of links ends) b.0 ≡ xs → AllApart (list_at (lists_of links ends) b)
    by None gone = subst AllApart (sym (sym (unwrap_or-slice_get (lists_of links ends) b.0 []) ∙ ap (λ (xs : Option (List OpRef)). unwrap_or xs []) gone)) tt
    by (Some xs) at =
        let within = block_there links ends b.0 (slice_get_within (lists_of links ends) b.0 xs at) in
        subst AllApart (sym (list_there links ends b within)) (h.chains b.0 (get_or ends b.0 None) (slice_get-get_or ends b.0 None within)).apart
