-- Counts in lists of numbers, and the lists of where edges come from.
use Rattle.std.proofs.Common.{◌≡◌, ◌≢◌, ◌<◌, ◌≤◌, ◌+◌, ℕ, zero, suc, Bool, true, false, nat_eq, nat_lt, if◌then◌else◌, List, [], ◌∷◌, ◌++◌, Option, None, Some, length, slice_get, slice_set, map, take, get_or, sym, ap, ◌∙◌, refl, subst, arith, inl, inr, eq-eqb, All}
use Rattle.std.specs.List.{filter, flat_map}
use Rattle.std.specs.Option.{option_map, option_map_or}
use Rattle.std.proofs.lemmas.Bool.{eqb-true, cases_eq, cases_order}
use Rattle.std.proofs.lemmas.List.{append-nil, take_more}
use Rattle.std.proofs.lemmas.List.Concat.{flat_map-append}
use Rattle.std.proofs.lemmas.List.Elements.{All-nil, All-cons, All-head, All-tail, All-map}
use Rattle.std.proofs.lemmas.Option.{slice_get_within, get_or_from_slice_get}
use Rattle.llvm_core.specs.declared.numbers.LLVMBasicBlock.{LLVMBasicBlock}
use Rattle.llvm_core.specs.declared.code.LLVMInst.{LLVMInst}
use Rattle.llvm_core.specs.declared.code.LLVMInst.TheVariants as I
use Rattle.llvm_core.specs.declared.code.BlockData.{BlockData}
use Rattle.llvm_core.specs.declared.code.InstData.{InstData}
use Rattle.llvm_core.specs.declared.numbers.LLVMInstRef.{LLVMInstRef}
use Rattle.llvm_core.specs.Module.{Module}
use Rattle.llvm_core.specs.Parts.{HasValues}
use Rattle.llvm_core.specs.Edges.{count_of, targets, targets_at, targets_from, edge_count, tally, Gains}
use Rattle.support.proofs.ListLaws.{slice_get-push_cases, slice_get-set_same, slice_get-set_other, length-slice_set, item_there}

-- ---- counts

-- one at n where that number is counted
abbrev pub one_if : Bool → ℕ
one_if b = if b then 1 else 0

abbrev pub one_at : ℕ → ℕ → ℕ
one_at n x = one_if (nat_eq n x)

pub count-cons : (n x : ℕ) (xs : List ℕ) → count_of n (x ∷ xs) ≡ one_at n x + count_of n xs
count-cons n x xs = by (nat_eq n x)
  where
    by : (b : Bool) → length (if b then x ∷ filter (nat_eq n) xs else filter (nat_eq n) xs) ≡ one_if b + count_of n xs
    by true = omega arith
    by false = omega arith

pub count-append : (n : ℕ) (xs ys : List ℕ) → count_of n (xs ++ ys) ≡ count_of n xs + count_of n ys
count-append n [] ys = omega arith
count-append n (x ∷ xs) ys = omega (arith, count-cons n x (xs ++ ys), count-cons n x xs, count-append n xs ys)

pub one_here : (n x : ℕ) → n ≡ x → one_at n x ≡ 1
one_here n x e = ap one_if (eq-eqb n x e)

pub one_other : (n x : ℕ) → n ≢ x → one_at n x ≡ 0
one_other n x ne = by (nat_eq n x) refl
  where
    by : (b : Bool) → nat_eq n x ≡ b → one_if b ≡ 0
    by false e = refl
    by true e = absurd (ne (eqb-true n x e))

-- ---- lists that gain

-- a number where it is asked for, or nothing
abbrev only_if : Bool → ℕ → ℕ
only_if b n = if b then n else 0

abbrev gain : ℕ → ℕ → ℕ → ℕ
gain q p n = only_if (nat_eq q p) n

gain-add : (q p a b : ℕ) → gain q p (a + b) ≡ gain q p a + gain q p b
gain-add q p a b = by (nat_eq q p)
  where
    by : (c : Bool) → only_if c (a + b) ≡ only_if c a + only_if c b
    by true = refl
    by false = omega arith

gain-none : (q p : ℕ) → gain q p 0 ≡ 0
gain-none q p = by (nat_eq q p)
  where
    by : (c : Bool) → only_if c 0 ≡ 0
    by true = refl
    by false = refl

pub gains_nothing : (ls : List (List ℕ)) (p : ℕ) → Gains ls ls p []
gains_nothing ls p = record { len = refl; more = λ q b. omega (arith, gain-none q p) }

pub gains_both : (a b c : List (List ℕ)) (p : ℕ) (ts us : List ℕ) → Gains a b p ts → Gains b c p us → Gains a c p (ts ++ us)
gains_both a b c p ts us g h = record {
  len = h.len ∙ g.len;
  more = λ q t.
      let whole : gain q p (count_of t (ts ++ us)) ≡ gain q p (count_of t ts) + gain q p (count_of t us) = ap (gain q p) (count-append t ts us) ∙ gain-add q p (count_of t ts) (count_of t us) in
      omega (arith, g.more q t, h.more q t, whole);
}

-- the targets of one more instruction
pub gains_next : {X : Type 0} (a b c : List (List ℕ)) (p : ℕ) (f : X → List ℕ) (xs : List X) (i : ℕ) (x : X) → slice_get xs i ≡ Some x → Gains a b p (flat_map f (take i xs)) → Gains b c p (f x)
    → Gains a c p (flat_map f (take (i + 1) xs))
gains_next a b c p f xs i x at g h =
    let more : flat_map f (take (i + 1) xs) ≡ flat_map f (take i xs) ++ f x =
    (ap (flat_map f) (take_more xs i x (slice_get_within xs i x at)) ∙ flat_map-append f (take i xs) (get_or xs i x ∷ [])
    ∙ ap (λ y. flat_map f (take i xs) ++ (f y ++ [])) (get_or_from_slice_get xs i x x at) ∙ ap (λ ys. flat_map f (take i xs) ++ ys) (append-nil (f x))) in
    subst (Gains a c p) (sym more) (gains_both a b c p (flat_map f (take i xs)) (f x) g h)

-- the list of the target t gets the number p last
module _ (ls : List (List ℕ)) (p t : ℕ) (l : List ℕ) (at : slice_get ls t ≡ Some l) where
  abbrev pushed : List (List ℕ)
  pushed = slice_set ls t (l ++ p ∷ [])

  abbrev tallied : ℕ → Option (List ℕ) → ℕ
  tallied q o = count_of q (option_map_or (λ (l : List ℕ). l) o [])

  at_target : (q b : ℕ) → b ≡ t → tally pushed q b ≡ tally ls q b + gain q p (count_of b (t ∷ []))
  at_target q b here =
      let now : tally pushed q b ≡ count_of q (l ++ p ∷ []) = ap (tallied q) (ap (slice_get pushed) here ∙ slice_get-set_same ls t l (l ++ p ∷ []) at) in
      let before : tally ls q b ≡ count_of q l = ap (tallied q) (ap (slice_get ls) here ∙ at) in
      let one : count_of b (t ∷ []) ≡ 1 = omega (arith, count-cons b t [], one_here b t here) in
      let more : gain q p (count_of b (t ∷ [])) ≡ one_at q p = ap (gain q p) one in
      omega (arith, now, before, more, count-append q l (p ∷ []), count-cons q p [])

  at_other : (q b : ℕ) → b ≢ t → tally pushed q b ≡ tally ls q b + gain q p (count_of b (t ∷ []))
  at_other q b other =
      let now : tally pushed q b ≡ tally ls q b = ap (tallied q) (slice_get-set_other ls t b (l ++ p ∷ []) other) in
      let none : count_of b (t ∷ []) ≡ 0 = omega (arith, count-cons b t [], one_other b t other) in
      let more : gain q p (count_of b (t ∷ [])) ≡ 0 = ap (gain q p) none ∙ gain-none q p in
      omega (arith, now, more)

  pub gains_one : Gains ls pushed p (t ∷ [])
  gains_one = record { len = length-slice_set ls t (l ++ p ∷ []); more = λ q b. elim (cases_eq b t) [ inl here ↦ at_target q b here | inr other ↦ at_other q b other ] }

-- the same where the list was read by its place
pub gains_pushed : (ls : List (List ℕ)) (p t : ℕ) (d new : List ℕ) → t < length ls → new ≡ get_or ls t d ++ p ∷ [] → Gains ls (slice_set ls t new) p (t ∷ [])
gains_pushed ls p t d new lt last =
    let h = item_there ls t lt in
    rw (last, get_or_from_slice_get ls t h.0 d h.1) (gains_one ls p t h.0 h.1)

-- lists without numbers tally nothing, also with one more of them
pub tally_none : (ls : List (List ℕ)) (l : List ℕ) → ((p b : ℕ) → tally ls p b ≡ 0) → l ≡ [] → (p b : ℕ) → tally (ls ++ l ∷ []) p b ≡ 0
tally_none ls l none empty p b = by (slice_get (ls ++ l ∷ []) b) refl
  where
    by : (o : Option (List ℕ)) → slice_get (ls ++ l ∷ []) b ≡ o → count_of p (option_map_or (λ (l : List ℕ). l) o []) ≡ 0
    by None e = refl
    by (Some k) e = elim (slice_get-push_cases ls l b k e) [
      | inl old ↦ ap (λ o. count_of p (option_map_or (λ (l : List ℕ). l) o [])) (sym old) ∙ none p b
      | inr new ↦ ap (count_of p) (new.1 ∙ empty)
    ]

-- ---- all edges of a module

-- the tally after the blocks below n
abbrev pub edges_below : Module → (n p b : ℕ) → ℕ
edges_below m n p b = only_if (nat_lt p n) (edge_count m p b)

is_below : (p n c : ℕ) → p < n → only_if (nat_lt p n) c ≡ c
is_below p n c lt = by (nat_lt p n) refl
  where
    by : (b : Bool) → nat_lt p n ≡ b → only_if b c ≡ c
    by true e = refl
    by false e = absurd (grind arith)

not_below : (p n c : ℕ) → n ≤ p → only_if (nat_lt p n) c ≡ 0
not_below p n c le = by (nat_lt p n) refl
  where
    by : (b : Bool) → nat_lt p n ≡ b → only_if b c ≡ 0
    by false e = refl
    by true e = absurd (grind arith)

pub none_below : (m : Module) (p b : ℕ) → edges_below m 0 p b ≡ 0
none_below m p b = not_below p 0 (edge_count m p b) (omega arith)

gain_other : (q p n : ℕ) → q ≢ p → gain q p n ≡ 0
gain_other q p n ne = by (nat_eq q p) refl
  where
    by : (b : Bool) → nat_eq q p ≡ b → only_if b n ≡ 0
    by false e = refl
    by true e = absurd (ne (eqb-true q p e))

module _ (m : Module) (ls new : List (List ℕ)) (n : ℕ) (before : (p b : ℕ) → tally ls p b ≡ edges_below m n p b) (g : Gains ls new n (targets_from m n)) where
  next_here : (p b : ℕ) → p ≡ n → tally new p b ≡ edges_below m (n + 1) p b
  next_here p b here =
      let gained : gain p n (edge_count m n b) ≡ edge_count m p b = ap (λ (c : Bool). only_if c (edge_count m n b)) (eq-eqb p n here) ∙ ap (λ (k : ℕ). edge_count m k b) (sym here) in
      let old = not_below p n (edge_count m p b) (omega (arith, here)) in
      let now = is_below p (n + 1) (edge_count m p b) (omega (arith, here)) in
      omega (arith, g.more p b, before p b, gained, old, now)

  next_below : (p b : ℕ) → p < n → tally new p b ≡ edges_below m (n + 1) p b
  next_below p b below =
      let gained = gain_other p n (edge_count m n b) (λ e. absurd (omega (arith, e, below))) in
      let old = is_below p n (edge_count m p b) below in
      let now = is_below p (n + 1) (edge_count m p b) (omega (arith, below)) in
      omega (arith, g.more p b, before p b, gained, old, now)

  next_above : (p b : ℕ) → n < p → tally new p b ≡ edges_below m (n + 1) p b
  next_above p b above =
      let gained = gain_other p n (edge_count m n b) (λ e. absurd (omega (arith, e, above))) in
      let old = not_below p n (edge_count m p b) (omega (arith, above)) in
      let now = not_below p (n + 1) (edge_count m p b) (omega (arith, above)) in
      omega (arith, g.more p b, before p b, gained, old, now)

  pub below_next : (p b : ℕ) → tally new p b ≡ edges_below m (n + 1) p b
  below_next p b = elim (cases_order p n) [
    | inl here ↦ next_here p b here
    | inr apart ↦ elim apart [ inl below ↦ next_below p b below | inr above ↦ next_above p b above ]
  ]

-- after all blocks
pub all_edges : (m : Module) (ls : List (List ℕ)) (n : ℕ) → n ≡ length m.blocks → ((p b : ℕ) → tally ls p b ≡ edges_below m n p b) → (p b : ℕ) → tally ls p b ≡ edge_count m p b
all_edges m ls n last before p b = before p b ∙ by (nat_lt p n) refl
  where
    past : (xs : List BlockData) (i : ℕ) → length xs ≤ i → slice_get xs i ≡ None
    past [] i le = refl
    past (x ∷ xs) zero le = absurd (omega arith)
    past (x ∷ xs) (suc i) le = past xs i (omega arith)

    by : (c : Bool) → nat_lt p n ≡ c → only_if c (edge_count m p b) ≡ edge_count m p b
    by true e = refl
    by false e =
        let le : n ≤ p = grind arith in
        let none : slice_get m.blocks p ≡ None = past m.blocks p (omega (arith, le, last)) in
        sym (ap (λ o. count_of b (option_map_or (λ (x : BlockData). flat_map (targets_at m) x.insts) o [])) none)

-- what holds of the images holds of the items, by them
pub all_mapped : {X Y : Type 0} (P : X → Type 0) (f : Y → X) (ys : List Y) → All P (map f ys) → All (λ y. P (f y)) ys
all_mapped P f [] h = All-nil (λ y. P (f y))
all_mapped P f (y ∷ ys) h = All-cons (λ y. P (f y)) y ys (All-head P (f y) (map f ys) h) (all_mapped P f ys (All-tail P (f y) (map f ys) h))

-- the targets of an instruction whose parts are there
pub targets_within : (m : Module) (i : LLVMInst) → HasValues m i → All (λ b. b < length m.blocks) (targets i)
targets_within m (I.Phi type entries) h = All-nil (λ b. b < length m.blocks)
targets_within m (I.Row r) h = All-map (λ (n : ℕ). n < length m.blocks) (λ (b : LLVMBasicBlock). b.0) r.targets h.1

-- the targets of an instruction and of a block whose parts were read
pub targets_read : (m : Module) (i : LLVMInstRef) (x : LLVMInst) → option_map (λ (y : InstData). y.inst) (slice_get m.insts i.0) ≡ Some x → targets_at m i ≡ targets x
targets_read m i x e = by (slice_get m.insts i.0) e
  where
    by : (o : Option InstData) → option_map (λ (y : InstData). y.inst) o ≡ Some x → option_map_or (λ (y : InstData). targets y.inst) o [] ≡ targets x
    by None e = cc
    by (Some y) e = cc

pub all_targets_read : (m : Module) (b : ℕ) (xs : List LLVMInstRef) → option_map (λ (y : BlockData). y.insts) (slice_get m.blocks b) ≡ Some xs → targets_from m b ≡ flat_map (targets_at m) xs
all_targets_read m b xs e = by (slice_get m.blocks b) e
  where
    by : (o : Option BlockData) → option_map (λ (y : BlockData). y.insts) o ≡ Some xs → option_map_or (λ (y : BlockData). flat_map (targets_at m) y.insts) o [] ≡ flat_map (targets_at m) xs
    by None e = cc
    by (Some y) e = cc
