-- Functions that differ in numbers alone have the same edges, under the numbers that are paired.
use Rattle.std.proofs.Common.{◌≡◌, ◌≢◌, ◌<◌, ◌≤◌, ℕ, zero, suc, ◌+◌, Bool, nat_eq, inl, inr, ◌⊎◌, List, [], ◌∷◌, map, slice_get, Some, refl, ap, sym, ◌∙◌, subst, eq-eqb, ne_eqb, arith}
use Rattle.std.specs.List.{AllZip, flat_map, filter}
use Rattle.std.specs.Option.{option_map}
use Rattle.std.proofs.lemmas.Option.{same_Some, slice_get-map}
use Rattle.std.proofs.lemmas.Bool.Decides.{eqb_tells}
use Rattle.llvm_core.specs.Data as L
use Rattle.llvm_core.specs.Data.{Operand, Constant, Parameter, Result, Instruction, Phi, Applied, Placed, Block, targets}
use Rattle.llvm_core.specs.Edges.{count_of}
use Rattle.support.specs.Interned.{IsDistinctList}
use Rattle.llvm_core.specs.Form.{targets_of, edges_between, IsTarget, FitsEdges}
use Rattle.ll_said.proofs.PairLaws.{block_numbers, result_numbers}
use Rattle.ll_said.proofs.PairLaws.{SameBlock, OperandsAlike, EntriesAlike, CodeAlike, PlacedAlike, BlocksAlike, FunctionsAlike}
use Rattle.ll_said.proofs.ZipLaws.{SamePlace, zip_length, zip_right, zip_weaker, zip_filtered, zip_mapped, zip_flat}

-- ---- numbers at one place

-- what a list of numbers has at a place is the number of an item
pub unmapped_at : {A : Type 0} (number : A → ℕ) (xs : List A) (k n : ℕ) → slice_get (map number xs) k ≡ Some n → (x : A) × (slice_get xs k ≡ Some x) × (number x ≡ n)
unmapped_at number [] k n at = absurd cc
unmapped_at number (x ∷ xs) zero n at = (x, refl, same_Some (number x) n at)
unmapped_at number (x ∷ xs) (suc k) n at = unmapped_at number xs k n at

pub mapped_at : {A : Type 0} (number : A → ℕ) (xs : List A) (k : ℕ) (x : A) → slice_get xs k ≡ Some x → slice_get (map number xs) k ≡ Some (number x)
mapped_at number xs k x at = slice_get-map number xs k ∙ ap (option_map number) at

-- where numbers are distinct, a number is paired with one
pub one_right : (xs ys : List ℕ) (a b c : ℕ) → IsDistinctList xs → SamePlace xs ys a b → SamePlace xs ys a c → b ≡ c
one_right xs ys a b c distinct p q =
    let same : p.place ≡ q.place = distinct p.place q.place a p.left q.left in
    same_Some b c (sym p.right ∙ ap (λ (k : ℕ). slice_get ys k) same ∙ q.right)

pub one_left : (xs ys : List ℕ) (a b c : ℕ) → IsDistinctList ys → SamePlace xs ys a c → SamePlace xs ys b c → a ≡ b
one_left xs ys a b c distinct p q =
    let same : p.place ≡ q.place = distinct p.place q.place c p.right q.right in
    same_Some a b (sym p.left ∙ ap (λ (k : ℕ). slice_get xs k) same ∙ q.left)

-- a number stands in a list or not
place_of : (n : ℕ) (xs : List ℕ) → ((k : ℕ) × (slice_get xs k ≡ Some n)) ⊎ ((k x : ℕ) → slice_get xs k ≡ Some x → x ≢ n)
place_of n [] = inr (λ k x at. absurd cc)
place_of n (x ∷ xs) = elim (eqb_tells x n) [
  | inl h ↦ let same : Some x ≡ Some n = ap (λ (k : ℕ). Some k) h.1 in inl (zero, same)
  | inr h ↦ elim (place_of n xs) [
    | inl found ↦ inl (suc found.0, found.1)
    | inr others ↦ inr (nowhere x n xs h.1 others)
  ]
]
  where
    nowhere : (x n : ℕ) (xs : List ℕ) → x ≢ n → ((k y : ℕ) → slice_get xs k ≡ Some y → y ≢ n) → (k y : ℕ) → slice_get (x ∷ xs) k ≡ Some y → y ≢ n
    nowhere x n xs first others zero y at e = first (same_Some x y at ∙ e)
    nowhere x n xs first others (suc k) y at e = others k y at e

-- more than each number of a list
abbrev beyond : List ℕ → ℕ
beyond [] = 1
beyond (x ∷ xs) = x + beyond xs

below_beyond : (xs : List ℕ) (k x : ℕ) → slice_get xs k ≡ Some x → x < beyond xs
below_beyond [] k x at = absurd cc
below_beyond (y ∷ xs) zero x at = let same = same_Some y x at in let more = some_beyond xs in omega (arith, same, more)
  where
    some_beyond : (xs : List ℕ) → 1 ≤ beyond xs
    some_beyond [] = omega arith
    some_beyond (x ∷ xs) = omega (arith, some_beyond xs)
below_beyond (y ∷ xs) (suc k) x at = omega (arith, below_beyond xs k x at)

-- two tests that go together
pub same_test : (a b c d : ℕ) → (a ≡ b → c ≡ d) → (c ≡ d → a ≡ b) → nat_eq a b ≡ nat_eq c d
same_test a b c d to from = elim (eqb_tells a b) [
  | inl h ↦ h.0 ∙ sym (eq-eqb c d (to h.1))
  | inr h ↦ h.0 ∙ sym (ne_eqb c d (λ e. h.1 (from e)))
]

-- ---- counts of paired numbers

-- p is paired with q, or neither is paired with any
pub record Partner (R : ℕ → ℕ → Type 0) (p q : ℕ) : Type 0 where
  pub to : (x y : ℕ) → R x y → x ≡ p → y ≡ q
  pub from : (x y : ℕ) → R x y → y ≡ q → x ≡ p

pub same_count : (R : ℕ → ℕ → Type 0) (p q : ℕ) → Partner R p q → (xs ys : List ℕ) → AllZip R xs ys → count_of p xs ≡ count_of q ys
same_count R p q partner xs ys h =
    zip_length R (filter (nat_eq p) xs) (filter (nat_eq q) ys)
    (zip_filtered R (nat_eq p) (nat_eq q) (λ x y r. same_test p x q y (λ e. sym (partner.to x y r (sym e))) (λ e. sym (partner.from x y r (sym e)))) xs ys h)

-- ---- functions

module _ (g h : L.Function) (alike : FunctionsAlike g h) (here : IsDistinctList (block_numbers g)) (there : IsDistinctList (block_numbers h)) where
  pub pair_partner : (a b : ℕ) → SameBlock g h a b → Partner (SameBlock g h) a b
  pair_partner a b pair = record {
    to = λ x y r e. one_right (block_numbers g) (block_numbers h) a y b here (subst (λ (n : ℕ). SameBlock g h n y) e r) pair;
    from = λ x y r e. one_left (block_numbers g) (block_numbers h) x a b there (subst (SameBlock g h x) e r) pair;
  }

  -- each number of a block of h, and each other number, has its partner
  partner_of : (q : ℕ) → (p : ℕ) × Partner (SameBlock g h) p q
  partner_of q = elim (place_of q (block_numbers h)) [
    | inl found ↦
        let d = unmapped_at (λ (b : Block). b.number) h.blocks found.0 q found.1 in
        let c = zip_right (BlocksAlike g h) g.blocks h.blocks alike.blocks found.0 d.0 d.1 in
        (c.0.number, pair_partner c.0.number q (subst (SameBlock g h c.0.number) d.2 c.2.number))
    | inr nowhere ↦ (
      beyond (block_numbers g),
      record {
        to = λ x y r e. let less = below_beyond (block_numbers g) r.place x r.left in absurd (omega (arith, less, e));
        from = λ x y r e. absurd (nowhere r.place y r.right e);
      },
    )
  ]

  -- ---- edges

  targets_pair : (x y : Instruction) → CodeAlike g h x y → AllZip (SameBlock g h) (targets x) (targets y)
  targets_pair (Phi es) (Phi ds) p = tt
  targets_pair (Applied r) (Applied s) p = p.targets
  targets_pair (Phi es) (Applied s) p = elim p [ ]
  targets_pair (Applied r) (Phi ds) p = elim p [ ]

  block_targets : (c d : Block) → BlocksAlike g h c d → AllZip (SameBlock g h) (targets_of c) (targets_of d)
  block_targets c d pair =
      zip_flat (SameBlock g h) (λ (p : Placed). targets p.instruction) (λ (p : Placed). targets p.instruction) c.instructions d.instructions
      (zip_weaker (PlacedAlike g h) (λ p q. AllZip (SameBlock g h) (targets p.instruction) (targets q.instruction)) c.instructions d.instructions (λ p q x. targets_pair p.instruction q.instruction x.code) pair.instructions)

  -- as many edges lead from one block to another
  same_edges : (p q a b : ℕ) → Partner (SameBlock g h) p q → SameBlock g h a b → edges_between g p a ≡ edges_between h q b
  same_edges p q a b partner pair =
      let from : Block → Bool = λ x. nat_eq x.number p in
      let from_there : Block → Bool = λ x. nat_eq x.number q in
      let chosen = zip_filtered (BlocksAlike g h) from from_there (λ c d x. same_test c.number p d.number q (partner.to c.number d.number x.number) (partner.from c.number d.number x.number)) g.blocks h.blocks alike.blocks in
      let lists = zip_weaker (BlocksAlike g h) (λ c d. AllZip (SameBlock g h) (targets_of c) (targets_of d)) (filter from g.blocks) (filter from_there h.blocks) block_targets chosen in
      same_count (SameBlock g h) a b (pair_partner a b pair) (flat_map targets_of (filter from g.blocks)) (flat_map targets_of (filter from_there h.blocks)) (zip_flat (SameBlock g h) targets_of targets_of (filter from g.blocks) (filter from_there h.blocks) lists)

  -- a block behind the first
  pub target_alike : (a b : ℕ) → SameBlock g h a b → IsTarget g a → IsTarget h b
  target_alike a b pair t =
      let left : slice_get (block_numbers g) (suc t.0) ≡ Some a = mapped_at (λ (b : Block). b.number) g.blocks (suc t.0) t.1 t.2 ∙ ap (λ (n : ℕ). Some n) t.3 in
      let same : pair.place ≡ suc t.0 = here pair.place (suc t.0) a pair.left left in
      let x = unmapped_at (λ (b : Block). b.number) h.blocks (suc t.0) b (ap (λ (k : ℕ). slice_get (block_numbers h) k) (sym same) ∙ pair.right) in
      (t.0, x.0, x.1, x.2)

  -- ---- entries

  one_operand : (results : IsDistinctList (result_numbers g)) → (o p q : Operand) → OperandsAlike g h o p → OperandsAlike g h o q → p ≡ q
  one_operand results (Constant c) p q x y = x ∙ sym y
  one_operand results (Parameter f i) p q x y = x.1 ∙ sym y.1
  one_operand results (Result a) p q x y = x.1 ∙ ap (λ (k : ℕ). Result k) (one_right (result_numbers g) (result_numbers h) a x.0 y.0 results x.2 y.2) ∙ sym y.1

  none_left : (es ds : List (Operand × ℕ)) → AllZip (EntriesAlike g h) es ds → ds ≡ [] → es ≡ []
  none_left [] ds x e = refl
  none_left (y ∷ es) [] x e = elim x [ ]
  none_left (y ∷ es) (z ∷ ds) x e = absurd cc

  pub fits_alike : IsDistinctList (result_numbers g) → (a b : ℕ) (es ds : List (Operand × ℕ)) → SameBlock g h a b → AllZip (EntriesAlike g h) es ds → FitsEdges g a es → FitsEdges h b ds
  fits_alike results a b es ds pair each fits =
      let E = EntriesAlike g h in
      record {
        counts = λ q.
            let p = partner_of q in
            let listed = zip_mapped (SameBlock g h) (λ (e : Operand × ℕ). e.1) (λ (e : Operand × ℕ). e.1) es ds (zip_weaker E (λ x y. SameBlock g h x.1 y.1) es ds (λ x y e. e.1) each) in
            sym (same_count (SameBlock g h) p.0 q p.1 (map (λ (e : Operand × ℕ). e.1) es) (map (λ (e : Operand × ℕ). e.1) ds) listed) ∙ fits.counts p.0 ∙ same_edges p.0 q a b p.1 pair;
        alike = λ i j x y at also same.
            let v = zip_right E es ds each i x at in
            let w = zip_right E es ds each j y also in
            let blocks : v.0.1 ≡ w.0.1 = one_left (block_numbers g) (block_numbers h) v.0.1 w.0.1 y.1 there (subst (SameBlock g h v.0.1) same v.2.1) w.2.1 in
            let operands = fits.alike i j v.0 w.0 v.1 w.1 blocks in
            one_operand results w.0.0 x.0 y.0 (subst (λ (o : Operand). OperandsAlike g h o x.0) operands v.2.0) w.2.0;
        some = λ none. fits.some (none_left es ds each none);
      }
