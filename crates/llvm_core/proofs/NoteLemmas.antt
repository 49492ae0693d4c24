-- The notes of how deep types nest, while types are open.
use Rattle.std.proofs.Common.{◌≡◌, ◌≢◌, ◌<◌, ◌≤◌, ◌⊎◌, inl, inr, ℕ, zero, suc, Bool, true, false, ◌&&◌, List, [], ◌∷◌, Some, All, length, get_or, slice_get, slice_set, refl, sym, ap, subst, ◌∙◌, arith}
use Rattle.std.proofs.lemmas.Bool.{false≢true}
use Rattle.std.proofs.lemmas.List.Elements.{All-get_or, All-from_get_or}
use Rattle.std.proofs.lemmas.Option.{same_Some, slice_get-get_or}
use Rattle.support.proofs.ListLaws.{length-slice_set, slice_get-set_cases}
use Rattle.llvm_core.specs.declared.numbers.LLVMType.{LLVMType}
use Rattle.llvm_core.specs.declared.types.LLVMTypeKind.{LLVMTypeKind}
use Rattle.llvm_core.specs.declared.types.LLVMTypeKind.TheVariants as T
use Rattle.llvm_core.specs.Module.{Module}
use Rattle.llvm_core.specs.Parts.{IsTypeOver}
use Rattle.llvm_core.specs.Depths.{IsLeast, NeedsMore, nests_at, all_nest_at, parts_nest_at, opened, AreNotes, AreNotesAt, AreMoreNotes}
use Rattle.llvm_core.proofs.ApartLemmas.{same_type}
use Rattle.llvm_core.proofs.NestLemmas.{all_fail, by_parts}

-- ---- what needs more levels than another

-- what needs more than it needs passes at no number
module _ (p : ℕ → Bool) (more : NeedsMore p p) where
  none_below : (end n : ℕ) → n < end → p n ≡ false
  none_below zero n lt = absurd (omega arith)
  none_below (suc end) n lt = by (λ k less. none_below end k (omega arith)) (p n) refl
    where
      by : ((k : ℕ) → k < n → p k ≡ false) → (b : Bool) → p n ≡ b → b ≡ false
      by before false e = refl
      by before true e = let (k, less, passes) = more n e in absurd (false≢true (sym (before k less) ∙ passes))

  pub none_at_all : (n : ℕ) → p n ≡ false
  none_at_all n = none_below (suc n) n (omega arith)

-- what has earlier parts has parts that are there
all_over : (n m : ℕ) → n ≤ m → (ts : List LLVMType) → All (λ (t : LLVMType). t.0 < n) ts → All (λ (t : LLVMType). t.0 < m) ts
all_over n m le ts h = All-from_get_or (λ (t : LLVMType). t.0 < m) ts (record { 0 = 0 }) (λ i lt.
    let below = All-get_or (λ (t : LLVMType). t.0 < n) ts i (record { 0 = 0 }) lt h in
    omega (arith, below))

pub over_more : (n m : ℕ) (k : LLVMTypeKind) → n ≤ m → IsTypeOver n k → IsTypeOver m k
over_more n m T.Void le h = h
over_more n m (T.Int width) le h = h
over_more n m (T.Ptr space) le h = h
over_more n m (T.Floating of) le h = h
over_more n m (T.Other of) le h = h
over_more n m (T.Array count t) le h = omega arith
over_more n m (T.Vector kind count t) le h = omega arith
over_more n m (T.Literal fields layout) le h = all_over n m le fields h
over_more n m (T.Named name) le h = h
over_more n m (T.Function result params variadic) le h = ((let lt = h.0 in omega arith), all_over n m le params h.1)

-- an item of a list in which one is set is that one, or another as it was
set_or_other : {X : Type 0} (xs : List X) (i j : ℕ) (x y : X) → slice_get (slice_set xs i x) j ≡ Some y → ((j ≡ i) × (y ≡ x)) ⊎ ((j ≢ i) × (slice_get xs j ≡ Some y))
set_or_other [] i j x y h = cc
set_or_other (z ∷ xs) zero zero x y h = inl (refl, sym (same_Some x y h))
set_or_other (z ∷ xs) zero (suc j) x y h = inr ((λ e. cc), h)
set_or_other (z ∷ xs) (suc i) zero x y h = inr ((λ e. cc), h)
set_or_other (z ∷ xs) (suc i) (suc j) x y h = elim (set_or_other xs i j x y h) [ inl new ↦ inl (ap suc new.0, new.1) | inr old ↦ inr ((λ e. old.0 (omega arith)), old.1) ]

-- ---- notes that grow

pub no_more : (m : Module) (notes : List ℕ) → AreMoreNotes m notes notes
no_more m notes = record { count = refl; each = λ t d at. inl at }

pub more_twice : (m : Module) (a b c : List ℕ) → AreMoreNotes m a b → AreMoreNotes m b c → AreMoreNotes m a c
more_twice m a b c h g = record {
  count = g.count ∙ h.count;
  each = λ t d at. elim (g.each t d at) [ inl old ↦ h.each t d old | inr least ↦ inr least ];
}

module _ (m : Module) where
  pub grown_notes : (a b : List ℕ) → AreNotes m a → AreMoreNotes m a b → AreNotes m b
  grown_notes a b h g = record {
    count = g.count ∙ h.count;
    each = λ t d at. elim (g.each t d at) [ inl old ↦ h.each t d old | inr least ↦ inr least ];
  }

  pub grown_notes_at : (p : ℕ → Bool) (a b : List ℕ) → AreNotesAt m p a → AreMoreNotes m a b → AreNotesAt m p b
  grown_notes_at p a b h g = record {
    count = g.count ∙ h.count;
    each = λ t d at. elim (g.each t d at) [ inl old ↦ h.each t d old | inr least ↦ inr (inr least) ];
  }

  -- ---- notes on the way to what is asked about

  -- where no type is open, they are so for whatever is asked about
  pub none_open : (p : ℕ → Bool) (notes : List ℕ) → AreNotes m notes → AreNotesAt m p notes
  none_open p notes h = record {
    count = h.count;
    each = λ t d at. elim (h.each t d at) [ inl none ↦ inl none | inr least ↦ inr (inr least) ];
  }

  -- from what is asked about to a part of it that needs no more
  pub notes_on : (p q : ℕ → Bool) → ((n : ℕ) → p n ≡ true → q n ≡ true) → (notes : List ℕ) → AreNotesAt m p notes → AreNotesAt m q notes
  notes_on p q on notes h = record {
    count = h.count;
    each = λ t d at. elim (h.each t d at) [
      | inl none ↦ inl none
      | inr known ↦ elim known [
        | inl more ↦ inr (inl (more.0, λ n e. let (k, less, passes) = more.1 n e in (k, less, on k passes)))
        | inr least ↦ inr (inr least)
      ]
    ];
  }

  pub notes_on_type : (ts : List LLVMType) (i : ℕ) (d : LLVMType) → i < length ts → (notes : List ℕ) → AreNotesAt m (all_nest_at m ts) notes → AreNotesAt m (nests_at m (get_or ts i d)) notes
  notes_on_type ts i d lt = notes_on (all_nest_at m ts) (nests_at m (get_or ts i d)) (λ n e. by n (nests_at m (get_or ts i d) n) refl e)
    where
      by : (n : ℕ) (b : Bool) → nests_at m (get_or ts i d) n ≡ b → all_nest_at m ts n ≡ true → b ≡ true
      by n true f e = refl
      by n false f e = absurd (false≢true (sym (all_fail m ts i d n lt f) ∙ e))

  pub notes_on_result : (r : LLVMType) (ps : List LLVMType) (v : Bool) (notes : List ℕ) → AreNotesAt m (parts_nest_at m (T.Function r ps v)) notes → AreNotesAt m (nests_at m r) notes
  notes_on_result r ps v = notes_on (parts_nest_at m (T.Function r ps v)) (nests_at m r) (λ n. by (nests_at m r n) (all_nest_at m ps n))
    where
      by : (a b : Bool) → (a && b) ≡ true → a ≡ true
      by true b e = refl
      by false b e = e

  pub notes_on_params : (r : LLVMType) (ps : List LLVMType) (v : Bool) (notes : List ℕ) → AreNotesAt m (parts_nest_at m (T.Function r ps v)) notes → AreNotesAt m (all_nest_at m ps) notes
  notes_on_params r ps v = notes_on (parts_nest_at m (T.Function r ps v)) (all_nest_at m ps) (λ n. by (nests_at m r n) (all_nest_at m ps n))
    where
      by : (a b : Bool) → (a && b) ≡ true → b ≡ true
      by true b e = e
      by false b e = cc

  -- ---- what is noted of a type that is asked about

  module _ (t : LLVMType) (notes : List ℕ) (h : AreNotesAt m (nests_at m t) notes) (within : t.0 < length m.types) where
    noted_at : slice_get notes t.0 ≡ Some (get_or notes t.0 0)
    noted_at = slice_get-get_or notes t.0 0 (let e = h.count in omega arith)

    pub known_least : ¬ (get_or notes t.0 0 ≡ 0) → get_or notes t.0 0 < opened → IsLeast (nests_at m t) (get_or notes t.0 0)
    known_least some lt = elim (h.each t (get_or notes t.0 0) noted_at) [
      | inl none ↦ absurd (some none)
      | inr known ↦ elim known [ inl more ↦ absurd (let e = more.0 in omega arith) | inr least ↦ least ]
    ]

    pub more_known : (left : ℕ) → left < get_or notes t.0 0 → nests_at m t left ≡ false
    more_known left lt = elim (h.each t (get_or notes t.0 0) noted_at) [
      | inl none ↦ absurd (omega arith)
      | inr known ↦ elim known [ inl more ↦ none_at_all (nests_at m t) more.1 left | inr least ↦ least.least left lt ]
    ]

    -- ---- a type that is opened for the time that its parts are looked at

    module _ (k : LLVMTypeKind) (at : slice_get m.types t.0 ≡ Some k) (over : IsTypeOver t.0 k) where
      needs_more : NeedsMore (nests_at m t) (parts_nest_at m k)
      needs_more zero e = cc
      needs_more (suc n) e = (n, omega arith, sym (by_parts m t k at over n) ∙ e)

      part_too : (u : LLVMType) → NeedsMore (nests_at m u) (nests_at m t) → NeedsMore (nests_at m u) (parts_nest_at m k)
      part_too u more n e =
          let (i, less, passes) = more n e in
          let (j, fewer, also) = needs_more i passes in
          (j, omega arith, also)

      pub notes_opened : AreNotesAt m (parts_nest_at m k) (slice_set notes t.0 opened)
      notes_opened = record {
        count = length-slice_set notes t.0 opened ∙ h.count;
        each = λ u d is. elim (slice_get-set_cases notes t.0 u.0 opened d is) [
          | inl new ↦ inr (inl (new.1, subst (λ (v : LLVMType). NeedsMore (nests_at m v) (parts_nest_at m k)) (sym (same_type u t new.0)) needs_more))
          | inr old ↦ elim (h.each u d old) [
            | inl none ↦ inl none
            | inr known ↦ elim known [ inl more ↦ inr (inl (more.0, part_too u more.1)) | inr least ↦ inr (inr least) ]
          ]
        ];
      }

    -- it is closed by its depth, or by what was noted before
    pub notes_closed : (new : List ℕ) (d : ℕ) → AreMoreNotes m (slice_set notes t.0 opened) new → (get_or notes t.0 0 ≡ d) ⊎ IsLeast (nests_at m t) d → AreMoreNotes m notes (slice_set new t.0 d)
    notes_closed new d g is = record {
      count = length-slice_set new t.0 d ∙ g.count ∙ length-slice_set notes t.0 opened;
      each = λ u n at. elim (set_or_other new t.0 u.0 d n at) [
        | inl same ↦ elim is [
          | inl before ↦ inl (ap (slice_get notes) same.0 ∙ noted_at ∙ ap Some (before ∙ sym same.1))
          | inr least ↦ inr (subst (λ (v : LLVMType). IsLeast (nests_at m v) n) (sym (same_type u t same.0)) (subst (IsLeast (nests_at m t)) (sym same.1) least))
        ]
        | inr other ↦ elim (g.each u n other.1) [
          | inl old ↦ elim (slice_get-set_cases notes t.0 u.0 opened n old) [ inl same ↦ absurd (other.0 same.0) | inr kept ↦ inl kept ]
          | inr least ↦ inr least
        ]
      ];
    }
