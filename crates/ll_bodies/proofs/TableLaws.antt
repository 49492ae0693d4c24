-- What the numbers of a table's constants mean, and how the table grows.
use Rattle.std.proofs.Common.{◌≡◌, ◌<◌, ◌≤◌, ◌⊎◌, inl, inr, ℕ, zero, suc, List, [], ◌∷◌, ◌++◌, Option, Some, None, length, slice_get, refl, sym, ap, ◌∙◌, subst, arith, length-append}
use Rattle.std.specs.Prelude.{slice_index_or, IfSome}
use Rattle.std.specs.Option.{option_map}
use Rattle.std.proofs.lemmas.Option.{same_Some}
use Rattle.std.proofs.Math.ListN.{get_or-append}
use Rattle.llvm_core.specs.declared.numbers.LLVMConst.{LLVMConst}
use Rattle.llvm_core.specs.Module.{Module}
use Rattle.llvm_core.specs.Data.{ConstTree, ThenConst, const_at, consts_at, trees_of, structs_of}
use Rattle.llvm_core.proofs.TreeLemmas.{at_number}
use Rattle.ll_lines.specs.declared.lines.SaidConst.{SaidConst}
use Rattle.ll_lines.specs.declared.lines.SaidConst.TheVariants as S
use Rattle.ll_lines.specs.declared.lines.ConstLine.{ConstLine}
use Rattle.ll_lines.specs.declared.lines.ConstLine.TheVariants as C
use Rattle.ll_lines.specs.Lines as L
use Rattle.ll_lines.specs.Views.{no_const, saids_of, const_view, const_line_view, table_view, IsConstIn, IsConstLineIn, IsTableIn}
use Rattle.std.proofs.Common.{All, map}
use Rattle.std.proofs.lemmas.List.Elements.{All-nil, All-cons, All-head, All-tail}
use Rattle.ll_literals.specs.Chain.{◌>>=◌}
use Rattle.ll_bodies.specs.Constants.{const_meant, consts_meant}
use Rattle.ll_bodies.specs.Meaning.{all_of}
use Rattle.ll_bodies.specs.TableViews.{AreMeant, meant_at, line_meant, number_in}

module _ (bytes : List ℕ) (m : Module) (lines : List ConstLine) (k : ℕ) (numbers : List (Option LLVMConst)) (a : AreMeant bytes m lines k numbers) where
  -- the number of what is written is that of what it means
  pub number_means : (c : SaidConst) → IsConstIn m k c
      → option_map (const_at (trees_of m).consts) (number_in numbers c) ≡ const_meant (structs_of m) (const_view bytes (trees_of m) (table_view bytes (trees_of m) lines) c)
  number_means (S.Plain c) h = refl
  number_means (S.Made p) h = a.at p.0 h

  pub number_there : (c : SaidConst) → IsConstIn m k c → IfSome (number_in numbers c) (λ (d : LLVMConst). d.0 < length m.consts)
  number_there (S.Plain c) h = h
  number_there (S.Made p) h = a.there p.0

-- ---- a table says the same of a place whatever stands behind it

module _ (bytes : List ℕ) (m : Module) where
  const_over : (ts us : List L.SaidConst) (n : ℕ) → ((j : ℕ) → j < n → slice_index_or ts j no_const ≡ slice_index_or us j no_const) → (c : SaidConst) → IsConstIn m n c
      → const_view bytes (trees_of m) ts c ≡ const_view bytes (trees_of m) us c
  const_over ts us n same (S.Plain c) h = refl
  const_over ts us n same (S.Made p) h = same p.0 h

  consts_over : (ts us : List L.SaidConst) (n : ℕ) → ((j : ℕ) → j < n → slice_index_or ts j no_const ≡ slice_index_or us j no_const) → (cs : List SaidConst) → All (IsConstIn m n) cs
      → saids_of (map (const_view bytes (trees_of m) ts) cs) ≡ saids_of (map (const_view bytes (trees_of m) us) cs)
  consts_over ts us n same [] h = refl
  consts_over ts us n same (c ∷ cs) h =
      let e = const_over ts us n same c (All-head (IsConstIn m n) c cs h) in
      let f = consts_over ts us n same cs (All-tail (IsConstIn m n) c cs h) in
      cc

  line_over : (ts us : List L.SaidConst) (n : ℕ) → ((j : ℕ) → j < n → slice_index_or ts j no_const ≡ slice_index_or us j no_const) → (l : ConstLine) → IsConstLineIn m n l
      → const_line_view bytes (trees_of m) ts l ≡ const_line_view bytes (trees_of m) us l
  line_over ts us n same (C.Chars ty token) h = refl
  line_over ts us n same (C.Listed ty brackets cs) h = let e = consts_over ts us n same cs h.1 in cc
  line_over ts us n same (C.Splat ty c) h = let e = const_over ts us n same c h.1 in cc

  -- what a line of a table means is what is meant at its place
  pub meant_there : (lines : List ConstLine) (i : ℕ) (l : ConstLine) → IsTableIn m lines → slice_get lines i ≡ Some l → meant_at bytes m lines i ≡ line_meant bytes m lines l
  meant_there lines i l h at =
      ap (const_meant (structs_of m)) (at_number (const_line_view bytes (trees_of m)) no_const (IsConstLineIn m) line_over [] lines i i l (omega arith) at (h i l at))

-- ---- one more number

-- what holds of each item, and of what stands for none, holds with one more
there_more : (P : Option LLVMConst → Type 0) (xs : List (Option LLVMConst)) (y : Option LLVMConst) → P None → ((i : ℕ) → P (slice_index_or xs i None)) → P y → (i : ℕ) → P (slice_index_or (xs ++ y ∷ []) i None)
there_more P [] y none h p zero = p
there_more P [] y none h p (suc i) = none
there_more P (x ∷ xs) y none h p zero = h 0
there_more P (x ∷ xs) y none h p (suc i) = there_more P xs y none (λ j. h (suc j)) p i

last_number : (xs : List (Option LLVMConst)) (y : Option LLVMConst) (i : ℕ) → i ≡ length xs → slice_index_or (xs ++ y ∷ []) i None ≡ y
last_number [] y zero e = refl
last_number [] y (suc i) e = absurd (omega (arith, e))
last_number (x ∷ xs) y zero e = absurd (omega (arith, e))
last_number (x ∷ xs) y (suc i) e = last_number xs y i (omega (arith, e))

early_or_last : (i k : ℕ) → i < suc k → (i < k) ⊎ (i ≡ k)
early_or_last zero zero h = inr refl
early_or_last zero (suc k) h = inl (omega arith)
early_or_last (suc i) zero h = absurd (omega (arith, h))
early_or_last (suc i) (suc k) h = elim (early_or_last i k (omega (arith, h))) [ inl a ↦ inl (omega (arith, a)) | inr e ↦ inr (omega (arith, e)) ]

pub none_meant : (bytes : List ℕ) (m : Module) (lines : List ConstLine) → AreMeant bytes m lines 0 []
none_meant bytes m lines = record { count = refl; there = λ i. tt; at = λ i h. absurd (omega (arith, h)) }

module _ (bytes : List ℕ) (m : Module) (lines : List ConstLine) (k : ℕ) (numbers : List (Option LLVMConst)) (a : AreMeant bytes m lines k numbers) where
  pub one_meant : (l : ConstLine) (c : Option LLVMConst) (next : ℕ) → next ≡ suc k → IsTableIn m lines → slice_get lines k ≡ Some l → option_map (const_at (trees_of m).consts) c ≡ line_meant bytes m lines l
      → IfSome c (λ (d : LLVMConst). d.0 < length m.consts) → AreMeant bytes m lines next (numbers ++ c ∷ [])
  one_meant l c next e table here is there = rw e (record {
    count = (let size = length-append numbers (c ∷ []) in let n = a.count in omega (arith, size, n));
    there = there_more (λ (o : Option LLVMConst). IfSome o (λ (d : LLVMConst). d.0 < length m.consts)) numbers c tt a.there there;
    at = λ i h. elim (early_or_last i k h) [
      | inl lt ↦ ap (option_map (const_at (trees_of m).consts)) (get_or-append numbers (c ∷ []) None i (let n = a.count in omega (arith, lt, n))) ∙ a.at i lt
      | inr same ↦ ap (option_map (const_at (trees_of m).consts)) (last_number numbers c i (let n = a.count in omega (arith, same, n))) ∙ is ∙ sym (meant_there bytes m lines k l table here) ∙ ap (meant_at bytes m lines) (sym same)
    ];
  })

-- ---- elements

module _ (bytes : List ℕ) (m : Module) (lines : List ConstLine) (k : ℕ) (numbers : List (Option LLVMConst)) (a : AreMeant bytes m lines k numbers) where
  abbrev pub view : SaidConst → L.SaidConst
  view c = const_view bytes (trees_of m) (table_view bytes (trees_of m) lines) c

  -- the numbers of elements are those of what they mean
  pub elements_mean : (cs : List SaidConst) → All (IsConstIn m k) cs → option_map (consts_at (trees_of m).consts) (all_of (number_in numbers) cs) ≡ consts_meant (structs_of m) (saids_of (map view cs))
  elements_mean [] h = refl
  elements_mean (c ∷ cs) h =
      by (number_in numbers c) (all_of (number_in numbers) cs) ∙ ap (λ o. o >>= λ d. option_map (consts_at (trees_of m).consts) (all_of (number_in numbers) cs) >>= λ ds. Some (ThenConst d ds)) (number_means bytes m lines k numbers a c (All-head (IsConstIn m k) c cs h))
      ∙ ap (λ o. const_meant (structs_of m) (view c) >>= λ d. o >>= λ ds. Some (ThenConst d ds)) (elements_mean cs (All-tail (IsConstIn m k) c cs h))
    where
      by : (o : Option LLVMConst) (r : Option (List LLVMConst)) → option_map (consts_at (trees_of m).consts) (o >>= λ d. r >>= λ ds. Some (d ∷ ds))
          ≡ (option_map (const_at (trees_of m).consts) o >>= λ d. option_map (consts_at (trees_of m).consts) r >>= λ ds. Some (ThenConst d ds))
      by None r = refl
      by (Some d) None = refl
      by (Some d) (Some ds) = refl

  -- and they are there
  pub elements_there : (cs : List SaidConst) (found : List LLVMConst) → All (IsConstIn m k) cs → all_of (number_in numbers) cs ≡ Some found → All (λ (d : LLVMConst). d.0 < length m.consts) found
  elements_there [] found h e = subst (All (λ (d : LLVMConst). d.0 < length m.consts)) (same_Some [] found e) (All-nil (λ (d : LLVMConst). d.0 < length m.consts))
  elements_there (c ∷ cs) found h e =
      by (number_in numbers c) (all_of (number_in numbers) cs) (number_there bytes m lines k numbers a c (All-head (IsConstIn m k) c cs h))
      (λ ds f. elements_there cs ds (All-tail (IsConstIn m k) c cs h) f) e
    where
      by : (o : Option LLVMConst) (r : Option (List LLVMConst)) → IfSome o (λ (d : LLVMConst). d.0 < length m.consts) → ((ds : List LLVMConst) → r ≡ Some ds → All (λ (d : LLVMConst). d.0 < length m.consts) ds)
          → (o >>= λ d. r >>= λ ds. Some (d ∷ ds)) ≡ Some found → All (λ (d : LLVMConst). d.0 < length m.consts) found
      by None r p q e = absurd (let no : None ≡ Some found = e in cc (no))
      by (Some d) None p q e = absurd (let no : None ≡ Some found = e in cc (no))
      by (Some d) (Some ds) p q e = subst (All (λ (d : LLVMConst). d.0 < length m.consts)) (same_Some (d ∷ ds) found e) (All-cons (λ (d : LLVMConst). d.0 < length m.consts) d ds p (q ds refl))
