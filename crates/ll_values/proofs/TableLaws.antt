-- The table of constants as it grows: what stands there says the same.
use Rattle.std.proofs.Common.{◌≡◌, ◌≤◌, ◌+◌, ℕ, zero, suc, List, [], ◌∷◌, ◌++◌, Some, length, length-append, slice_get, slice_index_or, refl, ap, sym, ◌∙◌, subst, append_assoc, arith}
use Rattle.std.proofs.lemmas.List.{append-nil}
use Rattle.std.proofs.lemmas.Option.{same_Some}
use Rattle.llvm_core.specs.Module.{Module}
use Rattle.llvm_core.specs.Data.{Trees, trees_of, trees_after}
use Rattle.llvm_core.proofs.TreeLemmas.{after-append, length-after, kept}
use Rattle.ll_lines.specs.declared.lines.ConstLine.{ConstLine}
use Rattle.ll_lines.specs.Lines.{SaidConst}
use Rattle.ll_lines.specs.Views.{no_const, const_line_view, table_view, IsConstLineIn, IsTableIn}
use Rattle.ll_values.specs.Growing.{Interns, KeepsTable}
use Rattle.ll_values.proofs.GrowLaws.{SaysSame, const_line_same, const_line_there}

pub table_length : (bytes : List ℕ) (t : Trees) (ls : List ConstLine) → length (table_view bytes t ls) ≡ length ls
table_length bytes t ls = length-after (const_line_view bytes t) no_const [] ls ∙ omega arith

-- more behind leaves what stands there
table_front : (bytes : List ℕ) (t : Trees) (ls ms : List ConstLine) → SaysSame (length ls) (table_view bytes t ls) (table_view bytes t (ls ++ ms))
table_front bytes t ls ms p h =
    ap (λ (xs : List SaidConst). slice_index_or xs p no_const) (after-append (const_line_view bytes t) no_const [] ls ms)
    ∙ kept (const_line_view bytes t) no_const (table_view bytes t ls) ms p (omega (arith, table_length bytes t ls, h))

-- the last one
index_last : (xs : List SaidConst) (x : SaidConst) → slice_index_or (xs ++ x ∷ []) (length xs) no_const ≡ x
index_last [] x = refl
index_last (y ∷ xs) x = index_last xs x

pub table_last : (bytes : List ℕ) (t : Trees) (ls now : List ConstLine) (l : ConstLine) (p : ℕ) → now ≡ ls ++ l ∷ [] → p ≡ length ls → slice_index_or (table_view bytes t now) p no_const ≡ const_line_view bytes t (table_view bytes t ls) l
table_last bytes t ls now l p put is =
    let here : table_view bytes t now ≡ table_view bytes t ls ++ const_line_view bytes t (table_view bytes t ls) l ∷ [] = rw put (after-append (const_line_view bytes t) no_const [] ls (l ∷ [])) in
    let at : p ≡ length (table_view bytes t ls) = is ∙ sym (table_length bytes t ls) in
    rw (here, at) (index_last (table_view bytes t ls) (const_line_view bytes t (table_view bytes t ls) l))

-- what is before says the same where types and constants of the module are added
abbrev AreFrom : Module → ℕ → List ConstLine → Type 0
AreFrom m k ls = (i : ℕ) (l : ConstLine) → slice_get ls i ≡ Some l → IsConstLineIn m (k + i) l

from_first : (m : Module) (ls : List ConstLine) → IsTableIn m ls → AreFrom m 0 ls
from_first m ls h = λ i l at. let e : i ≡ 0 + i = omega arith in subst (λ (k : ℕ). IsConstLineIn m k l) e (h i l at)

to_first : (m : Module) (ls : List ConstLine) → AreFrom m 0 ls → IsTableIn m ls
to_first m ls h = λ i l at. let e : 0 + i ≡ i = omega arith in subst (λ (k : ℕ). IsConstLineIn m k l) e (h i l at)

module _ (bytes : List ℕ) (m n : Module) (g : Interns m n) where
  after_same : (done : List SaidConst) (ls : List ConstLine) → AreFrom m (length done) ls → trees_after (const_line_view bytes (trees_of n)) done ls ≡ trees_after (const_line_view bytes (trees_of m)) done ls
  after_same done [] h = refl
  after_same done (l ∷ ls) h =
      let zero_more : length done + 0 ≡ length done = omega arith in
      let first = const_line_same bytes m n g (length done) done done (λ p lt. refl) l (subst (λ (k : ℕ). IsConstLineIn m k l) zero_more (h 0 l refl)) in
      let one = const_line_view bytes (trees_of m) done l ∷ [] in
      let rest : AreFrom m (length (done ++ one)) ls = λ i k at. let e : length done + suc i ≡ length (done ++ one) + i = omega (arith, length-append done one) in subst (λ (j : ℕ). IsConstLineIn m j k) e (h (suc i) k at) in
      ap (λ (x : SaidConst). trees_after (const_line_view bytes (trees_of n)) (done ++ x ∷ []) ls) first ∙ after_same (done ++ one) ls rest

  table_same : (ls : List ConstLine) → IsTableIn m ls → table_view bytes (trees_of n) ls ≡ table_view bytes (trees_of m) ls
  table_same ls h = after_same [] ls (from_first m ls h)

  -- so what stands there as both grow
  pub table_says : (old new : List ConstLine) → KeepsTable old new → IsTableIn m old → SaysSame (length old) (table_view bytes (trees_of m) old) (table_view bytes (trees_of n) new)
  table_says old new k h p lt =
      ap (λ (ls : List ConstLine). slice_index_or (table_view bytes (trees_of n) ls) p no_const) k.front
      ∙ table_front bytes (trees_of n) old k.more p lt
      ∙ ap (λ (xs : List SaidConst). slice_index_or xs p no_const) (table_same old h)

pub table_kept : (ls : List ConstLine) → KeepsTable ls ls
table_kept ls = record { more = []; front = sym (append-nil ls) }

pub table_twice : (a b c : List ConstLine) → KeepsTable a b → KeepsTable b c → KeepsTable a c
table_twice a b c g h = record { more = g.more ++ h.more; front = h.front ∙ ap (λ (ls : List ConstLine). ls ++ h.more) g.front ∙ append_assoc a g.more h.more }

pub table_longer : (old new : List ConstLine) → KeepsTable old new → length old ≤ length new
table_longer old new k = omega (arith, ap length k.front, length-append old k.more)

pub table_pushed : (old new : List ConstLine) (l : ConstLine) → new ≡ old ++ l ∷ [] → KeepsTable old new
table_pushed old new l e = record { more = l ∷ []; front = e }

pub table_there : (m n : Module) (g : Interns m n) (ls : List ConstLine) → IsTableIn m ls → IsTableIn n ls
table_there m n g ls h = λ i l at. const_line_there m n g i i (omega arith) l (h i l at)

are_put : (m : Module) (k : ℕ) (ls : List ConstLine) (l : ConstLine) → AreFrom m k ls → IsConstLineIn m (k + length ls) l → AreFrom m k (ls ++ l ∷ [])
are_put m k [] l h q zero x at = subst (λ (y : ConstLine). IsConstLineIn m (k + 0) y) (same_Some l x at) q
are_put m k [] l h q (suc i) x at = absurd cc
are_put m k (y ∷ ls) l h q zero x at = h zero x at
are_put m k (y ∷ ls) l h q (suc i) x at =
    let next : (j : ℕ) → suc k + j ≡ k + suc j = λ j. omega arith in
    let rest : AreFrom m (suc k) ls = λ j z e. subst (λ (n : ℕ). IsConstLineIn m n z) (sym (next j)) (h (suc j) z e) in
    let last = subst (λ (n : ℕ). IsConstLineIn m n l) (sym (next (length ls))) q in
    subst (λ (n : ℕ). IsConstLineIn m n x) (next i) (are_put m (suc k) ls l rest last i x at)

pub table_put : (m : Module) (old new : List ConstLine) (l : ConstLine) → IsTableIn m old → IsConstLineIn m (length old) l → new ≡ old ++ l ∷ [] → IsTableIn m new
table_put m old new l h q put =
    let e : length old ≡ 0 + length old = omega arith in
    rw put (to_first m (old ++ l ∷ []) (are_put m 0 old l (from_first m old h) (subst (λ (k : ℕ). IsConstLineIn m k l) e q)))
