-- A line behind others.
use Rattle.std.proofs.Common.{◌≡◌, ◌<◌, ◌≤◌, ℕ, zero, suc, ◌+◌, ◌*◌, List, ◌++◌, refl, ap, ◌∙◌, arith, inl, inr, ◌⊎◌}
use Rattle.std.proofs.lemmas.List.{length-append, get_or_append_left, get_or-append-add}
use Rattle.grammars.specs.Lines.{IsLine, AreLines}

times_suc : (n m : ℕ) → (n + 1) * m ≡ n * m + m
times_suc n m = grind arith

times_less : (k r m : ℕ) → (r + suc k) * m ≡ r * m + (k * m + m)
times_less k r m = grind arith

before : (r rows m c : ℕ) → r < rows → c < m → r * m + c < rows * m
before r rows m c h l =
    let k = gap r rows h in
    rw k.1 (rw (times_less k.0 r m) (omega arith))
  where
    gap : (r rows : ℕ) → r < rows → (k : ℕ) × (rows ≡ r + suc k)
    gap zero zero h = absurd (omega arith)
    gap zero (suc n) h = (n, omega arith)
    gap (suc r) zero h = absurd (omega arith)
    gap (suc r) (suc n) h = let x = gap r n (omega arith) in (x.0, omega (arith, x.1))

pub behind : (rows r m c : ℕ) → rows ≤ r → rows * m ≤ r * m + c
behind zero r m c h = omega arith
behind (suc rows) zero m c h = absurd (omega (arith, h))
behind (suc rows) (suc r) m c h = let e = behind rows r m c (omega (arith, h)) in omega (arith, e, suc_times rows m, suc_times r m)
  where
    suc_times : (n m : ℕ) → suc n * m ≡ n * m + m
    suc_times n m = grind arith

which : (r n : ℕ) → r < n + 1 → (r < n) ⊎ (r ≡ n)
which zero zero h = inr refl
which zero (suc n) h = inl (omega arith)
which (suc r) zero h = absurd (omega arith)
which (suc r) (suc n) h = elim (which r n (omega arith)) [ inl l ↦ inl (omega arith) | inr e ↦ inr (ap (λ m. suc m) e) ]

pub lines_more : (m rows : ℕ) (f : ℕ → ℕ → ℕ) (table line : List ℕ) → AreLines m rows f table → IsLine m (f rows) line → AreLines m (rows + 1) f (table ++ line)
lines_more m rows f table line t l = record {
  length = length-append table line ∙ omega (arith, t.length, l.length, times_suc rows m);
  entries = λ r c h k. elim (which r rows h) [
    | inl b ↦ get_or_append_left table line 0 (r * m + c) (rw t.length (before r rows m c b k)) ∙ t.entries r c b k
    | inr e ↦ rw (e, ← t.length) (get_or-append-add table line c 0 ∙ l.entries c k)
  ];
}
