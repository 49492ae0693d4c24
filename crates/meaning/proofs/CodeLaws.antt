-- Modules whose entries match one by one have the same code.
use Rattle.std.proofs.Common.{ℕ, ◌≡◌, refl, Bool, true, false, List, [], ◌∷◌, Some, subst, ap, map, if◌then◌else◌}
use Rattle.std.specs.Str.{bytes_eq}
use Rattle.meaning.specs.Terms.{Match}
use Rattle.meaning.specs.Pairs.{Matched}
use Rattle.meaning.specs.Code.{Code, Entry, entry_of, names_of, IsDistinctNames, SameNamed, SameEntry, SameEntries, SameCode}

same_first : (match : Match) (n : List ℕ) (x y : Entry) (xs ys : List Entry) (b : Bool) → SameEntry match x y → SameEntries match (entry_of n xs) (entry_of n ys) → SameEntries match (if b then Some x else entry_of n xs) (if b then Some y else entry_of n ys)
same_first match n x y xs ys true here rest = here
same_first match n x y xs ys false here rest = rest

same_entries : (match : Match) (xs ys : List Entry) → Matched (SameNamed match) xs ys → (n : List ℕ) → SameEntries match (entry_of n xs) (entry_of n ys)
same_entries match [] [] h n = tt
same_entries match (x ∷ xs) (y ∷ ys) h n =
    subst
    (λ (b : Bool). SameEntries match (entry_of n (x ∷ xs)) (if b then Some y else entry_of n ys))
    (ap (λ (m : List ℕ). bytes_eq m n) h.0.name)
    (same_first match n x y xs ys (bytes_eq x.name n) h.0.entry (same_entries match xs ys h.1 n))
same_entries match [] (y ∷ ys) h n = elim h [ ]
same_entries match (x ∷ xs) [] h n = elim h [ ]

same_names : (match : Match) (xs ys : List Entry) → Matched (SameNamed match) xs ys → map (λ (e : Entry). e.name) xs ≡ map (λ (e : Entry). e.name) ys
same_names match [] [] h = refl
same_names match (x ∷ xs) (y ∷ ys) h = rw (h.0.name, same_names match xs ys h.1) refl
same_names match [] (y ∷ ys) h = elim h [ ]
same_names match (x ∷ xs) [] h = elim h [ ]

pub same_code : (match : Match) (a b : Code) → IsDistinctNames (names_of a) → Matched (SameNamed match) a.entries b.entries → SameCode match a b
same_code match a b distinct h = record {
  source_names = distinct;
  target_names = subst IsDistinctNames (same_names match a.entries b.entries h) distinct;
  symbols = same_entries match a.entries b.entries h;
}
