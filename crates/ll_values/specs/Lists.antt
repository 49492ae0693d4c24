-- Lists under numbers.
use Rattle.std.specs.Prelude.{ℕ, zero, suc, ◌≤◌, List, [], ◌∷◌, ◌++◌, slice_index_or}
use Rattle.ll_values.specs.declared.lists.Link.{Link}

-- the list of that number; 0 is the empty one
abbrev pub list_at : {T : Type 0} → List (List T) → ℕ → List T
list_at ls zero = []
list_at ls (suc n) = slice_index_or ls n []

-- the lists of links, each over the lists before it
abbrev pub lists_after : {T : Type 0} → List (List T) → List (Link T) → List (List T)
lists_after done [] = done
lists_after done (l ∷ ls) = lists_after (done ++ (l.item ∷ list_at done l.rest) ∷ []) ls

-- each link names a list that is made of the links before it
abbrev pub AreLinksFrom : {T : Type 0} → ℕ → List (Link T) → Type 0
AreLinksFrom n [] = Unit {0}
AreLinksFrom n (l ∷ ls) = (l.rest ≤ n) × AreLinksFrom (suc n) ls

abbrev pub AreLinks : {T : Type 0} → List (Link T) → Type 0
AreLinks ls = AreLinksFrom 0 ls
