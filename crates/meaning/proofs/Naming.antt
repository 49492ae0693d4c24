-- Terms under a match: what a silent row makes of renamed operands, and the match that changes nothing.
use Rattle.std.proofs.Common.{ℕ, ◌≡◌, ◌∙◌, List, [], ◌∷◌, map, map-id, option_map, refl, ap}
use mathlib.Core.Path.{fun_ext}
use Rattle.kinds.specs.declared.op.Op.{Op}
use Rattle.kinds.specs.declared.rules.Family.{Family}
use Rattle.kinds.specs.declared.rules.Family.TheVariants.{Shows, Builds}
use Rattle.kinds.specs.Types.{TypeTree}
use Rattle.meaning.specs.Terms.{Match, family, made_by, silent, Term, ThenTerm, terms_of, rename, rename_all, rename_type}
use Rattle.meaning.specs.Machine.{Item, Entered, Event}
use Rattle.meaning.specs.Code.{under}
use Rattle.meaning.specs.Examples.{same_places}
use Rattle.meaning.proofs.EntryLaws.{type_stays}
use Rattle.meaning.proofs.TermLaws.{term_stays}

-- ---- silent rows

rename-terms_of : (match : Match) (ts : List Term) → terms_of (map (rename match) ts) ≡ rename_all match (terms_of ts)
rename-terms_of match [] = refl
rename-terms_of match (t ∷ ts) = ap (ThenTerm (rename match t)) (rename-terms_of match ts)

rename-made_by : (match : Match) (f : Family) (o : Op) (ty : TypeTree) (ts : List Term) → option_map (rename match) (made_by f o ty ts) ≡ made_by f o (rename_type match ty) (map (rename match) ts)
rename-made_by match Shows o ty ts = refl
rename-made_by match Builds o ty ts = cc (rename-terms_of match ts)

-- the term of renamed operands is the renamed term
pub rename-silent : (match : Match) (o : Op) (ty : TypeTree) (ts : List Term) → option_map (rename match) (silent o ty ts) ≡ silent o (rename_type match ty) (map (rename match) ts)
rename-silent match o ty ts = rename-made_by match (family o) o ty ts

-- ---- the match that leaves all where it is

map_same : {A : Type 0} (f : A → A) → ((x : A) → f x ≡ x) → (xs : List A) → map f xs ≡ xs
map_same f h xs = ap (λ (g : _ → _). map g xs) (fun_ext h) ∙ map-id xs

term_same : (t : Term) → rename same_places t ≡ t
term_same t = term_stays same_places (λ n. refl) t

item_same : (n : List ℕ) (i : Item) → under same_places n i ≡ i
item_same n (Entered b) = refl
item_same n (Event o ty tys ts) = cc (type_stays ty, map_same (rename_type same_places) type_stays tys, map_same (rename same_places) term_same ts)

pub items_same : (n : List ℕ) (items : List Item) → map (under same_places n) items ≡ items
items_same n items = map_same (under same_places n) (item_same n) items
