-- Grammars as rows, and the check that is made of them by computing.
use Rattle.std.specs.Prelude.{ℕ, ◌+◌, Bool, true, false, not, if◌then◌else◌, nat_eq, nat_lt, List, [], ◌∷◌, ◌++◌, map, Option, Some, None, slice_index_or}
use Rattle.std.specs.List.{list_all, list_any, flat_map}
use Rattle.grammars.specs.declared.symbols.Symbol.{Symbol}
use Rattle.grammars.specs.declared.symbols.Symbol.TheVariants.{Word, Leaf, Rule}

pub record Alternative : Type 0 where
  pub number : ℕ
  pub symbols : List Symbol
  -- the classes that may begin it
  pub firsts : List ℕ

pub record Row : Type 0 where
  pub alternatives : List Alternative
  -- the number of the alternative that may be nothing
  pub nothing : Option ℕ
  -- the classes that, standing behind it, might go on with it
  pub more : List ℕ
  -- more than how many rules may stand at its front, one in another
  pub height : ℕ

-- ---- sets of classes

abbrev pub has : List ℕ → ℕ → Bool
has xs c = list_any (nat_eq c) xs

abbrev pub subset : List ℕ → List ℕ → Bool
subset xs ys = list_all (has ys) xs

abbrev pub apart : List ℕ → List ℕ → Bool
apart xs ys = list_all (λ c. not (has ys c)) xs

abbrev pub implies : Bool → Bool → Bool
implies true b = b
implies false b = true

abbrev pub is_some : Option ℕ → Bool
is_some None = false
is_some (Some n) = true

abbrev pub is_number : Option ℕ → ℕ → Bool
is_number None n = false
is_number (Some m) n = nat_eq m n

-- ---- what is claimed of all rules, by rule

abbrev pub firsts_of : Row → List ℕ
firsts_of r = flat_map (λ (a : Alternative). a.firsts) r.alternatives

abbrev pub all_firsts : List Row → List (List ℕ)
all_firsts rows = map firsts_of rows

abbrev pub all_nulls : List Row → List Bool
all_nulls rows = map (λ (r : Row). is_some r.nothing) rows

abbrev pub all_mores : List Row → List (List ℕ)
all_mores rows = map (λ (r : Row). r.more) rows

abbrev pub all_heights : List Row → List ℕ
all_heights rows = map (λ (r : Row). r.height) rows

-- ---- what follows for symbols

abbrev pub is_null : (nulls : List Bool) → List Symbol → Bool
is_null nulls [] = true
is_null nulls (Word c ∷ st) = false
is_null nulls (Leaf c ∷ st) = false
is_null nulls (Rule r ∷ st) = if slice_index_or nulls r false then is_null nulls st else false

abbrev pub begins_with : (firsts : List (List ℕ)) (nulls : List Bool) → List Symbol → List ℕ
begins_with firsts nulls [] = []
begins_with firsts nulls (Word c ∷ st) = c ∷ []
begins_with firsts nulls (Leaf c ∷ st) = c ∷ []
begins_with firsts nulls (Rule r ∷ st) = slice_index_or firsts r [] ++ (if slice_index_or nulls r false then begins_with firsts nulls st else [])

abbrev pub lead_of : (nulls : List Bool) (heights : List ℕ) → List Symbol → ℕ
lead_of nulls heights [] = 0
lead_of nulls heights (Word c ∷ st) = 0
lead_of nulls heights (Leaf c ∷ st) = 0
lead_of nulls heights (Rule r ∷ st) = slice_index_or heights r 0 + (if slice_index_or nulls r false then lead_of nulls heights st else 0)

-- what might go on with the symbols is among `more`, and what stands behind a rule does not go on with it
abbrev pub all_fit : (firsts : List (List ℕ)) (nulls : List Bool) (mores : List (List ℕ)) (more : List ℕ) → List Symbol → Bool
all_fit firsts nulls mores more [] = true
all_fit firsts nulls mores more (Word c ∷ st) = all_fit firsts nulls mores more st
all_fit firsts nulls mores more (Leaf c ∷ st) = all_fit firsts nulls mores more st
all_fit firsts nulls mores more (Rule r ∷ st) =
    if apart (slice_index_or mores r []) (begins_with firsts nulls st)
    then (if (if is_null nulls st then subset (slice_index_or mores r []) more else true) then all_fit firsts nulls mores more st else false)
    else false

-- ---- the check

abbrev pub check_alternative : (firsts : List (List ℕ)) (nulls : List Bool) (mores : List (List ℕ)) (heights : List ℕ) → Row → Alternative → Bool
check_alternative firsts nulls mores heights r a =
    if subset (begins_with firsts nulls a.symbols) a.firsts
    then (if all_fit firsts nulls mores r.more a.symbols
    then (if nat_lt (lead_of nulls heights a.symbols) r.height then implies (is_null nulls a.symbols) (is_number r.nothing a.number) else false)
    else false)
    else false

-- what may be nothing is an alternative of the row
abbrev pub is_own : Row → Bool
is_own r = implies (is_some r.nothing) (list_any (λ (a : Alternative). is_number r.nothing a.number) r.alternatives)

-- no class begins two alternatives
abbrev pub apart_all : List Alternative → Bool
apart_all [] = true
apart_all (a ∷ others) = if list_all (λ (b : Alternative). apart a.firsts b.firsts) others then apart_all others else false

abbrev pub check_row : (firsts : List (List ℕ)) (nulls : List Bool) (mores : List (List ℕ)) (heights : List ℕ) → Row → Bool
check_row firsts nulls mores heights r =
    if list_all (check_alternative firsts nulls mores heights r) r.alternatives
    then (if apart_all r.alternatives then (if implies (is_some r.nothing) (subset (firsts_of r) r.more) then is_own r else false) else false)
    else false

-- the next token tells how to go on, by the grammar of these rows
abbrev pub check_rows : List Row → Bool
check_rows rows = list_all (check_row (all_firsts rows) (all_nulls rows) (all_mores rows) (all_heights rows)) rows
