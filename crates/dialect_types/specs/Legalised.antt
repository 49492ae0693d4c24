-- Names with the identifiers that they were given.
use Rattle.std.specs.Prelude.{◌≡◌, ◌<◌, ◌≤◌, ◌⊎◌, ℕ, zero, suc, List, [], ◌∷◌, ◌++◌, Bool, true, Option, Some, None, map, take, slice_get, if◌then◌else◌}
use Rattle.std.specs.Fmt.{decimal}
use Rattle.support.specs.Interned.{IsDistinctList}
use Rattle.dialect_types.specs.Names.{is_digit, is_name_byte}

-- a byte that no identifier has becomes `_`
abbrev pub as_name_byte : ℕ → ℕ
as_name_byte c = if is_name_byte c then c else 95

-- no identifier begins so: nothing does, nor what begins with a digit
abbrev pub is_headless : List ℕ → Bool
is_headless [] = true
is_headless (c ∷ cs) = is_digit c

-- `_` comes before what no identifier begins with
abbrev pub headed : List ℕ → List ℕ
headed cs = if is_headless cs then 95 ∷ cs else cs

-- the identifier that a name asks for
abbrev pub asked : List ℕ → List ℕ
asked name = headed (map as_name_byte name)

-- an identifier, and then the same with the suffixes `_1`, `_2` and so on
abbrev pub wish : List ℕ → ℕ → List ℕ
wish i zero = i
wish i (suc k) = i ++ 95 ∷ decimal (suc k)

-- it stands in the list
abbrev pub IsIn : {X : Type 0} → List X → X → Type 0
IsIn xs x = (n : ℕ) × (slice_get xs n ≡ Some x)

-- j is the first of the wishes for i that is not taken
abbrev pub IsFirstFree : List (List ℕ) → List ℕ → List ℕ → Type 0
IsFirstFree taken i j = (k : ℕ) × (j ≡ wish i k) × (¬ (IsIn taken j)) × ((l : ℕ) → l < k → IsIn taken (wish i l))

-- a name with its identifier
pub record Named : Type 0 where
  pub name : List ℕ
  pub identifier : List ℕ

-- names with their identifiers, in the order in which they were met: each name once, with the first wish that was free
pub record IsLegalised (given : List Named) : Type 0 where
  pub names : IsDistinctList (map (λ (g : Named). g.name) given)
  pub firsts : (k : ℕ) (g : Named) → slice_get given k ≡ Some g → IsFirstFree (map (λ (g : Named). g.identifier) (take k given)) (asked g.name) g.identifier

-- the name was given the identifier
abbrev pub Gave : List Named → List ℕ → List ℕ → Type 0
Gave given n i = IsIn given (record { name = n; identifier = i })

-- more names may have been met since
abbrev pub GoesOn : List Named → List Named → Type 0
GoesOn now later = (more : List Named) × (later ≡ now ++ more)

-- the name was met
abbrev pub IsMet : List Named → List ℕ → Type 0
IsMet given n = IsIn (map (λ (g : Named). g.name) given) n

-- a name has its identifier: it was met and nothing changes, or it was not and comes last
pub record IsGiven (old new : List Named) (n i : List ℕ) : Type 0 where
  pub here : Gave new n i
  pub either : (IsMet old n × (new ≡ old)) ⊎ ((¬ IsMet old n) × (new ≡ old ++ (record { name = n; identifier = i }) ∷ []))

-- ---- how the legaliser keeps them; no clause of another crate cites what follows

-- each name with the identifier at its place
abbrev pub paired : List (List ℕ) → List (List ℕ) → List Named
paired [] is = []
paired (n ∷ ns) [] = []
paired (n ∷ ns) (i ∷ is) = (record { name = n; identifier = i }) ∷ paired ns is

-- a text was put into a list: it was not there and is last now, or it stands at a place
abbrev pub IsPut : List (List ℕ) → List (List ℕ) → List ℕ → Option ℕ → Type 0
IsPut old new t None = (new ≡ old ++ t ∷ []) × (¬ (IsIn old t))
IsPut old new t (Some at) = (new ≡ old) × (slice_get old at ≡ Some t)

-- the wishes for i up to the suffix n are taken
abbrev pub AreTaken : List (List ℕ) → List ℕ → ℕ → Type 0
AreTaken taken i n = (l : ℕ) → l ≤ n → IsIn taken (wish i l)

-- of the identifier at each place as many suffixes are taken as were tried
abbrev pub IsTried : List (List ℕ) → List ℕ → Type 0
IsTried taken tried = (at n : ℕ) → slice_get tried at ≡ Some n → (i : List ℕ) × (slice_get taken at ≡ Some i) × AreTaken taken i n

-- the wish with the suffix n was tried: it was taken, or it is taken now
abbrev pub IsWished : List (List ℕ) → List (List ℕ) → List ℕ → ℕ → Option (List ℕ) → Type 0
IsWished old new i n None = (new ≡ old) × IsIn old (wish i n)
IsWished old new i n (Some j) = (j ≡ wish i n) × (new ≡ old ++ j ∷ []) × (¬ (IsIn old j))

-- the wish with the suffix n was free, is taken now, and is the first such
pub record IsTaken (old new : List (List ℕ)) (i j : List ℕ) (n : ℕ) : Type 0 where
  pub is : j ≡ wish i n
  pub free : ¬ (IsIn old j)
  pub first : (l : ℕ) → l < n → IsIn old (wish i l)
  pub grown : new ≡ old ++ j ∷ []

-- the first wish that was free is taken
pub record IsFirstTaken (old new : List (List ℕ)) (i j : List ℕ) : Type 0 where
  pub first : IsFirstFree old i j
  pub grown : new ≡ old ++ j ∷ []
