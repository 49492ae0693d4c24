-- What a module means, whichever side it is of: its symbols, and for each body the trace of every list of choices.
use Rattle.std.specs.Prelude.{ℕ, Bool, if◌then◌else◌, List, [], ◌∷◌, Option, Some, None, map, slice_get, ◌≡◌, ◌<◌}
use Rattle.std.specs.Str.{bytes_eq}
use Rattle.kinds.specs.Types.{TypeTree}
use Rattle.meaning.specs.Terms.{Match, rename_type, rename}
use Rattle.meaning.specs.Machine.{Item, Entered, Event}

-- how a symbol is linked
pub data Linkage : Type 0 where
  External AvailableExternally LinkOnceAny LinkOnceODR WeakAny WeakODR : Linkage
  Appending Internal Private ExternalWeak Common Other : Linkage

-- a symbol, a line for each kind
pub data Symbol : Type 0 where
  FunctionSymbol : (type : TypeTree) (linkage : Linkage) (space : ℕ) (has_body : Bool) → Symbol

-- a body: how many blocks it has, and the blocks entered and the events for each list of choices
pub record Body : Type 0 where
  pub blocks : ℕ
  pub trace : List ℕ → List Item

-- a symbol of a module by its name, with its body where it has one
pub record Entry : Type 0 where
  pub name : List ℕ
  pub symbol : Symbol
  pub body : Option Body

pub record Code : Type 0 where
  pub entries : List Entry

-- the entry of a name, the first one where there are more
abbrev pub entry_of : List ℕ → List Entry → Option Entry
entry_of n [] = None
entry_of n (e ∷ es) = if bytes_eq e.name n then Some e else entry_of n es

-- ---- the same code

abbrev pub rename_symbol : Match → Symbol → Symbol
rename_symbol match (FunctionSymbol ty l s b) = FunctionSymbol (rename_type match ty) l s b

-- an item of the body of that name, under a match
abbrev pub under : Match → List ℕ → Item → Item
under match n (Entered b) = Entered (match.block n b)
under match n (Event o ty tys ts) = Event o (rename_type match ty) (map (rename_type match) tys) (map (rename match) ts)

-- a one-to-one map from the blocks of one body onto those of the other
pub record IsOneToOne (here : ℕ → ℕ) (source target : ℕ) : Type 0 where
  pub onto : (j : ℕ) → j < target → (i : ℕ) × (i < source) × (here i ≡ j)
  pub within : (i : ℕ) → i < source → here i < target
  pub apart : (i j : ℕ) → i < source → j < source → here i ≡ here j → i ≡ j

-- two bodies give the same trace for every list of branch choices, under the match
pub record SameBody (match : Match) (n : List ℕ) (source target : Body) : Type 0 where
  pub blocks : IsOneToOne (match.block n) source.blocks target.blocks
  pub traces : (choices : List ℕ) → map (under match n) (source.trace choices) ≡ target.trace choices

abbrev pub SameBodies : Match → List ℕ → Option Body → Option Body → Type 0
SameBodies match n None None = Unit {0}
SameBodies match n (Some a) (Some b) = SameBody match n a b
SameBodies match n None (Some b) = ⊥
SameBodies match n (Some a) None = ⊥

pub record SameEntry (match : Match) (source target : Entry) : Type 0 where
  pub symbol : rename_symbol match source.symbol ≡ target.symbol
  pub body : SameBodies match source.name source.body target.body

abbrev pub SameEntries : Match → Option Entry → Option Entry → Type 0
SameEntries match None None = Unit {0}
SameEntries match (Some a) (Some b) = SameEntry match a b
SameEntries match None (Some b) = ⊥
SameEntries match (Some a) None = ⊥

abbrev pub names_of : Code → List (List ℕ)
names_of c = map (λ (e : Entry). e.name) c.entries

-- two entries of one name, of which the one stands for the other
pub record SameNamed (match : Match) (source target : Entry) : Type 0 where
  pub name : source.name ≡ target.name
  pub entry : SameEntry match source target

-- no name stands twice
abbrev pub IsDistinctNames : List (List ℕ) → Type 0
IsDistinctNames ns = (i j : ℕ) (n : List ℕ) → slice_get ns i ≡ Some n → slice_get ns j ≡ Some n → i ≡ j

-- Two modules have the same code: each name is that of one symbol at most, the symbols of a name are
-- the same under the match, and so are the traces of their bodies.
pub record SameCode (match : Match) (source target : Code) : Type 0 where
  pub source_names : IsDistinctNames (names_of source)
  pub target_names : IsDistinctNames (names_of target)
  pub symbols : (n : List ℕ) → SameEntries match (entry_of n source.entries) (entry_of n target.entries)
