-- How far the printing of a list of types has come, and how far it can lead.
use Rattle.std.specs.Prelude.{◌≡◌, ℕ, suc, max, List, [], ◌∷◌, ◌++◌, take, map}
use Rattle.dialect_types.specs.declared.types.TypeHandle.{TypeHandle}
use Rattle.dialect_types.specs.Trees.{TypeTree, type_at}
use Rattle.dialect_types.specs.Text.{Keeps, joined, type_text}

-- of the types the first i stand after what was there, with commas between them
pub record PrintedTypes (trees : List TypeTree) (types : List TypeHandle) (i : ℕ) (start after : List ℕ) : Type 0 where
  pub printed : after ≡ start ++ joined (map (λ (x : TypeHandle). type_text (type_at trees x)) (take i types))
  pub kept : Keeps start after

-- the least number that all of these are below
abbrev pub reach : List TypeHandle → ℕ
reach [] = 0
reach (t ∷ ts) = max (suc t.0) (reach ts)
