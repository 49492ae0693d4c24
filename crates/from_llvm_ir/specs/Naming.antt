-- The names that an import has met so far, and what holds whatever names are still to come.
use Rattle.std.specs.Prelude.{ℕ, List, ◌++◌, map}
use Rattle.dialect_types.specs.Legalised.{Named, GoesOn}
use Rattle.from_llvm_ir.specs.Imported.{FirstUses}

-- it holds of every list of names that goes on from these, so of that of the whole import too
abbrev pub ForLater : List Named → (List Named → Type 0) → Type 0
ForLater names P = (given : List Named) → GoesOn names given → P given

abbrev pub names_in : List Named → List (List ℕ)
names_in names = map (λ (g : Named). g.name) names

-- these names were met besides, in order
abbrev pub HasMet : (old new : List Named) → List (List ℕ) → Type 0
HasMet old new ns = (uses : List (List ℕ)) → FirstUses uses (names_in old) → FirstUses (uses ++ ns) (names_in new)

-- these were, and others later
pub record HasMetFirst (old new : List Named) (ns : List (List ℕ)) : Type 0 where
  pub between : List Named
  pub met : HasMet old between ns
  pub more : GoesOn between new
