-- That no instruction stands twice.
use Rattle.std.specs.Prelude.{All, map}
use Rattle.support.specs.Interned.{IsDistinctList}
use Rattle.llvm_core.specs.Data.{Placed, Function, ModuleData, placed_in}

-- no two instructions of the function have one number
abbrev pub HasInstsOnce : Function → Type 0
HasInstsOnce f = IsDistinctList (map (λ (p : Placed). p.number) (placed_in f))

abbrev pub AreInstsOnce : ModuleData → Type 0
AreInstsOnce d = All HasInstsOnce d.functions
