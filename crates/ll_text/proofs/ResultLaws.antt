-- Two results, one after the other.
use Rattle.std.proofs.Common.{◌≡◌, Result, Ok, Err}
use Rattle.std.specs.Result.{result_and}

-- an error is the step's own
pub refused : {T U E : Type 0} (r : Result T E) (x : U) (e : E) → result_and r (Ok x) ≡ Err e → r ≡ Err e
refused (Ok t) x e is = absurd cc
refused (Err f) x e is = cc
