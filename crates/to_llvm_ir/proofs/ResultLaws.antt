-- What is known of a result: of an error that is passed on, and of what a last call promises.
use Rattle.std.proofs.Common.{◌≡◌, sym, subst}
use Rattle.std.specs.Prelude.{IsErrAnd, IfErr, Result}
use Rattle.std.proofs.lemmas.Result.{err_from_is_err_and}

-- what is known of an error holds of the result that passes it on
pub passed : {T E : Type 0} (r : Result T E) (e : E) (P : E → Type 0) → IsErrAnd r (λ y. y ≡ e) → P e → IfErr r P
passed r e P h p = let q = err_from_is_err_and r h in rw q.1 (subst P (sym q.2) p)
