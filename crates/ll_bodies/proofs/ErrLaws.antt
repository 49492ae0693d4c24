-- Errors that are passed on.
use Rattle.std.proofs.Common.{◌≡◌, ap}
use Rattle.std.proofs.Common as R
use Rattle.std.specs.Result.{IsErrAnd}
use Rattle.std.proofs.lemmas.Result.{err_from_is_err_and}
use Rattle.ll_bodies.specs.declared.build_err.BuildErr.{BuildErr}
use Rattle.ll_bodies.specs.declared.build_err.BuildErr.TheVariants.{NotYet}

-- the error that a `?` passes on
pub passed_on : {T U : Type 0} (r : R.Result T BuildErr) (e : BuildErr) → IsErrAnd r (λ x. x ≡ e) → r ≡ R.Err NotYet → ◌≡◌ {A = R.Result U BuildErr} (R.Err e) (R.Err NotYet)
passed_on r e h is = let p = err_from_is_err_and r h in let i : e ≡ NotYet = cc (p.1, p.2) in ap (λ x. R.Err x) i

-- what holds anyway holds where a call succeeded
pub on_ok_any : {T E Q : Type 0} (r : R.Result T E) → Q → R.OnOk r Q
on_ok_any (R.Ok x) q = q
on_ok_any (R.Err e) q = tt

-- what holds of a result holds by both of two things that do
pub ok_by_both : {T E : Type 0} (P Q S : T → Type 0) (r : R.Result T E) → ((x : T) → P x → Q x → S x) → R.IfOk r P → R.IfOk r Q → R.IfOk r S
ok_by_both P Q S (R.Ok x) h p q = h x p q
ok_by_both P Q S (R.Err e) h p q = tt

-- the same, of what holds where a call succeeded
pub on_ok_both : {T E P Q S : Type 0} (r : R.Result T E) → (P → Q → S) → R.OnOk r P → R.OnOk r Q → R.OnOk r S
on_ok_both (R.Ok x) h p q = h p q
on_ok_both (R.Err e) h p q = tt
