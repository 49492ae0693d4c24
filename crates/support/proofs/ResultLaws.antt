-- What is known of the result of a call, whichever it is.
use Rattle.std.proofs.Common.{Result, Ok, Err}
use Rattle.std.specs.Prelude.{IfOk, OnOk, OnErr}
use Rattle.std.specs.Result.{result_and}

-- what holds in any case holds where there is an error
pub on_err : {T E P : Type 0} (r : Result T E) → P → OnErr r P
on_err (Ok x) p = tt
on_err (Err e) p = p

-- what a last call promises where it succeeds, two clauses or three together
pub both : {X E : Type 0} {P Q R : X → Type 0} (r : Result X E) → IfOk r P → IfOk r Q → ((x : X) → P x → Q x → R x) → IfOk r R
both (Ok x) p q f = f x p q
both (Err e) p q f = tt

pub all_three : {X E : Type 0} {P Q R S : X → Type 0} (r : Result X E) → IfOk r P → IfOk r Q → IfOk r R → ((x : X) → P x → Q x → R x → S x) → IfOk r S
all_three (Ok x) p q h f = f x p q h
all_three (Err e) p q h f = tt

-- two facts at Ok
pub on_ok_both : {T E P Q S : Type 0} (r : Result T E) → OnOk r P → OnOk r Q → (P → Q → S) → OnOk r S
on_ok_both (Ok x) p q f = f p q
on_ok_both (Err e) p q f = tt

-- a value that is given where the step before it did not fail
pub handed_on : {T U E : Type 0} (r : Result T E) (x : U) (P : U → Type 0) (Q : Type 0) → (Q → P x) → OnOk r Q → IfOk (result_and r (Ok x)) P
handed_on (Ok t) x P Q f q = f q
handed_on (Err e) x P Q f q = tt

-- and as one pair
pub ok_both : {T E : Type 0} (r : Result T E) (P Q : T → Type 0) → IfOk r P → IfOk r Q → IfOk r (λ x. P x × Q x)
ok_both (Ok x) P Q p q = (p, q)
ok_both (Err e) P Q p q = tt
