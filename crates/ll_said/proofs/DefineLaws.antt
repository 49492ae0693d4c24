-- What is written of the next thing of a function defines it.
use Rattle.std.proofs.Common.{◌≡◌, ◌≤◌, List, [], ◌∷◌, ◌++◌, length, length-append, Option, Some, None, ap, sym, ◌∙◌, subst, arith}
use Rattle.std.specs.Option.{option_map}
use Rattle.std.proofs.lemmas.Grind.{flat_map-append}
use Rattle.llvm_core.specs.Data.{Function}
use Rattle.ll_literals.specs.Text.{Text}
use Rattle.ll_literals.specs.Numbers.{number_limit}
use Rattle.ll_literals.specs.Chain.{◌>>=◌}
use Rattle.ll_bodies.specs.Scopes.{Key, Scope, empty_scope, define, define_written}
use Rattle.ll_said.specs.Naming.{Unnamed, if_unnamed}
use Rattle.ll_said.specs.Sayable.{IsSayable}
use Rattle.ll_said.proofs.ApartLaws.{Apart, apart_things, new_next}
use Rattle.ll_said.proofs.NameLaws.{key_in}
use Rattle.ll_said.proofs.KnownLaws.{local_of, scope_after, key_is}
use Rattle.ll_said.proofs.ScopeLaws.{Thing, unnamed, key_among, after_one, after-append, defined_next, defined_unwritten}
use Rattle.ll_said.proofs.ThingLaws.{things, unnamed_of_things}

few_in : (f : Function) → IsSayable f → (all : List Thing) → things f ≡ all → length (unnamed all) ≤ number_limit
few_in f h all whole = subst (λ (ts : List Thing). length (unnamed ts) ≤ number_limit) whole (subst (λ (xs : List Unnamed). length xs ≤ number_limit) (sym (unnamed_of_things f)) h.few)

scope_next : (f : Function) (done : List Thing) (t : Thing) → after_one (local_of f) (scope_after f done) t.name t.place ≡ scope_after f (done ++ t ∷ [])
scope_next f done t = sym (after-append (local_of f) empty_scope done (t ∷ []))

-- by its name, or by its number
pub defines : (f : Function) → IsSayable f → (done rest : List Thing) (t : Thing) (key : Text → Option Key) (text : Text) → things f ≡ done ++ t ∷ rest → key text ≡ Some (key_in f t.name t.place)
    → define_written (scope_after f done) (local_of f t.place) key (Some text) ≡ Some (scope_after f (done ++ t ∷ []))
defines f h done rest t key text whole says =
    let s = scope_after f done in
    let apart : Apart (done ++ t ∷ rest) = subst Apart whole (apart_things f h.form.block_numbers h.form.numbers) in
    let among : key_in f t.name t.place ≡ key_among (done ++ t ∷ rest) t.name t.place = sym (key_is f t.name t.place) ∙ ap (λ (ts : List Thing). key_among ts t.name t.place) whole in
    ap (λ (k : Option Key). option_map (λ (k : Key). Some k) k >>= (λ (k : Option Key). define s (local_of f t.place) k)) says
    ∙ ap (λ (k : Key). define s (local_of f t.place) (Some k)) among
    ∙ defined_next (local_of f) done rest t.name t.place (new_next done rest t apart) (few_in f h (done ++ t ∷ rest) whole)
    ∙ ap (λ (u : Scope). Some u) (scope_next f done t)

-- where nothing is written of it: by the next number
pub defines_unwritten : (f : Function) → IsSayable f → (done rest : List Thing) (x : Unnamed) (key : Text → Option Key) → things f ≡ done ++ record { name = []; place = x } ∷ rest
    → define_written (scope_after f done) (local_of f x) key None ≡ Some (scope_after f (done ++ record { name = []; place = x } ∷ []))
defines_unwritten f h done rest x key whole =
    let t : Thing = record { name = []; place = x } in
    let few = few_in f h (done ++ t ∷ rest) whole in
    let parts : unnamed (done ++ t ∷ rest) ≡ unnamed done ++ x ∷ unnamed rest = flat_map-append (λ (u : Thing). if_unnamed u.name u.place) done (t ∷ rest) in
    let size = ap (λ (xs : List Unnamed). length xs) parts ∙ length-append (unnamed done) (x ∷ unnamed rest) in
    defined_unwritten (local_of f) done x (omega (arith, few, size)) ∙ ap (λ (u : Scope). Some u) (scope_next f done t)
