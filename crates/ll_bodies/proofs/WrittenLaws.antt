-- What is written is looked up, and defined, as the key that it says.
use Rattle.std.proofs.Common.{arith, ◌≡◌, ◌≤◌, ℕ, Bool, true, false, nat_le, nat_lt, if◌then◌else◌, List, Option, Some, None, refl, ap, sym, ◌∙◌, subst}
use Rattle.std.specs.Prelude.{IfSome}
use Rattle.std.specs.Option.{option_map, option_and_then}
use Rattle.std.proofs.lemmas.Bool.Decides.{nat_tests}
use Rattle.llvm_core.specs.Data.{TypeTree}
use Rattle.ll_literals.specs.Chain.{◌>>=◌}
use Rattle.ll_literals.specs.Text.{Text}
use Rattle.ll_literals.specs.Names.{quoted_name}
use Rattle.ll_literals.specs.Numbers.{number_limit}
use Rattle.ll_bodies.specs.Scopes as spec
use Rattle.ll_bodies.specs.Scopes.{Key, Named, Numbered, key_of, define}
use Rattle.ll_bodies.specs.ScopeViews.{local_view, local_at, IsKnown, Knows, IsNotPlain}
use Rattle.ll_bodies.specs.ScopeViews.IsNotPlain.{quoted, past}
use Rattle.ll_bodies.specs.declared.scope.Local.{Local}
use Rattle.ll_bodies.specs.declared.scope.Scope.{Scope}

module _ (types : List TypeTree) (code : Scope) (s : spec.Scope) (knows : Knows types code s) where
  pub key_known : (o : Option Key) (k : Key) → o ≡ Some k → option_and_then s.known o ≡ option_map (local_view types) (local_at code k)
  key_known o k e = ap (option_and_then s.known) e ∙ knows.known k

  name_known : (q : Option Text) → option_and_then s.known (option_map Named q) ≡ option_map (local_view types) (option_and_then (λ (n : Text). local_at code (Named n)) q)
  name_known None = refl
  name_known (Some n) = knows.known (Named n)

  pub quoted_known : (w : Text) → IsNotPlain w → option_and_then s.known (key_of w) ≡ option_map (local_view types) (option_and_then (λ (n : Text). local_at code (Named n)) (quoted_name w))
  quoted_known w (quoted e) = ap (option_and_then s.known) e ∙ name_known (quoted_name w)
  quoted_known w (past n large e none) =
      key_known (key_of w) (Numbered n) e ∙ ap (option_map (local_view types)) (knows.limited n large)
      ∙ sym (ap (λ (q : Option Text). option_map (local_view types) (option_and_then (λ (m : Text). local_at code (Named m)) q)) none)

-- what is found stands under the key that was looked up
held : (code : Scope) (k : Key) (o : Option Local) → local_at code k ≡ o → IfSome o (IsKnown code)
held code k None is = tt
held code k (Some x) is = (k, is)

name_held : (code : Scope) (q : Option Text) → IfSome (option_and_then (λ (n : Text). local_at code (Named n)) q) (IsKnown code)
name_held code None = tt
name_held code (Some n) = held code (Named n) (local_at code (Named n)) refl

pub quoted_held : (code : Scope) (q : Option Text) (x : Option Local) → x ≡ option_and_then (λ (n : Text). local_at code (Named n)) q → IfSome x (IsKnown code)
quoted_held code q x is = subst (λ (o : Option Local). IfSome o (IsKnown code)) (sym is) (name_held code q)

-- what a number says that nothing can have is not defined
past_undefined : (s : spec.Scope) (x : spec.Local) (n : ℕ) → number_limit ≤ n → define s x (Some (Numbered n)) ≡ None
past_undefined s x n large = let not : nat_lt n 4294967295 ≡ false = grind (arith, nat_tests) in by (nat_le s.next n) not
  where
    by : (b : Bool) → nat_lt n 4294967295 ≡ false → (if b then spec.counted s x n else None) ≡ None
    by true e = rw e refl
    by false e = refl

-- a thing defined under a key, where there is one
abbrev pub define_under : spec.Scope → spec.Local → Option Key → Option spec.Scope
define_under s x o = option_and_then (λ (k : Key). define s x (Some k)) o

-- a name that quotes say is the key
pub name_defined : (q : Option Text) (n : Text) → Some n ≡ q → (x : spec.Local) (s : spec.Scope) → define s x (Some (Named n)) ≡ define_under s x (option_map Named q)
name_defined q n e x s = ap (λ (p : Option Text). define_under s x (option_map Named p)) e

pub key_defined : (o : Option Key) (k : Key) → o ≡ Some k → (x : spec.Local) (s : spec.Scope) → define s x (Some k) ≡ define_under s x o
key_defined o k e x s = sym (ap (define_under s x) e)

-- to define what quotes say is to define what is written
pub quoted_defined : (w : Text) → IsNotPlain w → (x : spec.Local) (s : spec.Scope) → define_under s x (option_map Named (quoted_name w)) ≡ define_under s x (key_of w)
quoted_defined w (quoted e) x s = ap (define_under s x) (sym e)
quoted_defined w (past n large e none) x s = ap (λ (q : Option Text). define_under s x (option_map Named q)) none ∙ sym (ap (define_under s x) e ∙ past_undefined s x n large)

-- the key that is written is the one that the thing is defined under
pub written_defined : (key : Text → Option Key) (w t : Text) → key_of w ≡ key t → (x : spec.Local) (s : spec.Scope) → define_under s x (key_of w) ≡ spec.define_written s x key (Some t)
written_defined key w t e x s = ap (define_under s x) e ∙ by (key t)
  where
    by : (o : Option Key) → define_under s x o ≡ (option_map Some o >>= λ k. define s x k)
    by None = refl
    by (Some k) = refl
