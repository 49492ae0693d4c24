-- What clauses see of a scope of the program.
use Rattle.std.specs.Prelude.{◌≡◌, ◌≤◌, ◌⊎◌, ℕ, List, Option, Some, None, if◌then◌else◌}
use Rattle.std.specs.Option.{option_map}
use Rattle.std.specs.HashMap.{get_by, get_by_text}
use Rattle.std.specs.Str.{bytes_eq}
use Rattle.support.specs.NumberMaps.{value_at}
use Rattle.support.specs.Options.{or_else}
use Rattle.llvm_core.specs.Data as L
use Rattle.llvm_core.specs.Data.{TypeTree, type_at}
use Rattle.ll_literals.specs.Text.{Text}
use Rattle.ll_literals.specs.Names.{quoted_name}
use Rattle.ll_literals.specs.Numbers.{number_limit}
use Rattle.ll_bodies.specs.Scopes as spec
use Rattle.ll_bodies.specs.declared.scope.Key.{Key}
use Rattle.ll_bodies.specs.declared.scope.Key.TheVariants.{Named, Numbered}
use Rattle.ll_bodies.specs.declared.scope.Local.{Local}
use Rattle.ll_bodies.specs.declared.scope.Local.TheVariants.{Param, Result, Block}
use Rattle.ll_bodies.specs.declared.scope.Scope.{Scope}

abbrev pub key_view : Key → spec.Key
key_view (Named name) = spec.Named name.now
key_view (Numbered n) = spec.Numbered n

-- over the trees of the types
abbrev pub local_view : List TypeTree → Local → spec.Local
local_view types (Param f place ty) = spec.ValueLocal (L.Parameter f.0 place) (type_at types ty)
local_view types (Result i ty) = spec.ValueLocal (L.Result i.0) (type_at types ty)
local_view types (Block b) = spec.BlockLocal b.0

-- what a key stands for
abbrev pub local_at : Scope → spec.Key → Option Local
local_at s (spec.Named name) = or_else (get_by (λ k. bytes_eq name k.now) s.named) (get_by_text s.escaped name)
local_at s (spec.Numbered n) = value_at s.numbered n

-- something that a key stands for
abbrev pub IsKnown : Scope → Local → Type 0
IsKnown s x = (k : spec.Key) × (local_at s k ≡ Some x)

-- the thing was put under a key
abbrev pub IsPut : Scope → Scope → spec.Key → Local → Type 0
IsPut old new k x = (q : spec.Key) → local_at new q ≡ (if spec.same_key k q then Some x else local_at old q)

-- the scope of the program is that of the definitions: the counters are equal, and each key stands for the same;
-- under a number that nothing can have stands nothing
pub record Knows (types : List TypeTree) (code : Scope) (s : spec.Scope) : Type 0 where
  pub next : s.next ≡ code.next
  pub known : (k : spec.Key) → s.known k ≡ option_map (local_view types) (local_at code k)
  pub limited : (n : ℕ) → number_limit ≤ n → local_at code (spec.Numbered n) ≡ None

-- what the scope of the program becomes is what the step makes of that of the definitions
abbrev pub Takes : List TypeTree → Scope → Scope → (spec.Scope → Option spec.Scope) → Type 0
Takes types old new step = (s : spec.Scope) → Knows types old s → (t : spec.Scope) × (step s ≡ Some t) × Knows types new t

-- the step makes nothing of the scope of the definitions
abbrev pub Refuses : {A : Type 0} → List TypeTree → Scope → (spec.Scope → Option A) → Type 0
Refuses types old step = (s : spec.Scope) → Knows types old s → step s ≡ None

-- each key that stands for something now stood for it before, or Q holds of that
pub record Adds (Q : Local → Type 0) (old new : Scope) : Type 0 where
  pub at : (k : spec.Key) (y : Local) → local_at new k ≡ Some y → Q y ⊎ (local_at old k ≡ Some y)

-- what is written says the key of a name between quotes, if any, or a number that nothing can have
pub data IsNotPlain (written : Text) : Type 0 where
  quoted : spec.key_of written ≡ option_map spec.Named (quoted_name written) → IsNotPlain written
  past : (n : ℕ) → number_limit ≤ n → spec.key_of written ≡ Some (spec.Numbered n) → quoted_name written ≡ None → IsNotPlain written
