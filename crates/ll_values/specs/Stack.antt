-- What a stack of values says, and how events change it.
use Rattle.std.specs.Prelude.{◌≡◌, ℕ, List, map, All, Option, Some, None}
use Rattle.grammars.specs.declared.symbols.Event.{Event}
use Rattle.llvm_core.specs.Module.{Module}
use Rattle.llvm_core.specs.Data.{trees_of}
use Rattle.ll_tokens.specs.declared.tokens.Token as tokens
use Rattle.ll_lines.specs.declared.names.Name.{Name}
use Rattle.ll_values.specs.declared.store.Store.{Store}
use Rattle.ll_values.specs.declared.fold.Source.{Source}
use Rattle.ll_values.specs.declared.form.Kind.{Kind}
use Rattle.ll_values.specs.Growing.{Interns}
use Rattle.ll_values.specs.declared.value.Value as code
use Rattle.ll_values.specs.Values.{Value}
use Rattle.ll_values.specs.Folding.{make, step, fold}
use Rattle.ll_values.specs.Views.{value_view, IsValueIn, IsStoreIn}

abbrev pub name_of : tokens.Token → Name
name_of t = record { start = t.start; end = t.end }

-- the values of a stack, the first of them on top, name what is there
pub record IsStanding (m : Module) (s : Store) (vs : List code.Value) : Type 0 where
  pub store : IsStoreIn m s
  pub values : All (IsValueIn m s) vs

abbrev pub over : Source → Module → Store → List code.Value → List Value
over x m s vs = map (value_view x.bytes.now (trees_of m) s) vs

-- values behind what is made of the first of them, where the module and the store have grown
pub record Puts (bytes : List ℕ) (m n : Module) (s t : Store) (k : Kind) (vs us : List code.Value) : Type 0 where
  pub interns : Interns m n
  pub standing : IsStanding n t us
  pub made : make k (map (value_view bytes (trees_of m) s) vs) ≡ Some (map (value_view bytes (trees_of n) t) us)

-- nothing is made of the first values
abbrev pub MakesNothing : List ℕ → Module → Store → Kind → List code.Value → Type 0
MakesNothing bytes m s k vs = make k (map (value_view bytes (trees_of m) s) vs) ≡ None

-- what an event does to the values behind it, and what events say
abbrev pub step_of : Source → Event → List Value → Option (List Value)
step_of x e vs = step x.kinds.now x.bytes.now x.tokens.now e vs

abbrev pub fold_of : Source → List Event → Option (List Value)
fold_of x es = fold x.kinds.now x.bytes.now x.tokens.now es
