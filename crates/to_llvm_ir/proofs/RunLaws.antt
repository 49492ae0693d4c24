-- A map of which the runs are empty, and nothing else is mapped.
use Rattle.std.proofs.Common.{◌≡◌, ◌-◌, ℕ, Bool, true, false, nat_eq, nat_le, if◌then◌else◌, List, [], ◌∷◌, Option, None, slice_get, ap, ◌∙◌, refl}
use Rattle.support.specs.Options.{or_else}
use Rattle.dialect_core.specs.declared.ops.Value.{Value}
use Rattle.dialect_core.specs.declared.ops.Value.TheVariants.{Result, Argument}
use Rattle.dialect_core.specs.ValueMaps.{mapped}
use Rattle.to_llvm_ir.specs.declared.run_map.RunMap.{RunMap}
use Rattle.to_llvm_ir.specs.RunMaps.{looked_up}

-- a list of no values says nothing
empty_list : {V : Type 0} (t : Bool) (xs : List V) (i : ℕ) → xs ≡ [] → (if t then slice_get xs i else None) ≡ None
empty_list false xs i e = refl
empty_list true [] i e = refl
empty_list true (x ∷ xs) i e = cc

pub none_looked_up : {V : Type 0} (m : RunMap V) → m.run.items ≡ [] → m.arguments.items ≡ [] → ((v : Value) → mapped m.others v ≡ None) → (v : Value) → looked_up m v ≡ None
none_looked_up m e e' none (Result o) = ap (λ (x : Option _). or_else x (mapped m.others (Result o))) (empty_list (nat_le m.first o.0) m.run.items (o.0 - m.first) e) ∙ none (Result o)
none_looked_up m e e' none (Argument b i) = ap (λ (x : Option _). or_else x (mapped m.others (Argument b i))) (empty_list (nat_eq m.block.0 b.0) m.arguments.items i e') ∙ none (Argument b i)
