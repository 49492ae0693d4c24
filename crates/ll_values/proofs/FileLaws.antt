-- A file that is the only value of a stack.
use Rattle.std.proofs.Common.{◌≡◌, ◌≤◌, ℕ, List, [], ◌∷◌, length, map, reverse, Option, Some, refl, ap, sym, ◌∙◌, subst, All}
use Rattle.std.proofs.lemmas.List.{reverse-reverse}
use Rattle.std.proofs.lemmas.List.Elements.{All-head}
use Rattle.llvm_core.specs.Module.{Module}
use Rattle.llvm_core.specs.Data.{Trees}
use Rattle.ll_lines.specs.declared.names.Name.{Name}
use Rattle.ll_lines.specs.Lines.{File}
use Rattle.ll_values.specs.declared.store.Store.{Store}
use Rattle.ll_values.specs.declared.value.Value as code
use Rattle.ll_values.specs.declared.value.Value.TheVariants as V
use Rattle.ll_values.specs.Values.{Value, FileV}
use Rattle.ll_values.specs.Views.{value_view, IsValueIn}

-- only a file says one
from_file : (bytes : List ℕ) (t : Trees) (s : Store) (v : code.Value) (f : File) → value_view bytes t s v ≡ FileV f → (name : Option Name) × (k : ℕ) × (n : ℕ) × (v ≡ V.File name k n)
from_file bytes t s (V.File name k n) f e = (name, k, n, refl)
from_file bytes t s _ f e = absurd cc

single : {X Y : Type 0} (g : X → Y) (xs : List X) (y : Y) → map g xs ≡ y ∷ [] → (x : X) × (xs ≡ x ∷ []) × (g x ≡ y)
single g [] y e = absurd cc
single g (x ∷ []) y e = (x, refl, cc)
single g (x ∷ z ∷ xs) y e = absurd cc

turned : (vs : List code.Value) (v : code.Value) → vs ≡ v ∷ [] → reverse vs ≡ v ∷ []
turned vs v e = ap (λ (xs : List code.Value). reverse xs) e

-- where values say a file, a file is the only one
pub no_file : (bytes : List ℕ) (t : Trees) (s : Store) (vs us : List code.Value) (r : Option (List Value)) → us ≡ vs → r ≡ Some (map (value_view bytes t s) (reverse vs)) → ((name : Option Name) (k n : ℕ) → us ≡ V.File name k n ∷ [] → ⊥) → (f : File) → r ≡ Some (FileV f ∷ []) → ⊥
no_file bytes t s vs us r same says none f e =
    let values : map (value_view bytes t s) (reverse vs) ≡ FileV f ∷ [] = cc in
    let x = single (value_view bytes t s) (reverse vs) (FileV f) values in
    let y = from_file bytes t s x.0 f x.2 in
    let back : vs ≡ x.0 ∷ [] = sym (reverse-reverse vs) ∙ turned (reverse vs) x.0 x.1 in
    absurd (none y.0 y.1 y.2 (same ∙ back ∙ ap (λ (v : code.Value). v ∷ []) y.3))

pub is_file : (bytes : List ℕ) (t : Trees) (s : Store) (vs us : List code.Value) (r : Option (List Value)) (name : Option Name) (k n : ℕ) (file : File) → us ≡ vs → r ≡ Some (map (value_view bytes t s) (reverse vs)) → us ≡ V.File name k n ∷ [] → FileV file ≡ value_view bytes t s (V.File name k n) → r ≡ Some (FileV file ∷ [])
is_file bytes t s vs us r name k n file same says is view = says ∙ rw (turned vs (V.File name k n) (sym same ∙ is), view) refl

pub lists_there : (m : Module) (s : Store) (vs us : List code.Value) (name : Option Name) (k n : ℕ) → us ≡ vs → us ≡ V.File name k n ∷ [] → All (IsValueIn m s) (reverse vs) → (k ≤ length s.structs) × (n ≤ length s.functions)
lists_there m s vs us name k n same is h = All-head (IsValueIn m s) (V.File name k n) [] (subst (All (IsValueIn m s)) (turned vs (V.File name k n) (sym same ∙ is)) h)
