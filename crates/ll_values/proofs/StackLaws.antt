-- One alternative, on values over a module and a store; and all events.
use Rattle.std.proofs.Common.{◌≡◌, ◌<◌, ℕ, suc, ◌+◌, List, [], ◌∷◌, ◌++◌, length, map, take, drop, slice_index_or, Some, None, refl, ap, sym, ◌∙◌, subst, arith, drop-cons, All}
use Rattle.std.proofs.lemmas.List.{take-map, drop-map}
use Rattle.std.proofs.lemmas.List.Elements.{All-take, All-drop, All-cons}
use Rattle.grammars.specs.declared.symbols.Event.{Event}
use Rattle.llvm_core.specs.Module.{Module}
use Rattle.llvm_core.specs.Data.{trees_of}
use Rattle.ll_values.specs.declared.form.Kind.{Kind}
use Rattle.ll_values.specs.declared.store.Store.{Store}
use Rattle.ll_values.specs.declared.fold.Source.{Source}
use Rattle.ll_values.specs.declared.value.Value as code
use Rattle.ll_values.specs.Parts.{part_count}
use Rattle.ll_values.specs.Values.{Value, value_by}
use Rattle.ll_values.specs.Folding.{make, fold}
use Rattle.ll_values.specs.Views.{value_view, IsValueIn, IsStoreIn}
use Rattle.ll_values.specs.Growing.{Interns, Keeps, Kept, Makes}
use Rattle.ll_values.specs.Stack.{IsStanding, Puts, MakesNothing, step_of, fold_of}
use Rattle.ll_values.proofs.GrowLaws.{none_interned}
use Rattle.ll_values.proofs.KeepLaws.{values_same, values_there}

module _ (bytes : List ℕ) (k : Kind) (m : Module) (s : Store) (vs : List code.Value) where
  took : (n : Module) (t : Store) → Interns m n → Keeps s t → IsStoreIn m s → All (IsValueIn m s) vs → (v : code.Value) → value_by k (map (value_view bytes (trees_of m) s) (take (part_count k) vs)) ≡ Some (value_view bytes (trees_of n) t v)
      → make k (map (value_view bytes (trees_of m) s) vs) ≡ Some (map (value_view bytes (trees_of n) t) (v ∷ drop (part_count k) vs))
  took n t g keeps st all v made =
      let rest : map (value_view bytes (trees_of n) t) (drop (part_count k) vs) ≡ map (value_view bytes (trees_of m) s) (drop (part_count k) vs) = values_same bytes m n s t g keeps st (drop (part_count k) vs) (All-drop (IsValueIn m s) (part_count k) vs all) in
      rw (take-map (value_view bytes (trees_of m) s) (part_count k) vs, drop-map (value_view bytes (trees_of m) s) (part_count k) vs, made, rest) refl

  -- what is made of the values that stand first is put in their place
  pub puts : (n : Module) (t : Store) (ps us : List code.Value) (v : code.Value) → IsStanding m s vs → ps ≡ take (part_count k) vs → Makes bytes m n s t k ps v → us ≡ v ∷ drop (part_count k) vs → Puts bytes m n s t k vs us
  puts n t ps us v st parts h new =
      let rest = values_there bytes m n s t h.interns h.keeps st.store (drop (part_count k) vs) (All-drop (IsValueIn m s) (part_count k) vs st.values) in
      let made = subst (λ (xs : List code.Value). value_by k (map (value_view bytes (trees_of m) s) xs) ≡ Some (value_view bytes (trees_of n) t v)) parts h.value in
      rw new (record {
        interns = h.interns;
        standing = record { store = h.store; values = All-cons (IsValueIn n t) v (drop (part_count k) vs) h.there rest };
        made = took n t h.interns h.keeps st.store st.values v made;
      })

  -- so is what is kept of them
  pub puts_kept : (t : Store) (ps us : List code.Value) (made : Value) (v : code.Value) → IsStanding m s vs → ps ≡ take (part_count k) vs → value_by k (map (value_view bytes (trees_of m) s) ps) ≡ Some made
      → Kept bytes m s t made v → us ≡ v ∷ drop (part_count k) vs → Puts bytes m m s t k vs us
  puts_kept t ps us made v st parts says h new =
      puts m t ps us v st parts (record { interns = none_interned m st.store.sound; store = h.store; keeps = h.keeps; there = h.there; value = says ∙ ap Some (sym h.value) }) new

  pub puts_none : (ps : List code.Value) → ps ≡ take (part_count k) vs → value_by k (map (value_view bytes (trees_of m) s) ps) ≡ None → MakesNothing bytes m s k vs
  puts_none ps parts none =
      let made = subst (λ (xs : List code.Value). value_by k (map (value_view bytes (trees_of m) s) xs) ≡ None) parts none in
      rw (take-map (value_view bytes (trees_of m) s) (part_count k) vs, made) refl

-- what stands first is there as all that stands
pub parts_there : (P : code.Value → Type 0) (n : ℕ) (vs ps : List code.Value) → All P vs → ps ≡ take n vs → All P ps
parts_there P n vs ps h parts = rw parts (All-take P n vs h)

-- ---- all events

pub none_behind : (x : Source) (es fs : List Event) → fold_of x fs ≡ None → fold_of x (es ++ fs) ≡ None
unfolding fold
none_behind x [] fs h = h
none_behind x (e ∷ es) fs h = rw (none_behind x es fs h) refl

one_step : (x : Source) (e : Event) (es : List Event) (vs : List Value) → fold_of x es ≡ Some vs → fold_of x (e ∷ es) ≡ step_of x e vs
unfolding fold
one_step x e es vs h = rw h refl

pub no_events : (x : Source) → fold_of x [] ≡ Some []
unfolding fold
no_events x = refl

pub before : (x : Source) (es : List Event) (i : ℕ) (d : Event) (vs : List Value) → i < length es → fold_of x (drop (i + 1) es) ≡ Some vs → fold_of x (drop i es) ≡ step_of x (slice_index_or es i d) vs
before x es i d vs inside h =
    let one : suc i ≡ i + 1 = omega arith in
    let cut : drop i es ≡ slice_index_or es i d ∷ drop (i + 1) es = drop-cons es i d inside ∙ ap (λ (j : ℕ). slice_index_or es i d ∷ drop j es) one in
    rw cut (one_step x (slice_index_or es i d) (drop (i + 1) es) vs h)
