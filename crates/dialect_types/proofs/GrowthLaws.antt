-- A store that grows.
use Rattle.std.proofs.Common.{◌≡◌, ◌<◌, ◌≤◌, ℕ, List, [], ◌∷◌, ◌++◌, length, refl, sym, ap, ◌∙◌, inl, inr, Result, Ok, Err, IfOk, arith, append_assoc, length-append}
use Rattle.std.specs.Prelude.{OnErr}
use Rattle.std.proofs.lemmas.List.{append-nil}
use Rattle.std.proofs.lemmas.Option.{slice_get_within}
use Rattle.support.specs.Interned.{Interned}
use Rattle.dialect_types.specs.declared.types.TypeHandle.{TypeHandle}
use Rattle.dialect_types.specs.declared.types.TypeKind.{TypeKind}
use Rattle.dialect_types.specs.Trees.{Grows, type_at, type_trees, structs_of}
use Rattle.dialect_types.proofs.TreeLemmas.{kept_tree}

pub grows_not : (xs : List TypeKind) → Grows xs xs
grows_not xs = record { more = []; is = sym (append-nil xs); structs = refl }

pub grows_then : (xs ys zs : List TypeKind) → Grows xs ys → Grows ys zs → Grows xs zs
grows_then xs ys zs g h = record { more = g.more ++ h.more; is = h.is ∙ ap (λ (x : List TypeKind). x ++ h.more) g.is ∙ append_assoc xs g.more h.more; structs = h.structs ∙ g.structs }

pub grows_by : (xs ys : List TypeKind) (k : TypeKind) (n : ℕ) → Interned xs ys k n → structs_of ys ≡ structs_of xs → Grows xs ys
grows_by xs ys k n h same_structs = elim h.only [
  | inl same ↦ record { more = []; is = same ∙ sym (append-nil xs); structs = same_structs }
  | inr grown ↦ record { more = k ∷ []; is = grown; structs = same_structs }
]

pub grows_same : (xs ys : List TypeKind) → ys ≡ xs → Grows xs ys
grows_same xs ys e = record { more = []; is = e ∙ sym (append-nil xs); structs = ap structs_of e }

pub grown_length : (old new : List TypeKind) → Grows old new → length old ≤ length new
grown_length old new g = omega (arith, ap length g.is, length-append old g.more)

pub got_within : (old new : List TypeKind) (k : TypeKind) (t : TypeHandle) → Interned old new k t.0 → t.0 < length new
got_within old new k t g = slice_get_within new t.0 k g.here

-- the earlier numbers keep their trees
pub grown_trees : (old new : List TypeKind) → Grows old new → (t : TypeHandle) → t.0 < length old → type_at (type_trees new) t ≡ type_at (type_trees old) t
grown_trees old new g t h = ap (λ (x : List TypeKind). type_at (type_trees x) t) g.is ∙ kept_tree old g.more t h

-- a type was asked for
pub grows_got : {E : Type 0} (r : Result TypeHandle E) (old new : List TypeKind) (k : TypeKind) → IfOk r (λ t. Interned old new k t.0) → structs_of new ≡ structs_of old → OnErr r (new ≡ old) → Grows old new
grows_got (Ok t) old new k got structs same = grows_by old new k t.0 got structs
grows_got (Err e) old new k got structs same = grows_same old new same
