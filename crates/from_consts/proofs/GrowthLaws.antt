-- What was given stays right while a context gets more types, structs and names; what is inside a type that was given was given.
use Rattle.std.proofs.Common.{ℕ, ◌≡◌, ◌<◌, ◌⊎◌, inl, inr, ◌∙◌, refl, sym, ap, subst, List, [], ◌++◌, Option, Some, None, length, slice_get, slice_set, get_or, arith}
use Rattle.std.specs.Option.{option_and_then}
use Rattle.std.proofs.lemmas.Bool.{cases_order}
use Rattle.std.proofs.lemmas.Option.{same_Some, slice_get-get_or}
use Rattle.support.proofs.ListLaws.{item_there, slice_get-set_cases, slice_get-set_other, slice_get-set_same}
use Rattle.kinds.specs.Structs.{Struct, struct_in}
use Rattle.llvm_core.specs.declared.numbers.LLVMType.{LLVMType}
use Rattle.llvm_core.specs.Module.{Module}
use Rattle.llvm_core.specs.Data as L
use Rattle.llvm_core.specs.Data.{trees_of}
use Rattle.dialect_types.specs.declared.types.TypeHandle.{TypeHandle}
use Rattle.dialect_types.specs.declared.types.TypeKind.{TypeKind}
use Rattle.dialect_types.specs.Legalised.{Named, GoesOn, IsLegalised}
use Rattle.dialect_types.specs.Trees.{structs_of}
use Rattle.from_consts.specs.declared.const_context.ConstContext.{ConstContext}
use Rattle.from_consts.specs.Types.{MoreTypes}
use Rattle.from_consts.specs.Parts.{IsWithin, Itself, Inside}
use Rattle.from_consts.specs.Given.{given_at, IsMade, IsGiven, IsReady, IsContextFor, StandsFor}
use Rattle.from_consts.proofs.NameLaws.{converted_kept, found_before, known_kept, type_kept}

-- ---- options

pub some_there : {X : Type 0} (o : Option X) → ¬ (o ≡ None) → (x : X) × (o ≡ Some x)
some_there None h = absurd (h refl)
some_there (Some x) h = (x, refl)

pub not_none : {X : Type 0} (o : Option X) (x : X) → o ≡ Some x → ¬ (o ≡ None)
not_none o x is none = let e : Some x ≡ None = sym is ∙ none in cc

-- ---- what stays

-- more is known of the second than of the first
pub record Keeps (x y : ConstContext) : Type 0 where
  pub names : GoesOn x.names y.names
  pub kept : (t : LLVMType) (h : TypeHandle) → given_at x t ≡ Some h → given_at y t ≡ Some h

module _ (m : Module) where
  pub made_kept : (x y : List Named) (old new more : List Struct) (n : List ℕ) → GoesOn x y → new ≡ old ++ more → IsMade m x old n → IsMade m y new n
  made_kept x y old new more n goes grown (s, is, there) =
      (s, converted_kept x y (L.structs_of m) n s goes is, subst (λ (ss : List Struct). struct_in ss s.name ≡ Some s) (sym grown) (found_before old more s.name s there))

  pub given_still : (x y : ConstContext) → Keeps x y → (u : LLVMType) → ¬ (given_at x u ≡ None) → ¬ (given_at y u ≡ None)
  given_still x y k u there = let h = some_there (given_at x u) there in not_none (given_at y u) h.0 (k.kept u h.0 h.1)

  pub given_kept : (old new : List TypeKind) (more : List Struct) (x y : ConstContext) → MoreTypes old new → structs_of new ≡ structs_of old ++ more → Keeps x y → (t : LLVMType) (h : TypeHandle) → IsGiven m old x t h → IsGiven m new y t h
  given_kept old new more x y types structs k t h g = record {
    within = omega (arith, g.within, types.longer);
    is = types.kept h g.within ∙ g.is ∙ sym (type_kept x.names y.names (L.type_at (trees_of m).types t) k.names g.known);
    known = known_kept x.names y.names (L.type_at (trees_of m).types t) k.names g.known;
    parts = λ u part. given_still x y k u (g.parts u part);
    struct = λ n named. made_kept x.names y.names (structs_of old) (structs_of new) more n k.names structs (g.struct n named);
    own = g.own;
  }

  -- a context stays one for the module where nothing but types of the context and names are new
  pub context_kept : (old new : List TypeKind) (more : List Struct) (x y : ConstContext) → MoreTypes old new → structs_of new ≡ structs_of old ++ more → GoesOn x.names y.names → IsLegalised y.names
      → ((t : LLVMType) → given_at y t ≡ given_at x t) → ((y.given.items ≡ []) ⊎ IsReady m y) → IsContextFor m old x → IsContextFor m new y
  context_kept old new more x y types structs goes legal same ready c = record {
    legal = legal;
    ready = ready;
    each = λ t h at. given_kept old new more x y types structs (record { names = goes; kept = λ u i here. same u ∙ here }) t h (c.each t h (sym (same t) ∙ at));
  }

  -- ---- what is inside

  module _ (ks : List TypeKind) (c : ConstContext) (context : IsContextFor m ks c) where
    pub inside_given : (u t : LLVMType) → IsWithin m u t → ¬ (given_at c t ≡ None) → ¬ (given_at c u ≡ None)
    inside_given u _ Itself there = there
    inside_given u _ (Inside t v part inside) there = let h = some_there (given_at c t) there in inside_given u v inside ((context.each t h.0 h.1).parts v part)

    pub stands_given : (t : LLVMType) (h : TypeHandle) → given_at c t ≡ Some h → StandsFor m c.names ks t h
    stands_given t h at =
        let here = context.each t h at in
        let there = not_none (given_at c t) h at in
        record {
          within = here.within;
          is = here.is;
          structs = λ n (u, inside, named). let k = some_there (given_at c u) (inside_given u t inside there) in (context.each u k.0 k.1).struct n named;
          none = λ u of inside. let k = some_there (given_at c u) (inside_given u t inside there) in (context.each u k.0 k.1).own of;
        }

-- ---- a number that has no type

none_at : (xs : List (Option TypeHandle)) (i : ℕ) (o : Option TypeHandle) → i < length xs → o ≡ get_or xs i o → o ≡ None → option_and_then (λ (p : Option TypeHandle). p) (slice_get xs i) ≡ None
none_at xs i o lt is none = ap (option_and_then (λ (p : Option TypeHandle). p)) (slice_get-get_or xs i o lt ∙ ap (λ (p : Option TypeHandle). Some p) (sym is ∙ none))

pub unknown_at : (c : ConstContext) (t : LLVMType) (o : Option TypeHandle) → t.0 < length c.given.items → o ≡ get_or c.given.items t.0 o → o ≡ None → given_at c t ≡ None
unknown_at c t o lt is none = none_at c.given.items t.0 o lt is none

-- ---- one number more

join_some : {X : Type 0} (o : Option (Option X)) (x : X) → option_and_then (λ (p : Option X). p) o ≡ Some x → o ≡ Some (Some x)
join_some None x e = cc
join_some (Some None) x e = cc
join_some (Some (Some y)) x e = ap (λ (p : Option _). Some p) e

some_join : {X : Type 0} (o : Option (Option X)) (x : X) → o ≡ Some (Some x) → option_and_then (λ (p : Option X). p) o ≡ Some x
some_join o x e = ap (option_and_then (λ (p : Option _). p)) e

module _ (y z : ConstContext) (t : LLVMType) (h : TypeHandle) (set : z.given.items ≡ slice_set y.given.items t.0 (Some h)) (within : t.0 < length y.given.items) where
  pub set_here : given_at z t ≡ Some h
  set_here =
      let was = item_there y.given.items t.0 within in
      some_join (slice_get z.given.items t.0) h (ap (λ (gs : List (Option TypeHandle)). slice_get gs t.0) set ∙ slice_get-set_same y.given.items t.0 was.0 (Some h) was.1)

  pub set_other : (u : LLVMType) → ¬ (u.0 ≡ t.0) → given_at z u ≡ given_at y u
  set_other u other = ap (λ (gs : List (Option TypeHandle)). option_and_then (λ (p : Option TypeHandle). p) (slice_get gs u.0)) set ∙ ap (option_and_then (λ (p : Option TypeHandle). p)) (slice_get-set_other y.given.items t.0 u.0 (Some h) other)

  pub set_cases : (u : LLVMType) (k : TypeHandle) → given_at z u ≡ Some k → ((u ≡ t) × (k ≡ h)) ⊎ (given_at y u ≡ Some k)
  set_cases u k at =
      let here = ap (λ (gs : List (Option TypeHandle)). slice_get gs u.0) (sym set) ∙ join_some (slice_get z.given.items u.0) k at in
      elim (slice_get-set_cases y.given.items t.0 u.0 (Some h) (Some k) here) [
        | inl new ↦ inl (ap number new.0, same_Some k h new.1)
        | inr old ↦ inr (some_join (slice_get y.given.items u.0) k old)
      ]
    where
      number : ℕ → LLVMType
      number n = record { 0 = n }

  pub set_still : (u : LLVMType) → ¬ (given_at y u ≡ None) → ¬ (given_at z u ≡ None)
  set_still u there = elim (cases_order u.0 t.0) [
    | inl same ↦ λ none. not_none (given_at z t) h set_here (ap (λ (n : ℕ). let v : LLVMType = record { 0 = n } in given_at z v) (sym same) ∙ none)
    | inr other ↦ (
        elim other [
          | inl below ↦ still (λ same. omega (arith, below, same))
          | inr above ↦ still (λ same. omega (arith, above, same))
        ]
        )
  ]
    where
      still : ¬ (u.0 ≡ t.0) → ¬ (given_at z u ≡ None)
      still apart none = there (sym (set_other u apart) ∙ none)
