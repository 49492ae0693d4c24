-- Structs with a name: what a store's fields are, what stands for them, and a struct more.
use Rattle.std.proofs.Common.{◌≡◌, ◌<◌, ◌≤◌, ◌^◌, ◌+◌, ◌∙◌, ℕ, suc, true, List, [], ◌∷◌, ◌++◌, Option, Some, None, All, length, map, take, get_or, slice_get, refl, sym, ap, subst, arith, append_assoc}
use Rattle.std.specs.Prelude.{IfSome}
use Rattle.std.specs.List.{filter_map, cons_option}
use Rattle.std.specs.Option.{option_map}
use Rattle.std.proofs.lemmas.List.{append-nil, take_all}
use Rattle.std.proofs.lemmas.Option.{slice_get_within}
use Rattle.std.proofs.lemmas.List.Elements.{All-nil, All-cons, All-head, All-tail, All-append, All-map}
use Rattle.kinds.specs.declared.fitting.Shape.TheVariants as S
use Rattle.kinds.specs.Types.{shape, count_types}
use Rattle.kinds.specs.Fitting.{is_first_class, is_held, is_field}
use Rattle.kinds.specs.Held.{IsHeld}
use Rattle.kinds.specs.Structs.{StructBody, Struct, IsNested}
use Rattle.kinds.proofs.TypeLaws.{and_left}
use Rattle.support.proofs.ListLaws.{item_there}
use Rattle.llvm_core.specs.declared.numbers.LLVMType.{LLVMType}
use Rattle.llvm_core.specs.Module.{Module}
use Rattle.llvm_core.specs.Parts.{shape_at}
use Rattle.llvm_core.specs.Sound.{IsModule}
use Rattle.llvm_core.specs.Data as L
use Rattle.llvm_core.specs.Data.{ModuleData, trees_of}
use Rattle.llvm_core.proofs.WholeTypes.{shape_there}
use Rattle.dialect_types.specs.declared.types.TypeHandle.{TypeHandle}
use Rattle.dialect_types.specs.declared.types.StructFields.{StructFields}
use Rattle.dialect_types.specs.declared.types.TypeKind.{TypeKind}
use Rattle.dialect_types.specs.declared.types.TypeKind.TheVariants as K
use Rattle.dialect_types.specs.Trees.{TypeTree, TypeTrees, NamedType, type_at, types_at, type_tree, type_trees, fields_of, struct_of, structs_of, HasFitParts, HasPartsBelow, IsStored}
use Rattle.dialect_types.proofs.TextLemmas.{AllBelow-more}
use Rattle.dialect_types.proofs.TreeLemmas.{tree_of_kind}
use Rattle.dialect_types.proofs.StoredLaws.{stored_held, stored_nested}
use Rattle.to_llvm_ir.specs.Growth.{AreTypesOf}
use Rattle.to_llvm_ir.specs.Structs.{AreFieldsOf, AddsStructs, HasFewFields, structs_in}
use Rattle.to_llvm_ir.proofs.KindLaws.{all_there}
use Rattle.to_llvm_ir.proofs.ListLaws.{all_at, all_weaker_at, filter_map_more}
use Rattle.to_llvm_ir.proofs.TypeLaws.{same_trees}

-- ---- fields of a store

-- a type of the dialect that may be a field is translated
held_shape : (ts : List TypeTree) (k : TypeKind) → is_field (shape (type_tree ts k)) ≡ true → is_held (shape (type_tree ts k)) ≡ true
held_shape ts (K.Integer w) h = and_left (is_first_class (S.Int w)) true h
held_shape ts (K.Pointer s) h = and_left (is_first_class (S.Pointer s)) true h
held_shape ts (K.Floating of) h = refl
held_shape ts (K.Array t n) h = refl
held_shape ts (K.Vector t n v) h = refl
held_shape ts (K.Struct fields layout) h = refl
held_shape ts (K.Named name body) h = refl
held_shape ts (K.Func r ps v) h = cc
held_shape ts K.Void h = cc

module _ (ks : List TypeKind) (stored : IsStored ks) where
  field_held : (t : TypeHandle) → t.0 < length ks → is_field (shape (type_at (type_trees ks) t)) ≡ true → IsHeld (type_at (type_trees ks) t)
  field_held t lt fit =
      let k = item_there ks t.0 lt in
      let tree = tree_of_kind ks stored.grounded t k.0 k.1 in
      stored_held ks stored t lt (subst (λ (u : TypeTree). is_held (shape u) ≡ true) (sym tree) (held_shape (type_trees ks) k.0 (subst (λ (u : TypeTree). is_field (shape u) ≡ true) tree fit)))

  -- the fields of a struct of the store
  pub named_fields : (i : ℕ) (name : List ℕ) (body : Option StructFields) → slice_get ks i ≡ Some (K.Named name body) → IfSome body (AreFieldsOf ks)
  named_fields i name body at = by body (stored.grounded i (K.Named name body) at) (all_at (HasFitParts (type_trees ks)) ks i (K.Named name body) stored.fit at)
    where
      by : (b : Option StructFields) → HasPartsBelow i (K.Named name b) → HasFitParts (type_trees ks) (K.Named name b) → IfSome b (AreFieldsOf ks)
      by None below fit = tt
      by (Some b) below fit =
          let lt = slice_get_within ks i (K.Named name body) at in
          let within = all_there (length ks) b.types (AllBelow-more i (length ks) b.types (omega (arith, lt)) below) in
          record {
            within = within;
            held = all_weaker_at (λ (t : TypeHandle). is_field (shape (type_at (type_trees ks) t)) ≡ true) (λ (t : TypeHandle). IsHeld (type_at (type_trees ks) t)) b.types fit
                (λ j t here. field_held t (all_at (λ (t : TypeHandle). t.0 < length ks) b.types j t within here));
            fit = fit;
          }

-- ---- the fields that stand for them

fields_in : (m : Module) → IsModule m → (us : List LLVMType) → All (λ (u : LLVMType). u.0 < length m.types) us → All (λ (t : TypeTree). is_field (shape t) ≡ true) (map (L.type_at (trees_of m).types) us)
    → All (λ (u : LLVMType). is_field (shape_at m.types u) ≡ true) us
fields_in m sound [] there fit = All-nil (λ (u : LLVMType). is_field (shape_at m.types u) ≡ true)
fields_in m sound (u ∷ us) there fit =
    let trees = (trees_of m).types in
    All-cons (λ (u : LLVMType). is_field (shape_at m.types u) ≡ true) u us
    (ap is_field (shape_there m sound u (All-head (λ (x : LLVMType). x.0 < length m.types) u us there)) ∙ All-head (λ (t : TypeTree). is_field (shape t) ≡ true) (L.type_at trees u) (map (L.type_at trees) us) fit)
    (fields_in m sound us (All-tail (λ (x : LLVMType). x.0 < length m.types) u us there) (All-tail (λ (t : TypeTree). is_field (shape t) ≡ true) (L.type_at trees u) (map (L.type_at trees) us) fit))

-- they have the trees of those
pub fields_stand : (us ts : List TypeTree) (types : List LLVMType) (b : StructFields) → map (L.type_at us) types ≡ map (type_at ts) b.types → L.fields_of us (record { types = types; layout = b.layout }) ≡ fields_of ts b
fields_stand us ts types b same = ap (λ (fs : TypeTrees). let x : StructBody = record { fields = fs; layout = b.layout } in x) (same_trees us ts types b.types same)

-- and may stand in a struct as those may
pub fields_fit : (m : Module) → IsModule m → (us : List LLVMType) (ts : List TypeTree) (xs : List TypeHandle) → AreTypesOf m us (map (type_at ts) xs) → All (λ (t : TypeHandle). is_field (shape (type_at ts t)) ≡ true) xs
    → All (λ (u : LLVMType). is_field (shape_at m.types u) ≡ true) us
fields_fit m sound us ts xs are fit = fields_in m sound us are.0 (subst (All (λ (t : TypeTree). is_field (shape t) ≡ true)) (sym are.1) (All-map (λ (t : TypeTree). is_field (shape t) ≡ true) (type_at ts) xs fit))

-- ---- a struct more

count_is : (ts : List TypeTree) (xs : List TypeHandle) → count_types (types_at ts xs) ≡ length xs
count_is ts [] = refl
count_is ts (x ∷ xs) = let e = count_is ts xs in omega (arith, e)

few_fields : (ts : List TypeTree) (name : List ℕ) (body : Option StructFields) → IfSome body (λ (b : StructFields). length b.types < 2 ^ 30) → HasFewFields (record { name = name; body = option_map (fields_of ts) body })
few_fields ts name None few = omega arith
few_fields ts name (Some b) few = let count = count_is ts b.types in omega (arith, few, count)

pub adds_one : (ts : List TypeTree) (name : List ℕ) (body : Option StructFields) (old middle new : ModuleData) (made : Option StructBody) (text : List ℕ) → text ≡ name → IfSome body (λ (b : StructFields). length b.types < 2 ^ 30)
    → middle ≡ old → made ≡ option_map (fields_of ts) body → new ≡ L.with_struct middle (record { name = text; body = made })
    → AddsStructs (record { name = name; body = option_map (fields_of ts) body } ∷ []) old new
adds_one ts name body old middle new made text spelled few same fields is =
    let s : Struct = record { name = name; body = option_map (fields_of ts) body } in
    record {
      is = is ∙ ap (λ (n : List ℕ). L.with_struct middle (record { name = n; body = made })) spelled ∙ ap (λ (d : ModuleData). L.with_struct d (record { name = name; body = made })) same
          ∙ ap (λ (b : Option StructBody). L.with_struct old (record { name = name; body = b })) fields;
      few = All-cons HasFewFields s [] (few_fields ts name body few) (All-nil HasFewFields);
    }

pub adds_none : (d : ModuleData) → AddsStructs [] d d
adds_none d = record {
  is = ap (λ (ss : List Struct). record d { structs = ss }) (sym (append-nil d.structs));
  few = All-nil HasFewFields;
}

abbrev with_more : List Struct → ModuleData → ModuleData
with_more ss d = record d { structs = d.structs ++ ss }

adds_both : (xs ys : List Struct) (old middle new : ModuleData) → AddsStructs xs old middle → AddsStructs ys middle new → AddsStructs (xs ++ ys) old new
adds_both xs ys old middle new a b = record {
  is = b.is ∙ ap (with_more ys) a.is ∙ ap (λ (ss : List Struct). record old { structs = ss }) (append_assoc old.structs xs ys);
  few = All-append HasFewFields xs ys a.few b.few;
}

-- ---- the types of a store, one after another

-- a struct with a name is one, and no other type is
pub one_named : (ks : List TypeKind) (k : TypeKind) (name : List ℕ) (body : Option StructFields) → k ≡ K.Named name body → structs_in ks (k ∷ []) ≡ record { name = name; body = option_map (fields_of (type_trees ks)) body } ∷ []
one_named ks k name body is = ap (λ (x : TypeKind). structs_in ks (x ∷ [])) is

pub none_named : (ks : List TypeKind) (k : TypeKind) → ((name : List ℕ) (body : Option StructFields) → k ≡ K.Named name body → ⊥) → structs_in ks (k ∷ []) ≡ []
none_named ks (K.Named name body) other = absurd (other name body refl)
none_named ks k other = refl

pub adds_more : (ks : List TypeKind) (i : ℕ) (d : TypeKind) (old middle new : ModuleData) → i < length ks → AddsStructs (structs_in ks (take i ks)) old middle → AddsStructs (structs_in ks (get_or ks i d ∷ [])) middle new → AddsStructs (structs_in ks (take (i + 1) ks)) old new
adds_more ks i d old middle new lt before one =
    subst (λ (more : List Struct). AddsStructs more old new) (sym (filter_map_more (struct_of (type_trees ks)) ks i d lt))
    (adds_both (structs_in ks (take i ks)) (structs_in ks (get_or ks i d ∷ [])) old middle new before one)

pub adds_all : (ks : List TypeKind) (i : ℕ) (old new : ModuleData) → length ks ≤ i → AddsStructs (structs_in ks (take i ks)) old new → AddsStructs (structs_of ks) old new
adds_all ks i old new whole h = subst (λ (xs : List TypeKind). AddsStructs (structs_in ks xs) old new) (take_all i ks whole) h

-- ---- the types of structs

-- what holds of each type of a struct with a name holds of these types, one by one
each_named : (P : TypeTree → Type 0) (ts : List TypeTree) (ks : List TypeKind) → ((i : ℕ) (name : List ℕ) (body : Option StructFields) → slice_get ks i ≡ Some (K.Named name body) → P (NamedType name))
    → All P (map (λ (s : Struct). NamedType s.name) (filter_map (struct_of ts) ks))
each_named P ts [] h = All-nil P
each_named P ts (k ∷ ks) h = by k (h 0) (filter_map (struct_of ts) ks) (each_named P ts ks (λ i. h (suc i)))
  where
    by : (l : TypeKind) → ((name : List ℕ) (body : Option StructFields) → Some l ≡ Some (K.Named name body) → P (NamedType name)) → (rest : List Struct) → All P (map (λ (s : Struct). NamedType s.name) rest)
        → All P (map (λ (s : Struct). NamedType s.name) (cons_option (struct_of ts l) rest))
    by (K.Named name body) own rest later = All-cons P (NamedType name) (map (λ (s : Struct). NamedType s.name) rest) (own name body refl) later
    by l own rest later = later

-- the structs of a store nest
pub structs_nested : (ks : List TypeKind) → IsStored ks → All (IsNested (structs_of ks)) (map (λ (s : Struct). NamedType s.name) (structs_of ks))
structs_nested ks stored = each_named (IsNested (structs_of ks)) (type_trees ks) ks
    (λ i name body at.
    let t : TypeHandle = record { 0 = i } in
    subst (IsNested (structs_of ks)) (tree_of_kind ks stored.grounded t (K.Named name body) at) (stored_nested ks stored t (slice_get_within ks i (K.Named name body) at)))
