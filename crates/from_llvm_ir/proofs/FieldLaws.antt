-- What the fields of structs hold, and what stands for them in a context that has more types.
use Rattle.std.proofs.Common.{arith, ◌≡◌, ◌<◌, ◌≤◌, inl, inr, ℕ, zero, suc, Bool, true, false, ◌&&◌, refl, sym, ap, subst, ◌∙◌, List, [], ◌∷◌, ◌++◌, map, length, slice_get, Bor, Option, Some, None, All, length-append}
use Rattle.std.specs.Prelude.{IfSome}
use Rattle.std.specs.Option.{option_map, option_map_or}
use Rattle.std.specs.List.{flat_map}
use Rattle.std.proofs.lemmas.List.Elements.{All-nil, All-cons, All-head, All-tail}
use Rattle.std.proofs.lemmas.Option.{same_Some, slice_get-map}
use Rattle.support.specs.Interned.{Interned}
use Rattle.support.proofs.InternedLaws.{interned_kept}
use Rattle.support.proofs.ListLaws.{slice_get-kept}
use Rattle.support.proofs.OptionLaws.{part_of}
use Rattle.kinds.specs.declared.fitting.Shape.{Shape}
use Rattle.kinds.specs.declared.fitting.Shape.TheVariants as S
use Rattle.kinds.specs.declared.types.OtherType.{OtherType}
use Rattle.kinds.specs.Types.{TypeTree, RefusedType, NamedType, TypeTrees, NoTypes, ThenType, shape, types_list}
use Rattle.kinds.specs.Fitting.{is_first_class, is_held, is_field}
use Rattle.kinds.specs.Held.{throughout, each_throughout, IsHeld, refused_of}
use Rattle.kinds.specs.Structs.{StructBody, Struct, struct_in, each_type, each_field, nests, IsNested, renamed_body, renamed_struct, InField, IsFormStruct}
use Rattle.kinds.proofs.TypeLaws.{and_left, and_right}
use Rattle.kinds.proofs.PartLaws.{first_held}
use Rattle.kinds.proofs.HeldLaws.{held_by, held_shape}
use Rattle.kinds.proofs.NestLaws.{each_weaker, nests_more, nested_shallow}
use Rattle.kinds.proofs.RenamedLaws.{holds_through, refused_held}
use Rattle.llvm_core.specs.declared.numbers.LLVMType.{LLVMType}
use Rattle.llvm_core.specs.declared.structs.StructFields.{StructFields}
use Rattle.llvm_core.specs.declared.structs.StructData.{StructData}
use Rattle.llvm_core.specs.Module.{Module}
use Rattle.llvm_core.specs.Data as L
use Rattle.llvm_core.specs.Data.{ModuleData, trees_of}
use Rattle.llvm_core.specs.Form.{IsForm, constant_types, types_in}
use Rattle.llvm_core.proofs.DataLemmas.{within_at}
use Rattle.dialect_types.specs.declared.types.TypeHandle.{TypeHandle}
use Rattle.dialect_types.specs.declared.types.TypeKind.{TypeKind}
use Rattle.dialect_types.specs.declared.types.StructFields.{StructFields as MadeFields}
use Rattle.dialect_types.specs.Trees.{type_at, types_at, type_trees, fields_of}
use Rattle.dialect_core.specs.ContextData.{ContextData}
use Rattle.held_types.specs.Held.{HasTypeWith, AreHeld}
use Rattle.renamed_source.specs.Names.{renamed_store}
use Rattle.renamed_source.proofs.DataLaws.{renamed_types_at}
use Rattle.from_llvm_ir.specs.Types.{AddsTypes}
use Rattle.from_llvm_ir.proofs.TypeLaws.{listed, params_are}

-- ---- the fields of a struct

each_at : (p : TypeTree → Bool) (ts : TypeTrees) → each_type p ts ≡ true → (i : ℕ) (t : TypeTree) → slice_get (types_list ts) i ≡ Some t → p t ≡ true
each_at p NoTypes h i t at = cc
each_at p (ThenType u ts) h zero t at = subst (λ (x : TypeTree). p x ≡ true) (same_Some u t at) (and_left (p u) (each_type p ts) h)
each_at p (ThenType u ts) h (suc i) t at = each_at p ts (and_right (p u) (each_type p ts) h) i t at

each_throughout_at : (p : Shape → Bool) (ts : TypeTrees) → each_throughout p ts ≡ true → (i : ℕ) (t : TypeTree) → slice_get (types_list ts) i ≡ Some t → throughout p t ≡ true
each_throughout_at p NoTypes h i t at = cc
each_throughout_at p (ThenType u ts) h zero t at =
    subst (λ (x : TypeTree). throughout p x ≡ true) (same_Some u t at)
    (and_right (is_field (shape u)) (throughout p u) (and_left (is_field (shape u) && throughout p u) (each_throughout p ts) h))
each_throughout_at p (ThenType u ts) h (suc i) t at = each_throughout_at p ts (and_right (is_field (shape u) && throughout p u) (each_throughout p ts) h) i t at

-- they nest no deeper than the type that names the struct
fields_nest : (structs : List Struct) (n : ℕ) (name : List ℕ) (s : Struct) (b : StructBody) → nests structs n (NamedType name) ≡ true → struct_in structs name ≡ Some s → s.body ≡ Some b → each_type (nests structs n) b.fields ≡ true
fields_nest structs zero name s b h is has = cc
fields_nest structs (suc n) name s b h is has =
    let there : each_field (nests structs n) s ≡ true = subst (λ (o : Option Struct). option_map_or (each_field (nests structs n)) o false ≡ true) is h in
    let inner : each_type (nests structs n) b.fields ≡ true = subst (λ (o : Option StructBody). option_map_or (λ (x : StructBody). each_type (nests structs n) x.fields) o true ≡ true) has there in
    each_weaker (nests structs n) (nests structs (suc n)) (nests_more structs n) b.fields inner

-- the type of a field stands among those of the fields
pub field_listed : (trees : List TypeTree) (ts : List LLVMType) (i : ℕ) (t : LLVMType) → slice_get ts i ≡ Some t → slice_get (types_list (L.types_at trees ts)) i ≡ Some (L.type_at trees t)
field_listed trees ts i t at = ap (λ (us : List TypeTree). slice_get us i) (sym (listed trees ts)) ∙ slice_get-map (λ (u : LLVMType). L.type_at trees u) ts i ∙ ap (option_map (λ (u : LLVMType). L.type_at trees u)) at

module _ (d : ModuleData) (form : IsForm d) (taken : AreHeld d) where
  abbrev named_types : List TypeTree
  named_types = map (λ (s : Struct). NamedType s.name) d.structs

  struct_nested : (k : ℕ) (s : Struct) → slice_get d.structs k ≡ Some s → IsNested d.structs (NamedType s.name)
  struct_nested k s at =
      let fs = map (λ (f : L.Function). f.type) d.functions in
      let ps = map (λ (p : L.Placed). p.type) (flat_map L.placed_in d.functions) in
      let here = slice_get-map (λ (s : Struct). NamedType s.name) d.structs k ∙ ap (option_map (λ (s : Struct). NamedType s.name)) at in
      within_at (types_in d) (IsNested d.structs) form.nested k (NamedType s.name)
      (slice_get-kept (named_types ++ fs ++ ps) (flat_map constant_types (flat_map L.placed_in d.functions)) k (NamedType s.name) (slice_get-kept (named_types ++ fs) ps k (NamedType s.name) (slice_get-kept named_types fs k (NamedType s.name) here)))

  module _ (k : ℕ) (s : Struct) (b : StructBody) (at : slice_get d.structs k ≡ Some s) (first : struct_in d.structs s.name ≡ Some s) (has : s.body ≡ Some b) (used : HasTypeWith d (NamedType s.name)) where
    -- a type for which the dialect has none, held by a field, would be held by a value
    field_with : (i : ℕ) (t : TypeTree) → slice_get (types_list b.fields) i ≡ Some t → (of : OtherType) → refused_of t ≡ Some of → HasTypeWith d (RefusedType of)
    field_with i t here of e = record {
      place = used.place;
      f = used.f;
      at = used.at;
      index = used.index;
      type = used.type;
      here = used.here;
      holds = holds_through d.structs (RefusedType of) (NamedType s.name) used.type (InField s.name s b t i first has here (refused_held d.structs t of e)) used.holds;
    }

    none_refused : (i : ℕ) (t : TypeTree) → slice_get (types_list b.fields) i ≡ Some t → refused_of t ≡ None
    none_refused i t here = by (refused_of t) refl
      where
        by : (o : Option OtherType) → refused_of t ≡ o → refused_of t ≡ None
        by None e = e
        by (Some of) e = absurd (taken.types of (field_with i t here of e))

    -- each field is of a type that is translated
    pub field_held : (i : ℕ) (t : TypeTree) → slice_get (types_list b.fields) i ≡ Some t → IsHeld t
    field_held i t here =
        let formed : each_throughout is_first_class b.fields ≡ true = subst (λ (o : Option StructBody). option_map_or (λ (x : StructBody). each_throughout is_first_class x.fields) o true ≡ true) has (within_at d.structs IsFormStruct form.structs k s at).fields in
        let nested : IsNested d.structs t = each_at (nests d.structs _) b.fields (fields_nest d.structs _ s.name s b (struct_nested k s at) first has) i t here in
        held_by t (first_held t (none_refused i t here) (each_throughout_at is_first_class b.fields formed i t here)) (nested_shallow d.structs t nested)

-- ---- a module under other names

module _ (to : List ℕ → List ℕ) where
  abbrev other : Module → Module
  other m = renamed_store to m

  same_fields : (m : Module) (b : StructFields) → L.fields_of (trees_of (other m)).types b ≡ renamed_body to (L.fields_of (trees_of m).types b)
  same_fields m b =
      ap (λ (us : TypeTrees). let c : StructBody = record { fields = us; layout = b.layout } in c)
      (renamed_types_at to m b.types)

  same_body : (m : Module) (o : Option StructFields) → option_map (L.fields_of (trees_of (other m)).types) o ≡ option_map (renamed_body to) (option_map (L.fields_of (trees_of m).types) o)
  same_body m None = refl
  same_body m (Some b) = ap Some (same_fields m b)

  -- the body that a struct has under the other names
  pub same_struct : (m : Module) (x : StructData) (i : List ℕ) → i ≡ to x.name
      → let s : Struct = record { name = i; body = option_map (L.fields_of (trees_of (other m)).types) x.body } in s ≡ renamed_struct to (L.struct_of (trees_of m).types x)
  same_struct m x i e = let a = same_body m x.body in rw (e, a) refl

-- ---- fields in the context

held_field : (s : Shape) → is_held s ≡ true → is_field s ≡ true
held_field S.Void e = cc
held_field (S.Int w) e = grind arith
held_field (S.Pointer s) e = cc
held_field S.Other e = refl
held_field (S.Refused of) e = cc
held_field S.Made e = refl
held_field S.Named e = refl
held_field S.Function e = cc

module _ (made source : List TypeTree) where
  abbrev pub IsFieldOf : TypeHandle → Type 0
  IsFieldOf t = is_field (shape (type_at made t)) ≡ true

  abbrev IsHeldAt : LLVMType → Type 0
  IsHeldAt t = IsHeld (L.type_at source t)

  -- types that stand for translated ones are such as a struct may have fields of
  pub fields_fit : (ts : List TypeHandle) (us : List LLVMType) → map (type_at made) ts ≡ map (λ (t : LLVMType). L.type_at source t) us → All IsHeldAt us → All IsFieldOf ts
  fields_fit [] us e h = All-nil IsFieldOf
  fields_fit (t ∷ ts) [] e h = cc
  fields_fit (t ∷ ts) (u ∷ us) e h =
      let here : type_at made t ≡ L.type_at source u = (cc) in
      let rest : map (type_at made) ts ≡ map (λ (t : LLVMType). L.type_at source t) us = (cc) in
      All-cons IsFieldOf t ts (held_field (shape (type_at made t)) (ap (λ (x : TypeTree). is_held (shape x)) here ∙ held_shape (L.type_at source u) (All-head IsHeldAt u us h))) (fields_fit ts us rest (All-tail IsHeldAt u us h))

  pub fields_stand : (ts all : List TypeHandle) (b : StructFields) → all ≡ ts → map (type_at made) ts ≡ map (λ (t : LLVMType). L.type_at source t) b.types
      → let c : MadeFields = record { types = all; layout = b.layout } in fields_of made c ≡ L.fields_of source b
  fields_stand ts all b same e =
      ap (λ (us : TypeTrees). let c : StructBody = record { fields = us; layout = b.layout } in c)
      (ap (types_at made) same ∙ params_are made ts (L.types_at source b.types) (e ∙ listed source b.types))

-- ---- a body that is read

-- what is read of the body of a struct holds of it
pub body_holds : (P : StructFields → Type 0) (o : Option StructData) (r : Option (Bor StructFields)) → option_map (λ (x : StructData). x.body) o ≡ Some (option_map (λ (b : Bor StructFields). b.now) r) → ((x : StructData) → o ≡ Some x → IfSome x.body P) → IfSome r (λ (b : Bor StructFields). P b.now)
body_holds P o r is h = let x = part_of (λ (x : StructData). x.body) o (option_map (λ (b : Bor StructFields). b.now) r) is in by r (subst (λ (b : Option StructFields). IfSome b P) x.1.1 (h x.0 x.1.0))
  where
    by : (r : Option (Bor StructFields)) → IfSome (option_map (λ (b : Bor StructFields). b.now) r) P → IfSome r (λ (b : Bor StructFields). P b.now)
    by None k = k
    by (Some b) k = k

pub body_read : (f : StructFields → StructBody) (o : Option StructData) (r : Option (Bor StructFields)) (x : StructData) → option_map (λ (x : StructData). x.body) o ≡ Some (option_map (λ (b : Bor StructFields). b.now) r) → o ≡ Some x → option_map (λ (b : Bor StructFields). f b.now) r ≡ option_map f x.body
body_read f o r x is at = by r ∙ ap (option_map f) (sym (same_Some x.body (option_map (λ (b : Bor StructFields). b.now) r) (ap (option_map (λ (x : StructData). x.body)) (sym at) ∙ is)))
  where
    by : (r : Option (Bor StructFields)) → option_map (λ (b : Bor StructFields). f b.now) r ≡ option_map f (option_map (λ (b : Bor StructFields). b.now) r)
    by None = refl
    by (Some b) = refl
