-- The structs with a name that an import makes: what a context holds of them, and one more.
use Rattle.std.proofs.Common.{arith, ◌≡◌, ◌<◌, ◌≤◌, ◌+◌, inl, inr, ◌⊎◌, ℕ, zero, suc, Bool, true, false, refl, sym, ap, subst, ◌∙◌, List, [], ◌∷◌, length, slice_get, if◌then◌else◌, Option, Some, None, All}
use Rattle.std.specs.Prelude.{IfSome}
use Rattle.std.specs.Option.{option_map, option_or}
use Rattle.std.specs.Prelude as R
use Rattle.std.specs.Result.{IfErr, IsErrAnd}
use Rattle.std.specs.Str.{bytes_eq}
use Rattle.std.proofs.lemmas.Result.{err_from_is_err_and}
use Rattle.std.proofs.lemmas.List.{length-map}
use Rattle.std.proofs.lemmas.List.Folds.{find-append}
use Rattle.std.proofs.lemmas.Option.{same_Some, slice_get-map, slice_get_within}
use Rattle.std.proofs.lemmas.Slice.Eq.{bytes_eq-Decides}
use Rattle.support.proofs.ListLaws.{all_from, slice_get-push_cases}
use Rattle.support.proofs.OptionLaws.{part_of}
use Rattle.kinds.specs.Types.{TypeTree, NamedType, types_list}
use Rattle.kinds.specs.Held.{IsHeld}
use Rattle.kinds.specs.Structs.{StructBody, Struct, struct_in, renamed, renamed_struct}
use Rattle.kinds.proofs.NestLaws.{found_last}
use Rattle.kinds.proofs.RenamedLaws.{renamed_held}
use Rattle.llvm_core.specs.declared.numbers.LLVMType.{LLVMType}
use Rattle.llvm_core.specs.declared.numbers.LLVMStruct.{LLVMStruct}
use Rattle.llvm_core.specs.declared.structs.StructFields.{StructFields}
use Rattle.llvm_core.specs.declared.structs.StructData.{StructData}
use Rattle.llvm_core.specs.Module.{Module}
use Rattle.llvm_core.specs.Data as L
use Rattle.llvm_core.specs.Data.{ModuleData, trees_of, data_of}
use Rattle.llvm_core.specs.Form.{IsForm}
use Rattle.llvm_core.specs.Sound.{IsModule}
use Rattle.dialect_types.specs.declared.struct_err.StructErr.{StructErr}
use Rattle.dialect_types.specs.Trees.{IsStructPut}
use Rattle.dialect_types.specs.Trees as trees
use Rattle.dialect_types.specs.Legalised.{Named}
use Rattle.held_types.specs.Held.{HasTypeWith, AreHeld, AreHeldStructs}
use Rattle.renamed_source.specs.Names.{AreStructNames, renamed_store, struct_name}
use Rattle.renamed_source.proofs.NameLaws.{struct_name_listed, struct_name_injective}
use Rattle.renamed_source.proofs.DataLaws.{renamed_type_at}
use Rattle.renamed_source.proofs.SoundLaws.{renamed_sound}
use Rattle.renamed_source.proofs.StructLaws.{renamed_names_in}
use Rattle.from_llvm_ir.specs.Imported.{IsIn}
use Rattle.from_llvm_ir.specs.Structs.{StructNames, source_names, identifiers, AreNamed, AreMade, AddsOnly, HasOtherBody}
use Rattle.from_llvm_ir.specs.Types.{NamesAmong}
use Rattle.from_llvm_ir.proofs.FieldLaws.{field_held, field_listed, same_struct}
use Rattle.from_llvm_ir.proofs.FoundLaws.{held_itself}
use Rattle.from_llvm_ir.proofs.NamingLaws.{nat_cases, struct_at, struct_named, struct_used}

-- ---- structs by their names

found_in : (ss : List Struct) (n : List ℕ) (s : Struct) → struct_in ss n ≡ Some s → s.name ≡ n
found_in [] n s e = cc
found_in (x ∷ ss) n s e = by (bytes_eq x.name n) refl e (found_in ss n s)
  where
    by : (b : Bool) → bytes_eq x.name n ≡ b → (if b then Some x else struct_in ss n) ≡ Some s → (struct_in ss n ≡ Some s → s.name ≡ n) → s.name ≡ n
    by true is e next = ap (λ (y : Struct). y.name) (sym (same_Some x s e)) ∙ (bytes_eq-Decides x.name n).0 is
    by false is e next = next e

or_kept : (a b : Option Struct) (t : Struct) → a ≡ Some t → option_or a b ≡ Some t
or_kept None b t e = cc
or_kept (Some a) b t e = e

or_cases : (a b : Option Struct) (t : Struct) → option_or a b ≡ Some t → (a ≡ Some t) ⊎ (b ≡ Some t)
or_cases None b t e = inr e
or_cases (Some a) b t e = inl e

one_found : (x t : Struct) (n : List ℕ) → struct_in (x ∷ []) n ≡ Some t → t ≡ x
one_found x t n e = by (bytes_eq x.name n) e
  where
    by : (b : Bool) → (if b then Some x else None) ≡ Some t → t ≡ x
    by true e = sym (same_Some x t e)
    by false e = cc

module _ (old new : List Struct) (x : Struct) (put : IsStructPut old new x) where
  -- what is there stays
  pub put_kept : (n : List ℕ) (t : Struct) → struct_in old n ≡ Some t → struct_in new n ≡ Some t
  put_kept n t e = elim put [
    | inl same ↦ subst (λ (ss : List Struct). struct_in ss n ≡ Some t) (sym same.0) e
    | inr more ↦ subst (λ (ss : List Struct). struct_in ss n ≡ Some t) (sym more.0) (find-append (λ (s : Struct). bytes_eq s.name n) old (x ∷ []) ∙ or_kept (struct_in old n) (struct_in (x ∷ []) n) t e)
  ]

  -- the one that was put is there
  pub put_there : struct_in new x.name ≡ Some x
  put_there = elim put [
    | inl same ↦ subst (λ (ss : List Struct). struct_in ss x.name ≡ Some x) (sym same.0) same.1
    | inr more ↦ subst (λ (ss : List Struct). struct_in ss x.name ≡ Some x) (sym more.0) (found_last old x more.1)
  ]

  -- one that is there was there, or is the one that was put
  pub put_from : (n : List ℕ) (t : Struct) → struct_in new n ≡ Some t → (struct_in old n ≡ Some t) ⊎ (t ≡ x)
  put_from n t e = elim put [
    | inl same ↦ inl (subst (λ (ss : List Struct). struct_in ss n ≡ Some t) same.0 e)
    | inr more ↦ (
        elim (or_cases (struct_in old n) (struct_in (x ∷ []) n) t (sym (find-append (λ (s : Struct). bytes_eq s.name n) old (x ∷ [])) ∙ subst (λ (ss : List Struct). struct_in ss n ≡ Some t) more.0 e)) [
          | inl was ↦ inl was
          | inr last ↦ inr (one_found x t n last)
        ]
        )
  ]

-- ---- which structs are added

pub only_same : (before now : List Struct) (is : List (List ℕ)) → now ≡ before → AddsOnly before now is
only_same before now is same j s at = inl (j, subst (λ (ss : List Struct). slice_get ss j ≡ Some s) same at)

-- the one that was put, if any
pub only_put : (old new : List Struct) (x : Struct) → IsStructPut old new x → AddsOnly old new (x.name ∷ [])
only_put old new x put = elim put [
  | inl same ↦ only_same old new (x.name ∷ []) same.0
  | inr more ↦ λ j s at. elim (slice_get-push_cases old x j s (subst (λ (ss : List Struct). slice_get ss j ≡ Some s) more.0 at)) [
    | inl was ↦ inl (j, was)
    | inr last ↦ inr (0, ap (λ (y : Struct). Some y.name) (sym last.1))
  ]
]

one_of : (i n : List ℕ) → IsIn (i ∷ []) n → i ≡ n
one_of i n (zero, at) = same_Some i n at
one_of i n (suc k, at) = cc

-- one more, under an identifier of the list
pub only_then : (first old new : List Struct) (is : List (List ℕ)) (i : List ℕ) → IsIn is i → AddsOnly first old is → AddsOnly old new (i ∷ []) → AddsOnly first new is
only_then first old new is i there before step j s at = elim (step j s at) [
  | inl was ↦ before was.0 s was.1
  | inr named ↦ inr (subst (IsIn is) (one_of i s.name named) there)
]

-- the identifier of a pair of the list is listed
pub identifier_listed : (pairs : StructNames) (place : ℕ) (name i : List ℕ) → slice_get pairs place ≡ Some (name, i) → IsIn (identifiers pairs) i
identifier_listed pairs place name i at = (place, slice_get-map (λ (p : List ℕ × List ℕ). p.1) pairs place ∙ ap (option_map (λ (p : List ℕ × List ℕ). p.1)) at)

-- ---- the making of structs

-- So far those of the first k numbers are made, and what has a name of the source's with another body was there to begin with.
pub record Making (d : ModuleData) (to : List ℕ → List ℕ) (held : List LLVMStruct) (k : ℕ) (first now : List Struct) : Type 0 where
  pub made : (i : ℕ) (n : LLVMStruct) (s : Struct) → i < k → slice_get held i ≡ Some n → slice_get d.structs n.0 ≡ Some s → struct_in now (to s.name) ≡ Some (renamed_struct to s)
  pub others : (n : List ℕ) (s t : Struct) → struct_in d.structs n ≡ Some s → struct_in now (to n) ≡ Some t → ¬ (t ≡ renamed_struct to s) → struct_in first (to n) ≡ Some t

module _ (d : ModuleData) (to : List ℕ → List ℕ) (held : List LLVMStruct) where
  pub making_none : (first : List Struct) → Making d to held 0 first first
  making_none first = record { made = λ i n s lt here at. absurd (omega (arith, lt)); others = λ n s t is here differs. here }

  module _ (apart : (a b : List ℕ) → to a ≡ to b → a ≡ b) (k : ℕ) (first old new : List Struct) (n : LLVMStruct) (s : Struct) (at : slice_get held k ≡ Some n) (is : slice_get d.structs n.0 ≡ Some s) (found : struct_in d.structs s.name ≡ Some s) where
    pub making_more : IsStructPut old new (renamed_struct to s) → Making d to held k first old → Making d to held (k + 1) first new
    making_more put h = record { made = made; others = others }
      where
        made : (i : ℕ) (m : LLVMStruct) (x : Struct) → i < k + 1 → slice_get held i ≡ Some m → slice_get d.structs m.0 ≡ Some x → struct_in new (to x.name) ≡ Some (renamed_struct to x)
        made i m x lt here there = by (nat_cases i k lt)
          where
            by : (i < k) ⊎ (i ≡ k) → struct_in new (to x.name) ≡ Some (renamed_struct to x)
            by (inl less) = put_kept old new (renamed_struct to s) put (to x.name) (renamed_struct to x) (h.made i m x less here there)
            by (inr same) =
                let which : n ≡ m = same_Some n m (sym at ∙ ap (slice_get held) (sym same) ∙ here) in
                let one : s ≡ x = same_Some s x (sym is ∙ ap (λ (l : LLVMStruct). slice_get d.structs l.0) which ∙ there) in
                subst (λ (y : Struct). struct_in new (to y.name) ≡ Some (renamed_struct to y)) one (put_there old new (renamed_struct to s) put)

        others : (m : List ℕ) (x t : Struct) → struct_in d.structs m ≡ Some x → struct_in new (to m) ≡ Some t → ¬ (t ≡ renamed_struct to x) → struct_in first (to m) ≡ Some t
        others m x t there here differs = elim (put_from old new (renamed_struct to s) put (to m) t here) [
          | inl was ↦ h.others m x t there was differs
          | inr last ↦ absurd (differs (last ∙ ap (renamed_struct to) (one last)))
        ]
          where
            -- its name is that of the one that was put, so it is that one
            one : t ≡ renamed_struct to s → s ≡ x
            one last =
                let called : to s.name ≡ to m = ap (λ (y : Struct). y.name) (sym last) ∙ found_in new (to m) t here in
                same_Some s x (sym found ∙ ap (struct_in d.structs) (apart s.name m called) ∙ there)

  -- each struct that a field of the next names is made
  pub made_before : ((a b : List ℕ) → to a ≡ to b → a ≡ b) → AreHeldStructs d held → (k : ℕ) (first now : List Struct) → Making d to held k first now → (n : LLVMStruct) → slice_get held k ≡ Some n → (s : Struct) (b : StructBody) → slice_get d.structs n.0 ≡ Some s → s.body ≡ Some b
      → (i : ℕ) (t : TypeTree) → slice_get (types_list b.fields) i ≡ Some t → NamesAmong now (renamed to t)
  made_before apart are k first now h n at s b is has i t here name inside none =
      let x = renamed_names_in to apart name t inside in
      let y = are.behind k n s b i t x.0 at is has here (held_itself d.structs (NamedType x.0) t x.2) in
      let made = h.made y.0 y.1 y.4.struct y.2 y.3 y.4.at in
      let called : to y.4.struct.name ≡ name = ap to y.4.named ∙ x.1 in
      let both : None ≡ Some (renamed_struct to y.4.struct) = sym none ∙ ap (struct_in now) (sym called) ∙ made in
      cc

  -- all of them are made
  pub all_made : (k : ℕ) (pairs : StructNames) (first now : List Struct) → to ≡ struct_name pairs → AreStructNames pairs → (given : List Named) → AreNamed d given pairs → AreHeldStructs d held → length held ≤ k → Making d to held k first now
      → AreMade d pairs now
  all_made k pairs first now calls names given named are long h i p at =
      let used = named.held p.0 (i, slice_get-map (λ (q : List ℕ × List ℕ). q.0) pairs i ∙ ap (option_map (λ (q : List ℕ × List ℕ). q.0)) at) in
      let x = are.all p.0 used in
      let s = x.3.struct in
      let here = h.made x.0 x.1 s (omega (arith, slice_get_within held x.0 x.1 x.2, long)) x.2 x.3.at in
      let called : to s.name ≡ p.1 = ap to x.3.named ∙ ap (λ (f : List ℕ → List ℕ). f p.0) calls ∙ struct_name_listed pairs names i p at in
      (s, x.3.first, subst (λ (n : List ℕ). struct_in now n ≡ Some (renamed_struct (struct_name pairs) s)) called (subst (λ (f : List ℕ → List ℕ). struct_in now (to s.name) ≡ Some (renamed_struct f s)) calls here))

  -- one whose identifier another has had it to begin with
  pub other_body : (k : ℕ) (pairs : StructNames) (first now : List Struct) (place : ℕ) (i : List ℕ) (s : Struct) → to ≡ struct_name pairs → slice_get pairs place ≡ Some (s.name, i) → to s.name ≡ i → struct_in d.structs s.name ≡ Some s → Making d to held k first now
      → trees.HasOtherBody now (renamed_struct to s) → HasOtherBody first d pairs i
  other_body k pairs first now place i s calls at called is h other = record {
    place = place;
    name = s.name;
    at = at;
    struct = s;
    is = is;
    other = other.0;
    there = subst (λ (n : List ℕ). struct_in first n ≡ Some other.0) called (h.others s.name s other.0 is other.1 other.2);
    differs = subst (λ (f : List ℕ → List ℕ). ¬ (other.0 ≡ renamed_struct f s)) calls other.2;
  }

-- ---- a step of the making

pub put_as : (old was new : List Struct) (n m : List ℕ) (b c : Option StructBody) → old ≡ was → n ≡ m → b ≡ c → IsStructPut old new (record { name = n; body = b }) → IsStructPut was new (record { name = m; body = c })
put_as old was new n m b c e f g h =
    subst (λ (ss : List Struct). IsStructPut ss new (record { name = m; body = c })) e
    (subst (λ (i : List ℕ). IsStructPut old new (record { name = i; body = c })) f
    (subst (λ (o : Option StructBody). IsStructPut old new (record { name = n; body = o })) g h))

module _ (m : Module) (pairs : StructNames) (held : List LLVMStruct) (are : AreHeldStructs (data_of m) held) (names : AreStructNames pairs) where
  abbrev called : List ℕ → List ℕ
  called n = struct_name pairs n

  pub sound_under : (source : Module) → source ≡ renamed_store called m → IsModule m → IsModule source
  sound_under source is sound = subst IsModule (sym is) (renamed_sound called m (struct_name_injective pairs names) sound)

  module _ (n : LLVMStruct) (there : IsIn held n) where
    pub held_within : n.0 < length m.structs
    held_within =
        let x = are.each there.0 n there.1 in
        let within = slice_get_within (data_of m).structs n.0 x.1.struct x.1.at in
        let counted = length-map m.structs (L.struct_of (trees_of m).types) in
        omega (arith, within, counted)

    -- its fields are of types that are translated, under the other names too
    pub fields_held : (source : Module) → source ≡ renamed_store called m → IsForm (data_of m) → AreHeld (data_of m) → (x : StructData) → slice_get m.structs n.0 ≡ Some x → IfSome x.body (λ (b : StructFields). All (λ (t : LLVMType). IsHeld (L.type_at (trees_of source).types t)) b.types)
    fields_held source is form taken x at = by x.body refl
      where
        s : Struct
        s = L.struct_of (trees_of m).types x

        by : (o : Option StructFields) → x.body ≡ o → IfSome o (λ (b : StructFields). All (λ (t : LLVMType). IsHeld (L.type_at (trees_of source).types t)) b.types)
        by None e = tt
        by (Some b) e = all_from (λ (t : LLVMType). IsHeld (L.type_at (trees_of source).types t)) b.types (λ i t here.
            let at_s = struct_at m n.0 x at in
            let user = struct_used (data_of m) held n s are there at_s in
            let tree = L.type_at (trees_of m).types t in
            let listed_here = field_listed (trees_of m).types b.types i t here in
            let own = field_held (data_of m) form taken n.0 s (L.fields_of (trees_of m).types b) at_s user.1 (ap (option_map (L.fields_of (trees_of m).types)) e) user.0 i tree listed_here in
            subst IsHeld (sym (renamed_type_at called m t) ∙ ap (λ (other : Module). L.type_at (trees_of other).types t) (sym is)) (renamed_held called tree own))

    -- each struct that its fields name was made before
    pub fields_ready : (source : Module) → source ≡ renamed_store called m → (k : ℕ) → slice_get held k ≡ Some n → (first now : List Struct) → Making (data_of m) called held k first now
        → (x : StructData) → slice_get m.structs n.0 ≡ Some x → IfSome x.body (λ (b : StructFields). All (λ (t : LLVMType). NamesAmong now (L.type_at (trees_of source).types t)) b.types)
    fields_ready source is k place first now h x at = by x.body refl
      where
        by : (o : Option StructFields) → x.body ≡ o → IfSome o (λ (b : StructFields). All (λ (t : LLVMType). NamesAmong now (L.type_at (trees_of source).types t)) b.types)
        by None e = tt
        by (Some b) e = all_from (λ (t : LLVMType). NamesAmong now (L.type_at (trees_of source).types t)) b.types (λ i t here.
            let tree = L.type_at (trees_of m).types t in
            let own = made_before (data_of m) called held (struct_name_injective pairs names) are k first now h n place (L.struct_of (trees_of m).types x) (L.fields_of (trees_of m).types b) (struct_at m n.0 x at) (ap (option_map (L.fields_of (trees_of m).types)) e) i tree (field_listed (trees_of m).types b.types i t here) in
            subst (NamesAmong now) (sym (renamed_type_at called m t) ∙ ap (λ (other : Module). L.type_at (trees_of other).types t) (sym is)) own)

    -- its name is listed
    pub name_listed : (given : List Named) → AreNamed (data_of m) given pairs → (name : List ℕ) → option_map (λ (x : StructData). x.name) (slice_get m.structs n.0) ≡ Some name → IsIn (source_names pairs) name
    name_listed given named name is =
        let s = struct_named m n.0 name is in
        named.all name (subst (λ (x : List ℕ). HasTypeWith (data_of m) (NamedType x)) s.2 (struct_used (data_of m) held n s.0 are there s.1).0)

    module _ (source : Module) (is : source ≡ renamed_store called m) (k : ℕ) (first old : List Struct) (name i : List ℕ) (place : ℕ) (named : option_map (λ (x : StructData). x.name) (slice_get m.structs n.0) ≡ Some name) (at : slice_get pairs place ≡ Some (name, i)) (h : Making (data_of m) called held k first old) where
      abbrev under : StructData → Struct
      under x = record { name = i; body = option_map (L.fields_of (trees_of source).types) x.body }

      -- the struct that is made is that of the source as the dialect calls it
      stands_under : (x : StructData) → x.name ≡ name → under x ≡ renamed_struct called (L.struct_of (trees_of m).types x)
      stands_under x e =
          ap (λ (o : Module). let s : Struct = record { name = i; body = option_map (L.fields_of (trees_of o).types) x.body } in s) is
          ∙ same_struct called m x i (sym (struct_name_listed pairs names place (name, i) at) ∙ ap called (sym e))

      pub step_made : slice_get held k ≡ Some n → (new : List Struct) → ((x : StructData) → slice_get m.structs n.0 ≡ Some x → IsStructPut old new (under x)) → Making (data_of m) called held (k + 1) first new
      step_made here new put =
          let x = part_of (λ (x : StructData). x.name) (slice_get m.structs n.0) name named in
          let s = L.struct_of (trees_of m).types x.0 in
          let at_s = struct_at m n.0 x.0 x.1.0 in
          let user = struct_used (data_of m) held n s are there at_s in
          making_more (data_of m) called held (struct_name_injective pairs names) k first old new n s here at_s user.1 (subst (IsStructPut old new) (stands_under x.0 x.1.1) (put x.0 x.1.0)) h

      pub step_other : ((x : StructData) → slice_get m.structs n.0 ≡ Some x → trees.HasOtherBody old (under x)) → HasOtherBody first (data_of m) pairs i
      step_other other =
          let x = part_of (λ (x : StructData). x.name) (slice_get m.structs n.0) name named in
          let s = L.struct_of (trees_of m).types x.0 in
          let at_s = struct_at m n.0 x.0 x.1.0 in
          let user = struct_used (data_of m) held n s are there at_s in
          let calls : called s.name ≡ i = ap called x.1.1 ∙ struct_name_listed pairs names place (name, i) at in
          other_body (data_of m) called held k pairs first old place i s refl (at ∙ ap (λ (m : List ℕ). Some (m, i)) (sym x.1.1)) calls user.1 h (subst (trees.HasOtherBody old) (stands_under x.0 x.1.1) (other x.0 x.1.0))
