-- The steps of a conversion: a list of numbers, a struct before it is made and once it is, a type that gets its number.
use Rattle.std.proofs.Common.{ℕ, zero, suc, ◌≡◌, ◌<◌, ◌≤◌, ◌⊎◌, inl, inr, ◌∙◌, ◌+◌, ◌-◌, true, false, refl, sym, ap, subst, List, [], ◌∷◌, ◌++◌, All, Option, Some, None, length, map, take, get_or, slice_get, arith}
use Rattle.std.specs.Prelude.{IfSome}
use Rattle.std.specs.Option.{option_map, option_and_then}
use Rattle.std.proofs.lemmas.List.{append-nil, map_push, map_more}
use Rattle.std.proofs.lemmas.List.Elements.{All-nil, All-cons, All-head, All-tail}
use Rattle.std.proofs.lemmas.Option.{same_Some}
use Rattle.support.proofs.ListLaws.{all_from, slice_get-push_cases}
use Rattle.kinds.specs.Types.{TypeTree, TypeTrees, NamedType, types_list}
use Rattle.kinds.specs.Held.{deepest, too_deep, IsShallow}
use Rattle.kinds.specs.Structs.{StructBody, Struct, nests, struct_in, renamed, renamed_body}
use Rattle.kinds.proofs.RenamedLaws.{renamed_depth}
use Rattle.kinds.proofs.NestLaws.{found_last, nested_shallow, nests_from}
use Rattle.llvm_core.specs.declared.numbers.LLVMType.{LLVMType}
use Rattle.llvm_core.specs.declared.numbers.LLVMStruct.{LLVMStruct}
use Rattle.llvm_core.specs.declared.structs.StructData.{StructData}
use Rattle.llvm_core.specs.declared.structs.StructFields.{StructFields}
use Rattle.llvm_core.specs.declared.types.LLVMTypeKind.{LLVMTypeKind}
use Rattle.llvm_core.specs.declared.types.LLVMTypeKind.TheVariants as T
use Rattle.llvm_core.specs.Depths.{nests_at, parts_nest_at}
use Rattle.llvm_core.specs.Module.{Module}
use Rattle.llvm_core.specs.Sound.{IsModule, AreFieldsIn, IsStructIn}
use Rattle.llvm_core.specs.Data as L
use Rattle.llvm_core.specs.Data.{data_of, trees_of}
use Rattle.llvm_core.proofs.ApartLemmas.{apart}
use Rattle.llvm_core.proofs.DataLemmas.{type_tree_of, within_at}
use Rattle.dialect_types.specs.declared.types.StructFields.{StructFields as MadeFields}
use Rattle.dialect_types.specs.declared.types.TypeHandle.{TypeHandle}
use Rattle.dialect_types.specs.declared.types.TypeKind.{TypeKind}
use Rattle.dialect_types.specs.declared.struct_err.StructErr.{StructErr}
use Rattle.dialect_types.specs.declared.struct_err.StructErr.TheVariants as S
use Rattle.dialect_types.specs.Legalised.{Named, Gave, GoesOn, IsGiven as IsNamedNow, IsLegalised, IsMet}
use Rattle.dialect_types.specs.Trees.{fields_of, structs_of, type_at, type_tree, type_trees, IsStructPut}
use Rattle.dialect_core.specs.ContextData.{ContextData}
use Rattle.held_types.specs.Held.{IsStructOf}
use Rattle.held_types.specs.Table.{IsTable}
use Rattle.held_types.proofs.InsideLaws.{body_at, body_from, holds_by, struct_here}
use Rattle.from_consts.specs.declared.const_context.ConstContext.{ConstContext}
use Rattle.from_consts.specs.Parts.{parts_in, IsAmong, IsInStruct, IsNamed, IsPart, InKind, InStruct, IsWithin, Inside, HasNamed}
use Rattle.from_consts.specs.Names.{called, IsCalled, IsConverted}
use Rattle.from_consts.specs.Given.{given_at, AddsStructs, Gives, IsContextFor, IsGiven, IsMade, IsReady}
use Rattle.from_consts.specs.Forward.{of_struct}
use Rattle.from_consts.specs.Refusals.{HasOtherStruct, IsCause}
use Rattle.from_consts.specs.Steps.{IsBodyGiven, IsKindGiven}
use Rattle.from_consts.proofs.NameLaws.{called_given, gave_met}
use Rattle.from_consts.proofs.GrowthLaws.{context_kept, not_none}
use Rattle.from_consts.proofs.KindLaws.{all_below, all_called, all_fit, all_is, all_there}
use Rattle.from_consts.proofs.GivesLaws.{Implies, more_none, adds_none, added_none}

-- ---- what is within

module _ (m : Module) (t : LLVMType) where
  -- the parts of the type of a number, and what is within them
  pub within_part : (u v : LLVMType) → IsPart m v t → IsWithin m u v → IsWithin m u t
  within_part u v part inside = Inside t v part inside

  pub within_parts : (ps : List LLVMType) (u : LLVMType) → ((i : ℕ) (v : LLVMType) → slice_get ps i ≡ Some v → IsPart m v t) → IsAmong m ps u → IsWithin m u t
  within_parts ps u parts (i, v, at, inside) = Inside t v (parts i v at) inside

-- ---- lists of numbers

-- each has been given the type at its place
abbrev pub AreGiven : ConstContext → List LLVMType → List TypeHandle → Type 0
AreGiven c us hs = map (given_at c) us ≡ map (λ (h : TypeHandle). Some h) hs

pub all_kept : (y z : ConstContext) → ((t : LLVMType) (h : TypeHandle) → given_at y t ≡ Some h → given_at z t ≡ Some h) → (us : List LLVMType) (hs : List TypeHandle) → AreGiven y us hs → AreGiven z us hs
all_kept y z kept [] hs e = e
all_kept y z kept (u ∷ us) [] e = cc
all_kept y z kept (u ∷ us) (h ∷ hs) e =
    let here = kept u h (head (given_at y u) (Some h) (map (given_at y) us) (map (λ (h : TypeHandle). Some h) hs) e) in
    let later = all_kept y z kept us hs (tail (given_at y u) (Some h) (map (given_at y) us) (map (λ (h : TypeHandle). Some h) hs) e) in
    cc
  where
    head : (a b : Option TypeHandle) (xs ys : List (Option TypeHandle)) → a ∷ xs ≡ b ∷ ys → a ≡ b
    head a b xs ys e = cc

    tail : (a b : Option TypeHandle) (xs ys : List (Option TypeHandle)) → a ∷ xs ≡ b ∷ ys → xs ≡ ys
    tail a b xs ys e = cc

-- one more
pub all_more : (y z : ConstContext) → ((t : LLVMType) (h : TypeHandle) → given_at y t ≡ Some h → given_at z t ≡ Some h) → (us : List LLVMType) (i : ℕ) (d : LLVMType) (hs : List TypeHandle) (h : TypeHandle)
    → i < length us → AreGiven y (take i us) hs → given_at z (get_or us i d) ≡ Some h → AreGiven z (take (i + 1) us) (hs ++ h ∷ [])
all_more y z kept us i d hs h lt are here =
    map_more (given_at z) us i d lt ∙ ap (λ (o : Option TypeHandle). map (given_at z) (take i us) ++ o ∷ []) here ∙ ap (λ (os : List (Option TypeHandle)). os ++ Some h ∷ []) (all_kept y z kept (take i us) hs are)
    ∙ sym (map_push (λ (h : TypeHandle). Some h) hs h)

-- ---- a name is given

pub names_given : (m : Module) (W : LLVMType → Type 0) (a : ContextData) (x y : ConstContext) (t : LLVMType) (n i : List ℕ) → IsContextFor m a.types x → IsNamedNow x.names y.names n i → GoesOn x.names y.names → IsLegalised y.names → W t → IsNamed m t n
    → y.given.items ≡ x.given.items → y.table ≡ x.table → Gives m W a x a y
names_given m W a x y t n i context now goes legal held named same table = record {
  types = adds_none a;
  structs = added_none m W y.names (structs_of a.types) (structs_of a.types) refl;
  names = goes;
  met = λ k j gave. elim now.either [
    | inl (was, is) ↦ inl (subst (λ (ns : List Named). Gave ns k j) is gave)
    | inr (new, is) ↦ met_last k j (subst (λ (ns : List Named). Gave ns k j) is gave)
  ];
  kept = λ u h at. still u ∙ at;
  only = λ u h at. inl (sym (still u) ∙ at);
  context = context_kept m a.types a.types [] x y (more_none a.types) (sym (append-nil (structs_of a.types))) goes legal (λ u. still u) (elim context.ready [
    | inl none ↦ inl (same ∙ none)
    | inr ready ↦ inr (record { count = ap (λ (g : List (Option TypeHandle)). length g) same ∙ ready.count; table = subst (IsTable m) (sym table) ready.table })
  ]) context;
}
  where
    still : (u : LLVMType) → given_at y u ≡ given_at x u
    still u = ap (λ (g : List (Option TypeHandle)). option_and_then (λ (o : Option TypeHandle). o) (slice_get g u.0)) same

    -- the name that is last has that identifier, or another had it before
    met_last : (k j : List ℕ) → Gave (x.names ++ (record { name = n; identifier = i }) ∷ []) k j → Gave x.names k j ⊎ HasNamed m W k
    met_last k j (place, at) = elim (slice_get-push_cases x.names (record { name = n; identifier = i }) place (record { name = k; identifier = j }) at) [
      | inl was ↦ inl (place, was)
      | inr last ↦ (let e : (let g : Named = record { name = k; identifier = j } in g) ≡ record { name = n; identifier = i } = last.1 in inr (subst (HasNamed m W) (ap (λ (g : Named). g.name) (sym e)) (t, held, named)))
    ]

-- ---- a struct

-- what names one struct alone
named_called : (given : List Named) (name : List ℕ) → IsMet given name → IsCalled given (NamedType name)
named_called given name met n h = elim (holds_by [] (NamedType n) (NamedType name) h) [
  | inl same ↦ subst (IsMet given) (let e : name ≡ n = cc in e) met
  | inr inside ↦ (
      elim inside [
        | inl part ↦ absurd (let no : None ≡ Some part.0 = part.2 in cc)
        | inr field ↦ absurd (let no : None ≡ Some field.1 = field.6 in cc)
      ]
      )
]

-- numbers of equal types are equal
same_numbers : (m : Module) → IsModule m → (us vs : List LLVMType) → All (λ (t : LLVMType). t.0 < length m.types) us → All (λ (t : LLVMType). t.0 < length m.types) vs → L.types_at (trees_of m).types us ≡ L.types_at (trees_of m).types vs → us ≡ vs
same_numbers m sound [] [] p q e = refl
same_numbers m sound [] (v ∷ vs) p q e = cc
same_numbers m sound (u ∷ us) [] p q e = cc
same_numbers m sound (u ∷ us) (v ∷ vs) p q e =
    let first = (apart m sound).types u v (All-head (λ (t : LLVMType). t.0 < length m.types) u us p) (All-head (λ (t : LLVMType). t.0 < length m.types) v vs q) (cc) in
    let rest = same_numbers m sound us vs (All-tail (λ (t : LLVMType). t.0 < length m.types) u us p) (All-tail (λ (t : LLVMType). t.0 < length m.types) v vs q) (cc) in
    cc

module _ (m : Module) (sound : IsModule m) where
  abbrev trees : List TypeTree
  trees = (trees_of m).types

  -- rows of equal structs have equal fields
  same_fields : (i j : ℕ) (x y : StructData) → slice_get m.structs i ≡ Some x → slice_get m.structs j ≡ Some y → L.struct_of trees x ≡ L.struct_of trees y → (b : StructFields) → y.body ≡ Some b → (c : StructFields) × (x.body ≡ Some c) × (c.types ≡ b.types)
  same_fields i j x y at also same b told =
      let c = body_from m x (L.fields_of trees b) (ap (λ (s : Struct). s.body) same ∙ ap (option_map (L.fields_of trees)) told) in
      (c.0, c.1, same_numbers m sound c.0.types b.types (rows_within i x c.0 at c.1) (rows_within j y b also told) (ap (λ (f : StructBody). f.fields) c.2))
    where
      fields_in : (o : Option StructFields) (f : StructFields) → o ≡ Some f → IfSome o (AreFieldsIn m.types) → AreFieldsIn m.types f
      fields_in o f is h = let e : IfSome (Some f) (AreFieldsIn m.types) = subst (λ (p : Option StructFields). IfSome p (AreFieldsIn m.types)) is h in e

      rows_within : (k : ℕ) (z : StructData) (f : StructFields) → slice_get m.structs k ≡ Some z → z.body ≡ Some f → All (λ (t : LLVMType). t.0 < length m.types) f.types
      rows_within k z f there is = (fields_in z.body f is (within_at m.structs (IsStructIn m.types) sound.structs k z there)).within

  module _ (t : LLVMType) (name : List ℕ) (named : IsNamed m t name) (s : LLVMStruct) (is : IsStructOf (data_of m) name s) where
    pub in_struct : (u : LLVMType) → IsInStruct m s u → IsWithin m u t
    in_struct u (x, b, at, told, (i, v, here, inside)) = Inside t v (InStruct name named (record { number = s; is = is; row = x; at = at; body = b; told = told; place = i; here = here })) inside

    tree_is : L.type_at trees t ≡ NamedType name
    tree_is = type_tree_of m t (T.Named name) sound named

    one_name_of : (n : List ℕ) → IsNamed m t n → name ≡ n
    one_name_of n also = let e : Some (T.Named name) ≡ Some (T.Named n) = sym named ∙ also in cc

    module _ (ks : List TypeKind) (y : ConstContext) (legal : IsLegalised y.names) (identifier : List ℕ) (gave : Gave y.names name identifier) (made : Option MadeFields) (given : IsBodyGiven m ks y s made) where
      -- the struct as it is to be made
      abbrev pub to_make : Struct
      to_make = record { name = identifier; body = option_map (fields_of (type_trees ks)) made }

      pub is_converted : IsConverted (L.structs_of m) y.names name to_make
      is_converted =
          let here = struct_here m name s is in
          let body : option_map (L.fields_of trees) here.0.body ≡ is.struct.body = ap (λ (z : Struct). z.body) here.2 in
          let called_is : identifier ≡ called y.names is.struct.name = sym (called_given y.names name identifier legal gave) ∙ ap (called y.names) (sym is.named) in
          let fields : option_map (fields_of (type_trees ks)) made ≡ option_map (renamed_body (called y.names)) is.struct.body = given.is here.0 here.1 ∙ ap (option_map (renamed_body (called y.names))) body in
          record {
            gave = gave;
            struct = is.struct;
            at = is.first;
            known = subst (λ (o : Option StructBody). IfSome o (λ (b : StructBody). All (IsCalled y.names) (types_list b.fields))) body (given.known here.0 here.1);
            is = ap (λ (i : List ℕ). let z : Struct = record { name = i; body = option_map (fields_of (type_trees ks)) made } in z) called_is ∙ ap (λ (o : Option StructBody). let z : Struct = record { name = called y.names is.struct.name; body = o } in z) fields;
          }

      -- and once it is made
      module _ (ls : List TypeKind) (put : IsStructPut (structs_of ks) (structs_of ls) to_make) where
        abbrev IsAdded : (LLVMType → Type 0) → Struct → Type 0
        IsAdded W z = (n : List ℕ) × HasNamed m W n × IsConverted (L.structs_of m) y.names n z

        pub struct_added : (W : LLVMType → Type 0) → W t → AddsStructs m W y.names (structs_of ks) (structs_of ls)
        struct_added W held = elim put [
          | inl same ↦ added_none m W y.names (structs_of ks) (structs_of ls) same.0
          | inr new ↦ (to_make ∷ [], new.0, All-cons (IsAdded W) to_make [] (name, (t, held, named), is_converted) (All-nil (IsAdded W)))
        ]

        made_there : struct_in (structs_of ls) identifier ≡ Some to_make
        made_there = elim put [
          | inl same ↦ ap (λ (ss : List Struct). struct_in ss identifier) same.0 ∙ same.1
          | inr new ↦ ap (λ (ss : List Struct). struct_in ss identifier) new.0 ∙ found_last (structs_of ks) to_make new.1
        ]

        part_given : (u : LLVMType) → IsPart m u t → ¬ (given_at y u ≡ None)
        part_given u (InKind k i at here) = absurd (let kind : k ≡ T.Named name = same_Some k (T.Named name) (sym at ∙ named) in let no : None ≡ Some u = ap (λ (l : _). slice_get (parts_in l) i) (sym kind) ∙ here in cc)
        part_given u (InStruct n also field) =
            let here = struct_here m name s is in
            let e = one_name_of n also in
            let other = struct_here m n field.number field.is in
            let row : L.struct_of trees field.row ≡ field.is.struct = ap (L.struct_of trees) (same_Some field.row other.0 (sym field.at ∙ other.1)) ∙ other.2 in
            let one : is.struct ≡ field.is.struct = same_Some is.struct field.is.struct (sym is.first ∙ ap (struct_in (L.structs_of m)) e ∙ field.is.first) in
            let fields = same_fields s.0 field.number.0 here.0 field.row here.1 field.at (here.2 ∙ one ∙ sym row) field.body field.told in
            given.parts here.0 fields.0 field.place u here.1 fields.1 (ap (λ (us : List LLVMType). slice_get us field.place) fields.2 ∙ field.here)

        pub struct_given : (h : TypeHandle) → h.0 < length ls → type_at (type_trees ls) h ≡ NamedType identifier → IsGiven m ls y t h
        struct_given h within typed = record {
          within = within;
          is = typed ∙ ap NamedType (sym (called_given y.names name identifier legal gave)) ∙ ap (renamed (called y.names)) (sym tree_is);
          known = subst (IsCalled y.names) (sym tree_is) (named_called y.names name (gave_met y.names name identifier gave));
          parts = part_given;
          struct = λ n also. subst (IsMade m y.names (structs_of ls)) (one_name_of n also) (to_make, is_converted, made_there);
          own = λ of no. let e : Some (T.Named name) ≡ Some (T.Other of) = sym named ∙ no in cc;
        }

-- ---- the fields of a struct that are read

pub body_given : (m : Module) (ks : List TypeKind) (c : ConstContext) (s : LLVMStruct) (b : StructFields) (hs all : List TypeHandle) → IsModule m → IsContextFor m ks c
    → option_map (λ (x : StructData). x.body) (slice_get m.structs s.0) ≡ Some (Some b) → AreFieldsIn m.types b → AreGiven c b.types hs → all ≡ hs → IsBodyGiven m ks c s (Some (record { types = all; layout = b.layout }))
body_given m ks c s b hs all sound context told fields are same = subst (λ (xs : List TypeHandle). IsBodyGiven m ks c s (Some (record { types = xs; layout = b.layout }))) (sym same) (record {
  below = all_below m ks c sound context b.types hs are;
  fit = all_fit m ks c sound context b.types hs are fields.within fields.fit;
  is = λ x at. ap (λ (ts : TypeTrees). Some (record { fields = ts; layout = b.layout })) (all_is m ks c sound context b.types hs are) ∙ sym (ap (λ (o : Option StructFields). option_map (renamed_body (called c.names)) (option_map (L.fields_of (trees_of m).types) o)) (row x at));
  known = λ x at. subst (λ (o : Option StructFields). IfSome (option_map (L.fields_of (trees_of m).types) o) (λ (f : StructBody). All (IsCalled c.names) (types_list f.fields))) (sym (row x at))
      (all_from (IsCalled c.names) (types_list (L.types_at (trees_of m).types b.types)) (all_called m ks c sound context b.types hs are));
  parts = λ x f i u at body here.
      let e : b ≡ f = same_Some b f (sym (row x at) ∙ body) in
      let h = all_there m ks c sound context b.types hs are i u (ap (λ (g : StructFields). slice_get g.types i) e ∙ here) in
      not_none (given_at c u) h.0 h.1;
})
  where
    row : (x : StructData) → slice_get m.structs s.0 ≡ Some x → x.body ≡ Some b
    row x at = let y = body_at m s b told in ap (λ (z : StructData). z.body) (same_Some x y.0 (sym at ∙ y.1)) ∙ y.2

-- ---- a type that is no struct gets its number

pub kind_stands : (m : Module) (ks ls : List TypeKind) (c : ConstContext) (t : LLVMType) (k : TypeKind) (h : TypeHandle) → IsKindGiven m ks c t k → h.0 < length ls → type_at (type_trees ls) h ≡ type_tree (type_trees ks) k
    → ((n : List ℕ) → ¬ IsNamed m t n) → IsGiven m ls c t h
kind_stands m ks ls c t k h given within typed unnamed = record {
  within = within;
  is = typed ∙ given.is;
  known = given.known;
  parts = given.parts;
  struct = λ n named. absurd (unnamed n named);
  own = given.own;
}

-- ---- types one by one

-- so far the first ones were given theirs, and nothing that is not within one of them all
pub record Giving (m : Module) (us : List LLVMType) (a : ContextData) (x : ConstContext) (i : ℕ) (b : ContextData) (y : ConstContext) (hs : List TypeHandle) : Type 0 where
  pub gives : Gives m (IsAmong m us) a x b y
  pub are : AreGiven y (take i us) hs
  pub ready : IsReady m y

-- ---- what stands in the way of making a struct

pub struct_cause : (m : Module) (W : LLVMType → Type 0) (before : List Struct) (given : List Named) (e : StructErr) → ((i : List ℕ) → e ≡ S.DifferentBody i → HasOtherStruct m W before given i) → IsCause m W before given (of_struct e)
struct_cause m W before given (S.DifferentBody i) h = h i refl
struct_cause m W before given S.NoMemory h = tt

-- ---- depths

-- something is left for a type that nests so deep
pub some_left : (m : Module) (t : LLVMType) (n : ℕ) → nests_at m t n ≡ true → n - 1 + 1 ≡ n
some_left m t zero h = cc
some_left m t (suc n) h = omega arith

pub kind_nests : (m : Module) → IsModule m → (t : LLVMType) (k : LLVMTypeKind) (n : ℕ) → slice_get m.types t.0 ≡ Some k → nests_at m t (n + 1) ≡ true → parts_nest_at m k n ≡ true
kind_nests m sound t k n at h =
    let e : n + 1 ≡ suc n = omega arith in
    subst (λ (x : ℕ). nests (L.structs_of m) x (L.type_tree (trees_of m).types k) ≡ true) e (subst (λ (u : TypeTree). nests (L.structs_of m) (n + 1) u ≡ true) (type_tree_of m t k sound at) h)

pub nests_enough : (m : Module) (t : LLVMType) (n : ℕ) → n ≤ deepest → nests_at m t n ≡ true → IsShallow (L.type_at (trees_of m).types t)
nests_enough m t n le h = nested_shallow (L.structs_of m) (L.type_at (trees_of m).types t) (nests_from (L.structs_of m) n deepest (L.type_at (trees_of m).types t) le h)

pub renamed_shallow : (to : List ℕ → List ℕ) (t : TypeTree) → IsShallow t → IsShallow (renamed to t)
renamed_shallow to t h = subst (λ (n : ℕ). too_deep n ≡ false) (sym (renamed_depth to t)) h

-- ---- within the type of a number

module _ (m : Module) (t : LLVMType) (k : LLVMTypeKind) (at : slice_get m.types t.0 ≡ Some k) where
  pub part_within : (i : ℕ) (u : LLVMType) → slice_get (parts_in k) i ≡ Some u → Implies (λ v. IsWithin m v u) (λ v. IsWithin m v t)
  part_within i u here v inside = Inside t u (InKind k i at here) inside

  pub list_within : (us : List LLVMType) → ((i : ℕ) (u : LLVMType) → slice_get us i ≡ Some u → (j : ℕ) × (slice_get (parts_in k) j ≡ Some u)) → Implies (IsAmong m us) (λ v. IsWithin m v t)
  list_within us parts v (i, u, here, inside) = let p = parts i u here in Inside t u (InKind k p.0 at p.1) inside
