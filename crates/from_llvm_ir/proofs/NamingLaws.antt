-- The names that the structs with a name of a source get: which numbers are marked, and the names so far.
use Rattle.std.proofs.Common.{arith, ◌≡◌, ◌<◌, ◌≤◌, ◌+◌, inl, inr, ◌⊎◌, ℕ, Bool, true, false, refl, sym, ap, subst, ◌∙◌, List, [], ◌∷◌, ◌++◌, length, take, slice_get, get_or, Option, Some, None, All}
use Rattle.std.specs.Prelude.{String, string_bytes, position, is_some}
use Rattle.std.specs.Option.{option_map}
use Rattle.std.specs.Str.{bytes_eq}
use Rattle.std.proofs.lemmas.Bool.{cases_order}
use Rattle.std.proofs.lemmas.List.{map_push, length-map, take_all}
use Rattle.std.proofs.lemmas.List.Elements.{All-nil, All-push, All-weaker}
use Rattle.std.proofs.lemmas.List.Quantifiers.{position-Some}
use Rattle.std.proofs.lemmas.Option.{same_Some, slice_get-map, slice_get-get_or, slice_get_within, get_or_from_slice_get}
use Rattle.std.proofs.lemmas.Slice.Eq.{bytes_eq-Decides}
use Rattle.support.specs.Interned.{IsDistinctList}
use Rattle.support.proofs.ListLaws.{slice_get-kept, slice_get-push, slice_get-push_cases, distinct_push, take_next}
use Rattle.support.proofs.OptionLaws.{part_of}
use Rattle.kinds.specs.Types.{NamedType}
use Rattle.kinds.specs.Structs.{Struct, struct_in}
use Rattle.llvm_core.specs.declared.numbers.LLVMStruct.{LLVMStruct}
use Rattle.llvm_core.specs.declared.structs.StructData.{StructData}
use Rattle.llvm_core.specs.Module.{Module}
use Rattle.llvm_core.specs.Data as L
use Rattle.llvm_core.specs.Data.{ModuleData, trees_of, data_of}
use Rattle.llvm_core.specs.Names.{IsInserted}
use Rattle.dialect_types.specs.Legalised.{Named, Gave, GoesOn, IsGiven}
use Rattle.dialect_types.proofs.LegalLaws.{gave_kept}
use Rattle.held_types.specs.Held.{HasTypeWith, AreHeldStructs}
use Rattle.renamed_source.specs.Source.{pairs_of}
use Rattle.renamed_source.proofs.SourceLaws.{unfound}
use Rattle.from_llvm_ir.specs.Imported.{IsIn}
use Rattle.from_llvm_ir.specs.Naming.{HasMet}
use Rattle.from_llvm_ir.specs.Structs.{StructNames, source_names, struct_names, IsInOrder, NoneInOrder, SkippedInOrder, TakenInOrder, AreNamed}
use Rattle.from_llvm_ir.proofs.NameLaws.{met_then, met_one}

-- ---- numbers in order

pub nat_cases : (i k : ℕ) → i < k + 1 → (i < k) ⊎ (i ≡ k)
nat_cases i k lt = elim (cases_order i k) [
  | inl same ↦ inr same
  | inr other ↦ elim other [
    | inl below ↦ inl below
    | inr above ↦ absurd (omega (arith, above, lt))
  ]
]

-- ---- marks

-- just the first k of the numbers are marked
pub record AreMarks (held : List LLVMStruct) (k : ℕ) (marks : List Bool) : Type 0 where
  pub only : (n : LLVMStruct) → slice_get marks n.0 ≡ Some true → (i : ℕ) × (i < k) × (slice_get held i ≡ Some n)
  pub all : (i : ℕ) (n : LLVMStruct) → i < k → slice_get held i ≡ Some n → slice_get marks n.0 ≡ Some true

abbrev pub number : ℕ → LLVMStruct
number k = record { 0 = k }

-- ---- names

abbrev name_of : List ℕ × List ℕ → List ℕ
name_of p = p.0

-- a name stands where it is found, and nowhere where it is not
pub found_at : (names : List (List ℕ)) (n : List ℕ) (i : ℕ) → position (bytes_eq n) names ≡ Some i → slice_get names i ≡ Some n
found_at names n i e =
    let there = position-Some (bytes_eq n) names i n e in
    slice_get-get_or names i n there.0 ∙ ap Some (sym ((bytes_eq-Decides n (get_or names i n)).0 there.1))

pub is_found : (names : List (List ℕ)) (n : List ℕ) (o : Option ℕ) → o ≡ position (bytes_eq n) names → is_some o ≡ true → IsIn names n
is_found names n None is some = cc
is_found names n (Some i) is some = (i, found_at names n i (sym is))

pub not_found : (names : List (List ℕ)) (n : List ℕ) (o : Option ℕ) → o ≡ position (bytes_eq n) names → is_some o ≡ false → ¬ IsIn names n
not_found names n None is none = unfound names n (sym is)
not_found names n (Some i) is none = λ h. cc

-- a name that was not there goes last
pub inserted_new : (old new : List (List ℕ)) (n : List ℕ) (fresh : Bool) → ¬ IsIn old n → IsInserted old new n fresh → new ≡ old ++ n ∷ []
inserted_new old new n true none h = h.0
inserted_new old new n false none h = absurd (none h)

-- a pair goes last
pub pair_pushed : {Z : Type 0} (ps more : List (String Z × List ℕ)) (t : String Z) (i n : List ℕ) → more ≡ ps ++ (t, i) ∷ [] → string_bytes t ≡ n → pairs_of more ≡ pairs_of ps ++ (n, i) ∷ []
pair_pushed {Z} ps more t i n pushed is =
    ap pairs_of pushed ∙ map_push (λ (p : String Z × List ℕ). let q : List ℕ × List ℕ = (string_bytes p.0, p.1) in q) ps (t, i) ∙ ap (λ (m : List ℕ). pairs_of ps ++ (m, i) ∷ []) is

-- the pair of a name that is found
pub pair_found : {Z : Type 0} (ps : List (String Z × List ℕ)) (place : ℕ) (p : String Z × List ℕ) (n : List ℕ) → slice_get ps place ≡ Some p → position (bytes_eq n) (source_names (pairs_of ps)) ≡ Some place → slice_get (pairs_of ps) place ≡ Some (n, p.1)
pair_found {Z} ps place p n at found =
    let here = slice_get-map (λ (q : String Z × List ℕ). let r : List ℕ × List ℕ = (string_bytes q.0, q.1) in r) ps place ∙ ap (option_map (λ (q : String Z × List ℕ). let r : List ℕ × List ℕ = (string_bytes q.0, q.1) in r)) at in
    let named = slice_get-map name_of (pairs_of ps) place ∙ ap (option_map name_of) here in
    let same : string_bytes p.0 ≡ n = same_Some (string_bytes p.0) n (sym named ∙ found_at (source_names (pairs_of ps)) n place found) in
    here ∙ ap (λ (m : List ℕ). Some (m, p.1)) same

pub found_within : (names : List (List ℕ)) (n : List ℕ) (i : ℕ) → position (bytes_eq n) names ≡ Some i → i < length names
found_within names n i e = (position-Some (bytes_eq n) names i n e).0

pub pairs_within : {Z : Type 0} (ps : List (String Z × List ℕ)) (i : ℕ) → i < length (source_names (pairs_of ps)) → i < length ps
pairs_within {Z} ps i within =
    let a = length-map (pairs_of ps) name_of in
    let b = length-map ps (λ (q : String Z × List ℕ). let r : List ℕ × List ℕ = (string_bytes q.0, q.1) in r) in
    omega (arith, within, a, b)

-- what is not marked has no number there
pub unmarked : (marks : List Bool) (n : ℕ) (b : Bool) → b ≡ get_or marks n b → b ≡ false → ¬ (slice_get marks n ≡ Some true)
unmarked marks n b is none at = let e = get_or_from_slice_get marks n true b at in cc

pub is_marked : (marks : List Bool) (n : ℕ) (b : Bool) → n < length marks → b ≡ get_or marks n b → b ≡ true → slice_get marks n ≡ Some true
is_marked marks n b within is set = slice_get-get_or marks n b within ∙ ap Some (sym is ∙ set)

-- the legaliser was asked one name more, which goes last
pub asked_more : (first old new : List Named) (pairs more : StructNames) (n i : List ℕ) → HasMet first old (source_names pairs) → IsGiven old new n i → more ≡ pairs ++ (n, i) ∷ [] → HasMet first new (source_names more)
asked_more first old new pairs more n i before given pushed =
    subst (HasMet first new) (sym (ap source_names pushed ∙ map_push name_of pairs (n, i)))
    (met_then first old new (source_names pairs) (n ∷ []) before (met_one old new n i given))

-- the names of the structs before the next number
next_name : (structs : List Struct) (k : ℕ) (s : Struct) → slice_get structs k ≡ Some s → take (k + 1) (struct_names structs) ≡ take k (struct_names structs) ++ s.name ∷ []
next_name structs k s at = take_next (struct_names structs) k s.name (slice_get-map (λ (x : Struct). x.name) structs k ∙ ap (option_map (λ (x : Struct). x.name)) at)

-- The names of structs so far, of those before the number k.
pub record Naming (d : ModuleData) (held : List LLVMStruct) (k : ℕ) (given : List Named) (met : List (List ℕ)) (pairs : StructNames) : Type 0 where
  pub once : IsDistinctList (source_names pairs)
  pub are : met ≡ source_names pairs
  pub gave : All (λ (p : List ℕ × List ℕ). Gave given p.0 p.1) pairs
  pub used : (name : List ℕ) → IsIn (source_names pairs) name → HasTypeWith d (NamedType name)
  pub all : (n : LLVMStruct) (s : Struct) → n.0 < k → IsIn held n → slice_get d.structs n.0 ≡ Some s → IsIn (source_names pairs) s.name
  pub ordered : IsInOrder (source_names pairs) (take k (struct_names d.structs))

module _ (d : ModuleData) (held : List LLVMStruct) where
  -- none of them yet
  pub naming_none : (given : List Named) (met : List (List ℕ)) (pairs : StructNames) → met ≡ [] → pairs ≡ [] → Naming d held 0 given met pairs
  naming_none given met pairs none empty =
      subst (λ (ns : List (List ℕ)). Naming d held 0 given ns pairs) (sym none)
      (subst (λ (ps : StructNames). Naming d held 0 given [] ps) (sym empty) (record {
        once = λ i j x at also. cc;
        are = refl;
        gave = All-nil (λ (p : List ℕ × List ℕ). Gave given p.0 p.1);
        used = λ name h. cc;
        all = λ n s lt there at. absurd (omega (arith, lt));
        ordered = NoneInOrder;
      }))

  module _ (k : ℕ) (given : List Named) (met : List (List ℕ)) (pairs : StructNames) (h : Naming d held k given met pairs) where
    -- the next is not among them
    passed_by : (s : Struct) → slice_get d.structs k ≡ Some s → IsInOrder (source_names pairs) (take (k + 1) (struct_names d.structs))
    passed_by s at = subst (IsInOrder (source_names pairs)) (sym (next_name d.structs k s at)) (SkippedInOrder (source_names pairs) (take k (struct_names d.structs)) s.name h.ordered)

    -- one that has no number there
    pub naming_skip : (s : Struct) → slice_get d.structs k ≡ Some s → ¬ IsIn held (number k) → Naming d held (k + 1) given met pairs
    naming_skip s here none = record { once = h.once; are = h.are; gave = h.gave; used = h.used; all = all; ordered = passed_by s here }
      where
        all : (n : LLVMStruct) (s : Struct) → n.0 < k + 1 → IsIn held n → slice_get d.structs n.0 ≡ Some s → IsIn (source_names pairs) s.name
        all n s lt there at = elim (nat_cases n.0 k lt) [
          | inl less ↦ h.all n s less there at
          | inr same ↦ absurd (none (subst (λ (x : ℕ). IsIn held (number x)) same there))
        ]

    -- one whose name was met
    pub naming_met : (s : Struct) → slice_get d.structs k ≡ Some s → IsIn met s.name → Naming d held (k + 1) given met pairs
    naming_met s at was = record { once = h.once; are = h.are; gave = h.gave; used = h.used; all = all; ordered = passed_by s at }
      where
        all : (n : LLVMStruct) (x : Struct) → n.0 < k + 1 → IsIn held n → slice_get d.structs n.0 ≡ Some x → IsIn (source_names pairs) x.name
        all n x lt there is = elim (nat_cases n.0 k lt) [
          | inl less ↦ h.all n x less there is
          | inr same ↦ (
              let one : s ≡ x = same_Some s x (sym at ∙ ap (slice_get d.structs) (sym same) ∙ is) in
              subst (λ (y : Struct). IsIn (source_names pairs) y.name) one (subst (λ (ns : List (List ℕ)). IsIn ns s.name) h.are was)
              )
        ]

    -- one with a new name, and its identifier
    pub naming_more : (s : Struct) (i : List ℕ) (later : List Named) (more : List (List ℕ)) (longer : StructNames) → slice_get d.structs k ≡ Some s → HasTypeWith d (NamedType s.name) → ¬ IsIn met s.name → more ≡ met ++ s.name ∷ [] → longer ≡ pairs ++ (s.name, i) ∷ []
        → GoesOn given later → Gave later s.name i → Naming d held (k + 1) later more longer
    naming_more s i later more longer at user fresh grown pushed on here = subst (Naming d held (k + 1) later more) (sym pushed) (record {
      once = subst IsDistinctList (sym names) (distinct_push (source_names pairs) s.name h.once (λ j is. fresh (subst (λ (ns : List (List ℕ)). IsIn ns s.name) (sym h.are) (j, is))));
      are = grown ∙ ap (λ (ns : List (List ℕ)). ns ++ s.name ∷ []) h.are ∙ sym names;
      gave = All-push (λ (p : List ℕ × List ℕ). Gave later p.0 p.1) pairs (s.name, i) (All-weaker (λ (p : List ℕ × List ℕ). Gave given p.0 p.1) (λ (p : List ℕ × List ℕ). Gave later p.0 p.1) (λ p g. gave_kept given later p.0 p.1 on g) pairs h.gave) here;
      used = used;
      all = all;
      ordered = ordered;
    })
      where
        names : source_names (pairs ++ (s.name, i) ∷ []) ≡ source_names pairs ++ s.name ∷ []
        names = map_push name_of pairs (s.name, i)

        ordered : IsInOrder (source_names (pairs ++ (s.name, i) ∷ [])) (take (k + 1) (struct_names d.structs))
        ordered =
            subst (IsInOrder (source_names (pairs ++ (s.name, i) ∷ []))) (sym (next_name d.structs k s at))
            (subst (λ (ns : List (List ℕ)). IsInOrder ns (take k (struct_names d.structs) ++ s.name ∷ [])) (sym names) (TakenInOrder (source_names pairs) (take k (struct_names d.structs)) s.name h.ordered))

        used : (name : List ℕ) → IsIn (source_names (pairs ++ (s.name, i) ∷ [])) name → HasTypeWith d (NamedType name)
        used name (j, is) = elim (slice_get-push_cases (source_names pairs) s.name j name (subst (λ (ns : List (List ℕ)). slice_get ns j ≡ Some name) names is)) [
          | inl was ↦ h.used name (j, was)
          | inr last ↦ subst (λ (n : List ℕ). HasTypeWith d (NamedType n)) (sym last.1) user
        ]

        all : (n : LLVMStruct) (x : Struct) → n.0 < k + 1 → IsIn held n → slice_get d.structs n.0 ≡ Some x → IsIn (source_names (pairs ++ (s.name, i) ∷ [])) x.name
        all n x lt there is = elim (nat_cases n.0 k lt) [
          | inl less ↦ (
              let was = h.all n x less there is in
              subst (λ (ns : List (List ℕ)). IsIn ns x.name) (sym names) (was.0, slice_get-kept (source_names pairs) (s.name ∷ []) was.0 x.name was.1)
              )
          | inr same ↦ (
              let one : s ≡ x = same_Some s x (sym at ∙ ap (slice_get d.structs) (sym same) ∙ is) in
              subst (λ (y : Struct). IsIn (source_names (pairs ++ (s.name, i) ∷ [])) y.name) one
              (subst (λ (ns : List (List ℕ)). IsIn ns s.name) (sym names) (length (source_names pairs), slice_get-push (source_names pairs) s.name (length (source_names pairs)) refl))
              )
        ]

    -- all of them have their names
    pub naming_all : length d.structs ≤ k → AreHeldStructs d held → AreNamed d given pairs
    naming_all long are = record { once = h.once; gave = h.gave; held = h.used; all = all; ordered = ordered }
      where
        ordered : IsInOrder (source_names pairs) (struct_names d.structs)
        ordered =
            let counted = length-map d.structs (λ (s : Struct). s.name) in
            subst (IsInOrder (source_names pairs)) (take_all k (struct_names d.structs) (omega (arith, long, counted))) h.ordered

        all : (name : List ℕ) → HasTypeWith d (NamedType name) → IsIn (source_names pairs) name
        all name user =
            let x = are.all name user in
            let within = slice_get_within d.structs x.1.0 x.3.struct x.3.at in
            subst (IsIn (source_names pairs)) x.3.named (h.all x.1 x.3.struct (omega (arith, within, long)) (x.0, x.2) x.3.at)

-- what is known of a struct whose number is there
pub struct_used : (d : ModuleData) (held : List LLVMStruct) (n : LLVMStruct) (s : Struct) → AreHeldStructs d held → IsIn held n → slice_get d.structs n.0 ≡ Some s → HasTypeWith d (NamedType s.name) × (struct_in d.structs s.name ≡ Some s)
struct_used d held n s are there at =
    let x = are.each there.0 n there.1 in
    let one : x.1.struct ≡ s = same_Some x.1.struct s (sym x.1.at ∙ at) in
    let named : x.0 ≡ s.name = sym x.1.named ∙ ap (λ (y : Struct). y.name) one in
    (subst (λ (m : List ℕ). HasTypeWith d (NamedType m)) named x.2, subst (λ (m : List ℕ). struct_in d.structs m ≡ Some s) named (x.1.first ∙ ap Some one))

-- the struct of a number, by what the module has under it
pub struct_at : (m : Module) (n : ℕ) (x : StructData) → slice_get m.structs n ≡ Some x → slice_get (data_of m).structs n ≡ Some (L.struct_of (trees_of m).types x)
struct_at m n x at = slice_get-map (L.struct_of (trees_of m).types) m.structs n ∙ ap (option_map (L.struct_of (trees_of m).types)) at

pub struct_there : (m : Module) (n : ℕ) → n < length m.structs → (s : Struct) × (slice_get (data_of m).structs n ≡ Some s)
struct_there m n within =
    let x = get_or m.structs n (record { name = []; body = None }) in
    (L.struct_of (trees_of m).types x, struct_at m n x (slice_get-get_or m.structs n (record { name = []; body = None }) within))

pub struct_named : (m : Module) (n : ℕ) (name : List ℕ) → option_map (λ (x : StructData). x.name) (slice_get m.structs n) ≡ Some name → (s : Struct) × (slice_get (data_of m).structs n ≡ Some s) × (s.name ≡ name)
struct_named m n name is =
    let x = part_of (λ (x : StructData). x.name) (slice_get m.structs n) name is in
    (L.struct_of (trees_of m).types x.0, struct_at m n x.0 x.1.0, x.1.1)
