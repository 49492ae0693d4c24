-- Each name in a type in use is that of a struct of the module, and so one that a text can say.
use Rattle.std.proofs.Common.{◌≡◌, ℕ, zero, suc, Bool, true, false, cond, nat_eq, List, [], ◌∷◌, ◌++◌, map, slice_get, All, Option, Some, None, refl, ap, ◌∙◌, subst, arith}
use Rattle.std.specs.Prelude.{IfSome}
use Rattle.std.specs.List.{flat_map, find, AllByRecursion}
use Rattle.std.specs.Option.{option_map, option_map_or, option_and_then}
use Rattle.std.specs.Str.{bytes_eq}
use Rattle.std.proofs.lemmas.List.Elements.{recursion_from_All}
use Rattle.std.proofs.lemmas.Option.{slice_get-map, same_Some}
use Rattle.std.proofs.lemmas.Slice.Eq.{bytes_eq-Decides}
use Rattle.support.specs.Interned.{IsDistinctList}
use Rattle.kinds.specs.Types.{TypeTree, VoidType, IntType, PointerType, FloatingType, RefusedType, ArrayType, VectorType, StructType, NamedType, FunctionType, TypeTrees, NoTypes, ThenType, result_of, takes_of}
use Rattle.kinds.specs.Structs.{StructBody, Struct, struct_in, each_type, each_field, nests, IsNested, IsFormStruct}
use Rattle.kinds.specs.Held.{deepest, each_throughout, IsFirstClass}
use Rattle.kinds.specs.Fitting.{is_first_class}
use Rattle.kinds.specs.Names.{is_good_name}
use Rattle.kinds.proofs.TypeLaws.{and_left, and_right}
use Rattle.kinds.proofs.HeldLaws.{first_class_by}
use Rattle.kinds.proofs.NestLaws.{nested_shallow}
use Rattle.llvm_core.specs.Data.{Operand, Constant, Parameter, Result, Placed, Function, ModuleData, nth_type, param_type, const_type, operand_type, placed_in}
use Rattle.llvm_core.specs.Elements.{body_named}
use Rattle.llvm_core.specs.Form.{constant_type, constant_types, operands_of, types_in, IsMadeOperand, HasMadeOperands}
use Rattle.ll_lines.specs.Lines.{Text}
use Rattle.ll_said.specs.Said.{struct_of}
use Rattle.ll_said.specs.Sayable.{IsSayableModule}
use Rattle.ll_written.specs.Writable.{has_good_names, have_good_names, IsBody, IsStruct}
use Rattle.ll_written.proofs.NameForms.{struct_form}

-- ---- lists

pub all_front : {A : Type 0} (Q : A → Type 0) (xs ys : List A) → AllByRecursion Q (xs ++ ys) → AllByRecursion Q xs
all_front Q [] ys h = tt
all_front Q (x ∷ xs) ys h = (h.0, all_front Q xs ys h.1)

pub all_back : {A : Type 0} (Q : A → Type 0) (xs ys : List A) → AllByRecursion Q (xs ++ ys) → AllByRecursion Q ys
all_back Q [] ys h = h
all_back Q (x ∷ xs) ys h = all_back Q xs ys h.1

-- ---- types that nest over structs with good names

find_named : (q : Struct → Bool) (name : Text) (xs : List Struct) → AllByRecursion IsFormStruct xs → option_map_or q (struct_in xs name) false ≡ true → is_good_name name ≡ true
find_named q name [] all e = cc
find_named q name (x ∷ xs) all e = by (bytes_eq x.name name) refl (find_named q name xs all.1) e
  where
    by : (b : Bool) → bytes_eq x.name name ≡ b → (option_map_or q (struct_in xs name) false ≡ true → is_good_name name ≡ true) → option_map_or q (cond b (Some x) (struct_in xs name)) false ≡ true → is_good_name name ≡ true
    by true is others e = subst (λ (n : Text). is_good_name n ≡ true) ((bytes_eq-Decides x.name name).0 is) all.0.name
    by false is others e = others e

module _ (structs : List Struct) (all : AllByRecursion IsFormStruct structs) where
  mutual
    -- a line for each kind
    names_good : (n : ℕ) (t : TypeTree) → nests structs n t ≡ true → has_good_names t ≡ true
    names_good zero t h = cc
    names_good (suc n) (NamedType name) h = find_named (each_field (nests structs n)) name structs all h
    names_good (suc n) (ArrayType c t) h = names_good n t h
    names_good (suc n) (VectorType k c t) h = names_good n t h
    names_good (suc n) (StructType l ts) h = each_good n ts h
    names_good (suc n) (FunctionType r ps v) h =
        let a = names_good n r (and_left (nests structs n r) (each_type (nests structs n) ps) h) in
        let b = each_good n ps (and_right (nests structs n r) (each_type (nests structs n) ps) h) in
        cc
    names_good (suc n) VoidType h = refl
    names_good (suc n) (IntType w) h = refl
    names_good (suc n) (PointerType s) h = refl
    names_good (suc n) (FloatingType a) h = refl
    names_good (suc n) (RefusedType a) h = refl

    each_good : (n : ℕ) (ts : TypeTrees) → each_type (nests structs n) ts ≡ true → have_good_names ts ≡ true
    each_good n NoTypes h = refl
    each_good n (ThenType t ts) h =
        let a = names_good n t (and_left (nests structs n t) (each_type (nests structs n) ts) h) in
        let b = each_good n ts (and_right (nests structs n t) (each_type (nests structs n) ts) h) in
        cc

  pub nested_good : (t : TypeTree) → IsNested structs t → has_good_names t ≡ true
  nested_good t h = names_good deepest t h

-- ---- structs

-- a struct of a list without two of one name is the one of its name
struct_there : (xs : List Struct) → IsDistinctList (map (λ (s : Struct). s.name) xs) → (i : ℕ) (s : Struct) → slice_get xs i ≡ Some s → struct_in xs s.name ≡ Some s
struct_there [] once i s at = cc
struct_there (x ∷ xs) once zero s at =
    let same : x ≡ s = cc in
    let own : bytes_eq x.name s.name ≡ true = (bytes_eq-Decides x.name s.name).1 (ap (λ (y : Struct). y.name) same) in
    rw own (ap Some same)
struct_there (x ∷ xs) once (suc i) s at = by (bytes_eq x.name s.name) refl (struct_there xs (λ j k n a b. omega (arith, once (suc j) (suc k) n a b)) i s at)
  where
    named : slice_get (map (λ (y : Struct). y.name) xs) i ≡ Some s.name
    named = slice_get-map (λ (y : Struct). y.name) xs i ∙ ap (option_map (λ (y : Struct). y.name)) at

    by : (b : Bool) → bytes_eq x.name s.name ≡ b → struct_in xs s.name ≡ Some s → cond b (Some x) (struct_in xs s.name) ≡ Some s
    by true is others = absurd (let twice : 0 ≡ suc i = once 0 (suc i) s.name (ap Some ((bytes_eq-Decides x.name s.name).0 is)) named in cc)
    by false is others = others

-- its fields nest as a literal struct of them
struct_nested : (structs : List Struct) (n : ℕ) (name : Text) (s : Struct) (b : StructBody) → struct_in structs name ≡ Some s → s.body ≡ Some b → nests structs n (NamedType name) ≡ true → nests structs n (StructType b.layout b.fields) ≡ true
struct_nested structs zero name s b there is h = cc
struct_nested structs (suc n) name s b there is h =
    let fields = subst (λ (o : Option Struct). option_map_or (each_field (nests structs n)) o false ≡ true) there h in
    subst (λ (o : Option StructBody). option_map_or (λ (x : StructBody). each_type (nests structs n) x.fields) o true ≡ true) is fields

-- a struct that is found in a list of such of the form is one
form_found : (name : Text) (s : Struct) (xs : List Struct) → AllByRecursion IsFormStruct xs → struct_in xs name ≡ Some s → IsFormStruct s
form_found name s [] all e = absurd cc
form_found name s (x ∷ xs) all e = by (bytes_eq x.name name) (form_found name s xs all.1) e
  where
    by : (b : Bool) → (struct_in xs name ≡ Some s → IsFormStruct s) → cond b (Some x) (struct_in xs name) ≡ Some s → IsFormStruct s
    by true others e = subst IsFormStruct (same_Some x s e) all.0
    by false others e = others e

module _ (structs : List Struct) (all : AllByRecursion IsFormStruct structs) where
  -- a literal struct of its fields is a type of a value, and nests as it does
  fields_sound : (name : Text) (s : Struct) (b : StructBody) → struct_in structs name ≡ Some s → s.body ≡ Some b → IsFormStruct s → IsNested structs (NamedType name) → IsFirstClass (StructType b.layout b.fields) × IsNested structs (StructType b.layout b.fields)
  fields_sound name s b there is h nested =
      let deep = struct_nested structs deepest name s b there is nested in
      let fields = subst (λ (o : Option StructBody). option_map_or (λ (x : StructBody). each_throughout is_first_class x.fields) o true ≡ true) is h.fields in
      (first_class_by (StructType b.layout b.fields) fields (nested_shallow structs (StructType b.layout b.fields) deep), deep)

  -- so it is of what stands in the struct of a name
  pub body_sound : (name : Text) (b : StructBody) → body_named structs name ≡ Some b → IsNested structs (NamedType name) → IsFirstClass (StructType b.layout b.fields) × IsNested structs (StructType b.layout b.fields)
  body_sound name b is nested = by (struct_in structs name) refl is
    where
      by : (o : Option Struct) → struct_in structs name ≡ o → option_and_then (λ (s : Struct). s.body) o ≡ Some b → IsFirstClass (StructType b.layout b.fields) × IsNested structs (StructType b.layout b.fields)
      by None there is = absurd cc
      by (Some s) there is = fields_sound name s b there is (form_found name s structs all there) nested

  body_form : (s : Struct) (o : Option StructBody) → s.body ≡ o → IsFormStruct s → struct_in structs s.name ≡ Some s → IsNested structs (NamedType s.name) → IfSome o IsBody
  body_form s None is h there nested = tt
  body_form s (Some b) is h there nested =
      let k = fields_sound s.name s b there is h nested in
      record { type = k.0; names = nested_good structs all (StructType b.layout b.fields) k.1 }

  structs_by : (xs : List Struct) → ((i : ℕ) (s : Struct) → slice_get xs i ≡ Some s → struct_in structs s.name ≡ Some s) → AllByRecursion IsFormStruct xs → AllByRecursion (IsNested structs) (map (λ (s : Struct). NamedType s.name) xs)
      → AllByRecursion IsStruct (map struct_of xs)
  structs_by [] there forms nested = tt
  structs_by (x ∷ xs) there forms nested =
      (record { name = struct_form x.name forms.0.name; body = body_form x x.body refl forms.0 (there 0 x refl) nested.0 }, structs_by xs (λ i s at. there (suc i) s at) forms.1 nested.1)

-- ---- functions

abbrev pub HasGoodNames : TypeTree → Type 0
HasGoodNames t = has_good_names t ≡ true

-- the names in the type of an instruction's result are good; the types of the constants that it uses nest in these structs, and the
-- constants are made of what these types ask for
pub record IsGoodIn (structs : List Struct) (p : Placed) : Type 0 where
  pub result : HasGoodNames p.type
  pub constants : AllByRecursion (IsNested structs) (constant_types p)
  pub made : AllByRecursion (IsMadeOperand structs) (operands_of p.instruction)

-- the names in a function's types are good, and so are its instructions
pub record AreGoodIn (structs : List Struct) (f : Function) : Type 0 where
  pub signature : HasGoodNames f.type
  pub placed : AllByRecursion (IsGoodIn structs) (placed_in f)

pub result_good : (t : TypeTree) → has_good_names t ≡ true → has_good_names (result_of t) ≡ true
result_good (FunctionType r ps v) h = and_left (has_good_names r) (have_good_names ps) h
result_good t h = refl

takes_good : (t : TypeTree) → has_good_names t ≡ true → have_good_names (takes_of t) ≡ true
takes_good (FunctionType r ps v) h = and_right (has_good_names r) (have_good_names ps) h
takes_good t h = refl

nth_good : (ts : TypeTrees) (i : ℕ) → have_good_names ts ≡ true → has_good_names (nth_type ts i) ≡ true
nth_good NoTypes i h = refl
nth_good (ThenType t ts) zero h = and_left (has_good_names t) (have_good_names ts) h
nth_good (ThenType t ts) (suc i) h = nth_good ts i (and_right (has_good_names t) (have_good_names ts) h)

pub param_good : (t : TypeTree) (i : ℕ) → has_good_names t ≡ true → has_good_names (param_type t i) ≡ true
param_good t i h = nth_good (takes_of t) i (takes_good t h)

found_good : (structs : List Struct) (q : Placed → Bool) (ps : List Placed) → AllByRecursion (IsGoodIn structs) ps → has_good_names (option_map_or (λ (p : Placed). p.type) (find q ps) VoidType) ≡ true
found_good structs q [] all = refl
found_good structs q (p ∷ ps) all = by (q p) (found_good structs q ps all.1)
  where
    by : (b : Bool) → has_good_names (option_map_or (λ (p : Placed). p.type) (find q ps) VoidType) ≡ true → has_good_names (option_map_or (λ (p : Placed). p.type) (cond b (Some p) (find q ps)) VoidType) ≡ true
    by true others = all.0.result
    by false others = others

if_good : (b : Bool) (t : TypeTree) → has_good_names t ≡ true → has_good_names (cond b t VoidType) ≡ true
if_good true t h = h
if_good false t h = refl

-- so are those in the type of an operand, of a constant where its own type nests in the structs
pub operand_good : (structs : List Struct) → AllByRecursion IsFormStruct structs → (f : Function) → AreGoodIn structs f → (o : Operand) → AllByRecursion (IsNested structs) (constant_type o) → has_good_names (operand_type f o) ≡ true
operand_good structs all f good (Constant c) own = nested_good structs all (const_type c) own.0
operand_good structs all f good (Parameter g i) own = if_good (nat_eq g f.number) (param_type f.type i) (param_good f.type i good.signature)
operand_good structs all f good (Result n) own = found_good structs (λ (p : Placed). nat_eq p.number n) (placed_in f) good.placed

-- ---- modules

module _ (structs : List Struct) (all : AllByRecursion IsFormStruct structs) where
  abbrev AreNested : List TypeTree → Type 0
  AreNested ts = AllByRecursion (IsNested structs) ts

  abbrev results_of : List Placed → List TypeTree
  results_of ps = map (λ (p : Placed). p.type) ps

  -- the operands of instructions are made of what their types ask for
  abbrev AreMade : List Placed → Type 0
  AreMade ps = AllByRecursion (λ (p : Placed). All (IsMadeOperand structs) (operands_of p.instruction)) ps

  firsts : (ps qs : List Placed) → AreMade ps → AreNested (results_of (ps ++ qs)) → AreNested (flat_map constant_types (ps ++ qs)) → AllByRecursion (IsGoodIn structs) ps
  firsts [] qs made h k = tt
  firsts (p ∷ ps) qs made h k =
      let more = flat_map constant_types (ps ++ qs) in
      let own = all_front (IsNested structs) (constant_types p) more k in
      let operands = recursion_from_All (IsMadeOperand structs) (operands_of p.instruction) made.0 in
      (record { result = nested_good structs all p.type h.0; constants = own; made = operands }, firsts ps qs made.1 h.1 (all_back (IsNested structs) (constant_types p) more k))

  others : (ps qs : List Placed) → AreNested (results_of (ps ++ qs)) → AreNested (results_of qs)
  others [] qs h = h
  others (p ∷ ps) qs h = others ps qs h.1

  others_used : (ps qs : List Placed) → AreNested (flat_map constant_types (ps ++ qs)) → AreNested (flat_map constant_types qs)
  others_used [] qs k = k
  others_used (p ∷ ps) qs k = others_used ps qs (all_back (IsNested structs) (constant_types p) (flat_map constant_types (ps ++ qs)) k)

  functions_good : (fs : List Function) → AllByRecursion (HasMadeOperands structs) fs → AreNested (map (λ (f : Function). f.type) fs) → AreNested (results_of (flat_map placed_in fs)) → AreNested (flat_map constant_types (flat_map placed_in fs))
      → AllByRecursion (AreGoodIn structs) fs
  functions_good [] made signatures results constants = tt
  functions_good (f ∷ fs) made signatures results constants =
      let rest = flat_map placed_in fs in
      let own = recursion_from_All (λ (p : Placed). All (IsMadeOperand structs) (operands_of p.instruction)) (placed_in f) made.0 in (
        record { signature = nested_good structs all f.type signatures.0; placed = firsts (placed_in f) rest own results constants },
        functions_good fs made.1 signatures.1 (others (placed_in f) rest results) (others_used (placed_in f) rest constants),
      )

module _ (d : ModuleData) (h : IsSayableModule d) where
  abbrev signatures : List TypeTree
  signatures = map (λ (f : Function). f.type) d.functions

  abbrev results : List TypeTree
  results = map (λ (p : Placed). p.type) (flat_map placed_in d.functions)

  abbrev constants : List TypeTree
  constants = flat_map constant_types (flat_map placed_in d.functions)

  abbrev named : List TypeTree
  named = map (λ (s : Struct). NamedType s.name) d.structs

  pub forms : AllByRecursion IsFormStruct d.structs
  forms = recursion_from_All IsFormStruct d.structs h.structs

  nested : AllByRecursion (IsNested d.structs) (types_in d)
  nested = recursion_from_All (IsNested d.structs) (types_in d) h.nested

  middle : AllByRecursion (IsNested d.structs) (named ++ signatures ++ results)
  middle = all_front (IsNested d.structs) (named ++ signatures ++ results) constants nested

  early : AllByRecursion (IsNested d.structs) (named ++ signatures)
  early = all_front (IsNested d.structs) (named ++ signatures) results middle

  made : AllByRecursion (HasMadeOperands d.structs) d.functions
  made = recursion_from_All (HasMadeOperands d.structs) d.functions h.elements

  -- the names in the types of each function are good
  pub good_functions : AllByRecursion (AreGoodIn d.structs) d.functions
  good_functions = functions_good d.structs forms d.functions made (all_back (IsNested d.structs) named signatures early) (all_back (IsNested d.structs) (named ++ signatures) results middle)
      (all_back (IsNested d.structs) (named ++ signatures ++ results) constants nested)

  -- and its structs may be written
  pub structs_form : AllByRecursion IsStruct (map struct_of d.structs)
  structs_form = structs_by d.structs forms d.structs (struct_there d.structs h.struct_names) forms (all_front (IsNested d.structs) named signatures early)
