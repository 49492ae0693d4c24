-- From the names of structs, and from what is made under them, to what an import of all parts of a module promises.
use Rattle.std.proofs.Common.{ℕ, suc, ◌≡◌, ◌∙◌, refl, sym, ap, subst, Bool, true, false, if◌then◌else◌, List, [], ◌∷◌, ◌++◌, Some, None, All, map, length, slice_get, append_assoc, append-nil}
use Rattle.std.specs.Option.{option_map}
use Rattle.std.specs.List.{cons_option}
use Rattle.std.specs.Str.{bytes_eq}
use Rattle.std.proofs.lemmas.Option.{same_Some, slice_get-map}
use Rattle.std.proofs.lemmas.List.Elements.{All-weaker}
use Rattle.support.proofs.ListLaws.{slice_get-kept}
use Rattle.kinds.specs.Structs.{Struct, struct_in}
use Rattle.llvm_core.specs.Module.{Module}
use Rattle.llvm_core.specs.Data as L
use Rattle.llvm_core.specs.Data.{ModuleData, data_of}
use Rattle.llvm_core.specs.Form.{HasMadeOperands, IsForm, IsFormFunction, IsHeldFunction}
use Rattle.llvm_core.proofs.DataLemmas.{within_at}
use Rattle.dialect_core.specs.declared.numbers.BlockRef.{BlockRef}
use Rattle.dialect_core.specs.declared.numbers.OpRef.{OpRef}
use Rattle.dialect_core.specs.declared.ops.OpKind.TheVariants as K
use Rattle.dialect_core.specs.Lists.{list_at}
use Rattle.dialect_core.specs.ContextData.{ContextData, AreRegions, IsSymbol, holder_at, kind_at, region_at}
use Rattle.dialect_core.specs.WellFormed.{IsFew, IsFewFunc}
use Rattle.dialect_types.specs.Names.{IsIdentifier}
use Rattle.dialect_types.specs.Legalised.{Named, Gave, GoesOn, IsLegalised}
use Rattle.dialect_types.proofs.LegalLaws.{gave_legal, gave_kept, one_name}
use Rattle.dialect_types.specs.declared.struct_err.StructErr.TheVariants as S
use Rattle.dialect_types.specs.declared.types.TypeKind.{TypeKind}
use Rattle.dialect_types.specs.Trees.{IsGrounded, IsStored, struct_of, structs_of, type_trees}
use Rattle.dialect_types.proofs.NamedLaws.{structs_grown}
use Rattle.meaning.specs.Pairs.{Matched}
use Rattle.meaning.specs.Renamed.{renamed_function, renamed_module}
use Rattle.held_types.specs.Held.{AreHeld}
use Rattle.renamed_source.specs.Names.{AreStructNames, renamed_store, struct_name}
use Rattle.renamed_source.proofs.DataLaws.{renamed_data}
use Rattle.renamed_source.proofs.FormLaws.{get_from, mapped_all, renamed_form, renamed_held}
use Rattle.renamed_source.proofs.NameLaws.{struct_name_injective}
use Rattle.from_consts.specs.declared.conversion_err.ConversionErr.{ConversionErr}
use Rattle.from_consts.specs.declared.conversion_err.ConversionErr.TheVariants as E
use Rattle.from_llvm_ir.specs.declared.importing.Imported.{Imported}
use Rattle.from_llvm_ir.specs.Imported.{BeginsWith, FirstUses, NoUses, IsImported, seen_by}
use Rattle.from_llvm_ir.specs.Importing.{IsImportedTo}
use Rattle.from_llvm_ir.specs.Naming.{HasMet, names_in}
use Rattle.from_consts.specs.Forward.{of_struct}
use Rattle.dialect_types.specs.declared.struct_err.StructErr.{StructErr}
use Rattle.from_llvm_ir.proofs.NameLaws.{met_then}
use Rattle.from_llvm_ir.specs.Refusals.{IsCause, IsCauseAfter, IsRefusalOfFunctions}
use Rattle.from_llvm_ir.specs.Staying.{AllStay}
use Rattle.renamed_source.specs.Source.{pairs_of}
use Rattle.from_llvm_ir.specs.Structs.{AreMade, AreNamed, HasOtherBody, IsStructMatch, StructNames, source_names}
use Rattle.from_llvm_ir.specs.Types.{IsReadyFor}
use Rattle.from_llvm_ir.proofs.ElementLaws.{functions_ready}
use Rattle.from_llvm_ir.proofs.RefusedLaws.{form_held}
use Rattle.from_llvm_ir.proofs.ModuleLaws.{imported_whole}
use Rattle.from_llvm_ir.proofs.RenamedWalks.{begins_renamed, renamed_use}

-- ---- names of structs

-- names with the identifiers that they were given are names with one identifier each
pub names_given : (d : ModuleData) (given : List Named) (pairs : StructNames) → IsLegalised given → AreNamed d given pairs → AreStructNames pairs
names_given d given pairs legal h = record {
  names = h.once;
  identifiers = λ i j x at bt.
      let p = get_from (λ (p : List ℕ × List ℕ). p.1) pairs i x at in
      let q = get_from (λ (p : List ℕ × List ℕ). p.1) pairs j x bt in
      let gave_p = subst (Gave given p.0.0) p.2 (within_at pairs (λ (p : List ℕ × List ℕ). Gave given p.0 p.1) h.gave i p.0 p.1) in
      let gave_q = subst (Gave given q.0.0) q.2 (within_at pairs (λ (p : List ℕ × List ℕ). Gave given p.0 p.1) h.gave j q.0 q.1) in
      let one = one_name given p.0.0 q.0.0 x legal gave_p gave_q in
      h.once i j p.0.0 (first_at i p.0 p.1) (first_at j q.0 q.1 ∙ ap Some (sym one));
  legal = All-weaker (λ (p : List ℕ × List ℕ). Gave given p.0 p.1) (λ (p : List ℕ × List ℕ). IsIdentifier p.1) (λ p gave. gave_legal given p.0 p.1 legal gave) pairs h.gave;
}
  where
    first_at : (i : ℕ) (p : List ℕ × List ℕ) → slice_get pairs i ≡ Some p → slice_get (map (λ (p : List ℕ × List ℕ). p.0) pairs) i ≡ Some p.0
    first_at i p at = slice_get-map (λ (p : List ℕ × List ℕ). p.0) pairs i ∙ ap (option_map (λ (p : List ℕ × List ℕ). p.0)) at

-- more names may have been met since
pub named_later : (d : ModuleData) (old new : List Named) (pairs : StructNames) → GoesOn old new → AreNamed d old pairs → AreNamed d new pairs
named_later d old new pairs more h = record {
  once = h.once;
  gave = All-weaker (λ (p : List ℕ × List ℕ). Gave old p.0 p.1) (λ (p : List ℕ × List ℕ). Gave new p.0 p.1) (λ p gave. gave_kept old new p.0 p.1 more gave) pairs h.gave;
  held = h.held;
  all = h.all;
  ordered = h.ordered;
}

-- ---- the source under these names

module _ (m source : Module) (pairs : StructNames) (names : AreStructNames pairs) (is : source ≡ renamed_store (struct_name pairs) m) where
  pub seen_data : data_of source ≡ renamed_module (struct_name pairs) (data_of m)
  seen_data = ap data_of is ∙ renamed_data (struct_name pairs) m

  seen_functions : (data_of source).functions ≡ map (renamed_function (struct_name pairs)) (data_of m).functions
  seen_functions = ap (λ (d : ModuleData). d.functions) seen_data

  pub seen_form : IsForm (data_of m) → All IsFormFunction (data_of source).functions
  seen_form form =
      subst (All IsFormFunction) (sym seen_functions)
      (mapped_all IsFormFunction IsFormFunction (renamed_function (struct_name pairs)) (renamed_form (struct_name pairs) (λ a b e. struct_name_injective pairs names a b e)) (data_of m).functions form.functions)

  pub seen_held : IsForm (data_of m) → AreHeld (data_of m) → All IsHeldFunction (data_of source).functions
  seen_held form held =
      subst (All IsHeldFunction) (sym seen_functions)
      (mapped_all IsHeldFunction IsHeldFunction (renamed_function (struct_name pairs)) (renamed_held (struct_name pairs)) (data_of m).functions (form_held (data_of m) form.functions held))

  -- their functions are ready where the structs were made
  pub seen_ready : (given : List Named) (target : List Struct) → AreNamed (data_of m) given pairs → AreMade (data_of m) pairs target → IsForm (data_of m) → AreHeld (data_of m) → All (λ (g : L.Function). IsReadyFor g target) (data_of source).functions
  seen_ready given target named made form held =
      subst (All (λ (g : L.Function). IsReadyFor g target)) (sym seen_functions) (functions_ready (data_of m) pairs names named.all target made (form_held (data_of m) form.functions held) form.elements)

  matched_renamed : (old new : List Named) → GoesOn old new → (fs : List L.Function) (ns : List (List ℕ)) → Matched (λ (f : L.Function) (n : List ℕ). Gave old f.name n) fs ns
      → Matched (λ (f : L.Function) (n : List ℕ). Gave new f.name n) (map (renamed_function (struct_name pairs)) fs) ns
  matched_renamed old new more [] [] h = tt
  matched_renamed old new more (f ∷ fs) (n ∷ ns) h = (gave_kept old new f.name n more h.0, matched_renamed old new more fs ns h.1)
  matched_renamed old new more [] (n ∷ ns) h = absurd h
  matched_renamed old new more (f ∷ fs) [] h = absurd h

  pub seen_given : (old new : List Named) → GoesOn old new → (ns : List (List ℕ)) → Matched (λ (f : L.Function) (n : List ℕ). Gave old f.name n) (data_of m).functions ns
      → Matched (λ (f : L.Function) (n : List ℕ). Gave new f.name n) (data_of source).functions ns
  seen_given old new more ns h = subst (λ (fs : List L.Function). Matched (λ (f : L.Function) (n : List ℕ). Gave new f.name n) fs ns) (sym seen_functions) (matched_renamed old new more (data_of m).functions ns h)

  -- what refuses a function of the source refuses the module
  pub seen_cause : (met : List Named) (held : List Struct) (e : ConversionErr) → IsRefusalOfFunctions (data_of source) e → IsCauseAfter met held (data_of m) e
  seen_cause met held e h = by e (subst (λ (d : ModuleData). IsRefusalOfFunctions d e) seen_data h)
    where
      by : (e : ConversionErr) → IsRefusalOfFunctions (renamed_module (struct_name pairs) (data_of m)) e → IsCauseAfter met held (data_of m) e
      by (E.UndefinedValue name v) h = renamed_use (struct_name pairs) (data_of m) name v h
      by (E.IntConstTooWide width) h = absurd h
      by (E.Unsupported u) h = absurd h
      by (E.Struct s) h = absurd h
      by E.NoMemory h = tt

-- ---- structs that stay in a context

front_of : {X : Type 0} (xs ys : List X) → AllStay xs ys → (more : List X) × (ys ≡ xs ++ more)
front_of [] ys h = (ys, refl)
front_of (x ∷ xs) [] h = absurd (let no : None ≡ Some x = h 0 x refl in cc)
front_of (x ∷ xs) (y ∷ ys) h =
    let rest = front_of xs ys (λ i z at. h (suc i) z at) in
    let first : y ≡ x = same_Some y x (h 0 x refl) in
    (rest.0, cc (first, rest.1))

longer_structs : (old more : List TypeKind) → IsGrounded (old ++ more) → (tail : List Struct) × (structs_of (old ++ more) ≡ structs_of old ++ tail)
longer_structs old [] ok = ([], ap structs_of (append-nil old) ∙ sym (append-nil (structs_of old)))
longer_structs old (k ∷ more) ok =
    let whole : (old ++ k ∷ []) ++ more ≡ old ++ k ∷ more = append_assoc old (k ∷ []) more in
    let rest = longer_structs (old ++ k ∷ []) more (subst IsGrounded (sym whole) ok) in
    let here = cons_option (struct_of (type_trees (old ++ k ∷ [])) k) [] in
    let grounded : IsGrounded old = λ i x at. ok i x (slice_get-kept old (k ∷ more) i x at) in (
      here ++ rest.0,
      ap structs_of (sym whole) ∙ rest.1 ∙ ap (λ (ss : List Struct). ss ++ rest.0) (structs_grown old k grounded) ∙ append_assoc (structs_of old) here rest.0,
    )

found_more : (ss more : List Struct) (name : List ℕ) (s : Struct) → struct_in ss name ≡ Some s → struct_in (ss ++ more) name ≡ Some s
found_more [] more name s e = absurd (let no : None ≡ Some s = e in cc)
found_more (x ∷ ss) more name s e = by (bytes_eq x.name name) e (found_more ss more name s)
  where
    by : (b : Bool) → (if b then Some x else struct_in ss name) ≡ Some s → (struct_in ss name ≡ Some s → struct_in (ss ++ more) name ≡ Some s) → (if b then Some x else struct_in (ss ++ more) name) ≡ Some s
    by true e next = e
    by false e next = next e

-- a struct of a context is one of the context once it has more types
pub struct_stays : (old new : List TypeKind) (name : List ℕ) (s : Struct) → AllStay old new → IsStored new → struct_in (structs_of old) name ≡ Some s → struct_in (structs_of new) name ≡ Some s
struct_stays old new name s stay stored there =
    let front = front_of old new stay in
    let longer = longer_structs old front.0 (subst IsGrounded front.1 stored.grounded) in
    ap (λ (ks : List TypeKind). struct_in (structs_of ks) name) front.1 ∙ ap (λ (ss : List Struct). struct_in ss name) longer.1 ∙ found_more (structs_of old) longer.0 name s there

-- ---- the match of structs

pub struct_match : (d : ModuleData) (given : List Named) (pairs : StructNames) (old new : List TypeKind) → IsLegalised given → AreNamed d given pairs → AreMade d pairs (structs_of old) → AllStay old new → IsStored new
    → IsStructMatch d pairs (structs_of new)
struct_match d given pairs old new legal named made stay stored = record {
  names = named.once;
  identifiers = (names_given d given pairs legal named).identifiers;
  held = named.held;
  all = named.all;
  ordered = named.ordered;
  made = λ i p at. let x = made i p at in (x.0, x.1, struct_stays old new p.1 _ stay stored x.2);
}

-- what stops the making of structs, behind the names of functions and of these
pub other_after : (names first given : List Named) (before : List Struct) (d : ModuleData) (pairs : StructNames) (e : StructErr) → IsLegalised given → HasMet names first (map (λ (f : L.Function). f.name) d.functions)
    → HasMet first given (source_names pairs) → AreNamed d given pairs → ((i : List ℕ) → e ≡ S.DifferentBody i → HasOtherBody before d pairs i) → IsCauseAfter names before d (of_struct e)
other_after names first given before d pairs (S.DifferentBody i) legal functions structs named other = record {
  given = given;
  legalised = legal;
  pairs = pairs;
  met = met_then names first given (map (λ (f : L.Function). f.name) d.functions) (source_names pairs) functions structs;
  named = named;
  other = other i refl;
}
other_after names first given before d pairs S.NoMemory legal functions structs named other = tt

-- ---- the whole import

-- the module that was made stands for the source under these names
pub imported_seen : (m : Module) (given : List Named) (c : ContextData) (i : Imported) (body : BlockRef) (name : List ℕ) → IsLegalised given → BeginsWith (data_of m) given → Gave given m.name name → AreRegions (region_at c.ops) (holder_at c.blocks)
    → ((o : OpRef) → kind_at c.ops o ≡ Some K.Func → IsSymbol c.ops o) → IsFew (list_at c.lists body) × All (IsFewFunc c) (list_at c.lists body)
    → All (λ (p : List ℕ × List ℕ). Gave given p.0 p.1) (pairs_of i.structs.items) → IsImportedTo (seen_by i (data_of m)) given (length m.functions) c i.«module».0.0 body name i.blocks
    → IsForm (data_of m) → AreHeld (data_of m) → AreNamed (data_of m) given (pairs_of i.structs.items) → AreMade (data_of m) (pairs_of i.structs.items) (structs_of c.types) → IsImported (seen_by i (data_of m)) c i
imported_seen m given c i body name legal begins gave regions symbols few structs h form held named in_context =
    let to = struct_name (pairs_of i.structs.items) in
    let is = renamed_data to m in
    let first = subst (λ (d : ModuleData). BeginsWith d given) (sym is) (begins_renamed to (data_of m) given begins) in
    let made = subst (λ (d : ModuleData). IsImportedTo d given (length m.functions) c i.«module».0.0 body name i.blocks) (sym is) h in
    let pairs = pairs_of i.structs.items in
    let ready = seen_ready m (renamed_store to m) pairs (names_given (data_of m) given pairs legal named) refl given (structs_of c.types) named in_context form held in
    let elements = All-weaker (λ (g : L.Function). IsReadyFor g (structs_of c.types)) (HasMadeOperands (structs_of c.types)) (λ g r. r.1) (data_of (renamed_store to m)).functions ready in
    subst (λ (d : ModuleData). IsImported d c i) is (imported_whole (renamed_store to m) given c i body name legal first gave regions symbols few structs made elements)

-- what stopped the import behind the first names is why it refuses the module
pub cause_after : (m : Module) (old start : List Named) (held before : List Struct) → old ≡ [] → HasMet old start (m.name ∷ []) → held ≡ before → (e : ConversionErr) → IsCauseAfter start held (data_of m) e → IsCause before (data_of m) e
cause_after m old start held before none root is (E.UndefinedValue name v) h = h
cause_after m old start held before none root is (E.IntConstTooWide width) h = absurd h
cause_after m old start held before none root is (E.Unsupported u) h = absurd h
cause_after m old start held before none root is (E.Struct (S.DifferentBody identifier)) h = record {
  given = h.given;
  legalised = h.legalised;
  pairs = h.pairs;
  met = (names_in h.given, h.met (m.name ∷ []) (root [] (subst (FirstUses []) (sym (ap names_in none)) NoUses)), refl);
  named = h.named;
  other = subst (λ (ss : List Struct). HasOtherBody ss (data_of m) h.pairs identifier) is h.other;
}
cause_after m old start held before none root is (E.Struct S.NoMemory) h = absurd h
cause_after m old start held before none root is E.NoMemory h = tt
