-- The start of a dialect module, and one function after another.
use Rattle.std.proofs.Common.{ℕ, ◌≡◌, ◌<◌, ◌+◌, inr, refl, sym, ap, subst, ◌∙◌, List, [], ◌∷◌, ◌++◌, Option, Some, None, All, map, length, take, slice_get, get_or, arith, eq-eqb}
use Rattle.std.specs.Option.{option_map, option_map_or, option_and_then}
use Rattle.std.proofs.lemmas.Option.{same_Some, slice_get-get_or, slice_get_within}
use Rattle.std.proofs.lemmas.List.{take_all, map_push}
use Rattle.std.proofs.lemmas.List.Elements.{All-nil}
use Rattle.support.proofs.ListLaws.{take_next, slice_get-push}
use Rattle.support.specs.Changes.{with_change}
use Rattle.llvm_core.specs.declared.numbers.LLVMFunction.{LLVMFunction}
use Rattle.llvm_core.specs.Module.{Module}
use Rattle.llvm_core.specs.Data as L
use Rattle.llvm_core.specs.Data.{data_of as source_of}
use Rattle.llvm_core.specs.Form.{HasMadeOperands}
use Rattle.llvm_core.proofs.DataLemmas.{function_count}
use Rattle.dialect_types.specs.Trees.{structs_of}
use Rattle.dialect_types.specs.Legalised.{Named, Gave, GoesOn, IsGiven, IsLegalised}
use Rattle.dialect_types.proofs.LegalLaws.{gave_kept}
use Rattle.dialect_core.specs.declared.numbers.BlockRef.{BlockRef}
use Rattle.dialect_core.specs.declared.numbers.OpRef.{OpRef}
use Rattle.dialect_core.specs.declared.ops.OpData.{OpData}
use Rattle.dialect_core.specs.declared.ops.BlockData.{BlockData}
use Rattle.dialect_core.specs.declared.ops.OpKind.TheVariants as K
use Rattle.dialect_core.specs.Lists.{list_at}
use Rattle.dialect_core.specs.ContextData.{ContextData, AreRegions, IsSymbol, with_op, with_block, HoldsMore, holder_at, kind_at, region_at}
use Rattle.dialect_core.specs.Data.{DialectModule, Func, with_func, data_of}
use Rattle.dialect_core.specs.WellFormed.{IsFew, IsFewFunc}
use Rattle.dialect_core.proofs.FilterLemmas.{change_get}
use Rattle.renamed_source.specs.Source.{pairs_of}
use Rattle.from_llvm_ir.specs.declared.importing.Imported.{Imported}
use Rattle.from_llvm_ir.specs.declared.matching.FunctionBlocks.{FunctionBlocks}
use Rattle.from_consts.specs.declared.conversion_err.ConversionErr.{ConversionErr}
use Rattle.from_consts.specs.declared.conversion_err.ConversionErr.TheVariants as E
use Rattle.meaning.specs.Pairs.{Matched}
use Rattle.meaning.proofs.MatchedLaws.{matched_at, matched_length}
use Rattle.from_llvm_ir.specs.Imported.{FirstUses, NoUses, BeginsWith, IsOwn, AreImported, NoneImported, ThenImported, ImportedFunction, IsBuilding, IsImported, imported_data}
use Rattle.from_llvm_ir.specs.Refusals.{IsRefusalOfFunctions, IsRefusalOfFunction}
use Rattle.from_llvm_ir.specs.Source.{IsSource}
use Rattle.from_llvm_ir.specs.Importing.{IsImportedTo}
use Rattle.from_llvm_ir.specs.Naming.{names_in, HasMet, HasMetFirst}
use Rattle.from_llvm_ir.specs.Building.{module_named}
use Rattle.from_llvm_ir.proofs.ListLaws.{matched_next, matched_weaker}
use Rattle.from_llvm_ir.proofs.NameLaws.{first_names, met_one, met_then}
use Rattle.from_llvm_ir.proofs.BuildLaws.{at_end, length-push, region_more}
use Rattle.from_llvm_ir.proofs.OwnLaws.{own_start, own_op, own_block}
use Rattle.from_llvm_ir.proofs.MatchedLaws.{ruled_imported}
use Rattle.from_llvm_ir.proofs.WellLaws.{well_formed}

abbrev pub module_op : List ℕ → OpData
module_op name = record { kind = K.Module; name = Some name; operands = []; successors = []; result = None; symbol = None; blocks = [] }

-- a new module may hold a block
pub module_holds : (c0 c1 : ContextData) (o : OpRef) (name : List ℕ) → c1 ≡ with_op c0 (module_op name) → o.0 ≡ length c0.ops → HoldsMore c1.ops o
module_holds c0 c1 o name e1 number =
    let at : slice_get c1.ops o.0 ≡ Some (module_op name) = ap (λ (c : ContextData). slice_get c.ops o.0) e1 ∙ at_end c0.ops (module_op name) o number in
    inr (ap (option_map (λ (x : OpData). x.kind)) at, ap (λ (x : Option OpData). option_map_or (λ (y : OpData). y.blocks) x []) at)

-- a new module, with a new block that holds nothing, behind whatever the context held
pub started : (c0 c1 c2 : ContextData) (o : OpRef) (b : BlockRef) (name : List ℕ)
    → c1 ≡ with_op c0 (module_op name) → o.0 ≡ length c0.ops
    → c2 ≡ with_block c1 b (record { holder = o; label = None; args = [] }) → b.0 ≡ length c1.blocks
    → data_of c2 o.0 ≡ module_named name → list_at c2.lists b ≡ []
    → IsBuilding c2 o.0 b (module_named name)
started c0 c1 c2 o b name e1 number e2 place is empty =
    let x : BlockData = record { holder = o; label = None; args = [] } in
    let ops : c2.ops ≡ with_change (region_more b) o.0 c1.ops = ap (λ (c : ContextData). c.ops) e2 in
    let blocks : c2.blocks ≡ c1.blocks ++ x ∷ [] = ap (λ (c : ContextData). c.blocks) e2 in
    let at1 : slice_get c1.ops o.0 ≡ Some (module_op name) = ap (λ (c : ContextData). slice_get c.ops o.0) e1 ∙ at_end c0.ops (module_op name) o number in
    let at2 : slice_get c2.ops o.0 ≡ Some (region_more b (module_op name)) =
    ap (λ (ys : List OpData). slice_get ys o.0) ops ∙ change_get (region_more b) o.0 c1.ops o.0 ∙ rw (eq-eqb o.0 o.0 refl) (ap (option_map (region_more b)) at1) in
    let kind : kind_at c2.ops o ≡ Some K.Module = ap (option_map (λ (y : OpData). y.kind)) at2 in
    let here : slice_get c2.blocks b.0 ≡ Some x = ap (λ (ys : List BlockData). slice_get ys b.0) blocks ∙ slice_get-push c1.blocks x b.0 place in
    let count : length c2.blocks ≡ length c1.blocks + 1 = ap (λ (ys : List BlockData). length ys) blocks ∙ length-push c1.blocks x in
    let bare : list_at (with_block c1 b x).lists b ≡ [] = subst (λ (c : ContextData). list_at c.lists b ≡ []) e2 empty in
    record {
      held = record {
        kind = kind;
        region = ap (λ (y : Option OpData). option_map_or (λ (z : OpData). z.blocks) y []) at2;
        block = omega (arith, count, place);
        holder = ap (option_and_then (λ (y : BlockData). kind_at c2.ops y.holder)) here ∙ kind;
        bare = λ y at. ap (λ (z : BlockData). z.args) (same_Some y x (sym at ∙ here));
      };
      apart = record {
        funcs = let P : List OpRef → Type 0 = All (λ (q : OpRef). kind_at c2.ops q ≡ Some K.Func) in subst P (sym empty) (All-nil _);
        plain = λ p behind within. absurd (omega (arith, behind, within, count, place));
      };
      is = is;
      there = slice_get_within c2.ops o.0 _ at2;
      own = subst (λ (c : ContextData). IsOwn c o.0 b) (sym e2) (own_block c1 b x o.0 b (own_first c0 c1 o b name e1 number place) place (omega arith) (All-nil _) bare);
      below = All-nil _;
    }
  where
    own_first : (c0 c1 : ContextData) (o : OpRef) (b : BlockRef) (name : List ℕ) → c1 ≡ with_op c0 (module_op name) → o.0 ≡ length c0.ops → b.0 ≡ length c1.blocks → IsOwn c1 o.0 b
    own_first c0 c1 o b name e1 number place =
        let place0 : b.0 ≡ length c0.blocks = place ∙ ap (λ (c : ContextData). length c.blocks) e1 in
        let own0 : IsOwn c0 o.0 b = subst (λ (n : ℕ). IsOwn c0 n b) (sym number) (own_start c0 b place0) in
        subst (λ (c : ContextData). IsOwn c o.0 b) (sym e1) (own_op c0 (module_op name) o.0 b own0 (record { kind = tt; result = tt; symbol = tt }) refl)

-- ---- one function more

imported_push : (d : L.ModuleData) (given : List Named) (fs : List L.Function) (xs : List FunctionBlocks) (gs : List Func) (f : L.Function) (x : FunctionBlocks) (g : Func)
    → AreImported d given fs xs gs → ImportedFunction d given f x g → AreImported d given (fs ++ f ∷ []) (xs ++ x ∷ []) (gs ++ g ∷ [])
imported_push d given fs xs gs f x g NoneImported one = ThenImported f x g [] [] [] one NoneImported
imported_push d given fs xs gs f x g (ThenImported a y b before ys bs first more) one = ThenImported a y b _ _ _ first (imported_push d given before ys bs f x g more one)

pub imported_none : (d : L.ModuleData) (given : List Named) (c : ContextData) (o : ℕ) (body : BlockRef) (name : List ℕ) → IsBuilding c o body (module_named name) → IsImportedTo d given 0 c o body name []
imported_none d given c o body name h = record { so_far = module_named name; building = h; name_is = refl; functions = NoneImported }

pub imported_more : (d : L.ModuleData) (given : List Named) (k : ℕ) (g : L.Function) (c c' : ContextData) (o : ℕ) (body : BlockRef) (name : List ℕ) (xs : List FunctionBlocks) (x : FunctionBlocks) (h : IsImportedTo d given k c o body name xs)
    → slice_get d.functions k ≡ Some g → (y : Func) × ImportedFunction d given g x y × IsBuilding c' o body (with_func h.so_far y)
    → IsImportedTo d given (k + 1) c' o body name (xs ++ x ∷ [])
imported_more d given k g c c' o body name xs x h at one = record {
  so_far = with_func h.so_far one.0;
  building = one.2;
  name_is = h.name_is;
  functions = subst (λ (fs : List L.Function). AreImported d given fs (xs ++ x ∷ []) (h.so_far.functions ++ one.0 ∷ [])) (sym (take_next d.functions k g at))
      (imported_push d given (take k d.functions) xs h.so_far.functions g x one.0 h.functions one.1);
}

-- the module is imported when all functions are, and its lists are short
pub imported_whole : (m : Module) (given : List Named) (c : ContextData) (i : Imported) (body : BlockRef) (name : List ℕ) → IsLegalised given → BeginsWith (source_of m) given → Gave given m.name name → AreRegions (region_at c.ops) (holder_at c.blocks) → ((o : OpRef) → kind_at c.ops o ≡ Some K.Func → IsSymbol c.ops o)
    → IsFew (list_at c.lists body) × All (IsFewFunc c) (list_at c.lists body) → All (λ (p : List ℕ × List ℕ). Gave given p.0 p.1) (pairs_of i.structs.items) → IsImportedTo (source_of m) given (length m.functions) c i.«module».0.0 body name i.blocks → All (HasMadeOperands (structs_of c.types)) (source_of m).functions → IsImported (source_of m) c i
imported_whole m given c i body name legal begins gave regions symbols few structs h made =
    let same : imported_data c i ≡ h.so_far = h.building.is in
    let all = take_all (length m.functions) (source_of m).functions (omega (arith, function_count m)) in
    let building = subst (λ (d : DialectModule). IsBuilding c i.«module».0.0 body d) (sym same) h.building in
    let functions = subst (λ (d : DialectModule). AreImported (source_of m) given (source_of m).functions i.blocks d.functions) (sym same)
    (subst (λ (fs : List L.Function). AreImported (source_of m) given fs i.blocks h.so_far.functions) all h.functions) in
    let ruled = ruled_imported (source_of m) given (structs_of c.types) (source_of m).functions i.blocks (imported_data c i).functions functions made in
    record {
      given = given;
      legalised = legal;
      begins = begins;
      body = body;
      building = building;
      name = subst (Gave given m.name) (sym (ap (λ (d : DialectModule). d.name) same ∙ h.name_is)) gave;
      structs = structs;
      functions = functions;
      ruled = ruled;
      well_formed = well_formed (source_of m) given legal c i.«module».0.0 body i.blocks building functions regions symbols few ruled;
    }

-- an import that begins with no names meets first that of the module and then those of its functions
pub begun_with : (m : Module) (old between new : List Named) → old ≡ [] → HasMet old between (m.name ∷ []) → HasMetFirst between new (map (λ (f : L.Function). f.name) (source_of m).functions) → BeginsWith (source_of m) new
begun_with m old between new none root functions =
    let empty : names_in old ≡ [] = ap names_in none in
    let first = root [] (subst (FirstUses []) (sym empty) NoUses) in
    let names = first_names between new (map (λ (f : L.Function). f.name) (source_of m).functions) functions (m.name ∷ []) first in
    record { firsts = names.0; first_uses = names.1; others = names.2; are = names.3 }

-- what refuses a function refuses the module
pub function_cause : (m : Module) (f : LLVMFunction) (g : L.Function) (e : ConversionErr) → IsSource m f g → IsRefusalOfFunction g e → IsRefusalOfFunctions (source_of m) e
function_cause m f g (E.UndefinedValue name v) h refused = record { place = f.0; f = g; at = h.at; refused = refused }
function_cause m f g (E.IntConstTooWide width) h refused = absurd refused
function_cause m f g (E.Unsupported u) h refused = absurd refused
function_cause m f g (E.Struct s) h refused = absurd refused
function_cause m f g E.NoMemory h refused = tt

-- as many identifiers as functions
pub names_long : (fs : List L.Function) (given : List Named) (names : List (List ℕ)) → Matched (λ (f : L.Function) (n : List ℕ). Gave given f.name n) fs names → (k : ℕ) → k < length fs → k < length names
names_long fs given names are k lt = let long = matched_length (λ (f : L.Function) (n : List ℕ). Gave given f.name n) fs names are in omega (arith, long, lt)

-- the identifier that was given to a function
pub name_given : (given : List Named) (fs : List L.Function) (names : List (List ℕ)) (k : ℕ) (g : L.Function) (x : List ℕ) → Matched (λ (f : L.Function) (n : List ℕ). Gave given f.name n) fs names → slice_get fs k ≡ Some g → x ≡ get_or names k x → Gave given g.name x
name_given given fs names k g x are at is =
    let within = names_long fs given names are k (slice_get_within fs k g at) in
    subst (Gave given g.name) (sym is) (matched_at (λ (f : L.Function) (n : List ℕ). Gave given f.name n) fs names are k g (get_or names k x) at (slice_get-get_or names k x within))

-- one function more was given its identifier
pub given_more : (old new : List Named) (fs : List L.Function) (k : ℕ) (g : L.Function) (ns ms : List (List ℕ)) (i : List ℕ) → GoesOn old new → Matched (λ (f : L.Function) (n : List ℕ). Gave old f.name n) (take k fs) ns → slice_get fs k ≡ Some g → Gave new g.name i → ms ≡ ns ++ i ∷ []
    → Matched (λ (f : L.Function) (n : List ℕ). Gave new f.name n) (take (k + 1) fs) ms
given_more old new fs k g ns ms i on before at gave is =
    matched_next (λ (f : L.Function) (n : List ℕ). Gave new f.name n) fs k g ns ms i at
    (matched_weaker (λ (f : L.Function) (n : List ℕ). Gave old f.name n) (λ (f : L.Function) (n : List ℕ). Gave new f.name n) (λ f n h. gave_kept old new f.name n on h) (take k fs) ns before) gave is

-- and met
pub met_more : (first old new : List Named) (fs : List L.Function) (k : ℕ) (g : L.Function) (i : List ℕ) → HasMet first old (map (λ (f : L.Function). f.name) (take k fs)) → IsGiven old new g.name i → slice_get fs k ≡ Some g
    → HasMet first new (map (λ (f : L.Function). f.name) (take (k + 1) fs))
met_more first old new fs k g i before given at =
    subst (HasMet first new) (sym (map_push (λ (f : L.Function). f.name) (take k fs) g) ∙ sym (ap (map (λ (f : L.Function). f.name)) (take_next fs k g at)))
    (met_then first old new (map (λ (f : L.Function). f.name) (take k fs)) (g.name ∷ []) before (met_one old new g.name i given))
