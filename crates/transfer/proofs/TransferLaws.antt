-- From what the import and the export made to what `transfer` promises.
use Rattle.std.proofs.Common.{ℕ, ◌≡◌, sym, ◌∙◌, ap, subst, List, [], ◌∷◌, Some, length, slice_get, map, All, arith}
use Rattle.std.proofs.lemmas.List.{length-map}
use Rattle.std.proofs.lemmas.List.Elements.{All-nil, All-cons, All-head, All-tail, All-weaker}
use Rattle.meaning.proofs.MatchedLaws.{matched_length, matched_at}
use Rattle.llvm_core.specs.Module.{Module}
use Rattle.llvm_core.specs.Form.{IsForm, IsFormFunction, HasDistinctNames}
use Rattle.llvm_core.specs.Data as L
use Rattle.llvm_core.specs.Data.{ModuleData, data_of}
use Rattle.llvm_core.proofs.DataLemmas.{within_at}
use Rattle.dialect_types.specs.Legalised.{Named}
use Rattle.dialect_core.specs.ContextData.{ContextData}
use Rattle.dialect_core.specs.Data as D
use Rattle.dialect_core.specs.Form.{HasTargets, IsExportable, LeadsToOwn}
use Rattle.dialect_core.proofs.TypingLaws.{module_open}
use Rattle.meaning.specs.Pairs.{Matched}
use Rattle.meaning.specs.Code.{IsDistinctNames, SameNamed, SameCode}
use Rattle.meaning.specs.Setting.{Setting}
use Rattle.meaning.specs.Llvm as Llvm
use Rattle.meaning.specs.Dialect as Dialect
use Rattle.meaning.proofs.CodeLaws.{same_code}
use Rattle.meaning.proofs.EntryLaws.{all_kept, distinct_code}
use Rattle.from_llvm_ir.specs.declared.importing.Imported.{Imported}
use Rattle.from_llvm_ir.specs.declared.matching.FunctionBlocks.{FunctionBlocks}
use Rattle.from_llvm_ir.specs.Match.{match_of}
use Rattle.from_llvm_ir.specs.Imported.{AreImported, NoneImported, ThenImported, IsImported, IsIn, imported_data, seen_by}
use Rattle.kinds.specs.Structs.{Struct}
use Rattle.from_llvm_ir.specs.Structs.{StructNames, IsStructMatch, identifiers}
use Rattle.renamed_source.specs.Names.{struct_name}
use Rattle.dialect_types.specs.Trees.{structs_of}
use Rattle.meaning.specs.Renamed.{renamed_function, renamed_module}
use Rattle.to_llvm_ir.specs.Exported.{ExportedFunction, IsExported}
use Rattle.to_llvm_ir.specs.Held.{IsReadable}
use Rattle.transfer.specs.Same.{SameThroughout, transferred_of}
use Rattle.from_llvm_ir.proofs.PairLaws.{matched_of, matched_map}
use Rattle.from_llvm_ir.proofs.MatchedLaws.{function_names, partner, count_imported, forms_imported, exportable_imported, names_imported}
use Rattle.from_llvm_ir.proofs.SameLaws.{function_numbered, own_names, same_imported, seen_at, place_there}
use Rattle.from_llvm_ir.proofs.RenamedWalks.{renamed_names, renamed_begins}
use Rattle.to_llvm_ir.proofs.CodeLaws.{names_exported}
use Rattle.transfer.proofs.SameFunctions.{entry_back}
use Rattle.renamed_source.specs.Source.{pairs_of}

-- ---- what the import made

-- what the export needs of what the import made
pub readable : (d : ModuleData) (c : ContextData) (i : Imported) → IsImported d c i → D.IsTyped c → IsReadable c i.«module».0.0
readable d c i h typed = record {
  there = h.building.there;
  kind = h.building.held.kind;
  region = omega (arith, ap length h.building.held.region);
  typed = typed;
  functions =
      let gs = (imported_data c i).functions in
      module_open c i.«module».0.0 (All-weaker IsExportable LeadsToOwn (λ g fit. fit.targets) gs (exportable_imported d h.given d.functions i.blocks gs h.functions)) (forms_imported d h.given d.functions i.blocks gs h.functions) h.ruled;
}

-- each block with arguments is an edge's target
targets : (d : ModuleData) (given : List Named) (fs : List L.Function) (xs : List FunctionBlocks) (gs : List D.Func) → AreImported d given fs xs gs → All HasTargets gs
targets d given [] [] [] NoneImported = All-nil HasTargets
targets d given (f ∷ fs) (x ∷ xs) (g ∷ gs) (ThenImported _ _ _ _ _ _ one more) = All-cons HasTargets g gs one.targets (targets d given fs xs gs more)
targets d given [] [] (g ∷ gs) h = elim h [ ]
targets d given [] (x ∷ xs) gs h = elim h [ ]
targets d given (f ∷ fs) [] gs h = elim h [ ]
targets d given (f ∷ fs) (x ∷ xs) [] h = elim h [ ]

pub targets_of : (d : ModuleData) (c : ContextData) (i : Imported) → IsImported d c i → All HasTargets (imported_data c i).functions
targets_of d c i h = targets d h.given d.functions i.blocks (imported_data c i).functions h.functions

-- so the functions that an export makes of these are of the form
functions_formed : (gs : List D.Func) (fs : List L.Function) → Matched ExportedFunction gs fs → All HasTargets gs → All IsFormFunction fs
functions_formed [] [] m h = All-nil IsFormFunction
functions_formed (g ∷ gs) (f ∷ fs) m h = All-cons IsFormFunction f fs (m.0.form (All-head HasTargets g gs h)) (functions_formed gs fs m.1 (All-tail HasTargets g gs h))
functions_formed [] (f ∷ fs) m h = absurd m
functions_formed (g ∷ gs) [] m h = absurd m

-- no two of its functions share an LLVM name
pub distinct_dialect : (d : ModuleData) (c : ContextData) (i : Imported) → IsImported (seen_by i d) c i → HasDistinctNames d → IsDistinctNames (map D.llvm_name_of (imported_data c i).functions)
distinct_dialect d c i h distinct =
    let names = names_imported (seen_by i d) h.given (seen_by i d).functions i.blocks (imported_data c i).functions h.functions ∙ renamed_names (struct_name (pairs_of i.structs.items)) d in
    subst IsDistinctNames (sym names) distinct.functions

-- ---- entries, place by place

module _ (d : ModuleData) (ss : StructNames) (given : List Named) (xs : List FunctionBlocks) (gs : List D.Func) (form : All IsFormFunction d.functions) (distinct : IsDistinctNames (function_names d.functions))
    (numbered : (i : ℕ) (f : L.Function) → slice_get d.functions i ≡ Some f → f.number ≡ i) (h : AreImported (renamed_module (struct_name ss) d) given (renamed_module (struct_name ss) d).functions xs gs) where
  abbrev source_seen : ModuleData
  source_seen = renamed_module (struct_name ss) d

  form_at : (i : ℕ) (f : L.Function) → slice_get d.functions i ≡ Some f → IsFormFunction f
  form_at i f at = within_at d.functions IsFormFunction form i f at

  module _ (d' : ModuleData) (k : Matched ExportedFunction gs d'.functions) where
    exported_at : (i : ℕ) (g : D.Func) (f' : L.Function) → slice_get gs i ≡ Some g → slice_get d'.functions i ≡ Some f' → ExportedFunction g f'
    exported_at i g f' at bt = matched_at ExportedFunction gs d'.functions k i g f' at bt

    entries_back : (source made back : Setting) → Matched (λ (f f' : L.Function). SameNamed (match_of d xs ss) (Llvm.entry source f) (Llvm.entry back f')) d.functions d'.functions
    entries_back source made back = matched_of (λ (f f' : L.Function). SameNamed (match_of d xs ss) (Llvm.entry source f) (Llvm.entry back f')) d.functions d'.functions
        (sym (matched_length ExportedFunction gs d'.functions k ∙ (count_imported source_seen given source_seen.functions xs gs h).1 ∙ length-map d.functions (renamed_function (struct_name ss)))) (λ i f f' at bt.
        let p = partner source_seen given source_seen.functions xs gs h i (renamed_function (struct_name ss) f) (seen_at d ss given xs gs form distinct numbered h i f at) in
        entry_back (match_of d xs ss) source_seen given f p.entry p.func (place_there d ss given xs gs form distinct numbered h i f p.entry at p.entry_at) (form_at i f at) p.imported f'
        (exported_at i p.func f' p.func_at bt) source made back)

-- ---- modules

module _ (m back : Module) (c : ContextData) (i : Imported) (form : IsForm (data_of m)) (distinct : HasDistinctNames (data_of m))
    (imported : IsImported (seen_by i (data_of m)) c i) (structs : IsStructMatch (data_of m) (pairs_of i.structs.items) (structs_of c.types))
    (only : All (λ (s : Struct). IsIn (identifiers (pairs_of i.structs.items)) s.name) (structs_of c.types)) (exported : IsExported (structs_of c.types) (imported_data c i) back) where
  names_back : function_names (data_of back).functions ≡ function_names (data_of m).functions
  names_back =
      names_exported (imported_data c i).functions (data_of back).functions exported.functions
      ∙ names_imported (seen_by i (data_of m)) imported.given (seen_by i (data_of m)).functions i.blocks (imported_data c i).functions imported.functions
      ∙ renamed_names (struct_name (pairs_of i.structs.items)) (data_of m)

  forms_back : All IsFormFunction (data_of back).functions
  forms_back = functions_formed (imported_data c i).functions (data_of back).functions exported.functions (targets_of (seen_by i (data_of m)) c i imported)

  same_back : SameCode (match_of (data_of m) i.blocks (pairs_of i.structs.items)) (Llvm.code_of (data_of m)) (Llvm.code_of (data_of back))
  same_back =
      let match = match_of (data_of m) i.blocks (pairs_of i.structs.items) in
      let source = Llvm.setting_of (data_of m) in
      let returned = Llvm.setting_of (data_of back) in
      let pairs = matched_map (SameNamed match) (Llvm.entry source) (Llvm.entry returned) (data_of m).functions (data_of back).functions
      (entries_back (data_of m) (pairs_of i.structs.items) imported.given i.blocks (imported_data c i).functions form.functions distinct.functions (function_numbered m) imported.functions (data_of back) exported.functions source (Dialect.setting_of (imported_data c i)) returned) in
      same_code match (Llvm.code_of (data_of m)) (Llvm.code_of (data_of back)) (distinct_code (data_of m) (own_names (data_of m).functions form.functions) distinct.functions)
      (rw (all_kept (data_of m).functions (own_names (data_of m).functions form.functions), all_kept (data_of back).functions (own_names (data_of back).functions forms_back)) pairs)

  pub same_throughout : SameThroughout (data_of m) (transferred_of c i back)
  same_throughout = record {
    given = imported.given;
    legalised = imported.legalised;
    begins = renamed_begins (struct_name (pairs_of i.structs.items)) (data_of m) imported.given imported.begins;
    dialect = same_imported m c i form imported distinct.functions;
    back = same_back;
    name = imported.name;
    back_name = exported.name;
    structs = structs;
    struct_names = imported.structs;
    only_structs = only;
    back_structs = exported.structs_are;
    functions = names_imported (seen_by i (data_of m)) imported.given (seen_by i (data_of m)).functions i.blocks (imported_data c i).functions imported.functions ∙ renamed_names (struct_name (pairs_of i.structs.items)) (data_of m);
    back_functions = names_back;
    imported = imported.functions;
    exported = exported.functions;
    well_formed = imported.well_formed (subst IsDistinctNames (sym (renamed_names (struct_name (pairs_of i.structs.items)) (data_of m))) distinct.functions);
  }
