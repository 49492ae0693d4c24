-- A module that an import made has the code of its source.
use Rattle.std.proofs.Common.{ℕ, ◌≡◌, refl, sym, ap, ◌∙◌, subst, List, Some, slice_get, All, arith}
use Rattle.std.specs.Option.{option_map}
use Rattle.std.proofs.lemmas.List.{length-map}
use Rattle.std.proofs.lemmas.List.Elements.{All-weaker}
use Rattle.std.proofs.lemmas.Option.{slice_get_within, slice_get-map, same_Some}
use Rattle.support.proofs.ListLaws.{item_there}
use Rattle.llvm_core.specs.Module.{Module}
use Rattle.llvm_core.specs.Form.{IsForm, IsFormFunction}
use Rattle.llvm_core.specs.Data as L
use Rattle.llvm_core.specs.Data.{ModuleData, data_of}
use Rattle.llvm_core.proofs.DataLemmas.{within_at, function_at, function_count}
use Rattle.dialect_types.specs.Legalised.{Named}
use Rattle.dialect_core.specs.ContextData.{ContextData}
use Rattle.dialect_core.specs.Data as D
use Rattle.meaning.specs.Pairs.{Matched}
use Rattle.meaning.specs.Code.{IsDistinctNames, SameNamed, SameCode}
use Rattle.meaning.specs.Setting.{Setting}
use Rattle.meaning.specs.Terms.{Match}
use Rattle.meaning.specs.Renamed.{renamed_function, renamed_module}
use Rattle.meaning.specs.Llvm as Llvm
use Rattle.meaning.specs.Dialect as Dialect
use Rattle.meaning.proofs.CodeLaws.{same_code}
use Rattle.meaning.proofs.EntryLaws.{HasOwnName, all_kept, distinct_code}
use Rattle.from_llvm_ir.specs.declared.importing.Imported.{Imported}
use Rattle.from_llvm_ir.specs.declared.matching.FunctionBlocks.{FunctionBlocks}
use Rattle.from_llvm_ir.specs.Match.{match_of, place_at}
use Rattle.from_llvm_ir.specs.Imported.{AreImported, IsImported, imported_data, seen_by}
use Rattle.from_llvm_ir.specs.Structs.{StructNames}
use Rattle.renamed_source.specs.Names.{struct_name}
use Rattle.from_llvm_ir.proofs.PairLaws.{matched_of, matched_map}
use Rattle.from_llvm_ir.proofs.MatchedLaws.{function_names, partner, count_imported, matched_place}
use Rattle.from_llvm_ir.proofs.RenamedWalks.{renamed_match, renamed_names}
use Rattle.from_llvm_ir.proofs.CodeLaws.{imported_entry}
use Rattle.renamed_source.specs.Source.{pairs_of}

pub own_names : (fs : List L.Function) → All IsFormFunction fs → All HasOwnName fs
own_names fs h = All-weaker IsFormFunction HasOwnName (λ f form. form.own) fs h

-- ---- entries, place by place

module _ (d : ModuleData) (ss : StructNames) (given : List Named) (xs : List FunctionBlocks) (gs : List D.Func) (form : All IsFormFunction d.functions) (distinct : IsDistinctNames (function_names d.functions))
    (numbered : (i : ℕ) (f : L.Function) → slice_get d.functions i ≡ Some f → f.number ≡ i) (h : AreImported (renamed_module (struct_name ss) d) given (renamed_module (struct_name ss) d).functions xs gs) where
  abbrev seen : ModuleData
  seen = renamed_module (struct_name ss) d

  abbrev match : Match
  match = match_of d xs ss

  pub seen_at : (i : ℕ) (f : L.Function) → slice_get d.functions i ≡ Some f → slice_get seen.functions i ≡ Some (renamed_function (struct_name ss) f)
  seen_at i f at = slice_get-map (renamed_function (struct_name ss)) d.functions i ∙ ap (option_map (renamed_function (struct_name ss))) at

  seen_numbered : (i : ℕ) (f : L.Function) → slice_get seen.functions i ≡ Some f → f.number ≡ i
  seen_numbered i f at =
      let x = item_there d.functions i (omega (arith, slice_get_within seen.functions i f at, length-map d.functions (renamed_function (struct_name ss)))) in
      let same = same_Some (renamed_function (struct_name ss) x.0) f (sym (seen_at i x.0 x.1) ∙ at) in
      ap (λ (y : L.Function). y.number) (sym same) ∙ numbered i x.0 x.1

  -- the match puts a block where the entry of its function says
  pub place_there : (i : ℕ) (f : L.Function) (x : FunctionBlocks) → slice_get d.functions i ≡ Some f → slice_get xs i ≡ Some x → (b : ℕ) → match.block f.name b ≡ place_at b x
  place_there i f x at there b =
      ap (λ (m : List ℕ → ℕ → ℕ). m f.name b) (sym (renamed_match (struct_name ss) d xs ss))
      ∙ matched_place seen given xs gs ss (subst IsDistinctNames (sym (renamed_names (struct_name ss) d)) distinct) seen_numbered h i (renamed_function (struct_name ss) f) x (seen_at i f at) there b

  -- whatever the modules tell
  entries_there : (source made : Setting) → Matched (λ (f : L.Function) (g : D.Func). SameNamed match (Llvm.entry source f) (Dialect.entry made g)) d.functions gs
  entries_there source made = matched_of (λ (f : L.Function) (g : D.Func). SameNamed match (Llvm.entry source f) (Dialect.entry made g)) d.functions gs (sym ((count_imported seen given seen.functions xs gs h).1 ∙ length-map d.functions (renamed_function (struct_name ss)))) (λ i f g at gt.
      let p = partner seen given seen.functions xs gs h i (renamed_function (struct_name ss) f) (seen_at i f at) in
      let same : p.func ≡ g = let e = sym p.func_at ∙ gt in cc in
      subst (λ (g : D.Func). SameNamed match (Llvm.entry source f) (Dialect.entry made g)) same
      (imported_entry match seen given f p.entry p.func (place_there i f p.entry at p.entry_at) (within_at d.functions IsFormFunction form i f at) p.imported source made))

  pub same_dialect : (target : D.DialectModule) → target.functions ≡ gs → SameCode match (Llvm.code_of d) (Dialect.code_of target)
  same_dialect target are =
      let source = Llvm.setting_of d in
      let made = Dialect.setting_of target in
      let pairs = matched_map (SameNamed match) (Llvm.entry source) (Dialect.entry made) d.functions gs (entries_there source made) in
      same_code match (Llvm.code_of d) (Dialect.code_of target) (distinct_code d (own_names d.functions form) distinct) (rw (all_kept d.functions (own_names d.functions form), are) pairs)

-- ---- modules

pub function_numbered : (m : Module) (i : ℕ) (f : L.Function) → slice_get (data_of m).functions i ≡ Some f → f.number ≡ i
function_numbered m i f at =
    let small = slice_get_within (data_of m).functions i f at in
    let (x, here) = item_there m.functions i (let c = function_count m in omega (arith, small, c)) in
    let same = sym (function_at m i x here) ∙ at in
    cc same

pub same_imported : (m : Module) (c : ContextData) (i : Imported) → IsForm (data_of m) → IsImported (seen_by i (data_of m)) c i
    → IsDistinctNames (function_names (data_of m).functions) → SameCode (match_of (data_of m) i.blocks (pairs_of i.structs.items)) (Llvm.code_of (data_of m)) (Dialect.code_of (imported_data c i))
same_imported m c i form h distinct =
    same_dialect (data_of m) (pairs_of i.structs.items) h.given i.blocks (imported_data c i).functions form.functions distinct (function_numbered m) h.functions (imported_data c i) refl
