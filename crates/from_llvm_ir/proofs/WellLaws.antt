-- A module that is built keeps the rules of the dialect.
use Rattle.std.proofs.Common.{ℕ, ◌≡◌, ◌<◌, ◌≤◌, refl, sym, ap, subst, ◌∙◌, true, false, List, [], Option, Some, None, All, length, map, slice_get, arith}
use Rattle.std.specs.Option.{option_map, option_map_or}
use Rattle.std.proofs.lemmas.List.Elements.{All-cons, All-nil, All-weaker}
use Rattle.std.proofs.lemmas.Option.{none-some, slice_get-map, slice_get_within, same_Some}
use Rattle.support.proofs.ListLaws.{all_from}
use Rattle.llvm_core.specs.Data as L
use Rattle.dialect_types.specs.declared.types.TypeHandle.{TypeHandle}
use Rattle.dialect_types.specs.Trees.{structs_of, type_at, type_trees}
use Rattle.dialect_types.specs.Legalised.{Named, Gave, IsLegalised}
use Rattle.dialect_types.proofs.LegalLaws.{one_name}
use Rattle.dialect_core.specs.declared.numbers.OpRef.{OpRef}
use Rattle.dialect_core.specs.declared.numbers.BlockRef.{BlockRef}
use Rattle.dialect_core.specs.declared.ops.OpKind.TheVariants as K
use Rattle.dialect_core.specs.declared.ops.OpData.{OpData}
use Rattle.dialect_core.specs.declared.ops.BlockData.{BlockData}
use Rattle.dialect_core.specs.Lists.{list_at}
use Rattle.dialect_core.specs.ContextData.{ContextData, AreRegions, IsPlainKindAt, IsSymbol, holder_at, is_func, kind_at, region_at}
use Rattle.dialect_core.specs.Data.{Func, llvm_name_of, data_of, held, type_in}
use Rattle.dialect_core.specs.Form.{IsFormFunc, IsRuled, IsExportable, LeadsToOwn}
use Rattle.kinds.specs.Held.{IsFirstClass}
use Rattle.dialect_core.specs.WellFormed.{HasFirstClassArgs, IsFew, IsFewFunc, IsOpenForm, IsWellFormedFunc, HasNamesApart, IsWellFormed}
use Rattle.dialect_core.proofs.HoldLemmas.{flat_stands}
use Rattle.dialect_core.proofs.LineLemmas.{all_at}
use Rattle.dialect_core.proofs.OwnEdgeLaws.{own_module}
use Rattle.dialect_core.proofs.PlainLaws.{open_plain}
use Rattle.dialect_core.proofs.TypingLaws.{module_open}
use Rattle.meaning.specs.Code.{IsDistinctNames}
use Rattle.from_llvm_ir.specs.declared.matching.FunctionBlocks.{FunctionBlocks}
use Rattle.from_llvm_ir.specs.Imported.{AreImported, IsBuilding}
use Rattle.from_llvm_ir.proofs.OwnLaws.{held_list, held_own}
use Rattle.from_llvm_ir.proofs.MatchedLaws.{function_names, forms_imported, exportable_imported, name_at, names_imported, original}

-- ---- names

-- functions whose LLVM names are distinct have these apart
names_apart : (ns : List (List ℕ)) (gs : List Func) → map llvm_name_of gs ≡ ns → IsDistinctNames ns → HasNamesApart llvm_name_of gs
names_apart ns gs are distinct i j f g at_f at_g same = distinct i j (llvm_name_of f) (named i f at_f) (named j g at_g ∙ ap Some (sym same))
  where
    named : (i : ℕ) (f : Func) → slice_get gs i ≡ Some f → slice_get ns i ≡ Some (llvm_name_of f)
    named i f at = ap (λ (xs : List (List ℕ)). slice_get xs i) (sym are) ∙ slice_get-map llvm_name_of gs i ∙ ap (option_map llvm_name_of) at

-- and their identifiers too, since those of two names are two
identifiers_apart : (d : L.ModuleData) (given : List Named) (xs : List FunctionBlocks) (gs : List Func) → IsLegalised given → AreImported d given d.functions xs gs → IsDistinctNames (function_names d.functions) → HasNamesApart (λ (g : Func). g.name) gs
identifiers_apart d given xs gs legal h distinct i j f g at_f at_g same =
    let a = original d given d.functions xs gs h i f at_f in
    let b = original d given d.functions xs gs h j g at_g in
    let one : a.source.name ≡ b.source.name = one_name given a.source.name b.source.name g.name legal (subst (Gave given a.source.name) same a.name) b.name in
    distinct i j a.source.name (name_at d.functions i a.source a.at) (name_at d.functions j b.source b.at ∙ ap Some (sym one))

-- ---- the rules

module _ (d : L.ModuleData) (given : List Named) (legal : IsLegalised given) (c : ContextData) (m : ℕ) (body : BlockRef) (xs : List FunctionBlocks) (h : IsBuilding c m body (data_of c m)) (functions : AreImported d given d.functions xs (data_of c m).functions)
    (regions : AreRegions (region_at c.ops) (holder_at c.blocks)) (symbols : (o : OpRef) → kind_at c.ops o ≡ Some K.Func → IsSymbol c.ops o) (few : IsFew (list_at c.lists body) × All (IsFewFunc c) (list_at c.lists body)) (ruled : All (IsRuled (structs_of c.types)) (data_of c m).functions) where
  abbrev gs : List Func
  gs = (data_of c m).functions

  funcs_alone : All (λ (o : OpRef). kind_at c.ops o ≡ Some K.Func) (held c m)
  funcs_alone = let P : List OpRef → Type 0 = All (λ (o : OpRef). kind_at c.ops o ≡ Some K.Func) in subst P (sym (held_list c m body h.held)) h.apart.funcs

  -- a block of a function of the module is there
  within : (f k : ℕ) (b : BlockRef) → slice_get (region_at c.ops f) k ≡ Some b → b.0 < length c.blocks
  within f k b at = by (slice_get c.blocks b.0) refl (regions.ours f k b at)
    where
      by : (x : Option BlockData) → slice_get c.blocks b.0 ≡ x → option_map (λ (y : BlockData). y.holder.0) x ≡ Some f → b.0 < length c.blocks
      by None e at = absurd (none-some f at)
      by (Some x) e at = slice_get_within c.blocks b.0 x e

  -- it is none of those that the context held
  from : (f : ℕ) → m ≤ f → (k : ℕ) (b : BlockRef) → slice_get (region_at c.ops f) k ≡ Some b → body.0 ≤ b.0
  from f own k b at = by (slice_get c.ops f) refl at
    where
      by : (x : Option OpData) → slice_get c.ops f ≡ x → slice_get (option_map_or (λ (y : OpData). y.blocks) x []) k ≡ Some b → body.0 ≤ b.0
      by None e at = absurd (none-some b at)
      by (Some x) e at = (h.own.ops f x own e).1 k b at

  -- and it is not the block for functions
  away : (f : OpRef) → kind_at c.ops f ≡ Some K.Func → (k : ℕ) (b : BlockRef) → slice_get (region_at c.ops f.0) k ≡ Some b → ¬ (b.0 ≡ body.0)
  away f kind k b at same =
      let of_f = regions.ours f.0 k b at in
      let of_m = regions.ours m 0 body (ap (λ (bs : List BlockRef). slice_get bs 0) h.held.region) in
      let one : f.0 ≡ m = same_Some f.0 m (sym of_f ∙ ap (holder_at c.blocks) same ∙ of_m) in
      let is : Some K.Func ≡ Some K.Module = sym kind ∙ ap (λ (n : ℕ). kind_at c.ops (record { 0 = n })) one ∙ h.held.kind in
      let no : true ≡ false = ap is_func (same_Some K.Func K.Module is) in
      cc

  plain_held : (f : OpRef) → m ≤ f.0 → kind_at c.ops f ≡ Some K.Func → All (IsPlainKindAt c.ops) (held c f.0)
  plain_held f own kind = all_from (IsPlainKindAt c.ops) (held c f.0) (λ k o at.
      let w = flat_stands (list_at c.lists) (region_at c.ops f.0) o k at in
      let ne = away f kind w.1.0 w.0 w.1.1 in
      let le = from f.0 own w.1.0 w.0 w.1.1 in
      all_at (IsPlainKindAt c.ops) (list_at c.lists w.0) (h.apart.plain w.0 (omega (arith, ne, le)) (within f.0 w.1.0 w.0 w.1.1)) w.2.0 o w.2.1)

  forms : All IsFormFunc gs
  forms = forms_imported d given d.functions xs gs functions

  own_targets : All LeadsToOwn gs
  own_targets = All-weaker IsExportable LeadsToOwn (λ g fit. fit.targets) gs (exportable_imported d given d.functions xs gs functions)

  open_forms : All (IsOpenForm c) gs
  open_forms = module_open c m own_targets forms ruled

  lists : IsFew (held c m) × All (IsFewFunc c) (held c m)
  lists = let P : List OpRef → Type 0 = λ os. IsFew os × All (IsFewFunc c) os in subst P (sym (held_list c m body h.held)) few

  -- the block for functions takes nothing
  args : All (HasFirstClassArgs c) (region_at c.ops m)
  args =
      let P : List BlockRef → Type 0 = All (HasFirstClassArgs c) in
      subst P (sym h.held.region) (All-cons (HasFirstClassArgs c) body [] none (All-nil (HasFirstClassArgs c)))
    where
      none : HasFirstClassArgs c body
      none x at =
          let Q : List TypeHandle → Type 0 = λ ts. IsFew ts × All (λ (t : TypeHandle). IsFirstClass (type_at (type_trees c.types) t)) ts in
          subst Q (sym (h.held.bare x at)) (omega arith, λ k d l. absurd (omega (arith, l)))

  pub well_formed : IsDistinctNames (function_names d.functions) → IsWellFormed c m
  well_formed distinct =
      own_module c regions symbols m h.held.kind (rw h.held.region (omega arith)) args funcs_alone
      (open_plain c regions symbols m funcs_alone
      (all_from (λ (o : OpRef). All (IsPlainKindAt c.ops) (held c o.0)) (held c m) (λ k o at. plain_held o (held_own c m body h.held h.own k o at) (all_at (λ (o : OpRef). kind_at c.ops o ≡ Some K.Func) (held c m) funcs_alone k o at)))
      open_forms)
      (All-weaker (IsOpenForm c) (IsWellFormedFunc (type_in c)) (λ g form. form.0) gs open_forms) own_targets
      (identifiers_apart d given xs gs legal functions distinct) (names_apart (function_names d.functions) gs (names_imported d given d.functions xs gs functions) distinct) lists.0 lists.1
