-- A function that an import made has the code of the one that it stands for.
use Rattle.std.proofs.Common.{ℕ, zero, suc, ◌≡◌, ◌<◌, ◌≤◌, refl, sym, ◌∙◌, ap, subst, Bool, true, List, [], ◌∷◌, Option, Some, unwrap_or, length, slice_get, slice_index_or, arith}
use Rattle.std.proofs.lemmas.List.{length-map}
use Rattle.std.proofs.lemmas.Option.{slice_get_within}
use Rattle.support.proofs.ListLaws.{item_there}
use Rattle.kinds.specs.Types.{TypeTree}
use Rattle.llvm_core.specs.Data as L
use Rattle.llvm_core.specs.Data.{ModuleData}
use Rattle.llvm_core.specs.Form.{IsFormFunction}
use Rattle.llvm_core.proofs.DataLemmas.{within_at}
use Rattle.dialect_types.specs.Legalised.{Named}
use Rattle.dialect_core.specs.Data as D
use Rattle.meaning.specs.Terms.{Match, rename_type}
use Rattle.meaning.specs.Code.{FunctionSymbol, External, rename_symbol, SameNamed, SameBody, IsOneToOne}
use Rattle.meaning.specs.Renamed.{renamed_function, renamed_block}
use Rattle.meaning.specs.Setting.{Setting}
use Rattle.meaning.specs.Llvm as Llvm
use Rattle.meaning.specs.Dialect as Dialect
use Rattle.meaning.proofs.ShapeLaws.{same_shape}
use Rattle.meaning.proofs.EntryLaws.{some_blocks, not_empty, both}
use Rattle.meaning.proofs.RenamedLaws.{renamed_same_shape}
use Rattle.from_llvm_ir.specs.declared.matching.FunctionBlocks.{FunctionBlocks}
use Rattle.from_llvm_ir.specs.Match.{IsPlaces, place_at}
use Rattle.from_llvm_ir.specs.Imported.{ImportedFunction, IsImportedBlock}
use Rattle.from_llvm_ir.proofs.NameLaws.{kept_back}
use Rattle.from_llvm_ir.proofs.PairLaws.{same_length}

-- ---- blocks

index_inside : (ps : List ℕ) (i p d : ℕ) → slice_get ps i ≡ Some p → slice_index_or ps i d ≡ p
index_inside [] i p d e = absurd (let no : ⊥ = cc in no)
index_inside (q ∷ qs) zero p d e = let same : q ≡ p = cc in same
index_inside (q ∷ qs) (suc i) p d e = index_inside qs i p d e

index_past : (ps : List ℕ) (i d : ℕ) → length ps ≤ i → slice_index_or ps i d ≡ d
index_past [] i d h = refl
index_past (q ∷ qs) zero d h = absurd (omega (arith, h))
index_past (q ∷ qs) (suc i) d h = index_past qs i d (omega (arith, h))

-- the dialect has as many blocks as the source
pub same_blocks : (d : ModuleData) (given : List Named) (f : L.Function) (x : FunctionBlocks) (g : D.Func) → ImportedFunction d given f x g → length g.blocks ≡ length f.blocks
same_blocks d given f x g h =
    same_length (IsImportedBlock given h.hoisted) f.blocks g.blocks (λ (b : ℕ). place_at b x)
    (λ p small. let (i, at) = h.places.onto p small in (i, (let s = slice_get_within x.places i p at in let c = h.places.count in omega (arith, s, c)), index_inside x.places i p i at))
    (index_past x.places (length f.blocks) (length f.blocks) (let c = h.places.count in omega (arith, c)))
    h.blocks

-- the match is one-to-one
pub one_to_one : (x : FunctionBlocks) (n m : ℕ) (here : ℕ → ℕ) → IsPlaces n x.places → ((b : ℕ) → here b ≡ place_at b x) → m ≡ n → IsOneToOne here n m
one_to_one x n m here h is same = record {
  onto = λ j small.
      let (i, at) = h.onto j (omega (arith, small, same)) in
      let inside : i < n = let s = slice_get_within x.places i j at in let c = h.count in omega (arith, s, c) in
      (i, inside, is i ∙ index_inside x.places i j i at);
  within = λ i small.
      let (p, at) = item_there x.places i (let c = h.count in omega (arith, small, c)) in
      let low : p < n = within_at x.places (λ (q : ℕ). q < n) h.within i p at in
      let e : here i ≡ p = is i ∙ index_inside x.places i p i at in
      omega (arith, low, e, same);
  apart = λ i j si sj e.
      let (p, at) = item_there x.places i (let c = h.count in omega (arith, si, c)) in
      let (q, bt) = item_there x.places j (let c = h.count in omega (arith, sj, c)) in
      let one : p ≡ q = sym (index_inside x.places i p i at) ∙ sym (is i) ∙ e ∙ is j ∙ index_inside x.places j q j bt in
      h.apart i j p at (bt ∙ ap Some (sym one));
}

-- ---- a function and what an import made of it

-- the function keeps the name of its source
pub kept_as : (given : List Named) (d : ModuleData) (f : L.Function) (x : FunctionBlocks) (g : D.Func) → ImportedFunction d given f x g → D.llvm_name_of g ≡ f.name
kept_as given d f x g h = ap (λ (n : Option (List ℕ)). unwrap_or n g.name) h.llvm_name ∙ kept_back f.name g.name

-- the match with names of structs that stay
abbrev pub plain : Match → Match
plain match = record match { struct = λ s. s }

pub symbol_named : (match : Match) (t u : TypeTree) (s : ℕ) (b c : Bool) → rename_type match t ≡ u → s ≡ 0 → b ≡ c → rename_symbol match (FunctionSymbol t External s b) ≡ FunctionSymbol u External 0 c
symbol_named match t u s b c type space body = cc (type, space, body)

-- f stands in the source as it is, and was imported under the match's names of structs
module _ (match : Match) (d : ModuleData) (given : List Named) (f : L.Function) (x : FunctionBlocks) (g : D.Func) (here : (b : ℕ) → match.block f.name b ≡ place_at b x)
    (form : IsFormFunction f) (h : ImportedFunction d given (renamed_function match.struct f) x g) where
  pub has : Llvm.has_blocks f ≡ true
  has = some_blocks f.blocks form.body

  pub as_many : length g.blocks ≡ length f.blocks
  as_many = same_blocks d given (renamed_function match.struct f) x g h ∙ length-map f.blocks (renamed_block match.struct)

  has_dialect : Dialect.has_blocks g ≡ true
  has_dialect = some_blocks g.blocks (not_empty f.blocks g.blocks as_many form.body)

  pub placed : IsPlaces (length f.blocks) x.places
  placed = subst (λ (n : ℕ). IsPlaces n x.places) (length-map f.blocks (renamed_block match.struct)) h.places

  pub imported_body : (source made : Setting) → SameBody match f.name (Llvm.body source f) (Dialect.body made g)
  imported_body source made = record {
    blocks = one_to_one x (length f.blocks) (length g.blocks) (match.block f.name) placed here as_many;
    traces = same_shape match source f made g (
        renamed_same_shape match.struct (plain match) match (λ s. refl) (λ s. refl) (λ n b. refl) source f made g (h.shape (plain match) source made (λ s. refl) here)
        );
  }

  linked : FunctionSymbol g.type (Dialect.linkage g.linkage) 0 (Dialect.has_blocks g) ≡ FunctionSymbol g.type External 0 (Dialect.has_blocks g)
  linked = rw h.form.linkage refl

  -- its type is that of the source under these names
  pub type_named : rename_type match f.type ≡ g.type
  type_named = sym h.type

  pub imported_entry : (source made : Setting) → SameNamed match (Llvm.entry source f) (Dialect.entry made g)
  imported_entry source made = record {
    name = sym (kept_as given d (renamed_function match.struct f) x g h);
    entry = record {
      symbol = symbol_named match f.type g.type f.space (Llvm.has_blocks f) (Dialect.has_blocks g) type_named form.space (has ∙ sym has_dialect) ∙ sym linked;
      body = both match f.name (Llvm.has_blocks f) (Dialect.has_blocks g) (Llvm.body source f) (Dialect.body made g) has has_dialect (imported_body source made);
    };
  }
