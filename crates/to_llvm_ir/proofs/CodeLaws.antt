-- A module that an export made has the traces of its dialect module, and its code where constants stand in first blocks.
use Rattle.std.proofs.Common.{ℕ, suc, ◌≡◌, refl, sym, ◌∙◌, ap, subst, true, List, [], ◌∷◌, map, length, slice_get, All, arith}
use Rattle.std.proofs.lemmas.List.Elements.{All-nil, All-cons, All-head, All-tail}
use Rattle.kinds.specs.Names.{is_intrinsic_name}
use Rattle.llvm_core.specs.Data as L
use Rattle.llvm_core.specs.Data.{ModuleData}
use Rattle.dialect_core.specs.ContextData.{ContextData}
use Rattle.dialect_core.specs.Data as D
use Rattle.dialect_core.specs.Form.{HasOnlyEntryConstants}
use Rattle.dialect_core.specs.WellFormed.{IsOpenForm}
use Rattle.meaning.specs.Setting.{Setting}
use Rattle.meaning.specs.Pairs.{Matched, BothOrNone}
use Rattle.meaning.specs.Code.{External, FunctionSymbol, IsDistinctNames, IsOneToOne, SameBody, SameNamed, SameCode, rename_symbol}
use Rattle.meaning.specs.Examples.{same_places}
use Rattle.meaning.specs.Llvm as Llvm
use Rattle.meaning.specs.Dialect as Dialect
use Rattle.meaning.proofs.WovenLaws.{woven, woven_first}
use Rattle.meaning.proofs.CodeLaws.{same_code}
use Rattle.meaning.proofs.EntryLaws.{HasOwnName, type_stays, some_blocks, not_empty, same_symbol, both, all_kept, distinct_code}
use Rattle.to_llvm_ir.specs.Exported.{ExportedFunction, HasTraces, HasNames}
use Rattle.to_llvm_ir.proofs.NameLaws.{no_intrinsic}

both_count : {A B : Type 0} (P : ℕ → A → B → Type 0) (xs : List A) (ys : List B) → ((i : ℕ) → BothOrNone (P i) (slice_get xs i) (slice_get ys i)) → length ys ≡ length xs
both_count P [] [] h = refl
both_count P (x ∷ xs) (y ∷ ys) h = ap suc (both_count (λ i. P (suc i)) xs ys (λ i. h (suc i)))
both_count P [] (y ∷ ys) h = absurd (h 0)
both_count P (x ∷ xs) [] h = absurd (h 0)

-- a block for each block
pub named_count : (g : D.Func) (f : L.Function) → ExportedFunction g f → length f.blocks ≡ length g.blocks
named_count g f h = both_count (HasNames g) g.blocks f.blocks h.names

stays : (n m : ℕ) → m ≡ n → IsOneToOne (λ (b : ℕ). b) n m
stays n m same = record {
  onto = λ j small. (j, omega (arith, small, same), refl);
  within = λ i small. omega (arith, small, same);
  apart = λ i j si sj e. e;
}

-- ---- a function and what an export made of it

module _ (c : ContextData) (g : D.Func) (f : L.Function) (form : IsOpenForm c g) (h : ExportedFunction g f) where
  some : ¬ (g.blocks ≡ [])
  some = form.1.body

  has_dialect : Dialect.has_blocks g ≡ true
  has_dialect = some_blocks g.blocks some

  count : length f.blocks ≡ length g.blocks
  count = named_count g f h

  has : Llvm.has_blocks f ≡ true
  has = some_blocks f.blocks (not_empty g.blocks f.blocks count some)

  exported_body : (a b : Setting) → HasOnlyEntryConstants g → SameBody same_places f.name (Llvm.body a f) (Dialect.body b g)
  exported_body a b only = record {
    blocks = stays (length f.blocks) (length g.blocks) (sym count);
    traces = woven_first same_places a f b g (h.shape a b) (h.sets only a b);
  }

  linked : FunctionSymbol g.type (Dialect.linkage g.linkage) 0 (Dialect.has_blocks g) ≡ FunctionSymbol g.type External 0 (Dialect.has_blocks g)
  linked = rw form.1.linkage refl

  exported_symbol : (a b : Setting) → rename_symbol same_places (Llvm.entry a f).symbol ≡ (Dialect.entry b g).symbol
  exported_symbol a b = same_symbol same_places f.type g.type f.space (Llvm.has_blocks f) (Dialect.has_blocks g) (type_stays f.type) h.type h.space (has ∙ sym has_dialect) ∙ sym linked

  exported_entry : (a b : Setting) → HasOnlyEntryConstants g → SameNamed same_places (Llvm.entry a f) (Dialect.entry b g)
  exported_entry a b only = record {
    name = h.name;
    entry = record {
      symbol = exported_symbol a b;
      body = both same_places f.name (Llvm.has_blocks f) (Dialect.has_blocks g) (Llvm.body a f) (Dialect.body b g) has has_dialect (exported_body a b only);
    };
  }

  own_name : HasOwnName f
  own_name = ap is_intrinsic_name h.name ∙ no_intrinsic (D.llvm_name_of g) form.0.llvm_named

-- ---- modules

pub names_exported : (gs : List D.Func) (fs : List L.Function) → Matched ExportedFunction gs fs → map (λ (f : L.Function). f.name) fs ≡ map D.llvm_name_of gs
names_exported [] [] h = refl
names_exported (g ∷ gs) (f ∷ fs) h = rw (h.0.name, names_exported gs fs h.1) refl
names_exported [] (f ∷ fs) h = absurd h
names_exported (g ∷ gs) [] h = absurd h

own_names : (c : ContextData) (gs : List D.Func) (fs : List L.Function) → All (IsOpenForm c) gs → Matched ExportedFunction gs fs → All HasOwnName fs
own_names c [] [] forms h = All-nil HasOwnName
own_names c (g ∷ gs) (f ∷ fs) forms h = All-cons HasOwnName f fs (own_name c g f (All-head (IsOpenForm c) g gs forms) h.0) (own_names c gs fs (All-tail (IsOpenForm c) g gs forms) h.1)
own_names c [] (f ∷ fs) forms h = absurd h
own_names c (g ∷ gs) [] forms h = absurd h

entries : (c : ContextData) (a b : Setting) (gs : List D.Func) (fs : List L.Function) → All (IsOpenForm c) gs → All HasOnlyEntryConstants gs → Matched ExportedFunction gs fs → Matched (SameNamed same_places) (map (Llvm.entry a) fs) (map (Dialect.entry b) gs)
entries c a b [] [] forms only h = tt
entries c a b (g ∷ gs) (f ∷ fs) forms only h = (
  exported_entry c g f (All-head (IsOpenForm c) g gs forms) h.0 a b (All-head HasOnlyEntryConstants g gs only),
  entries c a b gs fs (All-tail (IsOpenForm c) g gs forms) (All-tail HasOnlyEntryConstants g gs only) h.1,
)
entries c a b [] (f ∷ fs) forms only h = absurd h
entries c a b (g ∷ gs) [] forms only h = absurd h

-- function by function
pub traces_exported : (c : ContextData) (a b : Setting) (gs : List D.Func) (fs : List L.Function) → All (IsOpenForm c) gs → Matched ExportedFunction gs fs → Matched (HasTraces a b) gs fs
traces_exported c a b [] [] forms h = tt
traces_exported c a b (g ∷ gs) (f ∷ fs) forms h = (
  record { symbol = exported_symbol c g f (All-head (IsOpenForm c) g gs forms) h.0 a b; first = λ only choices. woven_first same_places a f b g (h.0.shape a b) (h.0.sets only a b) choices; set = λ choices reads. woven same_places a f b g (h.0.shape a b) choices reads },
  traces_exported c a b gs fs (All-tail (IsOpenForm c) g gs forms) h.1,
)
traces_exported c a b [] (f ∷ fs) forms h = absurd h
traces_exported c a b (g ∷ gs) [] forms h = absurd h

pub same_exported : (c : ContextData) (source : D.DialectModule) (d : ModuleData) → All (IsOpenForm c) source.functions → All HasOnlyEntryConstants source.functions → Matched ExportedFunction source.functions d.functions
    → IsDistinctNames (map D.llvm_name_of source.functions) → SameCode same_places (Llvm.code_of d) (Dialect.code_of source)
same_exported c source d forms only h distinct =
    let own = own_names c source.functions d.functions forms h in
    let names = subst IsDistinctNames (sym (names_exported source.functions d.functions h)) distinct in
    same_code same_places (Llvm.code_of d) (Dialect.code_of source) (distinct_code d own names) (rw (all_kept d.functions own) (entries c (Llvm.setting_of d) (Dialect.setting_of source) source.functions d.functions forms only h))
