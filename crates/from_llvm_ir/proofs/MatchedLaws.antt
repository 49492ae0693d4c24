-- The match puts the blocks of each function where the import did.
use Rattle.std.proofs.Common.{ℕ, zero, suc, ◌≡◌, ◌<◌, true, List, [], ◌∷◌, Some, All, map, length, slice_get, nat_eq, refl, sym, ◌∙◌, ap, subst, arith}
use Rattle.std.specs.Str.{bytes_eq}
use Rattle.std.specs.List.{find}
use Rattle.std.specs.Option.{option_map}
use Rattle.std.proofs.lemmas.Bool.{eq-eqb, eqb-true}
use Rattle.std.proofs.lemmas.List.Elements.{All-nil, All-cons, All-head, All-tail}
use Rattle.std.proofs.lemmas.Option.{same_Some, slice_get-map, slice_get_within}
use Rattle.std.proofs.lemmas.Slice.Eq.{bytes_eq-Decides}
use Rattle.support.proofs.ListLaws.{item_there}
use Rattle.kinds.specs.Structs.{Struct}
use Rattle.llvm_core.specs.Data.{ModuleData, Function}
use Rattle.llvm_core.specs.Form.{HasMadeOperands}
use Rattle.dialect_types.specs.Legalised.{Named, Gave}
use Rattle.dialect_core.specs.Data as D
use Rattle.dialect_core.specs.Form.{IsFormFunc, IsRuled, IsExportable}
use Rattle.meaning.specs.Code.{IsDistinctNames}
use Rattle.from_llvm_ir.specs.declared.matching.FunctionBlocks.{FunctionBlocks}
use Rattle.from_llvm_ir.specs.Match.{place_at, match_of}
use Rattle.from_llvm_ir.specs.Structs.{StructNames}
use Rattle.from_llvm_ir.proofs.PairLaws.{find_only}
use Rattle.from_llvm_ir.proofs.CodeLaws.{kept_as}
use Rattle.from_llvm_ir.specs.Imported.{ImportedFunction, AreImported, NoneImported, ThenImported}

abbrev pub function_names : List Function → List (List ℕ)
function_names fs = map (λ (f : Function). f.name) fs

-- ---- what was imported, function by function

-- the entry of the match and the function of the dialect for the function at a place
pub record Partner (d : ModuleData) (given : List Named) (xs : List FunctionBlocks) (gs : List D.Func) (i : ℕ) (f : Function) : Type 0 where
  pub entry : FunctionBlocks
  pub func : D.Func
  pub entry_at : slice_get xs i ≡ Some entry
  pub func_at : slice_get gs i ≡ Some func
  pub imported : ImportedFunction d given f entry func

pub partner : (d : ModuleData) (given : List Named) (fs : List Function) (xs : List FunctionBlocks) (gs : List D.Func) → AreImported d given fs xs gs → (i : ℕ) (f : Function) → slice_get fs i ≡ Some f → Partner d given xs gs i f
partner d given [] [] [] NoneImported i f at = absurd (let no : ⊥ = cc in no)
partner d given (f ∷ fs) (x ∷ xs) (g ∷ gs) (ThenImported _ _ _ _ _ _ one more) zero h at =
    subst (Partner d given (x ∷ xs) (g ∷ gs) 0) (let e : f ≡ h = cc in e) (record { entry = x; func = g; entry_at = refl; func_at = refl; imported = one })
partner d given (f ∷ fs) (x ∷ xs) (g ∷ gs) (ThenImported _ _ _ _ _ _ one more) (suc i) h at =
    let p = partner d given fs xs gs more i h at in
    record { entry = p.entry; func = p.func; entry_at = p.entry_at; func_at = p.func_at; imported = p.imported }
partner d given [] [] (g ∷ gs) h i f at = elim h [ ]
partner d given [] (x ∷ xs) gs h i f at = elim h [ ]
partner d given (f ∷ fs) [] gs h i k at = elim h [ ]
partner d given (f ∷ fs) (x ∷ xs) [] h i k at = elim h [ ]

pub count_imported : (d : ModuleData) (given : List Named) (fs : List Function) (xs : List FunctionBlocks) (gs : List D.Func) → AreImported d given fs xs gs → (length xs ≡ length fs) × (length gs ≡ length fs)
count_imported d given [] [] [] NoneImported = (refl, refl)
count_imported d given (f ∷ fs) (x ∷ xs) (g ∷ gs) (ThenImported _ _ _ _ _ _ one more) =
    let c = count_imported d given fs xs gs more in
    (ap suc c.0, ap suc c.1)
count_imported d given [] [] (g ∷ gs) h = elim h [ ]
count_imported d given [] (x ∷ xs) gs h = elim h [ ]
count_imported d given (f ∷ fs) [] gs h = elim h [ ]
count_imported d given (f ∷ fs) (x ∷ xs) [] h = elim h [ ]

-- what each function of the dialect is, and its name
pub forms_imported : (d : ModuleData) (given : List Named) (fs : List Function) (xs : List FunctionBlocks) (gs : List D.Func) → AreImported d given fs xs gs → All IsFormFunc gs
forms_imported d given [] [] [] NoneImported = All-nil IsFormFunc
forms_imported d given (f ∷ fs) (x ∷ xs) (g ∷ gs) (ThenImported _ _ _ _ _ _ one more) = All-cons IsFormFunc g gs one.form (forms_imported d given fs xs gs more)
forms_imported d given [] [] (g ∷ gs) h = elim h [ ]
forms_imported d given [] (x ∷ xs) gs h = elim h [ ]
forms_imported d given (f ∷ fs) [] gs h = elim h [ ]
forms_imported d given (f ∷ fs) (x ∷ xs) [] h = elim h [ ]

pub exportable_imported : (d : ModuleData) (given : List Named) (fs : List Function) (xs : List FunctionBlocks) (gs : List D.Func) → AreImported d given fs xs gs → All IsExportable gs
exportable_imported d given [] [] [] NoneImported = All-nil IsExportable
exportable_imported d given (f ∷ fs) (x ∷ xs) (g ∷ gs) (ThenImported _ _ _ _ _ _ one more) = All-cons IsExportable g gs one.exportable (exportable_imported d given fs xs gs more)
exportable_imported d given [] [] (g ∷ gs) h = elim h [ ]
exportable_imported d given [] (x ∷ xs) gs h = elim h [ ]
exportable_imported d given (f ∷ fs) [] gs h = elim h [ ]
exportable_imported d given (f ∷ fs) (x ∷ xs) [] h = elim h [ ]

-- they keep the rules of constants where the structs are those that the constants of the source are made for
pub ruled_imported : (d : ModuleData) (given : List Named) (structs : List Struct) (fs : List Function) (xs : List FunctionBlocks) (gs : List D.Func) → AreImported d given fs xs gs → All (HasMadeOperands structs) fs → All (IsRuled structs) gs
ruled_imported d given structs [] [] [] NoneImported made = All-nil (IsRuled structs)
ruled_imported d given structs (f ∷ fs) (x ∷ xs) (g ∷ gs) (ThenImported _ _ _ _ _ _ one more) made =
    All-cons (IsRuled structs) g gs (one.ruled structs (All-head (HasMadeOperands structs) f fs made)) (ruled_imported d given structs fs xs gs more (All-tail (HasMadeOperands structs) f fs made))
ruled_imported d given structs [] [] (g ∷ gs) h made = elim h [ ]
ruled_imported d given structs [] (x ∷ xs) gs h made = elim h [ ]
ruled_imported d given structs (f ∷ fs) [] gs h made = elim h [ ]
ruled_imported d given structs (f ∷ fs) (x ∷ xs) [] h made = elim h [ ]

pub names_imported : (d : ModuleData) (given : List Named) (fs : List Function) (xs : List FunctionBlocks) (gs : List D.Func) → AreImported d given fs xs gs → map D.llvm_name_of gs ≡ function_names fs
names_imported d given [] [] [] NoneImported = refl
names_imported d given (f ∷ fs) (x ∷ xs) (g ∷ gs) (ThenImported _ _ _ _ _ _ one more) = rw (kept_as given d f x g one, names_imported d given fs xs gs more) refl
names_imported d given [] [] (g ∷ gs) h = elim h [ ]
names_imported d given [] (x ∷ xs) gs h = elim h [ ]
names_imported d given (f ∷ fs) [] gs h = elim h [ ]
names_imported d given (f ∷ fs) (x ∷ xs) [] h = elim h [ ]

-- the function that one of the dialect stands for
pub record Original (given : List Named) (fs : List Function) (i : ℕ) (g : D.Func) : Type 0 where
  pub source : Function
  pub at : slice_get fs i ≡ Some source
  pub name : Gave given source.name g.name

pub original : (d : ModuleData) (given : List Named) (fs : List Function) (xs : List FunctionBlocks) (gs : List D.Func) → AreImported d given fs xs gs → (i : ℕ) (g : D.Func) → slice_get gs i ≡ Some g → Original given fs i g
original d given fs xs gs h i g at =
    let small = slice_get_within gs i g at in
    let (f, here) = item_there fs i (let c = (count_imported d given fs xs gs h).1 in omega (arith, small, c)) in
    let p = partner d given fs xs gs h i f here in
    let same : p.func ≡ g = same_Some p.func g (sym p.func_at ∙ at) in
    record { source = f; at = here; name = subst (λ (y : D.Func). Gave given f.name y.name) same p.imported.name }

-- ---- look-ups

pub name_at : (fs : List Function) (i : ℕ) (f : Function) → slice_get fs i ≡ Some f → slice_get (function_names fs) i ≡ Some f.name
name_at fs i f at = slice_get-map (λ (g : Function). g.name) fs i ∙ ap (option_map (λ (g : Function). g.name)) at

bytes_same : (a b : List ℕ) → bytes_eq a b ≡ true → a ≡ b
bytes_same a b e = (bytes_eq-Decides a b).0 e

bytes_equal : (a b : List ℕ) → a ≡ b → bytes_eq a b ≡ true
bytes_equal a b e = (bytes_eq-Decides a b).1 e

-- a function is found by its name
pub found_by_name : (fs : List Function) (i : ℕ) (f : Function) → IsDistinctNames (function_names fs) → slice_get fs i ≡ Some f → find (λ (g : Function). bytes_eq g.name f.name) fs ≡ Some f
found_by_name fs i f distinct at =
    find_only (λ (g : Function). bytes_eq g.name f.name) fs i f at (bytes_equal f.name f.name refl) (λ j g here same. distinct j i f.name (name_at fs j g here ∙ ap Some (bytes_same g.name f.name same)) (name_at fs i f at))

-- an entry is found by its number, where they are numbered by their places
pub found_by_number : (xs : List FunctionBlocks) (i : ℕ) (x : FunctionBlocks) → ((j : ℕ) (y : FunctionBlocks) → slice_get xs j ≡ Some y → y.function.0 ≡ j) → slice_get xs i ≡ Some x → find (λ (y : FunctionBlocks). nat_eq y.function.0 i) xs ≡ Some x
found_by_number xs i x numbered at =
    find_only (λ (y : FunctionBlocks). nat_eq y.function.0 i) xs i x at (eq-eqb x.function.0 i (numbered i x at)) (λ j y here same. sym (numbered j y here) ∙ eqb-true y.function.0 i same)

module _ (d : ModuleData) (given : List Named) (xs : List FunctionBlocks) (gs : List D.Func) (ss : StructNames) (distinct : IsDistinctNames (function_names d.functions))
    (numbered : (i : ℕ) (f : Function) → slice_get d.functions i ≡ Some f → f.number ≡ i) (h : AreImported d given d.functions xs gs) where
  entry_numbered : (j : ℕ) (y : FunctionBlocks) → slice_get xs j ≡ Some y → y.function.0 ≡ j
  entry_numbered j y at =
      let small : j < length d.functions = let s = slice_get_within xs j y at in let c = (count_imported d given d.functions xs gs h).0 in omega (arith, s, c) in
      let (f, here) = item_there d.functions j small in
      let p = partner d given d.functions xs gs h j f here in
      let same : p.entry ≡ y = let e = sym p.entry_at ∙ at in cc in
      subst (λ (z : FunctionBlocks). z.function.0 ≡ j) same (p.imported.function ∙ numbered j f here)

  -- the match puts a block where the entry of its function says
  pub matched_place : (i : ℕ) (f : Function) (x : FunctionBlocks) → slice_get d.functions i ≡ Some f → slice_get xs i ≡ Some x → (b : ℕ) → (match_of d xs ss).block f.name b ≡ place_at b x
  matched_place i f x at here b =
      let n = numbered i f at in
      rw (found_by_name d.functions i f distinct at, n, found_by_number xs i x entry_numbered here) refl
