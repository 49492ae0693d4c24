-- Structs that types name, and that are found.
use Rattle.std.proofs.Common.{ℕ, ◌≡◌, ◌+◌, ◌++◌, ◌∙◌, refl, sym, ap, subst, Bool, true, false, if◌then◌else◌, List, [], ◌∷◌, Some, None, All, map, length, slice_get}
use Rattle.std.specs.List.{flat_map}
use Rattle.std.specs.Option.{option_map}
use Rattle.std.specs.Str.{bytes_eq}
use Rattle.std.proofs.lemmas.Slice.Eq.{bytes_eq-Decides}
use Rattle.std.proofs.lemmas.Option.{none-some, same_Some, slice_get-map}
use Rattle.std.proofs.lemmas.List.Elements.{All-head, All-tail}
use Rattle.support.proofs.ListLaws.{all_from, slice_get-behind, slice_get-kept}
use Rattle.kinds.specs.declared.types.VectorTypeKind.{VectorTypeKind}
use Rattle.kinds.specs.declared.types.StructLayout.{StructLayout}
use Rattle.kinds.specs.Types.{TypeTree, ArrayType, VectorType, StructType, NamedType, parts_of, params_of, result_of}
use Rattle.kinds.specs.Structs.{Struct, Holds, Itself, InPart, InField, renamed, struct_in}
use Rattle.llvm_core.specs.declared.numbers.LLVMFunction.{LLVMFunction}
use Rattle.llvm_core.specs.declared.numbers.LLVMType.{LLVMType}
use Rattle.llvm_core.specs.declared.types.LLVMTypeKind.{LLVMTypeKind}
use Rattle.llvm_core.specs.declared.types.LLVMTypeKind.TheVariants as T
use Rattle.llvm_core.specs.Module.{Module}
use Rattle.llvm_core.specs.Sound.{IsModule}
use Rattle.llvm_core.specs.Data as L
use Rattle.llvm_core.specs.Data.{ModuleData, Placed, trees_of, placed_in}
use Rattle.llvm_core.specs.Form.{constant_types, value_types}
use Rattle.llvm_core.proofs.DataLemmas.{type_tree_of, within_at}
use Rattle.dialect_types.specs.Names.{IsIdentifier}
use Rattle.meaning.specs.Renamed.{renamed_function}
use Rattle.held_types.specs.Held.{HasTypeWith}
use Rattle.renamed_source.specs.Names.{AreStructNames, struct_name}
use Rattle.renamed_source.proofs.FormLaws.{get_from, renamed_value_types}
use Rattle.renamed_source.proofs.NameLaws.{struct_name_injective, struct_name_listed}
use Rattle.renamed_source.proofs.StructLaws.{renamed_names_in}
use Rattle.from_llvm_ir.specs.Imported.{IsIn}
use Rattle.from_llvm_ir.specs.Source.{IsSource}
use Rattle.from_llvm_ir.specs.Structs.{AreMade, StructNames, source_names}
use Rattle.from_llvm_ir.specs.Types.{IsReadyFor, NamesAmong}
use Rattle.from_llvm_ir.proofs.PlaceLaws.{flat_at}
use Rattle.from_llvm_ir.proofs.FieldLaws.{field_listed}

-- ---- parts

-- what a type names itself it holds, whatever the structs are
pub held_itself : (structs : List Struct) (u t : TypeTree) → Holds [] u t → Holds structs u t
held_itself structs u _ Itself = Itself
held_itself structs u _ (InPart t v i at h) = InPart t v i at (held_itself structs u v h)
held_itself structs u _ (InField name s b v i is has at h) = absurd (let no : None ≡ Some s = is in cc)

module _ (structs : List Struct) where
  part_among : (t v : TypeTree) (i : ℕ) → slice_get (parts_of t) i ≡ Some v → NamesAmong structs t → NamesAmong structs v
  part_among t v i at all name h = all name (InPart t v i at h)

  -- the parts of a type name what it names: a line for each kind that has parts
  module _ (m : Module) (sound : IsModule m) (ty : LLVMType) (k : LLVMTypeKind) (at : slice_get m.types ty.0 ≡ Some k) (all : NamesAmong structs (L.type_at (trees_of m).types ty)) where
    abbrev trees : List TypeTree
    trees = (trees_of m).types

    tree_among : (l : LLVMTypeKind) → k ≡ l → NamesAmong structs (L.type_tree trees l)
    tree_among l is = subst (NamesAmong structs) (type_tree_of m ty k sound at ∙ ap (L.type_tree trees) is) all

    pub array_among : (n : ℕ) (u : LLVMType) → k ≡ T.Array n u → NamesAmong structs (L.type_at trees u)
    array_among n u is = part_among (ArrayType n (L.type_at trees u)) (L.type_at trees u) 0 refl (tree_among (T.Array n u) is)

    pub vector_among : (v : VectorTypeKind) (n : ℕ) (u : LLVMType) → k ≡ T.Vector v n u → NamesAmong structs (L.type_at trees u)
    vector_among v n u is = part_among (VectorType v n (L.type_at trees u)) (L.type_at trees u) 0 refl (tree_among (T.Vector v n u) is)

    pub fields_among : (us : List LLVMType) (l : StructLayout) → k ≡ T.Literal us l → All (λ (t : LLVMType). NamesAmong structs (L.type_at trees t)) us
    fields_among us l is = all_from (λ (t : LLVMType). NamesAmong structs (L.type_at trees t)) us (λ i t here. part_among (StructType l (L.types_at trees us)) (L.type_at trees t) i (field_listed trees us i t here) (tree_among (T.Literal us l) is))

    -- and a struct with a name names itself
    pub named_among : (n : List ℕ) → k ≡ T.Named n → ¬ (struct_in structs n ≡ None)
    named_among n is = tree_among (T.Named n) is n Itself

-- a struct that is there has an identifier where all have one
pub identifier_there : (ss : List Struct) (n : List ℕ) → All (λ (s : Struct). IsIdentifier s.name) ss → ¬ (struct_in ss n ≡ None) → IsIdentifier n
identifier_there [] n legal there = absurd (there refl)
identifier_there (s ∷ ss) n legal there = by (bytes_eq s.name n) refl there (identifier_there ss n (All-tail (λ (s : Struct). IsIdentifier s.name) s ss legal))
  where
    by : (b : Bool) → bytes_eq s.name n ≡ b → ¬ ((if b then Some s else struct_in ss n) ≡ None) → (¬ (struct_in ss n ≡ None) → IsIdentifier n) → IsIdentifier n
    by true is there next = subst IsIdentifier ((bytes_eq-Decides s.name n).0 is) (All-head (λ (s : Struct). IsIdentifier s.name) s ss legal)
    by false is there next = next there

-- ---- functions

-- the function of a frame is the only one of its number
pub one_source : (m : Module) (f : LLVMFunction) (g h : L.Function) → IsSource m f g → IsSource m f h → g ≡ h
one_source m f g h a b = same_Some g h (sym a.at ∙ b.at)

-- and it stays ready where no struct has come
pub still_ready : (m : Module) (f : LLVMFunction) (old new : List Struct) (g h : L.Function) → IsSource m f g → IsReadyFor g old → new ≡ old → IsSource m f h → IsReadyFor h new
still_ready m f old new g h from ready same source = subst (IsReadyFor h) (sym same) (subst (λ (k : L.Function). IsReadyFor k old) (one_source m f g h from source) ready)

-- what it returns, takes, and what its instructions give
pub result_ready : (g : L.Function) (structs : List Struct) → IsReadyFor g structs → NamesAmong structs (result_of g.type)
result_ready g structs ready = within_at (value_types g) (NamesAmong structs) ready.0 0 (result_of g.type) refl

pub params_ready : (g : L.Function) (structs : List Struct) → IsReadyFor g structs → (i : ℕ) (t : TypeTree) → slice_get (params_of g.type) i ≡ Some t → NamesAmong structs t
params_ready g structs ready i t at =
    let results = map (λ (p : Placed). p.type) (placed_in g) in
    within_at (value_types g) (NamesAmong structs) ready.0 (ℕ.suc i) t (slice_get-kept (params_of g.type ++ results) (flat_map constant_types (placed_in g)) i t (slice_get-kept (params_of g.type) results i t at))

pub placed_ready : (g : L.Function) (structs : List Struct) → IsReadyFor g structs → (i : ℕ) (p : Placed) → slice_get (placed_in g) i ≡ Some p → NamesAmong structs p.type
placed_ready g structs ready i p at =
    let results = map (λ (p : Placed). p.type) (placed_in g) in
    let constants = flat_map constant_types (placed_in g) in
    let here = slice_get-map (λ (p : Placed). p.type) (placed_in g) i ∙ ap (option_map (λ (p : Placed). p.type)) at in
    within_at (value_types g) (NamesAmong structs) ready.0 (ℕ.suc (length (params_of g.type) + i)) p.type
    (slice_get-kept (params_of g.type ++ results) constants (length (params_of g.type) + i) p.type (slice_get-behind (params_of g.type) results i ∙ here))

pub inst_ready : (g : L.Function) (structs : List Struct) → IsReadyFor g structs → (place : ℕ) (b : L.Block) (at : ℕ) (p : Placed) → slice_get g.blocks place ≡ Some b → slice_get b.instructions at ≡ Some p → NamesAmong structs p.type
inst_ready g structs ready place b at p here there =
    let k = flat_at (λ (x : L.Block). x.instructions) g.blocks place b at p here there in
    placed_ready g structs ready k.0 p k.1

-- and of numbers of types whose trees these are
pub numbers_ready : (g : L.Function) (structs : List Struct) → IsReadyFor g structs → (trees : List TypeTree) (ns : List LLVMType) → map (λ (t : LLVMType). L.type_at trees t) ns ≡ params_of g.type → All (λ (t : LLVMType). NamesAmong structs (L.type_at trees t)) ns
numbers_ready g structs ready trees ns are = all_from (λ (t : LLVMType). NamesAmong structs (L.type_at trees t)) ns (λ i t here.
    params_ready g structs ready i (L.type_at trees t) (ap (λ (ts : List TypeTree). slice_get ts i) (sym are) ∙ slice_get-map (λ (t : LLVMType). L.type_at trees t) ns i ∙ ap (option_map (λ (t : LLVMType). L.type_at trees t)) here))

-- ---- the functions of a source whose structs are made

module _ (d : ModuleData) (pairs : StructNames) (names : AreStructNames pairs) (all : (name : List ℕ) → HasTypeWith d (NamedType name) → IsIn (source_names pairs) name) (target : List Struct) (made : AreMade d pairs target) where
  made_there : (name : List ℕ) → IsIn (source_names pairs) name → ¬ (struct_in target (struct_name pairs name) ≡ None)
  made_there name h none =
      let p = get_from (λ (p : List ℕ × List ℕ). p.0) pairs h.0 name h.1 in
      let x = made h.0 p.0 p.1 in
      let same : struct_name pairs name ≡ p.0.1 = ap (struct_name pairs) (sym p.2) ∙ struct_name_listed pairs names h.0 p.0 p.1 in
      none-some _ (sym none ∙ ap (struct_in target) same ∙ x.2)

  value_ready : (k i : ℕ) (f : L.Function) (t : TypeTree) → slice_get d.functions k ≡ Some f → slice_get (value_types f) i ≡ Some t → NamesAmong target (renamed (struct_name pairs) t)
  value_ready k i f t at here name h none =
      let n = renamed_names_in (struct_name pairs) (struct_name_injective pairs names) name t h in
      let held : HasTypeWith d (NamedType n.0) = record { place = k; f = f; at = at; index = i; type = t; here = here; holds = held_itself d.structs (NamedType n.0) t n.2 } in
      made_there n.0 (all n.0 held) (ap (struct_in target) n.1 ∙ none)

  -- each struct that the type of a value of a function names stands in the context
  pub function_named : (k : ℕ) (f : L.Function) → slice_get d.functions k ≡ Some f → All (NamesAmong target) (value_types (renamed_function (struct_name pairs) f))
  function_named k f at =
      subst (All (NamesAmong target)) (sym (renamed_value_types (struct_name pairs) f)) (all_from (NamesAmong target) (map (renamed (struct_name pairs)) (value_types f)) (λ i t here.
      let u = get_from (renamed (struct_name pairs)) (value_types f) i t here in
      subst (NamesAmong target) u.2 (value_ready k i f u.0 at u.1)))
