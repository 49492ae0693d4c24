-- The names that the dialect gives to structs of a module, and the module under them.
use Rattle.std.specs.Prelude.{ℕ, ◌≡◌, if◌then◌else◌, List, [], ◌∷◌, Option, Some, All, map}
use Rattle.std.specs.Str.{bytes_eq}
use Rattle.support.specs.Interned.{IsDistinctList}
use Rattle.llvm_core.specs.declared.types.LLVMTypeKind.{LLVMTypeKind}
use Rattle.llvm_core.specs.declared.types.LLVMTypeKind.TheVariants as T
use Rattle.llvm_core.specs.declared.structs.StructData.{StructData}
use Rattle.llvm_core.specs.Module.{Module}
use Rattle.dialect_types.specs.Names.{IsIdentifier}

-- what the dialect calls the struct of a name, by a list of names with identifiers. One that is not listed is in no type
-- that is translated: it is called what is no identifier.
abbrev pub struct_name : List (List ℕ × List ℕ) → List ℕ → List ℕ
struct_name [] n = 0 ∷ n
struct_name (p ∷ ps) n = if bytes_eq p.0 n then p.1 else struct_name ps n

-- a list that gives each of its names one identifier, and no two the same
pub record AreStructNames (pairs : List (List ℕ × List ℕ)) : Type 0 where
  pub names : IsDistinctList (map (λ (p : List ℕ × List ℕ). p.0) pairs)
  pub identifiers : IsDistinctList (map (λ (p : List ℕ × List ℕ). p.1) pairs)
  pub legal : All (λ (p : List ℕ × List ℕ). IsIdentifier p.1) pairs

module _ (to : List ℕ → List ℕ) where
  -- a line for each kind
  abbrev pub renamed_kind : LLVMTypeKind → LLVMTypeKind
  renamed_kind T.Void = T.Void
  renamed_kind (T.Int width) = T.Int width
  renamed_kind (T.Ptr space) = T.Ptr space
  renamed_kind (T.Floating of) = T.Floating of
  renamed_kind (T.Other of) = T.Other of
  renamed_kind (T.Array count t) = T.Array count t
  renamed_kind (T.Vector kind count t) = T.Vector kind count t
  renamed_kind (T.Literal fields layout) = T.Literal fields layout
  renamed_kind (T.Named name) = T.Named (to name)
  renamed_kind (T.Function result params variadic) = T.Function result params variadic

  abbrev pub renamed_struct_data : StructData → StructData
  renamed_struct_data x = record x { name = to x.name }

  -- the module with its structs under other names
  abbrev pub renamed_store : Module → Module
  renamed_store m = record m { types = map renamed_kind m.types; structs = map renamed_struct_data m.structs }

-- the kind of a type of a renamed module, by that of the module itself: the same, but of a struct
abbrev pub IsSeenKind : Option LLVMTypeKind → LLVMTypeKind → Type 0
IsSeenKind seen (T.Named name) = (other : List ℕ) × (seen ≡ Some (T.Named other))
IsSeenKind seen k = seen ≡ Some k
