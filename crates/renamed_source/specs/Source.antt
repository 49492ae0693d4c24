-- What a `Source` keeps beside the module that it shows: where the names of its types stand in the list.
use Rattle.std.specs.Prelude.{◌≡◌, ℕ, List, Option, Some, None, String, map, position, string_bytes}
use Rattle.std.specs.Option.{option_and_then}
use Rattle.std.specs.Str.{bytes_eq}
use Rattle.llvm_core.specs.declared.types.LLVMTypeKind.{LLVMTypeKind}
use Rattle.llvm_core.specs.declared.types.LLVMTypeKind.TheVariants as T
use Rattle.renamed_source.specs.Names.{AreStructNames}

-- names with identifiers, as texts
abbrev pub pairs_of : {Z : Type 0} → List (String Z × List ℕ) → List (List ℕ × List ℕ)
pairs_of {Z} ps = map (λ (p : String Z × List ℕ). (string_bytes p.0, p.1)) ps

-- the names that are listed
abbrev pub listed : List (List ℕ × List ℕ) → List (List ℕ)
listed pairs = map (λ (p : List ℕ × List ℕ). p.0) pairs

-- the name of the struct that a type is, where it is one with a name: a line for each kind
abbrev pub named : LLVMTypeKind → Option (List ℕ)
named T.Void = None
named (T.Int width) = None
named (T.Ptr space) = None
named (T.Floating of) = None
named (T.Other of) = None
named (T.Array count t) = None
named (T.Vector kind count t) = None
named (T.Literal fields layout) = None
named (T.Named name) = Some name
named (T.Function result params variadic) = None

-- where the name of a type stands, if it has one that is listed
abbrev pub place_in : List (List ℕ) → LLVMTypeKind → Option ℕ
place_in names k = option_and_then (λ (n : List ℕ). position (bytes_eq n) names) (named k)

-- the list is one of names with identifiers, and the places are those of the types
pub record IsPlaced (types : List LLVMTypeKind) (pairs : List (List ℕ × List ℕ)) (places : List (Option ℕ)) : Type 0 where
  pub names : AreStructNames pairs
  pub stand : places ≡ map (place_in (listed pairs)) types
