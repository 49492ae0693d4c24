-- What the dialect calls the structs of a module, by the names that were given identifiers.
use Rattle.std.specs.Prelude.{◌≡◌, ℕ, List, [], Some, All, IfSome, map}
use Rattle.kinds.specs.Types.{TypeTree, NamedType, types_list}
use Rattle.kinds.specs.Structs.{StructBody, Struct, Holds, struct_in, renamed_struct}
use Rattle.dialect_types.specs.Legalised.{Named, Gave, IsMet}
use Rattle.renamed_source.specs.Names.{struct_name}

-- the identifier of the struct of a name; what is no identifier where the name was given none
abbrev pub called : List Named → List ℕ → List ℕ
called given = struct_name (map (λ (g : Named). (g.name, g.identifier)) given)

-- each struct that the type itself names, not looking into their fields, was given an identifier
abbrev pub IsCalled : List Named → TypeTree → Type 0
IsCalled given t = (name : List ℕ) → Holds [] (NamedType name) t → IsMet given name

-- s is what the struct of that name is in the dialect: under its identifier, with its fields as the dialect calls them
pub record IsConverted (structs : List Struct) (given : List Named) (name : List ℕ) (s : Struct) : Type 0 where
  pub gave : Gave given name s.name
  pub struct : Struct
  pub at : struct_in structs name ≡ Some struct
  pub known : IfSome struct.body (λ (b : StructBody). All (IsCalled given) (types_list b.fields))
  pub is : s ≡ renamed_struct (called given) struct
