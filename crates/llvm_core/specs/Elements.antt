-- The elements of constants as trees: of what a constant of a type is made, and whether each part of one is made so.
use Rattle.std.specs.Prelude.{◌≡◌, ℕ, zero, suc, Bool, true, false, ◌&&◌, not, if◌then◌else◌, List, Option, Some, None}
use Rattle.std.specs.Option.{option_map_or, option_and_then}
use Rattle.kinds.specs.declared.types.VectorTypeKind.TheVariants.{Fixed, Scalable}
use Rattle.kinds.specs.Types.{TypeTree, ArrayType, VectorType, StructType, NamedType, TypeTrees, NoTypes, ThenType, same_tree}
use Rattle.kinds.specs.Structs.{StructBody, Struct, struct_in}
use Rattle.llvm_core.specs.Data.{ConstTree, IntConst, FilledConst, BytesConst, ListConst, SplatConst, PlaceholderConst, ConstTrees, NoConsts, ThenConst, const_type, listed, formed}

-- ---- elements

-- a placeholder, which no text says
abbrev pub is_placeholder : ConstTree → Bool
is_placeholder (PlaceholderConst number type) = true
is_placeholder _ = false

-- an element of that type: a placeholder is none
abbrev pub is_element : TypeTree → ConstTree → Bool
is_element τ c = same_tree (const_type c) τ && not (is_placeholder c)

-- so many elements of one type
abbrev pub are_all : (count : ℕ) → TypeTree → ConstTrees → Bool
are_all zero τ NoConsts = true
are_all (suc n) τ (ThenConst c cs) = is_element τ c && are_all n τ cs
are_all _ τ _ = false

-- one of each type
abbrev pub are_each : TypeTrees → ConstTrees → Bool
are_each NoTypes NoConsts = true
are_each (ThenType τ τs) (ThenConst c cs) = is_element τ c && are_each τs cs
are_each _ _ = false

-- what is told of the struct of that name, if anything
abbrev pub body_named : List Struct → List ℕ → Option StructBody
body_named structs name = option_and_then (λ (s : Struct). s.body) (struct_in structs name)

-- these are the elements of a constant of that type
abbrev pub are_elements : List Struct → TypeTree → ConstTrees → Bool
are_elements structs (ArrayType count τ) cs = are_all count τ cs
are_elements structs (VectorType Fixed count τ) cs = are_all count τ cs
are_elements structs (StructType layout τs) cs = are_each τs cs
are_elements structs (NamedType name) cs = option_map_or (λ (b : StructBody). are_each b.fields cs) (body_named structs name) false
are_elements structs _ cs = false

abbrev pub copies : ℕ → ConstTree → ConstTrees
copies zero c = NoConsts
copies (suc n) c = ThenConst c (copies n c)

-- a vector each element of which is that constant: one of a known length is the list of its elements
abbrev pub splat_const : TypeTree → ConstTree → Option ConstTree
splat_const (VectorType Fixed count τ) c = if is_element τ c then Some (listed (VectorType Fixed count τ) (copies count c)) else None
splat_const (VectorType Scalable count τ) c = if is_element τ c then Some (formed (SplatConst (VectorType Scalable count τ) c)) else None
splat_const _ c = None

-- ---- all the way in

module _ (structs : List Struct) where
  abbrev mutual
    -- each list in the constant has the elements that its type asks for, and each splat such lanes
    pub HasElements : ConstTree → Type 0
    HasElements (IntConst width value) = Unit {0}
    HasElements (FilledConst fill type) = Unit {0}
    HasElements (BytesConst bytes) = Unit {0}
    HasElements (ListConst type cs) = (are_elements structs type cs ≡ true) × HaveElements cs
    HasElements (SplatConst type c) = (splat_const type c ≡ Some (SplatConst type c)) × HasElements c
    HasElements (PlaceholderConst number type) = Unit {0}

    pub HaveElements : ConstTrees → Type 0
    HaveElements NoConsts = Unit {0}
    HaveElements (ThenConst c cs) = HasElements c × HaveElements cs
