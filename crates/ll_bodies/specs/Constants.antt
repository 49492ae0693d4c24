-- What a written constant means: a constant in its one form, or nothing where its elements are not those of its type.
use Rattle.std.specs.Prelude.{ℕ, Bool, true, false, ◌&&◌, not, if◌then◌else◌, List, Option, Some, None, length, drop}
use Rattle.std.specs.Option.{option_map, option_map_or}
use Rattle.kinds.specs.declared.types.StructLayout.{StructLayout}
use Rattle.kinds.specs.declared.types.VectorTypeKind.TheVariants.{Fixed}
use Rattle.kinds.specs.Types.{TypeTree, IntType, ArrayType, VectorType, StructType, NamedType, same_tree, same_layout}
use Rattle.kinds.specs.Structs.{StructBody, Struct}
use Rattle.llvm_core.specs.Data.{ConstTree, BytesConst, ConstTrees, NoConsts, ThenConst, listed, formed}
pub use Rattle.llvm_core.specs.Elements.{is_placeholder, is_element, are_all, are_each, body_named, are_elements, copies, splat_const}
use Rattle.ll_literals.specs.Chain.{◌>>=◌}
use Rattle.ll_literals.specs.Escapes.{unescaped}
use Rattle.ll_literals.specs.Names.{inside}
use Rattle.ll_lines.specs.declared.lines.Brackets.{Brackets}
use Rattle.ll_lines.specs.declared.lines.Brackets.TheVariants as B
use Rattle.ll_lines.specs.Lines.{Text, SaidConst, Plain, Chars, Listed, Splat, SaidConsts, NoneSaid, ThenSaid}

-- ---- brackets

-- the brackets are those of a struct that lies so
abbrev pub of_struct : Brackets → StructLayout → Bool
of_struct B.Array layout = false
of_struct B.Vector layout = false
of_struct (B.Struct own) layout = same_layout own layout

abbrev pub of_array : Brackets → Bool
of_array B.Array = true
of_array B.Vector = false
of_array (B.Struct layout) = false

abbrev pub of_vector : Brackets → Bool
of_vector B.Array = false
of_vector B.Vector = true
of_vector (B.Struct layout) = false

-- such brackets stand around the elements of a constant of that type: a line for each kind that has elements
abbrev pub stand_for : List Struct → Brackets → TypeTree → Bool
stand_for structs brackets (ArrayType count τ) = of_array brackets
stand_for structs brackets (VectorType Fixed count τ) = of_vector brackets
stand_for structs brackets (StructType layout τs) = of_struct brackets layout
stand_for structs brackets (NamedType name) = option_map_or (λ (b : StructBody). of_struct brackets b.layout) (body_named structs name) false
stand_for structs brackets _ = false

-- ---- constants

-- the bytes that a token c"..." says, which are no text
abbrev pub chars_said : Text → Option (List ℕ)
chars_said t = option_map unescaped (inside (drop 1 t))

abbrev pub chars_const : TypeTree → List ℕ → Option ConstTree
chars_const τ bytes = if same_tree τ (ArrayType (length bytes) (IntType 8)) then Some (formed (BytesConst bytes)) else None

module _ (structs : List Struct) where
  abbrev mutual
    pub const_meant : SaidConst → Option ConstTree
    const_meant (Plain c) = Some c
    const_meant (Chars τ t) = chars_said t >>= chars_const τ
    const_meant (Listed τ brackets cs) = consts_meant cs >>= λ ds. if stand_for structs brackets τ && are_elements structs τ ds then Some (listed τ ds) else None
    const_meant (Splat τ c) = const_meant c >>= splat_const τ

    pub consts_meant : SaidConsts → Option ConstTrees
    consts_meant NoneSaid = Some NoConsts
    consts_meant (ThenSaid c cs) = const_meant c >>= λ d. consts_meant cs >>= λ ds. Some (ThenConst d ds)
