-- The terms of constants that are made of others, folded up: what is zero, undef or poison in each element is that of its type, so
-- that a constant has one term, however its elements are said.
use Rattle.std.specs.Prelude.{ℕ, zero, suc, List, [], ◌∷◌, Option, Some, None, length, map, if◌then◌else◌}
use Rattle.std.specs.Option.{option_map_or}
use Rattle.kinds.specs.declared.fill.Fill.{Fill}
use Rattle.kinds.specs.declared.fill.Fill.TheVariants as F
use Rattle.kinds.specs.declared.types.VectorTypeKind.TheVariants as V
use Rattle.kinds.specs.Types.{TypeTree, IntType, ArrayType, VectorType}
use Rattle.llvm_core.specs.Consts.{common_fill, is_zero}
use Rattle.meaning.specs.Terms.{Term, Terms, NoTerms, ThenTerm, Int, Filled, ListOf, SplatOf, terms_of}

-- zero, undef or poison, where the term of a constant is that
abbrev pub fill_of : Term → Option Fill
fill_of (Int w v) = if is_zero v then Some F.Zero else None
fill_of (Filled fill ty) = Some fill
fill_of _ = None

abbrev pub fills_of : Terms → List (Option Fill)
fills_of NoTerms = []
fills_of (ThenTerm t ts) = fill_of t ∷ fills_of ts

-- an array, a vector of a known length or a struct, by its elements
abbrev pub list_term : TypeTree → Terms → Term
list_term ty ts = option_map_or (λ (fill : Fill). Filled fill ty) (common_fill (fills_of ts)) (ListOf ty ts)

-- an array of integers of 8 bits
abbrev pub bytes_term : List ℕ → Term
bytes_term bytes = list_term (ArrayType (length bytes) (IntType 8)) (terms_of (map (Int 8) bytes))

-- a scalable vector, each lane of which is that
abbrev pub splat_term : TypeTree → Term → Term
splat_term ty t = option_map_or (λ (fill : Fill). Filled fill ty) (fill_of t) (SplatOf ty t)

abbrev pub copies : ℕ → Term → Terms
copies zero t = NoTerms
copies (suc n) t = ThenTerm t (copies n t)

-- a vector, each lane of which is that: of a known length it is the list of its lanes
abbrev pub lanes_term : TypeTree → Term → Term
lanes_term (VectorType V.Fixed count u) t = list_term (VectorType V.Fixed count u) (copies count t)
lanes_term ty t = splat_term ty t
