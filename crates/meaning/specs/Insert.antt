-- Insertion into terms. An aggregate that is known by its elements, or is zero, undef or poison of a type that has elements, is opened
-- up, and what comes of it is folded up again; into any other the insertion stands as a term.
use Rattle.std.specs.Prelude.{◌≡◌, ℕ, zero, suc, nat_lt, true, if◌then◌else◌, List, [], ◌∷◌, Option, Some, None, map}
use Rattle.std.specs.Option.{option_map, option_and_then}
use Rattle.kinds.specs.declared.fill.Fill.{Fill}
use Rattle.kinds.specs.declared.types.VectorTypeKind.TheVariants as V
use Rattle.kinds.specs.Types.{TypeTree, VoidType, IntType, PointerType, FloatingType, RefusedType, ArrayType, VectorType, StructType, NamedType, FunctionType, TypeTrees, NoTypes, ThenType}
use Rattle.kinds.specs.Structs.{Struct}
use Rattle.llvm_core.specs.Data.{ConstTree}
use Rattle.llvm_core.specs.Elements.{is_element}
use Rattle.llvm_core.specs.Inserted.{fields_in}
use Rattle.meaning.specs.Terms.{Term, Filled, ListOf, Insert, Terms, NoTerms, ThenTerm, Places, filled_term}
use Rattle.meaning.specs.Constants.{copies, list_term}

-- ---- an aggregate by its elements

-- zero, undef or poison of each type
abbrev pub of_each : Fill → TypeTrees → Terms
of_each fill NoTypes = NoTerms
of_each fill (ThenType t ts) = ThenTerm (filled_term fill t) (of_each fill ts)

-- zero, undef or poison of a type by its elements, a line for each kind of type
abbrev pub opened_fill : List Struct → Fill → TypeTree → Option Terms
opened_fill structs fill VoidType = None
opened_fill structs fill (IntType width) = None
opened_fill structs fill (PointerType space) = None
opened_fill structs fill (FloatingType of) = None
opened_fill structs fill (RefusedType of) = None
opened_fill structs fill (ArrayType count t) = Some (copies count (filled_term fill t))
opened_fill structs fill (VectorType V.Fixed count t) = Some (copies count (filled_term fill t))
opened_fill structs fill (VectorType V.Scalable count t) = None
opened_fill structs fill (StructType layout fields) = Some (of_each fill fields)
opened_fill structs fill (NamedType name) = option_map (of_each fill) (fields_in structs name)
opened_fill structs fill (FunctionType result params variadic) = None

-- the type of an aggregate and its elements, where these are known
abbrev pub opened : List Struct → Term → Option (TypeTree × Terms)
opened structs (Filled fill ty) = option_map (λ (ts : Terms). (ty, ts)) (opened_fill structs fill ty)
opened structs (ListOf ty ts) = Some (ty, ts)
opened structs _ = None

-- ---- an element put in

abbrev pub term_at : Terms → ℕ → Option Term
term_at NoTerms n = None
term_at (ThenTerm t ts) zero = Some t
term_at (ThenTerm t ts) (suc n) = term_at ts n

abbrev pub with_term_at : Terms → ℕ → Term → Terms
with_term_at NoTerms n u = NoTerms
with_term_at (ThenTerm t ts) zero u = ThenTerm u ts
with_term_at (ThenTerm t ts) (suc n) u = ThenTerm t (with_term_at ts n u)

-- the element at a place of a list is replaced by what stands inside it, and the list folded up; a place past the end replaces nothing
abbrev pub replaced : TypeTree → Terms → ℕ → Option Term → (Term → Term) → Term → Term
replaced ty ts n (Some old) inside otherwise = list_term ty (with_term_at ts n (inside old))
replaced ty ts n None inside otherwise = otherwise

abbrev pub replaced_in : Option (TypeTree × Terms) → ℕ → (Term → Term) → Term → Term
replaced_in (Some l) n inside otherwise = replaced l.0 l.1 n (term_at l.1 n) inside otherwise
replaced_in None n inside otherwise = otherwise

abbrev pub places_of : List (TypeTree × ℕ) → List ℕ
places_of path = map (λ (p : TypeTree × ℕ). p.1) path

-- The aggregate with the element at the end of the path, whose places each stand beside the type that
-- they are a place of. Where the aggregate opens up and the first place is below the count of its elements,
-- the element there is replaced; otherwise the insertion stands as a term.
abbrev pub put : List Struct → Term → List (TypeTree × ℕ) → Term → Term
put structs a [] e = e
put structs a (p ∷ path) e = replaced_in (opened structs a) p.1 (λ old. put structs old path e) (Insert p.0 a (Places (places_of (p ∷ path))) e)

-- ---- what may be put in

abbrev pub type_in : TypeTrees → ℕ → Option TypeTree
type_in NoTypes n = None
type_in (ThenType t ts) zero = Some t
type_in (ThenType t ts) (suc n) = type_in ts n

-- the type of the element that a constant of that type has at a place, where it has one there
abbrev pub part_type : List Struct → TypeTree → (place : ℕ) → Option TypeTree
part_type structs (ArrayType count t) place = if nat_lt place count then Some t else None
part_type structs (VectorType V.Fixed count t) place = if nat_lt place count then Some t else None
part_type structs (StructType layout fields) place = type_in fields place
part_type structs (NamedType name) place = option_and_then (λ (fields : TypeTrees). type_in fields place) (fields_in structs name)
part_type structs _ place = None

-- the constant x is of the type of the element that a constant of that type has at that place, and no placeholder
abbrev pub MayStand : List Struct → (type : TypeTree) → (place : ℕ) → (x : ConstTree) → Type 0
MayStand structs type place x = (t : TypeTree) → part_type structs type place ≡ Some t → is_element t x ≡ true
