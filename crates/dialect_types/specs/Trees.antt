-- Types as trees, and the tree that a number of a store stands for.
use Rattle.std.specs.Prelude.{◌≡◌, ◌<◌, ◌⊎◌, ℕ, Bool, true, false, List, [], ◌∷◌, ◌++◌, All, IfSome, length, slice_get, slice_index_or, Option, Some, None}
use Rattle.std.specs.List.{filter_map}
use Rattle.std.specs.Option.{option_map}
use Rattle.kinds.specs.Types.{shape}
use Rattle.kinds.specs.Fitting.{is_field, is_array_of, is_vector_of}
use Rattle.kinds.specs.Held.{IsShallow}
pub use Rattle.kinds.specs.Structs.{StructBody, Struct as NamedStruct}
use Rattle.kinds.specs.Structs.{IsNested, struct_in}
pub use Rattle.kinds.specs.Types.{TypeTree, VoidType, IntType, PointerType, FloatingType, RefusedType, ArrayType, VectorType, StructType, NamedType, FunctionType, TypeTrees, NoTypes, ThenType}
use Rattle.dialect_types.specs.Names.{IsIdentifier}
use Rattle.dialect_types.specs.declared.types.TypeHandle.{TypeHandle}
use Rattle.dialect_types.specs.declared.types.StructFields.{StructFields}
use Rattle.dialect_types.specs.declared.types.TypeKind.{TypeKind}
use Rattle.dialect_types.specs.declared.types.TypeKind.TheVariants.{Integer, Pointer, Floating, Array, Vector, Struct, Named, Func, Void}

-- the trees of a list of kinds, each by the trees of the earlier ones, which are `done` to begin with
module _ {K T : Type 0} (tree_of : List T → K → T) where
  abbrev pub trees_after : List T → List K → List T
  trees_after done [] = done
  trees_after done (k ∷ ks) = trees_after (done ++ tree_of done k ∷ []) ks

-- the tree of a number, where the trees of the numbers are ts
abbrev pub type_at : List TypeTree → TypeHandle → TypeTree
type_at ts t = slice_index_or ts t.0 VoidType

abbrev pub types_at : List TypeTree → List TypeHandle → TypeTrees
types_at ts [] = NoTypes
types_at ts (t ∷ xs) = ThenType (type_at ts t) (types_at ts xs)

-- the tree of a kind, where the trees of its parts are ts
abbrev pub type_tree : List TypeTree → TypeKind → TypeTree
type_tree ts (Integer w) = IntType w
type_tree ts (Pointer space) = PointerType space
type_tree ts (Floating of) = FloatingType of
type_tree ts (Array t count) = ArrayType count (type_at ts t)
type_tree ts (Vector t count kind) = VectorType kind count (type_at ts t)
type_tree ts (Struct fields layout) = StructType layout (types_at ts fields)
type_tree ts (Named name body) = NamedType name
type_tree ts (Func result params variadic) = FunctionType (type_at ts result) (types_at ts params) variadic
type_tree ts Void = VoidType

-- the trees of a store's numbers
abbrev pub type_trees : List TypeKind → List TypeTree
type_trees ks = trees_after type_tree [] ks

-- each number is below n
abbrev pub AllBelow : ℕ → List TypeHandle → Type 0
AllBelow n [] = Unit {0}
AllBelow n (t ∷ xs) = (t.0 < n) × AllBelow n xs

-- the parts of a kind are numbers below n
abbrev pub HasPartsBelow : ℕ → TypeKind → Type 0
HasPartsBelow n (Integer w) = Unit {0}
HasPartsBelow n (Pointer space) = Unit {0}
HasPartsBelow n (Floating of) = Unit {0}
HasPartsBelow n (Array t count) = t.0 < n
HasPartsBelow n (Vector t count kind) = t.0 < n
HasPartsBelow n (Struct fields layout) = AllBelow n fields
HasPartsBelow n (Named name body) = IfSome body (λ (b : StructFields). AllBelow n b.types)
HasPartsBelow n (Func result params variadic) = (result.0 < n) × AllBelow n params
HasPartsBelow n Void = Unit {0}

-- the parts of each kind are earlier ones
abbrev pub IsGrounded : List TypeKind → Type 0
IsGrounded ks = (i : ℕ) (k : TypeKind) → slice_get ks i ≡ Some k → HasPartsBelow i k

-- The parts of a kind are such as it may be made of, where the trees of its parts are ts: there is no other type.
abbrev pub HasFitParts : List TypeTree → TypeKind → Type 0
HasFitParts ts (Integer w) = Unit {0}
HasFitParts ts (Pointer space) = Unit {0}
HasFitParts ts (Floating of) = Unit {0}
HasFitParts ts (Array t count) = is_array_of count (shape (type_at ts t)) ≡ true
HasFitParts ts (Vector t count kind) = is_vector_of count (shape (type_at ts t)) ≡ true
HasFitParts ts (Struct fields layout) = All (λ (t : TypeHandle). is_field (shape (type_at ts t)) ≡ true) fields
HasFitParts ts (Named name body) = IfSome body (λ (b : StructFields). All (λ (t : TypeHandle). is_field (shape (type_at ts t)) ≡ true) b.types)
HasFitParts ts (Func result params variadic) = Unit {0}
HasFitParts ts Void = Unit {0}

-- ---- structs with names

abbrev pub fields_of : List TypeTree → StructFields → StructBody
fields_of ts b = record { fields = types_at ts b.types; layout = b.layout }

-- the struct that a kind is, where it is one with a name: a line for each kind
abbrev pub struct_of : List TypeTree → TypeKind → Option NamedStruct
struct_of ts (Integer w) = None
struct_of ts (Pointer space) = None
struct_of ts (Floating of) = None
struct_of ts (Array t count) = None
struct_of ts (Vector t count kind) = None
struct_of ts (Struct fields layout) = None
struct_of ts (Named name body) = Some (record { name = name; body = option_map (fields_of ts) body })
struct_of ts (Func result params variadic) = None
struct_of ts Void = None

-- the structs of a store, in the order of making
abbrev pub structs_of : List TypeKind → List NamedStruct
structs_of ks = filter_map (struct_of (type_trees ks)) ks

-- the structs are as before, of which s is one, or have s last, of whose name there was none
abbrev pub IsStructPut : (old new : List NamedStruct) → NamedStruct → Type 0
IsStructPut old new s = ((new ≡ old) × (struct_in old s.name ≡ Some s)) ⊎ ((new ≡ old ++ s ∷ []) × (struct_in old s.name ≡ None))

-- one of the name is another
abbrev pub HasOtherBody : List NamedStruct → NamedStruct → Type 0
HasOtherBody structs s = (t : NamedStruct) × (struct_in structs s.name ≡ Some t) × (¬ (t ≡ s))

abbrev pub is_named : TypeKind → Bool
is_named (Integer w) = false
is_named (Pointer space) = false
is_named (Floating of) = false
is_named (Array t count) = false
is_named (Vector t count kind) = false
is_named (Struct fields layout) = false
is_named (Named name body) = true
is_named (Func result params variadic) = false
is_named Void = false

-- a store has one struct of a name
abbrev pub IsOnceNamed : List TypeKind → Type 0
IsOnceNamed ks = (i j : ℕ) (n : List ℕ) (b c : Option StructFields) → slice_get ks i ≡ Some (Named n b) → slice_get ks j ≡ Some (Named n c) → i ≡ j

-- the name of each is an identifier
abbrev pub HasIdentifiers : List TypeKind → Type 0
HasIdentifiers ks = (t : ℕ) (n : List ℕ) (b : Option StructFields) → slice_get ks t ≡ Some (Named n b) → IsIdentifier n

-- what holds of the kinds of a store
pub record IsStored (ks : List TypeKind) : Type 0 where
  pub grounded : IsGrounded ks
  pub fit : All (HasFitParts (type_trees ks)) ks
  pub once : IsOnceNamed ks
  pub spelled : HasIdentifiers ks
  -- no type nests deeper than is allowed, through the fields of structs too
  pub shallow : All IsShallow (type_trees ks)
  pub nested : All (IsNested (structs_of ks)) (type_trees ks)

-- equal types, read as trees, have equal numbers
abbrev pub IsDistinctAsTrees : List TypeKind → Type 0
IsDistinctAsTrees ks =
    (a b : TypeHandle) → a.0 < length ks → b.0 < length ks → type_at (type_trees ks) a ≡ type_at (type_trees ks) b → a.0 ≡ b.0

-- a store that has the types that it had, and perhaps more, and the same structs with names
pub record Grows (old new : List TypeKind) : Type 0 where
  pub more : List TypeKind
  pub is : new ≡ old ++ more
  pub structs : structs_of new ≡ structs_of old
