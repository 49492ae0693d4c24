-- The elements of a constant as pieces: constants that are there, and such as may still have to be made.
use Rattle.std.specs.Prelude.{◌≡◌, ◌<◌, ◌≤◌, ◌^◌, ◌++◌, ℕ, List, [], ◌∷◌, map, length, replicate, slice_get, Option, Some, None}
use Rattle.std.specs.Option.{option_map, option_and_then}
use Rattle.kinds.specs.declared.fill.Fill.{Fill}
use Rattle.kinds.specs.declared.types.VectorTypeKind.TheVariants as N
use Rattle.kinds.specs.Held.{width_in}
use Rattle.llvm_core.specs.declared.numbers.LLVMType.{LLVMType}
use Rattle.llvm_core.specs.declared.numbers.LLVMConst.{LLVMConst}
use Rattle.llvm_core.specs.declared.types.LLVMTypeKind.{LLVMTypeKind}
use Rattle.llvm_core.specs.declared.types.LLVMTypeKind.TheVariants as T
use Rattle.llvm_core.specs.declared.consts.LLVMConstKind.{LLVMConstKind}
use Rattle.llvm_core.specs.declared.consts.LLVMConstKind.TheVariants as C
use Rattle.llvm_core.specs.declared.pieces.Piece.{Piece}
use Rattle.llvm_core.specs.declared.pieces.Piece.TheVariants as P
use Rattle.llvm_core.specs.declared.structs.StructFields.{StructFields}
use Rattle.llvm_core.specs.declared.structs.StructData.{StructData}
use Rattle.llvm_core.specs.Module.{Module}
use Rattle.llvm_core.specs.Consts.{AreElements, HasFields, IsElement, struct_named}
use Rattle.llvm_core.specs.Sound.{IsModule}
use Rattle.llvm_core.specs.Data.{ConstTree, IntConst, ConstTrees, NoConsts, ThenConst, Trees, type_at, const_at, filled_const, trees_of, data_of}

-- what a piece stands for
abbrev pub piece_tree : Trees → Piece → ConstTree
piece_tree t (P.There c) = const_at t.consts c
piece_tree t (P.Filled fill type) = filled_const fill (type_at t.types type)
piece_tree t (P.Int type value) = IntConst (width_in (type_at t.types type)) value

abbrev pub piece_trees : Trees → List Piece → ConstTrees
piece_trees t [] = NoConsts
piece_trees t (p ∷ ps) = ThenConst (piece_tree t p) (piece_trees t ps)

-- a piece is a constant of that type, and no placeholder
abbrev pub IsPieceOf : Module → LLVMType → Piece → Type 0
IsPieceOf m u (P.There c) = IsElement m.consts u c
IsPieceOf m u (P.Filled fill t) = (t ≡ u) × (t.0 < length m.types)
IsPieceOf m u (P.Int t value) = (t ≡ u) × (slice_get m.types t.0 ≡ Some (T.Int 8)) × (value < 2 ^ 8)

-- pieces are elements of a constant of that type
pub record ArePiecesOf (m : Module) (t : LLVMType) (ps : List Piece) : Type 0 where
  pub kind : LLVMTypeKind
  pub parts : List LLVMType
  pub typed : slice_get m.types t.0 ≡ Some kind
  pub fit : AreElements m.structs kind parts
  pub count : length ps ≡ length parts
  pub each : (i : ℕ) (p : Piece) (u : LLVMType) → slice_get ps i ≡ Some p → slice_get parts i ≡ Some u → IsPieceOf m u p

-- the fields of the first struct of that name, where they are told
abbrev pub named_fields : List StructData → List ℕ → Option (List LLVMType)
named_fields structs name = option_and_then (λ (s : StructData). option_map (λ (b : StructFields). b.types) s.body) (struct_named structs name)

-- zero, undef or poison of a type of that kind by its elements
abbrev pub fill_pieces : List StructData → Fill → LLVMTypeKind → Option (List Piece)
fill_pieces structs fill T.Void = None
fill_pieces structs fill (T.Int width) = None
fill_pieces structs fill (T.Ptr space) = None
fill_pieces structs fill (T.Floating of) = None
fill_pieces structs fill (T.Other of) = None
fill_pieces structs fill (T.Array count t) = Some (replicate count (P.Filled fill t))
fill_pieces structs fill (T.Vector N.Fixed count t) = Some (replicate count (P.Filled fill t))
fill_pieces structs fill (T.Vector N.Scalable count t) = None
fill_pieces structs fill (T.Literal fields layout) = Some (map (P.Filled fill) fields)
fill_pieces structs fill (T.Named name) = option_map (map (P.Filled fill)) (named_fields structs name)
fill_pieces structs fill (T.Function result params variadic) = None

-- bytes by their integers
abbrev pub byte_pieces : List ℕ → LLVMTypeKind → Option (List Piece)
byte_pieces bytes T.Void = None
byte_pieces bytes (T.Int width) = None
byte_pieces bytes (T.Ptr space) = None
byte_pieces bytes (T.Floating of) = None
byte_pieces bytes (T.Other of) = None
byte_pieces bytes (T.Array count t) = Some (map (P.Int t) bytes)
byte_pieces bytes (T.Vector kind count t) = None
byte_pieces bytes (T.Literal fields layout) = None
byte_pieces bytes (T.Named name) = None
byte_pieces bytes (T.Function result params variadic) = None

-- a constant by its elements
abbrev pub pieces : Module → LLVMConstKind → Option (List Piece)
pieces m (C.Int t value) = None
pieces m (C.Filled fill t) = option_and_then (fill_pieces m.structs fill) (slice_get m.types t.0)
pieces m (C.Bytes t bytes) = option_and_then (byte_pieces bytes) (slice_get m.types t.0)
pieces m (C.List t elements) = Some (map P.There elements)
pieces m (C.Splat t element) = None
pieces m (C.Placeholder number t) = None

-- a module with more constants, and nothing else, which is as sound and has the same data
pub record HasMoreConsts (m n : Module) : Type 0 where
  pub more : List LLVMConstKind
  pub rest : n ≡ record m { consts = n.consts }
  pub longer : n.consts ≡ m.consts ++ more
  pub same : data_of n ≡ data_of m
  pub sound : IsModule n

-- an element of the type that stands at that place of a constant of a type of that kind, where there is one, and no placeholder
abbrev pub FitsKind : Module → LLVMTypeKind → (place : ℕ) → LLVMConst → Type 0
FitsKind m k place c = (parts : List LLVMType) (u : LLVMType) → AreElements m.structs k parts → slice_get parts place ≡ Some u → IsElement m.consts u c

-- the same where there are so many elements of one type
abbrev pub OneFits : List LLVMConstKind → (count : ℕ) → LLVMType → (place : ℕ) → LLVMConst → Type 0
OneFits consts count t place c = place < count → IsElement consts t c

-- the same where these are the types of the elements
abbrev pub FieldFits : List LLVMConstKind → List LLVMType → (place : ℕ) → LLVMConst → Type 0
FieldFits consts fields place c = (u : LLVMType) → slice_get fields place ≡ Some u → IsElement consts u c

-- the same where they are those of the fields of the struct of that name
abbrev pub NamedFits : Module → List ℕ → (place : ℕ) → LLVMConst → Type 0
NamedFits m name place c = (parts : List LLVMType) (u : LLVMType) → HasFields m.structs name parts → slice_get parts place ≡ Some u → IsElement m.consts u c

-- the same of a constant of the type t
abbrev pub FitsPlace : Module → LLVMType → (place : ℕ) → LLVMConst → Type 0
FitsPlace m t place c = (k : LLVMTypeKind) → slice_get m.types t.0 ≡ Some k → FitsKind m k place c

-- the constant c of a module is what the piece p of an earlier one stands for, and of its type
pub record IsPutAs (m n : Module) (p : Piece) (c : LLVMConst) : Type 0 where
  pub there : c.0 < length n.consts
  pub tree : const_at (trees_of n).consts c ≡ piece_tree (trees_of m) p
  pub element : (u : LLVMType) → IsPieceOf m u p → IsElement n.consts u c

-- the constants are what the first pieces stand for
pub record ArePut (m n : Module) (ps : List Piece) (done : ℕ) (cs : List LLVMConst) : Type 0 where
  pub grown : HasMoreConsts m n
  pub count : length cs ≡ done
  pub few : done ≤ length ps
  pub each : (i : ℕ) (p : Piece) (c : LLVMConst) → slice_get ps i ≡ Some p → slice_get cs i ≡ Some c → IsPutAs m n p c
