-- What the alternatives of the form say: the values of a text, and how each is made of the values in it.
use Rattle.std.specs.Prelude.{ℕ, ◌-◌, ◌^◌, Bool, true, false, ◌&&◌, nat_le, if◌then◌else◌, List, [], ◌∷◌, Option, Some, None}
use Rattle.std.specs.Option.{option_map, option_map_or}
use Rattle.kinds.specs.declared.access.Align.{Align}
use Rattle.kinds.specs.declared.op.OverflowFlags.{OverflowFlags}
use Rattle.kinds.specs.declared.op.Op.{Op}
use Rattle.kinds.specs.declared.op.Op.TheVariants as O
use Rattle.kinds.specs.declared.types.VectorTypeKind.{VectorTypeKind}
use Rattle.kinds.specs.declared.types.VectorTypeKind.TheVariants.{Fixed, Scalable}
use Rattle.kinds.specs.declared.types.StructLayout.{StructLayout}
use Rattle.kinds.specs.declared.types.StructLayout.TheVariants.{Packed, Unpacked}
use Rattle.kinds.specs.Types.{TypeTree, VoidType, IntType, PointerType, ArrayType, VectorType, StructType, NamedType, TypeTrees, NoTypes, ThenType, shape}
use Rattle.kinds.specs.Structs.{StructBody}
use Rattle.kinds.specs.declared.fill.Fill.{Fill}
use Rattle.kinds.specs.declared.fill.Fill.TheVariants as F
use Rattle.kinds.specs.Fitting.{is_pointer, is_array_of, is_vector_of, is_field}
use Rattle.llvm_core.specs.Data.{ConstTree, IntConst, FilledConst, filled_const}
use Rattle.ll_literals.specs.Chain.{◌>>=◌}
use Rattle.ll_literals.specs.Names.{symbol_name}
use Rattle.ll_literals.specs.Numbers.{number_of, up_to, width_of}
use Rattle.ll_literals.specs.Literals.{const_value}
use Rattle.ll_lines.specs.declared.lines.Brackets.{Brackets}
use Rattle.ll_lines.specs.declared.lines.Brackets.TheVariants as B
use Rattle.ll_lines.specs.Lines.{Text, SaidConst, Plain, Chars, Listed, Splat, SaidConsts, NoneSaid, ThenSaid, Said, Local, Const, Typed, Incoming, Inst, Phi, Row, Part, Label, Does, Param, Function, StructLine, File}
use Rattle.ll_values.specs.declared.form.Kind.{Kind}
use Rattle.ll_values.specs.declared.form.Kind.TheVariants as K
use Rattle.ll_values.specs.declared.form.DetailKind.{DetailKind}
use Rattle.ll_values.specs.declared.form.DetailKind.TheVariants as D
use Rattle.ll_values.specs.declared.form.ListKind.{ListKind}
use Rattle.ll_values.specs.declared.form.ListKind.TheVariants as L
use Rattle.ll_values.specs.declared.form.RowKind.{RowKind}
use Rattle.ll_values.specs.declared.form.RowKind.TheVariants as R
use Rattle.ll_values.specs.declared.form.TypedKind.{TypedKind}
use Rattle.ll_values.specs.declared.form.TypedKind.TheVariants as T
use Rattle.ll_values.specs.Words.{binary_op, cast_op, three_op, predicate_of, align_said, flat_type, fill_of, no_wraps}

-- a literal as it is written: its type is known from what it stands in
pub data Literal : Type 0 where
  -- % and a name or a number
  LocalL : Text → Literal
  -- an integer's digits, true or false, zeroinitializer, undef or poison
  ConstL : Text → Literal
  -- null
  NullL : Literal
  -- c and a text between quotes, the token
  CharsL : Text → Literal
  -- elements between brackets, each said at the type that stands before it
  ListedL : Brackets → SaidConsts → Literal
  -- splat and the constant that each element is
  SplatL : SaidConst → Literal

-- an entry of a phi
pub record Entry : Type 0 where
  pub literal : Literal
  pub block : Text

-- what stands before the body of a function
pub record Head : Type 0 where
  pub result : TypeTree
  pub name : Text
  pub params : List Param

pub data Value : Type 0 where
  NoneV : Value
  TextV : Text → Value
  FlagV : Bool → Value
  WrapsV : OverflowFlags → Value
  TypeV : TypeTree → Value
  TypesV : TypeTrees → Value
  LiteralV : Literal → Value
  -- constants behind each other
  ConstsV : SaidConsts → Value
  -- a literal whose type stands before it, and the constants behind it
  BracedV : Literal → SaidConsts → Value
  TypedV : Typed → Value
  -- an address space
  SpaceV : ℕ → Value
  -- an alignment, or none where none is written
  AlignV : Option Align → Value
  PairV : Typed → Typed → Value
  EntryV : Entry → Value
  EntriesV : List Entry → Value
  InstV : Inst → Value
  PartV : Part → Value
  BodyV : List Part → Value
  ParamV : Param → Value
  ParamsV : List Param → Value
  HeadV : Head → Value
  SourceV : Text → Value
  FunctionV : Function → Value
  -- the fields of a struct, none where it is opaque
  FieldsV : Option StructBody → Value
  StructV : StructLine → Value
  FileV : File → Value

-- ---- types and literals

-- i and the digits of 1 to 2^23
abbrev pub int_type : Text → Option TypeTree
int_type t = width_of t >>= λ w. if nat_le 1 w && nat_le w (2 ^ 23) then Some (IntType w) else None

-- so many of a type, where they make an array
abbrev pub array_of : (element : TypeTree) → (count : ℕ) → Option TypeTree
array_of τ n = if is_array_of n (shape τ) then Some (ArrayType n τ) else None

-- so many of a type, where they make a vector
abbrev pub vector_of : VectorTypeKind → (element : TypeTree) → (count : ℕ) → Option TypeTree
vector_of kind τ n = if is_vector_of n (shape τ) then Some (VectorType kind n τ) else None

-- by the digits of the count
abbrev pub array_type : Text → TypeTree → Option TypeTree
array_type t τ = number_of t >>= array_of τ

abbrev pub vector_type : VectorTypeKind → Text → TypeTree → Option TypeTree
vector_type kind t τ = number_of t >>= vector_of kind τ

abbrev pub are_fields : TypeTrees → Bool
are_fields NoTypes = true
are_fields (ThenType τ τs) = is_field (shape τ) && are_fields τs

-- types, where they make a struct
abbrev pub struct_of : StructLayout → TypeTrees → Option TypeTree
struct_of layout τs = if are_fields τs then Some (StructType layout τs) else None

-- the struct that a token % and a name or digits name
abbrev pub named_type : Text → Option TypeTree
named_type t = option_map NamedType (symbol_name t)

-- types, where they may be the fields of a struct
abbrev pub body_of : StructLayout → TypeTrees → Option StructBody
body_of layout τs = if are_fields τs then Some (record { fields = τs; layout = layout }) else None

-- an integer's digits, true or false at an integer type
abbrev pub int_const : TypeTree → Text → Option ConstTree
int_const (IntType w) t = option_map (IntConst w) (const_value w t)
int_const _ t = None

-- zero, undef or poison of any type, or an integer
abbrev pub const_of : TypeTree → Text → Option ConstTree
const_of τ t = option_map_or (λ (fill : Fill). Some (filled_const fill τ)) (fill_of t) (int_const τ t)

-- null, which is the zero of a pointer alone
abbrev pub null_of : TypeTree → Option ConstTree
null_of τ = if is_pointer (shape τ) then Some (FilledConst F.Zero τ) else None

abbrev pub plain : ConstTree → Said
plain c = Const (Plain c)

-- what a literal says at a type: a local is a name still, and whether elements are those of the type is not asked here, since the
-- structs are not known yet
abbrev pub said : TypeTree → Literal → Option Said
said τ (LocalL t) = Some (Local t)
said τ (ConstL t) = option_map plain (const_of τ t)
said τ NullL = option_map plain (null_of τ)
said τ (CharsL t) = Some (Const (Chars τ t))
said τ (ListedL brackets cs) = Some (Const (Listed τ brackets cs))
said τ (SplatL c) = Some (Const (Splat τ c))

abbrev pub typed : TypeTree → Literal → Option Typed
typed τ ℓ = said τ ℓ >>= λ s. Some (record { type = τ; said = s })

-- ---- elements of constants: a local is none

abbrev pub const_in : Said → Option SaidConst
const_in (Local t) = None
const_in (Const c) = Some c

-- a constant before others
abbrev pub const_before : Said → SaidConsts → Option SaidConsts
const_before s cs = option_map (λ (c : SaidConst). ThenSaid c cs) (const_in s)

-- elements between brackets, the first of which is a literal of that type
abbrev pub listed_from : Brackets → TypeTree → Literal → SaidConsts → Option Literal
listed_from brackets τ ℓ cs = said τ ℓ >>= λ s. option_map (ListedL brackets) (const_before s cs)

-- entries at the type of their phi
abbrev pub incoming : TypeTree → List Entry → Option (List Incoming)
incoming τ [] = Some []
incoming τ (e ∷ es) = said τ e.literal >>= λ s. incoming τ es >>= λ more. Some (record { said = s; block = e.block } ∷ more)

-- ---- instructions

-- of these operands, where no type is written beside them
abbrev pub row : Op → List Typed → (targets : List Text) → Inst
row op operands targets = Row (record { op = op; written = None; operands = operands; targets = targets })

-- of one operand, with that type beside it
abbrev pub cast : Op → Typed → TypeTree → Inst
cast op x τ = Row (record { op = op; written = Some τ; operands = x ∷ []; targets = [] })

-- ---- files

-- a name, a struct, or a function, before others that no name stands among
abbrev pub named : Text → (source : Option Text) → List StructLine → List Function → Option Value
named t None ss fs = Some (FileV (record { source = Some t; structs = ss; functions = fs }))
named t (Some u) ss fs = None

abbrev pub structured : StructLine → (source : Option Text) → List StructLine → List Function → Option Value
structured s None ss fs = Some (FileV (record { source = None; structs = s ∷ ss; functions = fs }))
structured s (Some u) ss fs = None

abbrev pub defined : Function → (source : Option Text) → List StructLine → List Function → Option Value
defined f None ss fs = Some (FileV (record { source = None; structs = ss; functions = f ∷ fs }))
defined f (Some u) ss fs = None

-- ---- a line for each kind

-- parts of functions and of instructions
abbrev pub detail_by : DetailKind → List Value → Option Value
detail_by D.Local (TextV t ∷ []) = Some (LiteralV (LocalL t))
detail_by D.Literal (TextV t ∷ []) = Some (LiteralV (ConstL t))
detail_by D.Null [] = Some (LiteralV NullL)
detail_by D.Chars (TextV t ∷ []) = Some (LiteralV (CharsL t))
detail_by D.Splat (TypedV x ∷ []) = option_map (λ (c : SaidConst). LiteralV (SplatL c)) (const_in x.said)
detail_by D.Nuw (FlagV nsw ∷ []) = Some (WrapsV (record { nuw = true; nsw = nsw }))
detail_by D.Nsw [] = Some (WrapsV (record { nuw = false; nsw = true }))
detail_by D.NoWraps [] = Some (WrapsV no_wraps)
detail_by D.Space (TextV t ∷ []) = option_map SpaceV (up_to (2 ^ 24 - 1) (number_of t))
detail_by D.NoAlign [] = Some (AlignV None)
detail_by D.Align (TextV t ∷ NoneV ∷ []) = option_map (λ (a : Align). AlignV (Some a)) (align_said t)
detail_by D.Entry (LiteralV ℓ ∷ TextV t ∷ []) = Some (EntryV (record { literal = ℓ; block = t }))
detail_by D.Inst (InstV i ∷ NoneV ∷ []) = Some (InstV i)
detail_by D.Named (TextV t ∷ InstV i ∷ []) = Some (PartV (Does (record { result = Some t; inst = i })))
detail_by D.Bare (InstV i ∷ []) = Some (PartV (Does (record { result = None; inst = i })))
detail_by D.Label (TextV t ∷ []) = Some (PartV (Label t))
detail_by D.Param (TypeV τ ∷ NoneV ∷ NoneV ∷ []) = Some (ParamV (record { type = τ; name = None }))
detail_by D.Param (TypeV τ ∷ NoneV ∷ TextV t ∷ []) = Some (ParamV (record { type = τ; name = Some t }))
detail_by D.Source (TextV t ∷ []) = Some (SourceV t)
detail_by D.External (TextV t ∷ []) = Some NoneV
detail_by D.Opaque [] = Some (FieldsV None)
detail_by _ _ = None

-- lists, and what holds them; the name of the module stands first, where it stands
abbrev pub list_by : ListKind → List Value → Option Value
list_by L.EntriesEnd [] = Some (EntriesV [])
list_by L.EntriesMore (EntryV e ∷ EntriesV es ∷ []) = Some (EntriesV (e ∷ es))
list_by L.BodyEnd [] = Some (BodyV [])
list_by L.BodyMore (PartV p ∷ BodyV ps ∷ []) = Some (BodyV (p ∷ ps))
list_by L.TypesEnd [] = Some (TypesV NoTypes)
list_by L.TypesMore (TypeV τ ∷ TypesV τs ∷ []) = Some (TypesV (ThenType τ τs))
list_by L.ConstsEnd [] = Some (ConstsV NoneSaid)
list_by L.ConstsMore (TypedV x ∷ ConstsV cs ∷ []) = option_map ConstsV (const_before x.said cs)
list_by L.InArray (ConstsV cs ∷ []) = Some (LiteralV (ListedL B.Array cs))
list_by L.InStruct (ConstsV cs ∷ []) = Some (LiteralV (ListedL (B.Struct Unpacked) cs))
list_by L.NonePacked [] = Some (LiteralV (ListedL (B.Struct Packed) NoneSaid))
list_by L.Braced (LiteralV ℓ ∷ ConstsV cs ∷ []) = Some (BracedV ℓ cs)
list_by L.ParamsEnd [] = Some (ParamsV [])
list_by L.ParamsMore (ParamV p ∷ ParamsV ps ∷ []) = Some (ParamsV (p ∷ ps))
list_by L.Parameters (ParamsV ps ∷ NoneV ∷ NoneV ∷ []) = Some (ParamsV ps)
list_by L.Head (NoneV ∷ NoneV ∷ TypeV τ ∷ TextV t ∷ ParamsV ps ∷ []) = Some (HeadV (record { result = τ; name = t; params = ps }))
list_by L.Define (NoneV ∷ HeadV h ∷ NoneV ∷ NoneV ∷ BodyV ps ∷ []) = Some (FunctionV (record { result = h.result; name = h.name; params = h.params; body = ps }))
list_by L.Structure (TextV t ∷ FieldsV b ∷ []) = Some (StructV (record { name = t; body = b }))
list_by L.FileEnd [] = Some (FileV (record { source = None; structs = []; functions = [] }))
list_by L.FileMore (SourceV t ∷ FileV f ∷ []) = named t f.source f.structs f.functions
list_by L.FileMore (StructV s ∷ FileV f ∷ []) = structured s f.source f.structs f.functions
list_by L.FileMore (FunctionV d ∷ FileV f ∷ []) = defined d f.source f.structs f.functions
list_by _ _ = None

-- instructions that are no phi
abbrev pub row_by : RowKind → List Value → Option Value
row_by R.Sum (TextV word ∷ WrapsV flags ∷ PairV x y ∷ []) = binary_op word flags >>= λ op. Some (InstV (row op (x ∷ y ∷ []) []))
row_by R.Quotient (TextV word ∷ NoneV ∷ PairV x y ∷ []) = binary_op word no_wraps >>= λ op. Some (InstV (row op (x ∷ y ∷ []) []))
row_by R.Bits (TextV word ∷ PairV x y ∷ []) = binary_op word no_wraps >>= λ op. Some (InstV (row op (x ∷ y ∷ []) []))
row_by R.Or (NoneV ∷ PairV x y ∷ []) = Some (InstV (row O.Or (x ∷ y ∷ []) []))
row_by R.ICmp (NoneV ∷ TextV word ∷ PairV x y ∷ []) = predicate_of word >>= λ p. Some (InstV (row (O.ICmp p) (x ∷ y ∷ []) []))
row_by R.Cast (TextV word ∷ TypedV x ∷ TypeV τ ∷ []) = cast_op word >>= λ op. Some (InstV (cast op x τ))
row_by R.Trunc (NoneV ∷ TypedV x ∷ TypeV τ ∷ []) = Some (InstV (cast O.Trunc x τ))
row_by R.ZExt (FlagV nneg ∷ TypedV x ∷ TypeV τ ∷ []) = Some (InstV (cast (O.ZExt nneg) x τ))
row_by R.Three (TextV word ∷ TypedV x ∷ TypedV y ∷ TypedV z ∷ []) = three_op word >>= λ op. Some (InstV (row op (x ∷ y ∷ z ∷ []) []))
row_by R.Freeze (TypedV x ∷ []) = Some (InstV (row O.Freeze (x ∷ []) []))
row_by R.Load (FlagV volatile ∷ TypeV τ ∷ TypedV x ∷ AlignV align ∷ []) = Some (InstV (cast (O.Load (record { align = align; volatile = volatile })) x τ))
row_by R.Store (FlagV volatile ∷ TypedV x ∷ TypedV y ∷ AlignV align ∷ []) = Some (InstV (row (O.Store (record { align = align; volatile = volatile })) (x ∷ y ∷ []) []))
row_by R.VAArg (TypedV x ∷ TypeV τ ∷ []) = Some (InstV (cast O.VAArg x τ))
row_by R.Return (NoneV ∷ []) = Some (InstV (row O.Ret [] []))
row_by R.Return (TypedV x ∷ []) = Some (InstV (row O.Ret (x ∷ []) []))
row_by R.Jump (TextV t ∷ []) = Some (InstV (row O.Br [] (t ∷ [])))
row_by R.Branch (TypedV x ∷ TextV t ∷ TextV u ∷ []) = Some (InstV (row O.CondBr (x ∷ []) (t ∷ u ∷ [])))
row_by R.Unreachable [] = Some (InstV (row O.Unreachable [] []))
row_by _ _ = None

-- the kinds of types
abbrev pub is_type : TypedKind → Bool
is_type T.Typed = false
is_type T.Pair = false
is_type T.Phi = false
is_type T.InVector = false
is_type T.InPacked = false
is_type T.Fields = false
is_type T.PackedFields = false
is_type _ = true

-- those of the fields of structs
abbrev pub is_body : TypedKind → Bool
is_body T.Fields = true
is_body T.PackedFields = true
is_body _ = false

-- types, the fields of structs, and what a literal takes its type from
abbrev pub typed_by : TypedKind → List Value → Option Value
typed_by T.Void [] = Some (TypeV VoidType)
typed_by T.Int (TextV t ∷ []) = option_map TypeV (int_type t)
typed_by T.Pointer (NoneV ∷ []) = Some (TypeV (PointerType 0))
typed_by T.Pointer (SpaceV n ∷ []) = Some (TypeV (PointerType n))
typed_by T.Flat (TextV t ∷ []) = option_map TypeV (flat_type t)
typed_by T.Array (TextV t ∷ TypeV τ ∷ []) = option_map TypeV (array_type t τ)
typed_by T.Vector (TextV t ∷ TypeV τ ∷ []) = option_map TypeV (vector_type Fixed t τ)
typed_by T.Scalable (TextV t ∷ TypeV τ ∷ []) = option_map TypeV (vector_type Scalable t τ)
typed_by T.Struct (TypesV τs ∷ []) = option_map TypeV (struct_of Unpacked τs)
typed_by T.Packed (TypesV τs ∷ []) = option_map TypeV (struct_of Packed τs)
typed_by T.Named (TextV t ∷ []) = option_map TypeV (named_type t)
typed_by T.Fields (TypesV τs ∷ []) = option_map (λ (b : StructBody). FieldsV (Some b)) (body_of Unpacked τs)
typed_by T.PackedFields (TypesV τs ∷ []) = option_map (λ (b : StructBody). FieldsV (Some b)) (body_of Packed τs)
typed_by T.Typed (TypeV τ ∷ LiteralV ℓ ∷ []) = option_map TypedV (typed τ ℓ)
typed_by T.Pair (TypeV τ ∷ LiteralV ℓ ∷ LiteralV r ∷ []) = typed τ ℓ >>= λ x. typed τ r >>= λ y. Some (PairV x y)
typed_by T.InVector (TypeV τ ∷ LiteralV ℓ ∷ ConstsV cs ∷ []) = option_map LiteralV (listed_from B.Vector τ ℓ cs)
typed_by T.InPacked (TypeV τ ∷ BracedV ℓ cs ∷ []) = option_map LiteralV (listed_from (B.Struct Packed) τ ℓ cs)
typed_by T.Phi (TypeV τ ∷ EntryV e ∷ EntriesV es ∷ []) = incoming τ (e ∷ es) >>= λ xs. Some (InstV (Phi τ xs))
typed_by _ _ = None

abbrev pub value_by : Kind → List Value → Option Value
value_by K.Nothing [] = Some NoneV
value_by K.Same (v ∷ []) = Some v
value_by K.Yes [] = Some (FlagV true)
value_by K.No [] = Some (FlagV false)
value_by (K.Detail k) vs = detail_by k vs
value_by (K.List k) vs = list_by k vs
value_by (K.Row k) vs = row_by k vs
value_by (K.Typed k) vs = typed_by k vs
value_by _ _ = None
