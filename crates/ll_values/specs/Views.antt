-- What the values on a stack say, over the bytes of the text, the trees of the module and what is kept in a store.
use Rattle.std.specs.Prelude.{◌<◌, ◌≤◌, ◌≡◌, ℕ, true, List, [], ◌∷◌, map, length, slice_get, None, All, IfSome}
use Rattle.std.specs.Option.{option_map, option_map_or}
use Rattle.kinds.specs.Types.{VoidType, TypeTrees, ThenType}
use Rattle.kinds.specs.Structs.{StructBody}
use Rattle.llvm_core.specs.Module.{Module}
use Rattle.llvm_core.specs.Sound.{IsModule}
use Rattle.llvm_core.specs.Data.{Trees, trees_of, type_at, types_at}
use Rattle.llvm_core.specs.declared.numbers.LLVMType.{LLVMType}
use Rattle.ll_lines.specs.declared.lines.Param as code_param
use Rattle.ll_lines.specs.declared.lines.SaidConst as code_const
use Rattle.ll_lines.specs.Lines.{SaidConst, SaidConsts, ThenSaid, Inst, Phi, Part, Label, Does, Param, StructLine, Function}
use Rattle.ll_lines.specs.Views.{text_of, saids_of, const_view, table_view, typed_view, inst_view, param_view, IsTypeIn, IsConstIn, IsTableIn, IsSaidIn, IsTypedIn, IsInstIn}
use Rattle.ll_values.specs.declared.store.Store.{Store}
use Rattle.ll_values.specs.declared.value.Literal as code_literal
use Rattle.ll_values.specs.declared.value.Literal.TheVariants as L
use Rattle.ll_values.specs.declared.value.Entry as code_entry
use Rattle.ll_values.specs.declared.value.Piece.{Piece}
use Rattle.ll_values.specs.declared.value.Piece.TheVariants as P
use Rattle.ll_values.specs.declared.value.Head as code_head
use Rattle.ll_values.specs.declared.value.Definition.{Definition}
use Rattle.ll_values.specs.declared.value.Fields.{Fields}
use Rattle.ll_values.specs.declared.value.Structure.{Structure}
use Rattle.ll_values.specs.declared.value.Value as code_value
use Rattle.ll_values.specs.declared.value.Value.TheVariants as V
use Rattle.ll_values.specs.Lists.{list_at}
use Rattle.ll_values.specs.Values.{Literal, LocalL, ConstL, NullL, CharsL, ListedL, SplatL, Entry, Head, Value, NoneV, TextV, FlagV, WrapsV, TypeV, TypesV, LiteralV, ConstsV, BracedV, TypedV, SpaceV, AlignV, PairV, EntryV, EntriesV, InstV, PartV, BodyV, ParamV, ParamsV, HeadV, SourceV, FunctionV, FieldsV, StructV, FileV, are_fields}

-- ---- what is said

-- what the constants of the table say
abbrev pub table_of : List ℕ → Trees → Store → List SaidConst
table_of bytes t s = table_view bytes t s.table.items

abbrev pub fields_view : Trees → Store → Fields → StructBody
fields_view t s b = record { fields = types_at t.types (list_at s.types b.types); layout = b.layout }

module _ (bytes : List ℕ) (t : Trees) (s : Store) where
  abbrev pub said_const : code_const.SaidConst → SaidConst
  said_const c = const_view bytes t (table_of bytes t s) c

  abbrev pub consts_at : ℕ → SaidConsts
  consts_at n = saids_of (map said_const (list_at s.consts n))

  abbrev pub literal_view : code_literal.Literal → Literal
  literal_view (L.Local n) = LocalL (text_of bytes n)
  literal_view (L.Const n) = ConstL (text_of bytes n)
  literal_view L.Null = NullL
  literal_view (L.Chars n) = CharsL (text_of bytes n)
  literal_view (L.Listed brackets n) = ListedL brackets (consts_at n)
  literal_view (L.Splat c) = SplatL (said_const c)

  abbrev pub entry_view : code_entry.Entry → Entry
  entry_view e = record { literal = literal_view e.literal; block = text_of bytes e.block }

  abbrev pub entries_at : ℕ → List Entry
  entries_at n = map entry_view (list_at s.entries n)

  abbrev pub inst_at : ℕ → Inst
  inst_at n = option_map_or (inst_view bytes t (table_of bytes t s)) (slice_get s.insts.items n) (Phi VoidType [])

  abbrev pub part_view : Piece → Part
  part_view (P.Label n) = Label (text_of bytes n)
  part_view (P.Does name i) = Does (record { result = option_map (text_of bytes) name; inst = inst_at i })

  abbrev pub body_at : ℕ → List Part
  body_at n = map part_view (list_at s.bodies n)

  abbrev pub types_in : ℕ → TypeTrees
  types_in n = types_at t.types (list_at s.types n)

  abbrev pub params_at : ℕ → List Param
  params_at n = map (param_view bytes t) (list_at s.params n)

  abbrev pub structure_view : Structure → StructLine
  structure_view x = record { name = text_of bytes x.name; body = option_map (fields_view t s) x.body }

  abbrev pub structs_at : ℕ → List StructLine
  structs_at n = map structure_view (list_at s.structs n)

  abbrev pub head_view : code_head.Head → Head
  head_view h = record { result = type_at t.types h.result; name = text_of bytes h.name; params = params_at h.params }

  abbrev pub definition_view : Definition → Function
  definition_view d = record { result = type_at t.types d.head.result; name = text_of bytes d.head.name; params = params_at d.head.params; body = body_at d.body }

  abbrev pub functions_at : ℕ → List Function
  functions_at n = map definition_view (list_at s.functions n)

  abbrev pub value_view : code_value.Value → Value
  value_view V.Nothing = NoneV
  value_view (V.Text n) = TextV (text_of bytes n)
  value_view (V.Flag b) = FlagV b
  value_view (V.Wraps flags) = WrapsV flags
  value_view (V.Type ty) = TypeV (type_at t.types ty)
  value_view (V.Types n) = TypesV (types_in n)
  value_view (V.Literal l) = LiteralV (literal_view l)
  value_view (V.Consts n) = ConstsV (consts_at n)
  value_view (V.Braced l n) = BracedV (literal_view l) (consts_at n)
  value_view (V.Typed x) = TypedV (typed_view bytes t (table_of bytes t s) x)
  value_view (V.Space n) = SpaceV n
  value_view (V.Align align) = AlignV align
  value_view (V.Pair ty a b) = PairV (typed_view bytes t (table_of bytes t s) (record { ty = ty; said = a })) (typed_view bytes t (table_of bytes t s) (record { ty = ty; said = b }))
  value_view (V.Entry e) = EntryV (entry_view e)
  value_view (V.Entries n) = EntriesV (entries_at n)
  value_view (V.Inst n) = InstV (inst_at n)
  value_view (V.Part p) = PartV (part_view p)
  value_view (V.Body n) = BodyV (body_at n)
  value_view (V.Param p) = ParamV (param_view bytes t p)
  value_view (V.Params n) = ParamsV (params_at n)
  value_view (V.Head h) = HeadV (head_view h)
  value_view (V.Source n) = SourceV (text_of bytes n)
  value_view (V.Function d) = FunctionV (definition_view d)
  value_view (V.Fields b) = FieldsV (option_map (fields_view t s) b)
  value_view (V.Struct x) = StructV (structure_view x)
  value_view (V.File name k n) = FileV (record { source = option_map (text_of bytes) name; structs = structs_at k; functions = functions_at n })

  -- an item before a list, where they are still to be kept
  abbrev pub entries_from : code_entry.Entry → ℕ → Value
  entries_from e n = EntriesV (entry_view e ∷ entries_at n)

  abbrev pub consts_from : code_const.SaidConst → ℕ → Value
  consts_from c n = ConstsV (ThenSaid (said_const c) (consts_at n))

  abbrev pub body_from : Piece → ℕ → Value
  body_from p n = BodyV (part_view p ∷ body_at n)

  abbrev pub types_from : LLVMType → ℕ → Value
  types_from ty n = TypesV (ThenType (type_at t.types ty) (types_in n))

  abbrev pub params_from : code_param.Param → ℕ → Value
  params_from p n = ParamsV (param_view bytes t p ∷ params_at n)

  -- so a struct or a function of a file without a name
  abbrev pub struct_from : Structure → (structs functions : ℕ) → Value
  struct_from x k n = FileV (record { source = None; structs = structure_view x ∷ structs_at k; functions = functions_at n })

  abbrev pub file_from : Definition → (structs functions : ℕ) → Value
  file_from d k n = FileV (record { source = None; structs = structs_at k; functions = definition_view d ∷ functions_at n })

-- ---- what it names is there

-- the types of a list that is there, each of which may be a field
pub record AreFieldsOf (m : Module) (lists : List (List LLVMType)) (b : Fields) : Type 0 where
  pub types : b.types ≤ length lists
  pub fit : are_fields (types_at (trees_of m).types (list_at lists b.types)) ≡ true

-- so many constants the table has
abbrev pub made_in : Store → ℕ
made_in s = length s.table.items

module _ (m : Module) (s : Store) where
  abbrev pub IsLiteralIn : code_literal.Literal → Type 0
  IsLiteralIn (L.Local n) = Unit {0}
  IsLiteralIn (L.Const n) = Unit {0}
  IsLiteralIn L.Null = Unit {0}
  IsLiteralIn (L.Chars n) = Unit {0}
  IsLiteralIn (L.Listed brackets n) = n ≤ length s.consts
  IsLiteralIn (L.Splat c) = IsConstIn m (made_in s) c

  abbrev pub IsEntryIn : code_entry.Entry → Type 0
  IsEntryIn e = IsLiteralIn e.literal

  abbrev pub IsPieceIn : Piece → Type 0
  IsPieceIn (P.Label n) = Unit {0}
  IsPieceIn (P.Does name i) = i < length s.insts.items

  abbrev pub IsStructureIn : Structure → Type 0
  IsStructureIn x = IfSome x.body (AreFieldsOf m s.types)

  abbrev pub IsHeadIn : code_head.Head → Type 0
  IsHeadIn h = IsTypeIn m h.result × (h.params ≤ length s.params)

  abbrev pub IsDefinitionIn : Definition → Type 0
  IsDefinitionIn d = IsHeadIn d.head × (d.body ≤ length s.bodies)

  abbrev pub IsValueIn : code_value.Value → Type 0
  IsValueIn V.Nothing = Unit {0}
  IsValueIn (V.Text n) = Unit {0}
  IsValueIn (V.Flag b) = Unit {0}
  IsValueIn (V.Wraps flags) = Unit {0}
  IsValueIn (V.Type ty) = IsTypeIn m ty
  IsValueIn (V.Types n) = n ≤ length s.types
  IsValueIn (V.Literal l) = IsLiteralIn l
  IsValueIn (V.Consts n) = n ≤ length s.consts
  IsValueIn (V.Braced l n) = IsLiteralIn l × (n ≤ length s.consts)
  IsValueIn (V.Typed x) = IsTypedIn m (made_in s) x
  IsValueIn (V.Space n) = Unit {0}
  IsValueIn (V.Align align) = Unit {0}
  IsValueIn (V.Pair ty a b) = IsTypeIn m ty × IsSaidIn m (made_in s) a × IsSaidIn m (made_in s) b
  IsValueIn (V.Entry e) = IsEntryIn e
  IsValueIn (V.Entries n) = n ≤ length s.entries
  IsValueIn (V.Inst n) = n < length s.insts.items
  IsValueIn (V.Part p) = IsPieceIn p
  IsValueIn (V.Body n) = n ≤ length s.bodies
  IsValueIn (V.Param p) = IsTypeIn m p.ty
  IsValueIn (V.Params n) = n ≤ length s.params
  IsValueIn (V.Head h) = IsHeadIn h
  IsValueIn (V.Source n) = Unit {0}
  IsValueIn (V.Function d) = IsDefinitionIn d
  IsValueIn (V.Fields b) = IfSome b (AreFieldsOf m s.types)
  IsValueIn (V.Struct x) = IsStructureIn x
  IsValueIn (V.File name k n) = (k ≤ length s.structs) × (n ≤ length s.functions)

  -- what is kept names what is there
  pub record IsStoreIn : Type 0 where
    pub sound : IsModule m
    pub table : IsTableIn m s.table.items
    pub consts : All (All (IsConstIn m (made_in s))) s.consts
    pub insts : All (IsInstIn m (made_in s)) s.insts.items
    pub entries : All (All IsEntryIn) s.entries
    pub bodies : All (All IsPieceIn) s.bodies
    pub types : All (All (IsTypeIn m)) s.types
    pub params : All (All (λ (p : code_param.Param). IsTypeIn m p.ty)) s.params
    pub structs : All (All IsStructureIn) s.structs
    pub functions : All (All IsDefinitionIn) s.functions
