-- A module with its structs under other names is a module still, if names that differ differ still.
use Rattle.std.proofs.Common.{◌≡◌, ◌<◌, ℕ, Bool, if◌then◌else◌, IsTrue, List, [], Option, Some, None, nat_eq, false, length, slice_get, refl, sym, ap, ◌∙◌, subst, All, true}
use Rattle.std.proofs.Math.Path.{fun_ext}
use Rattle.std.specs.List.{find}
use Rattle.std.specs.Str.{bytes_eq}
use Rattle.std.specs.Option.{option_map, option_map_or, option_and_then}
use Rattle.std.specs.Prelude.{IfSome}
use Rattle.std.proofs.lemmas.List.{length-map}
use Rattle.std.proofs.lemmas.List.Elements.{All-map, All-weaker}
use Rattle.kinds.specs.declared.fitting.Shape.{Shape}
use Rattle.kinds.specs.declared.fitting.Laned.{Laned}
use Rattle.kinds.specs.declared.fitting.TypeView.{TypeView}
use Rattle.kinds.specs.declared.rules.Gives.{Gives}
use Rattle.kinds.specs.declared.rules.Gives.TheVariants as G
use Rattle.kinds.specs.declared.types.Lanes.{Lanes}
use Rattle.kinds.specs.declared.types.Lanes.TheVariants as B
use Rattle.kinds.specs.Fill.{is_own_fill}
use Rattle.kinds.specs.Fitting as F
use Rattle.kinds.specs.Fitting.{fits, view_laned, view_same}
use Rattle.kinds.specs.Table.{rule_of}
use Rattle.kinds.specs.declared.types.VectorTypeKind.TheVariants as N
use Rattle.llvm_core.specs.declared.numbers.LLVMType.{LLVMType}
use Rattle.llvm_core.specs.declared.numbers.LLVMConst.{LLVMConst}
use Rattle.llvm_core.specs.declared.types.LLVMTypeKind.{LLVMTypeKind}
use Rattle.llvm_core.specs.declared.types.LLVMTypeKind.TheVariants as T
use Rattle.llvm_core.specs.declared.types.ResultType.{ResultType}
use Rattle.llvm_core.specs.declared.types.ResultType.TheVariants as R
use Rattle.llvm_core.specs.declared.consts.LLVMConstKind.{LLVMConstKind}
use Rattle.llvm_core.specs.declared.consts.LLVMConstKind.TheVariants as C
use Rattle.llvm_core.specs.declared.structs.StructFields.{StructFields}
use Rattle.llvm_core.specs.declared.structs.StructData.{StructData}
use Rattle.llvm_core.specs.declared.code.LLVMValue.{LLVMValue}
use Rattle.llvm_core.specs.declared.code.LLVMValue.TheVariants as V
use Rattle.llvm_core.specs.declared.code.LLVMInst.{LLVMInst}
use Rattle.llvm_core.specs.declared.code.LLVMInst.TheVariants as I
use Rattle.llvm_core.specs.declared.code.PhiEntry.{PhiEntry}
use Rattle.llvm_core.specs.declared.code.Row.{Row}
use Rattle.llvm_core.specs.declared.code.FunctionData.{FunctionData}
use Rattle.llvm_core.specs.declared.code.InstData.{InstData}
use Rattle.llvm_core.specs.Module.{Module}
use Rattle.llvm_core.specs.Consts.{struct_named, AreElements, IsListOf, IsConstIn, is_byte_array, list_form}
use Rattle.llvm_core.specs.Parts.{type_nth, IsTypeOver, HasFitParts, IsFunctionType, is_kind, IsValue, IsEntry, HasValues, given, result_type, value_type, view}
use Rattle.llvm_core.specs.Sound.{AreFieldsIn, IsStructIn, IsFunctionIn, IsInstIn, IsOfBits, StandsFor, IsModule}
use Rattle.llvm_core.specs.Data.{AreApart}
use Rattle.llvm_core.proofs.ApartLemmas.{apart}
use Rattle.meaning.proofs.RenamedLaws.{find_map}
use Rattle.renamed_source.proofs.FittingLaws.{names_apart}
use Rattle.renamed_source.specs.Names.{renamed_kind, renamed_struct_data, renamed_store}
use Rattle.renamed_source.proofs.KindLaws.{mapped_at, mapped_from, mapped_once, renamed_shape_of, renamed_shapes, renamed_laneds, renamed_views, renamed_type_params, kind_over, kind_fits, kind_injective}

-- ---- the type of a result, by what is told of types and of values

module _ (kinds : List LLVMTypeKind) (views : LLVMType → TypeView) (types : LLVMValue → Option LLVMType) (r : Row) where
  abbrev operand_by : ℕ → Option LLVMType
  operand_by i = option_and_then types (slice_get r.operands i)

  abbrev fits_by : Bool
  fits_by =
      fits view_laned view_same (rule_of r.op) (length r.operands) (option_map views r.written) (option_map views (operand_by 0)) (option_map views (operand_by 1)) (option_map views (operand_by 2))

  abbrev row_by : Option ResultType
  row_by = if fits_by then given kinds (rule_of r.op).gives r.written (operand_by 0) (operand_by 1) else None

module _ (to : List ℕ → List ℕ) (m : Module) where
  abbrev other : Module
  other = renamed_store to m

  value_same : (v : LLVMValue) → value_type other v ≡ value_type m v
  value_same (V.Const c) = refl
  value_same (V.Param f place) =
      ap (λ (params : LLVMType → List LLVMType). slice_get (option_map_or (λ (x : FunctionData). params x.ty) (slice_get m.functions f.0) []) place) (renamed_type_params to m.types)
  value_same (V.Inst i) = refl

  pub renamed_values : value_type other ≡ value_type m
  renamed_values = fun_ext value_same

  -- a line for each word
  given_same : (g : Gives) (w a b : Option LLVMType) → given other.types g w a b ≡ given m.types g w a b
  given_same G.Nothing w a b = refl
  given_same G.First w a b = refl
  given_same G.Second w a b = refl
  given_same G.Written w a b = refl
  given_same G.Bits w None b = refl
  given_same G.Bits w (Some t) b = ap (λ (laneds : LLVMType → Laned). Some (R.Bits (laneds t).lanes)) (renamed_laneds to m.types)

  -- the type of a result stays
  pub renamed_result_type : (i : LLVMInst) → result_type other i ≡ result_type m i
  renamed_result_type (I.Phi type entries) = refl
  renamed_result_type (I.Row r) =
      ap (λ (views : LLVMType → TypeView). row_by other.types views (value_type other) r) (renamed_views to m.types)
      ∙ ap (λ (types : LLVMValue → Option LLVMType). row_by other.types (view m.types) types r) renamed_values
      ∙ ap (λ (o : Option ResultType). if fits_by m.types (view m.types) (value_type m) r then o else None) (given_same (rule_of r.op).gives r.written (type_nth m r.operands 0) (type_nth m r.operands 1))

  -- ---- what is there

  count : length other.types ≡ length m.types
  count = length-map m.types (renamed_kind to)

  same_count : (n : ℕ) → n < length m.types → n < length other.types
  same_count n lt = subst (λ (l : ℕ). n < l) (sym count) lt

  all_within : (ts : List LLVMType) → All (λ (t : LLVMType). t.0 < length m.types) ts → All (λ (t : LLVMType). t.0 < length other.types) ts
  all_within ts h = All-weaker (λ (t : LLVMType). t.0 < length m.types) (λ (t : LLVMType). t.0 < length other.types) (λ t lt. same_count t.0 lt) ts h

  -- names that differ differ still
  abbrev KeepsApart : Type 0
  KeepsApart = (a b : List ℕ) → to a ≡ to b → a ≡ b

  named_there : KeepsApart → (name : List ℕ) (x : StructData) → struct_named m.structs name ≡ Some x → struct_named other.structs (to name) ≡ Some (renamed_struct_data to x)
  named_there apart name x at =
      find_map (renamed_struct_data to) (λ (s : StructData). bytes_eq s.name (to name)) m.structs
      ∙ ap (λ (p : StructData → Bool). option_map (renamed_struct_data to) (find p m.structs)) (fun_ext (λ s. names_apart to apart s.name name (bytes_eq (to s.name) (to name)) (bytes_eq s.name name) refl refl))
      ∙ ap (option_map (renamed_struct_data to)) at

  element_there : KeepsApart → (k : LLVMTypeKind) (ts : List LLVMType) → AreElements m.structs k ts → AreElements other.structs (renamed_kind to k) ts
  element_there apart T.Void ts h = h
  element_there apart (T.Int width) ts h = h
  element_there apart (T.Ptr space) ts h = h
  element_there apart (T.Floating of) ts h = h
  element_there apart (T.Other of) ts h = h
  element_there apart (T.Array count t) ts h = h
  element_there apart (T.Vector N.Fixed count t) ts h = h
  element_there apart (T.Vector N.Scalable count t) ts h = h
  element_there apart (T.Literal fields layout) ts h = h
  element_there apart (T.Named name) ts (x, b, found, body, is) = (renamed_struct_data to x, b, named_there apart name x found, body, is)
  element_there apart (T.Function result params variadic) ts h = h

  list_there : KeepsApart → (t : LLVMType) (cs : List LLVMConst) → IsListOf m.types m.consts m.structs t cs → IsListOf other.types other.consts other.structs t cs
  list_there apart t cs h = record {
    kind = renamed_kind to h.kind;
    parts = h.parts;
    typed = mapped_at (renamed_kind to) m.types t.0 h.kind h.typed;
    fit = element_there apart h.kind h.parts h.fit;
    count = h.count;
    each = h.each;
  }

  -- whether it is an array of integers of 8 bits stays
  bytes_there : (t : LLVMType) (k : LLVMTypeKind) → slice_get m.types t.0 ≡ Some k → is_kind (is_byte_array other.types) other.types t ≡ is_kind (is_byte_array m.types) m.types t
  bytes_there t k at = ap (λ (o : Option LLVMTypeKind). option_map_or (is_byte_array other.types) o false) (mapped_at (renamed_kind to) m.types t.0 k at) ∙ by k ∙ ap (λ (o : Option LLVMTypeKind). option_map_or (is_byte_array m.types) o false) (sym at)
    where
      by : (k : LLVMTypeKind) → is_byte_array other.types (renamed_kind to k) ≡ is_byte_array m.types k
      by (T.Array count e) = ap (λ (s : LLVMType → Shape). nat_eq (F.width_of (s e)) 8) (renamed_shapes to m.types)
      by T.Void = refl
      by (T.Int width) = refl
      by (T.Ptr space) = refl
      by (T.Floating of) = refl
      by (T.Other of) = refl
      by (T.Vector kind count e) = refl
      by (T.Literal fields layout) = refl
      by (T.Named name) = refl
      by (T.Function result params variadic) = refl

  list_same : (t : LLVMType) (cs : List LLVMConst) → IsListOf m.types m.consts m.structs t cs → list_form other.types other.consts t cs ≡ list_form m.types m.consts t cs
  list_same t cs h = let same = bytes_there t h.kind h.typed in cc

  pub const_there : KeepsApart → (k : LLVMConstKind) → IsConstIn m k → IsConstIn other k
  const_there apart (C.Int t value) h = (h.0, mapped_at (renamed_kind to) m.types t.0 (T.Int h.0) h.1, h.2)
  const_there apart (C.Filled fill t) h = (same_count t.0 h.0, ap (λ (s : LLVMType → Shape). is_own_fill fill (s t)) (renamed_shapes to m.types) ∙ h.1)
  const_there apart (C.Bytes t bytes) (((e, at, byte), few), form) = (((e, mapped_at (renamed_kind to) m.types t.0 (T.Array (length bytes) e) at, mapped_at (renamed_kind to) m.types e.0 (T.Int 8) byte), few), form)
  const_there apart (C.List t elements) h = (list_there apart t elements h.0, list_same t elements h.0 ∙ h.1)
  const_there apart (C.Splat t element) ((count, e, at, is), form) = ((count, e, mapped_at (renamed_kind to) m.types t.0 (T.Vector N.Scalable count e) at, is), form)
  const_there apart (C.Placeholder number t) h = same_count t.0 h

  fields_there : (b : StructFields) → AreFieldsIn m.types b → AreFieldsIn other.types b
  fields_there b h = record {
    within = all_within b.types h.within;
    fit = subst (λ (s : LLVMType → Shape). All (λ (t : LLVMType). F.is_field (s t) ≡ true) b.types) (sym (renamed_shapes to m.types)) h.fit;
  }

  body_there : (b : Option StructFields) → IfSome b (AreFieldsIn m.types) → IfSome b (AreFieldsIn other.types)
  body_there None h = h
  body_there (Some b) h = fields_there b h

  structs_there : All (IsStructIn m.types) m.structs → All (IsStructIn other.types) other.structs
  structs_there h =
      All-map (IsStructIn other.types) (renamed_struct_data to) m.structs
      (All-weaker (IsStructIn m.types) (λ (x : StructData). IsStructIn other.types (renamed_struct_data to x)) (λ x. body_there x.body) m.structs h)

  function_typed : (t : LLVMType) → IsFunctionType m.types t → IsFunctionType other.types t
  function_typed t h = (renamed_kind to h.0, mapped_at (renamed_kind to) m.types t.0 h.0 h.1, subst (λ (s : Shape). IsTrue (F.is_function s)) (sym (renamed_shape_of to h.0)) h.2)

  function_there : (x : FunctionData) → IsFunctionIn m x → IsFunctionIn other x
  function_there x h = record {
    typed = function_typed x.ty h.typed;
    params = h.params ∙ ap (λ (params : LLVMType → List LLVMType). length (params x.ty)) (sym (renamed_type_params to m.types));
    blocks = h.blocks;
    once = h.once;
  }

  value_there : (v : LLVMValue) → IsValue m v → IsValue other v
  value_there (V.Const c) h = h
  value_there (V.Param f place) h = h
  value_there (V.Inst i) h = h

  entry_there : (e : PhiEntry) → IsEntry m e → IsEntry other e
  entry_there e h = (value_there e.value h.0, h.1)

  written_there : (o : Option LLVMType) → IfSome o (λ (t : LLVMType). t.0 < length m.types) → IfSome o (λ (t : LLVMType). t.0 < length other.types)
  written_there None h = h
  written_there (Some t) h = same_count t.0 h

  values_there : (i : LLVMInst) → HasValues m i → HasValues other i
  values_there (I.Phi type entries) h = (same_count type.0 h.0, All-weaker (IsEntry m) (IsEntry other) entry_there entries h.1)
  values_there (I.Row r) h = (All-weaker (IsValue m) (IsValue other) value_there r.operands h.0, h.1, written_there r.written h.2)

  bits_stand : (lanes : Lanes) (t : LLVMType) → IsOfBits m.types lanes t → IsOfBits other.types lanes t
  bits_stand B.One t h = mapped_at (renamed_kind to) m.types t.0 (T.Int 1) h
  bits_stand (B.Many kind n) t (bit, here, is) = (bit, mapped_at (renamed_kind to) m.types t.0 (T.Vector kind n bit) here, mapped_at (renamed_kind to) m.types bit.0 (T.Int 1) is)

  stands : (o : Option ResultType) (t : LLVMType) → StandsFor m.types o t → StandsFor other.types o t
  stands (Some (R.There u)) t h = h
  stands (Some (R.Bits lanes)) t h = bits_stand lanes t h
  stands None t h = mapped_at (renamed_kind to) m.types t.0 T.Void h

  inst_there : (x : InstData) → IsInstIn m x → IsInstIn other x
  inst_there x h = record {
    block = h.block;
    typed = same_count x.ty.0 h.typed;
    result = subst (λ (o : Option ResultType). StandsFor other.types o x.ty) (sym (renamed_result_type x.inst)) (stands (result_type m x.inst) x.ty h.result);
    values = values_there x.inst h.values;
  }

  type_over : IsModule m → (i : ℕ) (k : LLVMTypeKind) → slice_get other.types i ≡ Some k → IsTypeOver i k
  type_over s i k at = let l = mapped_from (renamed_kind to) m.types i k at in subst (IsTypeOver i) l.2 (kind_over to i l.0 (s.types i l.0 l.1))

  type_fits : IsModule m → (i : ℕ) (k : LLVMTypeKind) → slice_get other.types i ≡ Some k → HasFitParts other.types k
  type_fits s i k at = let l = mapped_from (renamed_kind to) m.types i k at in subst (HasFitParts other.types) l.2 (kind_fits to m.types l.0 (s.types_fit i l.0 l.1))

  pub renamed_sound : ((a b : List ℕ) → to a ≡ to b → a ≡ b) → IsModule m → IsModule (renamed_store to m)
  renamed_sound injective s = record {
    types = type_over s;
    types_fit = type_fits s;
    types_once = mapped_once (renamed_kind to) (kind_injective to injective) m.types s.types_once;
    consts = λ i k at. const_there injective k (s.consts i k at);
    consts_below = s.consts_below;
    consts_once = s.consts_once;
    structs = structs_there s.structs;
    functions = λ f x at. function_there x (s.functions f x at);
    blocks = λ b x at. let h = s.blocks b x at in record { function = h.function; insts = h.insts };
    insts = λ i x at. inst_there x (s.insts i x at);
    listed_blocks = s.listed_blocks;
    listed_insts = s.listed_insts;
    owned_blocks = s.owned_blocks;
    owned_insts = s.owned_insts;
  }

  -- equal trees have equal numbers in it, as in every module
  pub renamed_apart : ((a b : List ℕ) → to a ≡ to b → a ≡ b) → IsModule m → AreApart m → AreApart (renamed_store to m)
  renamed_apart injective s _ = apart (renamed_store to m) (renamed_sound injective s)
