-- The pieces of a constant stand for the elements that its tree is opened into.
use Rattle.std.proofs.Common.{◌≡◌, ◌<◌, ℕ, zero, suc, Bool, true, false, List, [], ◌∷◌, Option, Some, None, length, map, slice_get, slice_set, replicate, ap, sym, ◌∙◌, refl, if◌then◌else◌}
use Rattle.std.specs.List.{find}
use Rattle.std.specs.Option.{option_map, option_and_then}
use Rattle.std.specs.Str.{bytes_eq}
use Rattle.support.proofs.ListLaws.{item_there}
use Rattle.kinds.specs.declared.fill.Fill.{Fill}
use Rattle.kinds.specs.declared.types.VectorTypeKind.TheVariants as N
use Rattle.kinds.specs.Held.{width_in}
use Rattle.llvm_core.specs.declared.numbers.LLVMType.{LLVMType}
use Rattle.llvm_core.specs.declared.numbers.LLVMConst.{LLVMConst}
use Rattle.llvm_core.specs.declared.types.LLVMTypeKind.{LLVMTypeKind}
use Rattle.llvm_core.specs.declared.types.LLVMTypeKind.TheVariants as T
use Rattle.llvm_core.specs.declared.consts.LLVMConstKind.{LLVMConstKind}
use Rattle.llvm_core.specs.declared.consts.LLVMConstKind.TheVariants as C
use Rattle.llvm_core.specs.declared.pieces.Piece.{Piece}
use Rattle.llvm_core.specs.declared.pieces.Piece.TheVariants as P
use Rattle.llvm_core.specs.declared.structs.StructFields.{StructFields}
use Rattle.llvm_core.specs.declared.structs.StructData.{StructData}
use Rattle.llvm_core.specs.Module.{Module}
use Rattle.llvm_core.specs.Consts.{IsConstIn}
use Rattle.llvm_core.specs.Sound.{IsModule}
use Rattle.llvm_core.specs.Data.{TypeTree, IntType, ConstTree, IntConst, ThenConst, Trees, StructBody, Struct, type_at, types_at, type_tree, type_trees, const_at, consts_at, const_tree, trees_of, struct_of, data_of}
use Rattle.llvm_core.specs.Inserted.{ints_of, so_many, of_each, fields_in, opened_fill, opened, count, replaced}
use Rattle.llvm_core.specs.Pieces.{piece_tree, piece_trees, named_fields, fill_pieces, byte_pieces, pieces}
use Rattle.llvm_core.proofs.DataLemmas.{type_tree_of, int_tree_of}

-- ---- lists of pieces

module _ (tr : Trees) where
  pub trees_of_these : (es : List LLVMConst) → piece_trees tr (map P.There es) ≡ consts_at tr.consts es
  trees_of_these [] = refl
  trees_of_these (e ∷ es) = ap (ThenConst (const_at tr.consts e)) (trees_of_these es)

  trees_of_many : (n : ℕ) (fill : Fill) (t : LLVMType) → piece_trees tr (replicate n (P.Filled fill t)) ≡ so_many n fill (type_at tr.types t)
  trees_of_many zero fill t = refl
  trees_of_many (suc n) fill t = ap (ThenConst (piece_tree tr (P.Filled fill t))) (trees_of_many n fill t)

  trees_of_each : (fill : Fill) (ts : List LLVMType) → piece_trees tr (map (P.Filled fill) ts) ≡ of_each fill (types_at tr.types ts)
  trees_of_each fill [] = refl
  trees_of_each fill (t ∷ ts) = ap (ThenConst (piece_tree tr (P.Filled fill t))) (trees_of_each fill ts)

  trees_of_ints : (t : LLVMType) → width_in (type_at tr.types t) ≡ 8 → (bytes : List ℕ) → piece_trees tr (map (P.Int t) bytes) ≡ ints_of bytes
  trees_of_ints t byte [] = refl
  trees_of_ints t byte (b ∷ bytes) = let e = trees_of_ints t byte bytes in ap (λ (w : ℕ). ThenConst (IntConst w b) (piece_trees tr (map (P.Int t) bytes))) byte ∙ ap (ThenConst (IntConst 8 b)) e

  -- as many as there are pieces
  pub count_of : (ps : List Piece) → count (piece_trees tr ps) ≡ length ps
  count_of [] = refl
  count_of (p ∷ ps) = ap suc (count_of ps)

  -- with another at one place
  pub trees_replaced : (ps : List Piece) (place : ℕ) (c : LLVMConst) → piece_trees tr (slice_set ps place (P.There c)) ≡ replaced (piece_trees tr ps) place (const_at tr.consts c)
  trees_replaced [] place c = refl
  trees_replaced (p ∷ ps) zero c = refl
  trees_replaced (p ∷ ps) (suc place) c = ap (ThenConst (piece_tree tr p)) (trees_replaced ps place c)

-- ---- the fields of a struct with a name

fields_named : (ts : List TypeTree) (xs : List StructData) (name : List ℕ) → fields_in (map (struct_of ts) xs) name ≡ option_map (types_at ts) (named_fields xs name)
fields_named ts [] name = refl
fields_named ts (x ∷ xs) name = by (bytes_eq x.name name) (fields_named ts xs name)
  where
    here : (o : Option StructFields) → option_map (λ (b : StructBody). b.fields) (struct_of ts (record x { body = o })).body ≡ option_map (types_at ts) (option_map (λ (b : StructFields). b.types) o)
    here None = refl
    here (Some b) = refl

    by : (b : Bool) → fields_in (map (struct_of ts) xs) name ≡ option_map (types_at ts) (named_fields xs name)
        → option_and_then (λ (s : Struct). option_map (λ (f : StructBody). f.fields) s.body) (if b then Some (struct_of ts x) else find (λ (s : Struct). bytes_eq s.name name) (map (struct_of ts) xs))
        ≡ option_map (types_at ts) (option_and_then (λ (s : StructData). option_map (λ (f : StructFields). f.types) s.body) (if b then Some x else find (λ (s : StructData). bytes_eq s.name name) xs))
    by true rest = here x.body
    by false rest = rest

-- ---- the pieces of a constant

module _ (m : Module) (s : IsModule m) where
  abbrev tr : Trees
  tr = trees_of m

  fill_by : (fill : Fill) (k : LLVMTypeKind) → option_map (piece_trees tr) (fill_pieces m.structs fill k) ≡ opened_fill (data_of m).structs fill (type_tree tr.types k)
  fill_by fill T.Void = refl
  fill_by fill (T.Int width) = refl
  fill_by fill (T.Ptr space) = refl
  fill_by fill (T.Floating of) = refl
  fill_by fill (T.Other of) = refl
  fill_by fill (T.Array n t) = ap Some (trees_of_many tr n fill t)
  fill_by fill (T.Vector N.Fixed n t) = ap Some (trees_of_many tr n fill t)
  fill_by fill (T.Vector N.Scalable n t) = refl
  fill_by fill (T.Literal fields layout) = ap Some (trees_of_each tr fill fields)
  fill_by fill (T.Named name) = by (named_fields m.structs name) ∙ ap (option_map (of_each fill)) (sym (fields_named tr.types m.structs name))
    where
      by : (o : Option (List LLVMType)) → option_map (piece_trees tr) (option_map (map (P.Filled fill)) o) ≡ option_map (of_each fill) (option_map (types_at tr.types) o)
      by None = refl
      by (Some ts) = ap Some (trees_of_each tr fill ts)
  fill_by fill (T.Function result params variadic) = refl

  pub pieces_opened : (k : LLVMConstKind) → IsConstIn m k → option_map (piece_trees tr) (pieces m k) ≡ opened (data_of m).structs (const_tree tr.types tr.consts k)
  pieces_opened (C.Int t value) h = refl
  pieces_opened (C.Filled fill t) h =
      let (k, at) = item_there m.types t.0 h.0 in
      ap (λ (o : Option LLVMTypeKind). option_map (piece_trees tr) (option_and_then (fill_pieces m.structs fill) o)) at ∙ fill_by fill k ∙ ap (opened_fill (data_of m).structs fill) (sym (type_tree_of m t k s at))
  pieces_opened (C.Bytes t bytes) h =
      let e = h.0.0.0 in
      ap (λ (o : Option LLVMTypeKind). option_map (piece_trees tr) (option_and_then (byte_pieces bytes) o)) h.0.0.1
      ∙ ap Some (trees_of_ints tr e (ap width_in (int_tree_of m e 8 s h.0.0.2)) bytes)
  pieces_opened (C.List t elements) h = ap Some (trees_of_these tr elements)
  pieces_opened (C.Splat t element) h = refl
  pieces_opened (C.Placeholder number t) h = refl
