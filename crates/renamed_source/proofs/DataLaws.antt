-- The data of a module with its structs under other names are its data under these names.
use Rattle.std.proofs.Common.{◌≡◌, ℕ, List, [], ◌∷◌, ◌++◌, Option, Some, None, map, slice_get, refl, sym, ap, ◌∙◌}
use Rattle.std.specs.Option.{option_map}
use Rattle.std.specs.List.{filter_map, flat_map, cons_option, enumerate_from}
use Rattle.std.proofs.lemmas.List.{map-append}
use Rattle.std.proofs.Math.ListN.{get_or-map}
use Rattle.kinds.specs.Types.{TypeTree, VoidType, ArrayType, VectorType, StructType, TypeTrees}
use Rattle.kinds.specs.Held.{width_in}
use Rattle.kinds.specs.Structs.{StructBody, Struct, renamed, renamed_all, renamed_body, renamed_struct}
use Rattle.kinds.proofs.RenamedLaws.{renamed_width}
use Rattle.llvm_core.specs.declared.numbers.LLVMType.{LLVMType}
use Rattle.llvm_core.specs.declared.numbers.LLVMConst.{LLVMConst}
use Rattle.llvm_core.specs.declared.numbers.LLVMBasicBlock.{LLVMBasicBlock}
use Rattle.llvm_core.specs.declared.numbers.LLVMInstRef.{LLVMInstRef}
use Rattle.llvm_core.specs.declared.types.LLVMTypeKind.{LLVMTypeKind}
use Rattle.llvm_core.specs.declared.types.LLVMTypeKind.TheVariants as T
use Rattle.llvm_core.specs.declared.consts.LLVMConstKind.{LLVMConstKind}
use Rattle.llvm_core.specs.declared.consts.LLVMConstKind.TheVariants as C
use Rattle.llvm_core.specs.declared.structs.StructFields.{StructFields}
use Rattle.llvm_core.specs.declared.structs.StructData.{StructData}
use Rattle.llvm_core.specs.declared.code.LLVMValue.{LLVMValue}
use Rattle.llvm_core.specs.declared.code.LLVMValue.TheVariants as V
use Rattle.llvm_core.specs.declared.code.LLVMInst.{LLVMInst}
use Rattle.llvm_core.specs.declared.code.LLVMInst.TheVariants as I
use Rattle.llvm_core.specs.declared.code.PhiEntry.{PhiEntry}
use Rattle.llvm_core.specs.declared.code.Row.{Row}
use Rattle.llvm_core.specs.declared.code.FunctionData.{FunctionData}
use Rattle.llvm_core.specs.declared.code.BlockData.{BlockData}
use Rattle.llvm_core.specs.declared.code.InstData.{InstData}
use Rattle.llvm_core.specs.Module.{Module}
use Rattle.llvm_core.specs.Data as L
use Rattle.llvm_core.specs.Data.{ConstTree, IntConst, RowData, Instruction, Phi, Applied, Placed, ModuleData, Trees, trees_after, trees_of, type_at, types_at, type_tree, type_trees, const_at, consts_at, const_tree, const_trees, operand_of, entry_of, row_of, instruction_of, placed_of, placed_at, block_of, block_at, function_of, fields_of, struct_of, data_of}
use Rattle.meaning.specs.Renamed.{renamed_const, renamed_consts, renamed_operand, renamed_phi_entry, renamed_row, renamed_instruction, renamed_placed, renamed_block, renamed_function, renamed_module}
use Rattle.renamed_source.specs.Names.{renamed_kind, renamed_struct_data, renamed_store}

-- ---- lists and options

pub map_both : {X Y Z W : Type 0} (f : Y → Z) (g : X → Y) (h : W → Z) (k : X → W) → ((x : X) → f (g x) ≡ h (k x)) → (xs : List X) → map f (map g xs) ≡ map h (map k xs)
map_both f g h k same [] = refl
map_both f g h k same (x ∷ xs) = let a = same x in let b = map_both f g h k same xs in cc

pub joined_mapped : {X Y Z W : Type 0} (f : Y → List W) (g : X → Y) (h : Z → W) (k : X → List Z) → ((x : X) → f (g x) ≡ map h (k x)) → (xs : List X) → flat_map f (map g xs) ≡ map h (flat_map k xs)
joined_mapped f g h k same [] = refl
joined_mapped f g h k same (x ∷ xs) = rw (same x, joined_mapped f g h k same xs) (sym (map-append h (k x) (flat_map k xs)))

map_from : {X Y Z : Type 0} (f : X → Z) (h : Y → Z) (k : X → Y) → ((x : X) → f x ≡ h (k x)) → (xs : List X) → map f xs ≡ map h (map k xs)
map_from f h k same [] = refl
map_from f h k same (x ∷ xs) = let a = same x in let b = map_from f h k same xs in cc

option_both : {X Y Z : Type 0} (f : X → Z) (h : Y → Z) (k : X → Y) → ((x : X) → f x ≡ h (k x)) → (o : Option X) → option_map f o ≡ option_map h (option_map k o)
option_both f h k same None = refl
option_both f h k same (Some x) = ap Some (same x)

cons_mapped : {Y Z : Type 0} (h : Y → Z) (o : Option Y) (ys : List Y) → cons_option (option_map h o) (map h ys) ≡ map h (cons_option o ys)
cons_mapped h None ys = refl
cons_mapped h (Some y) ys = refl

gathered : {X Y Z : Type 0} (f : X → Option Z) (h : Y → Z) (k : X → Option Y) → ((x : X) → f x ≡ option_map h (k x)) → (xs : List X) → filter_map f xs ≡ map h (filter_map k xs)
gathered f h k same [] = refl
gathered f h k same (x ∷ xs) =
    ap (λ (o : Option _). cons_option o (filter_map f xs)) (same x) ∙ ap (λ (zs : List _). cons_option (option_map h (k x)) zs) (gathered f h k same xs) ∙ cons_mapped h (k x) (filter_map k xs)

-- trees that are made one after the other
after : {K M N : Type 0} (f : M → N) (change : K → K) (of : List M → K → M) (new_of : List N → K → N) → ((done : List M) (k : K) → new_of (map f done) (change k) ≡ f (of done k))
    → (done : List M) (ks : List K) → trees_after new_of (map f done) (map change ks) ≡ map f (trees_after of done ks)
after f change of new_of same done [] = refl
after f change of new_of same done (k ∷ ks) =
    ap (λ (x : _). trees_after new_of (map f done ++ x ∷ []) (map change ks)) (same done k)
    ∙ ap (λ (xs : List _). trees_after new_of xs (map change ks)) (sym (map-append f done (of done k ∷ [])))
    ∙ after f change of new_of same (done ++ of done k ∷ []) ks

module _ (to : List ℕ → List ℕ) where
  -- ---- types and constants

  same_type : (ts : List TypeTree) (t : LLVMType) → type_at (map (renamed to) ts) t ≡ renamed to (type_at ts t)
  same_type ts t = get_or-map (renamed to) ts t.0 VoidType

  same_types : (ts : List TypeTree) (xs : List LLVMType) → types_at (map (renamed to) ts) xs ≡ renamed_all to (types_at ts xs)
  same_types ts [] = refl
  same_types ts (x ∷ xs) = let a = same_type ts x in let b = same_types ts xs in cc

  kind_tree : (ts : List TypeTree) (k : LLVMTypeKind) → type_tree (map (renamed to) ts) (renamed_kind to k) ≡ renamed to (type_tree ts k)
  kind_tree ts T.Void = refl
  kind_tree ts (T.Int width) = refl
  kind_tree ts (T.Ptr space) = refl
  kind_tree ts (T.Floating of) = refl
  kind_tree ts (T.Other of) = refl
  kind_tree ts (T.Array count t) = ap (ArrayType count) (same_type ts t)
  kind_tree ts (T.Vector kind count t) = ap (VectorType kind count) (same_type ts t)
  kind_tree ts (T.Literal fields layout) = ap (StructType layout) (same_types ts fields)
  kind_tree ts (T.Named name) = refl
  kind_tree ts (T.Function result params variadic) = let a = same_type ts result in let b = same_types ts params in cc

  pub renamed_type_trees : (ks : List LLVMTypeKind) → type_trees (map (renamed_kind to) ks) ≡ map (renamed to) (type_trees ks)
  renamed_type_trees ks = after (renamed to) (renamed_kind to) type_tree type_tree kind_tree [] ks

  same_const : (cs : List ConstTree) (c : LLVMConst) → const_at (map (renamed_const to) cs) c ≡ renamed_const to (const_at cs c)
  same_const cs c = get_or-map (renamed_const to) cs c.0 (IntConst 0 0)

  same_consts : (cs : List ConstTree) (xs : List LLVMConst) → consts_at (map (renamed_const to) cs) xs ≡ renamed_consts to (consts_at cs xs)
  same_consts cs [] = refl
  same_consts cs (x ∷ xs) = let first = same_const cs x in let rest = same_consts cs xs in cc

  const_kind_tree : (ts : List TypeTree) (cs : List ConstTree) (k : LLVMConstKind) → const_tree (map (renamed to) ts) (map (renamed_const to) cs) k ≡ renamed_const to (const_tree ts cs k)
  const_kind_tree ts cs (C.Int t v) = ap (λ (w : ℕ). IntConst w v) (ap width_in (same_type ts t) ∙ renamed_width to (type_at ts t))
  const_kind_tree ts cs (C.Filled fill t) = ap (L.FilledConst fill) (same_type ts t)
  const_kind_tree ts cs (C.Bytes t bytes) = refl
  const_kind_tree ts cs (C.List t elements) = let a = same_type ts t in let b = same_consts cs elements in cc
  const_kind_tree ts cs (C.Splat t element) = let a = same_type ts t in let b = same_const cs element in cc
  const_kind_tree ts cs (C.Placeholder number t) = ap (L.PlaceholderConst number) (same_type ts t)

  consts_after : (ts : List TypeTree) (done : List ConstTree) (ks : List LLVMConstKind) → trees_after (const_tree (map (renamed to) ts)) (map (renamed_const to) done) ks ≡ map (renamed_const to) (trees_after (const_tree ts) done ks)
  consts_after ts done [] = refl
  consts_after ts done (k ∷ ks) =
      ap (λ (x : ConstTree). trees_after (const_tree (map (renamed to) ts)) (map (renamed_const to) done ++ x ∷ []) ks) (const_kind_tree ts done k)
      ∙ ap (λ (xs : List ConstTree). trees_after (const_tree (map (renamed to) ts)) xs ks) (sym (map-append (renamed_const to) done (const_tree ts done k ∷ [])))
      ∙ consts_after ts (done ++ const_tree ts done k ∷ []) ks

  abbrev pub renamed_trees : Trees → Trees
  renamed_trees t = record { types = map (renamed to) t.types; consts = map (renamed_const to) t.consts }

  pub renamed_trees_of : (m : Module) → trees_of (renamed_store to m) ≡ renamed_trees (trees_of m)
  renamed_trees_of m =
      ap (λ (ts : List TypeTree). let t : Trees = record { types = ts; consts = const_trees ts m.consts } in t) (renamed_type_trees m.types)
      ∙ ap (λ (cs : List ConstTree). let t : Trees = record { types = map (renamed to) (type_trees m.types); consts = cs } in t) (consts_after (type_trees m.types) [] m.consts)

  -- the tree of each type
  pub renamed_type_at : (m : Module) (t : LLVMType) → type_at (trees_of (renamed_store to m)).types t ≡ renamed to (type_at (trees_of m).types t)
  renamed_type_at m t = ap (λ (ts : List TypeTree). type_at ts t) (renamed_type_trees m.types) ∙ same_type (type_trees m.types) t

  -- and of each list of types
  pub renamed_types_at : (m : Module) (xs : List LLVMType) → types_at (trees_of (renamed_store to m)).types xs ≡ renamed_all to (types_at (trees_of m).types xs)
  renamed_types_at m xs = ap (λ (ts : List TypeTree). types_at ts xs) (renamed_type_trees m.types) ∙ same_types (type_trees m.types) xs

  -- ---- code

  module _ (t : Trees) where
    same_operand : (v : LLVMValue) → operand_of (renamed_trees t) v ≡ renamed_operand to (operand_of t v)
    same_operand (V.Const c) = ap L.Constant (get_or-map (renamed_const to) t.consts c.0 (IntConst 0 0))
    same_operand (V.Param f place) = refl
    same_operand (V.Inst i) = refl

    same_entry : (e : PhiEntry) → entry_of (renamed_trees t) e ≡ renamed_phi_entry to (entry_of t e)
    same_entry e = ap (λ (o : L.Operand). let x : L.Operand × ℕ = (o, e.block.0) in x) (same_operand e.value)

    abbrev with_parts : Row → Option TypeTree → List L.Operand → RowData
    with_parts r written operands = record { op = r.op; written = written; operands = operands; targets = map (λ (b : LLVMBasicBlock). b.0) r.targets }

    same_row : (r : Row) → row_of (renamed_trees t) r ≡ renamed_row to (row_of t r)
    same_row r =
        ap (λ (w : Option TypeTree). with_parts r w (map (operand_of (renamed_trees t)) r.operands)) (option_both (type_at (renamed_trees t).types) (renamed to) (type_at t.types) (same_type t.types) r.written)
        ∙ ap (with_parts r (option_map (renamed to) (option_map (type_at t.types) r.written))) (map_from (operand_of (renamed_trees t)) (renamed_operand to) (operand_of t) same_operand r.operands)

    same_instruction : (i : LLVMInst) → instruction_of (renamed_trees t) i ≡ renamed_instruction to (instruction_of t i)
    same_instruction (I.Phi type entries) = ap Phi (map_from (entry_of (renamed_trees t)) (renamed_phi_entry to) (entry_of t) same_entry entries)
    same_instruction (I.Row r) = ap Applied (same_row r)

    same_placed : (i : LLVMInstRef) (x : InstData) → placed_of (renamed_trees t) i x ≡ renamed_placed to (placed_of t i x)
    same_placed i x =
        ap (λ (u : TypeTree). let p : Placed = record { number = i.0; name = x.name; type = u; instruction = instruction_of (renamed_trees t) x.inst } in p) (same_type t.types x.ty)
        ∙ ap (λ (j : Instruction). let p : Placed = record { number = i.0; name = x.name; type = renamed to (type_at t.types x.ty); instruction = j } in p) (same_instruction x.inst)

    module _ (blocks : List BlockData) (insts : List InstData) where
      same_placed_at : (i : LLVMInstRef) → placed_at (renamed_trees t) insts i ≡ option_map (renamed_placed to) (placed_at t insts i)
      same_placed_at i = option_both (placed_of (renamed_trees t) i) (renamed_placed to) (placed_of t i) (same_placed i) (slice_get insts i.0)

      same_block : (b : LLVMBasicBlock) (x : BlockData) → block_of (renamed_trees t) insts b x ≡ renamed_block to (block_of t insts b x)
      same_block b x =
          ap (λ (ps : List Placed). let y : L.Block = record { number = b.0; name = x.name; instructions = ps } in y) (gathered (placed_at (renamed_trees t) insts) (renamed_placed to) (placed_at t insts) same_placed_at x.insts)

      same_block_at : (b : LLVMBasicBlock) → block_at (renamed_trees t) blocks insts b ≡ option_map (renamed_block to) (block_at t blocks insts b)
      same_block_at b = option_both (block_of (renamed_trees t) insts b) (renamed_block to) (block_of t insts b) (same_block b) (slice_get blocks b.0)

      abbrev with_type : ℕ × FunctionData → TypeTree → List L.Block → L.Function
      with_type p type bs = record { number = p.0; name = p.1.name; type = type; space = p.1.space; params = p.1.params; blocks = bs }

      same_function : (p : ℕ × FunctionData) → function_of (renamed_trees t) blocks insts p ≡ renamed_function to (function_of t blocks insts p)
      same_function p =
          ap (λ (u : TypeTree). with_type p u (filter_map (block_at (renamed_trees t) blocks insts) p.1.blocks)) (same_type t.types p.1.ty)
          ∙ ap (with_type p (renamed to (type_at t.types p.1.ty))) (gathered (block_at (renamed_trees t) blocks insts) (renamed_block to) (block_at t blocks insts) same_block_at p.1.blocks)

  -- ---- structs

  same_fields : (ts : List TypeTree) (b : StructFields) → fields_of (map (renamed to) ts) b ≡ renamed_body to (fields_of ts b)
  same_fields ts b = ap (λ (us : TypeTrees). let c : StructBody = record { fields = us; layout = b.layout } in c) (same_types ts b.types)

  same_struct : (ts : List TypeTree) (x : StructData) → struct_of (map (renamed to) ts) (renamed_struct_data to x) ≡ renamed_struct to (struct_of ts x)
  same_struct ts x =
      ap (λ (b : Option StructBody). let s : Struct = record { name = to x.name; body = b } in s) (option_both (fields_of (map (renamed to) ts)) (renamed_body to) (fields_of ts) (same_fields ts) x.body)

  -- ---- the module

  abbrev data_by : Module → Trees → ModuleData
  data_by m t = record {
    name = m.name;
    structs = map (struct_of t.types) (map (renamed_struct_data to) m.structs);
    functions = map (function_of t m.blocks m.insts) (enumerate_from 0 m.functions);
  }

  abbrev with_lists : Module → List Struct → List L.Function → ModuleData
  with_lists m structs functions = record { name = m.name; structs = structs; functions = functions }

  pub renamed_data : (m : Module) → data_of (renamed_store to m) ≡ renamed_module to (data_of m)
  renamed_data m =
      let t = trees_of m in
      let fs = enumerate_from 0 m.functions in
      ap (data_by m) (renamed_trees_of m)
      ∙ ap (λ (ss : List Struct). with_lists m ss (map (function_of (renamed_trees t) m.blocks m.insts) fs)) (map_both (struct_of (renamed_trees t).types) (renamed_struct_data to) (renamed_struct to) (struct_of t.types) (same_struct t.types) m.structs)
      ∙ ap (with_lists m (map (renamed_struct to) (map (struct_of t.types) m.structs))) (map_from (function_of (renamed_trees t) m.blocks m.insts) (renamed_function to) (function_of t m.blocks m.insts) (same_function t m.blocks m.insts) fs)
