-- Types in a module in which a function gets a body, before it is known to be a module: for those who show that a body is one.
use Rattle.std.proofs.Common.{◌≡◌, ◌<◌, ◌+◌, ℕ, zero, suc, List, [], ◌∷◌, ◌++◌, Option, None, Some, All, map, length, length-append, slice_get, sym, ap, ◌∙◌, refl, arith, subst}
use Rattle.std.specs.List.{flat_map}
use Rattle.std.specs.Option.{option_map, option_map_or}
use Rattle.std.proofs.lemmas.List.{length-map, map-append}
use Rattle.std.proofs.lemmas.List.Elements.{All-nil, All-cons, All-head, All-tail, All-weaker}
use Rattle.std.proofs.lemmas.Option.{slice_get-map}
use Rattle.support.proofs.ListLaws.{item_there, slice_get-behind}
use Rattle.kinds.specs.declared.types.Lanes.{Lanes}
use Rattle.kinds.specs.declared.types.Lanes.TheVariants as B
use Rattle.kinds.specs.declared.types.VectorTypeKind.{VectorTypeKind}
use Rattle.kinds.specs.Types.{TypeTree, VoidType, IntType, VectorType, in_lanes}
use Rattle.kinds.specs.Typing.{fits_trees, typed}
use Rattle.llvm_core.specs.declared.numbers.LLVMType.{LLVMType}
use Rattle.llvm_core.specs.declared.numbers.LLVMFunction.{LLVMFunction}
use Rattle.llvm_core.specs.declared.numbers.LLVMBasicBlock.{LLVMBasicBlock}
use Rattle.llvm_core.specs.declared.types.LLVMTypeKind.{LLVMTypeKind}
use Rattle.llvm_core.specs.declared.types.LLVMTypeKind.TheVariants as T
use Rattle.llvm_core.specs.declared.types.ResultType.{ResultType}
use Rattle.llvm_core.specs.declared.types.ResultType.TheVariants as R
use Rattle.llvm_core.specs.declared.code.LLVMValue.{LLVMValue}
use Rattle.llvm_core.specs.declared.code.LLVMValue.TheVariants as V
use Rattle.llvm_core.specs.declared.code.LLVMInst.TheVariants as I
use Rattle.llvm_core.specs.declared.code.PhiEntry.{PhiEntry}
use Rattle.llvm_core.specs.declared.code.Row.{Row}
use Rattle.llvm_core.specs.declared.code.FunctionData.{FunctionData}
use Rattle.llvm_core.specs.declared.code.InstData.{InstData}
use Rattle.llvm_core.specs.declared.bodies.BodyBlock.{BodyBlock}
use Rattle.support.specs.Changes.{with_change}
use Rattle.llvm_core.specs.Module.{Module}
use Rattle.llvm_core.specs.Code.{param_names}
use Rattle.llvm_core.specs.Parts.{IsTypeOver, IsValue, IsBlock, IsEntry, HasParts, IsResultOver, param_types, value_type, view, type_nth, view_nth, row_fits, row_result}
use Rattle.llvm_core.specs.Sound.{IsOfBits, StandsFor, IsModule}
use Rattle.llvm_core.specs.Data.{type_at, type_tree, trees_of, tree_of_result}
use Rattle.llvm_core.specs.Bodies.{IsBodyInst, added, block_numbers, body_blocks, body_insts, inst_in}
use Rattle.llvm_core.proofs.ApartLemmas.{apart, kind_apart}
use Rattle.llvm_core.proofs.DataLemmas.{type_tree_of}
use Rattle.llvm_core.proofs.WithinLemmas.{result_within}
use Rattle.llvm_core.proofs.GrowLemmas.{inst_type, value_kept, value_type_kept}
use Rattle.llvm_core.proofs.RuleLaws.{fits_by_tree, result_by_tree}
use Rattle.llvm_core.proofs.BodyFrames.{added_grows}
use Rattle.llvm_core.proofs.BodySound.{body_sound}

-- ---- values of the module and of the body

abbrev pub insts_in : BodyBlock → List InstData
insts_in b = b.insts

abbrev body_type : InstData → LLVMType
body_type x = x.ty

-- the instructions of a body, block after block
abbrev pub all_insts : List BodyBlock → List InstData
all_insts body = flat_map insts_in body

-- a value of before has the type that it had
pub old_type : (m : Module) (f : LLVMFunction) (body : List BodyBlock) (v : LLVMValue) → IsModule m → IsValue m v → value_type (added m f body) v ≡ value_type m v
old_type m f body v s h = value_type_kept m (added m f body) (added_grows m f body) s v h

types_of_row : (n : ℕ) (xs : List InstData) → map inst_type (map (inst_in n) xs) ≡ map body_type xs
types_of_row n [] = refl
types_of_row n (x ∷ xs) = ap (λ ts. x.ty ∷ ts) (types_of_row n xs)

-- the types of the new instructions are those that the body says
pub types_of_body : (n : ℕ) (body : List BodyBlock) → map inst_type (body_insts n body) ≡ map body_type (all_insts body)
types_of_body n [] = refl
types_of_body n (b ∷ bs) =
    map-append inst_type (map (inst_in n) b.insts) (body_insts (n + 1) bs)
    ∙ ap (λ ts. ts ++ map inst_type (body_insts (n + 1) bs)) (types_of_row n b.insts) ∙ ap (λ ts. map body_type b.insts ++ ts) (types_of_body (n + 1) bs)
    ∙ sym (map-append body_type b.insts (all_insts bs))

-- the k-th instruction of the body has its type
pub new_type : (m : Module) (f : LLVMFunction) (body : List BodyBlock) (k : ℕ) (x : InstData) → slice_get (all_insts body) k ≡ Some x → value_type (added m f body) (V.Inst (record { 0 = length m.insts + k })) ≡ Some x.ty
new_type m f body k x at =
    ap (option_map inst_type) (slice_get-behind m.insts (body_insts (length m.blocks) body) k)
    ∙ sym (slice_get-map inst_type (body_insts (length m.blocks) body) k) ∙ ap (λ ts. slice_get ts k) (types_of_body (length m.blocks) body)
    ∙ slice_get-map body_type (all_insts body) k ∙ ap (option_map body_type) at

pub inst_total : (n : ℕ) (body : List BodyBlock) → length (body_insts n body) ≡ length (all_insts body)
inst_total n body = sym (length-map (body_insts n body) inst_type) ∙ ap length (types_of_body n body) ∙ length-map (all_insts body) body_type

pub block_total : (f : LLVMFunction) (i : ℕ) (body : List BodyBlock) → length (body_blocks f i body) ≡ length body
block_total f i [] = refl
block_total f i (b ∷ bs) = ap suc (block_total f (i + length b.insts) bs)

-- how many instructions and blocks there are
pub insts_after : (m : Module) (f : LLVMFunction) (body : List BodyBlock) → length (added m f body).insts ≡ length m.insts + length (all_insts body)
insts_after m f body = length-append m.insts (body_insts (length m.blocks) body) ∙ ap (λ (k : ℕ). length m.insts + k) (inst_total (length m.blocks) body)

pub blocks_after : (m : Module) (f : LLVMFunction) (body : List BodyBlock) → length (added m f body).blocks ≡ length m.blocks + length body
blocks_after m f body = length-append m.blocks (body_blocks f (length m.insts) body) ∙ ap (λ (k : ℕ). length m.blocks + k) (block_total f (length m.insts) body)

-- a value of before is there, and so is what the body brings
pub old_value : (m : Module) (f : LLVMFunction) (body : List BodyBlock) (v : LLVMValue) → IsValue m v → IsValue (added m f body) v
old_value m f body v h = value_kept m (added m f body) (added_grows m f body) v h

pub new_value : (m : Module) (f : LLVMFunction) (body : List BodyBlock) (k : ℕ) → k < length (all_insts body) → IsValue (added m f body) (V.Inst (record { 0 = length m.insts + k }))
new_value m f body k lt = omega (arith, lt, insts_after m f body)

pub new_block : (m : Module) (f : LLVMFunction) (body : List BodyBlock) (k : ℕ) → k < length body → IsBlock (added m f body) (record { 0 = length m.blocks + k })
new_block m f body k lt = omega (arith, lt, blocks_after m f body)

-- ---- the same module but for what its new instructions do, which is a module as soon as their types are there

abbrev blank : InstData → InstData
blank x = record x { inst = I.Phi x.ty [] }

abbrev blank_block : BodyBlock → BodyBlock
blank_block b = record { name = b.name; insts = map blank b.insts }

-- the types that a body says are there
abbrev pub AreTypes : Module → List BodyBlock → Type 0
AreTypes m body = All (λ (b : BodyBlock). All (λ (x : InstData). x.ty.0 < length m.types) b.insts) body

blank_right : (m : Module) (xs : List InstData) → All (λ (x : InstData). x.ty.0 < length m.types) xs → All (IsBodyInst m) (map blank xs)
blank_right m [] all = All-nil (IsBodyInst m)
blank_right m (x ∷ xs) all =
    let lt = All-head (λ (x : InstData). x.ty.0 < length m.types) x xs all in
    All-cons (IsBodyInst m) (blank x) (map blank xs) (record { typed = lt; result = refl; values = (lt, All-nil (IsEntry m)); unnamed = λ e. absurd (cc) })
    (blank_right m xs (All-tail (λ (x : InstData). x.ty.0 < length m.types) x xs all))

blanks_right : (m : Module) (body : List BodyBlock) → AreTypes m body → All (λ (b : BodyBlock). All (IsBodyInst m) b.insts) (map blank_block body)
blanks_right m [] all = All-nil (λ (b : BodyBlock). All (IsBodyInst m) b.insts)
blanks_right m (b ∷ bs) all =
    All-cons (λ (b : BodyBlock). All (IsBodyInst m) b.insts) (blank_block b) (map blank_block bs)
    (blank_right m b.insts (All-head (λ (b : BodyBlock). All (λ (x : InstData). x.ty.0 < length m.types) b.insts) b bs all))
    (blanks_right m bs (All-tail (λ (b : BodyBlock). All (λ (x : InstData). x.ty.0 < length m.types) b.insts) b bs all))

blank_numbers : (n : ℕ) (body : List BodyBlock) → block_numbers n (map blank_block body) ≡ block_numbers n body
blank_numbers n [] = refl
blank_numbers n (b ∷ bs) = ap (λ (ns : List LLVMBasicBlock). record { 0 = n } ∷ ns) (blank_numbers (n + 1) bs)

blank_row_types : (xs : List InstData) → map body_type (map blank xs) ≡ map body_type xs
blank_row_types [] = refl
blank_row_types (x ∷ xs) = ap (λ ts. x.ty ∷ ts) (blank_row_types xs)

blank_types : (body : List BodyBlock) → map body_type (all_insts (map blank_block body)) ≡ map body_type (all_insts body)
blank_types [] = refl
blank_types (b ∷ bs) =
    map-append body_type (map blank b.insts) (all_insts (map blank_block bs))
    ∙ ap (λ ts. ts ++ map body_type (all_insts (map blank_block bs))) (blank_row_types b.insts) ∙ ap (λ ts. map body_type b.insts ++ ts) (blank_types bs)
    ∙ sym (map-append body_type b.insts (all_insts bs))

module _ (m : Module) (f : LLVMFunction) (body : List BodyBlock) (s : IsModule m) (there : f.0 < length m.functions) (types : AreTypes m body) where
  abbrev real : Module
  real = added m f body

  abbrev bare : Module
  bare = added m f (map blank_block body)

  bare_sound : IsModule bare
  bare_sound = body_sound m f (map blank_block body) s there (blanks_right bare body types)

  same_functions : bare.functions ≡ real.functions
  same_functions = ap (λ (ns : List LLVMBasicBlock). with_change (λ (x : FunctionData). record x { blocks = x.blocks ++ ns }) f.0 m.functions) (blank_numbers (length m.blocks) body)

  same_types : map inst_type (body_insts (length m.blocks) (map blank_block body)) ≡ map inst_type (body_insts (length m.blocks) body)
  same_types = types_of_body (length m.blocks) (map blank_block body) ∙ blank_types body ∙ sym (types_of_body (length m.blocks) body)

  same_insts : map inst_type bare.insts ≡ map inst_type real.insts
  same_insts =
      map-append inst_type m.insts (body_insts (length m.blocks) (map blank_block body)) ∙ ap (λ ts. map inst_type m.insts ++ ts) same_types
      ∙ sym (map-append inst_type m.insts (body_insts (length m.blocks) body))

  inst_count : length bare.insts ≡ length real.insts
  inst_count = sym (length-map bare.insts inst_type) ∙ ap length same_insts ∙ length-map real.insts inst_type

  block_count : length bare.blocks ≡ length real.blocks
  block_count = blocks_after m f (map blank_block body) ∙ ap (λ (k : ℕ). length m.blocks + k) (length-map body blank_block) ∙ sym (blocks_after m f body)

  same_value : (v : LLVMValue) → value_type bare v ≡ value_type real v
  same_value (V.Const c) = refl
  same_value (V.Param g place) = ap (λ (fs : List FunctionData). slice_get (option_map_or (param_types m) (slice_get fs g.0) []) place) same_functions
  same_value (V.Inst i) = sym (slice_get-map inst_type bare.insts i.0) ∙ ap (λ ts. slice_get ts i.0) same_insts ∙ slice_get-map inst_type real.insts i.0

  value_there : (v : LLVMValue) → IsValue real v → IsValue bare v
  value_there (V.Const c) h = h
  value_there (V.Param g place) h = subst (λ (fs : List FunctionData). place < length (param_names fs g)) (sym same_functions) h
  value_there (V.Inst i) h = omega (arith, h, inst_count)

  block_there : (b : LLVMBasicBlock) → IsBlock real b → IsBlock bare b
  block_there b h = omega (arith, h, block_count)

  parts_there : (r : Row) → HasParts real r → HasParts bare r
  parts_there r h = (All-weaker (IsValue real) (IsValue bare) value_there r.operands h.0, All-weaker (IsBlock real) (IsBlock bare) block_there r.targets h.1, h.2)

  same_nth : (vs : List LLVMValue) (i : ℕ) → type_nth bare vs i ≡ type_nth real vs i
  same_nth [] i = refl
  same_nth (v ∷ vs) zero = same_value v
  same_nth (v ∷ vs) (suc i) = same_nth vs i

  same_view : (vs : List LLVMValue) (i : ℕ) → view_nth bare vs i ≡ view_nth real vs i
  same_view vs i = ap (option_map (view m.types)) (same_nth vs i)

  same_fits : (r : Row) → row_fits bare r ≡ row_fits real r
  same_fits r =
      let a = same_view r.operands 0 in
      let b = same_view r.operands 1 in
      let c = same_view r.operands 2 in
      cc

  same_result : (r : Row) → row_result bare r ≡ row_result real r
  same_result r =
      let e = same_fits r in
      let a = same_nth r.operands 0 in
      let b = same_nth r.operands 1 in
      cc

  -- the tree of a type, and of the type of a value
  abbrev pub tree : LLVMType → TypeTree
  tree t = type_at (trees_of m).types t

  abbrev pub tree_of : LLVMValue → TypeTree
  tree_of v = option_map_or tree (value_type real v) VoidType

  same_trees : (vs : List LLVMValue) → map (λ (v : LLVMValue). option_map_or tree (value_type bare v) VoidType) vs ≡ map tree_of vs
  same_trees [] = refl
  same_trees (v ∷ vs) =
      let e = same_value v in
      let rest = same_trees vs in
      ap (λ (o : Option LLVMType). option_map_or tree o VoidType ∷ map (λ (v : LLVMValue). option_map_or tree (value_type bare v) VoidType) vs) e ∙ ap (λ (ts : List TypeTree). tree_of v ∷ ts) rest

  -- a row fits where the trees of what it names do
  pub body_fits : (r : Row) → HasParts real r → fits_trees r.op (option_map tree r.written) (map tree_of r.operands) ≡ row_fits real r
  body_fits r h =
      ap (fits_trees r.op (option_map tree r.written)) (sym (same_trees r.operands)) ∙ fits_by_tree bare bare_sound r (parts_there r h) ∙ same_fits r

  -- the tree of the type of a row's result is what the table says of the trees of what it names
  pub body_result : (r : Row) → HasParts real r → option_map (tree_of_result (trees_of m).types) (row_result real r) ≡ typed r.op (option_map tree r.written) (map tree_of r.operands)
  body_result r h =
      ap (option_map (tree_of_result (trees_of m).types)) (sym (same_result r)) ∙ result_by_tree bare bare_sound r (parts_there r h)
      ∙ ap (typed r.op (option_map tree r.written)) (same_trees r.operands)

  -- a type of a tree that is a vector is one, of an element of that tree
  vector_there : (ty : LLVMType) (kind : VectorTypeKind) (count : ℕ) (u : TypeTree) → ty.0 < length m.types → VectorType kind count u ≡ tree ty
      → (e : LLVMType) × (slice_get m.types ty.0 ≡ Some (T.Vector kind count e)) × (e.0 < ty.0) × (tree e ≡ u)
  vector_there ty kind count u lt h = let k = item_there m.types ty.0 lt in by k.0 k.1 (s.types ty.0 k.0 k.1) (h ∙ type_tree_of m ty k.0 s k.1)
    where
      by : (k : LLVMTypeKind) → slice_get m.types ty.0 ≡ Some k → IsTypeOver ty.0 k → VectorType kind count u ≡ type_tree (trees_of m).types k
          → (e : LLVMType) × (slice_get m.types ty.0 ≡ Some (T.Vector kind count e)) × (e.0 < ty.0) × (tree e ≡ u)
      by (T.Vector l n e) at over is =
          let a : l ≡ kind = (cc) in
          let b : n ≡ count = (cc) in
          let c : tree e ≡ u = (cc) in
          (e, at ∙ ap (λ (x : VectorTypeKind). Some (T.Vector x n e)) a ∙ ap (λ (x : ℕ). Some (T.Vector kind x e)) b, over, c)
      by k at over is = absurd (cc)

  bits_stand : (lanes : Lanes) (ty : LLVMType) → ty.0 < length m.types → in_lanes lanes (IntType 1) ≡ tree ty → IsOfBits m.types lanes ty
  bits_stand B.One ty lt e = kind_apart m ty (T.Int 1) s lt (omega arith, omega arith) (sym e)
  bits_stand (B.Many kind count) ty lt e =
      let v = vector_there ty kind count (IntType 1) lt e in
      (v.0, v.1, kind_apart m v.0 (T.Int 1) s (omega (arith, lt, v.2)) (omega arith, omega arith) v.3)

  -- a type stands for a result where its tree is that of the result
  stands : (o : Option ResultType) (ty : LLVMType) → ((r : ResultType) → o ≡ Some r → IsResultOver m.types r) → ty.0 < length m.types
      → option_map_or (tree_of_result (trees_of m).types) o VoidType ≡ tree ty → StandsFor m.types o ty
  stands None ty over lt e = kind_apart m ty T.Void s lt tt (sym e)
  stands (Some (R.There t)) ty over lt e = (apart m s).types ty t lt (over (R.There t) refl) (sym e)
  stands (Some (R.Bits lanes)) ty over lt e = bits_stand lanes ty lt e

  -- a type stands for a row's result where its tree is what the table says of the trees of what the row names, which is void where it says none
  pub body_stands : (r : Row) (ty : LLVMType) → HasParts real r → ty.0 < length m.types
      → option_map_or (λ t. t) (typed r.op (option_map tree r.written) (map tree_of r.operands)) VoidType ≡ tree ty → StandsFor m.types (row_result real r) ty
  body_stands r ty h lt e =
      stands (row_result real r) ty (λ k at. result_within bare (I.Row r) k bare_sound (parts_there r h) (same_result r ∙ at)) lt
      (or_void (row_result real r) ∙ ap (λ (o : Option TypeTree). option_map_or (λ t. t) o VoidType) (body_result r h) ∙ e)
    where
      or_void : (o : Option ResultType) → option_map_or (tree_of_result (trees_of m).types) o VoidType ≡ option_map_or (λ (t : TypeTree). t) (option_map (tree_of_result (trees_of m).types) o) VoidType
      or_void None = refl
      or_void (Some r) = refl

  -- ---- instructions that a body may have

  pub row_right : (name : List ℕ) (block : LLVMBasicBlock) (ty : LLVMType) (r : Row) → HasParts real r → ty.0 < length m.types
      → option_map_or (λ t. t) (typed r.op (option_map tree r.written) (map tree_of r.operands)) VoidType ≡ tree ty → (typed r.op (option_map tree r.written) (map tree_of r.operands) ≡ None → name ≡ [])
      → IsBodyInst real (record { name = name; block = block; ty = ty; inst = I.Row r })
  row_right name block ty r h lt e unnamed = record { typed = lt; result = body_stands r ty h lt e; values = h; unnamed = λ none. unnamed (sym (body_result r h) ∙ ap (option_map (tree_of_result (trees_of m).types)) none) }

  pub phi_right : (name : List ℕ) (block : LLVMBasicBlock) (ty : LLVMType) (entries : List PhiEntry) → ty.0 < length m.types → All (IsEntry real) entries → IsBodyInst real (record { name = name; block = block; ty = ty; inst = I.Phi ty entries })
  phi_right name block ty entries lt h = record { typed = lt; result = refl; values = (lt, h); unnamed = λ e. absurd (cc) }
