-- From what readers answer to module data.
use Rattle.std.proofs.Common.{◌≡◌, ◌<◌, ◌+◌, ℕ, zero, suc, List, [], ◌∷◌, Option, Some, length, slice_get, map, ap, ◌∙◌, refl, arith, All}
use Rattle.std.specs.List.{filter_map, cons_option, enumerate_from}
use Rattle.std.specs.Option.{option_map}
use Rattle.std.proofs.lemmas.List.{length-map}
use Rattle.std.proofs.lemmas.List.FromFn.{length-enumerate_from}
use Rattle.std.proofs.lemmas.List.Elements.{All-head, All-tail}
use Rattle.support.proofs.ListLaws.{item_there}
use Rattle.llvm_core.specs.declared.numbers.LLVMType.{LLVMType}
use Rattle.llvm_core.specs.declared.numbers.LLVMConst.{LLVMConst}
use Rattle.llvm_core.specs.declared.numbers.LLVMBasicBlock.{LLVMBasicBlock}
use Rattle.llvm_core.specs.declared.numbers.LLVMInstRef.{LLVMInstRef}
use Rattle.llvm_core.specs.declared.types.LLVMTypeKind.{LLVMTypeKind}
use Rattle.llvm_core.specs.declared.types.LLVMTypeKind.TheVariants as T
use Rattle.llvm_core.specs.declared.consts.LLVMConstKind.{LLVMConstKind}
use Rattle.kinds.specs.declared.fill.Fill.{Fill}
use Rattle.llvm_core.specs.declared.consts.LLVMConstKind.TheVariants as C
use Rattle.llvm_core.specs.declared.code.FunctionData.{FunctionData}
use Rattle.llvm_core.specs.declared.code.BlockData.{BlockData}
use Rattle.llvm_core.specs.declared.code.InstData.{InstData}
use Rattle.kinds.specs.declared.types.Lanes.{Lanes}
use Rattle.kinds.specs.declared.types.Lanes.TheVariants as B
use Rattle.kinds.specs.Types.{in_lanes}
use Rattle.kinds.specs.Held.{width_in}
use Rattle.llvm_core.specs.Module.{Module}
use Rattle.llvm_core.specs.Parts as parts
use Rattle.llvm_core.specs.Consts.{IsConstIn, IsMadeBelow}
use Rattle.llvm_core.specs.Sound.{IsOfBits, IsModule}
use Rattle.llvm_core.specs.Data.{VoidType, IntType, VectorType, FunctionType, ConstTree, IntConst, FilledConst, PlaceholderConst, Placed, Block, type_at, types_at, type_tree, const_at, const_tree, const_type, trees_of, placed_of, placed_at, block_of, block_at, function_of, data_of}
use Rattle.llvm_core.proofs.TreeLemmas.{type_at-kind, const_at-kind}

-- ---- types and constants

-- the tree of a type is that of its kind
pub type_tree_of : (m : Module) (t : LLVMType) (k : LLVMTypeKind) → IsModule m → slice_get m.types t.0 ≡ Some k → type_at (trees_of m).types t ≡ type_tree (trees_of m).types k
type_tree_of m t k s at = type_at-kind m.types t k at (s.types t.0 k at)

pub void_tree_of : (m : Module) (t : LLVMType) → IsModule m → slice_get m.types t.0 ≡ Some T.Void → type_at (trees_of m).types t ≡ VoidType
void_tree_of m t s at = type_tree_of m t T.Void s at

pub int_tree_of : (m : Module) (t : LLVMType) (width : ℕ) → IsModule m → slice_get m.types t.0 ≡ Some (T.Int width) → type_at (trees_of m).types t ≡ IntType width
int_tree_of m t width s at = type_tree_of m t (T.Int width) s at

pub bits_tree_of : (m : Module) (t : LLVMType) (lanes : Lanes) → IsModule m → IsOfBits m.types lanes t → type_at (trees_of m).types t ≡ in_lanes lanes (IntType 1)
bits_tree_of m t B.One s at = int_tree_of m t 1 s at
bits_tree_of m t (B.Many kind count) s (bit, at, is) = type_tree_of m t (T.Vector kind count bit) s at ∙ ap (VectorType kind count) (int_tree_of m bit 1 s is)

pub function_tree_of : (m : Module) (t result : LLVMType) (params : List LLVMType) (variadic : _) → IsModule m → slice_get m.types t.0 ≡ Some (T.Function result params variadic)
    → type_at (trees_of m).types t ≡ FunctionType (type_at (trees_of m).types result) (types_at (trees_of m).types params) variadic
function_tree_of m t result params variadic s at = type_tree_of m t (T.Function result params variadic) s at

-- the tree of a constant is that of its kind
pub const_tree_of : (m : Module) (c : LLVMConst) (k : LLVMConstKind) → slice_get m.consts c.0 ≡ Some k → IsMadeBelow c.0 k → const_at (trees_of m).consts c ≡ const_tree (trees_of m).types (trees_of m).consts k
const_tree_of m c k at below = const_at-kind (trees_of m).types m.consts c.0 k at below

pub int_const_of : (m : Module) (c : LLVMConst) (t : LLVMType) (value : ℕ) → slice_get m.consts c.0 ≡ Some (C.Int t value) → const_at (trees_of m).consts c ≡ IntConst (width_in (type_at (trees_of m).types t)) value
int_const_of m c t value at = const_tree_of m c (C.Int t value) at tt

pub filled_const_of : (m : Module) (c : LLVMConst) (fill : Fill) (t : LLVMType) → slice_get m.consts c.0 ≡ Some (C.Filled fill t) → const_at (trees_of m).consts c ≡ FilledConst fill (type_at (trees_of m).types t)
filled_const_of m c fill t at = const_tree_of m c (C.Filled fill t) at tt

pub placeholder_const_of : (m : Module) (c : LLVMConst) (number : ℕ) (t : LLVMType) → slice_get m.consts c.0 ≡ Some (C.Placeholder number t) → const_at (trees_of m).consts c ≡ PlaceholderConst number (type_at (trees_of m).types t)
placeholder_const_of m c number t at = const_tree_of m c (C.Placeholder number t) at tt

-- the type of a constant's tree is the tree of its type
pub const_tree_typed : (m : Module) (cs : List ConstTree) (k : LLVMConstKind) → IsModule m → IsConstIn m k → const_type (const_tree (trees_of m).types cs k) ≡ type_at (trees_of m).types (parts.const_type k)
const_tree_typed m cs (C.Int t value) s h = let e = int_tree_of m t h.0 s h.1 in cc
const_tree_typed m cs (C.Filled fill t) s h = refl
const_tree_typed m cs (C.Bytes t bytes) s h =
    let element = h.0.0.0 in
    let typed = type_tree_of m t (T.Array (length bytes) element) s h.0.0.1 in
    let byte = int_tree_of m element 8 s h.0.0.2 in
    cc
const_tree_typed m cs (C.List t elements) s h = refl
const_tree_typed m cs (C.Splat t element) s h = refl
const_tree_typed m cs (C.Placeholder number t) s h = refl

pub const_type_of : (m : Module) (c : LLVMConst) (k : LLVMConstKind) → IsModule m → slice_get m.consts c.0 ≡ Some k → const_type (const_at (trees_of m).consts c) ≡ type_at (trees_of m).types (parts.const_type k)
const_type_of m c k s at = ap const_type (const_tree_of m c k at (s.consts_below c.0 k at)) ∙ const_tree_typed m (trees_of m).consts k s (s.consts c.0 k at)

-- ---- functions, blocks and instructions

slice_get-mapped : {X Y : Type 0} (f : ℕ × X → Y) (n : ℕ) (xs : List X) (i : ℕ) (x : X) → slice_get xs i ≡ Some x → slice_get (map f (enumerate_from n xs)) i ≡ Some (f (n + i, x))
slice_get-mapped f n [] i x h = cc
slice_get-mapped f n (y ∷ xs) zero x h = let e : n + 0 ≡ n = omega arith in cc
slice_get-mapped f n (y ∷ xs) (suc i) x h = slice_get-mapped f (n + 1) xs i x h ∙ ap (λ (k : ℕ). Some (f (k, x))) (let e : n + 1 + i ≡ n + suc i = omega arith in e)

-- the function at a number
pub function_at : (m : Module) (f : ℕ) (x : FunctionData) → slice_get m.functions f ≡ Some x → slice_get (data_of m).functions f ≡ Some (function_of (trees_of m) m.blocks m.insts (f, x))
function_at m f x h = slice_get-mapped (function_of (trees_of m) m.blocks m.insts) 0 m.functions f x h ∙ ap (λ (k : ℕ). Some (function_of (trees_of m) m.blocks m.insts (k, x))) (let e : 0 + f ≡ f = omega arith in e)

pub function_count : (m : Module) → length (data_of m).functions ≡ length m.functions
function_count m = length-map (enumerate_from 0 m.functions) (function_of (trees_of m) m.blocks m.insts) ∙ length-enumerate_from 0 m.functions

-- where each of a list gives an item, there are as many items, in the same order
pub length-filter_map_all : {X Y : Type 0} (h : X → Option Y) (xs : List X) → ((i : ℕ) (x : X) → slice_get xs i ≡ Some x → (y : Y) × (h x ≡ Some y)) → length (filter_map h xs) ≡ length xs
length-filter_map_all h [] all = refl
length-filter_map_all h (x ∷ xs) all =
    let here = all 0 x refl in
    ap (λ o. length (cons_option o (filter_map h xs))) here.1 ∙ ap suc (length-filter_map_all h xs (λ i y at. all (suc i) y at))

pub slice_get-filter_map_all : {X Y : Type 0} (h : X → Option Y) (xs : List X) → ((i : ℕ) (x : X) → slice_get xs i ≡ Some x → (y : Y) × (h x ≡ Some y))
    → (i : ℕ) (x : X) (y : Y) → slice_get xs i ≡ Some x → h x ≡ Some y → slice_get (filter_map h xs) i ≡ Some y
slice_get-filter_map_all h [] all i x y at is = cc
slice_get-filter_map_all h (z ∷ xs) all zero x y at is =
    let same : Some z ≡ Some x = at in
    ap (λ o. slice_get (cons_option o (filter_map h xs)) 0) (let e : h z ≡ Some y = cc in e)
slice_get-filter_map_all h (z ∷ xs) all (suc i) x y at is =
    let here = all 0 z refl in
    ap (λ o. slice_get (cons_option o (filter_map h xs)) (suc i)) here.1 ∙ slice_get-filter_map_all h xs (λ j w at. all (suc j) w at) i x y at is

pub within_at : {X : Type 0} (xs : List X) (P : X → Type 0) → All P xs → (i : ℕ) (x : X) → slice_get xs i ≡ Some x → P x
within_at [] P all i x at = cc
within_at (y ∷ xs) P all zero x at = let same : y ≡ x = (cc) in rw (← same) (All-head P y xs all)
within_at (y ∷ xs) P all (suc i) x at = within_at xs P (All-tail P y xs all) i x at

pub blocks_there : (m : Module) (bs : List LLVMBasicBlock) → All (λ (b : LLVMBasicBlock). b.0 < length m.blocks) bs → (i : ℕ) (b : LLVMBasicBlock) → slice_get bs i ≡ Some b → (y : Block) × (block_at (trees_of m) m.blocks m.insts b ≡ Some y)
blocks_there m bs all i b at = let x = item_there m.blocks b.0 (within_at bs (λ (b : LLVMBasicBlock). b.0 < length m.blocks) all i b at) in (block_of (trees_of m) m.insts b x.0, ap (option_map (block_of (trees_of m) m.insts b)) x.1)

pub insts_there : (m : Module) (is : List LLVMInstRef) → All (λ (i : LLVMInstRef). i.0 < length m.insts) is → (j : ℕ) (i : LLVMInstRef) → slice_get is j ≡ Some i → (y : Placed) × (placed_at (trees_of m) m.insts i ≡ Some y)
insts_there m is all j i at = let x = item_there m.insts i.0 (within_at is (λ (i : LLVMInstRef). i.0 < length m.insts) all j i at) in (placed_of (trees_of m) i x.0, ap (option_map (placed_of (trees_of m) i)) x.1)

-- the blocks of a function: as many as its numbers of blocks, and at each place that of its number
pub block_count_of : (m : Module) (f : ℕ) (x : FunctionData) → IsModule m → slice_get m.functions f ≡ Some x → length (function_of (trees_of m) m.blocks m.insts (f, x)).blocks ≡ length x.blocks
block_count_of m f x s at = length-filter_map_all (block_at (trees_of m) m.blocks m.insts) x.blocks (blocks_there m x.blocks (s.functions f x at).blocks)

pub block_of_number : (m : Module) (f : ℕ) (x : FunctionData) (place : ℕ) (b : LLVMBasicBlock) (y : BlockData) → IsModule m → slice_get m.functions f ≡ Some x → slice_get x.blocks place ≡ Some b → slice_get m.blocks b.0 ≡ Some y
    → slice_get (function_of (trees_of m) m.blocks m.insts (f, x)).blocks place ≡ Some (block_of (trees_of m) m.insts b y)
block_of_number m f x place b y s at here is =
    slice_get-filter_map_all (block_at (trees_of m) m.blocks m.insts) x.blocks (blocks_there m x.blocks (s.functions f x at).blocks) place b _ here (ap (option_map (block_of (trees_of m) m.insts b)) is)

-- the instructions of a block: as many as its numbers of instructions, and at each place that of its number
pub inst_count_of : (m : Module) (b : LLVMBasicBlock) (x : BlockData) → IsModule m → slice_get m.blocks b.0 ≡ Some x → length (block_of (trees_of m) m.insts b x).instructions ≡ length x.insts
inst_count_of m b x s at = length-filter_map_all (placed_at (trees_of m) m.insts) x.insts (insts_there m x.insts (s.blocks b.0 x at).insts)

pub inst_of_number : (m : Module) (b : LLVMBasicBlock) (x : BlockData) (place : ℕ) (i : LLVMInstRef) (y : InstData) → IsModule m → slice_get m.blocks b.0 ≡ Some x → slice_get x.insts place ≡ Some i → slice_get m.insts i.0 ≡ Some y
    → slice_get (block_of (trees_of m) m.insts b x).instructions place ≡ Some (placed_of (trees_of m) i y)
inst_of_number m b x place i y s at here is =
    slice_get-filter_map_all (placed_at (trees_of m) m.insts) x.insts (insts_there m x.insts (s.blocks b.0 x at).insts) place i _ here (ap (option_map (placed_of (trees_of m) i)) is)
