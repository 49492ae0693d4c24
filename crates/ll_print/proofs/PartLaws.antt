-- From what readers of a module answer to its data.
use Rattle.std.proofs.Common.{◌≡◌, ℕ, zero, suc, ◌<◌, Bool, cond, codes, List, [], ◌∷◌, ◌++◌, length, drop, get_or, slice_get, Option, Some, None, All, refl, ap, sym, ◌∙◌, arith}
use Rattle.std.specs.List.{flat_map, filter_map, cons_option}
use Rattle.std.specs.Option.{option_map, option_map_or}
use Rattle.std.proofs.lemmas.Option.{slice_get-get_or, slice_get_within, same_Some}
use Rattle.std.proofs.lemmas.List.Elements.{All-head}
use Rattle.llvm_core.proofs.FormTypes.{nth_is}
use Rattle.support.proofs.ListLaws.{item_there}
use Rattle.llvm_core.specs.declared.numbers.LLVMType.{LLVMType}
use Rattle.llvm_core.specs.declared.numbers.LLVMFunction.{LLVMFunction}
use Rattle.llvm_core.specs.declared.numbers.LLVMBasicBlock.{LLVMBasicBlock}
use Rattle.llvm_core.specs.declared.numbers.LLVMInstRef.{LLVMInstRef}
use Rattle.llvm_core.specs.declared.types.LLVMTypeKind.{LLVMTypeKind}
use Rattle.llvm_core.specs.declared.types.LLVMTypeKind.TheVariants as T
use Rattle.llvm_core.specs.declared.code.FunctionData.{FunctionData}
use Rattle.llvm_core.specs.declared.code.BlockData.{BlockData}
use Rattle.llvm_core.specs.declared.code.InstData.{InstData}
use Rattle.llvm_core.specs.Module.{Module}
use Rattle.llvm_core.specs.Code.{param_names}
use Rattle.llvm_core.specs.Sound.{IsModule}
use Rattle.llvm_core.specs.Parts.{IsTypeOver, type_params, shape_of}
use Rattle.kinds.specs.Types.{shape, result_of}
use Rattle.kinds.specs.Fitting.{is_nothing}
use Rattle.kinds.specs.Held.{is_void}
use Rattle.llvm_core.specs.Data.{TypeTree, FunctionType, Placed, Block, Function, type_at, types_at, trees_of, placed_of, placed_at, block_of, block_at, data_of, structs_of, param_type}
use Rattle.llvm_core.proofs.DataLemmas.{type_tree_of, function_tree_of, function_at}
use Rattle.llvm_core.proofs.RuleLaws.{shape_kept}
use Rattle.ll_print.specs.Printing.{Unnamed, BlockOf, ResultOf, local_text, if_unnamed, unnamed_result, unnamed_block, block_ref, entry_label_text, placed_text, block_text, blocks_text, gives_text}
use Rattle.ll_print.specs.Parts.{no_function, function_in, gives_of, line_of, entry_lines, entry_lines_of, lines_of, all_lines_of, unnamed_at, unnamed_of}

-- ---- lists

-- the item that is read at a place
pub read : {X Y : Type 0} (g : X → Y) (xs : List X) (i : ℕ) (d : X) (r : Y) → option_map g (slice_get xs i) ≡ Some r → g (get_or xs i d) ≡ r
read g [] i d r h = absurd cc
read g (x ∷ xs) zero d r h = same_Some (g x) r h
read g (x ∷ xs) (suc i) d r h = read g xs i d r h

-- the item is there, and is what is read of it
pub read_item : {X Y : Type 0} (g : X → Y) (xs : List X) (i : ℕ) (r : Y) → option_map g (slice_get xs i) ≡ Some r → (x : X) × (slice_get xs i ≡ Some x) × (g x ≡ r)
read_item g [] i r h = absurd cc
read_item g (x ∷ xs) zero r h = (x, refl, same_Some (g x) r h)
read_item g (x ∷ xs) (suc i) r h = read_item g xs i r h

-- what g makes of those of a list that are there
pub flat_map-filter_map : {X Y Z : Type 0} (h : X → Option Y) (g : Y → List Z) (xs : List X) → flat_map g (filter_map h xs) ≡ flat_map (λ x. option_map_or g (h x) []) xs
flat_map-filter_map h g [] = refl
flat_map-filter_map {X} {Y} {Z} h g (x ∷ xs) = by (h x) (flat_map-filter_map h g xs)
  where
    by : (o : Option Y) → flat_map g (filter_map h xs) ≡ flat_map (λ x. option_map_or g (h x) []) xs → flat_map g (cons_option o (filter_map h xs)) ≡ option_map_or g o [] ++ flat_map (λ x. option_map_or g (h x) []) xs
    by None same = same
    by (Some y) same = ap (λ (t : List Z). g y ++ t) same

-- ---- functions

pub function_there : (m : Module) (f : LLVMFunction) → f.0 < length m.functions → slice_get (data_of m).functions f.0 ≡ Some (function_in m f)
function_there m f within = function_at m f.0 (get_or m.functions f.0 no_function) (slice_get-get_or m.functions f.0 no_function within)

-- the names of its parameters
pub params_of : (m : Module) (f : LLVMFunction) → param_names m.functions f ≡ (function_in m f).params
params_of m f = by m.functions f.0
  where
    by : (fs : List FunctionData) (i : ℕ) → option_map_or (λ (x : FunctionData). x.params) (slice_get fs i) [] ≡ (get_or fs i no_function).params
    by [] i = refl
    by (x ∷ fs) zero = refl
    by (x ∷ fs) (suc i) = by fs i

-- its type, by the kind that is kept of it
pub record HasType (m : Module) (f : LLVMFunction) (result : LLVMType) (params : List LLVMType) : Type 0 where
  pub returned : result_of (function_in m f).type ≡ type_at (trees_of m).types result
  pub typed : (i : ℕ) (t : LLVMType) → slice_get params i ≡ Some t → param_type (function_in m f).type i ≡ type_at (trees_of m).types t

pub type_of_function : (m : Module) (f : LLVMFunction) (ty returned : LLVMType) (params : List LLVMType) (variadic : Bool) → IsModule m
    → option_map (λ (x : FunctionData). x.ty) (slice_get m.functions f.0) ≡ Some ty → slice_get m.types ty.0 ≡ Some (T.Function returned params variadic) → HasType m f returned params
type_of_function m f ty returned params variadic s typed at =
    let same : (function_in m f).type ≡ FunctionType (type_at (trees_of m).types returned) (types_at (trees_of m).types params) variadic =
    ap (type_at (trees_of m).types) (read (λ (x : FunctionData). x.ty) m.functions f.0 no_function ty typed) ∙ function_tree_of m ty returned params variadic s at in
    record {
      returned = ap result_of same;
      typed = λ i t here. ap (λ (u : TypeTree). param_type u i) same ∙ nth_is (trees_of m).types params i t here;
    }

pub params_of_type : (m : Module) (ty returned : LLVMType) (params : List LLVMType) (variadic : Bool) → slice_get m.types ty.0 ≡ Some (T.Function returned params variadic) → type_params m.types ty ≡ params
params_of_type m ty returned params variadic at = rw at refl

-- ---- blocks and instructions

pub block_there : (m : Module) (b : LLVMBasicBlock) (x : BlockData) → slice_get m.blocks b.0 ≡ Some x → block_at (trees_of m) m.blocks m.insts b ≡ Some (block_of (trees_of m) m.insts b x)
block_there m b x at = ap (option_map (block_of (trees_of m) m.insts b)) at

pub inst_there : (m : Module) (i : LLVMInstRef) (x : InstData) → slice_get m.insts i.0 ≡ Some x → placed_at (trees_of m) m.insts i ≡ Some (placed_of (trees_of m) i x)
inst_there m i x at = ap (option_map (placed_of (trees_of m) i)) at

-- the lines of a block by what is read of it
pub lines_of-block : (m : Module) (f : Function) (b : LLVMBasicBlock) (name : List ℕ) (insts : List LLVMInstRef)
    → option_map (λ (x : BlockData). x.name) (slice_get m.blocks b.0) ≡ Some name → option_map (λ (x : BlockData). x.insts) (slice_get m.blocks b.0) ≡ Some insts
    → lines_of m f b ≡ codes "\n" ++ (drop 1 (block_ref f b.0) ++ codes ":\n") ++ flat_map (line_of m f) insts
lines_of-block m f b name insts named held =
    let x = read_item (λ (x : BlockData). x.name) m.blocks b.0 name named in
    let same : x.0.insts ≡ insts = same_Some x.0.insts insts (ap (option_map (λ (x : BlockData). x.insts)) (sym x.1) ∙ held) in
    ap (λ (o : Option Block). option_map_or (block_text (structs_of m) f) o []) (block_there m b x.0 x.1)
    ∙ ap (λ (t : List ℕ). codes "\n" ++ (drop 1 (block_ref f b.0) ++ codes ":\n") ++ t) (flat_map-filter_map (placed_at (trees_of m) m.insts) (placed_text (structs_of m) f) x.0.insts)
    ∙ rw same refl

-- the label line of the first block of a function, by its number and its name
abbrev pub entry_head : Function → ℕ → List ℕ → List ℕ
entry_head f n [] = []
entry_head f n (c ∷ cs) = drop 1 (block_ref f n) ++ codes ":\n"

entry_head_is : (f : Function) (b : Block) (name : List ℕ) → entry_label_text f b name ≡ entry_head f b.number name
entry_head_is f b [] = refl
entry_head_is f b (c ∷ cs) = refl

-- and those of the first block
pub entry_lines_of-block : (m : Module) (f : Function) (b : LLVMBasicBlock) (name : List ℕ) (insts : List LLVMInstRef)
    → option_map (λ (x : BlockData). x.name) (slice_get m.blocks b.0) ≡ Some name → option_map (λ (x : BlockData). x.insts) (slice_get m.blocks b.0) ≡ Some insts
    → entry_lines_of m f b ≡ entry_head f b.0 name ++ flat_map (line_of m f) insts
entry_lines_of-block m f b name insts named held =
    let x = read_item (λ (x : BlockData). x.name) m.blocks b.0 name named in
    let same : x.0.insts ≡ insts = same_Some x.0.insts insts (ap (option_map (λ (x : BlockData). x.insts)) (sym x.1) ∙ held) in
    let block = block_of (trees_of m) m.insts b x.0 in
    ap (λ (o : Option Block). option_map_or (entry_lines (structs_of m) f) o []) (block_there m b x.0 x.1)
    ∙ ap (λ (t : List ℕ). t ++ flat_map (placed_text (structs_of m) f) block.instructions) (entry_head_is f block x.0.name)
    ∙ ap (λ (t : List ℕ). entry_head f b.0 x.0.name ++ t) (flat_map-filter_map (placed_at (trees_of m) m.insts) (placed_text (structs_of m) f) x.0.insts)
    ∙ rw (x.2, same) refl

-- the lines of blocks that are there
pub all_lines : (m : Module) (f : Function) (bs : List LLVMBasicBlock) → All (λ (b : LLVMBasicBlock). b.0 < length m.blocks) bs → all_lines_of m f bs ≡ blocks_text (structs_of m) f (filter_map (block_at (trees_of m) m.blocks m.insts) bs)
all_lines m f [] within = refl
all_lines m f (b ∷ bs) within = by (slice_get m.blocks b.0) refl (item_there m.blocks b.0 (All-head (λ (b : LLVMBasicBlock). b.0 < length m.blocks) b bs within))
  where
    rest : List Block
    rest = filter_map (block_at (trees_of m) m.blocks m.insts) bs

    by : (o : Option BlockData) → slice_get m.blocks b.0 ≡ o → (x : BlockData) × (slice_get m.blocks b.0 ≡ Some x)
        → option_map_or (entry_lines (structs_of m) f) (option_map (block_of (trees_of m) m.insts b) o) [] ++ flat_map (lines_of m f) bs ≡ blocks_text (structs_of m) f (cons_option (option_map (block_of (trees_of m) m.insts b) o) rest)
    by None e x = let g : None ≡ Some x.0 = sym e ∙ x.1 in absurd cc
    by (Some x) e y =
        let block = block_of (trees_of m) m.insts b x in
        let later : flat_map (lines_of m f) bs ≡ flat_map (block_text (structs_of m) f) rest = sym (flat_map-filter_map (block_at (trees_of m) m.blocks m.insts) (block_text (structs_of m) f) bs) in
        ap (λ (t : List ℕ). entry_lines (structs_of m) f block ++ t) later

-- and its unnamed things
pub unnamed_of-block : (m : Module) (b : LLVMBasicBlock) (name : List ℕ) (insts : List LLVMInstRef)
    → option_map (λ (x : BlockData). x.name) (slice_get m.blocks b.0) ≡ Some name → option_map (λ (x : BlockData). x.insts) (slice_get m.blocks b.0) ≡ Some insts
    → unnamed_of m b ≡ if_unnamed name (BlockOf b.0) ++ flat_map (unnamed_at m) insts
unnamed_of-block m b name insts named held =
    let x = read_item (λ (x : BlockData). x.name) m.blocks b.0 name named in
    let same : x.0.insts ≡ insts = same_Some x.0.insts insts (ap (option_map (λ (x : BlockData). x.insts)) (sym x.1) ∙ held) in
    ap (λ (o : Option Block). option_map_or unnamed_block o []) (block_there m b x.0 x.1)
    ∙ ap (λ (t : List Unnamed). if_unnamed x.0.name (BlockOf b.0) ++ t) (flat_map-filter_map (placed_at (trees_of m) m.insts) (λ (p : Placed). unnamed_result p.type p) x.0.insts)
    ∙ rw (x.2, same) refl

-- whether a type is void is told by the shape of its kind
pub void_by_kind : (m : Module) (t : LLVMType) (k : LLVMTypeKind) → IsModule m → slice_get m.types t.0 ≡ Some k → is_nothing (shape_of k) ≡ is_void (type_at (trees_of m).types t)
void_by_kind m t k s at = ap is_nothing (shape_kept (trees_of m).types k ∙ ap shape (sym (type_tree_of m t k s at)))

-- what an instruction gives, by whether its type is void, and its name where it is not
pub gives_of-inst : (m : Module) (f : Function) (i : LLVMInstRef) (ty : LLVMType) (void : Bool)
    → option_map (λ (x : InstData). x.ty) (slice_get m.insts i.0) ≡ Some ty → is_void (type_at (trees_of m).types ty) ≡ void
    → (name : List ℕ) × (option_map (λ (x : InstData). x.name) (slice_get m.insts i.0) ≡ Some name) × (gives_of m f i ≡ cond void [] (local_text f name (ResultOf i.0) ++ codes " = ")) × (unnamed_at m i ≡ cond void [] (if_unnamed name (ResultOf i.0)))
gives_of-inst m f i ty void typed is =
    let x = read_item (λ (x : InstData). x.ty) m.insts i.0 ty typed in
    let name = x.0.name in
    let same : is_void (type_at (trees_of m).types x.0.ty) ≡ void = ap (λ (t : LLVMType). is_void (type_at (trees_of m).types t)) x.2 ∙ is in (
      name,
      ap (option_map (λ (x : InstData). x.name)) x.1,
      ap (λ (o : Option Placed). option_map_or (λ (p : Placed). gives_text f p.type p) o []) (inst_there m i x.0 x.1) ∙ ap (λ (b : Bool). cond b [] (local_text f name (ResultOf i.0) ++ codes " = ")) same,
      ap (λ (o : Option Placed). option_map_or (λ (p : Placed). unnamed_result p.type p) o []) (inst_there m i x.0 x.1) ∙ ap (λ (b : Bool). cond b [] (if_unnamed name (ResultOf i.0))) same,
    )

-- the parts of a type stand among the types
pub types_within : (types : List LLVMTypeKind) (ty result : LLVMType) (params : List LLVMType) (variadic : Bool) → slice_get types ty.0 ≡ Some (T.Function result params variadic) → IsTypeOver ty.0 (T.Function result params variadic)
    → (result.0 < length types) × All (λ (t : LLVMType). t.0 < length types) params
types_within types ty result params variadic at over =
    let within = slice_get_within types ty.0 (T.Function result params variadic) at in
    (omega (arith, within, over.0), λ k d l. omega (arith, within, over.1 k d l))

pub params_count : (m : Module) (f : LLVMFunction) (ty result : LLVMType) (params : List LLVMType) (variadic : Bool) → slice_get m.types ty.0 ≡ Some (T.Function result params variadic) → length (type_params m.types ty) ≡ length (param_names m.functions f)
    → length params ≡ length (function_in m f).params
params_count m f ty result params variadic at same =
    ap (λ (ts : List LLVMType). length ts) (sym (params_of_type m ty result params variadic at)) ∙ same ∙ ap (λ (ns : List (List ℕ)). length ns) (params_of m f)
