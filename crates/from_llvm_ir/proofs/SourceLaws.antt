-- What the numbers of a source module stand for in its data.
use Rattle.std.proofs.Common.{ℕ, ◌≡◌, ◌<◌, refl, sym, ap, subst, ◌∙◌, List, [], ◌∷◌, Some, None, All, length, map, slice_get, get_or, Bool, false, if◌then◌else◌, arith}
use Rattle.std.specs.Prelude.{is_some}
use Rattle.std.specs.Option.{option_map}
use Rattle.std.proofs.lemmas.List.Elements.{All-nil, All-cons, All-head, All-tail}
use Rattle.std.proofs.lemmas.Option.{slice_get_within, same_Some, slice_get-get_or}
use Rattle.support.proofs.ListLaws.{item_there}
use Rattle.support.proofs.OptionLaws.{part_of}
use Rattle.llvm_core.specs.declared.numbers.LLVMType.{LLVMType}
use Rattle.llvm_core.specs.declared.numbers.LLVMFunction.{LLVMFunction}
use Rattle.llvm_core.specs.declared.numbers.LLVMBasicBlock.{LLVMBasicBlock}
use Rattle.llvm_core.specs.declared.numbers.LLVMInstRef.{LLVMInstRef}
use Rattle.llvm_core.specs.declared.types.LLVMTypeKind.{LLVMTypeKind}
use Rattle.llvm_core.specs.declared.types.LLVMTypeKind.TheVariants as T
use Rattle.llvm_core.specs.declared.code.FunctionData.{FunctionData}
use Rattle.llvm_core.specs.declared.code.BlockData.{BlockData}
use Rattle.llvm_core.specs.declared.code.InstData.{InstData}
use Rattle.llvm_core.specs.declared.code.LLVMInst.{LLVMInst}
use Rattle.llvm_core.specs.declared.code.LLVMInst.TheVariants as I
use Rattle.llvm_core.specs.declared.code.BlockData.{BlockData}
use Rattle.llvm_core.specs.Module.{Module}
use Rattle.llvm_core.specs.Sound.{IsModule}
use Rattle.llvm_core.specs.declared.code.LLVMValue.TheVariants as V
use Rattle.llvm_core.specs.Parts.{is_phi, value_type, shape_of}
use Rattle.llvm_core.specs.Form as LF
use Rattle.llvm_core.specs.Form.{IsFormFunction, IsHeldFunction}
use Rattle.llvm_core.specs.Data.{TypeTree, FunctionType, TypeTrees, type_at, types_at, type_tree, trees_of, Function, function_of, Block, block_of, Placed, placed_of, Instruction, instruction_of, phi_entries, Trees, data_of}
use Rattle.llvm_core.proofs.ApartLemmas.{apart}
use Rattle.llvm_core.proofs.DataLemmas.{within_at, type_tree_of, function_at, function_count, block_count_of, block_of_number, inst_count_of, inst_of_number}
use Rattle.llvm_core.proofs.RuleLaws.{shape_kept}
use Rattle.llvm_core.proofs.FormTypes.{signature_of}
use Rattle.kinds.specs.Types.{types_list, count_types, params_of}
use Rattle.kinds.specs.Held.{is_void, own_type, IsHeld, IsHeldResult}
use Rattle.kinds.specs.Fitting.{is_nothing}
use Rattle.from_llvm_ir.specs.Source.{IsSource, IsTypeOf, IsBlockOf, IsInstOf, AreBlocksOf, AreInstsOf}
use Rattle.from_llvm_ir.proofs.TypeLaws.{listed}
use Rattle.from_llvm_ir.proofs.HeldLaws.{takes_held, returns_held, result_held_at}

-- ---- functions

pub function_within : (m : Module) (f : LLVMFunction) (g : Function) → IsSource m f g → f.0 < length m.functions
function_within m f g h = omega (arith, slice_get_within (data_of m).functions f.0 g h.at, function_count m)

-- the function as it is kept
pub function_row : (m : Module) (f : LLVMFunction) (g : Function) → IsSource m f g → (x : FunctionData) × ((slice_get m.functions f.0 ≡ Some x) × (g ≡ function_of (trees_of m) m.blocks m.insts (f.0, x)))
function_row m f g h =
    let x = item_there m.functions f.0 (function_within m f g h) in
    (x.0, (x.1, same_Some g _ (sym h.at ∙ function_at m f.0 x.0 x.1)))

pub number_is : (m : Module) (f : LLVMFunction) (g : Function) → IsSource m f g → g.number ≡ f.0
number_is m f g h = ap (λ (x : Function). x.number) (function_row m f g h).1.1

-- ---- types

pub all_held : (ts : List TypeTree) (xs : List LLVMType) → All IsHeld (types_list (types_at ts xs)) → All (λ (t : LLVMType). IsHeld (type_at ts t)) xs
all_held ts [] h = All-nil _
all_held ts (x ∷ xs) h =
    let H : LLVMType → Type 0 = λ t. IsHeld (type_at ts t) in
    All-cons H x xs (All-head IsHeld (type_at ts x) (types_list (types_at ts xs)) h) (all_held ts xs (All-tail IsHeld (type_at ts x) (types_list (types_at ts xs)) h))

-- the kind of a function's type has the trees of the function's type
pub signature : (m : Module) (f : LLVMFunction) (g : Function) (h : IsSource m f g) (ty : LLVMType) (k : LLVMTypeKind) → option_map (λ (x : FunctionData). x.ty) (slice_get m.functions f.0) ≡ Some ty → slice_get m.types ty.0 ≡ Some k
    → type_tree (trees_of m).types k ≡ FunctionType h.form.result h.form.types false
signature m f g h ty k has at =
    let x = part_of (λ (y : FunctionData). y.ty) (slice_get m.functions f.0) ty has in
    let row = function_row m f g h in
    let same : x.0 ≡ row.0 = same_Some x.0 row.0 (sym x.1.0 ∙ row.1.0) in
    let type_is : type_at (trees_of m).types ty ≡ g.type = ap (type_at (trees_of m).types) (sym x.1.1 ∙ ap (λ (y : FunctionData). y.ty) same) ∙ sym (ap (λ (y : Function). y.type) row.1.1) in
    sym (type_tree_of m ty k h.sound at) ∙ type_is ∙ h.form.type

-- so it is a function type
pub function_kind : (m : Module) (f : LLVMFunction) (g : Function) (h : IsSource m f g) (ty : LLVMType) (k : LLVMTypeKind) → option_map (λ (x : FunctionData). x.ty) (slice_get m.functions f.0) ≡ Some ty → slice_get m.types ty.0 ≡ Some k
    → (r : LLVMType) × (ps : List LLVMType) × (v : _) × (k ≡ T.Function r ps v)
function_kind m f g h ty k has at =
    let x = part_of (λ (y : FunctionData). y.ty) (slice_get m.functions f.0) ty has in
    let s = signature_of m f.0 x.0 h.form.result h.form.types false h.sound x.1.0 (ap (type_at (trees_of m).types) x.1.1 ∙ type_tree_of m ty k h.sound at ∙ signature m f g h ty k has at) in
    (s.returned, s.params, s.variadic, same_Some k (T.Function s.returned s.params s.variadic) (sym at ∙ ap (λ (t : LLVMType). slice_get m.types t.0) (sym x.1.1) ∙ s.kind_is))

-- whose parameters and result are translated
pub params_held : (m : Module) (f : LLVMFunction) (g : Function) (h : IsSource m f g) (ty : LLVMType) (k : LLVMTypeKind) (r : LLVMType) (ps : List LLVMType) (v : _) → option_map (λ (x : FunctionData). x.ty) (slice_get m.functions f.0) ≡ Some ty → slice_get m.types ty.0 ≡ Some k
    → k ≡ T.Function r ps v → All (λ (t : LLVMType). IsHeld (type_at (trees_of m).types t)) ps
params_held m f g h ty k r ps v has at is =
    let e = signature m f g h ty k has at in
    let same : types_at (trees_of m).types ps ≡ h.form.types = cc (e, ap (type_tree (trees_of m).types) is) in
    all_held (trees_of m).types ps (subst (λ (ts : TypeTrees). All IsHeld (types_list ts)) (sym same) (takes_held g h.form h.held))

pub result_held : (m : Module) (f : LLVMFunction) (g : Function) (h : IsSource m f g) (ty : LLVMType) (k : LLVMTypeKind) (r : LLVMType) (ps : List LLVMType) (v : _) → option_map (λ (x : FunctionData). x.ty) (slice_get m.functions f.0) ≡ Some ty → slice_get m.types ty.0 ≡ Some k
    → k ≡ T.Function r ps v → (type_at (trees_of m).types r ≡ h.form.result) × IsHeldResult (type_at (trees_of m).types r)
result_held m f g h ty k r ps v has at is =
    let e = signature m f g h ty k has at in
    let same : type_at (trees_of m).types r ≡ h.form.result = cc (e, ap (type_tree (trees_of m).types) is) in
    (same, subst IsHeldResult (sym same) (returns_held g h.form h.held))

-- and stand before it
pub parts_within : (m : Module) (ty : LLVMType) (r : LLVMType) (ps : List LLVMType) (v : _) → IsModule m → slice_get m.types ty.0 ≡ Some (T.Function r ps v) → (r.0 < length m.types) × All (λ (t : LLVMType). t.0 < length m.types) ps
parts_within m ty r ps v sound at =
    let over = sound.types ty.0 (T.Function r ps v) at in
    let small = slice_get_within m.types ty.0 (T.Function r ps v) at in
    (omega (arith, over.0, small), λ i d lt. let below = over.1 i d lt in omega (arith, below, small))

-- the types of its parameters, as the dialect has them
pub params_listed : (m : Module) (f : LLVMFunction) (g : Function) (h : IsSource m f g) (ty : LLVMType) (k : LLVMTypeKind) (r : LLVMType) (ps : List LLVMType) (v : _) → option_map (λ (x : FunctionData). x.ty) (slice_get m.functions f.0) ≡ Some ty → slice_get m.types ty.0 ≡ Some k
    → k ≡ T.Function r ps v → map (λ (t : LLVMType). type_at (trees_of m).types t) ps ≡ params_of g.type
params_listed m f g h ty k r ps v has at is =
    let e = signature m f g h ty k has at in
    let same : types_at (trees_of m).types ps ≡ h.form.types = cc (e, ap (type_tree (trees_of m).types) is) in
    listed (trees_of m).types ps ∙ ap (λ (ts : TypeTrees). types_list ts) same ∙ sym (ap params_of h.form.type)

-- ---- blocks and instructions

-- the blocks of a function, by their numbers
pub blocks_listed : (m : Module) (f : LLVMFunction) (g : Function) (h : IsSource m f g) (ns : List LLVMBasicBlock) → option_map (λ (x : FunctionData). x.blocks) (slice_get m.functions f.0) ≡ Some ns → AreBlocksOf m g ns
blocks_listed m f g h ns has =
    let x = part_of (λ (y : FunctionData). y.blocks) (slice_get m.functions f.0) ns has in
    let row = function_row m f g h in
    let same : row.0 ≡ x.0 = same_Some row.0 x.0 (sym row.1.0 ∙ x.1.0) in
    let is : g ≡ function_of (trees_of m) m.blocks m.insts (f.0, x.0) = row.1.1 ∙ ap (λ (y : FunctionData). function_of (trees_of m) m.blocks m.insts (f.0, y)) same in
    let blocks : g.blocks ≡ (function_of (trees_of m) m.blocks m.insts (f.0, x.0)).blocks = ap (λ (y : Function). y.blocks) is in
    record {
      long = ap (λ (xs : List LLVMBasicBlock). length xs) (sym x.1.1) ∙ sym (block_count_of m f.0 x.0 h.sound x.1.0) ∙ sym (ap (λ (xs : List Block). length xs) blocks);
      each = λ place n at.
          let small = within_at x.0.blocks (λ (b : LLVMBasicBlock). b.0 < length m.blocks) (h.sound.functions f.0 x.0 x.1.0).blocks place n (ap (λ (xs : List LLVMBasicBlock). slice_get xs place) x.1.1 ∙ at) in
          let y = item_there m.blocks n.0 small in (
            block_of (trees_of m) m.insts n y.0,
            record {
              at = ap (λ (xs : List Block). slice_get xs place) blocks ∙ block_of_number m f.0 x.0 place n y.0 h.sound x.1.0 (ap (λ (xs : List LLVMBasicBlock). slice_get xs place) x.1.1 ∙ at) y.1;
              row = y.0;
              here = y.1;
              is = refl;
            },
          );
    }

-- the instructions of a block, by their numbers
pub insts_listed : (m : Module) (g : Function) (n : LLVMBasicBlock) (place : ℕ) (b : Block) (is : List LLVMInstRef) → IsModule m → IsBlockOf m g n place b → option_map (λ (x : BlockData). x.insts) (slice_get m.blocks n.0) ≡ Some is → AreInstsOf m b is
insts_listed m g n place b is sound h has =
    let x = part_of (λ (y : BlockData). y.insts) (slice_get m.blocks n.0) is has in
    let same : x.0 ≡ h.row = same_Some x.0 h.row (sym x.1.0 ∙ h.here) in
    let insts : h.row.insts ≡ is = sym (ap (λ (y : BlockData). y.insts) same) ∙ x.1.1 in
    let ps : b.instructions ≡ (block_of (trees_of m) m.insts n h.row).instructions = ap (λ (y : Block). y.instructions) h.is in
    record {
      long = sym (ap (λ (qs : List Placed). length qs) ps ∙ inst_count_of m n h.row sound h.here ∙ ap (λ (js : List LLVMInstRef). length js) insts);
      each = λ j i at.
          let here = ap (λ (js : List LLVMInstRef). slice_get js j) insts ∙ at in
          let y = item_there m.insts i.0 (within_at h.row.insts (λ (k : LLVMInstRef). k.0 < length m.insts) (sound.blocks n.0 h.row h.here).insts j i here) in (
            placed_of (trees_of m) i y.0,
            record {
              at = ap (λ (qs : List Placed). slice_get qs j) ps ∙ inst_of_number m n h.row j i y.0 sound h.here here y.1;
              row = y.0;
              here = y.1;
              is = refl;
            },
          );
    }

-- a block's number
pub block_number : (m : Module) (g : Function) (n : LLVMBasicBlock) (place : ℕ) (b : Block) → IsBlockOf m g n place b → b.number ≡ n.0
block_number m g n place b h = ap (λ (x : Block). x.number) h.is

pub inst_number : (m : Module) (b : Block) (i : LLVMInstRef) (place : ℕ) (p : Placed) → IsInstOf m b i place p → p.number ≡ i.0
inst_number m b i place p h = ap (λ (x : Placed). x.number) h.is

-- the instruction that is read is that of the data
pub instruction_is : (m : Module) (b : Block) (i : LLVMInstRef) (place : ℕ) (p : Placed) (inst : LLVMInst) → IsInstOf m b i place p → option_map (λ (x : InstData). x.inst) (slice_get m.insts i.0) ≡ Some inst → p.instruction ≡ instruction_of (trees_of m) inst
instruction_is m b i place p inst h has =
    let x = part_of (λ (y : InstData). y.inst) (slice_get m.insts i.0) inst has in
    let same : h.row ≡ x.0 = same_Some h.row x.0 (sym h.here ∙ x.1.0) in
    ap (λ (q : Placed). q.instruction) h.is ∙ ap (λ (y : InstData). instruction_of (trees_of m) y.inst) same ∙ ap (instruction_of (trees_of m)) x.1.1

pub inst_name : (m : Module) (b : Block) (i : LLVMInstRef) (place : ℕ) (p : Placed) (name : List ℕ) → IsInstOf m b i place p → option_map (λ (x : InstData). x.name) (slice_get m.insts i.0) ≡ Some name → name ≡ p.name
inst_name m b i place p name h has =
    let x = part_of (λ (y : InstData). y.name) (slice_get m.insts i.0) name has in
    let same : x.0 ≡ h.row = same_Some x.0 h.row (sym x.1.0 ∙ h.here) in
    sym x.1.1 ∙ ap (λ (y : InstData). y.name) same ∙ sym (ap (λ (q : Placed). q.name) h.is)

pub block_name : (m : Module) (g : Function) (n : LLVMBasicBlock) (place : ℕ) (b : Block) (name : List ℕ) → IsBlockOf m g n place b → option_map (λ (x : BlockData). x.name) (slice_get m.blocks n.0) ≡ Some name → name ≡ b.name
block_name m g n place b name h has =
    let x = part_of (λ (y : BlockData). y.name) (slice_get m.blocks n.0) name has in
    let same : x.0 ≡ h.row = same_Some x.0 h.row (sym x.1.0 ∙ h.here) in
    sym x.1.1 ∙ ap (λ (y : BlockData). y.name) same ∙ sym (ap (λ (q : Block). q.name) h.is)

-- whether an instruction is a phi
pub phi_same : (t : Trees) (inst : LLVMInst) → is_some (phi_entries (instruction_of t inst)) ≡ is_phi inst
phi_same t (I.Phi type es) = refl
phi_same t (I.Row r) = refl

pub phi_read : (m : Module) (b : Block) (i : LLVMInstRef) (place : ℕ) (p : Placed) (inst : LLVMInst) → IsInstOf m b i place p → option_map (λ (x : InstData). x.inst) (slice_get m.insts i.0) ≡ Some inst → LF.is_phi p ≡ is_phi inst
phi_read m b i place p inst h has = ap (λ (j : Instruction). is_some (phi_entries j)) (instruction_is m b i place p inst h has) ∙ phi_same (trees_of m) inst

pub inst_within : (m : Module) (b : Block) (i : LLVMInstRef) (place : ℕ) (p : Placed) → IsInstOf m b i place p → i.0 < length m.insts
inst_within m b i place p h = slice_get_within m.insts i.0 h.row h.here

pub block_within : (m : Module) (g : Function) (n : LLVMBasicBlock) (place : ℕ) (b : Block) → IsBlockOf m g n place b → n.0 < length m.blocks
block_within m g n place b h = slice_get_within m.blocks n.0 h.row h.here

-- the name of a function
pub name_of : (m : Module) (f : LLVMFunction) (g : Function) (h : IsSource m f g) (name : List ℕ) → option_map (λ (x : FunctionData). x.name) (slice_get m.functions f.0) ≡ Some name → name ≡ g.name
name_of m f g h name has =
    let x = part_of (λ (y : FunctionData). y.name) (slice_get m.functions f.0) name has in
    let row = function_row m f g h in
    let same : row.0 ≡ x.0 = same_Some row.0 x.0 (sym row.1.0 ∙ x.1.0) in
    sym x.1.1 ∙ sym (ap (λ (y : FunctionData). y.name) same) ∙ sym (ap (λ (y : Function). y.name) row.1.1)

-- the function of that number, by its name
pub function_named : (m : Module) (k : ℕ) (name : List ℕ) → k < length m.functions → option_map (λ (x : FunctionData). x.name) (slice_get m.functions k) ≡ Some name → (g : Function) × (slice_get (data_of m).functions k ≡ Some g) × (name ≡ g.name)
function_named m k name lt has =
    let x = part_of (λ (y : FunctionData). y.name) (slice_get m.functions k) name has in
    (function_of (trees_of m) m.blocks m.insts (k, x.0), function_at m k x.0 x.1.0, sym x.1.1)

-- each function of a module of the form is a source, where its types are held
pub source_at : (m : Module) (k : ℕ) → IsModule m → All IsFormFunction (data_of m).functions → All IsHeldFunction (data_of m).functions → k < length m.functions → (g : Function) × IsSource m (record { 0 = k }) g
source_at m k sound form held lt =
    let x = item_there m.functions k lt in
    let at = function_at m k x.0 x.1 in
    let g = function_of (trees_of m) m.blocks m.insts (k, x.0) in
    (g, record { sound = sound; apart = apart m sound; at = at; form = within_at (data_of m).functions IsFormFunction form k g at; held = within_at (data_of m).functions IsHeldFunction held k g at })

-- the instruction at an index of the list of a block
pub listed_at : (m : Module) (g : Function) (n : LLVMBasicBlock) (place : ℕ) (b : Block) (is : List LLVMInstRef) (k : ℕ) (d : LLVMInstRef) → IsModule m → IsBlockOf m g n place b → option_map (λ (x : BlockData). x.insts) (slice_get m.blocks n.0) ≡ Some is → k < length is → (p : Placed) × IsInstOf m b (get_or is k d) k p
listed_at m g n place b is k d sound h has lt = (insts_listed m g n place b is sound h has).each k (get_or is k d) (slice_get-get_or is k d lt)

-- so its number is there
pub listed_within : (m : Module) (g : Function) (n : LLVMBasicBlock) (place : ℕ) (b : Block) (is : List LLVMInstRef) (k : ℕ) (d : LLVMInstRef) → IsModule m → IsBlockOf m g n place b → option_map (λ (x : BlockData). x.insts) (slice_get m.blocks n.0) ≡ Some is → k < length is → (get_or is k d).0 < length m.insts
listed_within m g n place b is k d sound h has lt = let x = listed_at m g n place b is k d sound h has lt in inst_within m b (get_or is k d) k x.0 x.1

-- and the block at an index of the list of a function
pub block_listed_at : (m : Module) (f : LLVMFunction) (g : Function) (h : IsSource m f g) (ns : List LLVMBasicBlock) (k : ℕ) (d : LLVMBasicBlock) → option_map (λ (x : FunctionData). x.blocks) (slice_get m.functions f.0) ≡ Some ns → k < length ns → (b : Block) × IsBlockOf m g (get_or ns k d) k b
block_listed_at m f g h ns k d has lt = (blocks_listed m f g h ns has).each k (get_or ns k d) (slice_get-get_or ns k d lt)

-- a block of a function is that of its number
pub block_named : (m : Module) (f : LLVMFunction) (g : Function) (place : ℕ) (b : Block) (to : LLVMBasicBlock) → IsSource m f g → slice_get g.blocks place ≡ Some b → b.number ≡ to.0 → IsBlockOf m g to place b
block_named m f g place b to h at number =
    let row = function_row m f g h in
    let listed = blocks_listed m f g h row.0.blocks (ap (option_map (λ (x : FunctionData). x.blocks)) row.1.0) in
    let n = item_there row.0.blocks place (let l = slice_get_within g.blocks place b at in omega (arith, l, listed.long)) in
    by n.0 (listed.each place n.0 n.1)
  where
    by : (n : LLVMBasicBlock) → (x : Block) × IsBlockOf m g n place x → IsBlockOf m g to place b
    by n x =
        let same : x.0 ≡ b = same_Some x.0 b (sym x.1.at ∙ at) in
        let is : n.0 ≡ to.0 = sym (block_number m g n place x.0 x.1) ∙ ap (λ (y : Block). y.number) same ∙ number in
        subst (λ (y : ℕ). IsBlockOf m g (record { 0 = y }) place b) is (subst (IsBlockOf m g n place) same x.1)

-- the type of an instruction is translated, or void
pub type_of_inst : (m : Module) (f : LLVMFunction) (g : Function) (n : LLVMBasicBlock) (place : ℕ) (b : Block) (i : LLVMInstRef) (at : ℕ) (p : Placed) → IsSource m f g → IsBlockOf m g n place b → IsInstOf m b i at p → IsTypeOf m i p.type
type_of_inst m f g n place b i at p h of_block inst = record {
  sound = h.sound;
  row = inst.row;
  here = inst.here;
  is = ap (λ (q : Placed). q.type) inst.is;
  held = result_held_at g h.held place b at p of_block.at inst.at;
}

-- the type that is read of an instruction
pub type_read : (m : Module) (i : LLVMInstRef) (t : TypeTree) (ty : LLVMType) → IsTypeOf m i t → value_type m (V.Inst i) ≡ Some ty → type_at (trees_of m).types ty ≡ t
type_read m i t ty h has =
    let x = part_of (λ (y : InstData). y.ty) (slice_get m.insts i.0) ty has in
    let same : x.0 ≡ h.row = same_Some x.0 h.row (sym x.1.0 ∙ h.here) in
    ap (type_at (trees_of m).types) (sym x.1.1 ∙ ap (λ (y : InstData). y.ty) same) ∙ sym h.is

-- as many parameters as the function's type has
pub params_counted : (m : Module) (f : LLVMFunction) (g : Function) (h : IsSource m f g) (ty : LLVMType) (k : LLVMTypeKind) (r : LLVMType) (ps : List LLVMType) (v : _) → option_map (λ (x : FunctionData). x.ty) (slice_get m.functions f.0) ≡ Some ty → slice_get m.types ty.0 ≡ Some k → k ≡ T.Function r ps v → length ps ≡ length g.params
params_counted m f g h ty k r ps v has at is =
    let e = signature m f g h ty k has at in
    let same : types_at (trees_of m).types ps ≡ h.form.types = cc (e, ap (type_tree (trees_of m).types) is) in
    counted (trees_of m).types ps ∙ ap count_types same ∙ sym h.form.params
  where
    counted : (ts : List TypeTree) (xs : List LLVMType) → length xs ≡ count_types (types_at ts xs)
    counted ts [] = refl
    counted ts (x ∷ xs) = (let c = counted ts xs in omega (arith, c))

-- the type of a result, by the shape of its kind
pub own_read : (m : Module) (i : LLVMInstRef) (t : TypeTree) (ty : LLVMType) (k : LLVMTypeKind) (none : Bool) → IsTypeOf m i t → value_type m (V.Inst i) ≡ Some ty → slice_get m.types ty.0 ≡ Some k → none ≡ is_nothing (shape_of k) → (if none then None else Some t) ≡ own_type t
own_read m i t ty k none h has at is =
    ap (λ (v : Bool). if v then None else Some t) (is ∙ ap is_nothing (shape_kept (trees_of m).types k) ∙ ap is_void (sym (type_tree_of m ty k h.sound at) ∙ type_read m i t ty h has))
