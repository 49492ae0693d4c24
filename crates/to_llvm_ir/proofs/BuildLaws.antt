-- An instruction more in a module: what grows, the type of its result, and the data.
use Rattle.std.proofs.Common.{◌≡◌, ◌<◌, ◌+◌, ℕ, nat_eq, if◌then◌else◌, List, [], ◌∷◌, ◌++◌, Option, Some, All, length, map, slice_get, refl, sym, ap, subst, ◌∙◌, arith, ne_eqb}
use Rattle.std.specs.Option.{option_map, option_map_or}
use Rattle.std.proofs.lemmas.Bool.{cond-false}
use Rattle.std.proofs.lemmas.List.{map_push, length_push}
use Rattle.std.proofs.lemmas.List.Elements.{All-head, All-tail, All-weaker}
use Rattle.llvm_core.proofs.GrowLemmas.{types_more}
use Rattle.llvm_core.specs.declared.numbers.LLVMType.{LLVMType}
use Rattle.llvm_core.specs.declared.numbers.LLVMBasicBlock.{LLVMBasicBlock}
use Rattle.llvm_core.specs.declared.numbers.LLVMInstRef.{LLVMInstRef}
use Rattle.llvm_core.specs.declared.types.LLVMTypeKind.{LLVMTypeKind}
use Rattle.llvm_core.specs.declared.types.ResultType.{ResultType}
use Rattle.llvm_core.specs.declared.types.ResultType.TheVariants as R
use Rattle.llvm_core.specs.declared.code.LLVMValue.TheVariants as V
use Rattle.llvm_core.specs.declared.code.LLVMInst.{LLVMInst}
use Rattle.llvm_core.specs.declared.code.InstData.{InstData}
use Rattle.llvm_core.specs.Module.{Module}
use Rattle.llvm_core.specs.Sound.{IsModule}
use Rattle.llvm_core.specs.Code.{code_of, with_code, with_inst}
use Rattle.llvm_core.specs.Parts.{IsResultType, result_type}
use Rattle.llvm_core.specs.Data as L
use Rattle.llvm_core.specs.Data.{IntType, Operand, Placed, Block, Function, ModuleData, trees_of, type_at, instruction_of, result_tree, data_of, with_function, with_instruction, with_instruction_in, AllBlocks}
use Rattle.support.proofs.ListLaws.{length-with_change, slice_get-push}
use Rattle.llvm_core.proofs.DataLemmas.{bits_tree_of}
use Rattle.llvm_core.proofs.SoundLemmas.{result_stands}
use Rattle.to_llvm_ir.specs.Made.{function_with}
use Rattle.to_llvm_ir.specs.Growth.{Grows, HasType}
use Rattle.to_llvm_ir.specs.States.{Task, turn, filled_to, blocks_within}
use Rattle.to_llvm_ir.proofs.GrowthLaws.{grows_inst}
use Rattle.to_llvm_ir.proofs.FilledLaws.{Contents, with_more, place_more}

-- what `build` says of the module
abbrev pub IsBuilt : (old new : Module) → LLVMBasicBlock → LLVMInstRef → List ℕ → LLVMInst → Type 0
IsBuilt old new b i name inst =
    (ty : LLVMType) × IsResultType (result_type old inst) old.types new.types ty × (new ≡ with_code (record old { types = new.types }) (with_inst (code_of old) b i name ty inst))

pub grows_built : (old new : Module) (b : LLVMBasicBlock) (i : LLVMInstRef) (name : List ℕ) (inst : LLVMInst) → IsBuilt old new b i name inst → Grows old new
grows_built old new b i name inst h =
    let more = types_more (result_type old inst) old.types new.types h.0 h.1 in
    grows_inst old new more.0 (record { name = name; block = b; ty = h.0; inst = inst }) more.1 (ap (λ (x : Module). x.consts) h.2) (ap (λ (x : Module). x.functions) h.2) (ap (λ (x : Module). x.insts) h.2)

pub built_blocks : (old new : Module) (b : LLVMBasicBlock) (i : LLVMInstRef) (name : List ℕ) (inst : LLVMInst) → IsBuilt old new b i name inst → length new.blocks ≡ length old.blocks
built_blocks old new b i name inst h = ap (λ (x : Module). length x.blocks) h.2 ∙ length-with_change _ b.0 old.blocks

pub built_insts : (old new : Module) (b : LLVMBasicBlock) (i : LLVMInstRef) (name : List ℕ) (inst : LLVMInst) → IsBuilt old new b i name inst → length new.insts ≡ length old.insts + 1
built_insts old new b i name inst h = ap (λ (x : Module). length x.insts) h.2 ∙ length_push old.insts (record { name = name; block = b; ty = h.0; inst = inst })

-- the new instruction
pub built_there : (old new : Module) (b : LLVMBasicBlock) (i : LLVMInstRef) (name : List ℕ) (inst : LLVMInst) → (h : IsBuilt old new b i name inst) → i.0 ≡ length old.insts → slice_get new.insts i.0 ≡ Some (record { name = name; block = b; ty = h.0; inst = inst })
built_there old new b i name inst h last = ap (λ (x : Module). slice_get x.insts i.0) h.2 ∙ slice_get-push old.insts (record { name = name; block = b; ty = h.0; inst = inst }) i.0 last

-- ---- the type of a result

result_typed : (old new : Module) (r : ResultType) (ty : LLVMType) → IsModule new → IsResultType (Some r) old.types new.types ty → type_at (trees_of new).types ty ≡ L.tree_of_result (trees_of old).types r
result_typed old new (R.There t) ty s h = ap (λ (ks : List LLVMTypeKind). type_at (L.type_trees ks) ty) h.1 ∙ ap (type_at (trees_of old).types) h.0
result_typed old new (R.Bits lanes) ty s h = bits_tree_of new ty lanes s (result_stands (Some (R.Bits lanes)) old.types new.types ty h)

-- the new instruction has the type of its result
pub built_type : (old new : Module) (b : LLVMBasicBlock) (i : LLVMInstRef) (name : List ℕ) (inst : LLVMInst) (r : ResultType) → IsBuilt old new b i name inst → i.0 ≡ length old.insts → result_type old inst ≡ Some r → IsModule new → HasType new (V.Inst i) (result_tree old inst)
built_type old new b i name inst r h last is s =
    let typed : IsResultType (Some r) old.types new.types h.0 = subst (λ (o : Option ResultType). IsResultType o old.types new.types h.0) is h.1 in (
      h.0,
      ap (option_map (λ (y : InstData). y.ty)) (built_there old new b i name inst h last),
      result_typed old new r h.0 s typed ∙ sym (ap (λ (o : Option ResultType). option_map_or (L.tree_of_result (trees_of old).types) o L.VoidType) is),
    )

-- ---- the data

block_other : (n : ℕ) (p : Placed) (bs : List Block) → All (λ (b : Block). b.number ≡ n → ⊥) bs → map (with_instruction_in n p) bs ≡ bs
block_other n p [] h = refl
block_other n p (b ∷ bs) h =
    let ne = All-head (λ (b : Block). b.number ≡ n → ⊥) b bs h in
    let e : with_instruction_in n p b ≡ b = cond-false (nat_eq b.number n) (record b { instructions = b.instructions ++ p ∷ [] }) b (ne_eqb b.number n ne) in
    let f = block_other n p bs (All-tail (λ (b : Block). b.number ≡ n → ⊥) b bs h) in
    cc

functions_other : (n : ℕ) (p : Placed) (fs : List Function) → All (λ (f : Function). All (λ (b : Block). b.number ≡ n → ⊥) f.blocks) fs → map (λ (f : Function). record f { blocks = map (with_instruction_in n p) f.blocks }) fs ≡ fs
functions_other n p [] h = refl
functions_other n p (f ∷ fs) h =
    let e = block_other n p f.blocks (All-head (λ (f : Function). All (λ (b : Block). b.number ≡ n → ⊥) f.blocks) f fs h) in
    let g : (record f { blocks = map (with_instruction_in n p) f.blocks }) ≡ f = ap (λ (bs : List Block). record f { blocks = bs }) e in
    let r = functions_other n p fs (All-tail (λ (f : Function). All (λ (b : Block). b.number ≡ n → ⊥) f.blocks) f fs h) in
    cc

-- the block at the place has the instruction last
pub data_within : (t : Task) (j : ℕ) (ps : List Placed) (m : ℕ) (p : Placed) → AllBlocks (λ (b : Block). b.number < t.numbers.block) t.before → m ≡ t.numbers.block + j
    → with_instruction (with_function t.before (function_with t.source t.numbers (blocks_within t j ps))) m p ≡ with_function t.before (function_with t.source t.numbers (blocks_within t j (ps ++ p ∷ [])))
data_within t j ps m p before is =
    let h : Function → Function = λ f. record f { blocks = map (with_instruction_in m p) f.blocks } in
    let f : Contents = filled_to t (turn t j) in
    let others : All (λ (f : Function). All (λ (b : Block). b.number ≡ m → ⊥) f.blocks) t.before.functions =
    All-weaker (λ (f : Function). All (λ (b : Block). b.number < t.numbers.block) f.blocks) (λ (f : Function). All (λ (b : Block). b.number ≡ m → ⊥) f.blocks) (λ f all. All-weaker (λ (b : Block). b.number < t.numbers.block) (λ (b : Block). b.number ≡ m → ⊥) (λ b lt e. omega (arith, lt, e, is)) f.blocks all) t.before.functions before in
    let blocks : map (with_instruction_in m p) (blocks_within t j ps) ≡ blocks_within t j (ps ++ p ∷ []) =
    with_more t.source t.numbers (λ q c. if nat_eq q j then ps else f q c) (λ q c. if nat_eq q j then ps ++ p ∷ [] else f q c) m p 0 t.source.blocks (place_more t.source t.numbers f j m ps p is) in
    let last : h (function_with t.source t.numbers (blocks_within t j ps)) ≡ function_with t.source t.numbers (blocks_within t j (ps ++ p ∷ [])) = ap (function_with t.source t.numbers) blocks in
    let fs = map_push h t.before.functions (function_with t.source t.numbers (blocks_within t j ps)) ∙ ap (λ (xs : List Function). xs ++ h (function_with t.source t.numbers (blocks_within t j ps)) ∷ []) (functions_other m p t.before.functions others) ∙ ap (λ (x : Function). t.before.functions ++ x ∷ []) last in
    ap (λ (xs : List Function). record t.before { functions = xs }) fs
