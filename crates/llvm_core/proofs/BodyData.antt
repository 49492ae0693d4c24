-- How a body changes module data.
use Rattle.std.proofs.Common.{◌≡◌, ◌<◌, ◌+◌, ℕ, List, [], ◌∷◌, ◌++◌, Option, Some, length, length-append, map, slice_get, sym, ap, ◌∙◌, refl, arith, All, nat_eq, if◌then◌else◌}
use Rattle.std.specs.List.{filter_map, cons_option}
use Rattle.std.specs.Option.{option_map}
use Rattle.std.proofs.lemmas.List.{append_assoc, length-map}
use Rattle.std.proofs.lemmas.List.Elements.{All-weaker, filter_map-append}
use Rattle.support.proofs.ListLaws.{slice_get-before, item_there}
use Rattle.llvm_core.specs.declared.numbers.LLVMFunction.{LLVMFunction}
use Rattle.llvm_core.specs.declared.numbers.LLVMBasicBlock.{LLVMBasicBlock}
use Rattle.llvm_core.specs.declared.numbers.LLVMInstRef.{LLVMInstRef}
use Rattle.llvm_core.specs.declared.code.InstData.{InstData}
use Rattle.llvm_core.specs.declared.bodies.BodyBlock.{BodyBlock}
use Rattle.llvm_core.specs.declared.code.FunctionData.{FunctionData}
use Rattle.llvm_core.specs.declared.code.BlockData.{BlockData}
use Rattle.llvm_core.specs.Module.{Module}
use Rattle.llvm_core.specs.Sound.{IsModule}
use Rattle.llvm_core.specs.Data as d
use Rattle.llvm_core.specs.Data.{Trees, trees_of, placed_of, placed_at, block_of, block_at, function_of, structs_of, data_of}
use Rattle.llvm_core.specs.Bodies.{added, block_numbers, inst_numbers, inst_in, body_blocks, body_insts, placed_from, blocks_from, body_data, with_blocks}
use Rattle.llvm_core.proofs.ChangeLemmas.{mapped_change, filter_map-same}
use Rattle.llvm_core.proofs.CallLemmas.{at_number, at_other}
use Rattle.llvm_core.proofs.BodyLists.{item_behind}

-- ---- what is new

-- the instructions of one block, which stand behind `pre`
insts_shown : (t : Trees) (k : ℕ) (all pre rest : List InstData) (i : ℕ) (xs : List InstData) → i ≡ length pre → all ≡ pre ++ (map (inst_in k) xs ++ rest) → filter_map (placed_at t all) (inst_numbers i xs) ≡ placed_from t i xs
insts_shown t k all pre rest i [] e is = refl
insts_shown t k all pre rest i (x ∷ xs) e is =
    let n : LLVMInstRef = record { 0 = i } in
    let there : slice_get all i ≡ Some (inst_in k x) = ap (λ ys. slice_get ys i) is ∙ item_behind pre (inst_in k x) (map (inst_in k) xs ++ rest) i e in
    let here : placed_at t all n ≡ Some (placed_of t n (inst_in k x)) = ap (option_map (placed_of t n)) there in
    let later = insts_shown t k all (pre ++ inst_in k x ∷ []) rest (i + 1) xs (omega (arith, e, length-append pre (inst_in k x ∷ []))) (is ∙ sym (append_assoc pre (inst_in k x ∷ []) (map (inst_in k) xs ++ rest))) in
    ap (λ o. cons_option o (filter_map (placed_at t all) (inst_numbers (i + 1) xs))) here ∙ ap (λ ys. placed_of t n (inst_in k x) ∷ ys) later

-- the blocks, which stand behind `pre`, and whose instructions stand behind `before`
blocks_shown : (t : Trees) (f : LLVMFunction) (blocks pre : List BlockData) (insts before : List InstData) (n i : ℕ) (body : List BodyBlock) → n ≡ length pre → i ≡ length before
    → blocks ≡ pre ++ body_blocks f i body → insts ≡ before ++ body_insts n body → filter_map (block_at t blocks insts) (block_numbers n body) ≡ blocks_from t n i body
blocks_shown t f blocks pre insts before n i [] e g bs is = refl
blocks_shown t f blocks pre insts before n i (b ∷ body) e g bs is =
    let number : LLVMBasicBlock = record { 0 = n } in
    let row : BlockData = record { name = b.name; function = f; insts = inst_numbers i b.insts } in
    let rows = map (inst_in n) b.insts in
    let there : slice_get blocks n ≡ Some row = ap (λ ys. slice_get ys n) bs ∙ item_behind pre row (body_blocks f (i + length b.insts) body) n e in
    let inside = insts_shown t n insts before (body_insts (n + 1) body) i b.insts g is in
    let shown : d.Block = record { number = n; name = b.name; instructions = placed_from t i b.insts } in
    let here : block_at t blocks insts number ≡ Some shown = ap (option_map (block_of t insts number)) there ∙ ap (λ (ps : List d.Placed). let z : d.Block = record { number = n; name = b.name; instructions = ps } in Some z) inside in
    let later = blocks_shown t f blocks (pre ++ row ∷ []) insts (before ++ rows) (n + 1) (i + length b.insts) body
    (omega (arith, e, length-append pre (row ∷ []))) (omega (arith, g, length-append before rows, length-map b.insts (inst_in n)))
    (bs ∙ sym (append_assoc pre (row ∷ []) (body_blocks f (i + length b.insts) body))) (is ∙ sym (append_assoc before rows (body_insts (n + 1) body))) in
    ap (λ o. cons_option o (filter_map (block_at t blocks insts) (block_numbers (n + 1) body))) here ∙ ap (λ ys. shown ∷ ys) later

-- ---- what was there

module _ (m : Module) (more : List BlockData) (most : List InstData) (s : IsModule m) where
  insts_kept : (is : List LLVMInstRef) → All (λ (i : LLVMInstRef). i.0 < length m.insts) is → filter_map (placed_at (trees_of m) (m.insts ++ most)) is ≡ filter_map (placed_at (trees_of m) m.insts) is
  insts_kept is within =
      let new : LLVMInstRef → Option d.Placed = placed_at (trees_of m) (m.insts ++ most) in
      let old : LLVMInstRef → Option d.Placed = placed_at (trees_of m) m.insts in
      filter_map-same new old is
      (All-weaker (λ (i : LLVMInstRef). i.0 < length m.insts) (λ i. new i ≡ old i) (λ i lt. ap (option_map (placed_of (trees_of m) i)) (slice_get-before m.insts most i.0 lt)) is within)

  block_kept : (b : LLVMBasicBlock) → b.0 < length m.blocks → block_at (trees_of m) (m.blocks ++ more) (m.insts ++ most) b ≡ block_at (trees_of m) m.blocks m.insts b
  block_kept b lt =
      let y = item_there m.blocks b.0 lt in
      ap (option_map (block_of (trees_of m) (m.insts ++ most) b)) (slice_get-before m.blocks more b.0 lt ∙ y.1)
      ∙ ap (λ (ps : List d.Placed). let z : d.Block = record { number = b.0; name = y.0.name; instructions = ps } in Some z) (insts_kept y.0.insts (s.blocks b.0 y.0 y.1).insts)
      ∙ ap (option_map (block_of (trees_of m) m.insts b)) (sym y.1)

  pub blocks_kept : (bs : List LLVMBasicBlock) → All (λ (b : LLVMBasicBlock). b.0 < length m.blocks) bs
      → filter_map (block_at (trees_of m) (m.blocks ++ more) (m.insts ++ most)) bs ≡ filter_map (block_at (trees_of m) m.blocks m.insts) bs
  blocks_kept bs within =
      let new : LLVMBasicBlock → Option d.Block = block_at (trees_of m) (m.blocks ++ more) (m.insts ++ most) in
      let old : LLVMBasicBlock → Option d.Block = block_at (trees_of m) m.blocks m.insts in
      filter_map-same new old bs (All-weaker (λ (b : LLVMBasicBlock). b.0 < length m.blocks) (λ b. new b ≡ old b) block_kept bs within)

-- ---- the module's data

pub body_shown : (m : Module) (f : LLVMFunction) (body : List BodyBlock) → IsModule m → data_of (added m f body) ≡ with_blocks (data_of m) f.0 (body_data m body)
body_shown m f body s =
    let t = trees_of m in
    let n = length m.blocks in
    let new_blocks = body_blocks f (length m.insts) body in
    let new_insts = body_insts n body in
    let blocks = m.blocks ++ new_blocks in
    let insts = m.insts ++ new_insts in
    let F : ℕ × FunctionData → d.Function = function_of t m.blocks m.insts in
    let G : ℕ × FunctionData → d.Function = function_of t blocks insts in
    let h : d.Function → d.Function = λ x. record x { blocks = x.blocks ++ body_data m body } in
    let change : FunctionData → FunctionData = λ x. record x { blocks = x.blocks ++ block_numbers n body } in
    let shown = blocks_shown t f blocks m.blocks insts m.insts n (length m.insts) body refl refl refl refl in
    let same : (k j : ℕ) (x : FunctionData) → slice_get m.functions j ≡ Some x → G (k, x) ≡ F (k, x) = λ k j x at.
    ap (λ (bs : List d.Block). record (F (k, x)) { blocks = bs }) (blocks_kept m new_blocks new_insts s x.blocks (s.functions j x at).blocks) in
    let grown : (k j : ℕ) (x : FunctionData) → slice_get m.functions j ≡ Some x → G (k, change x) ≡ h (F (k, x)) = λ k j x at.
    ap (λ (bs : List d.Block). record (F (k, x)) { blocks = bs })
    (filter_map-append (block_at t blocks insts) x.blocks (block_numbers n body)
    ∙ ap (λ (bs : List d.Block). bs ++ filter_map (block_at t blocks insts) (block_numbers n body)) (blocks_kept m new_blocks new_insts s x.blocks (s.functions j x at).blocks)
    ∙ ap (λ (bs : List d.Block). filter_map (block_at t m.blocks m.insts) x.blocks ++ bs) shown) in
    ap (λ (fs : List d.Function). let z : d.ModuleData = record { name = m.name; structs = structs_of m; functions = fs } in z)
    (mapped_change G F (λ (x : d.Function). if nat_eq x.number f.0 then h x else x) change f.0 0 m.functions
    (λ k j x at ne is. same k j x is ∙ sym (at_other h (F (k, x)) k f.0 (omega arith)))
    (λ k x at is. grown k f.0 x is ∙ sym (at_number h (F (k, x)) k f.0 (omega arith))))
