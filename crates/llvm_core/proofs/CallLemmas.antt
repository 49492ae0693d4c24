-- How building calls change module data.
use Rattle.std.proofs.Common.{◌≡◌, ◌≢◌, ◌<◌, ◌+◌, ◌⊎◌, inl, inr, ℕ, Bool, true, false, nat_eq, List, [], ◌∷◌, ◌++◌, Option, None, Some, length, slice_get, slice_set, map, ap, sym, ◌∙◌, refl, arith, All, subst, eq-eqb, if◌then◌else◌}
use Rattle.std.specs.List.{filter_map, cons_option, enumerate_from}
use Rattle.std.specs.Option.{option_map, option_map_or}
use Rattle.std.proofs.lemmas.List.{append-nil}
use Rattle.std.proofs.lemmas.List.Elements.{All-weaker, All-nil, All-cons, All-head, All-tail, filter_map-append}
use Rattle.std.proofs.lemmas.Option.{slice_get_within}
use Rattle.support.specs.Changes.{with_change}
use Rattle.llvm_core.specs.declared.numbers.LLVMType.{LLVMType}
use Rattle.llvm_core.specs.declared.numbers.LLVMConst.{LLVMConst}
use Rattle.llvm_core.specs.declared.numbers.LLVMFunction.{LLVMFunction}
use Rattle.llvm_core.specs.declared.numbers.LLVMBasicBlock.{LLVMBasicBlock}
use Rattle.llvm_core.specs.declared.numbers.LLVMInstRef.{LLVMInstRef}
use Rattle.llvm_core.specs.declared.types.LLVMTypeKind.{LLVMTypeKind}
use Rattle.llvm_core.specs.declared.types.LLVMTypeKind.TheVariants as T
use Rattle.llvm_core.specs.declared.types.ResultType.{ResultType}
use Rattle.llvm_core.specs.declared.types.ResultType.TheVariants as R
use Rattle.llvm_core.specs.declared.consts.LLVMConstKind.{LLVMConstKind}
use Rattle.llvm_core.specs.declared.code.LLVMValue.{LLVMValue}
use Rattle.llvm_core.specs.declared.code.LLVMValue.TheVariants as V
use Rattle.llvm_core.specs.declared.code.PhiEntry.{PhiEntry}
use Rattle.llvm_core.specs.declared.code.LLVMInst.{LLVMInst}
use Rattle.llvm_core.specs.declared.code.LLVMInst.TheVariants as I
use Rattle.llvm_core.specs.declared.code.FunctionData.{FunctionData}
use Rattle.llvm_core.specs.declared.code.BlockData.{BlockData}
use Rattle.llvm_core.specs.declared.code.InstData.{InstData}
use Rattle.std.specs.Prelude.{IfSome}
use Rattle.llvm_core.specs.Module.{Module}
use Rattle.llvm_core.specs.Code.{code_of, with_code, with_param_name, with_block, with_inst}
use Rattle.llvm_core.specs.Parts.{IsValue, HasValues, IsEntry, IsResultOver, IsResultType, result_type}
use Rattle.llvm_core.specs.Sound.{IsModule, IsInstIn}
use Rattle.llvm_core.specs.Data as d
use Rattle.llvm_core.specs.Data.{Trees, type_at, const_at, trees_of, operand_of, entry_of, instruction_of, tree_of_result, result_tree, placed_of, placed_at, block_of, block_at, function_of, structs_of, data_of, with_instruction_in, VoidType, type_trees, const_trees}
use Rattle.llvm_core.proofs.ChangeLemmas.{mapped_same, mapped_push, mapped_then, mapped_change, filter_map-same, filter_map-mapped, slice_get-changed, slice_get-unchanged}
use Rattle.support.proofs.ListLaws.{slice_get-push, item_there, slice_get-before}
use Rattle.llvm_core.proofs.TreeLemmas.{type_at-kept, type_at-kind, const_trees-retyped, const_at-kept}
use Rattle.llvm_core.proofs.SoundLemmas.{result_stands}
use Rattle.llvm_core.proofs.GrowLemmas.{types_more}
use Rattle.llvm_core.proofs.DataLemmas.{bits_tree_of}
use Rattle.llvm_core.proofs.StructLemmas.{structs_same}
use Rattle.llvm_core.proofs.WithinLemmas.{const_types_within, result_within}

-- ---- trees that agree on what is there

record SameTrees (m : Module) (t u : Trees) : Type 0 where
  types : (ty : LLVMType) → ty.0 < length m.types → type_at t.types ty ≡ type_at u.types ty
  consts : (c : LLVMConst) → c.0 < length m.consts → const_at t.consts c ≡ const_at u.consts c

operand_same : (m : Module) (t u : Trees) → SameTrees m t u → (v : LLVMValue) → IsValue m v → operand_of t v ≡ operand_of u v
operand_same m t u same (V.Const c) h = ap d.Constant (same.consts c h)
operand_same m t u same (V.Param f place) h = refl
operand_same m t u same (V.Inst i) h = refl

entries_same : (m : Module) (t u : Trees) → SameTrees m t u → (es : List PhiEntry) → All (IsEntry m) es → map (entry_of t) es ≡ map (entry_of u) es
entries_same m t u same [] h = refl
entries_same m t u same (e ∷ es) h =
    let first = operand_same m t u same e.value (All-head (IsEntry m) e es h).0 in
    let rest = entries_same m t u same es (All-tail (IsEntry m) e es h) in
    ap (λ o. (o, e.block.0) ∷ map (entry_of t) es) first ∙ ap (λ xs. entry_of u e ∷ xs) rest

operands_same : (m : Module) (t u : Trees) → SameTrees m t u → (vs : List LLVMValue) → All (IsValue m) vs → map (operand_of t) vs ≡ map (operand_of u) vs
operands_same m t u same [] h = refl
operands_same m t u same (v ∷ vs) h =
    let first = operand_same m t u same v (All-head (IsValue m) v vs h) in
    let rest = operands_same m t u same vs (All-tail (IsValue m) v vs h) in
    cc

written_same : (m : Module) (t u : Trees) → SameTrees m t u → (o : Option LLVMType) → IfSome o (λ (x : LLVMType). x.0 < length m.types) → option_map (type_at t.types) o ≡ option_map (type_at u.types) o
written_same m t u same None h = refl
written_same m t u same (Some x) h = ap Some (same.types x h)

instruction_same : (m : Module) (t u : Trees) → SameTrees m t u → (i : LLVMInst) → HasValues m i → instruction_of t i ≡ instruction_of u i
instruction_same m t u same (I.Phi type entries) h = ap d.Phi (entries_same m t u same entries h.1)
instruction_same m t u same (I.Row r) h =
    let e = operands_same m t u same r.operands h.0 in
    let f = written_same m t u same r.written h.2 in
    cc

placed_same : (m : Module) (t u : Trees) → SameTrees m t u → (i : LLVMInstRef) (x : InstData) → IsInstIn m x → placed_of t i x ≡ placed_of u i x
placed_same m t u same i x h =
    let e = same.types x.ty h.typed in
    let f = instruction_same m t u same x.inst h.values in
    cc

-- each of a list
pub each : {X : Type 0} (P : X → Type 0) → ((x : X) → P x) → (xs : List X) → All P xs
each P f [] = All-nil P
each P f (x ∷ xs) = All-cons P x xs (f x) (each P f xs)

block_same : (m : Module) (t u : Trees) → IsModule m → SameTrees m t u → (b : LLVMBasicBlock) (x : BlockData) → block_of t m.insts b x ≡ block_of u m.insts b x
block_same m t u s same b x =
    let e = filter_map-same (placed_at t m.insts) (placed_at u m.insts) x.insts (each (λ i. placed_at t m.insts i ≡ placed_at u m.insts i) (λ i. by i (slice_get m.insts i.0) refl) x.insts) in
    cc
  where
    by : (i : LLVMInstRef) (o : Option InstData) → slice_get m.insts i.0 ≡ o → option_map (placed_of t i) o ≡ option_map (placed_of u i) o
    by i None e = refl
    by i (Some y) e = ap Some (placed_same m t u same i y (s.insts i.0 y e))

function_same : (m : Module) (t u : Trees) → IsModule m → SameTrees m t u → (k f : ℕ) (x : FunctionData) → slice_get m.functions f ≡ Some x → function_of t m.blocks m.insts (k, x) ≡ function_of u m.blocks m.insts (k, x)
function_same m t u s same k f x at =
    let typed = (s.functions f x at).typed in
    let d = same.types x.ty (slice_get_within m.types x.ty.0 typed.0 typed.1) in
    let e = filter_map-same (block_at t m.blocks m.insts) (block_at u m.blocks m.insts) x.blocks (each (λ b. block_at t m.blocks m.insts b ≡ block_at u m.blocks m.insts b) (λ b. by b (slice_get m.blocks b.0)) x.blocks) in
    cc
  where
    by : (b : LLVMBasicBlock) (o : Option BlockData) → option_map (block_of t m.insts b) o ≡ option_map (block_of u m.insts b) o
    by b None = refl
    by b (Some y) = ap Some (block_same m t u s same b y)

functions_same : (m : Module) (t u : Trees) → IsModule m → SameTrees m t u → map (function_of t m.blocks m.insts) (enumerate_from 0 m.functions) ≡ map (function_of u m.blocks m.insts) (enumerate_from 0 m.functions)
functions_same m t u s same = mapped_same (function_of t m.blocks m.insts) (function_of u m.blocks m.insts) 0 m.functions (λ k i x at is. function_same m t u s same k i x is)

-- ---- types and constants

-- what was added to a list
added : {X : Type 0} (old new : List X) (k : X) → (new ≡ old) ⊎ (new ≡ old ++ k ∷ []) → (more : List X) × (new ≡ old ++ more)
added old new k (inl same) = ([], same ∙ sym (append-nil old))
added old new k (inr longer) = (k ∷ [], longer)

retyped : (m : Module) (types more : List LLVMTypeKind) → types ≡ m.types ++ more → IsModule m → SameTrees m (trees_of (record m { types = types })) (trees_of m)
retyped m types more e s = record {
  types = λ ty lt. ap (λ ks. type_at (type_trees ks) ty) e ∙ type_at-kept m.types more ty lt;
  consts = λ c lt. ap (λ cs. const_at cs c) (ap (λ ks. const_trees (type_trees ks) m.consts) e ∙ const_trees-retyped m.types more m.consts (const_types_within m s));
}

-- more types leave the data
types_data : (m : Module) (types more : List LLVMTypeKind) → IsModule m → types ≡ m.types ++ more → data_of (record m { types = types }) ≡ data_of m
types_data m types more s h =
    let same = functions_same m (trees_of (record m { types = types })) (trees_of m) s (retyped m types more h s) in
    let fields = structs_same m.types (trees_of (record m { types = types })).types (trees_of m).types (retyped m types more h s).types m.structs s.structs in
    ap (λ ss. let d : d.ModuleData = record { name = m.name; structs = ss; functions = (data_of (record m { types = types })).functions } in d) fields
    ∙ ap (λ fs. let d : d.ModuleData = record { name = m.name; structs = structs_of m; functions = fs } in d) same

pub type_data : (m : Module) (types : List LLVMTypeKind) (k : LLVMTypeKind) → IsModule m → (types ≡ m.types) ⊎ (types ≡ m.types ++ k ∷ []) → data_of (record m { types = types }) ≡ data_of m
type_data m types k s h = let more = added m.types types k h in types_data m types more.0 s more.1

pub const_data : (m : Module) (consts : List LLVMConstKind) (k : LLVMConstKind) → IsModule m → (consts ≡ m.consts) ⊎ (consts ≡ m.consts ++ k ∷ []) → data_of (record m { consts = consts }) ≡ data_of m
const_data m consts k s h =
    let more = added m.consts consts k h in
    let ts = type_trees m.types in
    let same = functions_same m (trees_of (record m { consts = consts })) (trees_of m) s (record {
      types = λ ty lt. refl;
      consts = λ c lt. ap (λ ks. const_at (const_trees ts ks) c) more.1 ∙ const_at-kept ts m.consts more.0 c.0 lt;
    }) in
    ap (λ fs. let d : d.ModuleData = record { name = m.name; structs = structs_of m; functions = fs } in d) same

-- ---- functions

pub function_data : (m : Module) (f : ℕ) (name : List ℕ) (ty : LLVMType) (space : ℕ) (params names : List (List ℕ)) → f ≡ length m.functions → params ≡ names
    → data_of (record m { functions = m.functions ++ record { name = name; ty = ty; space = space; params = params; blocks = [] } ∷ [] })
    ≡ d.with_function (data_of m) (record { number = f; name = name; type = type_at (trees_of m).types ty; space = space; params = names; blocks = [] })
function_data m f name ty space params names last same =
    let x : FunctionData = record { name = name; ty = ty; space = space; params = params; blocks = [] } in
    let F : ℕ × FunctionData → d.Function = function_of (trees_of m) m.blocks m.insts in
    ap (λ fs. let d : d.ModuleData = record { name = m.name; structs = structs_of m; functions = fs } in d)
    (mapped_push F 0 m.functions x ∙ ap (λ (k : ℕ). map F (enumerate_from 0 m.functions) ++ F (k, x) ∷ []) (let e : 0 + length m.functions ≡ f = omega (arith, last) in e)
    ∙ ap (λ ps. map F (enumerate_from 0 m.functions) ++ record (F (f, x)) { params = ps } ∷ []) same)

-- what a call does to the item of one number
pub at_number : {X : Type 0} (h : X → X) (x : X) (k i : ℕ) → k ≡ i → (if nat_eq k i then h x else x) ≡ h x
at_number h x k i e = ap (λ b. if b then h x else x) (eq-eqb k i e)

pub at_other : {X : Type 0} (h : X → X) (x : X) (k i : ℕ) → k ≢ i → (if nat_eq k i then h x else x) ≡ x
at_other h x k i ne = by (nat_eq k i) refl
  where
    by : (b : Bool) → nat_eq k i ≡ b → (if b then h x else x) ≡ x
    by false e = refl
    by true e = absurd (ne (grind arith))

pub param_data : (m : Module) (f : LLVMFunction) (place : ℕ) (name : List ℕ) → data_of (with_code m (with_param_name (code_of m) f place name)) ≡ d.with_param (data_of m) f.0 place name
param_data m f place name =
    let F : ℕ × FunctionData → d.Function = function_of (trees_of m) m.blocks m.insts in
    let h : d.Function → d.Function = λ x. record x { params = slice_set x.params place name } in
    ap (λ fs. let d : d.ModuleData = record { name = m.name; structs = structs_of m; functions = fs } in d)
    (mapped_change F F (λ (x : d.Function). if nat_eq x.number f.0 then h x else x) (λ (x : FunctionData). record x { params = slice_set x.params place name }) f.0 0 m.functions
    (λ k j x at ne is. sym (at_other h (F (k, x)) k f.0 (omega arith)))
    (λ k x at is. sym (at_number h (F (k, x)) k f.0 (omega arith))))

-- ---- blocks

-- more blocks leave those that are there
blocks_kept : (m : Module) (more : List BlockData) (bs : List LLVMBasicBlock) → All (λ (b : LLVMBasicBlock). b.0 < length m.blocks) bs
    → filter_map (block_at (trees_of m) (m.blocks ++ more) m.insts) bs ≡ filter_map (block_at (trees_of m) m.blocks m.insts) bs
blocks_kept m more bs within =
    let new : LLVMBasicBlock → Option d.Block = block_at (trees_of m) (m.blocks ++ more) m.insts in
    let old : LLVMBasicBlock → Option d.Block = block_at (trees_of m) m.blocks m.insts in
    filter_map-same new old bs
    (All-weaker (λ (b : LLVMBasicBlock). b.0 < length m.blocks) (λ b. new b ≡ old b) (λ b lt. ap (option_map (block_of (trees_of m) m.insts b)) (slice_get-before m.blocks more b.0 lt)) bs within)

pub block_data : (m : Module) (f : LLVMFunction) (b : LLVMBasicBlock) (name : List ℕ) → IsModule m → b.0 ≡ length m.blocks
    → data_of (with_code m (with_block (code_of m) f b name)) ≡ d.with_block (data_of m) f.0 (record { number = b.0; name = name; instructions = [] })
block_data m f b name s last =
    let empty : BlockData = record { name = name; function = f; insts = [] } in
    let new : d.Block = record { number = b.0; name = name; instructions = [] } in
    let all : List BlockData = m.blocks ++ empty ∷ [] in
    let F : ℕ × FunctionData → d.Function = function_of (trees_of m) m.blocks m.insts in
    let G : ℕ × FunctionData → d.Function = function_of (trees_of m) all m.insts in
    let h : d.Function → d.Function = λ x. record x { blocks = x.blocks ++ new ∷ [] } in
    let at_b : block_at (trees_of m) all m.insts b ≡ Some new = ap (option_map (block_of (trees_of m) m.insts b)) (slice_get-push m.blocks empty b.0 last) in
    let kept : (k j : ℕ) (x : FunctionData) → slice_get m.functions j ≡ Some x → G (k, x) ≡ F (k, x) = λ k j x is.
    (let e = blocks_kept m (empty ∷ []) x.blocks (s.functions j x is).blocks in cc) in
    let grown : (k j : ℕ) (x : FunctionData) → slice_get m.functions j ≡ Some x → G (k, record x { blocks = x.blocks ++ b ∷ [] }) ≡ h (F (k, x)) = λ k j x is.
    (let e = filter_map-append (block_at (trees_of m) all m.insts) x.blocks (b ∷ [])
    ∙ ap (λ ys. ys ++ cons_option (block_at (trees_of m) all m.insts b) []) (blocks_kept m (empty ∷ []) x.blocks (s.functions j x is).blocks)
    ∙ ap (λ o. filter_map (block_at (trees_of m) m.blocks m.insts) x.blocks ++ cons_option o []) at_b in
    ap (λ bs. record (F (k, x)) { blocks = bs }) e) in
    ap (λ fs. let d : d.ModuleData = record { name = m.name; structs = structs_of m; functions = fs } in d)
    (mapped_change G F (λ (x : d.Function). if nat_eq x.number f.0 then h x else x) (λ (x : FunctionData). record x { blocks = x.blocks ++ b ∷ [] }) f.0 0 m.functions
    (λ k j x at ne is. kept k j x is ∙ sym (at_other h (F (k, x)) k f.0 (omega arith)))
    (λ k x at is. grown k f.0 x is ∙ sym (at_number h (F (k, x)) k f.0 (omega arith))))

-- ---- instructions

-- more instructions leave those that are there
insts_kept : (m : Module) (more : List InstData) (is : List LLVMInstRef) → All (λ (i : LLVMInstRef). i.0 < length m.insts) is
    → filter_map (placed_at (trees_of m) (m.insts ++ more)) is ≡ filter_map (placed_at (trees_of m) m.insts) is
insts_kept m more is within =
    let new : LLVMInstRef → Option d.Placed = placed_at (trees_of m) (m.insts ++ more) in
    let old : LLVMInstRef → Option d.Placed = placed_at (trees_of m) m.insts in
    filter_map-same new old is
    (All-weaker (λ (i : LLVMInstRef). i.0 < length m.insts) (λ i. new i ≡ old i) (λ i lt. ap (option_map (placed_of (trees_of m) i)) (slice_get-before m.insts more i.0 lt)) is within)

-- the instruction x is appended to the block b
module _ (m : Module) (b : LLVMBasicBlock) (i : LLVMInstRef) (x : InstData) (s : IsModule m) (last : i.0 ≡ length m.insts) where
  abbrev all : List InstData
  all = m.insts ++ x ∷ []

  abbrev appended : BlockData → BlockData
  appended y = record y { insts = y.insts ++ i ∷ [] }

  abbrev shown : d.Block → d.Block
  shown = with_instruction_in b.0 (placed_of (trees_of m) i x)

  abbrev put : d.Block → d.Block
  put z = record z { instructions = z.instructions ++ placed_of (trees_of m) i x ∷ [] }

  at_i : placed_at (trees_of m) all i ≡ Some (placed_of (trees_of m) i x)
  at_i = ap (option_map (placed_of (trees_of m) i)) (slice_get-push m.insts x i.0 last)

  block_kept : (c : LLVMBasicBlock) (y : BlockData) (k : ℕ) → slice_get m.blocks k ≡ Some y → block_of (trees_of m) all c y ≡ block_of (trees_of m) m.insts c y
  block_kept c y k is = let e = insts_kept m (x ∷ []) y.insts (s.blocks k y is).insts in cc

  block_grown : (c : LLVMBasicBlock) (y : BlockData) (k : ℕ) → slice_get m.blocks k ≡ Some y → block_of (trees_of m) all c (appended y) ≡ put (block_of (trees_of m) m.insts c y)
  block_grown c y k is =
      let e = filter_map-append (placed_at (trees_of m) all) y.insts (i ∷ [])
      ∙ ap (λ ys. ys ++ cons_option (placed_at (trees_of m) all i) []) (insts_kept m (x ∷ []) y.insts (s.blocks k y is).insts)
      ∙ ap (λ o. filter_map (placed_at (trees_of m) m.insts) y.insts ++ cons_option o []) at_i in
      ap (λ is. record (block_of (trees_of m) m.insts c y) { instructions = is }) e

  block_shown : (c : LLVMBasicBlock) → c.0 < length m.blocks → block_at (trees_of m) (with_change appended b.0 m.blocks) all c ≡ option_map shown (block_at (trees_of m) m.blocks m.insts c)
  block_shown c lt =
      let y = item_there m.blocks c.0 lt in
      ap (option_map (block_of (trees_of m) all c)) (by (nat_eq c.0 b.0) refl y.0 y.1)
      ∙ now (nat_eq c.0 b.0) refl y.0 y.1
      ∙ ap (λ o. option_map shown (option_map (block_of (trees_of m) m.insts c) o)) (sym y.1)
    where
      by : (e : Bool) → nat_eq c.0 b.0 ≡ e → (y : BlockData) → slice_get m.blocks c.0 ≡ Some y → slice_get (with_change appended b.0 m.blocks) c.0 ≡ Some (if nat_eq c.0 b.0 then appended y else y)
      by true e y at =
          let same : c.0 ≡ b.0 = grind arith in
          ap (slice_get (with_change appended b.0 m.blocks)) same ∙ slice_get-changed appended b.0 m.blocks ∙ ap (λ (k : ℕ). option_map appended (slice_get m.blocks k)) (sym same)
          ∙ ap (option_map appended) at ∙ ap Some (sym (at_number appended y c.0 b.0 same))
      by false e y at =
          let apart : c.0 ≢ b.0 = λ same. absurd (let h = eq-eqb c.0 b.0 same in cc) in
          slice_get-unchanged appended b.0 c.0 m.blocks apart ∙ at ∙ ap Some (sym (at_other appended y c.0 b.0 apart))

      now : (e : Bool) → nat_eq c.0 b.0 ≡ e → (y : BlockData) → slice_get m.blocks c.0 ≡ Some y
          → option_map (block_of (trees_of m) all c) (Some (if nat_eq c.0 b.0 then appended y else y)) ≡ option_map shown (option_map (block_of (trees_of m) m.insts c) (Some y))
      now true e y at =
          ap (λ v. Some (block_of (trees_of m) all c (if v then appended y else y))) e ∙ ap Some (block_grown c y c.0 at)
          ∙ ap Some (sym (ap (λ v. if v then put (block_of (trees_of m) m.insts c y) else block_of (trees_of m) m.insts c y) e))
      now false e y at =
          ap (λ v. Some (block_of (trees_of m) all c (if v then appended y else y))) e ∙ ap Some (block_kept c y c.0 at)
          ∙ ap Some (sym (ap (λ v. if v then put (block_of (trees_of m) m.insts c y) else block_of (trees_of m) m.insts c y) e))

  abbrev functions_shown : d.Function → d.Function
  functions_shown f = record f { blocks = map shown f.blocks }

  function_shown : (k j : ℕ) (f : FunctionData) → slice_get m.functions j ≡ Some f
      → function_of (trees_of m) (with_change appended b.0 m.blocks) all (k, f) ≡ functions_shown (function_of (trees_of m) m.blocks m.insts (k, f))
  function_shown k j f is =
      let new : LLVMBasicBlock → Option d.Block = block_at (trees_of m) (with_change appended b.0 m.blocks) all in
      let old : LLVMBasicBlock → Option d.Block = block_at (trees_of m) m.blocks m.insts in
      ap (λ bs. record (function_of (trees_of m) m.blocks m.insts (k, f)) { blocks = bs })
      (filter_map-mapped new old shown f.blocks (All-weaker (λ (c : LLVMBasicBlock). c.0 < length m.blocks) (λ c. new c ≡ option_map shown (old c)) block_shown f.blocks (s.functions j f is).blocks))

  inst_shown : map (function_of (trees_of m) (with_change appended b.0 m.blocks) all) (enumerate_from 0 m.functions) ≡ map functions_shown (map (function_of (trees_of m) m.blocks m.insts) (enumerate_from 0 m.functions))
  inst_shown = mapped_then (function_of (trees_of m) (with_change appended b.0 m.blocks) all) (function_of (trees_of m) m.blocks m.insts) functions_shown 0 m.functions (λ k j f at is. function_shown k j f is)

inst_appended : (m : Module) (b : LLVMBasicBlock) (i : LLVMInstRef) (name : List ℕ) (ty : LLVMType) (inst : LLVMInst) → IsModule m → i.0 ≡ length m.insts
    → data_of (with_code m (with_inst (code_of m) b i name ty inst)) ≡ d.with_instruction (data_of m) b.0 (placed_of (trees_of m) i (record { name = name; block = b; ty = ty; inst = inst }))
inst_appended m b i name ty inst s last =
    ap (λ fs. let d : d.ModuleData = record { name = m.name; structs = structs_of m; functions = fs } in d) (inst_shown m b i (record { name = name; block = b; ty = ty; inst = inst }) s last)

-- the tree of the result's type
result_shown : (old new : Module) (ty : LLVMType) (o : Option ResultType) → IsModule new → SameTrees old (trees_of new) (trees_of old) → ((r : ResultType) → o ≡ Some r → IsResultOver old.types r) → IsResultType o old.types new.types ty
    → type_at (trees_of new).types ty ≡ option_map_or (tree_of_result (trees_of old).types) o VoidType
result_shown old new ty None s same there h = type_at-kind new.types ty T.Void h.here tt
result_shown old new ty (Some (R.There t)) s same there h = ap (type_at (trees_of new).types) h.0 ∙ same.types t (there (R.There t) refl)
result_shown old new ty (Some (R.Bits lanes)) s same there h = bits_tree_of new ty lanes s (result_stands (Some (R.Bits lanes)) old.types new.types ty h)

pub inst_data : (old : Module) (types : List LLVMTypeKind) (b : LLVMBasicBlock) (i : LLVMInstRef) (name : List ℕ) (ty : LLVMType) (inst : LLVMInst) → IsModule old → IsModule (record old { types = types })
    → i.0 ≡ length old.insts → HasValues old inst → IsResultType (result_type old inst) old.types types ty
    → data_of (with_code (record old { types = types }) (with_inst (code_of old) b i name ty inst))
    ≡ d.with_instruction (data_of old) b.0 (record { number = i.0; name = name; type = result_tree old inst; instruction = instruction_of (trees_of old) inst })
inst_data old types b i name ty inst s grown last values typed =
    let more = types_more (result_type old inst) old.types types ty typed in
    let same = retyped old types more.0 more.1 s in
    let new : Module = record old { types = types } in
    let e = result_shown old new ty (result_type old inst) grown same (λ r e. result_within old inst r s values e) typed in
    let f = instruction_same old (trees_of new) (trees_of old) same inst values in
    inst_appended new b i name ty inst grown last
    ∙ ap (λ (m : d.ModuleData). d.with_instruction m b.0 (placed_of (trees_of new) i (record { name = name; block = b; ty = ty; inst = inst }))) (types_data old types more.0 s more.1)
    ∙ ap (λ (p : d.Placed). d.with_instruction (data_of old) b.0 p)
    (let two : (t u : d.TypeTree) (v w : d.Instruction) → t ≡ u → v ≡ w → (let p : d.Placed = record { number = i.0; name = name; type = t; instruction = v } in p) ≡ record { number = i.0; name = name; type = u; instruction = w } = λ t u v w p q. (cc) in
    two _ _ _ _ e f)

-- the same where the module got the type of the result before
pub inst_built_data : (old new : Module) (b : LLVMBasicBlock) (i : LLVMInstRef) (name : List ℕ) (ty : LLVMType) (inst : LLVMInst) → IsModule old → IsModule new → new ≡ record old { types = new.types }
    → i.0 ≡ length new.insts → HasValues old inst → IsResultType (result_type old inst) old.types new.types ty
    → data_of (with_code new (with_inst (code_of new) b i name ty inst))
    ≡ d.with_instruction (data_of old) b.0 (record { number = i.0; name = name; type = result_tree old inst; instruction = instruction_of (trees_of old) inst })
inst_built_data old new b i name ty inst s grown same last values typed =
    let P : Module → Type 0 = λ m. data_of (with_code m (with_inst (code_of m) b i name ty inst))
    ≡ d.with_instruction (data_of old) b.0 (record { number = i.0; name = name; type = result_tree old inst; instruction = instruction_of (trees_of old) inst }) in
    subst P (sym same) (inst_data old new.types b i name ty inst s (subst IsModule same grown) (last ∙ ap (λ (m : Module). length m.insts) same) values typed)
