-- The rules that a checked module meets.
use Rattle.std.specs.Prelude.{◌≡◌, ◌≢◌, ◌<◌, ◌≤◌, ◌⊎◌, ◌^◌, ◌-◌, ℕ, Bool, true, false, not, ◌&&◌, ◌||◌, nat_eq, List, [], ◌∷◌, ◌++◌, length, map, take, slice_get, Option, Some, None}
use Rattle.std.specs.List.{list_any, flat_map}
use Rattle.std.specs.Option.{option_map_or}
use Rattle.llvm_core.specs.declared.numbers.LLVMType.{LLVMType}
use Rattle.llvm_core.specs.declared.numbers.LLVMFunction.{LLVMFunction}
use Rattle.llvm_core.specs.declared.numbers.LLVMBasicBlock.{LLVMBasicBlock}
use Rattle.llvm_core.specs.declared.numbers.LLVMInstRef.{LLVMInstRef}
use Rattle.llvm_core.specs.declared.types.LLVMTypeKind.{LLVMTypeKind}
use Rattle.llvm_core.specs.declared.types.LLVMTypeKind.TheVariants as T
use Rattle.llvm_core.specs.declared.code.LLVMValue.{LLVMValue}
use Rattle.llvm_core.specs.declared.code.LLVMValue.TheVariants as V
use Rattle.llvm_core.specs.declared.code.PhiEntry.{PhiEntry}
use Rattle.llvm_core.specs.declared.code.LLVMInst.{LLVMInst}
use Rattle.llvm_core.specs.declared.code.LLVMInst.TheVariants as I
use Rattle.llvm_core.specs.declared.code.Row.{Row}
use Rattle.kinds.specs.declared.rules.Takes.{Takes}
use Rattle.kinds.specs.declared.rules.Takes.TheVariants as O
use Rattle.kinds.specs.Rules.{ends, target_count, operand_count}
use Rattle.kinds.specs.Table.{rule_of}
pub use Rattle.kinds.specs.Names.{is_bad_name, is_intrinsic_name}
use Rattle.llvm_core.specs.declared.structs.StructFields.{StructFields}
use Rattle.llvm_core.specs.declared.structs.StructData.{StructData}
use Rattle.llvm_core.specs.declared.code.FunctionData.{FunctionData}
use Rattle.llvm_core.specs.declared.code.BlockData.{BlockData}
use Rattle.llvm_core.specs.declared.code.InstData.{InstData}
use Rattle.llvm_core.specs.declared.check_err.Place.{Place}
use Rattle.llvm_core.specs.declared.check_err.Place.TheVariants as P
use Rattle.llvm_core.specs.declared.check_err.CheckErr.{CheckErr}
use Rattle.llvm_core.specs.declared.check_err.CheckErr.TheVariants.{NameTwice, NoTerminator, PhiPlace, PhiEntries, EntryHasPreds, OperandType, OperandCount, BlockOutside, IntrinsicBody, FunctionSpace, TooDeep, ListTooLong, NoMemory}
use Rattle.llvm_core.specs.Module.{Module}
use Rattle.llvm_core.specs.Names.{HasTwice}
use Rattle.llvm_core.specs.Edges.{count_of, edge_count}
use Rattle.llvm_core.specs.Consts.{is_placeholder}
use Rattle.llvm_core.specs.Parts.{value_type, row_fits, is_function, is_kind, kind_params, shape_of, operands, is_phi}
use Rattle.kinds.specs.Fitting.{is_nothing, is_value}
use Rattle.kinds.specs.Held.{deepest}
use Rattle.kinds.specs.Structs.{nests}
use Rattle.llvm_core.specs.Data.{NamedType, structs_of, trees_of, type_at}

-- ---- names

-- the name, where there is one
abbrev pub named : List ℕ → List (List ℕ)
named [] = []
named (c ∷ cs) = (c ∷ cs) ∷ []

abbrev pub inst_names : Module → LLVMInstRef → List (List ℕ)
inst_names m i = named (option_map_or (λ (x : InstData). x.name) (slice_get m.insts i.0) [])

abbrev pub block_names : Module → LLVMBasicBlock → List (List ℕ)
block_names m b = option_map_or (λ (x : BlockData). named x.name ++ flat_map (inst_names m) x.insts) (slice_get m.blocks b.0) []

-- the names of the parameters, blocks and results of a function
abbrev pub local_names : Module → FunctionData → List (List ℕ)
local_names m x = flat_map named x.params ++ flat_map (block_names m) x.blocks

-- the names of the functions before f
abbrev pub names_before : Module → ℕ → List (List ℕ)
names_before m f = map (λ (x : FunctionData). x.name) (take f m.functions)

-- the names of the structs, and of those before s
abbrev pub struct_names : Module → List (List ℕ)
struct_names m = map (λ (x : StructData). x.name) m.structs

abbrev pub struct_names_before : Module → ℕ → List (List ℕ)
struct_names_before m s = map (λ (x : StructData). x.name) (take s m.structs)

-- an earlier struct has the name
abbrev pub IsTakenStruct : Module → ℕ → List ℕ → Type 0
IsTakenStruct m s n = (r : ℕ) × (y : StructData) × (r < s) × (slice_get m.structs r ≡ Some y) × (y.name ≡ n)

-- an earlier function has the name
abbrev pub IsTaken : Module → ℕ → List ℕ → Type 0
IsTaken m f n = (g : ℕ) × (y : FunctionData) × (g < f) × (slice_get m.functions g ≡ Some y) × (y.name ≡ n)

-- ---- terminators

abbrev pub is_terminator : LLVMInst → Bool
is_terminator (I.Phi type entries) = false
is_terminator (I.Row r) = ends (rule_of r.op).leads

abbrev pub is_terminator_at : Module → LLVMInstRef → Bool
is_terminator_at m i = option_map_or (λ (x : InstData). is_terminator x.inst) (slice_get m.insts i.0) false

-- the last item passes the test, and no earlier one
abbrev pub ends_in_only : {X : Type 0} → (X → Bool) → List X → Bool
ends_in_only p xs = option_map_or p (slice_get xs (length xs - 1)) false && not (list_any p (take (length xs - 1) xs))

-- ---- phis

-- the numbers of the blocks that a phi's entries are for
abbrev pub sources : List PhiEntry → List ℕ
sources entries = map (λ (e : PhiEntry). e.block.0) entries

-- each block has as many entries as it has edges to b
abbrev pub FitsEdges : Module → ℕ → List PhiEntry → Type 0
FitsEdges m b entries = (p : ℕ) → count_of p (sources entries) ≡ edge_count m p b

-- two entries for one block have two values
abbrev pub HasTwoValues : List PhiEntry → Type 0
HasTwoValues entries = (i : ℕ) × (j : ℕ) × (x : PhiEntry) × (y : PhiEntry) × (slice_get entries i ≡ Some x) × (slice_get entries j ≡ Some y) × (x.block ≡ y.block) × (x.value ≢ y.value)

-- one of the entries is for the block of x, with another value
abbrev pub HasRival : PhiEntry → List PhiEntry → Type 0
HasRival x entries = (j : ℕ) × (y : PhiEntry) × (slice_get entries j ≡ Some y) × (x.block ≡ y.block) × (x.value ≢ y.value)

-- no edge leads to b
abbrev pub HasNoPreds : Module → ℕ → Type 0
HasNoPreds m b = (p : ℕ) → edge_count m p b ≡ 0

-- the entries of a phi of the block b are wrong; of another instruction it is not asked
abbrev pub MisfitsEdges : Module → ℕ → LLVMInst → Type 0
MisfitsEdges m b (I.Phi type entries) = (¬ FitsEdges m b entries) ⊎ HasTwoValues entries ⊎ HasNoPreds m b
MisfitsEdges m b (I.Row r) = ⊥

abbrev pub is_phi_at : Module → LLVMInstRef → Bool
is_phi_at m i = option_map_or (λ (x : InstData). is_phi x.inst) (slice_get m.insts i.0) false

-- a phi stands behind what is no phi
abbrev pub HasLatePhi : Module → List LLVMInstRef → Type 0
HasLatePhi m is = (j : ℕ) × (k : ℕ) × (x : LLVMInstRef) × (y : LLVMInstRef) × (j < k) × (slice_get is j ≡ Some x) × (slice_get is k ≡ Some y) × (is_phi_at m x ≡ false) × (is_phi_at m y ≡ true)

-- ---- the function that holds an instruction

abbrev pub home : Module → InstData → LLVMFunction
home m x = option_map_or (λ (b : BlockData). b.function) (slice_get m.blocks x.block.0) (record { 0 = 0 })

abbrev pub kind_result : LLVMTypeKind → Option LLVMType
kind_result (T.Function result params variadic) = Some result
kind_result T.Void = None
kind_result (T.Int width) = None
kind_result (T.Ptr space) = None
kind_result (T.Floating of) = None
kind_result (T.Other of) = None
kind_result (T.Array count t) = None
kind_result (T.Vector kind count t) = None
kind_result (T.Literal fields layout) = None
kind_result (T.Named name) = None

-- the type of what a function returns
abbrev pub return_type : Module → LLVMFunction → Option LLVMType
return_type m f = option_map_or (λ (x : FunctionData). option_map_or kind_result (slice_get m.types x.ty.0) None) (slice_get m.functions f.0) None

abbrev pub is_void : LLVMTypeKind → Bool
is_void k = is_nothing (shape_of k)

abbrev pub returns_void : Module → LLVMFunction → Bool
returns_void m f = option_map_or (is_kind is_void m.types) (return_type m f) false

-- ---- operands

-- a type of no value
abbrev pub is_valueless : LLVMTypeKind → Bool
is_valueless k = not (is_value (shape_of k))

-- a function type with a parameter of no value, or that returns a function
abbrev pub misfits_signature : List LLVMTypeKind → LLVMTypeKind → Bool
misfits_signature types k = list_any (is_kind is_valueless types) (kind_params k) || option_map_or (is_kind is_function types) (kind_result k) false

-- the value of an entry has another type
abbrev pub HasOtherType : Module → LLVMType → List PhiEntry → Type 0
HasOtherType m type entries = (i : ℕ) × (e : PhiEntry) × (slice_get entries i ≡ Some e) × (value_type m e.value ≢ Some type)

-- a phi of no value, or with an entry of another type
abbrev pub MisfitsPhi : Module → LLVMType → List PhiEntry → Type 0
MisfitsPhi m type entries = (is_kind is_valueless m.types type ≡ true) ⊎ HasOtherType m type entries

-- both types are there, and are one
abbrev pub is_type : Option LLVMType → Option LLVMType → Bool
is_type (Some a) (Some b) = nat_eq a.0 b.0
is_type None b = false
is_type (Some a) None = false

-- the value is of another type than f returns
abbrev pub returns_other : Module → LLVMFunction → LLVMValue → Bool
returns_other m f v = not (is_type (value_type m v) (return_type m f))

-- a return has a value of another type than f returns; of what takes other operands it is not asked
abbrev pub misfits_return : Takes → Module → LLVMFunction → List LLVMValue → Bool
misfits_return O.Nothing m f vs = false
misfits_return (O.One x) m f vs = false
misfits_return (O.Two x y) m f vs = false
misfits_return (O.Three x y z) m f vs = false
misfits_return O.Return m f vs = list_any (returns_other m f) vs

-- as many operands and targets as the table says
abbrev pub is_counted : Module → LLVMFunction → Row → Bool
is_counted m f r = nat_eq (length r.operands) (operand_count (rule_of r.op).takes (returns_void m f)) && nat_eq (length r.targets) (target_count (rule_of r.op).leads)

-- of a row with the right count: the type of an operand, or the written type, does not fit it, in the function f
abbrev pub misfits_row : Module → LLVMFunction → Row → Bool
misfits_row m f r = is_counted m f r && (not (row_fits m r) || misfits_return (rule_of r.op).takes m f r.operands)

-- the type of an operand does not fit, in an instruction of f
abbrev pub MisfitsType : Module → LLVMFunction → LLVMInst → Type 0
MisfitsType m f (I.Phi type entries) = MisfitsPhi m type entries
MisfitsType m f (I.Row r) = misfits_row m f r ≡ true

-- the count of operands or targets does not fit, in an instruction of f
abbrev pub misfits_count : Module → LLVMFunction → LLVMInst → Bool
misfits_count m f (I.Phi type entries) = false
misfits_count m f (I.Row r) = not (is_counted m f r)

-- a parameter or result of another function than f, or a placeholder
abbrev pub is_outside : Module → LLVMFunction → LLVMValue → Bool
is_outside m f (V.Const c) = option_map_or is_placeholder (slice_get m.consts c.0) false
is_outside m f (V.Param g place) = not (nat_eq g.0 f.0)
is_outside m f (V.Inst i) = not (nat_eq (option_map_or (home m) (slice_get m.insts i.0) (record { 0 = 0 })).0 f.0)

-- a block of another function than f
abbrev pub is_block_outside : Module → LLVMFunction → LLVMBasicBlock → Bool
is_block_outside m f b = not (nat_eq (option_map_or (λ (x : BlockData). x.function) (slice_get m.blocks b.0) (record { 0 = 0 })).0 f.0)

abbrev pub is_entry_outside : Module → LLVMFunction → PhiEntry → Bool
is_entry_outside m f e = is_outside m f e.value || is_block_outside m f e.block

-- an operand, target or source is one of another function, or a placeholder, in an instruction of f
abbrev pub reaches_outside : Module → LLVMFunction → LLVMInst → Bool
reaches_outside m f (I.Phi type entries) = list_any (is_entry_outside m f) entries
reaches_outside m f (I.Row r) = list_any (is_outside m f) r.operands || list_any (is_block_outside m f) r.targets

-- ---- depth

-- the type of that number does not nest as deep as is allowed or less, through the fields of the structs that it names: it
-- nests deeper, or in itself, or names a struct that there is not
abbrev pub is_deep : Module → LLVMType → Bool
is_deep m t = not (nests (structs_of m) deepest (type_at (trees_of m).types t))

-- nor does the struct of that name
abbrev pub is_deep_struct : Module → List ℕ → Bool
is_deep_struct m name = not (nests (structs_of m) deepest (NamedType name))

-- that of the value does
abbrev pub is_deep_value : Module → LLVMValue → Bool
is_deep_value m v = option_map_or (is_deep m) (value_type m v) false

-- that of the result or of an operand does
abbrev pub is_deep_inst : Module → InstData → Bool
is_deep_inst m x = is_deep m x.ty || list_any (is_deep_value m) (operands x.inst)

-- ---- the rules

abbrev pub IsLong : {X : Type 0} → List X → Type 0
IsLong xs = 2 ^ 31 ≤ length xs

-- there are too many fields; an opaque struct has none
abbrev pub IsLongBody : Option StructFields → Type 0
IsLongBody None = ⊥
IsLongBody (Some b) = IsLong b.types

abbrev pub OfStruct : Module → ℕ → (StructData → Type 0) → Type 0
OfStruct m s P = (x : StructData) × (slice_get m.structs s ≡ Some x) × P x

abbrev pub OfFunction : Module → ℕ → (FunctionData → Type 0) → Type 0
OfFunction m f P = (x : FunctionData) × (slice_get m.functions f ≡ Some x) × P x

abbrev pub OfBlock : Module → ℕ → (BlockData → Type 0) → Type 0
OfBlock m b P = (x : BlockData) × (slice_get m.blocks b ≡ Some x) × P x

abbrev pub OfInst : Module → ℕ → (InstData → Type 0) → Type 0
OfInst m i P = (x : InstData) × (slice_get m.insts i ≡ Some x) × P x

-- a rule of functions, of blocks or of instructions: it fails at no other place
abbrev pub AtFunction : Place → (ℕ → Type 0) → Type 0
AtFunction P.Module Q = ⊥
AtFunction (P.Struct s) Q = ⊥
AtFunction (P.Function f) Q = Q f
AtFunction (P.Block b) Q = ⊥
AtFunction (P.Inst i) Q = ⊥

abbrev pub AtBlock : Place → (ℕ → Type 0) → Type 0
AtBlock P.Module Q = ⊥
AtBlock (P.Struct s) Q = ⊥
AtBlock (P.Function f) Q = ⊥
AtBlock (P.Block b) Q = Q b
AtBlock (P.Inst i) Q = ⊥

abbrev pub AtInst : Place → (ℕ → Type 0) → Type 0
AtInst P.Module Q = ⊥
AtInst (P.Struct s) Q = ⊥
AtInst (P.Function f) Q = ⊥
AtInst (P.Block b) Q = ⊥
AtInst (P.Inst i) Q = Q i

-- a list at the place has too many entries
abbrev pub HasLongList : Module → Place → Type 0
HasLongList m P.Module = IsLong m.functions ⊎ IsLong m.structs
HasLongList m (P.Struct s) = OfStruct m s (λ x. IsLongBody x.body)
HasLongList m (P.Function f) = OfFunction m f (λ x. IsLong x.params ⊎ IsLong x.blocks)
HasLongList m (P.Block b) = OfBlock m b (λ x. IsLong x.insts)
HasLongList m (P.Inst i) = OfInst m i (λ x. IsLong (operands x.inst))

-- a signature or an operand of another type than fits
abbrev pub HasOtherTypeAt : Module → Place → Type 0
HasOtherTypeAt m P.Module = ⊥
HasOtherTypeAt m (P.Struct s) = ⊥
HasOtherTypeAt m (P.Function f) = OfFunction m f (λ x. option_map_or (misfits_signature m.types) (slice_get m.types x.ty.0) false ≡ true)
HasOtherTypeAt m (P.Block b) = ⊥
HasOtherTypeAt m (P.Inst i) = OfInst m i (λ x. MisfitsType m (home m x) x.inst)

-- a type that nests too deep, of a struct, in a signature or of an operand
abbrev pub HasDeepTypeAt : Module → Place → Type 0
HasDeepTypeAt m P.Module = ⊥
HasDeepTypeAt m (P.Struct s) = OfStruct m s (λ x. is_deep_struct m x.name ≡ true)
HasDeepTypeAt m (P.Function f) = OfFunction m f (λ x. is_deep m x.ty ≡ true)
HasDeepTypeAt m (P.Block b) = ⊥
HasDeepTypeAt m (P.Inst i) = OfInst m i (λ x. is_deep_inst m x ≡ true)

-- A name that no symbol or struct may have, or that an earlier one has; or a name that two named things of a function share.
abbrev pub HasNameTwice : Module → Place → Type 0
HasNameTwice m P.Module = ⊥
HasNameTwice m (P.Struct s) = OfStruct m s (λ x. (is_bad_name x.name ≡ true) ⊎ IsTakenStruct m s x.name)
HasNameTwice m (P.Function f) = OfFunction m f (λ x. (is_bad_name x.name ≡ true) ⊎ IsTaken m f x.name ⊎ HasTwice (local_names m x))
HasNameTwice m (P.Block b) = ⊥
HasNameTwice m (P.Inst i) = ⊥

-- the rule fails there, a line for each rule
abbrev pub Fails : Module → CheckErr → Type 0
Fails m (NameTwice p) = HasNameTwice m p
Fails m (NoTerminator p) = AtBlock p (λ b. OfBlock m b (λ x. ends_in_only (is_terminator_at m) x.insts ≡ false))
Fails m (PhiPlace p) = AtBlock p (λ b. OfBlock m b (λ x. HasLatePhi m x.insts))
Fails m (PhiEntries p) = AtInst p (λ i. OfInst m i (λ x. MisfitsEdges m x.block.0 x.inst))
Fails m (EntryHasPreds p) = AtFunction p (λ f. OfFunction m f (λ x. (b : LLVMBasicBlock) × (slice_get x.blocks 0 ≡ Some b) × ¬ HasNoPreds m b.0))
Fails m (OperandType p) = HasOtherTypeAt m p
Fails m (OperandCount p) = AtInst p (λ i. OfInst m i (λ x. misfits_count m (home m x) x.inst ≡ true))
Fails m (BlockOutside p) = AtInst p (λ i. OfInst m i (λ x. reaches_outside m (home m x) x.inst ≡ true))
Fails m (IntrinsicBody p) = AtFunction p (λ f. OfFunction m f (λ x. (is_intrinsic_name x.name ≡ true) × (x.blocks ≢ [])))
Fails m (FunctionSpace p) = AtFunction p (λ f. OfFunction m f (λ x. x.space ≢ 0))
Fails m (TooDeep p) = HasDeepTypeAt m p
Fails m (ListTooLong p) = HasLongList m p
Fails m NoMemory = ⊥

-- no rule fails anywhere
abbrev pub IsChecked : Module → Type 0
IsChecked m = (e : CheckErr) → ¬ Fails m e

-- want of memory, or a rule that fails
abbrev pub MayAnswer : Module → CheckErr → Type 0
MayAnswer m NoMemory = Unit {0}
MayAnswer m e = Fails m e

-- ---- what is checked of one struct, function, block or instruction

pub record IsCheckedStruct (m : Module) (s : ℕ) : Type 0 where
  pub names : ¬ Fails m (NameTwice (P.Struct s))
  pub lists : ¬ Fails m (ListTooLong (P.Struct s))

pub record IsCheckedFunction (m : Module) (f : ℕ) : Type 0 where
  pub locals : (x : FunctionData) → slice_get m.functions f ≡ Some x → ¬ HasTwice (local_names m x)
  pub types : ¬ Fails m (OperandType (P.Function f))
  pub bodies : ¬ Fails m (IntrinsicBody (P.Function f))
  pub spaces : ¬ Fails m (FunctionSpace (P.Function f))
  pub lists : ¬ Fails m (ListTooLong (P.Function f))

pub record IsCheckedBlock (m : Module) (b : ℕ) : Type 0 where
  pub terminators : ¬ Fails m (NoTerminator (P.Block b))
  pub phis : ¬ Fails m (PhiPlace (P.Block b))
  pub lists : ¬ Fails m (ListTooLong (P.Block b))

pub record IsCheckedInst (m : Module) (i : ℕ) : Type 0 where
  pub types : ¬ Fails m (OperandType (P.Inst i))
  pub counts : ¬ Fails m (OperandCount (P.Inst i))
  pub outside : ¬ Fails m (BlockOutside (P.Inst i))
  pub lists : ¬ Fails m (ListTooLong (P.Inst i))

-- what is checked where the types of the whole module are gone over
pub record IsCheckedDepths (m : Module) : Type 0 where
  pub structs : (s : ℕ) → s < length m.structs → ¬ Fails m (TooDeep (P.Struct s))
  pub functions : (f : ℕ) → f < length m.functions → ¬ Fails m (TooDeep (P.Function f))
  pub insts : (i : ℕ) → i < length m.insts → ¬ Fails m (TooDeep (P.Inst i))

-- what is checked where the edges of the whole module are counted
pub record IsCheckedEdges (m : Module) : Type 0 where
  pub entries : (i : ℕ) → i < length m.insts → ¬ Fails m (PhiEntries (P.Inst i))
  pub firsts : (f : ℕ) → f < length m.functions → ¬ Fails m (EntryHasPreds (P.Function f))

-- the name of a function is one for a symbol, and no earlier function has it
abbrev pub IsFreshName : Module → ℕ → Type 0
IsFreshName m f = (x : FunctionData) → slice_get m.functions f ≡ Some x → (is_bad_name x.name ≡ false) × ¬ IsTaken m f x.name
