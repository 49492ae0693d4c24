-- Modules of the form that is read today: functions with a body of phis and rows of the table, over first class types. It
-- is translated where these types are held.
use Rattle.std.specs.Prelude.{◌≡◌, ◌<◌, ◌≤◌, ◌^◌, ℕ, suc, Bool, true, false, is_some, nat_eq, List, [], ◌∷◌, ◌++◌, length, map, filter, slice_get, unwrap_or, Some, All}
use Rattle.std.specs.List.{flat_map}
use Rattle.std.specs.Option.{option_map_or}
use Rattle.kinds.specs.Structs.{IsFormStruct, IsNested}
use Rattle.llvm_core.specs.Data.{TypeTree, VoidType, FunctionType, NamedType, TypeTrees, StructBody, Struct, ConstTree, IntConst, FilledConst, BytesConst, ListConst, SplatConst, PlaceholderConst, ConstTrees, NoConsts, ThenConst, Operand, Constant, Parameter, Result, RowData, Instruction, Phi, Applied, Placed, Block, Function, ModuleData, const_type, operand_type, placed_in, targets, phi_entries, listed, formed}
use Rattle.kinds.specs.declared.rules.Takes.{Takes}
use Rattle.kinds.specs.declared.rules.Takes.TheVariants as O
use Rattle.kinds.specs.Rules.{ends, target_count, operand_count}
use Rattle.kinds.specs.Table.{rule_of}
use Rattle.kinds.specs.Typing.{fits_trees, typed}
use Rattle.kinds.specs.Fill.{is_own_fill}
use Rattle.kinds.specs.Types.{shape, types_list, count_types, result_of, params_of}
use Rattle.kinds.specs.Held.{is_void, IsShallow, IsFirstClass, IsReturned, IsHeldResult}
use Rattle.llvm_core.specs.Edges.{count_of}
use Rattle.llvm_core.specs.Parts.{IsIntAt}
use Rattle.support.specs.Interned.{IsDistinctList}
use Rattle.kinds.specs.Names.{is_good_name, is_intrinsic_name, IsGoodOrNone}
use Rattle.llvm_core.specs.Elements.{HasElements}
use Rattle.llvm_core.specs.Checked.{ends_in_only, named}

-- ---- types and operands

abbrev mutual
  -- A constant of the form is in the one form of constants, all the way in: an integer that fits its width, undef, poison, the zero of
  -- what is no integer type, bytes not all of which are 0, a list that is no zero, undef, poison or bytes, or a splat that is none of
  -- these. Of which type it may be is asked where it stands, and whether its elements are those of its type of the module.
  pub IsFormConst : ConstTree → Type 0
  IsFormConst (IntConst w v) = (1 ≤ w) × IsIntAt w v
  IsFormConst (FilledConst fill type) = is_own_fill fill (shape type) ≡ true
  IsFormConst (BytesConst bytes) = All (λ (b : ℕ). b < 2 ^ 8) bytes × (formed (BytesConst bytes) ≡ BytesConst bytes)
  IsFormConst (ListConst type elements) = (listed type elements ≡ ListConst type elements) × AreFormConsts elements
  IsFormConst (SplatConst type element) = (formed (SplatConst type element) ≡ SplatConst type element) × IsFormConst element
  IsFormConst (PlaceholderConst n type) = ⊥

  pub AreFormConsts : ConstTrees → Type 0
  AreFormConsts NoConsts = Unit {0}
  AreFormConsts (ThenConst c cs) = IsFormConst c × AreFormConsts cs

-- one of the instructions has that number
abbrev pub HasNumber : ℕ → List Placed → Type 0
HasNumber n ps = (i : ℕ) × (p : Placed) × (slice_get ps i ≡ Some p) × (p.number ≡ n)

-- a constant of the form, a parameter of the function f, or the result of an instruction of it
abbrev pub IsOperandOf : Function → Operand → Type 0
IsOperandOf f (Constant c) = IsFormConst c
IsOperandOf f (Parameter g i) = (g ≡ f.number) × (i < length f.params)
IsOperandOf f (Result n) = HasNumber n (placed_in f)

-- an operand of that type, which is first class, wherever it is defined in the function
pub record IsOperand (f : Function) (type : TypeTree) (o : Operand) : Type 0 where
  pub stands : IsOperandOf f o
  pub typed : operand_type f o ≡ type
  pub first_class : IsFirstClass type

-- ---- edges

-- the blocks that a block leads to, by number, each as often as it is named
abbrev pub targets_of : Block → List ℕ
targets_of b = flat_map (λ (p : Placed). targets p.instruction) b.instructions

-- how many edges lead from the block of the number p to that of the number b
abbrev pub edges_between : Function → (p b : ℕ) → ℕ
edges_between f p b = count_of b (flat_map targets_of (filter (λ (x : Block). nat_eq x.number p) f.blocks))

-- a block of the function behind the first: no edge leads to the entry
abbrev pub IsTarget : Function → ℕ → Type 0
IsTarget f n = (i : ℕ) × (b : Block) × (slice_get f.blocks (suc i) ≡ Some b) × (b.number ≡ n)

-- the entries of a phi of the block of the number b: one for each edge that leads there, of which there is one,
-- and those for one block have one operand
pub record FitsEdges (f : Function) (b : ℕ) (entries : List (Operand × ℕ)) : Type 0 where
  pub counts : (p : ℕ) → count_of p (map (λ (e : Operand × ℕ). e.1) entries) ≡ edges_between f p b
  pub alike : (i j : ℕ) (x y : Operand × ℕ) → slice_get entries i ≡ Some x → slice_get entries j ≡ Some y → x.1 ≡ y.1 → x.0 ≡ y.0
  pub some : ¬ (entries ≡ [])

-- ---- instructions

-- what a return has is of the type that the function returns; of what takes other operands it is not asked
abbrev pub IsReturning : Takes → Function → List Operand → Type 0
IsReturning O.Nothing f os = Unit {0}
IsReturning (O.One x) f os = Unit {0}
IsReturning (O.Two x y) f os = Unit {0}
IsReturning (O.Three x y z) f os = Unit {0}
IsReturning O.Return f os = All (λ (o : Operand). operand_type f o ≡ result_of f.type) os

abbrev pub returns_void : Function → Bool
returns_void f = is_void (result_of f.type)

-- the types of operands
abbrev pub types_of : Function → List Operand → List TypeTree
types_of f os = map (operand_type f) os

-- a row of the function f, with a result of the type: what it names is there, and the table's rule holds
pub record IsFormRow (f : Function) (type : TypeTree) (r : RowData) : Type 0 where
  pub operands : All (IsOperandOf f) r.operands
  pub first_class : All IsFirstClass (types_of f r.operands)
  pub count : length r.operands ≡ operand_count (rule_of r.op).takes (returns_void f)
  pub fits : fits_trees r.op r.written (types_of f r.operands) ≡ true
  pub returns : IsReturning (rule_of r.op).takes f r.operands
  pub result : type ≡ unwrap_or (typed r.op r.written (types_of f r.operands)) VoidType
  pub targets : All (IsTarget f) r.targets
  pub leads : length r.targets ≡ target_count (rule_of r.op).leads

-- an instruction of the block of the number b in the function f, with a result of the type
abbrev pub IsFormInstruction : Function → (b : ℕ) → (type : TypeTree) → Instruction → Type 0
IsFormInstruction f b type (Phi entries) = All (λ (e : Operand × ℕ). IsOperand f type e.0) entries × FitsEdges f b entries × IsFirstClass type
IsFormInstruction f b type (Applied r) = IsFormRow f type r

-- an instruction of the block of the number b: the type of its result, where it has one, is first class, and its name is
-- one that the form takes, or none; what has no result has no name
pub record IsFormPlaced (f : Function) (b : ℕ) (p : Placed) : Type 0 where
  pub instruction : IsFormInstruction f b p.type p.instruction
  pub returned : IsReturned p.type
  pub name : IsGoodOrNone p.name
  pub unnamed : p.type ≡ VoidType → p.name ≡ []

abbrev pub is_terminator : Instruction → Bool
is_terminator (Phi entries) = false
is_terminator (Applied r) = ends (rule_of r.op).leads

abbrev pub is_last : Placed → Bool
is_last p = is_terminator p.instruction

abbrev pub is_phi : Placed → Bool
is_phi p = is_some (phi_entries p.instruction)

-- no phi stands behind what is no phi
abbrev pub HasPhisFirst : List Placed → Type 0
HasPhisFirst ps = (i j : ℕ) (x y : Placed) → i < j → slice_get ps i ≡ Some x → slice_get ps j ≡ Some y → is_phi x ≡ false → is_phi y ≡ false

-- ---- blocks, functions and modules

-- a block of the function f
pub record IsFormBlock (f : Function) (b : Block) : Type 0 where
  pub label : IsGoodOrNone b.name
  pub instructions : All (IsFormPlaced f b.number) b.instructions
  pub phis : HasPhisFirst b.instructions
  pub ends : ends_in_only is_last b.instructions ≡ true

-- a function of the form: it has a body, and so it is no intrinsic
pub record IsFormFunction (f : Function) : Type 0 where
  pub name : is_good_name f.name ≡ true
  pub own : is_intrinsic_name f.name ≡ false
  pub result : TypeTree
  pub types : TypeTrees
  pub type : f.type ≡ FunctionType result types false
  pub returns : IsReturned result
  pub takes : All IsFirstClass (types_list types)
  pub shallow : IsShallow f.type
  pub space : f.space ≡ 0
  pub params : length f.params ≡ count_types types
  pub param_names : All IsGoodOrNone f.params
  pub body : ¬ (f.blocks ≡ [])
  pub blocks : All (IsFormBlock f) f.blocks
  pub block_numbers : IsDistinctList (map (λ (b : Block). b.number) f.blocks)
  pub numbers : IsDistinctList (map (λ (p : Placed). p.number) (placed_in f))

-- the operands of an instruction in order
abbrev pub operands_of : Instruction → List Operand
operands_of (Phi entries) = map (λ (e : Operand × ℕ). e.0) entries
operands_of (Applied r) = r.operands

-- the type of an operand that is a constant
abbrev pub constant_type : Operand → List TypeTree
constant_type (Constant c) = const_type c ∷ []
constant_type (Parameter g i) = []
constant_type (Result n) = []

-- the types of the constants that an instruction uses
abbrev pub constant_types : Placed → List TypeTree
constant_types p = flat_map constant_type (operands_of p.instruction)

-- the types in use: that of each struct, of each function, of each result and of each constant
abbrev pub types_in : ModuleData → List TypeTree
types_in d = map (λ (s : Struct). NamedType s.name) d.structs ++ map (λ (f : Function). f.type) d.functions ++ map (λ (p : Placed). p.type) (flat_map placed_in d.functions) ++ flat_map constant_types (flat_map placed_in d.functions)

-- where an operand is a constant, its elements are those that its type asks for, all the way in
abbrev pub IsMadeOperand : List Struct → Operand → Type 0
IsMadeOperand structs (Constant c) = HasElements structs c
IsMadeOperand structs (Parameter g i) = Unit {0}
IsMadeOperand structs (Result n) = Unit {0}

-- so it is for each operand of the function
abbrev pub HasMadeOperands : List Struct → Function → Type 0
HasMadeOperands structs f = All (λ (p : Placed). All (IsMadeOperand structs) (operands_of p.instruction)) (placed_in f)

-- A module of the form, whatever its own name is: no type in use nests too deep through the fields of structs, and the constants that
-- instructions use have the elements that their types ask for.
pub record IsForm (d : ModuleData) : Type 0 where
  pub functions : All IsFormFunction d.functions
  pub structs : All IsFormStruct d.structs
  pub nested : All (IsNested d.structs) (types_in d)
  pub elements : All (HasMadeOperands d.structs) d.functions

-- ---- what is translated

-- the types of a function's values: of what it returns and takes, of each instruction's result, void where it has none, and
-- of the constants that instructions use
abbrev pub value_types : Function → List TypeTree
value_types f = result_of f.type ∷ params_of f.type ++ map (λ (p : Placed). p.type) (placed_in f) ++ flat_map constant_types (placed_in f)

abbrev mutual
  -- a constant that is translated: each integer in it has at most 64 bits, and nothing in it is a splat of a scalable vector
  pub IsShortConst : ConstTree → Type 0
  IsShortConst (IntConst w v) = w ≤ 64
  IsShortConst (FilledConst fill type) = Unit {0}
  IsShortConst (BytesConst bytes) = Unit {0}
  IsShortConst (ListConst type elements) = AreShort elements
  IsShortConst (SplatConst type element) = ⊥
  IsShortConst (PlaceholderConst n type) = Unit {0}

  pub AreShort : ConstTrees → Type 0
  AreShort NoConsts = Unit {0}
  AreShort (ThenConst c cs) = IsShortConst c × AreShort cs

-- so where an operand is a constant; of another nothing is asked
abbrev pub IsShortOperand : Operand → Type 0
IsShortOperand (Constant c) = IsShortConst c
IsShortOperand (Parameter g i) = Unit {0}
IsShortOperand (Result n) = Unit {0}

-- each value of the function is of a type that is translated, as far as the type itself says: what stands in the structs
-- that it names is not looked at; and each constant that an instruction uses is translated
pub record IsHeldFunction (f : Function) : Type 0 where
  pub types : All IsHeldResult (value_types f)
  pub constants : All (λ (p : Placed). All IsShortOperand (operands_of p.instruction)) (placed_in f)

-- ---- what the form asks beside the rules of a checked module

-- an operand of a first class type
abbrev pub IsNarrowOperand : Function → Operand → Type 0
IsNarrowOperand f o = IsFirstClass (operand_type f o)

-- the types of operands, and of a result where there is one, are first class; what has no result has no name
pub record IsNarrowPlaced (f : Function) (p : Placed) : Type 0 where
  pub name : IsGoodOrNone p.name
  pub unnamed : p.type ≡ VoidType → p.name ≡ []
  pub result : IsReturned p.type
  pub operands : All (IsNarrowOperand f) (operands_of p.instruction)

pub record IsNarrowBlock (f : Function) (b : Block) : Type 0 where
  pub label : IsGoodOrNone b.name
  pub instructions : All (IsNarrowPlaced f) b.instructions

-- names that the form takes, a body, first class types, and no block or instruction listed twice
pub record IsNarrowFunction (f : Function) : Type 0 where
  pub name : is_good_name f.name ≡ true
  pub result : TypeTree
  pub types : TypeTrees
  pub type : f.type ≡ FunctionType result types false
  pub returns : IsReturned result
  pub takes : All IsFirstClass (types_list types)
  pub param_names : All IsGoodOrNone f.params
  pub body : ¬ (f.blocks ≡ [])
  pub blocks : All (IsNarrowBlock f) f.blocks
  pub block_numbers : IsDistinctList (map (λ (b : Block). b.number) f.blocks)
  pub numbers : IsDistinctList (map (λ (p : Placed). p.number) (placed_in f))

-- and structs with names and fields that the form takes
pub record IsNarrow (d : ModuleData) : Type 0 where
  pub functions : All IsNarrowFunction d.functions
  pub structs : All IsFormStruct d.structs

-- ---- names and lengths

-- the names of the parameters, blocks and results of a function, where they have one
abbrev pub names_in : Block → List (List ℕ)
names_in b = named b.name ++ flat_map (λ (p : Placed). named p.name) b.instructions

abbrev pub local_names : Function → List (List ℕ)
local_names f = flat_map named f.params ++ flat_map names_in f.blocks

-- no two structs share a name, no two functions do, and no two named things of a function
pub record HasDistinctNames (d : ModuleData) : Type 0 where
  pub structs : IsDistinctList (map (λ (s : Struct). s.name) d.structs)
  pub functions : IsDistinctList (map (λ (f : Function). f.name) d.functions)
  pub locals : All (λ (f : Function). IsDistinctList (local_names f)) d.functions

-- lists of fewer than 2^31 entries
pub record IsFewIn (f : Function) : Type 0 where
  pub params : length f.params < 2 ^ 31
  pub blocks : length f.blocks < 2 ^ 31
  pub instructions : All (λ (b : Block). length b.instructions < 2 ^ 31) f.blocks
  pub operands : All (λ (p : Placed). length (operands_of p.instruction) < 2 ^ 31) (placed_in f)

pub record HasFew (d : ModuleData) : Type 0 where
  pub structs : length d.structs < 2 ^ 31
  pub fields : All (λ (s : Struct). option_map_or (λ (b : StructBody). count_types b.fields) s.body 0 < 2 ^ 31) d.structs
  pub functions : length d.functions < 2 ^ 31
  pub each : All IsFewIn d.functions
