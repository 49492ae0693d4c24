-- What is said of operands and blocks stands for them in the scope of the whole function.
use Rattle.std.proofs.Common.{◌≡◌, ℕ, ◌+◌, ◌<◌, List, Bool, false, cond, [], get_or, length, slice_get, Some, refl, ap, sym, ◌∙◌, subst, eq-eqb, arith}
use Rattle.std.specs.List.{flat_map}
use Rattle.std.proofs.lemmas.Option.{slice_get-get_or}
use Rattle.kinds.specs.Types.{TypeTree, VoidType}
use Rattle.kinds.specs.Held.{is_void}
use Rattle.kinds.proofs.TypeLaws.{tree_self}
use Rattle.kinds.proofs.HeldLaws.{first_class_own}
use Rattle.kinds.specs.Names.{IsGoodOrNone}
use Rattle.kinds.specs.Structs.{Struct}
use Rattle.llvm_core.specs.Data.{Operand, Constant, Parameter, Result, Placed, Block, Function, operand_type, placed_in, param_type, const_type}
use Rattle.llvm_core.specs.Form.{IsOperandOf, IsOperand, IsMadeOperand, IsFormBlock}
use Rattle.llvm_core.proofs.DataLemmas.{within_at}
use Rattle.ll_literals.specs.Text.{Text}
use Rattle.ll_lines.specs.Lines.{Local}
use Rattle.ll_bodies.specs.Scopes.{ValueLocal, BlockLocal, block_of}
use Rattle.ll_bodies.specs.Meaning.{operand, entry}
use Rattle.ll_said.specs.Naming.{Unnamed, ParamAt, BlockOf, ResultOf, local_text, block_ref}
use Rattle.ll_said.specs.Said.{said_of, entry_of}
use Rattle.ll_said.specs.Sayable.{IsSayable}
use Rattle.ll_said.proofs.ConstMeaning.{const_says}
use Rattle.ll_said.proofs.NameLaws.{key_in, local_says}
use Rattle.ll_said.proofs.ScopeLaws.{Thing, Has}
use Rattle.ll_said.proofs.ThingLaws.{HasBlockNumber, param_things, thing_of, block_thing, block_things, has_front, has_behind, has_param, has_block, has_placed}
use Rattle.ll_said.proofs.KnownLaws.{scope_of, placed_name, type_of_result, name_of_result, block_ref_is, known_key}

-- ---- values

local_value : (structs : List Struct) (f : Function) → IsSayable f → (n : Text) (x : Unnamed) (o : Operand) (τ : TypeTree) → IsGoodOrNone n → (scope_of f).known (key_in f n x) ≡ Some (ValueLocal o τ)
    → operand structs (scope_of f) τ (Local (local_text f n x)) ≡ Some o
local_value structs f h n x o τ good known = rw (local_says f n x h.few good, known, tree_self τ) refl

result_said : (structs : List Struct) (f : Function) → IsSayable f → (i : ℕ) (p : Placed) → slice_get (placed_in f) i ≡ Some p → is_void p.type ≡ false
    → operand structs (scope_of f) (operand_type f (Result p.number)) (said_of structs f (Result p.number)) ≡ Some (Result p.number)
result_said structs f h i p at some =
    let has = has_behind (thing_of p) (param_things 0 f.params) (flat_map block_things f.blocks) (has_placed f.blocks i p at some) in
    ap (λ (n : Text). operand structs (scope_of f) (operand_type f (Result p.number)) (Local (local_text f n (ResultOf p.number)))) (name_of_result f h.form i p at)
    ∙ local_value structs f h p.name (ResultOf p.number) (Result p.number) (operand_type f (Result p.number)) (placed_name f h.form i p at) (known_key f h (thing_of p) has)

param_said : (structs : List Struct) (f : Function) → IsSayable f → (i : ℕ) → i < length f.params → operand structs (scope_of f) (param_type f.type i) (said_of structs f (Parameter f.number i)) ≡ Some (Parameter f.number i)
param_said structs f h i within =
    let n = get_or f.params i [] in
    let at : slice_get f.params i ≡ Some n = slice_get-get_or f.params i [] within in
    let here : 0 + i ≡ i = omega arith in
    let t : Thing = record { name = n; place = ParamAt i } in
    let has = has_front t (param_things 0 f.params) (flat_map block_things f.blocks) (subst (λ (j : ℕ). Has (record { name = n; place = ParamAt j }) (param_things 0 f.params)) here (has_param 0 i f.params n at)) in
    local_value structs f h n (ParamAt i) (Parameter f.number i) (param_type f.type i) (h.form.param_names i [] within) (known_key f h t has)

-- an operand of the function
pub operand_said : (structs : List Struct) (f : Function) → IsSayable f → (o : Operand) → IsOperandOf f o → IsMadeOperand structs o → is_void (operand_type f o) ≡ false → operand structs (scope_of f) (operand_type f o) (said_of structs f o) ≡ Some o
operand_said structs f h (Constant c) stands made some = rw (const_says structs c stands made, tree_self (const_type c)) refl
operand_said structs f h (Parameter g i) stands made some =
    let own : operand_type f (Parameter f.number i) ≡ param_type f.type i = ap (λ (b : Bool). cond b (param_type f.type i) VoidType) (eq-eqb f.number f.number refl) in
    let said = ap (λ (τ : TypeTree). operand structs (scope_of f) τ (said_of structs f (Parameter f.number i))) own ∙ param_said structs f h i stands.1 in
    subst (λ (k : ℕ). operand structs (scope_of f) (operand_type f (Parameter k i)) (said_of structs f (Parameter k i)) ≡ Some (Parameter k i)) (sym stands.0) said
operand_said structs f h (Result n) stands made some =
    let p = stands.1 in
    let own = ap (λ (k : ℕ). operand_type f (Result k)) (sym stands.3) ∙ type_of_result f h.form stands.0 p stands.2 in
    let valued : is_void p.type ≡ false = ap is_void (sym own) ∙ some in
    subst (λ (k : ℕ). operand structs (scope_of f) (operand_type f (Result k)) (said_of structs f (Result k)) ≡ Some (Result k)) stands.3 (result_said structs f h stands.0 p stands.2 valued)

-- ---- blocks

block_here : (f : Function) → IsSayable f → (i : ℕ) (b : Block) → slice_get f.blocks i ≡ Some b → block_of (scope_of f) (block_ref f b.number) ≡ Some b.number
block_here f h i b at =
    let good = (within_at f.blocks (IsFormBlock f) h.form.blocks i b at).label in
    let has = has_behind (block_thing b) (param_things 0 f.params) (flat_map block_things f.blocks) (has_block f.blocks i b at) in
    ap (block_of (scope_of f)) (block_ref_is f h.form i b at) ∙ local_block b.name b.number good (known_key f h (block_thing b) has)
  where
    local_block : (n : Text) (k : ℕ) → IsGoodOrNone n → (scope_of f).known (key_in f n (BlockOf k)) ≡ Some (BlockLocal k) → block_of (scope_of f) (local_text f n (BlockOf k)) ≡ Some k
    local_block n k good known = rw (local_says f n (BlockOf k) h.few good, known) refl

-- a block of the function
pub block_said : (f : Function) → IsSayable f → (n : ℕ) → HasBlockNumber n f.blocks → block_of (scope_of f) (block_ref f n) ≡ Some n
block_said f h n has = subst (λ (k : ℕ). block_of (scope_of f) (block_ref f k) ≡ Some k) has.3 (block_here f h has.0 has.1 has.2)

-- an entry of a phi
pub entry_said : (structs : List Struct) (f : Function) → IsSayable f → (τ : TypeTree) (e : Operand × ℕ) → IsOperand f τ e.0 → IsMadeOperand structs e.0 → HasBlockNumber e.1 f.blocks → entry structs (scope_of f) τ (entry_of structs f e) ≡ Some e
entry_said structs f h τ e op made has =
    let valued : is_void (operand_type f e.0) ≡ false = ap is_void op.typed ∙ first_class_own τ op.first_class in
    let value : operand structs (scope_of f) τ (said_of structs f e.0) ≡ Some e.0 = subst (λ (υ : TypeTree). operand structs (scope_of f) υ (said_of structs f e.0) ≡ Some e.0) op.typed (operand_said structs f h e.0 op.stands made valued) in
    rw (value, block_said f h e.1 has) refl
