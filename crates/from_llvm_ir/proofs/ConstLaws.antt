-- Constants of the source, and their types.
use Rattle.std.proofs.Common.{ℕ, suc, ◌≡◌, ◌+◌, ◌++◌, refl, sym, ap, subst, ◌∙◌, List, Some, All, length, map, slice_get}
use Rattle.std.specs.List.{flat_map}
use Rattle.support.proofs.ListLaws.{slice_get-behind}
use Rattle.support.proofs.OptionLaws.{part_of}
use Rattle.llvm_core.specs.declared.numbers.LLVMType.{LLVMType}
use Rattle.llvm_core.specs.declared.numbers.LLVMConst.{LLVMConst}
use Rattle.llvm_core.specs.declared.code.LLVMValue.TheVariants as V
use Rattle.llvm_core.specs.Module.{Module}
use Rattle.llvm_core.specs.Parts as parts
use Rattle.llvm_core.specs.Sound.{IsModule}
use Rattle.llvm_core.specs.Elements.{HasElements}
use Rattle.llvm_core.specs.Form.{IsHeldFunction, IsMadeOperand, IsShortOperand, constant_type, constant_types, operands_of, value_types}
use Rattle.llvm_core.specs.Data as L
use Rattle.llvm_core.specs.Data.{ConstTree, Placed, Function, trees_of, type_at, const_at, const_type, placed_in}
use Rattle.llvm_core.proofs.DataLemmas.{within_at, const_type_of}
use Rattle.kinds.specs.Held.{IsFirstClass, IsHeldResult}
use Rattle.kinds.specs.Types.{params_of}
use Rattle.kinds.specs.Structs.{Struct}
use Rattle.from_llvm_ir.specs.Known.{IsHeldConst}
use Rattle.from_llvm_ir.specs.Source.{IsListed, IsUsable}
use Rattle.from_llvm_ir.specs.Types.{IsReadyFor, NamesAmong}
use Rattle.from_llvm_ir.proofs.HeldLaws.{held_value_type}
use Rattle.from_llvm_ir.proofs.PlaceLaws.{flat_at}

-- ---- their types

-- the type that is read of a constant
pub const_typed : (m : Module) (c : LLVMConst) (ty : LLVMType) → IsModule m → parts.value_type m (V.Const c) ≡ Some ty → type_at (trees_of m).types ty ≡ const_type (const_at (trees_of m).consts c)
const_typed m c ty sound has =
    let x = part_of parts.const_type (slice_get m.consts c.0) ty has in
    ap (type_at (trees_of m).types) (sym x.1.1) ∙ sym (const_type_of m c x.0 sound x.1.0)

-- that of one that a function uses is among the types of its values
pub constant_value : (g : Function) (c : ConstTree) → IsListed g (L.Constant c) → (k : ℕ) × (slice_get (value_types g) k ≡ Some (const_type c))
constant_value g c l =
    let results = map (λ (p : Placed). p.type) (placed_in g) in
    let constants = flat_map constant_types (placed_in g) in
    let of_user = flat_at constant_type (operands_of l.user.instruction) l.place (L.Constant c) 0 (const_type c) l.here refl in
    let at = flat_at constant_types (placed_in g) l.index l.user of_user.0 (const_type c) l.there of_user.1 in (
      suc (length (params_of g.type ++ results) + at.0),
      slice_get-behind (params_of g.type ++ results) constants at.0 ∙ at.1,
    )

-- so it is translated
pub constant_held : (g : Function) (c : ConstTree) → IsHeldFunction g → IsUsable g (L.Constant c) → IsListed g (L.Constant c) → IsHeldConst c
constant_held g c held u l =
    let k = constant_value g c l in
    record {
      form = u.1.stands;
      held = held_value_type (const_type c) (within_at (value_types g) IsHeldResult held.types k.0 (const_type c) k.1) (subst IsFirstClass (sym u.1.typed) u.1.first_class);
      short = within_at (operands_of l.user.instruction) IsShortOperand (within_at (placed_in g) (λ (p : Placed). All IsShortOperand (operands_of p.instruction)) held.constants l.index l.user l.there) l.place (L.Constant c) l.here;
    }

-- and the structs that it names are there
pub constant_ready : (g : Function) (c : ConstTree) (structs : List Struct) → IsReadyFor g structs → IsListed g (L.Constant c) → NamesAmong structs (const_type c)
constant_ready g c structs ready l = let k = constant_value g c l in within_at (value_types g) (NamesAmong structs) ready.0 k.0 (const_type c) k.1

-- and its elements are those that they ask for
pub constant_made : (g : Function) (c : ConstTree) (structs : List Struct) → IsReadyFor g structs → IsListed g (L.Constant c) → HasElements structs c
constant_made g c structs ready l =
    within_at (operands_of l.user.instruction) (IsMadeOperand structs) (within_at (placed_in g) (λ (p : Placed). All (IsMadeOperand structs) (operands_of p.instruction)) ready.1 l.index l.user l.there) l.place (L.Constant c) l.here
