-- The type of what a line gives, from the types of its operands.
use Rattle.std.proofs.Common.{◌≡◌, ℕ, true, false, List, [], ◌∷◌, ◌++◌, length, map, slice_get, Option, Some, None, refl, ap, sym, ◌∙◌}
use Rattle.std.specs.Prelude.{unwrap_or}
use Rattle.std.specs.Option.{option_map, option_map_or}
use Rattle.std.proofs.lemmas.Bool.{and_parts, cond_both}
use Rattle.std.proofs.lemmas.Option.{same_Some}
use Rattle.kinds.specs.declared.op.Op.{Op}
use Rattle.kinds.specs.declared.rules.Gives.{Gives}
use Rattle.kinds.specs.declared.rules.Gives.TheVariants as G
use Rattle.kinds.specs.Types.{TypeTree, VoidType, laned, bits_of, same_tree}
use Rattle.kinds.specs.Held.{is_void, own_type, IsFirstClass}
use Rattle.kinds.proofs.HeldLaws.{void_is, own_of, lane_own, bits_own, first_class_own}
use Rattle.kinds.specs.Table.{rule_of}
use Rattle.kinds.specs.Fitting.{is_written, takes_fit}
use Rattle.kinds.specs.Typing.{fits_trees, given, typed}
use Rattle.kinds.specs.Structs.{Struct}
use Rattle.llvm_core.specs.Data.{Operand, RowData, Instruction, Phi, Applied, Function}
use Rattle.llvm_core.specs.Form.{types_of, IsFormRow, IsFormInstruction}
use Rattle.llvm_core.proofs.DataLemmas.{within_at}
use Rattle.ll_lines.specs.Lines.{Typed}
use Rattle.ll_bodies.specs.Meaning.{result_type}
use Rattle.ll_said.specs.Said.{typed_of, inst_of}

-- what has no type of its own is void
pub own_or_void : (τ : TypeTree) → option_map_or (λ (τ : TypeTree). τ) (own_type τ) VoidType ≡ τ
own_or_void τ = cond_both (is_void τ) None (Some τ) (λ (o : Option TypeTree). option_map_or (λ (τ : TypeTree). τ) o VoidType ≡ τ) (λ e. sym (void_is τ e)) (λ e. refl)

-- each type of the list is that of a value
abbrev AreValued : List TypeTree → Type 0
AreValued ts = (i : ℕ) (τ : TypeTree) → slice_get ts i ≡ Some τ → is_void τ ≡ false

mapped_some : (f : TypeTree → TypeTree) (o : Option TypeTree) (τ : TypeTree) → option_map f o ≡ Some τ → (t : TypeTree) × (f t ≡ τ)
mapped_some f None τ e = absurd cc
mapped_some f (Some t) τ e = (t, same_Some (f t) τ e)

-- a row gives no void
given_valued : (g : Gives) (w : Option TypeTree) (ts : List TypeTree) (τ : TypeTree) → is_written laned same_tree g w ≡ true → AreValued ts → given g w (slice_get ts 0) (slice_get ts 1) ≡ Some τ → is_void τ ≡ false
given_valued G.Nothing w ts τ written valued e = absurd cc
given_valued G.First w ts τ written valued e = valued 0 τ e
given_valued G.Second w ts τ written valued e = valued 1 τ e
given_valued G.Written None ts τ written valued e = absurd cc
given_valued G.Written (Some υ) ts τ written valued e = ap is_void (sym (same_Some υ τ e)) ∙ lane_own υ written
given_valued G.Bits w ts τ written valued e = let (t, is) = mapped_some bits_of (slice_get ts 0) τ e in ap is_void (sym is) ∙ bits_own t

option_back : (o : Option TypeTree) → ((τ : TypeTree) → o ≡ Some τ → is_void τ ≡ false) → o ≡ own_type (unwrap_or o VoidType)
option_back None h = refl
option_back (Some τ) h = sym (own_of τ (h τ refl))

typed_back : (op : Op) (w : Option TypeTree) (ts : List TypeTree) → fits_trees op w ts ≡ true → AreValued ts → typed op w ts ≡ own_type (unwrap_or (typed op w ts) VoidType)
typed_back op w ts fits valued =
    let written = (and_parts (is_written laned same_tree (rule_of op).gives w) (takes_fit laned same_tree (rule_of op).takes (length ts) w (slice_get ts 0) (slice_get ts 1) (slice_get ts 2)) fits).0 in
    let plain : typed op w ts ≡ given (rule_of op).gives w (slice_get ts 0) (slice_get ts 1) = rw fits refl in
    option_back (typed op w ts) (λ τ e. given_valued (rule_of op).gives w ts τ written valued (sym plain ∙ e))

-- the types beside the operands are those of the operands
pub types_said : (structs : List Struct) (f : Function) (os : List Operand) → map (λ (x : Typed). x.type) (map (typed_of structs f) os) ≡ types_of f os
types_said structs f [] = refl
types_said structs f (o ∷ os) = ap (λ (ts : List TypeTree). types_of f (o ∷ []) ++ ts) (types_said structs f os)

row_type : (structs : List Struct) (f : Function) (type : TypeTree) (r : RowData) → IsFormRow f type r → result_type (inst_of structs f type (Applied r)) ≡ own_type type
row_type structs f type r form =
    let ts = types_of f r.operands in
    let valued : AreValued ts = λ i τ at. first_class_own τ (within_at ts IsFirstClass form.first_class i τ at) in
    ap (typed r.op r.written) (types_said structs f r.operands) ∙ typed_back r.op r.written ts form.fits valued ∙ ap own_type (sym form.result)

-- a line gives what the instruction does
pub type_said : (structs : List Struct) (f : Function) (b : ℕ) (type : TypeTree) (i : Instruction) → IsFormInstruction f b type i → result_type (inst_of structs f type i) ≡ own_type type
type_said structs f b type (Phi entries) form = sym (own_of type (first_class_own type form.2))
type_said structs f b type (Applied r) form = row_type structs f type r form
