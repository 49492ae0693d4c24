-- Where no value's type is or holds one for which the dialect has none, and no constant is or has in it what is lacked, the types of all values of
-- a module of the form are held, and its constants short.
use Rattle.std.proofs.Common.{ℕ, zero, suc, inl, inr, ◌≡◌, ◌≤◌, ◌∙◌, nat_le, leb-true, leb-false, refl, sym, ap, subst, Bool, true, false, List, ◌++◌, Option, Some, None, All, map, slice_get}
use Rattle.std.specs.List.{flat_map}
use Rattle.std.specs.Option.{option_map}
use Rattle.std.proofs.lemmas.List.Elements.{All-cons, All-append, All-map, All-weaker}
use Rattle.std.proofs.lemmas.Option.{none-some, same_Some, slice_get-map}
use Rattle.support.proofs.ListLaws.{all_from}
use Rattle.kinds.specs.declared.types.OtherType.{OtherType}
use Rattle.kinds.specs.Types.{TypeTree, RefusedType, result_of, params_of}
use Rattle.kinds.specs.Structs.{Struct}
use Rattle.kinds.specs.Held.{IsFirstClass, IsReturned, IsHeldResult, refused_of}
use Rattle.kinds.proofs.HeldLaws.{returned_if, returned_held}
use Rattle.kinds.proofs.RenamedLaws.{refused_held}
use Rattle.llvm_core.specs.Data as L
use Rattle.llvm_core.specs.Data.{ConstTree, IntConst, FilledConst, BytesConst, ListConst, SplatConst, PlaceholderConst, ConstTrees, NoConsts, ThenConst, Placed, Function, const_type, operand_type, placed_in}
use Rattle.llvm_core.specs.Form as LF
use Rattle.llvm_core.specs.Form.{IsFormFunction, IsHeldFunction, IsShortConst, AreShort, IsShortOperand, constant_type, constant_types, value_types}
use Rattle.llvm_core.proofs.DataLemmas.{within_at}
use Rattle.held_types.specs.Held.{AreHeld, HasPart, HavePart, IsRefusalOf, IsSplat, IsWide}
use Rattle.held_types.specs.declared.held_structs.HeldErr.{HeldErr}
use Rattle.held_types.specs.declared.held_structs.HeldErr.TheVariants as H
use Rattle.from_consts.specs.declared.conversion_err.ConversionErr.{ConversionErr}
use Rattle.from_consts.specs.declared.conversion_err.ConversionErr.TheVariants as E
use Rattle.from_consts.specs.declared.conversion_err.Unsupported.{Unsupported}
use Rattle.from_consts.specs.declared.conversion_err.Unsupported.TheVariants as U
use Rattle.renamed_source.proofs.FormLaws.{get_from}
use Rattle.from_llvm_ir.specs.Refusals.{IsCause, IsEarly, IsUnsupported}
use Rattle.from_consts.specs.Forward.{of_held}
use Rattle.from_llvm_ir.proofs.PlaceLaws.{flat_from}

-- so it is not refused for one
pub held_unsupported : (d : L.ModuleData) → AreHeld d → (u : Unsupported) → IsUnsupported d u → ⊥
held_unsupported d held (U.Ty of) h = held.types of h
held_unsupported d held U.ScalableSplat h = held.splats h

-- nor before anything is made
pub held_late : (d : L.ModuleData) (structs : List Struct) → AreHeld d → (e : ConversionErr) → IsCause structs d e → IsEarly e → ⊥
held_late d structs held (E.UndefinedValue name v) h early = early
held_late d structs held (E.IntConstTooWide width) h early = held.constants width h
held_late d structs held (E.Unsupported u) h early = held_unsupported d held u h
held_late d structs held (E.Struct s) h early = early
held_late d structs held E.NoMemory h early = early

-- and what is not held is why it refuses
pub held_cause : (d : L.ModuleData) (structs : List Struct) (e : HeldErr) → IsRefusalOf d e → IsCause structs d (of_held e)
held_cause d structs (H.Lacks of) unheld = unheld
held_cause d structs (H.TooWide width) unheld = unheld
held_cause d structs H.ScalableSplat unheld = unheld
held_cause d structs H.NoMemory unheld = tt

-- ---- types of values that the form allows

-- each operand of an instruction is of a type of values
operand_first_class : (f : Function) (m : ℕ) (type : TypeTree) (i : L.Instruction) → LF.IsFormInstruction f m type i → (j : ℕ) (o : L.Operand) → slice_get (LF.operands_of i) j ≡ Some o → IsFirstClass (operand_type f o)
operand_first_class f m type (L.Phi es) h j o at =
    let e = get_from (λ (e : L.Operand × ℕ). e.0) es j o at in
    let x = within_at es (λ (e : L.Operand × ℕ). LF.IsOperand f type e.0) h.0 j e.0 e.1 in
    subst IsFirstClass (sym x.typed ∙ ap (operand_type f) e.2) x.first_class
operand_first_class f m type (L.Applied r) h j o at =
    within_at (LF.types_of f r.operands) IsFirstClass h.first_class j (operand_type f o) (slice_get-map (operand_type f) r.operands j ∙ ap (option_map (operand_type f)) at)

-- the type of an operand that is a constant is the operand's
constant_typed : (f : Function) (o : L.Operand) (k : ℕ) (t : TypeTree) → slice_get (constant_type o) k ≡ Some t → operand_type f o ≡ t
constant_typed f (L.Constant c) zero t at = same_Some (const_type c) t at
constant_typed f (L.Constant c) (suc k) t at = absurd (none-some t at)
constant_typed f (L.Parameter g i) k t at = absurd (none-some t at)
constant_typed f (L.Result n) k t at = absurd (none-some t at)

module _ (f : Function) (form : IsFormFunction f) where
  record PlacedForm (p : Placed) : Type 0 where
    number : ℕ
    is : LF.IsFormPlaced f number p

  placed_form : (k : ℕ) (p : Placed) → slice_get (placed_in f) k ≡ Some p → PlacedForm p
  placed_form k p here =
      let b = flat_from (λ (c : L.Block). c.instructions) f.blocks k p here in
      record { number = b.item.number; is = within_at b.item.instructions (LF.IsFormPlaced f b.item.number) (within_at f.blocks (LF.IsFormBlock f) form.blocks b.place b.item b.here).instructions b.inner p b.at }

  placed_returned : (k : ℕ) (p : Placed) → slice_get (placed_in f) k ≡ Some p → IsReturned p.type
  placed_returned k p here = (placed_form k p here).is.returned

  constant_returned : (k : ℕ) (t : TypeTree) → slice_get (flat_map constant_types (placed_in f)) k ≡ Some t → IsReturned t
  constant_returned k t at =
      let p = flat_from constant_types (placed_in f) k t at in
      let o = flat_from constant_type (LF.operands_of p.item.instruction) p.inner t p.at in
      let b = placed_form p.place p.item p.here in
      returned_if t (subst IsFirstClass (constant_typed f o.item o.inner t o.at) (operand_first_class f b.number p.item.type p.item.instruction b.is.instruction o.place o.item o.here))

  pub values_returned : All IsReturned (value_types f)
  values_returned =
      let results = map (λ (p : Placed). p.type) (placed_in f) in
      let constants = flat_map constant_types (placed_in f) in
      let first = subst (λ (t : TypeTree). IsReturned (result_of t)) (sym form.type) form.returns in
      let taken = All-weaker IsFirstClass IsReturned returned_if (params_of f.type) (subst (λ (u : TypeTree). All IsFirstClass (params_of u)) (sym form.type) form.takes) in
      let placed = All-map IsReturned (λ (p : Placed). p.type) (placed_in f) (all_from (λ (p : Placed). IsReturned p.type) (placed_in f) placed_returned) in
      let used = all_from IsReturned constants constant_returned in
      All-cons IsReturned (result_of f.type) (params_of f.type ++ results ++ constants) first (All-append IsReturned (params_of f.type ++ results) constants (All-append IsReturned (params_of f.type) results taken placed) used)

-- ---- none of them is lacked

mutual
  -- a constant that is no wide integer or splat, and has none in it
  short_const : (c : ConstTree) → ((width : ℕ) → HasPart (IsWide width) c → ⊥) → (HasPart IsSplat c → ⊥) → IsShortConst c
  short_const (IntConst w v) wide splat = by (nat_le w 64) refl
    where
      by : (b : Bool) → nat_le w 64 ≡ b → w ≤ 64
      by true e = leb-true w 64 e
      by false e = absurd (wide w ((v, refl), leb-false w 64 e))
  short_const (FilledConst fill t) wide splat = tt
  short_const (BytesConst bytes) wide splat = tt
  short_const (ListConst t cs) wide splat = short_consts cs (λ width part. wide width (inr part)) (λ part. splat (inr part))
  short_const (SplatConst t c) wide splat = absurd (splat (inl (t, c, refl)))
  short_const (PlaceholderConst n t) wide splat = tt

  short_consts : (cs : ConstTrees) → ((width : ℕ) → HavePart (IsWide width) cs → ⊥) → (HavePart IsSplat cs → ⊥) → AreShort cs
  short_consts NoConsts wide splat = tt
  short_consts (ThenConst c cs) wide splat =
      (short_const c (λ width part. wide width (inl part)) (λ part. splat (inl part)), short_consts cs (λ width part. wide width (inr part)) (λ part. splat (inr part)))

module _ (d : L.ModuleData) (held : AreHeld d) (place : ℕ) (f : Function) (at : slice_get d.functions place ≡ Some f) (form : IsFormFunction f) where
  value_held : (index : ℕ) (t : TypeTree) → slice_get (value_types f) index ≡ Some t → IsReturned t → IsHeldResult t
  value_held index t here returned = returned_held t returned (by (refused_of t) refl)
    where
      by : (o : Option OtherType) → refused_of t ≡ o → refused_of t ≡ None
      by None is = is
      by (Some of) is = absurd (held.types of (record { place = place; f = f; at = at; index = index; type = t; here = here; holds = refused_held d.structs t of is }))

  -- nor has a constant what is lacked
  operand_short : (index : ℕ) (p : Placed) → slice_get (placed_in f) index ≡ Some p → (j : ℕ) (o : L.Operand) → slice_get (LF.operands_of p.instruction) j ≡ Some o → IsShortOperand o
  operand_short index p here j (L.Constant c) used =
      short_const c (λ width part. held.constants width (record { place = place; f = f; at = at; index = index; p = p; here = here; operand = j; constant = c; used = used; part = part }))
      (λ part. held.splats (record { place = place; f = f; at = at; index = index; p = p; here = here; operand = j; constant = c; used = used; part = part }))
  operand_short index p here j (L.Parameter g i) used = tt
  operand_short index p here j (L.Result n) used = tt

  function_held : IsHeldFunction f
  function_held = record {
    types = all_from IsHeldResult (value_types f) (λ k t here. value_held k t here (within_at (value_types f) IsReturned (values_returned f form) k t here));
    constants = all_from (λ (p : Placed). All IsShortOperand (LF.operands_of p.instruction)) (placed_in f) (λ k p here. all_from IsShortOperand (LF.operands_of p.instruction) (operand_short k p here));
  }

pub form_held : (d : L.ModuleData) → All IsFormFunction d.functions → AreHeld d → All IsHeldFunction d.functions
form_held d form held = all_from IsHeldFunction d.functions (λ k f at. function_held d held k f at (within_at d.functions IsFormFunction form k f at))
