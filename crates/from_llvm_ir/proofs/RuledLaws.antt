-- A whole function keeps the rules of constants, where the elements of each constant that its source uses are those that the structs ask for.
use Rattle.std.proofs.Common.{ℕ, zero, suc, ◌≡◌, ◌∙◌, inl, inr, refl, sym, ap, subst, Bool, true, false, not, nat_eq, List, [], ◌∷◌, ◌++◌, Option, Some, None, All, filter, length, map, slice_get, if◌then◌else◌}
use Rattle.std.specs.List.{find, flat_map, filter_map, cons_option}
use Rattle.std.specs.Option.{option_map, option_and_then}
use Rattle.std.proofs.lemmas.Option.{same_Some}
use Rattle.support.proofs.ListLaws.{all_from, filter_from, slice_get-behind_cases, slice_get-kept, slice_get-push}
use Rattle.kinds.specs.Structs.{Struct}
use Rattle.llvm_core.specs.Data as L
use Rattle.llvm_core.specs.Data.{ConstTree, Placed, placed_in, phi_entries, targets}
use Rattle.llvm_core.specs.Elements.{HasElements}
use Rattle.llvm_core.specs.Form.{HasMadeOperands, IsMadeOperand, is_phi, operands_of}
use Rattle.llvm_core.proofs.DataLemmas.{within_at}
use Rattle.dialect_types.proofs.TreeLemmas.{push_cases}
use Rattle.dialect_core.specs.Data.{DialectBlock, DialectOp, Kind, ops_in}
use Rattle.dialect_core.specs.Form.{IsRuled, IsRuledKind}
use Rattle.from_llvm_ir.specs.Imported.{FirstUses, NoUses, UsedAgain, UsedFirst, IsIn, constant_in, constants_in, first_entry, passed, rest_of}
use Rattle.from_llvm_ir.specs.Known.{Known, blocks_of}
use Rattle.from_llvm_ir.specs.Converted.{IsKind}
use Rattle.from_llvm_ir.proofs.AttrLaws.{kind_ruled}
use Rattle.from_llvm_ir.proofs.EdgeLaws.{op_cases}
use Rattle.from_llvm_ir.proofs.OrderLaws.{ordered_at}
use Rattle.from_llvm_ir.proofs.PlaceLaws.{flat_at, flat_from}
use Rattle.from_llvm_ir.proofs.Whole.{Head, IsWhole, the_func}

-- ---- items of lists

-- an item of which the partial map gives that
abbrev GivenBy : {X Y : Type 0} → (X → Option Y) → Y → List X → Type 0
GivenBy {X = X} f y xs = (i : ℕ) × (x : X) × (slice_get xs i ≡ Some x) × (f x ≡ Some y)

given_later : {X Y : Type 0} (f : X → Option Y) (y : Y) (x : X) (xs : List X) → GivenBy f y xs → GivenBy f y (x ∷ xs)
given_later f y x xs r = (suc r.0, r.1, r.2, r.3)

-- what a partial map gives comes from an item
map_from : {X Y : Type 0} (f : X → Option Y) (xs : List X) (k : ℕ) (y : Y) → slice_get (filter_map f xs) k ≡ Some y → GivenBy f y xs
map_from f [] k y h = cc
map_from {X = X} {Y = Y} f (x ∷ xs) k y h = by (f x) refl k h (λ j here. map_from f xs j y here)
  where
    by : (o : Option Y) → f x ≡ o → (k : ℕ) → slice_get (cons_option o (filter_map f xs)) k ≡ Some y → ((j : ℕ) → slice_get (filter_map f xs) j ≡ Some y → GivenBy f y xs) → GivenBy f y (x ∷ xs)
    by None e k h rest = given_later f y x xs (rest k h)
    by (Some z) e zero h rest = (zero, x, refl, e ∙ h)
    by (Some z) e (suc k) h rest = given_later f y x xs (rest k h)

-- what stands where an item stands first is used
first_used : {A : Type 0} (uses firsts : List A) (x : A) → FirstUses uses firsts → IsIn firsts x → IsIn uses x
first_used uses firsts x NoUses h = h
first_used uses firsts x (UsedAgain us fs y before again) h = let r = first_used us fs x before h in (r.0, slice_get-kept us (y ∷ []) r.0 x r.1)
first_used uses firsts x (UsedFirst us fs y before new) h = elim (push_cases fs y x h.0 h.1) [
  | inl old ↦ let r = first_used us fs x before (h.0, old) in (r.0, slice_get-kept us (y ∷ []) r.0 x r.1)
  | inr last ↦ (length us, slice_get-push us y (length us) refl ∙ ap Some (sym last.0))
]

-- the operand that is found for a block is one of a phi
entry_in : (p : ℕ) (es : List (L.Operand × ℕ)) (o : L.Operand) → first_entry p es ≡ Some o → IsIn (map (λ (e : L.Operand × ℕ). e.0) es) o
entry_in p [] o h = cc
entry_in p (e ∷ es) o h = by (nat_eq e.1 p) h (λ later. entry_in p es o later)
  where
    by : (b : Bool) → option_map (λ (x : L.Operand × ℕ). x.0) (if b then Some e else find (λ (x : L.Operand × ℕ). nat_eq x.1 p) es) ≡ Some o → (first_entry p es ≡ Some o → IsIn (map (λ (x : L.Operand × ℕ). x.0) es) o)
        → IsIn (map (λ (x : L.Operand × ℕ). x.0) (e ∷ es)) o
    by true h rest = (zero, h)
    by false h rest = let r = rest h in (suc r.0, r.1)

entry_operand : (i : L.Instruction) (p : ℕ) (o : L.Operand) → option_and_then (first_entry p) (phi_entries i) ≡ Some o → IsIn (operands_of i) o
entry_operand (L.Phi es) p o h = entry_in p es o h
entry_operand (L.Applied r) p o h = cc

-- ---- the constants that a function uses

constant_is : (o : L.Operand) (c : ConstTree) → constant_in o ≡ Some c → o ≡ L.Constant c
constant_is (L.Constant x) c h = ap L.Constant (same_Some x c h)
constant_is (L.Parameter f i) c h = cc
constant_is (L.Result n) c h = cc

module _ (structs : List Struct) (g : L.Function) (made : HasMadeOperands structs g) where
  operand_made : (i : ℕ) (p : Placed) (o : L.Operand) → slice_get (placed_in g) i ≡ Some p → IsIn (operands_of p.instruction) o → IsMadeOperand structs o
  operand_made i p o at is_in =
      within_at (operands_of p.instruction) (IsMadeOperand structs) (within_at (placed_in g) (λ (q : Placed). All (IsMadeOperand structs) (operands_of q.instruction)) made i p at) is_in.0 o is_in.1

  -- what an edge passes
  passed_made : (p t : ℕ) (j : ℕ) (o : L.Operand) → slice_get (passed g p t) j ≡ Some o → IsMadeOperand structs o
  passed_made p t j o at =
      let takes : Placed → Option L.Operand = λ (x : Placed). option_and_then (first_entry p) (phi_entries x.instruction) in
      let b = flat_from (λ (c : L.Block). filter_map takes c.instructions) (filter (λ (c : L.Block). nat_eq c.number t) g.blocks) j o at in
      let r = filter_from (λ (c : L.Block). nat_eq c.number t) g.blocks b.place b.item b.here in
      let x = map_from takes b.item.instructions b.inner o b.at in
      let k = flat_at (λ (c : L.Block). c.instructions) g.blocks r.0 b.item x.0 x.1 r.1 x.2 in
      operand_made k.0 x.1 o k.1 (entry_operand x.1.instruction p o x.3)

  used_made : (place : ℕ) (b : L.Block) (y : ℕ) (p : Placed) → slice_get g.blocks place ≡ Some b → slice_get b.instructions y ≡ Some p → (j : ℕ) (o : L.Operand)
      → slice_get (operands_of p.instruction ++ flat_map (passed g b.number) (targets p.instruction)) j ≡ Some o → IsMadeOperand structs o
  used_made place b y p at here j o there = elim (slice_get-behind_cases (operands_of p.instruction) (flat_map (passed g b.number) (targets p.instruction)) j o there) [
    | inl own ↦ let k = flat_at (λ (c : L.Block). c.instructions) g.blocks place b y p at here in operand_made k.0 p o k.1 (j, own)
    | inr led ↦ let t = flat_from (passed g b.number) (targets p.instruction) led.0 o led.2 in passed_made b.number t.item t.inner o t.at
  ]

  -- each constant that an instruction of a block uses has the elements that are asked for
  pub constant_made : (d : L.ModuleData) (place : ℕ) (b : L.Block) (c : ConstTree) → slice_get g.blocks place ≡ Some b → IsIn (flat_map (constants_in d g b) (rest_of b)) c → HasElements structs c
  constant_made d place b c at is_in =
      let q = flat_from (constants_in d g b) (rest_of b) is_in.0 c is_in.1 in
      let p = filter_from (λ (x : Placed). not (is_phi x)) b.instructions q.place q.item q.here in
      let o = map_from constant_in (operands_of q.item.instruction ++ flat_map (passed g b.number) (targets q.item.instruction)) q.inner c q.at in
      subst (IsMadeOperand structs) (constant_is o.1 c o.3) (used_made place b p.0 q.item at p.1 o.0 o.1 o.2)

-- ---- the operations

row_ruled : (structs : List Struct) (i : L.Instruction) (κ : Kind) → IsKind i κ → IsRuledKind structs κ
row_ruled structs (L.Phi es) κ h = elim h [ ]
row_ruled structs (L.Applied r) κ h = subst (IsRuledKind structs) (sym h) tt

module _ (d : L.ModuleData) (n : Head) (k : Known) (cs : List DialectBlock) (h : IsWhole k cs) where
  abbrev g : L.Function
  g = k.frame.source

  abbrev uses : List ConstTree
  uses = flat_map (λ (b : L.Block). flat_map (constants_in d g b) (rest_of b)) (blocks_of k.frame)

  module _ (first : FirstUses uses k.constants) (structs : List Struct) (made : HasMadeOperands structs g) where
    hoisted_made : (i : ℕ) (c : ConstTree) → slice_get k.constants i ≡ Some c → HasElements structs c
    hoisted_made i c at =
        let used = first_used uses k.constants c first (i, at) in
        let b = flat_from (λ (b : L.Block). flat_map (constants_in d g b) (rest_of b)) (blocks_of k.frame) used.0 c used.1 in
        let s = ordered_at k.frame.order g.blocks h.order b.place b.item b.here in
        constant_made structs g made d s.place b.item c s.at (b.inner, b.at)

    op_ruled : (j y : ℕ) (c : DialectBlock) (o : DialectOp) → slice_get cs j ≡ Some c → slice_get c.ops y ≡ Some o → IsRuledKind structs o.kind
    op_ruled j y c o at here = elim (op_cases k cs h j y c o at here) [
      | inl a ↦
          let held = h.consts y a.constant a.here in
          subst (IsRuledKind structs) (sym (ap (λ (x : DialectOp). x.kind) a.makes.2)) (kind_ruled structs a.constant a.makes.0 held.form held.short (hoisted_made y a.constant a.here) a.makes.1)
      | inr r ↦ row_ruled structs r.inst.instruction o.kind r.row.converted.kind
    ]

    pub ruled_of : IsRuled structs (the_func n k cs)
    ruled_of = all_from (λ (o : DialectOp). IsRuledKind structs o.kind) (ops_in (the_func n k cs)) (λ i o at.
        let c = flat_from (λ (b : DialectBlock). b.ops) cs i o at in
        op_ruled c.place c.inner c.item o c.here c.at)
