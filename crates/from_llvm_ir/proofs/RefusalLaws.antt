-- Why a function is refused: the result of an instruction that is not known yet is used where it does not stand before.
use Rattle.std.proofs.Common.{ℕ, zero, suc, ◌≡◌, ◌<◌, ◌+◌, ◌⊎◌, inl, inr, refl, sym, ap, subst, ◌∙◌, Bool, true, false, if◌then◌else◌, nat_eq, List, [], ◌∷◌, ◌++◌, Option, Some, None, length, take, slice_get, arith, eq-eqb}
use Rattle.std.specs.Prelude.{slice_index_or}
use Rattle.std.specs.List.{flat_map}
use Rattle.std.specs.Option.{option_map, option_map_or}
use Rattle.std.proofs.lemmas.Bool.{cases_lt, both_ways}
use Rattle.std.proofs.lemmas.Option.{same_Some, slice_get_within, get_or_from_slice_get}
use Rattle.support.proofs.ListLaws.{item_there, slice_get-behind, slice_get-kept, slice_get-behind_cases}
use Rattle.llvm_core.specs.declared.numbers.LLVMFunction.{LLVMFunction}
use Rattle.llvm_core.specs.declared.numbers.LLVMBasicBlock.{LLVMBasicBlock}
use Rattle.llvm_core.specs.declared.numbers.LLVMInstRef.{LLVMInstRef}
use Rattle.llvm_core.specs.declared.code.LLVMValue.{LLVMValue}
use Rattle.llvm_core.specs.declared.code.LLVMValue.TheVariants as K
use Rattle.llvm_core.specs.declared.code.InstData.{InstData}
use Rattle.llvm_core.specs.declared.code.BlockData.{BlockData}
use Rattle.llvm_core.specs.Module.{Module}
use Rattle.llvm_core.specs.Sound.{IsModule}
use Rattle.llvm_core.specs.Form as LF
use Rattle.llvm_core.specs.Data as L
use Rattle.llvm_core.specs.Data.{Placed, placed_in}
use Rattle.dialect_core.specs.declared.numbers.BlockRef.{BlockRef}
use Rattle.dialect_core.specs.ContextData.{ContextData}
use Rattle.from_consts.specs.declared.conversion_err.ConversionErr.{ConversionErr}
use Rattle.from_consts.specs.declared.conversion_err.ConversionErr.TheVariants as E
use Rattle.from_llvm_ir.specs.declared.entries.Entries.{Entries}
use Rattle.from_llvm_ir.specs.declared.values.Values.{Values}
use Rattle.from_llvm_ir.specs.Imported.{IsIn, IsEarlyUse, name_in, passed}
use Rattle.from_llvm_ir.specs.Order.{IsInverse}
use Rattle.from_llvm_ir.specs.Values.{Targets, IsForward, value_at}
use Rattle.from_llvm_ir.specs.Source.{IsBlockOf, IsInstOf, IsSource, IsUsable, used_by}
use Rattle.from_llvm_ir.specs.Known.{Frame, beside, blocks_of}
use Rattle.from_llvm_ir.specs.Body.{IsAt, IsLate, insts_before}
use Rattle.from_llvm_ir.proofs.PlaceLaws.{retake, flat_at, flat_from, found, number_apart}
use Rattle.from_llvm_ir.proofs.OrderLaws.{ordered_at, placed}
use Rattle.from_llvm_ir.proofs.SourceLaws.{block_named, insts_listed, inst_name, inst_number}
use Rattle.from_llvm_ir.proofs.PassLaws.{block_form, inst_form, operands_usable, target_there, edge_there, at_passed}

-- something stands beside an item that passes
beside_some : {X Y : Type 0} (test : X → Bool) (xs : List X) (ys : List Y) (i : ℕ) (x : X) → length ys ≡ length xs → slice_get xs i ≡ Some x → test x ≡ true → (y : Y) × (beside test xs ys ≡ Some y)
beside_some test [] ys i x n at passes = cc
beside_some test (z ∷ xs) [] i x n at passes = absurd (omega (arith, n))
beside_some test (z ∷ xs) (y ∷ ys) zero x n at passes = (y, ap (λ (t : Bool). if t then Some y else beside test xs ys) (ap test (same_Some z x at) ∙ passes))
beside_some {X = X} {Y = Y} test (z ∷ xs) (y ∷ ys) (suc i) x n at passes = by (test z) (beside_some test xs ys i x (omega (arith, n)) at passes)
  where
    by : (t : Bool) → (w : Y) × (beside test xs ys ≡ Some w) → (w : Y) × ((if t then Some y else beside test xs ys) ≡ Some w)
    by true r = (y, refl)
    by false r = r

-- ---- what an instruction uses is an operand of the function

pub used_usable : (g : L.Function) (form : LF.IsFormFunction g) (place x : ℕ) (b : L.Block) (p : Placed) → slice_get g.blocks place ≡ Some b → slice_get b.instructions x ≡ Some p → LF.is_phi p ≡ false → (o : L.Operand) → IsIn (used_by g b p) o → IsUsable g o
used_usable g form place x b p at here other o is_in = elim (slice_get-behind_cases (LF.operands_of p.instruction) (flat_map (passed g b.number) (L.targets p.instruction)) is_in.0 o is_in.1) [
  | inl a ↦ operands_usable g form b.number p (inst_form g form place x b p at here) other is_in.0 o a
  | inr z ↦
      let r = flat_from (passed g b.number) (L.targets p.instruction) z.0 o z.2 in
      let t = target_there g form place x r.place b p r.item at here r.here in
      let edge = edge_there g form place x r.place b p r.item at here r.here in
      let q = at_passed g form b.number (suc t.0) t.1 t.2 (subst (λ (n : ℕ). 0 < LF.edges_between g b.number n) (sym t.3) edge) r.inner o (ap (λ (n : ℕ). slice_get (passed g b.number n) r.inner) t.3 ∙ r.at) in
      (q.phi.type, q.usable)
]

-- ---- names

-- the instruction of the data is one of the module
record Listed (m : Module) (q : Placed) : Type 0 where
  block : L.Block
  inst : LLVMInstRef
  place : ℕ
  is : IsInstOf m block inst place q

block_listed : (m : Module) (g : L.Function) (n : LLVMBasicBlock) (place : ℕ) (b : L.Block) (x : ℕ) (q : Placed) → IsModule m → IsBlockOf m g n place b → slice_get b.instructions x ≡ Some q → Listed m q
block_listed m g n place b x q sound h at =
    let listed = insts_listed m g n place b h.row.insts sound h (ap (option_map (λ (y : BlockData). y.insts)) h.here) in
    let i = item_there h.row.insts x (let lt = slice_get_within b.instructions x q at in omega (arith, lt, listed.long)) in
    let e = listed.each x i.0 i.1 in
    record { block = b; inst = i.0; place = x; is = subst (IsInstOf m b i.0 x) (same_Some e.0 q (sym e.1.at ∙ at)) e.1 }

listed_in : (m : Module) (f : LLVMFunction) (g : L.Function) (k : ℕ) (q : Placed) → IsSource m f g → slice_get (placed_in g) k ≡ Some q → Listed m q
listed_in m f g k q h at =
    let r = flat_from (λ (b : L.Block). b.instructions) g.blocks k q at in
    block_listed m g (record { 0 = r.item.number }) r.place r.item r.inner q h.sound (block_named m f g r.place r.item (record { 0 = r.item.number }) h r.here refl) r.at

-- the name of an instruction of the function, by its number
name_found : (m : Module) (f : LLVMFunction) (g : L.Function) (i : LLVMInstRef) (row : InstData) → IsSource m f g → LF.HasNumber i.0 (placed_in g) → slice_get m.insts i.0 ≡ Some row → row.name ≡ name_in g i.0
name_found m f g i row h (k, q, here, number) at =
    let l = listed_in m f g k q h here in
    let same : l.inst.0 ≡ i.0 = sym (inst_number m l.block l.inst l.place q l.is) ∙ number in
    let named = inst_name m l.block l.inst l.place q row.name l.is (ap (λ (x : ℕ). option_map (λ (y : InstData). y.name) (slice_get m.insts x)) same ∙ ap (option_map (λ (y : InstData). y.name)) at) in
    let find_it = found (λ (x : Placed). x.number) (placed_in g) k q i.0 number here (λ u y at_u is. number_apart (λ (x : Placed). x.number) (placed_in g) h.form.numbers u k y q at_u here (is ∙ sym number)) in
    named ∙ sym (ap (λ (o : Option Placed). option_map_or (λ (x : Placed). x.name) o []) find_it)

-- ---- places

module _ (fr : Frame) (m : Module) (f : LLVMFunction) (targets : Targets) (entries : Entries) (c : ContextData) (values : Values) (from : LLVMBasicBlock) (block : BlockRef) (i : LLVMInstRef) (j x : ℕ) (b : L.Block) (p : Placed) (h : IsAt fr m f targets entries c values from block i j x b p) (other : LF.is_phi p ≡ false) where
  abbrev g : L.Function
  g = fr.source

  -- the result of an earlier instruction is known
  earlier : (n : LLVMInstRef) (row : InstData) → slice_get m.insts n.0 ≡ Some row → value_at values (K.Inst n) ≡ None → (k : ℕ) (q : Placed) → slice_get (insts_before fr j ++ take x b.instructions) k ≡ Some q → ¬ (q.number ≡ n.0)
  earlier n row at unknown k q here number =
      let w = beside_some (λ (y : Placed). nat_eq y.number n.0) (insts_before fr j ++ take x b.instructions) h.body.done k q h.body.known.long here (eq-eqb q.number n.0 number) in
      let some = h.body.known.notes.complete (K.Inst n) w.0 (slice_get_within m.insts n.0 row at) w.1 in
      let no : ⊥ = cc (some, unknown) in no

  module _ (places : List ℕ) (inverse : IsInverse fr.order places) where
    -- the block stands at its place
    block_place : slice_index_or places h.place h.place ≡ j
    block_place =
        let o = ordered_at fr.order g.blocks h.framed.order j b h.body.source in
        let same : o.place ≡ h.place = number_apart (λ (y : L.Block). y.number) g.blocks h.framed.source.form.block_numbers o.place h.place b b o.at h.of_block.at refl in
        get_or_from_slice_get places h.place j h.place (inverse j h.place (o.here ∙ ap Some same))

    -- what is not known does not stand in a block before
    no_block_before : (n : LLVMInstRef) (row : InstData) → slice_get m.insts n.0 ≡ Some row → value_at values (K.Inst n) ≡ None → (definition : ℕ) (d : L.Block) (k : ℕ) (q : Placed) → slice_get g.blocks definition ≡ Some d → slice_get d.instructions k ≡ Some q → q.number ≡ n.0
        → ¬ (slice_index_or places definition definition < slice_index_or places h.place h.place)
    no_block_before n row at unknown definition d k q here inner number lt =
        let o = placed fr.order g.blocks h.framed.order definition d here in
        let is : slice_index_or places definition definition ≡ o.0 = get_or_from_slice_get places definition o.0 definition (inverse o.0 definition o.1) in
        let before : o.0 < j = omega (arith, lt, is, block_place) in
        let r = flat_at (λ (y : L.Block). y.instructions) (take j (blocks_of fr)) o.0 d k q (retake (blocks_of fr) j o.0 d before o.2) inner in
        earlier n row at unknown r.0 q (slice_get-kept (insts_before fr j) (take x b.instructions) r.0 q r.1) number

    -- and not before in the block
    no_place_before : (n : LLVMInstRef) (row : InstData) → slice_get m.insts n.0 ≡ Some row → value_at values (K.Inst n) ≡ None → (k : ℕ) (q : Placed) → slice_get b.instructions k ≡ Some q → q.number ≡ n.0 → ¬ (k < x)
    no_place_before n row at unknown k q inner number lt =
        earlier n row at unknown (length (insts_before fr j) + k) q (slice_get-behind (insts_before fr j) (take x b.instructions) k ∙ retake b.instructions x k q lt inner) number

    -- a phi stands before
    phi_before : (k : ℕ) (q : Placed) → slice_get b.instructions k ≡ Some q → LF.is_phi q ≡ true → k < x
    phi_before k q inner phi = elim (cases_lt k x) [
      | inl lt ↦ lt
      | inr le ↦ elim (cases_lt x k) [
        | inl lt ↦ absurd (both_ways (LF.is_phi q) ((block_form g h.framed.source.form h.place b h.of_block.at).phis x k p q lt h.inst.at inner other) phi)
        | inr ge ↦
            let same : k ≡ x = omega (arith, le, ge) in
            let is : q ≡ p = same_Some q p (sym inner ∙ ap (slice_get b.instructions) same ∙ h.inst.at) in
            absurd (both_ways (LF.is_phi q) (ap LF.is_phi is ∙ other) phi)
      ]
    ]

    early_use : (n : LLVMInstRef) (row : InstData) → slice_get m.insts n.0 ≡ Some row → value_at values (K.Inst n) ≡ None → IsIn (used_by g b p) (L.Result n.0) → IsEarlyUse g places n.0
    early_use n row at unknown is_in = record {
      block = h.place;
      b = b;
      at = h.of_block.at;
      place = x;
      user = p;
      here = h.inst.at;
      uses = (other, is_in);
      early = λ definition d k q here inner number. (
        no_block_before n row at unknown definition d k q here inner number,
        λ e. inside definition d k q here inner number e,
      );
    }
      where
        inside : (definition : ℕ) (d : L.Block) (k : ℕ) (q : Placed) → slice_get g.blocks definition ≡ Some d → slice_get d.instructions k ≡ Some q → q.number ≡ n.0 → ¬ ((definition ≡ h.place) × ((k < x) ⊎ (LF.is_phi q ≡ true)))
        inside definition d k q here inner number e =
            let same : d ≡ b = same_Some d b (sym here ∙ ap (slice_get g.blocks) e.0 ∙ h.of_block.at) in
            let there_it : slice_get b.instructions k ≡ Some q = ap (λ (y : L.Block). slice_get y.instructions k) (sym same) ∙ inner in
            no_place_before n row at unknown k q there_it number (elim e.1 [ inl lt ↦ lt | inr phi ↦ phi_before k q there_it phi ])

    -- so the function is refused
    pub late : (os : List L.Operand) (e : ConversionErr) → ((o : L.Operand) → IsIn os o → IsIn (used_by g b p) o) → IsForward m values os e → IsLate g places e
    late os (E.UndefinedValue name v) more u =
        let is_in = more (L.Result u.inst.0) u.used in
        let usable = used_usable g h.framed.source.form h.place x b p h.of_block.at h.inst.at other (L.Result u.inst.0) is_in in
        record {
          inst = u.inst;
          value = u.value;
          early = early_use u.inst u.row u.at (ap (λ (y : LLVMValue). value_at values y) (sym u.value) ∙ u.unknown) is_in;
          named = u.named ∙ name_found m f g u.inst u.row h.framed.source usable.1.stands u.at;
        }
    late os (E.IntConstTooWide width) more u = u
    late os (E.Unsupported t) more u = u
    late os (E.Struct s) more u = u
    late os E.NoMemory more u = tt
