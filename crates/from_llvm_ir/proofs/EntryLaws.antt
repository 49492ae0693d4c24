-- What is noted of phis, entry by entry.
use Rattle.std.proofs.Common.{ℕ, ◌≡◌, ◌<◌, ◌≤◌, ◌+◌, inl, inr, refl, sym, ap, subst, ◌∙◌, Bool, true, false, cond, ◌&&◌, if◌then◌else◌, nat_eq, List, [], ◌∷◌, ◌++◌, Option, Some, None, length, take, map, slice_get, arith}
use Rattle.std.specs.List.{find}
use Rattle.std.specs.Option.{option_map, option_map_or}
use Rattle.std.proofs.lemmas.Bool.{cases_lt}
use Rattle.std.proofs.lemmas.Option.{same_Some, none-some, slice_get_within}
use Rattle.support.proofs.ListLaws.{item_there, take_next}
use Rattle.support.proofs.OptionLaws.{or_else-none, or_else_assoc}
use Rattle.support.specs.Options.{or_else}
use Rattle.llvm_core.specs.declared.numbers.LLVMBasicBlock.{LLVMBasicBlock}
use Rattle.llvm_core.specs.declared.numbers.LLVMInstRef.{LLVMInstRef}
use Rattle.llvm_core.specs.declared.numbers.LLVMFunction.{LLVMFunction}
use Rattle.llvm_core.specs.declared.code.FunctionData.{FunctionData}
use Rattle.llvm_core.specs.declared.code.LLVMValue.{LLVMValue}
use Rattle.llvm_core.specs.declared.code.LLVMInst.{LLVMInst}
use Rattle.llvm_core.specs.declared.code.LLVMInst.TheVariants as I
use Rattle.llvm_core.specs.declared.code.PhiEntry.{PhiEntry}
use Rattle.llvm_core.specs.declared.code.BlockData.{BlockData}
use Rattle.llvm_core.specs.declared.code.InstData.{InstData}
use Rattle.llvm_core.specs.Module.{Module}
use Rattle.llvm_core.specs.Parts.{IsValue, IsEntry, HasValues}
use Rattle.llvm_core.specs.Data as L
use Rattle.llvm_core.specs.Data.{trees_of, operand_of, entry_of, instruction_of}
use Rattle.llvm_core.proofs.DataLemmas.{within_at}
use Rattle.from_llvm_ir.specs.declared.entries.Entries.{Entries}
use Rattle.from_llvm_ir.specs.Imported.{first_entry}
use Rattle.from_llvm_ir.specs.Source.{IsSource, AreEntries, IsNotedOf, entry_at, first_value, taken, taken_by}
use Rattle.from_llvm_ir.proofs.SourceLaws.{blocks_listed, insts_listed, block_number, inst_number}

-- ---- one entry more

first_push : (p : LLVMBasicBlock) (xs : List PhiEntry) (e : PhiEntry) → first_value p (xs ++ e ∷ []) ≡ or_else (first_value p xs) (if nat_eq e.block.0 p.0 then Some e.value else None)
first_push p [] e = by (nat_eq e.block.0 p.0)
  where
    by : (t : Bool) → option_map (λ (x : PhiEntry). x.value) (cond t (Some e) None) ≡ (if t then Some e.value else None)
    by true = refl
    by false = refl
first_push p (x ∷ xs) e = by (nat_eq x.block.0 p.0) (first_push p xs e)
  where
    by : (t : Bool) → first_value p (xs ++ e ∷ []) ≡ or_else (first_value p xs) (if nat_eq e.block.0 p.0 then Some e.value else None)
        → option_map (λ (y : PhiEntry). y.value) (cond t (Some x) (find (λ (y : PhiEntry). nat_eq y.block.0 p.0) (xs ++ e ∷ [])))
        ≡ or_else (option_map (λ (y : PhiEntry). y.value) (cond t (Some x) (find (λ (y : PhiEntry). nat_eq y.block.0 p.0) xs))) (if nat_eq e.block.0 p.0 then Some e.value else None)
    by true h = refl
    by false h = h

-- none of the entries before an entry is for the block, and so none of those up to one that is not
pub first_none : (p : LLVMBasicBlock) (entries : List PhiEntry) (i : ℕ) (e : PhiEntry) → slice_get entries i ≡ Some e → first_value p (take i entries) ≡ None → nat_eq e.block.0 p.0 ≡ false → first_value p (take (i + 1) entries) ≡ None
first_none p entries i e at none differs =
    ap (first_value p) (take_next entries i e at) ∙ first_push p (take i entries) e
    ∙ ap (λ (o : Option LLVMValue). or_else o (if nat_eq e.block.0 p.0 then Some e.value else None)) none
    ∙ ap (λ (t : Bool). or_else None (if t then Some e.value else None)) differs

-- the entry is the first for the block
pub first_at : (p : LLVMBasicBlock) (entries : List PhiEntry) (i : ℕ) (e : PhiEntry) → slice_get entries i ≡ Some e → first_value p (take i entries) ≡ None → nat_eq e.block.0 p.0 ≡ true → first_value p entries ≡ Some e.value
first_at p [] i e at none same = cc
first_at p (x ∷ xs) ℕ.zero e at none same =
    let is : x ≡ e = same_Some x e at in
    ap (λ (b : Bool). option_map (λ (y : PhiEntry). y.value) (cond b (Some x) (find (λ (y : PhiEntry). nat_eq y.block.0 p.0) xs))) (subst (λ (y : PhiEntry). nat_eq y.block.0 p.0 ≡ true) (sym is) same)
    ∙ ap (λ (y : PhiEntry). Some y.value) is
first_at p (x ∷ xs) (ℕ.suc i) e at none same = by (nat_eq x.block.0 p.0) (λ h. first_at p xs i e at h same) none
  where
    by : (b : Bool) → (first_value p (take i xs) ≡ None → first_value p xs ≡ Some e.value) → option_map (λ (y : PhiEntry). y.value) (cond b (Some x) (find (λ (y : PhiEntry). nat_eq y.block.0 p.0) (take i xs))) ≡ None
        → option_map (λ (y : PhiEntry). y.value) (cond b (Some x) (find (λ (y : PhiEntry). nat_eq y.block.0 p.0) xs)) ≡ Some e.value
    by true rest h = absurd (none-some x.value (sym h))
    by false rest h = rest h

-- the entries of a phi were noted, as far as these
abbrev pub AreNotedTo : (old new : Entries) → LLVMInstRef → List PhiEntry → Type 0
AreNotedTo old new phi entries = (q : LLVMInstRef) (p : LLVMBasicBlock) → entry_at new q p ≡ or_else (entry_at old q p) (if nat_eq phi.0 q.0 then first_value p entries else None)

pub noted_none : (old : Entries) (phi : LLVMInstRef) → AreNotedTo old old phi []
noted_none old phi q p = by (nat_eq phi.0 q.0) (entry_at old q p)
  where
    by : (t : Bool) (a : Option LLVMValue) → a ≡ or_else a (if t then None else None)
    by true a = sym (or_else-none a)
    by false a = sym (or_else-none a)

pub noted_more : (old mid new : Entries) (phi : LLVMInstRef) (entries : List PhiEntry) (i : ℕ) (e : PhiEntry) → slice_get entries i ≡ Some e → AreNotedTo old mid phi (take i entries)
    → ((q : LLVMInstRef) (p : LLVMBasicBlock) → entry_at new q p ≡ or_else (entry_at mid q p) (if nat_eq phi.0 q.0 && nat_eq e.block.0 p.0 then Some e.value else None))
    → AreNotedTo old new phi (take (i + 1) entries)
noted_more old mid new phi entries i e at h step q p =
    step q p ∙ ap (λ (a : Option LLVMValue). or_else a (if nat_eq phi.0 q.0 && nat_eq e.block.0 p.0 then Some e.value else None)) (h q p)
    ∙ or_else_assoc (entry_at old q p) (if nat_eq phi.0 q.0 then first_value p (take i entries) else None) (if nat_eq phi.0 q.0 && nat_eq e.block.0 p.0 then Some e.value else None)
    ∙ ap (or_else (entry_at old q p)) (by (nat_eq phi.0 q.0))
  where
    longer : first_value p (take (i + 1) entries) ≡ or_else (first_value p (take i entries)) (if nat_eq e.block.0 p.0 then Some e.value else None)
    longer = ap (first_value p) (take_next entries i e at) ∙ first_push p (take i entries) e

    by : (t : Bool) → or_else (if t then first_value p (take i entries) else None) (if t && nat_eq e.block.0 p.0 then Some e.value else None) ≡ (if t then first_value p (take (i + 1) entries) else None)
    by true = sym longer
    by false = refl

-- ---- instructions

-- an instruction that is read, and what it takes
pub taken_is : (m : Module) (i : LLVMInstRef) (inst : LLVMInst) → option_map (λ (x : InstData). x.inst) (slice_get m.insts i.0) ≡ Some inst → (p : LLVMBasicBlock) → taken m i p ≡ taken_by p inst
taken_is m i inst has p = by (slice_get m.insts i.0) has
  where
    by : (v : Option InstData) → option_map (λ (x : InstData). x.inst) v ≡ Some inst → option_map_or (λ (x : InstData). taken_by p x.inst) v None ≡ taken_by p inst
    by None h = absurd (none-some inst h)
    by (Some x) h = ap (taken_by p) (same_Some x.inst inst h)

-- ---- what a phi takes in the data

-- the first entry in the data is that of the value
pub first_is : (t : L.Trees) (p : LLVMBasicBlock) (entries : List PhiEntry) → first_entry p.0 (map (entry_of t) entries) ≡ option_map (operand_of t) (first_value p entries)
first_is t p [] = refl
first_is t p (e ∷ entries) = by (nat_eq e.block.0 p.0) (first_is t p entries)
  where
    by : (b : Bool) → first_entry p.0 (map (entry_of t) entries) ≡ option_map (operand_of t) (first_value p entries)
        → option_map (λ (x : L.Operand × ℕ). x.0) (cond b (Some (entry_of t e)) (find (λ (x : L.Operand × ℕ). nat_eq x.1 p.0) (map (entry_of t) entries)))
        ≡ option_map (operand_of t) (option_map (λ (x : PhiEntry). x.value) (cond b (Some e) (find (λ (x : PhiEntry). nat_eq x.block.0 p.0) entries)))
    by true h = refl
    by false h = h

-- the value of a first entry is there
first_there : (m : Module) (p : LLVMBasicBlock) (entries : List PhiEntry) (v : LLVMValue) → ((i : ℕ) (e : PhiEntry) → slice_get entries i ≡ Some e → IsValue m e.value) → first_value p entries ≡ Some v → IsValue m v
first_there m p [] v all h = absurd (none-some v h)
first_there m p (e ∷ entries) v all h = by (nat_eq e.block.0 p.0) h (first_there m p entries v (λ i x at. all (ℕ.suc i) x at))
  where
    by : (b : Bool) → option_map (λ (x : PhiEntry). x.value) (cond b (Some e) (find (λ (x : PhiEntry). nat_eq x.block.0 p.0) entries)) ≡ Some v → (first_value p entries ≡ Some v → IsValue m v) → IsValue m v
    by true k rest = subst (IsValue m) (same_Some e.value v k) (all 0 e refl)
    by false k rest = rest k

pub taken_there : (m : Module) (p : LLVMBasicBlock) (inst : LLVMInst) (v : LLVMValue) → HasValues m inst → taken_by p inst ≡ Some v → IsValue m v
taken_there m p (I.Phi t entries) v has h = first_there m p entries v (λ i e at. (within_at entries (IsEntry m) has.1 i e at).0) h
taken_there m p (I.Row r) v has h = absurd (none-some v h)

-- ---- the blocks of a function

-- what the instructions of the first blocks take was noted
abbrev pub AreNotedIn : Module → Entries → List LLVMBasicBlock → ℕ → Type 0
AreNotedIn m e ns done = (j : ℕ) (n : LLVMBasicBlock) (x : BlockData) (k : ℕ) (i : LLVMInstRef) → j < done → slice_get ns j ≡ Some n → slice_get m.blocks n.0 ≡ Some x → slice_get x.insts k ≡ Some i → IsNotedOf m e i

pub noted_block : (m : Module) (old new : Entries) (ns : List LLVMBasicBlock) (done : ℕ) (n : LLVMBasicBlock) (is : List LLVMInstRef) → AreNotedIn m old ns done → slice_get ns done ≡ Some n → option_map (λ (x : BlockData). x.insts) (slice_get m.blocks n.0) ≡ Some is
    → ((k : ℕ) (i : LLVMInstRef) → slice_get is k ≡ Some i → IsNotedOf m new i) → ((q : LLVMInstRef) → IsNotedOf m old q → IsNotedOf m new q) → AreNotedIn m new ns (done + 1)
noted_block m old new ns done n is h at has here kept j n' x k i lt at_j at_x at_i =
    elim (cases_lt j done) [
      | inl before ↦ kept i (h j n' x k i before at_j at_x at_i)
      | inr last ↦
          let place : j ≡ done = omega (arith, lt, last) in
          let same : n' ≡ n = same_Some n' n (sym at_j ∙ ap (slice_get ns) place ∙ at) in
          let insts : x.insts ≡ is = same_Some x.insts is (sym (ap (option_map (λ (y : BlockData). y.insts)) at_x) ∙ ap (λ (q : LLVMBasicBlock). option_map (λ (y : BlockData). y.insts) (slice_get m.blocks q.0)) same ∙ has) in
          here k i (ap (λ (xs : List LLVMInstRef). slice_get xs k) (sym insts) ∙ at_i)
    ]

pub noted_all : (m : Module) (f : LLVMFunction) (g : L.Function) (e : Entries) (ns : List LLVMBasicBlock) (done : ℕ) → IsSource m f g → option_map (λ (x : FunctionData). x.blocks) (slice_get m.functions f.0) ≡ Some ns → length ns ≤ done → AreNotedIn m e ns done → AreEntries m g e
noted_all m f g e ns done h has le noted = record {
  each = λ n place b i at p of_block of_inst.
      let listed = blocks_listed m f g h ns has in
      let n' = item_there ns place (let l = slice_get_within g.blocks place b of_block.at in omega (arith, l, listed.long)) in
      let b' = listed.each place n'.0 n'.1 in
      let same_block : b'.0 ≡ b = same_Some b'.0 b (sym b'.1.at ∙ of_block.at) in
      let number : n'.0.0 ≡ n.0 = sym (block_number m g n'.0 place b'.0 b'.1) ∙ ap (λ (x : L.Block). x.number) same_block ∙ block_number m g n place b of_block in
      let insts = insts_listed m g n place b of_block.row.insts h.sound of_block (ap (option_map (λ (x : BlockData). x.insts)) of_block.here) in
      let i' = item_there of_block.row.insts at (let l = slice_get_within b.instructions at p of_inst.at in omega (arith, l, insts.long)) in
      let p' = insts.each at i'.0 i'.1 in
      let same_inst : p'.0 ≡ p = same_Some p'.0 p (sym p'.1.at ∙ of_inst.at) in
      let inst_number : i'.0.0 ≡ i.0 = sym (inst_number m b i'.0 at p'.0 p'.1) ∙ ap (λ (x : L.Placed). x.number) same_inst ∙ inst_number m b i at p of_inst in
      noted place n'.0 of_block.row at i (let l = slice_get_within ns place n'.0 n'.1 in omega (arith, l, le)) n'.1 (ap (slice_get m.blocks) number ∙ of_block.here) (i'.1 ∙ ap (λ (x : ℕ). Some (record { 0 = x })) inst_number);
}
