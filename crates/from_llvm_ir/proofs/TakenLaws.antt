-- What an edge takes, as values of the source module and in its data.
use Rattle.std.proofs.Common.{ℕ, ◌≡◌, ◌<◌, ◌≤◌, ◌+◌, refl, sym, ap, subst, ◌∙◌, true, false, List, [], ◌∷◌, ◌++◌, Option, Some, None, All, length, take, map, slice_get, arith}
use Rattle.std.specs.List.{filter_map, cons_option}
use Rattle.std.specs.Option.{option_map, option_map_or, option_and_then}
use Rattle.std.proofs.lemmas.List.{map_push, take_all}
use Rattle.std.proofs.lemmas.List.Elements.{All-nil, All-push, filter_map-append}
use Rattle.std.proofs.lemmas.Option.{same_Some, none-some}
use Rattle.support.proofs.ListLaws.{take_next}
use Rattle.llvm_core.specs.declared.numbers.LLVMFunction.{LLVMFunction}
use Rattle.llvm_core.specs.declared.numbers.LLVMBasicBlock.{LLVMBasicBlock}
use Rattle.llvm_core.specs.declared.numbers.LLVMInstRef.{LLVMInstRef}
use Rattle.llvm_core.specs.declared.code.LLVMValue.{LLVMValue}
use Rattle.llvm_core.specs.declared.code.LLVMInst.{LLVMInst}
use Rattle.llvm_core.specs.declared.code.LLVMInst.TheVariants as I
use Rattle.llvm_core.specs.declared.code.InstData.{InstData}
use Rattle.llvm_core.specs.Module.{Module}
use Rattle.llvm_core.specs.Form as LF
use Rattle.llvm_core.specs.Data as L
use Rattle.llvm_core.specs.Data.{Placed, Trees, trees_of, operand_of, instruction_of, phi_entries}
use Rattle.from_llvm_ir.specs.declared.entries.Entries.{Entries}
use Rattle.from_llvm_ir.specs.Imported.{first_entry, passed}
use Rattle.from_llvm_ir.specs.Source.{LeadsTo, IsInstOf, IsListed, IsNotedOf, IsUsed, taken, taken_by}
use Rattle.from_llvm_ir.proofs.SourceLaws.{block_number}
use Rattle.from_llvm_ir.proofs.EntryLaws.{first_is, taken_there}
use Rattle.from_llvm_ir.proofs.PassLaws.{takes, no_phi_is, block_form, passed_is, taken_for}

takes_inst : (t : Trees) (p : LLVMBasicBlock) (inst : LLVMInst) → option_and_then (first_entry p.0) (phi_entries (instruction_of t inst)) ≡ option_map (operand_of t) (taken_by p inst)
takes_inst t p (I.Phi type entries) = first_is t p entries
takes_inst t p (I.Row r) = refl

takes_is : (m : Module) (b : L.Block) (i : LLVMInstRef) (at : ℕ) (p : Placed) (from : LLVMBasicBlock) → IsInstOf m b i at p → takes from.0 p ≡ option_map (operand_of (trees_of m)) (taken m i from)
takes_is m b i at p from h =
    ap (λ (q : Placed). takes from.0 q) h.is ∙ takes_inst (trees_of m) from h.row.inst
    ∙ sym (ap (λ (o : Option InstData). option_map (operand_of (trees_of m)) (option_map_or (λ (x : InstData). taken_by from x.inst) o None)) h.here)

-- what a phi of the target takes
pub record EdgeValue (m : Module) (g : L.Function) (entries : Entries) (from : LLVMBasicBlock) (i : LLVMInstRef) (p : Placed) : Type 0 where
  pub value : LLVMValue
  pub noted : IsNotedOf m entries i
  pub is : taken m i from ≡ Some value
  pub used : IsUsed m g value
  pub takes_it : takes from.0 p ≡ Some (operand_of (trees_of m) value)

pub edge_value : (m : Module) (f : LLVMFunction) (g : L.Function) (entries : Entries) (from to : LLVMBasicBlock) (h : LeadsTo m f g entries from to) (i : LLVMInstRef) (at : ℕ) (p : Placed) → IsInstOf m h.block i at p → LF.is_phi p ≡ true → EdgeValue m g entries from i p
edge_value m f g entries from to h i at p inst phi =
    let edge : 0 < LF.edges_between g from.0 h.block.number = subst (λ (x : ℕ). 0 < LF.edges_between g from.0 x) (sym (block_number m g to h.place h.block h.is)) h.edge in
    let t = taken_for g h.source.form from.0 h.place at h.block p h.is.at inst.at phi edge in
    by (taken m i from) t.operand refl (sym (takes_is m h.block i at p from inst) ∙ t.is) t.usable t.listed
  where
    by : (v : Option LLVMValue) (o : L.Operand) → taken m i from ≡ v → option_map (operand_of (trees_of m)) v ≡ Some o → LF.IsOperand g p.type o → IsListed g o → EdgeValue m g entries from i p
    by None o e is usable listed = absurd (none-some o is)
    by (Some v) o e is usable listed =
        let same : operand_of (trees_of m) v ≡ o = same_Some (operand_of (trees_of m) v) o is in
        let by_inst : taken_by from inst.row.inst ≡ Some v = sym (ap (λ (x : Option InstData). option_map_or (λ (y : InstData). taken_by from y.inst) x None) inst.here) ∙ e in
        record {
          value = v;
          noted = h.noted.each to h.place h.block i at p h.is inst;
          is = e;
          used = record { valid = taken_there m from inst.row.inst v (h.source.sound.insts i.0 inst.row inst.here).values by_inst; usable = (p.type, subst (LF.IsOperand g p.type) (sym same) usable); listed = subst (IsListed g) (sym same) listed };
          takes_it = takes_is m h.block i at p from inst ∙ ap (option_map (operand_of (trees_of m))) e;
        }

-- ---- what an edge passes, phi by phi

pub record PassedTo (m : Module) (f : LLVMFunction) (g : L.Function) (entries : Entries) (from to : LLVMBasicBlock) (h : LeadsTo m f g entries from to) (vs : List LLVMValue) (done : ℕ) : Type 0 where
  pub are : map (operand_of (trees_of m)) vs ≡ filter_map (takes from.0) (take done h.block.instructions)
  pub used : All (IsUsed m g) vs

pub passed_none : (m : Module) (f : LLVMFunction) (g : L.Function) (entries : Entries) (from to : LLVMBasicBlock) (h : LeadsTo m f g entries from to) → PassedTo m f g entries from to h [] 0
passed_none m f g entries from to h = record { are = refl; used = All-nil _ }

taken_next : (from : LLVMBasicBlock) (ps : List Placed) (at : ℕ) (p : Placed) → slice_get ps at ≡ Some p → filter_map (takes from.0) (take (at + 1) ps) ≡ filter_map (takes from.0) (take at ps) ++ cons_option (takes from.0 p) []
taken_next from ps at p here = ap (filter_map (takes from.0)) (take_next ps at p here) ∙ filter_map-append (takes from.0) (take at ps) (p ∷ [])

pub passed_more : (m : Module) (f : LLVMFunction) (g : L.Function) (entries : Entries) (from to : LLVMBasicBlock) (h : LeadsTo m f g entries from to) (vs : List LLVMValue) (i : LLVMInstRef) (at : ℕ) (p : Placed) (v : LLVMValue) → IsInstOf m h.block i at p → LF.is_phi p ≡ true → taken m i from ≡ Some v → PassedTo m f g entries from to h vs at → PassedTo m f g entries from to h (vs ++ v ∷ []) (at + 1)
passed_more m f g entries from to h vs i at p v inst phi noted before =
    let e = edge_value m f g entries from to h i at p inst phi in
    let same : e.value ≡ v = same_Some e.value v (sym e.is ∙ noted) in
    record {
      are = map_push (operand_of (trees_of m)) vs v ∙ ap (λ (os : List L.Operand). os ++ operand_of (trees_of m) v ∷ []) before.are
          ∙ sym (ap (λ (o : Option L.Operand). filter_map (takes from.0) (take at h.block.instructions) ++ cons_option o []) (e.takes_it ∙ ap (λ (x : LLVMValue). Some (operand_of (trees_of m) x)) same))
          ∙ sym (taken_next from h.block.instructions at p inst.at);
      used = All-push (IsUsed m g) vs v before.used (subst (IsUsed m g) same e.used);
    }

-- ---- the phis stand at the front

none_taken : (from : ℕ) (ps : List Placed) → ((j : ℕ) (y : Placed) → slice_get ps j ≡ Some y → LF.is_phi y ≡ false) → filter_map (takes from) ps ≡ []
none_taken from [] none = refl
none_taken from (x ∷ ps) none =
    ap (λ (o : Option L.Operand). cons_option o (filter_map (takes from) ps)) (ap (option_and_then (first_entry from)) (no_phi_is x (none 0 x refl)))
    ∙ none_taken from ps (λ j y at. none (ℕ.suc j) y at)

-- so nothing from the first instruction on that is no phi takes anything
front_taken : (from : ℕ) (ps : List Placed) (at : ℕ) (p : Placed) → LF.HasPhisFirst ps → slice_get ps at ≡ Some p → LF.is_phi p ≡ false → filter_map (takes from) (take at ps) ≡ filter_map (takes from) ps
front_taken from [] at p first here other = cc
front_taken from (x ∷ ps) ℕ.zero p first here other = sym (none_taken from (x ∷ ps) by)
  where
    by : (j : ℕ) (y : Placed) → slice_get (x ∷ ps) j ≡ Some y → LF.is_phi y ≡ false
    by ℕ.zero y at = subst (λ (q : Placed). LF.is_phi q ≡ false) (same_Some p y (sym here ∙ at)) other
    by (ℕ.suc j) y at = first 0 (ℕ.suc j) p y (omega arith) here at other
front_taken from (x ∷ ps) (ℕ.suc i) p first here other =
    ap (cons_option (takes from x)) (front_taken from ps i p (λ a b u v lt at_a at_b. first (ℕ.suc a) (ℕ.suc b) u v (omega (arith, lt)) at_a at_b) here other)

pub passed_front : (m : Module) (f : LLVMFunction) (g : L.Function) (entries : Entries) (from to : LLVMBasicBlock) (h : LeadsTo m f g entries from to) (vs : List LLVMValue) (i : LLVMInstRef) (at : ℕ) (p : Placed) → IsInstOf m h.block i at p → LF.is_phi p ≡ false → PassedTo m f g entries from to h vs at → map (operand_of (trees_of m)) vs ≡ passed g from.0 to.0
passed_front m f g entries from to h vs i at p inst other before =
    let first = (block_form g h.source.form h.place h.block h.is.at).phis in
    before.are ∙ front_taken from.0 h.block.instructions at p first inst.at other ∙ sym (passed_is g h.source.form from.0 h.place h.block to.0 h.is.at (block_number m g to h.place h.block h.is))

pub passed_all : (m : Module) (f : LLVMFunction) (g : L.Function) (entries : Entries) (from to : LLVMBasicBlock) (h : LeadsTo m f g entries from to) (vs : List LLVMValue) (done : ℕ) → length h.block.instructions ≤ done → PassedTo m f g entries from to h vs done → map (operand_of (trees_of m)) vs ≡ passed g from.0 to.0
passed_all m f g entries from to h vs done le p =
    p.are ∙ ap (filter_map (takes from.0)) (take_all done h.block.instructions le) ∙ sym (passed_is g h.source.form from.0 h.place h.block to.0 h.is.at (block_number m g to h.place h.block h.is))
