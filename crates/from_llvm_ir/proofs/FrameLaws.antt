-- The blocks of a function in the order of its import, by their numbers.
use Rattle.std.proofs.Common.{ℕ, ◌≡◌, ◌<◌, sym, ap, ◌∙◌, List, Some, length, slice_get, get_or, arith}
use Rattle.std.specs.Option.{option_map}
use Rattle.std.proofs.lemmas.Option.{slice_get-get_or}
use Rattle.llvm_core.specs.declared.numbers.LLVMFunction.{LLVMFunction}
use Rattle.llvm_core.specs.declared.numbers.LLVMBasicBlock.{LLVMBasicBlock}
use Rattle.llvm_core.specs.declared.code.FunctionData.{FunctionData}
use Rattle.llvm_core.specs.Module.{Module}
use Rattle.llvm_core.specs.Data as L
use Rattle.llvm_core.proofs.DataLemmas.{within_at}
use Rattle.from_llvm_ir.specs.Source.{IsBlockOf}
use Rattle.from_llvm_ir.specs.Known.{Frame, blocks_of}
use Rattle.from_llvm_ir.specs.Body.{IsFramed}
use Rattle.from_llvm_ir.proofs.SourceLaws.{blocks_listed, block_listed_at}
use Rattle.from_llvm_ir.proofs.OrderLaws.{ordered_here, ordered_length}

-- the block that the order names at an index
pub record NamedAt (m : Module) (fr : Frame) (order : List ℕ) (ns : List LLVMBasicBlock) (i : ℕ) : Type 0 where
  pub within : get_or order i 0 < length ns
  pub block : L.Block
  pub is : IsBlockOf m fr.source (get_or ns (get_or order i 0) (record { 0 = 0 })) (get_or order i 0) block
  pub here : slice_get (blocks_of fr) i ≡ Some block

pub named_at : (m : Module) (f : LLVMFunction) (fr : Frame) (order : List ℕ) (ns : List LLVMBasicBlock) (i : ℕ) → IsFramed m f fr → fr.order ≡ order → option_map (λ (x : FunctionData). x.blocks) (slice_get m.functions f.0) ≡ Some ns → i < length order → NamedAt m fr order ns i
named_at m f fr order ns i h same has lt =
    let at : slice_get fr.order i ≡ Some (get_or order i 0) = ap (λ (os : List ℕ). slice_get os i) same ∙ slice_get-get_or order i 0 lt in
    let small = within_at fr.order (λ (p : ℕ). p < length fr.source.blocks) h.order.within i (get_or order i 0) at in
    let listed = blocks_listed m f fr.source h.source ns has in
    let within : get_or order i 0 < length ns = omega (arith, small, listed.long) in
    let b = block_listed_at m f fr.source h.source ns (get_or order i 0) (record { 0 = 0 }) has within in
    record { within = within; block = b.0; is = b.1; here = ordered_here fr.order fr.source.blocks h.order i (get_or order i 0) b.0 at b.1.at }

-- as many blocks as the order names
pub frame_length : (m : Module) (f : LLVMFunction) (fr : Frame) (order : List ℕ) → IsFramed m f fr → fr.order ≡ order → length (blocks_of fr) ≡ length order
frame_length m f fr order h same = ordered_length fr.order fr.source.blocks h.order ∙ sym h.order.count ∙ ap (λ (os : List ℕ). length os) same
