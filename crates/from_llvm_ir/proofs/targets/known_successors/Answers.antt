-- What `targets::known_successors` owes besides what the check finds.
use Rattle.std.proofs.Common.{◌≡◌, ℕ, sym, subst, List, Some, map, slice_get}
use Rattle.std.specs.List.{flat_map}
use Rattle.std.specs.Prelude.{IfErr, IfOk}
use Rattle.llvm_core.specs.declared.numbers.LLVMBasicBlock.{LLVMBasicBlock}
use Rattle.llvm_core.specs.declared.numbers.LLVMFunction.{LLVMFunction}
use Rattle.llvm_core.specs.Data.{Function}
use Rattle.meaning.specs.Pairs.{Matched}
use Rattle.from_llvm_ir.specs.Imported.{passed}
use Rattle.from_llvm_ir.specs.Values.{IsForward}
use Rattle.from_llvm_ir.specs.Edges.{IsKnownEdge, IsReady}
use Rattle.from_llvm_ir.proofs.targets.known_successors.Goals as goal

pub known_edges-requires : goal.known_edges-requires
known_edges-requires c =
    let r = c.requires in
    (r.0, r.1, subst (λ (ts : List LLVMBasicBlock). (j : ℕ) → (t : LLVMBasicBlock) → slice_get ts j ≡ Some t → IsReady c.args.source.now r.0 r.1 c.args.values.now c.args.targets.now c.args.entries.now c.args.from t) (sym c.targets_of.ensures) r.2)

pub returns-clause-ok : goal.returns-clause-ok
returns-clause-ok c =
    subst (λ (ts : List LLVMBasicBlock). IfOk c.known_edges.result (λ ss. (f : LLVMFunction) → (g : Function) → ((j : ℕ) → (t : LLVMBasicBlock) → slice_get ts j ≡ Some t → IsReady c.args.source.now f g c.args.values.now c.args.targets.now c.args.entries.now c.args.from t)
    → Matched (IsKnownEdge c.args.source.now g c.args.values.now c.args.targets.now c.args.from) ts ss.items))
    c.targets_of.ensures c.known_edges.ensures.ok

pub returns-clause-err : goal.returns-clause-err
returns-clause-err c =
    subst (λ (ts : List LLVMBasicBlock). IfErr c.known_edges.result (λ e. (f : LLVMFunction) → (g : Function) → ((j : ℕ) → (t : LLVMBasicBlock) → slice_get ts j ≡ Some t → IsReady c.args.source.now f g c.args.values.now c.args.targets.now c.args.entries.now c.args.from t)
    → IsForward c.args.source.now c.args.values.now (flat_map (passed g c.args.from.0) (map (λ (t : LLVMBasicBlock). t.0) ts)) e))
    c.targets_of.ensures c.known_edges.ensures.err
