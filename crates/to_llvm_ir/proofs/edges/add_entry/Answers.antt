-- The phi of the argument is there, and has the entry last.
use Rattle.std.proofs.Common.{◌≡◌, ◌∙◌, Some, sym, ap, subst}
use Rattle.std.proofs.lemmas.Option.{same_Some, none-some}
use Rattle.support.proofs.ResultLaws.{both}
use Rattle.llvm_core.specs.declared.code.LLVMValue.{LLVMValue}
use Rattle.llvm_core.specs.declared.code.LLVMValue.TheVariants as V
use Rattle.llvm_core.specs.declared.numbers.LLVMInstRef.{LLVMInstRef}
use Rattle.llvm_core.specs.Parts.{IsPhi, IsValue}
use Rattle.to_llvm_ir.proofs.OpLaws.{typed_there}
use Rattle.to_llvm_ir.proofs.EntryLaws.{argument_phi, value_known, entry_done}
use Rattle.to_llvm_ir.proofs.edges.add_entry.Goals as goal

pub unreachable-requires : goal.unreachable-requires
unreachable-requires c =
    let r = c.requires in
    let p = argument_phi r.0 c.args.argument c.args.value c.args.from r.1 c.args.values.now c.args.back.now r.2 in
    none-some _ (sym c.in-None.is ∙ c.get.ensures ∙ p.found)

pub unreachable-requires-in-None-get : goal.unreachable-requires-in-None-get
unreachable-requires-in-None-get c =
    let r = c.requires in
    let k = value_known r.0 c.args.value r.1 c.args.values.now c.args.back.now r.2.form r.2.state r.2.passes in
    none-some k.value (sym c.in-None-get.is ∙ c.get-2.ensures ∙ k.found)

pub unreachable-requires-in_default : goal.unreachable-requires-in_default
unreachable-requires-in_default c =
    let r = c.requires in
    let p = argument_phi r.0 c.args.argument c.args.value c.args.from r.1 c.args.values.now c.args.back.now r.2 in
    c.in_default.not-Inst p.phi (same_Some _ _ (sym c.in-Some.is ∙ c.get.ensures ∙ p.found))

pub add_incoming-requires-clause-phi : goal.add_incoming-requires-clause-phi
add_incoming-requires-clause-phi c =
    let r = c.requires in
    let p = argument_phi r.0 c.args.argument c.args.value c.args.from r.1 c.args.values.now c.args.back.now r.2 in
    let e : V.Inst p.phi ≡ V.Inst c.in-Inst.phi = same_Some _ _ (sym p.found ∙ sym c.get.ensures ∙ c.in-Some.is ∙ ap Some c.in-Inst.is) in
    let same : p.phi ≡ c.in-Inst.phi = cc in
    subst (λ (i : LLVMInstRef). IsPhi c.args.back.now.insts i) same p.is_phi

pub add_incoming-requires-clause-value : goal.add_incoming-requires-clause-value
add_incoming-requires-clause-value c =
    let r = c.requires in
    let k = value_known r.0 c.args.value r.1 c.args.values.now c.args.back.now r.2.form r.2.state r.2.passes in
    let same : k.value ≡ c.in-Some-get.stands = same_Some _ _ (sym k.found ∙ sym c.get-2.ensures ∙ c.in-Some-get.is) in
    subst (λ (x : LLVMValue). IsValue c.args.back.now x) same (typed_there c.args.back.now k.value _ r.2.state.sound k.typed)

pub returns : goal.returns
returns c = λ t given h.
    let done = c.add_incoming.ensures in
    both c.add_incoming.result done.ok done.data (λ _ linked same.
    entry_done t c.args.argument c.args.value c.args.from given c.args.values.now c.args.back.now c.add_incoming.new.self c.in-Inst.phi c.in-Some-get.stands h
    (sym c.get.ensures ∙ c.in-Some.is ∙ ap Some c.in-Inst.is) (sym c.get-2.ensures ∙ c.in-Some-get.is) linked same done.sound)
