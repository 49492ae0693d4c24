-- What `narrow::is_narrow_head` owes besides what the check finds.
use Rattle.std.proofs.Common.{ap, sym, ◌∙◌}
use Rattle.kinds.specs.Names.{is_good_name}
use Rattle.dialect_core.proofs.ModulePrintLemmas.{symbol_typed}
use Rattle.dialect_core.proofs.TestLemmas.{never, no_true}
use Rattle.dialect_core.proofs.FuncTestLemmas.{func_linkage, func_llvm_name}
use Rattle.to_llvm_ir.proofs.NarrowLaws.{head_is}
use Rattle.to_llvm_ir.proofs.narrow.is_narrow_head.Goals as goal

pub returns-then-not-is_good_name : goal.returns-then-not-is_good_name
returns-then-not-is_good_name c =
    never (λ h. no_true (sym c.if-not-is_good_name.true ∙ c.is_good_name.ensures ∙ ap is_good_name (c.llvm_name_of.ensures ∙ sym (func_llvm_name c.args.ctx.now c.args.func)) ∙ h.good))

pub returns-then-not-is_external : goal.returns-then-not-is_external
returns-then-not-is_external c =
    never (λ h. no_true (sym c.if-not-is_external.true ∙ c.is_external.ensures.1 (sym (func_linkage c.args.ctx.now c.args.func c.symbol_linkage.result c.symbol_linkage.ensures) ∙ h.linkage)))

pub is_held_signature-requires : goal.is_held_signature-requires
is_held_signature-requires c = rw c.types.ensures (symbol_typed c.args.ctx.now c.args.func c.symbol_type.result c.requires.typed c.symbol_type.ensures)

pub returns : goal.returns
returns c =
    head_is c.args.ctx.now c.args.func c.symbol_linkage.result c.symbol_type.result c.is_held_signature.result (ap is_good_name (func_llvm_name c.args.ctx.now c.args.func ∙ sym c.llvm_name_of.ensures) ∙ sym c.is_good_name.ensures ∙ c.if-not-is_good_name.false) c.symbol_linkage.ensures (c.is_external.ensures.0 c.if-not-is_external.false) c.symbol_type.ensures
    (rw c.types.ensures at c.is_held_signature.ensures)
