-- What `well_formed::head_fits` owes besides what the check finds.
use Rattle.std.proofs.Common.{ap, sym, ◌∙◌}
use Rattle.kinds.specs.Names.{is_own_name}
use Rattle.dialect_core.proofs.ModulePrintLemmas.{symbol_typed}
use Rattle.dialect_core.proofs.TestLemmas.{empty_is, never, no_true}
use Rattle.dialect_core.proofs.FuncTestLemmas.{func_llvm_name, func_name, head_is}
use Rattle.dialect_core.proofs.well_formed.head_fits.Goals as goal

pub returns-then-is_empty : goal.returns-then-is_empty
returns-then-is_empty c = never (λ h. h.named (func_name c.args.ctx.now c.args.func ∙ sym c.name_of.ensures ∙ (empty_is c.name_of.result.now c.is_empty.result c.is_empty.ensures).0 c.if-is_empty.true))

pub returns-then-not-linkage_fits : goal.returns-then-not-linkage_fits
returns-then-not-linkage_fits c = never (λ h. no_true (sym c.if-not-linkage_fits.true ∙ c.linkage_fits.ensures ∙ h.linkage))

pub returns-then-not-is_own_name : goal.returns-then-not-is_own_name
returns-then-not-is_own_name c = never (λ h. no_true (sym c.if-not-is_own_name.true ∙ c.is_own_name.ensures ∙ ap is_own_name (c.llvm_name_of.ensures ∙ sym (func_llvm_name c.args.ctx.now c.args.func)) ∙ h.llvm_named))

pub is_signature-requires : goal.is_signature-requires
is_signature-requires c = rw c.types.ensures (symbol_typed c.args.ctx.now c.args.func c.symbol_type.result c.requires.typed c.symbol_type.ensures)

pub returns : goal.returns
returns c = head_is c.args.ctx.now c.args.func c.symbol_type.result c.is_signature.result c.symbol_type.ensures
    (λ e. no_true (sym c.if-is_empty.false ∙ (empty_is c.name_of.result.now c.is_empty.result c.is_empty.ensures).1 (c.name_of.ensures ∙ e)))
    (ap is_own_name (func_llvm_name c.args.ctx.now c.args.func ∙ sym c.llvm_name_of.ensures) ∙ sym c.is_own_name.ensures ∙ c.if-not-is_own_name.false)
    (sym c.linkage_fits.ensures ∙ c.if-not-linkage_fits.false) (rw c.types.ensures at c.is_signature.ensures)
