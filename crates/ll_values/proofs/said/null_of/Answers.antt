-- null is said of a pointer alone.
use Rattle.std.proofs.Common.{ap, sym, ◌∙◌}
use Rattle.kinds.specs.Fitting.{is_pointer}
use Rattle.ll_values.proofs.SaidLaws.{null_of-pointer, null_of-other}
use Rattle.ll_values.proofs.said.null_of.Goals as goal

pub returns-then-is_pointer-clause-said : goal.returns-then-is_pointer-clause-said
returns-then-is_pointer-clause-said c = null_of-pointer c.args.m.now c.args.ty c.type_kind.result.now c.requires.sound c.type_kind.ensures.kind (ap is_pointer (sym c.shape_of.ensures) ∙ sym c.is_pointer.ensures ∙ c.if-is_pointer.true)

pub returns-else-is_pointer-clause-none : goal.returns-else-is_pointer-clause-none
returns-else-is_pointer-clause-none c = λ e. null_of-other c.args.m.now c.args.ty c.type_kind.result.now c.requires.sound c.type_kind.ensures.kind (ap is_pointer (sym c.shape_of.ensures) ∙ sym c.is_pointer.ensures ∙ c.if-is_pointer.false)
