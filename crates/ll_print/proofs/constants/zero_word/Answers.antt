-- The word of zero goes by what kind of type it is of.
use Rattle.std.proofs.Common.{true, false, ap, sym, ◌∙◌}
use Rattle.kinds.specs.Fitting.{is_pointer}
use Rattle.ll_print.proofs.TextLaws.{filled_text-zero}
use Rattle.ll_print.proofs.constants.zero_word.Goals as goal

pub returns-then-is_pointer : goal.returns-then-is_pointer
returns-then-is_pointer c = filled_text-zero c.args.m.now c.args.ty c.type_kind.result.now true c.requires.sound c.type_kind.ensures.kind (sym c.if-is_pointer.true ∙ c.is_pointer.ensures ∙ ap is_pointer c.shape_of.ensures)

pub returns-else-is_pointer : goal.returns-else-is_pointer
returns-else-is_pointer c = filled_text-zero c.args.m.now c.args.ty c.type_kind.result.now false c.requires.sound c.type_kind.ensures.kind (sym c.if-is_pointer.false ∙ c.is_pointer.ensures ∙ ap is_pointer c.shape_of.ensures)
