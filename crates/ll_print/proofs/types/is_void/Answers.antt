-- A type is void where the shape of its kind says so.
use Rattle.std.proofs.Common.{◌∙◌, ap}
use Rattle.kinds.specs.Fitting.{is_nothing}
use Rattle.ll_print.proofs.PartLaws.{void_by_kind}
use Rattle.ll_print.proofs.types.is_void.Goals as goal

pub returns : goal.returns
returns c = c.is_nothing.ensures ∙ ap is_nothing c.shape_of.ensures ∙ void_by_kind c.args.m.now c.args.ty c.type_kind.result.now c.requires.sound c.type_kind.ensures.kind
