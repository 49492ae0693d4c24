-- What `llvm_constants::int_width` owes besides what the check finds.
use Rattle.std.proofs.Common.{Some, ap, ◌∙◌}
use Rattle.llvm_core.proofs.DataLemmas.{int_tree_of}
use Rattle.tracing.proofs.llvm_constants.int_width.Goals as goal

pub returns : goal.returns
returns c = int_tree_of c.args.m.now c.args.ty c.in-Int.width c.requires.sound (c.type_kind.ensures.kind ∙ ap Some c.in-Int.is)
