-- What `constants::is_placeholder` owes besides what the check finds.
use Rattle.std.proofs.Common.{ap, ◌∙◌, Some}
use Rattle.llvm_core.specs.Data.{trees_of, type_at}
use Rattle.llvm_core.proofs.DataLemmas.{placeholder_const_of}
use Rattle.from_consts.proofs.constants.is_placeholder.Goals as goal

pub returns-in-Placeholder-clause-yes : goal.returns-in-Placeholder-clause-yes
returns-in-Placeholder-clause-yes c =
    let m = c.args.«module».now in
    let number = c.in-Placeholder.field-0 in
    let t = c.in-Placeholder.field-1 in
    λ yes. (number, type_at (trees_of m).types t, placeholder_const_of m c.args.c number t (c.const_kind.ensures.kind ∙ ap Some c.in-Placeholder.is))
