-- Kinds that are equal by `==` are one.
use Rattle.std.proofs.Common.{◌∙◌, ap, sym, Some}
use Rattle.llvm_core.proofs.KeyLemmas.{same_kind}
use Rattle.to_llvm_ir.proofs.guesses.is_type.Goals as goal

pub returns-then-ty-types-clause-yes : goal.returns-then-ty-types-clause-yes
returns-then-ty-types-clause-yes c = λ yes. c.type_kind.ensures.kind ∙ ap Some (same_kind c.type_kind.result.now c.args.kind.now (sym c.eq.ensures ∙ yes))
