-- The text is that of tokens that are well spaced.
use Rattle.std.proofs.Common.{◌≡◌, Some, sym, ◌∙◌}
use Rattle.std.proofs.lemmas.Option.{none-some, same_Some}
use Rattle.std.proofs.lemmas.Result.{IfOk-weaker}
use Rattle.ll_tokens.specs.Tokens.{tokens_of}
use Rattle.ll_spacing.specs.Spacing.{placed}
use Rattle.ll_spacing.proofs.CutLaws.{cut_whole}
use Rattle.ll_spacing.proofs.tests.read_again.Goals as goal

pub returns-clause-found : goal.returns-clause-found
returns-clause-found c =
    let whole : tokens_of c.text.result.now ≡ Some (placed 0 c.args.w.now) = cut_whole _ _ c.text.ensures.text c.text.ensures.spaced in
    IfOk-weaker c.tokens.result (λ v. tokens_of c.text.result.now ≡ Some v.items) (λ v. v.items ≡ placed 0 c.args.w.now) (λ v e. same_Some v.items (placed 0 c.args.w.now) (sym e ∙ whole)) c.tokens.ensures.found

pub returns-clause-good : goal.returns-clause-good
returns-clause-good c place e = none-some _ (sym (c.tokens.ensures.bad place e).0 ∙ cut_whole _ _ c.text.ensures.text c.text.ensures.spaced)
