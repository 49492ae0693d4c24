use Rattle.std.proofs.Common.{◌≡◌, ◌++◌, [], ap, sym, ◌∙◌}
use Rattle.std.proofs.lemmas.List.{append-nil}
use Rattle.ll_literals.specs.Escapes.{unescaped}
use Rattle.ll_literals.proofs.EscapeLaws.{says_nothing}
use Rattle.ll_literals.proofs.escapes.unescape.Goals as goal

pub returns : goal.returns
returns c =
    let none : c.loop-b.left.now ≡ [] = c.in_default.ensures.none in
    sym (append-nil c.loop-b.out.items) ∙ ap (λ x. c.loop-b.out.items ++ x) (sym says_nothing ∙ ap unescaped (sym none)) ∙ c.loop-b.invariant
