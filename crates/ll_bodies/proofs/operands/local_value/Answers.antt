-- What `operands::local_value` owes besides what the check finds.
use Rattle.std.proofs.Common.{subst, Option}
use Rattle.std.specs.Prelude.{IfSome}
use Rattle.ll_bodies.specs.declared.scope.Local.{Local}
use Rattle.ll_bodies.specs.SourceViews.{IsLocalIn}
use Rattle.ll_bodies.proofs.operands.local_value.Goals as goal

pub returns-in-Some : goal.returns-in-Some
returns-in-Some c = λ m sound h there.
    let one = subst (λ (o : Option Local). IfSome o (IsLocalIn m)) c.in-Some.is h in
    rw c.in-Some.is (c.value_of.ensures m sound one there)
