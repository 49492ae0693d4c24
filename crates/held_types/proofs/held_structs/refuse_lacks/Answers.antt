-- What `held_structs::refuse_lacks` owes besides what the check finds.
use Rattle.std.proofs.Common.{subst}
use Rattle.llvm_core.specs.Data.{data_of}
use Rattle.held_types.specs.declared.lacks.Lack.{Lack}
use Rattle.held_types.specs.Held.{UsesConst}
use Rattle.held_types.specs.Lacks.{IsLacked}
use Rattle.held_types.proofs.LackLaws.{lack_used, none_lacks}
use Rattle.held_types.proofs.held_structs.refuse_lacks.Goals as goal

pub returns-in-Some-TooWide-clause-cause : goal.returns-in-Some-TooWide-clause-cause
returns-in-Some-TooWide-clause-cause c =
    let used = rw c.in-Some-TooWide.is at c.in_ok-width.ensures.some in
    subst (λ (l : Lack). UsesConst (data_of c.args.source.now) (IsLacked l)) c.in-Some-TooWide.field-0-is (lack_used c.args.source.now c.requires.sound c.in-Some-TooWide.field-0 used.0 used.1)

pub returns-in-Some-ScalableSplat-clause-cause : goal.returns-in-Some-ScalableSplat-clause-cause
returns-in-Some-ScalableSplat-clause-cause c =
    let used = rw c.in-Some-ScalableSplat.is at c.in_ok-width.ensures.some in
    subst (λ (l : Lack). UsesConst (data_of c.args.source.now) (IsLacked l)) c.in-Some-ScalableSplat.field-0-is (lack_used c.args.source.now c.requires.sound c.in-Some-ScalableSplat.field-0 used.0 used.1)

pub returns-in-None-clause-held : goal.returns-in-None-clause-held
returns-in-None-clause-held c = none_lacks c.args.source.now c.requires.sound (c.in_ok-width.ensures.none c.in-None.is)
