-- What `constants::are_of_kind` owes besides what the check finds.
use Rattle.llvm_core.specs.Data.{structs_of}
use Rattle.ll_bodies.proofs.constants.are_of_kind.Goals as goal

pub returns-in-Vector : goal.returns-in-Vector
returns-in-Vector c = λ types. rw c.in-Vector.is (c.are_of_fixed.ensures (structs_of c.args.module.now) _ _)
