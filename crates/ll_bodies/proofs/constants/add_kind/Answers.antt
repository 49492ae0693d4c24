-- What `constants::add_kind` owes besides what the check finds.
use Rattle.std.proofs.Common.{Option, Some, sym, subst}
use Rattle.std.proofs.lemmas.Result.{IfOk-weaker}
use Rattle.llvm_core.specs.declared.consts.LLVMConstKind.{LLVMConstKind}
use Rattle.ll_bodies.specs.TableViews.{MeansKind}
use Rattle.ll_bodies.proofs.AddedLaws.{adds_none}
use Rattle.ll_bodies.proofs.constants.add_kind.Goals as goal

pub returns-in-Some-clause-is : goal.returns-in-Some-clause-is
returns-in-Some-clause-is c = IfOk-weaker c.add_held.result _ _ (λ d h meant means. h meant (subst (λ (o : Option LLVMConstKind). MeansKind c.args.module.now meant o) c.in-Some.is means)) c.add_held.ensures.is

pub returns-in-None-clause-adds : goal.returns-in-None-clause-adds
returns-in-None-clause-adds c = adds_none c.args.module.now

pub returns-in-None-clause-is : goal.returns-in-None-clause-is
returns-in-None-clause-is c = λ meant means. sym (subst (λ (o : Option LLVMConstKind). MeansKind c.args.module.now meant o) c.in-None.is means)
