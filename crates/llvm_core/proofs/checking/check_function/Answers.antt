-- What `checking::check_function` owes: a rule that fails is an answer, and at its end all rules of a function hold.
use Rattle.std.proofs.lemmas.Result.{on_ok_weaker, IfErr-weaker}
use Rattle.llvm_core.proofs.CheckLemmas.{may_answer}
use Rattle.llvm_core.proofs.checking.check_function.Goals as goal

pub returns-clause-ok : goal.returns-clause-ok
returns-clause-ok c = on_ok_weaker c.check_function_lists.result
    (λ lists. record {
      locals = c.in_ok-check_local_names.ensures.ok;
      types = c.in_ok-check_signature.ensures.ok;
      bodies = c.in_ok-check_intrinsic.ensures.ok;
      spaces = c.in_ok-check_space.ensures.ok;
      lists = lists;
    }) c.check_function_lists.ensures.ok

pub returns-clause-err : goal.returns-clause-err
returns-clause-err c = IfErr-weaker c.check_function_lists.result _ _ (may_answer c.args.m.now) c.check_function_lists.ensures.err
