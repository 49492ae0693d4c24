-- The goals of `checking::check` that the tactics leave.
use Rattle.llvm_core.proofs.CheckLemmas.{all_checked}
use Rattle.llvm_core.proofs.checking.check.Goals as goal

pub returns-clause-ok : goal.returns-clause-ok
returns-clause-ok c =
    all_checked c.args.m.now c.in_ok-check_count.ensures.ok c.in_ok-structs.ensures.ok c.in_ok-check_function_names.ensures.ok c.in_ok-check_functions.ensures.ok c.in_ok-check_blocks.ensures.ok c.in_ok-check_insts.ensures.ok c.in_ok-check_depths.ensures.ok c.in_ok-check_edges.ensures.ok
