-- What `code_store::CodeStore::append_block` owes: the code with the block, or as it was where a list could not grow.
use Rattle.std.proofs.lemmas.Result.{err_from_is_err_and}
use Rattle.llvm_core.specs.contracts.code_store.CodeStore.{the_view}
use Rattle.llvm_core.proofs.StoreLemmas.{block_appended, block_refused}
use Rattle.llvm_core.proofs.code_store.CodeStore.append_block.Goals as goal

pub returns-in_err-append_both-clause-err : goal.returns-in_err-append_both-clause-err
returns-in_err-append_both-clause-err c =
    let p = err_from_is_err_and c.from_residual-in_err-append_both.result c.from_residual-in_err-append_both.ensures.1 in
    rw (p.1, ← c.self.view_is)
    (block_refused (the_view c.self.inside) c.args.f c.index_mut-function.result.now _ _ c.index_mut-function.ensures.value c.in_err-append_both.ensures.items_err c.in_err-append_both.ensures.numbers_err)

pub returns-clause-ok : goal.returns-clause-ok
returns-clause-ok c =
    let there = rw (← c.self.view_is) at c.requires in
    let pushed = c.in_ok-append_both.ensures in
    rw (← c.self.view_is)
    (block_appended (the_view c.self.inside) c.args.f _ c.index_mut-function.result.now _ _ _ _ _ there c.index_mut-function.ensures.value c.in_ok-name.ensures c.zero-insts.ensures pushed.items pushed.numbers)
