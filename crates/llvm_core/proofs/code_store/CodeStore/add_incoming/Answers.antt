-- What `code_store::CodeStore::add_incoming` owes at its end.
use Rattle.std.proofs.lemmas.Option.{slice_get_within}
use Rattle.std.proofs.lemmas.Result.{on_ok_weaker, on_err_weaker}
use Rattle.llvm_core.specs.contracts.code_store.CodeStore.{the_view}
use Rattle.llvm_core.proofs.StoreLemmas.{inst_changed, inst_unchanged}
use Rattle.llvm_core.proofs.code_store.CodeStore.add_incoming.Goals as goal

pub returns-clause-ok : goal.returns-clause-ok
returns-clause-ok c =
    let there = rw (← c.self.view_is) at c.requires in
    rw (← c.self.view_is)
    (on_ok_weaker c.push_entry.result (inst_changed (the_view c.self.inside) c.args.phi _ c.index_mut.result.now _ (slice_get_within _ _ _ there.1) c.index_mut.ensures.value) c.push_entry.ensures.ok)

pub returns-clause-err : goal.returns-clause-err
returns-clause-err c =
    rw (← c.self.view_is)
    (on_err_weaker c.push_entry.result (inst_unchanged (the_view c.self.inside) c.args.phi c.index_mut.result.now _ c.index_mut.ensures.value) c.push_entry.ensures.err)
