-- What `code_store::CodeStore::set_operand` owes at its end.
use Rattle.std.proofs.lemmas.Option.{slice_get_within}
use Rattle.llvm_core.specs.contracts.code_store.CodeStore.{the_view}
use Rattle.llvm_core.proofs.StoreLemmas.{inst_changed}
use Rattle.llvm_core.proofs.code_store.CodeStore.set_operand.Goals as goal

pub returns : goal.returns
returns c =
    let there = rw (← c.self.view_is) at c.requires in
    rw (← c.self.view_is)
    (inst_changed (the_view c.self.inside) c.args.i _ c.index_mut.result.now _ (slice_get_within _ _ _ there.1) c.index_mut.ensures.value c.put_operand.ensures)
