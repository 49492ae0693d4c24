-- That the parameter of `code_store::CodeStore::set_param_name` is there, and what stands at its end.
use Rattle.std.proofs.Common.{arith}
use Rattle.llvm_core.specs.contracts.code_store.CodeStore.{the_view}
use Rattle.llvm_core.proofs.StoreLemmas.{param_within, param_listed, param_renamed}
use Rattle.llvm_core.proofs.code_store.CodeStore.set_param_name.Goals as goal

pub index_mut-requires : goal.index_mut-requires
index_mut-requires c =
    let there = rw (← c.self.view_is) at c.requires in
    omega (arith, param_within (the_view c.self.inside) c.args.f c.args.place there, c.self.inside.functions.ok.0)

pub set-requires : goal.set-requires
set-requires c =
    let there = rw (← c.self.view_is) at c.requires in
    param_listed (the_view c.self.inside) c.args.f c.index_mut.result.now c.args.place there c.index_mut.ensures.value

pub returns-clause-ok : goal.returns-clause-ok
returns-clause-ok c =
    let there = rw (← c.self.view_is) at c.requires in
    rw (← c.self.view_is)
    (param_renamed (the_view c.self.inside) c.args.f c.index_mut.result.now c.args.place _ _ _ (param_within (the_view c.self.inside) c.args.f c.args.place there) c.index_mut.ensures.value c.in_ok-name.ensures c.set.ensures)
