-- What `depths::is_deep_struct` owes besides what the check finds.
use Rattle.std.proofs.Common.{◌-◌, ℕ, subst, arith}
use Rattle.llvm_core.specs.Depths.{IsLeastWithin, fields_nest_at}
use Rattle.llvm_core.proofs.NoteLemmas.{grown_notes, none_open}
use Rattle.llvm_core.proofs.DepthLemmas.{few_allowed, some_allowed, struct_deep_unless, struct_told}
use Rattle.llvm_core.proofs.depths.is_deep_struct.Goals as goal

pub overflow_sub-deepest : goal.overflow_sub-deepest
overflow_sub-deepest c = let some = some_allowed in omega (arith, c.deepest.ensures, some)

pub visit_fields-requires-clause-fuel : goal.visit_fields-requires-clause-fuel
visit_fields-requires-clause-fuel c = let few = few_allowed in omega (arith, c.deepest.ensures, few)

pub visit_fields-requires-clause-notes : goal.visit_fields-requires-clause-notes
visit_fields-requires-clause-notes c = let m = c.args.m.now in none_open m (fields_nest_at m c.struct_name.result.now) c.args.notes.now c.requires.notes

pub returns-clause-deep : goal.returns-clause-deep
returns-clause-deep c =
    let m = c.args.m.now in
    let name = c.struct_name.result.now in
    let within = subst (λ (n : ℕ). IsLeastWithin (fields_nest_at m name) (n - 1) c.visit_fields.result) c.deepest.ensures c.visit_fields.ensures.depth in
    struct_told m c.args.s.0 name c.is_none.result c.struct_name.ensures (struct_deep_unless m name c.visit_fields.result c.is_none.result c.is_none.ensures within)

pub returns-clause-notes : goal.returns-clause-notes
returns-clause-notes c = grown_notes c.args.m.now c.args.notes.now c.visit_fields.new.notes c.requires.notes c.visit_fields.ensures.notes
